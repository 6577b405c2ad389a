-- `filter_sample_peak::process` meets its contract: the check's refusal is the call's, and past it the peaks are what the definitions say. Assumes nothing.
use Rattle.std.proofs.Common.{◌≡◌, ℕ, List, map, length, sym, ap, ◌∙◌}
use lib.ListN.{length-map}
use lib.Ieee.{Float}
use Rattle.base_refusals.specs.Refusal.{number}
use Rattle.base_refusals.specs.Outcome.{Outcome, said_by, kept_by, went, NoValues, done}
use Rattle.base_refusals.specs.Rows.{number_of}
use Rattle.base_refusals.proofs.Numbers.{no_number}
use Rattle.base_refusals.proofs.Rows.{stopped, goes}
use Rattle.filter_checks.specs.Calls.{frame_rows}
use Rattle.filter_checks.proofs.Checking.{frames_fine}
use Rattle.filter_sample_peak.specs.declared.Peaks.{Peaks}
use Rattle.filter_sample_peak.specs.Peak.{peaks_after, raised}
use Rattle.filter_sample_peak.proofs.Loudest.{peaks_are}
use Rattle.filter_sample_peak.proofs.process.Goals as goal

abbrev leaves : ℕ → List Float → Peaks → Outcome Peaks NoValues
leaves channels floats stored = went (record { values = peaks_after channels floats stored.values }) done

-- the rows go by the number of samples, as the floats that they become have it
counted : {A : Type 0} (f : A → Float) (samples : List A) (channels : ℕ) → number_of (frame_rows channels (length samples)) ≡ number_of (frame_rows channels (length (map f samples)))
counted f samples channels = ap (λ (n : ℕ). number_of (frame_rows channels n)) (sym (length-map samples f))

pub returns-in-Err : goal.returns-in-Err
unfolding raised
returns-in-Err g c =
    let a = c.args in
    let f = g.S.Sample.in_f64 in
    let floats = map f a.samples.now in
    let r = c.in-Err.refusal in
    let s = stopped (leaves a.channels floats a.stored) (frame_rows a.channels (length floats)) a.stored (number r) (c.in-Err.ensures ∙ counted f a.samples.now a.channels) (no_number r) in
    record { answer_value = s.says; peaks_value = s.keeps }

pub largest_all-requires : goal.largest_all-requires
largest_all-requires g c = frames_fine c.args.channels (length c.args.samples.now) (sym c.in-Ok.ensures)

pub raise_peaks-requires : goal.raise_peaks-requires
raise_peaks-requires g c = (frames_fine c.args.channels (length c.args.samples.now) (sym c.in-Ok.ensures)).few

pub returns-in-Ok : goal.returns-in-Ok
unfolding raised
returns-in-Ok g c =
    let a = c.args in
    let f = g.S.Sample.in_f64 in
    let floats = map f a.samples.now in
    let z = goes (leaves a.channels floats a.stored) (frame_rows a.channels (length floats)) (sym (c.in-Ok.ensures ∙ counted f a.samples.now a.channels)) in
    record {
      answer_value = ap said_by (sym z);
      peaks_value = ap (λ (v : List Float). record { values = v }) (c.raise_peaks.ensures ∙ peaks_are f a.samples.now a.stored.values c.largest_all.result.values a.channels (frames_fine a.channels (length a.samples.now) (sym c.in-Ok.ensures)).some c.largest_all.ensures)
          ∙ sym (ap (λ (o : Outcome Peaks NoValues). kept_by a.stored o) z);
    }
