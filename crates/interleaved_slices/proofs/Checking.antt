-- An answer that is checked first: the check's refusal, or the answer; and the place that a sample is asked for at. Assumes nothing.
use Rattle.std.proofs.Common.{◌≡◌, ℕ, ◌+◌, ◌*◌, ◌/◌, ◌≤◌, ◌<◌, ◌⊎◌, inl, inr, Bool, true, false, cond, ◌&&◌, List, map, refl, sym, ap, subst, ◌∙◌, arith, ltb, lt-ltb, le-ltb, length, get_or}
use lib.ListN.{length-map}
use lib.Ieee.{Float}
use Rattle.base_refusals.specs.declared.Refusal.{Refusal}
use Rattle.base_refusals.specs.Refusal.{number}
use Rattle.base_refusals.specs.Outcome.{answers, says, refusal, said_by}
use Rattle.base_refusals.specs.Rows.{number_of}
use Rattle.base_refusals.proofs.Numbers.{no_number}
use Rattle.base_refusals.proofs.Rows as rows
use Rattle.base_refusals.proofs.Behind.{told, passed}
use Rattle.samples.specs.Frames.{frames_of}
use Rattle.samples.proofs.Columns.{frames_of_lem}
use Rattle.filter_checks.specs.Calls.{frame_rows}
use Rattle.interleaved_slices.specs.Places.{sample_at}
use Rattle.interleaved_slices.proofs.Places.{inside, sample_of}
use Rattle.interleaved_slices.specs.Shown.{checked, Place, at, past_the_end, frames_in, sample_in}

module _ {Values : Type 0} (channels samples : ℕ) (values : Values) where
  pub goes : 0 ≡ number_of (frame_rows channels samples) → says values ≡ said_by (checked channels samples values)
  goes e = sym (ap said_by (rows.goes (answers values) (frame_rows channels samples) (sym e)))

  pub stops : (r : Refusal) → number r ≡ number_of (frame_rows channels samples) → refusal (number r) ≡ said_by (checked channels samples values)
  stops r e = (rows.stopped (answers values) (frame_rows channels samples) tt (number r) e (no_number r)).says

-- ---- the place asked for

and_false : (b : Bool) (x y : Place) → cond (b && false) x y ≡ y
and_false true x y = refl
and_false false x y = refl

module _ (channels frames channel frame : ℕ) (p : Place) where
  pub no_channel : channels ≤ channel → cond (ltb channel channels && ltb frame frames) p past_the_end ≡ past_the_end
  no_channel h = rw (le-ltb channel channels h)

  pub no_frame : frames ≤ frame → cond (ltb channel channels && ltb frame frames) p past_the_end ≡ past_the_end
  no_frame h = rw (le-ltb frame frames h) (and_false (ltb channel channels) _ _)

  pub there : channel < channels → frame < frames → cond (ltb channel channels && ltb frame frames) p past_the_end ≡ p
  there h k = rw (lt-ltb channel channels h, lt-ltb frame frames k)

-- ---- a sample, once the frames are counted

module _ {A : Type 0} (f : A → Float) (l : List A) (channels channel frame : ℕ) where
  abbrev all : ℕ
  all = length (map f l)

  counted : number_of (frame_rows channels (length l)) ≡ number_of (frame_rows channels all)
  counted = ap (λ (n : ℕ). number_of (frame_rows channels n)) (sym (length-map l f))

  abbrev picked : Place
  picked = cond (ltb channel channels && ltb frame (frames_of channels all)) (at (sample_at channels (map f l) channel frame)) past_the_end

  pub sample_stops : (r : Refusal) → refusal (number r) ≡ said_by (frames_in channels (length l)) → refusal (number r) ≡ said_by (sample_in channels (map f l) channel frame)
  sample_stops r e = stops channels all picked r ((told (frames_of channels (length l)) (frame_rows channels (length l)) (number r) e).0 ∙ counted)

  module _ (frames : ℕ) (e : says frames ≡ said_by (frames_in channels (length l))) where
    passes : (number_of (frame_rows channels (length l)) ≡ 0) × (frames ≡ frames_of channels (length l))
    passes = passed (frames_of channels (length l)) (frame_rows channels (length l)) frames e

    went : says picked ≡ said_by (sample_in channels (map f l) channel frame)
    went = goes channels all picked (sym (sym counted ∙ passes.0))

    frames_are : frames ≡ frames_of channels all
    frames_are = passes.1 ∙ ap (frames_of channels) (sym (length-map l f))

    few_frames : 0 < channels → frames ≡ length l / channels
    few_frames p = passes.1 ∙ frames_of_lem channels (length l) p

    pub place_inside : channel < channels → frame < frames → frame * channels + channel < length l
    place_inside h k = inside channels (length l) channel frame h (subst (λ (n : ℕ). frame < n) (few_frames (omega arith)) k)

    pub sample_past : channels ≤ channel ⊎ frames ≤ frame → says past_the_end ≡ said_by (sample_in channels (map f l) channel frame)
    sample_past (inl h) = ap says (sym (no_channel channels (frames_of channels all) channel frame (at (sample_at channels (map f l) channel frame)) h)) ∙ went
    sample_past (inr h) =
        ap says (sym (no_frame channels (frames_of channels all) channel frame (at (sample_at channels (map f l) channel frame)) (subst (λ (n : ℕ). n ≤ frame) frames_are h))) ∙ went

    pub sample_there : (d : A) (x : Float) → channel < channels → frame < frames → x ≡ f (get_or l (frame * channels + channel) d)
        → says (at x) ≡ said_by (sample_in channels (map f l) channel frame)
    sample_there d x h k is =
        let some : 0 < channels = omega arith in
        ap (λ (y : Float). says (at y)) (is ∙ sym (sample_of f l channels channel frame d h (subst (λ (n : ℕ). frame < n) (few_frames some) k)))
        ∙ ap says (sym (there channels (frames_of channels all) channel frame (at (sample_at channels (map f l) channel frame)) h (subst (λ (n : ℕ). frame < n) frames_are k)))
        ∙ went
