-- A sample that is read through an `Interleaved` is the sample of the slice at frame · channels + channel, as a float. Assumes nothing.
use mathlib.Core.Path.{◌≡◌, sym, ap, subst, ◌∙◌}
use mathlib.Core.List.{List, map}
use mathlib.Core.Bool.{cond, ◌&&◌}
use Prim.Native.Nat.{ℕ, ◌+◌, ◌*◌, ◌/◌, ◌%◌, ◌≤◌, ◌<◌}
use native.Mathlib.Omega.{arith}
use lib.Dec.{ltb}
use lib.ListN.{length, length-map, get_or}
use lib.Ieee.{Float}
use Rattle.base_refusals.specs.Outcome.{answers}
use Rattle.samples.specs.Frames.{frames_of, most_channels}
use Rattle.interleaved_slices.specs.Places.{sample_at}
use Rattle.samples.proofs.Columns.{frames_of_lem}
use Rattle.interleaved_slices.proofs.Places.{sample_of}
use Rattle.base_refusals.proofs.Rows.{goes}
use Rattle.filter_checks.specs.Calls.{frame_rows}
use Rattle.filter_checks.proofs.Checking.{frames_pass}
use Rattle.interleaved_slices.specs.Shown.{Place, at, past_the_end, sample_in, sample_or}
use Rattle.interleaved_slices.proofs.Checking.{there}

module _ {A : Type 0} (f : A → Float) (l : List A) (channels channel frame : ℕ) (d : A) where
  -- what the definition picks
  abbrev picked : Place
  picked = cond (ltb channel channels && ltb frame (frames_of channels (length l))) (at (sample_at channels (map f l) channel frame)) past_the_end

  place : channel < channels → channels ≤ most_channels → length l % channels ≡ 0 → frame < length l / channels
      → sample_or channels (length l) channel frame (sample_at channels (map f l) channel frame) ≡ answers (at (f (get_or l (frame * channels + channel) d)))
  place h m w k =
      let p : 0 < channels = omega arith in
      goes (answers picked) (frame_rows channels (length l)) (frames_pass channels (length l) p m w)
      ∙ ap answers (there channels (frames_of channels (length l)) channel frame (at (sample_at channels (map f l) channel frame)) h (subst (λ (n : ℕ). frame < n) (sym (frames_of_lem channels (length l) p)) k))
      ∙ ap (λ (x : Float). answers (at x)) (sample_of f l channels channel frame d h k)

  pub read : channel < channels → channels ≤ most_channels → length l % channels ≡ 0 → frame < length l / channels
      → sample_in channels (map f l) channel frame ≡ answers (at (f (get_or l (frame * channels + channel) d)))
  read h m w k =
      ap (λ (n : ℕ). sample_or channels n channel frame (sample_at channels (map f l) channel frame)) (length-map l f) ∙ place h m w k
