-- Whole frames: a stretch has places for some of them, and their number is the definition's. Assumes nothing.
use Rattle.std.proofs.Common.{◌≡◌, ℕ, ◌*◌, ◌/◌, ◌<◌, ◌≤◌, sym, ap, ◌∙◌, ⊎_elim, lt_irrefl, mod-lt, eq-zero-or-pos, div-add-mod', zero-mul, arith}
use Rattle.samples.specs.Frames.{frames_of}
pub use Rattle.samples.specs.Stretches.{Framed}
use Rattle.samples.proofs.Columns.{frames_of_lem}

-- a stretch that has a place for each channel has some frames
pub some_frames : (places channels : ℕ) → 0 < channels → channels ≤ places → 0 < places / channels
some_frames places channels h few =
    ⊎_elim (λ (z : places / channels ≡ 0). absurd (lt_irrefl 0 (omega (arith, div-add-mod' places channels, ap (λ (x : ℕ). x * channels) z, zero-mul channels, mod-lt places h))))
    (λ (p : 0 < places / channels). p) (eq-zero-or-pos (places / channels))

-- their number is the definition's
pub frames_are : (channels counted samples : ℕ) → 0 < channels → counted ≡ samples → counted / channels ≡ frames_of channels samples
frames_are channels counted samples some e = ap (λ (n : ℕ). n / channels) e ∙ sym (frames_of_lem channels samples some)
