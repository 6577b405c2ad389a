-- `samples::i16_to_f32` meets its contract: f32 gives the float that f64 gives, since both hold the sample exactly. Assumes nothing.
use Rattle.std.proofs.Common.{ℤ, ap, ◌∙◌, w16, SFits}
use lib.Ieee.{binary32, of_int, of_bits}
use mir.ValLaws.{to_z-of_z}
use Rattle.samples.specs.Sample.{sample_in}
use Rattle.samples.proofs.Exact.{same_in_both, in_range}
use Rattle.samples.proofs.i16_to_f32.Goals as goal

pub returns : goal.returns
unfolding sample_in of_int of_bits
returns c =
    let s = c.args.s in
    let fits : SFits w16 s = c.ranges.s in
    ap (λ (z : ℤ). sample_in binary32 z) (to_z-of_z w16 s fits) ∙ same_in_both s (in_range s fits.sfits)
