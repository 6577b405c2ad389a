-- `program_replay_filter::filters::float_of` is safe: only patterns with the exponent field 255 and digits are NaN's. Assumes nothing.
use mathlib.Core.Path.{◌≡◌}
use mathlib.Core.Bool.{Bool, true, false, not, ◌&&◌}
use Prim.Native.Nat.{ℕ, ◌%◌, ◌/◌}
use lib.Dec.{T, eqb}
use lib.Ieee.{nan_bits, binary32}
use borrow.Author.Tests.{ne_eqb, eq-eqb}
use Rattle.program_replay_filter.proofs.filters.float_of.Goals as goal
use Rattle.program_replay_filter.proofs.filters.float_of.Goals.{then-field-ne255-via-then-field-ne255, then-field-ne255-via-else-field-ne255+then-digits-eq0}

abbrev field : ℕ → ℕ
field pattern = pattern % 0x8000_0000 / 0x0080_0000

abbrev digits : ℕ → ℕ
digits pattern = pattern % 0x0080_0000

other_field : (pattern : ℕ) → (field pattern ≡ 255 → ⊥) → T (not (nan_bits binary32 pattern))
unfolding nan_bits
other_field pattern h = rw (ne_eqb (field pattern) 255 h) tt

and_false : (b : Bool) → T (not (b && false))
and_false true = tt
and_false false = tt

no_digits : (pattern : ℕ) → digits pattern ≡ 0 → T (not (nan_bits binary32 pattern))
unfolding nan_bits
no_digits pattern h = rw (eq-eqb (digits pattern) 0 h) (and_false (eqb (field pattern) 255))

pub float_from_bits-result : goal.float_from_bits-result
float_from_bits-result c = elim c.then-field-ne255.branch [
  | then-field-ne255-via-then-field-ne255 w ↦ other_field c.args.pattern w.if-field-ne255.true
  | then-field-ne255-via-else-field-ne255+then-digits-eq0 w ↦ no_digits c.args.pattern w.if-digits-eq0.true
]
