-- `record_conversion::convert_asked` meets its contract: a kind that is known is converted, and of one that is not no bytes are a record. Assumes nothing.
use Rattle.std.proofs.Common.{refl, sym, length}
use borrow.Author.Tests.{lt-ltb, le-ltb}
use Rattle.record_layout.specs.Layout.{head_width}
use Rattle.record_conversion.specs.Conversion.{converted, converted_asked}
use Rattle.record_conversion.proofs.convert_asked.Goals as goal

pub returns-in-Some : goal.returns-in-Some
unfolding converted converted_asked
returns-in-Some c = rw (sym c.in-Some.ensures) c.convert.ensures

pub returns-in-None : goal.returns-in-None
unfolding converted_asked
returns-in-None c = rw (sym c.in-None.ensures, lt-ltb (length c.args.bytes.now) head_width c.if-bytes-lt-HEAD.true) (refl, refl)

pub returns-in-None-2 : goal.returns-in-None-2
unfolding converted_asked
returns-in-None-2 c = rw (sym c.in-None.ensures, le-ltb (length c.args.bytes.now) head_width c.if-bytes-lt-HEAD.false) (refl, refl)
