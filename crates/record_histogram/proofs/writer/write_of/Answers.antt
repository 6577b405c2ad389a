-- `writer::write_of` meets its contract: a head and then the counters' bytes, in an output with room for both. Assumes nothing.
use mathlib.Core.Path.{refl, sym, ap, ◌∙◌}
use mathlib.Core.List.{List}
use Prim.Native.Nat.{ℕ}
use native.Mathlib.Omega.{arith}
use borrow.Author.Tests.{eq-eqb, ne_eqb, lt-ltb, le-ltb}
use lib.ListN.{length}
use lib.Seq.{sets}
use Rattle.base_refusals.specs.Outcome.{says}
use Rattle.base_fields.specs.declared.Order.{Order}
use Rattle.bins.specs.Bin.{bins}
use Rattle.record_layout.specs.declared.Kind.TheVariants.{Histogram}
use Rattle.record_layout.specs.Layout.{head_width, count_width, order_of, all_bytes}
use Rattle.record_layout.proofs.Runs.{all_length}
use Rattle.record_layout.proofs.Turns.{part_put}
use Rattle.record_histogram.specs.Writing.{counters_record, write_counters}
use Rattle.record_histogram.proofs.WriterCases.{whole_length, histogram_put}
use Rattle.record_histogram.proofs.writer.write_of.Goals as goal

pub returns-then-counters-ne-BINS : goal.returns-then-counters-ne-BINS
unfolding write_counters
returns-then-counters-ne-BINS c = rw (ne_eqb (length c.args.counters.now) bins c.if-counters-ne-BINS.true) (refl, refl)

pub returns-then-out-lt-RECORD : goal.returns-then-out-lt-RECORD
unfolding write_counters
returns-then-out-lt-RECORD c =
    let a = c.args in
    let counters = a.counters.now in
    rw (
      eq-eqb (length counters) bins c.if-counters-ne-BINS.false,
      lt-ltb (length a.out.now) (length (counters_record a.model counters)) (omega (arith, whole_length a.model counters c.if-counters-ne-BINS.false, c.if-out-lt-RECORD.true)),
    )
    (refl, refl)

pub returns : goal.returns
unfolding write_counters
returns c =
    let a = c.args in
    let counters = a.counters.now in
    let out = a.out.now in
    let l = whole_length a.model counters c.if-counters-ne-BINS.false in
    rw (
      eq-eqb (length counters) bins c.if-counters-ne-BINS.false,
      le-ltb (length out) (length (counters_record a.model counters)) (omega arith),
    ) (
      ap says (sym l),
      part_put c.put_head.new.out c.write_counters.new.fields 6 4000 (omega (arith, ap length c.write_counters.ensures, all_length c.order_of.result 4 counters)) (omega arith)
          ∙ ap (sets c.put_head.new.out head_width) c.write_counters.ensures
          ∙ ap (λ (order : Order). sets c.put_head.new.out head_width (all_bytes order count_width counters)) c.order_of.ensures
          ∙ ap (λ (start : List ℕ). sets start head_width (all_bytes (order_of (Histogram a.model)) count_width counters)) c.put_head.ensures
          ∙ histogram_put a.model counters c.if-counters-ne-BINS.false out (omega arith),
    )
