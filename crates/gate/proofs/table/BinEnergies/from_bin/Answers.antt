-- `BinEnergies::from_bin` meets its contract: the counters are there, or they are not. Assumes nothing.
use Rattle.std.proofs.Common.{ℕ, List, length, drop, sym, ap, ◌∙◌, arith}
use Rattle.std.proofs.lemmas.List.{length-take, length-drop}
use Rattle.bins.specs.Bin.{bins}
use Rattle.gate.specs.Totals.{on_top_of, bins_from}
use Rattle.gate.proofs.Running.{not_there, there}
use Rattle.gate.proofs.table.BinEnergies.from_bin.Goals as goal

pub add_counters-requires : goal.add_counters-requires
add_counters-requires c =
    let a = c.args in
    (ap length c.in-Some.ensures.1 ∙ omega (arith, length-take bins (drop a.start a.counters.now), length-drop a.start a.counters.now, c.in-Some.ensures.0), c.requires)

pub returns-in-Some : goal.returns-in-Some
returns-in-Some c =
    let a = c.args in (
      c.add_counters.ensures.0
          ∙ ap (λ (l : List ℕ). bins_from (on_top_of a.sum) a.bin (drop a.bin l)) c.in-Some.ensures.1
          ∙ sym (there a.sum a.counters.now a.start a.bin c.in-Some.ensures.0),
      c.add_counters.ensures.1,
    )

pub returns-in-None : goal.returns-in-None
returns-in-None c = let a = c.args in (sym (not_there a.sum a.counters.now a.start a.bin c.in-None.ensures), omega arith)
