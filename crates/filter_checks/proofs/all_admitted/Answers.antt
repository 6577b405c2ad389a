-- `filter_checks::all_admitted` meets its contract: each byte is admitted where `all` answers true of it. Assumes nothing.
use Rattle.std.proofs.Common.{sym, ◌∙◌, rules, tests}
use Rattle.std.proofs.lemmas.Iterator.{YieldsList-from_slice}
use Rattle.std.proofs.lemmas.Iterator.Search.{all_from_yields_List}
use Rattle.filter_checks.specs.Calls.{admits}
use Rattle.filter_checks.proofs.Checking.{all_of_each}
use Rattle.filter_checks.proofs.all_admitted.Goals as goal

pub returns : goal.returns
returns c =
    all_from_yields_List admits _ _ c.all.result c.all.ensures.ran (YieldsList-from_slice c.args.map.now cc) (λ x b q k. search (rules, tests)) ∙ sym (all_of_each c.args.map.now)
