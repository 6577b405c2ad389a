-- The text of a report (01, 'Report program'): "Prints lines `blocks` (total), `low` and `high` (bins), `range` (high - low, tenths); for Nothing, `blocks` and
-- `range none`; else `refused` and the number."
use Rattle.std.specs.Prelude.{ℕ, List, ◌++◌, codes, decimal, Result, Ok, Err}
use Rattle.base_refusals.specs.declared.Refusal.{Refusal}
use Rattle.base_refusals.specs.Refusal.{number}
use Rattle.record_summary.specs.declared.Summary.{Summary}
use Rattle.record_report.specs.declared.Report.{Report}
use Rattle.record_summary.specs.declared.Summary.TheVariants.{Ranged, Rangeless}

abbrev pub lines_by : Result Summary Refusal → List ℕ
lines_by (Ok (Ranged blocks low high range)) =
    codes "blocks " ++ (decimal blocks ++ (codes "\nlow " ++ (decimal low ++ (codes "\nhigh " ++ (decimal high ++ (codes "\nrange " ++ (decimal range ++ codes "\n")))))))
lines_by (Ok (Rangeless blocks)) = codes "blocks " ++ (decimal blocks ++ codes "\nrange none\n")
lines_by (Err refusal) = codes "refused " ++ (decimal (number refusal) ++ codes "\n")

abbrev pub lines_of : Report → List ℕ
lines_of report = lines_by report.summary
