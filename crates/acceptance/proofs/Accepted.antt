-- All that the buyer asks for, proved: each part by the theorem of its crate. Assumes nothing.
use Rattle.acceptance_refusals.proofs.Table.{demand_1}
use Rattle.acceptance_signals.proofs.Signals.{signal_calls}
use Rattle.acceptance_records.proofs.Records.{record_calls}
use Rattle.acceptance_records.proofs.Conversion.{conversion_keeps, four_kinds}
use Rattle.acceptance_records.proofs.Report.{report_refused, report_tells}
use Rattle.acceptance_interface.proofs.Interface.{interface}
use Rattle.acceptance_scale.proofs.Scale.{on_scale}
use Rattle.acceptance_scale.proofs.Readings.{reading_is_nearest}
use Rattle.acceptance_meaning.proofs.Gate.{gate_is_bs1770's}
use Rattle.acceptance_meaning.proofs.Range.{range_is_tech3342's}
use Rattle.acceptance_meaning.proofs.Ranks.{ranks_are_the_rust's}
use Rattle.acceptance_dealing.proofs.Dealing.{demand_3}
use Rattle.acceptance_outcomes.proofs.Fixed.{each_fixed}
use Rattle.acceptance_worked.proofs.Worked.{worked}
use Rattle.acceptance_worked.proofs.Literals.{literals}
use Rattle.acceptance.specs.Accepted.{Accepted}

pub accepted : Accepted
accepted = record {
  refusals = demand_1;
  signals = signal_calls;
  records = record_calls;
  report = report_refused;
  interface = interface;
  scale = on_scale;
  gate = gate_is_bs1770's;
  range = range_is_tech3342's;
  ranks = ranks_are_the_rust's;
  dealing = demand_3;
  reported = report_tells;
  reading = reading_is_nearest;
  conversion = conversion_keeps;
  kinds = four_kinds;
  fixed = each_fixed;
  worked = worked;
  written = literals;
}
