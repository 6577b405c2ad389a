-- All that the buyer asks for and that a theorem can answer, as one statement: the tender's three demands, what the change requests add, and 01 on the worked
-- cases and on how tight each statement is. Each part stands in the crate of its name, below the sentence that it answers. proofs/Accepted.antt proves `Accepted`.
use Rattle.acceptance_refusals.specs.Table.{Demand1}
use Rattle.acceptance_signals.specs.Signals.{SignalCalls}
use Rattle.acceptance_records.specs.Records.{RecordCalls}
use Rattle.acceptance_records.specs.Conversion.{ConversionKeeps, FourKinds}
use Rattle.acceptance_records.specs.Report.{ReportRefused, ReportTells}
use Rattle.acceptance_interface.specs.Interface.{Interface}
use Rattle.acceptance_scale.specs.Scale.{OnScale}
use Rattle.acceptance_scale.specs.Readings.{ReadingIsNearest}
use Rattle.acceptance_meaning.specs.Gate.{GateIsBs1770}
use Rattle.acceptance_meaning.specs.Range.{RangeIsTech3342}
use Rattle.acceptance_meaning.specs.Ranks.{RanksAreTheRusts}
use Rattle.acceptance_dealing.specs.Dealing.{Demand3}
use Rattle.acceptance_outcomes.specs.Fixed.{EachFixed}
use Rattle.acceptance_worked.specs.Worked.{AllRight}
use Rattle.acceptance_worked.specs.Literals.{AsWritten}

pub record Accepted : Type 0 where
  -- demand 1: refused with number n exactly when row n holds and no earlier row does, and then all is as given. Histories and questions; calls over samples; records;
  -- the report; and the C interface, which tells the same numbers
  pub refusals : Demand1
  pub signals : SignalCalls
  pub records : RecordCalls
  pub report : ReportRefused
  pub interface : Interface
  -- demand 2: the tables stand on BS.1770's scale, gate and range mean what BS.1770 and Tech 3342 say, and the ranks are the Rust's
  pub scale : OnScale
  pub gate : GateIsBs1770
  pub range : RangeIsTech3342
  pub ranks : RanksAreTheRusts
  -- demand 3: energies dealt to histograms and merged, and the report on what was merged
  pub dealing : Demand3
  pub reported : ReportTells
  -- change request 1: a reading is the nearest tenth, from -70.0 to 30.0 LUFS, and never falls where the energy rises
  pub reading : ReadingIsNearest
  -- change request 3: the conversion keeps every count and energy, and KIND knows four
  pub conversion : ConversionKeeps
  pub kinds : FourKinds
  -- two outcomes that meet a statement are the same (`signals` and `records` have their own)
  pub fixed : EachFixed
  -- the worked cases that 01 marks P, and 01's numbers
  pub worked : AllRight
  pub written : AsWritten
