use Rattle.std.proofs.Common.{List, ℕ, Result, Ok, Err}
use Rattle.schedule_text.specs.Grammar.{schedule_of}
use Rattle.schedule_text.specs.Reading.{Gives}
use Rattle.schedule_text.specs.Judging.{Judges}
use Rattle.schedule_text.specs.declared.schedule.Schedule.{Schedule}
use Rattle.schedule_text.specs.declared.fault.ReadFault.{ReadFault}
use Rattle.schedule_text.specs.declared.fault.ReadFault.TheVariants.{BadLine, NoMemory}
use Rattle.std.specs.Prelude.{IfOk}
use Rattle.schedule_text.specs.Rules.{KeepsRules}
use Rattle.schedule_text.proofs.RuleLaws.{keeps_rules}
use Rattle.schedule_text.proofs.ScheduleLaws.{schedule_found, bad_found}
use Rattle.schedule_text.proofs.reader.read.Goals as goal

judged : (text : List ℕ) (r : Result Schedule ReadFault) → Gives (λ s. s) r (schedule_of text) → Judges text r
judged text (Ok s) h = schedule_found text s h
judged text (Err (BadLine n)) h = bad_found text n h
judged text (Err NoMemory) h = tt

pub returns-clause-judges : goal.returns-clause-judges
returns-clause-judges c = judged _ _ c.read_text.ensures

kept : (text : List ℕ) (r : Result Schedule ReadFault) → Judges text r → IfOk r (λ s. KeepsRules s)
kept text (Ok s) h = keeps_rules s text h
kept text (Err e) h = tt

pub returns-clause-rules : goal.returns-clause-rules
returns-clause-rules c = kept _ _ (judged _ _ c.read_text.ensures)
