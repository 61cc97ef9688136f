-- A machine that is worked off step by step.
use Rattle.std.specs.Prelude.{◌≡◌, ℕ, List, [], ◌∷◌, ◌++◌, map, Option, Result, Ok, Err, OnErr}
use Rattle.express_words.specs.Calls.{Call}
use Rattle.express_words.specs.Seen.{Seen}
use Rattle.kept_machine.specs.Kept.{Holds, KeptState}
use Rattle.kept_machine.specs.Machines.{Rules}
use Rattle.node_journal.specs.Disk.{DiskSeen}
use Rattle.door_work.specs.Asking.{Asking}
use Rattle.door_work.specs.Steps.{DoneOn, Step, Stepped, record_by, wanted}
use Rattle.door_work.specs.declared.halt.Halt.{Halt}
use Rattle.door_work.specs.declared.places.Places.{Places}
use Rattle.door_work.specs.declared.stepping.Course.{Course}
use Rattle.door_work.specs.declared.stepping.Course.TheVariants as course

-- a step, and the record of it that was kept
pub record KeptStep : Type 0 where
  pub step : Step
  pub bytes : List ℕ

-- What the one machine wanted was done, and the record that came of it makes the other machine.
pub record Goes {M : Type 0} (rules : Rules M) (asking : Asking M) (places : Places) (m then : M)
    (made : KeptStep) (before now : Option (List Call)) : Type 0 where
  pub is_step : asking.next_of m ≡ wanted made.step
  pub calls : DoneOn places made.step before now
  pub came : record_by asking m made.step ≡ Ok made.bytes
  pub steps : rules.steps made.bytes m then

-- These steps were made one after another, and nothing else was done on the net: each is what the machine
-- wanted that the records before it made.
abbrev pub GoesOn : {M : Type 0} → Rules M → Asking M → Places → M → Option (List Call) → List KeptStep
    → M → Option (List Call) → Type 0
GoesOn rules asking places m before [] now after = (now ≡ m) × (after ≡ before)
GoesOn {M} rules asking places m before (made ∷ others) now after =
    (then : M) × (next : Option (List Call)) × Goes rules asking places m then made before next
    × GoesOn rules asking places then next others now after

abbrev pub records_of : List KeptStep → List (List ℕ)
records_of made = map (λ k. k.bytes) made

abbrev pub last_step : Result (Unit {0}) Halt → Result Course Halt
last_step (Ok done) = Ok course.Rests
last_step (Err why) = Err why

-- The steps that were made, each kept on the disk before the next, and behind them one that halted, or none
-- that was left to make.
pub record WorkedOff {M D : Type 0} (rules : Rules M) (asking : Asking M) (places : Places)
    (shows : D → DiskSeen) (counts : D → Seen) (old new : KeptState M D) (result : Result (Unit {0}) Halt)
    (before now : Option (List Call)) : Type 0 where
  pub made : List KeptStep
  pub last : KeptState M D
  pub calls : Option (List Call)
  pub goes_on : GoesOn rules asking places old.machine before made last.machine calls
  pub added : (records : List (List ℕ)) → Holds records (shows old.disk).reads
      → Holds (records ++ records_of made) (shows last.disk).reads
  pub ends : Stepped rules asking places shows counts last new (last_step result) calls now
  pub again : OnErr result (asking.next_of new.machine ≡ asking.next_of last.machine)
