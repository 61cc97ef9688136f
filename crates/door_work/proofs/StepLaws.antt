-- One step, by what the machine wanted.
use Rattle.std.proofs.Common.{◌≡◌, ℕ, List, Option, Result, Ok, Err, inl, refl, sym, ap, ◌∙◌, subst}
use Rattle.express_words.specs.Calls.{Call}
use Rattle.express_words.specs.Seen.{Seen}
use Rattle.express_words.specs.declared.role.Role.{Role}
use Rattle.http_door.specs.Requests.{PlainRequest}
use Rattle.door_exchange.specs.Exchanging.{ExchangeOn}
use Rattle.kept_machine.specs.declared.fault.KeepFault.{KeepFault}
use Rattle.kept_machine.specs.Keeps.{Keeps, sight}
use Rattle.kept_machine.specs.Kept.{KeptState}
use Rattle.kept_machine.specs.Machines.{Rules}
use Rattle.node_journal.specs.Disk.{DiskSeen}
use Rattle.door_work.specs.Asking.{Asking, Note, Ask}
use Rattle.door_work.specs.Steps.{AskedOn, DoneOn, KeepsBy, Noted, Asked, Step, Stepped, kept_so, place_of, record_by, wanted}
use Rattle.door_work.specs.declared.halt.Halt.{Halt}
use Rattle.door_work.specs.declared.places.Places.{Places}

kept_at : {M D : Type 0} (rules : Rules M) (asking : Asking M) (places : Places) (shows : D → DiskSeen)
    (counts : D → Seen) (old new : KeptState M D) (step : Step) (bytes : List ℕ)
    (kept : Result (Unit {0}) KeepFault) (a b : Option (List Call))
    → asking.next_of old.machine ≡ wanted step → DoneOn places step a b
    → record_by asking old.machine step ≡ Ok bytes
    → Keeps rules bytes (sight shows counts old) (sight shows counts new) kept
    → Stepped rules asking places shows counts old new (kept_so kept) a b
kept_at rules asking places shows counts old new step bytes kept a b is done came keeps = inl (record {
  step = step;
  is_step = is;
  calls = done;
  keeps = subst (λ (r : Result (List ℕ) Halt). KeepsBy rules shows counts r old new (kept_so kept)) (sym came)
      (record { kept = kept; keeps = keeps; told = refl });
})

-- a record of the machine's own was noted
pub kept_note : {M D : Type 0} (rules : Rules M) (asking : Asking M) (places : Places) (shows : D → DiskSeen)
    (counts : D → Seen) (old new : KeptState M D) (noted bytes : List ℕ)
    (kept : Result (Unit {0}) KeepFault) (a b : Option (List Call))
    → Note noted ≡ asking.next_of old.machine → noted ≡ bytes → b ≡ a
    → Keeps rules bytes (sight shows counts old) (sight shows counts new) kept
    → Stepped rules asking places shows counts old new (kept_so kept) a b
kept_note rules asking places shows counts old new noted bytes kept a b is same still keeps =
    kept_at rules asking places shows counts old new (Noted noted) bytes kept a b (sym is) still (ap Ok same) keeps

-- an answer was heard
pub kept_answer : {M D : Type 0} (rules : Rules M) (asking : Asking M) (places : Places)
    (shows : D → DiskSeen) (counts : D → Seen) (old new : KeptState M D) (to : Role) (request : PlainRequest)
    (heard bytes : List ℕ) (kept : Result (Unit {0}) KeepFault) (a b d : Option (List Call))
    → Ask to request ≡ asking.next_of old.machine
    → AskedOn asking places old.machine to request (Ok heard) a d → heard ≡ bytes → b ≡ d
    → Keeps rules bytes (sight shows counts old) (sight shows counts new) kept
    → Stepped rules asking places shows counts old new (kept_so kept) a b
kept_answer rules asking places shows counts old new to request heard bytes kept a b d is asked same still keeps =
    kept_at rules asking places shows counts old new (Asked to asked.exchange) bytes kept a b
    (sym is ∙ ap (Ask to) (sym asked.asked))
    (subst (λ (x : Option (List Call)). ExchangeOn (place_of places to) asked.exchange a x) (sym still) asked.calls)
    (sym asked.came ∙ ap Ok same) keeps

-- no answer brings the machine on
pub halted_at : {M D : Type 0} (rules : Rules M) (asking : Asking M) (places : Places) (shows : D → DiskSeen)
    (counts : D → Seen) (old : KeptState M D) (to : Role) (request : PlainRequest) (why : Halt)
    (a b : Option (List Call))
    → Ask to request ≡ asking.next_of old.machine
    → AskedOn asking places old.machine to request (Err why) a b
    → Stepped rules asking places shows counts old old (Err why) a b
halted_at rules asking places shows counts old to request why a b is asked = inl (record {
  step = Asked to asked.exchange;
  is_step = sym is ∙ ap (Ask to) (sym asked.asked);
  calls = asked.calls;
  keeps = subst (λ (r : Result (List ℕ) Halt). KeepsBy rules shows counts r old old (Err why)) asked.came
      (refl, refl);
})
