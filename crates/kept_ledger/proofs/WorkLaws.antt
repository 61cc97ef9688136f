-- A ledger that is worked off asks what it has to ask, and notes what it hears.
use Rattle.std.proofs.Common.{◌≡◌, ℕ, Bool, true, false, List, [], ◌∷◌, ◌++◌, map, Option, Some, None}
use Rattle.std.proofs.Common.{Result, Ok, Err, refl, sym, ap, ◌∙◌, inl, inr, length}
use Rattle.std.specs.Prelude.{if◌then◌else◌, ◌&&◌, is_some, nat_le, option_map}
use Rattle.express_words.specs.Calls.{Call}
use Rattle.express_words.specs.Seen.{Seen}
use Rattle.express_words.specs.declared.role.Role.{Role}
use Rattle.desk_sheets.specs.declared.sheet.Pair.{Pair}
use Rattle.door_exchange.specs.declared.exchanging.Broken.{Broken}
use Rattle.door_work.specs.Asking.{Rest, Note}
use Rattle.door_work.specs.Steps.{KeepsBy, Step, Stepped, Asked, Noted as NotedStep, came, heard_by, kept_so}
use Rattle.door_work.specs.Steps.{record_by, wanted}
use Rattle.door_work.specs.Works.{GoesOn, KeptStep, WorkedOff, last_step}
use Rattle.door_work.specs.declared.halt.Halt.{Halt}
use Rattle.door_work.specs.declared.places.Places.{Places}
use Rattle.http_door.specs.Replies as reply
use Rattle.http_door.specs.Replies.{PlainReply}
use Rattle.kept_machine.specs.Keeps.{IsDurable, Keeps, sight}
use Rattle.kept_machine.specs.Kept.{KeptState, Stands}
use Rattle.kept_machine.specs.Machines.{Runs}
use Rattle.kept_machine.specs.declared.fault.KeepFault.{KeepFault}
use Rattle.node_journal.specs.Disk.{DiskSeen}
use Rattle.step_rules.specs.ClientAsks.{Sent, sends}
use Rattle.kept_ledger.specs.declared.machine.KeptLedger.{KeptLedger}
use Rattle.kept_ledger.specs.Asking.{asks_for, brings_on, ledger_asking, ledger_hears, ledger_wants, note_if}
use Rattle.kept_ledger.specs.Ledgers.{LedgerState, fold_from, ledger_after, step_of}
use Rattle.kept_ledger.specs.Machines.{ledger_rules}
use Rattle.kept_ledger.specs.Notes.{Noted, Opening, Heard, note_record}
use Rattle.kept_ledger.specs.Worked.{AreOfLedger, ArePairsPlaces, HearsOnly, WorkedAtPair}
use Rattle.kept_ledger.proofs.NoteLaws.{one_note}
use Rattle.kept_ledger.proofs.TraceLaws.{after_one}

-- ---- the ledger that records give

runs_notes : (m now : KeptLedger) (later : List (List ℕ)) → Runs ledger_rules m later now
    → (notes : List Noted) × (now.ledger.state ≡ fold_from m.ledger.state notes)
unfolding fold_from
runs_notes m now [] same = ([], ap (λ (k : KeptLedger). k.ledger.state) same)
runs_notes m now (r ∷ later) (after, steps, rest) =
    let others = runs_notes after now later rest in
    (steps.note ∷ others.0, others.1 ∙ ap (λ (s : LedgerState). fold_from s others.0) steps.step)

ledger_given : (m : KeptLedger) (reads : List ℕ → Type 0) → Stands ledger_rules m reads
    → (o : Opening) × (notes : List Noted) × (m.ledger.state ≡ ledger_after o notes)
ledger_given m reads stands =
    let gives = stands.gives in
    let run = runs_notes gives.opened gives.stepped gives.form.later gives.runs in (
      gives.opens.opening,
      run.0,
      gives.same ∙ (run.1 ∙ ap (λ (s : LedgerState). fold_from s run.0) gives.opens.ledger),
    )

goes_own : (o : Opening) (notes : List Noted) (places : Places) (m now : KeptLedger) (made : List KeptStep)
    (a b : Option (List Call)) → m.ledger.state ≡ ledger_after o notes
    → GoesOn ledger_rules ledger_asking places m a made now b
    → AreOfLedger o made × ((all : List Noted) × (now.ledger.state ≡ ledger_after o all))
goes_own o notes places m now [] a b is (same, still) =
    (tt, (notes, ap (λ (k : KeptLedger). k.ledger.state) same ∙ is))
goes_own o notes places m now (s ∷ made) a b is (next_ledger, c, goes, others) =
    let note = goes.steps.note in
    let after : next_ledger.ledger.state ≡ ledger_after o (notes ++ note ∷ []) =
    goes.steps.step ∙ (ap (λ (l : LedgerState). step_of l note) is ∙ sym (after_one o notes note)) in
    let rest = goes_own o (notes ++ note ∷ []) places next_ledger now made c b after others in
    (((notes, ap ledger_wants (sym is) ∙ goes.is_step), rest.0), rest.1)

pub worked_at : {D : Type 0} (shows : D → DiskSeen) (counts : D → Seen) (old new : KeptState KeptLedger D)
    (result : Result (Unit {0}) Halt) (a b : Option (List Call)) (places : Places)
    → ArePairsPlaces old.machine.ledger.state.pair places
    → (old.journal.closed ≡ false → IsDurable ledger_rules (sight shows counts old))
    → WorkedOff ledger_rules ledger_asking places shows counts old new result a b
    → WorkedAtPair shows counts old new result a b
worked_at shows counts old new result a b places are durable works = record {
  places = places;
  are = are;
  works = works;
  own = λ unclosed.
      let given = ledger_given old.machine (shows old.disk).reads (durable unclosed).stands in
      let own = goes_own given.0 given.1 places old.machine works.last.machine works.made a works.calls
      given.2 works.goes_on in
      record { opening = given.0; steps = own.0; notes = own.1.0; came_to = own.1.1 };
}

-- ---- what a ledger wants is never a note

asks_no_note : (p : Pair) (o : Option Sent) (bytes : List ℕ) → asks_for p o ≡ Note bytes → ⊥
asks_no_note p None bytes e = cc e
asks_no_note p (Some sent) bytes e = cc e

no_note_if : (refused : Bool) (p : Pair) (o : Option Sent) (bytes : List ℕ)
    → (if refused then Rest else asks_for p o) ≡ Note bytes → ⊥
no_note_if true p o bytes e = cc e
no_note_if false p o bytes e = asks_no_note p o bytes e

notes_nothing : (s : LedgerState) (bytes : List ℕ) → ledger_wants s ≡ Note bytes → ⊥
unfolding ledger_wants
notes_nothing s bytes e = no_note_if (is_some s.refused) s.pair (sends s.client) bytes e

-- ---- what it hears is noted, and nothing else

heard_if : (server : Role) (r : PlainReply) (is : Bool) (frame bytes : List ℕ)
    → heard_by server r (option_map note_record (note_if is (Heard frame))) ≡ Ok bytes
    → bytes ≡ note_record (Heard frame)
heard_if server r true frame bytes e = cc e
heard_if server r false frame bytes e = absurd (cc e)

heard_reply : (s : LedgerState) (server : Role) (r : PlainReply) (bytes : List ℕ)
    → heard_by server r (ledger_hears s r) ≡ Ok bytes → (frame : List ℕ) × (bytes ≡ note_record (Heard frame))
heard_reply s server (reply.Frame frame) bytes e =
    let is = nat_le (length frame) 8213 && brings_on s frame in
    (frame, heard_if server (reply.Frame frame) is frame bytes e)
heard_reply s server (reply.Lease lane serial) bytes e = absurd (cc e)
heard_reply s server reply.NotYours bytes e = absurd (cc e)
heard_reply s server (reply.Ended end) bytes e = absurd (cc e)
heard_reply s server reply.Busy bytes e = absurd (cc e)
heard_reply s server reply.Preflight bytes e = absurd (cc e)
heard_reply s server (reply.Refused why) bytes e = absurd (cc e)

heard_answer : (m : KeptLedger) (server : Role) (answer : Result PlainReply Broken) (bytes : List ℕ)
    → came ledger_asking m server answer ≡ Ok bytes → (frame : List ℕ) × (bytes ≡ note_record (Heard frame))
heard_answer m server (Ok r) bytes e = heard_reply m.ledger.state server r bytes e
heard_answer m server (Err why) bytes e = absurd (cc e)

step_hears : (m : KeptLedger) (step : Step) (bytes : List ℕ) → ledger_wants m.ledger.state ≡ wanted step
    → record_by ledger_asking m step ≡ Ok bytes → (frame : List ℕ) × (bytes ≡ note_record (Heard frame))
step_hears m (NotedStep b) bytes is e = absurd (notes_nothing m.ledger.state b is)
step_hears m (Asked to x) bytes is e = heard_answer m to x.answer bytes e

goes_hears : (places : Places) (m now : KeptLedger) (made : List KeptStep) (a b : Option (List Call))
    → GoesOn ledger_rules ledger_asking places m a made now b → HearsOnly m.ledger.state now.ledger.state
unfolding fold_from
goes_hears places m now [] a b (same, still) = ([], ap (λ (k : KeptLedger). k.ledger.state) same)
goes_hears places m now (s ∷ made) a b (next_ledger, c, goes, others) =
    let one = step_hears m s.step s.bytes goes.is_step goes.came in
    let note : goes.steps.note ≡ Heard one.0 =
    one_note goes.steps.note (Heard one.0) goes.steps.whole tt (sym goes.steps.is ∙ one.1) in
    let stepped : next_ledger.ledger.state ≡ step_of m.ledger.state (Heard one.0) =
    goes.steps.step ∙ ap (λ (n : Noted). step_of m.ledger.state n) note in
    let rest = goes_hears places next_ledger now made c b others in
    (one.0 ∷ rest.0, rest.1 ∙ ap (λ (l : LedgerState). fold_from l (map Heard rest.0)) stepped)

module _ {D : Type 0} (shows : D → DiskSeen) (counts : D → Seen) (last new : KeptState KeptLedger D) where
  by_kept : (bytes : List ℕ) (kept : Result (Unit {0}) KeepFault) (result : Result (Unit {0}) Halt)
      → last_step result ≡ kept_so kept
      → Keeps ledger_rules bytes (sight shows counts last) (sight shows counts new) kept
      → new.machine.ledger.state ≡ last.machine.ledger.state
  by_kept bytes (Err fault) result told keeps = keeps.no_step
  by_kept bytes (Ok done) (Ok rests) told keeps = absurd (cc told)
  by_kept bytes (Ok done) (Err why) told keeps = absurd (cc told)

  kept_same : (r : Result (List ℕ) Halt) (result : Result (Unit {0}) Halt)
      → KeepsBy ledger_rules shows counts r last new (last_step result)
      → new.machine.ledger.state ≡ last.machine.ledger.state
  kept_same (Err why) result (same, told) = ap (λ (k : KeptState KeptLedger D). k.machine.ledger.state) same
  kept_same (Ok bytes) result k = by_kept bytes k.kept result k.told k.keeps

  last_same : (places : Places) (result : Result (Unit {0}) Halt) (b c : Option (List Call))
      → Stepped ledger_rules ledger_asking places shows counts last new (last_step result) b c
      → new.machine.ledger.state ≡ last.machine.ledger.state
  last_same places result b c (inl does) =
      kept_same (record_by ledger_asking last.machine does.step) result does.keeps
  last_same places result b c (inr rests) =
      ap (λ (k : KeptState KeptLedger D). k.machine.ledger.state) rests.same

pub hears_nothing : (s : LedgerState) → HearsOnly s s
unfolding fold_from
hears_nothing s = ([], refl)

pub hears_only : {D : Type 0} (shows : D → DiskSeen) (counts : D → Seen) (old new : KeptState KeptLedger D)
    (result : Result (Unit {0}) Halt) (a b : Option (List Call)) (places : Places)
    → WorkedOff ledger_rules ledger_asking places shows counts old new result a b
    → HearsOnly old.machine.ledger.state new.machine.ledger.state
hears_only shows counts old new result a b places works =
    let heard = goes_hears places old.machine works.last.machine works.made a works.calls works.goes_on in
    (heard.0, last_same shows counts works.last new places result works.calls b works.ends ∙ heard.1)
