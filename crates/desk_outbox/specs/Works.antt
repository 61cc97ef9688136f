-- The work on a try: frames, answers, and what is noted of them.
use Rattle.std.specs.Prelude.{◌≡◌, ◌≢◌, ◌⊎◌, ℕ, Bool, true, false, List, Option, Result, Ok, Err, OnOk, OnErr}
use Rattle.std.specs.Prelude.{length}
use Rattle.express_words.specs.Calls.{Call}
use Rattle.express_words.specs.Seen.{Seen}
use Rattle.client_core.specs.LastProof.{at_last_proof}
use Rattle.client_core.specs.declared.progress.Progress.{Progress}
use Rattle.kept_machine.specs.declared.fault.KeepFault.{KeepFault}
use Rattle.client_restart.specs.Keeps.{KeepsNote, sight}
use Rattle.client_restart.specs.Notes.{Heard, Remark}
use Rattle.desk_texts.specs.declared.sheet.Sheet.{Sheet}
use Rattle.desk_tries.specs.declared.heard.Answer.{Answer}
use Rattle.desk_tries.specs.declared.sending.LetterEnd.TheVariants as end
use Rattle.desk_tries.specs.declared.sending.Next.{Next}
use Rattle.desk_tries.specs.declared.sending.Next.TheVariants as next
use Rattle.desk_tries.specs.Steps as steps
use Rattle.desk_tries.specs.Steps.{SendingState, SendingTurn, turn_of}
use Rattle.kept_errands.specs.Steps.{Talked}
use Rattle.kept_errands.specs.declared.halt.Halt.{Halt}
use Rattle.kept_errands.specs.declared.halt.Halt.TheVariants as halt
use Rattle.node_client.specs.declared.peers.Peers.{Peers}
use Rattle.node_journal.specs.Disk.{DiskSeen}
use Rattle.node_exchange.specs.declared.exchanging.Broken.{Broken}
use Rattle.desk_outbox.specs.declared.place.Place.{Place}
use Rattle.desk_outbox.specs.Answers.{answered, halts, named_by}
use Rattle.desk_outbox.specs.Outboxes.{OutboxState}
use Rattle.desk_outbox.specs.Places.{is_under_way, place_record, state_at}

-- ---- a note

-- A place is on the disk before the try stands there.
pub record Notes {D : Type 0} (shows : D → DiskSeen) (counts : D → Seen) (place : Place)
    (old new : OutboxState D) (r : Result Unit KeepFault) : Type 0 where
  pub card : new.card ≡ old.card
  pub there : OnOk r (new.place ≡ place)
  pub stays : OnErr r (new.place ≡ old.place)
  pub keeps : KeepsNote (Remark (place_record place)) (sight shows counts old.kept)
      (sight shows counts new.kept) r

-- what is to be done next, once it is on the disk
abbrev pub then_next : {T : Type 0} → Next → Result T KeepFault → Result Next Halt
then_next n (Ok done) = Ok n
then_next n (Err fault) = Err (halt.Keep fault)

-- ---- a frame

-- the last proof goes out
abbrev pub with_proof : Place → Place
with_proof p = record p { proof_out = true }

-- Before a step's frame nothing is noted; but where it is the last proof, that this goes out is, once.
pub record ReadiesFirst {D : Type 0} (shows : D → DiskSeen) (counts : D → Seen) (old new : OutboxState D)
    (r : Result Unit KeepFault) : Type 0 where
  pub last : at_last_proof old.kept.core.client.current ≡ true
  pub notes : Notes shows counts (with_proof old.place) old new r

abbrev pub Readies : {D : Type 0} → (D → DiskSeen) → (D → Seen) → (old new : OutboxState D)
    → Result Unit KeepFault → Type 0
Readies shows counts old new r = ((r ≡ Ok tt) × (new ≡ old)) ⊎ ReadiesFirst shows counts old new r

-- ---- behind an answer

-- the letter's sending, as the try stands
abbrev pub state_of : {D : Type 0} → OutboxState D → SendingState
state_of o = state_at (length o.card.addresses) o.place

-- whether a try so far can have written the letter, unless its end is known
abbrev pub may_by : Next → SendingState → Bool
may_by next.GoOn s = steps.may_be_written s
may_by next.SameAgain s = steps.may_be_written s
may_by next.NewTry s = steps.may_be_written s
may_by next.NextAddress s = steps.may_be_written s
may_by (next.Stop end.Written) s = true
may_by (next.Stop end.NotWritten) s = false
may_by (next.Stop end.MaybeWritten) s = true

abbrev pub may_be_written : {D : Type 0} → OutboxState D → Bool
may_be_written o = may_by o.place.next (state_of o)

-- where a try stands that an answer ends: as its sending does
abbrev pub ended_at : Place → SendingTurn → Answer → Place
ended_at p t a = record p {
  address = t.state.address;
  further = t.state.further;
  proof_out = t.state.proof_out;
  next = t.next;
  named = named_by a;
}

-- the reply fits the step: it is on the disk before the client takes it
pub record GoesOn {D : Type 0} (shows : D → DiskSeen) (counts : D → Seen) (bytes : List ℕ)
    (old new : OutboxState D) (r : Result Next Halt) : Type 0 where
  pub card : new.card ≡ old.card
  pub place : new.place ≡ old.place
  pub heard : Result Progress KeepFault
  pub keeps : KeepsNote (Heard bytes) (sight shows counts old.kept) (sight shows counts new.kept) heard
  pub told : r ≡ then_next next.GoOn heard

-- the try has come to its end, which is on the disk before it is told
pub record Ends {D : Type 0} (shows : D → DiskSeen) (counts : D → Seen) (place : Place)
    (old new : OutboxState D) (r : Result Next Halt) : Type 0 where
  pub noted : Result Unit KeepFault
  pub notes : Notes shows counts place old new noted
  pub told : r ≡ then_next place.next noted

-- the same frame is to be sent again
abbrev pub Halts : {D : Type 0} → Result (List ℕ) Broken → (old new : OutboxState D) → Result Next Halt
    → Type 0
Halts answer old new r = (new ≡ old) × (r ≡ Err (halt.Stop (halts old.kept.core.client answer)))

abbrev pub GoesOnBy : {D : Type 0} → (D → DiskSeen) → (D → Seen) → Result (List ℕ) Broken
    → (old new : OutboxState D) → Result Next Halt → Type 0
GoesOnBy shows counts (Ok bytes) old new r = GoesOn shows counts bytes old new r
GoesOnBy shows counts (Err why) old new r = Halts (Err why) old new r

abbrev pub DoesNext : {D : Type 0} → (D → DiskSeen) → (D → Seen) → Result (List ℕ) Broken → Next → Place
    → (old new : OutboxState D) → Result Next Halt → Type 0
DoesNext shows counts answer next.GoOn ended old new r = GoesOnBy shows counts answer old new r
DoesNext shows counts answer next.SameAgain ended old new r = Halts answer old new r
DoesNext shows counts answer next.NewTry ended old new r = Ends shows counts ended old new r
DoesNext shows counts answer next.NextAddress ended old new r = Ends shows counts ended old new r
DoesNext shows counts answer (next.Stop e) ended old new r = Ends shows counts ended old new r

-- what came of the frame is told to the letter's sending, and what that says is done
abbrev pub Does : {D : Type 0} → (D → DiskSeen) → (D → Seen) → Result (List ℕ) Broken
    → (old new : OutboxState D) → Result Next Halt → Type 0
Does shows counts answer old new r =
    let a = answered old.kept.core.client answer in
    let t = turn_of (state_of old) a in
    DoesNext shows counts answer t.next (ended_at old.place t a) old new r

-- ---- one step

-- the card's servers
pub record ArePeers (card : Sheet) (peers : Peers) : Type 0 where
  pub leader : peers.leader.now ≡ card.leader
  pub helper : peers.helper.now ≡ card.helper

-- The card's servers hear the frame of the present step and nothing else, and by the answer it goes on.
pub record Talks {D : Type 0} (shows : D → DiskSeen) (counts : D → Seen) (old new : OutboxState D)
    (r : Result Next Halt) (before now : Option (List Call)) : Type 0 where
  pub peers : Peers
  pub are_peers : ArePeers old.card peers
  pub answer : Result (List ℕ) Broken
  pub talked : Talked peers old.kept.core.client answer before now
  pub does : Does shows counts answer old new r

-- the frame goes out, from a try that says so where it is the last proof
pub record Sends {D : Type 0} (shows : D → DiskSeen) (counts : D → Seen) (old new : OutboxState D)
    (r : Result Next Halt) (before now : Option (List Call)) : Type 0 where
  pub sent : OutboxState D
  pub readied : Readies shows counts old sent (Ok tt)
  pub proof_first : at_last_proof sent.kept.core.client.current ≡ true → sent.place.proof_out ≡ true
  pub talks : Talks shows counts sent new r before now

-- or the disk doesn't take that it goes out, and nothing is sent
pub record Misses {D : Type 0} (shows : D → DiskSeen) (counts : D → Seen) (old new : OutboxState D)
    (r : Result Next Halt) (before now : Option (List Call)) : Type 0 where
  pub fault : KeepFault
  pub readied : ReadiesFirst shows counts old new (Err fault)
  pub told : r ≡ Err (halt.Keep fault)
  pub silent : now ≡ before

abbrev pub Steps : {D : Type 0} → (D → DiskSeen) → (D → Seen) → (old new : OutboxState D) → Result Next Halt
    → (before now : Option (List Call)) → Type 0
Steps shows counts old new r before now =
    Misses shows counts old new r before now ⊎ Sends shows counts old new r before now

-- ---- the steps of a try

-- steps one after another, each of a try under way, after each of which it goes on
pub data Onward {D : Type 0} (shows : D → DiskSeen) (counts : D → Seen) (start : OutboxState D)
    (before : Option (List Call)) : OutboxState D → Option (List Call) → Type 0 where
  none : Onward shows counts start before start before
  then : (o new : OutboxState D) (mid now : Option (List Call)) → Onward shows counts start before o mid
      → is_under_way o.place.next ≡ true → Steps shows counts o new (Ok next.GoOn) mid now
      → Onward shows counts start before new now

-- behind them a last one ends the try or halts the work; or the try was at its end before
pub record Stops {D : Type 0} (shows : D → DiskSeen) (counts : D → Seen) (old new : OutboxState D)
    (r : Result Next Halt) (before now : Option (List Call)) : Type 0 where
  pub under_way : is_under_way old.place.next ≡ true
  pub over : r ≢ Ok next.GoOn
  pub step : Steps shows counts old new r before now

pub record IsOver {D : Type 0} (old new : OutboxState D) (r : Result Next Halt)
    (before now : Option (List Call)) : Type 0 where
  pub over : is_under_way old.place.next ≡ false
  pub told : r ≡ Ok old.place.next
  pub same : new ≡ old
  pub silent : now ≡ before

pub record Works {D : Type 0} (shows : D → DiskSeen) (counts : D → Seen) (old new : OutboxState D)
    (r : Result Next Halt) (before now : Option (List Call)) : Type 0 where
  pub last : OutboxState D
  pub mid : Option (List Call)
  pub onward : Onward shows counts old before last mid
  pub ends : IsOver last new r mid now ⊎ Stops shows counts last new r mid now
