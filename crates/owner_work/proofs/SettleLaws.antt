-- What is told of a request, and what it comes to where that has ended.
use Rattle.std.proofs.Common.{◌≡◌, ◌≢◌, ◌∙◌, ℕ, Bool, true, false, List, Option, Some, None}
use Rattle.std.proofs.Common.{Result, Ok, Err, inl, inr, refl, sym, ap, subst}
use Rattle.std.specs.Prelude.{if◌then◌else◌, ◌==◌, is_none}
use Rattle.express_words.specs.Calls.{Call}
use Rattle.express_words.specs.Seen.{Seen}
use Rattle.express_words.specs.declared.refusal.Refusal.{Refusal}
use Rattle.express_words.specs.declared.refusal.Refusal.TheVariants.{Stale}
use Rattle.node_journal.specs.Disk.{DiskSeen}
use Rattle.node_journal.specs.declared.fault.JournalFault.TheVariants as journal
use Rattle.mailbox_rules.specs.Requests.{Request}
use Rattle.step_rules.specs.Client.{Client, Fault}
use Rattle.step_rules.specs.ClientAsks as asks
use Rattle.step_rules.specs.ClientAsks.{asked_with, fault_at}
use Rattle.door_exchange.specs.declared.exchanging.Broken.TheVariants as broken
use Rattle.door_work.specs.declared.halt.Halt.{Halt}
use Rattle.door_work.specs.declared.halt.Halt.TheVariants as halt
use Rattle.kept_machine.specs.Kept.{KeptState}
use Rattle.kept_machine.specs.declared.fault.KeepFault.{KeepFault}
use Rattle.kept_machine.specs.declared.fault.KeepFault.TheVariants as keep
use Rattle.kept_ledger.specs.declared.machine.KeptLedger.{KeptLedger}
use Rattle.kept_ledger.specs.declared.task.Task.{Task}
use Rattle.kept_ledger.specs.declared.working.Unworked.{Unworked}
use Rattle.kept_ledger.specs.declared.working.Unworked.TheVariants as unworked
use Rattle.kept_ledger.specs.Ledgers.{LedgerState, client_or, request_of, step_of, takes_task}
use Rattle.kept_ledger.specs.Notes.{Asked}
use Rattle.kept_ledger.specs.Worked.{HearsOnly, LedgerWorked}
use Rattle.desk_around.specs.declared.trouble.Trouble.{Trouble}
use Rattle.desk_around.specs.declared.trouble.Trouble.TheVariants as trouble
use Rattle.desk_around.specs.Halts.{halted, unnoted}
use Rattle.desk_around.specs.Laters.{later_trouble}
use Rattle.owner_work.specs.Settling.{Ends, IsNoted, IsTimed, OnEnded, OnStopped, Settles, SettlesBy, Untimed}
use Rattle.owner_work.specs.Settling.{no_time, unkept, idle, untimed, worked}
use Rattle.owner_work.specs.Settling.{told_behind, told_by, unworked_trouble}
use Rattle.owner_work.specs.Works.{Does, DoesBy, full, spent, unasked, asked}

abbrev pub Told : Type 0
Told = Result (Unit {0}) Trouble

-- ---- troubles that are no refusal

pub cause_ended : (T : Type 0) (t : Trouble) (P : Option Refusal → Type 0)
    → ((r : Refusal) → t ≢ trouble.Refused r) → OnEnded {T = T} (Err t) P
cause_ended T (trouble.Refused r) P unrefused = absurd (unrefused r refl)
cause_ended T _ P unrefused = tt

last_ended : (last : Bool) (n : ℕ) (P : Option Refusal → Type 0)
    → OnEnded {T = Unit {0}} (Err (if last then trouble.UsedUp else trouble.Behind n)) P
last_ended true n P = tt
last_ended false n P = tt

later_ended : (r : Refusal) (P : Option Refusal → Type 0) → OnEnded {T = Unit {0}} (Err (later_trouble r)) P
later_ended (Stale n) P = last_ended (n == 4294967295) n P
later_ended _ P = tt

unnoted_ended : (fault : KeepFault) (P : Option Refusal → Type 0)
    → OnEnded {T = Unit {0}} (Err (unnoted fault)) P
unnoted_ended keep.NoMemory P = tt
unnoted_ended (keep.Journal (journal.Full end)) P = tt
unnoted_ended (keep.Journal (journal.Disk faults)) P = tt
unnoted_ended (keep.Journal journal.Closed) P = tt
unnoted_ended (keep.Journal journal.NotEmpty) P = tt
unnoted_ended (keep.Journal (journal.Damaged at)) P = tt
unnoted_ended (keep.Foreign at) P = tt

halted_ended : (h : Halt) (P : Option Refusal → Type 0) → OnEnded {T = Unit {0}} (Err (halted h)) P
halted_ended (halt.Keep fault) P = unnoted_ended fault P
halted_ended (halt.Unanswered server (broken.Fault count)) P = tt
halted_ended (halt.Unanswered server (broken.Early count)) P = tt
halted_ended (halt.Unanswered server (broken.Wrong fault)) P = tt
halted_ended (halt.Busy server) P = tt
halted_ended (halt.NotYours server) P = tt
halted_ended (halt.Answer server) P = tt

unworked_ended : (why : Unworked) (P : Option Refusal → Type 0)
    → OnEnded {T = Unit {0}} (Err (unworked_trouble why)) P
unworked_ended (unworked.NoPlace server) P = tt
unworked_ended unworked.NoMemory P = tt
unworked_ended (unworked.Halted why) P = halted_ended why P

pub ended_map : {T : Type 0} (r : Result T Trouble) (P Q : Option Refusal → Type 0)
    → ((refused : Option Refusal) → P refused → Q refused) → OnEnded r P → OnEnded r Q
ended_map (Ok done) P Q f p = f None p
ended_map (Err (trouble.Refused r)) P Q f p = f (Some r) p
ended_map (Err _) P Q f p = tt

told_as : (P : Option Refusal → Type 0) (result other : Told) → result ≡ other → OnEnded other P
    → OnEnded result P
told_as P result other e p = subst (λ (r : Told). OnEnded r P) (sym e) p

-- ---- a request that was worked off

module _ {D : Type 0} (shows : D → DiskSeen) (counts : D → Seen) (old timed new : KeptState KeptLedger D)
    (a b : Option (List Call)) (time : IsTimed shows counts old timed)
    (hears : HearsOnly timed.machine.ledger.state new.machine.ledger.state) where
  rests_ended : (refused : Option Refusal) (is_idle : Bool) → LedgerWorked shows counts timed new (Ok tt) a b
      → new.machine.ledger.state.refused ≡ refused
      → is_none new.machine.ledger.state.client.current ≡ is_idle
      → OnEnded (told_by refused is_idle) (λ r. Ends shows counts r old new a b)
  rests_ended None true works e i =
      record { timed = timed; time = time; works = works; hears = hears; ended = i; refused_is = e }
  rests_ended None false works e i = tt
  rests_ended (Some r) true works e i =
      record { timed = timed; time = time; works = works; hears = hears; ended = i; refused_is = e }
  rests_ended (Some r) false works e i = later_ended r (λ r. Ends shows counts r old new a b)

  worked_ended : (w : Result (Unit {0}) Unworked) → LedgerWorked shows counts timed new w a b
      → OnEnded (told_behind w new.machine.ledger.state) (λ r. Ends shows counts r old new a b)
  worked_ended (Ok done) works =
      rests_ended new.machine.ledger.state.refused (is_none new.machine.ledger.state.client.current) works refl
      refl
  worked_ended (Err why) works = unworked_ended why (λ r. Ends shows counts r old new a b)

untimed_ended : {D : Type 0} (shows : D → DiskSeen) (counts : D → Seen) (t : Trouble)
    (old new : KeptState KeptLedger D) (early late : ℕ) → Untimed shows counts t old new early late
    → (P : Option Refusal → Type 0) → OnEnded {T = Unit {0}} (Err t) P
untimed_ended shows counts t old new early late (no_time clock rose same) P =
    told_as P (Err t) (Err trouble.Clock) (ap (λ (x : Trouble). Err x) clock) tt
untimed_ended shows counts t old new early late (unkept seconds fault is kept) P =
    told_as P (Err t) (Err (unnoted fault)) (ap (λ (x : Trouble). Err x) is) (unnoted_ended fault P)

pub stopped : (T : Type 0) (t : Trouble) (P : Trouble → Type 0) → P t → OnStopped {T = T} (Err t) P
stopped T (trouble.Refused r) P p = tt
stopped T _ P p = p

-- what is so in any case
pub ended_all : {T : Type 0} (r : Result T Trouble) (P : Type 0) → P → OnEnded r (λ _. P)
ended_all (Ok done) P p = p
ended_all (Err (trouble.Refused r)) P p = p
ended_all (Err _) P p = tt

pub settles_ended : {D : Type 0} (shows : D → DiskSeen) (counts : D → Seen) (old new : KeptState KeptLedger D)
    (result : Told) (a b : Option (List Call)) (early late : ℕ)
    → SettlesBy shows counts old new result a b early late
    → OnEnded result (λ r. Settles shows counts r old new a b)
settles_ended shows counts old new result a b early late (idle i e same silent) =
    told_as (λ r. Settles shows counts r old new a b) result (Ok tt) e
    (inl (record { idle = i; unrefused = refl; same = same; silent = silent }))
settles_ended shows counts old new result a b early late (untimed t is e silent) =
    told_as (λ r. Settles shows counts r old new a b) result (Err t) e
    (untimed_ended shows counts t old new early late is (λ r. Settles shows counts r old new a b))
settles_ended shows counts old new result a b early late (worked busy timed time w) =
    told_as (λ r. Settles shows counts r old new a b) result (told_behind w.worked new.machine.ledger.state) w.told
    (ended_map (told_behind w.worked new.machine.ledger.state) (λ r. Ends shows counts r old new a b)
    (λ r. Settles shows counts r old new a b) (λ r ends. inr ends)
    (worked_ended shows counts old timed new a b time w.hears w.worked w.works))

-- then none is under way
pub settled_idle : {D : Type 0} (shows : D → DiskSeen) (counts : D → Seen) (r : Option Refusal)
    (old new : KeptState KeptLedger D) (a b : Option (List Call)) → Settles shows counts r old new a b
    → is_none new.machine.ledger.state.client.current ≡ true
settled_idle {D} shows counts r old new a b (inl was) =
    ap (λ (k : KeptState KeptLedger D). is_none k.machine.ledger.state.client.current) was.same ∙ was.idle
settled_idle shows counts r old new a b (inr ends) = ends.ended

-- ---- a task

with_fault : (c : Client) (request : Request) (f : Option Fault) → is_none f ≡ true
    → is_none (client_or c (asked_with c request f)).current ≡ false
with_fault c request None e = refl
with_fault c request (Some f) e = absurd (cc e)

-- a request that is taken is under way
pub asked_busy : (s : LedgerState) (t : Task) → takes_task s t ≡ true
    → is_none (step_of s (Asked t)).client.current ≡ false
unfolding asks.asked
asked_busy s t e =
    with_fault s.client (request_of t) (fault_at s.client (request_of t) s.client.current) e

does_settled : {D : Type 0} (shows : D → DiskSeen) (counts : D → Seen) (t : Task) (r : Option Refusal)
    (old noted new : KeptState KeptLedger D) (a b : Option (List Call))
    → takes_task old.machine.ledger.state t ≡ true
    → IsNoted shows counts (Asked t) old noted → Settles shows counts r noted new a b → Does shows counts t r old new a b
does_settled shows counts t r old noted new a b takes is (inl was) =
    let busy : is_none noted.machine.ledger.state.client.current ≡ false =
    ap (λ (s : LedgerState). is_none s.client.current) is.step ∙ asked_busy old.machine.ledger.state t takes in
    let no : true ≡ false = sym was.idle ∙ busy in absurd (cc no)
does_settled shows counts t r old noted new a b takes is (inr ends) =
    record { takes = takes; asked = noted; noted = is; ends = ends }

pub does_ended : {D : Type 0} (shows : D → DiskSeen) (counts : D → Seen) (t : Task)
    (old new : KeptState KeptLedger D) (result : Told) (a b : Option (List Call)) (early late : ℕ)
    → DoesBy shows counts t old new result a b early late
    → OnEnded result (λ r. Does shows counts t r old new a b)
does_ended shows counts t old new result a b early late (full is e same silent) =
    told_as (λ r. Does shows counts t r old new a b) result (Err trouble.Full) e tt
does_ended shows counts t old new result a b early late (spent is e same silent) =
    told_as (λ r. Does shows counts t r old new a b) result (Err trouble.Spent) e tt
does_ended shows counts t old new result a b early late (unasked fault e same silent) =
    told_as (λ r. Does shows counts t r old new a b) result (Err (unnoted fault)) e
    (unnoted_ended fault (λ r. Does shows counts t r old new a b))
does_ended shows counts t old new result a b early late (asked takes noted is settles) =
    ended_map result (λ r. Settles shows counts r noted new a b) (λ r. Does shows counts t r old new a b)
    (λ r s. does_settled shows counts t r old noted new a b takes is s)
    (settles_ended shows counts noted new result a b early late settles)
