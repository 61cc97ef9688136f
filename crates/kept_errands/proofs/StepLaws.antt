-- One step, by what it does to the client and to what that remembers.
use Rattle.std.proofs.Common.{◌≡◌, ℕ, Bool, List, true, false, Option, Some, None, Result, Ok, Err, refl, sym, ap, ◌∙◌, subst}
use Rattle.std.specs.Prelude.{IfOk, IsOk}
use Rattle.express_words.specs.Calls.{Call}
use Rattle.express_words.specs.Seen.{Seen}
use Rattle.step_rules.specs.Client as steps
use Rattle.step_rules.specs.ClientReplies.{on_reply}
use Rattle.client_core.specs.Answers.{outcome_in, progress_in}
use Rattle.client_core.specs.declared.progress.Progress.{Progress}
use Rattle.client_core.specs.declared.progress.Progress.TheVariants as progress
use Rattle.kept_machine.specs.declared.fault.KeepFault.{KeepFault}
use Rattle.client_restart.specs.declared.opening.ClientOpening.{ClientOpening}
use Rattle.client_restart.specs.Hears.{makes_step, makes_step_at}
use Rattle.client_restart.specs.Keeps.{KeepsNote, sight}
use Rattle.client_restart.specs.Kept.{ClientState, StandsByNotes}
use Rattle.client_restart.specs.Notes.{Heard, Noted}
use Rattle.client_restart.specs.Steps.{CoreState}
use Rattle.node_journal.specs.Disk.{DiskSeen}
use Rattle.node_exchange.specs.Exchanging.{CountBy}
use Rattle.node_exchange.specs.declared.exchanging.Broken.{Broken}
use Rattle.node_exchange.specs.declared.exchanging.Broken.TheVariants as broken
use Rattle.node_client.specs.declared.peers.Peers.{Peers}
use Rattle.node_client.specs.declared.stop.Stop.TheVariants as stop
use Rattle.node_client.specs.Steps.{Done, said, said_of, stop_at}
use Rattle.kept_errands.specs.declared.halt.Halt.{Halt}
use Rattle.kept_errands.specs.declared.halt.Halt.TheVariants as halt
use Rattle.kept_errands.specs.Steps.{halt_at, halted, Hears, HearsBy, Talked, Stepped, NetFaultBy, DiskFaultBy}
use Rattle.kept_errands.specs.Works.{heard, AnswersStep, HaltsAtReply, MissesReply}

-- what a step's answer did, by what is told of it
abbrev pub CameBy : Result Progress Halt → (old new : CoreState) → Result (List ℕ) Broken → Type 0
CameBy (Ok progress.Next) old new answer = (said old.client answer ≡ Ok None) × (new ≡ heard old answer)
CameBy (Ok (progress.Finished o)) old new answer =
    ((outcome : steps.Outcome) × (said old.client answer ≡ Ok (Some (Done outcome)))) × (new ≡ heard old answer)
CameBy (Ok (progress.Later refusal)) old new answer = (said old.client answer ≡ Err (stop.Later refusal)) × (new ≡ old)
CameBy (Ok progress.Ignored) old new answer = (said old.client answer ≡ Err stop.Answer) × (new ≡ old)
CameBy (Err (halt.Stop why)) old new answer = (said old.client answer ≡ Err why) × (new ≡ old)
CameBy (Err (halt.Keep fault)) old new answer = AnswersStep old answer × (new ≡ old)

abbrev pub Comes : {D : Type 0} → (old new : ClientState D) → Result Progress Halt → Result (List ℕ) Broken → Type 0
Comes old new result answer = CameBy result old.core new.core answer × (new.opening ≡ old.opening)

took : {D : Type 0} (shows : D → DiskSeen) (counts : D → Seen) (old new : ClientState D) (bytes : List ℕ) (kept : Result Progress KeepFault) (p : steps.Progress)
    → (on_reply old.core.client bytes).progress ≡ p → IfOk kept (λ x. x ≡ progress_in p)
    → (makes_step (progress_in p) ≡ false → IsOk kept × (new ≡ old))
    → (makes_step (progress_in p) ≡ true → KeepsNote (Heard bytes) (sight shows counts old) (sight shows counts new) kept)
    → Comes old new (halted kept) (Ok bytes)
took shows counts old new bytes (Ok x) steps.Next e is still keeps =
    let k = keeps refl in
    (subst (λ (y : Progress). CameBy (Ok y) old.core new.core (Ok bytes)) (sym is) (ap said_of e, k.step), k.opening)
took shows counts old new bytes (Ok x) (steps.Finished outcome) e is still keeps =
    let k = keeps refl in
    (subst (λ (y : Progress). CameBy (Ok y) old.core new.core (Ok bytes)) (sym is) ((outcome, ap said_of e), k.step), k.opening)
took shows counts old new bytes (Ok x) (steps.Later refusal) e is still keeps =
    let same = (still refl).1 in
    (subst (λ (y : Progress). CameBy (Ok y) old.core new.core (Ok bytes)) (sym is) (ap said_of e, ap (λ k. k.core) same), ap (λ k. k.opening) same)
took shows counts old new bytes (Ok x) steps.Ignored e is still keeps =
    let same = (still refl).1 in
    (subst (λ (y : Progress). CameBy (Ok y) old.core new.core (Ok bytes)) (sym is) (ap said_of e, ap (λ k. k.core) same), ap (λ k. k.opening) same)
took shows counts old new bytes (Err fault) steps.Next e is still keeps =
    let k = keeps refl in ((ap (λ (p : steps.Progress). makes_step (progress_in p)) e, k.no_step), k.opening)
took shows counts old new bytes (Err fault) (steps.Finished outcome) e is still keeps =
    let k = keeps refl in ((ap (λ (p : steps.Progress). makes_step (progress_in p)) e, k.no_step), k.opening)
took shows counts old new bytes (Err fault) (steps.Later refusal) e is still keeps = absurd (cc (still refl).0)
took shows counts old new bytes (Err fault) steps.Ignored e is still keeps = absurd (cc (still refl).0)

pub comes : {D : Type 0} (shows : D → DiskSeen) (counts : D → Seen) (old new : ClientState D) (result : Result Progress Halt) (answer : Result (List ℕ) Broken)
    → HearsBy shows counts answer old new result → Comes old new result answer
comes shows counts old new result (Ok bytes) h =
    subst (λ (r : Result Progress Halt). Comes old new r (Ok bytes)) (sym h.told)
    (took shows counts old new bytes h.kept (on_reply old.core.client bytes).progress refl h.progress h.no_step h.keeps)
comes shows counts old new result (Err why) (same, told) =
    subst (λ (r : Result Progress Halt). Comes old new r (Err why)) (sym told)
    ((refl, ap (λ k. k.core) same), ap (λ k. k.opening) same)

-- ---- a note that the disk doesn't take

misses : {D : Type 0} (shows : D → DiskSeen) (counts : D → Seen) (old new : ClientState D) (bytes : List ℕ) (kept : Result Progress KeepFault) (fault : KeepFault) (b : Bool)
    → makes_step_at old.core bytes ≡ b → Err (halt.Keep fault) ≡ halted kept
    → (b ≡ false → IsOk kept × (new ≡ old)) → (b ≡ true → KeepsNote (Heard bytes) (sight shows counts old) (sight shows counts new) kept)
    → MissesReply shows counts new fault
misses shows counts old new bytes (Ok p) fault b e told still keeps = absurd (cc told)
misses shows counts old new bytes (Err f) fault false e told still keeps = absurd (cc (still refl).0)
misses shows counts old new bytes (Err f) fault true e told still keeps =
    let same : f ≡ fault = cc told in
    record {
      last = old;
      bytes = bytes;
      step = e;
      keeps = subst (λ (x : KeepFault). KeepsNote {T = Progress} (Heard bytes) (sight shows counts old) (sight shows counts new) (Err x)) same (keeps refl);
    }

missed : {D : Type 0} (shows : D → DiskSeen) (counts : D → Seen) (old new : ClientState D) (fault : KeepFault) (answer : Result (List ℕ) Broken)
    → HearsBy shows counts answer old new (Err (halt.Keep fault)) → MissesReply shows counts new fault
missed shows counts old new fault (Ok bytes) h = misses shows counts old new bytes h.kept fault _ refl h.told h.no_step h.keeps
missed shows counts old new fault (Err why) (same, told) = absurd (cc told)

-- where a step halts the work at a note, this is one that the disk doesn't take
pub halts_at : {D : Type 0} (shows : D → DiskSeen) (counts : D → Seen) (old new : ClientState D) (why : Halt) (answer : Result (List ℕ) Broken)
    → HearsBy shows counts answer old new (Err why) → HaltsAtReply shows counts new why
halts_at shows counts old new (halt.Keep fault) answer h = missed shows counts old new fault answer h
halts_at shows counts old new (halt.Stop why) answer h = tt

-- ---- a step on a net

pub heard_step : {D : Type 0} (peers : Peers) (shows : D → DiskSeen) (counts : D → Seen) (old new : ClientState D) (kept : Result Progress KeepFault) (bytes : List ℕ) (a b : Option (List Call))
    → Talked peers old.core.client (Ok bytes) a b → IfOk kept (λ x. x ≡ progress_in (on_reply old.core.client bytes).progress)
    → (makes_step (progress_in (on_reply old.core.client bytes).progress) ≡ false → IsOk kept × (new ≡ old))
    → (makes_step (progress_in (on_reply old.core.client bytes).progress) ≡ true → KeepsNote (Heard bytes) (sight shows counts old) (sight shows counts new) kept)
    → Stepped peers shows counts old new (halted kept) a b
heard_step peers shows counts old new kept bytes a b t is still keeps = record {
  answer = Ok bytes;
  talked = t;
  hears = record { kept = kept; told = refl; progress = is; no_step = still; keeps = keeps };
}

pub lost_step : {D : Type 0} (peers : Peers) (shows : D → DiskSeen) (counts : D → Seen) (old : ClientState D) (why : Broken) (h : Halt) (a b : Option (List Call))
    → Talked peers old.core.client (Err why) a b → h ≡ halt_at why → Stepped peers shows counts old old (Err h) a b
lost_step peers shows counts old why h a b t is =
    record { answer = Err why; talked = t; hears = (refl, ap Err is) }

-- what stands on the disk gives the client, whatever it heard
pub stands_by : {D : Type 0} {T : Type 0} (shows : D → DiskSeen) (counts : D → Seen) (old new : ClientState D) (n : Noted) (kept : Result T KeepFault) (b : Bool)
    → (b ≡ false → IsOk kept × (new ≡ old)) → (b ≡ true → KeepsNote n (sight shows counts old) (sight shows counts new) kept)
    → (old.journal.closed ≡ false → StandsByNotes old.opening old.core (shows old.disk).reads)
    → new.journal.closed ≡ false → StandsByNotes new.opening new.core (shows new.disk).reads
stands_by shows counts old new n kept true still keeps stood still_open =
    let k = keeps refl in
    subst (λ (o : ClientOpening). StandsByNotes o new.core (shows new.disk).reads) (sym k.opening) (k.stands still_open)
stands_by {D} shows counts old new n kept false still keeps stood still_open =
    subst (λ (k : ClientState D). k.journal.closed ≡ false → StandsByNotes k.opening k.core (shows k.disk).reads) (sym (still refl).1) stood still_open

-- the disk's count, whatever was heard
pub counts_by : {D : Type 0} (shows : D → DiskSeen) (counts : D → Seen) (old new : ClientState D) (n : Noted) (kept : Result Progress KeepFault) (b : Bool)
    → (b ≡ false → IsOk kept × (new ≡ old)) → (b ≡ true → KeepsNote n (sight shows counts old) (sight shows counts new) kept)
    → DiskFaultBy (halted kept) (counts old.disk).faults (counts new.disk).faults
counts_by shows counts old new n (Ok x) true still keeps = (keeps refl).counts
counts_by {D} shows counts old new n (Ok x) false still keeps = ap (λ (k : ClientState D). (counts k.disk).faults) (still refl).1
counts_by shows counts old new n (Err fault) true still keeps = (keeps refl).counts
counts_by shows counts old new n (Err fault) false still keeps = absurd (cc (still refl).0)

-- ---- counts of faults, over several steps

net_at : (T : Type 0) (why : Broken) (before now : ℕ) → CountBy (Err why) before now → NetFaultBy {T = T} (Err (halt_at why)) before now
net_at T (broken.Fault count) before now c = c
net_at T (broken.Early count) before now c = c
net_at T (broken.Wrong fault) before now c = c

pub net_by : (T : Type 0) (why : Broken) (h : Halt) (before now : ℕ) → h ≡ halt_at why → CountBy (Err why) before now → NetFaultBy {T = T} (Err h) before now
net_by T why h before now is c = subst (λ (x : Halt). NetFaultBy {T = T} (Err x) before now) (sym is) (net_at T why before now c)

pub net_from : (T U : Type 0) (h : Halt) (first before now : ℕ) → before ≡ first → NetFaultBy {T = T} (Err h) before now → NetFaultBy {T = U} (Err h) first now
net_from T U h first before now is c = subst (λ (x : ℕ). NetFaultBy {T = U} (Err h) x now) is (over h c)
  where
    over : (x : Halt) → NetFaultBy {T = T} (Err x) before now → NetFaultBy {T = U} (Err x) before now
    over (halt.Stop (stop.Fault count)) e = e
    over (halt.Stop stop.Answer) e = e
    over (halt.Stop (stop.Later refusal)) e = e
    over (halt.Stop stop.Spent) e = e
    over (halt.Stop stop.Full) e = e
    over (halt.Keep fault) e = e

pub disk_from : (T U : Type 0) (h : Halt) (first before now : ℕ) → before ≡ first → DiskFaultBy {T = T} (Err h) before now → DiskFaultBy {T = U} (Err h) first now
disk_from T U h first before now is c = subst (λ (x : ℕ). DiskFaultBy {T = U} (Err h) x now) is (over h c)
  where
    over : (x : Halt) → DiskFaultBy {T = T} (Err x) before now → DiskFaultBy {T = U} (Err x) before now
    over (halt.Stop why) e = e
    over (halt.Keep fault) e = e
