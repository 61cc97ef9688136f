-- Requests of a desk, one after another.
use Rattle.std.proofs.Common.{◌≡◌, ◌≢◌, ℕ, List, [], ◌∷◌, ◌++◌, Option, Some, None, Result, Ok, Err, ap, refl, sym, ◌∙◌, subst, take, get_or, length, ◌<◌, ◌≤◌, ◌+◌}
use Rattle.std.specs.Prelude.{IsOk, OnOk}
use Rattle.std.proofs.lemmas.List.{take_more, take_all}
use Rattle.express_words.specs.Calls.{Call}
use Rattle.express_words.specs.Seen.{Seen}
use Rattle.express_words.specs.declared.refusal.Refusal.{Refusal}
use Rattle.node_journal.specs.Disk.{DiskSeen}
use Rattle.step_rules.specs.ClientAsks as asks
use Rattle.client_restart.specs.Keeps.{KeepsNote, sight}
use Rattle.client_restart.specs.Notes.{Asked}
use Rattle.client_restart.specs.Steps.{EndedRequest}
use Rattle.kept_machine.specs.declared.fault.KeepFault.{KeepFault}
use Rattle.kept_errands.specs.declared.halt.Halt.{Halt}
use Rattle.kept_errands.specs.declared.halt.Halt.TheVariants as halt
use Rattle.kept_errands.specs.Steps.{NetFaultBy}
use Rattle.kept_errands.specs.Works.{IsEnded}
use Rattle.node_client.specs.declared.stop.Stop.TheVariants as stop
use Rattle.desk_ledger.specs.Works.{WorksAt}
use Rattle.desk_ledger.specs.declared.stored.Stored.{Stored}
use Rattle.desk_ledger.specs.declared.task.Task.{Task}
use Rattle.desk_ledger.specs.declared.task.Task.TheVariants.{Read}
use Rattle.desk_ledger.specs.Ledgers.{LedgerState}
use Rattle.desk_ledger.specs.Storing.{Stores, stored_of}
use Rattle.desk_ledger.specs.Tasks.{request_of}
use Rattle.desk_run.specs.declared.trouble.Trouble.{Trouble}
use Rattle.desk_run.specs.declared.trouble.Trouble.TheVariants as trouble
use Rattle.desk_run.specs.Ends.{IsCause}
use Rattle.desk_run.specs.Works.{DoesTask, Goes, OnSettled, ReadsEach, Settles, StoresAll, StoresOn, refused_by}
use Rattle.desk_run.specs.Works as works

-- ---- outcomes that are stored

-- what a store says of the outcomes that weren't stored before it
abbrev pub StoreSays : {D : Type 0} → ℕ → (old new : LedgerState D) → Result (Option Stored) KeepFault → Type 0
StoreSays seconds old new r =
    (e : EndedRequest) (rest : List EndedRequest) → old.client.core.untold ≡ e ∷ rest → Stores seconds e old new r

-- and of a desk that has none
abbrev pub NoneSays : {D : Type 0} → (old new : LedgerState D) → Result (Option Stored) KeepFault → Type 0
NoneSays old new r = old.client.core.untold ≡ [] → (r ≡ Ok None) × (new ≡ old)

step_by : {D : Type 0} (seconds : ℕ) (refused : Option Refusal) (start old new : LedgerState D) (s : Stored) (r : Result (Option Stored) KeepFault)
    (untold : List EndedRequest) → r ≡ Ok (Some s) → old.client.core.untold ≡ untold → StoresOn seconds start refused old
    → NoneSays old new r → StoreSays seconds old new r → StoresOn seconds start (refused_by refused s) new
step_by seconds refused start old new s r [] was is on none says =
    let no = sym was ∙ (none is).0 in absurd (cc no)
step_by seconds refused start old new s r (e ∷ rest) was is on none says =
    works.stored refused old new e rest s on is
    (subst (λ (x : Result (Option Stored) KeepFault). Stores seconds e old new x) was (says e rest is))

pub store_step : {D : Type 0} (seconds : ℕ) (refused : Option Refusal) (start old new : LedgerState D) (s : Stored)
    (r : Result (Option Stored) KeepFault) → r ≡ Ok (Some s) → StoresOn seconds start refused old → NoneSays old new r
    → StoreSays seconds old new r → StoresOn seconds start (refused_by refused s) new
store_step seconds refused start old new s r was on none says =
    step_by seconds refused start old new s r old.client.core.untold was refl on none says

end_by : {D : Type 0} (seconds : ℕ) (refused : Option Refusal) (start old new : LedgerState D)
    (r : Result (Option Stored) KeepFault)
    (untold : List EndedRequest) → r ≡ Ok None → old.client.core.untold ≡ untold → StoresOn seconds start refused old
    → NoneSays old new r → StoreSays seconds old new r → StoresAll start new refused
end_by seconds refused start old new r [] was is on none says =
    let same = (none is).1 in
    record {
      seconds = seconds;
      stores = subst (λ (l : LedgerState _). StoresOn seconds start refused l) (sym same) on;
      none_left = ap (λ (l : LedgerState _). l.client.core.untold) same ∙ is;
    }
end_by seconds refused start old new r (e ∷ rest) was is on none says =
    let stored = subst (λ (x : Result (Option Stored) KeepFault). Stores seconds e old new x) was (says e rest is) in
    let no : None ≡ Some (stored_of e) = stored.answer in
    absurd (cc no)

pub store_end : {D : Type 0} (seconds : ℕ) (refused : Option Refusal) (start old new : LedgerState D)
    (r : Result (Option Stored) KeepFault) → r ≡ Ok None → StoresOn seconds start refused old → NoneSays old new r
    → StoreSays seconds old new r → StoresAll start new refused
store_end seconds refused start old new r was on none says =
    end_by seconds refused start old new r old.client.core.untold was refl on none says

-- ---- a request

-- a cause of trouble is no refusal
pub cause_settles : (T : Type 0) (t : Trouble) (P : Option Refusal → Type 0) → IsCause t → OnSettled {T = T} (Err t) P
cause_settles T (trouble.Refused r) P cause = absurd (cause.not_refused r refl)
cause_settles T _ P cause = tt

pub settled_map : {T : Type 0} (r : Result T Trouble) (P Q : Option Refusal → Type 0)
    → ((refused : Option Refusal) → P refused → Q refused) → OnSettled r P → OnSettled r Q
settled_map (Ok done) P Q f p = f None p
settled_map (Err (trouble.Refused r)) P Q f p = f (Some r) p
settled_map (Err _) P Q f p = tt

-- where a request is asked, it is done once it is settled
pub does_asked : {D T : Type 0} (shows : D → DiskSeen) (counts : D → Seen) (t : Task) (refused : Option Refusal) (old asked new : LedgerState D)
    (before now : Option (List Call)) (x : T) → IsOk (asks.asked old.client.core.client (request_of t))
    → (IsOk (asks.asked old.client.core.client (request_of t))
    → KeepsNote {T = T} (Asked (request_of t)) (sight shows counts old.client) (sight shows counts asked.client) (Ok x))
    → asked.entries ≡ old.entries → asked.pair ≡ old.pair → Settles refused asked new before now → DoesTask t refused old new before now
does_asked shows counts t refused old asked new before now x accepted keeps entries pair settles = record {
  accepted = accepted;
  asked = asked;
  taken = (keeps accepted).step;
  entries = entries;
  pair = pair;
  opening = (keeps accepted).opening;
  settles = settles;
}

-- what is under way is settled
pub settles_so : {D : Type 0} (refused : Option Refusal) (old worked new : LedgerState D) (r : Result Unit Halt) (calls now : Option (List Call)) → r ≡ Ok tt
    → (old.client.core.client.current ≡ None → (r ≡ Ok tt) × (worked ≡ old) × (now ≡ calls))
    → (old.client.core.client.current ≢ None → WorksAt old.pair old.client.core worked.client.core r calls now)
    → (old.client.core.client.current ≢ None → OnOk r (IsEnded old.client.core worked.client.core))
    → worked.entries ≡ old.entries → worked.pair ≡ old.pair → worked.client.opening ≡ old.client.opening → StoresAll worked new refused
    → Settles refused old new calls now
settles_so refused old worked new r calls now was idle works ended entries pair opening stores = record {
  worked = worked;
  idle = λ none. ((idle none).1, (idle none).2);
  works = λ busy. subst (λ (x : Result Unit Halt). WorksAt old.pair old.client.core worked.client.core x calls now) was (works busy);
  ended = λ busy. subst (λ (x : Result Unit Halt). OnOk x (IsEnded old.client.core worked.client.core)) was (ended busy);
  entries = entries;
  pair = pair;
  opening = opening;
  stores = stores;
}

-- where a server would take the request later the net didn't fail
pub later_rests : (r : Result Unit Halt) (h : Halt) (old new : ℕ) → r ≡ Err h → NetFaultBy r old new → (refusal : Refusal)
    → h ≡ halt.Stop (stop.Later refusal) → new ≡ old
later_rests r h old new is by refusal later =
    subst (λ (x : Result Unit Halt). NetFaultBy x old new) (is ∙ ap (λ (x : Halt). Err x) later) by

-- ---- several

pub reads_more : {D : Type 0} (start l new : LedgerState D) (before mid now : Option (List Call)) (live : List ℕ) (i own d : ℕ)
    → i < length live → own ≡ get_or live i d → ReadsEach start before (take i live) l mid
    → DoesTask (Read own) None l new mid now → ReadsEach start before (take (i + 1) live) new now
reads_more start l new before mid now live i own d within at reads does =
    let more : take (i + 1) live ≡ take i live ++ own ∷ [] =
    take_more live i d within ∙ ap (λ (x : ℕ). take i live ++ x ∷ []) (sym at) in
    subst (λ (places : List ℕ). ReadsEach start before places new now) (sym more)
    (works.read (take i live) own l new mid now reads does)

pub reads_all : {D : Type 0} (start l : LedgerState D) (before now : Option (List Call)) (live : List ℕ) (i : ℕ)
    → length live ≤ i → ReadsEach start before (take i live) l now → ReadsEach start before live l now
reads_all start l before now live i few reads =
    subst (λ (places : List ℕ). ReadsEach start before places l now) (take_all i live few) reads
