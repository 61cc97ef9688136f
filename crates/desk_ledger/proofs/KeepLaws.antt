-- What a call that notes something leaves of a desk.
use Rattle.std.proofs.Common.{◌≡◌, inl, inr, ℕ, List, [], ◌∷◌, ◌++◌, Result, Ok, Err, false, refl, sym, ◌∙◌, ap, subst}
use Rattle.express_words.specs.Seen.{Seen}
use Rattle.node_journal.specs.Disk.{DiskSeen}
use Rattle.node_journal.specs.declared.fault.JournalFault.TheVariants.{Closed, NotEmpty, Full, Disk, Damaged}
use Rattle.kept_machine.specs.declared.fault.KeepFault.{KeepFault}
use Rattle.kept_machine.specs.declared.fault.KeepFault.TheVariants.{Journal, NoMemory, Foreign}
use Rattle.kept_machine.specs.Faults.{OnStill}
use Rattle.client_restart.specs.declared.opening.ClientOpening.{ClientOpening}
use Rattle.client_restart.specs.Keeps.{KeepsNote, sight}
use Rattle.client_restart.specs.Kept.{ClientState, StandsByNotes}
use Rattle.client_restart.specs.Notes.{Noted, Remark}
use Rattle.client_restart.specs.Steps.{CoreState}
use Rattle.desk_entries.specs.declared.entry.Entry.{Entry}
use Rattle.desk_entries.specs.Records.{IsEntry, entry_record}
use Rattle.desk_ledger.specs.declared.pair.Pair.{Pair}
use Rattle.desk_ledger.specs.Ledgers.{EntriesOnly, IsDesk, LedgerState}
use Rattle.desk_ledger.specs.Notes.{Notes}
use Rattle.desk_ledger.proofs.DeskLaws.{desk_push}

-- ---- what stands on the disk

pub stands_on : {D T : Type 0} (shows : D → DiskSeen) (counts : D → Seen) (n : Noted) (old new : ClientState D) (r : Result T KeepFault)
    → KeepsNote {T = T} n (sight shows counts old) (sight shows counts new) r
    → new.journal.closed ≡ false → StandsByNotes new.opening new.core (shows new.disk).reads
stands_on shows counts n old new r keeps still =
    subst (λ (o : ClientOpening). StandsByNotes o new.core (shows new.disk).reads) (sym keeps.opening) (keeps.stands still)

-- ---- a note

pub desk_noted : {D : Type 0} (shows : D → DiskSeen) (counts : D → Seen) (p : Pair) (entries : List Entry) (e : Entry) (words : List ℕ) (old new : ClientState D)
    → words ≡ entry_record e → IsEntry e → IsDesk p entries old.core.remarks
    → KeepsNote {T = Unit {0}} (Remark words) (sight shows counts old) (sight shows counts new) (Ok (tt {0}))
    → IsDesk p (entries ++ e ∷ []) new.core.remarks
desk_noted shows counts p entries e words old new said is desk keeps =
    desk_push p entries old.core.remarks new.core.remarks e is desk
    (ap (λ (c : CoreState). c.remarks) keeps.step ∙ ap (λ (l : List ℕ). old.core.remarks ++ l ∷ []) said)

pub keeps_record : {D T : Type 0} (shows : D → DiskSeen) (counts : D → Seen) (e : Entry) (words : List ℕ) (old new : ClientState D) (r : Result T KeepFault)
    → words ≡ entry_record e → KeepsNote {T = T} (Remark words) (sight shows counts old) (sight shows counts new) r
    → KeepsNote {T = T} (Remark (entry_record e)) (sight shows counts old) (sight shows counts new) r
keeps_record shows counts e words old new r said keeps =
    subst (λ (l : List ℕ). KeepsNote {T = _} (Remark l) (sight shows counts old) (sight shows counts new) r) said keeps

pub not_noted : {D : Type 0} (shows : D → DiskSeen) (counts : D → Seen) (e : Entry) (words : List ℕ) (p : Pair) (entries now : List Entry)
    (was k : ClientState D) (old s : LedgerState D) (f : KeepFault)
    → record { pair = p; entries = entries; client = was } ≡ old → s ≡ record { pair = p; entries = now; client = k } → now ≡ entries → words ≡ entry_record e
    → KeepsNote {T = Unit {0}} (Remark words) (sight shows counts was) (sight shows counts k) (Err f)
    → Notes {T = Unit {0}} shows counts e old s (Err f)
not_noted shows counts e words p entries now was k old s f old_is s_is same said keeps =
    let before : LedgerState _ = record { pair = p; entries = entries; client = was } in
    let behind : LedgerState _ = record { pair = p; entries = now; client = k } in
    let so : Notes {T = Unit {0}} shows counts e before behind (Err f) =
    record { added = tt; none_added = same; pair = refl; keeps = inr (keeps_record shows counts e words was k (Err f) said keeps) } in
    subst (λ (x : LedgerState _). Notes {T = Unit {0}} shows counts e x s (Err f)) old_is
    (subst (λ (x : LedgerState _). Notes {T = Unit {0}} shows counts e before x (Err f)) (sym s_is) so)

still_so : {P Q : Type 0} (f : KeepFault) → (P → Q) → OnStill {T = Unit {0}} (Err f) P → OnStill {T = Unit {0}} (Err f) Q
still_so (Journal Closed) so p = so p
still_so (Journal (Full end)) so p = so p
still_so NoMemory so p = so p
still_so (Journal NotEmpty) so p = tt
still_so (Journal (Disk n)) so p = tt
still_so (Journal (Damaged at)) so p = tt
still_so (Foreign n) so p = tt

pub not_stayed : {D : Type 0} (p : Pair) (entries now : List Entry) (was k : ClientState D) (old s : LedgerState D) (f : KeepFault)
    → record { pair = p; entries = entries; client = was } ≡ old → s ≡ record { pair = p; entries = now; client = k } → now ≡ entries
    → OnStill {T = Unit {0}} (Err f) (k ≡ was) → OnStill {T = Unit {0}} (Err f) (s ≡ old)
not_stayed p entries now was k old s f old_is s_is same stays =
    still_so f (λ client. s_is
    ∙ ap (λ (l : List Entry). let t : LedgerState _ = record { pair = p; entries = l; client = k } in t) same
    ∙ ap (λ (x : ClientState _). let t : LedgerState _ = record { pair = p; entries = entries; client = x } in t) client
    ∙ old_is) stays

-- ---- what a note leaves as it was

pub entries_rest : {D : Type 0} (l : LedgerState D) → EntriesOnly l l
entries_rest l = record { pair = refl; opening = refl; boxes = refl; client = refl; untold = refl }

pub entries_same : {D : Type 0} (old new : LedgerState D) → new ≡ old → EntriesOnly old new
entries_same old new same = subst (λ (l : LedgerState _). EntriesOnly old l) (sym same) (entries_rest old)

entries_kept : {D T : Type 0} (shows : D → DiskSeen) (counts : D → Seen) (e : Entry) (old new : LedgerState D) (r : Result T KeepFault)
    → new.pair ≡ old.pair → KeepsNote {T = T} (Remark (entry_record e)) (sight shows counts old.client) (sight shows counts new.client) r
    → EntriesOnly old new
entries_kept shows counts e old new (Ok done) pair keeps = record {
  pair = pair;
  opening = keeps.opening;
  boxes = ap (λ (k : CoreState). k.boxes) keeps.step;
  client = ap (λ (k : CoreState). k.client) keeps.step;
  untold = ap (λ (k : CoreState). k.untold) keeps.step;
}
entries_kept shows counts e old new (Err f) pair keeps = record {
  pair = pair;
  opening = keeps.opening;
  boxes = ap (λ (k : CoreState). k.boxes) keeps.no_step;
  client = ap (λ (k : CoreState). k.client) keeps.no_step;
  untold = ap (λ (k : CoreState). k.untold) keeps.no_step;
}

pub entries_only : {D T : Type 0} (shows : D → DiskSeen) (counts : D → Seen) (e : Entry) (old new : LedgerState D) (r : Result T KeepFault)
    → Notes {T = T} shows counts e old new r → EntriesOnly old new
entries_only shows counts e old new r notes = elim notes.keeps [
  | inl none ↦ entries_same old new none.1
  | inr keeps ↦ entries_kept shows counts e old new r notes.pair keeps
]
