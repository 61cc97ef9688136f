-- A client that takes over boxes and remarks.
use Rattle.std.proofs.Common.{◌≡◌, ◌⊎◌, inl, inr, ℕ, List, [], ◌∷◌, ◌++◌, length, map, Option, Some, None, Ok, Bool, true, false, refl, sym, ◌∙◌, ap, subst, append_assoc}
use Rattle.std.specs.Prelude.{if◌then◌else◌, nat_le}
use Rattle.std.specs.List.{filter}
use Rattle.express_words.specs.Seen.{Seen}
use Rattle.node_journal.specs.Disk.{DiskSeen}
use Rattle.step_rules.specs.Client.{Current, opened_client}
use Rattle.step_rules.specs.ClientAsks.{owned_by, owning}
use Rattle.client_restart.specs.declared.opening.ClientOpening.{ClientOpening}
use Rattle.client_restart.specs.declared.owned_box.OwnedBox.{OwnedBox}
use Rattle.client_restart.specs.Keeps.{KeepsNote, sight}
use Rattle.client_restart.specs.Kept.{HoldsNotes, ClientState, StandsByNotes}
use Rattle.client_restart.specs.Notes.{Noted, Owned, Remark}
use Rattle.client_restart.specs.Steps.{CoreState, fold, owned, owned_with}
use Rattle.desk_entries.specs.declared.entry.Entry.{Entry}
use Rattle.desk_entries.specs.Forgetting.{kept}
use Rattle.desk_entries.specs.Records.{AreEntries, entry_record}
use Rattle.desk_ledger.specs.declared.pair.Pair.{Pair}
use Rattle.desk_ledger.specs.Forgetting.{GoesOn}
use Rattle.desk_ledger.specs.Ledgers.{IsDesk, IsOfPair}
use Rattle.desk_ledger.proofs.EntryLaws.{are_kept, pair_kept}

-- ---- a box more

abbrev pub with_box : CoreState → OwnedBox → CoreState
with_box k b = record k {
  client = record k.client { owned = k.client.owned ++ owned_by k.client b.number b.serial ∷ [] };
  boxes = k.boxes ++ b ∷ [];
}

pub own_by : (k : CoreState) (b : OwnedBox) → k.client.current ≡ None → nat_le k.client.capacity (length k.client.owned) ≡ false
    → owned k b.number b.serial ≡ with_box k b
unfolding owning
own_by k b idle room =
    ap (λ (c : Option Current). owned_with k b c (owning k.client b.number b.serial)) idle
    ∙ ap (λ (t : Bool). owned_with k b None (if t then None else Some (with_box k b).client)) room

-- ---- a call that noted something

pub goes_by : {D : Type 0} (shows : D → DiskSeen) (counts : D → Seen) (n : Noted) (old new : ClientState D) (k : CoreState)
    → KeepsNote {T = Unit {0}} n (sight shows counts old) (sight shows counts new) (Ok (tt {0})) → new.core ≡ k
    → k.client.current ≡ None → k.client.serial ≡ old.core.client.serial → k.untold ≡ old.core.untold → GoesOn shows old new
goes_by shows counts n old new k keeps is idle serial untold = record {
  opening = keeps.opening;
  idle = ap (λ (c : CoreState). c.client.current) is ∙ idle;
  serial = ap (λ (c : CoreState). c.client.serial) is ∙ serial;
  untold = ap (λ (c : CoreState). c.untold) is ∙ untold;
  stands = inr (λ still. subst (λ (o : ClientOpening). StandsByNotes o new.core (shows new.disk).reads) (sym keeps.opening) (keeps.stands still));
}

pub own_goes : {D : Type 0} (shows : D → DiskSeen) (counts : D → Seen) (b : OwnedBox) (old new : ClientState D)
    → KeepsNote {T = Unit {0}} (Owned b.number b.serial) (sight shows counts old) (sight shows counts new) (Ok (tt {0}))
    → old.core.client.current ≡ None → nat_le old.core.client.capacity (length old.core.client.owned) ≡ false
    → GoesOn shows old new × (new.core.boxes ≡ old.core.boxes ++ b ∷ []) × (new.core.remarks ≡ old.core.remarks)
own_goes shows counts b old new keeps idle room =
    let is : new.core ≡ with_box old.core b = keeps.step ∙ own_by old.core b idle room in (
      goes_by shows counts (Owned b.number b.serial) old new (with_box old.core b) keeps is idle refl refl,
      ap (λ (c : CoreState). c.boxes) is,
      ap (λ (c : CoreState). c.remarks) is,
    )

abbrev pub with_words : CoreState → List ℕ → CoreState
with_words k words = record k { remarks = k.remarks ++ words ∷ [] }

pub note_goes : {D : Type 0} (shows : D → DiskSeen) (counts : D → Seen) (words : List ℕ) (old new : ClientState D)
    → KeepsNote {T = Unit {0}} (Remark words) (sight shows counts old) (sight shows counts new) (Ok (tt {0}))
    → old.core.client.current ≡ None
    → GoesOn shows old new × (new.core.boxes ≡ old.core.boxes) × (new.core.remarks ≡ old.core.remarks ++ words ∷ [])
note_goes shows counts words old new keeps idle = (
  goes_by shows counts (Remark words) old new (with_words old.core words) keeps keeps.step idle refl refl,
  ap (λ (c : CoreState). c.boxes) keeps.step,
  ap (λ (c : CoreState). c.remarks) keeps.step,
)

-- ---- live boxes

by_live : (t : Bool) (b : OwnedBox) (base more : List OwnedBox)
    → (base ++ (if t then b ∷ [] else [])) ++ more ≡ base ++ (if t then b ∷ more else more)
by_live true b base more = append_assoc base (b ∷ []) more
by_live false b base more = append_assoc base [] more

pub more_live : (f : OwnedBox → Bool) (b : OwnedBox) (base more : List OwnedBox)
    → (base ++ filter f (b ∷ [])) ++ filter f more ≡ base ++ filter f (b ∷ more)
more_live f b base more = by_live (f b) b base (filter f more)

-- ---- a desk that follows

pub new_desk : (p : Pair) (entries : List Entry) (o : ClientOpening) (made now : CoreState)
    → AreEntries entries → IsOfPair p entries → made ≡ fold o [] → now.remarks ≡ made.remarks ++ map entry_record entries
    → IsDesk p entries now.remarks
new_desk p entries o made now are pair first told = record {
  are = are;
  told = told ∙ ap (λ (k : CoreState). k.remarks ++ map entry_record entries) first;
  pair = pair;
}

-- all entries of a desk
pub same_desk : (p q : Pair) (entries olds : List Entry) (remarks : List (List ℕ)) → IsDesk p olds remarks → entries ≡ olds → q ≡ p
    → AreEntries entries × IsOfPair q entries
same_desk p q entries olds remarks desk is same =
    subst (λ (l : List Entry). AreEntries l × IsOfPair q l) (sym is)
    (desk.are, subst (λ (x : Pair). IsOfPair x olds) (sym same) desk.pair)

-- the entries that are kept of a desk
pub kept_desk : (p q : Pair) (entries olds : List Entry) (remarks : List (List ℕ)) → IsDesk p olds remarks → entries ≡ kept olds → q ≡ p
    → AreEntries entries × IsOfPair q entries
kept_desk p q entries olds remarks desk is same =
    subst (λ (l : List Entry). AreEntries l × IsOfPair q l) (sym is)
    (are_kept olds desk.are, subst (λ (x : Pair). IsOfPair x (kept olds)) (sym same) (pair_kept p olds desk.pair))

pub new_stands : {D : Type 0} (shows : D → DiskSeen) (o : ClientOpening) (made now : ClientState D) → made.opening ≡ o → made.core ≡ fold o []
    → HoldsNotes o [] (shows made.disk).reads → GoesOn shows made now → now.journal.closed ≡ false
    → StandsByNotes now.opening now.core (shows now.disk).reads
new_stands shows o made now opened first held goes still = either goes.stands
  where
    stood : StandsByNotes made.opening made.core (shows made.disk).reads
    stood = subst (λ (p : ClientOpening). StandsByNotes p made.core (shows made.disk).reads) (sym opened)
        (record { notes = []; whole = tt; folded = first; held = held })

    either : (now ≡ made) ⊎ (now.journal.closed ≡ false → StandsByNotes now.opening now.core (shows now.disk).reads)
        → StandsByNotes now.opening now.core (shows now.disk).reads
    either (inl same) = subst (λ (k : ClientState _). StandsByNotes k.opening k.core (shows k.disk).reads) (sym same) stood
    either (inr stands) = stands still

pub first_client : (o : ClientOpening) → ((fold o []).client.serial ≡ o.first_serial) × ((fold o []).client.current ≡ None)
unfolding opened_client
first_client o = (refl, refl)

pub first_room : (o : ClientOpening) → ((fold o []).client.capacity ≡ o.capacity) × (length (fold o []).client.owned ≡ 0)
unfolding opened_client
first_room o = (refl, refl)

pub new_serial : {D : Type 0} (shows : D → DiskSeen) (o : ClientOpening) (made now : ClientState D) → made.core ≡ fold o [] → GoesOn shows made now
    → (now.core.client.serial ≡ o.first_serial) × (now.core.untold ≡ [])
new_serial shows o made now first goes = (
  goes.serial ∙ ap (λ (k : CoreState). k.client.serial) first ∙ (first_client o).0,
  goes.untold ∙ ap (λ (k : CoreState). k.untold) first,
)
