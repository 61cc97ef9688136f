-- What a call leaves of the room of a new client, and why it is refused.
use Rattle.std.proofs.Common.{◌≡◌, ◌≢◌, inl, inr, ℕ, ◌+◌, ◌<◌, ◌≤◌, Bool, true, false, List, [], ◌∷◌, length, None, Result, Ok, Err, refl, sym, ◌∙◌, ap, subst, arith, length-append}
use Rattle.std.specs.Prelude.{nat_le}
use Rattle.std.specs.List.{filter, sum_by}
use Rattle.std.proofs.Math.Nat.{lt_of_not-le}
use Rattle.std.proofs.lemmas.Bool.Decides.{nat_tests}
use Rattle.std.proofs.lemmas.List.Sums.{sum_by-append}
use Rattle.express_words.specs.Seen.{Seen}
use Rattle.node_journal.specs.Disk.{DiskSeen}
use Rattle.node_journal.specs.Journal.{JournalState}
use Rattle.node_journal.specs.declared.fault.JournalFault.TheVariants.{Closed, NotEmpty, Full, Disk, Damaged}
use Rattle.kept_machine.specs.declared.fault.KeepFault.{KeepFault}
use Rattle.kept_machine.specs.declared.fault.KeepFault.TheVariants.{Journal, NoMemory, Foreign}
use Rattle.client_restart.specs.declared.owned_box.OwnedBox.{OwnedBox}
use Rattle.kept_machine.specs.Faults.{IsOfCreate, OnFull, OnNotEmpty}
use Rattle.client_restart.specs.Keeps.{KeepsNote, sight}
use Rattle.client_restart.specs.Kept.{ClientState}
use Rattle.client_restart.specs.Notes.{Noted, Owned, Remark, size_of}
use Rattle.client_restart.specs.Steps.{CoreState}
use Rattle.desk_entries.specs.declared.entry.Entry.{Entry}
use Rattle.desk_entries.specs.Records.{entry_record}
use Rattle.desk_ledger.specs.declared.fault.ForgetFault.{ForgetFault}
use Rattle.desk_ledger.specs.declared.fault.ForgetFault.TheVariants as forget
use Rattle.desk_ledger.specs.Forgetting.{IsOfFollowing, IsOfJudging}
use Rattle.desk_ledger.specs.Handing.{IsOfHandOver, LacksRoom, OnKeeping, OnMaking, TakesOver, box_bytes, entry_bytes}
use Rattle.desk_ledger.proofs.ForgetLaws.{more_live, own_by, with_box}

-- ---- one record

abbrev Keeps : {D : Type 0} → (D → DiskSeen) → (D → Seen) → Noted → (old new : ClientState D) → Type 0
Keeps shows counts note old new = KeepsNote {T = Unit {0}} note (sight shows counts old) (sight shows counts new) (Ok (tt {0}))

abbrev Fails : {D : Type 0} → (D → DiskSeen) → (D → Seen) → Noted → (old new : ClientState D) → KeepFault → Type 0
Fails shows counts note old new f = KeepsNote {T = Unit {0}} note (sight shows counts old) (sight shows counts new) (Err f)

pub own_takes : {D : Type 0} (shows : D → DiskSeen) (counts : D → Seen) (b : OwnedBox) (old new : ClientState D)
    → Keeps shows counts (Owned b.number b.serial) old new → old.core.client.current ≡ None
    → nat_le old.core.client.capacity (length old.core.client.owned) ≡ false → old.journal.closed ≡ false
    → TakesOver 1 (box_bytes b) old new
own_takes shows counts b old new keeps idle room still =
    let is : new.core ≡ with_box old.core b = keeps.step ∙ own_by old.core b idle room in
    let ends = ap (λ (j : JournalState). j.end) keeps.longer in
    record {
      capacity = ap (λ (c : CoreState). c.client.capacity) is;
      owned = ap (λ (c : CoreState). length c.client.owned) is ∙ length-append old.core.client.owned _;
      limit = ap (λ (j : JournalState). j.limit) keeps.longer;
      end = omega (arith, ends);
      is_open = ap (λ (j : JournalState). j.closed) keeps.longer ∙ still;
    }

pub note_takes : {D : Type 0} (shows : D → DiskSeen) (counts : D → Seen) (e : Entry) (words : List ℕ) (old new : ClientState D)
    → words ≡ entry_record e → Keeps shows counts (Remark words) old new → old.journal.closed ≡ false
    → TakesOver 0 (entry_bytes e) old new
note_takes shows counts e words old new said keeps still =
    let ends = ap (λ (j : JournalState). j.end) keeps.longer in
    let size : size_of (Remark words) ≡ size_of (Remark (entry_record e)) = ap (λ (l : List ℕ). size_of (Remark l)) said in
    record {
      capacity = ap (λ (c : CoreState). c.client.capacity) keeps.step;
      owned = ap (λ (c : CoreState). length c.client.owned) keeps.step ∙ omega arith;
      limit = ap (λ (j : JournalState). j.limit) keeps.longer;
      end = omega (arith, ends, size);
      is_open = ap (λ (j : JournalState). j.closed) keeps.longer ∙ still;
    }

-- ---- a record that isn't kept

pub no_room : {D : Type 0} (bytes : ℕ) (k : ClientState D) → nat_le k.core.client.capacity (length k.core.client.owned) ≡ true
    → LacksRoom 1 bytes k forget.NoRoom
no_room bytes k full = grind (arith, nat_tests, full)

abbrev failed : KeepFault → Result (Unit {0}) KeepFault
failed f = Err f

other : {P : Type 0} (f g : KeepFault) → (f ≡ g → ⊥) → failed f ≡ failed g → P
other f g differ same = let is : f ≡ g = cc same in absurd (differ is)

-- the fault of a note that isn't kept in an open journal
pub lacks_by : {D : Type 0} (shows : D → DiskSeen) (counts : D → Seen) (boxes bytes : ℕ) (note : Noted) (old new : ClientState D) (f : KeepFault)
    → Fails shows counts note old new f → old.journal.closed ≡ false → bytes ≡ 5 + size_of note → LacksRoom boxes bytes old (forget.Keep f)
lacks_by shows counts boxes bytes note old new NoMemory fails still is = tt
lacks_by shows counts boxes bytes note old new (Journal (Disk n)) fails still is = tt
lacks_by shows counts boxes bytes note old new (Journal (Full end)) fails still is =
    let lacks = lt_of_not-le (λ has. (fails.judged.fits (λ h. other _ _ (λ e. cc e) h) still has).0) in omega (arith, lacks, is)
lacks_by shows counts boxes bytes note old new (Journal Closed) fails still is =
    let memory : failed (Journal Closed) ≡ failed NoMemory → ⊥ = λ h. other _ _ (λ e. cc e) h in
    let lacks = lt_of_not-le (λ has. (fails.judged.fits memory still has).0) in
    other _ _ (λ e. cc e) (fails.judged.full still lacks)
lacks_by shows counts boxes bytes note old new (Journal NotEmpty) fails still is =
    let memory : failed (Journal NotEmpty) ≡ failed NoMemory → ⊥ = λ h. other _ _ (λ e. cc e) h in
    let lacks = lt_of_not-le (λ has. (fails.judged.fits memory still has).0) in
    other _ _ (λ e. cc e) (fails.judged.full still lacks)
lacks_by shows counts boxes bytes note old new (Journal (Damaged at)) fails still is =
    let memory : failed (Journal (Damaged at)) ≡ failed NoMemory → ⊥ = λ h. other _ _ (λ e. cc e) h in
    let lacks = lt_of_not-le (λ has. (fails.judged.fits memory still has).0) in
    other _ _ (λ e. cc e) (fails.judged.full still lacks)
lacks_by shows counts boxes bytes note old new (Foreign n) fails still is =
    let memory : failed (Foreign n) ≡ failed NoMemory → ⊥ = λ h. other _ _ (λ e. cc e) h in
    let lacks = lt_of_not-le (λ has. (fails.judged.fits memory still has).0) in
    other _ _ (λ e. cc e) (fails.judged.full still lacks)

pub own_lacks : {D : Type 0} (shows : D → DiskSeen) (counts : D → Seen) (b : OwnedBox) (old new : ClientState D) (f : KeepFault)
    → Fails shows counts (Owned b.number b.serial) old new f → old.journal.closed ≡ false → LacksRoom 1 (box_bytes b) old (forget.Keep f)
own_lacks shows counts b old new f fails still =
    lacks_by shows counts 1 (box_bytes b) (Owned b.number b.serial) old new f fails still refl

pub note_lacks : {D : Type 0} (shows : D → DiskSeen) (counts : D → Seen) (e : Entry) (words : List ℕ) (old new : ClientState D) (f : KeepFault)
    → words ≡ entry_record e → Fails shows counts (Remark words) old new f → old.journal.closed ≡ false
    → LacksRoom 0 (entry_bytes e) old (forget.Keep f)
note_lacks shows counts e words old new f said fails still =
    lacks_by shows counts 0 (entry_bytes e) (Remark words) old new f fails still
    (ap (λ (l : List ℕ). 5 + size_of (Remark l)) (sym said))

-- ---- several records

-- what is in the way of less is in the way of more
pub lacks_more : {D : Type 0} (k first : ClientState D) (boxes bytes all whole : ℕ) (f : ForgetFault) → LacksRoom boxes bytes k f
    → k.core.client.capacity ≡ first.core.client.capacity
    → length k.core.client.owned + boxes ≤ length first.core.client.owned + all
    → k.journal.limit ≡ first.journal.limit → k.journal.end + bytes ≤ first.journal.end + whole
    → LacksRoom all whole first f
lacks_more k first boxes bytes all whole forget.NoRoom lacks capacity owned limit end = omega (arith, lacks, capacity, owned)
lacks_more k first boxes bytes all whole (forget.Keep (Journal (Full at))) lacks capacity owned limit end = omega (arith, lacks, limit, end)
lacks_more k first boxes bytes all whole (forget.Keep (Journal (Disk n))) lacks capacity owned limit end = tt
lacks_more k first boxes bytes all whole (forget.Keep NoMemory) lacks capacity owned limit end = tt
lacks_more k first boxes bytes all whole (forget.Keep (Journal Closed)) lacks capacity owned limit end = lacks
lacks_more k first boxes bytes all whole (forget.Keep (Journal NotEmpty)) lacks capacity owned limit end = lacks
lacks_more k first boxes bytes all whole (forget.Keep (Journal (Damaged at))) lacks capacity owned limit end = lacks
lacks_more k first boxes bytes all whole (forget.Keep (Foreign n)) lacks capacity owned limit end = lacks
lacks_more k first boxes bytes all whole forget.Busy lacks capacity owned limit end = lacks
lacks_more k first boxes bytes all whole forget.Spent lacks capacity owned limit end = lacks
lacks_more k first boxes bytes all whole forget.Unseen lacks capacity owned limit end = lacks

-- the live ones among a box and those behind it
pub live_count : (f : OwnedBox → Bool) (b : OwnedBox) (rest : List OwnedBox)
    → length (filter f (b ∷ [])) + length (filter f rest) ≡ length (filter f (b ∷ rest))
live_count f b rest =
    sym (length-append (filter f (b ∷ [])) (filter f rest)) ∙ ap (λ (l : List OwnedBox). length l) (more_live f b [] rest)

pub live_bytes : (f : OwnedBox → Bool) (b : OwnedBox) (rest : List OwnedBox)
    → sum_by box_bytes (filter f (b ∷ [])) + sum_by box_bytes (filter f rest) ≡ sum_by box_bytes (filter f (b ∷ rest))
live_bytes f b rest =
    sym (sum_by-append box_bytes (filter f (b ∷ [])) (filter f rest)) ∙ ap (λ (l : List OwnedBox). sum_by box_bytes l) (more_live f b [] rest)

-- ---- a ledger that is made

pub lacks_hand : {D : Type 0} (boxes bytes : ℕ) (k : ClientState D) (f : ForgetFault) → LacksRoom boxes bytes k f → IsOfHandOver f
lacks_hand boxes bytes k forget.NoRoom lacks = tt
lacks_hand boxes bytes k (forget.Keep fault) lacks = tt
lacks_hand boxes bytes k forget.Busy lacks = lacks
lacks_hand boxes bytes k forget.Spent lacks = lacks
lacks_hand boxes bytes k forget.Unseen lacks = lacks

pub lacks_making : {D : Type 0} (capacity limit : ℕ) (reads : List ℕ → Type 0) (boxes : List OwnedBox) (entries : List Entry) (made : ClientState D)
    (f : ForgetFault) → LacksRoom (length boxes) (sum_by box_bytes boxes + sum_by entry_bytes entries) made f
    → made.core.client.capacity ≡ capacity → length made.core.client.owned ≡ 0 → made.journal.limit ≡ limit → made.journal.end ≡ 52
    → OnMaking capacity limit reads boxes entries f
lacks_making capacity limit reads boxes entries made forget.NoRoom lacks c o l e = omega (arith, lacks, c, o)
lacks_making capacity limit reads boxes entries made (forget.Keep (Journal (Full at))) lacks c o l e = omega (arith, lacks, l, e)
lacks_making capacity limit reads boxes entries made (forget.Keep (Journal (Disk n))) lacks c o l e = tt
lacks_making capacity limit reads boxes entries made (forget.Keep NoMemory) lacks c o l e = tt
lacks_making capacity limit reads boxes entries made (forget.Keep (Journal Closed)) lacks c o l e = lacks
lacks_making capacity limit reads boxes entries made (forget.Keep (Journal NotEmpty)) lacks c o l e = absurd lacks
lacks_making capacity limit reads boxes entries made (forget.Keep (Journal (Damaged at))) lacks c o l e = lacks
lacks_making capacity limit reads boxes entries made (forget.Keep (Foreign n)) lacks c o l e = lacks
lacks_making capacity limit reads boxes entries made forget.Busy lacks c o l e = tt
lacks_making capacity limit reads boxes entries made forget.Spent lacks c o l e = tt
lacks_making capacity limit reads boxes entries made forget.Unseen lacks c o l e = tt

pub create_keeping : (limit : ℕ) (reads : List ℕ → Type 0) (boxes : List OwnedBox) (entries : List Entry) (f : KeepFault)
    → IsOfCreate f → OnNotEmpty f ((c : List ℕ) → reads c → c ≢ []) → (P : Type 0) → OnFull f (λ n. (n ≡ 0) × (limit < 53) × P)
    → OnKeeping limit reads boxes entries f
create_keeping limit reads boxes entries NoMemory of empty P full = tt
create_keeping limit reads boxes entries (Journal NotEmpty) of empty P full = empty
create_keeping limit reads boxes entries (Journal (Full at)) of empty P full = let few = full.1 in omega (arith, few)
create_keeping limit reads boxes entries (Journal (Disk n)) of empty P full = tt
create_keeping limit reads boxes entries (Journal Closed) of empty P full = of
create_keeping limit reads boxes entries (Journal (Damaged at)) of empty P full = of
create_keeping limit reads boxes entries (Foreign n) of empty P full = of

-- what is in the way before anything is made
pub following_making : (capacity limit : ℕ) (reads : List ℕ → Type 0) (boxes : List OwnedBox) (entries : List Entry) (f : ForgetFault)
    → IsOfFollowing f → OnMaking capacity limit reads boxes entries f
following_making capacity limit reads boxes entries f (inl busy) = subst (OnMaking capacity limit reads boxes entries) (sym busy) tt
following_making capacity limit reads boxes entries f (inr (inl spent)) = subst (OnMaking capacity limit reads boxes entries) (sym spent) tt
following_making capacity limit reads boxes entries f (inr (inr memory)) = subst (OnMaking capacity limit reads boxes entries) (sym memory) tt

pub judged_making : (capacity limit : ℕ) (reads : List ℕ → Type 0) (boxes : List OwnedBox) (entries : List Entry) (f : ForgetFault)
    → IsOfJudging f → OnMaking capacity limit reads boxes entries f
judged_making capacity limit reads boxes entries f (inl unseen) = subst (OnMaking capacity limit reads boxes entries) (sym unseen) tt
judged_making capacity limit reads boxes entries f (inr rest) = following_making capacity limit reads boxes entries f rest
