-- A try that is taken up again.
use Rattle.std.proofs.Common.{◌≡◌, ◌≢◌, ◌<◌, ℕ, List, [], ◌∷◌, ◌++◌, Result, Ok, Err, sym, ap, ◌∙◌, subst, length}
use Rattle.std.specs.Prelude.{IfOk, IfErr}
use Rattle.step_rules.specs.Client.{Current}
use Rattle.std.specs.Prelude.{Option, Some}
use Rattle.mailbox_rules.specs.Requests.{Write}
use Rattle.node_journal.specs.Disk.{DiskSeen, IsUntouched}
use Rattle.node_journal.specs.Records.{IsUndamaged}
use Rattle.kept_machine.specs.declared.fault.KeepFault.{KeepFault}
use Rattle.kept_machine.specs.declared.fault.KeepFault.TheVariants.{Foreign, Journal, NoMemory}
use Rattle.client_restart.specs.declared.opening.ClientOpening.{ClientOpening}
use Rattle.kept_machine.specs.Faults.{CountsFault, IsNoMemoryOrForeign, OnForeign, OnNoMemory}
use Rattle.client_restart.specs.Kept.{HoldsNotes, HoldsWholeNotes, StandsByNotes}
use Rattle.client_restart.specs.Notes.{Noted}
use Rattle.client_restart.specs.Openings.{IsClientOpening}
use Rattle.client_restart.specs.Records.{AllNotes}
use Rattle.client_restart.specs.Steps.{CoreState, fold}
use Rattle.desk_texts.specs.declared.sheet.Sheet.{Sheet}
use Rattle.desk_texts.specs.Lines.{lines_in}
use Rattle.desk_texts.specs.Sheets.{sheet_of}
use Rattle.desk_texts.specs.Spelling.{SpellsSheet}
use Rattle.desk_outbox.specs.Begun.{IsBegun}
use Rattle.desk_outbox.specs.Outboxes.{IsTry, IsWrite}
use Rattle.desk_outbox.specs.Places.{place_record}
use Rattle.desk_outbox.specs.Reopening.{HasEnds, HoldsOnly, IfNothing, IsNoTry, IsNoTryOf, IsNoWhole, SpellsNoSheet, TellNothing, Tells}
use Rattle.desk_outbox.specs.declared.place.Place.{Place}
use Rattle.desk_outbox.specs.declared.reopening.Reopened.{Reopened}
use Rattle.desk_outbox.specs.declared.reopening.Reopened.TheVariants.{Whole, Nothing}

-- ---- the first and the last remark

heads : (a b : List ℕ) (l m : List (List ℕ)) → a ∷ l ≡ b ∷ m → (a ≡ b) × (l ≡ m)
heads a b l m e = (cc e, cc e)

pub lasts : (l m : List (List ℕ)) (a b : List ℕ) → l ++ a ∷ [] ≡ m ++ b ∷ [] → a ≡ b
lasts [] [] a b e = (heads a b [] [] e).0
lasts [] (y ∷ []) a b e = absurd (cc ((heads a y [] (b ∷ []) e).1))
lasts [] (y ∷ z ∷ m) a b e = absurd (cc ((heads a y [] (z ∷ m ++ b ∷ []) e).1))
lasts (x ∷ []) [] a b e = absurd (cc ((heads x b (a ∷ []) [] e).1))
lasts (x ∷ z ∷ l) [] a b e = absurd (cc ((heads x b (z ∷ l ++ a ∷ []) [] e).1))
lasts (x ∷ l) (y ∷ m) a b e = lasts l m a b (heads x y (l ++ a ∷ []) (m ++ b ∷ []) e).1

pub one_first : (a b l m : List ℕ) (remarks : List (List ℕ)) → HasEnds a l remarks → HasEnds b m remarks → a ≡ b
one_first a b l m remarks x y = (heads a b _ _ (sym x.is ∙ y.is)).0

pub one_last : (a b l m : List ℕ) (remarks : List (List ℕ)) → HasEnds a l remarks → HasEnds b m remarks → l ≡ m
one_last a b l m remarks x y = lasts x.between y.between l m (heads a b _ _ (sym x.is ∙ y.is)).1

-- ---- the card and the place

same_first : (p q : Place) → place_record p ≡ place_record q → p.first ≡ q.first
same_first p q e = cc e

same_address : (p q : Place) → place_record p ≡ place_record q → p.address ≡ q.address
same_address p q e = cc e

one_sheet : (card other : Sheet) (r : Result Sheet ℕ) → r ≡ Ok card → r ≡ Ok other → card ≡ other
one_sheet card other r e g = cc (sym e ∙ g)

one_write : (n m : ℕ) (now : Option Current) → IsWrite n now → IsWrite m now → n ≡ m
one_write n m now a b =
    let same : Some (record { request = Write a.target a.message; step = a.step }) ≡ Some (record { request = Write b.target b.message; step = b.step }) = sym a.is ∙ b.is in
    let current : record { request = Write a.target a.message; step = a.step } ≡ record { request = Write b.target b.message; step = b.step } = cc same in
    let request : Write a.target a.message ≡ Write b.target b.message = ap (λ (x : Current). x.request) current in
    let message : a.message ≡ b.message = cc request in
    sym a.fits ∙ ap (λ (l : List ℕ). length l) message ∙ b.fits

-- what a whole try's remarks tell can be told of no other one
pub begun_of : (o : ClientOpening) (card other : Sheet) (place q : Place) (n : ℕ) (message : List ℕ) (now : Option Current) (remarks : List (List ℕ))
    → ((text : List ℕ) (sheet : Sheet) → SpellsSheet sheet text → sheet_of (lines_in text) ≡ Ok sheet) → IsClientOpening o → IsWrite n now → length message ≡ n
    → Tells remarks card place → Tells remarks other q → IsTry o other q now → IsBegun card place o message
begun_of o card other place q n message now remarks only is write fits told others t =
    let texts = one_first told.text others.text _ _ remarks told.ends others.ends in
    let records = one_last told.text others.text _ _ remarks told.ends others.ends in
    let sheet = only told.text card told.spells in
    let other_sheet = subst (λ (x : List ℕ). sheet_of (lines_in x) ≡ Ok other) (sym texts) (only others.text other others.spells) in
    let same : card ≡ other = one_sheet card other _ sheet other_sheet in
    let first : place.first ≡ q.first = same_first place q records in
    let address : place.address ≡ q.address = same_address place q records in
    let as_other : IsBegun other place o message = record {
      on_card = t.on_card;
      is_opening = is;
      first = subst (λ (x : ℕ). x < length other.addresses) (sym first) t.first;
      address = subst (λ (x : ℕ). x < length other.addresses) (sym address) t.address;
      few = t.few;
      fits = fits ∙ one_write n o.width now write t.write;
    } in
    subst (λ (x : Sheet). IsBegun x place o message) (sym same) as_other

-- ---- what a disk gives

abbrev pub Told : (List ℕ → Type 0) → ClientOpening → CoreState → Type 0
Told reads o k = (other : ClientOpening) (notes : List Noted) (c : List ℕ) → reads c → IsClientOpening other → AllNotes notes → HoldsNotes other notes reads
    → (o ≡ other) × (k ≡ fold other notes)

pub nothing_so : {D : Type 0} (reads : List ℕ → Type 0) (o : ClientOpening) (k : CoreState) (disk : D) (r : Result (Reopened D) (KeepFault × D)) → Told reads o k
    → IfOk r (IfNothing (λ d. (d ≡ disk) × IsNoTry k)) → IfOk r (IfNothing (λ d. HoldsOnly IsNoTryOf reads))
nothing_so reads o k disk (Ok (Whole w)) told n = tt
nothing_so reads o k disk (Ok (Nothing d)) told n = λ other notes c read is all held. subst IsNoTry (told other notes c read is all held).1 n.1
nothing_so reads o k disk (Err x) told n = tt

no_whole : (reads : List ℕ → Type 0) (o : ClientOpening) (k : CoreState) → Told reads o k → IsNoWhole o k → HoldsOnly IsNoWhole reads
no_whole reads o k told n = λ other notes c read is all held.
    let same = told other notes c read is all held in
    subst (λ (w : ClientOpening). IsNoWhole w (fold other notes)) same.0 (subst (λ (x : CoreState). IsNoWhole o x) same.1 n)

foreign_at : (reads : List ℕ → Type 0) (o : ClientOpening) (k : CoreState) (why : KeepFault) → Told reads o k
    → (why ≢ NoMemory → IsNoWhole o k) → OnForeign why (λ n. HoldsOnly IsNoWhole reads)
foreign_at reads o k (Foreign n) told f = no_whole reads o k told (f (λ e. absurd (cc e)))
foreign_at reads o k NoMemory told f = tt
foreign_at reads o k (Journal why) told f = tt

pub foreign_so : {D : Type 0} (reads : List ℕ → Type 0) (o : ClientOpening) (k : CoreState) (r : Result (Reopened D) (KeepFault × D)) → Told reads o k
    → IfErr r (λ x. x.0 ≢ NoMemory → IsNoWhole o k) → IfErr r (λ x. OnForeign x.0 (λ n. HoldsOnly IsNoWhole reads))
foreign_so reads o k (Ok x) told f = tt
foreign_so reads o k (Err x) told f = foreign_at reads o k x.0 told f

-- where the first remark spells no card, remarks tell none
pub tell_none : (text last : List ℕ) (remarks : List (List ℕ)) → HasEnds text last remarks → SpellsNoSheet text
    → TellNothing remarks
tell_none text last remarks ends none card place t =
    let same : t.text ∷ (t.ends.between ++ place_record place ∷ []) ≡ text ∷ (ends.between ++ last ∷ []) = sym t.ends.is ∙ ends.is in
    let first : t.text ≡ text = cc same in
    none card (subst (λ (x : List ℕ). SpellsSheet card x) first t.spells)

-- ---- the disk's faults

-- a want of memory, or a record of another form, is no fault of the disk
pub still_counts : (f : KeepFault) (before now : ℕ) → IsNoMemoryOrForeign f → now ≡ before → CountsFault before now f
still_counts NoMemory before now of same = same
still_counts (Foreign n) before now of same = same
still_counts (Journal why) before now of same = absurd of

-- ---- a want of memory

pub whole_notes : (limit : ℕ) (o : ClientOpening) (k : CoreState) (before now : DiskSeen) → IsClientOpening o → StandsByNotes o k before.reads
    → ((c : List ℕ) → now.reads c → IsUndamaged limit 0 c) → IsUntouched before now → HoldsWholeNotes limit before.reads
whole_notes limit o k before now is stands sound same = record {
  opening = o;
  is_opening = is;
  notes = stands.notes;
  whole = stands.whole;
  held = stands.held;
  undamaged = λ c read. sound c (same.still c read);
}

on_memory : (P : Type 0) (f : KeepFault) → P → OnNoMemory f P
on_memory P NoMemory is = is
on_memory P (Foreign n) is = tt
on_memory P (Journal why) is = tt

pub wants_memory : {X D : Type 0} (r : Result X (KeepFault × D)) (P : Type 0) → P → IfErr r (λ x. OnNoMemory x.0 P)
wants_memory (Ok x) P is = tt
wants_memory (Err x) P is = on_memory P x.0 is
