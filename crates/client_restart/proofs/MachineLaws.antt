-- What a client's records give.
use Rattle.std.proofs.Common.{◌≡◌, inl, inr, ℕ, ◌+◌, List, [], ◌∷◌, ◌++◌, map, length, refl, sym, ◌∙◌, ap, subst, arith}
use Rattle.node_journal.specs.Disk.{DiskSeen, LeavesOnly}
use Rattle.node_journal.specs.Records.{records_from, LeavesNoneOrFirst}
use Rattle.kept_machine.specs.Machines as machine
use Rattle.kept_machine.specs.Machines.{All, IsForm, Runs}
use Rattle.kept_machine.specs.Kept as kept
use Rattle.client_restart.specs.declared.machine.OpenedClient.{OpenedClient}
use Rattle.client_restart.specs.declared.opening.ClientOpening.{ClientOpening}
use Rattle.client_restart.specs.Cores.{core_in}
use Rattle.client_restart.specs.Kept.{HasNotesBefore, HoldsWholeNotes, IsDamagedBehindNotes, MakesOnly, StandsByNotes}
use Rattle.client_restart.specs.Machines.{IsNoteRecord, client_rules}
use Rattle.client_restart.specs.Notes.{Noted, note_record}
use Rattle.client_restart.specs.Openings.{IsClientOpening, opening_record}
use Rattle.client_restart.specs.Records.{AllNotes, IsForeign, records_of}
use Rattle.client_restart.specs.Steps.{CoreState, fold, fold_from}

-- ---- the notes that records are

pub notes_of : (records : List (List ℕ)) → All IsNoteRecord records → (notes : List Noted) × AllNotes notes × (records ≡ map note_record notes)
notes_of [] all = ([], tt, refl)
notes_of (bytes ∷ records) all =
    let rest = notes_of records all.1 in
    let one = all.0 in (
      one.note ∷ rest.0,
      (one.whole, rest.1),
      ap (λ (x : List ℕ). x ∷ records) one.is ∙ ap (λ (l : List (List ℕ)). note_record one.note ∷ l) rest.2,
    )

pub are_notes : (notes : List Noted) → AllNotes notes → All IsNoteRecord (map note_record notes)
are_notes [] all = tt
are_notes (n ∷ notes) all = (record { note = n; whole = all.0; is = refl }, are_notes notes all.1)

-- records of the form are those of an opening and of notes
pub record IsOf (records : List (List ℕ)) : Type 0 where
  pub opening : ClientOpening
  pub is_opening : IsClientOpening opening
  pub notes : List Noted
  pub whole : AllNotes notes
  pub is : records ≡ records_of opening notes

pub of_form : (records : List (List ℕ)) → IsForm client_rules records → IsOf records
of_form records form =
    let first = form.is_opening in
    let later = notes_of form.later form.are_records in
    record {
      opening = first.opening;
      is_opening = first.is_opening;
      notes = later.0;
      whole = later.1;
      is = form.split ∙ ap (λ (x : List ℕ). x ∷ form.later) first.is ∙ ap (λ (l : List (List ℕ)). opening_record first.opening ∷ l) later.2;
    }

pub form_of : (o : ClientOpening) (notes : List Noted) → IsClientOpening o → AllNotes notes → IsForm client_rules (records_of o notes)
form_of o notes is all = record {
  first = opening_record o;
  is_opening = record { opening = o; is_opening = is; is = refl };
  later = map note_record notes;
  are_records = are_notes notes all;
  split = refl;
}

-- ---- records of another form

pub foreign_of : (n : ℕ) (records : List (List ℕ)) → machine.IsForeign client_rules n records → IsForeign n records
foreign_of n records (inl lacks) = inl (lacks.0, λ o rest is same. lacks.1 (opening_record o) rest (record { opening = o; is_opening = is; is = refl }) same)
foreign_of n records (inr f) =
    let of = of_form f.before f.form in
    inr (record {
      opening = of.opening;
      is_opening = of.is_opening;
      notes = of.notes;
      whole = of.whole;
      foreign = f.foreign;
      no_note = λ n whole is. f.no_record (record { note = n; whole = whole; is = is });
      rest = f.rest;
      split = f.split ∙ ap (λ (l : List (List ℕ)). l ++ f.foreign ∷ f.rest) of.is;
      place = f.place ∙ ap (λ (l : List (List ℕ)). length l) of.is ∙ counted of.opening of.notes;
    })
  where
    counted : (o : ClientOpening) (notes : List Noted) → length (records_of o notes) ≡ length notes + 1
    counted o [] = refl
    counted o (n ∷ notes) = let rest = counted o notes in omega (arith, rest)

pub damaged_of : (limit n : ℕ) (c : List ℕ) → kept.IsDamagedAt client_rules limit n c → IsDamagedBehindNotes limit n c
damaged_of limit n c d = record { found = d.found; before = elim d.before [ inl front ↦ inl front | inr b ↦ inr (behind b) ] }
  where
    behind : kept.HasBefore client_rules n c → HasNotesBefore n c
    behind b =
        let of = of_form b.before b.form in
        record {
          opening = of.opening;
          is_opening = of.is_opening;
          notes = of.notes;
          whole = of.whole;
          split = b.split ∙ ap (λ (l : List (List ℕ)). l ++ records_from n c) of.is;
        }

pub whole_of : (limit : ℕ) (reads : List ℕ → Type 0) → kept.HoldsWhole client_rules limit reads → HoldsWholeNotes limit reads
whole_of limit reads w =
    let of = of_form w.records w.form in
    record {
      opening = of.opening;
      is_opening = of.is_opening;
      notes = of.notes;
      whole = of.whole;
      held = λ c read. w.held c read ∙ of.is;
      undamaged = w.undamaged;
    }

-- ---- the client that records give

runs_fold : (before : OpenedClient) (records : List (List ℕ)) (now : OpenedClient) → Runs client_rules before records now
    → (notes : List Noted) × AllNotes notes × (records ≡ map note_record notes) × (core_in now.core ≡ fold_from (core_in before.core) notes) × (now.opening ≡ before.opening)
runs_fold before [] now runs = ([], tt, refl, ap (λ (k : OpenedClient). core_in k.core) runs, ap (λ (k : OpenedClient). k.opening) runs)
runs_fold before (bytes ∷ records) now runs =
    let one = runs.1 in
    let n = one.note in
    let rest = runs_fold runs.0 records now runs.2 in (
      n ∷ rest.0,
      (one.whole, rest.1),
      ap (λ (x : List ℕ). x ∷ records) one.is ∙ ap (λ (l : List (List ℕ)). note_record n ∷ l) rest.2,
      rest.3 ∙ ap (λ (k : CoreState). fold_from k rest.0) one.step,
      rest.4 ∙ one.opening,
    )

pub stands_of : (k : OpenedClient) (reads : List ℕ → Type 0) → kept.Stands client_rules k reads → StandsByNotes k.opening (core_in k.core) reads
stands_of k reads stands =
    let g = stands.gives in
    let runs = runs_fold g.opened g.form.later g.stepped g.runs in
    let opening : k.opening ≡ g.opened.opening = g.same.opening ∙ runs.4 in
    let core : core_in k.core ≡ fold_from (core_in g.opened.core) runs.0 = g.same.core ∙ runs.3 in
    record {
      notes = runs.0;
      whole = runs.1;
      folded = core ∙ ap (λ (x : CoreState). fold_from x runs.0) g.opens.core ∙ ap (λ (o : ClientOpening). fold o runs.0) (sym opening);
      held = λ c read.
          stands.held c read ∙ g.form.split ∙ ap (λ (x : List ℕ). x ∷ g.form.later) (g.opens.is ∙ ap opening_record (sym opening))
          ∙ ap (λ (l : List (List ℕ)). opening_record k.opening ∷ l) runs.2;
    }

-- ---- making

pub makes_of : (limit : ℕ) (o : ClientOpening) (first : List ℕ) (old new : DiskSeen) → first ≡ opening_record o → kept.MakesOnly limit first old new
    → MakesOnly limit o old new
unfolding MakesOnly kept.MakesOnly
makes_of limit o first old new is left none = subst (λ (r : List ℕ). LeavesOnly old new (LeavesNoneOrFirst limit r)) is (left none)
