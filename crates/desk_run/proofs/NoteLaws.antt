-- What notes of letters that were shown or written leave as it was.
use Rattle.std.proofs.Common.{ap, ◌≡◌, ◌∙◌, ℕ, max, List, [], ◌∷◌, ◌++◌, Result, Ok, Err}
use Rattle.std.proofs.lemmas.List.Sums.{fold-append}
use Rattle.std.specs.Prelude.{OnOk}
use Rattle.desk_entries.specs.declared.entry.Entry.{Entry}
use Rattle.desk_entries.specs.declared.entry.Entry.TheVariants as entry
use Rattle.desk_entries.specs.Letters.{letters_of, shown_of, shown_with, told_with, written_of, written_with}
use Rattle.desk_ledger.specs.Ledgers.{EntriesOnly, LedgerState}
use Rattle.desk_run.specs.Changes.{NotesWritten}

pub letters_written : (entries : List Entry) (n : ℕ) → letters_of (entries ++ entry.Written n ∷ []) ≡ letters_of entries
letters_written entries n = fold-append told_with [] entries (entry.Written n ∷ [])

pub letters_shown : (entries : List Entry) (n : ℕ) → letters_of (entries ++ entry.Shown n ∷ []) ≡ letters_of entries
letters_shown entries n = fold-append told_with [] entries (entry.Shown n ∷ [])

pub written_shown : (entries : List Entry) (n : ℕ) → written_of (entries ++ entry.Shown n ∷ []) ≡ written_of entries
written_shown entries n = fold-append written_with 0 entries (entry.Shown n ∷ [])

pub shown_written : (entries : List Entry) (n : ℕ) → shown_of (entries ++ entry.Written n ∷ []) ≡ shown_of entries
shown_written entries n = fold-append shown_with 0 entries (entry.Written n ∷ [])

pub only_both : {D : Type 0} (old mid new : LedgerState D) → EntriesOnly old mid → EntriesOnly mid new → EntriesOnly old new
only_both old mid new a b = record {
  pair = b.pair ∙ a.pair;
  opening = b.opening ∙ a.opening;
  boxes = b.boxes ∙ a.boxes;
  client = b.client ∙ a.client;
  untold = b.untold ∙ a.untold;
}

pub notes_both : {T E D : Type 0} (r : Result T E) (old mid new : LedgerState D) (count : ℕ)
    → written_of mid.entries ≡ max count (written_of old.entries) → shown_of mid.entries ≡ shown_of old.entries
    → letters_of mid.entries ≡ letters_of old.entries → EntriesOnly old mid
    → OnOk r (shown_of new.entries ≡ max count (shown_of mid.entries))
    → OnOk r (written_of new.entries ≡ written_of mid.entries)
    → OnOk r (letters_of new.entries ≡ letters_of mid.entries) → EntriesOnly mid new
    → OnOk r (NotesWritten count old new)
notes_both (Err e) old mid new count written shown letters before more same same_letters behind = tt
notes_both (Ok x) old mid new count written shown letters before more same same_letters behind = record {
  written = same ∙ written;
  shown = more ∙ ap (λ (n : ℕ). max count n) shown;
  letters = same_letters ∙ letters;
  only = only_both old mid new before behind;
}
