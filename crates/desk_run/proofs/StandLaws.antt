-- What is told of how a desk stands.
use Rattle.std.proofs.Common.{◌≡◌, ◌∙◌, ◌-◌, ℕ, Bool, List, ◌++◌, Option, Some, None, ap, refl, sym, subst, length}
use Rattle.express_words.specs.Streams.{Took}
use Rattle.desk_entries.specs.declared.entry.Entry.{Entry}
use Rattle.desk_entries.specs.Letters.{letters_of, shown_of}
use Rattle.desk_ledger.specs.declared.pair.Pair.{Pair}
use Rattle.desk_ledger.specs.Ledgers.{LedgerState}
use Rattle.desk_run.specs.Printing.{Prints}
use Rattle.desk_run.specs.Standings.{IsDone, TellsDesk, TellsWork, boxes_lines, hundredths, no_desk, pair_line, work_text}
use Rattle.desk_run.specs.Words.{StatusBy}
use Rattle.desk_run.proofs.PrintLaws.{took_three}

pub tells_work : {D : Type 0} (l : LedgerState D) (is_done : Bool) (letters new full : ℕ) (text : List ℕ) → IsDone l is_done
    → letters ≡ length (letters_of l.entries) → new ≡ letters - shown_of l.entries
    → full ≡ hundredths l.client.journal.end → text ≡ work_text is_done letters new full → TellsWork l text
tells_work l is_done letters new full text done count unshown fullness is = record {
  is_done = is_done;
  done = done;
  is = is ∙ ap (λ (n : ℕ). work_text is_done letters n full) (unshown ∙ ap (λ (k : ℕ). k - shown_of l.entries) count)
      ∙ ap (λ (k : ℕ). work_text is_done k (length (letters_of l.entries) - shown_of l.entries) full) count
      ∙ ap (λ (k : ℕ). work_text is_done (length (letters_of l.entries)) (length (letters_of l.entries) - shown_of l.entries) k) fullness;
}

-- the pair, the boxes and the work are printed one behind another
pub tells_desk : {D : Type 0} (l : LedgerState D) (pair : Pair) (entries : List Entry) (head_text head text work : List ℕ)
    (old one two new : Option (List ℕ)) → head ≡ head_text → head_text ≡ pair_line pair → pair ≡ l.pair → Took old one head
    → Took one two (boxes_lines entries) → entries ≡ l.entries → TellsWork l text → work ≡ text → Took two new work
    → Prints (TellsDesk l) old new
tells_desk l pair entries head_text head text work old one two new same_head head_is pair_is a b entries_is tells same_work c = (
  pair_line l.pair ++ (boxes_lines l.entries ++ text),
  record { work = text; tells = tells; is = refl },
  took_three (pair_line l.pair) (boxes_lines l.entries) text old one two new
      (subst (λ (t : List ℕ). Took old one t) (same_head ∙ head_is ∙ ap pair_line pair_is) a)
      (subst (λ (es : List Entry). Took one two (boxes_lines es)) entries_is b)
      (subst (λ (t : List ℕ). Took two new t) same_work c),
)

pub status_some : {D : Type 0} (found : Option (LedgerState D)) (l : LedgerState D) (old new : Option (List ℕ)) → found ≡ Some l
    → Prints (TellsDesk l) old new → Prints (StatusBy found) old new
status_some found l old new is tells = subst (λ (f : Option (LedgerState _)). Prints (StatusBy f) old new) (sym is) tells

pub status_none : {D : Type 0} (found : Option (LedgerState D)) (old new : Option (List ℕ)) → found ≡ None
    → Took old new no_desk → Prints (StatusBy found) old new
status_none found old new is took =
    subst (λ (f : Option (LedgerState _)). Prints (StatusBy f) old new) (sym is) (no_desk, refl, took)

-- ---- a letter that is on its way
