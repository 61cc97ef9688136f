-- Letters that are noted.
use Rattle.std.proofs.Common.{◌≡◌, ◌∙◌, inl, inr, ◌<◌, ◌||◌, ◌&&◌, ℕ, Bool, true, false, cond, eqb, not}
use Rattle.std.proofs.Common.{zero, suc, List, [], ◌∷◌, ◌++◌, length, get_or, refl, ap, arith}
use Rattle.std.proofs.lemmas.Bool.{cases_Bool}
use Rattle.std.proofs.lemmas.List.Folds.{list_any-append}
use Rattle.told_letters.specs.Mail.{Letter}
use Rattle.kept_ledger.specs.declared.entry.Handling.{Handling}
use Rattle.kept_ledger.specs.declared.entry.Handling.TheVariants.{Shown, Written}
use Rattle.kept_ledger.specs.declared.entry.LetterMark.{LetterMark}
use Rattle.kept_ledger.specs.declared.entry.Marked.{Marked}
use Rattle.kept_ledger.specs.Ledgers.{is_mark_of, is_marked, is_same_handling, is_same_mark, marks_with}
use Rattle.owner_mail.specs.Laws.{ToldLettersArentDue}
use Rattle.owner_mail.specs.Mail.{NamedMail}
use Rattle.owner_mail.specs.News.{Arrived, Item, Unopened, is_due, mark_of, marked, marked_by, marks_after}

eqb_same : (n : ℕ) → eqb n n ≡ true
eqb_same n = grind arith

both_true : (a b : Bool) → a ≡ true → b ≡ true → (a && b) ≡ true
both_true a b one two = ap (λ (x : Bool). x && b) one ∙ two

or_first : (a b : Bool) → a ≡ true → (a || b) ≡ true
or_first a b so = ap (λ (x : Bool). x || b) so

or_second : (a b : Bool) → b ≡ true → (a || b) ≡ true
or_second true b so = refl
or_second false b so = so

same_handling : (h : Handling) → is_same_handling h h ≡ true
same_handling Shown = refl
same_handling Written = refl

is_its_own : (m : Marked) → is_mark_of m.mark m.handling m ≡ true
is_its_own m =
    both_true (is_same_mark m.mark m.mark) (is_same_handling m.handling m.handling)
    (both_true (eqb m.mark.id m.mark.id) (eqb m.mark.parts m.mark.parts) (eqb_same m.mark.id) (eqb_same
    m.mark.parts))
    (same_handling m.handling)

-- ---- one note

marked_now : (marks : List Marked) (m : Marked) → is_marked (marks_with marks m) m.mark m.handling ≡ true
marked_now marks m = elim (cases_Bool (is_marked marks m.mark m.handling)) [
  | inl so ↦ ap (λ (b : Bool). is_marked (cond b marks (marks ++ m ∷ [])) m.mark m.handling) so ∙ so
  | inr not_yet ↦ ap (λ (b : Bool). is_marked (cond b marks (marks ++ m ∷ [])) m.mark m.handling) not_yet
      ∙ list_any-append (is_mark_of m.mark m.handling) marks (m ∷ [])
      ∙ or_second (is_marked marks m.mark m.handling) _ (or_first _ false (is_its_own m))
]

marked_stays : (marks : List Marked) (m : Marked) (mark : LetterMark) (h : Handling)
    → is_marked marks mark h ≡ true → is_marked (marks_with marks m) mark h ≡ true
marked_stays marks m mark h so = elim (cases_Bool (is_marked marks m.mark m.handling)) [
  | inl known ↦ ap (λ (b : Bool). is_marked (cond b marks (marks ++ m ∷ [])) mark h) known ∙ so
  | inr other ↦ ap (λ (b : Bool). is_marked (cond b marks (marks ++ m ∷ [])) mark h) other
      ∙ list_any-append (is_mark_of mark h) marks (m ∷ []) ∙ or_first (is_marked marks mark h) _ so
]

-- ---- all notes

item_stays : (handling : Handling) (item : Item) (marks : List Marked) (mark : LetterMark) (h : Handling)
    → is_marked marks mark h ≡ true → is_marked (marked_by handling item marks) mark h ≡ true
item_stays handling (Arrived m l) marks mark h so = marked_stays marks (marked handling m l) mark h so
item_stays handling (Unopened m) marks mark h so = so

stays_after : (handling : Handling) (items : List Item) (marks : List Marked) (mark : LetterMark) (h :
    Handling)
    → is_marked marks mark h ≡ true → is_marked (marks_after handling items marks) mark h ≡ true
stays_after handling [] marks mark h so = so
stays_after handling (item ∷ items) marks mark h so =
    stays_after handling items (marked_by handling item marks) mark h (item_stays handling item marks mark
    h so)

told_marked : (handling : Handling) (items : List Item) (marks : List Marked) (m : NamedMail) (l : Letter)
    (k : ℕ)
    → k < length items → get_or items k (Arrived m l) ≡ Arrived m l
    → is_marked (marks_after handling items marks) (mark_of l) handling ≡ true
told_marked handling [] marks m l k within is = absurd (omega (arith, within))
told_marked handling (item ∷ items) marks m l zero within is =
    stays_after handling items (marked_by handling item marks) (mark_of l) handling
    (ap (λ (x : Item). is_marked (marked_by handling x marks) (mark_of l) handling) is
    ∙ marked_now marks (marked handling m l))
told_marked handling (item ∷ items) marks m l (suc k) within is =
    told_marked handling items (marked_by handling item marks) m l k (omega (arith, within)) is

and_none : (a b : Bool) → b ≡ false → (a && b) ≡ false
and_none true b so = so
and_none false b so = refl

not_due : (handling : Handling) (marks : List Marked) (l : Letter)
    → is_marked marks (mark_of l) handling ≡ true
    → is_due handling marks l ≡ false
not_due Shown marks l so =
    and_none (not (is_marked marks (mark_of l) Written)) _ (ap not so)
not_due Written marks l so = ap not so

pub told_once : ToldLettersArentDue
told_once handling items marks m l there =
    not_due handling (marks_after handling items marks) l
    (told_marked handling items marks m l there.0 there.1 there.2)
