-- A card, printed and read, and how many addresses it has.
use Rattle.std.proofs.Common.{◌≡◌, ◌≤◌, ℕ, List, Result, Ok, sym, ap, ◌∙◌, subst, length}
use Rattle.desk_texts.specs.declared.sheet.CardHead.{CardHead}
use Rattle.desk_texts.specs.declared.sheet.Head.TheVariants.{Card}
use Rattle.desk_texts.specs.declared.sheet.Sheet.{Sheet}
use Rattle.desk_texts.specs.Spelling.{IsCard, IsHead, IsSheet}
use Rattle.desk_texts.specs.Lines.{lines_in}
use Rattle.desk_texts.specs.Sheets.{count_of, sheet_of}
use Rattle.express_texts.specs.Judging.{Gives}
use Rattle.desk_outbox.specs.Outboxes.{IsCardSheet}

pub is_card : (s : Sheet) (h : CardHead) → IsSheet s → s.head ≡ Card h → IsCard h
is_card s h is e = subst IsHead e is.head

pub addresses_are : (s : Sheet) (h : CardHead) → IsSheet s → s.head ≡ Card h → length s.addresses ≡ h.addresses
addresses_are s h is e = is.count ∙ ap count_of e

pub few_addresses : (s : Sheet) (h : CardHead) → IsSheet s → s.head ≡ Card h → length s.addresses ≤ 64
few_addresses s h is e = subst (λ (n : ℕ). n ≤ 64) (sym (addresses_are s h is e)) (is_card s h is e).few

pub some_addresses : (s : Sheet) (h : CardHead) → IsSheet s → s.head ≡ Card h → 1 ≤ length s.addresses
some_addresses s h is e = subst (λ (n : ℕ). 1 ≤ n) (sym (addresses_are s h is e)) (is_card s h is e).some

one_card : (h k : CardHead) → Card h ≡ Card k → h ≡ k
one_card h k e = cc e

pub same_head : (s : Sheet) (h k : CardHead) → s.head ≡ Card h → s.head ≡ Card k → h ≡ k
same_head s h k e f = one_card h k (sym e ∙ f)

pub of_card : (s : Sheet) (h : CardHead) → IsCardSheet s → s.head ≡ Card h → IsCard h
of_card s h c e = is_card s h c.sheet e

one_sheet : (card s : Sheet) (r : Result Sheet ℕ) → r ≡ Ok s → r ≡ Ok card → card ≡ s
one_sheet card s r e g = cc (sym g ∙ e)

-- what is printed of a card is read as that card
pub same_sheet : (text : List ℕ) (card s : Sheet) → sheet_of (lines_in text) ≡ Ok s → Gives (λ (x : Sheet). x) (Ok card) (sheet_of (lines_in text)) → card ≡ s
same_sheet text card s e g = one_sheet card s _ e g
