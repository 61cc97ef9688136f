-- Writes that add alike to every box of the width leave the same tables and results.
use Rattle.std.proofs.Common.{◌≡◌, ◌<◌, ◌^◌, ℕ, zero, suc, Bool, cond, List, [], ◌∷◌, length, take, Option, Some, None, slice_get, refl, sym, ap, ap₂, ◌∙◌}
use Rattle.express_words.specs.Bytes.{xor_bytes}
use Rattle.mailbox_rules.specs.Requests.{Line, Entry, entry, Operation, AddBox, BeginWrite, AuditWrite, SettleWrite, ReadBox, RetireBox, Refuse}
use Rattle.mailbox_rules.specs.Tables.{Mailbox, Table, Writes, Settled, boxes_with, after_line, result_of, table_after}
use Rattle.mailbox_rules.specs.Tables as tables
use Rattle.mailbox_rules.specs.Laws.{Registering}
use Rattle.mailbox_rules.specs.Widths.{AddsWithin}
use Rattle.mailbox_rules.proofs.Folds.{parts_grow}
use Rattle.mailbox_rules.proofs.Owners.{boxes_are_registered}
use Rattle.mailbox_rules.proofs.Widths.{boxes_have_width}
use Rattle.token_rules.proofs.Lists.{get_taken}

-- to a box of so many bytes at an address of 128 bits both writes add the same
abbrev pub AddsAlike : ℕ → Writes → Writes → ℕ → ℕ → Type 0
AddsAlike width one two lane serial = (bytes : List ℕ) (address : ℕ) → length bytes ≡ width → address < 2 ^ 128
    → xor_bytes bytes (two.adds lane serial address) ≡ xor_bytes bytes (one.adds lane serial address)

pub record IsAlike (width : ℕ) (one two : Writes) (lane serial : ℕ) : Type 0 where
  pub accepts : two.accepts lane serial ≡ one.accepts lane serial
  pub adds : AddsAlike width one two lane serial

pub record IsGoodBox (width : ℕ) (box : Mailbox) : Type 0 where
  pub bytes : length box.bytes ≡ width
  pub address : box.address < 2 ^ 128

abbrev AreGood : ℕ → List Mailbox → Type 0
AreGood width boxes = (n : ℕ) (box : Mailbox) → slice_get boxes n ≡ Some box → IsGoodBox width box

take_past : {X : Type 0} (xs : List X) (i : ℕ) → slice_get xs i ≡ None → take (suc i) xs ≡ take i xs
take_past [] zero h = refl
take_past [] (suc i) h = refl
take_past (x ∷ xs) zero h = absurd (cc h)
take_past (x ∷ xs) (suc i) h = ap (λ ys. x ∷ ys) (take_past xs i h)

boxes_alike : (width lane serial count : ℕ) (one two : Writes) (boxes : List Mailbox) → AddsAlike width one two lane serial
    → AreGood width boxes → boxes_with (two.adds lane serial) count boxes ≡ boxes_with (one.adds lane serial) count boxes
unfolding boxes_with
boxes_alike width lane serial zero one two boxes alike good = refl
boxes_alike width lane serial (suc count) one two [] alike good = refl
boxes_alike width lane serial (suc count) one two (box ∷ boxes) alike good =
    let h = good 0 box refl in
    ap₂ (λ (bytes : List ℕ) (rest : List Mailbox). record box { bytes = cond box.live bytes box.bytes } ∷ rest)
    (alike box.bytes box.address h.bytes h.address)
    (boxes_alike width lane serial count one two boxes alike (λ n x e. good (suc n) x e))

module _ (limit width : ℕ) (one two : Writes) (entries : List Entry) (within : AddsWithin width one)
    (small : (i : ℕ) (line : Line) (a : ℕ) → slice_get entries i ≡ Some (entry line (AddBox a)) → a < 2 ^ 128)
    (alike : (i : ℕ) (line : Line) → slice_get entries i ≡ Some (entry line SettleWrite)
    → IsAlike width one two line.lane line.serial) where
  good_at : (i : ℕ) → AreGood width (table_after limit width one (take i entries)).boxes
  good_at i n box is =
      let by : Registering (take i entries) box = boxes_are_registered limit width one (take i entries) n box is in
      record {
        bytes = boxes_have_width limit width one (take i entries) n box within is;
        address = small by.place _ box.address (get_taken entries i by.place _ by.is).1;
      }

  line_alike : (i : ℕ) (e : Entry) → slice_get entries i ≡ Some e → (t : Table) → AreGood width t.boxes
      → after_line limit width two t e.line e.does ≡ after_line limit width one t e.line e.does
  unfolding after_line
  line_alike i e is t good = by_what e.line e.does is
    where
      settled : (line : Line) → IsAlike width one two line.lane line.serial
          → after_line limit width two t line SettleWrite ≡ after_line limit width one t line SettleWrite
      settled line h =
          ap₂ (λ (c : Bool) (boxes : List Mailbox). cond c (record t { boxes = boxes }) t)
          h.accepts (boxes_alike width line.lane line.serial (t.count line.lane) one two t.boxes h.adds good)

      by_what : (line : Line) (does : Operation) → slice_get entries i ≡ Some (entry line does)
          → after_line limit width two t line does ≡ after_line limit width one t line does
      by_what line (AddBox a) is = refl
      by_what line BeginWrite is = refl
      by_what line AuditWrite is = refl
      by_what line SettleWrite is = settled line (alike i line is)
      by_what line (ReadBox n) is = refl
      by_what line (RetireBox n) is = refl
      by_what line Refuse is = refl

  pub tables_alike : (i : ℕ)
      → table_after limit width two (take i entries) ≡ table_after limit width one (take i entries)
  unfolding table_after tables.table_from
  tables_alike zero = refl
  tables_alike (suc i) = at_place (slice_get entries i) refl (tables_alike i)
    where
      at_place : (o : Option Entry) → slice_get entries i ≡ o
          → table_after limit width two (take i entries) ≡ table_after limit width one (take i entries)
          → table_after limit width two (take (suc i) entries) ≡ table_after limit width one (take (suc i) entries)
      at_place None none h =
          let past : take (suc i) entries ≡ take i entries = take_past entries i none in
          ap (table_after limit width two) past ∙ h ∙ ap (table_after limit width one) (sym past)
      at_place (Some e) is h =
          parts_grow limit width two entries i e is
          ∙ ap (λ t. after_line limit width two t e.line e.does) h
          ∙ line_alike i e is _ (good_at i)
          ∙ sym (parts_grow limit width one entries i e is)

  pub results_alike : (i : ℕ) (e : Entry) → slice_get entries i ≡ Some e
      → result_of limit two (table_after limit width two (take i entries)) e.line e.does
      ≡ result_of limit one (table_after limit width one (take i entries)) e.line e.does
  unfolding result_of
  results_alike i e is =
      ap (λ t. result_of limit two t e.line e.does) (tables_alike i) ∙ by_what e.line e.does is
    where
      t : Table
      t = table_after limit width one (take i entries)

      by_what : (line : Line) (does : Operation) → slice_get entries i ≡ Some (entry line does)
          → result_of limit two t line does ≡ result_of limit one t line does
      by_what line (AddBox a) is = refl
      by_what line BeginWrite is = refl
      by_what line AuditWrite is = refl
      by_what line SettleWrite is = ap (λ c. Settled c) (alike i line is).accepts
      by_what line (ReadBox n) is = refl
      by_what line (RetireBox n) is = refl
      by_what line Refuse is = refl
