-- The box that a read names is the one that its client had got as this one of its own.
use Rattle.std.proofs.Common.{◌≡◌, ◌<◌, ◌≤◌, ◌+◌, ◌⊎◌, ℕ, zero, suc, false, List, [], ◌∷◌, ◌++◌, length, take, drop, Some, slice_get, refl, sym, ap, ◌∙◌, arith, inl, inr, take-append-drop}
use Rattle.std.proofs.lemmas.Bool.{cases_lt}
use Rattle.std.specs.Option.{option_map}
use Rattle.std.proofs.lemmas.Option.{slice_get-map, slice_get_within}
use Rattle.mailbox_rules.specs.Requests.{Entry, lines_of}
use Rattle.mailbox_rules.specs.Tables.{no_writes, table_after}
use Rattle.mailbox_rules.specs.Owned.{own_below}
use Rattle.mailbox_rules.proofs.Keepers.{owners_stay}
use Rattle.mailbox_rules.proofs.Owned.{AllBelow, below_all, below_same}
use Rattle.mailbox_rules.proofs.Owners.{boxes_are_registered, boxes_old_or_new, got_is_own}
use Rattle.token_rules.specs.Tokens.{World}
use Rattle.token_rules.specs.Laws.{turn}
use Rattle.token_rules.proofs.Lists.{get_taken}
use Rattle.run_rules.specs.Book.{Book, all_boxes, table_at}
use Rattle.run_rules.specs.Known.{IsWhole}

take_whole : {X : Type 0} (xs : List X) → take (length xs) xs ≡ xs
take_whole [] = refl
take_whole (x ∷ xs) = ap (λ l. x ∷ l) (take_whole xs)

get_dropped : {X : Type 0} (xs : List X) (n k : ℕ) (x : X) → slice_get (drop n xs) k ≡ Some x → slice_get xs (n + k) ≡ Some x
get_dropped xs zero k x e = let same : 0 + k ≡ k = omega arith in ap (slice_get xs) same ∙ e
get_dropped [] (suc n) k x e = absurd (cc e)
get_dropped (y ∷ xs) (suc n) k x e = let same : suc n + k ≡ suc (n + k) = omega arith in ap (slice_get (y ∷ xs)) same ∙ get_dropped xs n k x e

module _ (b : Book) (v : World) (whole : IsWhole b v) (c i : ℕ) (e : Entry) (is : slice_get b.entries i ≡ Some e)
    (lane : e.line.lane ≡ c) (hon : b.foreign c ≡ false) (opens : turn e.line.command ≡ 0) where
  line_at : (k : ℕ) (x : Entry) → slice_get b.entries k ≡ Some x → slice_get (lines_of v.journal) k ≡ Some x.line
  line_at k x at =
      slice_get-map (λ (e : Entry). e.line) v.journal k
      ∙ ap (option_map (λ (e : Entry). e.line)) (ap (λ es. slice_get es k) whole.journal ∙ at)

  honest : (x : Entry) → x.line.lane ≡ c → v.foreign x.line.lane ≡ false
  honest x same = ap v.foreign same ∙ ap (λ f. f c) whole.foreign ∙ hon

  -- a lane's earlier entries have smaller serials
  earlier : (k : ℕ) (x : Entry) → k < i → slice_get b.entries k ≡ Some x → x.line.lane ≡ c → x.line.serial < e.line.serial
  earlier k x before at same =
      elim (whole.lawful.order k i x.line e.line before (line_at k x at) (line_at i e is) (same ∙ sym lane) (honest x same)) [
        | inl less ↦ less
        | inr both ↦ let t = both.1 in absurd (omega (arith, t, opens))
      ]

  -- and its later ones no smaller ones
  later : (k : ℕ) (x : Entry) → i ≤ k → slice_get b.entries k ≡ Some x → x.line.lane ≡ c → e.line.serial ≤ x.line.serial
  later k x after at same = at_place (decide i k after)
    where
      decide : (i k : ℕ) → i ≤ k → (i ≡ k) ⊎ (i < k)
      decide i k h = elim (cases_lt i k) [ inl l ↦ inr l | inr m ↦ inl (omega (arith, h, m)) ]

      at_place : (i ≡ k) ⊎ (i < k) → e.line.serial ≤ x.line.serial
      at_place (inl here) =
          let one : Some e ≡ Some x = sym is ∙ ap (slice_get b.entries) here ∙ at in
          let same_line : e.line.serial ≡ x.line.serial = ap (λ (y : Entry). y.line.serial) (let s : e ≡ x = cc in s) in
          omega (arith, same_line)
      at_place (inr before) =
          elim (whole.lawful.order i k e.line x.line before (line_at i e is) (line_at k x at) (lane ∙ sym same) (honest e lane)) [
            | inl less ↦ omega (arith, less)
            | inr both ↦ let s = both.0 in omega (arith, s)
          ]

  all_below : AllBelow c e.line.serial (table_at b i).boxes
  all_below n x at owner =
      let by = boxes_are_registered b.settings.boxes b.settings.width no_writes (take i b.entries) n x at in
      let there = get_taken b.entries i by.place _ by.is in
      earlier by.place _ there.0 there.1 owner

  -- the boxes that the client had got are those registered with smaller serials
  pub owned_then : own_below c e.line.serial 0 (all_boxes b) ≡ (table_at b i).got c
  owned_then =
      let entries = take i b.entries ++ drop i b.entries in
      let all : entries ≡ take (length b.entries) b.entries = take-append-drop i b.entries ∙ sym (take_whole b.entries) in
      let limit = b.settings.boxes in
      let width = b.settings.width in
      below_same c e.line.serial 0 (table_at b i).boxes (all_boxes b)
      (λ k x at.
      let s = owners_stay limit width no_writes (take i b.entries) (drop i b.entries) k x at in
      (s.box, ap (λ es. slice_get (table_after limit width no_writes es).boxes k) (sym all) ∙ s.is, s.lane, s.serial))
      (λ k y at owner far.
      elim (boxes_old_or_new limit width no_writes (take i b.entries) (drop i b.entries) k y (ap (λ es. slice_get (table_after limit width no_writes es).boxes k) all ∙ at)) [
        | inl (x, there, lane, serial) ↦
            let inside = slice_get_within (table_at b i).boxes k x there in
            absurd (omega (arith, inside, far))
        | inr (j, x, there, owned, serial) ↦
            let low = later (i + j) x (omega arith) (get_dropped b.entries i j x there) (sym owned ∙ owner) in
            omega (arith, low, serial)
      ])
      ∙ below_all c e.line.serial 0 (table_at b i).boxes all_below
      ∙ sym (got_is_own limit width no_writes (take i b.entries) c)
