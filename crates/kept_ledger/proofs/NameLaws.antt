-- No address stands twice among the named.
use Rattle.std.proofs.Common.{◌≡◌, ℕ, zero, suc, ◌==◌, ◌++◌, List, [], ◌∷◌, Bool, true, false, Option, Some}
use Rattle.std.proofs.Common.{None, refl, sym, ◌∙◌, ap, subst, arith}
use Rattle.std.specs.Prelude.{if◌then◌else◌, not, ◌||◌, slice_get, slice_set}
use Rattle.std.specs.List.{position}
use Rattle.std.proofs.lemmas.Bool.Decides.{nat_tests}
use Rattle.std.proofs.lemmas.Bool.{and_parts}
use Rattle.std.proofs.lemmas.List.{append-nil, append_assoc}
use Rattle.step_rules.specs.Client.{Client}
use Rattle.step_rules.specs.ClientReplies.{on_reply}
use Rattle.kept_ledger.specs.declared.entry.NamedBoxes.{NamedBoxes}
use Rattle.kept_ledger.specs.declared.entry.OwnBox.{OwnBox}
use Rattle.kept_ledger.specs.Laws.{AllDiffer, NoAddressTwice, named_addresses}
use Rattle.kept_ledger.specs.Ledgers.{LedgerState, are_new, boxes_wanted, changed_at, closed_on, fits_names}
use Rattle.kept_ledger.specs.Ledgers.{fold_from, has_name, is_among, is_drawn, is_used, names_address}
use Rattle.kept_ledger.specs.Ledgers.{opened_ledger, owned_with, owning, replaced, step_of, task_at}
use Rattle.kept_ledger.specs.Ledgers.{to_retire}
use Rattle.kept_ledger.specs.Notes.{Noted, Wanted, Named, Closed, Retiring, Marked, Asked, Time}
use Rattle.kept_ledger.specs.Notes.{Heard}
use Rattle.kept_ledger.specs.Notes.{GivenUp, Owned, Denied, Carried}
use Rattle.kept_ledger.proofs.SerialLaws.{ended_keeps}

-- ---- lists that have no number in common

Apart : List ℕ → List ℕ → Type 0
Apart [] xs = Unit {0}
Apart (y ∷ ys) xs = (is_among y xs ≡ false) × Apart ys xs

either : (a b : Bool) → (a || b) ≡ false → (a ≡ false) × (b ≡ false)
either true b e = absurd (cc e)
either false b e = (refl, e)

neither : (a b : Bool) → a ≡ false → b ≡ false → (a || b) ≡ false
neither true b first second = absurd (cc first)
neither false b first second = second

turned : (x y : ℕ) → (x == y) ≡ false → (y == x) ≡ false
turned x y e = grind (arith, nat_tests)

among_append : (a : ℕ) (xs ys : List ℕ) → is_among a xs ≡ false → is_among a ys ≡ false
    → is_among a (xs ++ ys) ≡ false
among_append a [] ys first second = second
among_append a (x ∷ xs) ys first second =
    let parts = either (x == a) (is_among a xs) first in
    neither (x == a) (is_among a (xs ++ ys)) parts.0 (among_append a xs ys parts.1 second)

not_among : (ys xs : List ℕ) (x : ℕ) → Apart ys (x ∷ xs) → is_among x ys ≡ false
unfolding Apart
not_among [] xs x apart = refl
not_among (y ∷ ys) xs x apart =
    neither (y == x) (is_among x ys) (turned x y (either (x == y) (is_among y xs) apart.0).0)
    (not_among ys xs x apart.1)

less_apart : (ys xs : List ℕ) (x : ℕ) → Apart ys (x ∷ xs) → Apart ys xs
unfolding Apart
less_apart [] xs x apart = tt
less_apart (y ∷ ys) xs x apart =
    ((either (x == y) (is_among y xs) apart.0).1, less_apart ys xs x apart.1)

differ_append : (xs ys : List ℕ) → AllDiffer xs → AllDiffer ys → Apart ys xs → AllDiffer (xs ++ ys)
differ_append [] ys first second apart = second
differ_append (x ∷ xs) ys first second apart = (
  among_append x xs ys first.0 (not_among ys xs x apart),
  differ_append xs ys first.1 second (less_apart ys xs x apart),
)

-- ---- names

drawn_among : (named : List NamedBoxes) (a : ℕ) → is_drawn named a ≡ false
    → is_among a (named_addresses named) ≡ false
drawn_among [] a e = refl
drawn_among (n ∷ named) a e =
    let parts = either (names_address a n) (is_drawn named a) e in
    among_append a n.addresses (named_addresses named) parts.0 (drawn_among named a parts.1)

not_true : (b : Bool) → not b ≡ true → b ≡ false
not_true true e = absurd (cc e)
not_true false e = refl

new_differ : (named : List NamedBoxes) (addresses : List ℕ) → are_new named addresses ≡ true
    → AllDiffer addresses
new_differ named [] e = tt
new_differ named (a ∷ addresses) e =
    let parts = and_parts (not (is_among a addresses || is_drawn named a)) (are_new named addresses) e in
    let here = either (is_among a addresses) (is_drawn named a) (not_true _ parts.0) in
    (here.0, new_differ named addresses parts.1)

new_apart : (named : List NamedBoxes) (addresses : List ℕ) → are_new named addresses ≡ true
    → Apart addresses (named_addresses named)
unfolding Apart
new_apart named [] e = tt
new_apart named (a ∷ addresses) e =
    let parts = and_parts (not (is_among a addresses || is_drawn named a)) (are_new named addresses) e in
    let here = either (is_among a addresses) (is_drawn named a) (not_true _ parts.0) in
    (drawn_among named a here.1, new_apart named addresses parts.1)

addresses_push : (named : List NamedBoxes) (n : NamedBoxes)
    → named_addresses (named ++ n ∷ []) ≡ named_addresses named ++ n.addresses
addresses_push [] n = append-nil n.addresses
addresses_push (m ∷ named) n =
    ap (λ (l : List ℕ). m.addresses ++ l) (addresses_push named n)
    ∙ sym (append_assoc m.addresses (named_addresses named) n.addresses)

fitting : (s : LedgerState) (w : Wanted) (b : Bool) → fits_names s.named w ≡ b
    → AllDiffer (named_addresses s.named)
    → AllDiffer (named_addresses (if b then record s {
      named = s.named ++ boxes_wanted w ∷ [];
    } else s).named)
fitting s w false fits differ = differ
fitting s w true fits differ =
    let new = (and_parts (not (is_used s.named w.name)) (are_new s.named w.addresses) fits).1 in
    subst AllDiffer (sym (addresses_push s.named (boxes_wanted w)))
    (differ_append (named_addresses s.named) w.addresses differ (new_differ s.named w.addresses new)
    (new_apart s.named w.addresses new))

-- ---- a change of one name leaves the addresses

set_addresses : (named : List NamedBoxes) (i : ℕ) (n m : NamedBoxes) → slice_get named i ≡ Some n
    → m.addresses ≡ n.addresses → named_addresses (slice_set named i m) ≡ named_addresses named
set_addresses [] i n m e same = absurd (cc e)
set_addresses (x ∷ named) zero n m e same =
    let first : x ≡ n = cc e in
    ap (λ (l : List ℕ). l ++ named_addresses named) (same ∙ ap (λ (y : NamedBoxes). y.addresses) (sym first))
set_addresses (x ∷ named) (suc i) n m e same =
    ap (λ (l : List ℕ). x.addresses ++ l) (set_addresses named i n m e same)

replaced_addresses : (change : NamedBoxes → NamedBoxes) → ((n : NamedBoxes) → (change n).addresses
    ≡ n.addresses) → (named : List NamedBoxes) (i : ℕ) (n : Option NamedBoxes) → slice_get named i ≡ n
    → named_addresses (replaced change named i n) ≡ named_addresses named
replaced_addresses change keeps named i None e = refl
replaced_addresses change keeps named i (Some n) e = set_addresses named i n (change n) e (keeps n)

changed_addresses : (change : NamedBoxes → NamedBoxes) → ((n : NamedBoxes) → (change n).addresses
    ≡ n.addresses) → (named : List NamedBoxes) (place : Option ℕ)
    → named_addresses (changed_at change named place) ≡ named_addresses named
changed_addresses change keeps named None = refl
changed_addresses change keeps named (Some i) =
    replaced_addresses change keeps named i (slice_get named i) refl

-- ---- any note

owned_named : (s : LedgerState) (b : OwnBox) (c : Option Client) → (owned_with s b c).named ≡ s.named
owned_named s b None = refl
owned_named s b (Some c) = refl

differ_step : (s : LedgerState) (n : Noted) → AllDiffer (named_addresses s.named)
    → AllDiffer (named_addresses (step_of s n).named)
differ_step s (Named w) differ = fitting s w (fits_names s.named w) refl differ
differ_step s (Closed name day) differ =
    subst AllDiffer (sym (changed_addresses (closed_on day) (λ n. refl) s.named (position (has_name name)
    s.named))) differ
differ_step s (Retiring name) differ =
    subst AllDiffer (sym (changed_addresses to_retire (λ n. refl) s.named (position (has_name name) s.named)))
    differ
differ_step s (Marked m) differ = differ
differ_step s (Asked t) differ = differ
differ_step s (Time seconds) differ = differ
differ_step s (Heard frame) differ =
    let k = ended_keeps (record s { client = (on_reply s.client frame).client }) s.client.serial
    (task_at s.client.current) (on_reply s.client frame).progress in
    subst (λ (l : List NamedBoxes). AllDiffer (named_addresses l)) (sym k.named) differ
differ_step s GivenUp differ = differ
differ_step s (Owned b) differ =
    subst (λ (l : List NamedBoxes). AllDiffer (named_addresses l)) (sym (owned_named s b (owning s.client b)))
    differ
differ_step s (Denied d) differ = differ
differ_step s (Carried r) differ = differ

differ_through : (s : LedgerState) (notes : List Noted) → AllDiffer (named_addresses s.named)
    → AllDiffer (named_addresses (fold_from s notes).named)
unfolding fold_from
differ_through s [] differ = differ
differ_through s (n ∷ notes) differ = differ_through (step_of s n) notes (differ_step s n differ)

pub no_address_twice : NoAddressTwice
no_address_twice o notes = differ_through (opened_ledger o) notes tt
