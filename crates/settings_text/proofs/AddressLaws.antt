-- What is collected of the values of a list, address by address.
use Rattle.std.proofs.Common.{◌≡◌, ◌≢◌, ℕ, zero, suc, ◌+◌, ◌<◌, ◌≤◌, nat_eq, ◌||◌, not, Bool, true, false, List, [], ◌∷◌, ◌++◌, length, get_or, drop, map, Some, None, AllPairs, arith, refl, sym, ◌∙◌, eq-eqb, length-append}
use Rattle.std.proofs.Math.ListN.{drop_of_length-le}
use Rattle.std.proofs.lemmas.List.{drop_more}
use Rattle.std.proofs.lemmas.List.Quantifiers.{all_pairs_push}
use Rattle.std.specs.List.{list_any}
use Rattle.toml.specs.View.{view}
use Rattle.toml.specs.declared.value.Value.{Value}
use Rattle.settings_text.specs.Files.{addresses_on}
use Rattle.settings_text.specs.Values.{address_in}

abbrev pub Distinct : List ℕ → Type 0
Distinct addresses = AllPairs (λ p q. p ≢ q) addresses

-- whether an address is among those before it
abbrev pub is_old : List ℕ → ℕ → Bool
is_old before address = list_any (λ other. nat_eq address other) before

-- Of the first i values these addresses were collected, all different.
pub record HasCollected (before : List ℕ) (values : List Value) (i : ℕ) : Type 0 where
  pub is : addresses_on [] (map view values) ≡ addresses_on before (map view (drop i values))
  pub distinct : Distinct before
  pub as_many : length before ≡ i

second_false : (b c : Bool) → (b || c) ≡ false → c ≡ false
second_false true c h = cc
second_false false c h = h

apart : (a : ℕ) (xs : List ℕ) → is_old xs a ≡ false → (k d : ℕ) → k < length xs → get_or xs k d ≢ a
apart a [] new k d inside e = absurd (omega arith)
apart a (x ∷ xs) new zero d inside e =
    let same : nat_eq a x ≡ true = eq-eqb a x (sym e) in
    let old = rw same at new in cc
apart a (x ∷ xs) new (suc k) d inside e = apart a xs (second_false (nat_eq a x) (is_old xs a) new) k d (omega arith) e

pub none_collected : (values : List Value) → HasCollected [] values 0
none_collected values = record { is = refl; distinct = λ i j d below inside. absurd (omega arith); as_many = refl }

pub one_more : (before : List ℕ) (a : ℕ) (values : List Value) (i : ℕ) (value : Value) → i < length values → value ≡ get_or values i value
    → Some a ≡ address_in (view value) → is_old before a ≡ false → HasCollected before values i → HasCollected (before ++ a ∷ []) values (i + 1)
unfolding addresses_on
one_more before a values i value inside is good new so_far = record {
  is = so_far.is ∙ rw (drop_more values i value inside, ← is, ← good, new) refl;
  distinct = all_pairs_push (λ p q. p ≢ q) before a so_far.distinct (apart a before new);
  as_many = rw (length-append before (a ∷ [])) (omega (arith, so_far.as_many));
}

pub repeated : (before : List ℕ) (a : ℕ) (values : List Value) (i : ℕ) (value : Value) → i < length values → value ≡ get_or values i value
    → Some a ≡ address_in (view value) → is_old before a ≡ true → HasCollected before values i → None ≡ addresses_on [] (map view values)
unfolding addresses_on
repeated before a values i value inside is good old so_far = sym (so_far.is ∙ rw (drop_more values i value inside, ← is, ← good, old) refl)

pub stopped : (before : List ℕ) (values : List Value) (i : ℕ) (value : Value) → i < length values → value ≡ get_or values i value
    → None ≡ address_in (view value) → HasCollected before values i → None ≡ addresses_on [] (map view values)
unfolding addresses_on
stopped before values i value inside is bad so_far = sym (so_far.is ∙ rw (drop_more values i value inside, ← is, ← bad) refl)

pub all_collected : (before : List ℕ) (values : List Value) (i : ℕ) → length values ≤ i → HasCollected before values i → Some before ≡ addresses_on [] (map view values)
unfolding addresses_on
all_collected before values i over so_far = sym (so_far.is ∙ rw (drop_of_length-le values over) refl)

pub it_is_old : (is_new old : Bool) → is_new ≡ not old → is_new ≡ false → old ≡ true
it_is_old is_new true said isnt = refl
it_is_old is_new false said isnt = cc

pub it_is_new : (is_new old : Bool) → is_new ≡ not old → is_new ≡ true → old ≡ false
it_is_new is_new true said is = cc
it_is_new is_new false said is = refl
