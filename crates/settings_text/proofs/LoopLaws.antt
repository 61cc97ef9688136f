-- What is read of the values of a list, one after the other.
use Rattle.std.proofs.Common.{◌≡◌, ℕ, ◌+◌, ◌<◌, ◌≤◌, List, [], ◌∷◌, ◌++◌, length, get_or, drop, map, Option, Some, None, option_map, arith, refl, sym, ap, ◌∙◌}
use Rattle.std.proofs.Common.{append_assoc, append-nil, length-append}
use Rattle.std.proofs.Math.ListN.{drop_of_length-le}
use Rattle.std.proofs.lemmas.List.{drop_more}
use Rattle.std.proofs.lemmas.List.Elements.{All-nil, All-push}
use Rattle.std.specs.List.{All}
use Rattle.toml.specs.Data.{Data}
use Rattle.toml.specs.View.{view}
use Rattle.toml.specs.declared.value.Value.{Value}
use Rattle.settings_text.specs.Values.{every}

-- Of the first i values these were read, and each keeps a law.
pub record HasRead {A : Type 0} (read : Data → Option A) (Law : A → Type 0) (found : List A) (values : List Value) (i : ℕ) : Type 0 where
  pub is : every read (map view values) ≡ option_map (λ others. found ++ others) (every read (map view (drop i values)))
  pub lawful : All Law found
  pub as_many : length found ≡ i

two_maps : {A : Type 0} (found : List A) (a : A) (others : Option (List A)) → option_map (λ more. found ++ more) (option_map (λ rest. a ∷ rest) others) ≡ option_map (λ more. (found ++ a ∷ []) ++ more) others
two_maps found a None = refl
two_maps found a (Some others) = ap Some (sym (append_assoc found (a ∷ []) others))

no_map : {A : Type 0} (others : Option (List A)) → others ≡ option_map (λ more. [] ++ more) others
no_map None = refl
no_map (Some others) = refl

pub none_read : {A : Type 0} (read : Data → Option A) (Law : A → Type 0) (values : List Value) → HasRead read Law [] values 0
none_read read Law values = record { is = no_map (every read (map view values)); lawful = All-nil Law; as_many = refl }

pub one_more : {A : Type 0} (read : Data → Option A) (Law : A → Type 0) (found : List A) (a : A) (values : List Value) (i : ℕ) (value : Value) → i < length values → value ≡ get_or values i value
    → Some a ≡ read (view value) → Law a → HasRead read Law found values i → HasRead read Law (found ++ a ∷ []) values (i + 1)
unfolding every
one_more read Law found a values i value inside is good law so_far = record {
  is = so_far.is ∙ rw (drop_more values i value inside, ← is, ← good) (two_maps found a _);
  lawful = All-push Law found a so_far.lawful law;
  as_many = rw (length-append found (a ∷ [])) (omega (arith, so_far.as_many));
}

pub stopped : {A : Type 0} (read : Data → Option A) (Law : A → Type 0) (found : List A) (values : List Value) (i : ℕ) (value : Value) → i < length values → value ≡ get_or values i value
    → None ≡ read (view value) → HasRead read Law found values i → None ≡ every read (map view values)
unfolding every
stopped read Law found values i value inside is bad so_far = sym (so_far.is ∙ rw (drop_more values i value inside, ← is, ← bad) refl)

pub all_read : {A : Type 0} (read : Data → Option A) (Law : A → Type 0) (found : List A) (values : List Value) (i : ℕ) → length values ≤ i → HasRead read Law found values i → Some found ≡ every read (map view values)
unfolding every
all_read read Law found values i over so_far = sym (so_far.is ∙ rw (drop_of_length-le values over) (ap Some (append-nil found)))
