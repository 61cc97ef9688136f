-- What is read exactly: a value where it is right, and the name of a key where that is the first bad one.
use Rattle.std.proofs.Common.{◌≡◌, ◌⊎◌, inl, inr, ℕ, List, Option, Some, None, Result, Ok, Err, refl, sym, ◌∙◌, ap, subst}
use Rattle.std.specs.Prelude.{option_and_then}
use Rattle.std.specs.Option.{ok_or}
use Rattle.toml.specs.Data.{Data, Members, get_member}
use Rattle.settings_text.specs.Keys.{◌>>=◌, needed, optional, given_or}
use Rattle.settings_text.specs.Meanings.{FaultIn, Has, HasOr, IsWrong, NoneIs}

abbrev pub failed : {A : Type 0} → List ℕ → Result A (List ℕ)
failed key = Err key

-- a reader of one value
pub record ReadsAs {A : Type 0} (read : Data → Option A) (Means : A → Data → Type 0) : Type 0 where
  pub found : (value : Data) (a : A) → read value ≡ Some a → Means a value
  pub only : (value : Data) (a : A) → Means a value → read value ≡ Some a

-- what came of some keys
pub record IsExact {A : Type 0} (read : Result A (List ℕ)) (Right : A → Type 0) (Bad : List ℕ → Type 0) : Type 0 where
  pub found : (a : A) → read ≡ Ok a → Right a
  pub only : (a : A) → Right a → read ≡ Ok a
  pub bad : (named : List ℕ) → read ≡ Err named → Bad named
  pub only_bad : (named : List ℕ) → Bad named → read ≡ Err named

one_value : {A : Type 0} (read : Result A (List ℕ)) (a b : A) → read ≡ Ok a → read ≡ Ok b → a ≡ b
one_value read a b one two = cc

pub not_both : {A : Type 0} (read : Result A (List ℕ)) (a : A) (named : List ℕ) → read ≡ Ok a → read ≡ Err named → ⊥
not_both read a named one two = cc

same_key : {A : Type 0} (read : Result A (List ℕ)) (key named : List ℕ) → read ≡ Err key → read ≡ Err named → key ≡ named
same_key read key named one two = cc

-- one key, and then the next, for which it is known what the first has
pub and_so : {A B : Type 0} (first : Result A (List ℕ)) (next : A → Result B (List ℕ)) (Right : A → Type 0) (Bad : List ℕ → Type 0) (Next : A → B → Type 0) (Later : A → List ℕ → Type 0)
    → IsExact first Right Bad → ((a : A) → Right a → IsExact (next a) (Next a) (Later a))
    → IsExact (first >>= next) (λ b. (a : A) × Right a × Next a b) (FaultIn Bad Right Later)
and_so {A} {B} (Ok x) next Right Bad Next Later one rest = record {
  found = λ b h. (x, one.found x refl, (rest x (one.found x refl)).found b h);
  only = λ b h. ap next (one_value (Ok x) x h.0 refl (one.only h.0 h.1)) ∙ (rest h.0 h.1).only b h.2;
  bad = λ named h. inr (x, one.found x refl, (rest x (one.found x refl)).bad named h);
  only_bad = λ named h. named_so named h;
}
  where
    named_so : (named : List ℕ) → Bad named ⊎ ((a : A) × Right a × Later a named) → next x ≡ Err named
    named_so named (inl bad) = absurd (not_both (Ok x) x named refl (one.only_bad named bad))
    named_so named (inr later) = ap next (one_value (Ok x) x later.0 refl (one.only later.0 later.1)) ∙ (rest later.0 later.1).only_bad named later.2
and_so {A} {B} (Err key) next Right Bad Next Later one rest = record {
  found = λ b h. absurd (not_both (Err key) b key h refl);
  only = λ b h. absurd (not_both (Err key) h.0 key (one.only h.0 h.1) refl);
  bad = λ named h. inl (one.bad named (ap (λ (k : List ℕ). failed {A = A} k) (same_key (Err key) key named refl h)));
  only_bad = λ named h. named_so named h;
}
  where
    named_so : (named : List ℕ) → Bad named ⊎ ((a : A) × Right a × Later a named) → failed {A = B} key ≡ Err named
    named_so named (inl bad) = ap (λ (k : List ℕ). failed {A = B} k) (same_key (Err key) key named refl (one.only_bad named bad))
    named_so named (inr later) = absurd (not_both (Err key) later.0 key (one.only later.0 later.1) refl)

pub and_then : {A B : Type 0} (first : Result A (List ℕ)) (next : A → Result B (List ℕ)) (Right : A → Type 0) (Bad : List ℕ → Type 0) (Next : A → B → Type 0) (Later : A → List ℕ → Type 0)
    → IsExact first Right Bad → ((a : A) → IsExact (next a) (Next a) (Later a))
    → IsExact (first >>= next) (λ b. (a : A) × Right a × Next a b) (FaultIn Bad Right Later)
and_then first next Right Bad Next Later one rest = and_so first next Right Bad Next Later one (λ a right. rest a)

-- behind the last key
pub done : {A : Type 0} (a : A) → IsExact (Ok a) (λ b. b ≡ a) NoneIs
done a = record {
  found = λ b h. sym (one_value (Ok a) a b refl h);
  only = λ b h. ap Ok (sym h);
  bad = λ named h. not_both (Ok a) a named refl h;
  only_bad = λ named h. absurd h;
}

-- the same relations in other words
pub as_well : {A : Type 0} (read : Result A (List ℕ)) (Right Also : A → Type 0) (Bad Worse : List ℕ → Type 0) → ((a : A) → Right a → Also a) → ((a : A) → Also a → Right a)
    → ((named : List ℕ) → Bad named → Worse named) → ((named : List ℕ) → Worse named → Bad named) → IsExact read Right Bad → IsExact read Also Worse
as_well read Right Also Bad Worse to from on back exact = record {
  found = λ a h. to a (exact.found a h);
  only = λ a h. exact.only a (from a h);
  bad = λ named h. on named (exact.bad named h);
  only_bad = λ named h. exact.only_bad named (back named h);
}

-- ---- one key

-- a value that was read, or wasn't
pub or_named : {A : Type 0} (read : Option A) (key : List ℕ) (Right : A → Type 0) → ((a : A) → read ≡ Some a → Right a) → ((a : A) → Right a → read ≡ Some a)
    → IsExact (ok_or read key) Right (IsWrong key Right)
or_named {A} None key Right to from = record {
  found = λ a h. absurd (not_both (Err key) a key h refl);
  only = λ a h. absurd (none a (from a h));
  bad = λ named h. (same_key (failed {A = A} key) named key h refl, λ a right. none a (from a right));
  only_bad = λ named h. ap (λ (k : List ℕ). failed {A = A} k) (sym h.0);
}
  where
    none : (a : A) → None ≡ Some a → ⊥
    none a h = cc
or_named {A} (Some x) key Right to from = record {
  found = λ a h. subst Right (one_value (Ok x) x a refl h) (to x refl);
  only = λ a h. ap Ok (some a (from a h));
  bad = λ named h. absurd (not_both (Ok x) x named refl h);
  only_bad = λ named h. absurd (h.1 x (to x refl));
}
  where
    some : (a : A) → Some x ≡ Some a → x ≡ a
    some a h = cc

at_some : {A : Type 0} (read : Data → Option A) (value : Data) (stands : Option Data) → stands ≡ Some value → option_and_then read stands ≡ read value
at_some read value stands is = rw is refl

none_at : {A : Type 0} (read : Data → Option A) (stands : Option Data) (a : A) → option_and_then read stands ≡ Some a → (value : Data) × (stands ≡ Some value) × (read value ≡ Some a)
none_at read None a h = cc
none_at read (Some value) a h = (value, refl, h)

-- what stands under a key is read as it is meant
pub key_read : {A : Type 0} (key : List ℕ) (read : Data → Option A) (Means : A → Data → Type 0) (keys : Members) → ReadsAs read Means
    → ((a : A) → option_and_then read (get_member key keys) ≡ Some a → Has key Means keys a) × ((a : A) → Has key Means keys a → option_and_then read (get_member key keys) ≡ Some a)
key_read key read Means keys reads = (
  (λ a h. let at = none_at read (get_member key keys) a h in (at.0, at.1, reads.found at.0 a at.2)),
  (λ a h. at_some read h.0 (get_member key keys) h.1 ∙ reads.only h.0 a h.2),
)

pub needed_exact : {A : Type 0} (key : List ℕ) (read : Data → Option A) (Means : A → Data → Type 0) (keys : Members) → ReadsAs read Means
    → IsExact (needed key read keys) (Has key Means keys) (IsWrong key (Has key Means keys))
needed_exact key read Means keys reads =
    let at = key_read key read Means keys reads in
    or_named (option_and_then read (get_member key keys)) key (Has key Means keys) at.0 at.1

missing_one : {A : Type 0} (default a : A) (key : List ℕ) (Means : A → Data → Type 0) (keys : Members) → get_member key keys ≡ None
    → HasOr default key Means keys a → a ≡ default
missing_one default a key Means keys none (inl h) = h.1
missing_one default a key Means keys none (inr h) = let there = h.1 in cc

one_stands : {A : Type 0} (default a : A) (key : List ℕ) (read : Data → Option A) (Means : A → Data → Type 0) (keys : Members) (value : Data) → ReadsAs read Means
    → get_member key keys ≡ Some value → HasOr default key Means keys a → read value ≡ Some a
one_stands default a key read Means keys value reads there (inl h) = let none = h.0 in cc
one_stands default a key read Means keys value reads there (inr h) =
    let also = h.1 in
    let same : value ≡ h.0 = cc in
    ap read same ∙ reads.only h.0 a h.2

pub optional_exact : {A : Type 0} (default : A) (key : List ℕ) (read : Data → Option A) (Means : A → Data → Type 0) (keys : Members) → ReadsAs read Means
    → IsExact (optional default key read keys) (HasOr default key Means keys) (IsWrong key (HasOr default key Means keys))
optional_exact {A} default key read Means keys reads = at_stands (get_member key keys) refl
  where
    at_stands : (stands : Option Data) → get_member key keys ≡ stands
        → IsExact (given_or default key read stands) (HasOr default key Means keys) (IsWrong key (HasOr default key Means keys))
    at_stands None e = record {
      found = λ a h. inl (e, sym (one_value (Ok default) default a refl h));
      only = λ a h. ap Ok (sym (missing_one default a key Means keys e h));
      bad = λ named h. absurd (not_both (Ok default) default named refl h);
      only_bad = λ named h. absurd (h.1 default (inl (e, refl)));
    }
    at_stands (Some value) e = or_named (read value) key (HasOr default key Means keys)
        (λ a h. inr (value, e, reads.found value a h)) (λ a h. one_stands default a key read Means keys value reads e h)
