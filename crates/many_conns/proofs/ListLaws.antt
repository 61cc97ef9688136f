-- Lists of places, one place more.
use Rattle.std.proofs.Common.{◌≡◌, ℕ, zero, suc, ◌+◌, ◌<◌, ◌≤◌, List, [], ◌∷◌, ◌++◌, length, take, drop, map, All, refl, sym, ap, ◌∙◌, subst, get_or, slice_set, append_assoc, arith, add-one}
use Rattle.std.proofs.Common.{append-nil}
use Rattle.std.proofs.Math.Seq.{take-suc}
use Rattle.std.proofs.lemmas.List.{take_all}
use Rattle.std.proofs.lemmas.List.Elements.{All-append}
use Rattle.std.proofs.lemmas.Option.{get_or_from_slice_get, slice_get-get_or}
use Rattle.std.proofs.lemmas.List.{take-append-le, length-drop, drop-take, length-append, length-take, length-take-le}
use Rattle.std.proofs.lemmas.Bool.{cases_lt}
use Rattle.std.proofs.Math.ListN.{drop_of_length-le}
use Rattle.std.proofs.Math.Seq.{drop-cons}
use Rattle.std.specs.Prelude.{Bool, Option, Some, min, ◌-◌, ◌⊎◌, slice_get}
use Rattle.std.proofs.Common.{inl, inr}
use Rattle.many_words.specs.declared.door.Door.TheVariants.{Clients}
use Rattle.many_words.specs.declared.door.Door.{Door}
use Rattle.many_words.specs.Events.{Entry}
use Rattle.many_conns.specs.Rules.{Rules}
use Rattle.many_conns.specs.Places.{Place, empty_place}
use Rattle.many_conns.specs.Batches.{whole_from, entries_of, frames_from}
use Rattle.many_conns.specs.Hall.{IsSomeAt}

none_below : (i : ℕ) → i < 0 → ⊥
none_below i lt = omega arith

all_one : (P : Place → Type 0) (p : Place) → P p → All P (p ∷ [])
all_one P p holds = grind arith

-- the places before this one, and this one
pub all_more : (P : Place → Type 0) (places : List Place) (i : ℕ) → i < length places → All P (take i places)
    → IsSomeAt places i P → All P (take (i + 1) places)
all_more P places i lt before here =
    rw (add-one, take-suc places i (empty_place Clients) lt)
    (All-append P (take i places) (get_or places i (empty_place Clients) ∷ []) before
    (all_one P _ (here (get_or places i (empty_place Clients)) (slice_get-get_or places i (empty_place Clients) lt))))

pub all_whole : (P : Place → Type 0) (places : List Place) (n : ℕ) → n ≡ length places → All P (take n places)
    → All P places
all_whole P places n is all = subst (All P) (ap (λ k. take k places) is ∙ take_all (length places) places (omega arith)) all

whole_from-suc : {S : Type 0} (rules : Rules S) (s : S) (peers : Bool) (k : ℕ) (places : List Place) (i : ℕ) (p : Place) → i < length places → p ≡ get_or places i p
    → whole_from rules s peers k (take (suc i) places) ≡ whole_from rules s peers k (take i places) ++ entries_of rules s (k + i) p.door (frames_from rules.whole peers p)
whole_from-suc rules s peers k [] i p lt read = absurd (none_below i lt)
whole_from-suc rules s peers k (q ∷ places) zero p lt read =
    append-nil (entries_of rules s k q.door (frames_from rules.whole peers q))
    ∙ (ap (λ x. entries_of rules s k x.door (frames_from rules.whole peers x)) (sym read) ∙ ap (λ n. entries_of rules s n p.door (frames_from rules.whole peers p)) (omega arith))
whole_from-suc rules s peers k (q ∷ places) (suc i) p lt read =
    let next : k + 1 + i ≡ k + suc i = omega arith in
    ap (λ b. entries_of rules s k q.door (frames_from rules.whole peers q) ++ b) (whole_from-suc rules s peers (k + 1) places i p (omega arith) read
    ∙ ap (λ n. whole_from rules s peers (k + 1) (take i places) ++ entries_of rules s n p.door (frames_from rules.whole peers p)) next)
    ∙ sym (append_assoc (entries_of rules s k q.door (frames_from rules.whole peers q)) (whole_from rules s peers (k + 1) (take i places)) (entries_of rules s (k + suc i) p.door (frames_from rules.whole peers p)))

-- those of the places before this one, and its own
pub whole_from-more : {S : Type 0} (rules : Rules S) (s : S) (peers : Bool) (k : ℕ) (places : List Place) (i : ℕ) (p : Place) → i < length places → p ≡ get_or places i p
    → whole_from rules s peers k (take (i + 1) places) ≡ whole_from rules s peers k (take i places) ++ entries_of rules s (k + i) p.door (frames_from rules.whole peers p)
whole_from-more rules s peers k places i p lt read = rw add-one (whole_from-suc rules s peers k places i p lt read)

-- those of the places up to one, and of the others
pub whole_from-split : {S : Type 0} (rules : Rules S) (s : S) (peers : Bool) (k : ℕ) (places : List Place) (i : ℕ)
    → (rest : List Entry) × (whole_from rules s peers k places ≡ whole_from rules s peers k (take i places) ++ rest)
whole_from-split rules s peers k [] zero = ([], refl)
whole_from-split rules s peers k [] (suc i) = ([], refl)
whole_from-split rules s peers k (q ∷ places) zero = (whole_from rules s peers k (q ∷ places), refl)
whole_from-split rules s peers k (q ∷ places) (suc i) =
    let later = whole_from-split rules s peers (k + 1) places i in (
      later.0,
      ap (λ b. entries_of rules s k q.door (frames_from rules.whole peers q) ++ b) later.1
          ∙ sym (append_assoc (entries_of rules s k q.door (frames_from rules.whole peers q)) (whole_from rules s peers (k + 1) (take i places)) later.0),
    )

-- a change of each place, one after another
abbrev pub stepped : (Place → Place) → List Place → ℕ → List Place
stepped f xs i = map f (take i xs) ++ drop i xs

stepped-suc : (f : Place → Place) (xs : List Place) (i : ℕ) (x made : Place) → i < length xs
    → x ≡ get_or (stepped f xs i) i x → made ≡ f x
    → slice_set (stepped f xs i) i made ≡ stepped f xs (suc i)
stepped-suc f [] i x made lt read same = absurd (none_below i lt)
stepped-suc f (y ∷ xs) zero x made lt read same = ap (λ k. k ∷ xs) (same ∙ ap f read)
stepped-suc f (y ∷ xs) (suc i) x made lt read same =
    ap (λ k. f y ∷ k) (stepped-suc f xs i x made (omega arith) read same)

pub stepped-more : (f : Place → Place) (xs : List Place) (i : ℕ) (x made : Place) → i < length xs
    → x ≡ get_or (stepped f xs i) i x → made ≡ f x
    → slice_set (stepped f xs i) i made ≡ stepped f xs (i + 1)
stepped-more f xs i x made lt read same = rw add-one (stepped-suc f xs i x made lt read same)

pub stepped-next : (f : Place → Place) (xs items : List Place) (i n : ℕ) (x made : Place)
    → items ≡ stepped f xs i → i < n → n ≡ length xs → x ≡ get_or items i x → made ≡ f x
    → slice_set items i made ≡ stepped f xs (i + 1)
stepped-next f xs items i n x made is lt count read same =
    ap (λ k. slice_set k i made) is
    ∙ stepped-more f xs i x made (subst (λ k. i < k) count lt) (subst (λ k. x ≡ get_or k i x) is read) same

-- what holds of the places before this one holds of one more
pub all_next : (P : Place → Type 0) (before now : List Place) (i n : ℕ) → i < n → n ≡ length now
    → All P (take i before) → take i now ≡ take i before → IsSomeAt now i P → All P (take (i + 1) now)
all_next P before now i n lt count all same here =
    all_more P now i (subst (λ k. i < k) count lt) (subst (All P) (sym same) all) here

-- one place more
pub one_more : (P : Place → Type 0) (places : List Place) (place : ℕ) (x : Place) → place < length places → x ≡ get_or places place x
    → P x → All P (take place places) → All P (take (place + 1) places)
one_more P places place x lt read holds all =
    all_more P places place lt all (λ p got. subst P (read ∙ get_or_from_slice_get places place p x got) holds)

-- so many bytes at the front are dropped, or all
pub drop_at_most : (xs : List ℕ) (count m : ℕ) → m ≡ min count (length xs) → drop m xs ≡ drop count xs
drop_at_most xs count m is = cases (cases_lt count (length xs))
  where
    cases : (count < length xs) ⊎ (length xs ≤ count) → drop m xs ≡ drop count xs
    cases (inl less) = ap (λ k. drop k xs) (omega arith)
    cases (inr more) = drop_of_length-le xs (omega arith) ∙ sym (drop_of_length-le xs more)

-- what was read at an index is the first of those from it on
pub drop-next : {A : Type 0} (xs : List A) (i : ℕ) (x : A) → i < length xs → x ≡ get_or xs i x → drop i xs ≡ x ∷ drop (i + 1) xs
drop-next xs i x lt is = rw add-one (drop-cons xs i x lt ∙ ap (λ k. k ∷ drop (suc i) xs) (sym is))
