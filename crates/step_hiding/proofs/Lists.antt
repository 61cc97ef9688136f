-- Lists that are alike place by place, and the serial at which a row lets a frame in.
use Rattle.std.specs.Prelude.{◌≡◌, ◌⊎◌, ℕ, ◌%◌, nat_eq, Bool, true, false, cond, refl, List, [], ◌∷◌, ◌++◌, length, map, take, drop, Option, Some, None, slice_get, slice_set, slice_index_or}
use Rattle.std.specs.List.{AllZip}
use Rattle.std.proofs.Common.{ap, sym, subst, ◌∙◌, inl, inr, zero, suc}
use Rattle.std.proofs.lemmas.Bool.{eqb-true}
use Rattle.lane_table.specs.Gates.{closing_gate, fits_want}
use Rattle.lane_table.specs.declared.row.Row.{Row as Door}
use Rattle.lane_table.specs.declared.row.Want.TheVariants.{Write as Writes}
use Rattle.lane_table.specs.declared.gate.Gate.{Gate}
use Rattle.lane_table.specs.declared.gate.Gate.TheVariants.{New, Same, Stale}
use Rattle.express_words.specs.Bytes.{xor_bytes}
use Rattle.express_words.proofs.Bytes.{length-xor_bytes}
use Rattle.dpf_rules.specs.Walk.{leaf_bytes, last_of}
use Rattle.dpf_rules.specs.Expansion.{block}
use Rattle.dpf_rules.proofs.KeysLemmas.{length-block}
use Rattle.audit_rules.specs.Values.{Write}
use Rattle.step_rules.specs.Boxes.{Box, addresses_of, added}
use Rattle.step_hiding.specs.Worlds.{Leaves, adds_in, written_in}
use Rattle.step_hiding.specs.Twins.{Aims, Two, SameElsewhere, TwinBoxes}

-- a frame that goes on with a request is let in at its serial alone
pub gate_serial : (d : Door) (serial : ℕ) → (closing_gate d serial ≡ Same) ⊎ (closing_gate d serial ≡ New) → serial ≡ d.serial
unfolding closing_gate
gate_serial d serial let_in = by (nat_eq serial d.serial) refl (elim let_in [ inl e ↦ λ same is. inl (at same is ∙ e) | inr e ↦ λ same is. inr (at same is ∙ e) ])
  where
    Gates : Bool → Gate
    Gates same = cond same (fits_want d Writes) (Stale d.serial)

    at : (same : Bool) → nat_eq serial d.serial ≡ same → Gates same ≡ Gates (nat_eq serial d.serial)
    at same is = ap Gates (sym is)

    by : (same : Bool) → nat_eq serial d.serial ≡ same
        → ((b : Bool) → nat_eq serial d.serial ≡ b → (Gates b ≡ Same) ⊎ (Gates b ≡ New)) → serial ≡ d.serial
    by true is gates = eqb-true _ _ is
    by false is gates = elim (gates false is) [ inl e ↦ absurd (cc e) | inr e ↦ absurd (cc e) ]

module _ {A : Type 0} (R : A → A → Type 0) where
  pub zip_set : (xs ys : List A) (i : ℕ) (x y : A) → AllZip R xs ys → R x y → AllZip R (slice_set xs i x) (slice_set ys i y)
  zip_set [] [] i x y zip r = zip
  zip_set [] (b ∷ ys) i x y zip r = absurd zip
  zip_set (a ∷ xs) [] i x y zip r = absurd zip
  zip_set (a ∷ xs) (b ∷ ys) zero x y zip r = (r, zip.1)
  zip_set (a ∷ xs) (b ∷ ys) (suc i) x y zip r = (zip.0, zip_set xs ys i x y zip.1 r)

  pub zip_at : (xs ys : List A) (i : ℕ) (d : A) → AllZip R xs ys → R d d → R (slice_index_or xs i d) (slice_index_or ys i d)
  zip_at [] [] i d zip r = r
  zip_at [] (b ∷ ys) i d zip r = absurd zip
  zip_at (a ∷ xs) [] i d zip r = absurd zip
  zip_at (a ∷ xs) (b ∷ ys) zero d zip r = zip.0
  zip_at (a ∷ xs) (b ∷ ys) (suc i) d zip r = zip_at xs ys i d zip.1 r

  pub zip_append : (xs ys : List A) (x y : A) → AllZip R xs ys → R x y → AllZip R (xs ++ x ∷ []) (ys ++ y ∷ [])
  zip_append [] [] x y zip r = (r, zip)
  zip_append [] (b ∷ ys) x y zip r = absurd zip
  zip_append (a ∷ xs) [] x y zip r = absurd zip
  zip_append (a ∷ xs) (b ∷ ys) x y zip r = (zip.0, zip_append xs ys x y zip.1 r)

  pub zip_drop : (n : ℕ) (xs ys : List A) → AllZip R xs ys → AllZip R (drop n xs) (drop n ys)
  zip_drop zero xs ys zip = zip
  zip_drop (suc n) [] [] zip = zip
  zip_drop (suc n) [] (b ∷ ys) zip = absurd zip
  zip_drop (suc n) (a ∷ xs) [] zip = absurd zip
  zip_drop (suc n) (a ∷ xs) (b ∷ ys) zip = zip_drop n xs ys zip.1

  pub zip_length : (xs ys : List A) → AllZip R xs ys → length xs ≡ length ys
  zip_length [] [] zip = refl
  zip_length [] (b ∷ ys) zip = absurd zip
  zip_length (a ∷ xs) [] zip = absurd zip
  zip_length (a ∷ xs) (b ∷ ys) zip = ap suc (zip_length xs ys zip.1)

  pub zip_same : ((x : A) → R x x) → (xs : List A) → AllZip R xs xs
  zip_same same [] = tt
  zip_same same (x ∷ xs) = (same x, zip_same same xs)

  -- both have an element there, or none
  abbrev pub Both : Option A → Option A → Type 0
  Both (Some x) (Some y) = R x y
  Both None None = Unit {0}
  Both x y = ⊥

  pub zip_get : (xs ys : List A) (i : ℕ) → AllZip R xs ys → Both (slice_get xs i) (slice_get ys i)
  zip_get [] [] i zip = tt
  zip_get [] (b ∷ ys) i zip = absurd zip
  zip_get (a ∷ xs) [] i zip = absurd zip
  zip_get (a ∷ xs) (b ∷ ys) zero zip = zip.0
  zip_get (a ∷ xs) (b ∷ ys) (suc i) zip = zip_get xs ys i zip.1

-- lists that are alike by place, where the places count
pub set_alike : {A : Type 0} (R : ℕ → A → A → Type 0) (xs ys : List A) (d : A) (i : ℕ) (x y : A) → length xs ≡ length ys
    → ((j : ℕ) → R j (slice_index_or xs j d) (slice_index_or ys j d)) → R i x y
    → (j : ℕ) → R j (slice_index_or (slice_set xs i x) j d) (slice_index_or (slice_set ys i y) j d)
set_alike R [] [] d i x y same alike r j = alike j
set_alike R [] (b ∷ ys) d i x y same alike r j = absurd (cc same)
set_alike R (a ∷ xs) [] d i x y same alike r j = absurd (cc same)
set_alike R (a ∷ xs) (b ∷ ys) d zero x y same alike r zero = r
set_alike R (a ∷ xs) (b ∷ ys) d zero x y same alike r (suc j) = alike (suc j)
set_alike R (a ∷ xs) (b ∷ ys) d (suc i) x y same alike r zero = alike zero
set_alike R (a ∷ xs) (b ∷ ys) d (suc i) x y same alike r (suc j) =
    set_alike (λ n. R (suc n)) xs ys d i x y (cc same) (λ n. alike (suc n)) r j

pub set_length : {A : Type 0} (xs : List A) (i : ℕ) (x : A) → length (slice_set xs i x) ≡ length xs
set_length [] i x = refl
set_length (a ∷ xs) zero x = refl
set_length (a ∷ xs) (suc i) x = ap suc (set_length xs i x)

module _ (aims : Aims) where
  abbrev pub Zip : List Box → List Box → Type 0
  Zip xs ys = AllZip (TwinBoxes aims) xs ys

  pub same_addresses : (xs ys : List Box) → Zip xs ys → addresses_of xs ≡ addresses_of ys
  same_addresses [] [] zip = refl
  same_addresses [] (b ∷ ys) zip = absurd zip
  same_addresses (a ∷ xs) [] zip = absurd zip
  same_addresses (a ∷ xs) (b ∷ ys) zip =
      ap (λ n. n ∷ addresses_of xs) zip.0.address ∙ ap (λ l. b.address ∷ l) (same_addresses xs ys zip.1)

  -- a box is its twin with another share
  pub twin_is : (box twin : Box) → TwinBoxes aims box twin → record box { share = twin.share } ≡ twin
  twin_is box twin twins =
      ap (λ a. with_these a box.key box.live) twins.address
      ∙ ap (λ k. with_these twin.address k box.live) twins.key
      ∙ ap (λ l. with_these twin.address twin.key l) twins.live
    where
      with_these : ℕ → List ℕ → Bool → Box
      with_these a k l = record { address = a; key = k; share = twin.share; live = l }

  -- a box with one share in both
  pub same_box : (box : Box) → TwinBoxes aims box box
  same_box box = record { address = refl; key = refl; live = refl; size = refl; share = λ is. refl }

-- what a leaf adds is as long as the part's last correction
added_length : (part : List ℕ) (leaf : ℕ) → length (leaf_bytes part leaf) ≡ length (last_of part)
unfolding leaf_bytes
added_length part leaf = by (nat_eq (leaf % 2) 1)
  where
    own : length (block (length (last_of part)) leaf) ≡ length (last_of part)
    own = length-block (length (last_of part)) leaf

    by : (odd : Bool)
        → length (cond odd (xor_bytes (block (length (last_of part)) leaf) (last_of part)) (block (length (last_of part)) leaf)) ≡ length (last_of part)
    by true = length-xor_bytes _ _ own ∙ own
    by false = own

-- lengths alone count for the length of a sum
xor_length : (xs ys zs ws : List ℕ) → length xs ≡ length zs → length ys ≡ length ws → length (xor_bytes xs ys) ≡ length (xor_bytes zs ws)
unfolding xor_bytes
xor_length [] ys [] ws one two = two
xor_length [] ys (z ∷ zs) ws one two = absurd (cc one)
xor_length (x ∷ xs) ys [] ws one two = absurd (cc one)
xor_length (x ∷ xs) [] (z ∷ zs) [] one two = one
xor_length (x ∷ xs) [] (z ∷ zs) (w ∷ ws) one two = absurd (cc two)
xor_length (x ∷ xs) (y ∷ ys) (z ∷ zs) [] one two = absurd (cc two)
xor_length (x ∷ xs) (y ∷ ys) (z ∷ zs) (w ∷ ws) one two = ap suc (xor_length xs ys zs ws (cc one) (cc two))

module _ (two : Two) (elsewhere : SameElsewhere two) (lane serial : ℕ) (w : Write) where
  here : Leaves
  here = two.here.leaf lane serial

  there : Leaves
  there = two.there.leaf lane serial

  add : Box → Box
  add = added (adds_in here w)

  add_twin : Box → Box
  add_twin = added (adds_in there w)

  added_twins : (box other : Box) → TwinBoxes two.aims box other → TwinBoxes two.aims (add box) (add_twin other)
  unfolding add add_twin here there
  added_twins box other both =
      subst (λ o. TwinBoxes two.aims (added (adds_in here w) box) (added (adds_in there w) o)) (twin_is two.aims box other both)
      (record { address = refl; key = refl; live = refl; size = sizes box.live; share = shares box.live })
    where
      sizes : (live : Bool)
          → length (cond live (xor_bytes box.share (adds_in here w box.address)) box.share)
          ≡ length (cond live (xor_bytes other.share (adds_in there w box.address)) other.share)
      sizes true =
          xor_length _ _ _ _ both.size
          (added_length w.part (here w.part w.root box.address) ∙ sym (added_length w.part (there w.part w.root box.address)))
      sizes false = both.size

      shares : (live : Bool) → two.aims.spared box.address ≡ true
          → cond live (xor_bytes box.share (adds_in here w box.address)) box.share
          ≡ cond live (xor_bytes other.share (adds_in there w box.address)) other.share
      shares true is =
          ap (λ s. xor_bytes s (adds_in here w box.address)) (both.share is)
          ∙ ap (λ leaf. xor_bytes other.share (leaf_bytes w.part leaf)) (elsewhere lane serial w.part w.root box.address is)
      shares false is = both.share is

  first_added : (n : ℕ) (xs ys : List Box) → Zip two.aims xs ys
      → Zip two.aims (map add (take n xs) ++ drop n xs) (map add_twin (take n ys) ++ drop n ys)
  first_added zero xs ys zip = zip
  first_added (suc n) [] [] zip = zip
  first_added (suc n) [] (b ∷ ys) zip = absurd zip
  first_added (suc n) (a ∷ xs) [] zip = absurd zip
  first_added (suc n) (a ∷ xs) (b ∷ ys) zip = (added_twins a b zip.0, first_added n xs ys zip.1)

  pub written : (xs ys : List Box) → Zip two.aims xs ys
      → Zip two.aims (written_in (two.here.leaf lane serial) w xs) (written_in (two.there.leaf lane serial) w ys)
  unfolding written_in add add_twin here there
  written xs ys zip = first_added w.count xs ys zip
