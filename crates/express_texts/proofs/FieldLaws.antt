-- A field is found exactly where it is spelled so.
use Rattle.std.proofs.Common.{◌≡◌, ℕ, nat_eq, Bool, true, false, cond, List, [], ◌∷◌, ◌++◌, Option, Some, None, option_map, Result, Ok, Err, arith, refl, sym, ◌∙◌, ap, ap₂, subst, length, take, drop}
use Rattle.std.specs.Int.{w128, from_be_bytes}
use Rattle.std.specs.Result.{result_ok}
use Rattle.std.proofs.lemmas.Bool.{eqb-true}
use Rattle.hex.specs.Hex.{decode_sized}
use Rattle.express_texts.specs.LineFields.{◌>>=◌, after, wanted, spelled_word, seed_of, word_at, message_of}
use Rattle.express_texts.specs.WordSpelling.{SpellsWord}
use Rattle.std.proofs.lemmas.List.{take_at, drop_at, take-append-drop}
use Rattle.hex.proofs.HexLemmas.{decode_sized-ok}

pub bind_some : {A B : Type 0} (r : Option A) (f : A → Option B) (y : B) → (r >>= f) ≡ Some y
    → (x : A) × (r ≡ Some x) × (f x ≡ Some y)
bind_some None f y h = cc
bind_some (Some x) f y h = (x, refl, h)

pub map_some : {A B : Type 0} (f : A → B) (r : Option A) (y : B) → option_map f r ≡ Some y
    → (x : A) × (r ≡ Some x) × (f x ≡ y)
map_some f None y h = cc
map_some f (Some x) y h = (x, refl, cc)

-- characters in front
pub after_found : (w bytes rest : List ℕ) → after w bytes ≡ Some rest → bytes ≡ w ++ rest
unfolding after
after_found [] bytes rest h = cc
after_found (c ∷ w) [] rest h = cc
after_found (c ∷ w) (b ∷ bytes) rest h = at_test (nat_eq b c) refl (λ k. after_found w bytes rest k) h
  where
    at_test : (t : Bool) → nat_eq b c ≡ t → (after w bytes ≡ Some rest → bytes ≡ w ++ rest)
        → cond t (after w bytes) None ≡ Some rest → b ∷ bytes ≡ c ∷ (w ++ rest)
    at_test true e further k = ap₂ (λ x xs. x ∷ xs) (eqb-true b c e) (further k)
    at_test false e further k = cc

pub after_only : (w rest : List ℕ) → after w (w ++ rest) ≡ Some rest
unfolding after
after_only [] rest = refl
after_only (c ∷ w) rest = let same : nat_eq c c ≡ true = grind arith in rw (same, after_only w rest) refl

-- digits
pub word_found : (digits : List ℕ) (a : ℕ) → spelled_word digits ≡ Some a → SpellsWord a digits
unfolding spelled_word
word_found digits a h = at_read (decode_sized digits 16) refl h
  where
    at_read : (r : Result (List ℕ) _) → decode_sized digits 16 ≡ r
        → option_map (from_be_bytes w128) (result_ok r) ≡ Some a → SpellsWord a digits
    at_read (Ok bytes) e k = (bytes, e, cc)
    at_read (Err f) e k = cc

pub word_only : (digits : List ℕ) (a : ℕ) → SpellsWord a digits → spelled_word digits ≡ Some a
unfolding spelled_word
word_only digits a h = rw (h.1, h.2) refl

pub wanted_found : (t : Bool) (u : Unit {0}) → wanted t ≡ Some u → t ≡ true
wanted_found true u h = refl
wanted_found false u h = cc

pub seed_found : (digits seed : List ℕ) → seed_of digits ≡ Some seed → decode_sized digits 32 ≡ Ok seed
unfolding seed_of
seed_found digits seed h = at_read (decode_sized digits 32) refl h
  where
    at_read : (r : Result (List ℕ) _) → decode_sized digits 32 ≡ r → result_ok r ≡ Some seed
        → decode_sized digits 32 ≡ Ok seed
    at_read (Ok bytes) e k = cc
    at_read (Err f) e k = cc

pub seed_only : (digits seed : List ℕ) → decode_sized digits 32 ≡ Ok seed → seed_of digits ≡ Some seed
unfolding seed_of
seed_only digits seed h = rw h refl

pub word_at_found : (bytes : List ℕ) (found : ℕ × List ℕ) → word_at bytes ≡ Some found → SpellsWord found.0 (take 32 bytes) × (bytes ≡ take 32 bytes ++ found.1)
unfolding word_at
word_at_found bytes found h =
    let m = map_some (λ word. (word, drop 32 bytes)) (spelled_word (take 32 bytes)) found h in
    let word : m.0 ≡ found.0 = ap (λ (r : ℕ × List ℕ). r.0) m.2 in
    let rest : drop 32 bytes ≡ found.1 = ap (λ (r : ℕ × List ℕ). r.1) m.2 in
    (subst (λ (x : ℕ). SpellsWord x (take 32 bytes)) word (word_found (take 32 bytes) m.0 m.1), sym (take-append-drop 32 bytes) ∙ ap (λ (t : List ℕ). take 32 bytes ++ t) rest)

pub word_at_only : (digits rest : List ℕ) (a : ℕ) → SpellsWord a digits → word_at (digits ++ rest) ≡ Some (a, rest)
unfolding word_at
word_at_only digits rest a h =
    let long : length digits ≡ 32 = decode_sized-ok digits 16 h.0 h.1 in
    rw (take_at digits rest 32 long, drop_at digits rest 32 long, word_only digits a h) refl

pub message_found : (width : ℕ) (digits message : List ℕ) → message_of width digits ≡ Some message
    → decode_sized digits width ≡ Ok message
unfolding message_of
message_found width digits message h = at_read (decode_sized digits width) refl h
  where
    at_read : (r : Result (List ℕ) _) → decode_sized digits width ≡ r → result_ok r ≡ Some message
        → decode_sized digits width ≡ Ok message
    at_read (Ok bytes) e k = cc
    at_read (Err f) e k = cc

pub message_only : (width : ℕ) (digits message : List ℕ) → decode_sized digits width ≡ Ok message
    → message_of width digits ≡ Some message
unfolding message_of
message_only width digits message h = rw h refl
