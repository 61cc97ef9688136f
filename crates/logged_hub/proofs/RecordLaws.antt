-- The records of frames, one after another.
use Rattle.std.proofs.Common.{◌≡◌, ℕ, ◌+◌, ◌<◌, List, [], ◌∷◌, ◌++◌, Option, Some, None, Bool, true, false, ◌==◌, ◌⊎◌, inl, inr, length, take, drop, get_or, refl, sym, ◌∙◌, ap, subst, arith, append_assoc, append-nil, length-append, add-one}
use Rattle.std.proofs.Math.Seq.{take-suc}
use Rattle.std.proofs.lemmas.List.{take-append-drop}
use Rattle.std.proofs.lemmas.Bool.Decides.{nat_tests}
use Rattle.many_words.specs.Events.{Entry, cons_some, records_of}
use Rattle.node_journal.specs.Records.{AllSized, IsSized, body, opened}
use Rattle.logged_hub.specs.Logs.{PassesRoom}

cons-append : (noted : Option (List ℕ)) (a b : List (List ℕ)) → cons_some noted (a ++ b) ≡ cons_some noted a ++ b
cons-append None a b = refl
cons-append (Some bytes) a b = refl

pub records-append : (a b : List Entry) → records_of (a ++ b) ≡ records_of a ++ records_of b
records-append [] b = refl
records-append (e ∷ a) b = ap (cons_some e.noted) (records-append a b) ∙ cons-append e.noted (records_of a) (records_of b)

-- the frames up to the next one have its record too, if it has one
pub records-next : (entries : List Entry) (i : ℕ) (e : Entry) → i < length entries → e ≡ get_or entries i e
    → records_of (take (i + 1) entries) ≡ records_of (take i entries) ++ cons_some e.noted []
records-next entries i e within is =
    ap records_of (next ∙ ap (λ x. take i entries ++ x ∷ []) (sym is)) ∙ records-append (take i entries) (e ∷ [])
  where
    next : take (i + 1) entries ≡ take i entries ++ get_or entries i e ∷ []
    next = rw add-one (take-suc entries i e within)

-- those of all frames are those up to the next one, and more
pub records-rest : (entries : List Entry) (n : ℕ) → (more : List (List ℕ)) × (records_of entries ≡ records_of (take n entries) ++ more)
records-rest entries n =
    (records_of (drop n entries), sym (ap records_of (take-append-drop n entries)) ∙ records-append (take n entries) (drop n entries))

pub all-sized-front : (a b : List (List ℕ)) → AllSized (a ++ b) → AllSized a
all-sized-front [] b all = tt
all-sized-front (r ∷ a) b all = (all.0, all-sized-front a b all.1)

pub all-sized-last : (a : List (List ℕ)) (r : List ℕ) → AllSized (a ++ r ∷ []) → IsSized r
all-sized-last [] r all = all.0
all-sized-last (x ∷ a) r all = all-sized-last a r all.1

pub opened-append : (a b : List (List ℕ)) → opened (a ++ b) ≡ opened a ++ opened b
opened-append [] b = refl
opened-append (r ∷ a) b = ap (λ (l : List ℕ). 1 ∷ body r ++ l) (opened-append a b) ∙ ap (λ (l : List ℕ). 1 ∷ l) (sym (append_assoc (body r) (opened a) (opened b)))

opened-one : (r : List ℕ) → length (opened (r ∷ [])) ≡ 5 + length r
opened-one r = omega (arith, length-append (body r) [])

-- ---- the next frame has this record

module _ (entries : List Entry) (i : ℕ) (e : Entry) (bytes : List ℕ) (within : i < length entries) (is : e ≡ get_or entries i e) (noted : e.noted ≡ Some bytes) where
  next : records_of (take (i + 1) entries) ≡ records_of (take i entries) ++ bytes ∷ []
  next = records-next entries i e within is ∙ ap (λ o. records_of (take i entries) ++ cons_some o []) noted

  rest : (more : List (List ℕ)) × (records_of entries ≡ (records_of (take i entries) ++ bytes ∷ []) ++ more)
  rest = let more = records-rest entries (i + 1) in (more.0, more.1 ∙ ap (λ (l : List (List ℕ)). l ++ more.0) next)

  pub pushed : (records : List (List ℕ)) → records ≡ records_of (take i entries) → records ++ bytes ∷ [] ≡ records_of (take (i + 1) entries)
  pushed records so_far = ap (λ (l : List (List ℕ)). l ++ bytes ∷ []) so_far ∙ sym next

  pub some : records_of entries ≡ [] → ⊥
  some none = let n = ap length (sym none ∙ rest.1) in
      absurd (omega (arith, n, length-append (records_of (take i entries) ++ bytes ∷ []) rest.0, length-append (records_of (take i entries)) (bytes ∷ [])))

  pub unsized : (IsSized bytes → ⊥) → AllSized (records_of entries) → ⊥
  unsized wrong all =
      wrong (all-sized-last (records_of (take i entries)) bytes (all-sized-front (records_of (take i entries) ++ bytes ∷ []) rest.0 (subst AllSized rest.1 all)))

  pub full : (records : List (List ℕ)) (room : ℕ) → records ≡ records_of (take i entries) → room < length (opened records) + 5 + length bytes + 1
      → PassesRoom room (records_of entries)
  full records room so_far lacks =
      let all = ap (λ (l : List (List ℕ)). length (opened l)) (rest.1 ∙ ap (λ (l : List (List ℕ)). (l ++ bytes ∷ []) ++ rest.0) (sym so_far)) in
      omega (
        arith,
        lacks,
        all,
        ap length (opened-append (records ++ bytes ∷ []) rest.0),
        ap length (opened-append records (bytes ∷ [])),
        length-append (opened (records ++ bytes ∷ [])) (opened rest.0),
        length-append (opened records) (opened (bytes ∷ [])),
        opened-one bytes,
      )

is_zero : (n : ℕ) → (n == 0) ≡ true → n ≡ 0
is_zero n h = grind (arith, nat_tests)

pub wrong_size : (empty : Bool) (bytes : List ℕ) → empty ≡ (length bytes == 0) → (empty ≡ true) ⊎ ((empty ≡ false) × (8214 < length bytes)) → IsSized bytes → ⊥
wrong_size empty bytes is (inl none) sized = let e = is_zero (length bytes) (sym is ∙ none) in absurd (omega (arith, e, sized.0))
wrong_size empty bytes is (inr long) sized = absurd (omega (arith, sized.1, long.1))

pub unnoted : (entries : List Entry) (i : ℕ) (e : Entry) → i < length entries → e ≡ get_or entries i e → e.noted ≡ None
    → records_of (take (i + 1) entries) ≡ records_of (take i entries)
unnoted entries i e within is none =
    records-next entries i e within is ∙ ap (λ o. records_of (take i entries) ++ cons_some o []) none ∙ append-nil (records_of (take i entries))
