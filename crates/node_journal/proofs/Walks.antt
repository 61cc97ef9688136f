-- What a journal finds at its place is the first of the records from there on.
use Rattle.std.specs.Prelude.{nat_le}
use Rattle.std.proofs.Common.{Bool, ◌&&◌, ◌≡◌, ◌≢◌, ◌⊎◌, inl, inr, ℕ, zero, suc, ◌+◌, ◌≤◌, ◌<◌, List, [], ◌∷◌, ◌++◌, length, take, drop, if◌then◌else◌, refl, sym, ◌∙◌, ap, subst, arith, length-append, length-drop, length-take, take-append-drop, Ok, Err, Some, None}
use Rattle.std.proofs.lemmas.List.{take_at}
use Rattle.std.proofs.lemmas.Bool.{cases_eq, cases_lt, cases_Bool}
use Rattle.std.proofs.lemmas.Bool.Decides.{nat_tests}
use Rattle.std.proofs.lemmas.Nat.{from_be_bytes-to_be_bytes_4}
use Rattle.std.specs.Int.{w32, to_be_bytes, from_be_bytes}
use Rattle.node_journal.specs.Records.{record_max, first_records, content, body, is_whole, IsSized}
use Rattle.node_journal.specs.Next.{found, judged}
use Rattle.node_journal.specs.declared.fault.JournalFault.TheVariants.{Damaged}
use Rattle.node_journal.proofs.Found.{in_range, out_of_range}

-- nothing stands behind a closed gate
pub shut_found : (end limit gate : ℕ) (tail : List ℕ) → gate ≢ 1 → found end limit (gate ∷ tail) ≡ Ok None
shut_found end limit gate [] shut = grind (arith, nat_tests)
shut_found end limit gate (a ∷ []) shut = grind (arith, nat_tests)
shut_found end limit gate (a ∷ b ∷ []) shut = grind (arith, nat_tests)
shut_found end limit gate (a ∷ b ∷ c ∷ []) shut = grind (arith, nat_tests)
shut_found end limit gate (a ∷ b ∷ c ∷ d ∷ rest) shut = grind (arith, nat_tests)

-- what is known of a length that was judged good
pub record IsGood (end limit len : ℕ) (rest r : List ℕ) : Type 0 where
  pub some : 1 ≤ len
  pub few : len ≤ record_max
  pub fits : end + 5 + len + 1 ≤ limit
  pub there : len + 1 ≤ length rest
  pub is : r ≡ take len rest

pub good : (end limit len : ℕ) (rest r : List ℕ) → judged end limit len rest ≡ Ok (Some r) → IsGood end limit len rest r
good end limit len rest r is = elim (cases_lt len 1) [
  | inl low ↦ absurd (refuse (inl low))
  | inr some ↦ elim (cases_lt record_max len) [
    | inl high ↦ absurd (refuse (inr (inl high)))
    | inr few ↦ elim (cases_lt limit (end + 5 + len + 1)) [
      | inl past ↦ absurd (refuse (inr (inr (inl past))))
      | inr fits ↦ elim (cases_lt (length rest) (len + 1)) [
        | inl cut ↦ absurd (refuse (inr (inr (inr cut))))
        | inr there ↦ record { some = some; few = few; fits = fits; there = there; is = same (in_range end limit len rest some few fits there) }
      ]
    ]
  ]
]
  where
    refuse : (len < 1) ⊎ (record_max < len) ⊎ (limit < end + 5 + len + 1) ⊎ (length rest < len + 1) → ⊥
    refuse out = let no = out_of_range end limit len rest out in cc

    same : judged end limit len rest ≡ Ok (Some (take len rest)) → r ≡ take len rest
    same found_it = cc

-- fuel: any number of records that is large enough gives the same
pub enough : (m k : ℕ) (xs : List ℕ) → length xs ≤ m → length xs ≤ k → first_records m xs ≡ first_records k xs
enough zero zero xs m_large k_large = refl
enough zero (suc k) [] m_large k_large = refl
enough zero (suc k) (x ∷ xs) m_large k_large = absurd (omega arith)
enough (suc m) zero [] m_large k_large = refl
enough (suc m) zero (x ∷ xs) m_large k_large = absurd (omega arith)
enough (suc m) (suc k) [] m_large k_large = refl
enough (suc m) (suc k) (g ∷ []) m_large k_large = refl
enough (suc m) (suc k) (g ∷ a ∷ []) m_large k_large = refl
enough (suc m) (suc k) (g ∷ a ∷ b ∷ []) m_large k_large = refl
enough (suc m) (suc k) (g ∷ a ∷ b ∷ c ∷ []) m_large k_large = refl
enough (suc m) (suc k) (g ∷ a ∷ b ∷ c ∷ d ∷ rest) m_large k_large =
    let len = from_be_bytes w32 (a ∷ b ∷ c ∷ d ∷ []) in
    let less = length-drop len rest in
    ap (λ (more : List (List ℕ)). if is_whole g len rest then take len rest ∷ more else []) (enough m k (drop len rest) (omega (arith, less)) (omega (arith, less)))

-- the record that was found, the bytes in front of it, and what is behind it
pub record IsFirst (end limit : ℕ) (rest r : List ℕ) : Type 0 where
  pub sized : IsSized r
  pub fits : end + 5 + length r + 1 ≤ limit
  pub more : 1 ≤ length (drop (length r) (drop 5 rest))
  pub split : rest ≡ 1 ∷ (take 4 (drop 1 rest) ++ (r ++ drop (length r) (drop 5 rest)))
  pub records : content rest ≡ r ∷ content (drop (length r) (drop 5 rest))

chosen : (g len : ℕ) (rest : List ℕ) (x : List (List ℕ)) → g ≡ 1 → 1 ≤ len → len ≤ record_max → len + 1 ≤ length rest → (if is_whole g len rest then x else []) ≡ x
chosen g len rest x one some few there = grind (arith, nat_tests)

first_made : (end limit g a b c d : ℕ) (rest r : List ℕ) → g ≡ 1 → IsGood end limit (from_be_bytes w32 (a ∷ b ∷ c ∷ d ∷ [])) rest r → IsFirst end limit (g ∷ a ∷ b ∷ c ∷ d ∷ rest) r
first_made end limit g a b c d rest r one k =
    let len = from_be_bytes w32 (a ∷ b ∷ c ∷ d ∷ []) in
    let size : length r ≡ len = omega (arith, ap length k.is, length-take len rest, k.there) in
    let behind : drop (length r) rest ≡ drop len rest = ap (λ (j : ℕ). drop j rest) size in
    let whole : r ++ drop (length r) rest ≡ rest = ap (λ (x : List ℕ). x ++ drop (length r) rest) k.is ∙ ap (λ (x : List ℕ). take len rest ++ x) behind ∙ take-append-drop len rest in
    let left = length-drop len rest in
    let more : 1 ≤ length (drop (length r) rest) = omega (arith, left, ap length behind, k.there) in
    let fuel : length (g ∷ a ∷ b ∷ c ∷ d ∷ rest) ≡ suc (4 + length rest) = omega arith in
    record {
      sized = (omega (arith, size, k.some), omega (arith, size, k.few));
      fits = omega (arith, size, k.fits);
      more = more;
      split = ap (λ (x : List ℕ). g ∷ a ∷ b ∷ c ∷ d ∷ x) (sym whole) ∙ ap (λ (x : ℕ). x ∷ a ∷ b ∷ c ∷ d ∷ (r ++ drop (length r) rest)) one;
      records = ap (λ (j : ℕ). first_records j (g ∷ a ∷ b ∷ c ∷ d ∷ rest)) fuel
          ∙ chosen g len rest (take len rest ∷ first_records (4 + length rest) (drop len rest)) one k.some k.few k.there
          ∙ ap (λ (x : List ℕ). x ∷ first_records (4 + length rest) (drop len rest)) (sym k.is)
          ∙ ap (λ (x : List (List ℕ)). r ∷ x) (enough (4 + length rest) (length (drop len rest)) (drop len rest) (omega (arith, left)) (omega arith))
          ∙ ap (λ (x : List ℕ). r ∷ content x) (sym behind);
    }

pub first_found : (end limit : ℕ) (rest r : List ℕ) → found end limit rest ≡ Ok (Some r) → IsFirst end limit rest r
first_found end limit [] r is = absurd (cc)
first_found end limit (g ∷ []) r is = absurd (grind (arith, nat_tests, is))
first_found end limit (g ∷ a ∷ []) r is = absurd (grind (arith, nat_tests, is))
first_found end limit (g ∷ a ∷ b ∷ []) r is = absurd (grind (arith, nat_tests, is))
first_found end limit (g ∷ a ∷ b ∷ c ∷ []) r is = absurd (grind (arith, nat_tests, is))
first_found end limit (g ∷ a ∷ b ∷ c ∷ d ∷ rest) r is = elim (cases_eq g 1) [
  | inl one ↦ first_made end limit g a b c d rest r one (good end limit (from_be_bytes w32 (a ∷ b ∷ c ∷ d ∷ [])) rest r (open_gate one))
  | inr shut ↦ absurd (closed_gate shut)
]
  where
    open_gate : g ≡ 1 → judged end limit (from_be_bytes w32 (a ∷ b ∷ c ∷ d ∷ [])) rest ≡ Ok (Some r)
    open_gate one = subst (λ (x : ℕ). found end limit (x ∷ a ∷ b ∷ c ∷ d ∷ rest) ≡ Ok (Some r)) one is

    closed_gate : g ≢ 1 → ⊥
    closed_gate shut = let none : found end limit (g ∷ a ∷ b ∷ c ∷ d ∷ rest) ≡ Ok None = shut_found end limit g (a ∷ b ∷ c ∷ d ∷ rest) shut in cc

-- where nothing was found there is no byte, or a closed gate
pub none_found : (end limit : ℕ) (rest : List ℕ) → found end limit rest ≡ Ok None → 1 ≤ length rest → (gate : ℕ) × (tail : List ℕ) × (rest ≡ gate ∷ tail) × (gate ≢ 1)
none_found end limit [] is there = absurd (omega arith)
none_found end limit (g ∷ []) is there = (g, [], refl, λ one. grind (arith, nat_tests, is, one))
none_found end limit (g ∷ a ∷ []) is there = (g, a ∷ [], refl, λ one. grind (arith, nat_tests, is, one))
none_found end limit (g ∷ a ∷ b ∷ []) is there = (g, a ∷ b ∷ [], refl, λ one. grind (arith, nat_tests, is, one))
none_found end limit (g ∷ a ∷ b ∷ c ∷ []) is there = (g, a ∷ b ∷ c ∷ [], refl, λ one. grind (arith, nat_tests, is, one))
none_found end limit (g ∷ a ∷ b ∷ c ∷ d ∷ rest) is there = (g, a ∷ b ∷ c ∷ d ∷ rest, refl, λ one. never (from_be_bytes w32 (a ∷ b ∷ c ∷ d ∷ [])) (subst (λ (x : ℕ). found end limit (x ∷ a ∷ b ∷ c ∷ d ∷ rest) ≡ Ok None) one is))
  where
    never : (len : ℕ) → judged end limit len rest ≡ Ok None → ⊥
    never len none = elim (cases_Bool (is_whole 1 len rest && nat_le (end + 5 + len + 1) limit)) [
      | inl good_one ↦ let some : judged end limit len rest ≡ Ok (Some (take len rest)) = ap (λ (t : Bool). if t then Ok (Some (take len rest)) else Err (Damaged end)) good_one in cc
      | inr bad_one ↦ let bad : judged end limit len rest ≡ Err (Damaged end) = ap (λ (t : Bool). if t then Ok (Some (take len rest)) else Err (Damaged end)) bad_one in cc
    ]

-- a whole record within the limit
pub whole_found : (end limit : ℕ) (r after : List ℕ) → IsSized r → 1 ≤ length after → end + 5 + length r + 1 ≤ limit → found end limit (1 ∷ (body r ++ after)) ≡ Ok (Some r)
whole_found end limit r after sized more fits =
    let n : from_be_bytes w32 (to_be_bytes w32 (length r)) ≡ length r = from_be_bytes-to_be_bytes_4 (length r) (omega (arith, sized.1)) in
    let room : length (r ++ after) ≡ length r + length after = length-append r after in
    ap (λ (len : ℕ). judged end limit len (r ++ after)) n
    ∙ in_range end limit (length r) (r ++ after) sized.0 sized.1 fits (omega (arith, room, more))
    ∙ ap (λ (x : List ℕ). Ok (Some x)) (take_at r after (length r) refl)
