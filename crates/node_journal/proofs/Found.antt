-- What the first five bytes tell of what a journal finds.
use Rattle.std.proofs.Common.{◌≡◌, ◌≢◌, ◌⊎◌, ℕ, zero, suc, ◌+◌, ◌≤◌, ◌<◌, min, List, [], ◌∷◌, ◌++◌, length, get_or, take, drop, refl, sym, ◌∙◌, ap, subst, arith, append_assoc, length-take, Ok, Err, Some, None}
use Rattle.std.proofs.lemmas.List.{take_at}
use Rattle.std.proofs.lemmas.Bool.Decides.{nat_tests}
use Rattle.std.specs.Int.{w32, from_be_bytes}
use Rattle.node_journal.specs.Next.{found, judged}
use Rattle.node_journal.specs.declared.fault.JournalFault.TheVariants.{Damaged}
use Rattle.node_journal.specs.Records.{record_max}

abbrev pub zeros : List ℕ
zeros = 0 ∷ 0 ∷ 0 ∷ 0 ∷ 0 ∷ []

abbrev pub front : ℕ → List ℕ → List ℕ
front n rest = take n rest ++ drop n zeros

pub no_gate : (end limit n : ℕ) (rest : List ℕ) → n ≡ min (length rest) 5 → get_or (front n rest) 0 0 ≢ 1 → found end limit rest ≡ Ok None
no_gate end limit n [] is shut = refl
no_gate end limit n (g ∷ []) is shut = let one : n ≡ 1 = omega arith in let s : g ≢ 1 = subst (λ (k : ℕ). get_or (front k (g ∷ [])) 0 0 ≢ 1) one shut in grind (arith, nat_tests)
no_gate end limit n (g ∷ a ∷ []) is shut = let one : n ≡ 2 = omega arith in let s : g ≢ 1 = subst (λ (k : ℕ). get_or (front k (g ∷ a ∷ [])) 0 0 ≢ 1) one shut in grind (arith, nat_tests)
no_gate end limit n (g ∷ a ∷ b ∷ []) is shut = let one : n ≡ 3 = omega arith in let s : g ≢ 1 = subst (λ (k : ℕ). get_or (front k (g ∷ a ∷ b ∷ [])) 0 0 ≢ 1) one shut in grind (arith, nat_tests)
no_gate end limit n (g ∷ a ∷ b ∷ c ∷ []) is shut = let one : n ≡ 4 = omega arith in let s : g ≢ 1 = subst (λ (k : ℕ). get_or (front k (g ∷ a ∷ b ∷ c ∷ [])) 0 0 ≢ 1) one shut in grind (arith, nat_tests)
no_gate end limit n (g ∷ a ∷ b ∷ c ∷ d ∷ rest) is shut = let one : n ≡ 5 = omega arith in let s : g ≢ 1 = subst (λ (k : ℕ). get_or (front k (g ∷ a ∷ b ∷ c ∷ d ∷ rest)) 0 0 ≢ 1) one shut in grind (arith, nat_tests)

pub cut_short : (end limit n : ℕ) (rest : List ℕ) → n ≡ min (length rest) 5 → n < 5 → get_or (front n rest) 0 0 ≡ 1 → found end limit rest ≡ Err (Damaged end)
cut_short end limit n [] is short open_gate =
    let none : n ≡ 0 = omega arith in
    let s : 0 ≡ 1 = subst (λ (k : ℕ). get_or (front k []) 0 0 ≡ 1) none open_gate in
    let no : ⊥ = grind (arith, s) in absurd no
cut_short end limit n (g ∷ []) is short open_gate = let one : n ≡ 1 = omega arith in let s : g ≡ 1 = subst (λ (k : ℕ). get_or (front k (g ∷ [])) 0 0 ≡ 1) one open_gate in grind (arith, nat_tests)
cut_short end limit n (g ∷ a ∷ []) is short open_gate = let one : n ≡ 2 = omega arith in let s : g ≡ 1 = subst (λ (k : ℕ). get_or (front k (g ∷ a ∷ [])) 0 0 ≡ 1) one open_gate in grind (arith, nat_tests)
cut_short end limit n (g ∷ a ∷ b ∷ []) is short open_gate = let one : n ≡ 3 = omega arith in let s : g ≡ 1 = subst (λ (k : ℕ). get_or (front k (g ∷ a ∷ b ∷ [])) 0 0 ≡ 1) one open_gate in grind (arith, nat_tests)
cut_short end limit n (g ∷ a ∷ b ∷ c ∷ []) is short open_gate = let one : n ≡ 4 = omega arith in let s : g ≡ 1 = subst (λ (k : ℕ). get_or (front k (g ∷ a ∷ b ∷ c ∷ [])) 0 0 ≡ 1) one open_gate in grind (arith, nat_tests)
cut_short end limit n (g ∷ a ∷ b ∷ c ∷ d ∷ rest) is short open_gate = absurd (omega arith)

-- the length that the five bytes tell
abbrev pub length_in : List ℕ → ℕ
length_in head = from_be_bytes w32 (get_or head 1 0 ∷ get_or head 2 0 ∷ get_or head 3 0 ∷ get_or head 4 0 ∷ [])

pub has_head : (end limit n : ℕ) (rest : List ℕ) → n ≡ min (length rest) 5 → 5 ≤ n → get_or (front n rest) 0 0 ≡ 1 → found end limit rest ≡ judged end limit (length_in (front n rest)) (drop 5 rest)
has_head end limit n [] is long open_gate = absurd (omega arith)
has_head end limit n (g ∷ []) is long open_gate = absurd (omega arith)
has_head end limit n (g ∷ a ∷ []) is long open_gate = absurd (omega arith)
has_head end limit n (g ∷ a ∷ b ∷ []) is long open_gate = absurd (omega arith)
has_head end limit n (g ∷ a ∷ b ∷ c ∷ []) is long open_gate = absurd (omega arith)
has_head end limit n (g ∷ a ∷ b ∷ c ∷ d ∷ rest) is long open_gate =
    let one : n ≡ 5 = omega arith in
    let s : g ≡ 1 = subst (λ (k : ℕ). get_or (front k (g ∷ a ∷ b ∷ c ∷ d ∷ rest)) 0 0 ≡ 1) one open_gate in
    ap (λ (x : ℕ). found end limit (x ∷ a ∷ b ∷ c ∷ d ∷ rest)) s ∙ ap (λ (k : ℕ). judged end limit (length_in (front k (g ∷ a ∷ b ∷ c ∷ d ∷ rest))) rest) (sym one)

pub out_of_range : (end limit len : ℕ) (rest : List ℕ) → (len < 1) ⊎ (record_max < len) ⊎ (limit < end + 5 + len + 1) ⊎ (length rest < len + 1) → judged end limit len rest ≡ Err (Damaged end)
out_of_range end limit len rest out = grind (arith, nat_tests, out)

pub in_range : (end limit len : ℕ) (rest : List ℕ) → 1 ≤ len → len ≤ record_max → end + 5 + len + 1 ≤ limit → len + 1 ≤ length rest → judged end limit len rest ≡ Ok (Some (take len rest))
in_range end limit len rest some few below there = grind (arith, nat_tests, some, few, below, there)

-- what a read of so many bytes gave, at the front of a longer buffer
pub read_front : (len read : ℕ) (src old new more : List ℕ) → read ≡ len → len ≤ length src → new ≡ take read src ++ drop read old → take len src ≡ take len (new ++ more)
read_front len read src old new more is enough copied =
    let x : new ≡ take len src ++ drop read old = copied ∙ ap (λ (k : ℕ). take k src ++ drop read old) is in
    sym (
    ap (λ (l : List ℕ). take len (l ++ more)) x ∙ ap (λ (l : List ℕ). take len l) (append_assoc (take len src) (drop read old) more)
    ∙ take_at (take len src) (drop read old ++ more) len (omega (arith, length-take len src))
    )

pub drop_both : (n m : ℕ) (xs : List ℕ) → drop m (drop n xs) ≡ drop (n + m) xs
drop_both zero m xs = let same : m ≡ 0 + m = omega arith in ap (λ (k : ℕ). drop k xs) same
drop_both (suc n) zero xs = let same : suc n ≡ suc n + 0 = omega arith in ap (λ (k : ℕ). drop k xs) same
drop_both (suc n) (suc m) [] = let same : suc (n + suc m) ≡ suc n + suc m = omega arith in ap (λ (k : ℕ). drop {A = ℕ} k []) same
drop_both (suc n) (suc m) (x ∷ xs) = let same : suc (n + suc m) ≡ suc n + suc m = omega arith in drop_both n (suc m) xs ∙ ap (λ (k : ℕ). drop k (x ∷ xs)) same

-- the four bytes behind the gate, as a read of five gave them
pub head_bytes : (n : ℕ) (rest : List ℕ) → n ≡ min (length rest) 5 → 5 ≤ n
    → take 4 (drop 1 rest) ≡ get_or (front n rest) 1 0 ∷ get_or (front n rest) 2 0 ∷ get_or (front n rest) 3 0 ∷ get_or (front n rest) 4 0 ∷ []
head_bytes n [] is long = absurd (omega arith)
head_bytes n (g ∷ []) is long = absurd (omega arith)
head_bytes n (g ∷ a ∷ []) is long = absurd (omega arith)
head_bytes n (g ∷ a ∷ b ∷ []) is long = absurd (omega arith)
head_bytes n (g ∷ a ∷ b ∷ c ∷ []) is long = absurd (omega arith)
head_bytes n (g ∷ a ∷ b ∷ c ∷ d ∷ rest) is long =
    let one : n ≡ 5 = omega arith in
    ap (λ (k : ℕ). get_or (front k (g ∷ a ∷ b ∷ c ∷ d ∷ rest)) 1 0 ∷ get_or (front k (g ∷ a ∷ b ∷ c ∷ d ∷ rest)) 2 0 ∷ get_or (front k (g ∷ a ∷ b ∷ c ∷ d ∷ rest)) 3 0 ∷ get_or (front k (g ∷ a ∷ b ∷ c ∷ d ∷ rest)) 4 0 ∷ []) (sym one)
