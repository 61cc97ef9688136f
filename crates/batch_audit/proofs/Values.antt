-- Where a batch passes.
use Rattle.std.specs.Prelude.{◌≡◌, ◌≢◌, ℕ, ◌+◌, ◌<◌, ◌≤◌, ◌^◌, if◌then◌else◌, true, List, [], ◌∷◌, length, All, AllPairs, bit_xor, refl}
use Rattle.std.proofs.Common.{suc, ◌∙◌, ap, sym, subst, get_or, arith, inl, inr}
use Rattle.std.proofs.lemmas.Bool.{cases_lt}
use Rattle.std.proofs.lemmas.Grind.{common_steps}
use Rattle.std.proofs.lemmas.List.Elements.{All-nil, All-cons, All-head, All-tail}
use Rattle.tower_laws.proofs.ElementLaws.{level_laws, element_path}
use Rattle.tower_laws.specs.Gf.{values}
use Rattle.tower_laws.specs.Polynomials.{value_at, plus_of}
use Rattle.tower_laws.proofs.ValueLaws.{value-plus, value-all_zero}
use Rattle.tower_laws.proofs.Roots.{all_zero}
use Rattle.express_words.specs.declared.audit.Closing.{Closing}
use Rattle.audit_rules.specs.Audit.{value, accepts}
use Rattle.audit_rules.proofs.Transfer.{E, z, add, mul, element, elements, values-elements, length-values, get_or-default, value-values, plus-values}
use Rattle.batch_audit.specs.Batch.{os, taus, batch, count_bad, BatchPasses, FewValuesPass}

abbrev pub InField : List ℕ → Type 0
InField ns = All (λ n. n < 2 ^ 128) ns

-- the value of a sum
plus_values : (p q : List E) (x : E) → bit_xor (value (values p) x.value) (value (values q) x.value) ≡ value (plus_of bit_xor (values p) (values q)) x.value
plus_values p q x =
    ap (λ n. bit_xor n (value (values q) x.value)) (value-values p x) ∙ ap (bit_xor (value_at z add mul p x).value) (value-values q x)
    ∙ ap (λ e. e.value) (sym (value-plus (level_laws 7).0 p q x)) ∙ sym (value-values (plus_of add p q) x) ∙ ap (λ l. value l x.value) (sym (plus-values p q))

zeros_up : (p : List E) → All (λ c. c ≡ 0) (values p) → All (λ c. c ≡ z) p
zeros_up [] h = All-nil (λ c. c ≡ z)
zeros_up (c ∷ p) h =
    All-cons (λ c. c ≡ z) c p (element_path 7 c z (All-head (λ n. n ≡ 0) c.value (values p) h)) (zeros_up p (All-tail (λ n. n ≡ 0) c.value (values p) h))

zeros_down : (p : List E) → All (λ c. c ≡ z) p → All (λ c. c ≡ 0) (values p)
zeros_down [] h = All-nil (λ n. n ≡ 0)
zeros_down (c ∷ p) h =
    All-cons (λ n. n ≡ 0) c.value (values p) (ap (λ e. e.value) (All-head (λ c. c ≡ z) c p h)) (zeros_down p (All-tail (λ c. c ≡ z) c p h))

-- the sums of two lists of elements vanish at as many points as they are long only where they are 0
many_values : (p q rs : List E) → AllPairs (λ x y. x ≢ y) (values rs) →
    All (λ r. bit_xor (value (values p) r) (value (values q) r) ≡ 0) (values rs) → length (plus_of bit_xor (values p) (values q)) ≤ length (values rs) →
    All (λ c. c ≡ 0) (plus_of bit_xor (values p) (values q))
many_values p q rs apart roots long =
    let sums = plus_of add p q in
    let same = plus-values p q in
    let distinct : AllPairs (λ x y. x ≢ y) rs = λ i j d l m e. apart i j d.value l (omega (arith, length-values rs)) (get_or-default rs i d ∙ ap (λ x. x.value) e ∙ sym (get_or-default rs j d)) in
    let up : All (λ r. value_at z add mul sums r ≡ z) rs = λ i d l.
    let r = get_or rs i d in
    element_path 7 (value_at z add mul sums r) z
    (sym (value-values sums r) ∙ ap (λ l. value l r.value) (sym same) ∙ sym (plus_values p q r)
    ∙ subst (λ n. bit_xor (value (values p) n) (value (values q) n) ≡ 0) (get_or-default rs i d) (roots i d.value (omega (arith, length-values rs)))) in
    let short : length sums ≤ length rs = omega (arith, long, ap length same, length-values sums, length-values rs) in
    subst (λ l. All (λ c. c ≡ 0) l) (sym same) (zeros_down sums (all_zero (level_laws 7).0 rs sums distinct up short))

pub many_points : (p q rs : List ℕ) → InField p → InField q → InField rs → AllPairs (λ x y. x ≢ y) rs →
    All (λ r. bit_xor (value p r) (value q r) ≡ 0) rs → length (plus_of bit_xor p q) ≤ length rs → All (λ c. c ≡ 0) (plus_of bit_xor p q)
many_points p q rs hp hq hr =
    let T : List ℕ → List ℕ → List ℕ → Type 0 =
    λ p q rs. AllPairs (λ x y. x ≢ y) rs → All (λ r. bit_xor (value p r) (value q r) ≡ 0) rs → length (plus_of bit_xor p q) ≤ length rs → All (λ c. c ≡ 0) (plus_of bit_xor p q) in
    subst (λ p. T p q rs) (values-elements p hp)
    (subst (λ q. T (values (elements p hp)) q rs) (values-elements q hq)
    (subst (λ rs. T (values (elements p hp)) (values (elements q hq)) rs) (values-elements rs hr)
    (many_values (elements p hp) (elements q hq) (elements rs hr))))

zero_values : (p q : List E) (x : E) → All (λ c. c ≡ 0) (plus_of bit_xor (values p) (values q)) → bit_xor (value (values p) x.value) (value (values q) x.value) ≡ 0
zero_values p q x zeros =
    let same = plus-values p q in
    plus_values p q x ∙ ap (λ l. value l x.value) same ∙ value-values (plus_of add p q) x
    ∙ ap (λ e. e.value) (value-all_zero (level_laws 7).0 (plus_of add p q) x (zeros_up (plus_of add p q) (subst (λ l. All (λ c. c ≡ 0) l) same zeros)))

pub zero_everywhere : (p q : List ℕ) (x : ℕ) → InField p → InField q → x < 2 ^ 128 → All (λ c. c ≡ 0) (plus_of bit_xor p q) → bit_xor (value p x) (value q x) ≡ 0
zero_everywhere p q x hp hq hx =
    let T : List ℕ → List ℕ → Type 0 = λ p q. All (λ c. c ≡ 0) (plus_of bit_xor p q) → bit_xor (value p x) (value q x) ≡ 0 in
    subst (λ p. T p q) (values-elements p hp)
    (subst (λ q. T (values (elements p hp)) q) (values-elements q hq)
    (zero_values (elements p hp) (elements q hq) (element x hx)))

-- the sums of all pairs
abbrev pub OSums : List Closing → List Closing → List ℕ
OSums zero one = plus_of bit_xor (os zero) (os one)

abbrev pub TauSums : List Closing → List Closing → List ℕ
TauSums zero one = plus_of bit_xor (taus zero) (taus one)

pub o_length : (zero one : List Closing) → length one ≡ length zero → length (OSums zero one) ≡ length zero
o_length [] [] h = refl
o_length [] (d ∷ one) h = absurd (omega arith)
o_length (c ∷ zero) [] h = absurd (omega arith)
o_length (c ∷ zero) (d ∷ one) h = ap suc (o_length zero one (omega arith))

pub tau_length : (zero one : List Closing) → length one ≡ length zero → length (TauSums zero one) ≡ length zero
tau_length [] [] h = refl
tau_length [] (d ∷ one) h = absurd (omega arith)
tau_length (c ∷ zero) [] h = absurd (omega arith)
tau_length (c ∷ zero) (d ∷ one) h = ap suc (tau_length zero one (omega arith))

pub good_one : (c d : Closing) → bit_xor c.o d.o ≡ 0 → bit_xor c.tau d.tau ≡ 0 → accepts c d ≡ true
unfolding accepts
good_one c d ho ht = grind (arith, common_steps)

pub good_back : (c d : Closing) → accepts c d ≡ true → (bit_xor c.o d.o ≡ 0) × (bit_xor c.tau d.tau ≡ 0)
unfolding accepts
good_back c d h = (grind (arith, common_steps), grind (arith, common_steps))

pub none_bad : (zero one : List Closing) → All (λ n. n ≡ 0) (OSums zero one) → All (λ n. n ≡ 0) (TauSums zero one) → count_bad zero one ≡ 0
none_bad [] one ho ht = refl
none_bad (c ∷ zero) [] ho ht = refl
none_bad (c ∷ zero) (d ∷ one) ho ht =
    let head = good_one c d (All-head (λ n. n ≡ 0) (bit_xor c.o d.o) (OSums zero one) ho) (All-head (λ n. n ≡ 0) (bit_xor c.tau d.tau) (TauSums zero one) ht) in
    let tail = none_bad zero one (All-tail (λ n. n ≡ 0) (bit_xor c.o d.o) (OSums zero one) ho) (All-tail (λ n. n ≡ 0) (bit_xor c.tau d.tau) (TauSums zero one) ht) in
    ap (λ b. (if b then 0 else 1) + count_bad zero one) head ∙ omega (arith, tail)

pub few_values : (zero one : List Closing) (rs : List ℕ) → InField (os zero) → InField (taus zero) → InField (os one) → InField (taus one) → InField rs →
    length one ≡ length zero → 0 < count_bad zero one → AllPairs (λ x y. x ≢ y) rs → All (BatchPasses zero one) rs → length zero ≤ length rs → ⊥
few_values zero one rs o0 t0 o1 t1 hr lengths bad apart pass long =
    let sums_of = λ (i d : ℕ). good_back (batch zero (get_or rs i d)) (batch one (get_or rs i d)) in
    let o = many_points (os zero) (os one) rs o0 o1 hr apart (λ i d l. (sums_of i d (pass i d l)).0) (omega (arith, o_length zero one lengths)) in
    let tau = many_points (taus zero) (taus one) rs t0 t1 hr apart (λ i d l. (sums_of i d (pass i d l)).1) (omega (arith, tau_length zero one lengths)) in
    omega (arith, none_bad zero one o tau)

pub os_in_field : (cs : List Closing) → ((k : ℕ) (d : Closing) → k < length cs → (get_or cs k d).o < 2 ^ 128) → InField (os cs)
os_in_field [] h = All-nil (λ n. n < 2 ^ 128)
os_in_field (c ∷ cs) h = All-cons (λ n. n < 2 ^ 128) c.o (os cs) (h 0 c (omega arith)) (os_in_field cs (λ k d l. h (suc k) d (omega arith)))

pub taus_in_field : (cs : List Closing) → ((k : ℕ) (d : Closing) → k < length cs → (get_or cs k d).tau < 2 ^ 128) → InField (taus cs)
taus_in_field [] h = All-nil (λ n. n < 2 ^ 128)
taus_in_field (c ∷ cs) h = All-cons (λ n. n < 2 ^ 128) c.tau (taus cs) (h 0 c (omega arith)) (taus_in_field cs (λ k d l. h (suc k) d (omega arith)))

pub few_pass : FewValuesPass
few_pass zero one values h0 h1 hv lengths bad apart pass =
    elim (cases_lt (length values) (length zero)) [
      | inl h ↦ omega arith
      | inr h ↦ absurd (few_values zero one values h0.o h0.tau h1.o h1.tau hv lengths bad apart pass h)
    ]
