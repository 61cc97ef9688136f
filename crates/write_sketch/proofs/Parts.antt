-- The sums of a list of boxes by those of its parts.
use Rattle.std.specs.Prelude.{◌≡◌, ℕ, ◌+◌, List, [], ◌∷◌, bit_xor, refl}
use Rattle.std.proofs.Common.{zero, suc, sym, ◌∙◌, ap, take, drop}
use Rattle.std.proofs.lemmas.List.{take-map, drop-map, drop-drop}
use Rattle.std.specs.Int.Bits.{xor_assoc, xor_zero_l}
use Rattle.dpf_rules.specs.Expansion.{challenge_r, challenge_s}
use Rattle.audit_rules.specs.declared.sums.Sums.{Sums}
use Rattle.audit_rules.specs.Sketch.{total, dot, dot3}
use Rattle.audit_rules.specs.Audit.{product, sums_of}
use Rattle.audit_rules.specs.Challenges.{challenge_rs, challenge_ss, sums_under}
use Rattle.write_sketch.specs.Parts.{sums_with}

total_split : (n : ℕ) (w : List ℕ) → total 0 bit_xor w ≡ bit_xor (total 0 bit_xor (take n w)) (total 0 bit_xor (drop n w))
total_split zero w = sym (xor_zero_l (total 0 bit_xor w))
total_split (suc n) [] = refl
total_split (suc n) (x ∷ w) = ap (bit_xor x) (total_split n w) ∙ sym (xor_assoc x (total 0 bit_xor (take n w)) (total 0 bit_xor (drop n w)))

dot_none : (w : List ℕ) → dot 0 bit_xor product w [] ≡ 0
dot_none [] = refl
dot_none (x ∷ w) = refl

dot_split : (n : ℕ) (w r : List ℕ) →
    dot 0 bit_xor product w r ≡ bit_xor (dot 0 bit_xor product (take n w) (take n r)) (dot 0 bit_xor product (drop n w) (drop n r))
dot_split zero w r = sym (xor_zero_l (dot 0 bit_xor product w r))
dot_split (suc n) [] r = refl
dot_split (suc n) (x ∷ w) [] = sym (xor_zero_l (dot 0 bit_xor product (drop n w) []) ∙ dot_none (drop n w))
dot_split (suc n) (x ∷ w) (y ∷ r) =
    ap (bit_xor (product x y)) (dot_split n w r) ∙ sym (xor_assoc (product x y) (dot 0 bit_xor product (take n w) (take n r)) (dot 0 bit_xor product (drop n w) (drop n r)))

dot3_none : (w r : List ℕ) → dot3 0 bit_xor product w r [] ≡ 0
dot3_none [] r = refl
dot3_none (x ∷ w) [] = refl
dot3_none (x ∷ w) (y ∷ r) = refl

dot3_none_between : (w s : List ℕ) → dot3 0 bit_xor product w [] s ≡ 0
dot3_none_between [] s = refl
dot3_none_between (x ∷ w) s = refl

dot3_split : (n : ℕ) (w r s : List ℕ) →
    dot3 0 bit_xor product w r s ≡ bit_xor (dot3 0 bit_xor product (take n w) (take n r) (take n s)) (dot3 0 bit_xor product (drop n w) (drop n r) (drop n s))
dot3_split zero w r s = sym (xor_zero_l (dot3 0 bit_xor product w r s))
dot3_split (suc n) [] r s = refl
dot3_split (suc n) (x ∷ w) [] s = sym (xor_zero_l (dot3 0 bit_xor product (drop n w) [] (drop (suc n) s)) ∙ dot3_none_between (drop n w) (drop (suc n) s))
dot3_split (suc n) (x ∷ w) (y ∷ r) [] = sym (xor_zero_l (dot3 0 bit_xor product (drop n w) (drop n r) []) ∙ dot3_none (drop n w) (drop n r))
dot3_split (suc n) (x ∷ w) (y ∷ r) (v ∷ s) =
    ap (bit_xor (product (product x y) v)) (dot3_split n w r s)
    ∙ sym (xor_assoc (product (product x y) v) (dot3 0 bit_xor product (take n w) (take n r) (take n s)) (dot3 0 bit_xor product (drop n w) (drop n r) (drop n s)))

sums_split : (n : ℕ) (w r s : List ℕ) → sums_of w r s ≡ sums_with (sums_of (take n w) (take n r) (take n s)) (sums_of (drop n w) (drop n r) (drop n s))
unfolding sums_of
sums_split n w r s =
    let x = dot_split n w r in
    let y = dot_split n w s in
    let m = total_split n w in
    let z = dot3_split n w r s in
    cc

-- the sums of the first n boxes and of the others
pub under_split : (n : ℕ) (key places w : List ℕ) →
    sums_under key places w ≡ sums_with (sums_under key (take n places) (take n w)) (sums_under key (drop n places) (drop n w))
unfolding challenge_rs challenge_ss
under_split n key places w =
    let split = sums_split n w (challenge_rs key places) (challenge_ss key places) in
    let r_first = take-map (challenge_r key) n places in
    let r_last = drop-map (challenge_r key) n places in
    let s_first = take-map (challenge_s key) n places in
    let s_last = drop-map (challenge_s key) n places in
    cc

-- no boxes before
pub none_before : (sums : Sums) → sums ≡ sums_with (record { x = 0; y = 0; m = 0; z = 0 }) sums
none_before sums =
    let x = xor_zero_l sums.x in
    let y = xor_zero_l sums.y in
    let m = xor_zero_l sums.m in
    let z = xor_zero_l sums.z in
    cc

with_assoc : (a b c : Sums) → sums_with (sums_with a b) c ≡ sums_with a (sums_with b c)
with_assoc a b c =
    let x = xor_assoc a.x b.x c.x in
    let y = xor_assoc a.y b.y c.y in
    let m = xor_assoc a.m b.m c.m in
    let z = xor_assoc a.z b.z c.z in
    cc

-- the sums before place n, and those of k boxes from there
pub more_before : (n k m : ℕ) (key places w : List ℕ) (whole before part now : Sums) → n + k ≡ m →
    whole ≡ sums_with before (sums_under key (drop n places) (drop n w)) →
    part ≡ sums_under key (take k (drop n places)) (take k (drop n w)) →
    now ≡ sums_with before part →
    whole ≡ sums_with now (sums_under key (drop m places) (drop m w))
more_before n k m key places w whole before part now next is part_is now_is =
    let split = under_split k key (drop n places) (drop n w) in
    let regroup = with_assoc before part (sums_under key (drop k (drop n places)) (drop k (drop n w))) in
    let places_after = drop-drop k n places in
    let leaves_after = drop-drop k n w in
    cc
