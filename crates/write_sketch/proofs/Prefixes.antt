-- The sums over the first places of lists, a place at a time.
use Rattle.std.specs.Prelude.{◌≡◌, ℕ, ◌<◌, List, [], ◌∷◌, length, bit_xor}
use Rattle.std.proofs.Common.{zero, suc, sym, ◌∙◌, ap, get_or, take, arith}
use Rattle.std.proofs.lemmas.List.{take_all}
use Rattle.std.specs.Int.Bits.{xor_assoc, xor_zero_r}
use Rattle.audit_rules.specs.declared.sums.Sums.{Sums}
use Rattle.audit_rules.specs.Sketch.{total, dot, dot3}
use Rattle.audit_rules.specs.Audit.{product, sums_of}

pub total_more : (w : List ℕ) (i : ℕ) → i < length w → bit_xor (total 0 bit_xor (take i w)) (get_or w i 0) ≡ total 0 bit_xor (take (suc i) w)
total_more [] i h = absurd (omega arith)
total_more (x ∷ w) zero h = sym (xor_zero_r x)
total_more (x ∷ w) (suc i) h = xor_assoc x (total 0 bit_xor (take i w)) (get_or w i 0) ∙ ap (bit_xor x) (total_more w i (omega arith))

dot_more : (w r : List ℕ) (i : ℕ) → i < length w → i < length r →
    bit_xor (dot 0 bit_xor product (take i w) (take i r)) (product (get_or w i 0) (get_or r i 0)) ≡ dot 0 bit_xor product (take (suc i) w) (take (suc i) r)
dot_more [] r i h k = absurd (omega arith)
dot_more (x ∷ w) [] i h k = absurd (omega arith)
dot_more (x ∷ w) (y ∷ r) zero h k = sym (xor_zero_r (product x y))
dot_more (x ∷ w) (y ∷ r) (suc i) h k =
    xor_assoc (product x y) (dot 0 bit_xor product (take i w) (take i r)) (product (get_or w i 0) (get_or r i 0)) ∙ ap (bit_xor (product x y)) (dot_more w r i (omega arith) (omega arith))

dot3_more : (w r s : List ℕ) (i : ℕ) → i < length w → i < length r → i < length s →
    bit_xor (dot3 0 bit_xor product (take i w) (take i r) (take i s)) (product (product (get_or w i 0) (get_or r i 0)) (get_or s i 0)) ≡ dot3 0 bit_xor product (take (suc i) w) (take (suc i) r) (take (suc i) s)
dot3_more [] r s i h k l = absurd (omega arith)
dot3_more (x ∷ w) [] s i h k l = absurd (omega arith)
dot3_more (x ∷ w) (y ∷ r) [] i h k l = absurd (omega arith)
dot3_more (x ∷ w) (y ∷ r) (v ∷ s) zero h k l = sym (xor_zero_r (product (product x y) v))
dot3_more (x ∷ w) (y ∷ r) (v ∷ s) (suc i) h k l =
    xor_assoc (product (product x y) v) (dot3 0 bit_xor product (take i w) (take i r) (take i s)) (product (product (get_or w i 0) (get_or r i 0)) (get_or s i 0))
    ∙ ap (bit_xor (product (product x y) v)) (dot3_more w r s i (omega arith) (omega arith) (omega arith))

-- the sums of one place more
pub sums_more : (w r s : List ℕ) (i : ℕ) → i < length w → i < length r → i < length s → (sums : Sums) → sums ≡ sums_of (take i w) (take i r) (take i s) →
    record {
      x = bit_xor sums.x (product (get_or w i 0) (get_or r i 0));
      y = bit_xor sums.y (product (get_or w i 0) (get_or s i 0));
      m = bit_xor sums.m (get_or w i 0);
      z = bit_xor sums.z (product (product (get_or w i 0) (get_or r i 0)) (get_or s i 0));
    } ≡ sums_of (take (suc i) w) (take (suc i) r) (take (suc i) s)
unfolding sums_of
sums_more w r s i h k l sums is =
    let x = dot_more w r i h k in
    let y = dot_more w s i h l in
    let m = total_more w i h in
    let z = dot3_more w r s i h k l in
    let xs = ap (λ t. t.x) is in
    let ys = ap (λ t. t.y) is in
    let ms = ap (λ t. t.m) is in
    let zs = ap (λ t. t.z) is in
    cc

-- the sums of all places
pub sums_whole : (w r s : List ℕ) (i : ℕ) → i ≡ length w → i ≡ length r → i ≡ length s → sums_of (take i w) (take i r) (take i s) ≡ sums_of w r s
sums_whole w r s i h k l =
    ap (λ t. sums_of t (take i r) (take i s)) (take_all i w (omega arith)) ∙ ap (λ t. sums_of w t (take i s)) (take_all i r (omega arith)) ∙ ap (sums_of w r) (take_all i s (omega arith))
