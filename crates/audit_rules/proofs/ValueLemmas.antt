-- The values of an audit: numbers of the field, by which both closings accept where both servers do.
use Rattle.std.specs.Prelude.{◌≡◌, ℕ, ◌==◌, ◌&&◌, ◌^◌, ◌<◌, Bool, true, false, List, length, All, bit_xor}
use Rattle.std.proofs.Common.{◌∙◌, ap, sym, subst, inl, inr, lit<, refl}
use Rattle.std.specs.Int.Bits.{xor_comm}
use Rattle.std.proofs.lemmas.Bool.Decides.{eqb_tells}
use Rattle.std.proofs.lemmas.Nat.{xor_lt}
use Rattle.std.proofs.lemmas.List.{length-map}
use Rattle.tower_numbers.proofs.Bounds.{product_below}
use Rattle.tower_laws.specs.Gf.{gf}
use Rattle.tower_laws.specs.Polynomials.{value_at}
use Rattle.tower_laws.specs.Through.{through}
use Rattle.dpf_rules.specs.Bytes.{AreBytes}
use Rattle.dpf_rules.specs.Walk.{leaf_of}
use Rattle.dpf_rules.specs.Evaluation.{leaves, difference_vector}
use Rattle.dpf_rules.proofs.KeysLemmas.{cond_lt}
use Rattle.express_words.specs.declared.audit.ProofShare.{ProofShare}
use Rattle.express_words.specs.declared.audit.Openings.{Openings}
use Rattle.express_words.specs.declared.audit.Closing.{Closing}
use Rattle.audit_rules.specs.declared.sums.Sums.{Sums}
use Rattle.audit_rules.specs.Audit.{product, value, through_three, opening_of, opened_of, closing_of, accepts, whole_sums, whole_proof, IsAccepted, PassesAt, ServersAccept}
use Rattle.audit_rules.specs.Challenges.{challenge_rs, challenge_ss, sums_under}
use Rattle.audit_rules.proofs.Whole.{whole_is, servers_pass}
use Rattle.express_words.specs.Ranges.{IsProofShare, IsOpenings, IsClosing}
use Rattle.audit_rules.specs.Ranges.{IsSums}
use Rattle.audit_rules.proofs.Transfer.{z, add, mul, element, elements, values-elements, value-values}
use Rattle.audit_rules.proofs.InRange.{sums-in_range}
use Rattle.audit_rules.specs.Values.{Write, sums_at, opens, values}
use Rattle.audit_rules.proofs.ChallengeLemmas.{rs-in_range, ss-in_range}
use Rattle.audit_rules.proofs.LeafLemmas.{leaves-in_range, difference-leaves}

-- ---- ranges

pub product_lt : (a b : ℕ) → a < 2 ^ 128 → b < 2 ^ 128 → product a b < 2 ^ 128
product_lt a b h k = product_below 7 a b h k

-- the value of a polynomial through three values
pub value_lt : (u x m sigma : ℕ) → u < 2 ^ 128 → x < 2 ^ 128 → m < 2 ^ 128 → sigma < 2 ^ 128 → value (through_three u x m) sigma < 2 ^ 128
value_lt u x m sigma hu hx hm hs =
    let f = through add mul (gf 2) (element u hu) (element x hx) (element m hm) in
    subst (λ n. n < 2 ^ 128) (sym (value-values f (element sigma hs))) (value_at z add mul f (element sigma hs)).in_range

-- the value of a polynomial by its coefficients
pub value-in_range : (p : List ℕ) (sigma : ℕ) → All (λ n. n < 2 ^ 128) p → sigma < 2 ^ 128 → value p sigma < 2 ^ 128
value-in_range p sigma hp hs =
    subst (λ p. value p sigma < 2 ^ 128) (values-elements p hp)
    (subst (λ n. n < 2 ^ 128) (sym (value-values (elements p hp) (element sigma hs))) (value_at z add mul (elements p hp) (element sigma hs)).in_range)

pub opening-in_range : (sums : Sums) (share : ProofShare) (sigma : ℕ) → IsSums sums → IsProofShare share → sigma < 2 ^ 128 → IsOpenings (opening_of sums share sigma)
unfolding opening_of
opening-in_range sums share sigma hs hp h =
    let f = value_lt share.u sums.x sums.m sigma hp.u hs.x hs.m h in
    let g = value_lt share.v sums.y sums.z sigma hp.v hs.y hs.z h in
    record { d = xor_lt 128 _ share.a f hp.a; e = xor_lt 128 _ share.b (product_lt sigma _ h g) hp.b }

pub opened-in_range : (zero one : Openings) → IsOpenings zero → IsOpenings one → IsOpenings (opened_of zero one)
opened-in_range zero one h k = record { d = xor_lt 128 zero.d one.d h.d k.d; e = xor_lt 128 zero.e one.e h.e k.e }

pub closing-in_range : (server : ℕ) (share : ProofShare) (sigma : ℕ) (opened : Openings) → IsProofShare share → sigma < 2 ^ 128 → IsOpenings opened → IsClosing (closing_of server share sigma opened)
unfolding closing_of
closing-in_range server share sigma opened hp h ho =
    let by_b = product_lt opened.d share.b ho.d hp.b in
    let by_a = product_lt opened.e share.a ho.e hp.a in
    let by_h = product_lt sigma (value share.h sigma) h (value-in_range share.h sigma hp.h h) in
    let both = cond_lt (server == 0) (product opened.d opened.e) 0 (2 ^ 128) (product_lt opened.d opened.e ho.d ho.e) (lit< tt) in
    record {
      o = xor_lt 128 (value share.h 1) (value share.h 2) (value-in_range share.h 1 hp.h (lit< tt)) (value-in_range share.h 2 hp.h (lit< tt));
      tau = xor_lt 128 _ _ (xor_lt 128 _ _ (xor_lt 128 _ share.c (xor_lt 128 _ _ by_b by_a) hp.c) by_h) both;
    }

pub sums_at-in_range : (server : ℕ) (w : Write) (addresses : List ℕ) → server < 2 → w.root < 2 ^ 128 → AreBytes w.part → IsSums (sums_at server w addresses)
unfolding sums_at
sums_at-in_range server w addresses h r p =
    sums-in_range (leaves w.part server w.root addresses) (challenge_rs w.ckey addresses) (challenge_ss w.ckey addresses)
    (leaves-in_range w.part server w.root addresses p h r) (rs-in_range w.ckey addresses) (ss-in_range w.ckey addresses)

pub audit-in_range : (server : ℕ) (w : Write) (addresses : List ℕ) (share : ProofShare) (sigma : ℕ) (other : Openings) →
    server < 2 → w.root < 2 ^ 128 → AreBytes w.part → IsProofShare share → sigma < 2 ^ 128 → IsOpenings other →
    IsOpenings (values server w addresses share sigma other).opened × IsClosing (values server w addresses share sigma other).closing
unfolding values opens
audit-in_range server w addresses share sigma other h r p hs k ho =
    let own = opening-in_range (sums_at server w addresses) share sigma (sums_at-in_range server w addresses h r p) hs k in
    (own, closing-in_range server share sigma (opened_of other (opens server w addresses share sigma)) hs k (opened-in_range other (opens server w addresses share sigma) ho own))

-- ---- what both closings say

pub opened_comm : (o p : Openings) → opened_of o p ≡ opened_of p o
opened_comm o p = let d = xor_comm o.d p.d in let e = xor_comm o.e p.e in cc

both_true : (b c : Bool) → b && c ≡ true → (b ≡ true) × (c ≡ true)
both_true true c h = (refl, h)
both_true false c h = cc

is_zero : (n : ℕ) → (n == 0) ≡ true → n ≡ 0
is_zero n h = elim (eqb_tells n 0) [ inl e ↦ e.1 | inr e ↦ cc ]

-- the Bool is the statement
pub accepted_tells : (zero one : Closing) → (accepts zero one ≡ true → IsAccepted zero one) × (IsAccepted zero one → accepts zero one ≡ true)
unfolding accepts IsAccepted
accepted_tells zero one = (
  λ h. let parts = both_true (bit_xor zero.o one.o == 0) (bit_xor zero.tau one.tau == 0) h in (is_zero (bit_xor zero.o one.o) parts.0, is_zero (bit_xor zero.tau one.tau) parts.1),
  λ h. rw (h.0, h.1) refl,
)

pub values_tell : (w0 w1 : Write) (addresses : List ℕ) (share0 share1 : ProofShare) (sigma : ℕ) →
    let zero = values 0 w0 addresses share0 sigma (opens 1 w1 addresses share1 sigma) in
    let one = values 1 w1 addresses share1 sigma (opens 0 w0 addresses share0 sigma) in
    (accepts zero.closing one.closing ≡ true → ServersAccept (sums_at 0 w0 addresses) (sums_at 1 w1 addresses) share0 share1 sigma)
    × (ServersAccept (sums_at 0 w0 addresses) (sums_at 1 w1 addresses) share0 share1 sigma → accepts zero.closing one.closing ≡ true)
unfolding values opens ServersAccept
values_tell w0 w1 addresses share0 share1 sigma =
    let o0 = opening_of (sums_at 0 w0 addresses) share0 sigma in
    let o1 = opening_of (sums_at 1 w1 addresses) share1 sigma in
    let one = closing_of 1 share1 sigma (opened_of o0 o1) in
    let P : Openings → Type 0 = λ o.
    (accepts (closing_of 0 share0 sigma o) one ≡ true → IsAccepted (closing_of 0 share0 sigma (opened_of o0 o1)) one)
    × (IsAccepted (closing_of 0 share0 sigma (opened_of o0 o1)) one → accepts (closing_of 0 share0 sigma o) one ≡ true) in
    subst P (opened_comm o0 o1) (accepted_tells (closing_of 0 share0 sigma (opened_of o0 o1)) one)

-- ---- and what that says of the difference vector

pub through_both : {A B C : Type 0} → (A → B) × (B → A) → (B → C) × (C → B) → (A → C) × (C → A)
through_both p q = (λ a. q.0 (p.0 a), λ c. p.1 (q.1 c))

pub passes_tell : (part ckey addresses : List ℕ) (root0 root1 count : ℕ) (share0 share1 : ProofShare) (sigma : ℕ) →
    AreBytes part → root0 < 2 ^ 128 → root1 < 2 ^ 128 → IsProofShare share0 → IsProofShare share1 → sigma < 2 ^ 128 →
    let w0 : Write = record { root = root0; part = part; count = count; ckey = ckey } in
    let w1 : Write = record { root = root1; part = part; count = count; ckey = ckey } in
    let zero = values 0 w0 addresses share0 sigma (opens 1 w1 addresses share1 sigma) in
    let one = values 1 w1 addresses share1 sigma (opens 0 w0 addresses share0 sigma) in
    let w = difference_vector part root0 root1 addresses in
    (accepts zero.closing one.closing ≡ true → PassesAt (sums_under ckey addresses w) (whole_proof share0 share1) sigma)
    × (PassesAt (sums_under ckey addresses w) (whole_proof share0 share1) sigma → accepts zero.closing one.closing ≡ true)
unfolding sums_at
passes_tell part ckey addresses root0 root1 count share0 share1 sigma hp h0 h1 p0 p1 hs =
    let w0 : Write = record { root = root0; part = part; count = count; ckey = ckey } in
    let w1 : Write = record { root = root1; part = part; count = count; ckey = ckey } in
    let rs = challenge_rs ckey addresses in
    let ss = challenge_ss ckey addresses in
    let v = leaves part 0 root0 addresses in
    let w = leaves part 1 root1 addresses in
    let sums0 = sums_under ckey addresses v in
    let sums1 = sums_under ckey addresses w in
    let in0 = leaves-in_range part 0 root0 addresses hp (lit< tt) h0 in
    let in1 = leaves-in_range part 1 root1 addresses hp (lit< tt) h1 in
    let size : length v ≡ length w = length-map addresses (leaf_of part 0 root0) ∙ sym (length-map addresses (leaf_of part 1 root1)) in
    let whole : whole_sums sums0 sums1 ≡ sums_under ckey addresses (difference_vector part root0 root1 addresses) =
    whole_is v w rs ss in0 in1 (rs-in_range ckey addresses) (ss-in_range ckey addresses) size
    ∙ ap (sums_under ckey addresses) (difference-leaves part root0 root1 addresses) in
    let P : Sums → Type 0 = λ t.
    (ServersAccept sums0 sums1 share0 share1 sigma → PassesAt t (whole_proof share0 share1) sigma)
    × (PassesAt t (whole_proof share0 share1) sigma → ServersAccept sums0 sums1 share0 share1 sigma) in
    through_both (values_tell w0 w1 addresses share0 share1 sigma)
    (subst P whole
    (servers_pass sums0 sums1 share0 share1 sigma (sums_at-in_range 0 w0 addresses (lit< tt) h0 hp) (sums_at-in_range 1 w1 addresses (lit< tt) h1 hp) p0 p1 hs))
