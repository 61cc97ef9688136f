-- What the servers' bodies give, from what their calls give.
use Rattle.std.specs.Prelude.{◌≡◌, ℕ, ◌==◌, ◌≤◌, if◌then◌else◌, List, bit_xor, refl}
use Rattle.std.proofs.Common.{zero, suc, ap, sym, ◌∙◌, arith}
use Rattle.express_words.specs.declared.audit.ProofShare.{ProofShare}
use Rattle.express_words.specs.declared.audit.Openings.{Openings}
use Rattle.express_words.specs.declared.audit.Closing.{Closing}
use Rattle.audit_rules.specs.declared.sums.Sums.{Sums}
use Rattle.audit_rules.specs.Audit.{product, value, f_of, g_of, opening_of, opened_of, closing_of, IsAccepted, ServersAccept}

pub opened : (sums : Sums) (share : ProofShare) (sigma : ℕ) {f g : List ℕ} {of_f of_g by : ℕ} →
    f ≡ f_of sums share → g ≡ g_of sums share → of_f ≡ value f sigma → of_g ≡ value g sigma → by ≡ product sigma of_g →
    record { d = bit_xor of_f share.a; e = bit_xor by share.b } ≡ opening_of sums share sigma
unfolding opening_of
opened sums share sigma f_is g_is of_f_is of_g_is by_is =
    let d = ap (λ p. value p sigma) f_is in
    let e = ap (λ p. value p sigma) g_is in
    cc

-- what server 0 alone adds
pub both_at_zero : (server n : ℕ) → server ≡ 0 → n ≡ (if server == 0 then n else 0)
both_at_zero zero n h = refl
both_at_zero (suc server) n h = cc

pub both_elsewhere : (server n : ℕ) → server ≤ 1 → (server ≡ 0 → ⊥) → 0 ≡ (if server == 0 then n else 0)
both_elsewhere server n l h = let one : server ≡ 1 = omega arith in ap (λ b. if b == 0 then n else 0) (sym one)

pub closed : (server : ℕ) (share : ProofShare) (sigma : ℕ) (opened : Openings) {o1 o2 by_b by_a of_h by_h both : ℕ} →
    o1 ≡ value share.h 1 → o2 ≡ value share.h 2 → by_b ≡ product opened.d share.b → by_a ≡ product opened.e share.a → of_h ≡ value share.h sigma → by_h ≡ product sigma of_h →
    both ≡ (if server == 0 then product opened.d opened.e else 0) →
    record { o = bit_xor o1 o2; tau = bit_xor (bit_xor (bit_xor (bit_xor by_b by_a) share.c) by_h) both } ≡ closing_of server share sigma opened
unfolding closing_of
closed server share sigma opened o1_is o2_is by_b_is by_a_is of_h_is by_h_is both_is = cc

-- what both servers judge is whether they accept
pub judged : (sums0 sums1 : Sums) (share0 share1 : ProofShare) (sigma : ℕ) {opening0 opening1 : Openings} {closing0 closing1 : Closing} →
    opening0 ≡ opening_of sums0 share0 sigma → opening1 ≡ opening_of sums1 share1 sigma →
    closing0 ≡ closing_of 0 share0 sigma (opened_of opening0 opening1) → closing1 ≡ closing_of 1 share1 sigma (opened_of opening0 opening1) →
    IsAccepted closing0 closing1 ≡ ServersAccept sums0 sums1 share0 share1 sigma
unfolding ServersAccept
judged sums0 sums1 share0 share1 sigma {opening0} {opening1} {closing0} {closing1} o0 o1 c0 c1 =
    let opened : opened_of opening0 opening1 ≡ opened_of (opening_of sums0 share0 sigma) (opening_of sums1 share1 sigma) = cc in
    ap (λ k. IsAccepted k closing1) (c0 ∙ ap (closing_of 0 share0 sigma) opened)
    ∙ ap (IsAccepted (closing_of 0 share0 sigma (opened_of (opening_of sums0 share0 sigma) (opening_of sums1 share1 sigma)))) (c1 ∙ ap (closing_of 1 share1 sigma) opened)
