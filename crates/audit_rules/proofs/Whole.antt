-- Both servers' sums are the sums of the whole vector, and both accept exactly where the whole proof passes.
use Rattle.std.specs.Prelude.{◌≡◌, ℕ, ◌<◌, ◌^◌, List, length, All, bit_xor}
use Rattle.std.proofs.Common.{◌∙◌, ap, sym, subst}
use Rattle.std.specs.Int.Bits.{xor_assoc}
use Rattle.std.proofs.lemmas.Nat.{xor_comm}
use Rattle.tower_laws.specs.Elements.{element_one}
use Rattle.tower_laws.proofs.ElementLaws.{level_laws}
use Rattle.tower_laws.specs.Gf.{gf, values}
use Rattle.tower_laws.specs.Polynomials.{value_at, plus_of}
use Rattle.tower_laws.specs.Through.{through}
use Rattle.tower_laws.proofs.ValueLaws.{value-plus}
use Rattle.express_words.specs.declared.audit.ProofShare.{ProofShare}
use Rattle.audit_rules.specs.declared.sums.Sums.{Sums}
use Rattle.audit_rules.specs.Sketch as sketch
use Rattle.express_words.specs.Ranges.{IsProofShare}
use Rattle.audit_rules.specs.Laws.{ClosingsAddUp}
use Rattle.audit_rules.specs.Ranges.{IsSums}
use Rattle.audit_rules.proofs.Shares.{total-both, dot-both, dot3-both, through-both, closings-both}
use Rattle.audit_rules.specs.Audit.{product, value, f_of, g_of, sums_of, whole_sums, whole_proof, difference, closing_of, opening_of, IsAccepted, ServersAccept, PassesAt}
use Rattle.audit_rules.proofs.Transfer.{E, z, add, mul, element, elements, values-elements, length-values, dot-values, total-values, dot3-values, both-values, value-values, plus-values}

-- ---- the sums

whole_values : (v w r s : List E) → length v ≡ length w → whole_sums (sums_of (values v) (values r) (values s)) (sums_of (values w) (values r) (values s)) ≡ sums_of (difference (values v) (values w)) (values r) (values s)
unfolding sums_of whole_sums
whole_values v w r s h =
    let laws = (level_laws 7).0 in
    let both : difference (values v) (values w) ≡ values (sketch.both add v w) = both-values v w in
    let x : bit_xor (sketch.dot 0 bit_xor product (values v) (values r)) (sketch.dot 0 bit_xor product (values w) (values r)) ≡ sketch.dot 0 bit_xor product (difference (values v) (values w)) (values r) =
    ap (λ n. bit_xor n (sketch.dot 0 bit_xor product (values w) (values r))) (dot-values v r) ∙ ap (bit_xor (sketch.dot z add mul v r).value) (dot-values w r) ∙ ap (λ e. e.value) (sym (dot-both laws v w r h)) ∙ sym (dot-values (sketch.both add v w) r) ∙ ap (λ l. sketch.dot 0 bit_xor product l (values r)) (sym both) in
    let y : bit_xor (sketch.dot 0 bit_xor product (values v) (values s)) (sketch.dot 0 bit_xor product (values w) (values s)) ≡ sketch.dot 0 bit_xor product (difference (values v) (values w)) (values s) =
    ap (λ n. bit_xor n (sketch.dot 0 bit_xor product (values w) (values s))) (dot-values v s) ∙ ap (bit_xor (sketch.dot z add mul v s).value) (dot-values w s) ∙ ap (λ e. e.value) (sym (dot-both laws v w s h)) ∙ sym (dot-values (sketch.both add v w) s) ∙ ap (λ l. sketch.dot 0 bit_xor product l (values s)) (sym both) in
    let m : bit_xor (sketch.total 0 bit_xor (values v)) (sketch.total 0 bit_xor (values w)) ≡ sketch.total 0 bit_xor (difference (values v) (values w)) =
    ap (λ n. bit_xor n (sketch.total 0 bit_xor (values w))) (total-values v) ∙ ap (bit_xor (sketch.total z add v).value) (total-values w) ∙ ap (λ e. e.value) (sym (total-both laws v w h)) ∙ sym (total-values (sketch.both add v w)) ∙ ap (sketch.total 0 bit_xor) (sym both) in
    let k : bit_xor (sketch.dot3 0 bit_xor product (values v) (values r) (values s)) (sketch.dot3 0 bit_xor product (values w) (values r) (values s)) ≡ sketch.dot3 0 bit_xor product (difference (values v) (values w)) (values r) (values s) =
    ap (λ n. bit_xor n (sketch.dot3 0 bit_xor product (values w) (values r) (values s))) (dot3-values v r s) ∙ ap (bit_xor (sketch.dot3 z add mul v r s).value) (dot3-values w r s) ∙ ap (λ e. e.value) (sym (dot3-both laws v w r s h)) ∙ sym (dot3-values (sketch.both add v w) r s) ∙ ap (λ l. sketch.dot3 0 bit_xor product l (values r) (values s)) (sym both) in
    cc

abbrev AddUp : List ℕ → List ℕ → List ℕ → List ℕ → Type 0
AddUp v w r s = length v ≡ length w → whole_sums (sums_of v r s) (sums_of w r s) ≡ sums_of (difference v w) r s

-- both servers' sums are those of the difference vector
pub whole_is : (v w r s : List ℕ) → All (λ n. n < 2 ^ 128) v → All (λ n. n < 2 ^ 128) w → All (λ n. n < 2 ^ 128) r → All (λ n. n < 2 ^ 128) s → AddUp v w r s
whole_is v w r s hv hw hr hs =
    subst (λ v. AddUp v w r s) (values-elements v hv)
    (subst (λ w. AddUp (values (elements v hv)) w r s) (values-elements w hw)
    (subst (λ r. AddUp (values (elements v hv)) (values (elements w hw)) r s) (values-elements r hr)
    (subst (λ s. AddUp (values (elements v hv)) (values (elements w hw)) (values (elements r hr)) s) (values-elements s hs)
    (λ h. whole_values (elements v hv) (elements w hw) (elements r hr) (elements s hs) (sym (length-values (elements v hv)) ∙ h ∙ length-values (elements w hw))))))

-- ---- the verdict

four_mixed : (a b c d : ℕ) → bit_xor (bit_xor a b) (bit_xor c d) ≡ bit_xor (bit_xor a c) (bit_xor b d)
four_mixed a b c d =
    xor_assoc a b (bit_xor c d) ∙ ap (bit_xor a) (sym (xor_assoc b c d) ∙ ap (λ n. bit_xor n d) (xor_comm b c) ∙ xor_assoc c b d) ∙ sym (xor_assoc a c (bit_xor b d))

-- server b's sums and its share of the proof, by the names of their words
abbrev sums_made : E → E → E → E → Sums
sums_made x y m k = record { x = x.value; y = y.value; m = m.value; z = k.value }

abbrev share_made : E → E → List E → E → E → E → ProofShare
share_made u v h a b c = record { u = u.value; v = v.value; h = values h; a = a.value; b = b.value; c = c.value }

module _ (x0 y0 m0 k0 x1 y1 m1 k1 u0 v0 a0 b0 c0 u1 v1 a1 b1 c1 : E) (h0 h1 : List E) (sigma : E) where
  abbrev s0 : Sums
  s0 = sums_made x0 y0 m0 k0

  abbrev s1 : Sums
  s1 = sums_made x1 y1 m1 k1

  abbrev p0 : ProofShare
  p0 = share_made u0 v0 h0 a0 b0 c0

  abbrev p1 : ProofShare
  p1 = share_made u1 v1 h1 a1 b1 c1

  -- the value of the whole h at a point
  h_at : (p : E) → bit_xor (value (values h0) p.value) (value (values h1) p.value) ≡ value (plus_of bit_xor (values h0) (values h1)) p.value
  h_at p =
      ap (λ n. bit_xor n (value (values h1) p.value)) (value-values h0 p) ∙ ap (bit_xor (value_at z add mul h0 p).value) (value-values h1 p)
      ∙ ap (λ e. e.value) (sym (value-plus (level_laws 7).0 h0 h1 p)) ∙ sym (value-values (plus_of add h0 h1) p) ∙ ap (λ l. value l p.value) (sym (plus-values h0 h1))

  outputs_both : bit_xor (bit_xor (value p0.h 1) (value p0.h 2)) (bit_xor (value p1.h 1) (value p1.h 2)) ≡ bit_xor (value (whole_proof p0 p1).h 1) (value (whole_proof p0 p1).h 2)
  unfolding whole_proof
  outputs_both =
      four_mixed (value p0.h 1) (value p0.h 2) (value p1.h 1) (value p1.h 2)
      ∙ ap (λ n. bit_xor n (bit_xor (value p0.h 2) (value p1.h 2))) (h_at (element_one 7)) ∙ ap (bit_xor (value (whole_proof p0 p1).h 1)) (h_at (gf 2))

  abbrev f_at : E → E → E → E
  f_at u x m = value_at z add mul (through add mul (gf 2) u x m) sigma

  abbrev d : E
  d = add (add (f_at u0 x0 m0) a0) (add (f_at u1 x1 m1) a1)

  abbrev e : E
  e = add (add (mul sigma (f_at v0 y0 k0)) b0) (add (mul sigma (f_at v1 y1 k1)) b1)

  -- tau of each server, where its h has this value
  abbrev tau0 : ℕ → ℕ
  tau0 n = bit_xor (bit_xor (bit_xor (bit_xor (product d.value b0.value) (product e.value a0.value)) c0.value) (product sigma.value n)) (product d.value e.value)

  abbrev tau1 : ℕ → ℕ
  tau1 n = bit_xor (bit_xor (bit_xor (bit_xor (product d.value b1.value) (product e.value a1.value)) c1.value) (product sigma.value n)) 0

  abbrev alpha : E
  alpha = add (mul (add a0 a1) (add b0 b1)) (add c0 c1)

  tau_both : bit_xor (tau0 (value p0.h sigma.value)) (tau1 (value p1.h sigma.value)) ≡
      bit_xor
      (product sigma.value (bit_xor (product (value (f_of (whole_sums s0 s1) (whole_proof p0 p1)) sigma.value) (value (g_of (whole_sums s0 s1) (whole_proof p0 p1)) sigma.value)) (value (whole_proof p0 p1).h sigma.value)))
      (bit_xor (product (whole_proof p0 p1).a (whole_proof p0 p1).b) (whole_proof p0 p1).c)
  unfolding whole_proof whole_sums
  tau_both =
      let laws = (level_laws 7).0 in
      let f0 = f_at u0 x0 m0 in let f1 = f_at u1 x1 m1 in
      let g0 = f_at v0 y0 k0 in let g1 = f_at v1 y1 k1 in
      let n0 = value_at z add mul h0 sigma in let n1 = value_at z add mul h1 sigma in
      let f = f_at (add u0 u1) (add x0 x1) (add m0 m1) in
      let g = f_at (add v0 v1) (add y0 y1) (add k0 k1) in
      ap (λ n. bit_xor (tau0 n) (tau1 (value p1.h sigma.value))) (value-values h0 sigma) ∙ ap (λ n. bit_xor (tau0 n0.value) (tau1 n)) (value-values h1 sigma)
      ∙ ap (λ w. w.value) (closings-both laws f0 f1 g0 g1 n0 n1 a0 a1 b0 b1 c0 c1 sigma)
      ∙ ap (λ w. (add (mul sigma (add (mul w (add g0 g1)) (add n0 n1))) alpha).value) (sym (through-both laws (gf 2) u0 u1 x0 x1 m0 m1 sigma))
      ∙ ap (λ w. (add (mul sigma (add (mul f w) (add n0 n1))) alpha).value) (sym (through-both laws (gf 2) v0 v1 y0 y1 k0 k1 sigma))
      ∙ ap (λ n. bit_xor (product sigma.value (bit_xor (product f.value g.value) n)) alpha.value) (sym (ap (λ n. bit_xor n (value (values h1) sigma.value)) (value-values h0 sigma) ∙ ap (bit_xor n0.value) (value-values h1 sigma)) ∙ h_at sigma)

  servers_made : (ServersAccept s0 s1 p0 p1 sigma.value → PassesAt (whole_sums s0 s1) (whole_proof p0 p1) sigma.value) × (PassesAt (whole_sums s0 s1) (whole_proof p0 p1) sigma.value → ServersAccept s0 s1 p0 p1 sigma.value)
  unfolding ServersAccept IsAccepted opening_of closing_of PassesAt whole_proof whole_sums
  servers_made = (
    λ accepted. record { outputs = sym outputs_both ∙ accepted.0; product = sym tau_both ∙ accepted.1 },
    λ passes. (outputs_both ∙ passes.outputs, tau_both ∙ passes.product),
  )

  closings_made : ClosingsAddUp s0 s1 p0 p1 sigma.value
  unfolding opening_of closing_of whole_proof whole_sums
  closings_made = record { outputs = outputs_both; tau = tau_both }

-- what both closings add up to
pub closings_add : (sums0 sums1 : Sums) (share0 share1 : ProofShare) (sigma : ℕ) → IsSums sums0 → IsSums sums1 → IsProofShare share0 → IsProofShare share1 → sigma < 2 ^ 128
    → ClosingsAddUp sums0 sums1 share0 share1 sigma
closings_add sums0 sums1 share0 share1 sigma t0 t1 p0 p1 hs =
    subst (λ h. ClosingsAddUp sums0 sums1 (record share0 { h = h }) share1 sigma) (values-elements share0.h p0.h)
    (subst (λ h. ClosingsAddUp sums0 sums1 (record share0 { h = values (elements share0.h p0.h) }) (record share1 { h = h }) sigma) (values-elements share1.h p1.h)
    (closings_made
    (element sums0.x t0.x) (element sums0.y t0.y) (element sums0.m t0.m) (element sums0.z t0.z) (element sums1.x t1.x) (element sums1.y t1.y) (element sums1.m t1.m) (element sums1.z t1.z)
    (element share0.u p0.u) (element share0.v p0.v) (element share0.a p0.a) (element share0.b p0.b) (element share0.c p0.c)
    (element share1.u p1.u) (element share1.v p1.v) (element share1.a p1.a) (element share1.b p1.b) (element share1.c p1.c)
    (elements share0.h p0.h) (elements share1.h p1.h) (element sigma hs)))

-- both servers accept exactly where the whole proof passes for the whole sums
pub servers_pass : (sums0 sums1 : Sums) (share0 share1 : ProofShare) (sigma : ℕ) → IsSums sums0 → IsSums sums1 → IsProofShare share0 → IsProofShare share1 → sigma < 2 ^ 128 →
    (ServersAccept sums0 sums1 share0 share1 sigma → PassesAt (whole_sums sums0 sums1) (whole_proof share0 share1) sigma)
    × (PassesAt (whole_sums sums0 sums1) (whole_proof share0 share1) sigma → ServersAccept sums0 sums1 share0 share1 sigma)
servers_pass sums0 sums1 share0 share1 sigma t0 t1 p0 p1 hs =
    subst (λ h. (ServersAccept sums0 sums1 (record share0 { h = h }) share1 sigma → PassesAt (whole_sums sums0 sums1) (whole_proof (record share0 { h = h }) share1) sigma) × (PassesAt (whole_sums sums0 sums1) (whole_proof (record share0 { h = h }) share1) sigma → ServersAccept sums0 sums1 (record share0 { h = h }) share1 sigma)) (values-elements share0.h p0.h)
    (subst (λ h. (ServersAccept sums0 sums1 (record share0 { h = values (elements share0.h p0.h) }) (record share1 { h = h }) sigma → PassesAt (whole_sums sums0 sums1) (whole_proof (record share0 { h = values (elements share0.h p0.h) }) (record share1 { h = h })) sigma) × (PassesAt (whole_sums sums0 sums1) (whole_proof (record share0 { h = values (elements share0.h p0.h) }) (record share1 { h = h })) sigma → ServersAccept sums0 sums1 (record share0 { h = values (elements share0.h p0.h) }) (record share1 { h = h }) sigma)) (values-elements share1.h p1.h)
    (servers_made
    (element sums0.x t0.x) (element sums0.y t0.y) (element sums0.m t0.m) (element sums0.z t0.z) (element sums1.x t1.x) (element sums1.y t1.y) (element sums1.m t1.m) (element sums1.z t1.z)
    (element share0.u p0.u) (element share0.v p0.v) (element share0.a p0.a) (element share0.b p0.b) (element share0.c p0.c)
    (element share1.u p1.u) (element share1.v p1.v) (element share1.a p1.a) (element share1.b p1.b) (element share1.c p1.c)
    (elements share0.h p0.h) (elements share1.h p1.h) (element sigma hs)))
