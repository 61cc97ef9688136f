-- Laws of difference vectors and of an audit's values.
use Rattle.std.specs.Prelude.{◌≡◌, ◌≢◌, ℕ, ◌^◌, ◌<◌, ◌↔◌, true, List, length, slice_index, slice_set, bit_xor}
use Rattle.dpf_rules.specs.Bytes.{AreBytes}
use Rattle.dpf_rules.specs.Walk.{write_bytes}
use Rattle.dpf_rules.specs.Evaluation.{difference_vector}
use Rattle.express_words.specs.declared.audit.ProofShare.{ProofShare}
use Rattle.express_words.specs.declared.audit.Openings.{Openings}
use Rattle.audit_rules.specs.Audit.{bad_r, bad_s, accepts, closing_of, f_of, g_of, opened_of, opening_of}
use Rattle.audit_rules.specs.Audit.{product, value, whole_proof, whole_sums, PassesAt, ServersAccept}
use Rattle.audit_rules.specs.declared.sums.Sums.{Sums}
use Rattle.audit_rules.specs.Challenges.{sums_under}
use Rattle.audit_rules.specs.BadWrites.{HasTwo}
use Rattle.express_words.specs.Ranges.{IsProofShare, IsOpenings, IsClosing}
use Rattle.audit_rules.specs.Values.{Write, sums_at, opens, values}

-- ---- bad values

-- the bad value of r at a place doesn't depend on r there
abbrev pub BadRIsFixed : Type 0
BadRIsFixed = (w r s : List ℕ) (a v : ℕ) → bad_r w (slice_set r a v) s a ≡ bad_r w r s a

-- the bad value of s at a place doesn't depend on s there
abbrev pub BadSIsFixed : Type 0
BadSIsFixed = (w s : List ℕ) (a b v : ℕ) → a ≢ b → bad_s w (slice_set s b v) a b ≡ bad_s w s a b

-- ---- boxes that change

-- where both servers' write bytes differ at two places, two places of the difference vector aren't zero
abbrev pub ChangesAreSeen : Type 0
ChangesAreSeen =
    (part : List ℕ) (root0 root1 : ℕ) (addresses : List ℕ) (i j : ℕ) → i < j → j < length addresses →
    let zero : ℕ → List ℕ = λ k. write_bytes part 0 root0 (slice_index addresses k) in
    let one : ℕ → List ℕ = λ k. write_bytes part 1 root1 (slice_index addresses k) in
    zero i ≢ one i → zero j ≢ one j → HasTwo (difference_vector part root0 root1 addresses)

-- ---- an audit's values

-- the values of an audit are numbers of the field
abbrev pub ValuesInRange : Type 0
ValuesInRange =
    (server : ℕ) (w : Write) (addresses : List ℕ) (share : ProofShare) (sigma : ℕ) (other : Openings) →
    server < 2 → w.root < 2 ^ 128 → AreBytes w.part →
    IsProofShare share → sigma < 2 ^ 128 → IsOpenings other →
    let own = values server w addresses share sigma other in
    IsOpenings own.opened × IsClosing own.closing

-- both closings accept exactly where both servers accept
abbrev pub ValuesAccept : Type 0
ValuesAccept =
    (w0 w1 : Write) (addresses : List ℕ) (share0 share1 : ProofShare) (sigma : ℕ) →
    let zero = values 0 w0 addresses share0 sigma (opens 1 w1 addresses share1 sigma) in
    let one = values 1 w1 addresses share1 sigma (opens 0 w0 addresses share0 sigma) in
    (accepts zero.closing one.closing ≡ true)
    ↔ ServersAccept (sums_at 0 w0 addresses) (sums_at 1 w1 addresses) share0 share1 sigma

-- What both closings add up to, whether or not they accept: both o to h(1) + h(2), and both tau to
-- sigma·(f(sigma)·g(sigma) + h(sigma)) + (a·b + c), with the polynomials and the triple of the whole proof.
pub record ClosingsAddUp (sums0 sums1 : Sums) (share0 share1 : ProofShare) (sigma : ℕ) : Type 0 where
  pub outputs : let opened = opened_of (opening_of sums0 share0 sigma) (opening_of sums1 share1 sigma) in
      let proof = whole_proof share0 share1 in
      bit_xor (closing_of 0 share0 sigma opened).o (closing_of 1 share1 sigma opened).o
      ≡ bit_xor (value proof.h 1) (value proof.h 2)
  pub tau : let opened = opened_of (opening_of sums0 share0 sigma) (opening_of sums1 share1 sigma) in
      let sums = whole_sums sums0 sums1 in
      let proof = whole_proof share0 share1 in
      let gate = bit_xor (product (value (f_of sums proof) sigma) (value (g_of sums proof) sigma))
      (value proof.h sigma) in
      bit_xor (closing_of 0 share0 sigma opened).tau (closing_of 1 share1 sigma opened).tau
      ≡ bit_xor (product sigma gate) (bit_xor (product proof.a proof.b) proof.c)

-- so they accept exactly where the whole proof passes for the difference vector
abbrev pub AcceptedPasses : Type 0
AcceptedPasses =
    (part ckey addresses : List ℕ) (root0 root1 count : ℕ) (share0 share1 : ProofShare) (sigma : ℕ) →
    AreBytes part → root0 < 2 ^ 128 → root1 < 2 ^ 128 →
    IsProofShare share0 → IsProofShare share1 → sigma < 2 ^ 128 →
    let w0 : Write = record { root = root0; part = part; count = count; ckey = ckey } in
    let w1 : Write = record { root = root1; part = part; count = count; ckey = ckey } in
    let zero = values 0 w0 addresses share0 sigma (opens 1 w1 addresses share1 sigma) in
    let one = values 1 w1 addresses share1 sigma (opens 0 w0 addresses share0 sigma) in
    let w = difference_vector part root0 root1 addresses in
    (accepts zero.closing one.closing ≡ true)
    ↔ PassesAt (sums_under ckey addresses w) (whole_proof share0 share1) sigma
