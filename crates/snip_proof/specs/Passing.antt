-- What both servers accept of a write, by its keys or by its leaves.
use Rattle.std.specs.Prelude.{◌≡◌, ◌≢◌, ◌⊎◌, ◌^◌, ◌<◌, ◌≤◌, ℕ, List, bit_xor, length, slice_index}
use Rattle.express_words.specs.declared.audit.ProofShare.{ProofShare}
use Rattle.dpf_rules.specs.Evaluation.{difference_at, leaves}
use Rattle.dpf_rules.specs.Expansion.{challenge_r, challenge_s}
use Rattle.dpf_rules.specs.Walk.{leaf_of}
use Rattle.audit_rules.specs.Audit.{PassesAt, ServersAccept, difference, one_share, whole_proof, zero_share}
use Rattle.audit_rules.specs.BadWrites.{IsBadChallenge}
use Rattle.audit_rules.specs.Challenges.{challenge_rs, challenge_ss, sums_under}

-- both accept these shares of a proof at a point, where these are their leaves at the addresses
abbrev pub LeavesPass : (zero one ckey addresses : List ℕ) → (share0 share1 : ProofShare) → ℕ → Type 0
LeavesPass zero one ckey addresses share0 share1 =
    let sums = sums_under ckey addresses in ServersAccept (sums zero) (sums one) share0 share1

-- the whole proof passes at this point for the sums of the difference of the leaves
abbrev pub WholePasses : (zero one ckey addresses : List ℕ) → (share0 share1 : ProofShare) → ℕ → Type 0
WholePasses zero one ckey addresses share0 share1 =
    PassesAt (sums_under ckey addresses (difference zero one)) (whole_proof share0 share1)

-- A write of this difference is caught: unless r at its first place that isn't zero, or s at its last, is the
-- one bad value, there are five of these points at most.
abbrev pub IsCaught : (w ckey addresses points : List ℕ) → Type 0
IsCaught w ckey addresses points =
    IsBadChallenge w (challenge_rs ckey addresses) (challenge_ss ckey addresses) ⊎ (length points ≤ 5)

-- the leaves are equal at every address but the one at this place
abbrev pub AgreeElsewhere : (zero one addresses : List ℕ) → ℕ → Type 0
AgreeElsewhere zero one addresses place = (i : ℕ) → i < length addresses
    → slice_index addresses i ≢ slice_index addresses place → slice_index zero i ≡ slice_index one i

-- so are those of a public part and two roots, at every address but the target
abbrev pub AgreeOffTarget : List ℕ → (root0 root1 target : ℕ) → Type 0
AgreeOffTarget part root0 root1 target = (address : ℕ) → address < 2 ^ 128 → address ≢ target
    → leaf_of part 0 root0 address ≡ leaf_of part 1 root1 address

-- likewise where the leaves are those of a public part and two roots
abbrev pub KeysPass : List ℕ → (root0 root1 : ℕ) → (ckey addresses : List ℕ) → (share0 share1 : ProofShare)
    → ℕ → Type 0
KeysPass part root0 root1 ckey addresses share0 share1 =
    LeavesPass (leaves part 0 root0 addresses) (leaves part 1 root1 addresses) ckey addresses share0 share1

-- the helper's share of the proof of a write of this difference to a target, of the client's words
abbrev pub share_for : ℕ → List ℕ → ℕ → List ℕ → ProofShare
share_for m ckey target words = one_share m (challenge_r ckey target) (challenge_s ckey target) words

-- both accept the proof of the client whose words these are: of leaves that differ at this place
abbrev pub HonestLeavesPass : (zero one : List ℕ) → ℕ → (ckey addresses words : List ℕ) → ℕ → Type 0
HonestLeavesPass zero one place ckey addresses words =
    let m = bit_xor (slice_index zero place) (slice_index one place) in
    LeavesPass zero one ckey addresses (zero_share words)
    (share_for m ckey (slice_index addresses place) words)

-- and of keys that differ at this target
abbrev pub HonestKeysPass : List ℕ → (root0 root1 target : ℕ) → (ckey addresses words : List ℕ) → ℕ → Type 0
HonestKeysPass part root0 root1 target ckey addresses words =
    KeysPass part root0 root1 ckey addresses (zero_share words)
    (share_for (difference_at part root0 root1 target) ckey target words)
