-- The ideal experiment: what a server's secrets expand to may be anything.
-- Source: Boyle, Gilboa and Ishai, "Function Secret Sharing: Improvements and Extensions", CCS 2016,
-- section 3.
use Rattle.std.specs.Prelude.{ℕ, List, map, take, drop, ◌++◌}
use Rattle.express_words.specs.Bytes.{xor_bytes}
use Rattle.express_words.specs.declared.audit.ProofShare.{ProofShare}
use Rattle.express_words.specs.declared.audit.Openings.{Openings}
use Rattle.dpf_rules.specs.Walk.{leaf_of, leaf_bytes}
use Rattle.dpf_rules.specs.Expansion as expansion
use Rattle.audit_rules.specs.declared.sums.Sums.{Sums}
use Rattle.audit_rules.specs.Audit.{opening_of, opened_of, closing_of}
use Rattle.audit_rules.specs.Challenges.{sums_under}
use Rattle.audit_rules.specs.Values.{Write, Values}
use Rattle.step_rules.specs.Boxes.{Box, added}

-- a server's leaf of an address, by a write's public part and its root there
abbrev pub Leaves : Type 0
Leaves = (part : List ℕ) → (root address : ℕ) → ℕ

-- its leaves of the write of a lane and a serial, and its mask of a read, by the box's key, lane, serial and
-- width
pub record World : Type 0 where
  pub leaf : (lane serial : ℕ) → Leaves
  pub mask : List ℕ → ℕ → ℕ → ℕ → List ℕ

-- the program's
unfoldable pub real : ℕ → World
real server =
    record {
      leaf = λ lane serial part root address. leaf_of part server root address;
      mask = expansion.mask;
    }

-- a server's sums of a write at these addresses, and its values in the audit
unfoldable pub sums_in : Leaves → Write → List ℕ → Sums
sums_in leaf w addresses = sums_under w.ckey addresses (map (leaf w.part w.root) addresses)

unfoldable pub opens_in : Leaves → Write → List ℕ → ProofShare → ℕ → Openings
opens_in leaf w addresses share sigma = opening_of (sums_in leaf w addresses) share sigma

unfoldable pub values_in : Leaves → ℕ → Write → List ℕ → ProofShare → ℕ → Openings → Values
values_in leaf server w addresses share sigma other =
    let own = opens_in leaf w addresses share sigma in
    record { opened = own; closing = closing_of server share sigma (opened_of other own) }

-- what a write adds at an address, and to the boxes
abbrev pub adds_in : Leaves → Write → ℕ → List ℕ
adds_in leaf w address = leaf_bytes w.part (leaf w.part w.root address)

unfoldable pub written_in : Leaves → Write → List Box → List Box
written_in leaf w boxes = map (added (adds_in leaf w)) (take w.count boxes) ++ drop w.count boxes

-- a box's share under the mask of a read
abbrev pub masked_in : World → (lane serial width : ℕ) → Box → List ℕ
masked_in world lane serial width box = xor_bytes box.share (world.mask box.key lane serial width)

-- ---- a run

-- what comes to a server: bytes on a client's connection, or on the link; or the link comes up again
pub data Event : Type 0 where
  FromClient : (bytes : List ℕ) → Event
  FromLink : (bytes : List ℕ) → Event
  LinkUp : Event
