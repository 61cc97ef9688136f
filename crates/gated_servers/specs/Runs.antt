-- What gated servers make of a whole log.
use Rattle.std.specs.Prelude.{◌≡◌, ◌==◌, ◌⊎◌, ℕ, true, List, [], ◌∷◌, if◌then◌else◌}
use Rattle.frame_rules.specs.Whole.{whole}
use Rattle.node_restart.specs.declared.frames.Sender.{Sender}
use Rattle.node_restart.specs.declared.frames.Sender.TheVariants.{Client, Peer}
use Rattle.node_restart.specs.declared.server.Core.TheVariants.{Lead, Help}
use Rattle.node_restart.specs.Frames.{Handed, handed}
use Rattle.node_restart.specs.Steps.{fold_from}
use Rattle.gated_servers.specs.declared.helper.GatedHelper.{GatedHelper}
use Rattle.gated_servers.specs.declared.leader.GatedLeader.{GatedLeader}
use Rattle.gated_servers.specs.Frames.{passes_link}
use Rattle.gated_servers.specs.Helpers.{helper_after}
use Rattle.gated_servers.specs.Leaders.{leader_after}

-- ---- the frames of a log

-- a record's frame, before those of the rest
abbrev pub framed : List ℕ → List Handed → List Handed
framed [] rest = rest
framed (tag ∷ frame) rest =
    if tag == 1 then handed Client frame ∷ rest else (if tag == 2 then handed Peer frame ∷ rest else rest)

abbrev pub frames_in : List (List ℕ) → List Handed
frames_in [] = []
frames_in (bytes ∷ records) = framed bytes (frames_in records)

-- the first list is the second without some of its frames: those that are left keep their order
abbrev pub IsPartOf : List Handed → List Handed → Type 0
IsPartOf some [] = some ≡ []
IsPartOf some (h ∷ all) = ((rest : List Handed) × (some ≡ h ∷ rest) × IsPartOf rest all) ⊎ IsPartOf some all

-- ---- a helper

abbrev pub helper_behind : GatedHelper → List (List ℕ) → GatedHelper
helper_behind s [] = s
helper_behind s (bytes ∷ records) = helper_behind (helper_after s bytes) records

-- a frame of the leader is a command, and no audit at the point 1 or 2
abbrev pub IsTaken : Handed → Type 0
IsTaken h = h.sender ≡ Peer → passes_link (whole h.frame) ≡ true

abbrev pub AreTaken : List Handed → Type 0
AreTaken [] = Unit {0}
AreTaken (h ∷ frames) = IsTaken h × AreTaken frames

-- A helper's core took a part of the frames that came, one after another, and nothing else; and no audit at the
-- points 1 and 2.
pub record HelperTook (before : GatedHelper) (records : List (List ℕ)) : Type 0 where
  pub part : List Handed
  pub came : IsPartOf part (frames_in records)
  pub taken : AreTaken part
  pub folded : Help (helper_behind before records).helper ≡ fold_from (Help before.helper) part

abbrev pub HelpersTakeAPart : Type 0
HelpersTakeAPart = (before : GatedHelper) (records : List (List ℕ)) → HelperTook before records

-- ---- a leader

abbrev pub leader_behind : GatedLeader → List (List ℕ) → GatedLeader
leader_behind s [] = s
leader_behind s (bytes ∷ records) = leader_behind (leader_after s bytes) records

-- a leader's core took a part of the frames that came, one after another, and nothing else
pub record LeaderTook (before : GatedLeader) (records : List (List ℕ)) : Type 0 where
  pub part : List Handed
  pub came : IsPartOf part (frames_in records)
  pub folded : Lead (leader_behind before records).leader ≡ fold_from (Lead before.leader) part

abbrev pub LeadersTakeAPart : Type 0
LeadersTakeAPart = (before : GatedLeader) (records : List (List ℕ)) → LeaderTook before records
