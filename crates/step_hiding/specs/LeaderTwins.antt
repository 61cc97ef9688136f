-- Two leaders that play beside writes that differ in their aims alone.
use Rattle.std.specs.Prelude.{◌≡◌, ℕ}
use Rattle.std.specs.List.{AllZip}
use Rattle.express_words.specs.declared.audit.ProofShare.{ProofShare}
use Rattle.express_words.specs.declared.audit.Openings.{Openings}
use Rattle.step_rules.specs.Leader.{Leader, Row, Stage, Idle, Waiting, Challenged, Auditing, Settling, Done}
use Rattle.step_rules.specs.LeaderReplies.{own_closing}
use Rattle.step_hiding.specs.Twins.{Aims, TwinBoxes}

-- two shares of a proof that close the same, whatever the helper opens
abbrev pub SameClosings : (share other : ProofShare) → ℕ → Openings → Type 0
SameClosings share other sigma opened =
    (helpers : Openings) → own_closing share sigma opened helpers ≡ own_closing other sigma opened helpers

-- a row's share of a proof may differ, but not what is opened and closed with it
abbrev pub TwinStages : Stage → Stage → Type 0
TwinStages Idle Idle = Unit {0}
TwinStages (Waiting number asked) (Waiting same other) = (number ≡ same) × (asked ≡ other)
TwinStages (Challenged write kept) (Challenged twin other) = (write ≡ twin) × (kept ≡ other)
TwinStages (Auditing number write share sigma opened) (Auditing same twin other point again) =
    (number ≡ same) × (write ≡ twin) × (sigma ≡ point) × (opened ≡ again)
    × SameClosings share other sigma opened
TwinStages (Settling number write own other) (Settling same twin closing again) =
    (number ≡ same) × (write ≡ twin) × (own ≡ closing) × (other ≡ again)
TwinStages (Done want kept) (Done same other) = (want ≡ same) × (kept ≡ other)
TwinStages one other = ⊥

pub record TwinRows (row twin : Row) : Type 0 where
  pub serial : row.serial ≡ twin.serial
  pub stage : TwinStages row.stage twin.stage

pub record TwinLeaders (aims : Aims) (leader twin : Leader) : Type 0 where
  pub settings : leader.settings ≡ twin.settings
  pub boxes : AllZip (TwinBoxes aims) leader.boxes twin.boxes
  pub rows : AllZip TwinRows leader.rows twin.rows
  pub outstanding : leader.outstanding ≡ twin.outstanding
  pub next : leader.next ≡ twin.next
  pub draws : leader.draws ≡ twin.draws
  pub seed : leader.seed ≡ twin.seed
