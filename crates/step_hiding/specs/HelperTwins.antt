-- Two helpers that play beside writes that differ in their aims alone.
use Rattle.std.specs.Prelude.{◌≡◌, ℕ, length}
use Rattle.std.specs.List.{AllZip}
use Rattle.step_rules.specs.Helper.{Helper, Server, Row, Stage, Idle, Deposited, Begun, Proved, Audited, Done}
use Rattle.step_rules.specs.Helper.{row_at}
use Rattle.step_hiding.specs.Twins.{Aims, SameProofs, TwinBoxes}

-- a row's share of a proof may differ, but not what was closed with it
abbrev pub TwinStages : Aims → (lane serial : ℕ) → Stage → Stage → Type 0
TwinStages aims lane serial Idle Idle = Unit {0}
TwinStages aims lane serial (Deposited held) (Deposited other) = held ≡ other
TwinStages aims lane serial (Begun write) (Begun twin) = write ≡ twin
TwinStages aims lane serial (Proved write share) (Proved twin other) =
    (write ≡ twin) × SameProofs (aims.proofs lane serial) share other
TwinStages aims lane serial (Audited write closing) (Audited twin other) =
    (write ≡ twin) × (closing ≡ other)
TwinStages aims lane serial (Done want) (Done other) = want ≡ other
TwinStages aims lane serial one other = ⊥

pub record TwinRows (aims : Aims) (lane : ℕ) (row twin : Row) : Type 0 where
  pub serial : row.serial ≡ twin.serial
  pub stage : TwinStages aims lane row.serial row.stage twin.stage

pub record TwinServers (aims : Aims) (server twin : Server) : Type 0 where
  pub settings : server.settings ≡ twin.settings
  pub boxes : AllZip (TwinBoxes aims) server.boxes twin.boxes
  pub lanes : length server.rows ≡ length twin.rows
  pub rows : (lane : ℕ) → TwinRows aims lane (row_at server lane) (row_at twin lane)
  pub draws : server.draws ≡ twin.draws
  pub seed : server.seed ≡ twin.seed

pub record TwinHelpers (aims : Aims) (helper twin : Helper) : Type 0 where
  pub server : TwinServers aims helper.server twin.server
  pub carried : helper.carried ≡ twin.carried
  pub replies : helper.replies ≡ twin.replies
