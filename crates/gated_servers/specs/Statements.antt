-- The statements that a gate has of its core.
use Rattle.std.specs.Prelude.{ℕ, Option, Some, None}
use Rattle.server_boxes.specs.Challenged.{PlainChallenged}
use Rattle.lane_gate.specs.declared.note.Note.{Note}
use Rattle.lane_gate.specs.declared.note.Note.TheVariants.{Statement}
use Rattle.lane_gate.specs.Gates.{GateState, after_note}
use Rattle.lane_gate.specs.Statements.{statement_hash}

-- the note of a lane's write that waits for its proof
abbrev pub statement_note : ℕ → PlainChallenged → Note
statement_note lane write = Statement lane write.serial (statement_hash write.ckey write.part)

-- a gate that was told the statement of the lane's write that waits for its proof, if one does
abbrev pub with_statement_of : ℕ → Option PlainChallenged → GateState → GateState
with_statement_of lane None gate = gate
with_statement_of lane (Some write) gate = after_note gate (statement_note lane write)
