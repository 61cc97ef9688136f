-- What a proof is a proof of, and by what a gate knows it.
use Rattle.std.specs.Prelude.{◌≡◌, ◌≢◌, ℕ, List, ◌++◌}
use Rattle.sha2.specs.Sha256.{sha256}
use Rattle.lane_gate.specs.declared.statement.StatementHash.{StatementHash}

-- the SHA-256 digest of the challenges' key and then the public part, as they stand in frames
abbrev pub statement_hash : List ℕ → List ℕ → StatementHash
statement_hash key part = record { 0 = sha256 (key ++ part) }

-- a statement: what a core or a client holds of a write, its challenges' key and its public part
pub record PlainStatement : Type 0 where
  pub key : List ℕ
  pub part : List ℕ

-- a collision of SHA-256: other bytes, and the same digest
abbrev pub Collide : PlainStatement → PlainStatement → Type 0
Collide a b = (a.key ++ a.part ≢ b.key ++ b.part) × (sha256 (a.key ++ a.part) ≡ sha256 (b.key ++ b.part))
