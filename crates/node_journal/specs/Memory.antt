-- A disk in memory.
use Rattle.std.specs.Prelude.{ℕ, ◌+◌, ◌-◌, ◌<◌, ◌⊎◌, List, [], ◌∷◌, length, take, drop}
use Rattle.express_words.specs.Memory.{Tally, started, passed, failed}
use Rattle.node_journal.specs.History.{History, began, wrote, synced}
use Rattle.node_journal.specs.declared.disk_log.Step.{Step}
use Rattle.node_journal.specs.declared.disk_log.Step.TheVariants.{Write, Sync}

-- what was done, and how many more writes and syncs, and how many more bytes of them, have room
pub record LogState : Type 0 where
  pub history : History
  pub calls : ℕ
  pub room : ℕ

-- one write more
abbrev pub write_noted : ℕ → List ℕ → LogState → LogState
write_noted at bytes l =
    record { history = wrote at bytes l.history; calls = l.calls - 1; room = l.room - length bytes }

-- one sync more
abbrev pub sync_noted : LogState → LogState
sync_noted l = record { history = synced l.history; calls = l.calls - 1; room = l.room }

-- the room left is too small for one more write or sync, with this many bytes
abbrev pub LacksRoom : LogState → ℕ → Type 0
LacksRoom l bytes = (l.calls < 1) ⊎ (l.room < bytes)

-- what arrives of a write that a crash cuts short, what was done, and the calls
pub record DiskState : Type 0 where
  pub arriving : List ℕ
  pub log : LogState
  pub tally : Tally

-- a disk that is made with these bytes, all of them synced
abbrev pub disk_made : (bytes arriving : List ℕ) → (calls room : ℕ) → (failing : List ℕ) → DiskState
disk_made bytes arriving calls room failing = record {
  arriving = arriving;
  log = record { history = began bytes; calls = calls; room = room };
  tally = started failing;
}

-- after a call that went well and left this log
abbrev pub call_passed : LogState → DiskState → DiskState
call_passed log d = record { arriving = d.arriving; log = log; tally = passed d.tally }

-- after a call that failed
abbrev pub call_failed : DiskState → DiskState
call_failed d = record { arriving = d.arriving; log = d.log; tally = failed d.tally }

-- what these steps did, whose bytes stand one after another, after what was done before
abbrev pub replay : History → List Step → List ℕ → History
replay before [] texts = before
replay before (Write at bytes ∷ steps) texts =
    replay (wrote at (take bytes texts) before) steps (drop bytes texts)
replay before (Sync ∷ steps) texts = replay (synced before) steps texts

-- how many bytes the writes have
abbrev pub text_bytes : List Step → ℕ
text_bytes [] = 0
text_bytes (Write at bytes ∷ steps) = bytes + text_bytes steps
text_bytes (Sync ∷ steps) = text_bytes steps
