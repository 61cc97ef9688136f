-- A gate as a caller sees it, and what each record makes of it.
use Rattle.std.specs.Prelude.{◌+◌, ◌-◌, ◌^◌, ℕ, Bool, true, nat_lt, if◌then◌else◌, ◌&&◌, List, length, ◌++◌}
use Rattle.std.specs.Prelude.{Option, Some, None, Result, Ok, Err, replicate, slice_index_or, slice_set}
use Rattle.lane_gate.specs.declared.ticket.TicketHash.{TicketHash}
use Rattle.lane_gate.specs.declared.holder.Lease.{Lease}
use Rattle.lane_gate.specs.declared.holder.Holder.{Holder}
use Rattle.lane_gate.specs.declared.holder.Holder.TheVariants.{Keyless, Owner, Free, Leased}
use Rattle.lane_gate.specs.declared.statement.StatementHash.{StatementHash}
use Rattle.lane_gate.specs.declared.statement.Statement.{Statement}
use Rattle.lane_gate.specs.declared.row.GateRow.{GateRow}
use Rattle.lane_gate.specs.declared.fault.GateFault.{GateFault}
use Rattle.lane_gate.specs.declared.fault.GateFault.TheVariants as fault
use Rattle.lane_gate.specs.declared.note.Note.{Note}
use Rattle.lane_gate.specs.declared.note.Note.TheVariants as note
use Rattle.lane_gate.specs.Holders.{last_serial, is_owners, has_request}
use Rattle.lane_gate.specs.Passing.{PlainTicketed, PassesRow}

-- the rows by their lanes, and how many leases there were
pub record GateState : Type 0 where
  pub rows : List GateRow
  pub leases : ℕ

abbrev pub keyless : GateRow
keyless = record { holder = Keyless; statement = None }

abbrev pub free : GateRow
free = record { holder = Free; statement = None }

-- so many owners' lanes, and behind them so many of the strangers
abbrev pub opened_gate : ℕ → ℕ → GateState
opened_gate owners strangers = record {
  rows = replicate owners keyless ++ replicate strangers free;
  leases = 0;
}

-- the lane's row; that of an owner without a key where there is no such lane
abbrev pub row_at : List GateRow → ℕ → GateRow
row_at rows lane = slice_index_or rows lane keyless

-- a frame is handed on: it is of a lane that there is, and passes its row
abbrev pub Passes : GateState → PlainTicketed → Type 0
Passes gate sent = PassesRow (row_at gate.rows sent.frame.lane) sent

-- ---- changes of a row

abbrev pub with_holder : GateState → ℕ → Holder → GateState
with_holder gate lane holder = record {
  rows = slice_set gate.rows lane (record { holder = holder; statement = (row_at gate.rows lane).statement });
  leases = gate.leases;
}

-- an owner's lane with this key
abbrev pub with_key : GateState → ℕ → TicketHash → GateState
with_key gate lane hash = with_holder gate lane (Owner hash)

abbrev pub next_lease : GateState → ℕ → TicketHash → Lease
next_lease gate serial hash = record { serial = serial; hash = hash; number = gate.leases + 1 }

-- a strangers' lane with this lease, the next of all
abbrev pub with_lease : GateState → ℕ → ℕ → TicketHash → GateState
with_lease gate lane serial hash = record {
  rows = (with_holder gate lane (Leased (next_lease gate serial hash))).rows;
  leases = gate.leases + 1;
}

-- a lane with this statement, for this serial
abbrev pub with_statement : GateState → ℕ → ℕ → StatementHash → GateState
with_statement gate lane serial hash = record {
  rows = slice_set gate.rows lane (record {
    holder = (row_at gate.rows lane).holder;
    statement = Some (record { serial = serial; hash = hash });
  });
  leases = gate.leases;
}

-- ---- what is noted, and why not

abbrev pub Answer : Type 0
Answer = Result (Unit {0}) GateFault

-- an owner's lane that there is takes any key, in place of the one before
abbrev pub key_answer : GateState → ℕ → Answer
key_answer gate lane =
    if nat_lt lane (length gate.rows) && is_owners (row_at gate.rows lane).holder then Ok tt
    else Err fault.NotOwners

-- a number is left for a lease
abbrev pub number_answer : ℕ → Answer
number_answer leases = if nat_lt leases (2 ^ 64 - 1) then Ok tt else Err fault.NoNumber

abbrev pub above_answer : Option ℕ → ℕ → ℕ → Answer
above_answer None serial leases = Err fault.NotStrangers
above_answer (Some last) serial leases =
    if nat_lt last serial then number_answer leases else Err fault.HasLease

-- a strangers' lane takes a lease of a serial above its last
abbrev pub lease_answer : GateState → ℕ → ℕ → Answer
lease_answer gate lane serial = above_answer (last_serial (row_at gate.rows lane).holder) serial gate.leases

-- a later serial than that of the statement before
abbrev pub is_later : Option Statement → ℕ → Bool
is_later None serial = true
is_later (Some noted) serial = nat_lt noted.serial serial

-- a request takes one statement
abbrev pub row_statement_answer : GateRow → ℕ → Answer
row_statement_answer row serial =
    if has_request row.holder serial then
    (if is_later row.statement serial then Ok tt else Err fault.HasStatement)
    else Err fault.NoRequest

abbrev pub statement_answer : GateState → ℕ → ℕ → Answer
statement_answer gate lane serial = row_statement_answer (row_at gate.rows lane) serial

-- what is told of a note
abbrev pub note_answer : GateState → Note → Answer
note_answer gate (note.Key lane hash) = key_answer gate lane
note_answer gate (note.Statement lane serial hash) = statement_answer gate lane serial
note_answer gate (note.Lease lane serial hash) = lease_answer gate lane serial

-- the gate with a note that it takes
abbrev pub with_note : GateState → Note → GateState
with_note gate (note.Key lane hash) = with_key gate lane hash
with_note gate (note.Statement lane serial hash) = with_statement gate lane serial hash
with_note gate (note.Lease lane serial hash) = with_lease gate lane serial hash

-- the one where the answer is Ok, and else the other
abbrev pub if_taken : {A : Type 0} → Answer → A → A → A
if_taken (Ok done) taken refused = taken
if_taken (Err fault) taken refused = refused

-- the gate after a note; one that it doesn't take changes nothing
abbrev pub after_note : GateState → Note → GateState
after_note gate note = if_taken (note_answer gate note) (with_note gate note) gate
