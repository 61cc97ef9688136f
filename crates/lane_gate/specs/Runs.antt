-- What happens at a gate, and what it hands on.
use Rattle.std.specs.Prelude.{◌≡◌, ◌<◌, ◌⊎◌, ℕ, List, [], ◌∷◌, Ok, Some, length}
use Rattle.express_words.specs.declared.audit.ProofShare.{ProofShare}
use Rattle.frame_rules.specs.Frames.{PlainFrame, Proof}
use Rattle.kept_machine.specs.Machines.{Gives}
use Rattle.lane_gate.specs.declared.note.Note.{Note}
use Rattle.lane_gate.specs.declared.statement.StatementHash.{StatementHash}
use Rattle.lane_gate.specs.declared.note.Note.TheVariants.{Key, Statement, Lease}
use Rattle.lane_gate.specs.Tickets.{ticket_hash}
use Rattle.lane_gate.specs.Statements.{PlainStatement, statement_hash, Collide}
use Rattle.lane_gate.specs.Passing.{PlainTicketed, PassesLink}
use Rattle.lane_gate.specs.Gates.{GateState, Passes, row_at, opened_gate, lease_answer, note_answer}
use Rattle.lane_gate.specs.Gates.{after_note, if_taken}
use Rattle.lane_gate.specs.Machines.{gate_rules}

-- a frame of a client comes, or one from the link; or something is noted
pub data Event : Type 0 where
  Comes : PlainTicketed → Event
  Commands : PlainFrame → Event
  Notes : Note → Event

-- the frames that came, in their order
abbrev pub came : List Event → List PlainFrame
came [] = []
came (Comes sent ∷ events) = sent.frame ∷ came events
came (Commands frame ∷ events) = frame ∷ came events
came (Notes note ∷ events) = came events

abbrev pub gate_after : GateState → List Event → GateState
gate_after gate [] = gate
gate_after gate (Comes sent ∷ events) = gate_after gate events
gate_after gate (Commands frame ∷ events) = gate_after gate events
gate_after gate (Notes note ∷ events) = gate_after (after_note gate note) events

-- a frame goes before the rest where it passes, and else the rest is all
abbrev pub GoesBefore : Type 0 → PlainFrame → List PlainFrame → List PlainFrame → Type 0
GoesBefore Passed frame rest all = (Passed × (all ≡ frame ∷ rest)) ⊎ ((Passed → ⊥) × (all ≡ rest))

-- these frames are handed on, in this order
abbrev pub HandsOn : GateState → List Event → List PlainFrame → Type 0
HandsOn gate [] all = all ≡ []
HandsOn gate (Comes sent ∷ events) all =
    (rest : List PlainFrame) × HandsOn gate events rest × GoesBefore (Passes gate sent) sent.frame rest all
HandsOn gate (Commands frame ∷ events) all =
    (rest : List PlainFrame) × HandsOn gate events rest × GoesBefore (PassesLink frame.body) frame rest all
HandsOn gate (Notes note ∷ events) all = HandsOn (after_note gate note) events all

-- the first list is the second without some of its frames: those that are left keep their order
abbrev pub IsPartOf : List PlainFrame → List PlainFrame → Type 0
IsPartOf some [] = some ≡ []
IsPartOf some (frame ∷ all) =
    ((rest : List PlainFrame) × (some ≡ frame ∷ rest) × IsPartOf rest all) ⊎ IsPartOf some all

-- ---- laws

-- whatever comes and is noted, some list of frames is handed on, and no other
abbrev pub HandsOnOneList : Type 0
HandsOnOneList = (gate : GateState) (events : List Event) → (all : List PlainFrame) × HandsOn gate events all
    × ((other : List PlainFrame) → HandsOn gate events other → other ≡ all)

-- what is handed on is a part of what came: a frame that isn't was lost, for the core
abbrev pub HandsOnAPart : Type 0
HandsOnAPart = (gate : GateState) (events : List Event) (all : List PlainFrame) →
    HandsOn gate events all → IsPartOf all (came events)

-- the note gave the frame's lane to its ticket: an owner's lane, or the frame's serial of a strangers' lane
abbrev pub Gave : Note → PlainTicketed → Type 0
Gave (Key lane hash) sent = (sent.frame.lane ≡ lane) × (ticket_hash sent.ticket ≡ hash)
Gave (Statement lane serial hash) sent = ⊥
Gave (Lease lane serial hash) sent =
    (sent.frame.lane ≡ lane) × (sent.frame.serial ≡ serial) × (ticket_hash sent.ticket ≡ hash)

-- it is among what was noted, and the gate took it
abbrev pub WasTaken : Note → GateState → List Event → Type 0
WasTaken note gate [] = ⊥
WasTaken note gate (Comes sent ∷ events) = WasTaken note gate events
WasTaken note gate (Commands frame ∷ events) = WasTaken note gate events
WasTaken note gate (Notes first ∷ events) =
    ((note ≡ first) × (note_answer gate first ≡ Ok tt)) ⊎ WasTaken note (after_note gate first) events

-- a client's frame passes only with a ticket that its lane and serial were given to
abbrev pub PassesWithItsTicket : Type 0
PassesWithItsTicket = (owners strangers : ℕ) (events : List Event) (sent : PlainTicketed) →
    let opened = opened_gate owners strangers in
    Passes (gate_after opened events) sent → (note : Note) × WasTaken note opened events × Gave note sent

-- at one moment a lane and serial has one ticket
abbrev pub OneTicketPasses : Type 0
OneTicketPasses = (gate : GateState) (a b : PlainTicketed) → a.frame.lane ≡ b.frame.lane →
    Passes gate a → Passes gate b → ticket_hash a.ticket ≡ ticket_hash b.ticket

-- ---- statements

-- a proof passes: its lane's row has the hash of the core's statement, and it names that of its client's
pub record PassesProof (core client : PlainStatement) : Type 0 where
  pub gate : GateState
  pub sent : PlainTicketed
  pub share : ProofShare
  pub serial : ℕ
  pub proof : sent.frame.body ≡ Proof share
  pub hash : StatementHash
  pub noted : (row_at gate.rows sent.frame.lane).statement ≡ Some (record { serial = serial; hash = hash })
  pub cores : hash ≡ statement_hash core.key core.part
  pub named : sent.statement ≡ Some (statement_hash client.key client.part)
  pub passes : Passes gate sent

-- core and client then have one key, of 32 bytes, and one public part, or they have a collision
abbrev pub ProvesOneStatement : Type 0
ProvesOneStatement = (core client : PlainStatement) → length core.key ≡ 32 → length client.key ≡ 32 →
    PassesProof core client → (core ≡ client) ⊎ Collide core client

-- ---- leases

pub record Granted : Type 0 where
  pub lane : ℕ
  pub serial : ℕ

-- the leases that are taken, in their order
abbrev pub granted : GateState → List Note → List Granted
granted gate [] = []
granted gate (Key lane hash ∷ notes) = granted (after_note gate (Key lane hash)) notes
granted gate (Statement lane serial hash ∷ notes) =
    granted (after_note gate (Statement lane serial hash)) notes
granted gate (Lease lane serial hash ∷ notes) =
    let later = granted (after_note gate (Lease lane serial hash)) notes in
    if_taken (lease_answer gate lane serial) (record { lane = lane; serial = serial } ∷ later) later

-- each lease of the lane has a serial above this one
abbrev pub AreAbove : ℕ → ℕ → List Granted → Type 0
AreAbove lane serial [] = Unit {0}
AreAbove lane serial (lease ∷ leases) =
    (lease.lane ≡ lane → serial < lease.serial) × AreAbove lane serial leases

-- the leases of each lane rise
abbrev pub Rise : List Granted → Type 0
Rise [] = Unit {0}
Rise (lease ∷ leases) = AreAbove lease.lane lease.serial leases × Rise leases

-- whatever is noted, the leases of each lane rise: no two have one lane and serial
abbrev pub LeasesRise : Type 0
LeasesRise = (gate : GateState) (notes : List Note) → Rise (granted gate notes)

-- ---- records

-- the same records give the same gate
abbrev pub RecordsGiveOneGate : Type 0
RecordsGiveOneGate = (records : List (List ℕ)) (a b : GateState) →
    Gives gate_rules records a → Gives gate_rules records b → a ≡ b
