-- Worked schedules of two clients, with room for four boxes of 16 bytes. What they come to was worked out by
-- hand from the protocol's description, and the run is computed to give it.
use Rattle.std.specs.Prelude.{◌≡◌, ℕ, false, List, [], ◌∷◌, length}
use Rattle.mailbox_rules.specs.Requests.{Register, Write, Read, Command, Registers, Begins, Audits, Settles}
use Rattle.mailbox_rules.specs.Requests.{Reads, Entry, entry, AddBox, BeginWrite, AuditWrite, SettleWrite}
use Rattle.mailbox_rules.specs.Requests.{ReadBox}
use Rattle.token_rules.specs.Tokens.{Oracle, World, start, Answered, NoOwnBox, Outcome}
use Rattle.token_rules.specs.Run.{Event, Ask, Send, Tick, Deliver, Finish, line_of, run}

-- What a schedule comes to: the journal, the outcomes, and how many tokens were sent.
pub record End : Type 0 where
  pub journal : List Entry
  pub outcomes : List Outcome
  pub tokens : ℕ

abbrev pub end_of : World → End
end_of w = record { journal = w.journal; outcomes = w.outcomes; tokens = length w.pool }

-- The schedule, in a window of so many commands, comes to this. No lane is foreign, so no oracle is asked.
abbrev pub ComesTo : ℕ → List Event → End → Type 0
ComesTo window events end = (o : Oracle) → end_of (run o (start 16 4 window (λ c. false)) events) ≡ end

-- the answer to a client's request, by its number and its serial
abbrev pub answer : ℕ → ℕ → ℕ → Command → Outcome
answer c request serial opening = record { client = c; request = request; told = Answered serial opening }

-- A box is registered, written and read, and each frame of the read comes more than once. It is read once.
abbrev pub RepeatedFrames : Type 0
RepeatedFrames = ComesTo 1
    (Ask 0 (Register 10) ∷ Finish 0 ∷ Ask 0 (Write 10 []) ∷ Finish 0
    ∷ Ask 0 (Read 0) ∷ Send 0 ∷ Deliver 24 ∷ Deliver 25 ∷ Send 0 ∷ Deliver 26 ∷ Deliver 26 ∷ Deliver 27
    ∷ Deliver 27 ∷ Deliver 28 ∷ Deliver 29 ∷ Deliver 30 ∷ Deliver 30 ∷ Deliver 30 ∷ [])
    (record {
      journal =
          entry (line_of 0 1 Registers) (AddBox 10)
          ∷ entry (line_of 0 2 Begins) BeginWrite
          ∷ entry (line_of 0 2 Audits) AuditWrite
          ∷ entry (line_of 0 2 Settles) SettleWrite
          ∷ entry (line_of 0 3 Reads) (ReadBox 0)
          ∷ [];
      outcomes = answer 0 0 1 Registers ∷ answer 0 1 2 Begins ∷ answer 0 2 3 Reads ∷ [];
      tokens = 31;
    })

-- Two writers in a window of 2. Their commands come to the helper and its replies to the leader out of order,
-- and are carried out and applied in the order of their numbers.
abbrev pub OutOfOrder : Type 0
OutOfOrder = ComesTo 2
    (Ask 0 (Register 10) ∷ Finish 0 ∷ Ask 1 (Register 20) ∷ Finish 1
    ∷ Ask 0 (Write 20 []) ∷ Ask 1 (Write 10 []) ∷ Send 0 ∷ Send 1
    ∷ Deliver 14 ∷ Deliver 15 ∷ Deliver 16 ∷ Deliver 17 ∷ Send 0 ∷ Send 1
    ∷ Deliver 19 ∷ Deliver 18 ∷ Deliver 21 ∷ Deliver 20 ∷ Deliver 21 ∷ Deliver 23 ∷ Deliver 22 ∷ Deliver 23
    ∷ Finish 0 ∷ Finish 1
    ∷ Ask 0 (Read 0) ∷ Finish 0 ∷ Ask 1 (Read 0) ∷ Finish 1 ∷ [])
    (record {
      journal =
          entry (line_of 0 1 Registers) (AddBox 10)
          ∷ entry (line_of 1 1 Registers) (AddBox 20)
          ∷ entry (line_of 1 2 Begins) BeginWrite
          ∷ entry (line_of 0 2 Begins) BeginWrite
          ∷ entry (line_of 0 2 Audits) AuditWrite
          ∷ entry (line_of 0 2 Settles) SettleWrite
          ∷ entry (line_of 1 2 Audits) AuditWrite
          ∷ entry (line_of 1 2 Settles) SettleWrite
          ∷ entry (line_of 0 3 Reads) (ReadBox 0)
          ∷ entry (line_of 1 3 Reads) (ReadBox 1)
          ∷ [];
      outcomes =
          answer 0 0 1 Registers
          ∷ answer 1 0 1 Registers
          ∷ answer 0 1 2 Begins
          ∷ answer 1 1 2 Begins
          ∷ answer 0 2 3 Reads
          ∷ answer 1 2 3 Reads
          ∷ [];
      tokens = 64;
    })

-- Client 0 registers a box between the begin and the audit of client 1's write.
abbrev pub BoxBetween : Type 0
BoxBetween = ComesTo 1
    (Ask 0 (Register 10) ∷ Finish 0 ∷ Ask 1 (Write 10 []) ∷ Send 1 ∷ Deliver 7 ∷ Deliver 8
    ∷ Send 1 ∷ Deliver 9 ∷ Deliver 10 ∷ Deliver 11 ∷ Ask 0 (Register 20) ∷ Finish 0 ∷ Finish 1
    ∷ Ask 0 (Read 0) ∷ Finish 0 ∷ [])
    (record {
      journal =
          entry (line_of 0 1 Registers) (AddBox 10)
          ∷ entry (line_of 1 1 Begins) BeginWrite
          ∷ entry (line_of 0 2 Registers) (AddBox 20)
          ∷ entry (line_of 1 1 Audits) AuditWrite
          ∷ entry (line_of 1 1 Settles) SettleWrite
          ∷ entry (line_of 0 3 Reads) (ReadBox 0)
          ∷ [];
      outcomes =
          answer 0 0 1 Registers ∷ answer 0 1 2 Registers ∷ answer 1 0 1 Begins ∷ answer 0 2 3 Reads ∷ [];
      tokens = 39;
    })

-- The reply, token 4, is lost. A tick sends the command once more, as token 5, and the helper's kept reply,
-- token 6, has the register answered.
abbrev pub LostReply : Type 0
LostReply = ComesTo 1
    (Ask 0 (Register 10) ∷ Send 0 ∷ Deliver 0 ∷ Deliver 1 ∷ Send 0 ∷ Deliver 2 ∷ Deliver 3
    ∷ Tick ∷ Deliver 5 ∷ Deliver 6 ∷ Deliver 7 ∷ [])
    (record {
      journal = entry (line_of 0 1 Registers) (AddBox 10) ∷ [];
      outcomes = answer 0 0 1 Registers ∷ [];
      tokens = 8;
    })

-- The window of 1 is full when client 1's submission comes: token 7 puts it off. Its finish has both
-- registers carried out, and token 10 answers client 0.
abbrev pub FullWindow : Type 0
FullWindow = ComesTo 1
    (Ask 0 (Register 10) ∷ Ask 1 (Register 20) ∷ Send 0 ∷ Send 1
    ∷ Deliver 0 ∷ Deliver 1 ∷ Deliver 2 ∷ Deliver 3 ∷ Send 0 ∷ Send 1
    ∷ Deliver 4 ∷ Deliver 5 ∷ Deliver 7 ∷ Finish 1 ∷ Deliver 10 ∷ [])
    (record {
      journal = entry (line_of 0 1 Registers) (AddBox 10) ∷ entry (line_of 1 1 Registers) (AddBox 20) ∷ [];
      outcomes = answer 1 0 1 Registers ∷ answer 0 0 1 Registers ∷ [];
      tokens = 16;
    })

-- A read of a box that the client never got is refused at once, and sends nothing.
abbrev pub NeverGot : Type 0
NeverGot = ComesTo 1
    (Ask 0 (Read 0) ∷ [])
    (record {
      journal = [];
      outcomes = record { client = 0; request = 0; told = NoOwnBox 0 } ∷ [];
      tokens = 0;
    })
