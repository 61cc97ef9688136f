-- A client's frame that is taken carries its ticket.
use Rattle.std.proofs.Common.{◌≡◌, ℕ, Bool, true, false, ◌&&◌, List, ◌∷◌, Option, Some, None, refl}
use Rattle.std.proofs.Common.{subst}
use Rattle.std.specs.Prelude.{Result, Ok, Err}
use Rattle.express_words.specs.declared.refusal.Refusal.{Refusal}
use Rattle.frame_rules.specs.Frames.{PlainFrame}
use Rattle.frame_rules.specs.Whole.{whole}
use Rattle.many_words.specs.declared.door.Door.TheVariants.{Clients}
use Rattle.lane_gate.specs.declared.ticket.Ticket.{Ticket}
use Rattle.lane_gate.specs.declared.statement.StatementHash.{StatementHash}
use Rattle.lane_gate.specs.Gates.{GateState, row_at}
use Rattle.lane_gate.specs.Passing.{PlainTicketed}
use Rattle.http_door.specs.Hearing.{Request}
use Rattle.http_door.specs.Requests.{PlainRequest, Frame, Proof, Lease}
use Rattle.door_asks.specs.Asks.{asked_in}
use Rattle.many_servers.specs.Doors.{client_record, frame_noted, record_if}
use Rattle.many_servers.specs.Laws.{TestsAreTheGates}
use Rattle.many_servers.specs.Passing.{may_send, passes, takes_bytes, takes_if}
use Rattle.gated_runs.specs.Tickets.{Carries, request_with}

pub of-some : {A : Type 0} (a b : A) → Some a ≡ Some b → a ≡ b
of-some a b is = cc

pub if-some : (b : Bool) (bytes noted : List ℕ) → record_if b bytes ≡ Some noted
    → (b ≡ true) × (bytes ≡ noted)
if-some true bytes noted is = (refl, of-some bytes noted is)
if-some false bytes noted is = absurd (cc is)

pub same-frame : (a b : List ℕ) → client_record a ≡ client_record b → a ≡ b
same-frame a b is = cc

pub same-tag : (a b : ℕ) (xs ys : List ℕ) → a ∷ xs ≡ b ∷ ys → a ≡ b
same-tag a b xs ys is = cc

both : (a b : Bool) → (a && b) ≡ true → (a ≡ true) × (b ≡ true)
both true b is = (refl, is)
both false b is = absurd (cc is)

module _ (tests : TestsAreTheGates) (gate : GateState) (bytes : List ℕ) where
  taken : (ticket : Ticket) (statement : Option StatementHash) (frame : List ℕ)
      → asked_in bytes ≡ Some (Request (request_with ticket statement frame))
      → takes_bytes gate ticket statement frame ≡ true
      → Carries gate frame Clients bytes
  taken ticket statement frame asked takes = by (whole frame) refl takes
    where
      by : (w : Result PlainFrame Refusal) → whole frame ≡ w → takes_if gate ticket statement w ≡ true
          → Carries gate frame Clients bytes
      by (Ok f) is takes =
          let sent : PlainTicketed = record { ticket = ticket; statement = statement; frame = f } in
          let parts = both (passes gate sent) (may_send (row_at gate.rows f.lane).holder f.body) takes in
          record {
            sent = sent;
            door = refl;
            came = asked;
            whole = is;
            passes = (tests gate sent).0 parts.0;
            letter = parts.1;
          }
      by (Err refusal) is takes = absurd (cc takes)

  -- a request's frame that the log notes
  pub noted : (r : PlainRequest) (frame : List ℕ) → asked_in bytes ≡ Some (Request r)
      → frame_noted gate r ≡ Some (client_record frame)
      → Carries gate frame Clients bytes
  noted (Frame ticket other) frame asked is =
      let parts = if-some (takes_bytes gate ticket None other) (client_record other) (client_record frame) is
      in
      subst (λ (f : List ℕ). Carries gate f Clients bytes) (same-frame other frame parts.1)
      (taken ticket None other asked parts.0)
  noted (Proof ticket statement other) frame asked is =
      let parts = if-some (takes_bytes gate ticket (Some statement) other) (client_record other)
      (client_record frame) is in
      subst (λ (f : List ℕ). Carries gate f Clients bytes) (same-frame other frame parts.1)
      (taken ticket (Some statement) other asked parts.0)
  noted (Lease ticket helper) frame asked is = absurd (cc is)
