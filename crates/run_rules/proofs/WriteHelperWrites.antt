-- The commands of a client's write: its request, what they do, and what the helper's row holds for each.
use Rattle.std.proofs.Common.{◌≡◌, ℕ, false, List, Some, refl, sym, ap, ◌∙◌}
use Rattle.frame_rules.specs.declared.frame.DepositBody.{DepositBody}
use Rattle.frame_rules.specs.declared.frame.DepositBody.TheVariants as deposit
use Rattle.frame_rules.specs.Frames as frame
use Rattle.mailbox_rules.specs.Requests.{Request, Register, Write, Read, Retire, request_at, Begins, Audits, Settles, opening_of, opens_with, Line, BeginWrite, AuditWrite, SettleWrite}
use Rattle.token_rules.specs.Tokens as token
use Rattle.token_rules.specs.Tokens.{World}
use Rattle.token_rules.specs.Run.{sent_of, line_of, asked_operation}
use Rattle.token_rules.specs.Laws.{IsSent}
use Rattle.step_rules.specs.ClientAsks.{deposit_of}
use Rattle.step_rules.specs.Helper as helper
use Rattle.step_tokens.specs.HelperRows.{bare_phase}
use Rattle.run_rules.specs.Book.{Book, request_of, client_at}
use Rattle.run_rules.specs.Values.{root_at, write_at, share_at, closing_at}
use Rattle.run_rules.specs.Frames.{deposit_at, if_asked}
use Rattle.run_rules.specs.Follows.{HelperHolds, Within}
use Rattle.run_rules.proofs.HelperOrders.{asked_was_sent}

-- the request of a command that a write has
pub record IsWrite (b : Book) (w : World) (x : Line) : Type 0 where
  pub target : ℕ
  pub message : List ℕ
  pub sent : request_at (sent_of w) x.lane x.serial ≡ Some (Write target message)
  pub is : request_of b x.lane x.serial ≡ Some (Write target message)

pub is_write : (b : Book) (w : World) (x : Line) → Within b w → IsSent w x → opens_with x.command ≡ Begins
    → IsWrite b w x
is_write b w x within sent e = by_request sent.request sent.is (sym sent.opens ∙ e)
  where
    by_request : (r : Request) → request_at (sent_of w) x.lane x.serial ≡ Some r → opening_of r ≡ Begins
        → IsWrite b w x
    by_request (Write target message) q e = record {
      target = target;
      message = message;
      sent = q;
      is = asked_was_sent b w x.lane x.serial (Write target message) (within.sent x.lane) q;
    }
    by_request (Register address) q e = absurd (cc e)
    by_request (Read own) q e = absurd (cc e)
    by_request (Retire own) q e = absurd (cc e)

-- ---- what its commands do

pub does_begin : (b : Book) (w : World) (c s : ℕ) → IsWrite b w (line_of c s Begins)
    → asked_operation w (line_of c s Begins) ≡ BeginWrite
does_begin b w c s h = rw h.sent refl

pub does_audit : (b : Book) (w : World) (c s : ℕ) → IsWrite b w (line_of c s Audits)
    → asked_operation w (line_of c s Audits) ≡ AuditWrite
does_audit b w c s h = rw h.sent refl

pub does_settle : (b : Book) (w : World) (c s : ℕ) → IsWrite b w (line_of c s Settles)
    → asked_operation w (line_of c s Settles) ≡ SettleWrite
does_settle b w c s h = rw h.sent refl

-- ---- what the row holds

-- the deposit of a write
write_deposit : (b : Book) (c s target : ℕ) (message : List ℕ) (held : DepositBody) → b.foreign c ≡ false
    → request_of b c s ≡ Some (Write target message) → deposit_at b c s ≡ Some (frame.Deposit held)
    → held ≡ deposit.Write (root_at b 1 c s)
unfolding deposit_at deposit_of
write_deposit b c s target message held hon q e =
    let k : if_asked (deposit_of (client_at b c s)) (Some (Write target message)) ≡ Some (frame.Deposit held) = rw q at e in
    rw hon (cc k)

pub deposited_root : (b : Book) (c s target : ℕ) (message : List ℕ) (stage : helper.Stage) → b.foreign c ≡ false
    → request_of b c s ≡ Some (Write target message) → HelperHolds b c s stage
    → bare_phase stage ≡ token.Deposited
    → stage ≡ helper.Deposited (deposit.Write (root_at b 1 c s))
deposited_root b c s target message (helper.Deposited held) hon q h e =
    ap helper.Deposited (write_deposit b c s target message held hon q h)
deposited_root b c s target message helper.Idle hon q h e = absurd (cc e)
deposited_root b c s target message (helper.Begun write) hon q h e = absurd (cc e)
deposited_root b c s target message (helper.Proved write share) hon q h e = absurd (cc e)
deposited_root b c s target message (helper.Audited write closing) hon q h e = absurd (cc e)
deposited_root b c s target message (helper.Done want) hon q h e = absurd (cc e)

pub proved_write : (b : Book) (c s : ℕ) (stage : helper.Stage) → HelperHolds b c s stage
    → bare_phase stage ≡ token.Proved → stage ≡ helper.Proved (write_at b 1 c s) (share_at b 1 c s)
proved_write b c s (helper.Proved write share) h e = ap (λ w. helper.Proved w share) h.0 ∙ ap (helper.Proved (write_at b 1 c s)) h.1
proved_write b c s helper.Idle h e = absurd (cc e)
proved_write b c s (helper.Deposited held) h e = absurd (cc e)
proved_write b c s (helper.Begun write) h e = absurd (cc e)
proved_write b c s (helper.Audited write closing) h e = absurd (cc e)
proved_write b c s (helper.Done want) h e = absurd (cc e)

pub audited_write : (b : Book) (c s : ℕ) (stage : helper.Stage) → HelperHolds b c s stage
    → bare_phase stage ≡ token.Audited → stage ≡ helper.Audited (write_at b 1 c s) (closing_at b 1 c s)
audited_write b c s (helper.Audited write closing) h e = ap (λ w. helper.Audited w closing) h.0 ∙ ap (helper.Audited (write_at b 1 c s)) h.1
audited_write b c s helper.Idle h e = absurd (cc e)
audited_write b c s (helper.Deposited held) h e = absurd (cc e)
audited_write b c s (helper.Begun write) h e = absurd (cc e)
audited_write b c s (helper.Proved write share) h e = absurd (cc e)
audited_write b c s (helper.Done want) h e = absurd (cc e)
