-- How many bytes a frame that goes out has.
use Rattle.std.proofs.Common.{◌≡◌, ◌≤◌, ℕ, Bool, false, List, length, take, Option, Some, None, sym, ap}
use Rattle.std.proofs.Common.{◌∙◌, arith}
use Rattle.std.proofs.lemmas.List.{length-take}
use Rattle.std.specs.Prelude.{if◌then◌else◌, is_some}
use Rattle.client_core.specs.Answers.{bytes_of}
use Rattle.desk_sheets.specs.declared.sheet.Pair.{Pair}
use Rattle.door_work.specs.Asking.{Rest, Ask}
use Rattle.http_door.specs.Requests as request
use Rattle.http_door.specs.Requests.{PlainRequest}
use Rattle.step_rules.specs.ClientAsks.{Sent, sends}
use Rattle.kept_ledger.specs.declared.sending.Sending.{Sending}
use Rattle.kept_ledger.specs.Asking.{asks_for, ledger_wants}
use Rattle.kept_ledger.specs.Ledgers.{LedgerState}
use Rattle.kept_ledger.specs.Sends.{key_at, role_of, sending, sending_of}

sending_len : (p : Pair) (o : Option Sent) (x : Sending) → Some x ≡ sending_of p o
    → x.len ≡ length (bytes_of o)
sending_len p None x e = absurd (cc e)
sending_len p (Some sent) x e =
    let same : x ≡ sending p sent = cc e in ap (λ (y : Sending). y.len) same

-- they are in the buffer
pub sending_fits : (p : Pair) (o : Option Sent) (x : Sending) (room : List ℕ) → Some x ≡ sending_of p o
    → take (length (bytes_of o)) room ≡ bytes_of o → x.len ≤ length room
sending_fits p o x room is written =
    let frame : List ℕ = bytes_of o in
    let size : x.len ≡ length frame = sending_len p o x is in
    let whole : length (take (length frame) room) ≡ length frame = ap length written in
    omega (arith, size, whole, length-take {A = ℕ})

asks_frame : (p : Pair) (o : Option Sent) (x : Sending) (frame : List ℕ) → Some x ≡ sending_of p o
    → frame ≡ bytes_of o → Ask x.to (request.Frame x.ticket frame) ≡ asks_for p o
asks_frame p None x frame e f = absurd (cc e)
asks_frame p (Some sent) x frame e f =
    let same : x ≡ sending p sent = cc e in
    ap (λ (y : Sending). Ask y.to (request.Frame y.ticket frame)) same
    ∙ ap (λ (l : List ℕ). Ask (role_of sent.server) (request.Frame (key_at p (role_of sent.server)) l)) f

pub wants_now : (s : LedgerState) → is_some s.refused ≡ false
    → asks_for s.pair (sends s.client) ≡ ledger_wants s
unfolding ledger_wants
wants_now s e = ap (λ (b : Bool). if b then Rest else asks_for s.pair (sends s.client)) (sym e)

-- and so the frame is what goes out
pub sends_frame : (s : LedgerState) (x : Sending) (room : List ℕ) (r : PlainRequest)
    → is_some s.refused ≡ false → Some x ≡ sending_of s.pair (sends s.client)
    → take (length (bytes_of (sends s.client))) room ≡ bytes_of (sends s.client)
    → r ≡ request.Frame x.ticket (take x.len room) → Ask x.to r ≡ ledger_wants s
sends_frame s x room r taken is written asked =
    let size = sending_len s.pair (sends s.client) x is in
    let frame : take x.len room ≡ bytes_of (sends s.client) = ap (λ (n : ℕ). take n room) size ∙ written in
    ap (λ (q : PlainRequest). Ask x.to q) asked
    ∙ asks_frame s.pair (sends s.client) x (take x.len room) is frame ∙ wants_now s taken
