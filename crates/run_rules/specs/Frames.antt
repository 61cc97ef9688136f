-- The frame of each token of a client's lane, as a function of the history and the seeds.
use Rattle.std.specs.Prelude.{ℕ, ◌-◌, true, false, List, [], Option, Some, None, slice_get}
use Rattle.express_words.specs.declared.refusal.Refusal.TheVariants as refusal
use Rattle.express_words.specs.declared.audit.Closing.{Closing}
use Rattle.frame_rules.specs.Frames as frame
use Rattle.frame_rules.specs.Frames.{PlainFrame, PlainBody, PlainReply}
use Rattle.express_words.specs.Bytes.{xor_bytes}
use Rattle.dpf_rules.specs.Expansion.{mask}
use Rattle.mailbox_rules.specs.Requests.{Request, Register, Command, Registers, Begins, Audits, Settles}
use Rattle.mailbox_rules.specs.Requests.{Reads, Retires, Line, Operation, opening_of, operation_of}
use Rattle.mailbox_rules.specs.Tables.{Mailbox, Result, Registered, Taken, Full, Began, WasAudited, Settled}
use Rattle.mailbox_rules.specs.Tables.{Gave, NoBox, Refused, result_of}
use Rattle.token_rules.specs.Tokens as token
use Rattle.token_rules.specs.Tokens.{Token}
use Rattle.token_rules.specs.Laws.{last_of}
use Rattle.step_rules.specs.ClientAsks.{deposit_of, submission_of, proof_of}
use Rattle.run_rules.specs.Letters.{JournalLine}
use Rattle.run_rules.specs.Run.{value_of}
use Rattle.run_rules.specs.Book.{Book, table_at, request_of, client_at, box_of, place, leaders_draw}
use Rattle.run_rules.specs.Book.{helpers_draw}
use Rattle.run_rules.specs.Values.{key_at, part_at, ckey_at, sigma_at, opened_at, closing_at, writes_at}
use Rattle.run_rules.specs.Values.{shares_at}

abbrev pub frame_with : ℕ → ℕ → ℕ → PlainBody → PlainFrame
frame_with c serial link body = record { lane = c; serial = serial; link = link; body = body }

abbrev pub from_client : ℕ → ℕ → Option PlainBody → Option PlainFrame
from_client c serial (Some body) = Some (frame_with c serial 0 body)
from_client c serial None = None

-- What a client sends

abbrev pub if_asked : {X : Type 0} → (Request → Option X) → Option Request → Option X
if_asked make (Some request) = make request
if_asked make None = None

unfoldable pub deposit_at : Book → ℕ → ℕ → Option PlainBody
deposit_at b c serial = if_asked (deposit_of (client_at b c serial)) (request_of b c serial)

unfoldable pub submission_at : Book → ℕ → ℕ → Option PlainBody
submission_at b c serial = if_asked (submission_of (client_at b c serial)) (request_of b c serial)

unfoldable pub proof_at : Book → ℕ → ℕ → ℕ → Option PlainBody
proof_at b server c serial =
    if_asked (λ request. proof_of (client_at b c serial) request (ckey_at b c serial) server)
    (request_of b c serial)

-- What commands come to

-- what the command at a place does at the boxes
abbrev pub does_at : Book → ℕ → Line → Operation
does_at b i x = operation_of ((table_at b i).got x.lane) x.command (request_of b x.lane x.serial)

-- its result at a server's shares
unfoldable pub result_at : Book → ℕ → ℕ → Line → Result
result_at b server i x =
    result_of b.settings.boxes (writes_at b server) (shares_at b server i) x (does_at b i x)

-- a server's share of box n, masked for the read of a lane and serial
abbrev pub key_in : Book → ℕ → Option Mailbox → List ℕ
key_in b server (Some box) = key_at b server box.lane box.serial
key_in b server None = []

abbrev pub masked_at : Book → ℕ → ℕ → Line → ℕ → List ℕ → List ℕ
masked_at b server i x n bytes =
    xor_bytes bytes
    (mask (key_in b server (slice_get (shares_at b server i).boxes n)) x.lane x.serial b.settings.width)

abbrev pub address_of : Option Request → ℕ
address_of (Some (Register address)) = address
address_of request = 0

unfoldable pub command_body : Book → ℕ → Line → Command → PlainBody
command_body b i x Registers = frame.LinkRegister (address_of (request_of b x.lane x.serial))
command_body b i x Begins = frame.LinkBegin (leaders_draw b i) (part_at b x.lane x.serial)
command_body b i x Audits = frame.LinkAudit (sigma_at b x.lane x.serial) (opened_at b 0 x.lane x.serial)
command_body b i x Settles = frame.LinkSettle (closing_at b 0 x.lane x.serial)
command_body b i x Reads = frame.LinkRead (box_of b x.lane x.serial)
command_body b i x Retires = frame.LinkRetire (box_of b x.lane x.serial)

-- the helper's reply, by the result at its shares
unfoldable pub reply_with : Book → ℕ → Line → Result → PlainBody
reply_with b i x (Registered n) = frame.LinkReply (frame.ReplyRegistered n)
reply_with b i x (Taken n) = frame.LinkReply (frame.ReplyRefused (refusal.Taken n))
reply_with b i x (Full limit) = frame.LinkReply (frame.ReplyRefused (refusal.Full limit))
reply_with b i x (Began count) = frame.LinkBegun count (helpers_draw b i)
reply_with b i x WasAudited =
    frame.LinkReply (frame.ReplyAudited (opened_at b 1 x.lane x.serial) (closing_at b 1 x.lane x.serial))
reply_with b i x (Settled true) = frame.LinkReply frame.ReplyAccepted
reply_with b i x (Settled false) = frame.LinkReply frame.ReplyRejected
reply_with b i x (Gave n bytes) = frame.LinkReply (frame.ReplyMasked (masked_at b 1 i x n bytes))
reply_with b i x (NoBox n) = frame.LinkReply (frame.ReplyRefused (refusal.NoBox n))
reply_with b i x Refused = frame.LinkReply (frame.ReplyRefused refusal.NoDeposit)

abbrev pub reply_body : Book → ℕ → Line → PlainBody
reply_body b i x = reply_with b i x (result_at b 1 i x)

abbrev pub rejected : Closing → Closing → PlainBody
rejected zero one = frame.Refused (refusal.Rejected zero.o one.o zero.tau one.tau)

-- the leader's answer to a request, by the results of its last command at both servers' shares
unfoldable pub answer_with : Book → ℕ → Line → Result → Result → PlainBody
answer_with b i x zero (Registered n) = frame.Registered n
answer_with b i x zero (Taken n) = frame.Refused (refusal.Taken n)
answer_with b i x zero (Full limit) = frame.Refused (refusal.Full limit)
answer_with b i x zero (Settled true) = frame.Accepted
answer_with b i x zero (Settled false) =
    rejected (closing_at b 0 x.lane x.serial) (closing_at b 1 x.lane x.serial)
answer_with b i x (Gave m more) (Gave n bytes) =
    frame.Message (masked_at b 0 i x n more) (masked_at b 1 i x n bytes)
answer_with b i x zero (NoBox n) = frame.Refused (refusal.NoBox n)
answer_with b i x zero one = frame.Refused refusal.NoDeposit

-- the last command of a request
abbrev pub last_in : Option Request → Command
last_in (Some request) = last_of (opening_of request)
last_in None = Registers

abbrev pub last_at : Book → ℕ → ℕ → Command
last_at b c serial = last_in (request_of b c serial)

abbrev pub last_line : Book → ℕ → ℕ → Line
last_line b c serial = record { lane = c; serial = serial; command = last_at b c serial }

unfoldable pub answer_at : Book → ℕ → ℕ → PlainBody
answer_at b c serial =
    let x = last_line b c serial in
    let i = place b c serial x.command in
    answer_with b i x (result_at b 0 i x) (result_at b 1 i x)

-- The frame of a token. Later tokens and those of foreign lanes have none: they stand for several.
unfoldable pub frame_of : Book → Token → Option PlainFrame
frame_of b (token.Deposit c s) = from_client c s (deposit_at b c s)
frame_of b (token.Submission c s command) = from_client c s (submission_at b c s)
frame_of b (token.ProofToHelper c s) = from_client c s (proof_at b 1 c s)
frame_of b (token.ProofToLeader c s) = from_client c s (proof_at b 0 c s)
frame_of b (token.Ordered n x) = Some (frame_with x.lane x.serial n (command_body b (n - 1) x x.command))
frame_of b (token.Replied n x) = Some (frame_with x.lane x.serial n (reply_body b (n - 1) x))
frame_of b (token.HeldDeposit c s) = Some (frame_with c s 0 (frame.Held false))
frame_of b (token.HeldProof c s) = Some (frame_with c s 0 (frame.Held true))
frame_of b (token.Challenge c s) = Some (frame_with c s 0 (frame.Challenge (ckey_at b c s)))
frame_of b (token.Answer c s) = Some (frame_with c s 0 (answer_at b c s))
frame_of b t = None

-- the journal's line of a client's entry
abbrev pub line_value : Book → ℕ → Line → JournalLine
line_value b i x =
    record {
      lane = x.lane;
      serial = x.serial;
      value = value_of (command_body b i x x.command) (reply_body b i x);
    }
