-- The leader's steps at replies of the helper.
use Rattle.std.specs.Prelude.{ℕ, ◌+◌, nat_le, ◌==◌, ◌&&◌, not, if◌then◌else◌, Bool, true, false, List, []}
use Rattle.std.specs.Prelude.{◌∷◌, ◌++◌, length, drop, Option, Some, None, slice_get, is_none}
use Rattle.express_words.specs.Bytes.{xor_bytes}
use Rattle.express_words.specs.declared.audit.ProofShare.{ProofShare}
use Rattle.express_words.specs.declared.audit.Openings.{Openings}
use Rattle.express_words.specs.declared.audit.Closing.{Closing}
use Rattle.express_words.specs.declared.refusal.Refusal.{Refusal}
use Rattle.express_words.specs.declared.refusal.Refusal.TheVariants as refusal
use Rattle.frame_rules.specs.Frames as frame
use Rattle.frame_rules.specs.Frames.{PlainFrame, PlainBody, PlainReply}
use Rattle.dpf_rules.specs.Expansion.{mask}
use Rattle.audit_rules.specs.Audit.{closing_of, opened_of, accepts}
use Rattle.lane_table.specs.declared.row.Want.{Want}
use Rattle.lane_table.specs.declared.row.Want.TheVariants.{Register, Write as Writes, Read}
use Rattle.step_rules.specs.Boxes.{Box, place_of, with_new, with_write, with_read}
use Rattle.audit_rules.specs.Values.{Write, ckey_of}
use Rattle.frame_rules.specs.Whole.{is_reply, linked, answer, on_link}
use Rattle.step_rules.specs.Leader.{Leader, Registering, Writing, Stage, Waiting, Challenged, Auditing}
use Rattle.step_rules.specs.Leader.{Settling, Done, row, row_at, with_row, ToLane, Settles, Ignored, AckTurn}

-- An applied reply: c is its command, which is acknowledged.

abbrev pub acknowledged : Leader → Leader
acknowledged a = record a { outstanding = drop 1 a.outstanding }

-- a reply for the lane, which its row keeps
abbrev pub keeps : Leader → PlainFrame → Stage → PlainBody → AckTurn
keeps a c stage body =
    record {
      leader = with_row (acknowledged a) c.lane (row c.serial stage);
      ack = ToLane c.lane (answer c body);
    }

abbrev pub done : Leader → PlainFrame → Want → PlainBody → AckTurn
done a c want body = keeps a c (Done want body) body

-- ---- LinkRegister

unfoldable pub registered : Leader → PlainFrame → ℕ → Stage → ℕ → Option AckTurn
registered a c address (Waiting number (Registering own key)) n =
    if (n == length a.boxes)
    && (is_none (place_of address a.boxes) && not (nat_le a.settings.boxes (length a.boxes)))
    then Some (done (record a { boxes = with_new a.settings.width address key a.boxes }) c Register
    (frame.Registered n))
    else None
registered a c address stage n = None

-- ---- LinkBegin

abbrev pub begun : ℕ → List ℕ → List ℕ → ℕ → Write
begun root part ckey count = record { root = root; part = part; count = count; ckey = ckey }

abbrev pub challenges : Leader → PlainFrame → Write → AckTurn
challenges a c w = keeps a c (Challenged w (frame.Challenge w.ckey)) (frame.Challenge w.ckey)

unfoldable pub began : Leader → PlainFrame → Stage → ℕ → List ℕ → Option AckTurn
began a c (Waiting number (Writing root part drawn)) count helpers =
    if count == length a.boxes
    then Some (challenges a c (begun root part (ckey_of drawn helpers) count))
    else None
began a c stage count helpers = None

-- ---- LinkAudit

-- the settle is issued at once, in place of the audit
abbrev pub settles : Leader → PlainFrame → PlainBody → Stage → AckTurn
settles a c body stage =
    let command = on_link c a.next body in
    record {
      leader = record (with_row a c.lane (row c.serial stage)) {
        outstanding = drop 1 a.outstanding ++ command ∷ [];
        next = a.next + 1;
      };
      ack = Settles a.next command;
    }

abbrev pub own_closing : ProofShare → ℕ → Openings → Openings → Closing
own_closing share sigma own other = closing_of 0 share sigma (opened_of own other)

-- the row stays auditing
unfoldable pub audited : Leader → PlainFrame → Stage → Openings → Closing → Option AckTurn
audited a c (Auditing number w share sigma opened) other closed =
    let own = own_closing share sigma opened other in
    Some (settles a c (frame.LinkSettle own) (Settling a.next w own closed))
audited a c stage other closed = None

-- ---- LinkSettle

abbrev pub settled : Leader → Write → Leader
settled a w = record a { boxes = with_write w.part 0 w.root w.count a.boxes }

unfoldable pub accepted : Leader → PlainFrame → Stage → Option AckTurn
accepted a c (Settling number w own other) =
    if accepts own other then Some (done (settled a w) c Writes frame.Accepted) else None
accepted a c stage = None

unfoldable pub rejected : Leader → PlainFrame → Stage → Option AckTurn
rejected a c (Settling number w own other) =
    if accepts own other
    then None
    else Some (done a c Writes (frame.Refused (refusal.Rejected own.o other.o own.tau other.tau)))
rejected a c stage = None

-- ---- LinkRead and LinkRetire

abbrev pub masked : Leader → PlainFrame → Box → List ℕ
masked a c box = xor_bytes box.share (mask box.key c.lane c.serial a.settings.width)

-- a read leaves the box live, a retire doesn't
unfoldable pub read : Leader → PlainFrame → Bool → ℕ → Option Box → List ℕ → Option AckTurn
read a c live number None helpers = None
read a c live number (Some box) helpers =
    Some (done (record a { boxes = with_read a.settings.width live number box a.boxes }) c Read
    (frame.Message (masked a c box) helpers))

-- ---- any reply that is no refusal, by its command

-- what the helper's reply says, where it is of the tag that fits the command
abbrev pub registered_in : PlainBody → Option ℕ
registered_in (frame.LinkReply (frame.ReplyRegistered n)) = Some n
registered_in body = None

abbrev pub if_registered : Leader → PlainFrame → ℕ → Stage → Option ℕ → Option AckTurn
if_registered a c address stage (Some n) = registered a c address stage n
if_registered a c address stage None = None

abbrev pub if_begun : Leader → PlainFrame → Stage → PlainBody → Option AckTurn
if_begun a c stage (frame.LinkBegun count draw) = began a c stage count draw
if_begun a c stage body = None

abbrev pub if_audited : Leader → PlainFrame → Stage → PlainBody → Option AckTurn
if_audited a c stage (frame.LinkReply (frame.ReplyAudited opened closed)) = audited a c stage opened closed
if_audited a c stage body = None

abbrev pub if_settled : Leader → PlainFrame → Stage → PlainBody → Option AckTurn
if_settled a c stage (frame.LinkReply frame.ReplyAccepted) = accepted a c stage
if_settled a c stage (frame.LinkReply frame.ReplyRejected) = rejected a c stage
if_settled a c stage body = None

-- a box that was retired before keeps being so
abbrev pub if_read : Leader → PlainFrame → Bool → ℕ → PlainBody → Option AckTurn
if_read a c stays number (frame.LinkReply (frame.ReplyMasked share)) =
    read a c stays number (slice_get a.boxes number) share
if_read a c stays number body = None

unfoldable pub by_command : Leader → PlainFrame → PlainBody → Stage → PlainBody → Option AckTurn
by_command a c (frame.LinkRegister address) stage body = if_registered a c address stage (registered_in body)
by_command a c (frame.LinkBegin drawn part) stage body = if_begun a c stage body
by_command a c (frame.LinkAudit sigma opened) stage body = if_audited a c stage body
by_command a c (frame.LinkSettle own) stage body = if_settled a c stage body
by_command a c (frame.LinkRead number) stage body = if_read a c true number body
by_command a c (frame.LinkRetire number) stage body = if_read a c false number body
by_command a c command stage body = None

-- ---- any reply

abbrev pub refusal_in : PlainBody → Option Refusal
refusal_in (frame.LinkReply (frame.ReplyRefused r)) = Some r
refusal_in body = None

-- what the request of a command asks for
abbrev pub want_for : PlainBody → Want
want_for (frame.LinkRegister address) = Register
want_for (frame.LinkRead number) = Read
want_for (frame.LinkRetire number) = Read
want_for body = Writes

unfoldable pub fits : Leader → PlainFrame → PlainBody → Option Refusal → Option AckTurn
fits a c body (Some r) = Some (done a c (want_for c.body) (frame.Refused r))
fits a c body None = by_command a c c.body (row_at a c.lane).stage body

abbrev pub ignored : Leader → AckTurn
ignored a = record { leader = a; ack = Ignored }

abbrev pub if_fits : Leader → Option AckTurn → AckTurn
if_fits a (Some turn) = turn
if_fits a None = ignored a

-- the reply to the oldest outstanding command: its number, lane and serial are the command's
unfoldable pub answers : Leader → PlainFrame → Option PlainFrame → AckTurn
answers a f None = ignored a
answers a f (Some c) =
    if (f.link == c.link) && ((f.lane == c.lane) && (f.serial == c.serial))
    then if_fits a (fits a c f.body (refusal_in f.body))
    else ignored a

unfoldable pub if_reply : Leader → Option PlainFrame → AckTurn
if_reply a (Some f) = answers a f (slice_get a.outstanding 0)
if_reply a None = ignored a

abbrev pub on_reply_bytes : Leader → List ℕ → AckTurn
on_reply_bytes a bytes = if_reply a (linked is_reply a.settings.width bytes)

-- ---- resending

-- the oldest outstanding command
abbrev pub resent : Leader → Option PlainFrame
resent a = slice_get a.outstanding 0
