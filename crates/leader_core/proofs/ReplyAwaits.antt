-- At a reply of the helper: what goes on to be outstanding.
use Rattle.std.proofs.Common.{◌≡◌, ◌+◌, ℕ, Bool, true, false, cond, nat_eq, nat_le, List, [], ◌∷◌, ◌++◌, length, drop, Option, Some, None, slice_get, slice_set, refl, ap, subst}
use Rattle.std.specs.Prelude.{◌&&◌, not, is_none}
use Rattle.express_words.specs.declared.audit.Openings.{Openings}
use Rattle.express_words.specs.declared.audit.Closing.{Closing}
use Rattle.express_words.specs.declared.refusal.Refusal.{Refusal}
use Rattle.frame_rules.specs.Frames as frame
use Rattle.frame_rules.specs.Frames.{PlainFrame, PlainBody}
use Rattle.frame_rules.specs.Whole.{linked, is_reply, on_link}
use Rattle.audit_rules.specs.Audit.{accepts}
use Rattle.step_rules.specs.Boxes.{Box, place_of}
use Rattle.step_rules.specs.Leader.{Leader, Registering, Writing, Stage, Waiting, Challenged, Auditing, Settling, Done, row, row_at, AckTurn}
use Rattle.step_rules.specs.LeaderReplies.{own_closing, registered, began, audited, accepted, rejected, read, by_command, registered_in, if_registered, if_begun, if_audited, if_settled, if_read, fits, refusal_in, want_for, if_fits, answers, if_reply, on_reply_bytes}
use Rattle.leader_core.specs.Awaited.{awaited_at, RowsAwait, AreThoseAwaited}
use Rattle.leader_core.proofs.AwaitLemmas.{answered_awaits, followed_awaits}

-- the command that is answered is the oldest
record Oldest (a : Leader) (c : PlainFrame) : Type 0 where
  rows : RowsAwait a
  first : a.outstanding ≡ c ∷ drop 1 a.outstanding

abbrev Awaits : Option AckTurn → Type 0
Awaits found = (t : AckTurn) → found ≡ Some t → RowsAwait t.leader

awaits_none : Awaits None
awaits_none t e = absurd (cc e)

awaits_some : (x : AckTurn) → RowsAwait x.leader → Awaits (Some x)
awaits_some x is t e = let same : x ≡ t = cc in subst (λ (y : AckTurn). RowsAwait y.leader) same is

awaits_either : (b : Bool) (x y : Option AckTurn) → Awaits x → Awaits y → Awaits (cond b x y)
awaits_either true x y p q = p
awaits_either false x y p q = q

-- ---- the oldest command is answered

as_first : (a : Leader) (c : PlainFrame) → Oldest a c → AreThoseAwaited a.settings.lanes a.rows (c ∷ drop 1 a.outstanding) a.next
as_first a c is = subst (λ (xs : List PlainFrame). AreThoseAwaited a.settings.lanes a.rows xs a.next) is.first is.rows

-- its row keeps a reply
kept : (a : Leader) (c : PlainFrame) (stage : Stage) → Oldest a c → awaited_at c.lane c.serial stage ≡ [] → RowsAwait (record a { rows = slice_set a.rows c.lane (row c.serial stage); outstanding = drop 1 a.outstanding })
kept a c stage is free = answered_awaits a.settings.lanes a.rows c (drop 1 a.outstanding) a.next (row c.serial stage) (as_first a c is) free

-- or its settle is issued
settling : (a : Leader) (c : PlainFrame) (body : PlainBody) (stage : Stage) → Oldest a c → awaited_at c.lane c.serial stage ≡ on_link c a.next body ∷ [] →
    RowsAwait (record a { rows = slice_set a.rows c.lane (row c.serial stage); outstanding = drop 1 a.outstanding ++ on_link c a.next body ∷ []; next = a.next + 1 })
settling a c body stage is waits = followed_awaits a.settings.lanes a.rows c (on_link c a.next body) (drop 1 a.outstanding) a.next (row c.serial stage) (as_first a c is) refl refl waits

-- ---- by the command

registers : (a : Leader) (c : PlainFrame) (address : ℕ) (stage : Stage) (found : Option ℕ) → Oldest a c → Awaits (if_registered a c address stage found)
unfolding registered
registers a c address (Waiting number (Registering own key)) (Some n) is =
    awaits_either ((nat_eq n (length a.boxes)) && (is_none (place_of address a.boxes) && not (nat_le a.settings.boxes (length a.boxes)))) _ _
    (awaits_some _ (kept a c (Done _ _) is refl)) awaits_none
registers a c address stage (Some n) is = awaits_none
registers a c address stage None is = awaits_none

begins : (a : Leader) (c : PlainFrame) (stage : Stage) (count : ℕ) (drawn : List ℕ) → Oldest a c → Awaits (began a c stage count drawn)
unfolding began
begins a c (Waiting number (Writing root part own)) count drawn is =
    awaits_either (nat_eq count (length a.boxes)) _ _ (awaits_some _ (kept a c (Challenged _ _) is refl)) awaits_none
begins a c stage count drawn is = awaits_none

audits_it : (a : Leader) (c : PlainFrame) (stage : Stage) (opened : Openings) (closed : Closing) → Oldest a c → Awaits (audited a c stage opened closed)
unfolding audited
audits_it a c (Auditing number w share sigma own) opened closed is =
    let closing = own_closing share sigma own opened in
    awaits_some _ (settling a c (frame.LinkSettle closing) (Settling a.next w closing closed) is refl)
audits_it a c stage opened closed is = awaits_none

accepts_it : (a : Leader) (c : PlainFrame) (stage : Stage) → Oldest a c → Awaits (accepted a c stage)
unfolding accepted
accepts_it a c (Settling number w own other) is =
    awaits_either (accepts own other) _ _ (awaits_some _ (kept a c (Done _ _) is refl)) awaits_none
accepts_it a c stage is = awaits_none

rejects_it : (a : Leader) (c : PlainFrame) (stage : Stage) → Oldest a c → Awaits (rejected a c stage)
unfolding rejected
rejects_it a c (Settling number w own other) is = awaits_either (accepts own other) _ _ awaits_none (awaits_some _ (kept a c (Done _ _) is refl))
rejects_it a c stage is = awaits_none

reads_it : (a : Leader) (c : PlainFrame) (stays : Bool) (number : ℕ) (found : Option Box) (share : List ℕ) → Oldest a c → Awaits (read a c stays number found share)
unfolding read
reads_it a c stays number None share is = awaits_none
reads_it a c stays number (Some box) share is = awaits_some _ (kept a c (Done _ _) is refl)

begun_awaits : (a : Leader) (c : PlainFrame) (stage : Stage) (body : PlainBody) → Oldest a c → Awaits (if_begun a c stage body)
begun_awaits a c stage (frame.LinkBegun count drawn) is = begins a c stage count drawn is
begun_awaits a c stage body is = awaits_none

audited_awaits : (a : Leader) (c : PlainFrame) (stage : Stage) (body : PlainBody) → Oldest a c → Awaits (if_audited a c stage body)
audited_awaits a c stage (frame.LinkReply (frame.ReplyAudited opened closed)) is = audits_it a c stage opened closed is
audited_awaits a c stage body is = awaits_none

settled_awaits : (a : Leader) (c : PlainFrame) (stage : Stage) (body : PlainBody) → Oldest a c → Awaits (if_settled a c stage body)
settled_awaits a c stage (frame.LinkReply frame.ReplyAccepted) is = accepts_it a c stage is
settled_awaits a c stage (frame.LinkReply frame.ReplyRejected) is = rejects_it a c stage is
settled_awaits a c stage body is = awaits_none

read_awaits : (a : Leader) (c : PlainFrame) (stays : Bool) (number : ℕ) (body : PlainBody) → Oldest a c → Awaits (if_read a c stays number body)
read_awaits a c stays number (frame.LinkReply (frame.ReplyMasked share)) is = reads_it a c stays number (slice_get a.boxes number) share is
read_awaits a c stays number body is = awaits_none

commands : (a : Leader) (c : PlainFrame) (command : PlainBody) (stage : Stage) (body : PlainBody) → Oldest a c → Awaits (by_command a c command stage body)
unfolding by_command
commands a c (frame.LinkRegister address) stage body is = registers a c address stage (registered_in body) is
commands a c (frame.LinkBegin drawn part) stage body is = begun_awaits a c stage body is
commands a c (frame.LinkAudit sigma opened) stage body is = audited_awaits a c stage body is
commands a c (frame.LinkSettle own) stage body is = settled_awaits a c stage body is
commands a c (frame.LinkRead number) stage body is = read_awaits a c true number body is
commands a c (frame.LinkRetire number) stage body is = read_awaits a c false number body is
commands a c command stage body is = awaits_none

all_awaits : (a : Leader) (c : PlainFrame) (body : PlainBody) (why : Option Refusal) → Oldest a c → Awaits (fits a c body why)
unfolding fits
all_awaits a c body (Some why) is = awaits_some _ (kept a c (Done (want_for c.body) (frame.Refused why)) is refl)
all_awaits a c body None is = commands a c c.body (row_at a c.lane).stage body is

-- ---- any bytes

fitted : (a : Leader) (found : Option AckTurn) → RowsAwait a → Awaits found → RowsAwait (if_fits a found).leader
fitted a (Some t) is fit = fit t refl
fitted a None is fit = is

either : (b : Bool) (x y : AckTurn) → RowsAwait x.leader → RowsAwait y.leader → RowsAwait (cond b x y).leader
either true x y p q = p
either false x y p q = q

first_of : (commands : List PlainFrame) (c : PlainFrame) → slice_get commands 0 ≡ Some c → commands ≡ c ∷ drop 1 commands
first_of [] c e = absurd (cc e)
first_of (x ∷ xs) c e = let same : x ≡ c = cc in ap (λ (y : PlainFrame). y ∷ xs) same

oldest_awaits : (a : Leader) (f : PlainFrame) (oldest : Option PlainFrame) → slice_get a.outstanding 0 ≡ oldest → RowsAwait a → RowsAwait (answers a f oldest).leader
unfolding answers
oldest_awaits a f None e is = is
oldest_awaits a f (Some c) e is =
    either ((nat_eq f.link c.link) && ((nat_eq f.lane c.lane) && (nat_eq f.serial c.serial))) _ _
    (fitted a (fits a c f.body (refusal_in f.body)) is (all_awaits a c f.body (refusal_in f.body) (record { rows = is; first = first_of a.outstanding c e }))) is

found_awaits : (a : Leader) (found : Option PlainFrame) → RowsAwait a → RowsAwait (if_reply a found).leader
unfolding if_reply
found_awaits a (Some f) is = oldest_awaits a f (slice_get a.outstanding 0) refl is
found_awaits a None is = is

pub reply_awaits : (a : Leader) (bytes : List ℕ) → RowsAwait a → RowsAwait (on_reply_bytes a bytes).leader
reply_awaits a bytes is = found_awaits a (linked is_reply a.settings.width bytes) is
