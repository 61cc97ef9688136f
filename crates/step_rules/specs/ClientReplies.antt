-- The client's steps at replies. In each function the first line that applies is taken.
use Rattle.std.specs.Prelude.{ℕ, ◌+◌, ◌==◌, ◌&&◌, if◌then◌else◌, Bool, true, false, List, [], ◌∷◌, ◌++◌}
use Rattle.std.specs.Prelude.{length, Option, Some, None, slice_get, Result, Ok, Err}
use Rattle.express_words.specs.Bytes.{xor_bytes}
use Rattle.express_words.specs.declared.refusal.Refusal.{Refusal}
use Rattle.express_words.specs.declared.refusal.Refusal.TheVariants as refusal
use Rattle.frame_rules.specs.Frames as frame
use Rattle.frame_rules.specs.Frames.{PlainFrame, PlainBody}
use Rattle.dpf_rules.specs.Expansion.{mask}
use Rattle.frame_rules.specs.Whole.{whole}
use Rattle.mailbox_rules.specs.Requests.{Request, Register, Write, Read, Retire}
use Rattle.step_rules.specs.Client.{Client, Owned, Current, Step, Deposits, Submits, ProvesToHelper}
use Rattle.step_rules.specs.Client.{ProvesToLeader, Outcome, Registered, Accepted, Message, Refused, Progress}
use Rattle.step_rules.specs.Client.{Ignored, Later, Next, Finished, Turn}
use Rattle.step_rules.specs.ClientAsks.{owned_by}

abbrev pub turn : Client → Progress → Turn
turn c progress = record { client = c; progress = progress }

abbrev pub ignores : Client → Turn
ignores c = turn c Ignored

abbrev pub later : Client → Refusal → Turn
later c r = turn c (Later r)

-- on to a step of the same request
abbrev pub goes_on : Client → Request → Step → Turn
goes_on c request step = turn (record c { current = Some (record { request = request; step = step }) }) Next

-- the request is finished: there is no current one, and the next takes the next serial
abbrev pub finished : Client → Outcome → Turn
finished c outcome = turn (record c { current = None; serial = c.serial + 1 }) (Finished outcome)

-- ---- refusals

abbrev pub ends : Step → Bool
ends Deposits = false
ends Submits = true
ends (ProvesToHelper ckey) = false
ends (ProvesToLeader ckey) = true

-- refusals 6 to 12 end a request at steps 2 and 4
abbrev pub ended : Client → Step → Refusal → Turn
ended c step r = if ends step then finished c (Refused r) else ignores c

unfoldable pub on_refusal : Client → Step → Refusal → Turn
on_refusal c step (refusal.Lane limit) = finished c (Refused (refusal.Lane limit))
on_refusal c step (refusal.Taken n) = ended c step (refusal.Taken n)
on_refusal c step (refusal.Full limit) = ended c step (refusal.Full limit)
on_refusal c step (refusal.NoBox n) = ended c step (refusal.NoBox n)
on_refusal c step (refusal.BadToken n) = ended c step (refusal.BadToken n)
on_refusal c step refusal.NoDeposit = ended c step refusal.NoDeposit
on_refusal c step refusal.NotProved = ended c step refusal.NotProved
on_refusal c step (refusal.Rejected o0 o1 tau0 tau1) = ended c step (refusal.Rejected o0 o1 tau0 tau1)
on_refusal c step (refusal.Stale serial) = later c (refusal.Stale serial)
on_refusal c step (refusal.Phase phase) = later c (refusal.Phase phase)
on_refusal c step (refusal.Again number) = later c (refusal.Again number)
on_refusal c step (refusal.LinkDown count) = later c (refusal.LinkDown count)
on_refusal c step (refusal.Malformed place) = ignores c
on_refusal c step (refusal.Version version) = ignores c

-- ---- what fits a step

unfoldable pub on_deposit : Client → Request → PlainBody → Turn
on_deposit c request (frame.Held false) = goes_on c request Submits
on_deposit c request body = ignores c

unfoldable pub on_registered : Client → PlainBody → Turn
on_registered c (frame.Registered n) =
    finished (record c { owned = c.owned ++ owned_by c n c.serial ∷ [] }) (Registered n)
on_registered c body = ignores c

unfoldable pub on_challenge : Client → Request → PlainBody → Turn
on_challenge c request (frame.Challenge ckey) = goes_on c request (ProvesToHelper ckey)
on_challenge c request body = ignores c

-- both parts with both masks taken off
abbrev pub unmasked : Client → Owned → List ℕ → List ℕ → List ℕ
unmasked c own zero one =
    xor_bytes
    (xor_bytes zero (mask own.key0 c.lane c.serial c.width))
    (xor_bytes one (mask own.key1 c.lane c.serial c.width))

unfoldable pub on_message : Client → Option Owned → PlainBody → Turn
on_message c (Some own) (frame.Message zero one) =
    if length zero == c.width then finished c (Message (unmasked c own zero one)) else ignores c
on_message c own body = ignores c

unfoldable pub on_submission : Client → Request → PlainBody → Turn
on_submission c (Register address) body = on_registered c body
on_submission c (Write target message) body = on_challenge c (Write target message) body
on_submission c (Read own) body = on_message c (slice_get c.owned own) body
on_submission c (Retire own) body = on_message c (slice_get c.owned own) body

unfoldable pub on_helper_proof : Client → Request → List ℕ → PlainBody → Turn
on_helper_proof c request ckey (frame.Held true) = goes_on c request (ProvesToLeader ckey)
on_helper_proof c request ckey body = ignores c

unfoldable pub on_leader_proof : Client → PlainBody → Turn
on_leader_proof c frame.Accepted = finished c Accepted
on_leader_proof c body = ignores c

abbrev pub by_step : Client → Request → Step → PlainBody → Turn
by_step c request Deposits body = on_deposit c request body
by_step c request Submits body = on_submission c request body
by_step c request (ProvesToHelper ckey) body = on_helper_proof c request ckey body
by_step c request (ProvesToLeader ckey) body = on_leader_proof c body

-- ---- any reply

abbrev pub refusal_in : PlainBody → Option Refusal
refusal_in (frame.Refused r) = Some r
refusal_in body = None

-- a refusal of bytes that are no frame names no lane
abbrev pub of_no_frame : Refusal → Bool
of_no_frame (refusal.Malformed place) = true
of_no_frame (refusal.Version version) = true
of_no_frame r = false

abbrev pub is_mine : Client → PlainFrame → Bool
is_mine c f = (f.link == 0) && ((f.lane == c.lane) && (f.serial == c.serial))

unfoldable pub by_refusal : Client → Current → PlainFrame → Option Refusal → Turn
by_refusal c now f None = if is_mine c f then by_step c now.request now.step f.body else ignores c
by_refusal c now f (Some r) =
    if of_no_frame r then later c r else
    if is_mine c f then on_refusal c now.step r else ignores c

unfoldable pub if_current : Client → PlainFrame → Option Current → Turn
if_current c f None = ignores c
if_current c f (Some now) = by_refusal c now f (refusal_in f.body)

unfoldable pub if_whole : Client → Result PlainFrame Refusal → Turn
if_whole c (Err r) = ignores c
if_whole c (Ok f) = if_current c f c.current

abbrev pub on_reply : Client → List ℕ → Turn
on_reply c bytes = if_whole c (whole bytes)
