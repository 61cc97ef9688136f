-- What a reply does to a client is one of few things.
use Rattle.std.proofs.Common.{ℕ, List, Bool, true, false, Option, Some, None, Result, Ok, Err, refl}
use Rattle.std.specs.Prelude.{if◌then◌else◌, ◌==◌, length, slice_get}
use Rattle.express_words.specs.declared.refusal.Refusal.{Refusal}
use Rattle.express_words.specs.declared.refusal.Refusal.TheVariants as refusal
use Rattle.frame_rules.specs.Frames as frame
use Rattle.frame_rules.specs.Frames.{PlainFrame, PlainBody}
use Rattle.frame_rules.specs.Whole.{whole}
use Rattle.mailbox_rules.specs.Requests.{Request, Register, Write, Read, Retire}
use Rattle.step_rules.specs.Client.{Client, Current, Owned, Step, Deposits, Submits, ProvesToHelper, ProvesToLeader, Turn}
use Rattle.step_rules.specs.ClientReplies.{by_step, by_refusal, ended, finished, if_current, if_whole, ignores, is_mine, of_no_frame, on_challenge, on_deposit, on_helper_proof, on_leader_proof, on_message, on_refusal, on_registered, on_reply, on_submission, refusal_in, unmasked}
use Rattle.step_rules.specs.Client.{Message}
use Rattle.client_restart.proofs.Turns.{Moves, Turns}

abbrev MovesTo : Client → Request → Turn → Type 0
MovesTo c request t = Moves c request t.client t.progress

either : (c : Client) (request : Request) (b : Bool) (t u : Turn) → MovesTo c request t → MovesTo c request u → MovesTo c request (if b then t else u)
either c request true t u first second = first
either c request false t u first second = second

ended_moves : (c : Client) (request : Request) (step : Step) (r : Refusal) → MovesTo c request (ended c step r)
ended_moves c request Deposits r = refl
ended_moves c request Submits r = refl
ended_moves c request (ProvesToHelper ckey) r = refl
ended_moves c request (ProvesToLeader ckey) r = refl

refusal_moves : (c : Client) (request : Request) (step : Step) (r : Refusal) → MovesTo c request (on_refusal c step r)
unfolding on_refusal
refusal_moves c request step (refusal.Lane limit) = refl
refusal_moves c request step (refusal.Taken n) = ended_moves c request step (refusal.Taken n)
refusal_moves c request step (refusal.Full limit) = ended_moves c request step (refusal.Full limit)
refusal_moves c request step (refusal.NoBox n) = ended_moves c request step (refusal.NoBox n)
refusal_moves c request step (refusal.BadToken n) = ended_moves c request step (refusal.BadToken n)
refusal_moves c request step refusal.NoDeposit = ended_moves c request step refusal.NoDeposit
refusal_moves c request step refusal.NotProved = ended_moves c request step refusal.NotProved
refusal_moves c request step (refusal.Rejected a b d e) = ended_moves c request step (refusal.Rejected a b d e)
refusal_moves c request step (refusal.Stale serial) = refl
refusal_moves c request step (refusal.Phase phase) = refl
refusal_moves c request step (refusal.Again number) = refl
refusal_moves c request step (refusal.LinkDown count) = refl
refusal_moves c request step (refusal.Malformed place) = refl
refusal_moves c request step (refusal.Version version) = refl

deposit_moves : (c : Client) (request : Request) (body : PlainBody) → MovesTo c request (on_deposit c request body)
unfolding on_deposit
deposit_moves c request (frame.Held false) = (Submits, refl)
deposit_moves c request body = refl

registered_moves : (c : Client) (request : Request) (body : PlainBody) → MovesTo c request (on_registered c body)
unfolding on_registered
registered_moves c request (frame.Registered n) = refl
registered_moves c request body = refl

challenge_moves : (c : Client) (request : Request) (body : PlainBody) → MovesTo c request (on_challenge c request body)
unfolding on_challenge
challenge_moves c request (frame.Challenge ckey) = (ProvesToHelper ckey, refl)
challenge_moves c request body = refl

message_moves : (c : Client) (request : Request) (own : Option Owned) (body : PlainBody) → MovesTo c request (on_message c own body)
unfolding on_message
message_moves c request (Some own) (frame.Message zero one) =
    either c request (length zero == c.width) (finished c (Message (unmasked c own zero one))) (ignores c) refl refl
message_moves c request own body = refl

submission_moves : (c : Client) (request : Request) (body : PlainBody) → MovesTo c request (on_submission c request body)
unfolding on_submission
submission_moves c (Register address) body = registered_moves c (Register address) body
submission_moves c (Write target message) body = challenge_moves c (Write target message) body
submission_moves c (Read own) body = message_moves c (Read own) (slice_get c.owned own) body
submission_moves c (Retire own) body = message_moves c (Retire own) (slice_get c.owned own) body

helper_proof_moves : (c : Client) (request : Request) (ckey : List ℕ) (body : PlainBody) → MovesTo c request (on_helper_proof c request ckey body)
unfolding on_helper_proof
helper_proof_moves c request ckey (frame.Held true) = (ProvesToLeader ckey, refl)
helper_proof_moves c request ckey body = refl

leader_proof_moves : (c : Client) (request : Request) (body : PlainBody) → MovesTo c request (on_leader_proof c body)
unfolding on_leader_proof
leader_proof_moves c request frame.Accepted = refl
leader_proof_moves c request body = refl

step_moves : (c : Client) (request : Request) (step : Step) (body : PlainBody) → MovesTo c request (by_step c request step body)
step_moves c request Deposits body = deposit_moves c request body
step_moves c request Submits body = submission_moves c request body
step_moves c request (ProvesToHelper ckey) body = helper_proof_moves c request ckey body
step_moves c request (ProvesToLeader ckey) body = leader_proof_moves c request body

frame_moves : (c : Client) (now : Current) (f : PlainFrame) (r : Option Refusal) → MovesTo c now.request (by_refusal c now f r)
unfolding by_refusal
frame_moves c now f None =
    either c now.request (is_mine c f) (by_step c now.request now.step f.body) (ignores c) (step_moves c now.request now.step f.body) refl
frame_moves c now f (Some r) =
    either c now.request (of_no_frame r) _ _ refl
    (either c now.request (is_mine c f) (on_refusal c now.step r) (ignores c) (refusal_moves c now.request now.step r) refl)

current_turns : (c : Client) (f : PlainFrame) (now : Option Current) → Turns c now (if_current c f now)
unfolding if_current
current_turns c f None = (refl, refl)
current_turns c f (Some now) = frame_moves c now f (refusal_in f.body)

ignores_turns : (c : Client) (now : Option Current) → Turns c now (ignores c)
ignores_turns c None = (refl, refl)
ignores_turns c (Some now) = refl

whole_turns : (c : Client) (w : Result PlainFrame Refusal) → Turns c c.current (if_whole c w)
unfolding if_whole
whole_turns c (Err r) = ignores_turns c c.current
whole_turns c (Ok f) = current_turns c f c.current

pub reply_turns : (c : Client) (bytes : List ℕ) → Turns c c.current (on_reply c bytes)
reply_turns c bytes = whole_turns c (whole bytes)
