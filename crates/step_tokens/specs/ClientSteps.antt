-- A client's steps without what they hold.
use Rattle.std.specs.Prelude.{◌≡◌, ℕ, Bool, true, false, length, List, Option, Some, None, slice_get}
use Rattle.express_words.specs.declared.refusal.Refusal.{Refusal}
use Rattle.express_words.specs.declared.refusal.Refusal.TheVariants as refusal
use Rattle.frame_rules.specs.Frames as frame
use Rattle.frame_rules.specs.Frames.{PlainFrame, PlainBody}
use Rattle.token_rules.specs.Rows.{ClientHears, HeardHeldDeposit, HeardChallenge, HeardHeldProof, HeardAnswer}
use Rattle.token_rules.specs.Rows.{ClientDoes, Stays, GoesOn, Finishes, client_does}
use Rattle.mailbox_rules.specs.Requests.{Request, Register, Write, Read, Retire}
use Rattle.step_rules.specs.Client.{Client, Owned, Current, Step, Deposits, Submits, ProvesToHelper}
use Rattle.step_rules.specs.Client.{ProvesToLeader, Progress, Ignored, Later, Next, Finished}
use Rattle.step_rules.specs.ClientReplies.{by_step, on_refusal}

abbrev pub bare_step : Step → ℕ
bare_step Deposits = 1
bare_step Submits = 2
bare_step (ProvesToHelper ckey) = 3
bare_step (ProvesToLeader ckey) = 4

abbrev pub bare_does : Progress → ClientDoes
bare_does Ignored = Stays
bare_does (Later r) = Stays
bare_does Next = GoesOn
bare_does (Finished outcome) = Finishes

-- what a body that no refusal is stands for
abbrev pub bare_heard : PlainBody → Option ClientHears
bare_heard (frame.Held false) = Some HeardHeldDeposit
bare_heard (frame.Held true) = Some HeardHeldProof
bare_heard (frame.Challenge ckey) = Some HeardChallenge
bare_heard (frame.Registered n) = Some HeardAnswer
bare_heard frame.Accepted = Some HeardAnswer
bare_heard (frame.Message zero one) = Some HeardAnswer
bare_heard body = None

-- ---- what honest servers send

abbrev pub IsWrite : Request → Type 0
IsWrite (Write target message) = Unit {0}
IsWrite request = ⊥

-- an answer is one of the request's, a challenge comes to a write
abbrev pub IsOfRequest : Client → Request → Step → PlainBody → Type 0
IsOfRequest c (Write target message) Submits (frame.Challenge ckey) = Unit {0}
IsOfRequest c request Submits (frame.Challenge ckey) = ⊥
IsOfRequest c (Register address) Submits (frame.Registered n) = Unit {0}
IsOfRequest c request Submits (frame.Registered n) = ⊥
IsOfRequest c (Read own) Submits (frame.Message zero one) =
    (box : Owned) × (slice_get c.owned own ≡ Some box) × (length zero ≡ c.width)
IsOfRequest c (Retire own) Submits (frame.Message zero one) =
    (box : Owned) × (slice_get c.owned own ≡ Some box) × (length zero ≡ c.width)
IsOfRequest c request Submits (frame.Message zero one) = ⊥
IsOfRequest c request Submits frame.Accepted = ⊥
IsOfRequest c request (ProvesToLeader ckey) (frame.Registered n) = ⊥
IsOfRequest c request (ProvesToLeader ckey) (frame.Message zero one) = ⊥
IsOfRequest c request step body = Unit {0}

-- a refusal that answers a request
abbrev pub IsAnswer : Refusal → Type 0
IsAnswer (refusal.Taken n) = Unit {0}
IsAnswer (refusal.Full limit) = Unit {0}
IsAnswer (refusal.NoBox n) = Unit {0}
IsAnswer (refusal.Rejected o0 o1 tau0 tau1) = Unit {0}
IsAnswer r = ⊥

-- one after which the client comes again
abbrev pub IsLater : Refusal → Type 0
IsLater (refusal.Stale serial) = Unit {0}
IsLater (refusal.Phase phase) = Unit {0}
IsLater (refusal.Again number) = Unit {0}
IsLater r = ⊥

-- ---- the steps

abbrev pub BodiesStrip : Type 0
BodiesStrip =
    (c : Client) (request : Request) (step : Step) (body : PlainBody) (heard : ClientHears) →
    bare_heard body ≡ Some heard → IsOfRequest c request step body →
    bare_does (by_step c request step body).progress ≡ client_does heard (bare_step step)

abbrev pub AnswersStrip : Type 0
AnswersStrip =
    (c : Client) (step : Step) (r : Refusal) → IsAnswer r →
    bare_does (on_refusal c step r).progress ≡ client_does HeardAnswer (bare_step step)

abbrev pub LatersStrip : Type 0
LatersStrip =
    (c : Client) (step : Step) (r : Refusal) → IsLater r → bare_does (on_refusal c step r).progress ≡ Stays
