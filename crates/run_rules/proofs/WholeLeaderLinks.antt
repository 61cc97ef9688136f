-- What the leader issues a command for: a new request of its lane, or the first proof of a challenged write.
use Rattle.std.proofs.Common.{◌≡◌, ◌<◌, ◌^◌, ◌-◌, ℕ, cond, nat_eq, nat_le, nat_lt, true, false, Bool, List, [], ◌∷◌, ◌++◌, length, Option, Some, None, Ok, slice_get, refl, sym, subst, arith}
use Rattle.std.proofs.lemmas.Bool.{eqb-true, eqb-false, ltb-false}
use Rattle.express_words.specs.declared.refusal.Refusal.{Refusal}
use Rattle.express_words.specs.declared.refusal.Refusal.TheVariants as refusal
use Rattle.express_words.specs.declared.audit.ProofShare.{ProofShare}
use Rattle.frame_rules.specs.Frames as frame
use Rattle.frame_rules.specs.Frames.{PlainFrame, PlainBody}
use Rattle.frame_rules.specs.Whole.{whole, has_width}
use Rattle.lane_table.specs.Gates.{opening_gate, closing_gate, same_want}
use Rattle.lane_table.specs.declared.row.Want.TheVariants.{Write}
use Rattle.lane_table.specs.declared.gate.Gate.TheVariants.{New, Same, Stale, Phase}
use Rattle.dpf_rules.specs.Expansion as expansion
use Rattle.mailbox_rules.specs.Requests.{Command, Registers, Begins, Audits, Reads, Retires}
use Rattle.step_rules.specs.Boxes.{Box}
use Rattle.step_rules.specs.Leader as leader
use Rattle.step_rules.specs.Leader.{Leader, Asked, Registering, Writing, Reading, Retiring, Stage, Idle, Waiting, Challenged, Auditing, Settling, Done, Row, row_at, want_in, want_of, phase_of, Turn, Reply, Link, StillWaiting}
use Rattle.step_rules.specs.LeaderClients as steps
use Rattle.step_tokens.specs.Commands.{command_of}

-- the command that a client's frame has issued
abbrev pub command_in : PlainBody → Option Command
command_in (frame.Register address key) = Some Registers
command_in (frame.Write root part) = Some Begins
command_in (frame.Read n held) = Some Reads
command_in (frame.Retire n held) = Some Retires
command_in (frame.Proof share) = Some Audits
command_in body = None

abbrev pub IsChallenged : Stage → Type 0
IsChallenged (Challenged write kept) = Unit {0}
IsChallenged stage = ⊥

-- the row that it finds: a proof one that is challenged, any other an older request's
abbrev pub Finds : Row → ℕ → PlainBody → Type 0
Finds r s (frame.Proof share) = (r.serial ≡ s) × IsChallenged r.stage
Finds r s body = r.serial < s

pub record Issues (a : Leader) (g : PlainFrame) (body : PlainBody) (t : Turn) (command : PlainFrame) : Type 0 where
  pub outstanding : t.leader.outstanding ≡ a.outstanding ++ command ∷ []
  pub lane : command.lane ≡ g.lane
  pub serial : command.serial ≡ g.serial
  pub kind : command_in body ≡ Some (command_of command.body)
  pub finds : Finds (row_at a g.lane) g.serial body

-- a turn that issues nothing, or so
abbrev pub IfIssues : Leader → PlainFrame → PlainBody → Turn → Type 0
IfIssues a g body t = (n : ℕ) (command : PlainFrame) → t.answer ≡ Link n command → Issues a g body t command

says_none : (a : Leader) (g : PlainFrame) (body : PlainBody) (x : PlainBody) → IfIssues a g body (leader.says a g x)
says_none a g body x n command e = absurd (cc e)

waits_none : (a : Leader) (g : PlainFrame) (body : PlainBody) (m : ℕ) → IfIssues a g body (leader.turn a (StillWaiting m))
waits_none a g body m n command e = absurd (cc e)

bytes_none : (a : Leader) (g : PlainFrame) (body : PlainBody) (r : Refusal) → IfIssues a g body (leader.refuses_bytes a r)
bytes_none a g body r n command e = absurd (cc e)

either : (a : Leader) (g : PlainFrame) (body : PlainBody) (t : Bool) (x y : Turn) → IfIssues a g body x → IfIssues a g body y → IfIssues a g body (cond t x y)
either a g body true x y h k = h
either a g body false x y h k = k

room : (a : Leader) (g : PlainFrame) (body : PlainBody) (t : Turn) → IfIssues a g body t → IfIssues a g body (steps.if_room a g t)
room a g body t h =
    either a g body (nat_lt (2 ^ 64 - 65) a.next) _ _ (says_none a g body (frame.Refused (refusal.Again 0)))
    (either a g body (nat_le a.settings.window (length a.outstanding)) _ _ (says_none a g body (frame.Refused (refusal.Again (steps.oldest a)))) h)

named : (a : Leader) (g : PlainFrame) (body : PlainBody) (x : Option steps.Named) (t : Turn) → IfIssues a g body t → IfIssues a g body (steps.if_named a g x t)
unfolding steps.if_named steps.if_token
named a g body None t h = h
named a g body (Some x) t h = at_box (slice_get a.boxes x.number)
  where
    at_box : (found : Option Box) → IfIssues a g body (steps.if_token a g x.number x.held found t)
    at_box None = says_none a g body (frame.Refused (refusal.NoBox x.number))
    at_box (Some box) = either a g body (nat_eq x.held (expansion.token box.key g.lane g.serial)) _ _ h (says_none a g body (frame.Refused (refusal.BadToken x.number)))

again : (a : Leader) (g : PlainFrame) (body : PlainBody) (x : Stage) → IfIssues a g body (steps.again_at a g x)
unfolding steps.again_at
again a g body Idle = says_none a g body (frame.Refused (refusal.Phase 0))
again a g body (Waiting m asked) = waits_none a g body m
again a g body (Auditing m write share sigma opened) = waits_none a g body m
again a g body (Settling m write own other) = waits_none a g body m
again a g body (Challenged write kept) = says_none a g body kept
again a g body (Done want kept) = says_none a g body kept

fresh : (a : Leader) (g : PlainFrame) (body : PlainBody) (asked : Asked) (x : Option steps.Named) (stage : Stage) → IfIssues a g body (steps.issued_for a g asked)
    → IfIssues a g body (steps.new_at a g asked x stage)
unfolding steps.new_at
fresh a g body asked x (Waiting m other) h = says_none a g body (frame.Refused (refusal.Phase 6))
fresh a g body asked x (Auditing m write share sigma opened) h = says_none a g body (frame.Refused (refusal.Phase 8))
fresh a g body asked x (Settling m write own other) h = says_none a g body (frame.Refused (refusal.Phase 8))
fresh a g body asked x Idle h = named a g body x _ (room a g body _ h)
fresh a g body asked x (Challenged write kept) h = named a g body x _ (room a g body _ h)
fresh a g body asked x (Done want kept) h = named a g body x _ (room a g body _ h)

submission : (a : Leader) (g : PlainFrame) (body : PlainBody) (asked : Asked) (x : Option steps.Named) → ((row_at a g.lane).serial < g.serial → IfIssues a g body (steps.issued_for a g asked))
    → IfIssues a g body (steps.on_submission a g asked x)
unfolding steps.on_submission steps.submission_at opening_gate
submission a g body asked x h =
    either a g body (nat_le a.settings.lanes g.lane) _ _ (says_none a g body (frame.Refused (refusal.Lane a.settings.lanes)))
    (gates (nat_lt g.serial (row_at a g.lane).serial) (nat_eq g.serial (row_at a g.lane).serial) (same_want (want_in asked) (want_of (row_at a g.lane).stage)) (λ t u. let l = ltb-false _ _ t in let n = eqb-false _ _ u in omega (arith, l, n)))
  where
    gates : (less same wanted : Bool) → (less ≡ false → same ≡ false → (row_at a g.lane).serial < g.serial)
        → IfIssues a g body (steps.submission_at a g asked x (cond less (Stale (row_at a g.lane).serial) (cond same (cond wanted Same (Phase (phase_of (row_at a g.lane).stage))) New)))
    gates true same wanted new = says_none a g body (frame.Refused (refusal.Stale (row_at a g.lane).serial))
    gates false true true new = again a g body (row_at a g.lane).stage
    gates false true false new = says_none a g body (frame.Refused (refusal.Phase (phase_of (row_at a g.lane).stage)))
    gates false false wanted new = fresh a g body asked x (row_at a g.lane).stage (h (new refl refl))

proof_stage : (a : Leader) (g : PlainFrame) (share : ProofShare) (x : Stage) → (row_at a g.lane).serial ≡ g.serial → (row_at a g.lane).stage ≡ x
    → IfIssues a g (frame.Proof share) (steps.proof_in a g share x)
unfolding steps.proof_in
proof_stage a g share Idle e at = says_none a g _ (frame.Refused (refusal.Phase 0))
proof_stage a g share (Waiting m asked) e at = says_none a g _ (frame.Refused (refusal.Phase 6))
proof_stage a g share (Auditing m write before sigma opened) e at = waits_none a g _ m
proof_stage a g share (Settling m write own other) e at = waits_none a g _ m
proof_stage a g share (Done want kept) e at = says_none a g _ kept
proof_stage a g share (Challenged write kept) e at = room a g (frame.Proof share) _ (λ n command f.
    let same : _ ≡ command = link_same _ _ _ _ f in
    subst (Issues a g (frame.Proof share) (steps.audits a g write share)) same (record { outstanding = refl; lane = refl; serial = refl; kind = refl; finds = (e, subst IsChallenged (sym at) tt) }))
  where
    link_same : (m n : ℕ) (x y : PlainFrame) → Link m x ≡ Link n y → x ≡ y
    link_same m n x y e = cc

proof : (a : Leader) (g : PlainFrame) (share : ProofShare) → IfIssues a g (frame.Proof share) (steps.on_proof a g share)
unfolding steps.on_proof steps.proof_at closing_gate
proof a g share =
    either a g _ (nat_le a.settings.lanes g.lane) _ _ (says_none a g _ (frame.Refused (refusal.Lane a.settings.lanes)))
    (gates (nat_eq g.serial (row_at a g.lane).serial) (same_want Write (want_of (row_at a g.lane).stage)) (λ t. sym (eqb-true _ _ t)))
  where
    gates : (same wanted : Bool) → (same ≡ true → (row_at a g.lane).serial ≡ g.serial)
        → IfIssues a g (frame.Proof share) (steps.proof_at a g share (cond same (cond wanted Same (Phase (phase_of (row_at a g.lane).stage))) (Stale (row_at a g.lane).serial)))
    gates true true e = proof_stage a g share (row_at a g.lane).stage (e refl) refl
    gates true false e = says_none a g _ (frame.Refused (refusal.Phase (phase_of (row_at a g.lane).stage)))
    gates false wanted e = says_none a g _ (frame.Refused (refusal.Stale (row_at a g.lane).serial))

command_for : Asked → Command
command_for (Registering address key) = Registers
command_for (Writing root part drawn) = Begins
command_for (Reading n) = Reads
command_for (Retiring n) = Retires

link_same : (m n : ℕ) (x y : PlainFrame) → Link m x ≡ Link n y → x ≡ y
link_same m n x y e = cc

issued : (a : Leader) (g : PlainFrame) (body : PlainBody) (asked : Asked) → command_in body ≡ Some (command_for asked) → ((row_at a g.lane).serial < g.serial → Finds (row_at a g.lane) g.serial body)
    → (row_at a g.lane).serial < g.serial → IfIssues a g body (steps.issued_for a g asked)
unfolding steps.issued_for command_for
issued a g body (Registering address key) k finds low n command f = subst (Issues a g body (steps.issued_for a g (Registering address key))) (link_same _ _ _ _ f) (record { outstanding = refl; lane = refl; serial = refl; kind = k; finds = finds low })
issued a g body (Writing root part drawn) k finds low n command f = subst (Issues a g body (steps.issued_for a g (Writing root part drawn))) (link_same _ _ _ _ f) (record { outstanding = refl; lane = refl; serial = refl; kind = k; finds = finds low })
issued a g body (Reading m) k finds low n command f = subst (Issues a g body (steps.issued_for a g (Reading m))) (link_same _ _ _ _ f) (record { outstanding = refl; lane = refl; serial = refl; kind = k; finds = finds low })
issued a g body (Retiring m) k finds low n command f = subst (Issues a g body (steps.issued_for a g (Retiring m))) (link_same _ _ _ _ f) (record { outstanding = refl; lane = refl; serial = refl; kind = k; finds = finds low })

by_kind : (a : Leader) (g : PlainFrame) (body : PlainBody) → IfIssues a g body (steps.by_kind a g body)
unfolding steps.by_kind command_for
by_kind a g (frame.Register address key) = submission a g _ (Registering address key) None (issued a g (frame.Register address key) (Registering address key) refl (λ l. l))
by_kind a g (frame.Write root part) =
    either a g _ (has_width a.settings.width (frame.Write root part)) _ _ (submission a g _ (Writing root part (steps.draw a)) None (issued a g (frame.Write root part) (Writing root part (steps.draw a)) refl (λ l. l)))
    (bytes_none a g _ (refusal.Malformed 0))
by_kind a g (frame.Read m held) = submission a g _ (Reading m) (Some (record { number = m; held = held })) (issued a g (frame.Read m held) (Reading m) refl (λ l. l))
by_kind a g (frame.Retire m held) = submission a g _ (Retiring m) (Some (record { number = m; held = held })) (issued a g (frame.Retire m held) (Retiring m) refl (λ l. l))
by_kind a g (frame.Proof share) = proof a g share
by_kind a g body = bytes_none a g _ (refusal.Malformed 5)

pub client_links : (a : Leader) (bytes : List ℕ) (g : PlainFrame) → whole bytes ≡ Ok g → IfIssues a g g.body (steps.on_client a bytes)
unfolding steps.on_whole
client_links a bytes g e = subst (λ found. IfIssues a g g.body (steps.on_whole a found)) (sym e) (by_kind a g g.body)
