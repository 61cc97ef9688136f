-- At a frame of a client: what goes on to be outstanding, and that what a client waits for is.
use Rattle.std.proofs.Common.{◌≡◌, ◌<◌, ◌^◌, ◌-◌, ◌+◌, ℕ, Bool, true, false, cond, nat_le, nat_lt, nat_eq, List, [], ◌∷◌, length, Option, Some, None, Ok, Err, slice_get, slice_set, ◌++◌, refl, sym, ap, ◌∙◌}
use Rattle.std.specs.Prelude.{Result}
use Rattle.std.proofs.lemmas.Bool.{eqb-true, leb-false}
use Rattle.express_words.specs.declared.audit.ProofShare.{ProofShare}
use Rattle.express_words.specs.declared.refusal.Refusal.{Refusal}
use Rattle.frame_rules.specs.Frames as frame
use Rattle.frame_rules.specs.Frames.{PlainFrame, PlainBody}
use Rattle.frame_rules.specs.Whole.{whole, has_width, on_link}
use Rattle.dpf_rules.specs.Expansion.{token}
use Rattle.lane_table.specs.Gates.{opening_gate, closing_gate, fits_want}
use Rattle.lane_table.specs.declared.row.Want.{Want}
use Rattle.lane_table.specs.declared.row.Want.TheVariants.{Write as Writes}
use Rattle.lane_table.specs.declared.gate.Gate.{Gate}
use Rattle.lane_table.specs.declared.gate.Gate.TheVariants.{New, Same, Stale, Phase}
use Rattle.step_rules.specs.Boxes.{Box}
use Rattle.step_rules.specs.Leader.{Leader, Asked, Registering, Writing, Reading, Retiring, Stage, Idle, Waiting, Challenged, Auditing, Settling, Done, row, row_at, door, want_in, Answer, Reply, Link, StillWaiting, Turn}
use Rattle.step_rules.specs.LeaderClients.{Named, draw, sigma, counted, if_room, issued_for, if_token, if_named, new_at, again_at, submission_at, on_submission, audits, proof_in, proof_at, on_proof, by_kind, on_whole, on_client}
use Rattle.audit_rules.specs.Values.{Write, opens}
use Rattle.leader_core.specs.Awaited.{commands_of, command, asks_for, awaited, awaited_at, RowsAwait, TellsAwaited}
use Rattle.leader_core.specs.Told.{turned}
use Rattle.leader_core.proofs.AwaitLemmas.{issued_awaits}

-- a command that the client of a frame waits for is outstanding
abbrev Says : Leader → PlainFrame → Answer → Type 0
Says a f (StillWaiting number) = (body : PlainBody) × (commands_of f.lane a.outstanding ≡ command f.lane f.serial number body ∷ [])
Says a f (Reply reply) = Unit {0}
Says a f (Link number issued) = Unit {0}

record Keeps (a : Leader) (f : PlainFrame) (t : Turn) : Type 0 where
  after : RowsAwait t.leader
  says : Says a f t.answer

either : (a : Leader) (f : PlainFrame) (b : Bool) (x y : Turn) → Keeps a f x → Keeps a f y → Keeps a f (cond b x y)
either a f true x y p q = p
either a f false x y p q = q

-- the second only where the test fails
unless : (a : Leader) (f : PlainFrame) (b : Bool) (x y : Turn) → Keeps a f x → (b ≡ false → Keeps a f y) → Keeps a f (cond b x y)
unless a f true x y p q = p
unless a f false x y p q = q refl

replies : (a : Leader) (f : PlainFrame) (reply : PlainFrame) → RowsAwait a → Keeps a f (record { leader = a; answer = Reply reply })
replies a f reply is = record { after = is; says = tt }

roomed : (a : Leader) (f : PlainFrame) (issued : Turn) → RowsAwait a → Keeps a f issued → Keeps a f (if_room a f issued)
roomed a f issued is keeps =
    either a f (nat_lt (2 ^ 64 - 65) a.next) _ _ (replies a f _ is)
    (either a f (nat_le a.settings.window (length a.outstanding)) _ _ (replies a f _ is) keeps)

-- ---- a command is issued where the row waits for none

abbrev Free : Leader → PlainFrame → Type 0
Free a f = awaited f.lane (row_at a f.lane) ≡ []

more : (a : Leader) (f : PlainFrame) (body : PlainBody) (stage : Stage) → RowsAwait a → f.lane < a.settings.lanes → Free a f →
    awaited_at f.lane f.serial stage ≡ on_link f a.next body ∷ [] → RowsAwait (record a { rows = slice_set a.rows f.lane (row f.serial stage); outstanding = a.outstanding ++ on_link f a.next body ∷ []; next = a.next + 1 })
more a f body stage is below free waits =
    issued_awaits a.settings.lanes a.rows a.outstanding (on_link f a.next body) a.next (row f.serial stage) is refl below free waits

issued : (a : Leader) (f : PlainFrame) (asked : Asked) → RowsAwait a → f.lane < a.settings.lanes → Free a f → Keeps a f (issued_for a f asked)
unfolding issued_for
issued a f (Registering address key) is below free = record { after = more a f (frame.LinkRegister address) (Waiting a.next (Registering address key)) is below free refl; says = tt }
issued a f (Writing root part drawn) is below free = record { after = more a f (frame.LinkBegin drawn part) (Waiting a.next (Writing root part drawn)) is below free refl; says = tt }
issued a f (Reading number) is below free = record { after = more a f (frame.LinkRead number) (Waiting a.next (Reading number)) is below free refl; says = tt }
issued a f (Retiring number) is below free = record { after = more a f (frame.LinkRetire number) (Waiting a.next (Retiring number)) is below free refl; says = tt }

tokened : (a : Leader) (f : PlainFrame) (number held : ℕ) (found : Option Box) (t : Turn) → RowsAwait a → Keeps a f t → Keeps a f (if_token a f number held found t)
unfolding if_token
tokened a f number held None t is keeps = replies a f _ is
tokened a f number held (Some box) t is keeps = either a f (nat_eq held (token box.key f.lane f.serial)) _ _ keeps (replies a f _ is)

named_keeps : (a : Leader) (f : PlainFrame) (named : Option Named) (t : Turn) → RowsAwait a → Keeps a f t → Keeps a f (if_named a f named t)
unfolding if_named
named_keeps a f None t is keeps = keeps
named_keeps a f (Some n) t is keeps = tokened a f n.number n.held (slice_get a.boxes n.number) t is keeps

submits : (a : Leader) (f : PlainFrame) (asked : Asked) (named : Option Named) → RowsAwait a → f.lane < a.settings.lanes → Free a f → Keeps a f (if_named a f named (if_room a f (issued_for a f asked)))
submits a f asked named is below free = named_keeps a f named _ is (roomed a f _ is (issued a f asked is below free))

-- by the stage of the row
free_at : (a : Leader) (f : PlainFrame) (stage : Stage) → (row_at a f.lane).stage ≡ stage → awaited_at f.lane (row_at a f.lane).serial stage ≡ [] → Free a f
free_at a f stage at none = ap (awaited_at f.lane (row_at a f.lane).serial) at ∙ none

new_keeps : (a : Leader) (f : PlainFrame) (asked : Asked) (named : Option Named) (stage : Stage) → RowsAwait a → f.lane < a.settings.lanes → (row_at a f.lane).stage ≡ stage → Keeps a f (new_at a f asked named stage)
unfolding new_at
new_keeps a f asked named (Waiting number other) is below at = replies a f _ is
new_keeps a f asked named (Auditing number w share sigma opened) is below at = replies a f _ is
new_keeps a f asked named (Settling number w own other) is below at = replies a f _ is
new_keeps a f asked named Idle is below at = submits a f asked named is below (free_at a f Idle at refl)
new_keeps a f asked named (Challenged w kept) is below at = submits a f asked named is below (free_at a f (Challenged w kept) at refl)
new_keeps a f asked named (Done want kept) is below at = submits a f asked named is below (free_at a f (Done want kept) at refl)

-- ---- a request comes again while its command is outstanding

waits_at : (a : Leader) (f : PlainFrame) (stage : Stage) (number : ℕ) (body : PlainBody) → RowsAwait a → f.serial ≡ (row_at a f.lane).serial → (row_at a f.lane).stage ≡ stage →
    awaited_at f.lane f.serial stage ≡ command f.lane f.serial number body ∷ [] → Keeps a f (record { leader = a; answer = StillWaiting number })
waits_at a f stage number body is same at waits = record {
  after = is;
  says = (body, is.commands f.lane ∙ (ap (awaited_at f.lane (row_at a f.lane).serial) at ∙ (ap (λ (n : ℕ). awaited_at f.lane n stage) (sym same) ∙ waits)));
}

again_keeps : (a : Leader) (f : PlainFrame) (stage : Stage) → RowsAwait a → f.serial ≡ (row_at a f.lane).serial → (row_at a f.lane).stage ≡ stage → Keeps a f (again_at a f stage)
unfolding again_at
again_keeps a f Idle is same at = replies a f _ is
again_keeps a f (Waiting number asked) is same at = waits_at a f (Waiting number asked) number (asks_for asked) is same at refl
again_keeps a f (Auditing number w share sigma opened) is same at = waits_at a f (Auditing number w share sigma opened) number (frame.LinkAudit sigma opened) is same at refl
again_keeps a f (Settling number w own other) is same at = waits_at a f (Settling number w own other) number (frame.LinkSettle own) is same at refl
again_keeps a f (Challenged w kept) is same at = replies a f _ is
again_keeps a f (Done want kept) is same at = replies a f _ is

-- ---- the gates let a frame of the row's serial to the row's request

opened_same : (b t : Bool) (n : ℕ) (fit : Gate) → cond b (Stale n) (cond t fit New) ≡ Same → t ≡ true
opened_same true t n fit e = absurd (cc e)
opened_same false true n fit e = refl
opened_same false false n fit e = absurd (cc e)

opening_same : (a : Leader) (f : PlainFrame) (want : Want) → opening_gate (door (row_at a f.lane)) f.serial want ≡ Same → f.serial ≡ (row_at a f.lane).serial
unfolding opening_gate
opening_same a f want e =
    let r = row_at a f.lane in
    eqb-true f.serial r.serial (opened_same (nat_lt f.serial r.serial) (nat_eq f.serial r.serial) r.serial (fits_want (door r) want) e)

-- no stale frame
abbrev IsIn : Gate → Type 0
IsIn Same = Unit {0}
IsIn New = Unit {0}
IsIn (Stale n) = ⊥
IsIn (Phase p) = Unit {0}

closed_same : (t : Bool) (n : ℕ) (fit : Gate) → IsIn (cond t fit (Stale n)) → t ≡ true
closed_same true n fit e = refl
closed_same false n fit e = absurd e

closing_same : (a : Leader) (f : PlainFrame) → IsIn (closing_gate (door (row_at a f.lane)) f.serial) → f.serial ≡ (row_at a f.lane).serial
unfolding closing_gate
closing_same a f is_in =
    let r = row_at a f.lane in
    eqb-true f.serial r.serial (closed_same (nat_eq f.serial r.serial) r.serial (fits_want (door r) Writes) is_in)

gated_keeps : (a : Leader) (f : PlainFrame) (asked : Asked) (named : Option Named) (gate : Gate) → RowsAwait a → f.lane < a.settings.lanes → (gate ≡ Same → f.serial ≡ (row_at a f.lane).serial) → Keeps a f (submission_at a f asked named gate)
unfolding submission_at
gated_keeps a f asked named (Stale n) is below same = replies a f _ is
gated_keeps a f asked named (Phase p) is below same = replies a f _ is
gated_keeps a f asked named Same is below same = again_keeps a f (row_at a f.lane).stage is (same refl) refl
gated_keeps a f asked named New is below same = new_keeps a f asked named (row_at a f.lane).stage is below refl

submitted : (a : Leader) (f : PlainFrame) (asked : Asked) (named : Option Named) → RowsAwait a → Keeps a f (on_submission a f asked named)
unfolding on_submission
submitted a f asked named is =
    unless a f (nat_le a.settings.lanes f.lane) _ _ (replies a f _ is)
    (λ there. gated_keeps a f asked named (opening_gate (door (row_at a f.lane)) f.serial (want_in asked)) is (leb-false a.settings.lanes f.lane there) (opening_same a f (want_in asked)))

-- ---- a proof share

audited : (a : Leader) (f : PlainFrame) (w : Write) (share : ProofShare) → RowsAwait a → f.lane < a.settings.lanes → Free a f → Keeps a f (audits a f w share)
audited a f w share is below free =
    let opened = opens 0 w (counted a w) share (sigma a) in
    record { after = more a f (frame.LinkAudit (sigma a) opened) (Auditing a.next w share (sigma a) opened) is below free refl; says = tt }

proof_keeps : (a : Leader) (f : PlainFrame) (share : ProofShare) (stage : Stage) → RowsAwait a → f.lane < a.settings.lanes → f.serial ≡ (row_at a f.lane).serial → (row_at a f.lane).stage ≡ stage → Keeps a f (proof_in a f share stage)
unfolding proof_in
proof_keeps a f share Idle is below same at = replies a f _ is
proof_keeps a f share (Waiting number asked) is below same at = replies a f _ is
proof_keeps a f share (Auditing number w before sigma opened) is below same at = waits_at a f (Auditing number w before sigma opened) number (frame.LinkAudit sigma opened) is same at refl
proof_keeps a f share (Settling number w own other) is below same at = waits_at a f (Settling number w own other) number (frame.LinkSettle own) is same at refl
proof_keeps a f share (Done want kept) is below same at = replies a f _ is
proof_keeps a f share (Challenged w kept) is below same at = roomed a f _ is (audited a f w share is below (free_at a f (Challenged w kept) at refl))

proof_gated : (a : Leader) (f : PlainFrame) (share : ProofShare) (gate : Gate) → RowsAwait a → f.lane < a.settings.lanes → (IsIn gate → f.serial ≡ (row_at a f.lane).serial) → Keeps a f (proof_at a f share gate)
unfolding proof_at
proof_gated a f share (Stale n) is below same = replies a f _ is
proof_gated a f share (Phase p) is below same = replies a f _ is
proof_gated a f share Same is below same = proof_keeps a f share (row_at a f.lane).stage is below (same tt) refl
proof_gated a f share New is below same = proof_keeps a f share (row_at a f.lane).stage is below (same tt) refl

proved : (a : Leader) (f : PlainFrame) (share : ProofShare) → RowsAwait a → Keeps a f (on_proof a f share)
unfolding on_proof
proved a f share is =
    unless a f (nat_le a.settings.lanes f.lane) _ _ (replies a f _ is)
    (λ there. proof_gated a f share (closing_gate (door (row_at a f.lane)) f.serial) is (leb-false a.settings.lanes f.lane there) (closing_same a f))

-- ---- any bytes

kinds : (a : Leader) (f : PlainFrame) (body : PlainBody) → RowsAwait a → Keeps a f (by_kind a f body)
unfolding by_kind
kinds a f (frame.Register address key) is = submitted a f (Registering address key) None is
kinds a f (frame.Write root part) is =
    either a f (has_width a.settings.width (frame.Write root part)) _ _ (submitted a f (Writing root part (draw a)) None is) (replies a f _ is)
kinds a f (frame.Read number held) is = submitted a f (Reading number) (Some (record { number = number; held = held })) is
kinds a f (frame.Retire number held) is = submitted a f (Retiring number) (Some (record { number = number; held = held })) is
kinds a f (frame.Proof share) is = proved a f share is
kinds a f body is = replies a f _ is

whole_after : (a : Leader) (found : Result PlainFrame Refusal) → RowsAwait a → RowsAwait (on_whole a found).leader
unfolding on_whole
whole_after a (Err why) is = is
whole_after a (Ok f) is = (kinds a f f.body is).after

pub client_awaits : (a : Leader) (bytes : List ℕ) → RowsAwait a → RowsAwait (on_client a bytes).leader
client_awaits a bytes is = whole_after a (whole bytes) is

-- what is said of a frame is told of its bytes
told_of : (a : Leader) (bytes : List ℕ) (f : PlainFrame) (answer : Answer) → whole bytes ≡ Ok f → Says a f answer → TellsAwaited a bytes (turned answer)
told_of a bytes f (Reply reply) read says = tt
told_of a bytes f (Link number issued) read says = tt
told_of a bytes f (StillWaiting number) read says = record { frame = f; read = read; body = says.0; only = says.1 }

whole_tells : (a : Leader) (bytes : List ℕ) (found : Result PlainFrame Refusal) → whole bytes ≡ found → RowsAwait a → TellsAwaited a bytes (turned (on_whole a found).answer)
unfolding on_whole
whole_tells a bytes (Err why) read is = tt
whole_tells a bytes (Ok f) read is = told_of a bytes f (by_kind a f f.body).answer read (kinds a f f.body is).says

pub client_tells : (a : Leader) (bytes : List ℕ) → RowsAwait a → TellsAwaited a bytes (turned (on_client a bytes).answer)
client_tells a bytes is = whole_tells a bytes (whole bytes) refl is
