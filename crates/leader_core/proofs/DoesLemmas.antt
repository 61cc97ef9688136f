-- What a turn leaves and writes: where something is said, and where a command is issued.
use Rattle.std.proofs.Common.{◌≡◌, ◌<◌, ◌≤◌, ◌+◌, ◌-◌, ◌^◌, ℕ, List, length, refl, sym, ap, subst, ◌∙◌, arith}
use Rattle.std.specs.Vec.{with_item}
use Rattle.express_words.specs.declared.audit.ProofShare.{ProofShare}
use Rattle.express_words.specs.declared.audit.Openings.{Openings}
use Rattle.audit_rules.specs.Values.{Write, opens}
use Rattle.frame_rules.specs.Frames as frame
use Rattle.frame_rules.specs.Frames.{PlainFrame, PlainBody}
use Rattle.frame_rules.specs.Spelling.{spelling, IsFrame}
use Rattle.frame_rules.specs.Whole.{on_link}
use Rattle.link_order.specs.Link.{Outstanding, IsOutstanding}
use Rattle.server_boxes.specs.Held.{Holdings}
use Rattle.step_rules.specs.Boxes.{addresses_of}
use Rattle.step_rules.specs.Leader as steps
use Rattle.step_rules.specs.LeaderClients.{issues, issued_for, issues_drawn, audits, counted, sigma}
use Rattle.leader_core.specs.declared.stores.LeaderStores.{LeaderStores}
use Rattle.leader_core.specs.declared.said.SaidToClient.{SaidToClient}
use Rattle.leader_core.specs.declared.said.SaidToClient.TheVariants as said
use Rattle.leader_core.specs.declared.slot.LeaderSlot.{LeaderSlot}
use Rattle.leader_core.specs.declared.turn.Turn.{Turn}
use Rattle.leader_core.specs.declared.turn.Turn.TheVariants as turn
use Rattle.leader_core.specs.Saying.{said_in}
use Rattle.leader_core.specs.Slots.{row_in, IsLeaderSlot}
use Rattle.leader_core.specs.Commands.{with_command}
use Rattle.leader_core.specs.State.{leader_in, AreStores, IsLink}
use Rattle.leader_core.specs.Told.{turn_steps, WritesFront, IsTold, DoesTurn}
use Rattle.leader_core.proofs.IssueLemmas.{issues_is, link_more}
use Rattle.leader_core.proofs.SlotLemmas.{slot_set}

-- ---- something is said

said_leader : (a : steps.Leader) (f : PlainFrame) (s : SaidToClient) → a ≡ (said_in a f s).leader
said_leader a f (said.Reply body) = refl
said_leader a f (said.Waiting n) = refl

said_steps : (a : steps.Leader) (f : PlainFrame) (s : SaidToClient) → turn_steps a (said_in a f s).answer ≡ 0
said_steps a f (said.Reply body) = refl
said_steps a f (said.Waiting n) = refl

pub said_does : (c : LeaderStores) (f : PlainFrame) (s : SaidToClient) (t : steps.Turn) (given : Turn) (old new : List ℕ) → AreStores c → t ≡ said_in (leader_in c) f s →
    IsTold (said_in (leader_in c) f s).answer given old new → DoesTurn t c given old new
said_does c f s t given old new is t_is told =
    subst (λ (x : steps.Turn). DoesTurn x c given old new) (sym t_is) (record { leader = said_leader (leader_in c) f s; told = told; is = is })

pub said_takes_none : (a : steps.Leader) (f : PlainFrame) (s : SaidToClient) (t : steps.Turn) (before : ℕ) → t ≡ said_in a f s → before ≡ before + turn_steps a t.answer
said_takes_none a f s t before t_is =
    let none : turn_steps a t.answer ≡ 0 = ap (λ (x : steps.Turn). turn_steps a x.answer) t_is ∙ said_steps a f s in
    omega arith

pub said_none : (a : steps.Leader) (f : PlainFrame) (s : SaidToClient) (t : steps.Turn) → t ≡ said_in a f s → turn_steps a t.answer ≡ 0
said_none a f s t t_is = ap (λ (x : steps.Turn). turn_steps a x.answer) t_is ∙ said_steps a f s

pub submits_none : (a : steps.Leader) (f : PlainFrame) (x : steps.Asked) → turn_steps a (issued_for a f x).answer ≡ 0
unfolding issued_for
submits_none a f (steps.Registering address key) = refl
submits_none a f (steps.Writing root part drawn) = refl
submits_none a f (steps.Reading n) = refl
submits_none a f (steps.Retiring n) = refl

-- ---- a command is issued

pub issue_does : (c : LeaderStores) (boxes : Holdings) (f : PlainFrame) (body : PlainBody) (stage : steps.Stage) (i : ℕ) (s : LeaderSlot) (l : Outstanding) (d number len : ℕ) (old new : List ℕ) (t : steps.Turn) →
    boxes ≡ c.boxes → t ≡ issues (record (leader_in c) { draws = d }) f body stage →
    AreStores c → i ≡ f.lane → f.lane < c.settings.lanes → 1 ≤ f.serial → row_in s ≡ steps.row f.serial stage → IsLeaderSlot c.settings.width c.settings.boxes (addresses_of c.boxes.boxes) s →
    c.link.next ≤ 2 ^ 64 - 65 → length c.link.frames < c.link.window →
    l ≡ with_command c.link (spelling (on_link f c.link.next body)) → IsOutstanding l → IsFrame (on_link f c.link.next body) → d ≤ c.draws + 1 →
    number ≡ c.link.next → len ≡ length (spelling (on_link f c.link.next body)) → WritesFront (spelling (on_link f c.link.next body)) old new →
    DoesTurn t (record c { boxes = boxes; slots = with_item c.slots i s; link = l; draws = d }) (turn.Link number len) old new
issue_does c boxes f body stage i s l d number len old new t boxes_are t_is is at below some row_is slot_is next free link_is order is_frame drawn number_is len_is front =
    let command = on_link f c.link.next body in
    let more = link_more c.settings c.link c.draws d command is.link c.settings.limits.3.1 next free is_frame below some drawn (subst IsOutstanding link_is order) in
    let given : Turn = turn.Link number len in
    let does : DoesTurn (issues (record (leader_in c) { draws = d }) f body stage) (record c { slots = with_item c.slots i s; link = l; draws = d }) given old new = record {
      leader =
          ap (λ (x : Outstanding). leader_in (record c { slots = with_item c.slots i s; link = x; draws = d })) link_is
          ∙ issues_is c.settings c.boxes c.slots.items c.link d c.seed f body stage i s at row_is is_frame;
      told = record {
        turn = ap (λ n. let x : Turn = turn.Link n len in x) number_is ∙ ap (λ n. let x : Turn = turn.Link c.link.next n in x) len_is;
        bytes = front;
      };
      is = record {
        server = slot_set c.settings c.boxes c.slots.items i s is.server slot_is;
        link = subst (λ (x : Outstanding). IsLink c.settings x d) (sym link_is) more;
      };
    } in
    subst (λ (x : steps.Turn). DoesTurn x (record c { boxes = boxes; slots = with_item c.slots i s; link = l; draws = d }) given old new) (sym t_is)
    (subst (λ (b : Holdings). DoesTurn (issues (record (leader_in c) { draws = d }) f body stage) (record c { boxes = b; slots = with_item c.slots i s; link = l; draws = d }) given old new) (sym boxes_are) does)

-- ---- the audit that is issued

pub audits_is : (a : steps.Leader) (f : PlainFrame) (w : Write) (share : ProofShare) (point number : ℕ) (opened : Openings) → point ≡ sigma a → opened ≡ opens 0 w (counted a w) share point → number ≡ a.next →
    audits a f w share ≡ issues_drawn a f (frame.LinkAudit point opened) (steps.Auditing number w share point opened)
audits_is a f w share point number opened point_is opened_is number_is =
    ap (λ p. issues_drawn a f (frame.LinkAudit p (opens 0 w (counted a w) share p)) (steps.Auditing a.next w share p (opens 0 w (counted a w) share p))) (sym point_is)
    ∙ (ap (λ (o : Openings). issues_drawn a f (frame.LinkAudit point o) (steps.Auditing a.next w share point o)) (sym opened_is)
    ∙ ap (λ n. issues_drawn a f (frame.LinkAudit point opened) (steps.Auditing n w share point opened)) (sym number_is))
