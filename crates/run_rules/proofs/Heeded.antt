-- Frames of clients' current requests are heeded, whenever they come.
use Rattle.std.proofs.Common.{◌≡◌, ℕ, zero, suc, ◌<◌, ◌≤◌, ◌-◌, ◌^◌, nat_lt, Bool, true, false, is_none, List, [], ◌∷◌, length, Ok, Option, Some, None, slice_get, refl, sym, ap, ◌∙◌, subst, arith}
use Rattle.std.proofs.lemmas.Bool.{cond_both, false_from_ne_true, ltb-true}
use Rattle.std.proofs.lemmas.List.{length-take}
use Rattle.frame_rules.specs.Frames as frame
use Rattle.frame_rules.specs.Frames.{PlainFrame, PlainBody}
use Rattle.frame_rules.specs.Spelling.{spelling, IsFrame}
use Rattle.frame_rules.specs.Whole.{has_width, whole}
use Rattle.mailbox_rules.specs.Requests.{Request, Register, Write, Read, Retire, Command}
use Rattle.mailbox_rules.specs.Tables.{Gave, Full, NoBox, Registered, Result, Settled, Taken}
use Rattle.mailbox_rules.specs.Requests.{Line}
use Rattle.token_rules.specs.Tokens as token
use Rattle.token_rules.specs.Tokens.{Token, World}
use Rattle.token_rules.specs.Laws.{HelperTakesProof, IsBusy, LeaderTakesProof}
use Rattle.token_rules.specs.Lawful.{Lawful}
use Rattle.lane_table.specs.Gates.{same_want}
use Rattle.lane_table.specs.declared.row.Want.TheVariants as want
use Rattle.step_rules.specs.Helper as helper
use Rattle.step_rules.specs.HelperClients as holds
use Rattle.step_rules.specs.Leader as leader
use Rattle.step_rules.specs.Leader.{Turn}
use Rattle.step_rules.specs.LeaderClients as submits
use Rattle.step_rules.specs.LeaderClients.{Named}
use Rattle.step_rules.specs.Client.{Client, Owned}
use Rattle.step_rules.specs.ClientAsks.{owned_token, read_submission, submission_of}
use Rattle.step_tokens.specs.HelperRows as helper_rows
use Rattle.step_tokens.specs.LeaderRows as leader_rows
use Rattle.step_tokens.specs.LeaderRows.{IsOver, is_full}
use Rattle.run_rules.specs.Letters.{Addressee, FrameWorld, Letter, ToHelper, ToHelperLink, ToLeader, ToLeaderLink}
use Rattle.run_rules.specs.Book.{Book, client_at, request_of, wants}
use Rattle.run_rules.specs.Frames.{answer_at, answer_with, deposit_at, frame_of, frame_with, if_asked, proof_at, submission_at}
use Rattle.run_rules.specs.Follows.{Carries, ClientFollows, Follows, IsFrameOf, IsLinked, LeaderHolds, Pools, Sound, Within}
use Rattle.run_rules.specs.Heeded.{CurrentIsHeeded, Heeds, HeedsWith, IsOfCurrent, is_proof}
use Rattle.run_rules.proofs.Basics.{whole_spelled}
use Rattle.run_rules.proofs.ClientHears as hears
use Rattle.run_rules.proofs.Contents.{deposit_is, from_client_is, proof_is}
use Rattle.run_rules.proofs.HelperRuns as helps
use Rattle.run_rules.proofs.HelperRuns.{same_wants}
use Rattle.run_rules.proofs.HeededSteps.{KeptHeeds, deposit_answer, proof_answer, proof_heeds, submission_heeds}
use Rattle.run_rules.proofs.LeaderClients as leads
use Rattle.run_rules.proofs.WholeBoth.{Outside}

-- the token of a letter of the pool
token_of : (b : Book) (ts : List Token) (ls : List Letter) (n : ℕ) (l : Letter) → Pools b ts ls → slice_get ls n ≡ Some l
    → (t : Token) × (slice_get ts n ≡ Some t) × Carries b t l
token_of b (t ∷ ts) (m ∷ ls) zero l h e = let same : m ≡ l = cc in (t, refl, subst (Carries b t) same h.0)
token_of b (t ∷ ts) (m ∷ ls) (suc n) l h e = token_of b ts ls n l h.1 e
token_of b ts [] n l h e = absurd (cc e)
token_of b [] (m ∷ ls) n l h e = absurd h

-- bytes spell one frame
one_frame : (f g : PlainFrame) → IsFrame f → IsFrame g → spelling f ≡ spelling g → f ≡ g
one_frame f g p q e = let both : Ok f ≡ Ok g = sym (whole_spelled f p) ∙ ap whole e ∙ whole_spelled g q in cc

-- a client with a current request has the serial of its lane
pub busy_step : (b : Book) (c step serial : ℕ) (client : Client) → ClientFollows b c client step serial
    → is_none client.current ≡ false → (0 < step) × (client.serial ≡ serial)
busy_step b c zero serial client k busy = let idle : is_none client.current ≡ true = ap is_none k.current in absurd (cc (busy, idle))
busy_step b c (suc n) serial client k busy = (omega arith, k.number)

-- an answer that ends a request heeds each frame of it
answer_heeds : (b : Book) (i : ℕ) (x : Line) (first last : Result) (full : Bool) → HeedsWith full (answer_with b i x first last)
unfolding answer_with
answer_heeds b i x first (Registered n) full = tt
answer_heeds b i x first (Taken n) full = tt
answer_heeds b i x first (Full limit) full = tt
answer_heeds b i x first (Settled true) full = tt
answer_heeds b i x first (Settled false) full = tt
answer_heeds b i x (Gave m more) (Gave n bytes) full = tt
answer_heeds b i x first (NoBox n) full = tt
answer_heeds b i x first last full = tt

kept_heeds : (b : Book) (c s : ℕ) (full : Bool) (stage : leader.Stage) → LeaderHolds b c s stage → KeptHeeds full stage
unfolding answer_at
kept_heeds b c s full (leader.Challenged write kept) h = subst (HeedsWith full) (sym h.1) tt
kept_heeds b c s full (leader.Done want kept) h = subst (HeedsWith full) (sym h.0) (answer_heeds b _ _ _ _ full)
kept_heeds b c s full leader.Idle h = tt
kept_heeds b c s full (leader.Waiting number asked) h = tt
kept_heeds b c s full (leader.Auditing number write share sigma opened) h = tt
kept_heeds b c s full (leader.Settling number write own other) h = tt

over_at : (stage : leader.Stage) → (IsBusy (leader_rows.bare_phase stage) → ⊥) → IsOver stage
over_at (leader.Waiting number asked) n = n tt
over_at (leader.Auditing number write share sigma opened) n = n tt
over_at (leader.Settling number write own other) n = n tt
over_at leader.Idle n = tt
over_at (leader.Challenged write kept) n = tt
over_at (leader.Done want kept) n = tt

-- a row of a write takes its proof
helper_takes : (stage : helper.Stage) → helper.want_of stage ≡ want.Write → HelperTakesProof (helper_rows.bare_phase stage)
    → helper_rows.TakesProof stage
helper_takes (helper.Begun write) e h = tt
helper_takes (helper.Proved write share) e h = tt
helper_takes (helper.Audited write own) e h = tt
helper_takes (helper.Done asked) e h = same_wants want.Write asked (sym e)
helper_takes helper.Idle e h = absurd h
helper_takes (helper.Deposited held) e h = absurd h

leader_takes : (stage : leader.Stage) → leader.want_of stage ≡ want.Write → LeaderTakesProof (leader_rows.bare_phase stage)
    → leader_rows.TakesProof stage
leader_takes (leader.Challenged write kept) e h = tt
leader_takes (leader.Auditing number write share sigma opened) e h = tt
leader_takes (leader.Settling number write own other) e h = tt
leader_takes (leader.Done asked kept) e h = same_wants want.Write asked (sym e)
leader_takes leader.Idle e h = absurd h
leader_takes (leader.Waiting number asked) e h = absurd h

-- ---- by the kind of a submission

module _ (full : Bool) (a : leader.Leader) (b : Book) (c s : ℕ)
    (all : (body : PlainBody) (asked : leader.Asked) (named : Option Named) → leader.want_in asked ≡ wants (request_of b c s)
    → Heeds full (submits.on_submission a (frame_with c s 0 body) asked named).answer) where
  by_own : (k : Client) (own : Option Owned) (make : ℕ → ℕ → PlainBody) (body : PlainBody) → read_submission k make own ≡ Some body
      → ((n held : ℕ) → Heeds full (submits.by_kind a (frame_with c s 0 (make n held)) (make n held)).answer)
      → Heeds full (submits.by_kind a (frame_with c s 0 body) body).answer
  unfolding read_submission
  by_own k (Some own) make body e h =
      let same : make own.number (owned_token k (λ o. o.key0) own) ≡ body = cc in
      subst (λ body. Heeds full (submits.by_kind a (frame_with c s 0 body) body).answer) same (h own.number (owned_token k (λ o. o.key0) own))
  by_own k None make body e h = absurd (cc e)

  by_request : (k : Client) (r : Option Request) (body : PlainBody) → r ≡ request_of b c s → if_asked (submission_of k) r ≡ Some body
      → Heeds full (submits.by_kind a (frame_with c s 0 body) body).answer
  unfolding submission_of submits.by_kind
  by_request k (Some (Register address)) body q e =
      let made : (x : PlainBody) × (Some x ≡ Some body) = (_, e) in
      let same : made.0 ≡ body = cc made.1 in
      subst (λ body. Heeds full (submits.by_kind a (frame_with c s 0 body) body).answer) same (all _ _ None (ap wants q))
  by_request k (Some (Write target message)) body q e =
      let made : (x : PlainBody) × (Some x ≡ Some body) = (_, e) in
      let same : made.0 ≡ body = cc made.1 in
      subst (λ body. Heeds full (submits.by_kind a (frame_with c s 0 body) body).answer) same
      (cond_both {A = Turn} (has_width a.settings.width made.0) _ _ (λ t. Heeds full t.answer) (λ t. all _ _ None (ap wants q)) (λ t. tt))
  by_request k (Some (Read own)) body q e =
      by_own k (slice_get k.owned own) frame.Read body e (λ n held. all _ (leader.Reading n) _ (ap wants q))
  by_request k (Some (Retire own)) body q e =
      by_own k (slice_get k.owned own) frame.Retire body e (λ n held. all _ (leader.Retiring n) _ (ap wants q))
  by_request k None body q e = absurd (cc e)

  pub heeds_kind : (body : PlainBody) → submission_at b c s ≡ Some body → Heeds full (submits.by_kind a (frame_with c s 0 body) body).answer
  unfolding submission_at
  heeds_kind body e = by_request (client_at b c s) (request_of b c s) body refl e

-- ---- a frame of the pool

-- what servers send each other is for the link
linked_elsewhere : (b : Book) (l : Letter) (to other : Addressee) (n : ℕ) (x : Line) (t : Token) (foreign : Bool)
    → IsLinked b l to n x t foreign → l.to ≡ other → (other ≡ to → ⊥) → ⊥
linked_elsewhere b l to other n x t true h e apart = apart (sym e ∙ h.spelled.at)
linked_elsewhere b l to other n x t false h e apart = apart (sym e ∙ h.spelled.at)

module _ (b : Book) (f : FrameWorld) (w : World) (h : Follows b f w) (lawful : Lawful w) (sound : Sound b) (within : Within b w)
    (outside : Outside b.foreign w f) where
  -- what a frame of a lane and serial is where it is a client's current one
  record Mine (d s : ℕ) : Type 0 where
    hon : b.foreign d ≡ false
    step : 0 < (w.lanes d).step
    serial : s ≡ (w.lanes d).serial
    first : 0 < s

  mine : (c d s : ℕ) (l : Letter) (body : PlainBody) → b.foreign c ≡ false → (k : IsOfCurrent f c l) → frame_with d s 0 body ≡ k.frame
      → Mine d s
  mine c d s l body hon k is =
      let lane : c ≡ d = sym k.lane ∙ ap (λ g. g.lane) (sym is) in
      let st = busy_step b c (w.lanes c).step (w.lanes c).serial (f.clients c) (hears.client_at b f w c h hon) k.busy in
      let s_is : s ≡ (w.lanes c).serial = ap (λ g. g.serial) is ∙ k.serial ∙ st.1 in
      let first : 0 < (w.lanes c).serial = lawful.numbered c (ap (λ g. g c) h.foreign ∙ hon) st.0 in
      record {
        hon = subst (λ c. b.foreign c ≡ false) lane hon;
        step = subst (λ c. 0 < (w.lanes c).step) lane st.0;
        serial = subst (λ c. s ≡ (w.lanes c).serial) lane s_is;
        first = subst (λ n. 0 < n) (sym s_is) first;
      }

  abbrev IsMine : ℕ → ℕ → PlainFrame → Type 0
  IsMine d s g = (body : PlainBody) → frame_with d s 0 body ≡ g → Mine d s

  hon_w : (d : ℕ) → b.foreign d ≡ false → w.foreign d ≡ false
  hon_w d hon = ap (λ g. g d) h.foreign ∙ hon

  -- the frame that a letter's token stands for
  same_frame : (l : Letter) (to : Addressee) (d : ℕ) (t : Token) (k : IsFrameOf b l to d t) (g : PlainFrame) → IsFrame g → l.bytes ≡ spelling g
      → k.frame ≡ g
  same_frame l to d t k g fr bytes = one_frame k.frame g k.spelled.is_frame fr (sym k.spelled.bytes ∙ bytes)

  deposit_is_held : (d s place : ℕ) (l : Letter) → slice_get w.pool place ≡ Some (token.Deposit d s) → IsFrameOf b l ToHelper d (token.Deposit d s)
      → (g : PlainFrame) → IsFrame g → l.bytes ≡ spelling g → IsMine d s g
      → (holds.on_client f.helper l.bytes).reply.body ≡ frame.Held (is_proof g.body)
  unfolding frame_of
  deposit_is_held d s place l at k g fr bytes of =
      let m = from_client_is d s (deposit_at b d s) k.frame k.is in
      let x = deposit_is b d s m.body m.is in
      let same : frame_with d s 0 (frame.Deposit x.held) ≡ g =
      ap (frame_with d s 0) x.is ∙ m.frame ∙ same_frame l ToHelper d (token.Deposit d s) k g fr bytes in
      let n = of (frame.Deposit x.held) same in
      let first = n.first in
      let r = helper.row_at f.helper.server d in
      let hr = helps.row_of b f w d h n.hon k.lane in
      let serial : r.serial ≡ (w.lanes d).helper.serial = ap (λ x. x.serial) hr.bare in
      let low : (w.lanes d).helper.serial ≤ s = lawful.heeded d place (token.Deposit d s) (hon_w d n.hon) n.step at (refl, n.serial) in
      let wanted : s ≡ r.serial → same_want (helper.want_in x.held) (helper.want_of r.stage) ≡ true =
      λ e. same_wants (helper.want_in x.held) (helper.want_of r.stage)
      (x.want ∙ ap (λ n. wants (request_of b d n)) e ∙ sym (hr.want (omega (arith, first, e)))) in
      let there : d < f.helper.server.settings.lanes = let is = h.helper.settings in let low = k.lane in rw is low in
      deposit_answer f.helper d s x.held l.bytes there
      (ap whole bytes ∙ ap (λ g. whole (spelling g)) (sym same) ∙ whole_spelled _ (subst IsFrame (sym same) fr)) (omega (arith, low, serial)) wanted
      ∙ ap (λ g. frame.Held (is_proof g.body)) same

  proof_is_held : (d s place : ℕ) (l : Letter) → slice_get w.pool place ≡ Some (token.ProofToHelper d s) → IsFrameOf b l ToHelper d (token.ProofToHelper d s)
      → (g : PlainFrame) → IsFrame g → l.bytes ≡ spelling g → IsMine d s g
      → (holds.on_client f.helper l.bytes).reply.body ≡ frame.Held (is_proof g.body)
  unfolding frame_of
  proof_is_held d s place l at k g fr bytes of =
      let m = from_client_is d s (proof_at b 1 d s) k.frame k.is in
      let frame_is = m.frame ∙ same_frame l ToHelper d (token.ProofToHelper d s) k g fr bytes in
      let n = of m.body frame_is in
      let x = proof_is b 1 d s m.body n.hon m.is in
      let same : frame_with d s 0 (frame.Proof x.share) ≡ g = ap (frame_with d s 0) x.is ∙ frame_is in
      let first = n.first in
      let r = helper.row_at f.helper.server d in
      let hr = helps.row_of b f w d h n.hon k.lane in
      let serial : r.serial ≡ (w.lanes d).helper.serial = ap (λ x. x.serial) hr.bare in
      let heeded = lawful.heeded d place (token.ProofToHelper d s) (hon_w d n.hon) n.step at (refl, n.serial) in
      let now : s ≡ r.serial = sym (serial ∙ heeded.0) in
      let wants_write : helper.want_of r.stage ≡ want.Write = hr.want (omega (arith, first, now)) ∙ ap (λ n. wants (request_of b d n)) (sym now) ∙ x.want in
      let takes = helper_takes r.stage wants_write (subst (λ x. HelperTakesProof x.phase) (sym hr.bare) heeded.1) in
      let there : d < f.helper.server.settings.lanes = let is = h.helper.settings in let low = k.lane in rw is low in
      proof_answer f.helper d s x.share l.bytes there
      (ap whole bytes ∙ ap (λ g. whole (spelling g)) (sym same) ∙ whole_spelled _ (subst IsFrame (sym same) fr)) now takes
      ∙ ap (λ g. frame.Held (is_proof g.body)) same

  numbers : nat_lt (2 ^ 64 - 65) f.leader.next ≡ false
  numbers =
      let e = h.leader.next in
      let n = sound.numbers in
      let t = ap length within.commands ∙ length-take (length w.commands) b.commands in
      false_from_ne_true _ (λ t0. let l = ltb-true _ _ t0 in omega (arith, e, n, t, l))

  -- the leader's turn at a frame that came
  at_frame : (l : Letter) (g : PlainFrame) → IsFrame g → l.bytes ≡ spelling g
      → submits.by_kind f.leader g g.body ≡ submits.on_client f.leader l.bytes
  unfolding submits.on_whole
  at_frame l g fr bytes = sym (ap (submits.on_whole f.leader) (ap whole bytes ∙ whole_spelled g fr))

  submission_is_heeded : (d s place : ℕ) (y : Command) (l : Letter) → slice_get w.pool place ≡ Some (token.Submission d s y)
      → IsFrameOf b l ToLeader d (token.Submission d s y) → (g : PlainFrame) → IsFrame g → l.bytes ≡ spelling g → IsMine d s g
      → Heeds (is_full f.leader) (submits.on_client f.leader l.bytes).answer
  unfolding frame_of
  submission_is_heeded d s place y l at k g fr bytes of =
      let m = from_client_is d s (submission_at b d s) k.frame k.is in
      let same : frame_with d s 0 m.body ≡ g = m.frame ∙ same_frame l ToLeader d (token.Submission d s y) k g fr bytes in
      let n = of m.body same in
      let first = n.first in
      let r = leader.row_at f.leader d in
      let hr = leads.row_of b f w d h n.hon k.lane in
      let serial : r.serial ≡ (w.lanes d).leader.serial = ap (λ x. x.serial) hr.bare in
      let heeded = lawful.heeded d place (token.Submission d s y) (hon_w d n.hon) n.step at (refl, n.serial) in
      let low = heeded.0 in
      let over : r.serial < s → IsOver r.stage =
      λ less. over_at r.stage (λ busy. heeded.1 (omega (arith, less, serial)) (subst (λ x. IsBusy x.phase) hr.bare busy)) in
      let there : d < f.leader.settings.lanes = let is = h.leader.settings in let low = k.lane in rw is low in
      let turn = ap (λ (g : PlainFrame). submits.by_kind f.leader g g.body) same ∙ at_frame l g fr bytes in
      subst (λ (t : Turn). Heeds (is_full f.leader) t.answer) turn
      (heeds_kind (is_full f.leader) f.leader b d s
      (λ body asked named wanted. submission_heeds f.leader (frame_with d s 0 body) there numbers
      (kept_heeds b d r.serial (is_full f.leader) r.stage hr.holds) asked named (omega (arith, low, serial)) over
      (λ e. same_wants (leader.want_in asked) (leader.want_of r.stage)
      (wanted ∙ ap (λ n. wants (request_of b d n)) e ∙ sym (hr.want (omega (arith, first, e))))))
      m.body m.is)

  proof_is_heeded : (d s place : ℕ) (l : Letter) → slice_get w.pool place ≡ Some (token.ProofToLeader d s)
      → IsFrameOf b l ToLeader d (token.ProofToLeader d s) → (g : PlainFrame) → IsFrame g → l.bytes ≡ spelling g → IsMine d s g
      → Heeds (is_full f.leader) (submits.on_client f.leader l.bytes).answer
  unfolding frame_of submits.by_kind
  proof_is_heeded d s place l at k g fr bytes of =
      let m = from_client_is d s (proof_at b 0 d s) k.frame k.is in
      let frame_is = m.frame ∙ same_frame l ToLeader d (token.ProofToLeader d s) k g fr bytes in
      let n = of m.body frame_is in
      let x = proof_is b 0 d s m.body n.hon m.is in
      let same : frame_with d s 0 (frame.Proof x.share) ≡ g = ap (frame_with d s 0) x.is ∙ frame_is in
      let first = n.first in
      let r = leader.row_at f.leader d in
      let hr = leads.row_of b f w d h n.hon k.lane in
      let serial : r.serial ≡ (w.lanes d).leader.serial = ap (λ x. x.serial) hr.bare in
      let heeded = lawful.heeded d place (token.ProofToLeader d s) (hon_w d n.hon) n.step at (refl, n.serial) in
      let now : s ≡ r.serial = sym (serial ∙ heeded.0) in
      let wants_write : leader.want_of r.stage ≡ want.Write = hr.want (omega (arith, first, now)) ∙ ap (λ n. wants (request_of b d n)) (sym now) ∙ x.want in
      let takes = leader_takes r.stage wants_write (subst (λ x. LeaderTakesProof x.phase) (sym hr.bare) heeded.1) in
      let there : d < f.leader.settings.lanes = let is = h.leader.settings in let low = k.lane in rw is low in
      let turn = ap (λ (g : PlainFrame). submits.by_kind f.leader g g.body) same ∙ at_frame l g fr bytes in
      subst (λ (t : Turn). Heeds (is_full f.leader) t.answer) turn
      (proof_heeds f.leader (frame_with d s 0 (frame.Proof x.share)) there numbers
      (kept_heeds b d r.serial (is_full f.leader) r.stage hr.holds) x.share now takes)

  -- bytes from outside are of no client
  not_outside : (c place : ℕ) (l : Letter) (to_leader : Bool) (lane : Option ℕ) → b.foreign c ≡ false → (k : IsOfCurrent f c l)
      → slice_get w.pool place ≡ Some (token.Injected to_leader lane) → slice_get f.pool place ≡ Some l
      → Carries b (token.Injected to_leader lane) l → ⊥
  not_outside c place l to_leader None hon k at here h = h.1 k.frame k.is_frame k.bytes k.kind
  not_outside c place l to_leader (Some d) hon k at here h =
      let out = outside place (token.Injected to_leader (Some d)) l at here in
      let same : h.1.0 ≡ k.frame = one_frame h.1.0 k.frame h.1.1.0 k.is_frame (sym h.1.1.1.0 ∙ k.bytes) in
      let lane : d ≡ c = sym h.1.1.1.1.0 ∙ ap (λ g. g.lane) same ∙ k.lane in
      cc (ap b.foreign lane, out.names, hon)

  abbrev IsHeldAt : (c : ℕ) (l : Letter) → IsOfCurrent f c l → Type 0
  IsHeldAt c l k = (holds.on_client f.helper l.bytes).reply.body ≡ frame.Held (is_proof k.frame.body)

  held_at : (c : ℕ) (l : Letter) → b.foreign c ≡ false → (k : IsOfCurrent f c l) → l.to ≡ ToHelper → (t : Token) → slice_get w.pool k.place ≡ Some t
      → Carries b t l → IsHeldAt c l k
  held_at c l hon k to (token.Deposit d s) at h =
      deposit_is_held d s k.place l at h k.frame k.is_frame k.bytes (λ body. mine c d s l body hon k)
  held_at c l hon k to (token.ProofToHelper d s) at h =
      proof_is_held d s k.place l at h k.frame k.is_frame k.bytes (λ body. mine c d s l body hon k)
  held_at c l hon k to (token.Injected to_leader lane) at h = absurd (not_outside c k.place l to_leader lane hon k at k.is h)
  held_at c l hon k to (token.Submission d s y) at h = let e = sym to ∙ h.1.spelled.at in absurd (cc e)
  held_at c l hon k to (token.ProofToLeader d s) at h = let e = sym to ∙ h.spelled.at in absurd (cc e)
  held_at c l hon k to (token.Ordered n x) at h = absurd (linked_elsewhere b l ToHelperLink ToHelper n x (token.Ordered n x) (b.foreign x.lane) h to (λ e. cc e))
  held_at c l hon k to (token.Replied n x) at h = absurd (linked_elsewhere b l ToLeaderLink ToHelper n x (token.Replied n x) (b.foreign x.lane) h to (λ e. cc e))
  held_at c l hon k to (token.HeldDeposit d s) at h = let e = sym to ∙ h.spelled.at in absurd (cc e)
  held_at c l hon k to (token.HeldProof d s) at h = let e = sym to ∙ h.spelled.at in absurd (cc e)
  held_at c l hon k to (token.Challenge d s) at h = let e = sym to ∙ h.spelled.at in absurd (cc e)
  held_at c l hon k to (token.Answer d s) at h = let e = sym to ∙ h.spelled.at in absurd (cc e)
  held_at c l hon k to (token.Later d s) at h = let e = sym to ∙ h.spelled.at in absurd (cc e)
  held_at c l hon k to (token.Foreign d) at h = let e = sym to ∙ h.spelled.at in absurd (cc e)

  heeded_at : (c : ℕ) (l : Letter) → b.foreign c ≡ false → (k : IsOfCurrent f c l) → l.to ≡ ToLeader → (t : Token) → slice_get w.pool k.place ≡ Some t
      → Carries b t l → Heeds (is_full f.leader) (submits.on_client f.leader l.bytes).answer
  heeded_at c l hon k to (token.Submission d s y) at h =
      submission_is_heeded d s k.place y l at h.1 k.frame k.is_frame k.bytes (λ body. mine c d s l body hon k)
  heeded_at c l hon k to (token.ProofToLeader d s) at h =
      proof_is_heeded d s k.place l at h k.frame k.is_frame k.bytes (λ body. mine c d s l body hon k)
  heeded_at c l hon k to (token.Injected to_leader lane) at h = absurd (not_outside c k.place l to_leader lane hon k at k.is h)
  heeded_at c l hon k to (token.Deposit d s) at h = let e = sym to ∙ h.spelled.at in absurd (cc e)
  heeded_at c l hon k to (token.ProofToHelper d s) at h = let e = sym to ∙ h.spelled.at in absurd (cc e)
  heeded_at c l hon k to (token.Ordered n x) at h = absurd (linked_elsewhere b l ToHelperLink ToLeader n x (token.Ordered n x) (b.foreign x.lane) h to (λ e. cc e))
  heeded_at c l hon k to (token.Replied n x) at h = absurd (linked_elsewhere b l ToLeaderLink ToLeader n x (token.Replied n x) (b.foreign x.lane) h to (λ e. cc e))
  heeded_at c l hon k to (token.HeldDeposit d s) at h = let e = sym to ∙ h.spelled.at in absurd (cc e)
  heeded_at c l hon k to (token.HeldProof d s) at h = let e = sym to ∙ h.spelled.at in absurd (cc e)
  heeded_at c l hon k to (token.Challenge d s) at h = let e = sym to ∙ h.spelled.at in absurd (cc e)
  heeded_at c l hon k to (token.Answer d s) at h = let e = sym to ∙ h.spelled.at in absurd (cc e)
  heeded_at c l hon k to (token.Later d s) at h = let e = sym to ∙ h.spelled.at in absurd (cc e)
  heeded_at c l hon k to (token.Foreign d) at h = let e = sym to ∙ h.spelled.at in absurd (cc e)

  pub current_is_heeded : CurrentIsHeeded b f w
  current_is_heeded = record {
    helper = λ c l hon k to. let t = token_of b w.pool f.pool k.place l h.pool k.is in held_at c l hon k to t.0 t.1 t.2;
    leader = λ c l hon k to. let t = token_of b w.pool f.pool k.place l h.pool k.is in heeded_at c l hon k to t.0 t.1 t.2;
  }
