-- The letters that a server's answer leads to.
use Rattle.std.proofs.Common.{◌≡◌, ℕ, ◌<◌, ◌^◌, Bool, true, false, cond, List, [], ◌∷◌, ◌++◌, length, take, Option, Some, None, Result, Ok, Err, refl, sym, ap, ap₂, ◌∙◌, append-nil}
use Rattle.express_words.specs.declared.refusal.Refusal.{Refusal}
use Rattle.frame_rules.specs.Frames.{PlainFrame}
use Rattle.frame_rules.specs.Spelling.{spelling}
use Rattle.frame_rules.specs.Whole.{whole, linked, if_linked, is_command}
use Rattle.frame_rules.proofs.WholeLaws.{whole_only}
use Rattle.helper_core.specs.State as helper_core
use Rattle.helper_core.specs.declared.helper.LinkTurn.TheVariants as link_turn
use Rattle.leader_core.specs.Told.{turned}
use Rattle.leader_core.specs.declared.turn.Turn.TheVariants as turn
use Rattle.step_rules.specs.Leader as leader
use Rattle.step_rules.specs.LeaderClients as submits
use Rattle.step_rules.specs.LeaderReplies.{on_reply_bytes, resent}
use Rattle.step_rules.specs.Helper as helper
use Rattle.step_rules.specs.HelperClients.{on_client}
use Rattle.step_rules.specs.HelperCommands.{arrives, if_command, on_link_bytes}
use Rattle.run_rules.specs.Letters.{Letter, letter, JournalLine, FrameWorld, ToClient, ToLeader, ToHelper, ToHelperLink, ToLeaderLink}
use Rattle.run_rules.specs.Run.{answer_letters, ack_letters, command_letters, helper_answers, to_helper_link, comes, ticks}
use Rattle.replay_world.specs.Posts.{noted, replied, lines_for}
use Rattle.replay_world.proofs.ReplyLanes.{HasLane}

-- ---- the leader, at a client's frame

pub reply_letters : (x : leader.Answer) (n lane : ℕ) (out bytes : List ℕ) → turned x ≡ turn.Reply n → bytes ≡ take n out → take (length (leader.written x)) out ≡ leader.written x → HasLane x
    → ((f : PlainFrame) → bytes ≡ spelling f → f.lane < 2 ^ 16 → lane ≡ f.lane) → letter (ToClient lane) bytes ∷ [] ≡ answer_letters x
reply_letters (leader.Reply reply) n lane out bytes e b w small named =
    let len : length (spelling reply) ≡ n = cc in
    let spelled : bytes ≡ spelling reply = b ∙ (ap (λ k. take k out) (sym len) ∙ w) in
    ap (λ k. letter (ToClient k) bytes ∷ []) (named reply spelled small) ∙ ap (λ (s : List ℕ). letter (ToClient reply.lane) s ∷ []) spelled
reply_letters (leader.Link number command) n lane out bytes e b w small named = absurd (cc e)
reply_letters (leader.StillWaiting number) n lane out bytes e b w small named = absurd (cc e)

-- ---- the helper, at a command

-- a reply to a command that was carried out
pub record IsCarried (x : helper.Answer) (bytes : List ℕ) : Type 0 where
  pub reply : PlainFrame
  pub is : x ≡ helper.Carried reply
  pub spelled : bytes ≡ spelling reply
  pub read : whole bytes ≡ Ok reply

pub carried_is : (x : helper.Answer) (n : ℕ) (out bytes : List ℕ) → helper_core.turned x ≡ link_turn.Carried n → bytes ≡ take n out → take (length (helper.written x)) out ≡ helper.written x
    → helper_core.IsCarriedFrame x → IsCarried x bytes
carried_is (helper.Carried reply) n out bytes e b w frame =
    let len : length (spelling reply) ≡ n = cc in
    let spelled : bytes ≡ spelling reply = b ∙ (ap (λ k. take k out) (sym len) ∙ w) in
    record { reply = reply; is = refl; spelled = spelled; read = whole_only reply bytes (record { is_frame = frame; spelled = spelled }) }
carried_is (helper.Repeated kept) n out bytes e b w frame = absurd (cc e)
carried_is helper.Ignored n out bytes e b w frame = absurd (cc e)

pub carried_lines : (command : List ℕ) (x : helper.Answer) (bytes : List ℕ) (lines : List JournalLine) → IsCarried x bytes → ((r : PlainFrame) → whole bytes ≡ Ok r → lines ≡ lines_for (whole command) r)
    → lines ≡ noted command x
carried_lines command x bytes lines is told = told is.reply is.read ∙ sym (ap (noted command) is.is)

-- ---- what all that is to the run

-- a frame of the class
linked_whole : (width : ℕ) (bytes : List ℕ) (f : PlainFrame) → linked is_command width bytes ≡ Some f → whole bytes ≡ Ok f
unfolding linked
linked_whole width bytes f e = at_whole (whole bytes) e
  where
    at_whole : (r : Result PlainFrame Refusal) → if_linked is_command width r ≡ Some f → r ≡ Ok f
    at_whole (Err refusal) e = absurd (cc e)
    at_whole (Ok g) e = ap Ok (at_test _ g e)
      where
        at_test : (t : Bool) (g : PlainFrame) → cond t (Some g) None ≡ Some f → g ≡ f
        at_test true g e = cc
        at_test false g e = absurd (cc e)

link_answers : (w : FrameWorld) (bytes : List ℕ) (f : PlainFrame) (h : helper.Helper) (x : helper.Answer) → whole bytes ≡ Ok f
    → record w { helper = h; journal = w.journal ++ noted bytes x; pool = w.pool ++ replied x } ≡ helper_answers (record w { helper = h }) (Some f) x
unfolding helper_answers
link_answers w bytes f h (helper.Carried reply) e =
    ap (λ r. record w { helper = h; journal = w.journal ++ lines_for r reply; pool = w.pool ++ replied (helper.Carried reply) }) e
link_answers w bytes f h (helper.Repeated kept) e =
    ap (λ (j : List JournalLine). record w { helper = h; journal = j; pool = w.pool ++ replied (helper.Repeated kept) }) (append-nil w.journal)
link_answers w bytes f h helper.Ignored e =
    ap₂ (λ (j : List JournalLine) (p : List Letter). record w { helper = h; journal = j; pool = p }) (append-nil w.journal) (append-nil w.pool)

pub link_moves : (w : FrameWorld) (bytes : List ℕ)
    → record w { helper = (on_link_bytes w.helper bytes).helper; journal = w.journal ++ noted bytes (on_link_bytes w.helper bytes).answer; pool = w.pool ++ replied (on_link_bytes w.helper bytes).answer }
    ≡ comes w ToHelperLink bytes
unfolding comes if_command helper_answers
link_moves w bytes = at_linked (linked is_command w.helper.server.settings.width bytes) refl
  where
    at_linked : (q : Option PlainFrame) → linked is_command w.helper.server.settings.width bytes ≡ q
        → record w { helper = (if_command w.helper q).helper; journal = w.journal ++ noted bytes (if_command w.helper q).answer; pool = w.pool ++ replied (if_command w.helper q).answer }
        ≡ to_helper_link w q (if_command w.helper q)
    at_linked None e =
        ap₂ (λ (j : List JournalLine) (p : List Letter). record w { journal = j; pool = p }) (append-nil w.journal) (append-nil w.pool)
    at_linked (Some f) e = link_answers w bytes f (arrives w.helper f).helper (arrives w.helper f).answer (linked_whole _ bytes f e)

-- the parts of a move, put together
pub helper_moves : (w : FrameWorld) (bytes : List ℕ) (h : helper.Helper) (pool : List Letter) → h ≡ (on_client w.helper bytes).helper
    → pool ≡ w.pool ++ letter (ToClient (on_client w.helper bytes).reply.lane) (spelling (on_client w.helper bytes).reply) ∷ []
    → record w { helper = h; pool = pool } ≡ comes w ToHelper bytes
unfolding comes
helper_moves w bytes h pool eh ep = ap₂ (λ (x : helper.Helper) (p : List Letter). record w { helper = x; pool = p }) eh ep

pub helper_link_moves : (w : FrameWorld) (bytes : List ℕ) (h : helper.Helper) (journal : List JournalLine) (pool : List Letter) → h ≡ (on_link_bytes w.helper bytes).helper
    → journal ≡ w.journal ++ noted bytes (on_link_bytes w.helper bytes).answer → pool ≡ w.pool ++ replied (on_link_bytes w.helper bytes).answer
    → record w { helper = h; journal = journal; pool = pool } ≡ comes w ToHelperLink bytes
helper_link_moves w bytes h journal pool eh ej ep =
    ap₂ (λ (x : helper.Helper) (j : List JournalLine). record w { helper = x; journal = j; pool = pool }) eh ej
    ∙ (ap (λ (p : List Letter). record w { helper = (on_link_bytes w.helper bytes).helper; journal = w.journal ++ noted bytes (on_link_bytes w.helper bytes).answer; pool = p }) ep
    ∙ link_moves w bytes)

pub leader_moves : (w : FrameWorld) (bytes : List ℕ) (a : leader.Leader) (pool : List Letter) → a ≡ (submits.on_client w.leader bytes).leader
    → pool ≡ w.pool ++ answer_letters (submits.on_client w.leader bytes).answer → record w { leader = a; pool = pool } ≡ comes w ToLeader bytes
unfolding comes
leader_moves w bytes a pool ea ep = ap₂ (λ (x : leader.Leader) (p : List Letter). record w { leader = x; pool = p }) ea ep

pub leader_link_moves : (w : FrameWorld) (bytes : List ℕ) (a : leader.Leader) (pool : List Letter) → a ≡ (on_reply_bytes w.leader bytes).leader
    → pool ≡ w.pool ++ ack_letters (on_reply_bytes w.leader bytes).ack → record w { leader = a; pool = pool } ≡ comes w ToLeaderLink bytes
unfolding comes
leader_link_moves w bytes a pool ea ep = ap₂ (λ (x : leader.Leader) (p : List Letter). record w { leader = x; pool = p }) ea ep

pub tick_moves : (w : FrameWorld) (pool : List Letter) → pool ≡ w.pool ++ command_letters (resent w.leader) → record w { pool = pool } ≡ ticks w
unfolding ticks
tick_moves w pool e = ap (λ (p : List Letter). record w { pool = p }) e
