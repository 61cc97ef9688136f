-- A frame leaves the rows of all lanes but its own, whatever it is.
use Rattle.std.proofs.Common.{◌≡◌, ◌∙◌, ℕ, Bool, true, false, cond, nat_eq, ◌&&◌, ◌⊎◌, List, [], ◌∷◌, Option, Some, None, Ok, Err, Result, slice_get, slice_index_or, refl, sym, ap, inl, inr}
use Rattle.std.proofs.lemmas.Bool.{and_parts, cases_eq, eqb-true}
use Rattle.std.proofs.lemmas.List.{get_or-set_other}
use Rattle.frame_rules.specs.Frames.{PlainFrame}
use Rattle.frame_rules.specs.Whole.{is_command, is_reply, linked, whole}
use Rattle.step_rules.specs.Helper as helper
use Rattle.step_rules.specs.Helper.{Helper, Server}
use Rattle.step_rules.specs.HelperClients.{client_turn}
use Rattle.step_rules.specs.HelperCommands.{on_link_bytes}
use Rattle.step_rules.specs.Leader as leader
use Rattle.step_rules.specs.Leader.{Leader}
use Rattle.step_rules.specs.LeaderClients.{on_client}
use Rattle.step_rules.specs.LeaderReplies.{answers, fits, if_fits, if_reply, ignored, on_reply_bytes, refusal_in}
use Rattle.step_rules.specs.Firsts.{LeaderWentOn}
use Rattle.step_rules.specs.Needs.{IssuedFor}
use Rattle.step_rules.proofs.HelperFirsts.{helper_goes_on, helper_takes_first}
use Rattle.step_rules.proofs.LeaderFirsts.{leader_goes_on}
use Rattle.step_rules.proofs.LeaderNeeds.{leader_needs}
use Rattle.run_rules.specs.Letters.{FrameWorld}
use Rattle.run_rules.specs.Run as frames
use Rattle.step_rules.specs.Client as client
use Rattle.step_rules.specs.Client.{Client, Fault, Finished, Progress}
use Rattle.step_rules.specs.ClientAsks.{asked}
use Rattle.run_rules.specs.Letters.{NoOwnBox}
use Rattle.mailbox_rules.specs.Requests.{Request}
use Rattle.token_rules.specs.Run.{own_of}

pub helper_client_rows : (h : Server) (bytes : List ℕ) (c : ℕ) → ((g : PlainFrame) → whole bytes ≡ Ok g → g.lane ≡ c → ⊥)
    → helper.row_at (client_turn h bytes).server c ≡ helper.row_at h c
helper_client_rows h bytes c never = elim (helper_takes_first h bytes c) [
  | inl same ↦ same
  | inr took ↦ absurd (never took.frame took.read took.lane)
]

pub helper_link_rows : (h : Helper) (bytes : List ℕ) (c : ℕ) → ((g : PlainFrame) → linked is_command h.server.settings.width bytes ≡ Some g → g.lane ≡ c → ⊥)
    → helper.row_at (on_link_bytes h bytes).helper.server c ≡ helper.row_at h.server c
helper_link_rows h bytes c never = elim (helper_goes_on h bytes c) [
  | inl same ↦ same
  | inr on ↦ absurd (never on.command on.read on.lane)
]

pub leader_client_rows : (a : Leader) (bytes : List ℕ) (c : ℕ) → ((g : PlainFrame) → whole bytes ≡ Ok g → g.lane ≡ c → ⊥)
    → leader.row_at (on_client a bytes).leader c ≡ leader.row_at a c
leader_client_rows a bytes c never = by_answer (on_client a bytes).answer (leader_needs a bytes)
  where
    by_answer : (answer : leader.Answer) → IssuedFor answer a bytes (on_client a bytes).leader → leader.row_at (on_client a bytes).leader c ≡ leader.row_at a c
    by_answer (leader.Link n command) issued = elim (cases_eq c issued.0.lane) [
      | inl same ↦ absurd (never issued.0 issued.1 (sym same))
      | inr other ↦ ap (λ rows. slice_index_or rows c leader.idle) issued.2.rows ∙ get_or-set_other a.rows issued.0.lane c _ leader.idle other
    ]
    by_answer (leader.Reply reply) same = ap (λ (a : Leader). leader.row_at a c) same
    by_answer (leader.StillWaiting n) same = ap (λ (a : Leader). leader.row_at a c) same

some_same : {x y : PlainFrame} → (let o : Option PlainFrame = Some x in o) ≡ Some y → x ≡ y
some_same e = cc

abbrev Goes : Leader → ℕ → leader.AckTurn → Type 0
Goes a c t = (leader.row_at t.leader c ≡ leader.row_at a c) ⊎ LeaderWentOn a c (leader.row_at a c) (leader.row_at t.leader c)

pub leader_link_rows : (a : Leader) (bytes : List ℕ) (c : ℕ) → ((g : PlainFrame) → linked is_reply a.settings.width bytes ≡ Some g → g.lane ≡ c → ⊥)
    → leader.row_at (on_reply_bytes a bytes).leader c ≡ leader.row_at a c
unfolding if_reply answers
leader_link_rows a bytes c never = by_found (linked is_reply a.settings.width bytes) refl (leader_goes_on a bytes c).1
  where
    by_head : (g : PlainFrame) (head : Option PlainFrame) → linked is_reply a.settings.width bytes ≡ Some g → slice_get a.outstanding 0 ≡ head → Goes a c (answers a g head)
        → leader.row_at (answers a g head).leader c ≡ leader.row_at a c
    by_head g None e at goes = refl
    by_head g (Some k) e at goes = by_test (nat_eq g.link k.link && (nat_eq g.lane k.lane && nat_eq g.serial k.serial)) refl goes
      where
        by_test : (t : Bool) → (nat_eq g.link k.link && (nat_eq g.lane k.lane && nat_eq g.serial k.serial)) ≡ t
            → Goes a c (cond t (if_fits a (fits a k g.body (refusal_in g.body))) (ignored a))
            → leader.row_at (cond t (if_fits a (fits a k g.body (refusal_in g.body))) (ignored a)).leader c ≡ leader.row_at a c
        by_test false f goes = refl
        by_test true f (inl same) = same
        by_test true f (inr on) =
            let one : k ≡ on.command = some_same (sym at ∙ on.oldest) in
            let lane : g.lane ≡ k.lane = eqb-true _ _ (and_parts _ _ (and_parts _ _ f).1).0 in
            absurd (never g e (lane ∙ ap (λ (k : PlainFrame). k.lane) one ∙ on.lane))

    by_found : (found : Option PlainFrame) → linked is_reply a.settings.width bytes ≡ found → Goes a c (if_reply a found)
        → leader.row_at (if_reply a found).leader c ≡ leader.row_at a c
    by_found None e goes = refl
    by_found (Some g) e goes = by_head g (slice_get a.outstanding 0) e refl goes

-- ---- what clients do leaves the leader

pub went_leader : (f : FrameWorld) (c : ℕ) (rs : List Request) → (frames.goes_on f c rs).leader ≡ f.leader
unfolding frames.goes_on frames.was_asked
went_leader f c [] = refl
went_leader f c (r ∷ rest) = at_asked (asked (f.clients c) r) (frames.goes_on (frames.notes f c (NoOwnBox (own_of r))) c rest) (went_leader (frames.notes f c (NoOwnBox (own_of r))) c rest)
  where
    at_asked : (a : Result Client Fault) (next : FrameWorld) → next.leader ≡ f.leader → (frames.was_asked f c rest next a).leader ≡ f.leader
    at_asked (Ok k) next e = refl
    at_asked (Err (client.NoBox own)) next e = e
    at_asked (Err client.Busy) next e = refl
    at_asked (Err client.Spent) next e = refl
    at_asked (Err (client.Width width)) next e = refl
    at_asked (Err (client.OwnFull n)) next e = refl

pub progress_leader : (f : FrameWorld) (c : ℕ) (p : Progress) → (frames.goes_on_after f c p).leader ≡ f.leader
unfolding frames.goes_on_after
progress_leader f c (Finished outcome) = went_leader (frames.notes f c _) c (f.waiting c)
progress_leader f c client.Ignored = refl
progress_leader f c (client.Later r) = refl
progress_leader f c client.Next = refl

pub answers_leader : (f : FrameWorld) (order : Option PlainFrame) (a : helper.Answer) → (frames.helper_answers f order a).leader ≡ f.leader
unfolding frames.helper_answers
answers_leader f order (helper.Carried reply) = refl
answers_leader f order (helper.Repeated bytes) = refl
answers_leader f order helper.Ignored = refl
