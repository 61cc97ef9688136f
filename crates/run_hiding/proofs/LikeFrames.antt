-- What a helper does at a client's frame and at a command, where another differs in other lanes' rows and in shares.
use Rattle.std.proofs.Common.{◌≡◌, ◌∙◌, ◌<◌, ◌+◌, ℕ, Bool, true, false, cond, nat_le, nat_eq, List, [], length, Option, Some, None, slice_index_or, refl, sym, ap}
use Rattle.std.proofs.lemmas.List.{get_or-set_same}
use Rattle.express_words.specs.declared.refusal.Refusal.TheVariants as refusal
use Rattle.frame_rules.specs.Frames as frame
use Rattle.frame_rules.specs.Frames.{PlainFrame, PlainBody}
use Rattle.frame_rules.specs.Whole.{on_link}
use Rattle.step_rules.specs.Boxes.{Box}
use Rattle.step_rules.specs.Helper as helper
use Rattle.step_rules.specs.Helper.{Answer, Carried, Ignored, LinkTurn, Repeated, Helper, Row, Server, Turn, idle, row_at}
use Rattle.step_rules.specs.HelperClients.{RowTurn, at_row, by_kind, deposit_row, if_lane, proof_row}
use Rattle.step_rules.specs.HelperCommands.{arrives, carries_out, carried_with}
use Rattle.run_rules.specs.Acts.{does_after}
use Rattle.run_hiding.proofs.LikeBoxes.{bares}
use Rattle.run_hiding.specs.Flow.{shareless}
use Rattle.run_hiding.proofs.LikeHelper.{Seen, carries_alike}

-- a lane's row and the lane that is answered
pub record Turned : Type 0 where
  pub row : Row
  pub lane : ℕ

abbrev pub turned : Row → ℕ → Turned
turned r lane = record { row = r; lane = lane }

module _ (h : Server) (boxes : List Box) (rows : List Row) (f : PlainFrame) (same : slice_index_or rows f.lane idle ≡ row_at h f.lane) where
  abbrev other : Server
  other = record h { boxes = boxes; rows = rows }

  abbrev of : Turn → Turned
  of t = turned (row_at t.server f.lane) t.reply.lane

  past_lane : nat_le h.settings.lanes f.lane ≡ true → (t u : RowTurn) → of (if_lane other f t) ≡ of (if_lane h f u)
  unfolding if_lane
  past_lane past t u = rw past (ap (λ r. turned r f.lane) same)

  -- a lane that there isn't
  pub pasts_alike : nat_le h.settings.lanes f.lane ≡ true → (body : PlainBody) → of (by_kind other f body) ≡ of (by_kind h f body)
  unfolding by_kind
  pasts_alike past (frame.Deposit held) = past_lane past _ _
  pasts_alike past (frame.Proof share) = past_lane past _ _
  pasts_alike past body = ap (λ r. turned r 0) same

  -- a lane that there is
  module _ (low : f.lane < length h.rows) (few : f.lane < length rows) where
    at_lane : (t u : RowTurn) → t ≡ u → of (if_lane other f t) ≡ of (if_lane h f u)
    unfolding if_lane
    at_lane t u e = at_test (nat_le h.settings.lanes f.lane)
      where
        at_test : (past : Bool) → of (cond past (helper.refuses other f (refusal.Lane h.settings.lanes)) (at_row other f t))
            ≡ of (cond past (helper.refuses h f (refusal.Lane h.settings.lanes)) (at_row h f u))
        at_test true = ap (λ r. turned r f.lane) same
        at_test false =
            ap (λ r. turned r f.lane)
            (get_or-set_same rows f.lane t.row idle few ∙ ap (λ (t : RowTurn). t.row) e ∙ sym (get_or-set_same h.rows f.lane u.row idle low))

    pub kinds_alike : (body : PlainBody) → of (by_kind other f body) ≡ of (by_kind h f body)
    unfolding by_kind
    kinds_alike (frame.Deposit held) = at_lane _ _ (ap (λ r. deposit_row r f.serial held) same)
    kinds_alike (frame.Proof share) = at_lane _ _ (ap (λ r. proof_row r f.serial share) same)
    kinds_alike body = ap (λ r. turned r 0) same

-- ---- a command

-- the reply to a command that is carried out, and nothing else
abbrev pub fresh : Answer → Option PlainFrame
fresh (Carried reply) = Some (record reply { body = shareless reply.body })
fresh answer = None

pub record Ran : Type 0 where
  pub row : Row
  pub reply : Option PlainFrame

abbrev pub ran : Row → Option PlainFrame → Ran
ran r reply = record { row = r; reply = reply }

module _ (h : Helper) (boxes : List Box) (rows : List Row) (replies : List (List ℕ)) (f : PlainFrame) (like : bares boxes ≡ bares h.server.boxes)
    (low : f.lane < length h.server.rows) (few : f.lane < length rows) (same : slice_index_or rows f.lane idle ≡ row_at h.server f.lane) where
  abbrev another : Helper
  another = record { server = record h.server { boxes = boxes; rows = rows }; carried = h.carried; replies = replies }

  abbrev out : LinkTurn → Ran
  out t = ran (row_at t.helper.server f.lane) (fresh t.answer)

  -- a command that isn't the next leaves the rows
  passed : (g : Helper) (t u : Bool) (bytes : List ℕ)
      → out (cond t (cond u (record { helper = g; answer = Repeated bytes }) (record { helper = g; answer = Ignored })) (record { helper = g; answer = Ignored }))
      ≡ ran (row_at g.server f.lane) None
  passed g true true bytes = refl
  passed g true false bytes = refl
  passed g false u bytes = refl

  pub arrivals_alike : out (arrives another f) ≡ out (arrives h f)
  unfolding arrives
  arrivals_alike = at_next (nat_eq f.link (h.carried + 1)) _ _ (passed another _ _ _ ∙ ap (λ r. ran r None) same ∙ sym (passed h _ _ _))
    where
      at_next : (t : Bool) (x y : LinkTurn) → out x ≡ out y
          → out (cond t (carried_with another f (carries_out another.server f)) x) ≡ out (cond t (carried_with h f (carries_out h.server f)) y)
      at_next true x y e = ap (λ (z : Seen). ran z.row (Some (on_link f f.link z.body))) (carries_alike h.server boxes rows f like low few same)
      at_next false x y e = e

-- what a command does is told by the reply without the share
masked_does : (order : PlainBody) (share : List ℕ) → does_after order (frame.LinkReply (frame.ReplyMasked [])) ≡ does_after order (frame.LinkReply (frame.ReplyMasked share))
masked_does (frame.LinkRegister address) share = refl
masked_does (frame.LinkBegin drawn part) share = refl
masked_does (frame.LinkAudit sigma opened) share = refl
masked_does (frame.LinkSettle closing) share = refl
masked_does (frame.LinkRead number) share = refl
masked_does (frame.LinkRetire number) share = refl
masked_does order share = refl

pub hidden_does : (order reply : PlainBody) → does_after order (shareless reply) ≡ does_after order reply
hidden_does order (frame.LinkReply (frame.ReplyMasked share)) = masked_does order share
hidden_does order reply = refl
