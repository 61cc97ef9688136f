-- A later request is taken, whatever became of the last one.
use Rattle.std.specs.Prelude.{◌≡◌, ℕ, ◌<◌, ◌≤◌, Bool, true, false, cond, nat_le, nat_lt, nat_eq, refl, List, Option, Some, None, Result, Ok, Err, slice_get}
use Rattle.std.proofs.Common.{sym, subst, inl, inr, ◌∙◌, arith}
use Rattle.std.proofs.lemmas.Bool.{cond_both, eq-eqb, eqb-true, leb-true, ltb-true}
use Rattle.express_words.specs.declared.refusal.Refusal.{Refusal}
use Rattle.express_words.specs.declared.refusal.Refusal.TheVariants as refusal
use Rattle.frame_rules.specs.declared.frame.DepositBody.{DepositBody}
use Rattle.frame_rules.specs.Frames as frame
use Rattle.frame_rules.specs.Frames.{PlainFrame, PlainBody}
use Rattle.frame_rules.specs.Whole.{whole}
use Rattle.lane_table.specs.Gates.{opening_gate, same_want}
use Rattle.lane_table.specs.declared.gate.Gate.{Gate}
use Rattle.lane_table.specs.declared.gate.Gate.TheVariants.{New, Same, Stale, Phase}
use Rattle.step_rules.specs.Client as client
use Rattle.step_rules.specs.Client.{Client, Current, Later}
use Rattle.step_rules.specs.ClientReplies.{by_refusal, if_current, if_whole, is_mine, on_refusal, refusal_in}
use Rattle.step_rules.specs.Helper as helper
use Rattle.step_rules.specs.Helper.{Deposited, Server, want_in, want_of}
use Rattle.step_rules.specs.HelperClients as helper_clients
use Rattle.step_rules.specs.HelperClients.{at_row, by_kind, deposit_at, deposit_row, if_lane}
use Rattle.step_rules.specs.Leader as leader
use Rattle.step_rules.specs.Leader.{Leader, Answer, Link, Reply, StillWaiting}
use Rattle.step_rules.specs.LeaderClients.{on_client}
use Rattle.step_laws.specs.Causes.{AnswersBytes, AnswersIf, AnswersTaken, IsCause, IsStale, Names, is_taken, wrong_at}
use Rattle.step_laws.specs.Lanes.{DepositIsHeld, IsLater, IsPassing, IsSubmission, IssuesOrAgain, LaterIsTaken, NamesItsBox, RequestsGoOn}
use Rattle.step_laws.proofs.LeaderCauses.{leader_answers}

-- ---- the leader

stale_is_less : (body : PlainBody) (s t : ℕ) → IsSubmission body → IsStale body s t → s < t
stale_is_less (frame.Proof share) s t submits stale = absurd submits
stale_is_less body s t submits stale = stale

no_box : (a : Leader) (f : PlainFrame) (body : PlainBody) (number held : ℕ) → NamesItsBox a f body → Names body number held
    → slice_get a.boxes number ≡ None → ⊥
no_box a f (frame.Read n h) number held box named none = cc (box.is, none, named.0)
no_box a f (frame.Retire n h) number held box named none = cc (box.is, none, named.0)
no_box a f body number held box named none = named

module _ (a : Leader) (bytes : List ℕ) (f : PlainFrame) (l : IsLater a bytes f) where
  not_same : f.serial ≡ (leader.row_at a f.lane).serial → ⊥
  not_same same = let later = l.later in omega (arith, later, same)

  by_cause : (reply : PlainFrame) (why : Refusal) → reply.body ≡ frame.Refused why → IsCause a f why → IssuesOrAgain a (Reply reply)
  by_cause reply (refusal.Lane limit) is because = let low = l.lane in let most = because.1 in absurd (omega (arith, low, most))
  by_cause reply (refusal.Stale serial) is because =
      let less = stale_is_less f.body f.serial serial l.submits because.1 in
      let later = l.later in
      let same = because.0 in
      absurd (omega (arith, less, later, same))
  by_cause reply (refusal.Phase phase) is because = elim because.1 [
    | inl own ↦ absurd (not_same own.0)
    | inr busy ↦ let rests = l.rests in let is_busy = busy.1 in absurd (cc (rests, is_busy))
  ]
  by_cause reply (refusal.Again number) is because = (number, is, because)
  by_cause reply (refusal.NoBox number) is because = absurd (no_box a f f.body number because.0 l.box because.1 because.2)
  by_cause reply (refusal.BadToken number) is because = absurd (bad_token f.body l.box because.named)
    where
      bad_token : (body : PlainBody) → NamesItsBox a f body → Names body number because.held → ⊥
      bad_token (frame.Read n h) box named = because.other (cc (box.is, because.is, box.token, named.0, named.1))
      bad_token (frame.Retire n h) box named = because.other (cc (box.is, because.is, box.token, named.0, named.1))
      bad_token body box named = named
  by_cause reply why is because = absurd because

  by_answer : (said : Answer) → AnswersTaken a f said → IssuesOrAgain a said
  by_answer (Reply reply) h = elim h.1 [
    | inl own ↦ absurd (not_same own.0)
    | inr caused ↦ by_cause reply caused.0 caused.1 caused.2
  ]
  by_answer (Link number command) h = h.0
  by_answer (StillWaiting number) h = absurd (not_same h.0)

  taken : (said : Answer) → AnswersBytes a (whole bytes) said → IssuesOrAgain a said
  taken said h =
      let one : AnswersIf (is_taken a.settings.width f.body) (wrong_at f.body) a f said = subst (λ w. AnswersBytes a w said) l.read h in
      by_answer said (subst (λ t. AnswersIf t (wrong_at f.body) a f said) l.taken one)

pub later_is_taken : LaterIsTaken
later_is_taken a bytes f l = taken a bytes f l (on_client a bytes).answer (leader_answers a bytes)

-- ---- the helper

module _ (h : Server) (f : PlainFrame) (held : DepositBody) (low : f.lane < h.settings.lanes) (later : (helper.row_at h f.lane).serial < f.serial) where
  abbrev Held : helper.Turn → Type 0
  Held t = (t.reply.body ≡ frame.Held false) × (t.server ≡ helper.with_row h f.lane (helper.row f.serial (Deposited held)))

  abbrev r : helper.Row
  r = helper.row_at h f.lane

  gated : (less same : Bool) (own : Gate) → (less ≡ true → f.serial < r.serial) → (same ≡ true → f.serial ≡ r.serial)
      → Held (at_row h f (deposit_at r f.serial held (cond less (Stale r.serial) (cond same own New))))
  unfolding deposit_at
  gated true same own old is = let less = old refl in absurd (omega (arith, less, later))
  gated false true own old is = let e = is refl in absurd (omega (arith, e, later))
  gated false false own old is = (refl, refl)

  of_kind : Held (by_kind h f (frame.Deposit held))
  unfolding by_kind if_lane deposit_row opening_gate
  of_kind =
      cond_both {A = helper.Turn} (nat_le h.settings.lanes f.lane) _ _ Held
      (λ e. let most = leb-true _ _ e in absurd (omega (arith, most, low)))
      (λ e. gated (nat_lt f.serial r.serial) (nat_eq f.serial r.serial) _ (λ x. ltb-true _ _ x) (λ x. eqb-true _ _ x))

  of_body : (body : PlainBody) → body ≡ frame.Deposit held → Held (by_kind h f body)
  of_body body is = subst (λ b. Held (by_kind h f b)) (sym is) of_kind

  of_frame : f.body ≡ frame.Deposit held → Held (helper_clients.on_whole h (Ok f))
  unfolding helper_clients.on_whole
  of_frame is = of_body f.body is

  of_bytes : (found : Result PlainFrame Refusal) → found ≡ Ok f → f.body ≡ frame.Deposit held → Held (helper_clients.on_whole h found)
  of_bytes found read is = subst (λ w. Held (helper_clients.on_whole h w)) (sym read) (of_frame is)

pub deposit_is_held : DepositIsHeld
deposit_is_held h bytes f held read is low later = of_bytes h f held low later (whole bytes) read is

-- ---- a client

module _ (c : Client) (f : PlainFrame) (now : Current) (link : f.link ≡ 0) (lane : f.lane ≡ c.lane) (serial : f.serial ≡ c.serial) where
  abbrev GoesOn : Refusal → client.Turn → Type 0
  GoesOn why t = (t.progress ≡ Later why) × (t.client ≡ c)

  mine : is_mine c f ≡ true
  mine =
      let one : nat_eq f.link 0 ≡ true = eq-eqb f.link 0 link in
      let two : nat_eq f.lane c.lane ≡ true = eq-eqb f.lane c.lane lane in
      let three : nat_eq f.serial c.serial ≡ true = eq-eqb f.serial c.serial serial in
      rw (one, two, three) refl

  by_mine : (why : Refusal) (t : client.Turn) → GoesOn why t → (b : Bool) → b ≡ true → (u : client.Turn) → GoesOn why (cond b t u)
  by_mine why t good true is u = good
  by_mine why t good false is u = absurd (cc is)

  refused : (why : Refusal) → IsPassing why → GoesOn why (by_refusal c now f (Some why))
  unfolding by_refusal on_refusal
  refused (refusal.Stale n) passing = by_mine (refusal.Stale n) _ (refl, refl) (is_mine c f) mine _
  refused (refusal.Phase n) passing = by_mine (refusal.Phase n) _ (refl, refl) (is_mine c f) mine _
  refused (refusal.Again n) passing = by_mine (refusal.Again n) _ (refl, refl) (is_mine c f) mine _
  refused (refusal.LinkDown n) passing = by_mine (refusal.LinkDown n) _ (refl, refl) (is_mine c f) mine _
  refused why passing = absurd passing

  client_body : (why : Refusal) (body : PlainBody) → body ≡ frame.Refused why → IsPassing why
      → GoesOn why (by_refusal c now f (refusal_in body))
  client_body why body is passing =
      subst (λ b. GoesOn why (by_refusal c now f (refusal_in b))) (sym is) (refused why passing)

  of_current : (why : Refusal) → f.body ≡ frame.Refused why → IsPassing why → GoesOn why (if_current c f (Some now))
  unfolding if_current
  of_current why body passing = client_body why f.body body passing

  client_frame : (why : Refusal) → f.body ≡ frame.Refused why → IsPassing why → c.current ≡ Some now → GoesOn why (if_whole c (Ok f))
  unfolding if_whole
  client_frame why body passing is = subst (λ o. GoesOn why (if_current c f o)) (sym is) (of_current why body passing)

  client_bytes : (why : Refusal) (found : Result PlainFrame Refusal) → found ≡ Ok f → f.body ≡ frame.Refused why → IsPassing why → c.current ≡ Some now
      → GoesOn why (if_whole c found)
  client_bytes why found read body passing is =
      subst (λ w. GoesOn why (if_whole c w)) (sym read) (client_frame why body passing is)

pub requests_go_on : RequestsGoOn
requests_go_on c bytes f now why is read body passing link lane serial =
    client_bytes c f now link lane serial why (whole bytes) read body passing is
