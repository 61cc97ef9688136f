-- The laws that join a run's own expansions with the move, and those of foreign lanes.
use Rattle.std.proofs.Common.{◌≡◌, ◌∙◌, ◌<◌, ℕ, zero, suc, true, false, List, length, Option, Some, None, slice_get, get_or, sym, ap, subst, inl, inr, arith}
use Rattle.std.proofs.lemmas.Bool.{cases_Bool}
use Rattle.std.proofs.lemmas.List.{length-map, get_or-map, length-replicate}
use Rattle.std.proofs.lemmas.List.Elements.{All-map}
use Rattle.frame_rules.specs.Frames as frame
use Rattle.frame_rules.specs.Frames.{PlainBody, PlainFrame}
use Rattle.mailbox_rules.specs.Requests.{Entry, entry, Line, Request, Begins}
use Rattle.mailbox_rules.specs.Tables.{Began, Full, Gave, NoBox, Refused, Registered, Result, Settled, Taken, WasAudited}
use Rattle.token_rules.specs.Tokens.{Token}
use Rattle.write_hiding.specs.Choices.{IsChoice}
use Rattle.write_hiding.specs.Writes.{choice_of}
use Rattle.write_hiding.proofs.HonestLemmas.{form0, form1}
use Rattle.run_rules.specs.Book.{Book, place, request_of}
use Rattle.run_rules.specs.Values.{sigma_at}
use Rattle.run_rules.specs.Follows.{ForeignOrder}
use Rattle.run_rules.specs.Plain.{IsHistory, shared_result}
use Rattle.run_rules.proofs.PlainAccepted.{places_small}
use Rattle.run_rules.proofs.WriteLeaderRanges.{length-draw}
use Rattle.run_hiding.specs.Ideal.{AreAims, Ideal, aim_at, drawn_at, game_at, mask_in, mask_of, real, writes}
use Rattle.run_hiding.specs.Sight.{sight_of}
use Rattle.run_hiding.specs.Moved.{OtherAims, run_moved, with_sent}
use Rattle.run_hiding.specs.Laws.{DistinctRunsStay, ForeignOrdersStay, ForeignRepliesAreIdeal, IsIdealOf, RunsFitOtherAims, RunsHaveForm}
use Rattle.run_hiding.proofs.Aims.{quiet}
use Rattle.run_hiding.proofs.Quiet.{same_closing, same_opened, same_part}
use Rattle.run_hiding.proofs.Seen.{is_drawn, write_asked}
use Rattle.run_hiding.proofs.Stays.{ideals_stay, moves_return_run, sights_stay}
use Rattle.run_hiding.proofs.Real.{real_is_ideal, replies_are}

mask_of_width : (b : Book) (i : ℕ) (x : Line) (r : Result) → length (mask_of b i x r) ≡ b.settings.width
mask_of_width b i x (Registered n) = length-replicate b.settings.width 0
mask_of_width b i x (Taken n) = length-replicate b.settings.width 0
mask_of_width b i x (Full n) = length-replicate b.settings.width 0
mask_of_width b i x (Began n) = length-replicate b.settings.width 0
mask_of_width b i x WasAudited = length-replicate b.settings.width 0
mask_of_width b i x (Settled t) = length-replicate b.settings.width 0
mask_of_width b i x (Gave n bytes) = length-draw _ _ 16 b.settings.width
mask_of_width b i x (NoBox n) = length-replicate b.settings.width 0
mask_of_width b i x Refused = length-replicate b.settings.width 0

mask_width : (b : Book) (i : ℕ) (o : Option Entry) → length (mask_in b i o) ≡ b.settings.width
mask_width b i (Some e) = mask_of_width b i e.line (shared_result b 1 i e)
mask_width b i None = length-replicate b.settings.width 0

choices_form : (viewer : ℕ) (b : Book) → viewer < 2 → IsHistory b → AreAims b → (c s : ℕ) → writes b c s ≡ true
    → IsChoice b.settings.width (choice_of viewer (drawn_at b c s) (aim_at b c s))
choices_form zero b low k aims c s w =
    form0 b.settings.width (drawn_at b c s) (aim_at b c s) (game_at b c s) (is_drawn b k aims c s w) (places_small b k (place b c s Begins)) (aims c s w)
choices_form (suc zero) b low k aims c s w =
    form1 b.settings.width (drawn_at b c s) (aim_at b c s) (game_at b c s) (is_drawn b k aims c s w) (places_small b k (place b c s Begins)) (aims c s w)
choices_form (suc (suc n)) b low k aims c s w = absurd (omega arith)

pub runs_have_form : RunsHaveForm
runs_have_form viewer b low k aims = record {
  history = k;
  aims = aims;
  choices = choices_form viewer b low k aims;
  masks = λ i. mask_width b i (slice_get b.entries i);
}

pub runs_fit : RunsFitOtherAims
runs_fit viewer b sent t low k aims other seen =
    sights_stay viewer (real viewer b) sent low (runs_have_form viewer b low k aims) other t
    ∙ real_is_ideal viewer b t low k aims seen

pub foreign_replies : ForeignRepliesAreIdeal
unfolding shared_result
foreign_replies b i x body k aims h = elim (h.answers) [
  | inl refused ↦ inl refused.1
  | inr answered ↦ inr (replies_are b k aims i (entry x h.does) h.entered ∙ ap (λ y. Some y) (sym answered.1))
]

moved_form : (viewer : ℕ) (b : Book) (sent : ℕ → List Request) → viewer < 2 → (h : Ideal) → IsIdealOf b h → OtherAims h.book sent
    → IsIdealOf (with_sent b sent) (run_moved viewer h sent)
unfolding run_moved
moved_form viewer b sent low h f o = record { of = ap (λ x. with_sent x sent) f.of; form = ideals_stay viewer h sent low f.form o }

pub distinct_stay : DistinctRunsStay
distinct_stay viewer b histories sent sight low other forms sights distinct =
    let move = λ (h : Ideal). run_moved viewer h sent in
    let others : (h : Ideal) → IsIdealOf b h → OtherAims h.book sent = λ h f. subst (λ x. OtherAims x sent) (sym f.of) other in (
      length-map histories move,
      All-map (IsIdealOf (with_sent b sent)) move histories
          (λ i d l. let f = forms i d l in moved_form viewer b sent low (get_or histories i d) f (others (get_or histories i d) f)),
      All-map (λ h. (t : Token) → sight_of viewer h t ≡ sight t) move histories
          (λ i d l t. let f = forms i d l in sights_stay viewer (get_or histories i d) sent low f.form (others (get_or histories i d) f) t ∙ sights i d l t),
      λ i j d l k same.
          let hj : j < length histories = omega (arith, k, length-map histories move) in
          let hi : i < length histories = omega (arith, l, hj) in
          let x = get_or histories i d in
          let y = get_or histories j d in
          let fx = forms i d hi in
          let fy = forms j d hj in
          distinct i j d l hj
          (sym (moves_return_run viewer x sent low fx.form (others x fx))
          ∙ ap (λ bs. run_moved viewer (move x) bs) (ap (λ (q : Book). q.sent) (fx.of ∙ sym fy.of))
          ∙ ap (λ h. run_moved viewer h y.book.sent) (sym (get_or-map move histories i d d hi) ∙ same ∙ get_or-map move histories j d d hj)
          ∙ moves_return_run viewer y sent low fy.form (others y fy)),
    )

strange_writes_not : (b : Book) (k : IsHistory b) (x : Line) → b.foreign x.lane ≡ true → writes b x.lane x.serial ≡ false
strange_writes_not b k x foreign = elim (cases_Bool (writes b x.lane x.serial)) [
  | inl w ↦ absurd (cc (foreign, k.asked x.lane x.serial _ (write_asked (request_of b x.lane x.serial) w)))
  | inr n ↦ n
]

pub orders_stay : ForeignOrdersStay
unfolding sigma_at place
orders_stay b sent i x body k other foreign order = by_body body order
  where
    same : request_of (with_sent b sent) x.lane x.serial ≡ request_of b x.lane x.serial
    same = quiet b sent other x.lane x.serial (strange_writes_not b k x foreign)

    by_body : (body : PlainBody) → ForeignOrder b i x body → ForeignOrder (with_sent b sent) i x body
    by_body (frame.LinkRegister address) h = h
    by_body (frame.LinkBegin draw part) h = (h.0, h.1, h.2 ∙ sym (same_part b sent x.lane x.serial same))
    by_body (frame.LinkAudit sigma opened) h = (h.0, h.1, h.2 ∙ sym (same_opened b sent x.lane x.serial same 0))
    by_body (frame.LinkSettle closing) h = (h.0, h.1 ∙ sym (same_closing b sent x.lane x.serial same 0))
    by_body (frame.LinkRead n) h = h
    by_body (frame.LinkRetire n) h = h
    by_body (frame.Deposit held) h = absurd h
    by_body (frame.Register address key) h = absurd h
    by_body (frame.Write root part) h = absurd h
    by_body (frame.Read n held) h = absurd h
    by_body (frame.Proof share) h = absurd h
    by_body (frame.Held done) h = absurd h
    by_body (frame.Challenge key) h = absurd h
    by_body (frame.Registered n) h = absurd h
    by_body frame.Accepted h = absurd h
    by_body (frame.Message one two) h = absurd h
    by_body (frame.Refused refusal) h = absurd h
    by_body (frame.LinkReply reply) h = absurd h
    by_body (frame.Retire n held) h = absurd h
    by_body (frame.LinkBegun count draw) h = absurd h
