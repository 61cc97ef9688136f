-- Outcomes are never taken back: whatever happens, those that were told before stand in front.
use Rattle.std.proofs.Common.{◌≡◌, ◌∙◌, ◌+◌, ◌*◌, ℕ, zero, suc, true, false, List, [], ◌∷◌, ◌++◌, length, Option, Some, None, Result, Ok, Err, is_none, refl, sym, ap, append_assoc, slice_get}
use Rattle.std.proofs.lemmas.List.{append-nil}
use Rattle.std.proofs.lemmas.Bool.{cond_both}
use Rattle.frame_rules.specs.Frames.{PlainFrame}
use Rattle.frame_rules.specs.Whole.{linked, is_command}
use Rattle.mailbox_rules.specs.Requests.{Request}
use Rattle.token_rules.specs.Driven.{Driven, drain_round_by, drained_by, drains_by, finish_round_by, finished_by, finishes_by, sent_and_drained_by}
use Rattle.step_rules.specs.Helper as helper
use Rattle.step_rules.specs.HelperCommands.{on_link_bytes}
use Rattle.step_rules.specs.Client as client
use Rattle.step_rules.specs.Client.{Client, Fault, Progress, Finished}
use Rattle.step_rules.specs.ClientAsks.{asked}
use Rattle.step_rules.specs.ClientReplies.{on_reply}
use Rattle.run_rules.specs.Letters.{Addressee, Ended, FrameWorld, Letter, NoOwnBox, Outcome, ToClient, ToHelper, ToHelperLink, ToLeader, ToLeaderLink}
use Rattle.run_rules.specs.Run.{Ask, Deliver, Event, Finish, Inject, Send, Show, Tick, client_sends, comes, delivers, delivers_at, frame_moves, goes_on, goes_on_after, happens, helper_answers, notes, run, shows, ticks, was_asked, with_client}
use Rattle.token_rules.specs.Run.{own_of}

-- the outcomes of one world are in front of another's
pub record Grows (f g : FrameWorld) : Type 0 where
  pub more : List Outcome
  pub outcomes : g.outcomes ≡ f.outcomes ++ more

same : (f g : FrameWorld) → g.outcomes ≡ f.outcomes → Grows f g
same f g e = record { more = []; outcomes = e ∙ sym (append-nil f.outcomes) }

itself : (f : FrameWorld) → Grows f f
itself f = same f f refl

then : (f g h : FrameWorld) → Grows f g → Grows g h → Grows f h
then f g h a b = record {
  more = a.more ++ b.more;
  outcomes = b.outcomes ∙ ap (λ os. os ++ b.more) a.outcomes ∙ append_assoc f.outcomes a.more b.more;
}

-- ---- what comes to a client

by_answer : (f : FrameWorld) (c : ℕ) (rest : List Request) (next : FrameWorld) → Grows f next
    → (a : Result Client Fault) → Grows f (was_asked f c rest next a)
unfolding was_asked
by_answer f c rest next grown (Ok k) = same f _ refl
by_answer f c rest next grown (Err (client.NoBox own)) = grown
by_answer f c rest next grown (Err client.Busy) = same f _ refl
by_answer f c rest next grown (Err client.Spent) = same f _ refl
by_answer f c rest next grown (Err (client.Width width)) = same f _ refl
by_answer f c rest next grown (Err (client.OwnFull capacity)) = same f _ refl

goes : (f : FrameWorld) (c : ℕ) (rs : List Request) → Grows f (goes_on f c rs)
unfolding goes_on
goes f c [] = same f _ refl
goes f c (r ∷ rest) =
    let refused = notes f c (NoOwnBox (own_of r)) in
    by_answer f c rest (goes_on refused c rest)
    (then f refused (goes_on refused c rest) (record { more = _; outcomes = refl }) (goes refused c rest)) (asked (f.clients c) r)

goes_after : (f : FrameWorld) (c : ℕ) (p : Progress) → Grows f (goes_on_after f c p)
unfolding goes_on_after
goes_after f c (Finished outcome) =
    let told = notes f c (Ended outcome) in
    then f told (goes_on told c (f.waiting c)) (record { more = _; outcomes = refl }) (goes told c (f.waiting c))
goes_after f c client.Ignored = same f _ refl
goes_after f c (client.Later refusal) = same f _ refl
goes_after f c client.Next = same f _ refl

-- ---- moves

answers_grow : (f : FrameWorld) (command : Option PlainFrame) (answer : helper.Answer) → Grows f (helper_answers f command answer)
unfolding helper_answers
answers_grow f command (helper.Carried reply) = same f _ refl
answers_grow f command (helper.Repeated bytes) = same f _ refl
answers_grow f command helper.Ignored = same f _ refl

comes_grow : (f : FrameWorld) (to : Addressee) (bytes : List ℕ) → Grows f (comes f to bytes)
unfolding comes
comes_grow f (ToClient c) bytes =
    let turn = on_reply (f.clients c) bytes in
    then f (with_client f c turn.client) _ (same f _ refl) (goes_after (with_client f c turn.client) c turn.progress)
comes_grow f ToLeader bytes = same f _ refl
comes_grow f ToHelper bytes = same f _ refl
comes_grow f ToLeaderLink bytes = same f _ refl
comes_grow f ToHelperLink bytes =
    let turn = on_link_bytes f.helper bytes in
    let grown = answers_grow (record f { helper = turn.helper }) (linked is_command f.helper.server.settings.width bytes) turn.answer in
    record { more = grown.more; outcomes = grown.outcomes }

found_grows : (f : FrameWorld) (l : Option Letter) → Grows f (delivers f l)
unfolding delivers
found_grows f (Some l) = comes_grow f l.to l.bytes
found_grows f None = same f _ refl

delivers_grow : (f : FrameWorld) (n : ℕ) → Grows f (delivers_at f n)
unfolding delivers_at
delivers_grow f n = found_grows f (slice_get f.pool n)

sends_grow : (f : FrameWorld) (c : ℕ) → Grows f (client_sends f c)
unfolding client_sends
sends_grow f c = same f _ refl

ticks_grow : (f : FrameWorld) → Grows f (ticks f)
unfolding ticks
ticks_grow f = same f _ refl

shows_grow : (f : FrameWorld) (n : ℕ) (l : Option Letter) → Grows f (shows f n l)
unfolding shows
shows_grow f n (Some l) = same f _ refl
shows_grow f n None = same f _ refl

-- ---- a finish

module _ where
  abbrev d : Driven FrameWorld
  d = frame_moves

  round_grows : (f : FrameWorld) → Grows f (drain_round_by d f)
  round_grows f =
      let one = ticks f in
      let two = delivers_at one (length f.pool) in
      then f two _ (then f one two (ticks_grow f) (delivers_grow one (length f.pool))) (delivers_grow two (length f.pool + 1))

  drains_grow : (rounds : ℕ) (f : FrameWorld) → Grows f (drains_by d rounds f)
  unfolding drains_by
  drains_grow zero f = same f _ refl
  drains_grow (suc rounds) f = cond_both {A = FrameWorld} (d.is_busy f) _ _ (Grows f)
      (λ e. then f (drain_round_by d f) _ (round_grows f) (drains_grow rounds (drain_round_by d f)))
      (λ e. same f _ refl)

  drained_grows : (f : FrameWorld) → Grows f (drained_by d f)
  drained_grows f = drains_grow (2 * d.outstanding f) f

  served_grows : (f : FrameWorld) (c : ℕ) → Grows f (sent_and_drained_by d f c)
  served_grows f c =
      let one = client_sends f c in
      let two = delivers_at one (length f.pool) in
      then f two _ (then f one two (sends_grow f c) (delivers_grow one (length f.pool))) (drained_grows two)

  finish_round_grows : (f : FrameWorld) (c : ℕ) → Grows f (finish_round_by d f c)
  finish_round_grows f c =
      let one = drained_by d f in
      let two = sent_and_drained_by d one c in
      then f two _ (then f one two (drained_grows f) (served_grows one c)) (found_grows two _)

  finishes_grow : (rounds : ℕ) (f : FrameWorld) (c : ℕ) → Grows f (finishes_by d rounds f c)
  unfolding finishes_by
  finishes_grow zero f c = same f _ refl
  finishes_grow (suc rounds) f c = cond_both {A = FrameWorld} (d.is_idle f c) _ _ (Grows f)
      (λ e. same f _ refl)
      (λ e. then f (finish_round_by d f c) _ (finish_round_grows f c) (finishes_grow rounds (finish_round_by d f c) c))

  finished_grows : (f : FrameWorld) (c : ℕ) → Grows f (finished_by d f c)
  unfolding finished_by
  finished_grows f c = finishes_grow (4 * (d.waiting f c + 1)) f c

-- ---- events

happens_grow : (f : FrameWorld) (e : Event) → Grows f (happens f e)
unfolding happens
happens_grow f (Ask c r) = cond_both {A = FrameWorld} (is_none (f.clients c).current) _ _ (Grows f)
    (λ e. goes f c (f.waiting c ++ r ∷ [])) (λ e. same f _ refl)
happens_grow f (Send c) = sends_grow f c
happens_grow f Tick = ticks_grow f
happens_grow f (Deliver n) = delivers_grow f n
happens_grow f (Show n) = shows_grow f n (slice_get f.pool n)
happens_grow f (Finish c) = finished_grows f c
happens_grow f (Inject true bytes) = same f _ refl
happens_grow f (Inject false bytes) = same f _ refl

pub run_grows : (f : FrameWorld) (events : List Event) → Grows f (run f events)
unfolding run
run_grows f [] = same f _ refl
run_grows f (e ∷ events) = then f (happens f e) _ (happens_grow f e) (run_grows (happens f e) events)
