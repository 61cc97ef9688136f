-- What a leader's steps keep holds of the leader of every run over bytes.
use Rattle.std.proofs.Common.{◌≡◌, ◌+◌, ◌*◌, ℕ, zero, suc, true, false, List, [], ◌∷◌, ◌++◌, length, Option, Some, None, Result, Ok, Err, is_none, refl, sym, subst, slice_get}
use Rattle.std.proofs.lemmas.Bool.{cond_both}
use Rattle.frame_rules.specs.Frames.{PlainFrame}
use Rattle.frame_rules.specs.Whole.{linked, is_command}
use Rattle.mailbox_rules.specs.Requests.{Request}
use Rattle.token_rules.specs.Run.{own_of}
use Rattle.token_rules.specs.Driven.{Driven, drain_round_by, drained_by, drains_by, finish_round_by, finished_by, finishes_by}
use Rattle.step_rules.specs.Helper as helper
use Rattle.step_rules.specs.HelperCommands.{on_link_bytes}
use Rattle.step_rules.specs.Leader.{Leader}
use Rattle.step_rules.specs.LeaderClients.{on_client}
use Rattle.step_rules.specs.LeaderReplies.{on_reply_bytes}
use Rattle.step_rules.specs.Client as client
use Rattle.step_rules.specs.Client.{Client, Fault, Progress, Finished}
use Rattle.step_rules.specs.ClientAsks.{asked}
use Rattle.step_rules.specs.ClientReplies.{on_reply}
use Rattle.leader_core.specs.Awaited.{ClientsAwait, OpenedAwaits, RepliesAwait, RowsAwait}
use Rattle.run_rules.specs.Letters.{Addressee, Ended, FrameWorld, Letter, NoOwnBox, ToClient, ToHelper, ToHelperLink, ToLeader, ToLeaderLink, opened}
use Rattle.run_rules.specs.Run.{Ask, Deliver, Event, Finish, Inject, Send, Show, Tick, client_sends, comes, delivers, delivers_at, frame_moves, goes_on, goes_on_after, happens, helper_answers, notes, run, shows, ticks, was_asked, with_client}
use Rattle.replay_world.specs.Played.{run_of}
use Rattle.replay_world.specs.Strangers.{BusyRowsAwait}

-- ---- what comes to a client or to the helper leaves the leader

by_answer : (f : FrameWorld) (c : ℕ) (rest : List Request) (next : FrameWorld) → next.leader ≡ f.leader
    → (a : Result Client Fault) → (was_asked f c rest next a).leader ≡ f.leader
unfolding was_asked
by_answer f c rest next same (Ok k) = refl
by_answer f c rest next same (Err (client.NoBox own)) = same
by_answer f c rest next same (Err client.Busy) = refl
by_answer f c rest next same (Err client.Spent) = refl
by_answer f c rest next same (Err (client.Width width)) = refl
by_answer f c rest next same (Err (client.OwnFull capacity)) = refl

goes : (f : FrameWorld) (c : ℕ) (rs : List Request) → (goes_on f c rs).leader ≡ f.leader
unfolding goes_on
goes f c [] = refl
goes f c (r ∷ rest) =
    let refused = notes f c (NoOwnBox (own_of r)) in
    by_answer f c rest (goes_on refused c rest) (goes refused c rest) (asked (f.clients c) r)

leaves_after : (f : FrameWorld) (c : ℕ) (p : Progress) → (goes_on_after f c p).leader ≡ f.leader
unfolding goes_on_after
leaves_after f c (Finished outcome) = goes (notes f c (Ended outcome)) c (f.waiting c)
leaves_after f c client.Ignored = refl
leaves_after f c (client.Later refusal) = refl
leaves_after f c client.Next = refl

answers_leave : (f : FrameWorld) (command : Option PlainFrame) (answer : helper.Answer) → (helper_answers f command answer).leader ≡ f.leader
unfolding helper_answers
answers_leave f command (helper.Carried reply) = refl
answers_leave f command (helper.Repeated bytes) = refl
answers_leave f command helper.Ignored = refl

-- ---- what both steps of a leader keep, every event keeps

module _ (P : Leader → Type 0) (at_client : (a : Leader) (bytes : List ℕ) → P a → P (on_client a bytes).leader)
    (at_reply : (a : Leader) (bytes : List ℕ) → P a → P (on_reply_bytes a bytes).leader) where
  abbrev Holds : FrameWorld → Type 0
  Holds f = P f.leader

  same : (a b : Leader) → b ≡ a → P a → P b
  same a b e h = subst P (sym e) h

  comes_keep : (f : FrameWorld) (to : Addressee) (bytes : List ℕ) → Holds f → Holds (comes f to bytes)
  unfolding comes
  comes_keep f (ToClient c) bytes h =
      let turn = on_reply (f.clients c) bytes in
      same f.leader (goes_on_after (with_client f c turn.client) c turn.progress).leader (leaves_after (with_client f c turn.client) c turn.progress) h
  comes_keep f ToLeader bytes h = at_client f.leader bytes h
  comes_keep f ToHelper bytes h = h
  comes_keep f ToLeaderLink bytes h = at_reply f.leader bytes h
  comes_keep f ToHelperLink bytes h =
      let turn = on_link_bytes f.helper bytes in
      let command = linked is_command f.helper.server.settings.width bytes in
      same f.leader (helper_answers (record f { helper = turn.helper }) command turn.answer).leader (answers_leave (record f { helper = turn.helper }) command turn.answer) h

  found_keeps : (f : FrameWorld) (l : Option Letter) → Holds f → Holds (delivers f l)
  unfolding delivers
  found_keeps f (Some l) h = comes_keep f l.to l.bytes h
  found_keeps f None h = h

  delivers_keep : (f : FrameWorld) (n : ℕ) → Holds f → Holds (delivers_at f n)
  unfolding delivers_at
  delivers_keep f n h = found_keeps f (slice_get f.pool n) h

  sends_keep : (f : FrameWorld) (c : ℕ) → Holds f → Holds (client_sends f c)
  unfolding client_sends
  sends_keep f c h = h

  ticks_keep : (f : FrameWorld) → Holds f → Holds (ticks f)
  unfolding ticks
  ticks_keep f h = h

  shows_keep : (f : FrameWorld) (n : ℕ) (l : Option Letter) → Holds f → Holds (shows f n l)
  unfolding shows
  shows_keep f n (Some l) h = h
  shows_keep f n None h = h

  abbrev d : Driven FrameWorld
  d = frame_moves

  round_keeps : (f : FrameWorld) → Holds f → Holds (drain_round_by d f)
  round_keeps f h =
      let one = ticks f in
      let two = delivers_at one (length f.pool) in
      delivers_keep two (length f.pool + 1) (delivers_keep one (length f.pool) (ticks_keep f h))

  drains_keep : (rounds : ℕ) (f : FrameWorld) → Holds f → Holds (drains_by d rounds f)
  unfolding drains_by
  drains_keep zero f h = h
  drains_keep (suc rounds) f h = cond_both {A = FrameWorld} (d.is_busy f) _ _ Holds
      (λ e. drains_keep rounds (drain_round_by d f) (round_keeps f h)) (λ e. h)

  drained_keeps : (f : FrameWorld) → Holds f → Holds (drained_by d f)
  drained_keeps f h = drains_keep (2 * d.outstanding f) f h

  finish_round_keeps : (f : FrameWorld) (c : ℕ) → Holds f → Holds (finish_round_by d f c)
  finish_round_keeps f c h =
      let one = drained_by d f in
      let sent = client_sends one c in
      let two = delivers_at sent (length one.pool) in
      found_keeps (drained_by d two) _
      (drained_keeps two (delivers_keep sent (length one.pool) (sends_keep one c (drained_keeps f h))))

  finishes_keep : (rounds : ℕ) (f : FrameWorld) (c : ℕ) → Holds f → Holds (finishes_by d rounds f c)
  unfolding finishes_by
  finishes_keep zero f c h = h
  finishes_keep (suc rounds) f c h = cond_both {A = FrameWorld} (d.is_idle f c) _ _ Holds
      (λ e. h) (λ e. finishes_keep rounds (finish_round_by d f c) c (finish_round_keeps f c h))

  finished_keeps : (f : FrameWorld) (c : ℕ) → Holds f → Holds (finished_by d f c)
  unfolding finished_by
  finished_keeps f c h = finishes_keep (4 * (d.waiting f c + 1)) f c h

  happens_keep : (f : FrameWorld) (e : Event) → Holds f → Holds (happens f e)
  unfolding happens
  happens_keep f (Ask c r) h = cond_both {A = FrameWorld} (is_none (f.clients c).current) _ _ Holds
      (λ e. same f.leader (goes_on f c (f.waiting c ++ r ∷ [])).leader (goes f c (f.waiting c ++ r ∷ [])) h) (λ e. h)
  happens_keep f (Send c) h = sends_keep f c h
  happens_keep f Tick h = ticks_keep f h
  happens_keep f (Deliver n) h = delivers_keep f n h
  happens_keep f (Show n) h = shows_keep f n (slice_get f.pool n) h
  happens_keep f (Finish c) h = finished_keeps f c h
  happens_keep f (Inject true bytes) h = h
  happens_keep f (Inject false bytes) h = h

  pub run_keeps : (f : FrameWorld) (events : List Event) → Holds f → Holds (run f events)
  unfolding run
  run_keeps f [] h = h
  run_keeps f (e ∷ events) h = run_keeps (happens f e) events (happens_keep f e h)

pub busy_rows_await : OpenedAwaits → ClientsAwait → RepliesAwait → BusyRowsAwait
unfolding run_of
busy_rows_await opens clients replies schedule =
    run_keeps RowsAwait clients replies (opened schedule.header.settings schedule.header.seed) _
    (opens schedule.header.settings _)
