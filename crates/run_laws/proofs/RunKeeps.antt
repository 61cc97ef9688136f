-- What every move of a run over bytes keeps holds at its end.
use Rattle.std.proofs.Common.{◌+◌, ◌*◌, ℕ, Bool, zero, suc, List, [], ◌∷◌, length, drop, Option, Some, None, slice_get, refl, ◌≡◌}
use Rattle.std.proofs.lemmas.Bool.{cond_both}
use Rattle.mailbox_rules.specs.Requests.{Request}
use Rattle.token_rules.specs.Driven.{Driven, drain_round_by, drained_by, drains_by, finish_round_by, finished_by, finishes_by}
use Rattle.run_rules.specs.Letters.{FrameWorld, Letter}
use Rattle.run_rules.specs.Run.{Ask, Deliver, Event, Finish, Inject, Send, Show, Tick, asks, client_sends, delivers, delivers_at, frame_moves, happens, is_for, last_for, run, shows, ticks}

-- a letter of the pool, or none
abbrev pub IsOfPool : List Letter → Option Letter → Type 0
IsOfPool pool None = Unit {0}
IsOfPool pool (Some l) = (i : ℕ) × (slice_get pool i ≡ Some l)

at_place : (pool : List Letter) (n : ℕ) → IsOfPool pool (slice_get pool n)
at_place pool n = found (slice_get pool n) refl
  where
    found : (o : Option Letter) → slice_get pool n ≡ o → IsOfPool pool o
    found None e = tt
    found (Some l) e = (n, e)

last_place : (c : ℕ) (ls : List Letter) (found : Option Letter) (all : List Letter) → IsOfPool all found
    → ((i : ℕ) (l : Letter) → slice_get ls i ≡ Some l → IsOfPool all (Some l)) → IsOfPool all (last_for c found ls)
unfolding last_for
last_place c [] found all h k = h
last_place c (l ∷ ls) found all h k =
    last_place c ls _ all (cond_both {A = Option Letter} (is_for c l.to) (Some l) found (IsOfPool all) (λ e. k zero l refl) (λ e. h)) (λ i m e. k (suc i) m e)

drop_place : (n : ℕ) (ls : List Letter) (i : ℕ) (l : Letter) → slice_get (drop n ls) i ≡ Some l → IsOfPool ls (Some l)
drop_place zero ls i l e = (i, e)
drop_place (suc n) [] i l e = absurd (cc e)
drop_place (suc n) (x ∷ ls) i l e = let r = drop_place n ls i l e in (suc r.0, r.1)

pub record Moves (H : FrameWorld → Type 0) : Type 0 where
  pub ask : (f : FrameWorld) (c : ℕ) (r : Request) → H f → H (asks f c r)
  pub send : (f : FrameWorld) (c : ℕ) → H f → H (client_sends f c)
  pub tick : (f : FrameWorld) → H f → H (ticks f)
  pub deliver : (f : FrameWorld) (l : Option Letter) → IsOfPool f.pool l → H f → H (delivers f l)
  pub show : (f : FrameWorld) (n : ℕ) (l : Option Letter) → H f → H (shows f n l)
  pub inject : (f : FrameWorld) (to_leader : Bool) (bytes : List ℕ) → H f → H (happens f (Inject to_leader bytes))

module _ (H : FrameWorld → Type 0) (keep : Moves H) where
  abbrev d : Driven FrameWorld
  d = frame_moves

  delivers_keep : (f : FrameWorld) (n : ℕ) → H f → H (delivers_at f n)
  unfolding delivers_at
  delivers_keep f n h = keep.deliver f (slice_get f.pool n) (at_place f.pool n) h

  round_keeps : (f : FrameWorld) → H f → H (drain_round_by d f)
  round_keeps f h =
      let one = ticks f in
      let two = delivers_at one (length f.pool) in
      delivers_keep two (length f.pool + 1) (delivers_keep one (length f.pool) (keep.tick f h))

  drains_keep : (rounds : ℕ) (f : FrameWorld) → H f → H (drains_by d rounds f)
  unfolding drains_by
  drains_keep zero f h = h
  drains_keep (suc rounds) f h =
      cond_both {A = FrameWorld} (d.is_busy f) _ _ H (λ e. drains_keep rounds (drain_round_by d f) (round_keeps f h)) (λ e. h)

  drained_keeps : (f : FrameWorld) → H f → H (drained_by d f)
  drained_keeps f h = drains_keep (2 * d.outstanding f) f h

  finish_round_keeps : (f : FrameWorld) (c : ℕ) → H f → H (finish_round_by d f c)
  finish_round_keeps f c h =
      let one = drained_by d f in
      let sent = client_sends one c in
      let two = delivers_at sent (length one.pool) in
      let last = drained_by d two in
      keep.deliver last _ (last_place c (drop (length one.pool) last.pool) None last.pool tt (λ i l e. drop_place (length one.pool) last.pool i l e))
      (drained_keeps two (delivers_keep sent (length one.pool) (keep.send one c (drained_keeps f h))))

  finishes_keep : (rounds : ℕ) (f : FrameWorld) (c : ℕ) → H f → H (finishes_by d rounds f c)
  unfolding finishes_by
  finishes_keep zero f c h = h
  finishes_keep (suc rounds) f c h = cond_both {A = FrameWorld} (d.is_idle f c) _ _ H
      (λ e. h) (λ e. finishes_keep rounds (finish_round_by d f c) c (finish_round_keeps f c h))

  finished_keeps : (f : FrameWorld) (c : ℕ) → H f → H (finished_by d f c)
  unfolding finished_by
  finished_keeps f c h = finishes_keep (4 * (d.waiting f c + 1)) f c h

  happens_keep : (f : FrameWorld) (e : Event) → H f → H (happens f e)
  unfolding happens
  happens_keep f (Ask c r) h = keep.ask f c r h
  happens_keep f (Send c) h = keep.send f c h
  happens_keep f Tick h = keep.tick f h
  happens_keep f (Deliver n) h = delivers_keep f n h
  happens_keep f (Show n) h = keep.show f n (slice_get f.pool n) h
  happens_keep f (Finish c) h = finished_keeps f c h
  happens_keep f (Inject to_leader bytes) h = keep.inject f to_leader bytes h

  pub run_keeps : (f : FrameWorld) (events : List Event) → H f → H (run f events)
  unfolding run
  run_keeps f [] h = h
  run_keeps f (e ∷ events) h = run_keeps (happens f e) events (happens_keep f e h)
