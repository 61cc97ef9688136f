-- What a run shows is what its schedule's events show.
use Rattle.std.proofs.Common.{◌≡◌, ◌+◌, ◌*◌, ℕ, Bool, zero, suc, true, false, List, [], ◌∷◌, ◌++◌, length, drop, Option, Some, None, Result, Ok, Err, slice_get, refl, sym, ap, subst, ◌∙◌, append_assoc, append-nil}
use Rattle.std.proofs.lemmas.Bool.{cond_both}
use Rattle.std.specs.Prelude.{is_none}
use Rattle.frame_rules.specs.Frames.{PlainFrame}
use Rattle.frame_rules.specs.Whole.{linked, is_command}
use Rattle.mailbox_rules.specs.Requests.{Request}
use Rattle.token_rules.specs.Run.{own_of}
use Rattle.token_rules.specs.Driven.{Driven, drain_round_by, drained_by, drains_by, finish_round_by, finished_by, finishes_by}
use Rattle.step_rules.specs.Helper as helper
use Rattle.step_rules.specs.HelperCommands.{on_link_bytes}
use Rattle.step_rules.specs.Client as client
use Rattle.step_rules.specs.Client.{Client, Fault, Progress, Finished}
use Rattle.step_rules.specs.ClientAsks.{asked}
use Rattle.step_rules.specs.ClientReplies.{on_reply}
use Rattle.run_rules.specs.Letters.{Addressee, Ended, FrameWorld, Letter, NoOwnBox, Shown, ToClient, ToHelper, ToHelperLink, ToLeader, ToLeaderLink, opened}
use Rattle.run_rules.specs.Run.{Ask, Deliver, Event, Finish, Inject, Send, Show, Tick, asks, client_sends, comes, delivers, delivers_at, frame_moves, goes_on, goes_on_after, happens, helper_answers, is_for, last_for, notes, run, shows, ticks, was_asked, with_client}
use Rattle.run_laws.specs.Shown.{FramesAreShown, shown_by, shown_in, shown_of}

-- ---- moves that show nothing

by_answer : (f : FrameWorld) (c : ℕ) (rest : List Request) (next : FrameWorld) → next.shown ≡ f.shown
    → (a : Result Client Fault) → (was_asked f c rest next a).shown ≡ f.shown
unfolding was_asked
by_answer f c rest next same (Ok k) = refl
by_answer f c rest next same (Err (client.NoBox own)) = same
by_answer f c rest next same (Err client.Busy) = refl
by_answer f c rest next same (Err client.Spent) = refl
by_answer f c rest next same (Err (client.Width width)) = refl
by_answer f c rest next same (Err (client.OwnFull capacity)) = refl

goes : (f : FrameWorld) (c : ℕ) (rs : List Request) → (goes_on f c rs).shown ≡ f.shown
unfolding goes_on
goes f c [] = refl
goes f c (r ∷ rest) =
    let refused = notes f c (NoOwnBox (own_of r)) in
    by_answer f c rest (goes_on refused c rest) (goes refused c rest) (asked (f.clients c) r)

leaves_after : (f : FrameWorld) (c : ℕ) (p : Progress) → (goes_on_after f c p).shown ≡ f.shown
unfolding goes_on_after
leaves_after f c (Finished outcome) = goes (notes f c (Ended outcome)) c (f.waiting c)
leaves_after f c client.Ignored = refl
leaves_after f c (client.Later refusal) = refl
leaves_after f c client.Next = refl

answers_leave : (f : FrameWorld) (command : Option PlainFrame) (answer : helper.Answer) → (helper_answers f command answer).shown ≡ f.shown
unfolding helper_answers
answers_leave f command (helper.Carried reply) = refl
answers_leave f command (helper.Repeated bytes) = refl
answers_leave f command helper.Ignored = refl

comes_leaves : (f : FrameWorld) (to : Addressee) (bytes : List ℕ) → (comes f to bytes).shown ≡ f.shown
unfolding comes
comes_leaves f (ToClient c) bytes =
    let turn = on_reply (f.clients c) bytes in leaves_after (with_client f c turn.client) c turn.progress
comes_leaves f ToLeader bytes = refl
comes_leaves f ToHelper bytes = refl
comes_leaves f ToLeaderLink bytes = refl
comes_leaves f ToHelperLink bytes =
    let turn = on_link_bytes f.helper bytes in
    answers_leave (record f { helper = turn.helper }) (linked is_command f.helper.server.settings.width bytes) turn.answer

found_leaves : (f : FrameWorld) (l : Option Letter) → (delivers f l).shown ≡ f.shown
unfolding delivers
found_leaves f (Some l) = comes_leaves f l.to l.bytes
found_leaves f None = refl

deliver_leaves : (f : FrameWorld) (n : ℕ) → (delivers_at f n).shown ≡ f.shown
unfolding delivers_at
deliver_leaves f n = found_leaves f (slice_get f.pool n)

send_leaves : (f : FrameWorld) (c : ℕ) → (client_sends f c).shown ≡ f.shown
unfolding client_sends
send_leaves f c = refl

tick_leaves : (f : FrameWorld) → (ticks f).shown ≡ f.shown
unfolding ticks
tick_leaves f = refl

ask_leaves : (f : FrameWorld) (c : ℕ) (r : Request) → (asks f c r).shown ≡ f.shown
ask_leaves f c r =
    cond_both {A = FrameWorld} (is_none (f.clients c).current) _ _ (λ g. g.shown ≡ f.shown) (λ e. goes f c _) (λ e. refl)

-- ---- a finish

abbrev d : Driven FrameWorld
d = frame_moves

round_leaves : (f : FrameWorld) → (drain_round_by d f).shown ≡ f.shown
round_leaves f =
    let one = ticks f in
    let two = delivers_at one (length f.pool) in
    deliver_leaves two (length f.pool + 1) ∙ deliver_leaves one (length f.pool) ∙ tick_leaves f

drains_leave : (rounds : ℕ) (f : FrameWorld) → (drains_by d rounds f).shown ≡ f.shown
unfolding drains_by
drains_leave zero f = refl
drains_leave (suc rounds) f =
    cond_both {A = FrameWorld} (d.is_busy f) _ _ (λ g. g.shown ≡ f.shown) (λ e. drains_leave rounds (drain_round_by d f) ∙ round_leaves f) (λ e. refl)

drained_leaves : (f : FrameWorld) → (drained_by d f).shown ≡ f.shown
drained_leaves f = drains_leave (2 * d.outstanding f) f

finish_round_leaves : (f : FrameWorld) (c : ℕ) → (finish_round_by d f c).shown ≡ f.shown
finish_round_leaves f c =
    let one = drained_by d f in
    let sent = client_sends one c in
    let two = delivers_at sent (length one.pool) in
    let last = drained_by d two in
    found_leaves last (last_for c None (drop (length one.pool) last.pool)) ∙ drained_leaves two ∙ deliver_leaves sent (length one.pool) ∙ send_leaves one c ∙ drained_leaves f

finishes_leave : (rounds : ℕ) (f : FrameWorld) (c : ℕ) → (finishes_by d rounds f c).shown ≡ f.shown
unfolding finishes_by
finishes_leave zero f c = refl
finishes_leave (suc rounds) f c = cond_both {A = FrameWorld} (d.is_idle f c) _ _ (λ g. g.shown ≡ f.shown) (λ e. refl)
    (λ e. finishes_leave rounds (finish_round_by d f c) c ∙ finish_round_leaves f c)

finished_leaves : (f : FrameWorld) (c : ℕ) → (finished_by d f c).shown ≡ f.shown
unfolding finished_by
finished_leaves f c = finishes_leave (4 * (d.waiting f c + 1)) f c

-- ---- any event

shows_it : (f : FrameWorld) (n : ℕ) (l : Option Letter) → (shows f n l).shown ≡ f.shown ++ shown_of n l
unfolding shows
shows_it f n (Some l) = refl
shows_it f n None = sym (append-nil f.shown)

none_more : (f g : FrameWorld) → g.shown ≡ f.shown → g.shown ≡ f.shown ++ []
none_more f g same = same ∙ sym (append-nil f.shown)

happens_shows : (f : FrameWorld) (e : Event) → (happens f e).shown ≡ f.shown ++ shown_by f e
unfolding happens
happens_shows f (Ask c r) = none_more f (asks f c r) (ask_leaves f c r)
happens_shows f (Send c) = none_more f (client_sends f c) (send_leaves f c)
happens_shows f Tick = none_more f (ticks f) (tick_leaves f)
happens_shows f (Deliver n) = none_more f (delivers_at f n) (deliver_leaves f n)
happens_shows f (Show n) = shows_it f n (slice_get f.pool n)
happens_shows f (Finish c) = none_more f (finished_by frame_moves f c) (finished_leaves f c)
happens_shows f (Inject true bytes) = sym (append-nil f.shown)
happens_shows f (Inject false bytes) = sym (append-nil f.shown)

run_shows : (f : FrameWorld) (events : List Event) → (run f events).shown ≡ f.shown ++ shown_in f events
unfolding run shown_in
run_shows f [] = sym (append-nil f.shown)
run_shows f (e ∷ events) =
    run_shows (happens f e) events ∙ ap (λ s. s ++ shown_in (happens f e) events) (happens_shows f e)
    ∙ append_assoc f.shown (shown_by f e) (shown_in (happens f e) events)

pub frames_are_shown : FramesAreShown
frames_are_shown settings seed events = run_shows (opened settings seed) events
