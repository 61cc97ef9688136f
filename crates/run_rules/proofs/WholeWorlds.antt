-- The token run beside the run over bytes is a run of the oracle that has its acts.
use Rattle.std.proofs.Common.{◌≡◌, ◌∙◌, ◌+◌, ℕ, Bool, true, false, cond, nat_eq, nat_lt, List, [], ◌∷◌, ◌++◌, length, drop, Option, Some, None, slice_get, refl, sym, ap, arith, append-nil, length-append}
use Rattle.std.proofs.lemmas.Bool.{false_from_ne_true, lt-ltb, ltb-true}
use Rattle.express_words.specs.declared.settings.Settings.{Settings}
use Rattle.frame_rules.specs.Whole.{whole}
use Rattle.mailbox_rules.specs.Requests.{Line, Request}
use Rattle.token_rules.specs.Tokens.{Act, HasActs, Oracle, Token, World}
use Rattle.token_rules.specs.Run as tokens
use Rattle.token_rules.specs.Run.{asks, client_sends, comes, delivers, delivers_at, finished, goes_on, handed_last, is_refused, last_for, notes, resends, sends, ticks}
use Rattle.token_rules.specs.Driven.{finished_by, token_moves}
use Rattle.token_rules.specs.Lawful.{Lawful}
use Rattle.token_rules.specs.Since.{Since}
use Rattle.token_rules.proofs.Acts.{has_first}
use Rattle.token_rules.proofs.Following.{finish_is_driven}
use Rattle.token_rules.proofs.LeadOn.{moves_lead_on}
use Rattle.token_rules.proofs.Lists.{get_end}
use Rattle.run_rules.specs.Run as frames
use Rattle.run_rules.specs.Run.{Event, Ask, Send, Tick, Deliver, Show, Finish, Inject}
use Rattle.run_rules.specs.History.{lane_from_client, token_events, token_events_of}
use Rattle.run_rules.specs.Acts.{AreFitting, Both, IsFitting, acts_taken, act_at, both_come, both_deliver, both_hand, both_happen, both_moves, both_send, both_tick, run_both}
use Rattle.run_rules.proofs.WholeActs.{NoAct, OneAct, TheAct, one_act}
use Rattle.run_rules.proofs.WholeDrives.{finished_back, finished_keeps, finished_part}

-- ---- one delivery

none_taken : (w v : World) (a : Act) → v.moment ≡ w.moment → acts_taken w v a ≡ []
none_taken w v a e =
    let t : nat_lt w.moment v.moment ≡ false = false_from_ne_true _ (λ u. let l = ltb-true _ _ u in omega (arith, l, e)) in rw t refl

one_taken : (w v : World) (a : Act) → v.moment ≡ w.moment + 1 → acts_taken w v a ≡ a ∷ []
one_taken w v a e = let t : nat_lt w.moment v.moment ≡ true = lt-ltb _ _ (omega (arith, e)) in rw t refl

pub record Step (w : World) (acts : List Act) (t : Option Token) (a : Act) : Type 0 where
  pub moment : (delivers (λ n. a) w t).moment ≡ length (acts ++ acts_taken w (delivers (λ n. a) w t) a)
  pub same : (o : Oracle) → HasActs o (acts ++ acts_taken w (delivers (λ n. a) w t) a) → delivers (λ n. a) w t ≡ delivers o w t

token_step : (w : World) (acts : List Act) (t : Token) (a : Act) → w.moment ≡ length acts → OneAct w (λ o. comes o w t) → Step w acts (Some t) a
unfolding delivers
token_step w acts t a count (NoAct v e k) =
    let now = k (λ n. a) in
    let none = none_taken w (comes (λ n. a) w t) a (ap (λ u. u.moment) now ∙ e) in
    record {
      moment = ap (λ u. u.moment) now ∙ e ∙ count ∙ ap length (sym (append-nil acts) ∙ ap (λ l. acts ++ l) (sym none));
      same = λ o h. now ∙ sym (k o);
    }
token_step w acts t a count (TheAct G e k) =
    let now = k (λ n. a) in
    let later = ap (λ u. u.moment) now ∙ e a in
    let one = one_taken w (comes (λ n. a) w t) a later in
    record {
      moment = later ∙ ap (λ n. n + 1) count ∙ sym (length-append acts (a ∷ [])) ∙ ap (λ l. length (acts ++ l)) (sym one);
      same = λ o h.
          let at : o (length acts) ≡ a = h (length acts) a (ap (λ l. slice_get (acts ++ l) (length acts)) one ∙ get_end acts a) in
          now ∙ ap G (sym (ap o count ∙ at)) ∙ sym (k o);
    }

step : (w : World) (acts : List Act) (t : Option Token) (a : Act) → w.moment ≡ length acts → Step w acts t a
unfolding delivers
step w acts (Some t) a count = token_step w acts t a count (one_act w t)
step w acts None a count =
    let none = none_taken w w a refl in
    record { moment = count ∙ ap length (sym (append-nil acts) ∙ ap (λ l. acts ++ l) (sym none)); same = λ o h. refl }

-- ---- moves that take none

went_on : (w : World) (c : ℕ) (rs : List Request) → (goes_on w c rs).moment ≡ w.moment
unfolding goes_on
went_on w c [] = refl
went_on w c (r ∷ rest) = cond_moment (is_refused w c r) _ _ (went_on (notes w c _) c rest) refl
  where
    cond_moment : (t : Bool) (u v : World) → u.moment ≡ w.moment → v.moment ≡ w.moment → (cond t u v).moment ≡ w.moment
    cond_moment true u v h k = h
    cond_moment false u v h k = k

asks_moment : (w : World) (c : ℕ) (r : Request) → (asks w c r).moment ≡ w.moment
unfolding asks
asks_moment w c r = cond_moment (nat_eq (w.lanes c).step 0) _ _ (went_on w c _) refl
  where
    cond_moment : (t : Bool) (u v : World) → u.moment ≡ w.moment → v.moment ≡ w.moment → (cond t u v).moment ≡ w.moment
    cond_moment true u v h k = h
    cond_moment false u v h k = k

sends_moment : (w : World) (c : ℕ) → (client_sends w c).moment ≡ w.moment
unfolding client_sends
sends_moment w c = either (w.foreign c) _ refl
  where
    either : (t : Bool) (v : World) → v.moment ≡ w.moment → (cond t w v).moment ≡ w.moment
    either true v e = refl
    either false v e = e

resent_moment : (w : World) (x : Option Line) → (resends w x).moment ≡ w.moment
unfolding resends
resent_moment w (Some x) = refl
resent_moment w None = refl

ticks_moment : (w : World) → (ticks w).moment ≡ w.moment
unfolding ticks
ticks_moment w = resent_moment w (slice_get w.commands w.acknowledged)

-- ---- the whole run

module _ (first : World) where
  pub record Told (s : Both) : Type 0 where
    pub lawful : Lawful s.world
    pub since : Since first s.world
    pub count : s.world.moment ≡ length s.acts

  told_delivers : (s : Both) (n : ℕ) → Told s → Told (both_deliver s n)
  unfolding both_come delivers_at
  told_delivers s n h =
      let a = act_at s.frames (slice_get s.world.pool n) (slice_get s.frames.pool n) in
      let k = (moves_lead_on first).deliver (λ n. a) s.world n (h.lawful, h.since) in
      record { lawful = k.0; since = k.1; count = (step s.world s.acts (slice_get s.world.pool n) a h.count).moment }

  told_hands : (s : Both) (c before : ℕ) → Told s → Told (both_hand s c before)
  unfolding both_come handed_last
  told_hands s c before h =
      let t = last_for c None (drop before s.world.pool) in
      let a = act_at s.frames t (frames.last_for c None (drop before s.frames.pool)) in
      let k = (moves_lead_on first).hand (λ n. a) s.world c before (h.lawful, h.since) in
      record { lawful = k.0; since = k.1; count = (step s.world s.acts t a h.count).moment }

  told_sends : (s : Both) (c : ℕ) → Told s → Told (both_send s c)
  told_sends s c h =
      let k = (moves_lead_on first).send s.world c (h.lawful, h.since) in
      record { lawful = k.0; since = k.1; count = sends_moment s.world c ∙ h.count }

  told_ticks : (s : Both) → Told s → Told (both_tick s)
  told_ticks s h =
      let k = (moves_lead_on first).tick s.world (h.lawful, h.since) in
      record { lawful = k.0; since = k.1; count = ticks_moment s.world ∙ h.count }

  module _ (o : Oracle) where
    abbrev pub Agrees : Both → Type 0
    Agrees s = HasActs o s.acts

    agrees_delivers : (s : Both) (n : ℕ) → Agrees (both_deliver s n) → Agrees s
    unfolding both_come
    agrees_delivers s n k = has_first o s.acts _ k

    agrees_hands : (s : Both) (c before : ℕ) → Agrees (both_hand s c before) → Agrees s
    unfolding both_come
    agrees_hands s c before k = has_first o s.acts _ k

    same_delivers : (s : Both) (n : ℕ) → Told s → Agrees (both_deliver s n) → (both_deliver s n).world ≡ delivers_at o s.world n
    unfolding both_come delivers_at
    same_delivers s n h k =
        let a = act_at s.frames (slice_get s.world.pool n) (slice_get s.frames.pool n) in
        (step s.world s.acts (slice_get s.world.pool n) a h.count).same o k

    same_hands : (s : Both) (c before : ℕ) → Told s → Agrees (both_hand s c before) → (both_hand s c before).world ≡ handed_last o s.world c before
    unfolding both_come handed_last
    same_hands s c before h k =
        let t = last_for c None (drop before s.world.pool) in
        let a = act_at s.frames t (frames.last_for c None (drop before s.frames.pool)) in
        (step s.world s.acts t a h.count).same o k

    keeps_sends : (s : Both) (c : ℕ) → Told s → Agrees (both_send s c) → Told (both_send s c)
    keeps_sends s c h k = told_sends s c h

    pub finish_agrees : (s : Both) (c : ℕ) → Agrees (finished_by both_moves s c) → Agrees s
    finish_agrees s c k =
        finished_back Both both_moves Told Agrees (λ s n h k. told_delivers s n h) (λ s c h k. told_sends s c h) (λ s h k. told_ticks s h) (λ s c before h k. told_hands s c before h)
        agrees_delivers (λ s c k. k) (λ s k. k) agrees_hands s c k

    pub told_finish : (s : Both) (c : ℕ) → Told s → Agrees (finished_by both_moves s c) → Told (finished_by both_moves s c)
    told_finish s c h k =
        finished_keeps Both both_moves Told Agrees (λ s n h k. told_delivers s n h) (λ s c h k. told_sends s c h) (λ s h k. told_ticks s h) (λ s c before h k. told_hands s c before h)
        agrees_delivers (λ s c k. k) (λ s k. k) agrees_hands s c h k

    same_finish : (s : Both) (c : ℕ) → Told s → Agrees (finished_by both_moves s c) → (finished_by both_moves s c).world ≡ finished o s.world c
    same_finish s c h k =
        finished_part Both both_moves Told Agrees (λ s n h k. told_delivers s n h) (λ s c h k. told_sends s c h) (λ s h k. told_ticks s h) (λ s c before h k. told_hands s c before h)
        agrees_delivers (λ s c k. k) (λ s k. k) agrees_hands
        World (token_moves o) (λ s. s.world) (λ s h. refl) (λ s h. refl) (λ s h. refl) (λ s c h. refl) (λ s c h. refl)
        same_delivers (λ s c h k. refl) (λ s h k. refl) same_hands s c h k
        ∙ finish_is_driven o s.world c

    -- ---- events

    module _ (settings : Settings) (foreign : ℕ → Bool) (is : first.foreign ≡ foreign) where
      here : (s : Both) (c : ℕ) → Told s → foreign c ≡ false → s.world.foreign c ≡ false
      here s c h hon = ap (λ g. g c) (h.since.foreign ∙ is) ∙ hon

      told_happens : (s : Both) (event : Event) → IsFitting settings foreign event → Told s → Agrees (both_happen s event) → Told (both_happen s event)
      unfolding both_happen
      told_happens s (Ask c r) fit h k =
          let m = (moves_lead_on first).ask s.world c r (here s c h fit.1) (h.lawful, h.since) in
          record { lawful = m.0; since = m.1; count = asks_moment s.world c r ∙ h.count }
      told_happens s (Send c) fit h k = told_sends s c h
      told_happens s Tick fit h k = told_ticks s h
      told_happens s (Deliver n) fit h k = told_delivers s n h
      told_happens s (Show n) fit h k = record { lawful = h.lawful; since = h.since; count = h.count }
      told_happens s (Finish c) fit h k = told_finish s c h k
      told_happens s (Inject to_leader bytes) fit h k =
          let m = (moves_lead_on first).inject s.world to_leader (lane_from_client (whole bytes)) (h.lawful, h.since) in
          record { lawful = m.0; since = m.1; count = h.count }

      happened_agrees : (s : Both) (event : Event) → Agrees (both_happen s event) → Agrees s
      unfolding both_happen
      happened_agrees s (Ask c r) k = k
      happened_agrees s (Send c) k = k
      happened_agrees s Tick k = k
      happened_agrees s (Deliver n) k = agrees_delivers s n k
      happened_agrees s (Show n) k = k
      happened_agrees s (Finish c) k = finish_agrees s c k
      happened_agrees s (Inject to_leader bytes) k = k

      same_happens : (s : Both) (event : Event) → IsFitting settings foreign event → Told s → Agrees (both_happen s event)
          → (both_happen s event).world ≡ tokens.run o s.world (token_events_of event)
      unfolding both_happen tokens.run tokens.happens
      same_happens s (Ask c r) fit h k = let hon = here s c h fit.1 in rw hon refl
      same_happens s (Send c) fit h k = refl
      same_happens s Tick fit h k = refl
      same_happens s (Deliver n) fit h k = same_delivers s n h k
      same_happens s (Show n) fit h k = refl
      same_happens s (Finish c) fit h k = same_finish s c h k
      same_happens s (Inject to_leader bytes) fit h k = refl

      run_agrees : (events : List Event) (s : Both) → Agrees (run_both s events) → Agrees s
      unfolding run_both
      run_agrees [] s k = k
      run_agrees (event ∷ events) s k = happened_agrees s event (run_agrees events (both_happen s event) k)

      pub told_run : (events : List Event) (s : Both) → AreFitting settings foreign events → Told s → Agrees (run_both s events) → Told (run_both s events)
      unfolding run_both
      told_run [] s fit h k = h
      told_run (event ∷ events) s fit h k =
          told_run events (both_happen s event) fit.1 (told_happens s event fit.0 h (run_agrees events (both_happen s event) k)) k

      run_append : (xs ys : List tokens.Event) (w : World) → tokens.run o w (xs ++ ys) ≡ tokens.run o (tokens.run o w xs) ys
      unfolding tokens.run
      run_append [] ys w = refl
      run_append (x ∷ xs) ys w = run_append xs ys (tokens.happens o w x)

      pub same_run : (events : List Event) (s : Both) → AreFitting settings foreign events → Told s → Agrees (run_both s events)
          → (run_both s events).world ≡ tokens.run o s.world (token_events events)
      unfolding run_both token_events tokens.run
      same_run [] s fit h k = refl
      same_run (event ∷ events) s fit h k =
          let a = run_agrees events (both_happen s event) k in
          same_run events (both_happen s event) fit.1 (told_happens s event fit.0 h a) k
          ∙ ap (λ w. tokens.run o w (token_events events)) (same_happens s event fit.0 h a)
          ∙ sym (run_append (token_events_of event) (token_events events) s.world)
