-- The oracles of two schedules that are alike but for aims are one: both runs have the same acts and have taken the same.
use Rattle.std.proofs.Common.{◌≡◌, ◌∙◌, ◌≤◌, ℕ, zero, suc, Bool, true, false, cond, nat_lt, List, [], ◌∷◌, ◌++◌, length, map, Option, Some, None, slice_get, refl, sym, ap, ap₂, subst, arith, append-nil}
use Rattle.std.proofs.lemmas.List.{length-map}
use Rattle.std.proofs.lemmas.Option.{slice_get_within}
use Rattle.express_words.specs.declared.settings.Settings.{Settings}
use Rattle.frame_rules.specs.Whole.{whole}
use Rattle.mailbox_rules.specs.Requests.{Line, Request}
use Rattle.token_rules.specs.Tokens as token
use Rattle.token_rules.specs.Tokens.{Oracle, Token, World, no_act}
use Rattle.token_rules.specs.Driven.{finished_by}
use Rattle.token_rules.specs.Run as tokens
use Rattle.token_rules.specs.Run.{client_sends, sent_of, ticks}
use Rattle.run_rules.specs.Letters.{FrameWorld, Letter, ToHelper, ToHelperLink, ToLeader, letter}
use Rattle.run_rules.specs.Run as frames
use Rattle.run_rules.specs.Run.{Ask, Send, Tick, Deliver, Show, Finish, Inject, Event}
use Rattle.run_rules.specs.Book.{Book}
use Rattle.run_rules.specs.History.{lane_from_client}
use Rattle.run_rules.specs.Plain.{IsHistory}
use Rattle.run_rules.specs.Acts.{AreFitting, Both, both_ask, both_come, both_deliver, both_happen, both_hand, both_inject, both_moves, both_opened, both_send, both_tick, brought_by, ended_of, history_of, run_both}
use Rattle.run_rules.proofs.Basics.{pools_length}
use Rattle.run_rules.proofs.EveryEnd.{history_at_every_end}
use Rattle.run_rules.proofs.WholePools.{asks_post}
use Rattle.frame_rules.specs.Spelling.{spelling}
use Rattle.run_rules.specs.Follows.{IsForeignLink, IsLinked}
use Rattle.run_hiding.specs.Flow.{ActAlike, ActsStay, AreAlikeBeside, ForeignLettersStay, SameLetters, SameReply, flow, unaimed_event}
use Rattle.run_hiding.specs.Moved.{unaimed}
use Rattle.run_hiding.proofs.Flow.{asks_flow, sends_flow, ticks_flow}
use Rattle.run_hiding.proofs.Letters.{carried_at}
use Rattle.run_hiding.proofs.TwinDrives.{finished_alike}
use Rattle.run_hiding.proofs.TwinMoves.{Posted, asks_helper, asks_leader, asks_more, free_letters, moved_alike, sends_more, ticks_more}
use Rattle.run_hiding.proofs.TwinRuns.{Keeps, May, back, back_deliver, back_hand, back_send, back_tick, ends, hand_is, handed, known, on_deliver, on_send, on_tick, opens, step, step_back}
use Rattle.run_hiding.proofs.TwinSteps.{comes_alike}
use Rattle.run_hiding.proofs.TwinTokens.{token_comes}
use Rattle.run_hiding.proofs.TwinLinks.{order_bytes}
use Rattle.run_hiding.proofs.Twins.{Alike, LikeBytes, LikeLetters, Paired}

none_high : {X : Type 0} (xs : List X) (n : ℕ) → slice_get xs n ≡ None → length xs ≤ n
none_high [] n e = omega arith
none_high (x ∷ xs) zero e = absurd (cc e)
none_high (x ∷ xs) (suc n) e = let low = none_high xs n e in omega (arith, low)

same_waiting : (w u : World) (c : ℕ) → flow u ≡ flow w → length (u.requests c).waiting ≡ length (w.requests c).waiting
same_waiting w u c e =
    sym (length-map (u.requests c).waiting (λ q. unaimed q)) ∙ ap (λ (y : World). length (y.requests c).waiting) e ∙ length-map (w.requests c).waiting (λ q. unaimed q)

same_reply : (mine theirs : List ℕ) → LikeBytes mine theirs → SameReply mine theirs
same_reply mine theirs h = record {
  frame = h.one;
  body = h.two.body;
  first = h.first;
  second = h.second ∙ (λ i. spelling (record { lane = h.lane i; serial = h.serial i; link = h.link i; body = h.two.body }));
  same = h.body;
}

module _ (settings : Settings) (seed : List ℕ) (foreign : ℕ → Bool) (events others : List Event) (same : AreAlikeBeside settings foreign events others) where
  abbrev S : Both
  S = ended_of settings seed foreign events

  abbrev T : Both
  T = ended_of settings seed foreign others

  abbrev b : Book
  b = history_of settings seed foreign S

  abbrev d : Book
  d = history_of settings seed foreign T

  pub history : IsHistory b
  history = history_at_every_end settings seed foreign events same.limits same.fit same.few

  abbrev Like : Both → Both → Type 0
  Like s t = Alike b (λ c. sent_of T.world c) T.world.commands T.world.journal (brought_by settings.width T.taken) S.world T.world history s t

  abbrev Pair : Both → Both → Type 0
  Pair s t = Paired b (λ c. sent_of T.world c) T.world.commands T.world.journal (brought_by settings.width T.taken) S.world T.world history s t

  abbrev K : Both → Type 0
  K s = Keeps settings seed foreign events same.limits same.fit same.few s

  abbrev L : Both → Type 0
  L t = Keeps settings seed foreign others same.limits same.fit_others same.few_others t

  abbrev P : Both → Type 0
  P s = May settings seed foreign events same.limits same.fit same.few s

  abbrev Q : Both → Type 0
  Q t = May settings seed foreign others same.limits same.fit_others same.few_others t

  record R (s t : Both) : Type 0 where
    one : K s
    two : L t
    alike : Like s t

  paired : (s t : Both) → K s → L t → P s → Q t → Pair s t
  paired s t k l p q = record {
    known = known settings seed foreign events same.limits same.fit same.few s k p;
    follows = k.follows;
    other_known = known settings seed foreign others same.limits same.fit_others same.few_others t l q;
    others = l.follows;
  }

  -- ---- deliveries

  module _ (s t : Both) (n : ℕ) (r : R s t) (p : P s) (q : Q t) where
    pair : Pair s t
    pair = paired s t r.one r.two p q

    nothing_comes : Like (both_come s None None) (both_come t None None)
    unfolding both_come tokens.delivers frames.delivers
    nothing_comes =
        moved_alike b (λ c. sent_of T.world c) T.world.commands T.world.journal (brought_by settings.width T.taken) S.world T.world history s t (both_come s None None) (both_come t None None) pair r.alike
        r.alike.flow
        (ap₂ (λ x y. x ++ y) r.alike.acts (ap (λ (y : World). cond (nat_lt y.moment y.moment) (no_act ∷ []) []) r.alike.flow))
        (ap₂ (λ x y. x ++ y) r.alike.taken refl)
        (record { more = []; pool = sym (append-nil s.frames.pool); helper = refl; leader = refl }) (record { more = []; pool = sym (append-nil t.frames.pool); helper = refl; leader = refl })
        [] (sym (append-nil s.world.pool)) refl refl (λ j y l m is. absurd (cc is))

    count : length s.frames.pool ≡ length s.world.pool
    count = pools_length b s.world.pool s.frames.pool pair.follows.pool

    other_count : length t.frames.pool ≡ length s.world.pool
    other_count = pools_length d t.world.pool t.frames.pool pair.others.pool ∙ ap (λ (y : World). length y.pool) r.alike.flow

    at_place : (k : Option Token) (l m : Option Letter) → slice_get s.world.pool n ≡ k → slice_get s.frames.pool n ≡ l → slice_get t.frames.pool n ≡ m
        → Pair (both_come s k l) (both_come t k m) → Like (both_come s k l) (both_come t k m)
    at_place (Some k) (Some l) (Some m) is first second after =
        let there : slice_get t.world.pool n ≡ Some k = ap (λ (y : World). slice_get y.pool n) r.alike.flow ∙ is in
        let one = carried_at b s.world.pool s.frames.pool n k l pair.follows.pool is first in
        let two = carried_at d t.world.pool t.frames.pool n k m pair.others.pool there second in
        let case = token_comes b (λ c. sent_of T.world c) T.world.commands T.world.journal (brought_by settings.width T.taken) S.world T.world history s t pair r.alike n l m first second k is after one two (r.one.outside n k l is first) in
        comes_alike b (λ c. sent_of T.world c) T.world.commands T.world.journal (brought_by settings.width T.taken) S.world T.world history s t pair r.alike n k l m is first second after case
    at_place None None None is first second after = nothing_comes
    at_place None (Some l) m is first second after =
        let low = slice_get_within s.frames.pool n l first in let high = none_high s.world.pool n is in let c = count in absurd (omega (arith, low, high, c))
    at_place None None (Some m) is first second after =
        let low = slice_get_within t.frames.pool n m second in let high = none_high s.world.pool n is in let c = other_count in absurd (omega (arith, low, high, c))
    at_place (Some k) None m is first second after =
        let low = slice_get_within s.world.pool n k is in let high = none_high s.frames.pool n first in let c = count in absurd (omega (arith, low, high, c))
    at_place (Some k) (Some l) None is first second after =
        let low = slice_get_within s.world.pool n k is in let high = none_high t.frames.pool n second in let c = other_count in absurd (omega (arith, low, high, c))

    delivered : both_deliver t n ≡ both_come t (slice_get s.world.pool n) (slice_get t.frames.pool n)
    delivered = ap (λ k. both_come t k (slice_get t.frames.pool n)) (ap (λ (y : World). slice_get y.pool n) r.alike.flow)

    deliver_alike : Pair (both_deliver s n) (both_deliver t n) → Like (both_deliver s n) (both_deliver t n)
    deliver_alike after =
        subst (λ y. Like (both_deliver s n) y) (sym delivered)
        (at_place (slice_get s.world.pool n) (slice_get s.frames.pool n) (slice_get t.frames.pool n) refl refl refl (subst (λ y. Pair (both_deliver s n) y) delivered after))

  p_deliver : (s : Both) (n : ℕ) → P (both_deliver s n) → P s
  p_deliver = back_deliver settings seed foreign events same.limits same.fit same.few

  q_deliver : (s : Both) (n : ℕ) → Q (both_deliver s n) → Q s
  q_deliver = back_deliver settings seed foreign others same.limits same.fit_others same.few_others

  delivers : (s t : Both) (n : ℕ) → R s t → P (both_deliver s n) → Q (both_deliver t n) → R (both_deliver s n) (both_deliver t n)
  delivers s t n r p q =
      let k = on_deliver settings seed foreign events same.limits same.fit same.few s n r.one p in
      let l = on_deliver settings seed foreign others same.limits same.fit_others same.few_others t n r.two q in
      record { one = k; two = l; alike = deliver_alike s t n r (p_deliver s n p) (q_deliver t n q) (paired (both_deliver s n) (both_deliver t n) k l p q) }

  -- ---- the other moves

  p_send : (s : Both) (c : ℕ) → P (both_send s c) → P s
  p_send = back_send settings seed foreign events same.limits same.fit same.few

  q_send : (s : Both) (c : ℕ) → Q (both_send s c) → Q s
  q_send = back_send settings seed foreign others same.limits same.fit_others same.few_others

  p_tick : (s : Both) → P (both_tick s) → P s
  p_tick = back_tick settings seed foreign events same.limits same.fit same.few

  q_tick : (s : Both) → Q (both_tick s) → Q s
  q_tick = back_tick settings seed foreign others same.limits same.fit_others same.few_others

  abbrev none : Oracle
  none = λ n. no_act

  sends : (s t : Both) (c : ℕ) → R s t → P (both_send s c) → Q (both_send t c) → R (both_send s c) (both_send t c)
  unfolding frames.client_sends
  sends s t c r p q =
      let more = sends_more s.world c in
      record {
        one = on_send settings seed foreign events same.limits same.fit same.few s c r.one p;
        two = on_send settings seed foreign others same.limits same.fit_others same.few_others t c r.two q;
        alike = moved_alike b (λ c. sent_of T.world c) T.world.commands T.world.journal (brought_by settings.width T.taken) S.world T.world history s t (both_send s c) (both_send t c) (paired s t r.one r.two (p_send s c p) (q_send t c q)) r.alike
            (sym (sends_flow none t.world c) ∙ ap (λ y. client_sends y c) r.alike.flow ∙ sends_flow none s.world c) r.alike.acts r.alike.taken
            (record { more = _; pool = refl; helper = refl; leader = refl }) (record { more = _; pool = refl; helper = refl; leader = refl })
            more.more more.pool more.commands more.journal
            (λ j y l m is first second. free_letters b (λ c. sent_of T.world c) T.world.commands T.world.journal (brought_by settings.width T.taken) S.world T.world history more.more more.free j y l m is);
      }

  ticking : (s t : Both) → R s t → P (both_tick s) → Q (both_tick t) → R (both_tick s) (both_tick t)
  unfolding frames.ticks
  ticking s t r p q =
      let more = ticks_more s.world in
      record {
        one = on_tick settings seed foreign events same.limits same.fit same.few s r.one p;
        two = on_tick settings seed foreign others same.limits same.fit_others same.few_others t r.two q;
        alike = moved_alike b (λ c. sent_of T.world c) T.world.commands T.world.journal (brought_by settings.width T.taken) S.world T.world history s t (both_tick s) (both_tick t) (paired s t r.one r.two (p_tick s p) (q_tick t q)) r.alike
            (sym (ticks_flow none t.world) ∙ ap (λ y. ticks y) r.alike.flow ∙ ticks_flow none s.world) r.alike.acts r.alike.taken
            (record { more = _; pool = refl; helper = refl; leader = refl }) (record { more = _; pool = refl; helper = refl; leader = refl })
            more.more more.pool more.commands more.journal
            (λ j y l m is first second. free_letters b (λ c. sent_of T.world c) T.world.commands T.world.journal (brought_by settings.width T.taken) S.world T.world history more.more more.free j y l m is);
      }

  -- a hand is a delivery of one place of both pools
  p_hand : (s : Both) (c before : ℕ) → P (both_hand s c before) → P s
  p_hand = back_hand settings seed foreign events same.limits same.fit same.few

  q_hand : (s : Both) (c before : ℕ) → Q (both_hand s c before) → Q s
  q_hand = back_hand settings seed foreign others same.limits same.fit_others same.few_others

  hands : (s t : Both) (c before : ℕ) → R s t → P (both_hand s c before) → Q (both_hand t c before) → R (both_hand s c before) (both_hand t c before)
  hands s t c before r p q =
      let j = (handed c before s.world.pool).place in
      let one = hand_is settings seed foreign events same.limits same.fit same.few s c before r.one in
      let two : both_hand t c before ≡ both_deliver t j =
      hand_is settings seed foreign others same.limits same.fit_others same.few_others t c before r.two
      ∙ ap (λ (y : World). both_deliver t (handed c before y.pool).place) r.alike.flow in
      subst (λ y. R y (both_hand t c before)) (sym one) (subst (λ y. R (both_deliver s j) y) (sym two)
      (delivers s t j r (subst P one p) (subst Q two q)))

  finishing : (s t : Both) (c : ℕ) → R s t → P (finished_by both_moves s c) → Q (finished_by both_moves t c) → R (finished_by both_moves s c) (finished_by both_moves t c)
  finishing s t c r p q =
      finished_alike Both both_moves R P Q delivers sends ticking hands p_deliver p_send p_tick p_hand q_deliver q_send q_tick q_hand
      (λ s t r. ap (λ (y : World). both_moves.size (record s { world = y })) r.alike.flow)
      (λ s t r. ap (λ (y : World). both_moves.is_busy (record s { world = y })) r.alike.flow)
      (λ s t r. ap (λ (y : World). both_moves.outstanding (record s { world = y })) r.alike.flow)
      (λ s t c r. ap (λ (y : World). both_moves.is_idle (record s { world = y }) c) r.alike.flow)
      (λ s t c r. same_waiting s.world t.world c r.alike.flow) s t c r p q

  -- ---- events

  asking : (s t : Both) (c : ℕ) (x y : Request) → unaimed y ≡ unaimed x → AreFitting settings foreign (Ask c x ∷ []) → AreFitting settings foreign (Ask c y ∷ [])
      → R s t → P (both_ask s c x) → Q (both_ask t c y) → R (both_ask s c x) (both_ask t c y)
  unfolding both_happen
  asking s t c x y e fit other r p q =
      let more = asks_more s.world c x in
      let mine = asks_post s.frames c x in
      let theirs = asks_post t.frames c y in
      record {
        one = step settings seed foreign events same.limits same.fit same.few (Ask c x) s fit r.one p;
        two = step settings seed foreign others same.limits same.fit_others same.few_others (Ask c y) t other r.two q;
        alike = moved_alike b (λ c. sent_of T.world c) T.world.commands T.world.journal (brought_by settings.width T.taken) S.world T.world history s t (both_ask s c x) (both_ask t c y)
            (paired s t r.one r.two (step_back settings seed foreign events same.limits same.fit same.few (Ask c x) s fit p) (step_back settings seed foreign others same.limits same.fit_others same.few_others (Ask c y) t other q)) r.alike
            (sym (asks_flow none t.world c y) ∙ ap₂ (λ w z. tokens.asks w c z) r.alike.flow e ∙ asks_flow none s.world c x) r.alike.acts r.alike.taken
            (record { more = mine.more; pool = mine.pool; helper = asks_helper s.frames c x; leader = asks_leader s.frames c x })
            (record { more = theirs.more; pool = theirs.pool; helper = asks_helper t.frames c y; leader = asks_leader t.frames c y })
            more.more more.pool more.commands more.journal
            (λ j z l m is first second. free_letters b (λ c. sent_of T.world c) T.world.commands T.world.journal (brought_by settings.width T.taken) S.world T.world history more.more more.free j z l m is);
      }

  abbrev comes_in : Bool → List ℕ → Token
  comes_in to_leader bytes = token.Injected to_leader (lane_from_client (whole bytes))

  one_letter : (x l m : Letter) (j : ℕ) → slice_get (x ∷ []) j ≡ Some l → slice_get (x ∷ []) j ≡ Some m → m ≡ l
  one_letter x l m zero first second = let e : Some m ≡ Some l = sym second ∙ first in cc e
  one_letter x l m (suc j) first second = absurd (cc first)

  one_token : (x : Letter) (to_leader : Bool) (bytes : List ℕ) (j : ℕ) (z : Token) (l m : Letter) → slice_get (comes_in to_leader bytes ∷ []) j ≡ Some z → m ≡ l
      → LikeLetters b (λ c. sent_of T.world c) T.world.commands T.world.journal (brought_by settings.width T.taken) S.world T.world history z l m
  one_token x to_leader bytes zero z l m is e = let at : comes_in to_leader bytes ≡ z = cc is in subst (λ z. LikeLetters b (λ c. sent_of T.world c) T.world.commands T.world.journal (brought_by settings.width T.taken) S.world T.world history z l m) at e
  one_token x to_leader bytes (suc j) z l m is e = absurd (cc is)

  injecting : (s t : Both) (to_leader : Bool) (bytes : List ℕ) → AreFitting settings foreign (Inject to_leader bytes ∷ [])
      → R s t → P (both_inject s to_leader bytes) → Q (both_inject t to_leader bytes) → R (both_inject s to_leader bytes) (both_inject t to_leader bytes)
  unfolding both_happen frames.happens
  injecting s t true bytes fit r p q = record {
    one = step settings seed foreign events same.limits same.fit same.few (Inject true bytes) s fit r.one p;
    two = step settings seed foreign others same.limits same.fit_others same.few_others (Inject true bytes) t fit r.two q;
    alike = moved_alike b (λ c. sent_of T.world c) T.world.commands T.world.journal (brought_by settings.width T.taken) S.world T.world history s t (both_inject s true bytes) (both_inject t true bytes)
        (paired s t r.one r.two (step_back settings seed foreign events same.limits same.fit same.few (Inject true bytes) s fit p) (step_back settings seed foreign others same.limits same.fit_others same.few_others (Inject true bytes) t fit q)) r.alike
        (ap (λ y. tokens.sends y (comes_in true bytes)) r.alike.flow) r.alike.acts r.alike.taken
        (record { more = letter ToLeader bytes ∷ []; pool = refl; helper = refl; leader = refl }) (record { more = letter ToLeader bytes ∷ []; pool = refl; helper = refl; leader = refl })
        (comes_in true bytes ∷ []) refl refl refl
        (λ j z l m is first second. one_token (letter ToLeader bytes) true bytes j z l m is (one_letter (letter ToLeader bytes) l m j first second));
  }
  injecting s t false bytes fit r p q = record {
    one = step settings seed foreign events same.limits same.fit same.few (Inject false bytes) s fit r.one p;
    two = step settings seed foreign others same.limits same.fit_others same.few_others (Inject false bytes) t fit r.two q;
    alike = moved_alike b (λ c. sent_of T.world c) T.world.commands T.world.journal (brought_by settings.width T.taken) S.world T.world history s t (both_inject s false bytes) (both_inject t false bytes)
        (paired s t r.one r.two (step_back settings seed foreign events same.limits same.fit same.few (Inject false bytes) s fit p) (step_back settings seed foreign others same.limits same.fit_others same.few_others (Inject false bytes) t fit q)) r.alike
        (ap (λ y. tokens.sends y (comes_in false bytes)) r.alike.flow) r.alike.acts r.alike.taken
        (record { more = letter ToHelper bytes ∷ []; pool = refl; helper = refl; leader = refl }) (record { more = letter ToHelper bytes ∷ []; pool = refl; helper = refl; leader = refl })
        (comes_in false bytes ∷ []) refl refl refl
        (λ j z l m is first second. one_token (letter ToHelper bytes) false bytes j z l m is (one_letter (letter ToHelper bytes) l m j first second));
  }

  shown : (f : FrameWorld) (n : ℕ) (o : Option Letter) → Posted f (frames.shows f n o)
  unfolding frames.shows
  shown f n None = record { more = []; pool = sym (append-nil f.pool); helper = refl; leader = refl }
  shown f n (Some l) = record { more = []; pool = sym (append-nil f.pool); helper = refl; leader = refl }

  shown_none : (f : FrameWorld) (n : ℕ) (o : Option Letter) (j : ℕ) (l : Letter) → slice_get (shown f n o).more j ≡ Some l → ⊥
  unfolding shown
  shown_none f n None j l e = cc e
  shown_none f n (Some x) j l e = cc e

  abbrev shows : Both → ℕ → Both
  shows s n = record s { frames = frames.shows s.frames n (slice_get s.frames.pool n) }

  showing : (s t : Both) (n : ℕ) → R s t → P (both_happen s (Show n)) → Q (both_happen t (Show n)) → R (both_happen s (Show n)) (both_happen t (Show n))
  unfolding both_happen frames.happens
  showing s t n r p q = record {
    one = step settings seed foreign events same.limits same.fit same.few (Show n) s (tt, tt) r.one p;
    two = step settings seed foreign others same.limits same.fit_others same.few_others (Show n) t (tt, tt) r.two q;
    alike = moved_alike b (λ c. sent_of T.world c) T.world.commands T.world.journal (brought_by settings.width T.taken) S.world T.world history s t (shows s n) (shows t n)
        (paired s t r.one r.two (step_back settings seed foreign events same.limits same.fit same.few (Show n) s (tt, tt) p) (step_back settings seed foreign others same.limits same.fit_others same.few_others (Show n) t (tt, tt) q)) r.alike
        r.alike.flow r.alike.acts r.alike.taken (shown s.frames n (slice_get s.frames.pool n)) (shown t.frames n (slice_get t.frames.pool n))
        [] (sym (append-nil s.world.pool)) refl refl (λ j y l m is. absurd (cc is));
  }

  -- ---- a whole schedule

  event_alike : (x y : Event) (s t : Both) → unaimed_event y ≡ unaimed_event x → AreFitting settings foreign (x ∷ []) → AreFitting settings foreign (y ∷ []) → R s t
      → P (both_happen s x) → Q (both_happen t y) → R (both_happen s x) (both_happen t y)
  unfolding both_happen
  event_alike (Ask c x) (Ask a y) s t e fit other r p q =
      let lane : a ≡ c = cc e in
      let request : unaimed y ≡ unaimed x = cc e in
      subst (λ a. R (both_ask s c x) (both_ask t a y)) (sym lane) (asking s t c x y request fit (subst (λ a. AreFitting settings foreign (Ask a y ∷ [])) lane other) r p (subst (λ a. Q (both_ask t a y)) lane q))
  event_alike (Send c) (Send a) s t e fit other r p q =
      let lane : a ≡ c = cc e in subst (λ a. R (both_send s c) (both_send t a)) (sym lane) (sends s t c r p (subst (λ a. Q (both_send t a)) lane q))
  event_alike Tick Tick s t e fit other r p q = ticking s t r p q
  event_alike (Deliver n) (Deliver m) s t e fit other r p q =
      let at : m ≡ n = cc e in subst (λ a. R (both_deliver s n) (both_deliver t a)) (sym at) (delivers s t n r p (subst (λ a. Q (both_deliver t a)) at q))
  event_alike (Show n) (Show m) s t e fit other r p q =
      let at : m ≡ n = cc e in subst (λ a. R (both_happen s (Show n)) (both_happen t (Show a))) (sym at) (showing s t n r p (subst (λ a. Q (both_happen t (Show a))) at q))
  event_alike (Finish c) (Finish a) s t e fit other r p q =
      let lane : a ≡ c = cc e in subst (λ a. R (finished_by both_moves s c) (finished_by both_moves t a)) (sym lane) (finishing s t c r p (subst (λ a. Q (finished_by both_moves t a)) lane q))
  event_alike (Inject to_leader bytes) (Inject to more) s t e fit other r p q =
      let at : to ≡ to_leader = cc e in
      let content : more ≡ bytes = cc e in
      subst (λ a. R (both_inject s to_leader bytes) (both_inject t a more)) (sym at) (subst (λ c. R (both_inject s to_leader bytes) (both_inject t to_leader c)) (sym content)
      (injecting s t to_leader bytes fit r p (subst (λ c. Q (both_inject t to_leader c)) content (subst (λ a. Q (both_inject t a more)) at q))))
  event_alike x y s t e fit other r p q = absurd (cc e)

  runs_alike : (xs ys : List Event) (s t : Both) → map (λ e. unaimed_event e) ys ≡ map (λ e. unaimed_event e) xs → AreFitting settings foreign xs → AreFitting settings foreign ys → R s t
      → P (run_both s xs) → Q (run_both t ys) → R (run_both s xs) (run_both t ys)
  unfolding run_both
  runs_alike [] [] s t e fit other r p q = r
  runs_alike (x ∷ xs) (y ∷ ys) s t e fit other r p q =
      let one : unaimed_event y ≡ unaimed_event x = cc e in
      let rest : map (λ e. unaimed_event e) ys ≡ map (λ e. unaimed_event e) xs = cc e in
      let a = back settings seed foreign events same.limits same.fit same.few xs (both_happen s x) fit.1 p in
      let c = back settings seed foreign others same.limits same.fit_others same.few_others ys (both_happen t y) other.1 q in
      runs_alike xs ys (both_happen s x) (both_happen t y) rest fit.1 other.1 (event_alike x y s t one (fit.0, tt) (other.0, tt) r a c) p q
  runs_alike [] (y ∷ ys) s t e fit other r p q = absurd (cc e)
  runs_alike (x ∷ xs) [] s t e fit other r p q = absurd (cc e)

  opened : Both
  opened = both_opened settings seed foreign

  start_alike : Like (both_opened settings seed foreign) (both_opened settings seed foreign)
  start_alike = record {
    flow = refl;
    acts = refl;
    taken = refl;
    helper = λ c is. refl;
    leader = λ c is. refl;
    pool = λ i y l m is. absurd (cc is);
    kept = λ n place x next is. absurd (cc is);
    orders = λ k x is. absurd (cc is);
    keys = λ k e address is. absurd (cc is);
  }

  at_end : R S T
  at_end =
      runs_alike events others (both_opened settings seed foreign) (both_opened settings seed foreign) same.same same.fit same.fit_others
      (record {
        one = opens settings seed foreign events same.limits same.fit same.few;
        two = opens settings seed foreign others same.limits same.fit_others same.few_others;
        alike = start_alike;
      }) (ends settings seed foreign events same.limits same.fit same.few) (ends settings seed foreign others same.limits same.fit_others same.few_others)

  pub acts_alike : ActAlike S T
  acts_alike = record { acts = at_end.alike.acts; taken = at_end.alike.taken }

  pair_at_end : Pair S T
  pair_at_end =
      paired S T at_end.one at_end.two (ends settings seed foreign events same.limits same.fit same.few) (ends settings seed foreign others same.limits same.fit_others same.few_others)

  -- ---- letters of foreign lanes

  order_same : (k n : ℕ) (x : Line) (l m : Letter) → slice_get S.world.pool k ≡ Some (token.Ordered n x) → slice_get S.frames.pool k ≡ Some l → slice_get T.frames.pool k ≡ Some m
      → foreign x.lane ≡ true → m ≡ l
  order_same k n x l m is first second strange =
      let there : slice_get T.world.pool k ≡ Some (token.Ordered n x) = ap (λ (y : World). slice_get y.pool k) at_end.alike.flow ∙ is in
      let one : IsForeignLink b l ToHelperLink n x (token.Ordered n x) =
      subst (λ t. IsLinked b l ToHelperLink n x (token.Ordered n x) t) strange (carried_at b S.world.pool S.frames.pool k (token.Ordered n x) l pair_at_end.follows.pool is first) in
      let two : IsForeignLink d m ToHelperLink n x (token.Ordered n x) =
      subst (λ t. IsLinked d m ToHelperLink n x (token.Ordered n x) t) strange (carried_at d T.world.pool T.frames.pool k (token.Ordered n x) m pair_at_end.others.pool there second) in
      let to = two.spelled.at ∙ sym one.spelled.at in
      let bytes = order_bytes b (λ c. sent_of T.world c) T.world.commands T.world.journal (brought_by settings.width T.taken) S.world T.world history S T pair_at_end at_end.alike n k x strange l m is one two in
      λ i. record { to = to i; bytes = bytes i }

  pub replies_like : (k n : ℕ) (x : Line) (l m : Letter) → slice_get S.world.pool k ≡ Some (token.Replied n x) → slice_get S.frames.pool k ≡ Some l → slice_get T.frames.pool k ≡ Some m
      → foreign x.lane ≡ true → LikeBytes l.bytes m.bytes
  replies_like k n x l m is first second strange = at_end.alike.pool k (token.Replied n x) l m is first second strange

  pub letters_same : (k : ℕ) (x : Token) (l m : Letter) → slice_get S.world.pool k ≡ Some x → slice_get S.frames.pool k ≡ Some l → slice_get T.frames.pool k ≡ Some m
      → SameLetters foreign x l m
  letters_same k (token.Ordered n x) l m is first second = order_same k n x l m is first second
  letters_same k (token.Replied n x) l m is first second = λ strange. same_reply l.bytes m.bytes (at_end.alike.pool k (token.Replied n x) l m is first second strange)
  letters_same k (token.Injected to_leader lane) l m is first second = at_end.alike.pool k (token.Injected to_leader lane) l m is first second
  letters_same k (token.Deposit c n) l m is first second = tt
  letters_same k (token.Submission c n y) l m is first second = tt
  letters_same k (token.ProofToHelper c n) l m is first second = tt
  letters_same k (token.ProofToLeader c n) l m is first second = tt
  letters_same k (token.HeldDeposit c n) l m is first second = tt
  letters_same k (token.HeldProof c n) l m is first second = tt
  letters_same k (token.Challenge c n) l m is first second = tt
  letters_same k (token.Answer c n) l m is first second = tt
  letters_same k (token.Later c n) l m is first second = tt
  letters_same k (token.Foreign c) l m is first second = tt

pub acts_stay : ActsStay
acts_stay settings seed foreign events others same = acts_alike settings seed foreign events others same

pub foreign_letters_stay : ForeignLettersStay
foreign_letters_stay settings seed foreign events others same k x l m is first second = letters_same settings seed foreign events others same k x l m is first second
