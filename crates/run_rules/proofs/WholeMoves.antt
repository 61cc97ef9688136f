-- The relation between the two runs through every move, in a run whose history is whole.
use Rattle.std.proofs.Common.{◌≡◌, ◌≤◌, ℕ, zero, suc, Bool, true, false, cond, List, [], ◌∷◌, ◌++◌, drop, Option, Some, None, slice_get, refl, ap, ◌∙◌, arith, append_assoc}
use Rattle.mailbox_rules.specs.Requests.{Entry}
use Rattle.token_rules.specs.Tokens.{Token, World, Oracle}
use Rattle.token_rules.specs.Run.{client_sends, comes, delivers, delivers_at, finished, handed_last, is_for, last_for, ticks}
use Rattle.token_rules.specs.Driven.{finished_by}
use Rattle.token_rules.specs.Lawful.{Lawful}
use Rattle.token_rules.specs.Since.{Since, below_of}
use Rattle.token_rules.proofs.Lawful.{moves_keep}
use Rattle.token_rules.proofs.LeadOn.{moves_lead_on}
use Rattle.token_rules.proofs.Since.{since_itself}
use Rattle.run_rules.specs.Letters.{FrameWorld, Letter}
use Rattle.run_rules.specs.Run as frames
use Rattle.run_rules.specs.Run.{frame_moves}
use Rattle.run_rules.specs.Book.{Book}
use Rattle.run_rules.specs.Follows.{Follows, Pools, Sound, Within}
use Rattle.run_rules.specs.Known.{IsWhole, Known}
use Rattle.run_rules.specs.Laws.{ComesFollows}
use Rattle.run_rules.proofs.Asked.{Found, last_same, pools_drop, same_size, same_outstanding, same_busy, same_idle, same_waiting}
use Rattle.run_rules.proofs.Histories.{back_delivers, back_hands, back_sends, back_ticks}
use Rattle.run_rules.proofs.Moves.{ticks_follow}
use Rattle.run_rules.proofs.Finishes.{finished_back, finished_follows}
use Rattle.run_rules.proofs.WholeGrows.{AreOwn, IsOwn, own_at, comes_grow, sends_grow, ticks_grow}

-- ---- what comes after what comes after

later : {X : Type 0} (P : X → Type 0) (xs ys : List X) → ((i : ℕ) (x : X) → slice_get xs i ≡ Some x → P x)
    → ((i : ℕ) (x : X) → slice_get ys i ≡ Some x → P x) → (i : ℕ) (x : X) → slice_get (xs ++ ys) i ≡ Some x → P x
later P [] ys h k i x e = k i x e
later P (y ∷ xs) ys h k zero x e = h zero x e
later P (y ∷ xs) ys h k (suc i) x e = later P xs ys (λ i x e. h (suc i) x e) k i x e

pub since_then : (w u v : World) → Since w u → Since u v → Since w v
since_then w u v h k = record {
  limit = k.limit ∙ h.limit;
  width = k.width ∙ h.width;
  foreign = k.foreign ∙ h.foreign;
  more = h.more ++ k.more;
  journal = k.journal ∙ ap (λ l. l ++ k.more) h.journal ∙ append_assoc w.journal h.more k.more;
  above = λ i e at hon.
      later (λ (e : Entry). w.foreign e.line.lane ≡ false → below_of w e.line.lane ≤ e.line.serial) h.more k.more h.above
      (λ i e at hon.
      let first = h.answered e.line.lane hon in
      let second = k.above i e at (ap (λ f. f e.line.lane) h.foreign ∙ hon) in
      omega (arith, first, second))
      i e at hon;
  answered = λ c hon.
      let first = h.answered c hon in
      let second = k.answered c (ap (λ f. f c) h.foreign ∙ hon) in
      omega (arith, first, second);
}

module _ (b : Book) (o : Oracle) (v : World) (sound : Sound b) (whole : IsWhole b v)
    (comes_follow : (t : Token) → IsOwn t → ComesFollows b t)
    (sends_follow : (f : FrameWorld) (w : World) (c : ℕ) → Known b v w → Follows b f w
    → Follows b (frames.client_sends f c) (client_sends w c)) where
  pub record Kept (f : FrameWorld) (w : World) : Type 0 where
    pub follows : Follows b f w
    pub lawful : Lawful w
    pub own : AreOwn w.pool

  -- a lawful world of the run, from which its moves lead to the end
  abbrev pub Allowed : World → Type 0
  Allowed w = Lawful w → Within b w × Since w v

  pub known : (w : World) → Lawful w → Allowed w → Known b v w
  known w lawful allowed =
      let k = allowed lawful in
      record { sound = sound; whole = whole; lawful = lawful; since = k.1; within = k.0 }

  pub back : (w u : World) → (Within b u → Within b w) → (Lawful w → Lawful u × Since w u) → Allowed u → Allowed w
  back w u inside lead allowed lawful =
      let to = lead lawful in
      let k = allowed to.0 in
      (inside k.0, since_then w u v to.1 k.1)

  abbrev pub lead : (w : World) → Lawful w → Lawful w × Since w w
  lead w lawful = (lawful, since_itself w)

  pub back_on_delivers : (w : World) (n : ℕ) → Allowed (delivers_at o w n) → Allowed w
  back_on_delivers w n = back w _ (back_delivers b o w n) (λ l. (moves_lead_on w).deliver o w n (lead w l))

  pub back_on_sends : (w : World) (c : ℕ) → Allowed (client_sends w c) → Allowed w
  back_on_sends w c = back w _ (back_sends b w c) (λ l. (moves_lead_on w).send w c (lead w l))

  pub back_on_ticks : (w : World) → Allowed (ticks w) → Allowed w
  back_on_ticks w = back w _ (back_ticks b w) (λ l. (moves_lead_on w).tick w (lead w l))

  pub back_on_hands : (w : World) (c before : ℕ) → Allowed (handed_last o w c before) → Allowed w
  back_on_hands w c before = back w _ (back_hands b o w c before) (λ l. (moves_lead_on w).hand o w c before (lead w l))

  -- ---- deliveries

  -- a place of both pools
  pub record SamePlace (w : World) (t : Option Token) (l : Option Letter) : Type 0 where
    pub found : Found b t l
    pub place : (x : Token) → t ≡ Some x → (i : ℕ) × (slice_get w.pool i ≡ Some x)

  letter_comes : (f : FrameWorld) (w : World) (t : Option Token) (l : Option Letter) → Kept f w
      → SamePlace w t l → Lawful (delivers o w t) → Allowed w → Allowed (delivers o w t)
      → Kept (frames.delivers f l) (delivers o w t)
  unfolding delivers frames.delivers
  letter_comes f w (Some t) (Some l) h at after allowed next = record {
    follows =
        let i = at.place t refl in
        comes_follow t (own_at w.pool i.0 t h.own i.1) o f v w i.0 l (known w h.lawful allowed) (known (comes o w t) after next) i.1 h.follows at.found;
    lawful = after;
    own = (comes_grow o w t).own h.own;
  }
  letter_comes f w None None h at after allowed next = h
  letter_comes f w (Some t) None h at after allowed next = absurd at.found
  letter_comes f w None (Some l) h at after allowed next = absurd at.found

  found_at : (ts : List Token) (ls : List Letter) (n : ℕ) → Pools b ts ls → Found b (slice_get ts n) (slice_get ls n)
  found_at [] [] n h = tt
  found_at (t ∷ ts) (l ∷ ls) zero h = h.0
  found_at (t ∷ ts) (l ∷ ls) (suc n) h = found_at ts ls n h.1
  found_at [] (l ∷ ls) n h = absurd h
  found_at (t ∷ ts) [] n h = absurd h

  pub on_delivers : (f : FrameWorld) (w : World) (n : ℕ) → Kept f w → Allowed (delivers_at o w n)
      → Kept (frames.delivers_at f n) (delivers_at o w n)
  unfolding delivers_at frames.delivers_at
  on_delivers f w n h next =
      letter_comes f w (slice_get w.pool n) (slice_get f.pool n) h
      (record { found = found_at w.pool f.pool n h.follows.pool; place = λ x e. (n, e) })
      ((moves_keep o).deliver o w n h.lawful) (back_on_delivers w n next) next

  -- the last for a client stands in the pool
  last_place : (c : ℕ) (x : Token) (all ts : List Token) (t : Option Token)
      → ((y : Token) → t ≡ Some y → (i : ℕ) × (slice_get all i ≡ Some y))
      → ((y : Token) (i : ℕ) → slice_get ts i ≡ Some y → (k : ℕ) × (slice_get all k ≡ Some y))
      → last_for c t ts ≡ Some x → (i : ℕ) × (slice_get all i ≡ Some x)
  unfolding last_for
  last_place c x all [] t h k e = h x e
  last_place c x all (y ∷ ts) t h k e = last_place c x all ts _ (at_test (is_for c y)) (λ z i. k z (suc i)) e
    where
      at_test : (test : Bool) → (z : Token) → cond test (Some y) t ≡ Some z → (i : ℕ) × (slice_get all i ≡ Some z)
      at_test true z e = k z zero e
      at_test false z e = h z e

  drop_place : (n : ℕ) (ts : List Token) (y : Token) (i : ℕ) → slice_get (drop n ts) i ≡ Some y
      → (k : ℕ) × (slice_get ts k ≡ Some y)
  drop_place zero ts y i e = (i, e)
  drop_place (suc n) [] y i e = (i, e)
  drop_place (suc n) (t ∷ ts) y i e = let r = drop_place n ts y i e in (suc r.0, r.1)

  pub on_hands : (f : FrameWorld) (w : World) (c before : ℕ) → Kept f w → Allowed (handed_last o w c before)
      → Kept (frame_moves.hands_last f c before) (handed_last o w c before)
  unfolding handed_last
  on_hands f w c before h next =
      letter_comes f w (last_for c None (drop before w.pool)) (frames.last_for c None (drop before f.pool)) h
      (record {
        found = last_same b c None None (drop before w.pool) (drop before f.pool) tt (pools_drop b before w.pool f.pool h.follows.pool);
        place = λ x e. last_place c x w.pool (drop before w.pool) None (λ y e. absurd (cc e)) (λ y i e. drop_place before w.pool y i e) e;
      })
      ((moves_keep o).hand o w c before h.lawful) (back_on_hands w c before next) next

  -- ---- the other moves

  pub on_sends : (f : FrameWorld) (w : World) (c : ℕ) → Kept f w → Allowed (client_sends w c)
      → Kept (frames.client_sends f c) (client_sends w c)
  on_sends f w c h next = record {
    follows = sends_follow f w c (known w h.lawful (back_on_sends w c next)) h.follows;
    lawful = (moves_keep o).send w c h.lawful;
    own = (sends_grow w c).own h.own;
  }

  pub on_ticks : (f : FrameWorld) (w : World) → Kept f w → Allowed (ticks w) → Kept (frames.ticks f) (ticks w)
  on_ticks f w h next = record {
    follows = ticks_follow b f w h.follows;
    lawful = (moves_keep o).tick w h.lawful;
    own = (ticks_grow w).own h.own;
  }

  pub back_on_finish : (w : World) (c : ℕ) → Allowed (finished o w c) → Allowed w
  back_on_finish w c next =
      finished_back FrameWorld frame_moves o Kept Allowed
      (λ s w r. same_size b s w r.follows) (λ s w r. same_busy b s w r.follows) (λ s w r. same_outstanding b s w r.follows)
      (λ s w c r. same_idle b s w c r.follows) (λ s w c r. same_waiting b s w c r.follows)
      on_delivers on_sends on_ticks on_hands
      back_on_delivers back_on_sends back_on_ticks back_on_hands w c next

  pub on_finish : (f : FrameWorld) (w : World) (c : ℕ) → Kept f w → Allowed (finished o w c)
      → Kept (finished_by frame_moves f c) (finished o w c)
  on_finish f w c h next =
      finished_follows FrameWorld frame_moves o Kept Allowed
      (λ s w r. same_size b s w r.follows) (λ s w r. same_busy b s w r.follows) (λ s w r. same_outstanding b s w r.follows)
      (λ s w c r. same_idle b s w c r.follows) (λ s w c r. same_waiting b s w c r.follows)
      on_delivers on_sends on_ticks on_hands
      back_on_delivers back_on_sends back_on_ticks back_on_hands f w c h next
