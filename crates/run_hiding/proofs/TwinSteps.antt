-- A token comes in both runs, with its letters: what is alike of the states stays alike.
use Rattle.std.proofs.Common.{◌≡◌, ◌∙◌, ◌<◌, ◌≤◌, ◌+◌, ◌-◌, ◌⊎◌, ◌&&◌, ℕ, zero, suc, Bool, true, false, cond, nat_eq, nat_lt, List, [], ◌∷◌, ◌++◌, length, Option, Some, None, slice_get, slice_index_or, length-append, sym, ap, ap₂, subst, arith, inl, inr}
use Rattle.std.proofs.lemmas.Bool.{and_parts, cases_eq, cases_lt, cond_both, false_from_ne_true, ltb-true}
use Rattle.mailbox_rules.specs.Requests.{Command, Entry, Line, Request}
use Rattle.token_rules.specs.Tokens as token
use Rattle.token_rules.specs.Tokens.{Act, Oracle, Phase, Token, World}
use Rattle.token_rules.specs.Rows.{LeaderIssues, LeaderKept, LeaderLater, LeaderNothing, LeaderSays, reply_step}
use Rattle.token_rules.specs.Run as tokens
use Rattle.token_rules.specs.Run.{acknowledges, acted, comes, foreign_acks, foreign_at_leader, foreign_frame_comes, foreign_reply_comes, has_settle, injected_comes, is_full, leader_says, misfitted, reply_applied, reply_comes, with_leader}
use Rattle.token_rules.proofs.Lists.{get_taken, taken_get}
use Rattle.step_rules.specs.HelperCommands.{kept_for}
use Rattle.step_rules.specs.Helper.{Helper}
use Rattle.run_rules.specs.Letters.{FrameWorld, Letter}
use Rattle.run_rules.specs.Run as frames
use Rattle.run_rules.specs.Book.{Book, Brought}
use Rattle.run_rules.specs.Acts.{Both, act_of, acts_taken, both_come, taken_of}
use Rattle.run_rules.specs.Follows.{Follows}
use Rattle.run_rules.specs.Known.{Known}
use Rattle.run_rules.specs.Plain.{IsHistory}
use Rattle.run_rules.proofs.BroughtTokens as adds
use Rattle.run_rules.proofs.BroughtTokens.{Issued}
use Rattle.run_rules.proofs.Basics.{pools_length}
use Rattle.run_rules.proofs.WholeGrows.{AreOwn, IsOwn, own_at}
use Rattle.run_rules.proofs.WholePools.{comes_adds, comes_post}
use Rattle.run_hiding.specs.Flow.{flow}
use Rattle.run_hiding.proofs.Flow.{comes_flow}
use Rattle.run_hiding.proofs.Due.{due_same}
use Rattle.run_hiding.proofs.TwinKept.{fewer, kept_later, kept_now}
use Rattle.run_hiding.proofs.TwinOrders.{Answers, Goes, Keeps}
use Rattle.run_hiding.proofs.Twins.{Alike, LikeBytes, LikeHelperRows, LikeKeys, LikeKept, LikeLeaderRows, LikeLetters, LikeOrders, LikePools, Paired}

-- ---- no more is acknowledged than was issued before

said : (w : World) (n c s : ℕ) (x : Phase) (says : LeaderSays) → w.acknowledged ≤ n → (leader_says w c s x says).acknowledged ≤ n
unfolding leader_says
said w n c s x LeaderNothing h = h
said w n c s x LeaderLater h = h
said w n c s x LeaderKept h = h
said w n c s x (LeaderIssues y) h = h

acks_few : (w : World) (n : ℕ) (x : Line) (r : token.Row) (settles : Bool) → w.acknowledged + 1 ≤ n → (foreign_acks w x r settles).acknowledged ≤ n
unfolding foreign_acks
acks_few w n x r true h = h
acks_few w n x r false h = h

foreign_few : (w : World) (n : ℕ) (x : Line) (act : Act) → w.acknowledged + 1 ≤ n → (foreign_reply_comes w x act).acknowledged ≤ n
unfolding foreign_reply_comes
foreign_few w n x act h = by_fit act.fits
  where
    by_fit : (t : Bool) → (cond t (foreign_acks w x act.row (has_settle x.command act.settles)) (misfitted w)).acknowledged ≤ n
    by_fit true = acks_few w n x act.row (has_settle x.command act.settles) h
    by_fit false = omega (arith, h)

applied_few : (o : Oracle) (w : World) (n : ℕ) (x : Line) → w.acknowledged + 1 ≤ n → (reply_applied o w x).acknowledged ≤ n
unfolding reply_applied
applied_few o w n x h = cond_both {A = World} (w.foreign x.lane) _ _ (λ v. v.acknowledged ≤ n)
    (λ f. foreign_few (acted w) n x (o w.moment) h)
    (λ f. said (with_leader (acknowledges w) x.lane (reply_step x.serial x.command).row) n x.lane x.serial _ _ h)

replied : (o : Oracle) (w : World) (n : ℕ) (x : Line) → w.acknowledged ≤ length w.commands → (reply_comes o w n x).acknowledged ≤ length w.commands
unfolding reply_comes
replied o w n x h = cond_both {A = World} (nat_eq n (w.acknowledged + 1) && nat_lt w.acknowledged (length w.commands)) _ _ (λ v. v.acknowledged ≤ length w.commands)
    (λ e. let low : w.acknowledged < length w.commands = ltb-true w.acknowledged (length w.commands) (and_parts (nat_eq n (w.acknowledged + 1)) (nat_lt w.acknowledged (length w.commands)) e).1 in let more : w.acknowledged + 1 ≤ length w.commands = omega (arith, low) in applied_few o w (length w.commands) x more)
    (λ e. h)

leader_same : (w : World) (c : ℕ) (r : token.Row) (says : Option ℕ) (y : Option Command) (n : ℕ) → w.acknowledged ≤ n → (foreign_at_leader w c r says y).acknowledged ≤ n
unfolding foreign_at_leader
leader_same w c r says (Some y) n h = h
leader_same w c r says None n h = h

injected : (o : Oracle) (w : World) (c : ℕ) → w.acknowledged ≤ length w.commands → (injected_comes o w true (Some c)).acknowledged ≤ length w.commands
unfolding injected_comes foreign_frame_comes
injected o w c h = cond_both {A = World} (w.foreign c) _ _ (λ v. v.acknowledged ≤ length w.commands)
    (λ e. cond_both {A = World} (is_full (acted w)) _ _ (λ v. v.acknowledged ≤ length w.commands) (λ f. h) (λ f. leader_same (acted w) c (o w.moment).row (o w.moment).says (o w.moment).issues (length w.commands) h))
    (λ e. h)

few_acknowledged : (o : Oracle) (w : World) (t : Token) (x : Line) → Issued o w t x → w.acknowledged ≤ length w.commands → (comes o w t).acknowledged ≤ length w.commands
unfolding comes
few_acknowledged o w (token.Submission c s y) x issued h = said _ (length w.commands) c s _ _ h
few_acknowledged o w (token.ProofToLeader c s) x issued h = said _ (length w.commands) c s _ _ h
few_acknowledged o w (token.Replied n y) x issued h = replied o w n y h
few_acknowledged o w (token.Injected true (Some c)) x issued h = injected o w c h
few_acknowledged o w t x issued h = absurd issued

-- ---- lists

front_of : {X : Type 0} (xs ys : List X) (j : ℕ) (x : X) → j < length xs → slice_get (xs ++ ys) j ≡ Some x → slice_get xs j ≡ Some x
front_of [] ys j x low e = absurd (omega (arith, low))
front_of (y ∷ xs) ys zero x low e = e
front_of (y ∷ xs) ys (suc j) x low e = front_of xs ys j x (omega (arith, low)) e

behind : (xs ys : List Token) (j : ℕ) (x : Token) → length xs ≤ j → AreOwn ys → slice_get (xs ++ ys) j ≡ Some x → IsOwn x
behind [] ys j x high own e = own_at ys j x own e
behind (y ∷ xs) ys zero x high own e = absurd (omega (arith, high))
behind (y ∷ xs) ys (suc j) x high own e = behind xs ys j x (omega (arith, high)) own e

kept_same : (h after : Helper) (n : ℕ) → after.carried ≡ h.carried → after.replies ≡ h.replies → kept_for after n ≡ kept_for h n
kept_same h after n number replies =
    ap₂ (λ c rs. slice_index_or rs (n + length rs - (c + 1)) []) number replies

module _ (b : Book) (sent : ℕ → List Request) (commands : List Line) (entries : List Entry) (brought : Brought) (v z : World) (history : IsHistory b)
    (s t : Both) (pair : Paired b sent commands entries brought v z history s t) (alike : Alike b sent commands entries brought v z history s t)
    (i : ℕ) (k : Token) (l m : Letter) (at : slice_get s.world.pool i ≡ Some k)
    (here : slice_get s.frames.pool i ≡ Some l) (there : slice_get t.frames.pool i ≡ Some m)
    (paired : Paired b sent commands entries brought v z history (both_come s (Some k) (Some l)) (both_come t (Some k) (Some m))) where
  abbrev pub d : Book
  d = record b { sent = sent; commands = commands; entries = entries; brought = brought }

  abbrev pub f : FrameWorld
  f = s.frames

  abbrev pub g : FrameWorld
  g = t.frames

  abbrev pub w : World
  w = s.world

  abbrev pub u : World
  u = t.world

  abbrev pub o : Oracle
  o = λ n. act_of f k l

  abbrev pub p : Oracle
  p = λ n. act_of g k m

  abbrev pub w' : World
  w' = comes o w k

  abbrev pub u' : World
  u' = comes p u k

  abbrev pub f' : FrameWorld
  f' = frames.comes f l.to l.bytes

  abbrev pub g' : FrameWorld
  g' = frames.comes g m.to m.bytes

  -- what is shown of each kind of token
  pub record Case : Type 0 where
    pub same : (y : World) → y.foreign ≡ b.foreign → comes p y k ≡ comes o y k
    pub acts : (act_of g k m ≡ act_of f k l) ⊎ (w'.moment ≡ w.moment)
    pub taken : taken_of g k m ≡ taken_of f k l
    pub helper : LikeHelperRows b sent commands entries brought v z history f'.helper g'.helper
    pub leader : LikeLeaderRows b sent commands entries brought v z history f'.leader g'.leader
    pub goes : Goes f.helper f'.helper
    pub others_go : Goes g.helper g'.helper
    pub answers : (j n : ℕ) (x : Line) (y q : Letter) → length w.pool ≤ j → slice_get w'.pool j ≡ Some (token.Replied n x) → b.foreign x.lane ≡ true
        → slice_get f'.pool j ≡ Some y → slice_get g'.pool j ≡ Some q → Answers f'.helper n y × Answers g'.helper n q
    pub new : (x y : List ℕ) → Keeps f.helper f'.helper x → Keeps g.helper g'.helper y → (line : Line) → slice_get w'.commands w.carried ≡ Some line → b.foreign line.lane ≡ true
        → LikeBytes x y
    pub keys : LikeKeys b sent commands entries brought v z history w'

  -- both states that are come to
  pub known_of : Known b v w'
  unfolding both_come tokens.delivers
  known_of = paired.known

  pub other_known_of : Known d z u'
  unfolding both_come tokens.delivers
  other_known_of = paired.other_known

  pub follows_of : Follows b f' w'
  unfolding both_come tokens.delivers frames.delivers
  follows_of = paired.follows

  pub others_of : Follows d g' u'
  unfolding both_come tokens.delivers frames.delivers
  others_of = paired.others

  module _ (one : Case) where
    flows : flow u' ≡ flow w'
    flows =
        sym (comes_flow p u k) ∙ ap (λ y. comes p y k) alike.flow ∙ one.same (flow w) pair.follows.foreign ∙ comes_flow o w k

    none_taken : (y y' : World) (act : Act) → y'.moment ≡ y.moment → acts_taken y y' act ≡ []
    none_taken y y' act e = ap (λ t. cond t (act ∷ []) []) (false_from_ne_true (nat_lt y.moment y'.moment) (λ t. let low = ltb-true _ _ t in omega (arith, low, e)))

    acts_alike : (act_of g k m ≡ act_of f k l) ⊎ (w'.moment ≡ w.moment) → acts_taken u u' (act_of g k m) ≡ acts_taken w w' (act_of f k l)
    acts_alike (inl e) =
        ap (λ a. acts_taken u u' a) e
        ∙ ap₂ (λ n j. cond (nat_lt n j) (act_of f k l ∷ []) []) (ap (λ (y : World). y.moment) alike.flow) (ap (λ (y : World). y.moment) flows)
    acts_alike (inr e) =
        none_taken u u' (act_of g k m) (ap (λ (y : World). y.moment) flows ∙ e ∙ sym (ap (λ (y : World). y.moment) alike.flow))
        ∙ sym (none_taken w w' (act_of f k l) e)

    count : length f.pool ≡ length w.pool
    count = pools_length b w.pool f.pool pair.follows.pool

    other_count : length g.pool ≡ length w.pool
    other_count = pools_length d u.pool g.pool pair.others.pool ∙ ap (λ (y : World). length y.pool) alike.flow

    front : (j : ℕ) (y : Token) → j < length w.pool → slice_get w'.pool j ≡ Some y → slice_get w.pool j ≡ Some y
    front j y low e = let a = comes_adds o w k in front_of w.pool a.more j y low (ap (λ p. slice_get p j) (sym a.pool) ∙ e)

    front_one : (j : ℕ) (y : Letter) → j < length f.pool → slice_get f'.pool j ≡ Some y → slice_get f.pool j ≡ Some y
    front_one j y low e = let a = comes_post f l.to l.bytes in front_of f.pool a.more j y low (ap (λ p. slice_get p j) (sym a.pool) ∙ e)

    front_two : (j : ℕ) (y : Letter) → j < length g.pool → slice_get g'.pool j ≡ Some y → slice_get g.pool j ≡ Some y
    front_two j y low e = let a = comes_post g m.to m.bytes in front_of g.pool a.more j y low (ap (λ p. slice_get p j) (sym a.pool) ∙ e)

    new_own : (j : ℕ) (y : Token) → length w.pool ≤ j → slice_get w'.pool j ≡ Some y → IsOwn y
    new_own j y high e = let a = comes_adds o w k in behind w.pool a.more j y high a.own (ap (λ p. slice_get p j) (sym a.pool) ∙ e)

    old_command : (j : ℕ) (x : Line) → j < length w.commands → slice_get w'.commands j ≡ Some x → slice_get w.commands j ≡ Some x
    old_command j x low e =
        ap (λ cs. slice_get cs j) pair.known.within.commands
        ∙ taken_get b.commands (length w.commands) j x low (get_taken b.commands (length w'.commands) j x (ap (λ cs. slice_get cs j) (sym known_of.within.commands) ∙ e)).1

    -- ---- kept replies

    carried_same : g.helper.carried ≡ f.helper.carried
    carried_same = pair.others.helper.number ∙ ap (λ (y : World). y.carried) alike.flow ∙ sym pair.follows.helper.number

    after_same : g'.helper.carried ≡ f'.helper.carried
    after_same = others_of.helper.number ∙ ap (λ (y : World). y.carried) flows ∙ sym follows_of.helper.number

    small : (h : Helper) (bytes : List ℕ) → h.server.settings ≡ b.settings → length (h.replies ++ bytes ∷ []) - h.server.settings.window ≤ length h.replies
    small h bytes e =
        let room = pair.known.sound.limits.3.0 in
        let same = ap (λ y. y.window) e in
        let more = length-append h.replies (bytes ∷ []) in
        omega (arith, room, same, more)

    kept_alike : LikeKept b sent commands entries brought v z history w' f'.helper g'.helper
    kept_alike n place x next is foreign old few other = by_goes one.goes one.others_go
      where
        low : f.helper.carried ≤ length w.commands
        low = let a = pair.known.lawful.coherent.carried in let e = pair.follows.helper.number in omega (arith, a, e)

        by_goes : Goes f.helper f'.helper → Goes g.helper g'.helper → LikeBytes (kept_for f'.helper n) (kept_for g'.helper n)
        by_goes (inl a) (inl e) =
            let an = a.number in
            let en = e.number in
            let cs = carried_same in
            let ar = ap length a.replies in
            let er = ap length e.replies in
            let place_low = low in
            let before = alike.kept n place x next (old_command place x (omega (arith, next, old, an, place_low)) is) foreign (omega (arith, old, an)) (omega (arith, few, an, ar)) (omega (arith, other, an, er)) in
            subst (λ y. LikeBytes y (kept_for g'.helper n)) (sym (kept_same f.helper f'.helper n a.number a.replies))
            (subst (λ y. LikeBytes (kept_for f.helper n) y) (sym (kept_same g.helper g'.helper n e.number e.replies)) before)
        by_goes (inr a) (inr e) = elim (cases_eq n (f.helper.carried + 1)) [
          | inl newest ↦
              let cs = carried_same in
              let now = kept_now f.helper f'.helper a.0 a.1.replies a.1.number (small f.helper a.0 pair.follows.helper.settings) in
              let then = kept_now g.helper g'.helper e.0 e.1.replies e.1.number (small g.helper e.0 pair.others.helper.settings) in
              let fn = pair.follows.helper.number in
              let like = one.new a.0 e.0 a.1 e.1 x (subst (λ j. slice_get w'.commands j ≡ Some x) (omega (arith, next, newest, fn)) is) foreign in
              subst (λ y. LikeBytes y (kept_for g'.helper n)) (sym (ap (kept_for f'.helper) newest ∙ now))
              (subst (λ y. LikeBytes a.0 y) (sym (ap (kept_for g'.helper) (newest ∙ ap (λ j. j + 1) (sym cs)) ∙ then)) like)
          | inr older ↦
              let cs = carried_same in
              let an = a.1.number in
              let en = e.1.number in
              let before_a = fewer f.helper f'.helper a.0 a.1.replies a.1.number in
              let before_e = fewer g.helper g'.helper e.0 e.1.replies e.1.number in
              let place_low = low in
              let mine = kept_later f.helper f'.helper a.0 a.1.replies a.1.number (small f.helper a.0 pair.follows.helper.settings) n (omega (arith, old, an, older)) few in
              let theirs = kept_later g.helper g'.helper e.0 e.1.replies e.1.number (small g.helper e.0 pair.others.helper.settings) n (omega (arith, old, an, older, cs)) (omega (arith, other, an, en, cs)) in
              let before = alike.kept n place x next (old_command place x (omega (arith, next, old, an, older, place_low)) is) foreign (omega (arith, old, an, older)) (omega (arith, few, an, before_a)) (omega (arith, other, an, before_e)) in
              subst (λ y. LikeBytes y (kept_for g'.helper n)) (sym mine) (subst (λ y. LikeBytes (kept_for f.helper n) y) (sym theirs) before)
        ]
        by_goes (inl a) (inr e) = absurd (let x = a.number in let y = e.1.number in let c = carried_same in let q = after_same in omega (arith, x, y, c, q))
        by_goes (inr a) (inl e) = absurd (let x = a.1.number in let y = e.number in let c = carried_same in let q = after_same in omega (arith, x, y, c, q))

    -- ---- pools

    pools_alike : LikePools b sent commands entries brought v z history w' f' g'
    pools_alike j y q r is one_is two_is = elim (cases_lt j (length w.pool)) [
      | inl low ↦
          let c = count in
          let e = other_count in
          old_letters y (alike.pool j y q r (front j y low is) (front_one j q (omega (arith, low, c)) one_is) (front_two j r (omega (arith, low, e)) two_is))
      | inr high ↦ new_letters y (new_own j y high is) high is
    ]
      where
        old_letters : (y : Token) → LikeLetters b sent commands entries brought v z history y q r → LikeLetters b sent commands entries brought v z history y q r
        old_letters y h = h

        new_letters : (y : Token) → IsOwn y → length w.pool ≤ j → slice_get w'.pool j ≡ Some y → LikeLetters b sent commands entries brought v z history y q r
        new_letters (token.Injected to_leader lane) own high is = absurd own
        new_letters (token.Replied n x) own high is = λ foreign.
            let a = one.answers j n x q r high is foreign one_is two_is in
            let told = (known_of.lawful.coherent.pool j (token.Replied n x) is).1.0 in
            let x1 = a.0.old in
            subst (λ e. LikeBytes e r.bytes) (sym a.0.bytes) (subst (λ e. LikeBytes (kept_for f'.helper n) e) (sym a.1.bytes)
            (kept_alike n told.place x told.next told.is foreign a.0.old a.0.few (let few = a.1.few in let after = after_same in omega (arith, few, after))))
        new_letters (token.Deposit c s) own high is = tt
        new_letters (token.Submission c s y) own high is = tt
        new_letters (token.ProofToHelper c s) own high is = tt
        new_letters (token.ProofToLeader c s) own high is = tt
        new_letters (token.Ordered n x) own high is = tt
        new_letters (token.HeldDeposit c s) own high is = tt
        new_letters (token.HeldProof c s) own high is = tt
        new_letters (token.Challenge c s) own high is = tt
        new_letters (token.Answer c s) own high is = tt
        new_letters (token.Later c s) own high is = tt
        new_letters (token.Foreign c) own high is = tt

    -- ---- what was issued

    orders_alike : LikeOrders b sent commands entries brought v z history w'
    orders_alike j x is foreign = elim ((adds.comes_adds o w k).commands j x is) [
      | inl old ↦ alike.orders j x old foreign
      | inr issued ↦ elim (cases_lt j (length w.commands)) [
        | inl low ↦ alike.orders j x (old_command j x low is) foreign
        | inr high ↦
            let first = pair.known.lawful.coherent.acknowledged in
            let second = pair.known.lawful.coherent.carried in
            let few = few_acknowledged o w k x issued (omega (arith, first, second)) in
            due_same b sent commands entries brought f' g' w' u' follows_of others_of known_of.within other_known_of.within
            (ap (λ (y : World). y.commands) flows) (ap (λ (y : World). y.acknowledged) flows) one.leader j x (omega (arith, few, high)) is foreign
      ]
    ]

    pub comes_alike : Alike b sent commands entries brought v z history (both_come s (Some k) (Some l)) (both_come t (Some k) (Some m))
    unfolding both_come tokens.delivers frames.delivers
    comes_alike = record {
      flow = flows;
      acts = ap₂ (λ x y. x ++ y) alike.acts (acts_alike one.acts);
      taken = ap₂ (λ x y. x ++ y) alike.taken one.taken;
      helper = one.helper;
      leader = one.leader;
      pool = pools_alike;
      kept = kept_alike;
      orders = orders_alike;
      keys = one.keys;
    }
