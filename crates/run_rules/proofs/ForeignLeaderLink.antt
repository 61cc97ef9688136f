-- The reply to a foreign lane's command comes to the leader, with the act that is read off its turn.
use Rattle.std.proofs.Common.{◌≡◌, ◌∙◌, ℕ, ◌<◌, ◌≤◌, ◌^◌, ◌+◌, ◌-◌, ◌&&◌, cond, nat_eq, nat_lt, true, false, Bool, List, length, Option, Some, None, Ok, slice_get, refl, sym, ap, subst, inl, inr, arith}
use Rattle.std.proofs.lemmas.Bool.{cases_Bool, cond_both, eq-eqb, eqb-true, lt-ltb}
use Rattle.std.proofs.lemmas.Option.{slice_get_within}
use Rattle.frame_rules.specs.Frames as frame
use Rattle.frame_rules.specs.Frames.{PlainFrame, PlainBody}
use Rattle.frame_rules.specs.Spelling.{IsFrame, IsAddressed}
use Rattle.frame_rules.specs.Whole.{whole, linked, is_reply, has_width}
use Rattle.mailbox_rules.specs.Requests.{Command, Registers, Begins, Audits, Settles, Reads, Retires, Line}
use Rattle.token_rules.specs.Tokens as token
use Rattle.token_rules.specs.Tokens.{World, Oracle, Act, Row, no_act}
use Rattle.token_rules.specs.Run.{comes, reply_comes, reply_applied, foreign_reply_comes, foreign_acks, has_settle, acted}
use Rattle.token_rules.specs.Invariant.{Numbered, state}
use Rattle.step_rules.specs.Leader as leader
use Rattle.step_rules.specs.Leader.{AckTurn, row_at}
use Rattle.step_rules.specs.LeaderReplies as steps
use Rattle.step_tokens.specs.LeaderRows.{bare}
use Rattle.run_rules.specs.Letters.{Letter, ToLeaderLink, FrameWorld}
use Rattle.run_rules.specs.Run as frames
use Rattle.run_rules.specs.Book.{Book}
use Rattle.run_rules.specs.Frames.{frame_with}
use Rattle.run_rules.specs.Follows.{Carries, IsForeignLink, ForeignOrder, ForeignReply, IsCommand, Follows}
use Rattle.run_rules.specs.Known.{Known}
use Rattle.run_rules.specs.Acts.{act_of, fits_of, settles_of}
use Rattle.run_rules.proofs.Basics.{whole_spelled}
use Rattle.run_rules.proofs.LeaderReplies.{oldest_is, none_out, get_first, no_letters}
use Rattle.run_rules.proofs.ForeignLeaderApplied.{Oldest}
use Rattle.run_rules.proofs.ForeignLeaderReplies.{LeaderAcks, Answered, Settled, acks_fit}
use Rattle.run_rules.proofs.ForeignLeaderReplied.{fitted_acks}

-- the act of a turn at a reply
abbrev pub ack_act : AckTurn → ℕ → Act
ack_act t c = record no_act { row = bare (row_at t.leader c); fits = fits_of t.ack; settles = settles_of t.ack }

-- nothing changes but what the token run counts
counts_follow : (b : Book) (f : FrameWorld) (w : World) (moment misfits : ℕ) → Follows b f w
    → Follows b (frames.to_leader_link f (steps.ignored f.leader)) (record w { moment = moment; misfits = misfits })
counts_follow b f w moment misfits h =
    let k = no_letters b f w h in
    record {
      limit = k.limit;
      width = k.width;
      window = k.window;
      foreign = k.foreign;
      helper = k.helper;
      leader = k.leader;
      clients = k.clients;
      waiting = k.waiting;
      told = k.told;
      pool = k.pool;
      journal = k.journal;
      outcomes = k.outcomes;
    }

no_settle : (y : Command) → has_settle y false ≡ false
no_settle Registers = refl
no_settle Begins = refl
no_settle Audits = refl
no_settle Settles = refl
no_settle Reads = refl
no_settle Retires = refl

acks_misfits : (w : World) (x : Line) (r : Row) (t : Bool) → (foreign_acks w x r t).misfits ≡ w.misfits
unfolding foreign_acks
acks_misfits w x r true = refl
acks_misfits w x r false = refl

-- the token run goes on as the frames' run where the reply is ignored
ignored_act : (b : Book) (f : FrameWorld) (w : World) (x : Line) (o : Oracle) → Follows b f w → w.foreign x.lane ≡ true
    → o w.moment ≡ ack_act (steps.ignored f.leader) x.lane
    → Follows b (frames.to_leader_link f (steps.ignored f.leader)) (reply_applied o w x)
unfolding reply_applied foreign_reply_comes
ignored_act b f w x o h foreign same = rw (foreign, same) (counts_follow b f w (w.moment + 1) (w.misfits + 1) h)

-- and where it takes the act
applied_act : (b : Book) (f : FrameWorld) (w : World) (x : Line) (t : AckTurn) (o : Oracle) → Follows b f w → LeaderAcks b f w x t
    → w.foreign x.lane ≡ true → o w.moment ≡ ack_act t x.lane
    → Follows b (frames.to_leader_link f t) (reply_applied o w x)
unfolding reply_applied foreign_reply_comes foreign_acks
applied_act b f w x t o h (Answered r fits settles row k) foreign same =
    let none = no_settle x.command in
    rw (foreign, same, fits, settles, none, row) k
applied_act b f w x t o h (Settled r fits settles audits row k) foreign same =
    rw (foreign, same, fits, settles, audits, row) k

-- ---- the reply's place

order_first : (b : Book) (i : ℕ) (x : Line) (order : PlainBody) (lane serial : ℕ) → ForeignOrder b i x order → IsAddressed order lane serial → 1 ≤ serial
order_first b i x (frame.LinkRegister address) lane serial o first = first
order_first b i x (frame.LinkBegin draw part) lane serial o first = first
order_first b i x (frame.LinkAudit sigma own) lane serial o first = first
order_first b i x (frame.LinkSettle closing) lane serial o first = first
order_first b i x (frame.LinkRead n) lane serial o first = first
order_first b i x (frame.LinkRetire n) lane serial o first = first
order_first b i x order lane serial o first = absurd o

answers_none : (a : leader.Leader) (g : PlainFrame) → steps.answers a g None ≡ steps.ignored a
unfolding steps.answers
answers_none a g = refl

answers_other : (a : leader.Leader) (g c : PlainFrame) → nat_eq g.link c.link ≡ false → steps.answers a g (Some c) ≡ steps.ignored a
unfolding steps.answers
answers_other a g c t = rw t refl

module _ (b : Book) (f : FrameWorld) (v w : World) (n : ℕ) (x : Line) (g : PlainFrame) (known : Known b v w) (h : Follows b f w) (foreign : b.foreign x.lane ≡ true)
    (number : Numbered (state w known.lawful.stages) n x) (carried : n ≤ w.carried)
    (link : g.link ≡ n) (lane : g.lane ≡ x.lane) (serial : g.serial ≡ x.serial) (reply : ForeignReply b (n - 1) x g.body) (fr : IsFrame g) where
  other : w.foreign x.lane ≡ true
  other = ap (λ g. g x.lane) h.foreign ∙ foreign

  -- another command's reply is ignored
  ignored_so : nat_eq n (w.acknowledged + 1) ≡ false → steps.if_reply f.leader (Some g) ≡ steps.ignored f.leader
  unfolding steps.if_reply
  ignored_so t = by_oldest (slice_get w.commands w.acknowledged) refl
    where
      by_oldest : (found : Option Line) → slice_get w.commands w.acknowledged ≡ found
          → steps.answers f.leader g (slice_get f.leader.outstanding 0) ≡ steps.ignored f.leader
      by_oldest None e =
          let none = none_out b _ _ _ h.leader.outstanding (get_first w.acknowledged w.commands ∙ e) in
          ap (steps.answers f.leader g) none ∙ answers_none f.leader g
      by_oldest (Some y) e =
          let oldest = oldest_is b f w y h e in
          let apart : nat_eq g.link oldest.command.link ≡ false = ap (λ m. nat_eq m oldest.command.link) link ∙ ap (nat_eq n) oldest.link ∙ t in
          ap (steps.answers f.leader g) oldest.is ∙ answers_other f.leader g oldest.command apart

  matched : (c : PlainFrame) → c.link ≡ n → c.lane ≡ x.lane → c.serial ≡ x.serial
      → steps.answers f.leader g (Some c) ≡ steps.if_fits f.leader (steps.fits f.leader c g.body (steps.refusal_in g.body))
  unfolding steps.answers
  matched c one two three =
      let first : nat_eq g.link c.link ≡ true = eq-eqb _ _ (link ∙ sym one) in
      let second : nat_eq g.lane c.lane ≡ true = eq-eqb _ _ (lane ∙ sym two) in
      let third : nat_eq g.serial c.serial ≡ true = eq-eqb _ _ (serial ∙ sym three) in
      rw (first, second, third) refl

  -- the oldest command's reply
  oldest_acks : n ≡ w.acknowledged + 1 → LeaderAcks b f w x (steps.if_reply f.leader (Some g))
  unfolding steps.if_reply
  oldest_acks e =
      let next = number.next in
      let there : slice_get w.commands w.acknowledged ≡ Some x = subst (λ i. slice_get w.commands i ≡ Some x) (omega (arith, e, next)) number.is in
      let oldest = oldest_is b f w x h there in
      let of : IsCommand b true (w.acknowledged + 1) x oldest.command = subst (λ t. IsCommand b t (w.acknowledged + 1) x oldest.command) foreign oldest.of in
      let at : w.acknowledged + 1 - 1 ≡ w.acknowledged = omega arith in
      let order : ForeignOrder b w.acknowledged x oldest.command.body = subst (λ i. ForeignOrder b i x oldest.command.body) at of.3 in
      let mine : ForeignReply b w.acknowledged x g.body = subst (λ i. ForeignReply b i x g.body) (omega (arith, e)) reply in
      let lanes = known.sound.limits.2.1 in
      let low = oldest.low in
      let small : x.serial < 2 ^ 32 = let s = oldest.is_frame.serial in let same = of.2 in omega (arith, s, same) in
      let first : 1 ≤ x.serial = let k = order_first b w.acknowledged x oldest.command.body oldest.command.lane oldest.command.serial order oldest.is_frame.addressed in let same = of.2 in omega (arith, k, same) in
      let few = slice_get_within w.commands w.acknowledged x there in
      let k : Oldest b f w x.lane x.serial x.command = record { foreign = foreign; low = low; there = there; few = few; entered = record { entry = _; is = mine.entered; lane = refl } } in
      let acks = fitted_acks b f v w x.lane x.serial known h (omega (arith, low, lanes)) small first x.command k oldest.command.body g.body order mine fr.body in
      let is : frame_with x.lane x.serial (w.acknowledged + 1) oldest.command.body ≡ oldest.command =
      ap (λ m. frame_with m x.serial (w.acknowledged + 1) oldest.command.body) (sym of.1)
      ∙ ap (λ m. frame_with oldest.command.lane m (w.acknowledged + 1) oldest.command.body) (sym of.2)
      ∙ ap (λ m. frame_with oldest.command.lane oldest.command.serial m oldest.command.body) (sym of.0) in
      let turn : steps.answers f.leader g (slice_get f.leader.outstanding 0) ≡ steps.if_fits f.leader (steps.fits f.leader oldest.command g.body (steps.refusal_in g.body)) =
      ap (steps.answers f.leader g) oldest.is ∙ matched oldest.command (of.0 ∙ sym e) of.1 of.2 in
      subst (LeaderAcks b f w x) (sym turn)
      (subst (λ c. LeaderAcks b f w x (steps.if_fits f.leader (steps.fits f.leader c g.body (steps.refusal_in g.body)))) is acks)

  -- where it is read it fits, so that none is counted that doesn't
  pub fits_then : (o : Oracle) → o w.moment ≡ ack_act (steps.if_reply f.leader (Some g)) x.lane
      → (reply_comes o w n x).misfits ≡ w.misfits
  unfolding reply_comes reply_applied foreign_reply_comes
  fits_then o same = elim (cases_Bool (nat_eq n (w.acknowledged + 1))) [
    | inr t ↦ rw t refl
    | inl t ↦
        let fits = acks_fit b f w x (steps.if_reply f.leader (Some g)) (oldest_acks (eqb-true n (w.acknowledged + 1) t)) in
        rw (t, other, same, fits) (cond_both {A = World} (nat_lt w.acknowledged (length w.commands)) _ _ (λ u. u.misfits ≡ w.misfits) (λ e. acks_misfits (acted w) x _ _) (λ e. refl))
  ]

  -- read as it may be
  link_comes : (found : Bool) (o : Oracle) → o w.moment ≡ ack_act (steps.if_reply f.leader (cond found (Some g) None)) x.lane
      → Follows b (frames.to_leader_link f (steps.if_reply f.leader (cond found (Some g) None))) (reply_comes o w n x)
  unfolding reply_comes steps.if_reply
  link_comes false o same = by_place (nat_eq n (w.acknowledged + 1) && nat_lt w.acknowledged (length w.commands))
    where
      by_place : (t : Bool) → Follows b (frames.to_leader_link f (steps.ignored f.leader)) (cond t (reply_applied o w x) w)
      by_place true = ignored_act b f w x o h other same
      by_place false = no_letters b f w h
  link_comes true o same = elim (cases_Bool (nat_eq n (w.acknowledged + 1))) [
    | inr t ↦
        let is = ignored_so t in
        subst (λ z. Follows b (frames.to_leader_link f z) (cond (nat_eq n (w.acknowledged + 1) && nat_lt w.acknowledged (length w.commands)) (reply_applied o w x) w)) (sym is)
        (rw t (no_letters b f w h))
    | inl t ↦
        let e = eqb-true n (w.acknowledged + 1) t in
        let next = number.next in
        let there : slice_get w.commands w.acknowledged ≡ Some x = subst (λ i. slice_get w.commands i ≡ Some x) (omega (arith, e, next)) number.is in
        let u : nat_lt w.acknowledged (length w.commands) ≡ true = lt-ltb _ _ (slice_get_within w.commands w.acknowledged x there) in
        rw (t, u) (applied_act b f w x (steps.if_reply f.leader (Some g)) o h (oldest_acks e) other same)
  ]

-- ---- it comes

pub linked_either : (width : ℕ) (g : PlainFrame) (bytes : List ℕ) → whole bytes ≡ Ok g
    → linked is_reply width bytes ≡ cond (is_reply g.body && has_width width g.body) (Some g) None
unfolding linked
linked_either width g bytes e = rw e refl

pub replied_follows_act : (b : Book) (f : FrameWorld) (v w : World) (n i : ℕ) (x : Line) (l : Letter) → Known b v w
    → slice_get w.pool i ≡ Some (token.Replied n x) → Follows b f w → b.foreign x.lane ≡ true → Carries b (token.Replied n x) l
    → Follows b (frames.comes f l.to l.bytes) (comes (λ m. act_of f (token.Replied n x) l) w (token.Replied n x))
unfolding comes frames.comes
replied_follows_act b f v w n i x l known e h foreign carries =
    let one : IsForeignLink b l ToLeaderLink n x (token.Replied n x) = rw foreign at carries in
    let g = one.frame in
    let claim = known.lawful.coherent.pool i (token.Replied n x) e in
    let fr = one.spelled.is_frame in
    let read : whole l.bytes ≡ Ok g = ap whole one.spelled.bytes ∙ whole_spelled g fr in
    let found = linked_either f.leader.settings.width g l.bytes read in
    let o : Oracle = λ m. act_of f (token.Replied n x) l in
    let done = link_comes b f v w n x g known h foreign claim.1.0 claim.1.1 one.link one.lane one.serial one.body fr
    (is_reply g.body && has_width f.leader.settings.width g.body) o
    (ap (λ z. ack_act (steps.if_reply f.leader z) x.lane) found) in
    rw (one.spelled.at) (subst (λ z. Follows b (frames.to_leader_link f (steps.if_reply f.leader z)) (reply_comes o w n x)) (sym found) done)
