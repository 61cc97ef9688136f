-- Each kind of token: what it does to both servers in both runs.
use Rattle.std.proofs.Common.{◌≡◌, ◌∙◌, ◌≤◌, ◌⊎◌, ℕ, Bool, true, false, List, length, Some, Ok, Result, slice_get, refl, sym, ap, subst, arith, inl, inr}
use Rattle.std.proofs.lemmas.Option.{slice_get_within}
use Rattle.express_words.specs.declared.refusal.Refusal.{Refusal}
use Rattle.frame_rules.specs.Frames.{PlainFrame}
use Rattle.frame_rules.specs.Whole.{is_reply, linked, whole}
use Rattle.mailbox_rules.specs.Requests.{Entry, Line, Request}
use Rattle.token_rules.specs.Tokens as token
use Rattle.token_rules.specs.Tokens.{Act, Oracle, Token, World}
use Rattle.token_rules.specs.Run.{comes}
use Rattle.step_rules.specs.Helper as helper
use Rattle.step_rules.specs.HelperClients.{client_turn}
use Rattle.step_rules.specs.Leader as leader
use Rattle.step_rules.specs.LeaderClients.{on_client}
use Rattle.step_rules.specs.LeaderReplies.{on_reply_bytes}
use Rattle.run_rules.specs.Letters.{Addressee, FrameWorld, Letter, ToClient, ToHelper, ToHelperLink, ToLeader, ToLeaderLink}
use Rattle.run_rules.specs.Run as frames
use Rattle.run_rules.specs.Book.{Book, Brought}
use Rattle.run_rules.specs.Acts.{Both, act_of, both_come, taken_of}
use Rattle.run_rules.specs.Follows.{Follows, IsLinked, Spelled}
use Rattle.run_rules.specs.Known.{Known}
use Rattle.run_rules.specs.Plain.{IsHistory}
use Rattle.frame_rules.specs.Spelling.{IsFrame, spelling}
use Rattle.run_rules.proofs.Basics.{pools_length, whole_spelled}
use Rattle.run_rules.proofs.BroughtTokens as adds
use Rattle.run_rules.proofs.BroughtTokens.{Entered}
use Rattle.run_rules.proofs.WholeHelperRows.{progress_same}
use Rattle.run_hiding.proofs.Letters.{carried_at}
use Rattle.run_hiding.proofs.LikeLeader.{hidden_row}
use Rattle.run_hiding.proofs.OtherRows.{answers_leader, helper_client_rows, leader_client_rows, leader_link_rows, progress_leader}
use Rattle.run_hiding.proofs.TwinKept.{no_replies}
use Rattle.run_hiding.proofs.TwinLinks.{linked_is}
use Rattle.run_hiding.proofs.TwinOrders.{Stays}
use Rattle.run_hiding.proofs.TwinSteps.{Case, follows_of, known_of}
use Rattle.run_hiding.proofs.Twins.{Alike, LikeHelperRows, LikeLeaderRows, Paired}

-- ---- where a frame comes to

pub to_helper : (f : FrameWorld) (l : Letter) (a : Addressee) → l.to ≡ a → frames.comes f l.to l.bytes ≡ frames.comes f a l.bytes
to_helper f l a e = ap (λ a. frames.comes f a l.bytes) e

abbrev pub IsAway : Addressee → Type 0
IsAway (ToClient c) = Unit {0}
IsAway ToLeader = Unit {0}
IsAway ToLeaderLink = Unit {0}
IsAway a = ⊥

helper_away : (f : FrameWorld) (a : Addressee) (bytes : List ℕ) → IsAway a → (frames.comes f a bytes).helper ≡ f.helper
unfolding frames.comes
helper_away f (ToClient c) bytes h = progress_same (frames.with_client f c _) c _
helper_away f ToLeader bytes h = refl
helper_away f ToLeaderLink bytes h = refl
helper_away f ToHelper bytes h = absurd h
helper_away f ToHelperLink bytes h = absurd h

abbrev pub LeavesLeader : Addressee → Type 0
LeavesLeader (ToClient c) = Unit {0}
LeavesLeader ToHelper = Unit {0}
LeavesLeader ToHelperLink = Unit {0}
LeavesLeader a = ⊥

pub leader_away : (f : FrameWorld) (a : Addressee) (bytes : List ℕ) → LeavesLeader a → (frames.comes f a bytes).leader ≡ f.leader
unfolding frames.comes
leader_away f (ToClient c) bytes h = progress_leader (frames.with_client f c _) c _
leader_away f ToHelper bytes h = refl
leader_away f ToHelperLink bytes h = answers_leader _ _ _
leader_away f ToLeader bytes h = absurd h
leader_away f ToLeaderLink bytes h = absurd h

not_link : (a : Addressee) → IsAway a ⊎ (a ≡ ToHelper) → a ≡ ToHelperLink → ⊥
not_link (ToClient c) h e = cc e
not_link ToLeader h e = cc e
not_link ToLeaderLink h e = cc e
not_link ToHelper h e = cc e
not_link ToHelperLink (inl h) e = h
not_link ToHelperLink (inr h) e = cc h

pub helper_is : (f : FrameWorld) (bytes : List ℕ) → (frames.comes f ToHelper bytes).helper.server ≡ (client_turn f.helper.server bytes).server
unfolding frames.comes
helper_is f bytes = refl

pub leader_is : (f : FrameWorld) (bytes : List ℕ) → (frames.comes f ToLeader bytes).leader ≡ (on_client f.leader bytes).leader
unfolding frames.comes
leader_is f bytes = refl

pub link_is : (f : FrameWorld) (bytes : List ℕ) → (frames.comes f ToLeaderLink bytes).leader ≡ (on_reply_bytes f.leader bytes).leader
unfolding frames.comes
link_is f bytes = refl

-- a client's helper keeps what it kept
helper_kept : (f : FrameWorld) (a : Addressee) (bytes : List ℕ) → IsAway a ⊎ (a ≡ ToHelper) → Stays f.helper (frames.comes f a bytes).helper
unfolding frames.comes
helper_kept f a bytes (inl h) = let e = helper_away f a bytes h in record { number = ap (λ h. h.carried) e; replies = ap (λ h. h.replies) e }
helper_kept f a bytes (inr e) = subst (λ a. Stays f.helper (frames.comes f a bytes).helper) (sym e) (record { number = refl; replies = refl })

ok_same : {x y : PlainFrame} → (let r : Result PlainFrame Refusal = Ok x in r) ≡ Ok y → x ≡ y
ok_same e = cc e

link_to : (b : Book) (n : ℕ) (x : Line) (y : Letter) (t : Bool) → IsLinked b y ToLeaderLink n x (token.Replied n x) t → y.to ≡ ToLeaderLink
link_to b n x y true h = h.spelled.at
link_to b n x y false h = h.spelled.at

module _ (b : Book) (sent : ℕ → List Request) (commands : List Line) (entries : List Entry) (brought : Brought) (v z : World) (history : IsHistory b)
    (s t : Both) (pair : Paired b sent commands entries brought v z history s t) (alike : Alike b sent commands entries brought v z history s t)
    (i : ℕ) (k : Token) (l m : Letter) (at : slice_get s.world.pool i ≡ Some k)
    (here : slice_get s.frames.pool i ≡ Some l) (there : slice_get t.frames.pool i ≡ Some m)
    (paired : Paired b sent commands entries brought v z history (both_come s (Some k) (Some l)) (both_come t (Some k) (Some m))) where
  abbrev pub d : Book
  d = record b { sent = sent; commands = commands; entries = entries; brought = brought }

  abbrev pub f : FrameWorld
  f = s.frames

  abbrev pub g : FrameWorld
  g = t.frames

  abbrev pub w : World
  w = s.world

  abbrev pub u : World
  u = t.world

  abbrev pub o : Oracle
  o = λ n. act_of f k l

  abbrev pub p : Oracle
  p = λ n. act_of g k m

  abbrev pub w' : World
  w' = comes o w k

  abbrev pub u' : World
  u' = comes p u k

  abbrev pub f' : FrameWorld
  f' = frames.comes f l.to l.bytes

  abbrev pub g' : FrameWorld
  g' = frames.comes g m.to m.bytes

  abbrev pub Same : Type 0
  Same = Case b sent commands entries brought v z history s t pair alike i k l m at here there paired

  abbrev pub HelperRows : Type 0
  HelperRows = LikeHelperRows b sent commands entries brought v z history f'.helper g'.helper

  abbrev pub LeaderRows : Type 0
  LeaderRows = LikeLeaderRows b sent commands entries brought v z history f'.leader g'.leader

  pub after : Known b v w'
  after = known_of b sent commands entries brought v z history s t pair alike i k l m at here there paired

  pub follows_after : Follows b f' w'
  follows_after = follows_of b sent commands entries brought v z history s t pair alike i k l m at here there paired

  -- an act that is the same in both
  pub same_act : act_of g k m ≡ act_of f k l → (y : World) → comes p y k ≡ comes o y k
  same_act e y = ap (λ a. comes (λ n. a) y k) e

  -- what leaves the link to the helper
  module _ (a : Addressee) (to : l.to ≡ a) (other : m.to ≡ a) (away : IsAway a ⊎ (a ≡ ToHelper)) (entered : (e : Entry) → Entered o w k e → ⊥) where
    stays : Stays f.helper f'.helper
    stays = subst (λ (y : FrameWorld). Stays f.helper y.helper) (sym (to_helper f l a to)) (helper_kept f a l.bytes away)

    others_stay : Stays g.helper g'.helper
    others_stay = subst (λ (y : FrameWorld). Stays g.helper y.helper) (sym (to_helper g m a other)) (helper_kept g a m.bytes away)

    no_answer : (j n : ℕ) (x : Line) (y : Letter) → length w.pool ≤ j → slice_get w'.pool j ≡ Some (token.Replied n x) → slice_get f'.pool j ≡ Some y → ⊥
    no_answer j n x y high is at_f = elim (no_replies f l.to l.bytes (λ e. not_link a away (sym to ∙ e)) j y at_f) [
      | inl old ↦ let low = slice_get_within f.pool j y old in let c = pools_length b w.pool f.pool pair.follows.pool in omega (arith, low, high, c)
      | inr never ↦ never (link_to b n x y (b.foreign x.lane) (carried_at b w'.pool f'.pool j (token.Replied n x) y follows_after.pool is at_f))
    ]

    pub quiet : ((y : World) → y.foreign ≡ b.foreign → comes p y k ≡ comes o y k) → (act_of g k m ≡ act_of f k l) ⊎ (w'.moment ≡ w.moment) → taken_of g k m ≡ taken_of f k l
        → HelperRows → LeaderRows → Same
    quiet same acts taken rows more = record {
      same = same;
      acts = acts;
      taken = taken;
      helper = rows;
      leader = more;
      goes = inl stays;
      others_go = inl others_stay;
      answers = λ j n x y q high is foreign at_f at_g. absurd (no_answer j n x y high is at_f);
      new = λ x y keeps others line is foreign. absurd (let e = stays.number in let c = keeps.number in omega (arith, e, c));
      keys = λ j e address is foreign does. elim ((adds.comes_adds o w k).entries j e is) [
        | inl old ↦ alike.keys j e address old foreign does
        | inr new ↦ absurd (entered e new)
      ];
    }

    -- rows of a server that it doesn't come to
    pub helper_same : IsAway a → HelperRows
    helper_same h c foreign =
        ap (λ (y : FrameWorld). helper.row_at y.helper.server c) (to_helper g m a other) ∙ ap (λ (y : helper.Helper). helper.row_at y.server c) (helper_away g a m.bytes h)
        ∙ alike.helper c foreign
        ∙ sym (ap (λ (y : FrameWorld). helper.row_at y.helper.server c) (to_helper f l a to) ∙ ap (λ (y : helper.Helper). helper.row_at y.server c) (helper_away f a l.bytes h))

    pub leader_same : LeavesLeader a → LeaderRows
    leader_same h c foreign =
        ap (λ (y : FrameWorld). hidden_row (leader.row_at y.leader c)) (to_helper g m a other) ∙ ap (λ (y : leader.Leader). hidden_row (leader.row_at y c)) (leader_away g a m.bytes h)
        ∙ alike.leader c foreign
        ∙ sym (ap (λ (y : FrameWorld). hidden_row (leader.row_at y.leader c)) (to_helper f l a to) ∙ ap (λ (y : leader.Leader). hidden_row (leader.row_at y c)) (leader_away f a l.bytes h))

  -- an honest lane's frame, in each run
  named_by : (x : Letter) (y : PlainFrame) (c other : ℕ) → x.bytes ≡ spelling y → IsFrame y → y.lane ≡ c → b.foreign c ≡ false → b.foreign other ≡ true
      → (q : PlainFrame) → whole x.bytes ≡ Ok q → q.lane ≡ other → ⊥
  named_by x y c other spelled fr lane honest foreign q read is =
      let same : q ≡ y = ok_same (sym read ∙ ap whole spelled ∙ whole_spelled y fr) in
      let one : other ≡ c = sym is ∙ ap (λ (y : PlainFrame). y.lane) same ∙ lane in
      let never : true ≡ false = sym foreign ∙ ap b.foreign one ∙ honest in
      cc never

  -- ---- a client's frame to the helper

  module _ (c : ℕ) (honest : b.foreign c ≡ false) (one two : PlainFrame) (mine : Spelled l ToHelper one) (theirs : Spelled m ToHelper two)
      (lane : one.lane ≡ c) (other_lane : two.lane ≡ c) where
    pub at_helper : HelperRows
    at_helper x foreign =
        ap (λ (y : FrameWorld). helper.row_at y.helper.server x) (to_helper g m ToHelper theirs.at) ∙ ap (λ y. helper.row_at y x) (helper_is g m.bytes)
        ∙ helper_client_rows g.helper.server m.bytes x (named_by m two c x theirs.bytes theirs.is_frame other_lane honest foreign)
        ∙ alike.helper x foreign
        ∙ sym (ap (λ (y : FrameWorld). helper.row_at y.helper.server x) (to_helper f l ToHelper mine.at) ∙ ap (λ y. helper.row_at y x) (helper_is f l.bytes)
        ∙ helper_client_rows f.helper.server l.bytes x (named_by l one c x mine.bytes mine.is_frame lane honest foreign))

  -- ---- a client's frame to the leader

  module _ (c : ℕ) (honest : b.foreign c ≡ false) (one two : PlainFrame) (mine : Spelled l ToLeader one) (theirs : Spelled m ToLeader two)
      (lane : one.lane ≡ c) (other_lane : two.lane ≡ c) where
    pub at_leader : LeaderRows
    at_leader x foreign =
        ap (λ (y : FrameWorld). hidden_row (leader.row_at y.leader x)) (to_helper g m ToLeader theirs.at) ∙ ap (λ y. hidden_row (leader.row_at y x)) (leader_is g m.bytes)
        ∙ ap (λ r. hidden_row r) (leader_client_rows g.leader m.bytes x (named_by m two c x theirs.bytes theirs.is_frame other_lane honest foreign))
        ∙ alike.leader x foreign
        ∙ sym (ap (λ (y : FrameWorld). hidden_row (leader.row_at y.leader x)) (to_helper f l ToLeader mine.at) ∙ ap (λ y. hidden_row (leader.row_at y x)) (leader_is f l.bytes)
        ∙ ap (λ r. hidden_row r) (leader_client_rows f.leader l.bytes x (named_by l one c x mine.bytes mine.is_frame lane honest foreign)))

  -- ---- a reply to a client's command

  module _ (c : ℕ) (honest : b.foreign c ≡ false) (one two : PlainFrame) (mine : Spelled l ToLeaderLink one) (theirs : Spelled m ToLeaderLink two)
      (lane : one.lane ≡ c) (other_lane : two.lane ≡ c) where
    pub at_link : LeaderRows
    at_link x foreign =
        ap (λ (y : FrameWorld). hidden_row (leader.row_at y.leader x)) (to_helper g m ToLeaderLink theirs.at) ∙ ap (λ y. hidden_row (leader.row_at y x)) (link_is g m.bytes)
        ∙ ap (λ r. hidden_row r) (leader_link_rows g.leader m.bytes x (linked_by m two x theirs.bytes theirs.is_frame other_lane foreign g.leader.settings.width))
        ∙ alike.leader x foreign
        ∙ sym (ap (λ (y : FrameWorld). hidden_row (leader.row_at y.leader x)) (to_helper f l ToLeaderLink mine.at) ∙ ap (λ y. hidden_row (leader.row_at y x)) (link_is f l.bytes)
        ∙ ap (λ r. hidden_row r) (leader_link_rows f.leader l.bytes x (linked_by l one x mine.bytes mine.is_frame lane foreign f.leader.settings.width)))
      where
        linked_by : (y : Letter) (q : PlainFrame) (x : ℕ) → y.bytes ≡ spelling q → IsFrame q → q.lane ≡ c → b.foreign x ≡ true
            → (width : ℕ) → (r : PlainFrame) → linked is_reply width y.bytes ≡ Some r → r.lane ≡ x → ⊥
        linked_by y q x spelled fr lane foreign width r e is =
            let read : whole y.bytes ≡ Ok q = ap whole spelled ∙ whole_spelled q fr in
            let same = linked_is is_reply width y.bytes q r read e in
            let one : x ≡ c = sym is ∙ ap (λ (y : PlainFrame). y.lane) same ∙ lane in
            let never : true ≡ false = sym foreign ∙ ap b.foreign one ∙ honest in
            cc never
