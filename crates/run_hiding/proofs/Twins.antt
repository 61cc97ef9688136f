-- Two runs of schedules that are alike but for aims, side by side: what is alike of the states that they come to.
use Rattle.std.proofs.Common.{◌≡◌, ◌∙◌, ◌<◌, ◌≤◌, ◌+◌, ℕ, true, List, length, take, Some, slice_get, drop, sym, ap, subst, arith}
use Rattle.std.specs.Option.{option_map}
use Rattle.std.proofs.lemmas.Option.{slice_get-map}
use Rattle.frame_rules.specs.Frames.{PlainFrame}
use Rattle.frame_rules.specs.Spelling.{IsFrame, spelling}
use Rattle.mailbox_rules.specs.Requests.{AddBox, Entry, Line, Request, lines_of}
use Rattle.token_rules.specs.Tokens as token
use Rattle.token_rules.specs.Tokens.{World}
use Rattle.token_rules.proofs.Lists.{get_taken, taken_get}
use Rattle.step_rules.specs.Helper as helper
use Rattle.step_rules.specs.Helper.{Helper}
use Rattle.step_rules.specs.HelperCommands.{kept_for}
use Rattle.step_rules.specs.Leader as leader
use Rattle.step_rules.specs.Leader.{Leader}
use Rattle.run_rules.specs.Letters.{FrameWorld, Letter}
use Rattle.run_rules.specs.Book.{Book, Brought, begun_in, drawn_in}
use Rattle.run_rules.specs.Values.{boxes_at, key_at}
use Rattle.run_rules.specs.Acts.{Both}
use Rattle.run_rules.specs.Follows.{Follows}
use Rattle.run_rules.specs.Known.{Known}
use Rattle.run_rules.specs.Plain.{IsHistory}
use Rattle.run_rules.proofs.LeaderClients.{commands_length}
use Rattle.run_rules.proofs.WriteHelperCarried.{journal_length}
use Rattle.run_hiding.specs.Flow.{flow}
use Rattle.run_hiding.proofs.LikeBoxes.{bares}
use Rattle.run_hiding.specs.Flow.{shareless}
use Rattle.run_hiding.proofs.LikeLeader.{hidden_row}
use Rattle.run_hiding.proofs.Agree.{SameFor, is_register, same_boxes, same_front, same_keys}

-- the bytes are those of two frames that differ in the share that is masked
pub record LikeBytes (mine theirs : List ℕ) : Type 0 where
  pub one : PlainFrame
  pub two : PlainFrame
  pub first : mine ≡ spelling one
  pub second : theirs ≡ spelling two
  pub is_one : IsFrame one
  pub is_two : IsFrame two
  pub link : two.link ≡ one.link
  pub lane : two.lane ≡ one.lane
  pub serial : two.serial ≡ one.serial
  pub body : shareless two.body ≡ shareless one.body

module _ (b : Book) (sent : ℕ → List Request) (commands : List Line) (entries : List Entry) (brought : Brought) (v z : World) (history : IsHistory b) where
  abbrev d : Book
  d = record b { sent = sent; commands = commands; entries = entries; brought = brought }

  -- what is known of both states
  pub record Paired (s t : Both) : Type 0 where
    pub known : Known b v s.world
    pub follows : Follows b s.frames s.world
    pub other_known : Known d z t.world
    pub others : Follows d t.frames t.world

  abbrev pub LikeHelperRows : Helper → Helper → Type 0
  LikeHelperRows h k = (c : ℕ) → b.foreign c ≡ true → helper.row_at k.server c ≡ helper.row_at h.server c

  abbrev pub LikeLeaderRows : Leader → Leader → Type 0
  LikeLeaderRows a e = (c : ℕ) → b.foreign c ≡ true → hidden_row (leader.row_at e c) ≡ hidden_row (leader.row_at a c)

  -- the kept replies to foreign commands
  abbrev pub LikeKept : World → Helper → Helper → Type 0
  LikeKept w h k = (n place : ℕ) (x : Line) → n ≡ place + 1 → slice_get w.commands place ≡ Some x → b.foreign x.lane ≡ true → n ≤ h.carried
      → h.carried + 1 ≤ n + length h.replies → h.carried + 1 ≤ n + length k.replies → LikeBytes (kept_for h n) (kept_for k n)

  -- a token's letters in both pools
  abbrev pub LikeLetters : token.Token → Letter → Letter → Type 0
  LikeLetters (token.Injected to_leader lane) l m = m ≡ l
  LikeLetters (token.Replied n x) l m = b.foreign x.lane ≡ true → LikeBytes l.bytes m.bytes
  LikeLetters t l m = Unit {0}

  abbrev pub LikePools : World → FrameWorld → FrameWorld → Type 0
  LikePools w f g = (i : ℕ) (t : token.Token) (l m : Letter) → slice_get w.pool i ≡ Some t → slice_get f.pool i ≡ Some l → slice_get g.pool i ≡ Some m → LikeLetters t l m

  -- what was issued, and what keys the helper took boxes with, is the same in both histories
  abbrev pub LikeOrders : World → Type 0
  LikeOrders w = (k : ℕ) (x : Line) → slice_get w.commands k ≡ Some x → b.foreign x.lane ≡ true
      → SameFor b sent commands entries brought k x.lane x.serial x.command

  abbrev pub LikeKeys : World → Type 0
  LikeKeys w = (k : ℕ) (e : Entry) (address : ℕ) → slice_get w.journal k ≡ Some e → b.foreign e.line.lane ≡ true → e.does ≡ AddBox address
      → key_at d 1 e.line.lane e.line.serial ≡ key_at b 1 e.line.lane e.line.serial

  pub record Alike (s t : Both) : Type 0 where
    pub flow : flow t.world ≡ flow s.world
    pub acts : t.acts ≡ s.acts
    pub taken : t.taken ≡ s.taken
    pub helper : LikeHelperRows s.frames.helper t.frames.helper
    pub leader : LikeLeaderRows s.frames.leader t.frames.leader
    pub pool : LikePools s.world s.frames t.frames
    pub kept : LikeKept s.world s.frames.helper t.frames.helper
    pub orders : LikeOrders s.world
    pub keys : LikeKeys s.world

  -- ---- both servers' boxes

  module _ (s t : Both) (pair : Paired s t) (alike : Alike s t) where
    abbrev f : FrameWorld
    f = s.frames

    abbrev g : FrameWorld
    g = t.frames

    count : length s.world.journal ≡ s.world.carried
    count = journal_length s.world pair.known.lawful

    front : (i : ℕ) → i ≤ length s.world.journal → take i entries ≡ take i b.entries
    front i low =
        let more : s.world.journal ≡ take (length s.world.journal) entries =
        sym (ap (λ (u : World). u.journal) alike.flow) ∙ pair.other_known.within.journal ∙ ap (λ (u : World). take (length u.journal) entries) alike.flow in
        same_front i entries b.entries s.world.journal low more pair.known.within.journal

    in_journal : (k : ℕ) (e : Entry) → slice_get b.entries k ≡ Some e → k < length s.world.journal → slice_get s.world.journal k ≡ Some e
    in_journal k e is low = ap (λ es. slice_get es k) pair.known.within.journal ∙ taken_get b.entries (length s.world.journal) k e low is

    ordered_as : (k : ℕ) (e : Entry) → slice_get s.world.journal k ≡ Some e → slice_get s.world.commands k ≡ Some e.line
    ordered_as k e is =
        let line : slice_get (lines_of s.world.journal) k ≡ Some e.line = slice_get-map (λ (e : Entry). e.line) s.world.journal k ∙ ap (option_map (λ (e : Entry). e.line)) is in
        (get_taken s.world.commands s.world.carried k e.line (ap (λ ls. slice_get ls k) (sym pair.known.lawful.coherent.journal) ∙ line)).1

    pub helper_boxes : bares g.helper.server.boxes ≡ bares f.helper.server.boxes
    helper_boxes =
        let flows : t.world.carried ≡ s.world.carried = ap (λ (u : World). u.carried) alike.flow in
        ap (λ bs. bares bs) (pair.others.helper.boxes ∙ ap (λ n. boxes_at d 1 n) flows)
        ∙ same_boxes b sent commands entries brought 1 s.world.carried (front s.world.carried (omega (arith, count)))
        (same_keys b sent commands entries brought 1 s.world.carried (λ k e address is low foreign does.
        alike.keys k e address (in_journal k e is (omega (arith, low, count))) foreign does))
        ∙ ap (λ bs. bares bs) (sym pair.follows.helper.boxes)

    pub leader_boxes : bares g.leader.boxes ≡ bares f.leader.boxes
    leader_boxes =
        let flows : t.world.acknowledged ≡ s.world.acknowledged = ap (λ (u : World). u.acknowledged) alike.flow in
        let few = pair.known.lawful.coherent.acknowledged in
        ap (λ bs. bares bs) (pair.others.leader.boxes ∙ ap (λ n. boxes_at d 0 n) flows)
        ∙ same_boxes b sent commands entries brought 0 s.world.acknowledged (front s.world.acknowledged (omega (arith, count, few)))
        (same_keys b sent commands entries brought 0 s.world.acknowledged (λ k e address is low foreign does.
        let same = alike.orders k e.line (ordered_as k e (in_journal k e is (omega (arith, low, count, few)))) foreign in
        let command = is_register b.brought e.line.lane e.line.serial address e.does e.line.command does (history.strange k e is foreign).does in
        (subst (SameFor b sent commands entries brought k e.line.lane e.line.serial) command same).1))
        ∙ ap (λ bs. bares bs) (sym pair.follows.leader.boxes)

    -- ---- but for boxes, rows and what is kept both servers are the same

    pub helper_is : (let h : Helper = record {
      server = record f.helper.server { boxes = g.helper.server.boxes; rows = g.helper.server.rows };
      carried = f.helper.carried;
      replies = g.helper.replies;
    } in h) ≡ g.helper
    helper_is =
        let settings = pair.follows.helper.settings ∙ sym pair.others.helper.settings in
        let seed = pair.follows.helper.seed ∙ sym pair.others.helper.seed in
        let draws = pair.follows.helper.draws ∙ sym (ap (λ (u : World). begun_in u.journal) alike.flow) ∙ sym pair.others.helper.draws in
        let number = pair.follows.helper.number ∙ sym (ap (λ (u : World). u.carried) alike.flow) ∙ sym pair.others.helper.number in
        λ i. record {
          server = record { settings = settings i; boxes = g.helper.server.boxes; rows = g.helper.server.rows; draws = draws i; seed = seed i };
          carried = number i;
          replies = g.helper.replies;
        }

    pub leader_is : (let a : Leader = record f.leader { boxes = g.leader.boxes; rows = g.leader.rows; outstanding = g.leader.outstanding } in a) ≡ g.leader
    leader_is =
        let settings = pair.follows.leader.settings ∙ sym pair.others.leader.settings in
        let seed = pair.follows.leader.seed ∙ sym pair.others.leader.seed in
        let draws = pair.follows.leader.draws ∙ sym (ap (λ (u : World). drawn_in u.commands) alike.flow) ∙ sym pair.others.leader.draws in
        let next = pair.follows.leader.next ∙ sym (ap (λ (u : World). length u.commands + 1) alike.flow) ∙ sym pair.others.leader.next in
        λ i. record {
          settings = settings i;
          boxes = g.leader.boxes;
          rows = g.leader.rows;
          outstanding = g.leader.outstanding;
          next = next i;
          draws = draws i;
          seed = seed i;
        }

    pub outstanding_count : length g.leader.outstanding ≡ length f.leader.outstanding
    outstanding_count =
        commands_length d _ _ _ pair.others.leader.outstanding ∙ ap (λ (u : World). length (drop u.acknowledged u.commands)) alike.flow
        ∙ sym (commands_length b _ _ _ pair.follows.leader.outstanding)
