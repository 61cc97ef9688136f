-- Two runs that are alike but for aims: of two schedules of clients, or of two with foreign lanes under one oracle.
use Rattle.std.proofs.Common.{◌≡◌, ◌∙◌, ◌<◌, ◌-◌, ◌⊎◌, ℕ, Bool, true, List, Some, Ok, Result, inl, inr, map, slice_get, sym, ap, ap₂, subst}
use Rattle.express_words.specs.declared.settings.Settings.{Settings}
use Rattle.mailbox_rules.specs.Requests.{Entry, Line, Request}
use Rattle.token_rules.specs.Tokens as token
use Rattle.token_rules.specs.Tokens.{Oracle, Token, World, oracle_of}
use Rattle.token_rules.specs.Run.{sent_of}
use Rattle.run_rules.specs.Letters.{FrameWorld, Letter, ToLeaderLink}
use Rattle.run_rules.specs.Book.{Book, Brought}
use Rattle.run_rules.specs.Follows.{Follows, IsForeignLink, IsLinked}
use Rattle.run_rules.specs.Run.{Event}
use Rattle.run_rules.specs.Acts.{Both, brought_by, ended_of, history_of}
use Rattle.run_rules.specs.History.{frame_run, history, no_brought, no_lane, token_run}
use Rattle.run_rules.specs.Known.{IsWhole}
use Rattle.run_rules.specs.Plain.{IsClients, IsHistory, JournalInOrder, OutcomesArePlain}
use Rattle.run_rules.proofs.EveryEnd.{history_at_every_end, order_at_every_end, outcomes_at_every_end}
use Rattle.run_rules.proofs.ForeignFollows.{foreign_runs_agree}
use Rattle.run_rules.proofs.WholeForeign.{world_is}
use Rattle.run_rules.proofs.WholeForeign as strangers
use Rattle.run_rules.proofs.WholeLaw.{whole}
use Rattle.run_rules.proofs.WholeTruths.{clients_at_end, follows_at_end, order_at_end, outcomes_at_end}
use Rattle.run_hiding.specs.Ideal.{AreAims, IsIdeal, real}
use Rattle.run_hiding.specs.Moved.{OtherAims, run_moved, unaimed, with_sent}
use Rattle.run_hiding.specs.Laws.{IsSpelledOf, IsTo}
use Rattle.run_hiding.specs.Flow.{AreAlike, AreAlikeBeside, FitsBeside, FitsRun, RunsFitBeside, SameRefusal, SchedulesFitOtherAims, flow, shareless}
use Rattle.run_hiding.proofs.Flow.{flow_stays}
use Rattle.run_hiding.proofs.Ends.{foreign_replies, runs_have_form}
use Rattle.run_hiding.proofs.Letters.{carried_at, letters}
use Rattle.run_hiding.proofs.Stays.{ideals_stay, sights_stay}
use Rattle.run_hiding.proofs.TwinEnds.{acts_alike, replies_like}
use Rattle.run_hiding.proofs.Twins.{LikeBytes}
use Rattle.run_hiding.specs.Sight.{on_link, reply_by, sight_of}
use Rattle.run_rules.proofs.Basics.{whole_spelled}
use Rattle.run_rules.proofs.ForeignFollows.{frames_agree}
use Rattle.express_words.specs.declared.refusal.Refusal.{Refusal}
use Rattle.frame_rules.specs.Frames as frame
use Rattle.frame_rules.specs.Frames.{PlainBody, PlainFrame}
use Rattle.frame_rules.specs.Spelling.{IsFrame, spelling}
use Rattle.frame_rules.specs.Whole as frames
use Rattle.run_rules.specs.Frames.{frame_with}

-- no entry is a foreign lane's
clients_are_history : (b : Book) → IsClients b → IsHistory b
clients_are_history b k = record {
  sound = k.sound;
  asked = λ c s r is. k.lanes c;
  answers = λ i e is honest. k.answers i e is;
  strange = λ i e is foreign. absurd (cc (foreign, k.lanes e.line.lane));
}

-- what is known of both runs: their histories differ in aims alone
pub record TwoRuns (b d : Book) (f g : FrameWorld) (v w : World) : Type 0 where
  pub flow : flow w ≡ flow v
  pub book : with_sent b d.sent ≡ d
  pub alike : (c : ℕ) → map unaimed (d.sent c) ≡ map unaimed (b.sent c)
  pub history : IsHistory b
  pub whole : IsWhole b v
  pub follows : Follows b f v
  pub order : JournalInOrder b f v
  pub outcomes : OutcomesArePlain b f v
  pub others : OutcomesArePlain d g w

-- ---- letters

-- a refusal masks nothing
refused_body : (body : PlainBody) (r : Refusal) → shareless body ≡ frame.LinkReply (frame.ReplyRefused r) → body ≡ frame.LinkReply (frame.ReplyRefused r)
refused_body (frame.LinkReply (frame.ReplyMasked share)) r e = absurd (cc e)
refused_body body r e = e

refused_alike : (mine theirs : List ℕ) (like : LikeBytes mine theirs) (y : PlainFrame) → mine ≡ spelling y → IsFrame y → (r : Refusal) → y.body ≡ frame.LinkReply (frame.ReplyRefused r)
    → theirs ≡ mine
refused_alike mine theirs like y spelled fr r refused =
    let same : like.one ≡ y = ok_same (sym (whole_spelled like.one like.is_one) ∙ ap (λ bytes. frames.whole bytes) (sym like.first ∙ spelled) ∙ whole_spelled y fr) in
    let mine_body : like.one.body ≡ frame.LinkReply (frame.ReplyRefused r) = ap (λ (y : PlainFrame). y.body) same ∙ refused in
    let body : like.two.body ≡ like.one.body = refused_body like.two.body r (like.body ∙ ap (λ body. shareless body) mine_body) ∙ sym mine_body in
    like.second ∙ (λ i. spelling (record { lane = like.lane i; serial = like.serial i; link = like.link i; body = body i })) ∙ sym like.first
  where
    ok_same : {x y : PlainFrame} → (let o : Result PlainFrame Refusal = Ok x in o) ≡ Ok y → x ≡ y
    ok_same e = cc e

module _ (viewer : ℕ) (b d : Book) (f g : FrameWorld) (v w : World) (low : viewer < 2) (both : TwoRuns b d f g v w) where
  to_first : (t : Token) → IsTo viewer d t → IsTo viewer b t
  to_first (token.Deposit c s) to = to
  to_first (token.Submission c s command) to = to
  to_first (token.ProofToHelper c s) to = to
  to_first (token.ProofToLeader c s) to = to
  to_first (token.Ordered n x) to = (to.0, ap (λ (b : Book). b.foreign x.lane) both.book ∙ to.1)
  to_first (token.Replied n x) to = (to.0, ap (λ (b : Book). b.foreign x.lane) both.book ∙ to.1)
  to_first (token.HeldDeposit c s) to = to
  to_first (token.HeldProof c s) to = to
  to_first (token.Challenge c s) to = to
  to_first (token.Answer c s) to = to
  to_first (token.Later c s) to = to
  to_first (token.Injected to_leader lane) to = to
  to_first (token.Foreign c) to = to

  module _ (aims : AreAims b) (aims' : AreAims d) where
    other : OtherAims b d.sent
    other = record { alike = both.alike; aims = subst AreAims (sym both.book) aims' }

    form : IsIdeal (real viewer b)
    form = runs_have_form viewer b low both.history aims

    spelled : (k : ℕ) (t : Token) (l : Letter) → slice_get v.pool k ≡ Some t → slice_get f.pool k ≡ Some l → IsTo viewer d t
        → IsSpelledOf viewer (run_moved viewer (real viewer b) d.sent) t l
    spelled k t l one two to =
        let pools = both.follows.pool in
        let x = letters b both.history v both.whole f pools viewer aims k t l one (carried_at b v.pool f.pool k t l pools one two) (to_first t to) in
        record {
          frame = x.frame;
          is = sights_stay viewer (real viewer b) d.sent low form other t ∙ x.is;
          bytes = x.bytes;
        }

    pub fits : FitsRun viewer v.pool f.pool d w.pool
    unfolding run_moved
    fits = record {
      ideal = run_moved viewer (real viewer b) d.sent;
      book = both.book;
      form = ideals_stay viewer (real viewer b) d.sent low form other;
      places = ap (λ (u : World). u.pool) both.flow;
      same = spelled;
    }

    -- ---- replies to foreign commands

    at_leader : (n : ℕ) (x : Line) (l : Letter) (one : IsForeignLink b l ToLeaderLink n x (token.Replied n x))
        → reply_by 0 (real 0 b) (n - 1) (slice_get b.entries (n - 1)) ≡ Some one.frame.body → sight_of 0 (real 0 b) (token.Replied n x) ≡ Some one.frame
    unfolding sight_of
    at_leader n x l one e =
        let lane = sym one.lane in
        let serial = sym one.serial in
        let link = sym one.link in
        ap (λ body. on_link n x body) e ∙ (λ i. Some (record { lane = lane i; serial = serial i; link = link i; body = one.frame.body }))

    stranger : (n : ℕ) (x : Line) (l m : Letter) → viewer ≡ 0 → (one : IsForeignLink b l ToLeaderLink n x (token.Replied n x)) → LikeBytes l.bytes m.bytes
        → IsSpelledOf viewer (run_moved viewer (real viewer b) d.sent) (token.Replied n x) l ⊎ SameRefusal n x l m
    stranger n x l m zero one like = elim (foreign_replies b (n - 1) x one.frame.body both.history aims one.body) [
      | inl refused ↦
          let lane = one.lane in
          let serial = one.serial in
          let link = one.link in
          let body = refused.1 in
          let framed : one.frame ≡ frame_with x.lane x.serial n (frame.LinkReply (frame.ReplyRefused refused.0)) =
          (λ i. record { lane = lane i; serial = serial i; link = link i; body = body i }) in
          inr (record {
            refusal = refused.0;
            is = one.spelled.bytes ∙ ap (λ y. spelling y) framed;
            same = refused_alike l.bytes m.bytes like one.frame one.spelled.bytes one.spelled.is_frame refused.0 refused.1;
          })
      | inr answered ↦
          inl (record {
            frame = one.frame;
            is = sights_stay viewer (real viewer b) d.sent low form other (token.Replied n x)
                ∙ subst (λ y. sight_of y (real y b) (token.Replied n x) ≡ Some one.frame) (sym zero) (at_leader n x l one answered);
            bytes = one.spelled.bytes;
          })
    ]

    pub fits_strangers : ((k n : ℕ) (x : Line) (l m : Letter) → slice_get v.pool k ≡ Some (token.Replied n x) → slice_get f.pool k ≡ Some l → slice_get g.pool k ≡ Some m
        → b.foreign x.lane ≡ true → LikeBytes l.bytes m.bytes) → FitsBeside viewer v.pool f.pool g.pool d w.pool
    unfolding fits
    fits_strangers like = record {
      clients = fits;
      strangers = λ k n x l m zero strange is first second.
          let foreign : b.foreign x.lane ≡ true = ap (λ (b : Book). b.foreign x.lane) both.book ∙ strange in
          let one : IsForeignLink b l ToLeaderLink n x (token.Replied n x) =
          subst (λ t. IsLinked b l ToLeaderLink n x (token.Replied n x) t) foreign (carried_at b v.pool f.pool k (token.Replied n x) l both.follows.pool is first) in
          stranger n x l m zero one (like k n x l m is first second foreign);
    }

-- ---- two schedules of clients

module _ (o : Oracle) (settings : Settings) (seed : List ℕ) (events others : List Event) (alike : AreAlike settings events others) where
  abbrev v : World
  v = token_run o settings no_lane events

  abbrev w : World
  w = token_run o settings no_lane others

  one_flow : flow w ≡ flow v
  one_flow = flow_stays o settings no_lane events others alike.same

  pub two_schedules : TwoRuns (history settings seed v) (history settings seed w) (frame_run settings seed events) (frame_run settings seed others) v w
  two_schedules = record {
    flow = one_flow;
    book = ap₂ (λ (cs : List Line) (es : List Entry). record {
      settings = settings;
      seed = seed;
      foreign = no_lane;
      sent = λ c. sent_of w c;
      commands = cs;
      entries = es;
      brought = no_brought settings.width;
    }) (sym (ap (λ (u : World). u.commands) one_flow)) (sym (ap (λ (u : World). u.journal) one_flow));
    alike = λ c. ap (λ (u : World). (u.requests c).sent) one_flow;
    history = clients_are_history (history settings seed v) (clients_at_end o settings seed events alike.limits alike.fit alike.few);
    whole = whole o settings seed events alike.limits alike.fit alike.few;
    follows = follows_at_end o settings seed events alike.limits alike.fit alike.few;
    order = order_at_end o settings seed events alike.limits alike.fit alike.few;
    outcomes = outcomes_at_end o settings seed events alike.limits alike.fit alike.few;
    others = outcomes_at_end o settings seed others alike.limits alike.fit_others alike.few_others;
  }

pub schedules_fit : SchedulesFitOtherAims
schedules_fit viewer o settings seed events others low alike aims aims' =
    fits viewer (history settings seed (v o settings seed events others alike)) (history settings seed (w o settings seed events others alike))
    (frame_run settings seed events) (frame_run settings seed others) _ _ low (two_schedules o settings seed events others alike) aims aims'

-- ---- two schedules with foreign lanes, under one oracle

module _ (settings : Settings) (seed : List ℕ) (foreign : ℕ → Bool) (events others : List Event) (alike : AreAlikeBeside settings foreign events others)
    (acts : (ended_of settings seed foreign others).acts ≡ (ended_of settings seed foreign events).acts)
    (taken : (ended_of settings seed foreign others).taken ≡ (ended_of settings seed foreign events).taken) where
  abbrev s : Both
  s = ended_of settings seed foreign events

  abbrev t : Both
  t = ended_of settings seed foreign others

  abbrev first : World
  first = token_run (oracle_of s.acts) settings foreign events

  abbrev second : World
  second = token_run (oracle_of t.acts) settings foreign others

  is_first : s.world ≡ first
  is_first = world_is settings seed foreign events alike.limits alike.fit alike.few

  is_second : t.world ≡ second
  is_second = world_is settings seed foreign others alike.limits alike.fit_others alike.few_others

  flows : flow second ≡ flow first
  flows = ap (λ l. flow (token_run (oracle_of l) settings foreign others)) acts ∙ flow_stays (oracle_of s.acts) settings foreign events others alike.same

  ended_flow : flow t.world ≡ flow s.world
  ended_flow = ap (λ u. flow u) is_second ∙ flows ∙ ap (λ u. flow u) (sym is_first)

  abbrev book_of : (ℕ → List Request) → List Line → List Entry → Brought → Book
  book_of sent cs es x = record { settings = settings; seed = seed; foreign = foreign; sent = sent; commands = cs; entries = es; brought = x }

  same_book : (cs bs : List Line) (es js : List Entry) (x y : Brought) → cs ≡ bs → es ≡ js → x ≡ y → (sent : ℕ → List Request)
      → book_of sent cs es x ≡ book_of sent bs js y
  same_book cs bs es js x y p q r sent =
      ap (λ cs. book_of sent cs es x) p ∙ ap (λ es. book_of sent bs es x) q ∙ ap (book_of sent bs js) r

  pub two_runs : TwoRuns (history_of settings seed foreign s) (history_of settings seed foreign t) (frame_run settings seed events) (frame_run settings seed others) first second
  two_runs = record {
    flow = flows;
    book = same_book s.world.commands t.world.commands s.world.journal t.world.journal _ _
        (sym (ap (λ (u : World). u.commands) ended_flow)) (sym (ap (λ (u : World). u.journal) ended_flow)) (ap (brought_by settings.width) (sym taken)) (λ c. sent_of t.world c);
    alike = λ c. ap (λ (u : World). (u.requests c).sent) ended_flow;
    history = history_at_every_end settings seed foreign events alike.limits alike.fit alike.few;
    whole = subst (IsWhole (history_of settings seed foreign s)) is_first (strangers.whole settings seed foreign events alike.limits alike.fit alike.few);
    follows = foreign_runs_agree settings seed foreign events alike.limits alike.fit alike.few;
    order = order_at_every_end settings seed foreign events alike.limits alike.fit alike.few;
    outcomes = outcomes_at_every_end settings seed foreign events alike.limits alike.fit alike.few;
    others = outcomes_at_every_end settings seed foreign others alike.limits alike.fit_others alike.few_others;
  }

  abbrev pub b : Book
  b = history_of settings seed foreign s

  abbrev pub d : Book
  d = history_of settings seed foreign t

  pub fits_beside : (viewer : ℕ) → viewer < 2 → AreAims b → AreAims d
      → FitsBeside viewer s.world.pool (frame_run settings seed events).pool (frame_run settings seed others).pool d t.world.pool
  fits_beside viewer low aims aims' =
      let f = frame_run settings seed events in
      let g = frame_run settings seed others in
      let mine = frames_agree settings seed foreign events alike.limits alike.fit alike.few in
      let theirs = frames_agree settings seed foreign others alike.limits alike.fit_others alike.few_others in
      subst (λ (u : World). FitsBeside viewer s.world.pool f.pool g.pool d u.pool) (sym is_second)
      (subst (λ (u : World). FitsBeside viewer u.pool f.pool g.pool d second.pool) (sym is_first)
      (fits_strangers viewer b d f g first second low two_runs aims aims' (λ k n x l m is one two strange.
      replies_like settings seed foreign events others alike k n x l m (ap (λ (u : World). slice_get u.pool k) is_first ∙ is)
      (ap (λ (u : FrameWorld). slice_get u.pool k) mine ∙ one) (ap (λ (u : FrameWorld). slice_get u.pool k) theirs ∙ two) strange)))

pub runs_fit_beside : RunsFitBeside
runs_fit_beside viewer low settings seed foreign events others alike aims aims' =
    let acts = acts_alike settings seed foreign events others alike in
    fits_beside settings seed foreign events others alike acts.acts acts.taken viewer low aims aims'
