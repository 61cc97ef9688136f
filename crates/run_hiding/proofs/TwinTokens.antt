-- Every token comes alike in both runs.
use Rattle.std.proofs.Common.{◌≡◌, ◌∙◌, ◌<◌, ◌≤◌, ◌+◌, ◌-◌, ℕ, suc, Bool, true, false, List, [], ◌∷◌, length, drop, Option, Some, None, Ok, Result, All, length-append, slice_get, refl, sym, ap, subst, arith, inl, inr}
use Rattle.std.proofs.lemmas.Bool.{cases_Bool}
use Rattle.std.proofs.lemmas.Option.{slice_get_within}
use Rattle.express_words.specs.declared.refusal.Refusal.{Refusal}
use Rattle.frame_rules.specs.Frames.{PlainFrame, PlainBody}
use Rattle.frame_rules.specs.Spelling.{IsFrame, spelling}
use Rattle.frame_rules.specs.Whole.{is_command, is_from_client, linked, whole}
use Rattle.mailbox_rules.specs.Requests.{Entry, Line, Request}
use Rattle.token_rules.specs.Tokens as token
use Rattle.token_rules.specs.Tokens.{Token, World}
use Rattle.token_rules.specs.Invariant.{Numbered, state}
use Rattle.token_rules.specs.Run.{comes}
use Rattle.token_rules.proofs.Lists.{get_left, same_at}
use Rattle.step_rules.specs.Helper as helper
use Rattle.step_rules.specs.HelperClients.{client_turn}
use Rattle.step_rules.specs.HelperCommands.{arrives, if_command, on_link_bytes}
use Rattle.step_rules.specs.Leader as leader
use Rattle.step_rules.specs.Needs.{IsFor, IssuedFor}
use Rattle.step_rules.proofs.HelperFirsts.{helper_takes_first}
use Rattle.step_rules.proofs.LeaderNeeds.{leader_needs}
use Rattle.frame_rules.specs.Frames as frame
use Rattle.frame_rules.proofs.WholeLaws.{whole_found}
use Rattle.run_rules.specs.Known.{Known}
use Rattle.run_rules.specs.Values.{key_at}
use Rattle.run_rules.proofs.WholePools.{comes_adds}
use Rattle.step_rules.specs.LeaderClients.{on_client}
use Rattle.run_rules.specs.Letters.{FrameWorld, Letter, ToClient, ToHelper, ToHelperLink, ToLeader, ToLeaderLink}
use Rattle.run_rules.specs.Run as frames
use Rattle.run_rules.specs.Book.{Book, Brought}
use Rattle.run_rules.specs.Acts.{Both, OutsideAt, act_of, both_come, taken_of}
use Rattle.run_rules.specs.Follows.{AreCommands, Carries, Follows, ForeignOrder, IsForeignLink, IsFrameOf, IsInjected, IsLinked, Spelled}
use Rattle.run_rules.specs.Plain.{IsHistory}
use Rattle.run_rules.proofs.Basics.{pools_length, whole_spelled}
use Rattle.run_rules.proofs.BroughtTokens as adds
use Rattle.run_hiding.proofs.Agree.{one_order}
use Rattle.run_hiding.proofs.LikeLeader.{hidden_row}
use Rattle.run_hiding.proofs.OtherRows.{helper_link_rows}
use Rattle.run_hiding.proofs.TwinCarried.{key_entered, new_alike}
use Rattle.run_hiding.proofs.TwinCases as cases
use Rattle.run_hiding.proofs.TwinCases.{Same, at_helper, at_leader, at_link, helper_same, leader_same, quiet, same_act, to_helper}
use Rattle.run_hiding.proofs.TwinClients as clients
use Rattle.run_hiding.proofs.TwinHeads.{carried_next, deposit_lane, head_here, head_link, head_of, ordered_lane, ordered_moment, ordered_same, other_proof_lane, proof_lane, replied_lane, replied_moment, replied_same, submission_lane}
use Rattle.run_hiding.proofs.TwinKept.{arrives_so, kept_now, new_reply}
use Rattle.run_hiding.proofs.TwinLinks.{linked_is, order_acts, order_rows, reply_acts, reply_rows}
use Rattle.run_hiding.proofs.TwinOrders.{Answers, Goes, Keeps, answered, goes, helper_after}
use Rattle.run_hiding.proofs.TwinSteps.{follows_of, known_of, other_known_of}
use Rattle.run_hiding.proofs.Twins.{Alike, LikeBytes, LikeLeaderRows, Paired, outstanding_count}

honest_of : (b : Book) (w : World) (c : ℕ) → w.foreign ≡ b.foreign → w.foreign c ≡ false → b.foreign c ≡ false
honest_of b w c same honest = ap (λ g. g c) (sym same) ∙ honest

frame_of_link : (b : Book) (l : Letter) (to : _) (n : ℕ) (x : Line) (t : Token) → b.foreign x.lane ≡ false → IsLinked b l to n x t (b.foreign x.lane) → IsFrameOf b l to x.lane t
frame_of_link b l to n x t honest h = subst (λ y. IsLinked b l to n x t y) honest h

foreign_link : (b : Book) (l : Letter) (to : _) (n : ℕ) (x : Line) (t : Token) → b.foreign x.lane ≡ true → IsLinked b l to n x t (b.foreign x.lane) → IsForeignLink b l to n x t
foreign_link b l to n x t foreign h = subst (λ y. IsLinked b l to n x t y) foreign h

ok_same : {x y : PlainFrame} → (let r : Result PlainFrame Refusal = Ok x in r) ≡ Ok y → x ≡ y
ok_same e = cc

reply_parts : (a n : ℕ) (y x : Line) → token.Replied a y ≡ token.Replied n x → (a ≡ n) × (y ≡ x)
reply_parts a n y x e = (cc e, cc e)

-- the reply that was kept is the one that was carried out
carried_reply : (f : FrameWorld) (l : Letter) (to : l.to ≡ ToHelperLink) → 0 < f.helper.server.settings.window → (bytes : List ℕ) → Keeps f.helper (frames.comes f l.to l.bytes).helper bytes
    → (reply : PlainFrame) × (bytes ≡ spelling reply) × ((on_link_bytes f.helper l.bytes).answer ≡ helper.Carried reply)
unfolding if_command
carried_reply f l to room bytes keeps =
    by_order (linked is_command f.helper.server.settings.width l.bytes) (subst (λ h. Keeps f.helper h bytes) (helper_after f l to room) keeps)
  where
    by_order : (o : Option PlainFrame) → Keeps f.helper (if_command f.helper o).helper bytes → (reply : PlainFrame) × (bytes ≡ spelling reply) × ((if_command f.helper o).answer ≡ helper.Carried reply)
    by_order None k = absurd (let n = k.number in omega (arith, n))
    by_order (Some y) k = elim (arrives_so f.helper y) [
      | inl c ↦
          let few = length-append f.helper.replies (bytes ∷ []) in
          let more = length-append f.helper.replies (spelling c.reply ∷ []) in (
            c.reply,
            sym (kept_now f.helper (arrives f.helper y).helper bytes k.replies k.number (omega (arith, few, room)))
                ∙ kept_now f.helper (arrives f.helper y).helper (spelling c.reply) c.kept c.number (omega (arith, more, room)),
            c.says,
          )
      | inr (inl again) ↦ absurd (let n = k.number in let e = ap (λ (h : helper.Helper). h.carried) again.same in omega (arith, n, e))
      | inr (inr none) ↦ absurd (let n = k.number in let e = ap (λ (h : helper.Helper). h.carried) none.same in omega (arith, n, e))
    ]

-- bytes that are no client's frame leave all rows
abbrev NoClient : List ℕ → Type 0
NoClient bytes = (y : PlainFrame) → whole bytes ≡ Ok y → is_from_client y.body ≡ true → ⊥

no_client : (bytes : List ℕ) → IsInjected bytes None → All (λ n. n < 256) bytes → NoClient bytes
no_client bytes none all y e client = let s = whole_found bytes y all e in none y s.is_frame s.spelled client

no_client_helper : (h : helper.Server) (bytes : List ℕ) (c : ℕ) → NoClient bytes → helper.row_at (client_turn h bytes).server c ≡ helper.row_at h c
no_client_helper h bytes c none = elim (helper_takes_first h bytes c) [
  | inl same ↦ same
  | inr took ↦ absurd (elim took.takes [
    | inl new ↦ none took.frame took.read (ap (λ body. is_from_client body) new.body)
    | inr new ↦ none took.frame took.read (ap (λ body. is_from_client body) new.body)
  ])
]

for_client : (a : leader.Leader) (y : PlainFrame) (body command : PlainBody) → IsFor a y body command → is_from_client body ≡ true
for_client a y (frame.Register address key) command h = refl
for_client a y (frame.Write root part) command h = refl
for_client a y (frame.Read n held) command h = refl
for_client a y (frame.Retire n held) command h = refl
for_client a y (frame.Proof share) command h = refl
for_client a y body command h = absurd h

no_client_leader : (a : leader.Leader) (bytes : List ℕ) (c : ℕ) → NoClient bytes → leader.row_at (on_client a bytes).leader c ≡ leader.row_at a c
no_client_leader a bytes c none = by_answer (on_client a bytes).answer (leader_needs a bytes)
  where
    by_answer : (answer : leader.Answer) → IssuedFor answer a bytes (on_client a bytes).leader → leader.row_at (on_client a bytes).leader c ≡ leader.row_at a c
    by_answer (leader.Link n command) issued = absurd (none issued.0 issued.1 (for_client a issued.0 issued.0.body command.body issued.2.brings))
    by_answer (leader.Reply reply) same = ap (λ (a : leader.Leader). leader.row_at a c) same
    by_answer (leader.StillWaiting n) same = ap (λ (a : leader.Leader). leader.row_at a c) same

empty_heads : (xs ys : List PlainFrame) (y : PlainFrame) → length ys ≡ length xs → slice_get xs 0 ≡ None → slice_get ys 0 ≡ Some y → ⊥
empty_heads [] [] y e p q = cc q
empty_heads [] (c ∷ ys) y e p q = omega (arith, e)
empty_heads (a ∷ xs) ys y e p q = cc p

module _ (b : Book) (sent : ℕ → List Request) (commands : List Line) (entries : List Entry) (brought : Brought) (v z : World) (history : IsHistory b)
    (s t : Both) (pair : Paired b sent commands entries brought v z history s t) (alike : Alike b sent commands entries brought v z history s t) (i : ℕ) (l m : Letter)
    (here : slice_get s.frames.pool i ≡ Some l) (there : slice_get t.frames.pool i ≡ Some m) where
  abbrev d : Book
  d = record b { sent = sent; commands = commands; entries = entries; brought = brought }

  abbrev f : FrameWorld
  f = s.frames

  abbrev g : FrameWorld
  g = t.frames

  abbrev w : World
  w = s.world

  abbrev u : World
  u = t.world

  abbrev After : Token → Type 0
  After k = Paired b sent commands entries brought v z history (both_come s (Some k) (Some l)) (both_come t (Some k) (Some m))

  abbrev At : Token → Type 0
  At k = slice_get s.world.pool i ≡ Some k

  abbrev pub Comes : Token → Type 0
  Comes k = (at : At k) → (paired : After k) → Carries b k l → Carries d k m → OutsideAt b.foreign k l → Same b sent commands entries brought v z history s t pair alike i k l m at here there paired

  lane_of : (c : ℕ) → w.foreign c ≡ false → b.foreign c ≡ false
  lane_of c honest = honest_of b w c pair.follows.foreign honest

  -- ---- to a client

  module _ (k : Token) (c : ℕ) (none : (e : Entry) → adds.Entered (λ n. act_of f k l) w k e → ⊥) (acts : act_of g k m ≡ act_of f k l) (taken : taken_of g k m ≡ taken_of f k l) where
    to_client : (at : At k) → (paired : After k) → l.to ≡ ToClient c → m.to ≡ ToClient c → Same b sent commands entries brought v z history s t pair alike i k l m at here there paired
    to_client at paired to other =
        quiet b sent commands entries brought v z history s t pair alike i k l m at here there paired (ToClient c) to other (inl tt) none
        (λ y e. same_act b sent commands entries brought v z history s t pair alike i k l m at here there paired acts y) (inl acts) taken
        (helper_same b sent commands entries brought v z history s t pair alike i k l m at here there paired (ToClient c) to other (inl tt) none tt)
        (leader_same b sent commands entries brought v z history s t pair alike i k l m at here there paired (ToClient c) to other (inl tt) none tt)

  held_deposit : (c n : ℕ) → Comes (token.HeldDeposit c n)
  held_deposit c n at paired one two out = to_client (token.HeldDeposit c n) c (λ e h. h) refl refl at paired one.spelled.at two.spelled.at

  held_proof : (c n : ℕ) → Comes (token.HeldProof c n)
  held_proof c n at paired one two out = to_client (token.HeldProof c n) c (λ e h. h) refl refl at paired one.spelled.at two.spelled.at

  challenge : (c n : ℕ) → Comes (token.Challenge c n)
  challenge c n at paired one two out = to_client (token.Challenge c n) c (λ e h. h) refl refl at paired one.spelled.at two.spelled.at

  answer : (c n : ℕ) → Comes (token.Answer c n)
  answer c n at paired one two out = to_client (token.Answer c n) c (λ e h. h) refl refl at paired one.spelled.at two.spelled.at

  later : (c n : ℕ) → Comes (token.Later c n)
  later c n at paired one two out = to_client (token.Later c n) c (λ e h. h) refl refl at paired one.spelled.at two.spelled.at

  to_foreign : (c : ℕ) → Comes (token.Foreign c)
  to_foreign c at paired one two out = to_client (token.Foreign c) c (λ e h. h) refl refl at paired one.spelled.at two.spelled.at

  -- ---- a client's frame

  module _ (k : Token) (c : ℕ) (none : (e : Entry) → adds.Entered (λ n. act_of f k l) w k e → ⊥) (acts : act_of g k m ≡ act_of f k l) (taken : taken_of g k m ≡ taken_of f k l)
      (honest : b.foreign c ≡ false) (one two : PlainFrame) (lane : one.lane ≡ c) (other_lane : two.lane ≡ c) where
    from_helper : (at : At k) → (paired : After k) → Spelled l ToHelper one → Spelled m ToHelper two → Same b sent commands entries brought v z history s t pair alike i k l m at here there paired
    from_helper at paired mine theirs =
        quiet b sent commands entries brought v z history s t pair alike i k l m at here there paired ToHelper mine.at theirs.at (inr refl) none
        (λ y e. same_act b sent commands entries brought v z history s t pair alike i k l m at here there paired acts y) (inl acts) taken
        (at_helper b sent commands entries brought v z history s t pair alike i k l m at here there paired c honest one two mine theirs lane other_lane)
        (leader_same b sent commands entries brought v z history s t pair alike i k l m at here there paired ToHelper mine.at theirs.at (inr refl) none tt)

    from_leader : (at : At k) → (paired : After k) → Spelled l ToLeader one → Spelled m ToLeader two → Same b sent commands entries brought v z history s t pair alike i k l m at here there paired
    from_leader at paired mine theirs =
        quiet b sent commands entries brought v z history s t pair alike i k l m at here there paired ToLeader mine.at theirs.at (inl tt) none
        (λ y e. same_act b sent commands entries brought v z history s t pair alike i k l m at here there paired acts y) (inl acts) taken
        (helper_same b sent commands entries brought v z history s t pair alike i k l m at here there paired ToLeader mine.at theirs.at (inl tt) none tt)
        (at_leader b sent commands entries brought v z history s t pair alike i k l m at here there paired c honest one two mine theirs lane other_lane)

  deposit : (c n : ℕ) → Comes (token.Deposit c n)
  deposit c n at paired one two out =
      from_helper (token.Deposit c n) c (λ e h. h) refl refl (lane_of c (pair.known.lawful.coherent.pool i (token.Deposit c n) at).0) one.frame two.frame
      (deposit_lane b c n one.frame one.is) (deposit_lane d c n two.frame two.is) at paired one.spelled two.spelled

  proof_to_helper : (c n : ℕ) → Comes (token.ProofToHelper c n)
  proof_to_helper c n at paired one two out =
      from_helper (token.ProofToHelper c n) c (λ e h. h) refl refl (lane_of c (pair.known.lawful.coherent.pool i (token.ProofToHelper c n) at).0) one.frame two.frame
      (proof_lane b c n one.frame one.is) (proof_lane d c n two.frame two.is) at paired one.spelled two.spelled

  submission : (c n : ℕ) (y : _) → Comes (token.Submission c n y)
  submission c n y at paired one two out =
      from_leader (token.Submission c n y) c (λ e h. h) refl refl (lane_of c (pair.known.lawful.coherent.pool i (token.Submission c n y) at).0) one.1.frame two.1.frame
      (submission_lane b c n y one.1.frame one.1.is) (submission_lane d c n y two.1.frame two.1.is) at paired one.1.spelled two.1.spelled

  proof_to_leader : (c n : ℕ) → Comes (token.ProofToLeader c n)
  proof_to_leader c n at paired one two out =
      from_leader (token.ProofToLeader c n) c (λ e h. h) refl refl (lane_of c (pair.known.lawful.coherent.pool i (token.ProofToLeader c n) at).0) one.frame two.frame
      (other_proof_lane b c n one.frame one.is) (other_proof_lane d c n two.frame two.is) at paired one.spelled two.spelled

  -- ---- a reply

  replied_honest : (n : ℕ) (x : Line) → b.foreign x.lane ≡ false → Comes (token.Replied n x)
  replied_honest n x honest at paired one two out =
      let k = token.Replied n x in
      let mine = frame_of_link b l ToLeaderLink n x k honest one in
      let theirs = frame_of_link d m ToLeaderLink n x k honest two in
      quiet b sent commands entries brought v z history s t pair alike i k l m at here there paired ToLeaderLink mine.spelled.at theirs.spelled.at (inl tt) (λ e h. h)
      (λ y e. replied_same (λ j. act_of f k l) (λ j. act_of g k m) y n x (ap (λ h. h x.lane) e ∙ honest))
      (inr (replied_moment (λ j. act_of f k l) (λ j. act_of g k m) w n x (ap (λ h. h x.lane) pair.follows.foreign ∙ honest))) refl
      (helper_same b sent commands entries brought v z history s t pair alike i k l m at here there paired ToLeaderLink mine.spelled.at theirs.spelled.at (inl tt) (λ e h. h) tt)
      (at_link b sent commands entries brought v z history s t pair alike i k l m at here there paired x.lane honest mine.frame theirs.frame mine.spelled theirs.spelled
      (replied_lane b n x mine.frame mine.is) (replied_lane d n x theirs.frame theirs.is))

  module _ (n : ℕ) (x : Line) (foreign : b.foreign x.lane ≡ true) (at : At (token.Replied n x)) where
    place : Numbered (state w pair.known.lawful.stages) n x
    place = (pair.known.lawful.coherent.pool i (token.Replied n x) at).1.0

    due : n ≡ w.acknowledged + 1 → slice_get w.commands w.acknowledged ≡ Some x
    due e = let next = place.next in subst (λ j. slice_get w.commands j ≡ Some x) (omega (arith, e, next)) place.is

    heads : n ≡ w.acknowledged + 1 → slice_get g.leader.outstanding 0 ≡ slice_get f.leader.outstanding 0
    heads e = by_heads (slice_get f.leader.outstanding 0) (slice_get g.leader.outstanding 0) refl refl
      where
        one : AreCommands b (suc w.acknowledged) (drop w.acknowledged w.commands) f.leader.outstanding
        one = pair.follows.leader.outstanding

        two : AreCommands d (suc w.acknowledged) (drop w.acknowledged w.commands) g.leader.outstanding
        two = subst (λ (y : World). AreCommands d (suc y.acknowledged) (drop y.acknowledged y.commands) g.leader.outstanding) alike.flow pair.others.leader.outstanding

        by_heads : (a c : Option PlainFrame) → slice_get f.leader.outstanding 0 ≡ a → slice_get g.leader.outstanding 0 ≡ c → c ≡ a
        by_heads None None p q = refl
        by_heads (Some a) (Some c) p q =
            let mine = head_here b w f.leader.outstanding n x a one (due e) foreign p in
            let theirs = head_here d w g.leader.outstanding n x c two (due e) foreign q in
            let lane = theirs.1 ∙ sym mine.1 in
            let serial = theirs.2 ∙ sym mine.2 in
            let link = theirs.0 ∙ sym mine.0 in
            let at : suc w.acknowledged - 1 ≡ w.acknowledged = omega arith in
            let body = one_order b sent commands entries brought w.acknowledged x a.body c.body (alike.orders w.acknowledged x (due e) foreign)
            (subst (λ j. ForeignOrder b j x a.body) at mine.3) (subst (λ j. ForeignOrder d j x c.body) at theirs.3) in
            λ j. Some (record { lane = lane j; serial = serial j; link = link j; body = body j })
        by_heads None (Some c) p q = absurd (empty_heads f.leader.outstanding g.leader.outstanding c (outstanding_count b sent commands entries brought v z history s t pair alike) p q)
        by_heads (Some a) None p q = absurd (empty_heads g.leader.outstanding f.leader.outstanding a (sym (outstanding_count b sent commands entries brought v z history s t pair alike)) q p)

    named : (y : PlainFrame) → slice_get f.leader.outstanding 0 ≡ Some y → y.link ≡ w.acknowledged + 1
    named y e =
        let h = head_of b (suc w.acknowledged) (drop w.acknowledged w.commands) f.leader.outstanding y pair.follows.leader.outstanding e in
        let link = head_link b (suc w.acknowledged) h.line y (b.foreign h.line.lane) h.command in
        omega (arith, link)

    other_named : (y : PlainFrame) → slice_get g.leader.outstanding 0 ≡ Some y → y.link ≡ w.acknowledged + 1
    other_named y e =
        let h = head_of d (suc u.acknowledged) (drop u.acknowledged u.commands) g.leader.outstanding y pair.others.leader.outstanding e in
        let link = head_link d (suc u.acknowledged) h.line y (d.foreign h.line.lane) h.command in
        let same = ap (λ (y : World). y.acknowledged) alike.flow in
        omega (arith, link, same)

    lanes : (y : PlainFrame) → n ≡ w.acknowledged + 1 → slice_get f.leader.outstanding 0 ≡ Some y → y.lane ≡ x.lane
    lanes y e is = (head_here b w f.leader.outstanding n x y pair.follows.leader.outstanding (due e) foreign is).1

  replied_foreign : (n : ℕ) (x : Line) → b.foreign x.lane ≡ true → Comes (token.Replied n x)
  replied_foreign n x foreign at paired one two out =
      let k = token.Replied n x in
      let mine = foreign_link b l ToLeaderLink n x k foreign one in
      let theirs = foreign_link d m ToLeaderLink n x k foreign two in
      let like = alike.pool i k l m at here there foreign in
      let acts = reply_acts b sent commands entries brought v z history s t pair alike n i x foreign l m at mine theirs like (heads n x foreign at) (named n x foreign at) (other_named n x foreign at) (lanes n x foreign at) in
      let rows = reply_rows b sent commands entries brought v z history s t pair alike n i x foreign l m at mine theirs like (heads n x foreign at) (named n x foreign at) (other_named n x foreign at) (lanes n x foreign at) in
      quiet b sent commands entries brought v z history s t pair alike i k l m at here there paired ToLeaderLink mine.spelled.at theirs.spelled.at (inl tt) (λ e h. h)
      (λ y e. same_act b sent commands entries brought v z history s t pair alike i k l m at here there paired acts y) (inl acts) refl
      (helper_same b sent commands entries brought v z history s t pair alike i k l m at here there paired ToLeaderLink mine.spelled.at theirs.spelled.at (inl tt) (λ e h. h) tt)
      (λ c is.
      ap (λ (y : FrameWorld). hidden_row (leader.row_at y.leader c)) (to_helper g m ToLeaderLink theirs.spelled.at) ∙ ap (λ y. hidden_row (leader.row_at y c)) (cases.link_is g m.bytes)
      ∙ rows c is
      ∙ sym (ap (λ (y : FrameWorld). hidden_row (leader.row_at y.leader c)) (to_helper f l ToLeaderLink mine.spelled.at) ∙ ap (λ y. hidden_row (leader.row_at y c)) (cases.link_is f l.bytes)))

  -- ---- a command

  abbrev Width : FrameWorld → ℕ
  Width y = y.helper.server.settings.width

  module _ (n : ℕ) (x : Line) (at : At (token.Ordered n x)) (paired : After (token.Ordered n x)) (to : l.to ≡ ToHelperLink) (other : m.to ≡ ToHelperLink) where
    abbrev k : Token
    k = token.Ordered n x

    abbrev f' : FrameWorld
    f' = frames.comes f l.to l.bytes

    abbrev g' : FrameWorld
    g' = frames.comes g m.to m.bytes

    abbrev w' : World
    w' = comes (λ j. act_of f k l) w k

    after : Known b v w'
    after = known_of b sent commands entries brought v z history s t pair alike i k l m at here there paired

    follows_after : Follows b f' w'
    follows_after = follows_of b sent commands entries brought v z history s t pair alike i k l m at here there paired

    room_one : 0 < f.helper.server.settings.window
    room_one = let e = ap (λ y. y.window) pair.follows.helper.settings in let r = pair.known.sound.limits.3.0 in omega (arith, e, r)

    room_two : 0 < g.helper.server.settings.window
    room_two = let e = ap (λ y. y.window) pair.others.helper.settings in let r = pair.known.sound.limits.3.0 in omega (arith, e, r)

    goes_one : Goes f.helper f'.helper
    goes_one = goes f l to room_one

    goes_two : Goes g.helper g'.helper
    goes_two = goes g m other room_two

    -- a command that is carried out is its lane's
    line_is : (bytes : List ℕ) (line : Line) → Keeps f.helper f'.helper bytes → slice_get w'.commands w.carried ≡ Some line → line ≡ x
    line_is bytes line keeps is =
        let a = keeps.number in
        let e = pair.follows.helper.number in
        let c = follows_after.helper.number in
        let next = carried_next (λ j. act_of f k l) w n x (omega (arith, a, e, c)) in
        let told = (after.lawful.coherent.pool i k (still i k at)).1 in
        let place = told.next in
        same_at w'.commands w.carried line x is (subst (λ j. slice_get w'.commands j ≡ Some x) (omega (arith, place, next)) told.is)
      where
        still : (j : ℕ) (y : Token) → slice_get w.pool j ≡ Some y → slice_get w'.pool j ≡ Some y
        still j y e = let a = comes_adds (λ j. act_of f k l) w k in ap (λ p. slice_get p j) a.pool ∙ get_left w.pool a.more j y e

    leaders : LikeLeaderRows b sent commands entries brought v z history f'.leader g'.leader
    leaders c foreign =
        ap (λ (y : FrameWorld). hidden_row (leader.row_at y.leader c)) (to_helper g m ToHelperLink other) ∙ ap (λ (y : leader.Leader). hidden_row (leader.row_at y c)) (cases.leader_away g ToHelperLink m.bytes tt)
        ∙ alike.leader c foreign
        ∙ sym (ap (λ (y : FrameWorld). hidden_row (leader.row_at y.leader c)) (to_helper f l ToHelperLink to) ∙ ap (λ (y : leader.Leader). hidden_row (leader.row_at y c)) (cases.leader_away f ToHelperLink l.bytes tt))

    is_reply : (j a : ℕ) (y : Line) → length w.pool ≤ j → slice_get w'.pool j ≡ Some (token.Replied a y) → (a ≡ n) × (y ≡ x)
    is_reply j a y high e = elim (new_reply (λ j. act_of f k l) w n x j (token.Replied a y) e) [
      | inl old ↦ let low = slice_get_within w.pool j (token.Replied a y) old in absurd (omega (arith, low, high))
      | inr new ↦ reply_parts a n y x new
    ]

  ordered_honest : (n : ℕ) (x : Line) → b.foreign x.lane ≡ false → Comes (token.Ordered n x)
  ordered_honest n x honest at paired one two out =
      let k = token.Ordered n x in
      let mine = frame_of_link b l ToHelperLink n x k honest one in
      let theirs = frame_of_link d m ToHelperLink n x k honest two in
      let to = mine.spelled.at in
      let other = theirs.spelled.at in
      let never : (c : ℕ) → c ≡ x.lane → b.foreign c ≡ true → ⊥ = λ c e foreign. let no : true ≡ false = sym foreign ∙ ap b.foreign e ∙ honest in cc no in
      record {
        same = λ y e. ordered_same (λ j. act_of f k l) (λ j. act_of g k m) y n x (ap (λ h. h x.lane) e ∙ honest);
        acts = inr (ordered_moment (λ j. act_of f k l) (λ j. act_of g k m) w n x (ap (λ h. h x.lane) pair.follows.foreign ∙ honest));
        taken = refl;
        helper = λ c foreign.
            ap (λ (y : helper.Helper). helper.row_at y.server c) (helper_after g m other (room_two n x at paired to other))
            ∙ helper_link_rows g.helper m.bytes c (away m theirs.frame x.lane c (Width g) theirs.spelled.bytes theirs.spelled.is_frame (ordered_lane d n x theirs.frame theirs.is) honest foreign)
            ∙ alike.helper c foreign
            ∙ sym (ap (λ (y : helper.Helper). helper.row_at y.server c) (helper_after f l to (room_one n x at paired to other))
            ∙ helper_link_rows f.helper l.bytes c (away l mine.frame x.lane c (Width f) mine.spelled.bytes mine.spelled.is_frame (ordered_lane b n x mine.frame mine.is) honest foreign));
        leader = leaders n x at paired to other;
        goes = goes_one n x at paired to other;
        others_go = goes_two n x at paired to other;
        answers = λ j a y p q high is foreign at_f at_g. absurd (never y.lane (ap (λ (y : Line). y.lane) (is_reply n x at paired to other j a y high is).1) foreign);
        new = λ p q keeps others line is foreign. absurd (never line.lane (ap (λ (y : Line). y.lane) (line_is n x at paired to other p line keeps is)) foreign);
        keys = λ j e address is foreign does. elim ((adds.comes_adds (λ j. act_of f k l) w k).entries j e is) [
          | inl old ↦ alike.keys j e address old foreign does
          | inr new ↦ absurd (never e.line.lane (ap (λ (y : Line). y.lane) new.0) foreign)
        ];
      }
    where
      away : (y : Letter) (q : PlainFrame) (c x : ℕ) (width : ℕ) → y.bytes ≡ spelling q → IsFrame q → q.lane ≡ c → b.foreign c ≡ false → b.foreign x ≡ true
          → (r : PlainFrame) → linked is_command width y.bytes ≡ Some r → r.lane ≡ x → ⊥
      away y q c x width spelled fr lane honest foreign r e is =
          let read : whole y.bytes ≡ Ok q = ap whole spelled ∙ whole_spelled q fr in
          let same = linked_is is_command width y.bytes q r read e in
          let one : x ≡ c = sym is ∙ ap (λ (y : PlainFrame). y.lane) same ∙ lane in
          let never : true ≡ false = sym foreign ∙ ap b.foreign one ∙ honest in
          cc never

  ordered_foreign : (n : ℕ) (x : Line) → b.foreign x.lane ≡ true → Comes (token.Ordered n x)
  ordered_foreign n x foreign at paired one two out =
      let k = token.Ordered n x in
      let mine = foreign_link b l ToHelperLink n x k foreign one in
      let theirs = foreign_link d m ToHelperLink n x k foreign two in
      let to = mine.spelled.at in
      let other = theirs.spelled.at in
      let at_t : slice_get t.world.pool i ≡ Some k = ap (λ (y : World). slice_get y.pool i) alike.flow ∙ at in
      let acts = order_acts b sent commands entries brought v z history s t pair alike n i x foreign l m at mine theirs in
      let rows = order_rows b sent commands entries brought v z history s t pair alike n i x foreign l m at mine theirs in
      let first = known_of b sent commands entries brought v z history s t pair alike i k l m at here there paired in
      let second = other_known_of b sent commands entries brought v z history s t pair alike i k l m at here there paired in
      let here_one = helper_after f l to (room_one n x at paired to other) in
      let here_two = helper_after g m other (room_two n x at paired to other) in
      record {
        same = λ y e. same_act b sent commands entries brought v z history s t pair alike i k l m at here there paired acts y;
        acts = inl acts;
        taken = refl;
        helper = λ c is.
            ap (λ (y : helper.Helper). helper.row_at y.server c) here_two ∙ rows c is ∙ sym (ap (λ (y : helper.Helper). helper.row_at y.server c) here_one);
        leader = leaders n x at paired to other;
        goes = goes_one n x at paired to other;
        others_go = goes_two n x at paired to other;
        answers = λ j a y p q high is strange at_f at_g.
            let e = (is_reply n x at paired to other j a y high is).0 in
            let c = pools_length b w.pool f.pool pair.follows.pool in
            let r = pools_length d u.pool g.pool pair.others.pool ∙ ap (λ (y : World). length y.pool) alike.flow in
            let one = answered f l to (room_one n x at paired to other) n (links b l mine (Width f)) j p (omega (arith, high, c)) at_f in
            let two = answered g m other (room_two n x at paired to other) n (links d m theirs (Width g)) j q (omega (arith, high, r)) at_g in
            (subst (λ a. Answers (frames.comes f l.to l.bytes).helper a p) (sym e) one, subst (λ a. Answers (frames.comes g m.to m.bytes).helper a q) (sym e) two);
        new = λ p q keeps others line is strange.
            let c = carried_reply f l to (room_one n x at paired to other) p keeps in
            let r = carried_reply g m other (room_two n x at paired to other) q others in
            subst (λ y. LikeBytes y q) (sym c.1) (subst (λ y. LikeBytes (spelling c.0) y) (sym r.1)
            (new_alike b sent commands entries brought v z history s t pair alike n i x foreign l m at at_t mine theirs first second c.0 r.0 c.2 r.2));
        keys = λ j e address is strange does. elim ((adds.comes_adds (λ j. act_of f k l) w k).entries j e is) [
          | inl old ↦ alike.keys j e address old strange does
          | inr new ↦
              let done = new.1 (ap (λ h. h x.lane) pair.follows.foreign ∙ foreign) in
              subst (λ (y : Line). key_at d 1 y.lane y.serial ≡ key_at b 1 y.lane y.serial) (sym new.0)
              (key_entered b sent commands entries brought v z history s t pair alike n i x foreign l m at at_t mine theirs first second address (sym done ∙ does))
        ];
      }
    where
      links : (c : Book) (y : Letter) → (h : IsForeignLink c y ToHelperLink n x (token.Ordered n x)) → (width : ℕ) → (q : PlainFrame) → linked is_command width y.bytes ≡ Some q → q.link ≡ n
      links c y h width q e = ap (λ (y : PlainFrame). y.link) (linked_is is_command width y.bytes h.frame q (ap whole h.spelled.bytes ∙ whole_spelled h.frame h.spelled.is_frame) e) ∙ h.link

  -- ---- bytes from outside

  injected_none : (to_leader : Bool) → Comes (token.Injected to_leader None)
  injected_none false at paired one two out =
      let k = token.Injected false None in
      let same : m ≡ l = alike.pool i k l m at here there in
      let none = subst (λ (y : Letter). NoClient y.bytes) (sym same) (no_client l.bytes one.1 out.bytes_are) in
      quiet b sent commands entries brought v z history s t pair alike i k l m at here there paired ToHelper one.0 two.0 (inr refl) (λ e h. h)
      (λ y e. refl) (inl refl) (taken_none f g same)
      (λ c is.
      ap (λ (y : FrameWorld). helper.row_at y.helper.server c) (to_helper g m ToHelper two.0) ∙ ap (λ y. helper.row_at y c) (cases.helper_is g m.bytes)
      ∙ no_client_helper g.helper.server m.bytes c none ∙ alike.helper c is
      ∙ sym (ap (λ (y : FrameWorld). helper.row_at y.helper.server c) (to_helper f l ToHelper one.0) ∙ ap (λ y. helper.row_at y c) (cases.helper_is f l.bytes)
      ∙ no_client_helper f.helper.server l.bytes c (no_client l.bytes one.1 out.bytes_are)))
      (leader_same b sent commands entries brought v z history s t pair alike i k l m at here there paired ToHelper one.0 two.0 (inr refl) (λ e h. h) tt)
    where
      taken_none : (y x : FrameWorld) → m ≡ l → taken_of x (token.Injected false None) m ≡ taken_of y (token.Injected false None) l
      taken_none y x e = refl
  injected_none true at paired one two out =
      let k = token.Injected true None in
      let same : m ≡ l = alike.pool i k l m at here there in
      let none = subst (λ (y : Letter). NoClient y.bytes) (sym same) (no_client l.bytes one.1 out.bytes_are) in
      quiet b sent commands entries brought v z history s t pair alike i k l m at here there paired ToLeader one.0 two.0 (inl tt) (λ e h. h)
      (λ y e. refl) (inl refl) refl
      (helper_same b sent commands entries brought v z history s t pair alike i k l m at here there paired ToLeader one.0 two.0 (inl tt) (λ e h. h) tt)
      (λ c is.
      ap (λ (y : FrameWorld). hidden_row (leader.row_at y.leader c)) (to_helper g m ToLeader two.0) ∙ ap (λ y. hidden_row (leader.row_at y c)) (cases.leader_is g m.bytes)
      ∙ ap (λ r. hidden_row r) (no_client_leader g.leader m.bytes c none) ∙ alike.leader c is
      ∙ sym (ap (λ (y : FrameWorld). hidden_row (leader.row_at y.leader c)) (to_helper f l ToLeader one.0) ∙ ap (λ y. hidden_row (leader.row_at y c)) (cases.leader_is f l.bytes)
      ∙ ap (λ r. hidden_row r) (no_client_leader f.leader l.bytes c (no_client l.bytes one.1 out.bytes_are))))

  injected_some : (to_leader : Bool) (c : ℕ) → Comes (token.Injected to_leader (Some c))
  injected_some false c at paired one two out =
      let k = token.Injected false (Some c) in
      let same : m ≡ l = alike.pool i k l m at here there in
      let x = one.1.0 in
      let read : whole l.bytes ≡ Ok x = ap whole one.1.1.1.0 ∙ whole_spelled x one.1.1.0 in
      let lane = one.1.1.1.1.0 in
      let acts = ap (λ (y : Letter). act_of g k y) same ∙ clients.helper_acts b sent commands entries brought v z history s t pair alike c out.names l.bytes x read lane in
      quiet b sent commands entries brought v z history s t pair alike i k l m at here there paired ToHelper one.0 two.0 (inr refl) (λ e h. h)
      (λ y e. same_act b sent commands entries brought v z history s t pair alike i k l m at here there paired acts y) (inl acts)
      (ap (λ (y : Letter). taken_of g k y) same ∙ clients.helper_taken b sent commands entries brought v z history s t pair alike c out.names l.bytes x read lane)
      (λ j is.
      ap (λ (y : FrameWorld). helper.row_at y.helper.server j) (to_helper g m ToHelper two.0) ∙ ap (λ y. helper.row_at y j) (cases.helper_is g m.bytes)
      ∙ ap (λ (y : Letter). helper.row_at (client_turn g.helper.server y.bytes).server j) same
      ∙ clients.helper_rows_after b sent commands entries brought v z history s t pair alike c out.names l.bytes x read lane j is
      ∙ sym (ap (λ (y : FrameWorld). helper.row_at y.helper.server j) (to_helper f l ToHelper one.0) ∙ ap (λ y. helper.row_at y j) (cases.helper_is f l.bytes)))
      (leader_same b sent commands entries brought v z history s t pair alike i k l m at here there paired ToHelper one.0 two.0 (inr refl) (λ e h. h) tt)
  injected_some true c at paired one two out =
      let k = token.Injected true (Some c) in
      let same : m ≡ l = alike.pool i k l m at here there in
      let x = one.1.0 in
      let read : whole l.bytes ≡ Ok x = ap whole one.1.1.1.0 ∙ whole_spelled x one.1.1.0 in
      let lane = one.1.1.1.1.0 in
      let acts = ap (λ (y : Letter). act_of g k y) same ∙ clients.leader_acts b sent commands entries brought v z history s t pair alike c out.names l.bytes x read lane in
      quiet b sent commands entries brought v z history s t pair alike i k l m at here there paired ToLeader one.0 two.0 (inl tt) (λ e h. h)
      (λ y e. same_act b sent commands entries brought v z history s t pair alike i k l m at here there paired acts y) (inl acts)
      (ap (λ (y : Letter). taken_of g k y) same ∙ clients.leader_taken b sent commands entries brought v z history s t pair alike c out.names l.bytes x read lane)
      (helper_same b sent commands entries brought v z history s t pair alike i k l m at here there paired ToLeader one.0 two.0 (inl tt) (λ e h. h) tt)
      (λ j is.
      ap (λ (y : FrameWorld). hidden_row (leader.row_at y.leader j)) (to_helper g m ToLeader two.0) ∙ ap (λ y. hidden_row (leader.row_at y j)) (cases.leader_is g m.bytes)
      ∙ ap (λ (y : Letter). hidden_row (leader.row_at (on_client g.leader y.bytes).leader j)) same
      ∙ clients.leader_rows_after b sent commands entries brought v z history s t pair alike c out.names l.bytes x read lane j is
      ∙ sym (ap (λ (y : FrameWorld). hidden_row (leader.row_at y.leader j)) (to_helper f l ToLeader one.0) ∙ ap (λ y. hidden_row (leader.row_at y j)) (cases.leader_is f l.bytes)))

  -- ---- any token

  pub token_comes : (k : Token) → Comes k
  token_comes (token.Deposit c n) = deposit c n
  token_comes (token.Submission c n y) = submission c n y
  token_comes (token.ProofToHelper c n) = proof_to_helper c n
  token_comes (token.ProofToLeader c n) = proof_to_leader c n
  token_comes (token.Ordered n x) = elim (cases_Bool (b.foreign x.lane)) [ inl foreign ↦ ordered_foreign n x foreign | inr honest ↦ ordered_honest n x honest ]
  token_comes (token.Replied n x) = elim (cases_Bool (b.foreign x.lane)) [ inl foreign ↦ replied_foreign n x foreign | inr honest ↦ replied_honest n x honest ]
  token_comes (token.HeldDeposit c n) = held_deposit c n
  token_comes (token.HeldProof c n) = held_proof c n
  token_comes (token.Challenge c n) = challenge c n
  token_comes (token.Answer c n) = answer c n
  token_comes (token.Later c n) = later c n
  token_comes (token.Injected to_leader None) = injected_none to_leader
  token_comes (token.Injected to_leader (Some c)) = injected_some to_leader c
  token_comes (token.Foreign c) = to_foreign c
