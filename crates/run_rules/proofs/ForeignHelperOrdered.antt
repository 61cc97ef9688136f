-- A command of a foreign lane comes to the helper, in both runs: the act that it takes is found from its state.
use Rattle.std.proofs.Common.{◌≡◌, ℕ, ◌<◌, ◌≤◌, ◌^◌, ◌+◌, ◌-◌, nat_eq, nat_le, true, false, List, [], ◌∷◌, length, take, Some, slice_get, refl, sym, ap, ◌∙◌, subst, inl, inr, arith, length-append}
use Rattle.std.proofs.lemmas.Bool.{cases_Bool, eq-eqb, eqb-true, leb-false, false_from_ne_true}
use Rattle.std.proofs.lemmas.Option.{slice_get_within}
use Rattle.express_words.specs.declared.refusal.Refusal.TheVariants as refusal
use Rattle.frame_rules.specs.Frames as frame
use Rattle.frame_rules.specs.Frames.{PlainFrame, PlainBody}
use Rattle.frame_rules.specs.Spelling.{IsAddressed}
use Rattle.frame_rules.specs.Whole.{is_command, has_width, linked}
use Rattle.mailbox_rules.specs.Requests.{Command, Registers, Begins, Audits, Settles, Reads, Retires, Line, entry, Operation}
use Rattle.token_rules.specs.Tokens as token
use Rattle.token_rules.specs.Tokens.{World, Oracle, Act, no_act}
use Rattle.token_rules.specs.Run.{acted, carries, carries_next, comes, line_of}
use Rattle.token_rules.specs.Invariant.{Claims, state}
use Rattle.token_rules.proofs.Lists.{get_taken, taken_get}
use Rattle.step_rules.specs.Helper as helper
use Rattle.step_rules.specs.Helper.{Server, Row, Stage, row_at}
use Rattle.step_rules.specs.Leader as leader
use Rattle.step_rules.specs.HelperCommands as steps
use Rattle.step_rules.specs.HelperCommands.{Effect}
use Rattle.run_rules.specs.Letters.{Letter, FrameWorld, ToHelperLink}
use Rattle.run_rules.specs.Run as frames
use Rattle.run_rules.specs.Acts.{act_of, does_after, order_act}
use Rattle.run_rules.specs.Book.{Book, leaders_draw, place, place_or, same_line}
use Rattle.run_rules.specs.Values.{part_at, sigma_at}
use Rattle.run_rules.specs.Frames.{frame_with, command_body}
use Rattle.run_rules.specs.Follows.{Spelled, IsForeignLink, ForeignOrder, ForeignHolds, ForeignHelperRow, ForeignCommands, HasBegun, HelperAnswers, HelperFollows, HelperRowAt, Carries, Within, Sound, Follows}
use Rattle.run_rules.specs.Known.{Known}
use Rattle.run_rules.proofs.Places.{found_first, lines_same, line_itself}
use Rattle.run_rules.proofs.HelperOrders.{ordered_follows, comes_next}
use Rattle.run_rules.proofs.HelperRegistered.{entry_is, linked_spelled}
use Rattle.run_rules.proofs.WriteHelperCarried.{journal_length}
use Rattle.run_rules.proofs.ForeignHelperTurns.{bare_at}
use Rattle.run_rules.proofs.ForeignHelperCarried.{After, ForeignMade, Orders, foreign_carried, refused_made}
use Rattle.run_rules.proofs.ForeignHelperWrites.{begin_made, audit_made, settle_made}
use Rattle.run_rules.proofs.ForeignHelperBoxes.{registered_made, read_ordered_made}

-- ---- the place of a foreign command

pub foreign_place : (b : Book) (w : World) (rows : List leader.Row) (c s i : ℕ) (y : Command) → ForeignCommands b rows w.commands → Within b w
    → b.foreign c ≡ true → slice_get w.commands i ≡ Some (line_of c s y) → place b c s y ≡ i
unfolding place
foreign_place b w rows c s i y once within foreign e =
    let commands = within.commands in
    let there : slice_get b.commands i ≡ Some (line_of c s y) = (get_taken b.commands (length w.commands) i (line_of c s y) (ap (λ xs. slice_get xs i) (sym commands) ∙ e)).1 in
    let low : i < length w.commands = slice_get_within w.commands i (line_of c s y) e in
    ap (place_or (length b.commands)) (found_first (λ z. same_line z (line_of c s y)) b.commands i (line_of c s y) there (line_itself (line_of c s y))
    (λ k z l f. false_from_ne_true _ (λ t.
    let same = lines_same z (line_of c s y) t in
    let here : slice_get w.commands k ≡ Some (line_of c s y) = ap (λ xs. slice_get xs k) commands ∙ taken_get b.commands (length w.commands) k (line_of c s y) (omega (arith, l, low)) (f ∙ ap Some same) in
    let one = once.once k i (line_of c s y) here e foreign in
    omega (arith, one, l))))

-- ---- what a command of the leader is

record IsOrder (width : ℕ) (body : PlainBody) : Type 0 where
  class : is_command body ≡ true
  wide : has_width width body ≡ true
  first : (lane serial : ℕ) → IsAddressed body lane serial → 1 ≤ serial

is_order : (b : Book) (i : ℕ) (x : Line) (body : PlainBody) → Sound b → b.foreign x.lane ≡ true → ForeignOrder b i x body
    → IsOrder b.settings.width body
is_order b i x (frame.LinkRegister address) sound foreign h = record { class = refl; wide = refl; first = λ lane serial k. k }
is_order b i x (frame.LinkBegin draw part) sound foreign h = record {
  class = refl;
  wide = let part_is : part_at b x.lane x.serial ≡ b.brought.part x.lane x.serial = rw foreign refl in
      eq-eqb _ _ (ap length (h.2 ∙ part_is) ∙ sound.parts x.lane x.serial);
  first = λ lane serial k. k;
}
is_order b i x (frame.LinkAudit sigma opened) sound foreign h = record { class = refl; wide = refl; first = λ lane serial k. k }
is_order b i x (frame.LinkSettle closing) sound foreign h = record { class = refl; wide = refl; first = λ lane serial k. k }
is_order b i x (frame.LinkRead n) sound foreign h = record { class = refl; wide = refl; first = λ lane serial k. k }
is_order b i x (frame.LinkRetire n) sound foreign h = record { class = refl; wide = refl; first = λ lane serial k. k }
is_order b i x body sound foreign h = absurd h

-- a row of another serial refuses every command
idle_refuses : (b : Book) (i : ℕ) (x : Line) (h : Server) (g : PlainFrame) (body : PlainBody) → ForeignOrder b i x body
    → steps.command h g body helper.Idle ≡ steps.no_deposit h
unfolding steps.command steps.register steps.begin steps.audit steps.settle steps.read
idle_refuses b i x h g (frame.LinkRegister address) k = refl
idle_refuses b i x h g (frame.LinkBegin draw part) k = refl
idle_refuses b i x h g (frame.LinkAudit sigma opened) k = refl
idle_refuses b i x h g (frame.LinkSettle closing) k = refl
idle_refuses b i x h g (frame.LinkRead n) k = refl
idle_refuses b i x h g (frame.LinkRetire n) k = refl
idle_refuses b i x h g body k = absurd k

-- ---- it is carried out

module _ (b : Book) (f : FrameWorld) (v w : World) (x : Line) (known : Known b v w) (foreign : b.foreign x.lane ≡ true) (k : Orders b f w x)
    (due : slice_get w.commands w.carried ≡ Some x) where
  abbrev c : ℕ
  c = x.lane

  abbrev s : ℕ
  s = x.serial

  abbrev server : Server
  server = f.helper.server

  abbrev g : PlainBody → PlainFrame
  g body = frame_with c s (w.carried + 1) body

  count : length w.journal ≡ w.carried
  count = journal_length w known.lawful

  orders : (y : Command) → Orders b f w (line_of c s y)
  orders y = record { follows = k.follows; lane = k.lane; serial = k.serial; first = k.first; number = k.number }

  module _ (low : c < b.settings.lanes) (stage : Stage) (holds : ForeignHolds b c s stage) (begun : HasBegun b w.carried c s stage) where
    abbrev Of : Command → PlainBody → Type 0
    Of y body = ForeignMade b w (line_of c s y) body (steps.command server (g body) body stage)

    begins : (draw part : List ℕ) → x.command ≡ Begins → draw ≡ leaders_draw b w.carried → part ≡ part_at b c s → Of Begins (frame.LinkBegin draw part)
    unfolding command_body
    begins draw part y e q =
        let at = foreign_place b w f.leader.rows c s w.carried Begins k.follows.leader.foreign known.within foreign (due ∙ ap (λ y. Some (line_of c s y)) y) in
        subst (λ d. Of Begins (frame.LinkBegin d part)) (sym e) (subst (λ p. Of Begins (frame.LinkBegin (leaders_draw b w.carried) p)) (sym q)
        (begin_made b f w c s known.sound foreign low count known.within.journal stage holds begun (orders Begins) at))

    by_body : (body : PlainBody) → ForeignOrder b w.carried x body → Of x.command body
    unfolding command_body
    by_body (frame.LinkRegister address) h =
        subst (λ y. Of y (frame.LinkRegister address)) (sym h.0) (registered_made b f w c s known.sound foreign low stage holds (orders Registers) address h.1)
    by_body (frame.LinkBegin draw part) h =
        subst (λ y. Of y (frame.LinkBegin draw part)) (sym h.0) (begins draw part h.0 h.1 h.2)
    by_body (frame.LinkAudit sigma opened) h =
        subst (λ y. Of y (frame.LinkAudit sigma opened)) (sym h.0)
        (subst (λ n. Of Audits (frame.LinkAudit n opened)) (sym h.1) (subst (λ o. Of Audits (frame.LinkAudit (sigma_at b c s) o)) (sym h.2)
        (audit_made b f w c s known.sound foreign low count known.within.journal stage holds begun (orders Audits))))
    by_body (frame.LinkSettle closing) h =
        subst (λ y. Of y (frame.LinkSettle closing)) (sym h.0)
        (subst (λ z. Of Settles (frame.LinkSettle z)) (sym h.1)
        (settle_made b f w c s known.sound foreign low count known.within.journal stage holds begun (orders Settles)))
    by_body (frame.LinkRead n) h =
        subst (λ y. Of y (frame.LinkRead n)) (sym h.0)
        (read_ordered_made b f w c s known.sound foreign low stage holds true n (orders Reads) (subst (λ m. m < 2 ^ 32) (sym h.1) (known.sound.brought.numbers c s)) h.1)
    by_body (frame.LinkRetire n) h =
        subst (λ y. Of y (frame.LinkRetire n)) (sym h.0)
        (read_ordered_made b f w c s known.sound foreign low stage holds false n (orders Retires) (subst (λ m. m < 2 ^ 32) (sym h.1) (known.sound.brought.numbers c s)) h.1)
    by_body body h = absurd h

  -- the lane's row, if there is one and it has the command's serial
  row_at_lane : c < b.settings.lanes → ForeignHelperRow b c (row_at server c) (w.lanes c).helper
  row_at_lane low = subst (λ t. HelperRowAt b c t (row_at server c) (w.lanes c).helper) foreign (k.follows.helper.rows c low)

  with_row : (body : PlainBody) → ForeignOrder b w.carried x body → c < b.settings.lanes
      → ForeignMade b w x body (steps.command server (g body) body (steps.stage_for (row_at server c) s))
  with_row body order low = elim (cases_Bool (nat_eq (row_at server c).serial s)) [
    | inl t ↦
        let same : (row_at server c).serial ≡ s = eqb-true _ _ t in
        let holds = subst (λ n. ForeignHolds b c n (row_at server c).stage) same (row_at_lane low).holds in
        let begun = subst (λ n. HasBegun b w.carried c n (row_at server c).stage) same (k.follows.helper.begun c low foreign) in
        rw t (by_body low (row_at server c).stage holds begun body order)
    | inr t ↦ rw (t, idle_refuses b w.carried x server (g body) body order) (refused_made b f w x body refusal.NoDeposit k tt)
  ]

  lanes_small : server.settings.lanes < 2 ^ 16
  lanes_small =
      let few : b.settings.lanes ≤ 256 = known.sound.limits.2.1 in
      let same = ap (λ s. s.lanes) k.follows.helper.settings in
      omega (arith, few, same)

  pub carried_made : (body : PlainBody) → ForeignOrder b w.carried x body → ForeignMade b w x body (steps.carries_out server (g body))
  unfolding steps.carries_out
  carried_made body order = elim (cases_Bool (nat_le server.settings.lanes c)) [
    | inl past ↦ rw past (refused_made b f w x body (refusal.Lane server.settings.lanes) k lanes_small)
    | inr there ↦
        let low : c < b.settings.lanes = let l = leb-false _ _ there in let same = ap (λ s. s.lanes) k.follows.helper.settings in omega (arith, l, same) in
        rw there (with_row body order low)
  ]

-- ---- it comes

-- what the command is carried out to
abbrev pub ordered_effect : FrameWorld → Line → ℕ → PlainBody → Effect
ordered_effect f x n order = steps.carries_out f.helper.server (frame_with x.lane x.serial n order)

-- the act that the helper takes
abbrev pub ordered_act : FrameWorld → Line → ℕ → PlainBody → Act
ordered_act f x n order =
    let e = ordered_effect f x n order in
    record no_act { row = bare_at e.server x.lane; does = does_after order e.body }

next_made : (b : Book) (f : FrameWorld) (w : World) (x : Line) (does : Operation) (order : PlainBody) → Follows b f w → b.foreign x.lane ≡ true
    → 0 < b.settings.window → length w.journal ≡ w.carried → w.journal ≡ take (length w.journal) b.entries → ForeignOrder b w.carried x order
    → After b w x does (ordered_effect f x (w.carried + 1) order)
    → Follows b (frames.to_helper_link f (Some (frame_with x.lane x.serial (w.carried + 1) order)) (steps.arrives f.helper (frame_with x.lane x.serial (w.carried + 1) order)))
    (carries (acted w) x (bare_at (ordered_effect f x (w.carried + 1) order).server x.lane) does)
unfolding steps.arrives
next_made b f w x does order h foreign room count journal ordered a =
    let number : nat_eq (w.carried + 1) (f.helper.carried + 1) ≡ true = eq-eqb _ _ (ap (λ n. n + 1) (sym h.helper.number)) in
    let answers : HelperAnswers b w.carried x order (ordered_effect f x (w.carried + 1) order).body = record {
      helper = f.helper;
      lanes = w.lanes;
      stands = subst (HelperFollows b f.helper w.lanes w.carried) (journal ∙ ap (λ n. take n b.entries) count) h.helper;
      answers = refl;
    } in
    rw number (foreign_carried b f w x does order _ h foreign room count answers ordered a)

foreign_next : (o : Oracle) (w : World) (x : Line) (act : Act) → w.foreign x.lane ≡ true → o w.moment ≡ act
    → carries_next o w x ≡ carries (acted w) x act.row act.does
unfolding carries_next
foreign_next o w x act foreign e = rw (foreign, e) refl

-- a command of a foreign lane comes, whatever it is; only where it is the next one, an act is taken
pub foreign_ordered : (b : Book) (o : Oracle) (f : FrameWorld) (v w : World) (n place : ℕ) (x : Line) (l : Letter) → Known b v w
    → Known b v (comes o w (token.Ordered n x)) → slice_get w.pool place ≡ Some (token.Ordered n x) → Follows b f w
    → b.foreign x.lane ≡ true → Carries b (token.Ordered n x) l
    → ((order : PlainBody) → linked is_command f.helper.server.settings.width l.bytes ≡ Some (frame_with x.lane x.serial n order)
    → n ≡ w.carried + 1 → o w.moment ≡ ordered_act f x n order)
    → Follows b (frames.comes f l.to l.bytes) (comes o w (token.Ordered n x))
unfolding comes frames.comes steps.if_command
foreign_ordered b o f v w n place x l known after there h foreign k acts =
    let claim : Claims (state w known.lawful.stages) (token.Ordered n x) = known.lawful.coherent.pool place (token.Ordered n x) there in
    let number = claim.1 in
    let next = number.next in
    let link : IsForeignLink b l ToHelperLink n x (token.Ordered n x) = rw foreign at k in
    let body = link.frame.body in
    let g = frame_with x.lane x.serial n body in
    let frame_is : link.frame ≡ g =
    ap (λ m. record { lane = link.frame.lane; serial = link.frame.serial; link = m; body = body }) link.link
    ∙ ap (λ c. record { lane = c; serial = link.frame.serial; link = n; body = body }) link.lane
    ∙ ap (λ s. frame_with x.lane s n body) link.serial in
    let spelled = subst (Spelled l ToHelperLink) frame_is link.spelled in
    let order = is_order b (n - 1) x body known.sound foreign link.body in
    let width = ap (λ s. has_width s.width body) h.helper.settings ∙ order.wide in
    let read = linked_spelled is_command f.helper.server.settings.width g spelled.is_frame order.class width in
    rw (spelled.at, spelled.bytes, read)
    (ordered_follows b o f w known.lawful.stages n x g (known.sound.limits.3.0) known.lawful.coherent number h refl (λ e.
    let due : slice_get w.commands w.carried ≡ Some x = subst (λ i. slice_get w.commands i ≡ Some x) (omega (arith, e, next)) number.is in
    let fr = spelled.is_frame in
    let small = fr.link in
    let orders : Orders b f w x = record { follows = h; lane = fr.lane; serial = fr.serial; first = order.first x.lane x.serial fr.addressed; number = omega (arith, small, e) } in
    let at : n - 1 ≡ w.carried = omega (arith, e) in
    let ordered : ForeignOrder b w.carried x body = subst (λ i. ForeignOrder b i x body) at link.body in
    let made = carried_made b f v w x known foreign orders due body ordered in
    let honest : w.foreign x.lane ≡ true = ap (λ foreign. foreign x.lane) h.foreign ∙ foreign in
    let act = ordered_act f x (w.carried + 1) body in
    let same : o w.moment ≡ act = acts body (ap (linked is_command f.helper.server.settings.width) spelled.bytes ∙ read) e ∙ ap (λ m. ordered_act f x m body) e in
    let count = journal_length w known.lawful in
    let is = foreign_next o w x act honest same in
    let ended : Within b (carries (acted w) x act.row act.does) = subst (Within b) (comes_next o w n x e ∙ is) after.within in
    let entered = entry_is b w x act.does count (ended.journal ∙ ap (λ m. take m b.entries) (length-append w.journal (entry x act.does ∷ []) ∙ ap (λ m. m + 1) count)) in
    subst (λ u. Follows b (frames.to_helper_link f (Some g) (steps.arrives f.helper g)) u) (sym is)
    (subst (λ m. Follows b (frames.to_helper_link f (Some (frame_with x.lane x.serial m body)) (steps.arrives f.helper (frame_with x.lane x.serial m body))) (carries (acted w) x act.row act.does)) (sym e)
    (next_made b f w x act.does body h foreign (known.sound.limits.3.0) count known.within.journal ordered (made entered)))))

-- ---- with the act that is read off the helper's turn

order_acts : (f : FrameWorld) (x : Line) (n : ℕ) (order : PlainBody) (bytes : List ℕ)
    → linked is_command f.helper.server.settings.width bytes ≡ Some (frame_with x.lane x.serial n order) → n ≡ f.helper.carried + 1
    → order_act f x.lane bytes ≡ ordered_act f x n order
unfolding steps.if_command steps.arrives
order_acts f x n order bytes read e = let next : nat_eq n (f.helper.carried + 1) ≡ true = eq-eqb _ _ e in rw (read, next) refl

pub ordered_follows_act : (b : Book) (f : FrameWorld) (v w : World) (n place : ℕ) (x : Line) (l : Letter) → Known b v w
    → Known b v (comes (λ m. act_of f (token.Ordered n x) l) w (token.Ordered n x)) → slice_get w.pool place ≡ Some (token.Ordered n x)
    → Follows b f w → b.foreign x.lane ≡ true → Carries b (token.Ordered n x) l
    → Follows b (frames.comes f l.to l.bytes) (comes (λ m. act_of f (token.Ordered n x) l) w (token.Ordered n x))
ordered_follows_act b f v w n place x l known after there h foreign k =
    foreign_ordered b (λ m. act_of f (token.Ordered n x) l) f v w n place x l known after there h foreign k
    (λ order read e. order_acts f x n order l.bytes read (e ∙ ap (λ m. m + 1) (sym h.helper.number)))
