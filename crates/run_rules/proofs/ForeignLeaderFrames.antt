-- What the leader does at a foreign lane's frame: the act that both runs take.
use Rattle.std.proofs.Common.{◌≡◌, ℕ, ◌<◌, ◌≤◌, ◌^◌, ◌+◌, ◌-◌, cond, nat_eq, nat_lt, nat_le, true, false, Bool, List, [], ◌∷◌, ◌++◌, length, take, Option, Some, None, slice_get, slice_set, slice_index_or, refl, sym, ap, ◌∙◌, subst, inl, inr, arith, lit<}
use Rattle.std.proofs.lemmas.List.{get_or-set_same}
use Rattle.std.proofs.lemmas.Bool.{eqb-true, eqb-false, leb-false, ltb-true, ltb-false, false_from_ne_true}
use Rattle.express_words.specs.Limits.{IsPart}
use Rattle.express_words.specs.Ranges.{IsOpenings}
use Rattle.express_words.specs.declared.audit.ProofShare.{ProofShare}
use Rattle.express_words.specs.declared.refusal.Refusal.{Refusal}
use Rattle.express_words.specs.declared.refusal.Refusal.TheVariants as refusal
use Rattle.frame_rules.specs.Frames as frame
use Rattle.frame_rules.specs.Frames.{PlainFrame, PlainBody}
use Rattle.frame_rules.specs.Spelling.{IsFrame, IsBody}
use Rattle.frame_rules.specs.Whole.{has_width}
use Rattle.frame_rules.proofs.WholeLaws.{malformed_frame}
use Rattle.lane_table.specs.Gates.{opening_gate, closing_gate, same_want}
use Rattle.lane_table.specs.declared.gate.Gate.TheVariants.{New, Same, Stale, Phase}
use Rattle.lane_table.specs.declared.row.Want.TheVariants as want
use Rattle.mailbox_rules.specs.Requests.{Command, Registers, Begins, Audits, Settles, Reads, Retires, Line}
use Rattle.token_rules.specs.Tokens as token
use Rattle.token_rules.specs.Tokens.{World}
use Rattle.token_rules.specs.Run.{line_of, issues, with_leader, acted, is_full, sends_all, foreign_tokens}
use Rattle.token_rules.proofs.Lists.{get_more, taken_get}
use Rattle.step_rules.specs.Boxes.{Box, addresses_of}
use Rattle.step_rules.specs.Leader as leader
use Rattle.step_rules.specs.Leader.{Leader, Row, Stage, Asked, Registering, Writing, Reading, Retiring, row, row_at, idle, phase_of, want_in, want_of}
use Rattle.step_rules.specs.LeaderClients as steps
use Rattle.step_tokens.specs.LeaderRows.{bare, bare_asked}
use Rattle.step_tokens.specs.Commands.{command_of}
use Rattle.run_rules.specs.Letters.{FrameWorld}
use Rattle.run_rules.specs.Run as frames
use Rattle.run_rules.specs.Book.{Book, place, leaders_draw, is_drawn}
use Rattle.audit_rules.specs.Values.{Write, opens}
use Rattle.run_rules.specs.Values.{key_at, root_at, part_at, write_at, share_at, sigma_at, opened_at, counted_at}
use Rattle.run_rules.specs.Frames.{frame_with}
use Rattle.run_rules.specs.Follows.{ForeignAsked, ForeignOrder, ForeignLeaderHolds, ForeignLeaderRow, LeaderRowAt, IsUnissued, StillToIssue, BegunAt, WasBegun, Awaits, OfNoFrame, Within, Follows}
use Rattle.run_rules.specs.Known.{Known}
use Rattle.run_rules.specs.Acts.{says_of, issues_of}
use Rattle.run_rules.proofs.LeaderClients.{posts_follow, full_is}
use Rattle.run_rules.proofs.Places.{place_first}
use Rattle.run_rules.proofs.ForeignHelperTurns.{Came}
use Rattle.run_rules.proofs.ForeignHelperWrites.{opened_is}
use Rattle.run_rules.proofs.ForeignLeaderTurns.{foreign_issues_follow}
use Rattle.run_rules.proofs.WriteLeaderRanges.{leaders_draw_length, sigma_is_small}
use Rattle.run_rules.proofs.WriteLeaderAudits.{counted_is, sigma_of_draw, opened_eq}
use Rattle.run_rules.proofs.WriteLeaderSubmits.{drawn_more, undrawn_same, draw_is, issued_few, last_there}

-- acts have moments of their own
pub moment_follows : (b : Book) (f : FrameWorld) (w : World) (moment : ℕ) → Follows b f w → Follows b f (record w { moment = moment })
moment_follows b f w moment h = record {
  limit = h.limit;
  width = h.width;
  window = h.window;
  foreign = h.foreign;
  helper = h.helper;
  leader = h.leader;
  clients = h.clients;
  waiting = h.waiting;
  told = h.told;
  pool = h.pool;
  journal = h.journal;
  outcomes = h.outcomes;
}

-- the token run's world where a command is issued
abbrev pub issuing : World → ℕ → Row → Command → World
issuing w c r y = issues (with_leader (acted w) c (bare r)) (line_of c r.serial y)

-- a turn and its act: something is answered alone, or a command is issued where the window has room
pub data LeaderActs (b : Book) (f : FrameWorld) (w : World) (c : ℕ) (t : leader.Turn) : Type 0 where
  Alone : issues_of t.answer ≡ None → Follows b (frames.to_leader f t) (sends_all (acted w) (foreign_tokens (says_of t.answer))) → LeaderActs b f w c t
  Issues : (r : Row) (y : Command) → issues_of t.answer ≡ Some y → row_at t.leader c ≡ r → is_full w ≡ false
      → (Within b (issuing w c r y) → Follows b (frames.to_leader f t) (issuing w c r y)) → LeaderActs b f w c t

-- what a client's frame of a lane and serial brings, where a command is issued for it
abbrev pub BringsBody : Book → ℕ → ℕ → PlainBody → Type 0
BringsBody b c s (frame.Register address key) = (address ≡ b.brought.address c s) × (key ≡ key_at b 0 c s)
BringsBody b c s (frame.Write root part) = (root ≡ root_at b 0 c s) × (part ≡ part_at b c s)
BringsBody b c s (frame.Read n held) = n ≡ b.brought.number c s
BringsBody b c s (frame.Retire n held) = n ≡ b.brought.number c s
BringsBody b c s (frame.Proof share) = share ≡ share_at b 0 c s
BringsBody b c s body = Unit {0}

phase_small : (x : Stage) → phase_of x < 2 ^ 8
phase_small leader.Idle = omega arith
phase_small (leader.Waiting number asked) = omega arith
phase_small (leader.Challenged write kept) = omega arith
phase_small (leader.Auditing number write share sigma opened) = omega arith
phase_small (leader.Settling number write own other) = omega arith
phase_small (leader.Done want kept) = omega arith

module _ (b : Book) (f : FrameWorld) (v w : World) (g : PlainFrame) (known : Known b v w) (h : Follows b f w)
    (foreign : b.foreign g.lane ≡ true) (came : Came g.lane g.serial) where
  abbrev c : ℕ
  c = g.lane

  abbrev s : ℕ
  s = g.serial

  few : w.acknowledged ≤ length w.commands
  few = let i = known.lawful.coherent.acknowledged in let j = known.lawful.coherent.carried in omega (arith, i, j)

  says_so : (body : PlainBody) → IsFrame (frame_with c s 0 body) → LeaderActs b f w c (leader.says f.leader g body)
  says_so body fr = Alone refl (posts_follow b f (acted w) (token.Foreign c ∷ []) _ (moment_follows b f w _ h)
      (record { frame = frame_with c s 0 body; why = inl foreign; lane = refl; spelled = record { at = refl; bytes = refl; is_frame = fr } }, tt))

  waits_on : (number : ℕ) → LeaderActs b f w c (leader.turn f.leader (leader.StillWaiting number))
  waits_on number = Alone refl (posts_follow b f (acted w) [] [] (moment_follows b f w _ h) tt)

  stale : (n : ℕ) → n < 2 ^ 32 → LeaderActs b f w c (leader.refuses f.leader g (refusal.Stale n))
  stale n low = says_so (frame.Refused (refusal.Stale n)) (record { lane = came.lane; serial = came.serial; addressed = came.first; link = omega arith; linked = refl; body = low })

  out_of_phase : (n : ℕ) → n < 2 ^ 8 → LeaderActs b f w c (leader.refuses f.leader g (refusal.Phase n))
  out_of_phase n low = says_so (frame.Refused (refusal.Phase n)) (record { lane = came.lane; serial = came.serial; addressed = came.first; link = omega arith; linked = refl; body = low })

  no_box : (n : ℕ) → n < 2 ^ 32 → LeaderActs b f w c (leader.refuses f.leader g (refusal.NoBox n))
  no_box n low = says_so (frame.Refused (refusal.NoBox n)) (record { lane = came.lane; serial = came.serial; addressed = came.first; link = omega arith; linked = refl; body = low })

  bad_token : (n : ℕ) → n < 2 ^ 32 → LeaderActs b f w c (leader.refuses f.leader g (refusal.BadToken n))
  bad_token n low = says_so (frame.Refused (refusal.BadToken n)) (record { lane = came.lane; serial = came.serial; addressed = came.first; link = omega arith; linked = refl; body = low })

  again : (n : ℕ) → n < 2 ^ 64 → LeaderActs b f w c (leader.refuses f.leader g (refusal.Again n))
  again n low = says_so (frame.Refused (refusal.Again n)) (record { lane = came.lane; serial = came.serial; addressed = came.first; link = omega arith; linked = refl; body = low })

  no_lane : LeaderActs b f w c (leader.refuses f.leader g (refusal.Lane f.leader.settings.lanes))
  no_lane =
      let lanes = known.sound.limits.2.1 in
      let same = ap (λ x. x.lanes) h.leader.settings in
      says_so (frame.Refused (refusal.Lane f.leader.settings.lanes)) (record { lane = came.lane; serial = came.serial; addressed = came.first; link = omega arith; linked = refl; body = omega (arith, lanes, same) })

  foreign_row : c < b.settings.lanes → ForeignLeaderRow b c (row_at f.leader c) (w.lanes c).leader
  foreign_row low = subst (λ t. LeaderRowAt b c t (row_at f.leader c) (w.lanes c).leader) foreign (h.leader.rows c low)

  -- the row's request again
  again_acts : (stage : Stage) → ForeignLeaderHolds b c s stage → LeaderActs b f w c (steps.again_at f.leader g stage)
  unfolding steps.again_at
  again_acts leader.Idle holds = out_of_phase 0 (lit< tt)
  again_acts (leader.Waiting number asked) holds = waits_on number
  again_acts (leader.Auditing number write share sigma opened) holds = waits_on number
  again_acts (leader.Settling number write own other) holds = waits_on number
  again_acts (leader.Challenged write kept) holds = says_so kept holds.2
  again_acts (leader.Done want kept) holds = says_so kept holds

  -- where there is room
  abbrev pub Taken : Type 0 → leader.Turn → Type 0
  Taken brings t = (n : ℕ) (command : PlainFrame) → t.answer ≡ leader.Link n command → brings

  room_acts : (t : leader.Turn) → (is_full w ≡ false → steps.if_room f.leader g t ≡ t → LeaderActs b f w c t) → LeaderActs b f w c (steps.if_room f.leader g t)
  room_acts t issued =
      let e = h.leader.next in
      let n = known.sound.numbers in
      let small = issued_few b w known.within in
      let numbers : nat_lt (2 ^ 64 - 65) f.leader.next ≡ false = false_from_ne_true _ (λ t. let l = ltb-true _ _ t in omega (arith, e, n, small, l)) in
      let full = full_is b f w h few in
      let issue : is_full w ≡ false → LeaderActs b f w c t = λ e. issued e (let none = full ∙ e in rw (numbers, none) refl) in
      rw (numbers, full) (at_test (is_full w) refl issue)
    where
      at_test : (u : Bool) → is_full w ≡ u → (is_full w ≡ false → LeaderActs b f w c t)
          → LeaderActs b f w c (cond u (leader.refuses f.leader g (refusal.Again (steps.oldest f.leader))) t)
      at_test true e issue =
          let next = h.leader.next in
          let n = known.sound.numbers in
          let small = issued_few b w known.within in
          again (steps.oldest f.leader) (omega (arith, next, n, small))
      at_test false e issue = issue e

  -- ---- a new request's command

  -- no command of a later request is issued yet
  fresh_serial : c < b.settings.lanes → (row_at f.leader c).serial < s → (y : Command) → IsUnissued w.commands c s y
  fresh_serial low later y k e =
      let there = h.leader.foreign.there k (line_of c s y) e foreign in
      let small = there.1 in
      omega (arith, small, later)

  place_next : (y : Command) → IsUnissued w.commands c s y → (r : Row) → r.serial ≡ s → Within b (issuing w c r y)
      → place b c s y ≡ length w.commands
  place_next y none r serial after =
      let all = after.commands in
      let last = subst (λ n. slice_get b.commands (length w.commands) ≡ Some (line_of c n y)) serial (last_there b w.commands (line_of c r.serial y) all) in
      let mine = known.within.commands in
      place_first b c s (length w.commands) y last (λ k l e.
      none k (ap (λ xs. slice_get xs k) mine ∙ taken_get b.commands (length w.commands) k (line_of c s y) l e))

  -- what the request's frame brought is what the history says
  abbrev pub AskedBrought : Asked → Type 0
  AskedBrought (Registering address key) = (address ≡ b.brought.address c s) × (key ≡ key_at b 0 c s)
  AskedBrought (Writing root part drawn) = (root ≡ root_at b 0 c s) × (part ≡ part_at b c s)
  AskedBrought (Reading n) = n ≡ b.brought.number c s
  AskedBrought (Retiring n) = n ≡ b.brought.number c s

  -- and it has a spelling
  abbrev pub AskedSpelled : Asked → Type 0
  AskedSpelled (Registering address key) = address < 2 ^ 128
  AskedSpelled (Writing root part drawn) = IsPart part × (drawn ≡ steps.draw f.leader)
  AskedSpelled (Reading n) = n < 2 ^ 32
  AskedSpelled (Retiring n) = n < 2 ^ 32

  next_small : f.leader.next < 2 ^ 64
  next_small = let next = h.leader.next in let n = known.sound.numbers in let small = issued_few b w known.within in omega (arith, next, n, small)

  next_first : 1 ≤ f.leader.next
  next_first = let next = h.leader.next in omega (arith, next)

  still_fresh : (y : Command) → (y ≡ Audits → ⊥) → (y ≡ Settles → ⊥) → c < b.settings.lanes → (row_at f.leader c).serial < s
      → IsUnissued (w.commands ++ line_of c s y ∷ []) c s Audits × IsUnissued (w.commands ++ line_of c s y ∷ []) c s Settles
  still_fresh y first second low later = (other Audits first, other Settles second)
    where
      other : (z : Command) → (y ≡ z → ⊥) → IsUnissued (w.commands ++ line_of c s y ∷ []) c s z
      other z n k e = elim (get_more w.commands (line_of c s y) k (line_of c s z) e) [
        | inl before ↦ fresh_serial low later z k before.1
        | inr last ↦ n (ap (λ (x : Line). x.command) last.1)
      ]

  -- the row that is left
  row_is : (r : Row) → c < b.settings.lanes → slice_index_or (slice_set f.leader.rows c r) c idle ≡ r
  row_is r low = let count = h.leader.count in get_or-set_same f.leader.rows c r idle (omega (arith, count, low))

  abbrev IsFree : Type 0
  IsFree = (z : Command) → Awaits z (row_at f.leader c).stage → ⊥

  issue_plain : (y : Command) (asked : Asked) (body : PlainBody) → IsFree → bare_asked asked ≡ y → command_of body ≡ y → (y ≡ Audits → ⊥) → (y ≡ Settles → ⊥) → is_drawn (line_of c s y) ≡ false
      → c < b.settings.lanes → (row_at f.leader c).serial < s → is_full w ≡ false
      → ForeignAsked b c s asked → ForeignOrder b (length w.commands) (line_of c s y) body
      → IsFrame (frame_with c s f.leader.next body)
      → LeaderActs b f w c (steps.issues f.leader g body (leader.Waiting f.leader.next asked))
  issue_plain y asked body free waits named first second undrawn low later room holds order fr =
      Issues (row s (leader.Waiting f.leader.next asked)) y (ap Some named) (row_is (row s (leader.Waiting f.leader.next asked)) low) room (λ after.
      foreign_issues_follow b f w c s f.leader.draws (w.moment + 1) y (row s (leader.Waiting f.leader.next asked)) (frame_with c s f.leader.next body) h foreign low few
      (record { bare = refl; small = came.serial; holds = holds }) refl (omega (arith, later)) (fresh_serial low later y) (still_fresh y first second low later) tt free waits
      (h.leader.draws ∙ sym (undrawn_same w.commands (line_of c s y) undrawn)) h.leader.next refl refl order fr)

  issue_begin : (root : ℕ) (part : List ℕ) → IsFree → IsPart part → c < b.settings.lanes → (row_at f.leader c).serial < s → is_full w ≡ false
      → root ≡ root_at b 0 c s → part ≡ part_at b c s
      → LeaderActs b f w c (steps.issues_drawn f.leader g (frame.LinkBegin (steps.draw f.leader) part) (leader.Waiting f.leader.next (Writing root part (steps.draw f.leader))))
  issue_begin root part free sized low later room root_is part_is =
      let r = row s (leader.Waiting f.leader.next (Writing root part (steps.draw f.leader))) in
      Issues r Begins refl (row_is r low) room (λ after.
      let draw = draw_is b f w h known.within in
      let at = place_next Begins (fresh_serial low later Begins) r refl after in
      foreign_issues_follow b f w c s (f.leader.draws + 1) (w.moment + 1) Begins r (frame_with c s f.leader.next (frame.LinkBegin (steps.draw f.leader) part)) h foreign low few
      (record { bare = refl; small = came.serial; holds = (root_is, part_is, draw ∙ ap (leaders_draw b) (sym at)) }) refl (omega (arith, later)) (fresh_serial low later Begins)
      (still_fresh Begins (λ e. cc e) (λ e. cc e) low later) tt free refl
      (ap (λ m. m + 1) h.leader.draws ∙ sym (drawn_more w.commands (line_of c s Begins) refl)) h.leader.next refl refl (refl, draw, part_is)
      (record { lane = came.lane; serial = came.serial; addressed = came.first; link = next_small; linked = next_first; body = (ap length draw ∙ leaders_draw_length b (length w.commands), sized) }))

  issued_acts : (asked : Asked) → IsFree → AskedSpelled asked → AskedBrought asked → c < b.settings.lanes → (row_at f.leader c).serial < s → is_full w ≡ false
      → LeaderActs b f w c (steps.issued_for f.leader g asked)
  unfolding steps.issued_for
  issued_acts (Registering address key) free sized brought low later room =
      issue_plain Registers (Registering address key) (frame.LinkRegister address) free refl refl (λ e. cc e) (λ e. cc e) refl low later room brought (refl, brought.0)
      (record { lane = came.lane; serial = came.serial; addressed = came.first; link = next_small; linked = next_first; body = sized })
  issued_acts (Writing root part drawn) free sized brought low later room =
      subst (λ d. LeaderActs b f w c (steps.issues_drawn f.leader g (frame.LinkBegin d part) (leader.Waiting f.leader.next (Writing root part d)))) (sym sized.1)
      (issue_begin root part free sized.0 low later room brought.0 brought.1)
  issued_acts (Reading n) free sized brought low later room =
      issue_plain Reads (Reading n) (frame.LinkRead n) free refl refl (λ e. cc e) (λ e. cc e) refl low later room brought (refl, brought)
      (record { lane = came.lane; serial = came.serial; addressed = came.first; link = next_small; linked = next_first; body = sized })
  issued_acts (Retiring n) free sized brought low later room =
      issue_plain Retires (Retiring n) (frame.LinkRetire n) free refl refl (λ e. cc e) (λ e. cc e) refl low later room brought (refl, brought)
      (record { lane = came.lane; serial = came.serial; addressed = came.first; link = next_small; linked = next_first; body = sized })

  is_link : (asked : Asked) → (n : ℕ) × ((command : PlainFrame) × ((steps.issued_for f.leader g asked).answer ≡ leader.Link n command))
  unfolding steps.issued_for
  is_link (Registering address key) = (f.leader.next, (_, refl))
  is_link (Writing root part drawn) = (f.leader.next, (_, refl))
  is_link (Reading n) = (f.leader.next, (_, refl))
  is_link (Retiring n) = (f.leader.next, (_, refl))

  -- a read or retire of a box that is there, by its token
  abbrev pub NamedSmall : Option steps.Named → Type 0
  NamedSmall None = Unit {0}
  NamedSmall (Some n) = n.number < 2 ^ 32

  abbrev issued_turn : Asked → leader.Turn
  issued_turn asked = steps.if_room f.leader g (steps.issued_for f.leader g asked)

  open_acts : (asked : Asked) → IsFree → AskedSpelled asked → c < b.settings.lanes → (row_at f.leader c).serial < s
      → Taken (AskedBrought asked) (issued_turn asked) → LeaderActs b f w c (issued_turn asked)
  open_acts asked free sized low later taken =
      room_acts (steps.issued_for f.leader g asked) (λ room same.
      let link = is_link asked in
      issued_acts asked free sized (taken link.0 link.1.0 (ap (λ (t : leader.Turn). t.answer) same ∙ link.1.1)) low later room)

  named_acts : (asked : Asked) (named : Option steps.Named) → IsFree → AskedSpelled asked → NamedSmall named → c < b.settings.lanes → (row_at f.leader c).serial < s
      → Taken (AskedBrought asked) (steps.if_named f.leader g named (issued_turn asked)) → LeaderActs b f w c (steps.if_named f.leader g named (issued_turn asked))
  unfolding steps.if_named steps.if_token
  named_acts asked None free sized small low later taken = open_acts asked free sized low later taken
  named_acts asked (Some n) free sized small low later taken = by_box (slice_get f.leader.boxes n.number) taken
    where
      by_token : (t : Bool) → Taken (AskedBrought asked) (cond t (issued_turn asked) (leader.refuses f.leader g (refusal.BadToken n.number)))
          → LeaderActs b f w c (cond t (issued_turn asked) (leader.refuses f.leader g (refusal.BadToken n.number)))
      by_token true taken = open_acts asked free sized low later taken
      by_token false taken = bad_token n.number small

      by_box : (found : Option Box) → Taken (AskedBrought asked) (steps.if_token f.leader g n.number n.held found (issued_turn asked))
          → LeaderActs b f w c (steps.if_token f.leader g n.number n.held found (issued_turn asked))
      by_box None taken = no_box n.number small
      by_box (Some box) taken = by_token _ taken

  fresh_acts : (asked : Asked) (named : Option steps.Named) (stage : Stage) → (row_at f.leader c).stage ≡ stage → AskedSpelled asked → NamedSmall named → c < b.settings.lanes → (row_at f.leader c).serial < s
      → Taken (AskedBrought asked) (steps.new_at f.leader g asked named stage) → LeaderActs b f w c (steps.new_at f.leader g asked named stage)
  unfolding steps.new_at
  fresh_acts asked named (leader.Waiting number other) is sized small low later taken = out_of_phase 6 (lit< tt)
  fresh_acts asked named (leader.Auditing number write share sigma opened) is sized small low later taken = out_of_phase 8 (lit< tt)
  fresh_acts asked named (leader.Settling number write own other) is sized small low later taken = out_of_phase 8 (lit< tt)
  fresh_acts asked named leader.Idle is sized small low later taken = named_acts asked named (λ z a. subst (Awaits z) is a) sized small low later taken
  fresh_acts asked named (leader.Challenged write kept) is sized small low later taken = named_acts asked named (λ z a. subst (Awaits z) is a) sized small low later taken
  fresh_acts asked named (leader.Done want kept) is sized small low later taken = named_acts asked named (λ z a. subst (Awaits z) is a) sized small low later taken

  gate_acts : (asked : Asked) (named : Option steps.Named) (less same wanted : Bool) → AskedSpelled asked → NamedSmall named → c < b.settings.lanes
      → (less ≡ false → same ≡ false → (row_at f.leader c).serial < s) → (same ≡ true → s ≡ (row_at f.leader c).serial)
      → Taken (AskedBrought asked) (steps.submission_at f.leader g asked named (cond less (Stale (row_at f.leader c).serial) (cond same (cond wanted Same (Phase (phase_of (row_at f.leader c).stage))) New)))
      → LeaderActs b f w c (steps.submission_at f.leader g asked named (cond less (Stale (row_at f.leader c).serial) (cond same (cond wanted Same (Phase (phase_of (row_at f.leader c).stage))) New)))
  unfolding steps.submission_at
  gate_acts asked named true same wanted sized small low later is taken = stale (row_at f.leader c).serial (foreign_row low).small
  gate_acts asked named false true true sized small low later is taken =
      again_acts (row_at f.leader c).stage (subst (λ n. ForeignLeaderHolds b c n (row_at f.leader c).stage) (sym (is refl)) (foreign_row low).holds)
  gate_acts asked named false true false sized small low later is taken = out_of_phase (phase_of (row_at f.leader c).stage) (phase_small (row_at f.leader c).stage)
  gate_acts asked named false false wanted sized small low later is taken =
      fresh_acts asked named (row_at f.leader c).stage refl sized small low (later refl refl) taken

  pub submission_acts : (asked : Asked) (named : Option steps.Named) → AskedSpelled asked → NamedSmall named
      → Taken (AskedBrought asked) (steps.on_submission f.leader g asked named) → LeaderActs b f w c (steps.on_submission f.leader g asked named)
  unfolding steps.on_submission opening_gate
  submission_acts asked named sized small taken = at_lane (nat_le f.leader.settings.lanes c) refl taken
    where
      r : Row
      r = row_at f.leader c

      at_lane : (t : Bool) → nat_le f.leader.settings.lanes c ≡ t
          → Taken (AskedBrought asked) (cond t (leader.refuses f.leader g (refusal.Lane f.leader.settings.lanes)) (steps.submission_at f.leader g asked named (cond (nat_lt s (row_at f.leader c).serial) (Stale (row_at f.leader c).serial) (cond (nat_eq s (row_at f.leader c).serial) (cond (same_want (want_in asked) (want_of (row_at f.leader c).stage)) Same (Phase (phase_of (row_at f.leader c).stage))) New))))
          → LeaderActs b f w c (cond t (leader.refuses f.leader g (refusal.Lane f.leader.settings.lanes)) (steps.submission_at f.leader g asked named (cond (nat_lt s (row_at f.leader c).serial) (Stale (row_at f.leader c).serial) (cond (nat_eq s (row_at f.leader c).serial) (cond (same_want (want_in asked) (want_of (row_at f.leader c).stage)) Same (Phase (phase_of (row_at f.leader c).stage))) New))))
      at_lane true e taken = no_lane
      at_lane false e taken =
          let l = leb-false _ _ e in
          let lanes = ap (λ x. x.lanes) h.leader.settings in
          gate_acts asked named (nat_lt s (row_at f.leader c).serial) (nat_eq s (row_at f.leader c).serial) (same_want (want_in asked) (want_of (row_at f.leader c).stage)) sized small (omega (arith, l, lanes))
          (λ t u. let l = ltb-false _ _ t in let n = eqb-false _ _ u in omega (arith, l, n)) (λ t. eqb-true s (row_at f.leader c).serial t) taken

  -- ---- the proof of a request

  audit_acts : (held : Write) (share : ProofShare) → IsFree → held ≡ write_at b 0 c s → share ≡ share_at b 0 c s → c < b.settings.lanes
      → (row_at f.leader c).serial ≡ s → IsUnissued w.commands c s Audits × IsUnissued w.commands c s Settles → BegunAt b w.acknowledged c s
      → is_full w ≡ false → LeaderActs b f w c (steps.audits f.leader g held share)
  audit_acts held share free held_is share_is low serial still begun room =
      let a = f.leader in
      let counted = steps.counted a held in
      let opened = opens 0 held counted share (steps.sigma a) in
      let r = row s (leader.Auditing a.next held share (steps.sigma a) opened) in
      Issues r Audits refl (row_is r low) room (λ after.
      let before = begun.before in
      let at = place_next Audits still.0 r refl after in
      let sigma_is : steps.sigma a ≡ sigma_at b c s = sigma_of_draw b c s (steps.draw a) (draw_is b f w h known.within ∙ ap (leaders_draw b) (sym at)) in
      let counts : counted ≡ counted_at b c s = ap (λ (x : Write). take x.count (addresses_of a.boxes)) held_is ∙ counted_is b c s w.acknowledged a.boxes h.leader.boxes (omega (arith, before)) in
      let opened_is_so : opened ≡ opened_at b 0 c s = ap (λ x. opens 0 held counted x (steps.sigma a)) share_is ∙ opened_eq b c s held counted (steps.sigma a) held_is counts sigma_is in
      foreign_issues_follow b f w c s (a.draws + 1) (w.moment + 1) Audits r (frame_with c s a.next (frame.LinkAudit (steps.sigma a) opened)) h foreign low few
      (record { bare = refl; small = came.serial; holds = (held_is, share_is, sigma_is, opened_is_so) }) refl (omega (arith, serial)) still.0
      (settle_later still.1) begun free refl
      (ap (λ m. m + 1) h.leader.draws ∙ sym (drawn_more w.commands (line_of c s Audits) refl)) h.leader.next refl refl (refl, sigma_is, opened_is_so)
      (record {
        lane = came.lane;
        serial = came.serial;
        addressed = came.first;
        link = next_small;
        linked = next_first;
        body = (subst (λ x. x < 2 ^ 128) (sym sigma_is) (sigma_is_small b c s), subst IsOpenings (sym opened_is_so) (opened_is b 0 c s known.sound foreign (lit< tt)));
      }))
    where
      settle_later : IsUnissued w.commands c s Settles → IsUnissued (w.commands ++ line_of c s Audits ∷ []) c s Settles
      settle_later none k e = elim (get_more w.commands (line_of c s Audits) k (line_of c s Settles) e) [
        | inl before ↦ none k before.1
        | inr last ↦ let never : Audits ≡ Settles = ap (λ (x : Line). x.command) last.1 in cc never
      ]

  proof_stage : (share : ProofShare) (stage : Stage) → c < b.settings.lanes → (row_at f.leader c).stage ≡ stage → (row_at f.leader c).serial ≡ s
      → ForeignLeaderHolds b c s stage → Taken (share ≡ share_at b 0 c s) (steps.proof_in f.leader g share stage)
      → LeaderActs b f w c (steps.proof_in f.leader g share stage)
  unfolding steps.proof_in steps.again_at
  proof_stage share leader.Idle low is serial holds taken = out_of_phase 0 (lit< tt)
  proof_stage share (leader.Waiting number asked) low is serial holds taken = out_of_phase 6 (lit< tt)
  proof_stage share (leader.Auditing number held before sigma opened) low is serial holds taken = waits_on number
  proof_stage share (leader.Settling number held own other) low is serial holds taken = waits_on number
  proof_stage share (leader.Done asked kept) low is serial holds taken = says_so kept holds
  proof_stage share (leader.Challenged held kept) low is serial holds taken =
      room_acts (steps.audits f.leader g held share) (λ room same.
      let still = subst (λ n. StillToIssue w.commands c n (leader.Challenged held kept)) serial (subst (StillToIssue w.commands c (row_at f.leader c).serial) is (h.leader.foreign.still c low foreign)) in
      let begun = subst (λ n. WasBegun b w.acknowledged c n (leader.Challenged held kept)) serial (subst (WasBegun b w.acknowledged c (row_at f.leader c).serial) is (h.leader.begun c low foreign)) in
      audit_acts held share (λ z a. subst (Awaits z) is a) holds.0 (taken f.leader.next _ (ap (λ (t : leader.Turn). t.answer) same)) low serial still begun room)

  proof_gate : (share : ProofShare) (same wanted : Bool) → c < b.settings.lanes → (same ≡ true → s ≡ (row_at f.leader c).serial)
      → Taken (share ≡ share_at b 0 c s) (steps.proof_at f.leader g share (cond same (cond wanted Same (Phase (phase_of (row_at f.leader c).stage))) (Stale (row_at f.leader c).serial)))
      → LeaderActs b f w c (steps.proof_at f.leader g share (cond same (cond wanted Same (Phase (phase_of (row_at f.leader c).stage))) (Stale (row_at f.leader c).serial)))
  unfolding steps.proof_at
  proof_gate share false wanted low is taken = stale (row_at f.leader c).serial (foreign_row low).small
  proof_gate share true false low is taken = out_of_phase (phase_of (row_at f.leader c).stage) (phase_small (row_at f.leader c).stage)
  proof_gate share true true low is taken =
      proof_stage share (row_at f.leader c).stage low refl (sym (is refl))
      (subst (λ n. ForeignLeaderHolds b c n (row_at f.leader c).stage) (sym (is refl)) (foreign_row low).holds) taken

  pub proof_acts : (share : ProofShare) → Taken (share ≡ share_at b 0 c s) (steps.on_proof f.leader g share)
      → LeaderActs b f w c (steps.on_proof f.leader g share)
  unfolding steps.on_proof closing_gate
  proof_acts share taken = at_lane (nat_le f.leader.settings.lanes c) refl taken
    where
      at_lane : (t : Bool) → nat_le f.leader.settings.lanes c ≡ t
          → Taken (share ≡ share_at b 0 c s) (cond t (leader.refuses f.leader g (refusal.Lane f.leader.settings.lanes)) (steps.proof_at f.leader g share (cond (nat_eq s (row_at f.leader c).serial) (cond (same_want want.Write (want_of (row_at f.leader c).stage)) Same (Phase (phase_of (row_at f.leader c).stage))) (Stale (row_at f.leader c).serial))))
          → LeaderActs b f w c (cond t (leader.refuses f.leader g (refusal.Lane f.leader.settings.lanes)) (steps.proof_at f.leader g share (cond (nat_eq s (row_at f.leader c).serial) (cond (same_want want.Write (want_of (row_at f.leader c).stage)) Same (Phase (phase_of (row_at f.leader c).stage))) (Stale (row_at f.leader c).serial))))
      at_lane true e taken = no_lane
      at_lane false e taken =
          let l = leb-false _ _ e in
          let lanes = ap (λ x. x.lanes) h.leader.settings in
          proof_gate share (nat_eq s (row_at f.leader c).serial) (same_want want.Write (want_of (row_at f.leader c).stage)) (omega (arith, l, lanes)) (λ t. eqb-true s (row_at f.leader c).serial t) taken

  -- ---- any frame of a client

  refused_bytes : (r : Refusal) → OfNoFrame (frame.Refused r) → IsFrame (record { lane = 0; serial = 0; link = 0; body = frame.Refused r })
      → LeaderActs b f w c (leader.refuses_bytes f.leader r)
  refused_bytes r of fr = Alone refl (posts_follow b f (acted w) (token.Foreign 0 ∷ []) _ (moment_follows b f w _ h)
      (record { frame = record { lane = 0; serial = 0; link = 0; body = frame.Refused r }; why = inr of; lane = refl; spelled = record { at = refl; bytes = refl; is_frame = fr } }, tt))

  pub kind_acts : (body : PlainBody) → IsBody body → Taken (BringsBody b c s body) (steps.by_kind f.leader g body) → LeaderActs b f w c (steps.by_kind f.leader g body)
  unfolding steps.by_kind
  kind_acts (frame.Register address key) is taken = submission_acts (Registering address key) None is.0 tt taken
  kind_acts (frame.Write root part) is taken = by_width (has_width f.leader.settings.width (frame.Write root part)) taken
    where
      by_width : (t : Bool) → Taken ((root ≡ root_at b 0 c s) × (part ≡ part_at b c s)) (cond t (steps.on_submission f.leader g (Writing root part (steps.draw f.leader)) None) (leader.refuses_bytes f.leader (refusal.Malformed 0)))
          → LeaderActs b f w c (cond t (steps.on_submission f.leader g (Writing root part (steps.draw f.leader)) None) (leader.refuses_bytes f.leader (refusal.Malformed 0)))
      by_width true taken = submission_acts (Writing root part (steps.draw f.leader)) None (is.1, refl) tt taken
      by_width false taken = refused_bytes (refusal.Malformed 0) refl (malformed_frame 0 (lit< tt))
  kind_acts (frame.Read n held) is taken = submission_acts (Reading n) (Some (record { number = n; held = held })) is.0 is.0 taken
  kind_acts (frame.Retire n held) is taken = submission_acts (Retiring n) (Some (record { number = n; held = held })) is.0 is.0 taken
  kind_acts (frame.Proof share) is taken = proof_acts share taken
  kind_acts body is taken = refused_bytes (refusal.Malformed 5) refl (malformed_frame 5 (lit< tt))
