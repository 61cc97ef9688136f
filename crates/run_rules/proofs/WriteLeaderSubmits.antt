-- The submission of a write comes to the leader, in both runs.
use Rattle.std.proofs.Common.{◌≡◌, ℕ, suc, ◌≤◌, ◌+◌, ◌-◌, cond, nat_eq, true, false, Bool, List, [], ◌∷◌, ◌++◌, length, take, filter, Ok, Some, None, slice_get, refl, sym, ap, ◌∙◌, subst, arith}
use Rattle.std.proofs.lemmas.Bool.{eq-eqb}
use Rattle.std.proofs.lemmas.List.{length-take}
use Rattle.frame_rules.specs.Frames as frame
use Rattle.frame_rules.specs.Frames.{PlainFrame}
use Rattle.express_words.specs.Limits.{levels_len}
use Rattle.frame_rules.specs.Whole.{whole}
use Rattle.dpf_rules.specs.Expansion as expansion
use Rattle.mailbox_rules.specs.Requests.{Command, Begins, Line}
use Rattle.token_rules.specs.Tokens as token
use Rattle.token_rules.specs.Tokens.{World}
use Rattle.token_rules.specs.Run.{line_of}
use Rattle.token_rules.proofs.Cases.{issues_for, comes_is, comes_by}
use Rattle.token_rules.proofs.Lists.{get_end, get_taken}
use Rattle.step_rules.specs.ClientAsks.{submission_of}
use Rattle.step_rules.specs.Leader.{Writing, Waiting, row}
use Rattle.step_rules.specs.LeaderClients as steps
use Rattle.run_rules.specs.Letters.{ToLeader, FrameWorld, leader_seed}
use Rattle.run_rules.specs.Run as frames
use Rattle.run_rules.specs.Book.{Book, wants, place, is_drawn, drawn_in, leaders_draw}
use Rattle.run_rules.specs.Values.{root_at, part_at}
use Rattle.run_rules.specs.Frames.{frame_with, frame_of, submission_at, command_body}
use Rattle.run_rules.specs.Follows.{Spelled, Within, Sound, Follows, opening_in}
use Rattle.run_rules.specs.Known.{IsWhole}
use Rattle.run_rules.specs.Laws.{ComesFollows}
use Rattle.run_rules.proofs.Basics.{whole_spelled}
use Rattle.run_rules.proofs.Contents.{from_client_is}
use Rattle.run_rules.proofs.HelperRuns.{Came}
use Rattle.run_rules.proofs.LeaderClients.{issues_follow, submission_follows}
use Rattle.run_rules.proofs.WriteLeaderCounts.{place_in}
use Rattle.run_rules.proofs.WriteLeaderRanges.{WriteIs, part_of_is, part_of_length, leaders_draw_length}

-- ---- the leader's draws

-- a command that takes a draw
pub drawn_more : (xs : List Line) (x : Line) → is_drawn x ≡ true → drawn_in (xs ++ x ∷ []) ≡ drawn_in xs + 1
drawn_more [] x e = rw e refl
drawn_more (y ∷ xs) x e = by_first (is_drawn y) (drawn_more xs x e)
  where
    by_first : (t : Bool) → drawn_in (xs ++ x ∷ []) ≡ drawn_in xs + 1
        → length (cond t (y ∷ filter (λ z. is_drawn z) (xs ++ x ∷ [])) (filter (λ z. is_drawn z) (xs ++ x ∷ [])))
        ≡ length (cond t (y ∷ filter (λ z. is_drawn z) xs) (filter (λ z. is_drawn z) xs)) + 1
    by_first true h = omega (arith, h)
    by_first false h = h

-- one that takes none
pub undrawn_same : (xs : List Line) (x : Line) → is_drawn x ≡ false → drawn_in (xs ++ x ∷ []) ≡ drawn_in xs
undrawn_same [] x e = rw e refl
undrawn_same (y ∷ xs) x e = by_first (is_drawn y) (undrawn_same xs x e)
  where
    by_first : (t : Bool) → drawn_in (xs ++ x ∷ []) ≡ drawn_in xs
        → length (cond t (y ∷ filter (λ z. is_drawn z) (xs ++ x ∷ [])) (filter (λ z. is_drawn z) (xs ++ x ∷ [])))
        ≡ length (cond t (y ∷ filter (λ z. is_drawn z) xs) (filter (λ z. is_drawn z) xs))
    by_first true h = ap suc h
    by_first false h = h

-- the leader's next draw is the history's for the next command
pub draw_is : (b : Book) (f : FrameWorld) (w : World) → Follows b f w → Within b w
    → steps.draw f.leader ≡ leaders_draw b (length w.commands)
draw_is b f w h within =
    ap (λ seed. expansion.draw32 seed f.leader.draws) h.leader.seed
    ∙ ap (expansion.draw32 (leader_seed b.seed)) (h.leader.draws ∙ ap drawn_in within.commands)

-- the command that is issued next stands at its place
pub last_there : (b : Book) (commands : List Line) (x : Line) → commands ++ x ∷ [] ≡ take (length (commands ++ x ∷ [])) b.commands
    → slice_get b.commands (length commands) ≡ Some x
last_there b commands x all =
    (get_taken b.commands _ (length commands) x (ap (λ xs. slice_get xs (length commands)) (sym all) ∙ get_end commands x)).1

pub issued_there : (b : Book) (w : World) (c s : ℕ) (x : token.Phase) (y : Command) → Within b (issues_for w c s x y)
    → slice_get b.commands (length w.commands) ≡ Some (line_of c s y)
issued_there b w c s x y after = last_there b w.commands (line_of c s y) after.commands

pub issued_place : (b : Book) (v w : World) (c s : ℕ) (x : token.Phase) (y : Command) → IsWhole b v
    → b.foreign c ≡ false → Within b (issues_for w c s x y) → place b c s y ≡ length w.commands
issued_place b v w c s x y whole hon after = place_in b v c s (length w.commands) y whole hon (issued_there b w c s x y after)

-- so are no more commands issued than the history has
pub issued_few : (b : Book) (w : World) → Within b w → length w.commands ≤ length b.commands
issued_few b w within =
    let t = ap length within.commands ∙ length-take (length w.commands) b.commands in omega (arith, t)

-- ---- the submission of a write

pub write_body : (b : Book) (c s : ℕ) (h : WriteIs b c s)
    → submission_at b c s ≡ Some (frame.Write (root_at b 0 c s) (part_at b c s))
unfolding submission_at submission_of
write_body b c s h = rw (h.is, h.honest) refl

begin_is : (b : Book) (c s n : ℕ)
    → frame_of b (token.Ordered (n + 1) (line_of c s Begins)) ≡ Some (frame_with c s (n + 1) (frame.LinkBegin (leaders_draw b n) (part_at b c s)))
unfolding frame_of command_body
begin_is b c s n =
    let e : n + 1 - 1 ≡ n = omega arith in
    ap (λ i. Some (frame_with c s (n + 1) (frame.LinkBegin (leaders_draw b i) (part_at b c s)))) e

write_turn : (b : Book) (f : FrameWorld) (c s : ℕ) (bytes : List ℕ) → WriteIs b c s
    → f.leader.settings ≡ b.settings
    → whole bytes ≡ Ok (frame_with c s 0 (frame.Write (root_at b 0 c s) (part_at b c s)))
    → frames.comes f ToLeader bytes
    ≡ frames.to_leader f (steps.on_submission f.leader (frame_with c s 0 (frame.Write (root_at b 0 c s) (part_at b c s))) (Writing (root_at b 0 c s) (part_at b c s) (steps.draw f.leader)) None)
unfolding frames.comes steps.on_whole steps.by_kind
write_turn b f c s bytes h settings e =
    let width : f.leader.settings.width ≡ b.settings.width = ap (λ x. x.width) settings in
    let size : nat_eq (length (part_at b c s)) (levels_len + f.leader.settings.width) ≡ true =
    eq-eqb _ _ (part_of_length b c s h ∙ ap (λ n. 2064 + n) (sym width)) in
    rw (e, size) refl

module _ (b : Book) (f : FrameWorld) (v w : World) (c s : ℕ)
    (sound : Sound b) (whole : IsWhole b v) (within : Within b w) (few : w.acknowledged ≤ length w.commands) (h : Follows b f w) (came : Came b c s) (write : WriteIs b c s) where
  abbrev g : PlainFrame
  g = frame_with c s 0 (frame.Write (root_at b 0 c s) (part_at b c s))

  write_issued : Within b (issues_for w c s token.Waiting Begins)
      → Follows b (frames.to_leader f (steps.issued_for f.leader g (Writing (root_at b 0 c s) (part_at b c s) (steps.draw f.leader)))) (issues_for w c s token.Waiting Begins)
  unfolding steps.issued_for
  write_issued after =
      let a = f.leader in
      let next = h.leader.next in
      let n = sound.numbers in
      let small = issued_few b w within in
      let draw = draw_is b f w h within in
      let at = issued_place b v w c s token.Waiting Begins whole write.honest after in
      let drawn : steps.draw a ≡ leaders_draw b (place b c s Begins) = draw ∙ ap (leaders_draw b) (sym at) in
      let size = leaders_draw_length b (length w.commands) in
      let command = frame_with c s a.next (frame.LinkBegin (steps.draw a) (part_at b c s)) in
      issues_follow b f w c s (a.draws + 1) token.Waiting Begins (row s (Waiting a.next (Writing (root_at b 0 c s) (part_at b c s) (steps.draw a)))) command h write.honest came.there few
      (record { bare = refl; small = came.serial; want = λ pos. sym (ap wants write.is); holds = (write_body b c s write, drawn) })
      (ap (λ m. m + 1) h.leader.draws ∙ sym (drawn_more w.commands (line_of c s Begins) refl))
      (begin_is b c s (length w.commands) ∙ ap (λ m. Some (frame_with c s m (frame.LinkBegin (leaders_draw b (length w.commands)) (part_at b c s)))) (sym next)
      ∙ ap (λ d. Some (frame_with c s a.next (frame.LinkBegin d (part_at b c s)))) (sym draw))
      (record { lane = came.lane; serial = came.serial; addressed = came.first; link = omega (arith, next, n, small); linked = omega (arith, next); body = (ap length draw ∙ size, part_of_is b c s write) })
      tt

-- it comes
pub write_submitted : (b : Book) (c s : ℕ) (y : Command) → WriteIs b c s → ComesFollows b (token.Submission c s y)
unfolding frame_of comes_by
write_submitted b c s y write o f v w i l k after e h carries =
    let ok = k.lawful.coherent in
    let claim = ok.pool i (token.Submission c s y) e in
    let few : w.acknowledged ≤ length w.commands = let i = ok.acknowledged in let j = ok.carried in omega (arith, i, j) in
    let m = from_client_is c s (submission_at b c s) carries.1.frame carries.1.is in
    let body : m.body ≡ frame.Write (root_at b 0 c s) (part_at b c s) = same_some _ _ (sym m.is ∙ write_body b c s write) in
    let is : carries.1.frame ≡ frame_with c s 0 (frame.Write (root_at b 0 c s) (part_at b c s)) = sym m.frame ∙ ap (frame_with c s 0) body in
    let spelled = subst (Spelled l ToLeader) is carries.1.spelled in
    let opens : y ≡ Begins = carries.0 ∙ ap opening_in write.is in
    let there = carries.1.lane in
    let frame_is = spelled.is_frame in
    let came : Came b c s = record { there = there; lane = frame_is.lane; serial = frame_is.serial; first = frame_is.addressed } in
    let g = frame_with c s 0 (frame.Write (root_at b 0 c s) (part_at b c s)) in
    let asked = Writing (root_at b 0 c s) (part_at b c s) (steps.draw f.leader) in
    rw (spelled.at, spelled.bytes, write_turn b f c s _ write h.leader.settings (whole_spelled g frame_is), comes_is o w (token.Submission c s y))
    (submission_follows b f w k.lawful.stages c s y (frame.Write (root_at b 0 c s) (part_at b c s)) asked k.sound k.within ok claim h write.honest came (sym (ap wants write.is))
    (subst (λ y. Within b (issues_for w c s token.Waiting y) → Follows b (frames.to_leader f (steps.issued_for f.leader g asked)) (issues_for w c s token.Waiting y)) (sym opens)
    (write_issued b f v w c s k.sound k.whole k.within few h came write))
    (subst (Within b) (comes_is o w (token.Submission c s y)) after.within))
  where
    same_some : (x z : frame.PlainBody) → Some x ≡ Some z → x ≡ z
    same_some x z e = cc
