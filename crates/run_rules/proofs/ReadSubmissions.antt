-- The submission of a read or retire comes to the leader, in both runs.
use Rattle.std.proofs.Common.{◌≡◌, ◌∙◌, ◌<◌, ◌≤◌, ◌^◌, ◌*◌, ◌+◌, ℕ, suc, cond, nat_eq, true, false, Bool, List, [], ◌∷◌, ◌++◌, length, take, filter, Ok, Option, Some, slice_get, refl, sym, ap, subst, arith, length-take}
use Rattle.std.proofs.lemmas.Bool.{eq-eqb}
use Rattle.express_words.specs.declared.refusal.Refusal.TheVariants as refusal
use Rattle.frame_rules.specs.Frames as frame
use Rattle.frame_rules.specs.Frames.{PlainFrame, PlainBody}
use Rattle.frame_rules.specs.Spelling.{IsFrame}
use Rattle.frame_rules.specs.Whole.{whole}
use Rattle.dpf_rules.specs.Expansion as expansion
use Rattle.mailbox_rules.specs.Requests.{Command, Line, opening_of}
use Rattle.mailbox_rules.specs.Tables.{no_writes}
use Rattle.mailbox_rules.specs.Owned.{own_below}
use Rattle.mailbox_rules.proofs.Owners.{own_boxes_stand}
use Rattle.token_rules.specs.Tokens as token
use Rattle.token_rules.specs.Tokens.{World, Lane, Oracle}
use Rattle.token_rules.specs.Run.{line_of}
use Rattle.token_rules.specs.Stages.{Stage, Asked, Noted, Heard, Fits, far}
use Rattle.token_rules.specs.Invariant.{Coherent, Claims, state}
use Rattle.token_rules.proofs.Stages.{rank_small}
use Rattle.token_rules.proofs.Cases.{comes_by, comes_is, issues_for}
use Rattle.token_rules.proofs.Lists.{same_at}
use Rattle.step_rules.specs.Boxes.{Box}
use Rattle.step_rules.specs.Leader as leader
use Rattle.step_rules.specs.Leader.{Leader, Turn, Waiting, row, row_at, want_in}
use Rattle.step_rules.specs.LeaderClients as steps
use Rattle.run_rules.specs.Letters.{ToLeader, FrameWorld}
use Rattle.run_rules.specs.Run as frames
use Rattle.run_rules.specs.Book.{Book, all_boxes, box_of, drawn_in, is_drawn, owned_box, request_of, table_at, wants}
use Rattle.run_rules.specs.Values.{box_at, key_at}
use Rattle.run_rules.specs.Frames.{command_body, frame_of, frame_with, submission_at}
use Rattle.run_rules.specs.Follows.{Spelled, Follows, Sound, Within, opening_in}
use Rattle.run_rules.specs.Known.{Known}
use Rattle.run_rules.specs.Laws.{ComesFollows}
use Rattle.run_rules.proofs.Basics.{whole_spelled}
use Rattle.run_rules.proofs.Contents.{from_client_is}
use Rattle.run_rules.proofs.HelperRuns.{Came}
use Rattle.run_rules.proofs.HelperCommands.{lines_length}
use Rattle.run_rules.proofs.LeaderClients.{issues_follow, named_follows, not_busy}
use Rattle.run_rules.proofs.ReadBoxes.{own_keys, share_box, table_in}
use Rattle.run_rules.proofs.ReadBasics.{Holds, asked_for, asks, command_for, current_box, frame_for, link_for, submits, token0}

-- ---- the leader's turn

named : ℕ → ℕ → Option steps.Named
named n held = Some (record { number = n; held = held })

read_turn : (stays : Bool) (f : FrameWorld) (c s n held : ℕ) (bytes : List ℕ)
    → whole bytes ≡ Ok (frame_with c s 0 (frame_for stays n held))
    → frames.comes f ToLeader bytes ≡ frames.to_leader f (steps.on_submission f.leader (frame_with c s 0 (frame_for stays n held)) (asked_for stays n) (named n held))
unfolding frames.comes steps.on_whole steps.by_kind named
read_turn true f c s n held bytes e = rw e refl
read_turn false f c s n held bytes e = rw e refl

-- ---- the command that is issued

ordered_is : (b : Book) (stays : Bool) (c s m n : ℕ) → box_of b c s ≡ n
    → frame_of b (token.Ordered m (line_of c s (command_for stays))) ≡ Some (frame_with c s m (link_for stays n))
unfolding frame_of command_body
ordered_is b true c s m n e = ap (λ n. Some (frame_with c s m (frame.LinkRead n))) e
ordered_is b false c s m n e = ap (λ n. Some (frame_with c s m (frame.LinkRetire n))) e

drawn_same : (stays : Bool) (xs : List Line) (c s : ℕ) → drawn_in (xs ++ line_of c s (command_for stays) ∷ []) ≡ drawn_in xs
drawn_same true [] c s = refl
drawn_same false [] c s = refl
drawn_same stays (x ∷ xs) c s = by_first (is_drawn x) (drawn_same stays xs c s)
  where
    by_first : (t : Bool) → drawn_in (xs ++ line_of c s (command_for stays) ∷ []) ≡ drawn_in xs
        → length (cond t (x ∷ filter (λ x. is_drawn x) (xs ++ line_of c s (command_for stays) ∷ [])) (filter (λ x. is_drawn x) (xs ++ line_of c s (command_for stays) ∷ []))) ≡ length (cond t (x ∷ filter (λ x. is_drawn x) xs) (filter (λ x. is_drawn x) xs))
    by_first true e = ap suc e
    by_first false e = e

read_issued : (b : Book) (stays : Bool) (f : FrameWorld) (w : World) (c s own n held : ℕ) → Sound b → Within b w
    → w.acknowledged ≤ length w.commands → Follows b f w → b.foreign c ≡ false → Came b c s → n < 2 ^ 32
    → submission_at b c s ≡ Some (frame_for stays n held) → box_of b c s ≡ n → request_of b c s ≡ Some (asks stays own)
    → Follows b (frames.to_leader f (steps.issued_for f.leader (frame_with c s 0 (frame_for stays n held)) (asked_for stays n))) (issues_for w c s token.Waiting (command_for stays))
unfolding steps.issued_for
read_issued b true f w c s own n held sound within few h hon k small e is q =
    let a = f.leader in
    let next = h.leader.next in
    let limit = sound.numbers in
    let t = ap length within.commands ∙ length-take (length w.commands) b.commands in
    issues_follow b f w c s a.draws token.Waiting (command_for true) (row s (Waiting a.next (asked_for true n))) (frame_with c s a.next (link_for true n)) h hon k.there few
    (record { bare = refl; small = k.serial; want = λ pos. sym (ap wants q); holds = (held, e) })
    (h.leader.draws ∙ sym (drawn_same true w.commands c s))
    (ordered_is b true c s (length w.commands + 1) n is ∙ ap (λ m. Some (frame_with c s m (link_for true n))) (sym next))
    (record { lane = k.lane; serial = k.serial; addressed = k.first; link = omega (arith, next, limit, t); linked = omega (arith, next); body = small })
    tt
read_issued b false f w c s own n held sound within few h hon k small e is q =
    let a = f.leader in
    let next = h.leader.next in
    let limit = sound.numbers in
    let t = ap length within.commands ∙ length-take (length w.commands) b.commands in
    issues_follow b f w c s a.draws token.Waiting (command_for false) (row s (Waiting a.next (asked_for false n))) (frame_with c s a.next (link_for false n)) h hon k.there few
    (record { bare = refl; small = k.serial; want = λ pos. sym (ap wants q); holds = (held, e) })
    (h.leader.draws ∙ sym (drawn_same false w.commands c s))
    (ordered_is b false c s (length w.commands + 1) n is ∙ ap (λ m. Some (frame_with c s m (link_for false n))) (sym next))
    (record { lane = k.lane; serial = k.serial; addressed = k.first; link = omega (arith, next, limit, t); linked = omega (arith, next); body = small })
    tt

-- ---- a new submission is of the client's current request

pub record IsNew (lane : Lane) (s : ℕ) : Type 0 where
  pub serial : lane.serial ≡ s
  pub step : 0 < lane.step

new_at : (lane : Lane) (x : Stage) (s : ℕ) → Fits lane x → 32 * s + 3 ≤ far lane x → lane.leader.serial < s → IsNew lane s
new_at lane Asked s f l new = let e = f.leader_serial in absurd (omega (arith, e, l, new))
new_at lane Noted s f l new = let e = f.leader_serial in absurd (omega (arith, e, l, new))
new_at lane Heard s f l new =
    let e = f.leader_serial in
    let step = f.step in
    let first = f.numbered in
    record { serial = omega (arith, e, l, new, first); step = omega (arith, step) }
new_at lane x s f l new = let e = f.leader_serial in let r = rank_small x in absurd (omega (arith, e, l, new, r))

is_new : (w : World) (p : ℕ → Stage) (c s : ℕ) (y : Command) → Coherent w p
    → Claims (state w p) (token.Submission c s y) → (w.lanes c).leader.serial < s → IsNew (w.lanes c) s
is_new w p c s y ok claim new = new_at (w.lanes c) (p c) s (ok.fits c claim.0) claim.1.0 new

-- ---- its box is there, with its token

token_fits : (a : Leader) (f : PlainFrame) (n held : ℕ) (box : Box) (turn : Turn) → slice_get a.boxes n ≡ Some box
    → held ≡ expansion.token box.key f.lane f.serial → steps.if_named a f (named n held) turn ≡ turn
unfolding steps.if_named steps.if_token named
token_fits a f n held box turn e t =
    let same : nat_eq held (expansion.token box.key f.lane f.serial) ≡ true = eq-eqb _ _ t in
    ap (λ found. steps.if_token a f n held found turn) e ∙ ap (λ x. cond x turn (leader.refuses a f (refusal.BadToken n))) same

journal_few : (w : World) (p : ℕ → Stage) → Coherent w p → w.acknowledged ≤ length w.journal
journal_few w p ok =
    let lines = sym (lines_length w.journal) ∙ ap length ok.journal ∙ length-take w.carried w.commands in
    let k = ok.carried in
    let m = ok.acknowledged in
    omega (arith, lines, k, m)

names_box : (b : Book) (stays : Bool) (f : FrameWorld) (v w : World) (c s own n : ℕ) (y : Command) (body : PlainBody) (turn : Turn) (known : Known b v w)
    → Follows b f w → b.foreign c ≡ false → Claims (state w known.lawful.stages) (token.Submission c s y)
    → request_of b c s ≡ Some (asks stays own) → Holds b c s own n → (w.lanes c).leader.serial < s
    → steps.if_named f.leader (frame_with c s 0 body) (named n (token0 b c s n)) turn ≡ turn
names_box b stays f v w c s own n y body turn known h hon claim q k l =
    let p = known.lawful.stages in
    let ok = known.lawful.coherent in
    let i = w.acknowledged in
    let new = is_new w p c s y ok claim l in
    let now = current_box b v w stays c s own known claim.0 new.step new.serial q in
    let same : now.number ≡ n = same_at (own_below c s 0 (all_boxes b)) own now.number n now.holds.at k.at in
    let knows = known.lawful.leader c claim.0 (not_busy w p c s y ok claim l) in
    let table = table_in b v w i known (journal_few w p ok) in
    let got : slice_get ((table_at b i).got c) own ≡ Some n = ap (λ t. slice_get (t.got c) own) (sym table) ∙ ap (λ l. slice_get l own) knows ∙ now.got ∙ ap Some same in
    let stand = own_boxes_stand b.settings.boxes b.settings.width no_writes (take i b.entries) c own n got in
    let share = share_box b 0 i n stand.box stand.is in
    let keys = own_keys b c i n stand.box hon stand.is stand.owner in
    let key : (owned_box b c n).key0 ≡ key_at b 0 share.box.lane share.box.serial = keys.zero ∙ sym (ap (λ m. key_at b 0 m.lane m.serial) share.bare_is) in
    token_fits f.leader (frame_with c s 0 body) n (token0 b c s n) (box_at b 0 share.box) turn (ap (λ bs. slice_get bs n) h.leader.boxes ∙ share.held) (ap (λ k. expansion.token k c s) key)

-- ---- the submission comes

submission_frame : (stays : Bool) (c s n held : ℕ) → IsFrame (frame_with c s 0 (frame_for stays n held)) → (1 ≤ s) × (n < 2 ^ 32)
submission_frame true c s n held h = (h.addressed, h.body.0)
submission_frame false c s n held h = (h.addressed, h.body.0)

want_is : (b : Book) (stays : Bool) (c s n own : ℕ) → request_of b c s ≡ Some (asks stays own) → want_in (asked_for stays n) ≡ wants (request_of b c s)
want_is b true c s n own q = sym (ap wants q)
want_is b false c s n own q = sym (ap wants q)

opens_with : (stays : Bool) (own : ℕ) → opening_of (asks stays own) ≡ command_for stays
opens_with true own = refl
opens_with false own = refl

pub read_submitted : (b : Book) (stays : Bool) (c s own : ℕ) (y : Command) → request_of b c s ≡ Some (asks stays own)
    → ComesFollows b (token.Submission c s y)
unfolding frame_of comes_by
read_submitted b stays c s own y q o f v w i l known after e h k =
    let p = known.lawful.stages in
    let ok = known.lawful.coherent in
    let claim = ok.pool i (token.Submission c s y) e in
    let hon : b.foreign c ≡ false = ap (λ g. g c) (sym h.foreign) ∙ claim.0 in
    let m = from_client_is c s (submission_at b c s) k.1.frame k.1.is in
    let sub = submits b stays c s own m.body q m.is in
    let n = sub.number in
    let held = token0 b c s n in
    let g = frame_with c s 0 (frame_for stays n held) in
    let spelled = subst (Spelled l ToLeader) (sym m.frame ∙ ap (frame_with c s 0) sub.is) k.1.spelled in
    let fr = submission_frame stays c s n held spelled.is_frame in
    let came : Came b c s = record { there = k.1.lane; lane = spelled.is_frame.lane; serial = spelled.is_frame.serial; first = fr.0 } in
    let few : w.acknowledged ≤ length w.commands = let i = ok.acknowledged in let j = ok.carried in omega (arith, i, j) in
    let issued = read_issued b stays f w c s own n held known.sound known.within few h hon came fr.1 (m.is ∙ ap Some sub.is) sub.holds.named q in
    let opens : y ≡ command_for stays = k.0 ∙ ap opening_in q ∙ opens_with stays own in
    let done = named_follows b f w p c s y (frame_for stays n held) (asked_for stays n) (named n held) known.sound known.within ok claim h hon came (want_is b stays c s n own q)
    (λ turn new. names_box b stays f v w c s own n y (frame_for stays n held) turn known h hon claim q sub.holds new)
    (λ there. subst (λ y. Follows b (frames.to_leader f (steps.issued_for f.leader g (asked_for stays n))) (issues_for w c s token.Waiting y)) (sym opens) issued)
    (subst (Within b) (comes_is o w (token.Submission c s y)) after.within) in
    rw (spelled.at, spelled.bytes, read_turn stays f c s n held _ (whole_spelled g spelled.is_frame), comes_is o w (token.Submission c s y)) done
