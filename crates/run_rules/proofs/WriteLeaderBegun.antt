-- The reply to a write's begin comes to the leader, in both runs: the write is challenged.
use Rattle.std.proofs.Common.{◌≡◌, ℕ, ◌<◌, ◌≤◌, ◌^◌, ◌+◌, nat_eq, true, false, List, length, map, Some, None, refl, sym, ap, ◌∙◌, subst, arith}
use Rattle.std.proofs.lemmas.Bool.{eq-eqb}
use Rattle.std.proofs.lemmas.List.{length-map}
use Rattle.frame_rules.specs.Frames as frame
use Rattle.frame_rules.specs.Frames.{PlainBody}
use Rattle.frame_rules.specs.Spelling.{IsFrame}
use Rattle.frame_rules.specs.Whole.{has_width}
use Rattle.audit_rules.specs.Values as audit
use Rattle.audit_rules.specs.Values.{ckey_of}
use Rattle.mailbox_rules.specs.Requests.{Begins, BeginWrite, entry}
use Rattle.mailbox_rules.specs.Tables.{result_of, after_line, addresses}
use Rattle.token_rules.specs.Tokens as token
use Rattle.token_rules.specs.Tokens.{World, Oracle}
use Rattle.token_rules.specs.Run.{line_of, reply_applied}
use Rattle.token_rules.proofs.Cases.{acks, acks_is, answers}
use Rattle.step_rules.specs.Leader as leader
use Rattle.step_rules.specs.Leader.{Leader, Row, Asked, Registering, Writing, Reading, Retiring, row_at}
use Rattle.step_rules.specs.LeaderReplies as steps
use Rattle.step_tokens.specs.LeaderRows.{bare_phase}
use Rattle.run_rules.specs.Book.{Book, wants, place, table_at, leaders_draw, helpers_draw}
use Rattle.run_rules.specs.Values.{root_at, part_at, ckey_at, write_at, shares_at, box_at}
use Rattle.run_rules.specs.Frames.{frame_with, frame_of, command_body, reply_with, reply_body, result_at, submission_at}
use Rattle.run_rules.specs.Follows.{LeaderHolds, AskedIs, LeaderRow}
use Rattle.run_rules.specs.Laws.{ComesFollows}
use Rattle.run_rules.proofs.HelperRegisters.{shares_next}
use Rattle.run_rules.proofs.LeaderClients.{row_of}
use Rattle.run_rules.proofs.LeaderReplies.{applied_follows, applied}
use Rattle.run_rules.proofs.WriteLeaderCounts.{place_in, entry_writes, shares_length}
use Rattle.run_rules.proofs.WriteLeaderRanges.{WriteIs, ckey_length}
use Rattle.run_rules.proofs.WriteLeaderReplies.{AppliesSo, replied_follows, journal_line, command_there, held_at}
use Rattle.run_rules.proofs.WriteLeaderSubmits.{write_body}

-- ---- what the helper replied

begun_body : (b : Book) (c s i : ℕ) → WriteIs b c s
    → reply_body b i (line_of c s Begins) ≡ frame.LinkBegun (length (shares_at b 1 i).boxes) (helpers_draw b i)
unfolding result_at result_of reply_with
begun_body b c s i h = rw (h.is) refl

-- ---- the row waits for it

pub record BeginWaits (b : Book) (c s : ℕ) (r : Row) : Type 0 where
  pub serial : r.serial ≡ s
  pub number : ℕ
  pub stage : r.stage ≡ leader.Waiting number (Writing (root_at b 0 c s) (part_at b c s) (leaders_draw b (place b c s Begins)))

begin_waits : (b : Book) (c s : ℕ) (r : Row) (x : token.Row) → WriteIs b c s → LeaderRow b c r x → x.serial ≡ s
    → x.phase ≡ token.Waiting → BeginWaits b c s r
begin_waits b c s r x write h serial phase =
    let same : r.serial ≡ s = ap (λ y. y.serial) h.bare ∙ serial in
    let a = at_stage r.stage (subst (λ n. LeaderHolds b c n r.stage) same h.holds) (ap (λ y. y.phase) h.bare ∙ phase) in
    record { serial = same; number = a.0; stage = a.1 }
  where
    body : submission_at b c s ≡ Some (frame.Write (root_at b 0 c s) (part_at b c s))
    body = write_body b c s write

    at_asked : (asked : Asked) → AskedIs b c s asked → asked ≡ Writing (root_at b 0 c s) (part_at b c s) (leaders_draw b (place b c s Begins))
    at_asked (Writing root part draw) e = let both = sym body ∙ e.0 in let d = e.1 in cc
    at_asked (Registering a k) e = let both = sym body ∙ e in absurd (cc)
    at_asked (Reading n) e = let both = sym body ∙ e.1 in absurd (cc)
    at_asked (Retiring n) e = let both = sym body ∙ e.1 in absurd (cc)

    at_stage : (stage : leader.Stage) → LeaderHolds b c s stage → bare_phase stage ≡ token.Waiting
        → (number : ℕ) × (stage ≡ leader.Waiting number (Writing (root_at b 0 c s) (part_at b c s) (leaders_draw b (place b c s Begins))))
    at_stage (leader.Waiting number asked) k e = (number, ap (leader.Waiting number) (at_asked asked k))
    at_stage leader.Idle k e = absurd (cc e)
    at_stage (leader.Challenged write kept) k e = absurd (cc e)
    at_stage (leader.Auditing number write share sigma opened) k e = absurd (cc e)
    at_stage (leader.Settling number write own other) k e = absurd (cc e)
    at_stage (leader.Done want kept) k e = absurd (cc e)

-- ---- it is applied

pub began_is : (a : Leader) (c s n root count number : ℕ) (part drawn helpers : List ℕ) → count ≡ length a.boxes
    → (row_at a c).stage ≡ leader.Waiting number (Writing root part drawn)
    → steps.if_fits a (steps.fits a (frame_with c s n (frame.LinkBegin drawn part)) (frame.LinkBegun count helpers) None)
    ≡ applied a c (leader.row s (leader.Challenged (steps.begun root part (ckey_of drawn helpers) count) (frame.Challenge (ckey_of drawn helpers)))) a.boxes (frame.Challenge (ckey_of drawn helpers)) s
unfolding steps.fits steps.by_command steps.began
began_is a c s n root count number part drawn helpers e stage =
    let here : nat_eq count (length a.boxes) ≡ true = eq-eqb _ _ e in rw (stage, here) refl

-- the write as both servers hold it from now on
pub written_is : (b : Book) (c s i count : ℕ) → place b c s Begins ≡ i → count ≡ length (addresses (table_at b i).boxes)
    → steps.begun (root_at b 0 c s) (part_at b c s) (ckey_of (leaders_draw b (place b c s Begins)) (helpers_draw b i)) count ≡ write_at b 0 c s
unfolding ckey_at write_at
written_is b c s i count at e =
    ap (λ n. steps.begun (root_at b 0 c s) (part_at b c s) (ckey_of (leaders_draw b (place b c s Begins)) (helpers_draw b n)) count) (sym at)
    ∙ ap (steps.begun (root_at b 0 c s) (part_at b c s) (ckey_of (leaders_draw b (place b c s Begins)) (helpers_draw b (place b c s Begins)))) (e ∙ ap (λ n. length (addresses (table_at b n).boxes)) (sym at))

begin_command : (b : Book) (c s i : ℕ) → place b c s Begins ≡ i
    → command_body b i (line_of c s Begins) Begins ≡ frame.LinkBegin (leaders_draw b (place b c s Begins)) (part_at b c s)
unfolding command_body
begin_command b c s i at = ap (λ n. frame.LinkBegin (leaders_draw b n) (part_at b c s)) (sym at)

challenge_holds : (b : Book) (c s : ℕ) → c < 2 ^ 16 → s < 2 ^ 32 → 1 ≤ s → IsFrame (frame_with c s 0 (frame.Challenge (ckey_at b c s)))
challenge_holds b c s lane serial first =
    record { lane = lane; serial = serial; addressed = first; link = omega arith; linked = refl; body = ckey_length b c s }

answers_is : (o : Oracle) (w : World) (c s : ℕ) → w.foreign c ≡ false
    → reply_applied o w (line_of c s Begins) ≡ answers w c s token.Challenged
unfolding reply_applied acks
answers_is o w c s honest = rw honest (acks_is w c s Begins)

pub begun_applies : (b : Book) (c s : ℕ) → WriteIs b c s → AppliesSo b (line_of c s Begins)
unfolding after_line frame_of write_at
begun_applies b c s write o f v w k h low there carried =
    let a = f.leader in
    let i = w.acknowledged in
    let hon = write.honest in
    let honest : w.foreign c ≡ false = ap (λ foreign. foreign c) h.foreign ∙ hon in
    let held = held_at b v w c s Begins k honest there carried in
    let first = held.first in
    let hr = row_of b f w c h hon low in
    let waits = begin_waits b c s (row_at a c) (w.lanes c).leader write hr (held.fits.leader_serial ∙ held.serial) held.fits.leader_phase in
    let small = hr.small in
    let serial = waits.serial in
    let serial_small : s < 2 ^ 32 = omega (arith, small, serial) in
    let lanes = k.sound.limits.2.1 in
    let lane_small : c < 2 ^ 16 = omega (arith, low, lanes) in
    let at = place_in b v c s i Begins k.whole hon (command_there b w i (line_of c s Begins) k.within there) in
    let count = length (shares_at b 1 i).boxes in
    let count_is : count ≡ length (addresses (table_at b i).boxes) = shares_length b 1 i in
    let mine : count ≡ length a.boxes =
    count_is ∙ sym (shares_length b 0 i) ∙ sym (length-map (shares_at b 0 i).boxes (λ m. box_at b 0 m)) ∙ ap length (sym h.leader.boxes) in
    let drawn = leaders_draw b (place b c s Begins) in
    let ckey = ckey_of drawn (helpers_draw b i) in
    let written = written_is b c s i count at count_is in
    let ckey_is : ckey ≡ ckey_at b c s = ap (λ (x : audit.Write). x.ckey) written in
    let applies = began_is a c s (i + 1) (root_at b 0 c s) count waits.number (part_at b c s) drawn (helpers_draw b i) mine waits.stage in
    let fr = challenge_holds b c s lane_small serial_small first in
    let e = entry_writes b v c s i Begins write.target write.message k.whole hon write.is tt (journal_line b v w (line_of c s Begins) k there carried) in
    rw (begun_body b c s i write, begin_command b c s i at, applies, answers_is o w c s honest)
    (applied_follows b f w c s token.Challenged (token.Challenge c s) _ a.boxes (frame.Challenge ckey) h hon low refl
    (record { bare = refl; small = serial_small; want = λ pos. sym (ap wants write.is); holds = (written, ap frame.Challenge ckey_is, subst (λ x. IsFrame (frame_with c s 0 (frame.Challenge x))) (sym ckey_is) fr) })
    tt
    (record { entry = entry (line_of c s Begins) BeginWrite; is = e; lane = refl })
    (h.leader.boxes ∙ ap (λ u. map (λ m. box_at b 0 m) u.boxes) (sym (shares_next b 0 i (entry (line_of c s Begins) BeginWrite) e)))
    (record { lane = low; frame = frame_with c s 0 (frame.Challenge ckey); is = ap (λ x. Some (frame_with c s 0 (frame.Challenge x))) (sym ckey_is); spelled = record { at = refl; bytes = refl; is_frame = subst (λ x. IsFrame (frame_with c s 0 (frame.Challenge x))) (sym ckey_is) fr } }))

pub begun_replied : (b : Book) (c s n : ℕ) → WriteIs b c s → ComesFollows b (token.Replied n (line_of c s Begins))
begun_replied b c s n write =
    replied_follows b n (line_of c s Begins) write.honest (λ i. ap (has_width b.settings.width) (begun_body b c s i write)) (begun_applies b c s write)
