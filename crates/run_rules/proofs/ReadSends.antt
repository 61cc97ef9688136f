-- A client sends the deposit and the submission of a read or retire, in both runs.
use Rattle.std.proofs.Common.{◌≡◌, ◌∙◌, ◌<◌, ◌≤◌, ◌^◌, ℕ, zero, suc, false, Bool, true, length, take, Some, refl, sym, ap, arith}
use Rattle.std.proofs.lemmas.Option.{slice_get_within}
use Rattle.frame_rules.specs.declared.frame.DepositBody.TheVariants as deposit
use Rattle.frame_rules.specs.Frames as frame
use Rattle.frame_rules.specs.Spelling.{IsFrame}
use Rattle.dpf_rules.specs.Expansion.{read_stream}
use Rattle.dpf_rules.proofs.RangeLemmas.{stream_word_lt}
use Rattle.mailbox_rules.specs.Requests.{Begins, Command, Registers, Audits, Settles, Reads, Retires}
use Rattle.mailbox_rules.specs.Tables.{no_writes}
use Rattle.mailbox_rules.proofs.Folds.{boxes_within}
use Rattle.token_rules.specs.Tokens.{World, Lane}
use Rattle.token_rules.specs.Run.{client_sends}
use Rattle.token_rules.specs.Stages.{Stage, Asked, Noted, Heard, Opening, Opened, Invited, Proving, Shown, Trusted, Checking, Checked, Settling, Settled, Served, Rested, Fits, last_step}
use Rattle.run_rules.specs.Letters.{FrameWorld}
use Rattle.run_rules.specs.Run as frames
use Rattle.run_rules.specs.Book.{Book, owned_box, request_of}
use Rattle.run_rules.specs.Frames.{frame_with}
use Rattle.run_rules.specs.Follows.{Follows, opening_in}
use Rattle.run_rules.specs.Known.{Known}
use Rattle.run_rules.proofs.Answered.{serials_few}
use Rattle.run_rules.proofs.ClientHears.{client_at}
use Rattle.run_rules.proofs.ReadBasics.{Holds, asks, command_for, current_box, deposit_made, frame_for, last_request, opens_with, submission_made, token0, token1}
use Rattle.run_rules.proofs.ReadBoxes.{table_now}
use Rattle.run_rules.proofs.Sends.{sends_follow}

-- a request that is no write has two steps
pub few_steps : (lane : Lane) (x : Stage) → Fits lane x → (lane.opening ≡ Begins → ⊥) → lane.step < 3
few_steps lane Asked f never = let d = f.step in omega (arith, d)
few_steps lane Noted f never = let d = f.step in omega (arith, d)
few_steps lane Heard f never = let d = f.step in omega (arith, d)
few_steps lane Opening f never = let d = f.step in omega (arith, d)
few_steps lane Opened f never = let d = f.step in omega (arith, d)
few_steps lane Served f never = at_opening lane.opening refl
  where
    at_opening : (y : Command) → lane.opening ≡ y → lane.step < 3
    at_opening Begins e = absurd (never e)
    at_opening Registers e = let d : lane.step ≡ 2 = f.step ∙ ap last_step e in omega (arith, d)
    at_opening Audits e = let d : lane.step ≡ 2 = f.step ∙ ap last_step e in omega (arith, d)
    at_opening Settles e = let d : lane.step ≡ 2 = f.step ∙ ap last_step e in omega (arith, d)
    at_opening Reads e = let d : lane.step ≡ 2 = f.step ∙ ap last_step e in omega (arith, d)
    at_opening Retires e = let d : lane.step ≡ 2 = f.step ∙ ap last_step e in omega (arith, d)
few_steps lane Rested f never = let d = f.step in omega (arith, d)
few_steps lane Invited f never = absurd (never f.right)
few_steps lane Proving f never = absurd (never f.right)
few_steps lane Shown f never = absurd (never f.right)
few_steps lane Trusted f never = absurd (never f.right)
few_steps lane Checking f never = absurd (never f.right)
few_steps lane Checked f never = absurd (never f.right)
few_steps lane Settling f never = absurd (never f.right)
few_steps lane Settled f never = absurd (never f.right)

no_write : (stays : Bool) → command_for stays ≡ Begins → ⊥
no_write true e = cc e
no_write false e = cc e

submission_frame : (stays : Bool) (c s n held : ℕ) → c < 2 ^ 16 → s < 2 ^ 32 → 1 ≤ s → n < 2 ^ 32 → held < 2 ^ 128
    → IsFrame (frame_with c s 0 (frame_for stays n held))
submission_frame true c s n held lane serial first small word =
    record { lane = lane; serial = serial; addressed = first; link = omega arith; linked = refl; body = (small, word) }
submission_frame false c s n held lane serial first small word =
    record { lane = lane; serial = serial; addressed = first; link = omega arith; linked = refl; body = (small, word) }

pub read_sends : (b : Book) (stays : Bool) (f : FrameWorld) (v w : World) (c s own : ℕ) → Known b v w → Follows b f w → b.foreign c ≡ false
    → 0 < (w.lanes c).step → (w.lanes c).serial ≡ s → request_of b c s ≡ Some (asks stays own)
    → Follows b (frames.client_sends f c) (client_sends w c)
read_sends b stays f v w c s own known h hon pos same q =
    let honest : w.foreign c ≡ false = ap (λ foreign. foreign c) h.foreign ∙ hon in
    let cur = current_box b v w stays c s own known honest pos same q in
    let last = last_request b v w stays c s own known honest pos same q in
    let there = (client_at b f w c h hon).there pos in
    let limits = known.sound.limits in
    let lanes : b.settings.lanes ≤ 256 = limits.2.1 in
    let serials = serials_few b v w c known honest in
    let first = known.lawful.numbered c honest pos in
    let within = slice_get_within w.table.boxes cur.number cur.box cur.is in
    let few : length w.table.boxes ≤ b.settings.boxes = rw (table_now b v w known) (boxes_within b.settings.boxes b.settings.width no_writes (take (length w.journal) b.entries)) in
    let size : b.settings.boxes ≤ 4096 = limits.1.1 in
    let opens : (w.lanes c).opening ≡ opening_in (request_of b c s) = last.opening ∙ sym (opens_with stays own) ∙ sym (ap opening_in q) in
    let low = few_steps (w.lanes c) (known.lawful.stages c) (known.lawful.coherent.fits c honest) (λ e. no_write stays (sym last.opening ∙ e)) in
    at_step (w.lanes c).step refl pos low cur.number cur.holds opens (omega (arith, there, lanes)) (omega (arith, serials, same)) (omega (arith, first, same)) (omega (arith, within, few, size))
  where
    at_step : (n : ℕ) → (w.lanes c).step ≡ n → 0 < n → n < 3 → (number : ℕ) → Holds b c s own number → (w.lanes c).opening ≡ opening_in (request_of b c s)
        → c < 2 ^ 16 → s < 2 ^ 32 → 1 ≤ s → number < 2 ^ 32 → Follows b (frames.client_sends f c) (client_sends w c)
    at_step zero e pos low number k opens lane serial first small = absurd (omega (arith, pos))
    at_step (suc zero) e pos low number k opens lane serial first small =
        sends_follow b f w c s (frame.Deposit (deposit.Read (token1 b c s number))) h hon same opens
        (record { lane = lane; serial = serial; addressed = first; link = omega arith; linked = refl; body = stream_word_lt (owned_box b c number).key1 (read_stream c s) 0 })
        1 e (deposit_made b stays c s own number q k)
    at_step (suc (suc zero)) e pos low number k opens lane serial first small =
        sends_follow b f w c s (frame_for stays number (token0 b c s number)) h hon same opens
        (submission_frame stays c s number (token0 b c s number) lane serial first small (stream_word_lt (owned_box b c number).key0 (read_stream c s) 0))
        2 e (submission_made b stays c s own number q k)
    at_step (suc (suc (suc n))) e pos low number k opens lane serial first small = absurd (omega (arith, low))
