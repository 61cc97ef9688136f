-- A client's frames of a write are sent, in both runs.
use Rattle.std.proofs.Common.{◌≡◌, ℕ, zero, suc, ◌<◌, false, length, Some, refl, sym, ap, ◌∙◌, arith}
use Rattle.std.proofs.lemmas.List.{length-take}
use Rattle.frame_rules.specs.declared.frame.DepositBody.TheVariants as deposit
use Rattle.frame_rules.specs.Frames as frame
use Rattle.frame_rules.specs.Frames.{PlainFrame, PlainBody}
use Rattle.frame_rules.specs.Spelling.{IsFrame}
use Rattle.mailbox_rules.specs.Requests.{Request, opening_of}
use Rattle.token_rules.specs.Tokens.{World}
use Rattle.token_rules.specs.Run.{client_sends, sent_of}
use Rattle.step_rules.specs.ClientAsks.{deposit_of, submission_of, proof_of}
use Rattle.run_rules.specs.Letters.{FrameWorld}
use Rattle.run_rules.specs.Run as frames
use Rattle.run_rules.specs.Book.{Book, request_of}
use Rattle.run_rules.specs.Values.{root_at, part_at, share_at}
use Rattle.run_rules.specs.Frames.{frame_with, deposit_at, submission_at, proof_at}
use Rattle.run_rules.specs.Follows.{opening_in, Follows}
use Rattle.run_rules.specs.Known.{Known}
use Rattle.run_rules.proofs.HelperRuns.{Came}
use Rattle.run_rules.proofs.HelperOrders.{asked_was_sent}
use Rattle.run_rules.proofs.ClientHears.{client_at as client_of}
use Rattle.run_rules.proofs.Sends.{sends_follow, body_at}
use Rattle.run_rules.proofs.WriteLeaderRanges.{WriteIs, root_of, part_of_is, share_of, share_of_is}

-- ---- what is known of a client with a current request

pub record Present (b : Book) (w : World) (c : ℕ) : Type 0 where
  pub request : Request
  pub asked : request_of b c (w.lanes c).serial ≡ Some request
  pub opening : (w.lanes c).opening ≡ opening_of request
  pub came : Came b c (w.lanes c).serial

pub present : (b : Book) (f : FrameWorld) (v w : World) (c : ℕ) → Known b v w → Follows b f w → b.foreign c ≡ false
    → 0 < (w.lanes c).step → Present b w c
present b f v w c k h hon busy =
    let s = (w.lanes c).serial in
    let honest : w.foreign c ≡ false = ap (λ foreign. foreign c) h.foreign ∙ hon in
    let first = k.lawful.numbered c honest busy in
    let last = k.lawful.openings c honest first in
    let there = (client_of b f w c h hon).there busy in
    let lanes = k.sound.limits.2.1 in
    let sent = k.lawful.sent.serials c honest in
    let few = ap length (k.within.sent c) ∙ length-take (length (sent_of w c)) (b.sent c) in
    let room = k.sound.serials c in
    record {
      request = last.request;
      asked = asked_was_sent b w c s last.request (k.within.sent c) last.is;
      opening = last.opening;
      came = record { there = there; lane = omega (arith, there, lanes); serial = omega (arith, sent, few, room); first = omega (arith, first) };
    }

-- ---- a write's frames

abbrev pub write_frame : Book → ℕ → ℕ → ℕ → PlainBody
write_frame b c s zero = frame.Deposit (deposit.Write (root_at b 1 c s))
write_frame b c s (suc zero) = frame.Write (root_at b 0 c s) (part_at b c s)
write_frame b c s (suc (suc zero)) = frame.Proof (share_at b 1 c s)
write_frame b c s (suc (suc (suc n))) = frame.Proof (share_at b 0 c s)

write_bodies : (b : Book) (c s n : ℕ) → WriteIs b c s → body_at b c s (suc n) ≡ Some (write_frame b c s n)
unfolding deposit_at submission_at proof_at deposit_of submission_of proof_of
write_bodies b c s zero h = rw (h.is, h.honest) refl
write_bodies b c s (suc zero) h = rw (h.is, h.honest) refl
write_bodies b c s (suc (suc zero)) h = rw (h.is) (ap (λ x. Some (frame.Proof x)) (sym (share_of b c s h 1)))
write_bodies b c s (suc (suc (suc n))) h = rw (h.is) (ap (λ x. Some (frame.Proof x)) (sym (share_of b c s h 0)))

write_spelled : (b : Book) (c s n : ℕ) → WriteIs b c s → Came b c s → IsFrame (frame_with c s 0 (write_frame b c s n))
write_spelled b c s zero h k =
    record { lane = k.lane; serial = k.serial; addressed = k.first; link = omega arith; linked = refl; body = root_of b c s h 1 }
write_spelled b c s (suc zero) h k =
    record { lane = k.lane; serial = k.serial; addressed = k.first; link = omega arith; linked = refl; body = (root_of b c s h 0, part_of_is b c s h) }
write_spelled b c s (suc (suc zero)) h k =
    record { lane = k.lane; serial = k.serial; addressed = k.first; link = omega arith; linked = refl; body = share_of_is b c s h 1 }
write_spelled b c s (suc (suc (suc n))) h k =
    record { lane = k.lane; serial = k.serial; addressed = k.first; link = omega arith; linked = refl; body = share_of_is b c s h 0 }

-- a client's write sends its frame, at each step
pub write_sends : (b : Book) (f : FrameWorld) (v w : World) (c : ℕ) → Known b v w → Follows b f w
    → 0 < (w.lanes c).step → WriteIs b c (w.lanes c).serial
    → Follows b (frames.client_sends f c) (client_sends w c)
write_sends b f v w c k h busy write = at_step (w.lanes c).step refl busy
  where
    at_step : (n : ℕ) → (w.lanes c).step ≡ n → 0 < n → Follows b (frames.client_sends f c) (client_sends w c)
    at_step zero e pos = absurd (omega (arith, pos))
    at_step (suc n) e pos =
        let s = (w.lanes c).serial in
        let now = present b f v w c k h write.honest busy in
        let opens = now.opening ∙ sym (ap opening_in now.asked) in
        sends_follow b f w c s (write_frame b c s n) h write.honest refl opens (write_spelled b c s n write now.came)
        (suc n) e (write_bodies b c s n write)
