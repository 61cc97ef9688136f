-- A client sends the deposit and the submission of a register, in both runs.
use Rattle.std.proofs.Common.{◌≡◌, ◌∙◌, ◌<◌, ◌≤◌, ◌^◌, ◌*◌, ℕ, zero, suc, false, List, length, Some, refl, sym, ap, arith}
use Rattle.std.proofs.lemmas.List.FromFn.{length-map-range_with_len}
use Rattle.frame_rules.specs.declared.frame.DepositBody.TheVariants as deposit
use Rattle.frame_rules.specs.Frames as frame
use Rattle.dpf_rules.specs.Expansion.{owner_key, stream_byte, stream_bytes}
use Rattle.mailbox_rules.specs.Requests.{Begins, Register, Registers}
use Rattle.token_rules.specs.Tokens.{World}
use Rattle.token_rules.specs.Run.{client_sends}
use Rattle.step_rules.specs.ClientAsks.{deposit_of, submission_of}
use Rattle.run_rules.specs.Letters.{FrameWorld, client_seed}
use Rattle.run_rules.specs.Run as frames
use Rattle.run_rules.specs.Book.{Book, request_of}
use Rattle.run_rules.specs.Frames.{deposit_at, submission_at}
use Rattle.run_rules.specs.Follows.{Follows, opening_in}
use Rattle.run_rules.specs.Known.{Known}
use Rattle.run_rules.proofs.Answered.{serials_few}
use Rattle.run_rules.proofs.ClientHears.{client_at}
use Rattle.run_rules.proofs.ReadSends.{few_steps}
use Rattle.run_rules.proofs.Sends.{sends_follow}
use Rattle.run_rules.proofs.Served.{request_now}

key_length : (seed : List ℕ) (serial server : ℕ) → length (owner_key seed serial server) ≡ 32
unfolding stream_bytes
key_length seed serial server = length-map-range_with_len (stream_byte seed serial) (32 * server) 32

deposit_made : (b : Book) (c s address : ℕ) → request_of b c s ≡ Some (Register address)
    → deposit_at b c s ≡ Some (frame.Deposit (deposit.Register (owner_key (client_seed b.seed c) s 1)))
unfolding deposit_at deposit_of
deposit_made b c s address q = rw q refl

submission_made : (b : Book) (c s address : ℕ) → request_of b c s ≡ Some (Register address)
    → submission_at b c s ≡ Some (frame.Register address (owner_key (client_seed b.seed c) s 0))
unfolding submission_at submission_of
submission_made b c s address q = rw q refl

pub register_sends : (b : Book) (f : FrameWorld) (v w : World) (c s address : ℕ) → Known b v w → Follows b f w → b.foreign c ≡ false
    → 0 < (w.lanes c).step → (w.lanes c).serial ≡ s → request_of b c s ≡ Some (Register address)
    → Follows b (frames.client_sends f c) (client_sends w c)
register_sends b f v w c s address known h hon pos same q =
    let honest : w.foreign c ≡ false = ap (λ foreign. foreign c) h.foreign ∙ hon in
    let last = request_now b v w c s (Register address) known honest pos same q in
    let there = (client_at b f w c h hon).there pos in
    let lanes : b.settings.lanes ≤ 256 = known.sound.limits.2.1 in
    let serials = serials_few b v w c known honest in
    let first = known.lawful.numbered c honest pos in
    let opens : (w.lanes c).opening ≡ opening_in (request_of b c s) = last.opening ∙ sym (ap opening_in q) in
    let low = few_steps (w.lanes c) (known.lawful.stages c) (known.lawful.coherent.fits c honest) (λ e. let never : Registers ≡ Begins = sym last.opening ∙ e in cc never) in
    at_step (w.lanes c).step refl pos low opens (omega (arith, there, lanes)) (omega (arith, serials, same)) (omega (arith, first, same))
  where
    at_step : (n : ℕ) → (w.lanes c).step ≡ n → 0 < n → n < 3 → (w.lanes c).opening ≡ opening_in (request_of b c s)
        → c < 2 ^ 16 → s < 2 ^ 32 → 1 ≤ s → Follows b (frames.client_sends f c) (client_sends w c)
    at_step zero e pos low opens lane serial first = absurd (omega (arith, pos))
    at_step (suc zero) e pos low opens lane serial first =
        sends_follow b f w c s (frame.Deposit (deposit.Register (owner_key (client_seed b.seed c) s 1))) h hon same opens
        (record { lane = lane; serial = serial; addressed = first; link = omega arith; linked = refl; body = key_length (client_seed b.seed c) s 1 })
        1 e (deposit_made b c s address q)
    at_step (suc (suc zero)) e pos low opens lane serial first =
        sends_follow b f w c s (frame.Register address (owner_key (client_seed b.seed c) s 0)) h hon same opens
        (record { lane = lane; serial = serial; addressed = first; link = omega arith; linked = refl; body = (known.sound.requests c s (Register address) q, key_length (client_seed b.seed c) s 0) })
        2 e (submission_made b c s address q)
    at_step (suc (suc (suc n))) e pos low opens lane serial first = absurd (omega (arith, low))
