-- The tokens of clients' lanes that every request has, and those of a register, in one shape.
use Rattle.std.proofs.Common.{◌≡◌, ◌∙◌, ◌<◌, ◌≤◌, ℕ, false, Some, slice_get, sym, ap, subst, arith}
use Rattle.frame_rules.specs.Frames as frame
use Rattle.frame_rules.specs.Frames.{PlainFrame}
use Rattle.frame_rules.specs.Spelling.{IsFrame}
use Rattle.mailbox_rules.specs.Requests.{Command, Register, Request, request_at}
use Rattle.token_rules.specs.Tokens as token
use Rattle.token_rules.specs.Tokens.{World}
use Rattle.token_rules.specs.Run.{sent_of}
use Rattle.run_rules.specs.Letters.{FrameWorld}
use Rattle.run_rules.specs.Book.{Book, request_of}
use Rattle.run_rules.specs.Values.{ckey_at}
use Rattle.run_rules.specs.Frames.{frame_of, frame_with}
use Rattle.run_rules.specs.Follows.{Follows, opening_in}
use Rattle.run_rules.specs.Known.{Known}
use Rattle.run_rules.specs.Laws.{ComesFollows}
use Rattle.run_rules.proofs.HelperRuns.{deposit_comes, proof_comes}
use Rattle.run_rules.proofs.ClientHears.{held_deposit_comes, held_proof_comes}
use Rattle.run_rules.proofs.ClientStays.{challenge_comes, foreign_comes, later_comes}
use Rattle.run_rules.proofs.HelperOrders.{asked_was_sent, register_ordered}
use Rattle.run_rules.proofs.HelperRegisters.{line}
use Rattle.run_rules.proofs.LeaderClients.{submission_comes_register}
use Rattle.run_rules.proofs.LeaderRegistered.{register_replied}
use Rattle.run_rules.proofs.RegisterEnds.{did_register}

pub history_lane : (b : Book) (f : FrameWorld) (w : World) (c : ℕ) → Follows b f w → w.foreign c ≡ false → b.foreign c ≡ false
history_lane b f w c h hon = ap (λ g. g c) (sym h.foreign) ∙ hon

-- ---- any request

pub deposit_arrives : (b : Book) (c s : ℕ) → ComesFollows b (token.Deposit c s)
deposit_arrives b c s o f v w i l known after e h k =
    deposit_comes b o f w c s l h (history_lane b f w c h (known.lawful.coherent.pool i (token.Deposit c s) e).0) k

pub proof_arrives : (b : Book) (c s : ℕ) → ComesFollows b (token.ProofToHelper c s)
proof_arrives b c s o f v w i l known after e h k =
    let claim = known.lawful.coherent.pool i (token.ProofToHelper c s) e in
    proof_comes b o f w known.lawful.stages c s l known.lawful.coherent claim h (history_lane b f w c h claim.0) k

pub held_deposit_arrives : (b : Book) (c s : ℕ) → ComesFollows b (token.HeldDeposit c s)
held_deposit_arrives b c s o f v w i l known after e h k =
    held_deposit_comes b o f w c s l h (history_lane b f w c h (known.lawful.coherent.pool i (token.HeldDeposit c s) e).0) k

pub held_proof_arrives : (b : Book) (c s : ℕ) → ComesFollows b (token.HeldProof c s)
held_proof_arrives b c s o f v w i l known after e h k =
    held_proof_comes b o f w c s l h (history_lane b f w c h (known.lawful.coherent.pool i (token.HeldProof c s) e).0) k

challenge_first : (b : Book) (c s : ℕ) (g : PlainFrame) → frame_of b (token.Challenge c s) ≡ Some g → IsFrame g → 1 ≤ s
unfolding frame_of
challenge_first b c s g e fr =
    let same : g ≡ frame_with c s 0 (frame.Challenge (ckey_at b c s)) = cc e in
    let h : IsFrame (frame_with c s 0 (frame.Challenge (ckey_at b c s))) = subst IsFrame same fr in
    h.addressed

pub challenge_arrives : (b : Book) (c s : ℕ) → ComesFollows b (token.Challenge c s)
challenge_arrives b c s o f v w i l known after e h k =
    let claim = known.lawful.coherent.pool i (token.Challenge c s) e in
    challenge_comes b o f w known.lawful.stages c s l claim (λ same. opens claim.0 (first_serial same)) h (history_lane b f w c h claim.0) k
  where
    first_serial : s ≡ (w.lanes c).serial → 0 < (w.lanes c).serial
    first_serial same = let first = challenge_first b c s k.frame k.is k.spelled.is_frame in omega (arith, same, first)

    opens : w.foreign c ≡ false → 0 < (w.lanes c).serial → (w.lanes c).opening ≡ opening_in (request_of b c (w.lanes c).serial)
    opens hon pos =
        let last = known.lawful.openings c hon pos in
        last.opening ∙ sym (ap opening_in (asked_was_sent b w c (w.lanes c).serial last.request (known.within.sent c) last.is))

pub later_arrives : (b : Book) (c s : ℕ) → ComesFollows b (token.Later c s)
later_arrives b c s o f v w i l known after e h k = later_comes b o f w c s l h k

pub foreign_arrives : (b : Book) (c : ℕ) → ComesFollows b (token.Foreign c)
foreign_arrives b c o f v w i l known after e h k = foreign_comes b o f w c l h k

-- ---- a register

-- the request of a client's command was sent
sent_is : (b : Book) (v w : World) (c s i : ℕ) (y : Command) (r : Request) → Known b v w → w.foreign c ≡ false
    → slice_get w.commands i ≡ Some (record { lane = c; serial = s; command = y }) → request_of b c s ≡ Some r
    → request_at (sent_of w) c s ≡ Some r
sent_is b v w c s i y r known hon e q =
    let sent = known.lawful.sent.lines i _ e hon in
    let there = asked_was_sent b w c s sent.request (known.within.sent c) sent.is in
    sent.is ∙ sym there ∙ q

pub register_submitted : (b : Book) (c s address : ℕ) (y : Command) → request_of b c s ≡ Some (Register address)
    → ComesFollows b (token.Submission c s y)
register_submitted b c s address y q o f v w i l known after e h k =
    let claim = known.lawful.coherent.pool i (token.Submission c s y) e in
    submission_comes_register b o f w known.lawful.stages c s address y l known.sound known.within after.within known.lawful.coherent claim h (history_lane b f w c h claim.0) q k

pub register_carried : (b : Book) (c s address n : ℕ) → b.foreign c ≡ false → request_of b c s ≡ Some (Register address)
    → ComesFollows b (token.Ordered n (line c s))
register_carried b c s address n hon q o f v w i l known after e h k =
    let claim = known.lawful.coherent.pool i (token.Ordered n (line c s)) e in
    let honest : w.foreign c ≡ false = ap (λ g. g c) h.foreign ∙ hon in
    let number = claim.1 in
    let sent = sent_is b v w c s number.place _ (Register address) known honest number.is q in
    register_ordered b o f w known.lawful.stages c s n address l known.sound known.within after.within known.lawful.coherent claim sent h hon k

pub register_acknowledged : (b : Book) (c s address n : ℕ) → b.foreign c ≡ false → request_of b c s ≡ Some (Register address)
    → ComesFollows b (token.Replied n (line c s))
register_acknowledged b c s address n hon q o f v w i l known after e h k =
    let claim = known.lawful.coherent.pool i (token.Replied n (line c s)) e in
    let honest : w.foreign c ≡ false = ap (λ g. g c) h.foreign ∙ hon in
    let number = claim.1.0 in
    let sent = sent_is b v w c s number.place _ (Register address) known honest number.is q in
    register_replied b o f w known.lawful.stages c s n address l known.sound known.within known.lawful.coherent claim sent
    (λ j x is same. did_register b v w c s address j x known honest q is same) h hon k
