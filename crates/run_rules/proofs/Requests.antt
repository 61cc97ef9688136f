-- Registers, reads and retires keep the relation from the client's frames to its answer.
use Rattle.std.proofs.Common.{◌≡◌, ◌∙◌, ◌<◌, ℕ, false, true, Bool, Some, slice_get, refl, sym, ap, subst}
use Rattle.frame_rules.specs.Frames.{PlainFrame}
use Rattle.mailbox_rules.specs.Requests.{Request, Register, Write, Read, Retire, Command, Registers, Begins, Audits, Settles, Reads, Retires, opening_of, opens_with}
use Rattle.token_rules.specs.Tokens as token
use Rattle.token_rules.specs.Tokens.{World}
use Rattle.token_rules.specs.Run.{client_sends, line_of}
use Rattle.step_rules.specs.ClientAsks.{proof_of}
use Rattle.run_rules.specs.Letters.{FrameWorld}
use Rattle.run_rules.specs.Run as frames
use Rattle.run_rules.specs.Book.{Book, client_at, request_of}
use Rattle.run_rules.specs.Values.{ckey_at}
use Rattle.run_rules.specs.Frames.{from_client, frame_of, if_asked, proof_at}
use Rattle.run_rules.specs.Follows.{Follows}
use Rattle.run_rules.specs.Known.{Known}
use Rattle.run_rules.specs.Laws.{ComesFollows}
use Rattle.run_rules.proofs.HelperOrders.{asked_was_sent}
use Rattle.run_rules.proofs.Comes.{register_acknowledged, register_carried, register_submitted}
use Rattle.run_rules.proofs.RegisterEnds.{register_answered}
use Rattle.run_rules.proofs.RegisterSends.{register_sends}
use Rattle.run_rules.proofs.ReadSubmissions.{read_submitted}
use Rattle.run_rules.proofs.ReadCommands.{read_ordered}
use Rattle.run_rules.proofs.ReadReplies.{read_replied}
use Rattle.run_rules.proofs.ReadAnswers.{read_answered}
use Rattle.run_rules.proofs.ReadSends.{read_sends}
use Rattle.run_rules.proofs.ReadBasics.{asks, command_for}

-- every frame of a client's request, and of the link for it, keeps the relation when it comes
pub record RequestFollows (b : Book) (c s : ℕ) : Type 0 where
  pub submitted : (y : Command) → ComesFollows b (token.Submission c s y)
  pub proved : ComesFollows b (token.ProofToLeader c s)
  pub ordered : (n : ℕ) (y : Command) → ComesFollows b (token.Ordered n (line_of c s y))
  pub replied : (n : ℕ) (y : Command) → ComesFollows b (token.Replied n (line_of c s y))
  pub answered : ComesFollows b (token.Answer c s)

-- a register, read or retire
abbrev pub IsShort : Request → Type 0
IsShort (Write target message) = ⊥
IsShort r = Unit {0}

-- a client sends its frame of a request
pub record CanSend (b : Book) (v w : World) (c : ℕ) (r : Request) : Type 0 where
  pub known : Known b v w
  pub honest : b.foreign c ≡ false
  pub asked : 0 < (w.lanes c).step
  pub request : request_of b c (w.lanes c).serial ≡ Some r

-- ---- a command is one of its request's

-- of a request of one command
opens_alone : (r : Request) (y : Command) → IsShort r → opens_with y ≡ opening_of r → y ≡ opening_of r
opens_alone (Register address) Registers short e = refl
opens_alone (Read own) Reads short e = refl
opens_alone (Retire own) Retires short e = refl
opens_alone (Write target message) y short e = absurd short
opens_alone (Register address) Begins short e = e
opens_alone (Register address) Reads short e = e
opens_alone (Register address) Retires short e = e
opens_alone (Register address) Audits short e = absurd (cc e)
opens_alone (Register address) Settles short e = absurd (cc e)
opens_alone (Read own) Registers short e = e
opens_alone (Read own) Begins short e = e
opens_alone (Read own) Retires short e = e
opens_alone (Read own) Audits short e = absurd (cc e)
opens_alone (Read own) Settles short e = absurd (cc e)
opens_alone (Retire own) Registers short e = e
opens_alone (Retire own) Begins short e = e
opens_alone (Retire own) Reads short e = e
opens_alone (Retire own) Audits short e = absurd (cc e)
opens_alone (Retire own) Settles short e = absurd (cc e)

command_is : (b : Book) (v w : World) (c s i : ℕ) (y : Command) (r : Request) → Known b v w → w.foreign c ≡ false
    → slice_get w.commands i ≡ Some (line_of c s y) → request_of b c s ≡ Some r → IsShort r → y ≡ opening_of r
command_is b v w c s i y r known hon e q short =
    let sent = known.lawful.sent.lines i _ e hon in
    let there : Some sent.request ≡ Some r = sym (asked_was_sent b w c s sent.request (known.within.sent c) sent.is) ∙ q in
    opens_alone r y short (sent.opens ∙ ap opening_of (same_request sent.request r there))
  where
    same_request : (x y : Request) → Some x ≡ Some y → x ≡ y
    same_request x y e = cc

-- so it is enough to know of that one
ordered_alone : (b : Book) (c s n : ℕ) (y : Command) (r : Request) → b.foreign c ≡ false → request_of b c s ≡ Some r → IsShort r
    → ComesFollows b (token.Ordered n (line_of c s (opening_of r))) → ComesFollows b (token.Ordered n (line_of c s y))
ordered_alone b c s n y r hon q short k o f v w i l known after e h letter_is =
    let claim = known.lawful.coherent.pool i (token.Ordered n (line_of c s y)) e in
    let number = claim.1 in
    let same = command_is b v w c s number.place y r known (ap (λ g. g c) h.foreign ∙ hon) number.is q short in
    (subst (λ y. ComesFollows b (token.Ordered n (line_of c s y))) (sym same) k) o f v w i l known after e h letter_is

replied_alone : (b : Book) (c s n : ℕ) (y : Command) (r : Request) → b.foreign c ≡ false → request_of b c s ≡ Some r → IsShort r
    → ComesFollows b (token.Replied n (line_of c s (opening_of r))) → ComesFollows b (token.Replied n (line_of c s y))
replied_alone b c s n y r hon q short k o f v w i l known after e h letter_is =
    let claim = known.lawful.coherent.pool i (token.Replied n (line_of c s y)) e in
    let number = claim.1.0 in
    let same = command_is b v w c s number.place y r known (ap (λ g. g c) h.foreign ∙ hon) number.is q short in
    (subst (λ y. ComesFollows b (token.Replied n (line_of c s y))) (sym same) k) o f v w i l known after e h letter_is

-- ---- no proof is sent for it

no_proof : (b : Book) (c s : ℕ) (r : Request) (g : PlainFrame) → request_of b c s ≡ Some r → IsShort r
    → frame_of b (token.ProofToLeader c s) ≡ Some g → ⊥
unfolding frame_of proof_at proof_of
no_proof b c s r g q short e =
    by_request r short (ap (λ found. from_client c s (if_asked (λ r. proof_of (client_at b c s) r (ckey_at b c s) 0) found)) (sym q) ∙ e)
  where
    by_request : (r : Request) → IsShort r → from_client c s (proof_of (client_at b c s) r (ckey_at b c s) 0) ≡ Some g → ⊥
    by_request (Register address) short e = cc e
    by_request (Read own) short e = cc e
    by_request (Retire own) short e = cc e
    by_request (Write target message) short e = short

proof_never : (b : Book) (c s : ℕ) (r : Request) → request_of b c s ≡ Some r → IsShort r → ComesFollows b (token.ProofToLeader c s)
proof_never b c s r q short o f v w i l known after e h letter_is = absurd (no_proof b c s r letter_is.frame q short letter_is.is)

-- ---- the requests

read_follows : (b : Book) (stays : Bool) (c s own : ℕ) → b.foreign c ≡ false → request_of b c s ≡ Some (asks stays own) → IsShort (asks stays own)
    → opening_of (asks stays own) ≡ command_for stays → RequestFollows b c s
read_follows b stays c s own hon q short opens = record {
  submitted = λ y. read_submitted b stays c s own y q;
  proved = proof_never b c s (asks stays own) q short;
  ordered = λ n y. ordered_alone b c s n y (asks stays own) hon q short (subst (λ y. ComesFollows b (token.Ordered n (line_of c s y))) (sym opens) (read_ordered b stays c s own n hon q));
  replied = λ n y. replied_alone b c s n y (asks stays own) hon q short (subst (λ y. ComesFollows b (token.Replied n (line_of c s y))) (sym opens) (read_replied b stays c s own n hon q));
  answered = read_answered b stays c s own hon q;
}

pub short_requests_follow : (b : Book) (c s : ℕ) (r : Request) → b.foreign c ≡ false → request_of b c s ≡ Some r
    → IsShort r → RequestFollows b c s
short_requests_follow b c s (Register address) hon q short = record {
  submitted = λ y. register_submitted b c s address y q;
  proved = proof_never b c s (Register address) q tt;
  ordered = λ n y. ordered_alone b c s n y (Register address) hon q tt (register_carried b c s address n hon q);
  replied = λ n y. replied_alone b c s n y (Register address) hon q tt (register_acknowledged b c s address n hon q);
  answered = register_answered b c s address hon q;
}
short_requests_follow b c s (Read own) hon q short = read_follows b true c s own hon q tt refl
short_requests_follow b c s (Retire own) hon q short = read_follows b false c s own hon q tt refl
short_requests_follow b c s (Write target message) hon q short = absurd short

pub short_requests_are_sent : (b : Book) (f : FrameWorld) (v w : World) (c : ℕ) (r : Request) → CanSend b v w c r
    → IsShort r → Follows b f w → Follows b (frames.client_sends f c) (client_sends w c)
short_requests_are_sent b f v w c (Register address) can short h = register_sends b f v w c (w.lanes c).serial address can.known h can.honest can.asked refl can.request
short_requests_are_sent b f v w c (Read own) can short h = read_sends b true f v w c (w.lanes c).serial own can.known h can.honest can.asked refl can.request
short_requests_are_sent b f v w c (Retire own) can short h = read_sends b false f v w c (w.lanes c).serial own can.known h can.honest can.asked refl can.request
short_requests_are_sent b f v w c (Write target message) can short h = absurd short
