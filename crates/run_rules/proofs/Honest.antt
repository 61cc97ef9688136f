-- Every frame of a client's lane keeps the relation when it comes and when it is sent, whatever other lanes are.
use Rattle.std.proofs.Common.{◌≡◌, ◌∙◌, ◌<◌, ℕ, false, true, List, [], Option, Some, None, slice_get, inl, inr, refl, sym, ap, subst, arith}
use Rattle.std.proofs.lemmas.Bool.{cases_Bool, cases_eq}
use Rattle.mailbox_rules.specs.Requests.{Request, Register, Write, Read, Retire, Command, Registers, Begins, Audits, Settles, Reads, Retires, Line, opening_of, opens_with}
use Rattle.token_rules.specs.Tokens as token
use Rattle.token_rules.specs.Tokens.{Oracle, Token, World}
use Rattle.token_rules.specs.Run.{client_sends, comes, line_of}
use Rattle.step_rules.specs.ClientAsks.{proof_of, sends, sent_at, submission_of}
use Rattle.run_rules.specs.Letters.{FrameWorld}
use Rattle.run_rules.specs.Run as frames
use Rattle.run_rules.specs.Book.{Book, client_at, request_of}
use Rattle.run_rules.specs.Values.{ckey_at}
use Rattle.run_rules.specs.Frames.{answer_at, frame_of, from_client, if_asked, proof_at, submission_at}
use Rattle.run_rules.specs.Follows.{ClientAt, Follows, Sound}
use Rattle.run_rules.specs.Known.{Known}
use Rattle.run_rules.specs.Laws.{ComesFollows}
use Rattle.run_rules.proofs.Comes.{challenge_arrives, deposit_arrives, foreign_arrives, held_deposit_arrives, held_proof_arrives, history_lane, later_arrives, proof_arrives}
use Rattle.run_rules.proofs.HelperOrders.{asked_was_sent}
use Rattle.run_rules.proofs.Moves.{idle_sends}
use Rattle.run_rules.proofs.ReadAnswers.{last_pos, read_ends}
use Rattle.run_rules.proofs.RegisterEnds.{register_ends}
use Rattle.run_rules.proofs.Answered.{EndsSo, answer_to}
use Rattle.run_rules.proofs.LeaderReplies.{no_letters}
use Rattle.run_rules.proofs.Requests.{RequestFollows, short_requests_are_sent, short_requests_follow}
use Rattle.run_rules.proofs.Served.{EndsAt, request_ends}
use Rattle.run_rules.proofs.WriteClientAnswers.{write_answered, write_ends}
use Rattle.run_rules.proofs.WriteClientSends.{present, write_sends}
use Rattle.run_rules.proofs.WriteHelperOrdered.{write_ordered}
use Rattle.run_rules.proofs.WriteLeaderAudits.{write_proved}
use Rattle.run_rules.proofs.WriteLeaderBegun.{begun_replied}
use Rattle.run_rules.proofs.WriteLeaderRanges.{WriteIs, write_is}
use Rattle.run_rules.proofs.WriteLeaderSettled.{settled_replied}
use Rattle.run_rules.proofs.WriteLeaderSettles.{audited_replied}
use Rattle.run_rules.proofs.WriteLeaderSubmits.{write_submitted}

-- ---- a command is of a request that was sent

pub record Asked (b : Book) (x : Line) : Type 0 where
  pub request : Request
  pub is : request_of b x.lane x.serial ≡ Some request
  pub opens : opens_with x.command ≡ opening_of request

asked_for : (b : Book) (f : FrameWorld) (v w : World) (i : ℕ) (x : Line) → Known b v w → Follows b f w → b.foreign x.lane ≡ false
    → slice_get w.commands i ≡ Some x → Asked b x
asked_for b f v w i x known h hon e =
    let sent = known.lawful.sent.lines i x e (ap (λ g. g x.lane) h.foreign ∙ hon) in
    record { request = sent.request; is = asked_was_sent b w x.lane x.serial sent.request (known.within.sent x.lane) sent.is; opens = sent.opens }

-- ---- writes

write_replied : (b : Book) (c s n : ℕ) (y : Command) → WriteIs b c s → opens_with y ≡ Begins → ComesFollows b (token.Replied n (line_of c s y))
write_replied b c s n Begins write e = begun_replied b c s n write
write_replied b c s n Audits write e = audited_replied b c s n write
write_replied b c s n Settles write e = settled_replied b c s n write
write_replied b c s n Registers write e = absurd (cc e)
write_replied b c s n Reads write e = absurd (cc e)
write_replied b c s n Retires write e = absurd (cc e)

opens_write : (b : Book) (f : FrameWorld) (v w : World) (c s i target : ℕ) (message : List ℕ) (y : Command) → Known b v w → Follows b f w → b.foreign c ≡ false
    → request_of b c s ≡ Some (Write target message) → slice_get w.commands i ≡ Some (line_of c s y) → opens_with y ≡ Begins
opens_write b f v w c s i target message y known h hon q e =
    let a = asked_for b f v w i (line_of c s y) known h hon e in
    a.opens ∙ ap opening_of (same_request a.request (Write target message) (sym a.is ∙ q))
  where
    same_request : (x y : Request) → Some x ≡ Some y → x ≡ y
    same_request x y e = cc

write_follows : (b : Book) (c s target : ℕ) (message : List ℕ) → Sound b → b.foreign c ≡ false
    → request_of b c s ≡ Some (Write target message) → RequestFollows b c s
write_follows b c s target message sound hon q =
    let write = write_is b c s target message sound hon q in
    record {
      submitted = λ y. write_submitted b c s y write;
      proved = write_proved b c s write;
      ordered = λ n y o f v w i l known after e h k.
          let number = (known.lawful.coherent.pool i (token.Ordered n (line_of c s y)) e).1 in
          write_ordered b n (line_of c s y) hon (opens_write b f v w c s number.place target message y known h hon q number.is) o f v w i l known after e h k;
      replied = λ n y o f v w i l known after e h k.
          let number = (known.lawful.coherent.pool i (token.Replied n (line_of c s y)) e).1.0 in
          write_replied b c s n y write (opens_write b f v w c s number.place target message y known h hon q number.is) o f v w i l known after e h k;
      answered = write_answered b c s write;
    }

-- ---- any request

pub requests_follow : (b : Book) (c s : ℕ) (r : Request) → Sound b → b.foreign c ≡ false → request_of b c s ≡ Some r → RequestFollows b c s
requests_follow b c s (Register address) sound hon q = short_requests_follow b c s (Register address) hon q tt
requests_follow b c s (Read own) sound hon q = short_requests_follow b c s (Read own) hon q tt
requests_follow b c s (Retire own) sound hon q = short_requests_follow b c s (Retire own) hon q tt
requests_follow b c s (Write target message) sound hon q = write_follows b c s target message sound hon q

-- ---- each frame that comes is of a request

submitted : (b : Book) (c s : ℕ) (y : Command) → ComesFollows b (token.Submission c s y)
unfolding frame_of submission_at
submitted b c s y o f v w i l known after e h k = by_request (request_of b c s) refl k.1.is
  where
    hon : b.foreign c ≡ false
    hon = history_lane b f w c h (known.lawful.coherent.pool i (token.Submission c s y) e).0

    by_request : (q : Option Request) → request_of b c s ≡ q → from_client c s (if_asked (submission_of (client_at b c s)) q) ≡ Some k.1.frame
        → Follows b (frames.comes f l.to l.bytes) (comes o w (token.Submission c s y))
    by_request (Some r) q is = (requests_follow b c s r known.sound hon q).submitted y o f v w i l known after e h k
    by_request None q is = absurd (cc is)

proved : (b : Book) (c s : ℕ) → ComesFollows b (token.ProofToLeader c s)
unfolding frame_of proof_at
proved b c s o f v w i l known after e h k = by_request (request_of b c s) refl k.is
  where
    hon : b.foreign c ≡ false
    hon = history_lane b f w c h (known.lawful.coherent.pool i (token.ProofToLeader c s) e).0

    by_request : (q : Option Request) → request_of b c s ≡ q → from_client c s (if_asked (λ r. proof_of (client_at b c s) r (ckey_at b c s) 0) q) ≡ Some k.frame
        → Follows b (frames.comes f l.to l.bytes) (comes o w (token.ProofToLeader c s))
    by_request (Some r) q is = (requests_follow b c s r known.sound hon q).proved o f v w i l known after e h k
    by_request None q is = absurd (cc is)

pub ordered : (b : Book) (n : ℕ) (x : Line) → b.foreign x.lane ≡ false → ComesFollows b (token.Ordered n x)
ordered b n x hon o f v w i l known after e h k =
    let number = (known.lawful.coherent.pool i (token.Ordered n x) e).1 in
    let a = asked_for b f v w number.place x known h hon number.is in
    (requests_follow b x.lane x.serial a.request known.sound hon a.is).ordered n x.command o f v w i l known after e h k

pub replied : (b : Book) (n : ℕ) (x : Line) → b.foreign x.lane ≡ false → ComesFollows b (token.Replied n x)
replied b n x hon o f v w i l known after e h k =
    let number = (known.lawful.coherent.pool i (token.Replied n x) e).1.0 in
    let a = asked_for b f v w number.place x known h hon number.is in
    (requests_follow b x.lane x.serial a.request known.sound hon a.is).replied n x.command o f v w i l known after e h k

-- an answer that counts is that to the client's last request
ends : (b : Book) (c s : ℕ) → b.foreign c ≡ false → EndsAt b c s
ends b c s hon f v w known h honest same at after now is =
    let pos : 0 < (w.lanes c).step = let l = last_pos (w.lanes c).opening in let e = at.step in omega (arith, l, e) in
    let p = present b f v w c known h hon pos in
    by_request p.request (ap (request_of b c) same ∙ p.asked)
  where
    by_request : (r : Request) → request_of b c s ≡ Some r → EndsSo b c s (f.clients c) (w.table.got c) (answer_to (f.clients c) now (answer_at b c s))
    by_request (Register address) q = register_ends b c s address hon q f v w known h honest same at after now is
    by_request (Read own) q = read_ends b true c s own hon q f v w known h honest same at after now is
    by_request (Retire own) q = read_ends b false c s own hon q f v w known h honest same at after now is
    by_request (Write target message) q = write_ends b c s (write_is b c s target message known.sound hon q) f v w known h honest same at after now is

answered : (b : Book) (c s : ℕ) → ComesFollows b (token.Answer c s)
answered b c s o f v w i l known after e h k =
    let hon = history_lane b f w c h (known.lawful.coherent.pool i (token.Answer c s) e).0 in
    request_ends b c s hon (ends b c s hon) o f v w i l known after e h k

-- ---- what a client's lane has

-- tokens but for those of foreign lanes and bytes from outside
abbrev pub IsOfClient : Book → Token → Type 0
IsOfClient b (token.Ordered n x) = b.foreign x.lane ≡ false
IsOfClient b (token.Replied n x) = b.foreign x.lane ≡ false
IsOfClient b (token.Injected to_leader lane) = ⊥
IsOfClient b t = Unit {0}

pub comes_follow : (b : Book) (t : Token) → IsOfClient b t → ComesFollows b t
comes_follow b (token.Deposit c s) own = deposit_arrives b c s
comes_follow b (token.Submission c s y) own = submitted b c s y
comes_follow b (token.ProofToHelper c s) own = proof_arrives b c s
comes_follow b (token.ProofToLeader c s) own = proved b c s
comes_follow b (token.Ordered n x) own = ordered b n x own
comes_follow b (token.Replied n x) own = replied b n x own
comes_follow b (token.HeldDeposit c s) own = held_deposit_arrives b c s
comes_follow b (token.HeldProof c s) own = held_proof_arrives b c s
comes_follow b (token.Challenge c s) own = challenge_arrives b c s
comes_follow b (token.Answer c s) own = answered b c s
comes_follow b (token.Later c s) own = later_arrives b c s
comes_follow b (token.Foreign c) own = foreign_arrives b c
comes_follow b (token.Injected to_leader lane) own = absurd own

-- ---- what is sent

client_sends_follow : (b : Book) (f : FrameWorld) (v w : World) (c : ℕ) → b.foreign c ≡ false → Known b v w → Follows b f w
    → Follows b (frames.client_sends f c) (client_sends w c)
client_sends_follow b f v w c hon known h = elim (cases_eq (w.lanes c).step 0) [
  | inl idle ↦ idle_sends b f w c h hon idle
  | inr busy ↦
      let pos : 0 < (w.lanes c).step = omega (arith, busy) in
      let p = present b f v w c known h hon pos in
      by_request p.request p.asked pos
]
  where
    by_request : (r : Request) → request_of b c (w.lanes c).serial ≡ Some r → 0 < (w.lanes c).step → Follows b (frames.client_sends f c) (client_sends w c)
    by_request (Register address) q pos = short_requests_are_sent b f v w c (Register address) (record { known = known; honest = hon; asked = pos; request = q }) tt h
    by_request (Read own) q pos = short_requests_are_sent b f v w c (Read own) (record { known = known; honest = hon; asked = pos; request = q }) tt h
    by_request (Retire own) q pos = short_requests_are_sent b f v w c (Retire own) (record { known = known; honest = hon; asked = pos; request = q }) tt h
    by_request (Write target message) q pos = write_sends b f v w c known h pos (write_is b c (w.lanes c).serial target message known.sound hon q)

-- a foreign lane's client is never asked, and sends nothing
foreign_sends : (b : Book) (f : FrameWorld) (w : World) (c : ℕ) → b.foreign c ≡ true → Follows b f w
    → Follows b (frames.client_sends f c) (client_sends w c)
unfolding client_sends frames.client_sends sends
foreign_sends b f w c foreign h =
    let idle : ClientAt b c true (f.clients c) (w.lanes c).step (w.lanes c).serial = subst (λ t. ClientAt b c t (f.clients c) (w.lanes c).step (w.lanes c).serial) foreign (h.clients c) in
    let there : w.foreign c ≡ true = ap (λ g. g c) h.foreign ∙ foreign in
    let letters : frames.sent_letters (sent_at (f.clients c) (f.clients c).current) ≡ [] = ap (λ now. frames.sent_letters (sent_at (f.clients c) now)) idle.0 in
    rw (there, letters) (no_letters b f w h)

pub sends_follow : (b : Book) (f : FrameWorld) (v w : World) (c : ℕ) → Known b v w → Follows b f w
    → Follows b (frames.client_sends f c) (client_sends w c)
sends_follow b f v w c known h = elim (cases_Bool (b.foreign c)) [
  | inl t ↦ foreign_sends b f w c t h
  | inr t ↦ client_sends_follow b f v w c t known h
]
