-- The forms of each kind's body.
use Rattle.std.specs.Prelude.{ℕ, zero, suc, ◌-◌, ◌/◌, ◌&&◌, ◌||◌, true, false, List, [], ◌∷◌, length, take}
use Rattle.std.specs.Prelude.{drop, Result, Ok, Err, ◌==◌, nat_le, if◌then◌else◌}
use Rattle.std.specs.Int.{w8, w16, w32, w64, w128, from_be_bytes}
use Rattle.express_words.specs.declared.audit.ProofShare.{ProofShare}
use Rattle.express_words.specs.declared.audit.Openings.{Openings}
use Rattle.express_words.specs.declared.audit.Closing.{Closing}
use Rattle.express_words.specs.declared.refusal.Refusal.{Refusal}
use Rattle.express_words.specs.declared.refusal.Refusal.TheVariants as refusal
use Rattle.frame_rules.specs.declared.frame.DepositBody.TheVariants as deposit
use Rattle.frame_rules.specs.declared.fault.FrameFault.{FrameFault}
use Rattle.frame_rules.specs.declared.fault.FrameFault.TheVariants.{Malformed}
use Rattle.frame_rules.specs.declared.kind.Kind.{Kind}
use Rattle.frame_rules.specs.declared.kind.Kind.TheVariants as kinds
use Rattle.frame_rules.specs.Frames.{PlainBody, Deposit, Register, Write, Read, Proof, Held, Challenge}
use Rattle.frame_rules.specs.Frames.{Registered, Accepted, Message, Refused, LinkRegister, LinkBegin}
use Rattle.frame_rules.specs.Frames.{LinkAudit, LinkSettle, LinkRead, LinkReply, Retire, LinkRetire}
use Rattle.frame_rules.specs.Frames.{LinkBegun, ReplyRegistered, ReplyBegun, ReplyAudited, ReplyAccepted}
use Rattle.frame_rules.specs.Frames.{ReplyRejected, ReplyMasked, ReplyRefused}
use Rattle.frame_rules.specs.Forms.{◌>>=◌, first_of, word_in, Form, Exactly, Wide, filled, tagged, nothing}
use Rattle.frame_rules.specs.Forms.{number, word, key}

-- ---- what a few fields mean

abbrev pub openings_in : List ℕ → Openings
openings_in bytes = record { d = word_in (take 16 bytes); e = word_in (drop 16 bytes) }

abbrev pub closing_in : List ℕ → Closing
closing_in bytes = record { o = word_in (take 16 bytes); tau = word_in (drop 16 bytes) }

-- so many words, one after the other
abbrev pub words_of : ℕ → List ℕ → List ℕ
words_of zero bytes = []
words_of (suc n) bytes = word_in (take 16 bytes) ∷ words_of n (drop 16 bytes)

abbrev pub three_words : {A : Type 0} → (ℕ → ℕ → ℕ → A) → List ℕ → A
three_words make bytes =
    make (word_in (take 16 bytes)) (word_in (take 16 (drop 16 bytes))) (word_in (drop 16 (drop 16 bytes)))

-- u and v, the five of h, and the three of the triple
abbrev pub proof_share_of : List ℕ → ProofShare
proof_share_of bytes =
    three_words
    (λ a b c.
    record {
      u = word_in (take 16 bytes);
      v = word_in (take 16 (drop 16 bytes));
      h = words_of 5 (take 80 (drop 16 (drop 16 bytes)));
      a = a;
      b = b;
      c = c;
    })
    (drop 80 (drop 16 (drop 16 bytes)))

abbrev pub rejected_of : List ℕ → Refusal
rejected_of bytes =
    three_words (λ o1 tau0 tau1. refusal.Rejected (word_in (take 16 bytes)) o1 tau0 tau1) (drop 16 bytes)

-- ---- bodies without a tag

abbrev pub register : Form PlainBody
register =
    record {
      size = Exactly 48;
      meaning = λ bytes. Register (from_be_bytes w128 (take 16 bytes)) (drop 16 bytes);
    }

abbrev pub write : Form PlainBody
write = record { size = Wide 2080 1; meaning = λ bytes. Write (word_in (take 16 bytes)) (drop 16 bytes) }

abbrev pub boxed : (ℕ → ℕ → PlainBody) → Form PlainBody
boxed make =
    record {
      size = Exactly 20;
      meaning = λ bytes. make (from_be_bytes w32 (take 4 bytes)) (word_in (drop 4 bytes));
    }

abbrev pub proof : Form PlainBody
proof = record { size = Exactly 160; meaning = λ bytes. Proof (proof_share_of bytes) }

abbrev pub link_register : Form PlainBody
link_register = number w128 LinkRegister

abbrev pub link_begin : Form PlainBody
link_begin = record { size = Wide 2096 1; meaning = λ bytes. LinkBegin (take 32 bytes) (drop 32 bytes) }

abbrev pub link_audit : Form PlainBody
link_audit =
    record {
      size = Exactly 48;
      meaning = λ bytes. LinkAudit (word_in (take 16 bytes)) (openings_in (drop 16 bytes));
    }

abbrev pub link_settle : Form PlainBody
link_settle = record { size = Exactly 32; meaning = λ bytes. LinkSettle (closing_in bytes) }

abbrev pub link_begun : Form PlainBody
link_begun =
    record {
      size = Exactly 36;
      meaning = λ bytes. LinkBegun (from_be_bytes w32 (take 4 bytes)) (drop 4 bytes);
    }

-- ---- bodies by their tag

abbrev pub deposits : List (ℕ × Form PlainBody)
deposits =
    (1, key (λ k. Deposit (deposit.Register k))) ∷ (2, word (λ root. Deposit (deposit.Write root)))
    ∷ (3, word (λ token. Deposit (deposit.Read token))) ∷ []

abbrev pub helds : List (ℕ × Form PlainBody)
helds = (1, nothing (Held false)) ∷ (2, nothing (Held true)) ∷ []

abbrev pub message : Form PlainBody
message =
    record {
      size = Wide 0 2;
      meaning = λ bytes. Message (take (length bytes / 2) bytes) (drop (length bytes / 2) bytes);
    }

abbrev pub dones : List (ℕ × Form PlainBody)
dones = (1, number w32 Registered) ∷ (2, nothing Accepted) ∷ (3, message) ∷ []

-- refusals by their number
abbrev pub refusals : List (ℕ × Form Refusal)
refusals =
    (1, number w32 refusal.Malformed)
    ∷ (2, number w8 refusal.Version)
    ∷ (3, number w16 refusal.Lane)
    ∷ (4, number w32 refusal.Stale)
    ∷ (5, number w8 refusal.Phase)
    ∷ (6, number w32 refusal.Taken)
    ∷ (7, number w32 refusal.Full)
    ∷ (8, number w32 refusal.NoBox)
    ∷ (9, number w32 refusal.BadToken)
    ∷ (10, nothing refusal.NoDeposit)
    ∷ (11, nothing refusal.NotProved)
    ∷ (12, record { size = Exactly 64; meaning = rejected_of })
    ∷ (13, number w64 refusal.Again)
    ∷ (14, number w64 refusal.LinkDown)
    ∷ []

abbrev pub audited : Form PlainBody
audited =
    record {
      size = Exactly 64;
      meaning = λ bytes.
          LinkReply (ReplyAudited (openings_in (take 32 bytes)) (closing_in (drop 32 bytes)));
    }

-- replies but for refusals
abbrev pub replies : List (ℕ × Form PlainBody)
replies =
    (1, number w32 (λ n. LinkReply (ReplyRegistered n)))
    ∷ (2, number w32 (λ n. LinkReply (ReplyBegun n)))
    ∷ (3, audited)
    ∷ (4, nothing (LinkReply ReplyAccepted))
    ∷ (5, nothing (LinkReply ReplyRejected))
    ∷ (6, record { size = Wide 0 1; meaning = λ bytes. LinkReply (ReplyMasked bytes) })
    ∷ []

-- ---- a body of each kind: the left bytes of the length, from the rest of the bytes

-- a refusal of bytes that are no frame, number 1 or 2, has lane 0 and serial 0,
-- and every other a serial from 1
unfoldable pub addressed : ℕ → ℕ → ℕ → Result (Unit {0}) FrameFault
addressed number lane serial =
    if nat_le number 2
    then (if lane == 0 then (if serial == 0 then Ok tt else Err (Malformed 8)) else Err (Malformed 6))
    else (if serial == 0 then Err (Malformed 8) else Ok tt)

-- a number from 1 to 14, then lane and serial by it, then the length
unfoldable pub refused : ℕ → ℕ → ℕ → List ℕ → Result PlainBody FrameFault
refused lane serial left rest = do
  number ← first_of rest
  right ← (if nat_le 1 number.0 && nat_le number.0 14 then addressed number.0 lane serial
      else Err (Malformed 20))
  refusal ← tagged 20 refusals left rest
  Ok (Refused refusal)

-- a helper answers refusal 3 or one of 6 to 11; a number that would lie behind the length isn't judged
unfoldable pub reply_refused : ℕ → List ℕ → Result PlainBody FrameFault
reply_refused left rest =
    if left == 0 then Err (Malformed 0) else (do
      number ← first_of rest
      if number.0 == 3 || (nat_le 6 number.0 && nat_le number.0 11)
          then (tagged 21 refusals left rest >>= λ r. Ok (LinkReply (ReplyRefused r)))
          else Err (Malformed 21))

-- a tag from 1 to 7, and behind 7 a refusal
unfoldable pub replied : ℕ → List ℕ → Result PlainBody FrameFault
replied left rest = do
  tag ← first_of rest
  if tag.0 == 7 then reply_refused (left - 1) tag.1 else tagged 20 replies left rest

abbrev pub body_in : Kind → ℕ → ℕ → ℕ → List ℕ → Result PlainBody FrameFault
body_in kinds.Deposit lane serial left rest = tagged 20 deposits left rest
body_in kinds.Register lane serial left rest = filled register left rest
body_in kinds.Write lane serial left rest = filled write left rest
body_in kinds.Read lane serial left rest = filled (boxed Read) left rest
body_in kinds.Proof lane serial left rest = filled proof left rest
body_in kinds.Held lane serial left rest = tagged 20 helds left rest
body_in kinds.Challenge lane serial left rest = filled (key Challenge) left rest
body_in kinds.Done lane serial left rest = tagged 20 dones left rest
body_in kinds.Refused lane serial left rest = refused lane serial left rest
body_in kinds.LinkRegister lane serial left rest = filled link_register left rest
body_in kinds.LinkBegin lane serial left rest = filled link_begin left rest
body_in kinds.LinkAudit lane serial left rest = filled link_audit left rest
body_in kinds.LinkSettle lane serial left rest = filled link_settle left rest
body_in kinds.LinkRead lane serial left rest = filled (number w32 LinkRead) left rest
body_in kinds.LinkReply lane serial left rest = replied left rest
body_in kinds.Retire lane serial left rest = filled (boxed Retire) left rest
body_in kinds.LinkRetire lane serial left rest = filled (number w32 LinkRetire) left rest
body_in kinds.LinkBegun lane serial left rest = filled link_begun left rest
