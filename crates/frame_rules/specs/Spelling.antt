-- What a frame is, and the bytes that spell it.
use Rattle.std.specs.Prelude.{◌≡◌, ℕ, ◌+◌, ◌-◌, ◌^◌, ◌<◌, ◌≤◌, true, false, List, [], ◌∷◌, ◌++◌, length}
use Rattle.std.specs.Prelude.{MatchBool}
use Rattle.std.specs.List.{flat_map}
use Rattle.std.specs.Int.{w16, w32, w64, w128, to_be_bytes, to_le_bytes}
use Rattle.express_words.specs.Limits.{IsWidth, IsPart}
use Rattle.express_words.specs.Ranges.{IsWord, IsProofShare, IsOpenings, IsClosing}
use Rattle.express_words.specs.declared.audit.ProofShare.{ProofShare}
use Rattle.express_words.specs.declared.audit.Openings.{Openings}
use Rattle.express_words.specs.declared.audit.Closing.{Closing}
use Rattle.express_words.specs.declared.refusal.Refusal.{Refusal}
use Rattle.express_words.specs.declared.refusal.Refusal.TheVariants as refusals
use Rattle.frame_rules.specs.declared.frame.DepositBody.{DepositBody}
use Rattle.frame_rules.specs.declared.frame.DepositBody.TheVariants as deposits
use Rattle.frame_rules.specs.declared.kind.Kind.{Kind}
use Rattle.frame_rules.specs.declared.kind.Kind.TheVariants as kinds
use Rattle.frame_rules.specs.Frames.{PlainFrame, PlainBody, PlainReply, Deposit, Register, Write, Read, Proof}
use Rattle.frame_rules.specs.Frames.{Held, Challenge, Registered, Accepted, Message, Refused, LinkRegister}
use Rattle.frame_rules.specs.Frames.{LinkBegin, LinkAudit, LinkSettle, LinkRead, LinkReply, Retire}
use Rattle.frame_rules.specs.Frames.{LinkRetire, LinkBegun, ReplyRegistered, ReplyBegun, ReplyAudited}
use Rattle.frame_rules.specs.Frames.{ReplyAccepted, ReplyRejected, ReplyMasked, ReplyRefused}
use Rattle.frame_rules.specs.Kinds.{kind_number, version_of, is_linked}

abbrev pub kind_of : PlainBody → Kind
kind_of (Deposit d) = kinds.Deposit
kind_of (Register address key) = kinds.Register
kind_of (Write root part) = kinds.Write
kind_of (Read n token) = kinds.Read
kind_of (Proof share) = kinds.Proof
kind_of (Held proof) = kinds.Held
kind_of (Challenge ckey) = kinds.Challenge
kind_of (Registered n) = kinds.Done
kind_of Accepted = kinds.Done
kind_of (Message zero one) = kinds.Done
kind_of (Refused r) = kinds.Refused
kind_of (LinkRegister address) = kinds.LinkRegister
kind_of (LinkBegin ckey part) = kinds.LinkBegin
kind_of (LinkAudit sigma opened) = kinds.LinkAudit
kind_of (LinkSettle closing) = kinds.LinkSettle
kind_of (LinkRead n) = kinds.LinkRead
kind_of (LinkReply r) = kinds.LinkReply
kind_of (Retire n token) = kinds.Retire
kind_of (LinkRetire n) = kinds.LinkRetire
kind_of (LinkBegun count draw) = kinds.LinkBegun

-- ---- the bytes of each part

-- roots, tokens and field values: 16 bytes, the lowest first
unfoldable pub word : ℕ → List ℕ
word n = to_le_bytes w128 n

-- addresses: 16 bytes, the highest first
unfoldable pub address : ℕ → List ℕ
address n = to_be_bytes w128 n

abbrev pub openings : Openings → List ℕ
openings o = word o.d ++ word o.e

abbrev pub closing : Closing → List ℕ
closing c = word c.o ++ word c.tau

abbrev pub proof_share : ProofShare → List ℕ
proof_share p = word p.u ++ (word p.v ++ (flat_map word p.h ++ (word p.a ++ (word p.b ++ word p.c))))

-- the number of a refusal, and what explains it
abbrev pub refusal : Refusal → List ℕ
refusal (refusals.Malformed place) = 1 ∷ to_be_bytes w32 place
refusal (refusals.Version version) = 2 ∷ version ∷ []
refusal (refusals.Lane limit) = 3 ∷ to_be_bytes w16 limit
refusal (refusals.Stale serial) = 4 ∷ to_be_bytes w32 serial
refusal (refusals.Phase phase) = 5 ∷ phase ∷ []
refusal (refusals.Taken n) = 6 ∷ to_be_bytes w32 n
refusal (refusals.Full limit) = 7 ∷ to_be_bytes w32 limit
refusal (refusals.NoBox n) = 8 ∷ to_be_bytes w32 n
refusal (refusals.BadToken n) = 9 ∷ to_be_bytes w32 n
refusal refusals.NoDeposit = 10 ∷ []
refusal refusals.NotProved = 11 ∷ []
refusal (refusals.Rejected o0 o1 tau0 tau1) = 12 ∷ word o0 ++ (word o1 ++ (word tau0 ++ word tau1))
refusal (refusals.Again number) = 13 ∷ to_be_bytes w64 number
refusal (refusals.LinkDown count) = 14 ∷ to_be_bytes w64 count

abbrev pub deposit : DepositBody → List ℕ
deposit (deposits.Register key) = 1 ∷ key
deposit (deposits.Write root) = 2 ∷ word root
deposit (deposits.Read token) = 3 ∷ word token

abbrev pub reply : PlainReply → List ℕ
reply (ReplyRegistered n) = 1 ∷ to_be_bytes w32 n
reply (ReplyBegun count) = 2 ∷ to_be_bytes w32 count
reply (ReplyAudited opened closed) = 3 ∷ openings opened ++ closing closed
reply ReplyAccepted = 4 ∷ []
reply ReplyRejected = 5 ∷ []
reply (ReplyMasked share) = 6 ∷ share
reply (ReplyRefused r) = 7 ∷ refusal r

-- a body behind the header: its tag, where the kind has one, and its fields
abbrev pub body : PlainBody → List ℕ
body (Deposit d) = deposit d
body (Register a key) = address a ++ key
body (Write root part) = word root ++ part
body (Read n token) = to_be_bytes w32 n ++ word token
body (Proof share) = proof_share share
body (Held false) = 1 ∷ []
body (Held true) = 2 ∷ []
body (Challenge ckey) = ckey
body (Registered n) = 1 ∷ to_be_bytes w32 n
body Accepted = 2 ∷ []
body (Message zero one) = 3 ∷ zero ++ one
body (Refused r) = refusal r
body (LinkRegister a) = address a
body (LinkBegin ckey part) = ckey ++ part
body (LinkAudit sigma opened) = word sigma ++ openings opened
body (LinkSettle closed) = closing closed
body (LinkRead n) = to_be_bytes w32 n
body (LinkReply r) = reply r
body (Retire n token) = to_be_bytes w32 n ++ word token
body (LinkRetire n) = to_be_bytes w32 n
body (LinkBegun count draw) = to_be_bytes w32 count ++ draw

-- the header's 20 bytes before so many of the body: length of what follows the length, version, kind,
-- lane, serial, link number
abbrev pub header : Kind → ℕ → ℕ → ℕ → ℕ → List ℕ
header kind lane serial link count =
    to_be_bytes w32 (16 + count) ++ ((version_of kind ∷ kind_number kind ∷ [])
    ++ (to_be_bytes w16 lane ++ (to_be_bytes w32 serial ++ to_be_bytes w64 link)))

unfoldable pub spelling : PlainFrame → List ℕ
spelling f = header (kind_of f.body) f.lane f.serial f.link (length (body f.body)) ++ body f.body

-- ---- which values have a spelling

abbrev pub IsKey : List ℕ → Type 0
IsKey key = length key ≡ 32

abbrev pub IsRefusal : Refusal → Type 0
IsRefusal (refusals.Malformed place) = place < 2 ^ 32
IsRefusal (refusals.Version version) = version < 2 ^ 8
IsRefusal (refusals.Lane limit) = limit < 2 ^ 16
IsRefusal (refusals.Stale serial) = serial < 2 ^ 32
IsRefusal (refusals.Phase phase) = phase < 2 ^ 8
IsRefusal (refusals.Taken n) = n < 2 ^ 32
IsRefusal (refusals.Full limit) = limit < 2 ^ 32
IsRefusal (refusals.NoBox n) = n < 2 ^ 32
IsRefusal (refusals.BadToken n) = n < 2 ^ 32
IsRefusal refusals.NoDeposit = Unit {0}
IsRefusal refusals.NotProved = Unit {0}
IsRefusal (refusals.Rejected o0 o1 tau0 tau1) = IsWord o0 × (IsWord o1 × (IsWord tau0 × IsWord tau1))
IsRefusal (refusals.Again number) = number < 2 ^ 64
IsRefusal (refusals.LinkDown count) = count < 2 ^ 64

abbrev pub IsDeposit : DepositBody → Type 0
IsDeposit (deposits.Register key) = IsKey key
IsDeposit (deposits.Write root) = IsWord root
IsDeposit (deposits.Read token) = IsWord token

-- the refusals that a helper answers to a command
abbrev pub IsReplyRefusal : Refusal → Type 0
IsReplyRefusal (refusals.Lane limit) = limit < 2 ^ 16
IsReplyRefusal (refusals.Taken n) = n < 2 ^ 32
IsReplyRefusal (refusals.Full limit) = limit < 2 ^ 32
IsReplyRefusal (refusals.NoBox n) = n < 2 ^ 32
IsReplyRefusal (refusals.BadToken n) = n < 2 ^ 32
IsReplyRefusal refusals.NoDeposit = Unit {0}
IsReplyRefusal refusals.NotProved = Unit {0}
IsReplyRefusal (refusals.Malformed place) = ⊥
IsReplyRefusal (refusals.Version version) = ⊥
IsReplyRefusal (refusals.Stale serial) = ⊥
IsReplyRefusal (refusals.Phase phase) = ⊥
IsReplyRefusal (refusals.Rejected o0 o1 tau0 tau1) = ⊥
IsReplyRefusal (refusals.Again number) = ⊥
IsReplyRefusal (refusals.LinkDown count) = ⊥

abbrev pub IsReply : PlainReply → Type 0
IsReply (ReplyRegistered n) = n < 2 ^ 32
IsReply (ReplyBegun count) = count < 2 ^ 32
IsReply (ReplyAudited opened closed) = IsOpenings opened × IsClosing closed
IsReply ReplyAccepted = Unit {0}
IsReply ReplyRejected = Unit {0}
IsReply (ReplyMasked share) = IsWidth (length share)
IsReply (ReplyRefused r) = IsReplyRefusal r

abbrev pub IsBody : PlainBody → Type 0
IsBody (Deposit d) = IsDeposit d
IsBody (Register a key) = IsWord a × IsKey key
IsBody (Write root part) = IsWord root × IsPart part
IsBody (Read n token) = (n < 2 ^ 32) × IsWord token
IsBody (Proof share) = IsProofShare share
IsBody (Held proof) = Unit {0}
IsBody (Challenge ckey) = IsKey ckey
IsBody (Registered n) = n < 2 ^ 32
IsBody Accepted = Unit {0}
IsBody (Message zero one) = (length zero ≡ length one) × IsWidth (length zero)
IsBody (Refused r) = IsRefusal r
IsBody (LinkRegister a) = IsWord a
IsBody (LinkBegin ckey part) = IsKey ckey × IsPart part
IsBody (LinkAudit sigma opened) = IsWord sigma × IsOpenings opened
IsBody (LinkSettle closed) = IsClosing closed
IsBody (LinkRead n) = n < 2 ^ 32
IsBody (LinkReply r) = IsReply r
IsBody (Retire n token) = (n < 2 ^ 32) × IsWord token
IsBody (LinkRetire n) = n < 2 ^ 32
IsBody (LinkBegun count draw) = (count < 2 ^ 32) × IsKey draw

-- a refusal of bytes that are no frame has lane 0 and serial 0; every other frame has a serial from 1
abbrev pub IsAddressed : PlainBody → ℕ → ℕ → Type 0
IsAddressed (Refused (refusals.Malformed place)) lane serial = (lane ≡ 0) × (serial ≡ 0)
IsAddressed (Refused (refusals.Version version)) lane serial = (lane ≡ 0) × (serial ≡ 0)
IsAddressed _ lane serial = 1 ≤ serial

-- what has a spelling
pub record IsFrame (f : PlainFrame) : Type 0 where
  pub lane : f.lane < 2 ^ 16
  pub serial : f.serial < 2 ^ 32
  pub addressed : IsAddressed f.body f.lane f.serial
  pub link : f.link < 2 ^ 64
  pub linked : MatchBool (is_linked (kind_of f.body)) (1 ≤ f.link) (f.link ≡ 0)
  pub body : IsBody f.body

-- the bytes spell the frame
pub record Spells (f : PlainFrame) (bytes : List ℕ) : Type 0 where
  pub is_frame : IsFrame f
  pub spelled : bytes ≡ spelling f
