-- The laws of sights: what one server is sent in a whole run fits all other aims of the writes alike.
use Rattle.std.specs.Prelude.{◌≡◌, ◌≢◌, ◌⊎◌, ℕ, ◌<◌, true, false, List, length, map, All, AllPairs, Option}
use Rattle.std.specs.Prelude.{Some}
use Rattle.std.specs.Prelude.{slice_get, ◌==◌, if◌then◌else◌, replicate}
use Rattle.express_words.specs.Bytes.{xor_bytes}
use Rattle.dpf_rules.specs.Expansion.{mask, stream_bytes}
use Rattle.dpf_rules.specs.Walk.{write_bytes}
use Rattle.write_hiding.specs.Choices.{IsChoice, PlainAim, PlainChoice}
use Rattle.write_hiding.specs.Views.{public_part}
use Rattle.express_words.specs.declared.refusal.Refusal.{Refusal}
use Rattle.frame_rules.specs.Frames as frame
use Rattle.frame_rules.specs.Frames.{PlainBody, PlainFrame}
use Rattle.mailbox_rules.specs.Requests.{Entry, Line, Request}
use Rattle.frame_rules.specs.Spelling.{spelling}
use Rattle.mailbox_rules.specs.Tables.{result_outline}
use Rattle.token_rules.specs.Tokens as token
use Rattle.token_rules.specs.Tokens.{Token, World}
use Rattle.token_rules.specs.Laws.{turn}
use Rattle.run_rules.specs.Letters.{FrameWorld, Letter}
use Rattle.run_rules.specs.EveryEnd.{AtEveryEnd}
use Rattle.run_rules.specs.Book.{Book}
use Rattle.run_rules.specs.Frames.{frame_of}
use Rattle.run_rules.specs.Plain.{IsHistory, plain_result}
use Rattle.run_rules.specs.Follows.{ForeignOrder, ForeignReply}
use Rattle.run_hiding.specs.Ideal.{AreAims, Ideal, IsIdeal, real}
use Rattle.run_hiding.specs.Sight.{IsSeen, bytes_added, reply_by, sight_of}
use Rattle.run_hiding.specs.Moved.{OtherAims, run_moved, with_sent}

-- an ideal history of these requests
pub record IsIdealOf (b : Book) (h : Ideal) : Type 0 where
  pub of : h.book ≡ b
  pub form : IsIdeal h

-- a law of an ideal history and other aims of its writes
abbrev pub OfOtherAims : (ℕ → Ideal → (ℕ → List Request) → Type 0) → Type 0
OfOtherAims Law =
    (viewer : ℕ) (h : Ideal) (sent : ℕ → List Request) →
    viewer < 2 → IsIdeal h → OtherAims h.book sent → Law viewer h sent

-- the moved history has the form of one
abbrev pub IdealsStay : Type 0
IdealsStay = OfOtherAims (λ viewer h sent. IsIdeal (run_moved viewer h sent))

-- and gives the viewer the same frame for every token
abbrev pub SightsStay : Type 0
SightsStay = OfOtherAims (λ viewer h sent. (t : Token) →
    sight_of viewer (run_moved viewer h sent) t ≡ sight_of viewer h t)

-- the way back
abbrev pub RunsReturn : Type 0
RunsReturn = OfOtherAims (λ viewer h sent. run_moved viewer (run_moved viewer h sent) h.book.sent ≡ h)

-- So distinct ideal histories with one sight are taken to as many distinct ones with that sight.
abbrev pub DistinctRunsStay : Type 0
DistinctRunsStay =
    (viewer : ℕ) (b : Book) (histories : List Ideal) (sent : ℕ → List Request)
    (sight : Token → Option PlainFrame) →
    viewer < 2 → OtherAims b sent → All (IsIdealOf b) histories →
    All (λ h. (t : Token) → sight_of viewer h t ≡ sight t) histories → AllPairs (λ h g. h ≢ g) histories →
    let gone = map (λ h. run_moved viewer h sent) histories in
    (length gone ≡ length histories)
    × All (IsIdealOf (with_sent b sent)) gone
    × All (λ h. (t : Token) → sight_of viewer h t ≡ sight t) gone
    × AllPairs (λ h g. h ≢ g) gone

-- a run's own expansions have the form of an ideal history
abbrev pub RunsHaveForm : Type 0
RunsHaveForm = (viewer : ℕ) (b : Book) → viewer < 2 → IsHistory b → AreAims b → IsIdeal (real viewer b)

-- the viewer's frame of each token of the run is that of the ideal history with the run's own expansions
abbrev pub RealIsIdeal : Type 0
RealIsIdeal = (viewer : ℕ) (b : Book) (t : Token) → viewer < 2 → IsHistory b → AreAims b → IsSeen viewer b t
    → sight_of viewer (real viewer b) t ≡ frame_of b t

-- The helper's reply to a foreign lane's entry is a refusal, which the history doesn't tell, or that of the
-- ideal history: a share that a foreign lane read is masked as a client's.
abbrev pub ForeignRepliesAreIdeal : Type 0
ForeignRepliesAreIdeal = (b : Book) (i : ℕ) (x : Line) (body : PlainBody) → IsHistory b → AreAims b
    → ForeignReply b i x body
    → ((r : Refusal) × (body ≡ frame.LinkReply (frame.ReplyRefused r)))
    ⊎ (reply_by 0 (real 0 b) i (slice_get b.entries i) ≡ Some body)

-- what the leader sends for a foreign lane is told by what that lane brought, so it is as it was
abbrev pub ForeignOrdersStay : Type 0
ForeignOrdersStay = (b : Book) (sent : ℕ → List Request) (i : ℕ) (x : Line) (body : PlainBody)
    → IsHistory b → OtherAims b sent → b.foreign x.lane ≡ true
    → ForeignOrder b i x body → ForeignOrder (with_sent b sent) i x body

-- What the viewer is sent in a run it is sent in an ideal history of any other aims.
abbrev pub RunsFitOtherAims : Type 0
RunsFitOtherAims = (viewer : ℕ) (b : Book) (sent : ℕ → List Request) (t : Token)
    → viewer < 2 → IsHistory b → AreAims b → OtherAims b sent → IsSeen viewer b t
    → sight_of viewer (run_moved viewer (real viewer b) sent) t ≡ frame_of b t

-- ---- what an ideal write adds

-- Under any choice both servers add up to the message at the target, and to zeros elsewhere.
abbrev pub WritesAddUp : Type 0
WritesAddUp =
    (width viewer : ℕ) (choice : PlainChoice) (aim : PlainAim) (address : ℕ) →
    viewer < 2 → IsChoice width choice → length aim.message ≡ width →
    xor_bytes (write_bytes (public_part viewer choice aim) viewer choice.own_root address)
    (bytes_added viewer choice aim address)
    ≡ (if address == aim.target then aim.message else replicate width 0)

-- ---- the letters of a run

-- a token of a client's lane that is addressed to the viewer
abbrev pub IsTo : ℕ → Book → Token → Type 0
IsTo viewer b (token.Ordered n x) = (viewer ≡ 1) × (b.foreign x.lane ≡ false)
IsTo viewer b (token.Replied n x) = (viewer ≡ 0) × (b.foreign x.lane ≡ false)
IsTo viewer b t = IsSeen viewer b t

pub record IsSpelledOf (viewer : ℕ) (h : Ideal) (t : Token) (l : Letter) : Type 0 where
  pub frame : PlainFrame
  pub is : sight_of viewer h t ≡ Some frame
  pub bytes : l.bytes ≡ spelling frame

-- each letter of the pool that is for the viewer, from a client or of a client's lane, is spelled of the
-- ideal frame of its token
abbrev pub LettersAreIdeal : ℕ → Book → FrameWorld → World → Type 0
LettersAreIdeal viewer b f w =
    AreAims b → (k : ℕ) (t : Token) (l : Letter) → slice_get w.pool k ≡ Some t → slice_get f.pool k ≡ Some l
    → IsTo viewer b t → IsSpelledOf viewer (real viewer b) t l

abbrev pub RunsAreIdeal : Type 0
RunsAreIdeal = (viewer : ℕ) → AtEveryEnd (LettersAreIdeal viewer)

-- ---- what is printed and told

-- other aims change no result of the plain table but the bytes that are read
abbrev pub ResultsStay : Type 0
ResultsStay = (b : Book) (sent : ℕ → List Request) (i : ℕ) (e : Entry)
    → IsHistory b → AreAims b → OtherAims b sent → slice_get b.entries i ≡ Some e
    → result_outline (plain_result (with_sent b sent) i e) ≡ result_outline (plain_result b i e)

-- The masks of a line's reads are slices of this stream of a box's key, behind the token's sixteen bytes.
abbrev pub HasStream : Line → ℕ → Type 0
HasStream x stream = (key : List ℕ) (n : ℕ) → mask key x.lane x.serial n ≡ stream_bytes key stream 16 n

pub record HaveApart (x y : Line) : Type 0 where
  pub one : ℕ
  pub other : ℕ
  pub first : HasStream x one
  pub second : HasStream y other
  pub apart : one ≢ other

-- Masks are apart: the first commands of two requests, of clients or of foreign lanes, have distinct streams.
-- A read and a retire are the first command of their request, so no two reads of a box, whosoever, take one
-- slice of its key's stream.
abbrev pub MasksApart : Book → FrameWorld → World → Type 0
MasksApart b f w =
    (i k : ℕ) (e g : Entry) → i < k → slice_get b.entries i ≡ Some e → slice_get b.entries k ≡ Some g
    → turn e.line.command ≡ 0 → turn g.line.command ≡ 0 → HaveApart e.line g.line
