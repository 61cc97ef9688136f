-- Where a settled write is accepted, and what a foreign lane's write needs that changes two boxes or more.
use Rattle.std.specs.Prelude.{◌≡◌, ◌≢◌, ◌<◌, ◌≤◌, ◌^◌, ◌⊎◌, ◌↔◌, ℕ, suc, Bool, true, All, AllPairs, List}
use Rattle.std.specs.Prelude.{length, Some, slice_get}
use Rattle.express_words.specs.declared.audit.Closing.{Closing}
use Rattle.dpf_rules.specs.Evaluation.{difference_vector}
use Rattle.audit_rules.specs.Audit.{PassesAt, whole_proof}
use Rattle.audit_rules.specs.BadWrites.{HasTwo, IsBadChallenge}
use Rattle.audit_rules.specs.Challenges.{challenge_rs, challenge_ss, sums_under}
use Rattle.mailbox_rules.specs.Requests.{Entry, SettleWrite}
use Rattle.mailbox_rules.specs.Tables.{Mailbox}
use Rattle.token_rules.specs.Tokens.{World}
use Rattle.run_rules.specs.Letters.{FrameWorld, JournalLine, Settled}
use Rattle.run_rules.specs.Book.{Book}
use Rattle.run_rules.specs.Values.{ckey_at, counted_at, part_at, root_at, share_at, sigma_at}
use Rattle.run_rules.specs.Plain.{plain_at}

-- a write's difference vector, at the addresses that were counted when it began
abbrev pub vector_at : Book → ℕ → ℕ → List ℕ
vector_at b c serial =
    difference_vector (part_at b c serial) (root_at b 0 c serial) (root_at b 1 c serial)
    (counted_at b c serial)

-- the sum of both servers' proof words passes for this vector at a point
abbrev pub PassesThere : Book → ℕ → ℕ → ℕ → Type 0
PassesThere b c serial sigma =
    PassesAt (sums_under (ckey_at b c serial) (counted_at b c serial) (vector_at b c serial))
    (whole_proof (share_at b 0 c serial) (share_at b 1 c serial)) sigma

-- each line of a settle is printed as accepted exactly where the write's proof passes at its point
abbrev pub SettledAsTheyPass : Book → FrameWorld → World → Type 0
SettledAsTheyPass b f w = (i : ℕ) (line : JournalLine) (accepted : Bool) (closing : Closing)
    → slice_get f.journal i ≡ Some line → line.value ≡ Settled accepted closing
    → (accepted ≡ true) ↔ PassesThere b line.lane line.serial (sigma_at b line.lane line.serial)

-- two boxes or more differ
pub record DifferTwice (xs ys : List Mailbox) : Type 0 where
  pub one : ℕ
  pub two : ℕ
  pub before : one < two
  pub first : slice_get xs one ≢ slice_get ys one
  pub second : slice_get xs two ≢ slice_get ys two

-- one challenge is the one bad value for the vector, or the proof passes at five points at most
abbrev pub IsCaught : Book → ℕ → ℕ → Type 0
IsCaught b c serial =
    IsBadChallenge (vector_at b c serial) (challenge_rs (ckey_at b c serial) (counted_at b c serial))
    (challenge_ss (ckey_at b c serial) (counted_at b c serial))
    ⊎ ((points : List ℕ) → AllPairs (λ p q. p ≢ q) points → All (λ p. p < 2 ^ 128) points
    → All (λ p. PassesThere b c serial p) points → length points ≤ 5)

-- A foreign lane's write that changes two boxes of the plain table or more has two places or more in its
-- vector that aren't zero. It passes at its point, and is caught but for the bad values, as each of a foreign
-- lane with such a vector is.
pub record BadWritesAreCaught (b : Book) (f : FrameWorld) (w : World) : Type 0 where
  pub seen : (i : ℕ) (e : Entry) → slice_get b.entries i ≡ Some e → b.foreign e.line.lane ≡ true
      → e.does ≡ SettleWrite → DifferTwice (plain_at b i).boxes (plain_at b (suc i)).boxes
      → HasTwo (vector_at b e.line.lane e.line.serial)
  pub changed : (i : ℕ) (e : Entry) → slice_get b.entries i ≡ Some e → b.foreign e.line.lane ≡ true
      → e.does ≡ SettleWrite → DifferTwice (plain_at b i).boxes (plain_at b (suc i)).boxes
      → PassesThere b e.line.lane e.line.serial (sigma_at b e.line.lane e.line.serial)
      × IsCaught b e.line.lane e.line.serial
  pub caught : (c serial : ℕ) → b.foreign c ≡ true → HasTwo (vector_at b c serial) → IsCaught b c serial
