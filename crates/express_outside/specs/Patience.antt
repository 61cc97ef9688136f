-- How long a connection may take, by the clock. Times are in nanoseconds.
use Rattle.std.specs.Prelude.{◌≡◌, ℕ, ◌-◌, ◌*◌, List, Option, Some, None, Result}
use Rattle.std.specs.Duration.{as_nanos}
use Rattle.std.specs.Time.{instant_nanos}
use Rattle.std.specs.declared.time.Instant.{Instant}
use Rattle.std.specs.declared.time.Duration.{Duration}
use Rattle.express_outside.specs.Calls.{added}
use Rattle.express_outside.specs.declared.calls.Trouble.{Trouble}
use Rattle.express_outside.specs.declared.patience.Limit.{Limit}
use Rattle.express_outside.specs.declared.patience.SocketCall.{SocketCall}
use Rattle.express_outside.specs.declared.patience.SocketCall.TheVariants.{Told}

abbrev pub seconds : ℕ → ℕ
seconds n = n * 1_000_000_000

-- a limit of so many seconds, which began at this moment or hasn't begun
abbrev pub IsLimit : Limit → Option Instant → ℕ → Type 0
IsLimit limit began secs = (limit.began ≡ began) × (as_nanos limit.allowed ≡ seconds secs)

-- a limit begins at this moment where it hasn't begun
abbrev pub begin_at : Instant → Option Instant → Instant
begin_at now None = now
begin_at now (Some began) = began

-- what is left of a limit at this moment
abbrev pub left_of : Limit → Instant → ℕ
left_of limit now = as_nanos limit.allowed - (instant_nanos now - instant_nanos (begin_at now limit.began))

-- The clock was looked at, and then one call was made that may wait for as long as the limit has left.
abbrev pub IsWithin : (Duration → Result ℕ Trouble → SocketCall) → Limit → Option (List SocketCall)
    → Option (List SocketCall) → Result ℕ Trouble → Type 0
IsWithin call limit old new answer = (now : Instant) × (left : Duration) × (as_nanos left ≡ left_of limit now)
    × (new ≡ added (call left answer) (added (Told now) old))
