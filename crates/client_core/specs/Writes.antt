-- What the frames of a write are made of: the honest keys of a point function, and the proof for its
-- difference at the target, both from the sixteen words that the client drew.
use Rattle.std.specs.Prelude.{◌≡◌, ℕ, ◌^◌, ◌<◌, List, Some, length, slice_index, All}
use Rattle.frame_rules.specs.declared.frame.DepositBody.TheVariants as deposit
use Rattle.frame_rules.specs.Frames as frame
use Rattle.frame_rules.specs.Frames.{PlainBody}
use Rattle.dpf_rules.specs.Expansion.{challenge_r, challenge_s}
use Rattle.dpf_rules.specs.Keys.{honest_keys}
use Rattle.dpf_rules.specs.Evaluation.{difference_at}
use Rattle.audit_rules.specs.Audit.{zero_share, one_share}
use Rattle.mailbox_rules.specs.Requests.{Write}
use Rattle.step_rules.specs.Client.{Client, Step, Deposits, Submits, ProvesToHelper, ProvesToLeader}
use Rattle.step_rules.specs.ClientAsks as asks
use Rattle.step_rules.specs.ClientAsks.{Sent, server_of}

-- the first word is the root of server 0, the second that of server 1
abbrev pub keys_of : List ℕ → ℕ → List ℕ → List ℕ
keys_of words target message = honest_keys target message (slice_index words 0) (slice_index words 1)

abbrev pub difference_of : List ℕ → ℕ → List ℕ → ℕ
difference_of words target message =
    difference_at (keys_of words target message) (slice_index words 0) (slice_index words 1) target

unfoldable pub write_body : List ℕ → ℕ → List ℕ → Step → PlainBody
write_body words target message Deposits = frame.Deposit (deposit.Write (slice_index words 1))
write_body words target message Submits = frame.Write (slice_index words 0) (keys_of words target message)
write_body words target message (ProvesToHelper ckey) =
    let m = difference_of words target message in
    frame.Proof (one_share m (challenge_r ckey target) (challenge_s ckey target) words)
write_body words target message (ProvesToLeader ckey) = frame.Proof (zero_share words)

-- the frame of a step, with its server
abbrev pub write_sent : ℕ → ℕ → List ℕ → ℕ → List ℕ → Step → Sent
write_sent lane serial words target message step =
    record {
      server = server_of step;
      frame = record { lane = lane; serial = serial; link = 0; body = write_body words target message step };
    }

-- where its current request is a write, a client sends this frame of its lane, serial and words
abbrev pub SendsWrites : Client → Type 0
SendsWrites c =
    (target : ℕ) (message : List ℕ) (step : Step) →
    c.current ≡ Some (record { request = Write target message; step = step }) →
    asks.sends c ≡ Some (write_sent c.lane c.serial (asks.words c) target message step)

-- sixteen words of 128 bits
pub record AreWords (words : List ℕ) : Type 0 where
  pub count : length words ≡ 16
  pub size : All (λ n. n < 2 ^ 128) words
