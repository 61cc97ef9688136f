-- What a mill comes to: its outcomes, counted by kind, and the lines of its journal.
use Rattle.std.specs.Prelude.{◌≡◌, ℕ, ◌≤◌, ◌+◌, ◌*◌, Bool, true, false, List, length, count_by}
use Rattle.step_rules.specs.Client as client
use Rattle.run_rules.specs.Letters.{Ended, FrameWorld, Outcome, Told}
use Rattle.schedule_text.specs.Mill.{mill_schedule}
use Rattle.replay_world.specs.Played.{run_of}

abbrev pub is_registered : Told → Bool
is_registered (Ended (client.Registered box)) = true
is_registered told = false

abbrev pub is_accepted : Told → Bool
is_accepted (Ended client.Accepted) = true
is_accepted told = false

abbrev pub is_message : Told → Bool
is_message (Ended (client.Message bytes)) = true
is_message told = false

-- how many requests were told such an outcome
abbrev pub outcomes_like : (Told → Bool) → List Outcome → ℕ
outcomes_like like outcomes = count_by (λ o. like o.told) outcomes

-- 64 boxes are registered, n writes are accepted, and each box is read; a register and a read have one line
-- of the journal each, a write has three.
pub record ComesTo (n : ℕ) (f : FrameWorld) : Type 0 where
  pub registered : outcomes_like is_registered f.outcomes ≡ 64
  pub accepted : outcomes_like is_accepted f.outcomes ≡ n
  pub messages : outcomes_like is_message f.outcomes ≡ 64
  pub journal : length f.journal ≡ 128 + 3 * n

-- for every number of writes that a mill may have
abbrev pub MillsCount : Type 0
MillsCount = (n : ℕ) → n ≤ 5000 → ComesTo n (run_of (mill_schedule n))
