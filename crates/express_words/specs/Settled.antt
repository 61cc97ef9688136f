-- The settings that four numbers are.
use Rattle.std.specs.Prelude.{ℕ, ◌≤◌, ◌%◌, Option, Some, None, option_and_then}
use Rattle.std.proofs.Math.Decide.{dec_le, ℕ_discrete}
use Rattle.express_words.specs.Limits.{IsWidth}
use Rattle.express_words.specs.declared.settings.Settings.{Settings}

-- the proof of what is decided, if it is so
abbrev pub shown : {A : Type 0} → Dec A → Option A
shown (yes proof) = Some proof
shown (no _) = None

abbrev pub width_shown : (n : ℕ) → Option (IsWidth n)
width_shown n =
    option_and_then (λ least. option_and_then (λ most. option_and_then (λ blocks. Some (least, most, blocks))
    (shown (ℕ_discrete (n % 16) 0))) (shown (dec_le n 4096))) (shown (dec_le 16 n))

abbrev pub count_shown : (most n : ℕ) → Option ((1 ≤ n) × (n ≤ most))
count_shown most n =
    option_and_then (λ one. option_and_then (λ few. Some (one, few)) (shown (dec_le n most))) (shown (dec_le 1 n))

-- settings of these numbers, if they keep their limits
unfoldable pub settled : ℕ → ℕ → ℕ → ℕ → Option Settings
settled width boxes lanes window =
    option_and_then (λ w. option_and_then (λ b. option_and_then (λ l. option_and_then
    (λ i. Some (record { width = width; boxes = boxes; lanes = lanes; window = window; limits = (w, b, l, i) }))
    (count_shown 32 window)) (count_shown 256 lanes)) (count_shown 4096 boxes)) (width_shown width)
