-- The longest frame.
use Rattle.std.proofs.Common.{◌≡◌, ◌≤◌, ℕ, List, length, replicate, refl, ap, ◌∙◌, sym, arith}
use Rattle.std.proofs.lemmas.List.{length-append, length-replicate}
use Rattle.frame_rules.specs.Frames.{PlainFrame, Message}
use Rattle.frame_rules.specs.Spelling.{IsFrame, Spells, spelling}
use Rattle.frame_rules.proofs.GrammarLaws.{length-spelling, spelling_limit}

-- a message of these shares
abbrev message : List ℕ → List ℕ → PlainFrame
message zero one = record { lane = 0; serial = 1; link = 0; body = Message zero one }

message_frame : (zero one : List ℕ) → length zero ≡ 4096 → length one ≡ 4096 → IsFrame (message zero one)
message_frame zero one z o = record {
  lane = omega arith;
  serial = omega arith;
  addressed = omega arith;
  link = omega arith;
  linked = refl;
  body = (z ∙ sym o, (omega arith, omega arith, omega arith));
}

message_length : (zero one : List ℕ) → length zero ≡ 4096 → length one ≡ 4096 → length (spelling (message zero one)) ≡ 8213
message_length zero one z o = omega (arith, length-spelling (message zero one), length-append zero one, z, o)

zeros : List ℕ
zeros = replicate 4096 0

zeros_length : length zeros ≡ 4096
unfolding zeros
zeros_length = length-replicate {A = ℕ} 4096 0

pub longest : (f : PlainFrame) × IsFrame f × (length (spelling f) ≡ 8213)
longest = (message zeros zeros, message_frame zeros zeros zeros_length zeros_length, message_length zeros zeros zeros_length zeros_length)

pub spells_limit : (f : PlainFrame) (bytes : List ℕ) → Spells f bytes → (21 ≤ length bytes) × (length bytes ≤ 8213)
spells_limit f bytes s = let l = spelling_limit f s.is_frame in let same : length bytes ≡ length (spelling f) = ap length s.spelled in (omega arith, omega arith)

-- room for the longest frame is room for each
pub frame_fits : (f : PlainFrame) (room : ℕ) → IsFrame f → 8213 ≤ room → length (spelling f) ≤ room
frame_fits f room h most = omega (arith, (spelling_limit f h).1, most)
