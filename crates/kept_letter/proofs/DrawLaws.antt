-- The slices of a letter's draws.
use Rattle.std.proofs.Common.{◌≡◌, ◌≢◌, ℕ, ◌+◌, ◌*◌, ◌≤◌, List, take, drop, length, refl, sym, ap, ◌∙◌, inl}
use Rattle.std.proofs.Common.{inr, arith}
use Rattle.std.proofs.lemmas.List.{take_all, length-drop}
use Rattle.std.proofs.lemmas.Bool.{cases_eq}
use Rattle.dpf_rules.specs.Expansion.{draw32, stream_bytes}
use Rattle.chacha_expand.proofs.StreamLemmas.{length-stream_bytes, stream_front, stream_slice}
use Rattle.kept_letter.specs.Draws.{AreApart, bytes_of_slice, drawn, Drawn, Seed, LeaderTicket, HelperTicket}
use Rattle.kept_letter.specs.Draws.{Slice, TriesShareNoDraw}

-- the halves of 32 bytes of a stream
first_half : (seed : List ℕ) (stream : ℕ) → take 16 (draw32 seed stream) ≡ stream_bytes seed stream 0 16
first_half seed stream = stream_front seed stream 0 16 32 (omega arith)

second_half : (seed : List ℕ) (stream : ℕ) → drop 16 (draw32 seed stream) ≡ stream_bytes seed stream 16 16
second_half seed stream =
    let rest = drop 16 (draw32 seed stream) in
    let long : length rest ≤ 16 = omega (
      arith,
      length-drop 16 (draw32 seed stream),
      length-stream_bytes seed
          stream 0 32,
    ) in
    sym (take_all 16 rest long) ∙ stream_slice seed stream 0 16 16 32 16 refl (omega arith)

abbrev slice_of : Drawn → Slice
slice_of (Seed t) = record { stream = 2 * t; from = 0; size = 32 }
slice_of (LeaderTicket t) = record { stream = 2 * t + 1; from = 0; size = 16 }
slice_of (HelperTicket t) = record { stream = 2 * t + 1; from = 16; size = 16 }

apart : (x y : Drawn) → x ≢ y → AreApart (slice_of x) (slice_of y)
apart (Seed t) (Seed u) other = elim (cases_eq t u) [
  | inl e ↦ absurd (other (ap Seed e))
  | inr n ↦ inl (λ e. n (omega (arith, e)))
]
apart (Seed t) (LeaderTicket u) other = inl (λ e. omega (arith, e))
apart (Seed t) (HelperTicket u) other = inl (λ e. omega (arith, e))
apart (LeaderTicket t) (Seed u) other = inl (λ e. omega (arith, e))
apart (LeaderTicket t) (LeaderTicket u) other = elim (cases_eq t u) [
  | inl e ↦ absurd (other (ap LeaderTicket e))
  | inr n ↦ inl (λ e. n (omega (arith, e)))
]
apart (LeaderTicket t) (HelperTicket u) other = inr (inl (omega arith))
apart (HelperTicket t) (Seed u) other = inl (λ e. omega (arith, e))
apart (HelperTicket t) (LeaderTicket u) other = inr (inr (omega arith))
apart (HelperTicket t) (HelperTicket u) other = elim (cases_eq t u) [
  | inl e ↦ absurd (other (ap HelperTicket e))
  | inr n ↦ inl (λ e. n (omega (arith, e)))
]

is_slice : (seed : List ℕ) (x : Drawn) → drawn seed x ≡ bytes_of_slice seed (slice_of x)
is_slice seed (Seed t) = refl
is_slice seed (LeaderTicket t) = first_half seed (2 * t + 1)
is_slice seed (HelperTicket t) = second_half seed (2 * t + 1)

pub tries_share_no_draw : TriesShareNoDraw
tries_share_no_draw = record { slice = slice_of; is = is_slice; apart = apart }
