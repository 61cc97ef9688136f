-- A command that is sent again is the one that was issued.
use Rattle.std.proofs.Common.{◌≡◌, ℕ, List, All, [], ◌++◌, length, take, Option, Some, option_map, sym, ap, ◌∙◌}
use Rattle.std.specs.Prelude.{slice_get}
use Rattle.std.proofs.Math.Seq.{take-append_seam}
use Rattle.std.proofs.lemmas.Option.{slice_get-map, slice_get_within, get_or_from_slice_get}
use Rattle.frame_rules.specs.Frames.{PlainFrame}
use Rattle.frame_rules.specs.Spelling.{spelling}
use Rattle.leader_core.specs.Commands.{commands_in, frame_at}
use Rattle.leader_core.specs.State.{IsCommand}

-- its bytes are the spelling of the command that it is
spelled_at : (lanes : ℕ) (frames : List (List ℕ)) (place : ℕ) (bytes : List ℕ) → All (IsCommand lanes) frames → slice_get frames place ≡ Some bytes
    → option_map spelling (slice_get (commands_in frames) place) ≡ Some bytes
spelled_at lanes frames place bytes all at =
    let is = rw (get_or_from_slice_get frames place bytes [] at) at (all place [] (slice_get_within frames place bytes at)) in
    ap (λ (o : Option PlainFrame). option_map spelling o) (slice_get-map frame_at frames place)
    ∙ ap (λ (o : Option (List ℕ)). option_map spelling (option_map frame_at o)) at
    ∙ ap (λ (l : List ℕ). let o : Option (List ℕ) = Some l in o) (sym is.spelled.spelled)

-- and they stand at the front of what they were copied to
pub sent_again : (lanes : ℕ) (frames : List (List ℕ)) (place : ℕ) (bytes copied rest : List ℕ) → All (IsCommand lanes) frames → slice_get frames place ≡ Some bytes → copied ≡ bytes
    → option_map spelling (slice_get (commands_in frames) place) ≡ Some (take (length bytes) (copied ++ rest))
sent_again lanes frames place bytes copied rest all at is =
    let front : take (length bytes) (copied ++ rest) ≡ bytes = rw is (take-append_seam bytes rest) in
    spelled_at lanes frames place bytes all at ∙ ap (λ (l : List ℕ). let o : Option (List ℕ) = Some l in o) (sym front)
