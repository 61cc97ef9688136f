-- How a copy grows, piece by piece.
use Rattle.std.proofs.Common.{◌≡◌, ℕ, ◌+◌, List, [], ◌∷◌, ◌++◌, length, Option, Some, None, Result, Ok, Err, ap, sym, ◌∙◌, arith}
use Rattle.express_outside.specs.Calls.{added, given}
use Rattle.express_outside.specs.declared.file_calls.FileCall.{FileCall}
use Rattle.express_outside.specs.declared.file_calls.FileCall.TheVariants.{ReadAt, CopiedAt}
use Rattle.express_outside.specs.declared.calls.Trouble.{Trouble}
use Rattle.express_outside.specs.declared.calls.Trouble.TheVariants.{Interrupted}
use Rattle.express_outside.specs.Copying.{copied_from, bytes_in}

-- one piece more, or one interruption more
pub copied_more : (at : ℕ) (pieces : List (Option (List ℕ))) (last : Option (List ℕ)) (calls : Option (List FileCall))
    → copied_from at (pieces ++ last ∷ []) calls ≡ copied_from (at + bytes_in pieces) (last ∷ []) (copied_from at pieces calls)
copied_more at [] last calls = ap (λ n. copied_from n (last ∷ []) calls) (omega arith)
copied_more at (None ∷ pieces) last calls = copied_more at pieces last _
copied_more at (Some piece ∷ pieces) last calls =
    let there : (at + length piece) + bytes_in pieces ≡ at + (length piece + bytes_in pieces) = omega arith in
    copied_more (at + length piece) pieces last _ ∙ ap (λ n. copied_from n (last ∷ []) (copied_from at (Some piece ∷ pieces) calls)) there

pub bytes_more : (pieces : List (Option (List ℕ))) (last : Option (List ℕ))
    → bytes_in (pieces ++ last ∷ []) ≡ bytes_in pieces + bytes_in (last ∷ [])
bytes_more [] last = omega arith
bytes_more (None ∷ pieces) last = bytes_more pieces last
bytes_more (Some piece ∷ pieces) last = omega (arith, bytes_more pieces last)

-- what the loop keeps: so many bytes were copied so far
abbrev pub IsCopied : (old now : Option (List FileCall)) → ℕ → Type 0
IsCopied old now at = (pieces : List (Option (List ℕ))) × (now ≡ copied_from 0 pieces old) × (at ≡ bytes_in pieces)

-- behind an interrupted read
pub interrupted_step : (old now new : Option (List FileCall)) (at after : ℕ) (out : List ℕ) (result : Result ℕ Trouble)
    → IsCopied old now at → result ≡ Err Interrupted → new ≡ added (ReadAt at (given result out)) now → after ≡ at → IsCopied old new after
interrupted_step old now new at after out result (pieces, is, size) read told same =
    let here : at ≡ 0 + bytes_in pieces = omega (arith, size) in (
      pieces ++ None ∷ [],
      told ∙ ap (λ r. added (ReadAt at (given r out)) now) read ∙ ap (λ n. added (ReadAt n (Err Interrupted)) now) here
          ∙ ap (λ h. added (ReadAt (0 + bytes_in pieces) (Err Interrupted)) h) is ∙ sym (copied_more 0 pieces None old),
      omega (arith, same, size, bytes_more pieces None),
    )

-- behind a piece that was read and written
pub piece_step : (old now mid new : Option (List FileCall)) (at after : ℕ) (out piece : List ℕ) (result : Result ℕ Trouble)
    → IsCopied old now at → given result out ≡ Ok piece → mid ≡ added (ReadAt at (given result out)) now
    → new ≡ added (CopiedAt at piece (Ok tt)) mid → after ≡ at + length piece → IsCopied old new after
piece_step old now mid new at after out piece result (pieces, is, size) read told copied same =
    let here : at ≡ 0 + bytes_in pieces = omega (arith, size) in (
      pieces ++ Some piece ∷ [],
      copied ∙ ap (λ h. added (CopiedAt at piece (Ok tt)) h) (told ∙ ap (λ r. added (ReadAt at r) now) read)
          ∙ ap (λ n. added (CopiedAt n piece (Ok tt)) (added (ReadAt n (Ok piece)) now)) here
          ∙ ap (λ h. added (CopiedAt (0 + bytes_in pieces) piece (Ok tt)) (added (ReadAt (0 + bytes_in pieces) (Ok piece)) h)) is
          ∙ sym (copied_more 0 pieces (Some piece) old),
      omega (arith, same, size, bytes_more pieces (Some piece)),
    )
