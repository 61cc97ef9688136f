-- How what was read of a file grows, piece by piece.
use Rattle.std.proofs.Common.{◌≡◌, ℕ, ◌+◌, List, [], ◌∷◌, ◌++◌, length, Option, Some, None, Result, Ok, Err, ap, sym, refl, ◌∙◌, arith, append_assoc, length-append, length-take, ◌≤◌, ◌<◌, ◌^◌, ◌%◌, take, drop}
use Rattle.std.proofs.lemmas.List.{append-nil, take-append-le}
use Rattle.std.proofs.Math.Seq.{take-append-add}
use borrow.Rule.Slice.PartMut.{put_mid, post_of}
use Rattle.express_outside.specs.Calls.{added, given}
use Rattle.express_outside.specs.declared.file_calls.FileCall.{FileCall}
use Rattle.express_outside.specs.declared.file_calls.FileCall.TheVariants.{ReadAt}
use Rattle.express_outside.specs.declared.calls.Trouble.{Trouble}
use Rattle.express_outside.specs.declared.calls.Trouble.TheVariants.{Interrupted}
use Rattle.express_outside.specs.FileReads.{read_from, joined, ReadFrom}

-- one piece more, or one interruption more
read_more : (at : ℕ) (pieces : List (Option (List ℕ))) (last : Option (List ℕ)) (calls : Option (List FileCall))
    → read_from at (pieces ++ last ∷ []) calls ≡ read_from (at + length (joined pieces)) (last ∷ []) (read_from at pieces calls)
read_more at [] last calls = ap (λ n. read_from n (last ∷ []) calls) (omega arith)
read_more at (None ∷ pieces) last calls = read_more at pieces last _
read_more at (Some piece ∷ pieces) last calls =
    let there : (at + length piece) + length (joined pieces) ≡ at + length (piece ++ joined pieces) = omega (arith, length-append piece (joined pieces)) in
    read_more (at + length piece) pieces last _ ∙ ap (λ n. read_from n (last ∷ []) (read_from at (Some piece ∷ pieces) calls)) there

joined_more : (pieces : List (Option (List ℕ))) (last : Option (List ℕ)) → joined (pieces ++ last ∷ []) ≡ joined pieces ++ joined (last ∷ [])
joined_more [] last = refl
joined_more (None ∷ pieces) last = joined_more pieces last
joined_more (Some piece ∷ pieces) last = ap (λ l. piece ++ l) (joined_more pieces last) ∙ sym (append_assoc piece (joined pieces) (joined (last ∷ [])))

pub nothing_read : (at : ℕ) (calls : Option (List FileCall)) → ReadFrom at calls calls []
nothing_read at calls = ([], refl, refl)

-- behind an interrupted read
pub interrupted_read : (at here : ℕ) (old now new : Option (List FileCall)) (bytes out : List ℕ) (result : Result ℕ Trouble)
    → ReadFrom at old now bytes → result ≡ Err Interrupted → new ≡ added (ReadAt here (given result out)) now → here ≡ at + length bytes → ReadFrom at old new bytes
interrupted_read at here old now new bytes out result (pieces, is, whole) answer told there =
    let place : here ≡ at + length (joined pieces) = there ∙ ap (λ l. at + length l) whole in (
      pieces ++ None ∷ [],
      told ∙ ap (λ r. added (ReadAt here (given r out)) now) answer ∙ ap (λ n. added (ReadAt n (Err Interrupted)) now) place
          ∙ ap (λ h. added (ReadAt (at + length (joined pieces)) (Err Interrupted)) h) is ∙ sym (read_more at pieces None old),
      whole ∙ sym (append-nil (joined pieces)) ∙ sym (joined_more pieces None),
    )

-- behind a read that gave a piece
pub piece_read : (at here : ℕ) (old now new : Option (List FileCall)) (bytes out piece : List ℕ) (result : Result ℕ Trouble)
    → ReadFrom at old now bytes → given result out ≡ Ok piece → new ≡ added (ReadAt here (given result out)) now → here ≡ at + length bytes
    → ReadFrom at old new (bytes ++ piece)
piece_read at here old now new bytes out piece result (pieces, is, whole) answer told there =
    let place : here ≡ at + length (joined pieces) = there ∙ ap (λ l. at + length l) whole in (
      pieces ++ Some piece ∷ [],
      told ∙ ap (λ r. added (ReadAt here r) now) answer ∙ ap (λ n. added (ReadAt n (Ok piece)) now) place
          ∙ ap (λ h. added (ReadAt (at + length (joined pieces)) (Ok piece)) h) is ∙ sym (read_more at pieces (Some piece) old),
      ap (λ l. l ++ piece) whole ∙ ap (λ l. joined pieces ++ l) (sym (append-nil piece)) ∙ sym (joined_more pieces (Some piece)),
    )

-- the front of a buffer, after a read into its rest
front_of : (done count : ℕ) (out rest behind : List ℕ) → done ≤ length out → count ≤ length rest
    → take (done + count) (take done out ++ (rest ++ behind)) ≡ take done out ++ take count rest
front_of done count out rest behind here fits =
    let size : length (take done out) ≡ done = omega (arith, length-take done out) in
    ap (λ n. take (n + count) (take done out ++ (rest ++ behind))) (sym size) ∙ take-append-add (take done out) (rest ++ behind) count
    ∙ ap (λ l. take done out ++ l) (take-append-le count rest behind fits)

pub front_and_piece : (done count k : ℕ) (out rest : List ℕ) → done ≤ length out → count ≤ length rest → take (done + count) (put_mid done k out rest) ≡ take done out ++ take count rest
front_and_piece done count k out rest here fits = front_of done count out rest (post_of done k out) here fits
