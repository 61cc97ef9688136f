use Rattle.std.proofs.Common.{◌∙◌, ◌++◌, ℕ, List, take, ap, ap₂}
use Rattle.sha2.specs.Sha256.{sha256}
use Rattle.letter_pieces.specs.Pieces.{digest_of}
use Rattle.letter_pieces.proofs.piece.header.Goals as goal

pub returns : goal.returns
unfolding digest_of
returns c =
    let text : List ℕ = c.args.piece.now.text.now in
    let whole =
    c.finalize-whole.ensures _ (c.update-2.ensures _ (c.update.ensures _ c.new-hasher.ensures)) in
    ap₂ (λ (a b : List ℕ). a ++ b)
    (c.copy_from_slice.ensures.after ∙ c.front-fields.ensures)
    (c.copy_from_slice-2.ensures.after
    ∙ ap (take 16) (whole ∙ ap (λ (t : List ℕ). sha256 (t ++ text)) c.front-fields.ensures))
