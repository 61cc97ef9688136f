use Rattle.std.proofs.Common.{◌≡◌, ℕ, List, [], sym, subst}
use Rattle.std.specs.List.{All}
use Rattle.std.proofs.lemmas.List.{get_or_default}
use Rattle.known_pieces.specs.Known.{Reading, IsPiece}
use Rattle.known_pieces.specs.Telling.{KnownPiece, Told, Tells, bytes_of, pieces_in}
use Rattle.told_letters.proofs.mail.letters.Goals as goal

-- what is told is pieces
told_are_pieces : (addresses : ℕ) (readings : List Reading) (told : Told) → Tells addresses readings told
    → All IsPiece (pieces_in told)
told_are_pieces addresses readings told tells = λ k d lt.
    let opened = tells.accounts.sound k lt in
    subst IsPiece (get_or_default (pieces_in told) k [] d lt) opened.is_piece

pub gather-requires : goal.gather-requires
gather-requires c =
    let same : c.as_slice.result.now ≡ c.in_ok-known.field-0.known.items = c.as_slice.ensures.value in
    subst (λ (ks : List KnownPiece). All IsPiece (bytes_of ks)) (sym same)
    (told_are_pieces c.args.card.addresses c.args.readings.now _ c.in_ok-known.ensures)
