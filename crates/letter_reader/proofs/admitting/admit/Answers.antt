use Rattle.std.proofs.Common.{inr, List, sym, ◌∙◌, subst}
use Rattle.std.specs.List.{Contains}
use Rattle.std.proofs.lemmas.Bool.{false≢true}
use Rattle.letter_pieces.specs.Pieces.{Piece, Spells}
use Rattle.letter_pieces.specs.Reading.{content}
use Rattle.known_pieces.specs.Telling.{KnownPiece, bytes_of}
use Rattle.letter_reader.proofs.AwaitLaws.{new_piece}
use Rattle.letter_reader.proofs.admitting.admit.Goals as goal

pub returns : goal.returns
returns c =
    let p : Piece = content c.in-Some.piece in
    let spells : Spells p c.args.sum.items = subst (Spells p) c.as_slice.ensures.value c.in-Some.ensures in
    inr (
      (p, spells),
      (λ there. false≢true (sym c.if-is_known.false ∙ c.is_known.ensures.1
          (subst (Contains (bytes_of c.as_slice-2.result.now)) (sym c.as_slice-3.ensures.value)
          (subst (λ (ks : List KnownPiece). Contains (bytes_of ks) c.args.sum.items) (sym
          c.as_slice-2.ensures.value) there)))),
      (
        c.new.result,
        new_piece c.args.addresses c.args.address c.args.sum.items p c.awaits-awaited.result c.new.result
            c.pieces_are_told_apart.ensures.one spells c.new.ensures.bytes c.new.ensures.awaited
            c.awaits-awaited.ensures.named c.awaits-awaited.ensures.awaits,
        c.in_ok-push.ensures.items,
      ),
    )
