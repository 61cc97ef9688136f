use Rattle.std.proofs.Common.{◌≡◌, ◌+◌, ◌++◌, ◌∷◌, ℕ, List, [], length, get_or, take, sym, ap, ◌∙◌}
use Rattle.std.proofs.Common.{subst, arith}
use Rattle.std.specs.List.{AllZip}
use Rattle.std.proofs.lemmas.List.{get_or-map, length-map, map-append, take_more}
use Rattle.letter_pieces.specs.declared.piece.Piece.{Piece as CodePiece}
use Rattle.letter_pieces.specs.Pieces.{Piece, Spells}
use Rattle.letter_pieces.specs.Reading.{content}
use Rattle.known_pieces.specs.Known.{IsPiece}
use Rattle.known_pieces.specs.Telling.{KnownPiece, bytes_of}
use Rattle.told_letters.specs.Parts.{contents}
use Rattle.told_letters.proofs.PartLaws.{spelled_more}
use Rattle.told_letters.proofs.pieces.read_all.Goals as goal

abbrev bytes_in : KnownPiece → List ℕ
bytes_in k = k.bytes

pub unreachable-requires : goal.unreachable-requires
unreachable-requires c =
    let known : List KnownPiece = c.args.known.now in
    let i : ℕ = c.loop-piece.piece-index in
    let item : KnownPiece = c.piece-item.result in
    let long : length (bytes_of known) ≡ length known = length-map known bytes_in in
    let here : get_or (bytes_of known) i [] ≡ c.bytes.result.now =
    get_or-map bytes_in known i item [] c.loop-piece-test.true
    ∙ ap bytes_in (sym c.piece-item.is) ∙ sym c.bytes.ensures in
    let is : IsPiece c.bytes.result.now =
    subst IsPiece here (c.requires i [] (let lt = c.loop-piece-test.true in omega arith)) in
    c.in-None.ensures is.0 is.1

pub loop-piece-preserved : goal.loop-piece-preserved
loop-piece-preserved c =
    let known : List KnownPiece = c.args.known.now in
    let i : ℕ = c.loop-piece.piece-index in
    let item : KnownPiece = c.piece-item.result in
    let old : List CodePiece = c.loop-piece.pieces.items in
    let p : CodePiece = c.in-Some.piece in
    let pushed : contents c.push.new.self.items ≡ contents old ++ content p ∷ [] =
    ap contents c.in_ok-push-in-Some.ensures.items ∙ map-append content old (p ∷ []) in
    let more : bytes_of (take (i + 1) known) ≡ bytes_of (take i known) ++ c.bytes.result.now ∷ [] =
    ap bytes_of (take_more known i item c.loop-piece-test.true)
    ∙ map-append bytes_in (take i known) (get_or known i item ∷ [])
    ∙ ap (λ (b : List ℕ). bytes_of (take i known) ++ b ∷ [])
    (ap bytes_in (sym c.piece-item.is) ∙ sym c.bytes.ensures) in
    subst (λ (ps : List Piece). AllZip Spells ps (bytes_of (take (i + 1) known))) (sym pushed)
    (subst (AllZip Spells (contents old ++ content p ∷ [])) (sym more)
    (spelled_more (contents old) (bytes_of (take i known)) (content p) c.bytes.result.now
    c.loop-piece.invariant c.in-Some.ensures))
