use Rattle.std.proofs.Common.{◌≡◌, ◌<◌, ◌≤◌, ℕ, length, arith, sym, ◌∙◌}
use Rattle.std.proofs.Common.{below_more}
use Rattle.std.proofs.lemmas.Bool.{false≢true}
use Rattle.std.proofs.lemmas.List.{length-map}
use Rattle.known_pieces.specs.Telling.{KnownPiece, bytes_of}
use Rattle.letter_reader.proofs.FoundLaws.{known_read, found_at, found_none}
use Rattle.letter_reader.proofs.admitting.is_known.Goals as goal

pub returns-then-is_of : goal.returns-then-is_of
returns-then-is_of c =
    let i : ℕ = c.loop-piece.piece-index in
    let long : length (bytes_of c.args.known.now) ≡ length c.args.known.now =
    length-map c.args.known.now (λ (p : KnownPiece). p.bytes) in
    let lt : i < length c.args.known.now = c.loop-piece-test.true in
    found_at (bytes_of c.args.known.now) i c.args.bytes.now (omega arith)
    (known_read c.args.known.now i c.piece-item.result lt c.piece-item.is ∙ c.is_of.ensures.0 c.if-is_of.true)

pub loop-piece-preserved : goal.loop-piece-preserved
loop-piece-preserved c =
    below_more _ _ c.loop-piece.invariant
    (λ is. false≢true (sym c.if-is_of.false ∙ c.is_of.ensures.1
    (sym (known_read c.args.known.now c.loop-piece.piece-index c.piece-item.result c.loop-piece-test.true
    c.piece-item.is)
    ∙ is)))

pub returns : goal.returns
returns c =
    let long : length (bytes_of c.args.known.now) ≡ length c.args.known.now =
    length-map c.args.known.now (λ (p : KnownPiece). p.bytes) in
    let le : length c.args.known.now ≤ c.loop-piece.piece-index = c.loop-piece-test.false in
    found_none (bytes_of c.args.known.now) c.loop-piece.piece-index c.args.bytes.now (omega arith)
    c.loop-piece.invariant
