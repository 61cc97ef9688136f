use Rattle.std.proofs.Common.{◌≡◌, ◌<◌, ◌≤◌, ℕ, List, length, arith, sym, ◌∙◌}
use Rattle.std.proofs.Common.{below_more}
use Rattle.std.proofs.lemmas.Bool.{false≢true}
use Rattle.subset_search.specs.Subsets.{boxes_at}
use Rattle.subset_search.proofs.SumLaws.{length-boxes_at}
use Rattle.known_pieces.specs.Telling.{bytes_of}
use Rattle.letter_reader.proofs.FoundLaws.{tried_read, found_at, found_none}
use Rattle.letter_reader.proofs.opening.is_tried.Goals as goal

pub returns-then-is_of : goal.returns-then-is_of
returns-then-is_of c =
    let boxes : List (List ℕ) = boxes_at (bytes_of c.args.known.now) c.args.tried.now in
    let long : length boxes ≡ length c.args.tried.now = length-boxes_at (bytes_of c.args.known.now)
    c.args.tried.now in
    let lt : c.loop-i.i-index < length c.args.tried.now = c.loop-i-test.true in
    found_at boxes c.loop-i.i-index c.args.bytes.now (omega arith)
    (tried_read c.args.known.now c.args.tried.now c.loop-i.i-index c.index-known-i.result lt c.requires
    c.index-known-i.is
    ∙ c.is_of.ensures.0 c.if-is_of.true)

pub loop-i-preserved : goal.loop-i-preserved
loop-i-preserved c =
    below_more _ _ c.loop-i.invariant
    (λ is. false≢true (sym c.if-is_of.false ∙ c.is_of.ensures.1
    (sym (tried_read c.args.known.now c.args.tried.now c.loop-i.i-index c.index-known-i.result
    c.loop-i-test.true c.requires
    c.index-known-i.is) ∙ is)))

pub returns : goal.returns
returns c =
    let boxes : List (List ℕ) = boxes_at (bytes_of c.args.known.now) c.args.tried.now in
    let long : length boxes ≡ length c.args.tried.now = length-boxes_at (bytes_of c.args.known.now)
    c.args.tried.now in
    let le : length c.args.tried.now ≤ c.loop-i.i-index = c.loop-i-test.false in
    found_none boxes c.loop-i.i-index c.args.bytes.now (omega arith) c.loop-i.invariant
