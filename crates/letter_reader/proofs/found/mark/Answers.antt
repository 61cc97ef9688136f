use Rattle.std.proofs.Common.{◌<◌, ℕ, List, get_or, length, sym, subst}
use Rattle.std.proofs.lemmas.List.Elements.{All-get_or}
use Rattle.subset_search.specs.Subsets.{boxes_at, chosen_below}
use Rattle.known_pieces.specs.Telling.{bytes_of}
use Rattle.known_pieces.specs.Opening.{AreMarked}
use Rattle.letter_reader.proofs.MarkLaws.{marked_none, marked_more, tried_there}
use Rattle.letter_reader.proofs.found.mark.Goals as goal
use Rattle.letter_reader.proofs.found.mark.Goals.{then-chosen-k, else-chosen-k}

pub loop-k-init : goal.loop-k-init
loop-k-init c =
    marked_none c.args.address (chosen_below (length c.args.tried.now)
    (boxes_at (bytes_of c.args.known.now) c.args.tried.now) c.args.chosen.now) c.args.known.now

pub loop-k-preserved : goal.loop-k-preserved
loop-k-preserved c =
    let parts : List (List ℕ) = chosen_below (length c.args.tried.now)
    (boxes_at (bytes_of c.args.known.now) c.args.tried.now) c.args.chosen.now in
    elim c.if-chosen-k.branch [
      | then-chosen-k w ↦
          let i : ℕ = get_or c.args.tried.now c.loop-k.k 0 in
          let within : i < length c.args.known.now =
          All-get_or (λ i. i < length c.args.known.now) c.args.tried.now c.loop-k.k 0 c.loop-k-test.true
          c.requires.known in
          subst (AreMarked c.args.address parts c.args.known.now) (sym w.known-is)
          (marked_more c.args.address parts c.args.known.now c.loop-k.known i w.index-known-i.result
          w.index-known-i.result
          w.found_at.new.self c.loop-k.invariant within
          (tried_there c.args.known.now c.args.tried.now c.args.chosen.now c.loop-k.k w.index-known-i.result
          c.loop-k-test.true within w.if-chosen-k.true)
          w.found_at.ensures.bytes w.found_at.ensures.awaited)
      | else-chosen-k w ↦ subst (AreMarked c.args.address parts c.args.known.now) (sym w.known-is)
          c.loop-k.invariant
    ]
