use Rattle.std.proofs.Common.{◌∙◌, ℕ, ◌+◌, ◌%◌, ◌<◌, take, ap, refl, arith}
use Rattle.std.proofs.lemmas.List.{length-set}
use Rattle.letter_pieces.specs.Places.{places}
use Rattle.letter_pieces.proofs.PlaceLemmas.{place_more}
use Rattle.letter_pieces.proofs.places.Places.draw.Goals as goal

pub loop-i-init : goal.loop-i-init
unfolding places
loop-i-init c = record { size = refl; at = c.stream_of-stream.ensures; first = refl }

pub loop-i-preserved : goal.loop-i-preserved
loop-i-preserved c =
    let id : ℕ = c.args.letter.0 in
    let i : ℕ = c.loop-i.i in
    let below : i < 64 = omega arith in
    let draw = c.draw.ensures.value id i below c.loop-i.invariant.at in
    let size = c.loop-i.invariant.size in
    record {
      size = omega (arith, size, c.swap.ensures.len, length-set c.loop-i.order i i);
      at = c.draw.ensures.next id i below c.loop-i.invariant.at;
      first = ap (take (i + 1)) c.swap.ensures.after
          ∙ place_more id i _ c.loop-i.order (omega (arith, size)) c.loop-i.invariant.first
          (ap (λ n. n % (i + 1)) draw);
    }
