use Rattle.std.proofs.Common.{◌≡◌, ◌<◌, ◌*◌, ◌⊎◌, ℕ, Bool, List, true, false, get_or, set, length, arith}
use Rattle.std.proofs.Common.{sym, ap, ◌∙◌}
use Rattle.std.proofs.Common.{subst, length-set}
use Rattle.std.proofs.lemmas.List.{length-replicate}
use Rattle.letter_pieces.specs.Places.{places}
use Rattle.letter_reader.proofs.AwaitLaws.{none_set, place_below, named_more, awaits_more, awaits_skip}
use Rattle.letter_reader.proofs.admitting.awaits.Goals as goal
use Rattle.letter_reader.proofs.admitting.awaits.Goals.{then-place-address, else-place-address}

pub loop-place-init : goal.loop-place-init
loop-place-init c = record {
  size = length-replicate 64 false;
  named = λ a is. absurd (none_set 64 a is);
  awaits = λ k lt. absurd (omega arith);
}

pub bounds-awaited-from : goal.bounds-awaited-from
bounds-awaited-from c =
    let drawn : c.draw-places.result ≡ places c.args.piece.now.letter.0 c.args.addresses = cc in
    subst (λ (a : ℕ). a < 64) (sym c.from-then-place-address.ensures)
    (place_below c.args.addresses c.args.piece.now.letter.0 (c.args.piece.now.part * 3) c.draw-places.result
    c.of_part-place-items.result.now c.requires drawn c.letters_never_meet_themselves.ensures.permuted
    c.of_part-place-items.ensures c.loop-place.place-index c.loop-place-test.true)

pub loop-place-preserved : goal.loop-place-preserved
loop-place-preserved c =
    let items : List ℕ = c.of_part-place-items.result.now in
    let k : ℕ = c.loop-place.place-index in
    elim c.if-place-address.branch [
      | then-place-address w ↦
          let drawn : c.draw-places.result ≡ places c.args.piece.now.letter.0 c.args.addresses = cc in
          let within : get_or items k 0 < 64 =
          place_below c.args.addresses c.args.piece.now.letter.0 (c.args.piece.now.part * 3)
          c.draw-places.result
          items c.requires drawn c.letters_never_meet_themselves.ensures.permuted
          c.of_part-place-items.ensures k
          c.loop-place-test.true in
          let is : c.if-place-address.awaited ≡ set c.loop-place.awaited (get_or items k 0) true =
          w.awaited-is ∙ ap (λ (p : ℕ). set c.loop-place.awaited p true) w.from-then-place-address.ensures in
          let size : length c.loop-place.awaited ≡ 64 = c.loop-place.invariant.size in
          record {
            size = ap (λ (t : List Bool). length t) is ∙ length-set c.loop-place.awaited (get_or items k 0)
                true ∙ size;
            named = λ a on. named_more c.loop-place.awaited items k c.loop-place-test.true
                c.loop-place.invariant.named a
                (sym (ap (λ (t : List Bool). get_or t a false) is) ∙ on);
            awaits = λ j lt.
                subst (λ (t : List Bool). (get_or t (get_or items j 0) false ≡ true) ⊎ (get_or items j 0 ≡
                c.args.address))
                (sym is) (awaits_more c.loop-place.awaited items k c.args.address (omega arith)
                c.loop-place.invariant.awaits j lt);
          }
      | else-place-address w ↦ record {
        size = ap (λ (t : List Bool). length t) w.awaited-is ∙ c.loop-place.invariant.size;
        named = λ a on. c.loop-place.invariant.named a (sym (ap (λ (t : List Bool). get_or t a false)
            w.awaited-is) ∙ on);
        awaits = λ j lt.
            subst (λ (t : List Bool). (get_or t (get_or items j 0) false ≡ true) ⊎ (get_or items j 0 ≡
            c.args.address))
            (sym w.awaited-is) (awaits_skip c.loop-place.awaited items k c.args.address
            w.if-place-address.false
            c.loop-place.invariant.awaits j lt);
      }
    ]
