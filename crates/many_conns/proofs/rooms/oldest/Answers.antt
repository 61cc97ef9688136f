use Rattle.std.proofs.Common.{◌≡◌, ◌+◌, true, take, sym, ◌∙◌, subst}
use denote.Enum.Bare.{same_false}
use Rattle.many_words.specs.contracts.door.Door.{the_type}
use Rattle.many_conns.specs.Hall.{IsOldestOf}
use Rattle.many_conns.proofs.PlaceLaws.{read_is}
use Rattle.many_conns.proofs.ListLaws.{all_more, one_more}
use Rattle.many_conns.proofs.OldestLaws.{skipped}
use Rattle.many_conns.proofs.rooms.oldest.Goals as goal
use Rattle.many_conns.proofs.rooms.oldest.Goals.{then-eq+else-not-is_live, else-eq}

pub loop-place-preserved : goal.loop-place-preserved
loop-place-preserved c =
    let places = c.args.places.now in
    let place = c.loop-place.place in
    let inv = c.loop-place.invariant in
    let x = c.index-places-place.result in
    elim c.if-eq.branch [
      | then-eq+else-not-is_live w ↦ record {
        full = all_more (λ p. p.door ≡ c.args.door → p.live ≡ true) places place c.loop-place-test.true inv.full
            (read_is (λ p. p.door ≡ c.args.door → p.live ≡ true) places place w.index-places-place-then-eq.result w.index-places-place-then-eq.is
            (λ of. sym w.is_live.ensures ∙ w.if-not-is_live.false));
        oldest = subst (IsOldestOf c.args.door (take (place + 1) places) places) (sym w.best-is) w.older.ensures;
      }
      | else-eq w ↦
          let other : x.door ≡ c.args.door → ⊥ = λ of.
          same_false the_type c.door.result c.args.door (sym c.eq.ensures ∙ w.if-eq.false) (c.door.ensures ∙ of) in
          record {
            full = one_more (λ p. p.door ≡ c.args.door → p.live ≡ true) places place x c.loop-place-test.true c.index-places-place.is
                (λ of. absurd (other of)) inv.full;
            oldest = subst (IsOldestOf c.args.door (take (place + 1) places) places) (sym w.best-is)
                (skipped c.args.door places place _ x other c.loop-place-test.true c.index-places-place.is inv.oldest);
          }
    ]
