use Rattle.std.proofs.Common.{sym, ap, ◌∙◌, subst, slice_set, arith}
use Rattle.std.specs.Prelude.{Some}
use Rattle.many_conns.specs.Places.{taken}
use Rattle.many_conns.specs.Batches.{put_some}
use Rattle.many_conns.proofs.PlaceLaws.{read_at}
use Rattle.many_conns.proofs.filling.take_at.Goals as goal

pub returns-then-place-len : goal.returns-then-place-len
returns-then-place-len c =
    let places = c.args.places.now.items in
    ap (λ p. slice_set places c.args.place p) c.take.ensures
    ∙ sym (ap (put_some places c.args.place (taken c.args.now c.args.count))
    (read_at places c.args.place c.index_mut.result.now (omega (arith, c.len.ensures, c.if-place-len.true)) c.index_mut.ensures.value))
