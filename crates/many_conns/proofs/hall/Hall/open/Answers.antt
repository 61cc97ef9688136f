use Rattle.std.proofs.Common.{sym, ap, subst, refl, All, inl}
use Rattle.many_conns.specs.Doors.{free_places}
use Rattle.many_conns.specs.Hall.{IsLooked, IsInTime}
use Rattle.many_conns.proofs.OpenLaws.{opened_looked, opened_in_time}
use Rattle.many_conns.proofs.hall.Hall.open.Goals as goal

pub returns-clause-settled : goal.returns-clause-settled
returns-clause-settled g c = record {
  nothing_owed = ap (λ b. b.entries) c.in_ok-open.ensures;
  looked = subst (All IsLooked) (sym c.in_ok-free_places.ensures) (opened_looked c.args.doors);
  served = inl refl;
  in_time = subst (All (IsInTime g.S.Answering.rules.whole c.args.bounds.patience 0)) (sym c.in_ok-free_places.ensures)
      (opened_in_time g.S.Answering.rules.whole c.args.bounds.patience 0 c.args.doors);
}
