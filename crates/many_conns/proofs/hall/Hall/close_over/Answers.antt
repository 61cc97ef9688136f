use Rattle.std.proofs.Common.{sym, ◌∙◌, arith, subst, take, All, ◌+◌}
use Rattle.many_conns.specs.Hall.{IsInTime}
use Rattle.many_conns.proofs.LeadLaws.{leads_then}
use Rattle.many_conns.proofs.ListLaws.{all_next, all_whole}
use Rattle.many_conns.proofs.hall.Hall.close_over.Goals as goal

pub loop-place-preserved : goal.loop-place-preserved
loop-place-preserved g c =
    let inv = c.loop-place.invariant in
    let one = c.close_one.ensures in
    let now = c.close_one.new.self in
    let count = inv.count ∙ sym one.keeps.count in
    record {
      leads = leads_then _ _ _ _ _ _ _ inv.leads one.leads;
      goes_on = g.met.H.Hub.goes_on_then _ _ _ inv.goes_on one.goes_on;
      nothing_owed = one.keeps.owed ∙ inv.nothing_owed;
      count = count;
      looked = one.looked inv.looked;
      served = one.served inv.served;
      in_time = subst (λ n. All (IsInTime g.S.Answering.rules.whole now.patience n) (take (c.loop-place.place + 1) now.places)) (sym one.keeps.now)
          (subst (λ n. All (IsInTime g.S.Answering.rules.whole n c.loop-place.self.now) (take (c.loop-place.place + 1) now.places)) (sym one.keeps.patience)
          (all_next (IsInTime g.S.Answering.rules.whole c.loop-place.self.patience c.loop-place.self.now) c.loop-place.self.places now.places
          c.loop-place.place c.len-place-end.result c.loop-place-test.true count inv.in_time one.others one.in_time));
    }

pub returns-clause-settled : goal.returns-clause-settled
returns-clause-settled g c =
    let inv = c.loop-place.invariant in
    record {
      nothing_owed = inv.nothing_owed;
      looked = inv.looked;
      served = inv.served;
      in_time = all_whole (IsInTime g.S.Answering.rules.whole c.loop-place.self.patience c.loop-place.self.now) c.loop-place.self.places c.loop-place.place
          (omega (arith, c.loop-place-test.false, c.loop-place.auto.place-end, inv.count)) inv.in_time;
    }
