use Rattle.std.proofs.Common.{sym, ◌∙◌, arith}
use Rattle.many_conns.specs.Hall.{IsLooked}
use Rattle.many_conns.proofs.LeadLaws.{leads_then}
use Rattle.many_conns.proofs.ListLaws.{all_next, all_whole}
use Rattle.many_conns.proofs.hall.Hall.gather.Goals as goal

pub loop-place-preserved : goal.loop-place-preserved
loop-place-preserved g c =
    let inv = c.loop-place.invariant in
    let one = c.open_one.ensures in
    let two = c.look_at.ensures in
    record {
      leads = leads_then _ _ _ _ _ _ _ inv.leads (leads_then _ _ _ _ _ _ _ one.leads two.leads);
      goes_on = g.met.H.Hub.goes_on_then _ _ _ inv.goes_on (g.met.H.Hub.goes_on_then _ _ _ one.goes_on two.goes_on);
      nothing_owed = two.keeps.owed ∙ (one.keeps.owed ∙ inv.nothing_owed);
      served = two.keeps.served ∙ (one.keeps.served ∙ inv.served);
      count = inv.count ∙ (sym one.keeps.count ∙ sym two.keeps.count);
      looked = all_next IsLooked _ _ _ _ c.loop-place-test.true (inv.count ∙ (sym one.keeps.count ∙ sym two.keeps.count))
          inv.looked (two.others ∙ one.others) two.looked;
    }

pub returns-clause-looked : goal.returns-clause-looked
returns-clause-looked g c =
    all_whole IsLooked _ c.loop-place.place
    (omega (arith, c.loop-place-test.false, c.loop-place.auto.place-end, c.loop-place.invariant.count)) c.loop-place.invariant.looked
