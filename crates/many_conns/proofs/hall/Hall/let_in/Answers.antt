use Rattle.std.proofs.Common.{◌∙◌}
use Rattle.many_conns.proofs.LeadLaws.{leads_then}
use Rattle.many_conns.proofs.hall.Hall.let_in.Goals as goal

pub loop-preserved : goal.loop-preserved
loop-preserved g c =
    let inv = c.loop.invariant in
    let one = c.make_room.ensures in
    let two = c.open_one.ensures in
    record {
      leads = leads_then _ _ _ _ _ _ _ inv.leads (leads_then _ _ _ _ _ _ _ one.leads two.leads);
      goes_on = g.met.H.Hub.goes_on_then _ _ _ inv.goes_on (g.met.H.Hub.goes_on_then _ _ _ one.goes_on two.goes_on);
      nothing_owed = two.keeps.owed ∙ one.nothing_owed;
      served = two.keeps.served ∙ (one.served ∙ inv.served);
    }

pub returns-in_default-clause-leads : goal.returns-in_default-clause-leads
returns-in_default-clause-leads g c = leads_then _ _ _ _ _ _ _ c.loop.invariant.leads c.make_room.ensures.leads
