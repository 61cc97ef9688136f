use Rattle.std.proofs.Common.{ap, subst, Option}
use Rattle.express_words.specs.declared.refusal.Refusal.{Refusal}
use Rattle.desk_run.specs.Works.{Settles}
use Rattle.desk_run.proofs.WorkLaws.{later_rests, settles_so}
use Rattle.desk_run.proofs.carrying.settle.Goals as goal

pub returns-in-Err-clause-behind : goal.returns-in-Err-clause-behind
returns-in-Err-clause-behind g c n is =
    let later = c.halted.ensures.behind n (cc is) in
    later_rests c.work.result _ _ _ c.in-Err.is c.work.ensures.net_fault later.0 later.1

pub returns-in-None-clause-settles : goal.returns-in-None-clause-settles
returns-in-None-clause-settles g c =
    subst (λ (refused : Option Refusal). Settles refused c.args.ledger.now c.store_all.new.ledger (g.N.Counted.seen c.args.net.now).calls
    (g.N.Counted.seen c.work.new.net).calls)
    c.in-None.is
    (settles_so c.in_ok-store_all.field-0 c.args.ledger.now c.work.new.self c.store_all.new.ledger c.work.result _ _ c.in_default.is
    (λ none. let h = c.work.ensures.idle none in (h.0, h.1, ap (λ net. (g.N.Counted.seen net).calls) h.2)) c.work.ensures.works
    c.work.ensures.ended c.work.ensures.entries c.work.ensures.pair c.work.ensures.opening c.in_ok-store_all.ensures.stores)

pub returns-in-Some-clause-settles : goal.returns-in-Some-clause-settles
returns-in-Some-clause-settles g c =
    subst (λ (refused : Option Refusal). Settles refused c.args.ledger.now c.store_all.new.ledger (g.N.Counted.seen c.args.net.now).calls
    (g.N.Counted.seen c.work.new.net).calls)
    c.in-Some.is
    (settles_so c.in_ok-store_all.field-0 c.args.ledger.now c.work.new.self c.store_all.new.ledger c.work.result _ _ c.in_default.is
    (λ none. let h = c.work.ensures.idle none in (h.0, h.1, ap (λ net. (g.N.Counted.seen net).calls) h.2)) c.work.ensures.works
    c.work.ensures.ended c.work.ensures.entries c.work.ensures.pair c.work.ensures.opening c.in_ok-store_all.ensures.stores)
