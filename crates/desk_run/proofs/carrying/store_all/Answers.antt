use Rattle.std.proofs.Common.{◌∙◌, ap, subst, sym, Ok, Option}
use Rattle.express_words.specs.declared.refusal.Refusal.{Refusal}
use Rattle.desk_run.specs.Works.{StoresOn, unstored}
use Rattle.desk_run.proofs.WorkLaws.{store_end, store_step}
use Rattle.desk_run.proofs.carrying.store_all.Goals as goal

pub outcomes-init : goal.outcomes-init
outcomes-init g c = unstored

pub returns-in-None-clause-stores : goal.returns-in-None-clause-stores
returns-in-None-clause-stores g c =
    store_end c.args.seconds c.outcomes.refused c.args.ledger.now c.outcomes.ledger c.store.new.self c.store.result
    (c.in_ok-store.was ∙ ap (λ x. Ok x) c.in-None.is) c.outcomes.invariant c.store.ensures.none c.store.ensures.stores

pub outcomes-preserved : goal.outcomes-preserved
outcomes-preserved g c =
    subst (λ (refused : Option Refusal). StoresOn c.args.seconds c.args.ledger.now refused c.store.new.self)
    (sym c.last_refused-refused.ensures)
    (store_step c.args.seconds c.outcomes.refused c.args.ledger.now c.outcomes.ledger c.store.new.self c.in-Some.stored c.store.result
    (c.in_ok-store.was ∙ ap (λ x. Ok x) c.in-Some.is) c.outcomes.invariant c.store.ensures.none c.store.ensures.stores)
