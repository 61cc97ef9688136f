use Rattle.std.proofs.Common.{◌≡◌, Option, subst}
use Rattle.std.specs.Prelude.{IfSome}
use Rattle.desk_ledger.specs.declared.outcomes.Oldest.{Oldest}
use Rattle.desk_ledger.specs.Storing.{Misses, stored_of}
use Rattle.desk_ledger.proofs.StoreLaws.{stores_found}
use Rattle.desk_ledger.proofs.ledger.Ledger.store.Goals as goal

pub returns-in-Ok-Some-clause-stores : goal.returns-in-Ok-Some-clause-stores
returns-in-Ok-Some-clause-stores g c e rest is =
    stores_found c.args.seconds e c.args.self.now c.store_one.new.self c.store_one.result c.in-Ok-Some.found.stored c.in-Ok-Some.found.entry
    (subst (λ (o : Option Oldest). IfSome o (λ x. x.stored ≡ stored_of e)) c.in-Ok-Some.field-0-is (c.in-Ok-Some.ensures.stored e rest is)) (subst (λ (o : Option Oldest). IfSome o (λ x. Misses c.args.self.now.entries c.args.self.now.client.core.boxes c.args.seconds e x.entry))
    c.in-Ok-Some.field-0-is (c.in-Ok-Some.ensures.misses e rest is))
    c.store_one.ensures.answer c.store_one.ensures.noted c.store_one.ensures.not_noted c.store_one.ensures.told c.store_one.ensures.untold c.store_one.ensures.pair
    c.store_one.ensures.opening c.store_one.ensures.boxes c.store_one.ensures.client
