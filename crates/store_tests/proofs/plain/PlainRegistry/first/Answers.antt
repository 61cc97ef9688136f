use Rattle.std.proofs.Common.{take, sym, ◌∙◌, ap, subst}
use Rattle.box_registry.specs.Boxes.{Boxes, Differ, addresses_of}
use Rattle.box_registry.proofs.DifferLemmas.{differ-take}
use Rattle.store_tests.proofs.EntryLemmas.{addresses_of-entries}
use Rattle.store_tests.proofs.plain.PlainRegistry.first.Goals as goal

pub returns-clause-first : goal.returns-clause-first
returns-clause-first c =
    ap (take c.args.count) (c.deref.ensures.value ∙ c.self.invariant.same ∙ sym (addresses_of-entries _) ∙ ap (λ (r : Boxes). addresses_of r.boxes) c.self.view_is)

pub returns-clause-differ : goal.returns-clause-differ
returns-clause-differ c =
    subst Differ (ap (take c.args.count) (sym c.deref.ensures.value)) (differ-take c.args.count c.self.inside.addresses.items c.self.invariant.differ)
