use Rattle.std.proofs.Common.{sym, ◌∙◌, ap}
use Rattle.box_registry.specs.Boxes.{Boxes, place_of}
use Rattle.store_tests.proofs.EntryLemmas.{differ-now, place_of-entries}
use Rattle.store_tests.proofs.plain.PlainRegistry.box_of.Goals as goal

pub returns-in_err-place-clause-place : goal.returns-in_err-place-clause-place
returns-in_err-place-clause-place c =
    c.from_residual.ensures ∙ sym c.in_err-place.was ∙ c.get_index_of.ensures.index ∙ sym (place_of-entries c.args.address _) ∙ ap (λ (r : Boxes). place_of c.args.address r.boxes) c.self.view_is

pub returns-clause-place : goal.returns-clause-place
returns-clause-place c =
    sym c.in_ok-place.was ∙ c.get_index_of.ensures.index ∙ sym (place_of-entries c.args.address _) ∙ ap (λ (r : Boxes). place_of c.args.address r.boxes) c.self.view_is

pub returns-in_err-place-clause-differ : goal.returns-in_err-place-clause-differ
returns-in_err-place-clause-differ c = differ-now _ _ _ _ c.self.view_is c.self.invariant.same c.self.invariant.differ

pub returns-clause-differ : goal.returns-clause-differ
returns-clause-differ c = differ-now _ _ _ _ c.self.view_is c.self.invariant.same c.self.invariant.differ
