use Rattle.std.proofs.Common.{◌≡◌, ◌==◌, position, ◌++◌, ◌∷◌, [], nat_eq, arith, sym, ◌∙◌, ap, subst}
use Rattle.std.specs.Map.{keys_of}
use Rattle.indexmap.proofs.CallerLemmas.{insert_entry-new}
use Rattle.box_registry.specs.Boxes.{Boxes, Differ, place_of, with_box}
use Rattle.store_tests.specs.Entries.{boxes_of_entries}
use Rattle.box_registry.proofs.DifferLemmas.{differ-push}
use Rattle.store_tests.proofs.EntryLemmas.{addresses-now, addresses_of-entries, boxes_of_entries-push, keys_of-push, absent, length-now}
use Rattle.store_tests.proofs.plain.PlainRegistry.append.Goals as goal

entries_are : (c : goal.In-Ok) → c.insert.new.self.entries ≡ c.self.inside.by_address.entries ++ (c.args.address, c.args.key.now) ∷ []
entries_are c =
    let none = absent c.args.address _ (ap (λ (r : Boxes). place_of c.args.address r.boxes) c.self.view_is ∙ c.requires.new) in
    c.in-Ok.ensures.entries ∙ insert_entry-new nat_eq c.self.inside.by_address c.args.address c.args.key.now none

pub invariant_of-self-in-Ok : goal.invariant_of-self-in-Ok
invariant_of-self-in-Ok c =
    let count = length-now _ _ _ _ c.self.view_is c.self.invariant.same in
    let limit : c.self.inside.limit ≡ c.args.self.now.limit = ap (λ (r : Boxes). r.limit) c.self.view_is in
    let none = ap (position (λ other. other == c.args.address)) (addresses-now _ _ _ _ c.self.view_is c.self.invariant.same) ∙ c.requires.new in
    record {
      same = c.in_ok-push.ensures.items ∙ ap (λ xs. xs ++ c.args.address ∷ []) c.self.invariant.same ∙ sym (ap keys_of (entries_are c) ∙ keys_of-push _ _);
      within = omega (arith, count, limit, c.in_ok-push.ensures.len, c.requires.room);
      countable = c.self.invariant.countable;
      differ = rw c.in_ok-push.ensures.items (differ-push c.self.inside.addresses.items c.args.address c.self.invariant.differ none);
    }

pub returns-in-Ok-clause-ok : goal.returns-in-Ok-clause-ok
returns-in-Ok-clause-ok c =
    ap (λ boxes. let r : Boxes = record { limit = c.self.inside.limit; boxes = boxes } in r) (ap boxes_of_entries (entries_are c) ∙ boxes_of_entries-push _ _)
    ∙ ap (λ (r : Boxes). with_box r c.args.address c.args.key.now) c.self.view_is

pub returns-in-Ok-clause-differ : goal.returns-in-Ok-clause-differ
returns-in-Ok-clause-differ c =
    let none = ap (position (λ other. other == c.args.address)) (addresses-now _ _ _ _ c.self.view_is c.self.invariant.same) ∙ c.requires.new in
    subst Differ
    (ap (λ xs. xs ++ c.args.address ∷ []) c.self.invariant.same ∙ sym (ap keys_of (entries_are c) ∙ keys_of-push _ _) ∙ sym (addresses_of-entries _))
    (differ-push c.self.inside.addresses.items c.args.address c.self.invariant.differ none)
