use Rattle.std.proofs.Common.{◌<◌, ◌≤◌, ◌++◌, ◌∷◌, [], sym, inl, inr, arith, length, length-append}
use Rattle.std.proofs.lemmas.Bool.{cases_lt, both_ways}
use Rattle.box_registry.proofs.DifferLemmas.{differ-push}
use Rattle.box_registry.proofs.RowLemmas.{differ-now, differ-rows, answer-taken, answer-full, answer-next, one_row_more}
use Rattle.box_registry.proofs.registry.Registry.add.Goals as goal

pub returns-in-Some-clause-answer : goal.returns-in-Some-clause-answer
returns-in-Some-clause-answer c =
    answer-taken c.self.inside.limit c.self.inside.frontier.addresses c.self.inside.keys.items c.args.self.now c.self.view_is
    c.self.invariant.as_many c.args.address c.in-Some.box_number c.in-Some.ensures.place

pub returns-in-None-clause-answer : goal.returns-in-None-clause-answer
returns-in-None-clause-answer c =
    let full : c.self.inside.limit ≤ length c.self.inside.frontier.addresses =
    omega (arith, c.is_full.ensures.0 c.if-is_full.true, c.self.invariant.limit_same) in
    answer-full c.self.inside.limit c.self.inside.frontier.addresses c.self.inside.keys.items c.args.self.now c.self.view_is
    c.self.invariant.as_many c.args.address c.in-None.ensures.place full

pub returns-in-None-2-clause-answer : goal.returns-in-None-2-clause-answer
returns-in-None-2-clause-answer c =
    let room : length c.self.inside.frontier.addresses < c.self.inside.limit =
    elim (cases_lt (length c.self.inside.frontier.addresses) c.self.inside.limit) [
      | inl below ↦ below
      | inr full ↦
          absurd (both_ways c.is_full.result c.if-is_full.false (c.is_full.ensures.1 (omega (arith, c.self.invariant.limit_same))))
    ] in
    rw c.count-box_number.ensures.count
    (answer-next c.self.inside.limit c.self.inside.frontier.addresses c.self.inside.keys.items c.args.self.now c.self.view_is
    c.self.invariant.as_many c.args.address c.in-None.ensures.place room)

pub returns-in-None-2-clause-added : goal.returns-in-None-2-clause-added
returns-in-None-2-clause-added c =
    rw (c.insert.ensures, c.push_reserved.ensures.items)
    (one_row_more c.self.inside.limit c.self.inside.frontier.addresses c.self.inside.keys.items c.args.self.now c.self.view_is
    c.self.invariant.as_many c.args.address c.args.key.now)

pub returns-in-Some-clause-differ : goal.returns-in-Some-clause-differ
returns-in-Some-clause-differ c = differ-now c.self.inside.limit c.self.inside.frontier.addresses c.self.inside.keys.items c.args.self.now c.self.view_is c.self.invariant.as_many c.self.invariant.differ

pub returns-in-None-clause-differ : goal.returns-in-None-clause-differ
returns-in-None-clause-differ c = differ-now c.self.inside.limit c.self.inside.frontier.addresses c.self.inside.keys.items c.args.self.now c.self.view_is c.self.invariant.as_many c.self.invariant.differ

pub invariant_of-self : goal.invariant_of-self
invariant_of-self c =
    let room : length c.self.inside.frontier.addresses < c.self.inside.limit =
    elim (cases_lt (length c.self.inside.frontier.addresses) c.self.inside.limit) [
      | inl below ↦ below
      | inr full ↦
          absurd (both_ways c.is_full.result c.if-is_full.false (c.is_full.ensures.1 (omega (arith, c.self.invariant.limit_same))))
    ] in
    record {
      limit_same = rw c.insert.ensures c.self.invariant.limit_same;
      as_many = rw (c.insert.ensures, c.push_reserved.ensures.items) (simp length-append (omega (arith, c.self.invariant.as_many)));
      within = rw c.insert.ensures (simp length-append (omega (arith, room)));
      differ = rw c.insert.ensures (differ-push c.self.inside.frontier.addresses c.args.address c.self.invariant.differ (sym c.in-None-2.ensures.place));
      keys_fit = omega (arith, c.push_reserved.ensures.capacity, c.self.invariant.keys_fit);
    }

pub returns-in-None-2-clause-differ : goal.returns-in-None-2-clause-differ
returns-in-None-2-clause-differ c =
    rw (c.insert.ensures, c.push_reserved.ensures.items)
    (differ-rows (c.self.inside.frontier.addresses ++ c.args.address ∷ []) (c.self.inside.keys.items ++ c.args.key.now ∷ []) (simp length-append (omega (arith, c.self.invariant.as_many)))
    (differ-push c.self.inside.frontier.addresses c.args.address c.self.invariant.differ (sym c.in-None-2.ensures.place)))
