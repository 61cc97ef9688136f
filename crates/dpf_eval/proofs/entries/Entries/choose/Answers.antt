use Rattle.dpf_eval.proofs.ChosenLemmas.{chosen_inside}
use Rattle.dpf_eval.proofs.entries.Entries.choose.Goals as goal

pub addresses_into-requires-clause-inside : goal.addresses_into-requires-clause-inside
addresses_into-requires-clause-inside c =
    rw (c.deref.ensures.value, c.choose.ensures.chosen)
    (chosen_inside c.args.sorted.addresses.now c.args.sorted.order.now c.args.count c.requires.order c.requires.there)
