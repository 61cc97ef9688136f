use Rattle.std.proofs.Common.{◌∙◌, ap}
use Rattle.dpf_rules.specs.Walk.{leaf_of}
use Rattle.std.specs.Prelude.{slice_index}
use Rattle.client_core.specs.States.{client_in}
use Rattle.client_core.proofs.WriteLemmas.{difference_is}
use Rattle.client_core.proofs.state.ClientState.difference.Goals as goal

pub returns : goal.returns
returns c =
    let s = c.args.self.now in
    let part = c.in-Some.ensures.value ∙ c.deref.ensures.value in
    difference_is (client_in s) c.args.target s.message.items s.part.items c.args.words.now _ _ c.requires.keyed c.requires.words
    (c.walk.ensures ∙ ap (λ p. leaf_of p 0 (slice_index c.args.words.now 0) c.args.target) part)
    (c.walk-2.ensures ∙ ap (λ p. leaf_of p 1 (slice_index c.args.words.now 1) c.args.target) part)
