use Rattle.std.proofs.Common.{List, refl, sym, ap, ◌∙◌}
use Rattle.std.specs.Prelude.{slice_get}
use Rattle.frame_rules.specs.Frames.{plain}
use Rattle.step_rules.specs.Boxes.{Box}
use Rattle.step_rules.specs.LeaderClients.{if_named, if_token}
use Rattle.leader_core.specs.Saying.{said_in}
use Rattle.leader_core.proofs.ClientLemmas.{no_box, its_token, other_token}
use Rattle.leader_core.proofs.clients.named_box.Goals as goal

pub returns-in_default-clause-turn : goal.returns-in_default-clause-turn
unfolding if_named
returns-in_default-clause-turn c a same issued = rw c.in_default.is refl

pub returns-in_default-key_of-clause-turn : goal.returns-in_default-key_of-clause-turn
unfolding if_named
returns-in_default-key_of-clause-turn c a same issued =
    rw c.in-Some.is
    (ap (λ (xs : List Box). if_token a (plain c.args.frame.now) c.in-Some.named.number c.in-Some.named.held (slice_get xs c.in-Some.named.number) issued) same
    ∙ (no_box a (plain c.args.frame.now) c.in-Some.named.number c.in-Some.named.held issued _ (c.key_of.ensures.key ∙ c.in_default-key_of.is)
    ∙ ap (said_in a (plain c.args.frame.now)) (sym c.refused.ensures)))

pub returns-then-named-token-clause-turn : goal.returns-then-named-token-clause-turn
unfolding if_named
returns-then-named-token-clause-turn c a same issued =
    rw c.in-Some.is
    (ap (λ (xs : List Box). if_token a (plain c.args.frame.now) c.in-Some.named.number c.in-Some.named.held (slice_get xs c.in-Some.named.number) issued) same
    ∙ its_token a (plain c.args.frame.now) c.in-Some.named.number c.in-Some.named.held issued _ c.in-Some-key_of.key (c.key_of.ensures.key ∙ c.in-Some-key_of.is) (c.if-named-token.true ∙ c.token.ensures))

pub returns-else-named-token-clause-turn : goal.returns-else-named-token-clause-turn
unfolding if_named
returns-else-named-token-clause-turn c a same issued =
    rw c.in-Some.is
    (ap (λ (xs : List Box). if_token a (plain c.args.frame.now) c.in-Some.named.number c.in-Some.named.held (slice_get xs c.in-Some.named.number) issued) same
    ∙ (other_token a (plain c.args.frame.now) c.in-Some.named.number c.in-Some.named.held issued _ c.in-Some-key_of.key (c.key_of.ensures.key ∙ c.in-Some-key_of.is) (λ right. c.if-named-token.false (right ∙ sym c.token.ensures))
    ∙ ap (said_in a (plain c.args.frame.now)) (sym c.refused-else-named-token.ensures)))
