use Rattle.step_laws.proofs.Replies.{acks_are_own, turns_are_own}
use Rattle.step_laws.proofs.answers_are_own.Goals as goal

pub returns : goal.returns
returns c = record { turns = turns_are_own; acks = acks_are_own }
