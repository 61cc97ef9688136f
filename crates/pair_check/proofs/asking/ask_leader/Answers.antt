use Rattle.std.proofs.Common.{◌∙◌, ◌+◌, ap, arith, subst}
use Rattle.std.proofs.lemmas.List.{take-replicate}
use Rattle.frame_rules.specs.Frames.{PlainFrame}
use Rattle.pair_check.specs.Answers.{Asks}
use Rattle.pair_check.specs.Questions.{write_question}
use Rattle.pair_check.proofs.asking.ask_leader.Goals as goal

pub returns-clause-asks : goal.returns-clause-asks
returns-clause-asks g c =
    subst (λ (q : PlainFrame). Asks c.args.place.now q c.ask.result (g.N.Counted.seen c.args.net.now).calls
    (g.N.Counted.seen c.ask.new.net).calls)
    (c.to_leader.ensures.frame ∙ ap write_question (take-replicate (2064 + c.args.width) 6160 0 (omega arith)))
    c.ask.ensures.asks
