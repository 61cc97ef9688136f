use Rattle.std.proofs.Common.{◌∙◌, ◌+◌, ap, arith, subst}
use Rattle.std.proofs.lemmas.List.{take-replicate}
use Rattle.frame_rules.specs.Frames.{PlainFrame}
use Rattle.owner_check.specs.Answers.{Asks}
use Rattle.owner_check.specs.Questions.{write_question}
use Rattle.owner_check.proofs.asking.ask_width.Goals as goal

pub returns-clause-asks : goal.returns-clause-asks
returns-clause-asks g c =
    subst (λ (q : PlainFrame). Asks c.args.server.now q c.ask.result (g.N.Counted.seen c.args.net.now).calls
    (g.N.Counted.seen c.ask.new.net).calls)
    (c.with_part.ensures.frame
    ∙ ap (write_question c.args.lane) (take-replicate (2064 + c.args.width) 6160 0 (omega arith)))
    c.ask.ensures.asks
