use Rattle.desk_outbox.proofs.reopening.card_in.Goals as goal

pub returns-in-Err-Wrong-clause-none : goal.returns-in-Err-Wrong-clause-none
returns-in-Err-Wrong-clause-none c =
    let bad = rw c.in-Err-Wrong.field-0-is at c.in-Err-Wrong.ensures.sheet in
    λ other card spells. let good = c.sheet_is_read_exactly.ensures.only c.args.text.now card spells in cc
