use Rattle.desk_run.proofs.cards.card.Goals as goal

pub returns-clause-done : goal.returns-clause-done
returns-clause-done g c =
    record { ledger = c.in_ok-ledger.ledger; opens = c.in_ok-ledger.ensures.opens; card = c.in_ok-shown.ensures.card }
