use Rattle.desk_run.proofs.standing.status.Goals as goal

pub returns-clause-done : goal.returns-clause-done
returns-clause-done g c = record {
  ledger = c.in_ok-ledger.ledger;
  files = _;
  finds = c.in_ok-ledger.ensures.told;
  mid = _;
  tells = c.in_ok-said.ensures.told;
  letters = c.in_ok-say_letters.ensures.said;
}
