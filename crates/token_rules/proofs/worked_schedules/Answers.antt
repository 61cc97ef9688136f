use Rattle.token_rules.proofs.Worked as lemma
use Rattle.token_rules.proofs.worked_schedules.Goals as goal

pub returns : goal.returns
returns c =
    let worked = lemma.worked in
    record {
      repeated = worked.repeated;
      order = worked.order;
      between = worked.between;
      lost = worked.lost;
      full = worked.full;
      never = worked.never;
    }
