use Rattle.std.proofs.Common.{◌∙◌, ap, inl, inr, length, Some}
use Rattle.desk_run.proofs.NameLaws.{used_name}
use Rattle.desk_run.proofs.boxes.want.Goals as goal

pub returns-in-Ok-clause-wants : goal.returns-in-Ok-clause-wants
returns-in-Ok-clause-wants g c = inr (record {
  addresses = c.deref.result.now;
  many = ap length c.deref.ensures.value ∙ c.in_ok-addresses.ensures;
  free = rw c.in-Ok.is at c.in_ok-add_name.ensures.taken;
  noted = rw c.in-Ok.is at c.in_ok-add_name.ensures.noted;
  only = c.in_ok-add_name.ensures.only;
})

pub returns-in-Err-Used-clause-wants : goal.returns-in-Err-Used-clause-wants
returns-in-Err-Used-clause-wants g c =
    let refused = rw c.in-Err-Used.is at c.in_ok-add_name.ensures.refused in
    inl (record {
      used = used_name c.args.ledger.now.client.opening.capacity c.args.ledger.now.client.core.boxes c.args.ledger.now.entries
          c.args.wanted.now.name.now c.deref.result.now (refused ∙ ap (λ f. Some f) c.in-Err-Used.field-0-is);
      same = rw c.in-Err-Used.is at c.in_ok-add_name.ensures.refused_stays;
    })
