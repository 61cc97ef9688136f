use Rattle.std.proofs.Common.{◌∙◌, List, ap}
use Rattle.std.proofs.lemmas.List.{take_all}
use Rattle.settings_text.specs.declared.owned.OwnedBox.{OwnedBox}
use Rattle.client_run.specs.Accounts.{account_in, opened}
use Rattle.client_run.proofs.OwnLaws.{with_boxes, none_owned, own_more}
use Rattle.client_run.proofs.account.open.Goals as goal

pub loop-owned-init : goal.loop-owned-init
loop-owned-init c = record {
  opened = c.in_ok-client.ensures.opened ∙ none_owned (account_in c.args.account.now);
  width = c.in_ok-client.ensures.width;
  idle = c.in_ok-client.ensures.idle;
}

pub loop-owned-preserved : goal.loop-owned-preserved
loop-owned-preserved c = record {
  opened = own_more (account_in c.args.account.now) c.loop-owned.client c.own.new.self c.args.account.now.owned.now c.loop-owned.owned-index _ c.own.result
      c.loop-owned-test.true c.requires.owned c.own.ensures.owned c.loop-owned.invariant.opened;
  width = c.own.ensures.width ∙ c.loop-owned.invariant.width;
  idle = c.own.ensures.idle;
}

pub returns : goal.returns
returns c =
    let a = account_in c.args.account.now in
    record {
      opened = c.loop-owned.invariant.opened ∙ ap (λ (boxes : List OwnedBox). opened (with_boxes a boxes)) (take_all c.loop-owned.owned-index c.args.account.now.owned.now c.loop-owned-test.false);
      width = c.loop-owned.invariant.width;
      idle = c.loop-owned.invariant.idle;
    }
