use Rattle.std.proofs.Common.{◌∙◌, refl}
use Rattle.owner_mail.specs.News.{plain_news}
use Rattle.owner_mail.specs.Telling.{Screen}
use Rattle.owner_mail.proofs.TellLaws.{on_err, told_end, told_more, told_none, told_stop}
use Rattle.owner_mail.proofs.showing.show_all.Goals as goal

pub loop-one-init : goal.loop-one-init
loop-one-init g c = record {
  faults = refl;
  told = told_none Screen _ _;
}

pub loop-one-preserved : goal.loop-one-preserved
loop-one-preserved g c = record {
  faults = c.in_ok-show_one.ensures.sink ∙ c.loop-one.invariant.faults;
  told = told_more plain_news Screen c.args.news.now c.loop-one.one-index _ _ _ _ _ _ c.one-item.result
      c.loop-one-test.true c.one-item.is c.loop-one.invariant.told c.in_ok-show_one.ensures.told
      c.in_ok-show_one.ensures.noted;
}

pub returns-in_err-show_one-clause-first : goal.returns-in_err-show_one-clause-first
returns-in_err-show_one-clause-first g c =
    on_err c.from_residual.result
    (told_stop plain_news Screen c.args.news.now c.loop-one.one-index _ _ _ _ _ _ c.one-item.result
    c.loop-one-test.true c.one-item.is c.loop-one.invariant.told c.in_err-show_one.ensures.first
    c.in_err-show_one.ensures.same)

pub returns-clause-told : goal.returns-clause-told
returns-clause-told g c =
    told_end plain_news Screen c.args.news.now c.loop-one.one-index _ _ _ _ c.loop-one-test.false
    c.loop-one.invariant.told
