use Rattle.std.proofs.Common.{◌∙◌, refl}
use Rattle.owner_mail.specs.News.{plain_news}
use Rattle.owner_mail.specs.Targets.{files_of}
use Rattle.owner_mail.proofs.TellLaws.{on_err, told_end, told_more, told_none, told_stop}
use Rattle.owner_mail.proofs.writing.write_all.Goals as goal

pub loop-one-init : goal.loop-one-init
loop-one-init g c = record {
  faults = refl;
  papers = refl;
  told = told_none (files_of c.args.target.now) _ _;
}

pub loop-one-preserved : goal.loop-one-preserved
loop-one-preserved g c = record {
  faults = c.in_ok-write_one.ensures.sink ∙ c.loop-one.invariant.faults;
  papers = c.in_ok-write_one.ensures.papers ∙ c.loop-one.invariant.papers;
  told = told_more plain_news (files_of c.args.target.now) c.args.news.now c.loop-one.one-index _ _ _ _ _ _
      c.one-item.result
      c.loop-one-test.true c.one-item.is c.loop-one.invariant.told c.in_ok-write_one.ensures.told
      c.in_ok-write_one.ensures.noted;
}

pub returns-in_err-write_one-clause-first : goal.returns-in_err-write_one-clause-first
returns-in_err-write_one-clause-first g c =
    on_err c.from_residual.result
    (told_stop plain_news (files_of c.args.target.now) c.args.news.now c.loop-one.one-index _ _ _ _ _ _
    c.one-item.result
    c.loop-one-test.true c.one-item.is c.loop-one.invariant.told c.in_err-write_one.ensures.first
    c.in_err-write_one.ensures.same)

pub returns-clause-told : goal.returns-clause-told
returns-clause-told g c =
    told_end plain_news (files_of c.args.target.now) c.args.news.now c.loop-one.one-index _ _ _ _
    c.loop-one-test.false
    c.loop-one.invariant.told
