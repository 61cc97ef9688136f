use Rattle.std.proofs.Common.{subst, sym}
use Rattle.std.specs.Prelude.{OnErr}
use Rattle.owner_mail.specs.declared.news.News.{News}
use Rattle.owner_mail.specs.News.{plain_news}
use Rattle.owner_mail.specs.Targets.{files_of}
use Rattle.owner_mail.specs.Telling.{PrintsFirst, TellsItem}
use Rattle.owner_mail.proofs.TellLaws.{first_nothing, on_err}
use Rattle.owner_mail.proofs.writing.write_one.Goals as goal

pub returns-in_err-write_file-in-Letter-clause-first : goal.returns-in_err-write_file-in-Letter-clause-first
returns-in_err-write_file-in-Letter-clause-first g c =
    on_err c.from_residual.result
    (first_nothing (TellsItem (files_of c.args.target.now) (plain_news c.args.one.now)) _)

pub returns-in_ok-write_file-in-Letter-clause-first : goal.returns-in_ok-write_file-in-Letter-clause-first
returns-in_ok-write_file-in-Letter-clause-first g c =
    subst (λ (x : News). OnErr c.tell_file.result (PrintsFirst (TellsItem (files_of c.args.target.now)
    (plain_news
    x)) (g.K.Counted.seen c.args.out.now).written (g.K.Counted.seen c.tell_file.new.out).written))
    (sym c.in-Letter.is) c.tell_file.ensures.first
