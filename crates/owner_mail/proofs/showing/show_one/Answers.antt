use Rattle.std.proofs.Common.{subst, sym}
use Rattle.std.specs.Prelude.{OnErr}
use Rattle.owner_mail.specs.declared.news.News.{News}
use Rattle.owner_mail.specs.News.{plain_news}
use Rattle.owner_mail.specs.Telling.{PrintsFirst, Screen, TellsItem}
use Rattle.owner_mail.proofs.showing.show_one.Goals as goal

pub returns-in-Letter-clause-first : goal.returns-in-Letter-clause-first
returns-in-Letter-clause-first g c =
    subst (λ (x : News). OnErr c.show_letter.result (PrintsFirst (TellsItem Screen (plain_news x))
    (g.K.Counted.seen c.args.out.now).written (g.K.Counted.seen c.show_letter.new.out).written))
    (sym c.in-Letter.is) c.show_letter.ensures.first
