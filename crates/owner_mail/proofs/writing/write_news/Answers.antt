use Rattle.owner_mail.specs.Targets.{files_of}
use Rattle.owner_mail.specs.Telling.{state_of}
use Rattle.owner_mail.proofs.TellLaws.{first_none, new_met, on_err, tells_first, tells_new}
use Rattle.owner_mail.proofs.writing.write_news.Goals as goal

pub returns-in_err-mails-clause-first : goal.returns-in_err-mails-clause-first
returns-in_err-mails-clause-first g c = on_err c.from_residual.result (first_none (files_of
    c.args.target.now) _ _)

pub returns-in_err-news-clause-first : goal.returns-in_err-news-clause-first
returns-in_err-news-clause-first g c = on_err c.from_residual-in_err-news.result (first_none (files_of
    c.args.target.now) _ _)

pub returns-in_err-write_all-clause-first : goal.returns-in_err-write_all-clause-first
returns-in_err-write_all-clause-first g c =
    on_err c.from_residual-in_err-write_all.result
    (tells_first (files_of c.args.target.now) (state_of c.args.kept.now) _ _ _ c.in_ok-mails.mails.items
    c.as_slice-all.result.now
    c.in_ok-news.news.items c.as_slice-shown.result.now c.in_ok-mails.ensures c.as_slice-all.ensures.value
    c.in_ok-news.ensures c.as_slice-shown.ensures.value c.in_err-write_all.ensures.first)

pub returns-clause-told : goal.returns-clause-told
returns-clause-told g c =
    tells_new (files_of c.args.target.now) (state_of c.args.kept.now) _ _ _ c.in_ok-mails.mails.items
    c.as_slice-all.result.now
    c.in_ok-news.news.items c.as_slice-shown.result.now c.in_ok-mails.ensures c.as_slice-all.ensures.value
    c.in_ok-news.ensures c.as_slice-shown.ensures.value c.news_told.result c.in_ok-write_all.ensures.told
    c.news_told.ensures.any c.news_told.ensures.met

pub returns-clause-met : goal.returns-clause-met
returns-clause-met g c = λ so. new_met (files_of c.args.target.now) c.news_told.result (state_of
    c.args.kept.now) _ _ _
    (tells_new (files_of c.args.target.now) (state_of c.args.kept.now) _ _ _ c.in_ok-mails.mails.items
    c.as_slice-all.result.now
    c.in_ok-news.news.items c.as_slice-shown.result.now c.in_ok-mails.ensures c.as_slice-all.ensures.value
    c.in_ok-news.ensures c.as_slice-shown.ensures.value c.news_told.result c.in_ok-write_all.ensures.told
    c.news_told.ensures.any c.news_told.ensures.met) so
