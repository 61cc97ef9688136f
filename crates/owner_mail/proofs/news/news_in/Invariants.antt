use Rattle.std.proofs.Common.{◌≡◌, ◌++◌, length, map}
use Rattle.std.specs.List.{flat_map}
use Rattle.owner_mail.specs.News.{news_of, plain_news}
use Rattle.owner_mail.proofs.news.news_in.Given as goal

abbrev pub invariant-loop-rest : goal.invariant-loop-rest
invariant-loop-rest l =
    map plain_news l.news.items ++ flat_map (news_of l.handling l.ledger.state.marks) l.rest
    ≡ flat_map (news_of l.handling l.ledger.state.marks) l.mails

abbrev pub decreases-loop-rest : goal.decreases-loop-rest
decreases-loop-rest l = length l.rest
