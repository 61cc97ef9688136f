use Rattle.std.proofs.Common.{◌≡◌, ◌++◌, length, map}
use Rattle.std.specs.List.{filter}
use Rattle.owner_mail.specs.News.{Arrived, is_due, letter_news, plain_news}
use Rattle.owner_mail.proofs.news.add_letters.Given as goal

abbrev pub invariant-loop-rest : goal.invariant-loop-rest
invariant-loop-rest l =
    map plain_news l.news.items ++ map (Arrived l.mail) (filter (is_due l.handling l.ledger.state.marks)
    l.rest)
    ≡ map plain_news l.fn.news.items ++ letter_news l.handling l.ledger.state.marks l.mail

abbrev pub decreases-loop-rest : goal.decreases-loop-rest
decreases-loop-rest l = length l.rest
