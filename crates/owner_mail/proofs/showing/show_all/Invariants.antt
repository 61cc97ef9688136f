use Rattle.std.proofs.Common.{◌≡◌, map, take}
use Rattle.owner_mail.specs.News.{plain_news}
use Rattle.owner_mail.specs.Telling.{Screen, TellsAll, state_of}
use Rattle.owner_mail.proofs.showing.show_all.Given as goal

abbrev pub invariant-loop-one : goal.invariant-loop-one
invariant-loop-one g l = record {
  faults : (g.K.Counted.seen l.out).faults ≡ (g.K.Counted.seen l.fn.out).faults;
  told : TellsAll Screen (map plain_news (take l.one-index l.news)) (state_of l.fn.kept) (state_of l.kept)
      (g.K.Counted.seen l.fn.out).written (g.K.Counted.seen l.out).written;
}
