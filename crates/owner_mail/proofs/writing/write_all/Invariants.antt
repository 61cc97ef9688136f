use Rattle.std.proofs.Common.{◌≡◌, map, take}
use Rattle.owner_mail.specs.News.{plain_news}
use Rattle.owner_mail.specs.Targets.{files_of}
use Rattle.owner_mail.specs.Telling.{TellsAll, state_of}
use Rattle.owner_mail.proofs.writing.write_all.Given as goal

abbrev pub invariant-loop-one : goal.invariant-loop-one
invariant-loop-one g l = record {
  faults : (g.K.Counted.seen l.out).faults ≡ (g.K.Counted.seen l.fn.out).faults;
  papers : (g.P.Counted.seen l.papers).faults ≡ (g.P.Counted.seen l.fn.papers).faults;
  told : TellsAll (files_of l.target) (map plain_news (take l.one-index l.news)) (state_of l.fn.kept)
      (state_of l.kept) (g.K.Counted.seen l.fn.out).written (g.K.Counted.seen l.out).written;
}
