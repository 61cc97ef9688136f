use Rattle.std.proofs.Common.{arith}
use Rattle.many_conns.proofs.OldestLaws.{still_oldest, now_oldest, first_oldest}
use Rattle.many_conns.proofs.rooms.older.Goals as goal

pub returns-then-since : goal.returns-then-since
returns-then-since c =
    still_oldest c.args.door c.args.places.now c.args.place _ _ c.index-places-best.result c.index-places-place.result c.in-Some.is c.requires.so_far c.requires.place
    c.index-places-best.is c.index-places-place.is (omega (arith, c.if-since.true, c.since.ensures, c.since-in-Some.ensures))

pub returns-else-since : goal.returns-else-since
returns-else-since c =
    now_oldest c.args.door c.args.places.now c.args.place _ _ c.index-places-best.result c.index-places-place.result c.in-Some.is c.requires.so_far c.requires.place c.requires.door
    c.index-places-best.is c.index-places-place.is (omega (arith, c.if-since.false, c.since.ensures, c.since-in-Some.ensures))

pub returns-in-None : goal.returns-in-None
returns-in-None c = first_oldest c.args.door c.args.places.now c.args.place _ c.in-None.is c.requires.so_far c.requires.place c.requires.door
