use Rattle.std.proofs.Common.{sym, ap, ◌∙◌, true, arith}
use Rattle.many_conns.specs.Places.{taken}
use Rattle.many_conns.proofs.ListLaws.{drop_at_most}
use Rattle.many_conns.proofs.place.Place.take.Goals as goal

pub returns : goal.returns
returns c =
    ap (λ held. record {
      door = c.self.inside.door;
      live = c.self.inside.live;
      held = held;
      ended = c.self.inside.ended;
      finished = c.self.inside.finished;
      pending = true;
      waits = c.self.inside.waits;
      since = c.args.now;
      due = c.self.inside.due;
      asked = c.self.inside.asked;
    }) (c.remove_front.ensures.held ∙ drop_at_most c.self.inside.held.items c.args.count _ (omega (arith, c.min-count.ensures, c.len.ensures))) ∙ ap (taken c.args.now c.args.count) c.self.view_is
