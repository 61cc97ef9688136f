use Rattle.std.proofs.Common.{◌≡◌, [], List, ℕ, Ok, Err, ◌++◌, codes, refl}
use Rattle.node_serve.specs.Tallies.{tally_text}
use Rattle.node_serve.specs.declared.stop.Halt.{Halt}
use Rattle.node_serve.specs.declared.stop.Halt.TheVariants as halt
use Rattle.express_cli.specs.Around.{over}
use Rattle.express_cli.specs.Door.{EndsAtFirst, Served, ServedSays, doorway_of}
use Rattle.express_cli.specs.Ends.{SaidOrWants}
use Rattle.express_cli.specs.declared.ends.End.TheVariants.{Done}
use Rattle.express_cli.proofs.CountLaws.{line_counts}
use Rattle.express_cli.proofs.Writing.{more_may}
use Rattle.express_cli.proofs.door.serve_all.Goals as goal

-- it ended at the door, or the log refused a frame for one of its first faults
at_first : {F : Type 0} (first : F → Type 0) (h : Halt F) → ((fault : F) → h ≡ halt.Log fault → first fault) → EndsAtFirst first h
at_first first halt.Door law = tt
at_first first (halt.Log fault) law = law fault refl

pub tell_halt-requires : goal.tell_halt-requires
tell_halt-requires g c = record {
  first = at_first g.S.TellsFaults.first c.in-Err.stop.halt (λ fault is.
      let refuses = rw is at c.in-Err.ensures.hosts.ends in
      g.met.S.TellsFaults.stops_first _ _ _ refuses.broken.short.refused fault c.requires.whole refuses.stops);
}

pub returns-in-Ok-clause-tells : goal.returns-in-Ok-clause-tells
returns-in-Ok-clause-tells g c =
    let door = doorway_of (over g.N.Counted.seen g.N.Conn.Counted.seen [] c.args.net.now c.host.new.net) c.args.server.now c.host.new.server in
    let line : List ℕ = tally_text c.in-Ok.tally ++ codes "\n" in
    more_may (SaidOrWants Done line) (Served g.S.Logged.log g.S.TellsFaults.tells c.args.settings.now door) _ _ _ _ _
    (λ e t says. record { result = Ok c.in-Ok.tally; hosts = rw c.as_str-peer.ensures at c.in-Ok.ensures.hosts; doors = c.in-Ok.ensures.door; says = says }) (c.say_line.ensures.says line c.tally_line.ensures)

pub returns-in-Ok-clause-counts : goal.returns-in-Ok-clause-counts
returns-in-Ok-clause-counts g c = line_counts Done c.say_line.result _ _ c.say_line.ensures.only c.in-Ok.ensures.counts c.in-Ok.ensures.counts

pub returns-in-Err-clause-tells : goal.returns-in-Err-clause-tells
returns-in-Err-clause-tells g c =
    let door = doorway_of (over g.N.Counted.seen g.N.Conn.Counted.seen [] c.args.net.now c.host.new.net) c.args.server.now c.host.new.server in
    more_may (ServedSays g.S.TellsFaults.tells (Err c.in-Err.stop.halt)) (Served g.S.Logged.log g.S.TellsFaults.tells c.args.settings.now door) _ _ _ _ _
    (λ e t says. record { result = Err c.in-Err.stop; hosts = rw c.as_str-peer.ensures at c.in-Err.ensures.hosts; doors = c.in-Err.ensures.door; says = says }) c.tell_halt.ensures.tells

pub returns-in-Err-clause-counts : goal.returns-in-Err-clause-counts
returns-in-Err-clause-counts g c = c.tell_halt.ensures.counts _ _ c.in-Err.ensures.counts
