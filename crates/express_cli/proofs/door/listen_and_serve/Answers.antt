use Rattle.std.proofs.Common.{refl, inl, inr, [], true, false, List, ℕ}
use Rattle.node_serve.specs.Visits.{standing}
use Rattle.express_cli.specs.Around.{over}
use Rattle.express_cli.specs.Door.{DoorMay, Served, doorway_of, listening}
use Rattle.express_cli.specs.declared.ends.End.{End}
use Rattle.express_cli.specs.declared.ends.End.TheVariants as ends
use Rattle.express_cli.proofs.CountLaws.{told_counts}
use Rattle.express_cli.proofs.Writing.{follows, out_behind, said}
use Rattle.express_cli.proofs.door.listen_and_serve.Goals as goal

pub returns-in-Ok-put : goal.returns-in-Ok-put
returns-in-Ok-put g c =
    let door = doorway_of (over g.N.Counted.seen g.N.Conn.Counted.seen [] c.args.net.now c.serve_all.new.net) c.args.server.now c.serve_all.new.server in
    let All : End → List ℕ → Type 0 = Served g.S.Logged.log g.S.TellsFaults.tells c.args.settings.now (record door { old = standing c.args.server.now (g.N.Counted.seen c.listen.new.self) }) in
    let took = rw c.as_bytes.ensures.value at c.in-Ok-put.ensures.took in
    record {
      ends = record {
        comes = follows All (DoorMay g.S.Logged.log g.S.TellsFaults.tells c.args.settings.now door) (g.K.Counted.seen c.args.out.now) (g.K.Counted.seen c.put.new.self) (g.K.Counted.seen c.serve_all.new.out) _ listening took c.in-Ok-put.ensures.counts.unfailed
            (λ e text may. inl (record { at_door = g.N.Counted.seen c.listen.new.self; listens = rw c.as_str.ensures at c.in-Ok.ensures.call; faults = c.in-Ok.ensures.counts.unfailed; doors = c.in-Ok.ensures.door.kept; served = inl (text, may, refl) })) c.serve_all.ensures.tells;
        in_time = λ failed. inr (inr (out_behind All (g.K.Counted.seen c.args.out.now) (g.K.Counted.seen c.put.new.self) (g.K.Counted.seen c.serve_all.new.out) _ listening took c.serve_all.ensures.tells failed));
        leaves = c.serve_all.ensures.counts;
      };
    }

pub returns-in-Err-put : goal.returns-in-Err-put
returns-in-Err-put g c =
    let listens = rw c.as_str.ensures at c.in-Ok.ensures.call in
    record {
      ends = record {
        comes = (
          c.in-Err-put.ensures.cause.failed,
          (
            ends.WriteFault,
            listening,
            inl (record { at_door = g.N.Counted.seen c.listen.new.self; listens = listens; faults = c.in-Ok.ensures.counts.unfailed; doors = c.in-Ok.ensures.door.kept; served = inr (refl, (refl, refl)) }),
            rw c.as_bytes.ensures.value at c.in-Err-put.ensures.failed,
          ),
        );
        in_time = λ failed. inr (inl (false, listens));
        leaves = inl refl;
      };
    }

pub returns-in-Err : goal.returns-in-Err
returns-in-Err g c =
    let door = doorway_of (over g.N.Counted.seen g.N.Conn.Counted.seen [] c.args.net.now c.listen.new.self) c.args.server.now c.args.server.now in
    let call = rw c.as_str.ensures at c.in-Err.ensures.call in
    record {
      ends = record {
        comes = said (DoorMay g.S.Logged.log g.S.TellsFaults.tells c.args.settings.now door) _ _ _ _ ends.NetFault _ _ (inr (record { call = call; doors = c.in-Err.ensures.door.failed; stays = refl; says = (refl, refl) })) c.say.ensures.says;
        in_time = λ failed. inr (inl (true, call));
        leaves = told_counts ends.NetFault c.say.result _ _ c.say.ensures.only refl;
      };
    }
