use Rattle.std.proofs.Common.{ℕ, true, false, [], ◌∷◌, take, refl, append_assoc, rules, arith}
use Rattle.std.proofs.lemmas.List.{length-take}
use Rattle.express_words.specs.Streams.{TookPrefix}
use Rattle.express_words.specs.Calls.{Dialled, Closed}
use Rattle.node_exchange.proofs.exchanging.exchange.Goals as goal

pub returns-in-Err-clause-calls : goal.returns-in-Err-clause-calls
returns-in-Err-clause-calls g c = (Dialled c.args.peer.now true ∷ [], grind arith, (refl, tt))

pub returns-then-is_err-clause-calls : goal.returns-then-is_err-clause-calls
returns-then-is_err-clause-calls g c =
    let took : TookPrefix (g.N.Conn.Counted.seen c.in-Ok.conn).written (g.N.Conn.Counted.seen c.put.new.self).written c.args.frame.now = search rules in (
      Dialled c.args.peer.now false ∷ Closed [] took.0 false ∷ [],
      grind (arith, append_assoc, took.3),
      grind (arith, took),
    )

pub returns-in-Whole-clause-calls : goal.returns-in-Whole-clause-calls
returns-in-Whole-clause-calls g c = (
  Dialled c.args.peer.now false ∷ Closed (take c.read_frame-count.result.0 c.read_frame-count.new.into) c.args.frame.now true ∷ [],
  grind (arith, append_assoc),
  grind arith,
)

pub returns-in-Wrong-clause-calls : goal.returns-in-Wrong-clause-calls
returns-in-Wrong-clause-calls g c = (
  Dialled c.args.peer.now false ∷ Closed (take c.read_frame-count.result.0 c.read_frame-count.new.into) c.args.frame.now true ∷ [],
  grind (arith, append_assoc),
  grind arith,
)

pub returns-in-Ended-clause-calls : goal.returns-in-Ended-clause-calls
returns-in-Ended-clause-calls g c = (
  Dialled c.args.peer.now false ∷ Closed (take c.read_frame-count.result.0 c.read_frame-count.new.into) c.args.frame.now true ∷ [],
  grind (arith, append_assoc),
  grind (arith, length-take {A = ℕ}),
)

pub returns-in-Failed-clause-calls : goal.returns-in-Failed-clause-calls
returns-in-Failed-clause-calls g c = (
  Dialled c.args.peer.now false ∷ Closed (take c.read_frame-count.result.0 c.read_frame-count.new.into) c.args.frame.now false ∷ [],
  grind (arith, append_assoc),
  grind arith,
)
