use Rattle.std.proofs.Common.{◌≡◌, ℕ, true, false, [], ◌∷◌, take, refl, append_assoc, rules, arith}
use Rattle.std.proofs.lemmas.List.{length-take}
use Rattle.express_words.specs.Streams.{Took, TookPrefix}
use Rattle.express_words.specs.Calls.{Dialled, Closed}
use Rattle.http_door.specs.Requests.{plain_request}
use Rattle.http_door.specs.Sending.{sent_text}
use Rattle.door_exchange.proofs.CallLaws.{calls_made}
use Rattle.door_exchange.proofs.exchanging.exchange.Goals as goal

pub returns-in-Err-clause-calls : goal.returns-in-Err-clause-calls
returns-in-Err-clause-calls g c = (Dialled c.args.place.now true ∷ [], grind arith, (refl, tt))

pub returns-then-is_err-clause-calls : goal.returns-then-is_err-clause-calls
returns-then-is_err-clause-calls g c =
    let took : TookPrefix (g.N.Conn.Counted.seen c.in-Ok.conn).written
    (g.N.Conn.Counted.seen c.put.new.self).written c.request_text.result.now = search rules in (
      Dialled c.args.place.now false ∷ Closed [] took.0 false ∷ [],
      grind (arith, append_assoc, took.3),
      grind (arith, took),
    )

pub returns-in-Whole-clause-calls : goal.returns-in-Whole-clause-calls
returns-in-Whole-clause-calls g c =
    let text = sent_text (plain_request c.args.request.now) c.args.place.now in
    let given = take c.read_answer-count.result.0 c.read_answer-count.new.came in
    let took : Took (g.N.Conn.Counted.seen c.in-Ok.conn).written
    (g.N.Conn.Counted.seen c.put.new.self).written c.request_text.result.now = search rules in
    let whole : (g.N.Conn.Counted.seen c.read_answer-count.new.source).faults ≡ 0 = search rules in (
      Dialled c.args.place.now false ∷ Closed given text true ∷ [],
      calls_made _ _ _ (g.N.Conn.Counted.seen c.in-Ok.conn) (g.N.Conn.Counted.seen c.put.new.self)
          (g.N.Conn.Counted.seen c.read_answer-count.new.source) c.args.place.now text given
          (rw c.text.ensures at c.in-Ok.ensures.call) c.in-Ok.ensures.tells
          (rw c.request_text.ensures at took) c.put.ensures.gives_nothing c.read_answer-count.ensures.gave
          c.read_answer-count.ensures.writes_nothing whole c.close-2.ensures.call,
      (
        refl,
        (
          refl,
          rw c.path-path.ensures at c.read_answer-count.ensures.wanted,
          rw c.path-path.ensures at c.answer_in.ensures,
        ),
      ),
    )

pub returns-in-Wrong-clause-calls : goal.returns-in-Wrong-clause-calls
returns-in-Wrong-clause-calls g c = (
  Dialled c.args.place.now false ∷ Closed (take c.read_answer-count.result.0 c.read_answer-count.new.came)
      (sent_text (plain_request c.args.request.now) c.args.place.now) true ∷ [],
  grind (arith, append_assoc),
  grind arith,
)

pub returns-in-Ended-clause-calls : goal.returns-in-Ended-clause-calls
returns-in-Ended-clause-calls g c = (
  Dialled c.args.place.now false ∷ Closed (take c.read_answer-count.result.0 c.read_answer-count.new.came)
      (sent_text (plain_request c.args.request.now) c.args.place.now) true ∷ [],
  grind (arith, append_assoc),
  grind (arith, length-take {A = ℕ}),
)

pub returns-in-Failed-clause-calls : goal.returns-in-Failed-clause-calls
returns-in-Failed-clause-calls g c = (
  Dialled c.args.place.now false ∷ Closed (take c.read_answer-count.result.0 c.read_answer-count.new.came)
      (sent_text (plain_request c.args.request.now) c.args.place.now) false ∷ [],
  grind (arith, append_assoc),
  grind arith,
)
