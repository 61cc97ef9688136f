use Rattle.std.proofs.Common.{refl, sym, ap, ◌∙◌}
use Rattle.std.specs.Prelude.{is_some}
use Rattle.http_wires.specs.Steps.{client_at}
use Rattle.http_wires.proofs.PlaceLaws.{client_is}
use Rattle.http_wires.proofs.places.take_at.Goals as goal

pub returns-then-is_http-clause-takes : goal.returns-then-is_http-clause-takes
returns-then-is_http-clause-takes g c =
    let there = ap (λ t. is_some (client_at t c.args.place)) (sym c.deref.ensures.value) ∙ sym c.is_http.ensures ∙ c.if-is_http.true in
    rw (client_is c.args.clients.now.items c.args.place c.index_mut.result.now c.index_mut.ensures.value there)
    (_, c.take.ensures.takes, refl)
