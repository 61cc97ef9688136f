use Rattle.std.proofs.Common.{ℕ, List, refl, sym, ap, ◌∙◌, inl, inr, subst}
use Rattle.std.specs.Prelude.{is_some}
use Rattle.many_words.specs.Events.{Adds, Sent}
use Rattle.http_wires.specs.Steps.{client_at}
use Rattle.http_wires.proofs.PlaceLaws.{client_is}
use Rattle.http_wires.proofs.places.send_at.Goals as goal

pub returns-in-Some : goal.returns-in-Some
returns-in-Some g c =
    let there = ap (λ t. is_some (client_at t c.args.place)) (sym c.deref.ensures.value) ∙ sym c.is_http.ensures ∙ c.if-not-is_http.false in
    let sent = c.in-Some.ensures.response in
    rw (client_is c.args.clients.now.items c.args.place c.index_mut.result.now c.index_mut.ensures.value there) (
      _,
      inl (
        sent.0.0,
        sent.0.1,
        subst (λ (t : List ℕ). Adds (g.W.Wires.told c.args.wires.now) (g.W.Wires.told c.send-in-Some.new.self) (Sent c.args.place t))
            sent.0.2 c.send-in-Some.ensures,
        sent.1,
      ),
      refl,
    )

pub returns-in_default : goal.returns-in_default
returns-in_default g c =
    let there = ap (λ t. is_some (client_at t c.args.place)) (sym c.deref.ensures.value) ∙ sym c.is_http.ensures ∙ c.if-not-is_http.false in
    rw (client_is c.args.clients.now.items c.args.place c.index_mut.result.now c.index_mut.ensures.value there)
    (_, inr (c.in_default.ensures.none.0, refl, c.in_default.ensures.none.1), refl)
