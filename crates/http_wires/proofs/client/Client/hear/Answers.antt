use Rattle.std.proofs.Common.{List, ℕ, ◌++◌, take, refl, sym, ap, ◌∙◌, inl, inr}
use Rattle.http_door.specs.Hearing.{plain_heard}
use Rattle.http_wires.specs.declared.client.Turn.TheVariants as turn
use Rattle.http_wires.proofs.Hearing.{hears, whole_of}
use Rattle.http_wires.proofs.client.Client.hear.Goals as goal

pub returns-in-Some-write_ask : goal.returns-in-Some-write_ask
returns-in-Some-write_ask c =
    let seen = c.in-Some.ensures in
    let read = c.read-heard.ensures in
    let heard = plain_heard c.read-heard.result in
    let out = take c.in-Some-write_ask.count c.write_ask.new.out in
    let ask = c.push_all.ensures.held ∙ ap (λ (t : List ℕ). t ++ out) c.clear.ensures.items
    ∙ c.in-Some-write_ask.ensures.written.text in
    let is = hears c.self.inside.held.items _ _ c.in-Some.end heard c.deref.ensures.value c.deref-2.ensures.value
    (seen.request, seen.bad_length, seen.headless, whole_of _ _ seen.never seen.short)
    (read.request, read.bad_length, read.headless) in
    rw (sym c.self.view_is) (inr (
      heard,
      _,
      is,
      inl (λ i. record {
        held = c.remove_front.ensures.held i;
        coming = ask i;
        turn = turn.Server c.read-heard.result.keeps;
      }),
    ))

pub returns-in-None : goal.returns-in-None
returns-in-None c =
    let seen = c.in-Some.ensures in
    let read = c.read-heard.ensures in
    let heard = plain_heard c.read-heard.result in
    let is = hears c.self.inside.held.items _ _ c.in-Some.end heard c.deref.ensures.value c.deref-2.ensures.value
    (seen.request, seen.bad_length, seen.headless, whole_of _ _ seen.never seen.short)
    (read.request, read.bad_length, read.headless) in
    rw (sym c.self.view_is) (inr (heard, _, is, inr (c.in-None.ensures.short, refl)))
