use Rattle.std.proofs.Common.{◌∙◌, ◌++◌, ◌+◌, ℕ, List, drop, map, ap, sym, arith}
use Rattle.std.proofs.lemmas.List.{drop_all}
use Rattle.desk_texts.specs.Printing.{printed_from}
use Rattle.desk_texts.specs.Spelling.{address_text}
use Rattle.desk_texts.proofs.PrintLaws.{one_more, no_more, map_drop}
use Rattle.desk_texts.proofs.printing.add_addresses.Goals as goal

pub loop-address-preserved : goal.loop-address-preserved
loop-address-preserved c =
    let before : List ℕ = c.loop-address.text.items in
    let said : List ℕ = c.loop-address.said.items in
    let rest : List (List ℕ) = map address_text (drop (c.loop-address.address-index + 1) c.args.addresses.now) in
    let is = c.deref.ensures.value ∙ c.in_ok-content.ensures in
    rw (c.in_ok-add_line.ensures.text, c.in_ok-add_line.ensures.said, is)
    (one_more before said _ rest
    ∙ ap (λ (ls : List (List ℕ)). before ++ printed_from said ls) (sym (map_drop c.args.addresses.now c.loop-address.address-index c.loop-address-test.true))
    ∙ c.loop-address.invariant)

pub returns : goal.returns
returns c =
    sym (no_more c.loop-address.text.items c.loop-address.said.items)
    ∙ ap (λ (t : List ℕ). c.loop-address.text.items ++ printed_from c.loop-address.said.items (map address_text t)) (sym (drop_all c.loop-address.address-index c.args.addresses.now (omega arith)))
    ∙ c.loop-address.invariant
