use Rattle.std.proofs.Common.{◌≡◌, ◌+◌, ◌∙◌, [], length, Ok, Err, arith, ap, sym}
use Rattle.std.proofs.lemmas.List.{length_push}
use Rattle.std.proofs.lemmas.Grind.{common_steps}
use Rattle.express_texts.specs.Lines.{lines_of}
use Rattle.express_texts.proofs.LineLemmas.{empty_from}
use Rattle.express_texts.specs.Games.{address_behind}
use Rattle.express_texts.proofs.AddressLaws.{on_next, on_none, on_end, on_nothing}
use Rattle.express_texts.proofs.cloak.read_addresses.Goals as goal

pub returns-in_default : goal.returns-in_default
returns-in_default c =
    let counted : length c.loop-rest.addresses.items + 6 ≡ c.len.result + 6 = omega arith in
    on_none c.loop-rest.addresses.items _ _ _ _ c.first_line.ensures.lines
    (ap (λ xs. address_behind xs c.first_line.result.0.now) (sym c.deref.ensures.value) ∙ sym c.in_default.ensures.address)
    c.loop-rest.invariant.same
    ∙ ap Err counted

pub loop-rest-preserved : goal.loop-rest-preserved
loop-rest-preserved c = record {
  same = on_next c.loop-rest.addresses.items _ _ _ _ c.in-Some.address _ c.in_ok-push.ensures.items c.first_line.ensures.lines (ap (λ xs. address_behind xs c.first_line.result.0.now) (sym c.deref.ensures.value) ∙ sym c.in-Some.ensures.address) c.loop-rest.invariant.same;
  few = rw c.in_ok-push.ensures.items (rw length_push (grind (arith, common_steps)));
}

pub returns-then-is_empty : goal.returns-then-is_empty
unfolding lines_of
returns-then-is_empty c =
    let all_read : c.loop-rest.rest.now ≡ [] = empty_from _ (grind (arith, common_steps)) in
    on_nothing c.loop-rest.addresses.items _ _ (ap lines_of all_read) (grind (arith, common_steps)) c.loop-rest.invariant.same

pub returns : goal.returns
unfolding lines_of
returns c =
    let all_read : c.loop-rest.rest.now ≡ [] = empty_from _ (grind (arith, common_steps)) in
    on_end c.loop-rest.addresses.items _ _ (ap lines_of all_read) (grind (arith, common_steps)) c.loop-rest.invariant.same
    ∙ ap Ok (sym c.from_vec.ensures)
