use Rattle.std.proofs.Common.{◌∙◌, ◌++◌, ℕ, List, ap, sym, rules}
use Rattle.std.specs.Prelude.{encode_utf8_all}
use Rattle.std.specs.List.{flat_map}
use Rattle.std.proofs.lemmas.Iterator.{YieldsList-from_chars}
use Rattle.std.proofs.lemmas.Iterator.Consumers.{YieldsList-end}
use Rattle.std.proofs.lemmas.List.{map-id}
use Rattle.desk_letters.specs.Screen.{shown, with_margin, set_off, shown_text}
use Rattle.desk_letters.proofs.ScreenLaws.{one_more}
use Rattle.desk_letters.proofs.screen.shown_text.Goals as goal

pub loop-c-init : goal.loop-c-init
unfolding set_off
loop-c-init c = search rules

pub loop-c-preserved : goal.loop-c-preserved
loop-c-preserved c =
    c.in_ok-add_shown.ensures
    ∙ ap (λ (t : List ℕ). t ++ flat_map with_margin (encode_utf8_all (shown c.in-Some.c))) c.loop-c.invariant
    ∙ sym (one_more c.loop-c.yielded c.in-Some.c)

pub returns : goal.returns
unfolding shown_text
returns c =
    let all = YieldsList-end (YieldsList-from_chars c.args.text.now c.utf8.text cc) c.loop-c.yielded _ c.loop-c.yielded_by _ _ c.in-None.is c.next.ensures.steps in
    c.loop-c.invariant
    ∙ ap (λ (cs : List ℕ). set_off (encode_utf8_all (flat_map shown cs))) (sym (map-id c.loop-c.yielded) ∙ all.0)
