use Rattle.std.proofs.Common.{◌≡◌, ◌∙◌, ℕ, List, ap, sym, subst}
use Rattle.desk_letters.specs.Screen.{shown_text, ShowsAll, IsSetOff, ForgesNone}
use Rattle.desk_letters.proofs.ScreenLaws.{shows_all, stays, shown_set_off, shown_apart}
use Rattle.desk_letters.proofs.screen.screen_text.Goals as goal

pub returns-in_ok-shown-in-Ok-clause-clean : goal.returns-in_ok-shown-in-Ok-clause-clean
returns-in_ok-shown-in-Ok-clause-clean c =
    let is : c.from_string.result ≡ shown_text c.args.text.now =
    c.from_string.ensures ∙ c.in_ok-shown-in-Ok.ensures ∙ ap shown_text c.in-Ok.ensures.cases.0 in
    subst (λ (t : List ℕ). ShowsAll t) (sym is) (shows_all c.args.text.now c.in-Ok.ensures.cases.1)

pub returns-in_ok-shown-in-Ok-clause-same : goal.returns-in_ok-shown-in-Ok-clause-same
returns-in_ok-shown-in-Ok-clause-same c = λ all.
    c.from_string.ensures ∙ c.in_ok-shown-in-Ok.ensures ∙ ap shown_text c.in-Ok.ensures.cases.0
    ∙ stays c.args.text.now c.in-Ok.ensures.cases.1 all

pub returns-in_ok-shown-in-Ok-clause-set_off : goal.returns-in_ok-shown-in-Ok-clause-set_off
returns-in_ok-shown-in-Ok-clause-set_off c =
    subst (λ (t : List ℕ). IsSetOff t) (sym (c.from_string.ensures ∙ c.in_ok-shown-in-Ok.ensures)) (shown_set_off _)

pub returns-in_ok-shown-in-Ok-clause-apart : goal.returns-in_ok-shown-in-Ok-clause-apart
returns-in_ok-shown-in-Ok-clause-apart c =
    subst (λ (t : List ℕ). ForgesNone t) (sym (c.from_string.ensures ∙ c.in_ok-shown-in-Ok.ensures)) (shown_apart _)
