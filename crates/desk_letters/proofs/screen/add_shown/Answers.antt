use Rattle.std.proofs.Common.{◌≡◌, ◌∙◌, ◌++◌, ℕ, List, ap, sym, subst, IfOk}
use Rattle.std.specs.Prelude.{encode_utf8_all, string_bytes}
use Rattle.std.specs.List.{flat_map}
use Rattle.desk_letters.specs.Screen.{shown, with_margin}
use Rattle.desk_letters.proofs.ScreenLaws.{newline_shown, spelled_shown, itself_shown}
use Rattle.desk_letters.proofs.screen.add_shown.Goals as goal

pub returns-then-c-eq10 : goal.returns-then-c-eq10
returns-then-c-eq10 c =
    c.in_ok-push_str.ensures.bytes
    ∙ ap (λ (t : List ℕ). string_bytes c.args.out.now ++ t)
    (sym (ap (λ n. flat_map with_margin (encode_utf8_all (shown n))) c.if-c-eq10.true ∙ newline_shown))

pub returns-then-is_hidden : goal.returns-then-is_hidden
returns-then-is_hidden c =
    subst (λ (t : List ℕ). IfOk c.add_spelled.result (λ _. string_bytes c.add_spelled.new.out ≡ string_bytes c.args.out.now ++ t))
    (sym (spelled_shown c.args.c (sym c.is_hidden.ensures ∙ c.if-is_hidden.true))) c.add_spelled.ensures

pub returns-in_ok-push : goal.returns-in_ok-push
returns-in_ok-push c =
    c.in_ok-push.ensures.bytes
    ∙ ap (λ (t : List ℕ). string_bytes c.args.out.now ++ t) (sym (itself_shown c.args.c c.if-c-eq10.false (sym c.is_hidden.ensures ∙ c.if-is_hidden.false)))
