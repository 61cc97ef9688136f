use Rattle.std.proofs.Common.{◌≡◌, ◌∙◌, Bor, List, ap, subst, arith, rules, length}
use Rattle.std.specs.List.{list_any}
use Rattle.desk_entries.specs.declared.entry.Reading.{Reading}
use Rattle.desk_entries.specs.Letters.{shown_of}
use Rattle.desk_run.specs.Printing.{Prints}
use Rattle.desk_run.specs.Shown.{ShowsEach, is_met}
use Rattle.desk_run.proofs.ShowLaws.{later_range}
use Rattle.desk_run.proofs.showing.show_those.Given as given
use Rattle.desk_run.proofs.showing.show_those.Goals as goal

counted : (g : given.Over) (c : goal.After-drop-letters-2 g) → c.len-count.result ≡ length c.in_ok-letters.letters.items
counted g c = first_of (omega (arith, c.len-count.ensures, c.in_ok-letters.letters.ok), search rules, grind arith)

pub returns-clause-met : goal.returns-clause-met
returns-clause-met g c =
    c.in_ok-met.ensures.met ∙ ap (list_any is_met) (later_range (λ (r : Bor Reading). r.now) c.deref.result.now
    c.in_ok-letters.letters.items c.args.ledger.now.entries c.min-from.result (shown_of c.args.ledger.now.entries) c.shown.result c.len-count.result
    c.deref.ensures.value c.in_ok-letters.ensures.letters c.min-from.ensures c.shown.ensures (counted g c))

pub returns-clause-shown : goal.returns-clause-shown
returns-clause-shown g c =
    subst (λ (l : List Reading). Prints (ShowsEach c.args.ledger.now.entries l) (g.K.Counted.seen c.args.out.now).written
    (g.K.Counted.seen c.show_all.new.out).written)
    (later_range (λ (r : Bor Reading). r.now) c.deref.result.now
    c.in_ok-letters.letters.items c.args.ledger.now.entries c.min-from.result (shown_of c.args.ledger.now.entries) c.shown.result c.len-count.result
    c.deref.ensures.value c.in_ok-letters.ensures.letters c.min-from.ensures c.shown.ensures (counted g c))
    c.in_ok-met.ensures.shown
