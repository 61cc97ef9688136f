use Rattle.std.proofs.Common.{◌≡◌, ◌∙◌, ℕ, Bor, List, ap, subst, arith, rules, length}
use Rattle.std.specs.List.{list_any}
use Rattle.desk_entries.specs.declared.entry.Reading.{Reading}
use Rattle.desk_entries.specs.Letters.{written_of}
use Rattle.desk_run.specs.Printing.{Prints}
use Rattle.desk_run.specs.Shown.{is_met}
use Rattle.desk_run.specs.Told.{TellsFiles, unwritten_letters}
use Rattle.desk_run.proofs.ShowLaws.{later_range}
use Rattle.desk_run.proofs.writing.write_those.Given as given
use Rattle.desk_run.proofs.writing.write_those.Goals as goal

counted : (g : given.Over) (c : goal.After-drop-letters-2 g) → c.len-count.result ≡ length c.in_ok-letters.letters.items
counted g c = first_of (omega (arith, c.len-count.ensures, c.in_ok-letters.letters.ok), search rules, grind arith)

pub returns-clause-met : goal.returns-clause-met
returns-clause-met g c =
    c.in_ok-met.ensures.met ∙ ap (list_any is_met) (later_range (λ (r : Bor Reading). r.now) c.deref.result.now
    c.in_ok-letters.letters.items c.args.ledger.now.entries c.min-from.result (written_of c.args.ledger.now.entries) c.written.result c.len-count.result
    c.deref.ensures.value c.in_ok-letters.ensures.letters c.min-from.ensures c.written.ensures (counted g c))

pub returns-clause-each : goal.returns-clause-each
returns-clause-each g c =
    subst (λ (tag : ℕ). Prints (TellsFiles c.args.folder.now tag c.args.ledger.now.entries (unwritten_letters c.args.ledger.now.entries))
    (g.K.Counted.seen c.args.out.now).written (g.K.Counted.seen c.write_all.new.out).written)
    c.tag.ensures
    (subst (λ (l : List Reading). Prints (TellsFiles c.args.folder.now c.tag.result c.args.ledger.now.entries l)
    (g.K.Counted.seen c.args.out.now).written (g.K.Counted.seen c.write_all.new.out).written)
    (later_range (λ (r : Bor Reading). r.now) c.deref.result.now
    c.in_ok-letters.letters.items c.args.ledger.now.entries c.min-from.result (written_of c.args.ledger.now.entries) c.written.result c.len-count.result
    c.deref.ensures.value c.in_ok-letters.ensures.letters c.min-from.ensures c.written.ensures (counted g c))
    c.in_ok-met.ensures.each)
