use Rattle.std.proofs.Common.{Bor, ℕ, List, ap, subst, sym}
use Rattle.known_pieces.specs.Known.{Reading as BoxReading}
use Rattle.letter_reader.specs.Reader.{AreBoxes}
use Rattle.desk_sheets.specs.declared.sheet.Pair.{Pair}
use Rattle.kept_ledger.specs.declared.entry.Reading.{Reading}
use Rattle.kept_ledger.specs.Standings.{readings_of}
use Rattle.owner_mail.specs.Places.{placed}
use Rattle.owner_mail.proofs.PlaceLaws.{found_all, readings_are_wide}
use Rattle.owner_mail.proofs.placing.box_readings.Goals as goal

pub returns-clause-wide : goal.returns-clause-wide
returns-clause-wide c =
    let width : ℕ = c.pair.result.now.width in
    let readings : List Reading = readings_of c.args.ledger.now.state c.args.name.now in
    subst (λ (w : ℕ). AreBoxes w c.loop-rest.found.items) (ap (λ (p : Pair). p.width) c.pair.ensures)
    (subst (λ (l : List BoxReading). AreBoxes width l)
    (sym (found_all (λ (r : Bor Reading). r.now) (placed c.args.card.now width) c.loop-rest.found.items _
    c.loop-rest.rest.now c.in_default.len_below c.loop-rest.invariant))
    (readings_are_wide c.args.card.now width readings))
