use Rattle.std.proofs.Common.{rules, [], ◌≡◌, ◌+◌, ◌-◌, ◌≤◌, ◌<◌, ◌^◌, length, take, refl, ap, sym, subst, ◌∙◌, arith, length-take, Ok, Err}
use Rattle.std.proofs.lemmas.Grind.{common_steps}
use Rattle.std.proofs.lemmas.List.{append-nil}
use borrow.Rule.Slice.PartMut.{put_mid}
use Rattle.std.proofs.lemmas.Slice.{take-put_mid_below}
use Rattle.express_outside.specs.Calls.{given}
use Rattle.express_outside.specs.FileReads.{ReadFrom}
use Rattle.express_outside.proofs.FileReadLaws.{front_and_piece, interrupted_read, piece_read}
use Rattle.express_outside.proofs.file_disk.read_on.Goals as goal
use Rattle.express_outside.proofs.file_disk.read_on.Goals.{in-Ok, in-Err-Interrupted}

pub returns-in-Ok-eq0-clause-gave : goal.returns-in-Ok-eq0-clause-gave
returns-in-Ok-eq0-clause-gave g c = λ fits.
    let old = g.F.FileCalls.calls c.args.file.now in
    let now = g.F.FileCalls.calls c.reading.file in
    let new = g.F.FileCalls.calls c.read_at.new.self in
    let here = c.reading.invariant.0 in
    let long = c.reading.auto.out in
    let before = c.reading.invariant.1 (omega (arith, fits, long)) in
    let read = piece_read c.args.at _ old now new (take c.reading.done c.reading.out) c.read_at.new.out [] c.read_at.result before
    (ap (λ r. given r c.read_at.new.out) c.in-Ok-eq0.is ∙ ap (λ n. Ok (take n c.read_at.new.out)) c.in-Ok-eq0.field-0-test) c.read_at.ensures.told
    (omega (arith, fits, long, here, length-take c.reading.done c.reading.out)) in
    subst (ReadFrom c.args.at old new) (append-nil (take c.reading.done c.reading.out) ∙ sym (take-put_mid_below c.reading.done (length c.reading.out - c.reading.done) c.reading.out c.read_at.new.out c.reading.done (omega arith) here)) read

pub reading-preserved : goal.reading-preserved
reading-preserved g c =
    let old = g.F.FileCalls.calls c.args.file.now in
    let now = g.F.FileCalls.calls c.reading.file in
    let new = g.F.FileCalls.calls c.read_at.new.self in
    let here = c.reading.invariant.0 in
    let sizes : length (put_mid c.reading.done (length c.reading.out - c.reading.done) c.reading.out c.read_at.new.out) ≡ length c.reading.out = grind (arith, common_steps) in
    elim c.match-read_at.branch [
      | in-Ok w ↦ (
        search rules,
        λ fits.
            let before = c.reading.invariant.1 (omega (arith, fits, c.reading.auto.out, sizes)) in
            let read = piece_read c.args.at _ old now new (take c.reading.done c.reading.out) c.read_at.new.out (take w.in-Ok.count c.read_at.new.out) c.read_at.result before
            (ap (λ r. given r c.read_at.new.out) w.in-Ok.is) c.read_at.ensures.told
            (omega (arith, fits, c.reading.auto.out, sizes, here, length-take c.reading.done c.reading.out)) in
            subst (ReadFrom c.args.at old new)
            (sym (ap (λ n. take n (put_mid c.reading.done (length c.reading.out - c.reading.done) c.reading.out c.read_at.new.out)) w.done-is
            ∙ front_and_piece c.reading.done w.in-Ok.count (length c.reading.out - c.reading.done) c.reading.out c.read_at.new.out here w.in-Ok.ensures.bound)) read,
      )
      | in-Err-Interrupted w ↦ (
        search rules,
        λ fits.
            let before = c.reading.invariant.1 (omega (arith, fits, c.reading.auto.out, sizes)) in
            let read = interrupted_read c.args.at _ old now new (take c.reading.done c.reading.out) c.read_at.new.out c.read_at.result before
            (w.in-Err-Interrupted.is ∙ ap Err w.in-Err-Interrupted.field-0-is) c.read_at.ensures.told
            (omega (arith, fits, c.reading.auto.out, sizes, here, length-take c.reading.done c.reading.out)) in
            subst (ReadFrom c.args.at old new)
            (sym (ap (λ n. take n (put_mid c.reading.done (length c.reading.out - c.reading.done) c.reading.out c.read_at.new.out)) w.done-is
            ∙ take-put_mid_below c.reading.done (length c.reading.out - c.reading.done) c.reading.out c.read_at.new.out c.reading.done (omega arith) here)) read,
      )
    ]
