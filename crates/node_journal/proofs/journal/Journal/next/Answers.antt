use Rattle.std.proofs.Common.{◌≡◌, ◌≤◌, ◌+◌, ◌∷◌, ℕ, length, take, refl, sym, ◌∙◌, ap, subst, arith, rules}
use Rattle.node_journal.specs.Records.{records_from, IsUndamaged}
use Rattle.node_journal.specs.Journal.{JournalState, IsInPlace}
use Rattle.node_journal.proofs.Places.{records_read, undamaged_read, never_damaged, read_in_place}
use Rattle.node_journal.proofs.journal.Journal.next.Goals as goal

pub returns-in-Ok-Some-clause-first_of_more : goal.returns-in-Ok-Some-clause-first_of_more
returns-in-Ok-Some-clause-first_of_more g c n is f read =
    let len = c.in-Ok-Some.len in
    let out = c.find.new.out in
    let same : len ≡ n = cc in
    let held : len ≤ length out = omega (arith, (c.in-Ok-Some.ensures.sized len (cc)).1, c.find.ensures.length, c.requires.room) in
    ap (λ (j : JournalState). records_from j.end f) (sym c.self.view_is)
    ∙ records_read c.self.inside.end c.self.inside.limit len out held f (c.in-Ok-Some.ensures.some len (cc) f read)
    ∙ ap (λ (k : ℕ). take k out ∷ records_from (c.self.inside.end + (5 + len)) f) same

pub returns-in-Ok-Some-clause-still_undamaged : goal.returns-in-Ok-Some-clause-still_undamaged
returns-in-Ok-Some-clause-still_undamaged g c n is f read u =
    let len = c.in-Ok-Some.len in
    let out = c.find.new.out in
    let held : len ≤ length out = omega (arith, (c.in-Ok-Some.ensures.sized len (cc)).1, c.find.ensures.length, c.requires.room) in
    let before = subst (λ (j : JournalState). IsUndamaged j.limit j.end f) (sym c.self.view_is) u in
    subst (λ (j : JournalState). IsUndamaged j.limit (c.self.inside.end + (5 + len)) f) c.self.view_is
    (undamaged_read c.self.inside.end c.self.inside.limit len out held f (c.in-Ok-Some.ensures.some len (cc) f read) before)

pub returns-in-Ok-Some-clause-in_place : goal.returns-in-Ok-Some-clause-in_place
returns-in-Ok-Some-clause-in_place g c open_still =
    let len = c.in-Ok-Some.len in
    let out = c.find.new.out in
    let D = g.D.Disk in
    let held : len ≤ length out = omega (arith, (c.in-Ok-Some.ensures.sized len (cc)).1, c.find.ensures.length, c.requires.room) in
    let given = c.requires.in_place (ap (λ (j : JournalState). j.closed) (sym c.self.view_is) ∙ open_still) in
    let old = subst (λ (j : JournalState). IsInPlace j (D.disk c.args.disk.now)) (sym c.self.view_is) given in
    read_in_place _ _ (D.disk c.args.disk.now) (D.disk c.find.new.disk) len out held
    old c.find.ensures.untouched refl refl refl (c.in-Ok-Some.ensures.fits len (cc)) (c.in-Ok-Some.ensures.some len (cc)) (c.in-Ok-Some.ensures.spelled len (cc))

pub returns-in-Err-Damaged-clause-never_damaged : goal.returns-in-Err-Damaged-clause-never_damaged
returns-in-Err-Damaged-clause-never_damaged g c n is f read u =
    let before = subst (λ (j : JournalState). IsUndamaged j.limit j.end f) (sym c.self.view_is) u in
    never_damaged c.self.inside.limit c.self.inside.end f before c.self.inside.end
    ((c.in-Err-Damaged.ensures.damaged c.in-Err-Damaged.at (grind (arith, c.in-Err-Damaged.field-0-is, rules))).1 f read)
