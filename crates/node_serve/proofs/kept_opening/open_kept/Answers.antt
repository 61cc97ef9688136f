use Rattle.std.proofs.Common.{ℕ, List, inr, refl, rules}
use Rattle.node_journal.specs.Disk.{Within, IsUntouched}
use Rattle.node_restart.specs.declared.opening.Opening.{Opening}
use Rattle.node_restart.specs.declared.server.Core.{Core}
use Rattle.node_restart.specs.Kept.{Stands}
use Rattle.kept_machine.proofs.ReplayLaws.{untouched_trans}
use Rattle.node_serve.proofs.kept_opening.open_kept.Goals as goal

stands_before : {o : Opening} {core : Core} {first reads : List ℕ → Type 0} → Within first reads → Stands o core reads → Stands o core first
stands_before still s = record { frames = s.frames; whole = s.whole; folded = s.folded; held = λ x read. s.held x (still x read) }

pub returns-in-None-clause-opened : goal.returns-in-None-clause-opened
returns-in-None-clause-opened g c =
    let shows = g.D.Disk.disk in
    let untouched : IsUntouched (shows c.args.disk) (shows c.in-Err-Journal-NotEmpty-default.disk) = search rules in
    let r = c.in-Ok-reopen.ensures in
    inr (record {
      some = search rules;
      is_opening = r.is_opening;
      same = rw c.opening.ensures.value at (c.in-None.ensures.none refl);
      stands = stands_before untouched.still r.stands;
      told = λ p frames x read is held. r.told p frames x (untouched.still x read) is (λ y other. held y (untouched.gives y other));
      same_limit = r.limit;
      unclosed = r.still_open;
      undamaged = r.undamaged;
      durable = r.durable;
      untouched = untouched_trans untouched r.untouched_ok;
    })

pub returns-in-Some-clause-why : goal.returns-in-Some-clause-why
returns-in-Some-clause-why g c =
    let shows = g.D.Disk.disk in
    let untouched : IsUntouched (shows c.args.disk) (shows c.in-Err-Journal-NotEmpty-default.disk) = search rules in
    let k = c.in-Ok-reopen.kept in (
      search rules,
      record {
        found = k.opening;
        is_opening = c.in-Ok-reopen.ensures.is_opening;
        core = k.core;
        stands = stands_before untouched.still c.in-Ok-reopen.ensures.stands;
        differs = rw c.opening.ensures.value at c.in-Some.ensures.some;
      },
    )
