use Rattle.std.proofs.Common.{◌∷◌, [], ap, ◌∙◌, sym, subst}
use Rattle.node_journal.specs.Journal.{JournalState, IsInPlace}
use Rattle.kept_machine.proofs.FormLaws.{gives_opened}
use Rattle.kept_machine.proofs.MakingLaws.{none_left, first_left}
use Rattle.kept_machine.proofs.kept.Kept.create.Goals as goal

pub invariant_of-result : goal.invariant_of-result
invariant_of-result g c =
    record {
      sound = c.in-Ok.ensures.sound;
      ready = ap (λ (j : JournalState). j.ready) (c.of.ensures ∙ c.in-Ok-create.ensures.made);
      in_place = λ still. subst (λ (j : JournalState). IsInPlace j (g.D.Disk.disk c.create.new.disk)) (sym c.of.ensures) c.in-Ok-create.ensures.in_place;
      stands = λ still. record {
        records = c.args.first.now ∷ [];
        gives = gives_opened g.M.Machine.rules c.args.first.now c.in-Ok.machine g.met.M.Machine.rules_hold c.requires.opening c.in-Ok.ensures.opens;
        held = c.in-Ok-create.ensures.content;
      };
    }

pub returns-in_default-clause-any_moment : goal.returns-in_default-clause-any_moment
returns-in_default-clause-any_moment g c =
    none_left c.args.limit c.args.first.now (g.D.Disk.disk c.args.disk) (λ f left. g.met.D.Disk.only_now c.args.disk f left)

pub returns-in-Ok-create-clause-any_moment : goal.returns-in-Ok-create-clause-any_moment
returns-in-Ok-create-clause-any_moment g c =
    first_left c.args.limit c.args.first.now (g.D.Disk.disk c.args.disk) (g.D.Disk.disk c.create.new.disk) c.in-Ok-create.ensures.any_moment

pub returns-in-Err-clause-any_moment : goal.returns-in-Err-clause-any_moment
returns-in-Err-clause-any_moment g c =
    first_left c.args.limit c.args.first.now (g.D.Disk.disk c.args.disk) (g.D.Disk.disk c.create.new.disk) c.in-Err.ensures.any_moment
