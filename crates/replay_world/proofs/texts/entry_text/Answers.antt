use Rattle.std.proofs.Common.{◌≡◌, sym, subst}
use Rattle.std.specs.Prelude.{IfOk, string_bytes}
use Rattle.replay_world.specs.declared.lines.Entry.{Entry}
use Rattle.replay_world.specs.Output.{value_text}
use Rattle.replay_world.specs.Parts.{value_in}
use Rattle.replay_world.proofs.texts.entry_text.Goals as goal

pub returns-in-Audited : goal.returns-in-Audited
returns-in-Audited c =
    subst (λ (e : Entry). IfOk c.audit_text.result (λ text. string_bytes text ≡ value_text (value_in e))) (sym c.in-Audited.is) c.audit_text.ensures
