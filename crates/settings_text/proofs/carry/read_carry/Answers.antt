use Rattle.settings_text.specs.Carry.{carry_of}
use Rattle.settings_text.specs.CarrySpelling.{SpellsCarry, IsBadCarryKey}
use Rattle.settings_text.proofs.TextExact.{carry_text, judges}
use Rattle.settings_text.proofs.carry.read_carry.Goals as goal

pub returns-clause-spells : goal.returns-clause-spells
returns-clause-spells c =
    judges carry_of SpellsCarry IsBadCarryKey c.args.text.now (carry_text c.args.text.now) c.settings_in.result c.settings_in.ensures.judges
