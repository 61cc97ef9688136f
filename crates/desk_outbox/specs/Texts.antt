-- The texts of why no try is begun.
use Rattle.std.specs.Prelude.{ℕ, List, codes}
use Rattle.kept_machine.specs.Texts as keep
use Rattle.desk_letters.specs.FaultText as letter
use Rattle.desk_outbox.specs.declared.fault.StartFault.{StartFault}
use Rattle.desk_outbox.specs.declared.fault.StartFault.TheVariants.{Letter, Spent, Keep}

abbrev pub fault_text : StartFault → List ℕ
fault_text (Letter why) = letter.fault_text why
fault_text Spent = codes "all numbers of the card's lanes are used up"
fault_text (Keep why) = keep.fault_text why
