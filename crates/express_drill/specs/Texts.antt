-- What a drill prints, and its statuses.
use Rattle.std.specs.Prelude.{ℕ, List, ◌++◌, codes}
use Rattle.express_drill.specs.declared.fault.Fault.{Fault}
use Rattle.express_drill.specs.declared.fault.Fault.TheVariants.{NoMemory, NoProgram}
use Rattle.express_drill.specs.declared.step.Step.{Step}
use Rattle.express_drill.specs.declared.step.Step.TheVariants.{Helper, Leader, Register, Write, Read}
use Rattle.express_drill.specs.declared.step.Verdict.{Verdict}
use Rattle.express_drill.specs.declared.step.Verdict.TheVariants.{Passed, Failed}

abbrev pub step_text : Step → List ℕ
step_text Helper = codes "helper"
step_text Leader = codes "leader"
step_text Register = codes "register"
step_text Write = codes "write"
step_text Read = codes "read"

abbrev pub verdict_text : Verdict → List ℕ
verdict_text Passed = codes "drill ok"
verdict_text (Failed step) = codes "drill failed " ++ step_text step

abbrev pub verdict_status : Verdict → ℕ
verdict_status Passed = 0
verdict_status (Failed step) = 1

abbrev pub fault_status : Fault → ℕ
fault_status NoMemory = 7
fault_status NoProgram = 9
