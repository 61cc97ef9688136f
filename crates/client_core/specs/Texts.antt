-- The texts of what keeps a client from taking a request.
use Rattle.std.specs.Prelude.{ℕ, List, ◌++◌, codes}
use Rattle.std.specs.Fmt.{decimal}
use Rattle.client_core.specs.declared.request.AskFault.{AskFault}
use Rattle.client_core.specs.declared.request.AskFault.TheVariants.{Busy, Spent, NoBox, Width, OwnFull}

abbrev pub fault_text : AskFault → List ℕ
fault_text Busy = codes "busy"
fault_text Spent = codes "spent"
fault_text (NoBox own) = codes "no box " ++ decimal own
fault_text (Width width) = codes "width " ++ decimal width
fault_text (OwnFull capacity) = codes "own full " ++ decimal capacity
