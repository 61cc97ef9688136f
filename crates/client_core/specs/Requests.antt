-- Requests and faults without where their parts lie in memory.
use Rattle.mailbox_rules.specs.Requests.{Request, Register, Write, Read, Retire}
use Rattle.step_rules.specs.Client.{Fault, Busy, Spent, NoBox, Width, OwnFull}
use Rattle.client_core.specs.declared.request.Request.{Request as Asked}
use Rattle.client_core.specs.declared.request.Request.TheVariants as asked
use Rattle.client_core.specs.declared.request.AskFault.{AskFault}
use Rattle.client_core.specs.declared.request.AskFault.TheVariants as fault

abbrev pub plain_request : Asked → Request
plain_request (asked.Register address) = Register address
plain_request (asked.Write target message) = Write target message.now
plain_request (asked.Read own) = Read own
plain_request (asked.Retire own) = Retire own

abbrev pub fault_in : AskFault → Fault
fault_in fault.Busy = Busy
fault_in fault.Spent = Spent
fault_in (fault.NoBox own) = NoBox own
fault_in (fault.Width width) = Width width
fault_in (fault.OwnFull capacity) = OwnFull capacity
