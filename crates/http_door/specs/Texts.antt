-- The statuses of faults and their reason phrases, and why an answer isn't taken.
use Rattle.std.specs.Prelude.{ℕ, List, ◌++◌, codes, decimal}
use Rattle.http_door.specs.declared.fault.DoorFault.{DoorFault}
use Rattle.http_door.specs.declared.fault.DoorFault.TheVariants as fault
use Rattle.http_door.specs.declared.reply_fault.ReplyFault.{ReplyFault}
use Rattle.http_door.specs.declared.reply_fault.ReplyFault.TheVariants as reply_fault

abbrev pub fault_status : DoorFault → ℕ
fault_status fault.Malformed = 400
fault_status fault.NoPath = 404
fault_status fault.Method = 405
fault_status fault.NoLength = 411
fault_status fault.LongBody = 413
fault_status fault.NotOctets = 415
fault_status fault.LongHead = 431

abbrev pub fault_text : DoorFault → List ℕ
fault_text fault.Malformed = codes "Bad Request"
fault_text fault.NoPath = codes "Not Found"
fault_text fault.Method = codes "Method Not Allowed"
fault_text fault.NoLength = codes "Length Required"
fault_text fault.LongBody = codes "Content Too Large"
fault_text fault.NotOctets = codes "Unsupported Media Type"
fault_text fault.LongHead = codes "Request Header Fields Too Large"

abbrev pub reply_fault_text : ReplyFault → List ℕ
reply_fault_text reply_fault.Malformed = codes "no response of HTTP that is taken"
reply_fault_text (reply_fault.Foreign status) =
    codes "a response of the status " ++ (decimal status ++ codes " that isn't the door's")
