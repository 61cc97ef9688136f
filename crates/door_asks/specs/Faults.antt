-- Faults by their numbers.
use Rattle.std.specs.Prelude.{ℕ, Option, Some, None, if◌then◌else◌, ◌==◌}
use Rattle.http_door.specs.declared.fault.DoorFault.{DoorFault}
use Rattle.http_door.specs.declared.fault.DoorFault.TheVariants as fault

abbrev pub fault_number : DoorFault → ℕ
fault_number fault.Malformed = 1
fault_number fault.NoPath = 2
fault_number fault.Method = 3
fault_number fault.NoLength = 4
fault_number fault.LongBody = 5
fault_number fault.NotOctets = 6
fault_number fault.LongHead = 7

abbrev pub fault_in : ℕ → Option DoorFault
fault_in n =
    if n == 1 then Some fault.Malformed
    else (if n == 2 then Some fault.NoPath
    else (if n == 3 then Some fault.Method
    else (if n == 4 then Some fault.NoLength
    else (if n == 5 then Some fault.LongBody
    else (if n == 6 then Some fault.NotOctets
    else (if n == 7 then Some fault.LongHead else None))))))
