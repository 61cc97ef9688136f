-- The texts of what halts the work.
use Rattle.std.specs.Prelude.{ℕ, List, ◌++◌, codes}
use Rattle.express_words.specs.declared.role.Role.{Role}
use Rattle.express_words.specs.declared.role.Role.TheVariants.{Leader, Helper}
use Rattle.door_exchange.specs.Exchanging.{broken_text}
use Rattle.kept_machine.specs.Texts.{fault_text}
use Rattle.door_work.specs.declared.halt.Halt.{Halt}
use Rattle.door_work.specs.declared.halt.Halt.TheVariants as halt

abbrev pub role_text : Role → List ℕ
role_text Leader = codes "the leader"
role_text Helper = codes "the helper"

abbrev pub halt_text : Halt → List ℕ
halt_text (halt.Keep fault) = fault_text fault
halt_text (halt.Unanswered server why) = role_text server ++ (codes ": " ++ broken_text why)
halt_text (halt.Busy server) = role_text server ++ codes " is busy"
halt_text (halt.NotYours server) = role_text server ++ codes " takes another ticket"
halt_text (halt.Answer server) = role_text server ++ codes "'s answer leads no further"
