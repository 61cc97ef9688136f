-- One round trip to a clients' door, the calls that it makes on a net, and why it may give no answer.
use Rattle.std.specs.Prelude.{◌≡◌, ℕ, Bool, true, false, List, [], ◌∷◌, ◌++◌, length, Option, Some, None}
use Rattle.std.specs.Prelude.{Result, Ok, Err, codes, decimal}
use Rattle.express_words.specs.Causes.{Rose}
use Rattle.express_words.specs.Calls.{Call, Dialled, Closed}
use Rattle.http_door.specs.declared.reply.Reply.{Reply}
use Rattle.http_door.specs.Reading.{IsRead}
use Rattle.http_door.specs.Replies.{PlainReply, plain_reply}
use Rattle.http_door.specs.Requests.{PlainRequest, request_path}
use Rattle.http_door.specs.Sending.{sent_text}
use Rattle.http_door.specs.Texts.{reply_fault_text}
use Rattle.node_exchange.specs.Exchanging.{Makes, TookFirst}
use Rattle.door_exchange.specs.Taking.{IsWanted}
use Rattle.door_exchange.specs.declared.exchanging.Broken.{Broken}
use Rattle.door_exchange.specs.declared.exchanging.Broken.TheVariants as broken

-- what was asked of a door, and what came of it: its answer, or why there is none
pub record DoorExchange : Type 0 where
  pub asked : PlainRequest
  pub answer : Result PlainReply Broken

abbrev pub plain_answer : Result Reply Broken → Result PlainReply Broken
plain_answer (Ok reply) = Ok (plain_reply reply)
plain_answer (Err why) = Err why

abbrev pub IsFault : Result PlainReply Broken → Type 0
IsFault (Err (broken.Fault count)) = Unit {0}
IsFault other = ⊥

-- what comes of the bytes that a connection gave where nothing failed
abbrev pub IsAnswer : DoorExchange → List ℕ → Result PlainReply Broken → Type 0
IsAnswer e given (Ok reply) = IsRead (request_path e.asked) given (Ok (Some reply))
IsAnswer e given (Err (broken.Early count)) =
    IsRead (request_path e.asked) given (Ok None) × (count ≡ length given)
IsAnswer e given (Err (broken.Wrong fault)) = IsRead (request_path e.asked) given (Err fault)
IsAnswer e given (Err (broken.Fault count)) = ⊥

-- by whether the connection stayed whole: then it took the whole request, else the answer is a fault
abbrev pub IsTalk : Bool → List ℕ → DoorExchange → (given taken : List ℕ) → Type 0
IsTalk true place e given taken =
    (taken ≡ sent_text e.asked place) × IsWanted (request_path e.asked) given × IsAnswer e given e.answer
IsTalk false place e given taken =
    TookFirst (sent_text e.asked place) given taken × IsWanted (request_path e.asked) given × IsFault e.answer

-- the calls of a round trip: a dial that failed, or a dial and the close of its connection
abbrev pub IsExchange : List ℕ → DoorExchange → List Call → Type 0
IsExchange place e (Dialled to true ∷ []) = (to ≡ place) × IsFault e.answer
IsExchange place e (Dialled to false ∷ Closed given taken whole ∷ []) =
    (to ≡ place) × IsTalk whole place e given taken
IsExchange place e calls = ⊥

-- from one state of a net to another this round trip was made, and nothing else
abbrev pub ExchangeOn : List ℕ → DoorExchange → Option (List Call) → Option (List Call) → Type 0
ExchangeOn place e before now = (calls : List Call) × Makes before now calls × IsExchange place e calls

-- the net's count by what came of a round trip: it rose where a fault is told, and only then
abbrev pub CountBy : Result PlainReply Broken → (before now : ℕ) → Type 0
CountBy (Err (broken.Fault count)) before now = Rose before now × (count ≡ now)
CountBy other before now = now ≡ before

-- ---- texts

abbrev pub broken_text : Broken → List ℕ
broken_text (broken.Fault count) = codes "the net has had " ++ (decimal count ++ codes " faults")
broken_text (broken.Early count) = codes "the answer ended after " ++ (decimal count ++ codes " bytes")
broken_text (broken.Wrong fault) = codes "the answer isn't the door's: " ++ reply_fault_text fault
