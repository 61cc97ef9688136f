-- One exchange with a peer, the calls that it makes on a net, and why it may give no frame.
use Rattle.std.specs.Prelude.{◌≡◌, ◌⊎◌, ℕ, Bool, true, false, List, [], ◌∷◌, ◌++◌, length, take}
use Rattle.std.specs.Prelude.{Option, Some, None, Result, Ok, Err, codes, decimal}
use Rattle.express_words.specs.Seen.{Seen}
use Rattle.express_words.specs.Causes.{Rose}
use Rattle.express_words.specs.Streams.{IsAtEnd}
use Rattle.express_words.specs.Calls.{Call, Dialled, Closed, AddsClose}
use Rattle.frame_rules.specs.Reading.{decoded}
use Rattle.frame_rules.specs.Texts.{fault_text}
use Rattle.frame_rules.specs.declared.fault.FrameFault.TheVariants.{Short}
use Rattle.node_exchange.specs.Taking.{IsWanted, IsOneFrame, IsNoFrame}
use Rattle.node_exchange.specs.declared.exchanging.Broken.{Broken}
use Rattle.node_exchange.specs.declared.exchanging.Broken.TheVariants as broken

-- From old to new a net made these calls. Of one that doesn't tell its calls now nothing is said.
abbrev pub Makes : Option (List Call) → Option (List Call) → List Call → Type 0
Makes old None calls = Unit {0}
Makes None (Some new) calls = ⊥
Makes (Some old) (Some new) calls = new ≡ old ++ calls

-- what was sent to a peer, and what came of it: the bytes of its answer, or why there is none
pub record Exchange : Type 0 where
  pub sent : List ℕ
  pub answer : Result (List ℕ) Broken

abbrev pub answer_in : Result ℕ Broken → List ℕ → Result (List ℕ) Broken
answer_in (Ok count) into = Ok (take count into)
answer_in (Err why) into = Err why

abbrev pub IsFault : Result (List ℕ) Broken → Type 0
IsFault (Err (broken.Fault count)) = Unit {0}
IsFault other = ⊥

-- what comes of the bytes that a connection gave where nothing failed
abbrev pub IsAnswer : Result (List ℕ) Broken → List ℕ → Type 0
IsAnswer (Ok reply) given = (reply ≡ given) × IsOneFrame given
IsAnswer (Err (broken.Early count)) given = (decoded given ≡ Err Short) × (count ≡ length given)
IsAnswer (Err (broken.Wrong fault)) given = IsNoFrame fault given
IsAnswer (Err (broken.Fault count)) given = ⊥

-- it took all that was sent; or a front of it, and then it gave nothing
abbrev pub TookFirst : (sent given taken : List ℕ) → Type 0
TookFirst sent given taken = (taken ≡ sent) ⊎ (((rest : List ℕ) × (sent ≡ taken ++ rest)) × (given ≡ []))

-- by whether the connection stayed whole: then it took all that was sent, else its answer is a fault
abbrev pub IsTalk : Bool → Exchange → (given taken : List ℕ) → Type 0
IsTalk true e given taken = (taken ≡ e.sent) × IsWanted given × IsAnswer e.answer given
IsTalk false e given taken = TookFirst e.sent given taken × IsWanted given × IsFault e.answer

-- the calls of an exchange: a dial that failed, or a dial and the close of its connection
abbrev pub IsExchange : List ℕ → Exchange → List Call → Type 0
IsExchange peer e (Dialled to true ∷ []) = (to ≡ peer) × IsFault e.answer
IsExchange peer e (Dialled to false ∷ Closed given taken whole ∷ []) =
    (to ≡ peer) × IsTalk whole e given taken
IsExchange peer e calls = ⊥

-- from one state of a net to another these exchanges were made, and nothing else
abbrev pub ExchangeOn : List ℕ → Exchange → Option (List Call) → Option (List Call) → Type 0
ExchangeOn peer e before now = (calls : List Call) × Makes before now calls × IsExchange peer e calls

abbrev pub ExchangesOn : List ℕ → List Exchange → Option (List Call) → Option (List Call) → Type 0
ExchangesOn peer [] before now = now ≡ before
ExchangesOn peer (e ∷ others) before now =
    (next : Option (List Call)) × ExchangeOn peer e before next × ExchangesOn peer others next now

-- the net's count by what came of an exchange: it rose where one is told, and only then
abbrev pub CountBy : Result ℕ Broken → (before now : ℕ) → Type 0
CountBy (Err (broken.Fault count)) before now = Rose before now × (count ≡ now)
CountBy other before now = now ≡ before

-- the last call closed a connection that showed this, at the end of its content
abbrev pub ClosedAtEnd : Option (List Call) → Seen → Type 0
ClosedAtEnd calls conn =
    IsAtEnd conn.content
    × ((before : Option (List Call)) × AddsClose before calls conn.content conn.written conn.faults)

-- the last call closed a whole connection whose bytes are only the front of a frame
abbrev pub EndsShort : Option (List Call) → Type 0
EndsShort None = ⊥
EndsShort (Some calls) = (before : List Call) × (given : List ℕ) × (taken : List ℕ)
    × (calls ≡ before ++ Closed given taken true ∷ []) × (decoded given ≡ Err Short)

-- if so, that connection was at its end
abbrev pub EarlyAtEnd : {C : Type 0} → Option (List Call) → (C → Seen) → Type 0
EarlyAtEnd {C} calls shown = EndsShort calls
    → (conn : C) × ClosedAtEnd calls (shown conn)

-- ---- texts

abbrev pub broken_text : Broken → List ℕ
broken_text (broken.Fault count) = codes "the net has had " ++ (decimal count ++ codes " faults")
broken_text (broken.Early count) = codes "the answer ended after " ++ (decimal count ++ codes " bytes")
broken_text (broken.Wrong fault) = codes "the answer is no frame: " ++ fault_text fault
