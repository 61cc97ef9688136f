-- The calls of an exchange end short only where its answer ended early.
use Rattle.std.proofs.Common.{◌≡◌, ℕ, Bool, true, false, List, [], ◌∷◌, ◌++◌, Option, Some, None, Result, Ok, Err, sym, ◌∙◌, subst, append_assoc, arith}
use Rattle.std.proofs.lemmas.List.{same_from_push}
use Rattle.express_words.specs.Calls.{Call, Dialled, Closed}
use Rattle.frame_rules.specs.Reading.{decoded}
use Rattle.frame_rules.specs.declared.fault.FrameFault.TheVariants.{Short}
use Rattle.node_exchange.specs.Exchanging.{Exchange, IsAnswer, IsTalk, IsExchange, EndsShort, ExchangeOn}
use Rattle.node_exchange.specs.declared.exchanging.Broken.{Broken}
use Rattle.node_exchange.specs.declared.exchanging.Broken.TheVariants as broken

abbrev IsEarly : Result (List ℕ) Broken → Type 0
IsEarly r = (n : ℕ) × (r ≡ Err (broken.Early n))

answer_short : (r : Result (List ℕ) Broken) (given : List ℕ) → IsAnswer r given → decoded given ≡ Err Short → IsEarly r
answer_short r given is short = grind arith

talked : (whole : Bool) (e : Exchange) (gave took given taken : List ℕ) → IsTalk whole e gave took → Closed gave took whole ≡ Closed given taken true → IsAnswer e.answer given
talked whole e gave took given taken talk same = grind arith

-- where the last call closed a whole connection, its bytes are what came of the exchange
answered : (peer : List ℕ) (e : Exchange) (calls old before : List Call) (given taken : List ℕ) → IsExchange peer e calls
    → old ++ calls ≡ before ++ Closed given taken true ∷ [] → IsAnswer e.answer given
answered peer e (Dialled to true ∷ []) old before given taken is all = absurd (cc (same_from_push old before _ _ all).1)
answered peer e (Dialled to false ∷ Closed gave took whole ∷ []) old before given taken is all =
    talked whole e gave took given taken is.1 (same_from_push (old ++ Dialled to false ∷ []) before _ _ (append_assoc old _ (Closed gave took whole ∷ []) ∙ all)).1
answered peer e calls old before given taken is all = absurd is

pub exchange_short : (peer : List ℕ) (e : Exchange) (a b : Option (List Call)) → ExchangeOn peer e a b → EndsShort b → IsEarly e.answer
exchange_short peer e a None on ends = absurd ends
exchange_short peer e None (Some b) on ends = absurd on.1
exchange_short peer e (Some a) (Some b) on ends =
    answer_short e.answer ends.1 (answered peer e on.0 a ends.0 ends.1 ends.2 on.2 (sym on.1 ∙ ends.3)) ends.4

-- a frame, or bytes that are none
abbrev pub IsDecided : Result (List ℕ) Broken → Type 0
IsDecided (Ok bytes) = Unit {0}
IsDecided (Err (broken.Wrong fault)) = Unit {0}
IsDecided other = ⊥

pub exchange_long : (peer : List ℕ) (e : Exchange) (a b : Option (List Call)) → IsDecided e.answer → ExchangeOn peer e a b → EndsShort b → ⊥
exchange_long peer e a b decided on ends = let s = exchange_short peer e a b on ends in subst IsDecided s.1 decided
