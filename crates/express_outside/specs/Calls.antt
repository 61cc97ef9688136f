-- What the system was asked and what it answered, call by call. An object that tells none of its calls has
-- None in place of their list, and then these say nothing.
use Rattle.std.specs.Prelude.{◌≡◌, ℕ, List, [], ◌∷◌, ◌++◌, take, Option, Some, None, Result, Ok, Err, option_map}
use Rattle.express_words.specs.Streams.{Stream}
use Rattle.express_outside.specs.declared.calls.Trouble.{Trouble}
use Rattle.express_outside.specs.declared.calls.WriteCall.{WriteCall}
use Rattle.express_outside.specs.declared.calls.WriteCall.TheVariants.{Wrote, Flushed}

-- a call that ends a write that isn't whole
abbrev pub IsRefusal : WriteCall → Type 0
IsRefusal (Wrote (Ok count)) = count ≡ 0
IsRefusal (Wrote (Err why)) = Unit {0}
IsRefusal (Flushed (Ok done)) = ⊥
IsRefusal (Flushed (Err why)) = Unit {0}

-- what a read into this buffer gave
abbrev pub given : Result ℕ Trouble → List ℕ → Result (List ℕ) Trouble
given (Ok count) buffer = Ok (take count buffer)
given (Err why) buffer = Err why

-- the calls so far, and one more
abbrev pub added : {A : Type 0} → A → Option (List A) → Option (List A)
added call calls = option_map (λ known. known ++ call ∷ []) calls

-- this call was the last one
abbrev pub EndedBy : {A : Type 0} → Option (List A) → A → Type 0
EndedBy {A} calls last = (before : Option (List A)) × (calls ≡ added last before)

-- what a source tells that gave these bytes, and doesn't know what it has left
abbrev pub told : List ℕ → Option Stream
told given = Some (record { given = given; left = None })
