-- What a reader's answer says of a text: the value, or the name of a key.
use Rattle.std.specs.Prelude.{◌≡◌, ℕ, List, Result, Ok, Err}
use Rattle.express_texts.specs.declared.fault.TextFault.{TextFault}
use Rattle.express_texts.specs.declared.fault.TextFault.TheVariants.{Wrong, WrongKey, NoMemory}

-- Ok has what is read, a wrong key comes where that one is to be named, and want of memory says nothing. No
-- line is wrong.
abbrev pub Gives : {X Y : Type 0} → (X → Y) → Result X TextFault → Result Y (List ℕ) → Type 0
Gives view (Ok x) read = read ≡ Ok (view x)
Gives view (Err (Wrong n)) read = ⊥
Gives view (Err (WrongKey key)) read = read ≡ Err key
Gives view (Err NoMemory) read = Unit {0}

-- the fault names this key, or is want of memory
abbrev pub Names : List ℕ → TextFault → Type 0
Names key (Wrong n) = ⊥
Names key (WrongKey named) = named ≡ key
Names key NoMemory = Unit {0}

-- Ok has what the text spells, and a wrong key comes where that one is to be named. No line is wrong.
abbrev pub Judges : {A : Type 0} → (Spells : A → List ℕ → Type 0) → (IsBadKey : List ℕ → List ℕ → Type 0)
    → List ℕ → Result A TextFault → Type 0
Judges Spells IsBadKey text (Ok a) = Spells a text
Judges Spells IsBadKey text (Err (Wrong n)) = ⊥
Judges Spells IsBadKey text (Err (WrongKey key)) = IsBadKey key text
Judges Spells IsBadKey text (Err NoMemory) = Unit {0}
