-- What a value has to be to mean something, and which key is the first that has no such value.
use Rattle.std.specs.Prelude.{◌≡◌, ◌⊎◌, ℕ, pos, ◌≤◌, ◌%◌, List, [], ◌∷◌, length, codes, Some, None, Ok}
use Rattle.std.specs.Str.{IsUtf8}
use Rattle.hex.specs.Hex.{decode_sized}
use Rattle.toml.specs.Data as toml
use Rattle.toml.specs.Data.{Data, Items, Members, get_member}
use Rattle.toml.specs.Parse.{parse_document}
use Rattle.express_texts.specs.WordSpelling.{SpellsWord}
use Rattle.settings_text.specs.Values.{elements}

-- the text is UTF-8, and a document of TOML with this table
abbrev pub SpellsTable : Members → List ℕ → Type 0
SpellsTable keys text = IsUtf8 text × (parse_document text ≡ Some keys)

-- ---- keys

-- under this key stands a value that means a
abbrev pub Has : {A : Type 0} → List ℕ → (A → Data → Type 0) → Members → A → Type 0
Has key Means keys a = (value : Data) × (get_member key keys ≡ Some value) × Means a value

-- so it is; or the key is missing, and a is what that means
abbrev pub HasOr : {A : Type 0} → A → List ℕ → (A → Data → Type 0) → Members → A → Type 0
HasOr default key Means keys a =
    ((get_member key keys ≡ None) × (a ≡ default)) ⊎ Has key Means keys a

-- the key is named, and nothing right stands under it
abbrev pub IsWrong : {A : Type 0} → List ℕ → (A → Type 0) → List ℕ → Type 0
IsWrong {A} key Right named = (named ≡ key) × ((a : A) → Right a → ⊥)

-- One of these keys is named; or all of them are right, and a later one is named.
abbrev pub FaultIn : {A : Type 0} → (List ℕ → Type 0) → (A → Type 0) → (A → List ℕ → Type 0) → List ℕ → Type 0
FaultIn {A} Fault Right Later named = Fault named ⊎ ((a : A) × Right a × Later a named)

-- so of one key
abbrev pub FaultAt : {A : Type 0} → List ℕ → (A → Type 0) → (A → List ℕ → Type 0) → List ℕ → Type 0
FaultAt key Right = FaultIn (IsWrong key Right) Right

-- and of a key that is needed
abbrev pub FaultUnder : {A : Type 0} → List ℕ → (A → Data → Type 0) → Members → (A → List ℕ → Type 0)
    → List ℕ → Type 0
FaultUnder key Means keys = FaultAt key (Has key Means keys)

-- behind the last key none is named
abbrev pub NoneIs : List ℕ → Type 0
NoneIs named = ⊥

-- The text has no table, for which `toml` is named; or it has one, of which a key is named.
abbrev pub FaultOfText : (Members → List ℕ → Type 0) → List ℕ → List ℕ → Type 0
FaultOfText FaultOf named text =
    FaultAt (codes "toml") (λ keys. SpellsTable keys text) FaultOf named

-- ---- values

abbrev pub MeansText : List ℕ → Data → Type 0
MeansText text value = value ≡ toml.string text

-- a whole number within these bounds
abbrev pub MeansNumber : ℕ → ℕ → ℕ → Data → Type 0
MeansNumber low high n value = (value ≡ toml.integer (pos n)) × (low ≤ n) × (n ≤ high)

-- the width of a message, in bytes
abbrev pub MeansWidth : ℕ → ℕ → Data → Type 0
MeansWidth least width value = MeansNumber least 4096 width value × (width % 16 ≡ 0)

-- 32 hexadecimal digits
abbrev pub MeansAddress : ℕ → Data → Type 0
MeansAddress address value = (digits : List ℕ) × (value ≡ toml.string digits) × SpellsWord address digits

-- so many bytes, in twice as many hexadecimal digits
abbrev pub MeansBytes : ℕ → List ℕ → Data → Type 0
MeansBytes count bytes value =
    (digits : List ℕ) × (value ≡ toml.string digits) × (decode_sized digits count ≡ Ok bytes)

-- value by value
abbrev pub EachMeans : {A : Type 0} → (A → Data → Type 0) → List A → List Data → Type 0
EachMeans Means [] [] = Unit {0}
EachMeans Means (a ∷ all) (value ∷ values) = Means a value × EachMeans Means all values
EachMeans Means [] (value ∷ values) = ⊥
EachMeans Means (a ∷ all) [] = ⊥

-- a list that has as many as these bounds allow
abbrev pub MeansList : {A : Type 0} → ℕ → ℕ → (A → Data → Type 0) → List A → Data → Type 0
MeansList low high Means all value =
    (items : Items) × (value ≡ toml.array items) × EachMeans Means all (elements items)
    × (low ≤ length all) × (length all ≤ high)
