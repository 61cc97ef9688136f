-- Values are read as they are meant.
use Rattle.std.proofs.Common.{◌≡◌, ℕ, ◌≤◌, nat_eq, nat_le, Bool, true, false, cond, List, [], ◌∷◌, length, Option, Some, None, option_map, arith, refl, sym, ◌∙◌, ap, subst, le-leb, leb-true, eq-eqb}
use Rattle.std.specs.Prelude.{ℤ, pos, negsuc, ◌%◌, ◌&&◌, option_and_then}
use Rattle.std.proofs.lemmas.Bool.{eqb-true}
use Rattle.toml.specs.Data as toml
use Rattle.toml.specs.Data.{Data, Items, Members, as_str, as_integer, as_array, as_table}
use Rattle.express_texts.specs.LineFields.{◌>>=◌, spelled_word, seed_of, message_of}
use Rattle.express_texts.proofs.FieldLaws.{bind_some, map_some, word_found, word_only, seed_found, seed_only, message_found, message_only}
use Rattle.settings_text.specs.Meanings.{EachMeans, MeansAddress, MeansBytes, MeansList, MeansNumber, MeansText, MeansWidth}
use Rattle.settings_text.specs.Values.{number_within, number_in, width_in, address_in, seed_in, message_in, elements, elements_in, if_within, list_within, every}
use Rattle.settings_text.proofs.ExactLaws.{ReadsAs}

-- ---- which kind of value

pub is_string : (value : Data) (text : List ℕ) → as_str value ≡ Some text → value ≡ toml.string text
is_string (toml.string s) text h = let same : s ≡ text = cc in ap toml.string same
is_string (toml.integer z) text h = cc
is_string (toml.float x) text h = cc
is_string (toml.boolean b) text h = cc
is_string (toml.datetime d) text h = cc
is_string (toml.array items) text h = cc
is_string (toml.table keys) text h = cc

pub is_array : (value : Data) (items : Items) → as_array value ≡ Some items → value ≡ toml.array items
is_array (toml.string s) items h = cc
is_array (toml.integer z) items h = cc
is_array (toml.float x) items h = cc
is_array (toml.boolean b) items h = cc
is_array (toml.datetime d) items h = cc
is_array (toml.array all) items h = let same : all ≡ items = cc in ap toml.array same
is_array (toml.table keys) items h = cc

pub is_table : (value : Data) (keys : Members) → as_table value ≡ Some keys → value ≡ toml.table keys
is_table (toml.string s) keys h = cc
is_table (toml.integer z) keys h = cc
is_table (toml.float x) keys h = cc
is_table (toml.boolean b) keys h = cc
is_table (toml.datetime d) keys h = cc
is_table (toml.array items) keys h = cc
is_table (toml.table all) keys h = let same : all ≡ keys = cc in ap toml.table same

pub some_then : {A B : Type 0} (f : A → Option B) (r : Option A) (b : B) → option_and_then f r ≡ Some b → (a : A) × (r ≡ Some a) × (f a ≡ Some b)
some_then f None b h = cc
some_then f (Some a) b h = (a, refl, h)

pub text_read : ReadsAs as_str MeansText
text_read = record { found = is_string; only = λ value text h. rw h refl }

-- ---- numbers

within_found : (low high n : ℕ) (z : ℤ) → number_within low high z ≡ Some n → (z ≡ pos n) × (low ≤ n) × (n ≤ high)
unfolding number_within
within_found low high n (pos m) h = at_tests (nat_le low m) (nat_le m high) refl refl h
  where
    at_tests : (t u : Bool) → nat_le low m ≡ t → nat_le m high ≡ u → cond (t && u) (Some m) None ≡ Some n → (pos m ≡ pos n) × (low ≤ n) × (n ≤ high)
    at_tests true true e f k =
        let same : m ≡ n = cc in
        (ap pos same, subst (λ (x : ℕ). low ≤ x) same (leb-true low m e), subst (λ (x : ℕ). x ≤ high) same (leb-true m high f))
    at_tests true false e f k = cc
    at_tests false u e f k = cc
within_found low high n (negsuc m) h = cc

within_only : (low high n : ℕ) → low ≤ n → n ≤ high → number_within low high (pos n) ≡ Some n
unfolding number_within
within_only low high n enough few = rw (le-leb low n enough, le-leb n high few) refl

is_integer : (value : Data) (z : ℤ) → as_integer value ≡ Some z → value ≡ toml.integer z
is_integer (toml.string s) z h = cc
is_integer (toml.integer y) z h = let same : y ≡ z = cc in ap toml.integer same
is_integer (toml.float x) z h = cc
is_integer (toml.boolean b) z h = cc
is_integer (toml.datetime d) z h = cc
is_integer (toml.array items) z h = cc
is_integer (toml.table keys) z h = cc

number_found : (low high : ℕ) (value : Data) (n : ℕ) → number_in low high value ≡ Some n → MeansNumber low high n value
unfolding number_in
number_found low high value n h =
    let at = some_then (number_within low high) (as_integer value) n h in
    let within = within_found low high n at.0 at.2 in
    (is_integer value at.0 at.1 ∙ ap toml.integer within.0, within.1, within.2)

number_only : (low high : ℕ) (value : Data) (n : ℕ) → MeansNumber low high n value → number_in low high value ≡ Some n
unfolding number_in
number_only low high value n h = rw h.0 (within_only low high n h.1 h.2)

pub number_read : (low high : ℕ) → ReadsAs (number_in low high) (MeansNumber low high)
number_read low high = record { found = number_found low high; only = number_only low high }

width_found : (least : ℕ) (value : Data) (n : ℕ) → width_in least value ≡ Some n → MeansWidth least n value
unfolding width_in
width_found least value n h =
    let at = bind_some (number_in least 4096 value) _ n h in
    let test = at_test at.0 (nat_eq (at.0 % 16) 0) refl at.2 in
    (number_found least 4096 value n (at.1 ∙ ap Some test.0), subst (λ (x : ℕ). x % 16 ≡ 0) test.0 test.1)
  where
    at_test : (m : ℕ) (t : Bool) → nat_eq (m % 16) 0 ≡ t → cond t (Some m) None ≡ Some n → (m ≡ n) × (m % 16 ≡ 0)
    at_test m true e k = (cc, eqb-true (m % 16) 0 e)
    at_test m false e k = cc

width_only : (least : ℕ) (value : Data) (n : ℕ) → MeansWidth least n value → width_in least value ≡ Some n
unfolding width_in
width_only least value n h = rw (number_only least 4096 value n h.0, eq-eqb (n % 16) 0 h.1) refl

pub width_read : (least : ℕ) → ReadsAs (width_in least) (MeansWidth least)
width_read least = record { found = width_found least; only = width_only least }

-- ---- digits

address_found : (value : Data) (a : ℕ) → address_in value ≡ Some a → MeansAddress a value
unfolding address_in
address_found value a h = let at = some_then spelled_word (as_str value) a h in (at.0, is_string value at.0 at.1, word_found at.0 a at.2)

address_only : (value : Data) (a : ℕ) → MeansAddress a value → address_in value ≡ Some a
unfolding address_in
address_only value a h = rw h.1 (word_only h.0 a h.2)

pub address_read : ReadsAs address_in MeansAddress
address_read = record { found = address_found; only = address_only }

pub seed_found_in : (value : Data) (seed : List ℕ) → seed_in value ≡ Some seed → MeansBytes 32 seed value
unfolding seed_in
seed_found_in value seed h = let at = some_then seed_of (as_str value) seed h in (at.0, is_string value at.0 at.1, seed_found at.0 seed at.2)

pub seed_only_in : (value : Data) (seed : List ℕ) → MeansBytes 32 seed value → seed_in value ≡ Some seed
unfolding seed_in
seed_only_in value seed h = rw h.1 (seed_only h.0 seed h.2)

message_found_in : (width : ℕ) (value : Data) (message : List ℕ) → message_in width value ≡ Some message → MeansBytes width message value
unfolding message_in
message_found_in width value message h =
    let at = some_then (message_of width) (as_str value) message h in (at.0, is_string value at.0 at.1, message_found width at.0 message at.2)

message_only_in : (width : ℕ) (value : Data) (message : List ℕ) → MeansBytes width message value → message_in width value ≡ Some message
unfolding message_in
message_only_in width value message h = rw h.1 (message_only width h.0 message h.2)

pub message_read : (width : ℕ) → ReadsAs (message_in width) (MeansBytes width)
message_read width = record { found = message_found_in width; only = message_only_in width }

-- ---- lists

each_found : {A : Type 0} (read : Data → Option A) (Means : A → Data → Type 0) → ReadsAs read Means → (values : List Data) (all : List A) → every read values ≡ Some all
    → EachMeans Means all values × (length all ≡ length values)
unfolding every
each_found read Means reads [] [] h = (tt, refl)
each_found read Means reads [] (a ∷ all) h = cc
each_found {A} read Means reads (value ∷ values) all h =
    let first = bind_some (read value) _ all h in
    let rest = map_some (λ more. first.0 ∷ more) (every read values) all first.2 in
    let more = each_found read Means reads values rest.0 rest.1 in
    subst (λ (xs : List A). EachMeans Means xs (value ∷ values) × (length xs ≡ length (value ∷ values))) rest.2
    ((reads.found value first.0 first.1, more.0), omega (arith, more.1))

each_only : {A : Type 0} (read : Data → Option A) (Means : A → Data → Type 0) → ReadsAs read Means → (values : List Data) (all : List A) → EachMeans Means all values
    → every read values ≡ Some all
unfolding every
each_only read Means reads [] [] h = refl
each_only read Means reads (value ∷ values) [] h = absurd h
each_only read Means reads [] (a ∷ all) h = absurd h
each_only read Means reads (value ∷ values) (a ∷ all) h = rw (reads.only value a h.0, each_only read Means reads values all h.1) refl

pub each_long : {A : Type 0} (Means : A → Data → Type 0) (values : List Data) (all : List A) → EachMeans Means all values → length all ≡ length values
each_long Means [] [] h = refl
each_long Means (value ∷ values) [] h = absurd h
each_long Means [] (a ∷ all) h = absurd h
each_long Means (value ∷ values) (a ∷ all) h = let more = each_long Means values all h.1 in omega (arith, more)

-- the values of a list with as many as these bounds allow
pub record HasValues (low high : ℕ) (value : Data) (values : List Data) : Type 0 where
  pub items : Items
  pub is : value ≡ toml.array items
  pub values_are : elements items ≡ values
  pub enough : low ≤ length values
  pub few : length values ≤ high

pub values_found : (low high : ℕ) (value : Data) (values : List Data) → list_within low high value ≡ Some values → HasValues low high value values
unfolding list_within elements_in
values_found low high value values h =
    let at = bind_some (option_map elements (as_array value)) _ values h in
    let from = map_some elements (as_array value) at.0 at.1 in
    let test = at_tests at.0 (nat_le low (length at.0)) (nat_le (length at.0) high) refl refl at.2 in
    record { items = from.0; is = is_array value from.0 from.1; values_are = from.2 ∙ test.0; enough = subst (λ (xs : List Data). low ≤ length xs) test.0 test.1; few = subst (λ (xs : List Data). length xs ≤ high) test.0 test.2 }
  where
    at_tests : (xs : List Data) (t u : Bool) → nat_le low (length xs) ≡ t → nat_le (length xs) high ≡ u → cond (t && u) (Some xs) None ≡ Some values
        → (xs ≡ values) × (low ≤ length xs) × (length xs ≤ high)
    at_tests xs true true e f k = (cc, leb-true low (length xs) e, leb-true (length xs) high f)
    at_tests xs true false e f k = cc
    at_tests xs false u e f k = cc

pub values_only : (low high : ℕ) (value : Data) (items : Items) → value ≡ toml.array items → low ≤ length (elements items) → length (elements items) ≤ high
    → list_within low high value ≡ Some (elements items)
unfolding list_within elements_in
values_only low high value items is enough few = rw (is, le-leb low (length (elements items)) enough, le-leb (length (elements items)) high few) refl

list_found : {A : Type 0} (low high : ℕ) (read : Data → Option A) (Means : A → Data → Type 0) → ReadsAs read Means → (value : Data) (all : List A)
    → (list_within low high value >>= every read) ≡ Some all → MeansList low high Means all value
list_found low high read Means reads value all h =
    let at = bind_some (list_within low high value) (every read) all h in
    let has = values_found low high value at.0 at.1 in
    let each = each_found read Means reads at.0 all at.2 in
    (has.items, has.is, subst (λ (xs : List Data). EachMeans Means all xs) (sym has.values_are) each.0, omega (arith, each.1, has.enough), omega (arith, each.1, has.few))

list_only : {A : Type 0} (low high : ℕ) (read : Data → Option A) (Means : A → Data → Type 0) → ReadsAs read Means → (value : Data) (all : List A)
    → MeansList low high Means all value → (list_within low high value >>= every read) ≡ Some all
list_only low high read Means reads value all h =
    let long = each_long Means (elements h.0) all h.2 in
    rw (values_only low high value h.0 h.1 (omega (arith, long, h.3)) (omega (arith, long, h.4))) (each_only read Means reads (elements h.0) all h.2)

pub list_read : {A : Type 0} (low high : ℕ) (read : Data → Option A) (Means : A → Data → Type 0) → ReadsAs read Means
    → ReadsAs (λ value. list_within low high value >>= every read) (MeansList low high Means)
list_read low high read Means reads = record { found = list_found low high read Means reads; only = list_only low high read Means reads }
