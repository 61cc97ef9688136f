use Rattle.std.proofs.Common.{ap, ap₂, refl, sym, codes, true, map, [], ◌∷◌, ◌≡◌, ◌∙◌, ◌≢◌, ◌⊎◌, string_bytes, inl, inr}
use Rattle.clap.specs.Words.{first_of, is_simple, is_simple_and_free, matches_of, found_of, app_of, fault_of, IsAmong, Kinds}
use Rattle.clap.specs.declared.error.kind.ErrorKind.{ErrorKind}
use Rattle.clap.specs.declared.error.kind.ErrorKind.TheVariants as kind
use Rattle.clap.proofs.OnLiterals.{clap_on_literals}
use Rattle.clap.proofs.WalkLemmas.{first_value-rows}
use Rattle.desk_words.specs.CommandLine.{desk_app, is_true}
use Rattle.desk_words.proofs.given.given_in.Goals as goal

simple : is_simple desk_app ≡ true
unfolding clap_on_literals
simple = refl

simple_and_free : is_simple_and_free desk_app ≡ true
unfolding clap_on_literals
simple_and_free = refl

-- an error that is not want of memory has a kind among those of the words
not_none : (kinds : Kinds) (k : ErrorKind) → (k ≡ kind.OutOfMemory) ⊎ IsAmong k kinds → k ≢ kind.OutOfMemory → kinds ≡ [] → ⊥
not_none [] k (inl memory) other none = other memory
not_none [] k (inr among) other none = among
not_none (x ∷ xs) k has other none = cc

pub returns-in-Ok-clause-taken : goal.returns-in-Ok-clause-taken
returns-in-Ok-clause-taken c =
    let whole_is : app_of c.in_ok-command.command ≡ desk_app = c.in_ok-command.ensures in
    let words_are = ap (map string_bytes) c.as_slice.ensures.value in
    sym (ap₂ fault_of whole_is words_are) ∙ c.in-Ok.ensures.kinds (ap is_simple_and_free whole_is ∙ simple_and_free)

pub returns-in-Err-clause-refused : goal.returns-in-Err-clause-refused
returns-in-Err-clause-refused c = λ other none.
    let whole_is : app_of c.in_ok-command.command ≡ desk_app = c.in_ok-command.ensures in
    let words_are = ap (map string_bytes) c.as_slice.ensures.value in
    not_none _ _ (c.in-Err.ensures.kinds (ap is_simple_and_free whole_is ∙ simple_and_free)) other (ap₂ fault_of whole_is words_are ∙ none)

pub returns-in-Ok-clause-desk : goal.returns-in-Ok-clause-desk
returns-in-Ok-clause-desk c =
    let whole_is : app_of c.in_ok-command.command ≡ desk_app = c.in_ok-command.ensures in
    let words_are = ap (map string_bytes) c.as_slice.ensures.value in
    let rows = (c.in-Ok.ensures.matches (ap is_simple whole_is ∙ simple)).0 ∙ ap₂ matches_of whole_is words_are in
    c.get_str.ensures ∙ first_value-rows (found_of c.in-Ok.matches) (codes "DESK") ∙ ap (first_of (codes "DESK")) rows

pub returns-in-Ok-clause-out : goal.returns-in-Ok-clause-out
returns-in-Ok-clause-out c =
    let whole_is : app_of c.in_ok-command.command ≡ desk_app = c.in_ok-command.ensures in
    let words_are = ap (map string_bytes) c.as_slice.ensures.value in
    let rows = (c.in-Ok.ensures.matches (ap is_simple whole_is ∙ simple)).0 ∙ ap₂ matches_of whole_is words_are in
    c.get_str-in-Ok.ensures ∙ first_value-rows (found_of c.in-Ok.matches) (codes "OUT") ∙ ap (first_of (codes "OUT")) rows

pub returns-in-Ok-clause-word : goal.returns-in-Ok-clause-word
returns-in-Ok-clause-word c =
    let whole_is : app_of c.in_ok-command.command ≡ desk_app = c.in_ok-command.ensures in
    let words_are = ap (map string_bytes) c.as_slice.ensures.value in
    let rows = (c.in-Ok.ensures.matches (ap is_simple whole_is ∙ simple)).0 ∙ ap₂ matches_of whole_is words_are in
    c.get_str-in-Ok-4.ensures ∙ first_value-rows (found_of c.in-Ok.matches) (codes "WORD") ∙ ap (first_of (codes "WORD")) rows

pub returns-in-Ok-clause-first : goal.returns-in-Ok-clause-first
returns-in-Ok-clause-first c =
    let whole_is : app_of c.in_ok-command.command ≡ desk_app = c.in_ok-command.ensures in
    let words_are = ap (map string_bytes) c.as_slice.ensures.value in
    let rows = (c.in-Ok.ensures.matches (ap is_simple whole_is ∙ simple)).0 ∙ ap₂ matches_of whole_is words_are in
    c.get_str-in-Ok-5.ensures ∙ first_value-rows (found_of c.in-Ok.matches) (codes "FIRST") ∙ ap (first_of (codes "FIRST")) rows

pub returns-in-Ok-clause-second : goal.returns-in-Ok-clause-second
returns-in-Ok-clause-second c =
    let whole_is : app_of c.in_ok-command.command ≡ desk_app = c.in_ok-command.ensures in
    let words_are = ap (map string_bytes) c.as_slice.ensures.value in
    let rows = (c.in-Ok.ensures.matches (ap is_simple whole_is ∙ simple)).0 ∙ ap₂ matches_of whole_is words_are in
    c.get_str-in-Ok-6.ensures ∙ first_value-rows (found_of c.in-Ok.matches) (codes "SECOND") ∙ ap (first_of (codes "SECOND")) rows

pub returns-in-Ok-clause-proxy : goal.returns-in-Ok-clause-proxy
returns-in-Ok-clause-proxy c =
    let whole_is : app_of c.in_ok-command.command ≡ desk_app = c.in_ok-command.ensures in
    let words_are = ap (map string_bytes) c.as_slice.ensures.value in
    let rows = (c.in-Ok.ensures.matches (ap is_simple whole_is ∙ simple)).0 ∙ ap₂ matches_of whole_is words_are in
    c.get_str-in-Ok-7.ensures ∙ first_value-rows (found_of c.in-Ok.matches) (codes "PROXY") ∙ ap (first_of (codes "PROXY")) rows

pub returns-in-Ok-clause-until : goal.returns-in-Ok-clause-until
returns-in-Ok-clause-until c =
    let whole_is : app_of c.in_ok-command.command ≡ desk_app = c.in_ok-command.ensures in
    let words_are = ap (map string_bytes) c.as_slice.ensures.value in
    let rows = (c.in-Ok.ensures.matches (ap is_simple whole_is ∙ simple)).0 ∙ ap₂ matches_of whole_is words_are in
    c.get_str-in-Ok-2.ensures ∙ first_value-rows (found_of c.in-Ok.matches) (codes "UNTIL") ∙ ap (first_of (codes "UNTIL")) rows

pub returns-in-Ok-clause-at_once : goal.returns-in-Ok-clause-at_once
returns-in-Ok-clause-at_once c =
    let whole_is : app_of c.in_ok-command.command ≡ desk_app = c.in_ok-command.ensures in
    let words_are = ap (map string_bytes) c.as_slice.ensures.value in
    let rows = (c.in-Ok.ensures.matches (ap is_simple whole_is ∙ simple)).0 ∙ ap₂ matches_of whole_is words_are in
    c.is_true.ensures
    ∙ ap is_true (c.get_str-in-Ok-3.ensures ∙ first_value-rows (found_of c.in-Ok.matches) (codes "NOW") ∙ ap (first_of (codes "NOW")) rows)
