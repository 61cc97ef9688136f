use Rattle.std.proofs.Common.{ap, ap₂, refl, sym, codes, true, map, [], ◌∷◌, ◌≡◌, ◌∙◌, ◌≢◌, ◌⊎◌, string_bytes, inl, inr}
use Rattle.clap.specs.Words.{first_of, is_simple, is_simple_and_free, matches_of, found_of, app_of, fault_of, IsAmong, Kinds}
use Rattle.clap.specs.declared.error.kind.ErrorKind.{ErrorKind}
use Rattle.clap.specs.declared.error.kind.ErrorKind.TheVariants as kind
use Rattle.clap.proofs.OnLiterals.{clap_on_literals}
use Rattle.clap.proofs.WalkLemmas.{first_value-rows}
use Rattle.server_words.specs.CommandLine.{server_app}
use Rattle.server_words.proofs.given.given_in.Goals as goal

simple : is_simple server_app ≡ true
unfolding clap_on_literals
simple = refl

simple_and_free : is_simple_and_free server_app ≡ true
unfolding clap_on_literals
simple_and_free = refl

-- an error that is not want of memory has a kind among those of the words
not_none : (kinds : Kinds) (k : ErrorKind) → (k ≡ kind.OutOfMemory) ⊎ IsAmong k kinds → k ≢ kind.OutOfMemory → kinds ≡ [] → ⊥
not_none [] k (inl memory) other none = other memory
not_none [] k (inr among) other none = among
not_none (x ∷ xs) k has other none = cc

pub returns-in-Ok-clause-taken : goal.returns-in-Ok-clause-taken
returns-in-Ok-clause-taken c =
    let whole_is : app_of c.in_ok-command.command ≡ server_app = c.in_ok-command.ensures in
    let words_are = ap (map string_bytes) c.as_slice.ensures.value in
    sym (ap₂ fault_of whole_is words_are) ∙ c.in-Ok.ensures.kinds (ap is_simple_and_free whole_is ∙ simple_and_free)

pub returns-in-Err-clause-refused : goal.returns-in-Err-clause-refused
returns-in-Err-clause-refused c = λ other none.
    let whole_is : app_of c.in_ok-command.command ≡ server_app = c.in_ok-command.ensures in
    let words_are = ap (map string_bytes) c.as_slice.ensures.value in
    not_none _ _ (c.in-Err.ensures.kinds (ap is_simple_and_free whole_is ∙ simple_and_free)) other (ap₂ fault_of whole_is words_are ∙ none)

pub returns-in-Ok-clause-word : goal.returns-in-Ok-clause-word
returns-in-Ok-clause-word c =
    let whole_is : app_of c.in_ok-command.command ≡ server_app = c.in_ok-command.ensures in
    let words_are = ap (map string_bytes) c.as_slice.ensures.value in
    let rows = (c.in-Ok.ensures.matches (ap is_simple whole_is ∙ simple)).0 ∙ ap₂ matches_of whole_is words_are in
    c.get_str.ensures ∙ first_value-rows (found_of c.in-Ok.matches) (codes "WORD") ∙ ap (first_of (codes "WORD")) rows

pub returns-in-Ok-clause-first : goal.returns-in-Ok-clause-first
returns-in-Ok-clause-first c =
    let whole_is : app_of c.in_ok-command.command ≡ server_app = c.in_ok-command.ensures in
    let words_are = ap (map string_bytes) c.as_slice.ensures.value in
    let rows = (c.in-Ok.ensures.matches (ap is_simple whole_is ∙ simple)).0 ∙ ap₂ matches_of whole_is words_are in
    c.get_str-in-Ok.ensures ∙ first_value-rows (found_of c.in-Ok.matches) (codes "FIRST") ∙ ap (first_of (codes "FIRST")) rows

pub returns-in-Ok-clause-second : goal.returns-in-Ok-clause-second
returns-in-Ok-clause-second c =
    let whole_is : app_of c.in_ok-command.command ≡ server_app = c.in_ok-command.ensures in
    let words_are = ap (map string_bytes) c.as_slice.ensures.value in
    let rows = (c.in-Ok.ensures.matches (ap is_simple whole_is ∙ simple)).0 ∙ ap₂ matches_of whole_is words_are in
    c.get_str-in-Ok-2.ensures ∙ first_value-rows (found_of c.in-Ok.matches) (codes "SECOND") ∙ ap (first_of (codes "SECOND")) rows
