use Rattle.std.proofs.Common.{ap, ap₂, refl, sym, codes, true, map, [], ◌≡◌, ◌∙◌, ◌≢◌, ◌⊎◌, string_bytes, arith}
use Rattle.clap.specs.Words.{first_of, is_simple, is_simple_and_free, matches_of, found_of, app_of, fault_of, IsAmong, Kinds}
use Rattle.clap.specs.declared.error.kind.ErrorKind.{ErrorKind}
use Rattle.clap.specs.declared.error.kind.ErrorKind.TheVariants as kind
use Rattle.clap.proofs.OnLiterals.{clap_on_literals}
use Rattle.clap.proofs.WalkLemmas.{first_value-rows}
use Rattle.express_cli.specs.CommandLine.{express_app, AreRead, value_of}
use Rattle.express_cli.proofs.words.values_of.Goals as goal

simple : is_simple express_app ≡ true
unfolding clap_on_literals
simple = refl

simple_and_free : is_simple_and_free express_app ≡ true
unfolding clap_on_literals
simple_and_free = refl

-- an error that is not want of memory has a kind among those of the words
not_none : (kinds : Kinds) (k : ErrorKind) → (k ≡ kind.OutOfMemory) ⊎ IsAmong k kinds → k ≢ kind.OutOfMemory → kinds ≡ [] → ⊥
not_none kinds k has other none = grind arith

pub returns-in-Ok : goal.returns-in-Ok
unfolding AreRead value_of
returns-in-Ok c =
    let whole_is : app_of c.in_ok-command.command ≡ express_app = c.in_ok-command.ensures in
    let words_are = ap (map string_bytes) c.as_slice.ensures.value in
    let rows = (c.in-Ok.ensures.matches (ap is_simple whole_is ∙ simple)).0 ∙ ap₂ matches_of whole_is words_are in
    record {
      command = c.get_str.ensures ∙ first_value-rows (found_of c.in-Ok.matches) (codes "COMMAND") ∙ ap (first_of (codes "COMMAND")) rows;
      number = c.get_str-in-Ok.ensures ∙ first_value-rows (found_of c.in-Ok.matches) (codes "NUMBER") ∙ ap (first_of (codes "NUMBER")) rows;
      taken = sym (ap₂ fault_of whole_is words_are) ∙ c.in-Ok.ensures.kinds (ap is_simple_and_free whole_is ∙ simple_and_free);
      refused = tt;
    }

pub returns-in-Err-clause-refused : goal.returns-in-Err-clause-refused
unfolding AreRead
returns-in-Err-clause-refused c other none =
    let whole_is : app_of c.in_ok-command.command ≡ express_app = c.in_ok-command.ensures in
    let words_are = ap (map string_bytes) c.as_slice.ensures.value in
    not_none _ _ (c.in-Err.ensures.kinds (ap is_simple_and_free whole_is ∙ simple_and_free)) other (ap₂ fault_of whole_is words_are ∙ none)
