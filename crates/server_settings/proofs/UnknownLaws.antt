-- The names of a table, one by one.
use Rattle.std.proofs.Common.{◌≡◌, ℕ, Bool, true, false, cond, List, [], ◌∷◌, Option, Some, None, refl, string_bytes}
use Rattle.std.specs.Prelude.{String, is_some, if◌then◌else◌}
use Rattle.std.specs.Map.{keys_of}
use Rattle.std.specs.declared.alloc.Global.{Global}
use Rattle.toml.specs.View.{members_view}
use Rattle.toml.specs.declared.value.Value.{Value}
use Rattle.server_settings.specs.Keys.{key_of}
use Rattle.server_settings.specs.Lookups.{unknown_in}

-- the first of these names that no key has
abbrev pub first_unknown : List (String Global) → Option (List ℕ)
first_unknown [] = None
first_unknown (name ∷ names) = if is_some (key_of (string_bytes name)) then first_unknown names else Some (string_bytes name)

pub first_is : (entries : List (String Global × Value)) → first_unknown (keys_of entries) ≡ unknown_in (members_view entries)
first_is [] = refl
first_is (entry ∷ entries) = at_test (is_some (key_of (string_bytes entry.0))) (first_is entries)
  where
    at_test : (t : Bool) → first_unknown (keys_of entries) ≡ unknown_in (members_view entries)
        → cond t (first_unknown (keys_of entries)) (Some (string_bytes entry.0)) ≡ cond t (unknown_in (members_view entries)) (Some (string_bytes entry.0))
    at_test true rest = rest
    at_test false rest = refl
