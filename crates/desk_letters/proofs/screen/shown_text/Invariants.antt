use Rattle.std.proofs.Common.{◌≡◌}
use Rattle.std.specs.Prelude.{encode_utf8_all, string_bytes}
use Rattle.std.specs.List.{flat_map}
use Rattle.desk_letters.specs.Screen.{shown, set_off}
use Rattle.desk_letters.proofs.screen.shown_text.Given as goal

abbrev pub invariant-loop-c : goal.invariant-loop-c
invariant-loop-c l = string_bytes l.out ≡ set_off (encode_utf8_all (flat_map shown l.yielded))
