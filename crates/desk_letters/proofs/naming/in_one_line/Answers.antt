use Rattle.std.proofs.Common.{◌≡◌, IfOk, refl, subst}
use Rattle.std.specs.Prelude.{encode_utf8_all, map, string_bytes}
use Rattle.std.specs.Str.{chars}
use Rattle.std.proofs.lemmas.Iterator.{YieldsList-from_chars, YieldsList-from_map, text_from_collect}
use Rattle.desk_letters.specs.Naming.{in_line}
use Rattle.desk_letters.proofs.naming.in_one_line.Goals as goal

pub returns : goal.returns
returns c =
    let all = YieldsList-from_map _ in_line (YieldsList-from_chars c.args.text.now c.utf8.text cc) c.map.ensures.closure (λ x r q k. (refl, k.met)) in
    subst (λ r. IfOk r (λ w. string_bytes w ≡ encode_utf8_all (map in_line (chars c.args.text.now)))) c.in_ok-line.was
    (text_from_collect c.collect.result c.collect.ensures.ran all)
