-- What stands behind a day.
use Rattle.std.proofs.Common.{◌≡◌, ℕ, List, ◌++◌, drop, false, sym, ◌∙◌, ap}
use Rattle.desk_texts.specs.declared.day.Day.{Day}
use Rattle.desk_entries.specs.Names.{is_name}
use Rattle.desk_entries.specs.Records.{HasNoDay, IsNoClosed, IsNoDated, IsNoNamed, day_record, named_record}

pub none_without_day : (bytes : List ℕ) → HasNoDay bytes → IsNoDated bytes
none_without_day bytes none n d named is same = none d (named_record n) is same

pub open_without_day : (bytes : List ℕ) → HasNoDay bytes → IsNoClosed bytes
open_without_day bytes none c is same = none c.day c.name is.day same

pub none_unnamed : (bytes rest : List ℕ) (day : Day) → bytes ≡ day_record day ++ rest → IsNoNamed rest → IsNoDated bytes
none_unnamed bytes rest day begins none n d named is same = none n named (ap (drop 4) (sym begins ∙ same))

pub open_unnamed : (bytes rest : List ℕ) (day : Day) → bytes ≡ day_record day ++ rest → is_name rest ≡ false → IsNoClosed bytes
open_unnamed bytes rest day begins none c is same =
    let named : is_name rest ≡ is_name c.name = ap (λ (l : List ℕ). is_name (drop 4 l)) (sym begins ∙ same) in
    let a_name = is.name in absurd (cc (named, none, a_name))
