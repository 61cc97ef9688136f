-- What stands behind a day.
use Rattle.std.proofs.Common.{◌≡◌, ℕ, List, ◌++◌, drop, false, Option, Some, None, refl, sym, ◌∙◌}
use Rattle.std.proofs.Common.{ap}
use Rattle.desk_texts.specs.declared.day.Day.{Day}
use Rattle.kept_ledger.specs.Names.{is_name}
use Rattle.kept_ledger.specs.Notes.{day_bytes, named_bytes, until_bytes}
use Rattle.kept_ledger.specs.Records.{HasNoDay, HasNoUntil, HasNoZeros, IsNoClosed, IsNoNamed, IsNoWanted}

pub no_until : (bytes : List ℕ) → HasNoDay bytes → HasNoZeros bytes → HasNoUntil bytes
no_until bytes none zeros None rest is same = zeros rest same
no_until bytes none zeros (Some d) rest is same = none d rest is same

until_front : (u : Option Day) (rest : List ℕ) → drop 4 (until_bytes u ++ rest) ≡ rest
until_front None rest = refl
until_front (Some d) rest = refl

pub none_without_day : (bytes : List ℕ) → HasNoUntil bytes → IsNoWanted bytes
none_without_day bytes none w is same = none w.until (named_bytes w) is.until same

pub none_behind : (bytes rest : List ℕ) (u : Option Day) → bytes ≡ until_bytes u ++ rest → IsNoNamed rest
    → IsNoWanted bytes
none_behind bytes rest u begins none w is same =
    none w is (sym (until_front u rest) ∙ ap (drop 4) (sym begins ∙ same)
    ∙ until_front w.until (named_bytes w))

pub open_without_day : (bytes : List ℕ) → HasNoDay bytes → IsNoClosed bytes
open_without_day bytes none name day named is same = none day name is same

pub open_unnamed : (bytes rest : List ℕ) (day : Day) → bytes ≡ day_bytes day ++ rest
    → is_name rest ≡ false → IsNoClosed bytes
open_unnamed bytes rest day begins none name other named is same =
    let there : is_name rest ≡ is_name name =
    ap (λ (l : List ℕ). is_name (drop 4 l)) (sym begins ∙ same) in absurd (cc (there, none, named))
