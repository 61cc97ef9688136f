-- Both servers' shares of a history add up to its plain table.
use Rattle.std.proofs.Common.{◌≡◌, ℕ, take, refl, sym, ◌∙◌, subst}
use Rattle.mailbox_rules.specs.Tables.{Writes, table_after, sum_of}
use Rattle.mailbox_rules.specs.Laws.{AreShares}
use Rattle.mailbox_rules.proofs.Shares.{shares_add_up, reads_add_up}
use Rattle.run_rules.specs.Book.{Book}
use Rattle.run_rules.specs.Values.{writes_at, shares_at}
use Rattle.run_rules.specs.Plain.{IsHistory, plain_of, plain_at, plain_result, shared_result, SharesArePlain, ResultsArePlain}
use Rattle.run_rules.proofs.Alike.{tables_alike, results_alike}
use Rattle.run_rules.proofs.PlainWrites.{writes_alike, addresses_small, plain_within}

abbrev both : Book → Writes
both b = sum_of (writes_at b 0) (writes_at b 1)

table_is : (b : Book) → IsHistory b → (i : ℕ)
    → table_after b.settings.boxes b.settings.width (both b) (take i b.entries) ≡ plain_at b i
unfolding plain_at
table_is b k i =
    tables_alike b.settings.boxes b.settings.width (plain_of b) (both b) b.entries
    (plain_within b k) (addresses_small b k) (writes_alike b k) i

pub shares_are_plain : SharesArePlain
unfolding shares_at
shares_are_plain b k i =
    subst (λ t. AreShares t.boxes (shares_at b 0 i).boxes (shares_at b 1 i).boxes) (table_is b k i)
    (shares_add_up b.settings.boxes b.settings.width (writes_at b 0) (writes_at b 1) (take i b.entries) (λ lane serial. refl))

pub results_are_plain : ResultsArePlain
unfolding shares_at plain_at plain_result shared_result
results_are_plain b k i e is =
    let sum = reads_add_up b.settings.boxes b.settings.width (writes_at b 0) (writes_at b 1) (take i b.entries) e.line
    e.does (λ lane serial. refl) in
    sym sum
    ∙ results_alike b.settings.boxes b.settings.width (plain_of b) (both b) b.entries
    (plain_within b k) (addresses_small b k) (writes_alike b k) i e is
