use Rattle.std.proofs.Common.{rules, ◌≡◌, true}
use Rattle.kept_ledger.specs.Names.{is_name}
use Rattle.kept_ledger.proofs.TextLaws.{name_utf8}
use Rattle.kept_ledger.proofs.parts.name_in.Goals as goal

pub unreachable-requires : goal.unreachable-requires
unreachable-requires c =
    let yes : is_name c.args.bytes.now ≡ true = search rules in
    c.in-Err.ensures.cases.0 (name_utf8 c.args.bytes.now yes)
