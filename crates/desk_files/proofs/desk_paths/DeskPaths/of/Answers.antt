use Rattle.std.proofs.Common.{◌≡◌, rules}
use Rattle.desk_files.proofs.desk_paths.DeskPaths.of.Goals as goal

pub invariant_of-result : goal.invariant_of-result
invariant_of-result c =
    let folder : c.from_string.result ≡ c.args.folder.now = search rules in
    rw folder (
      record {
        ledger_is = c.in_ok-path_in-4.ensures;
        next_ledger_is = c.in_ok-path_in-5.ensures;
        itself_is = c.in_ok-path_in-6.ensures;
        outboxes_are = c.in_ok-letter_paths.ensures;
        next_outboxes_are = c.in_ok-letter_paths-2.ensures;
      },
      c.in_ok-path_in.ensures,
      c.in_ok-path_in-2.ensures,
      c.in_ok-path_in-3.ensures,
    )
