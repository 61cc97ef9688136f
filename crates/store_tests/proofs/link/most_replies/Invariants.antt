use Rattle.std.proofs.Common.{◌≡◌, ◌<◌}
use Rattle.store_tests.proofs.link.most_replies.Given as goal

abbrev pub invariant-loop-number : goal.invariant-loop-number
invariant-loop-number l = record {
  replies : l.replies.size ≡ 8213;
  carried : l.replies.carried < l.number;
}
