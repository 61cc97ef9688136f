use Rattle.std.proofs.Common.{arith}
use Rattle.socks_proxy.proofs.ReplyLaws.{four_yes, four_only, host_yes, six_yes, six_only}
use Rattle.socks_proxy.proofs.answers.judge_reply.Goals as goal

pub returns-in-1-clause-yes : goal.returns-in-1-clause-yes
returns-in-1-clause-yes c rest long = grind (arith, four_yes c.args.front.now rest)

pub returns-in-1-clause-only : goal.returns-in-1-clause-only
returns-in-1-clause-only c rest is = grind (arith, four_only c.args.front.now rest)

pub returns-in-3-clause-yes : goal.returns-in-3-clause-yes
returns-in-3-clause-yes c rest long = grind (arith, host_yes c.args.front.now rest)

pub returns-in-4-clause-yes : goal.returns-in-4-clause-yes
returns-in-4-clause-yes c rest long = grind (arith, six_yes c.args.front.now rest)

pub returns-in-4-clause-only : goal.returns-in-4-clause-only
returns-in-4-clause-only c rest is = grind (arith, six_only c.args.front.now rest)
