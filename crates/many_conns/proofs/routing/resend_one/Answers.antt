use Rattle.std.proofs.Common.{sym, ◌∙◌, take}
use Rattle.many_conns.proofs.routing.resend_one.Goals as goal

pub returns-clause-sent : goal.returns-clause-sent
returns-clause-sent g c = record {
  command = take c.in-Some.count c.outstanding.new.out;
  there = sym c.in-Some.ensures.outstanding;
  told = c.send_again.ensures.told;
}
