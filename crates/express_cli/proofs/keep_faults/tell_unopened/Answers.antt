use Rattle.node_serve.proofs.FirstFaults.{opening_fault}
use Rattle.express_cli.specs.Ends.{BadKeyMay}
use Rattle.express_cli.proofs.CountLaws.{quiet_counts, text_fault}
use Rattle.express_texts.specs.declared.fault.TextFault.TheVariants.{WrongKey}
use Rattle.express_cli.proofs.keep_faults.tell_unopened.Goals as goal

pub tell_fault-requires : goal.tell_fault-requires
tell_fault-requires g c = record { first = opening_fault c.in-Keep.fault (rw c.in-Keep.is at c.requires) }

pub returns-in-Keep-clause-tells : goal.returns-in-Keep-clause-tells
returns-in-Keep-clause-tells g c = rw c.in-Keep.is c.tell_fault.ensures.tells

pub returns-in-Keep-clause-counts : goal.returns-in-Keep-clause-counts
returns-in-Keep-clause-counts g c before now h = c.tell_fault.ensures.counts before now (rw c.in-Keep.is at h)

pub returns-in-Differs-clause-tells : goal.returns-in-Differs-clause-tells
returns-in-Differs-clause-tells g c = rw c.in-Differs.is (rw c.name.ensures at c.say_bad_key.ensures.says)

pub returns-in-Differs-clause-counts : goal.returns-in-Differs-clause-counts
returns-in-Differs-clause-counts g c before now h =
    quiet_counts (BadKeyMay c.name.result.now) _ _ _ _ c.say_bad_key.result before now (text_fault (WrongKey c.name.result.now)) c.say_bad_key.ensures.says (rw c.in-Differs.is at h)
