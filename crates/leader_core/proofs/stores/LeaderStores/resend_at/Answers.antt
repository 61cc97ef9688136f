use Rattle.leader_core.proofs.ResendLemmas.{sent_again}
use Rattle.leader_core.proofs.stores.LeaderStores.resend_at.Goals as goal

pub returns-clause-written : goal.returns-clause-written
returns-clause-written c =
    sent_again c.args.self.now.settings.lanes c.args.self.now.link.frames c.args.place c.in_ok-number.bytes.now c.copy_from_slice.new.self _
    c.requires.is.link.commands c.in_ok-number.ensures.frame c.copy_from_slice.ensures.after
