use Rattle.std.proofs.Common.{◌∙◌, ap, sym, subst}
use Rattle.express_words.specs.Limits.{IsWidth}
use Rattle.step_rules.specs.Client.{Client}
use Rattle.client_restart.proofs.CoreLaws.{reply_unspent, IsUnspent}
use Rattle.client_restart.proofs.standing.ClientCore.hear_for.Goals as goal

pub returns-in-Finished-clause-is : goal.returns-in-Finished-clause-is
returns-in-Finished-clause-is c =
    let client = reply_unspent c.args.self.now.client c.on_reply.new.self c.args.frame.now c.on_reply.ensures.client c.requires.is.unspent in
    record {
      limits = subst IsWidth (sym c.end.ensures.width) c.requires.is.limits;
      width = ap (λ (x : Client). x.width) c.end.ensures.client ∙ c.on_reply.ensures.width ∙ c.requires.is.width ∙ sym c.end.ensures.width;
      unspent = subst IsUnspent (sym c.end.ensures.client) client;
    }

pub returns-in-Ignored-clause-is : goal.returns-in-Ignored-clause-is
returns-in-Ignored-clause-is c =
    record {
      limits = c.requires.is.limits;
      width = c.on_reply.ensures.width ∙ c.requires.is.width;
      unspent = reply_unspent c.args.self.now.client c.on_reply.new.self c.args.frame.now c.on_reply.ensures.client c.requires.is.unspent;
    }

pub returns-in-Later-clause-is : goal.returns-in-Later-clause-is
returns-in-Later-clause-is c =
    record {
      limits = c.requires.is.limits;
      width = c.on_reply.ensures.width ∙ c.requires.is.width;
      unspent = reply_unspent c.args.self.now.client c.on_reply.new.self c.args.frame.now c.on_reply.ensures.client c.requires.is.unspent;
    }

pub returns-in-Next-clause-is : goal.returns-in-Next-clause-is
returns-in-Next-clause-is c =
    record {
      limits = c.requires.is.limits;
      width = c.on_reply.ensures.width ∙ c.requires.is.width;
      unspent = reply_unspent c.args.self.now.client c.on_reply.new.self c.args.frame.now c.on_reply.ensures.client c.requires.is.unspent;
    }
