use Rattle.std.proofs.Common.{refl}
use Rattle.settings_text.specs.declared.requests.Asking.TheVariants.{Read}
use Rattle.client_run.proofs.PartLaws.{one_more}
use Rattle.client_run.proofs.parts.reads_of.Goals as goal

pub loop-own-preserved : goal.loop-own-preserved
loop-own-preserved c = one_more (λ own. Read own) _ _ c.loop-own.own _ refl c.in_ok-push.ensures.items c.loop-own.invariant
