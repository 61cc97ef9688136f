use Rattle.std.proofs.Common.{refl, inl, inr, ◌≡◌, ℕ, false, arith}
use Rattle.node_journal.specs.Disk.{DiskSeen}
use Rattle.node_restart.specs.Kept.{KeptState}
use Rattle.node_restart.specs.declared.opening.Opening.{Opening}
use Rattle.node_serve.specs.KeptOpening.{IsOpenedOn}
use Rattle.express_cli.specs.Ends.{out_of_memory_text}
use Rattle.express_cli.specs.Keeping.{OpenFaultMay}
use Rattle.express_cli.specs.declared.ends.End.TheVariants.{OutOfMemory}
use Rattle.express_cli.proofs.CountLaws.{told_counts}
use Rattle.express_cli.proofs.Settling.{lift, said_ends, still_ends}
use Rattle.express_cli.proofs.kept_top.keep_by.Goals as goal

-- a server that was opened has a journal that isn't closed
unclosed : {D : Type 0} (shows : D → DiskSeen) (limit : ℕ) (o : Opening) (disk : D) (k : KeptState D) → IsOpenedOn shows limit o disk k → k.journal.closed ≡ false
unclosed shows limit o disk k opened = grind arith

pub listen_and_serve-end-requires : goal.listen_and_serve-end-requires
listen_and_serve-end-requires g c = record { whole = unclosed g.D.Disk.disk _ _ _ _ c.in-Ok-open_kept.ensures.opened }

pub tell_unopened-requires : goal.tell_unopened-requires
tell_unopened-requires g c = c.in-Err.ensures.cause

pub returns-in_default : goal.returns-in_default
returns-in_default g c = record {
  ends = said_ends OutOfMemory out_of_memory_text refl (told_counts OutOfMemory c.say.result _ _ c.say.ensures.only refl) (inr (inr ((refl, refl), (refl, refl)))) c.say.ensures.says;
}

pub returns-in-Ok-open_kept : goal.returns-in-Ok-open_kept
returns-in-Ok-open_kept g c = record {
  ends = lift
      (λ e t may. inl (record { old = c.in-Ok-open_kept.kept; new = c.listen_and_serve-end.new.server; opened = c.in-Ok-open_kept.ensures.opened; served = may; handed_back = c.into_disk.ensures }))
      (λ broke. broke) (λ counts. rw (c.into_disk.ensures, ← c.in-Ok-open_kept.ensures.counts_ok) counts) c.listen_and_serve-end.ensures.ends;
}

pub returns : goal.returns
returns g c = record {
  ends = still_ends (OpenFaultMay c.in-Err.fault) refl (c.tell_unopened.ensures.counts _ _ c.in-Err.ensures.counts)
      (λ e t says. inr (inl (record { fault = c.in-Err.fault; kind = c.in-Err.ensures.cause; cause = c.in-Err.ensures.why; leaves = c.in-Err.ensures.leaves; quiet = refl; says = says })))
      c.tell_unopened.ensures.tells;
}
