use Rattle.std.proofs.Common.{inl, inr, refl}
use Rattle.std.proofs.lemmas.Result.{IfErr-weaker, IfOk-weaker}
use Rattle.desk_send.proofs.StartLaws.{started_here}
use Rattle.desk_send.proofs.TroubleLaws.{passed_on}
use Rattle.desk_send.proofs.sending.begin.Goals as goal

pub returns-in-Some-clause-begun : goal.returns-in-Some-clause-begun
returns-in-Some-clause-begun g c =
    inl (record {
      first = rw c.in-Some.is at c.in_ok-sent.ensures.searches;
      undrawn = refl;
      calls =
          refl;
      written = refl;
    })

pub returns-in-Some-clause-here : goal.returns-in-Some-clause-here
returns-in-Some-clause-here g c =
    let first = rw c.in-Some.is at c.in_ok-sent.ensures.searches in
    inr (record { before = first.mid; there = first.there.is_at })

pub returns-in-None-clause-begun : goal.returns-in-None-clause-begun
returns-in-None-clause-begun g c =
    let nowhere = rw c.in-None.is at c.in_ok-sent.ensures.searches in
    IfOk-weaker c.begin_anew.result _ _ (λ sent begins. inr
    (record { searched = _; nowhere = nowhere; begins = begins }))
    c.begin_anew.ensures.begins

pub returns-in-None-clause-here : goal.returns-in-None-clause-here
returns-in-None-clause-here g c =
    IfOk-weaker c.begin_anew.result _ _
    (λ sent begins. started_here g.F.File.Disk.disk g.F.File.Counted.seen c.args.card.now c.args.text.now _
    begins.starts.slot
    begins.starts.found _ sent begins.starts.starts c.requires.text)
    c.begin_anew.ensures.begins

pub returns-in_err-sent-clause-in_part : goal.returns-in_err-sent-clause-in_part
returns-in_err-sent-clause-in_part g c =
    passed_on _ c.in_err-sent.field-0.0 _ c.from_residual.ensures.1 (inl refl)

pub returns-in-None-clause-in_part : goal.returns-in-None-clause-in_part
returns-in-None-clause-in_part g c =
    let nowhere = rw c.in-None.is at c.in_ok-sent.ensures.searches in
    IfErr-weaker c.begin_anew.result _ _
    (λ t part. inr (record { searched = _; nowhere = nowhere; begins = part })) c.begin_anew.ensures.in_part
