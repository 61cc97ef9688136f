-- What is told of a run whose lines are put as its requests come to their ends.
use Rattle.std.proofs.Common.{◌≡◌, ℕ, List, [], ◌++◌, length, Result, Ok, Err, IfOk, append_assoc, inl, inr, refl, sym, ap, ◌∙◌, subst, arith}
use Rattle.express_words.specs.Streams.{Took, TookPrefix}
use Rattle.node_client.specs.declared.finished.Finished.{Finished}
use Rattle.settings_text.specs.declared.carry.CarryJob.{CarryJob}
use Rattle.settings_text.specs.declared.carry.CarryJob.TheVariants.{Send, Fetch}
use Rattle.settings_text.specs.declared.carry.CarrySettings.{CarrySettings}
use Rattle.client_run.specs.declared.cut.Untold.{Untold}
use Rattle.client_run.specs.declared.cut.Untold.TheVariants as untold
use Rattle.client_run.specs.declared.ran.Ran.{Ran}
use Rattle.client_run.specs.Carries.{ComesBy, SendEnded, carry_plan}
use Rattle.client_run.specs.Runs.{EndSaid, Plan, IsNext, between, outcome, ended, CameTo, BreaksInLine as BrokeOff, Comes, RunFault}
use Rattle.client_run.specs.Telling.{Moment, TookPart, PutSink, lines_of, moment}
use Rattle.client_run.specs.Texts.{outcome_line}
use Rattle.client_run.proofs.PassedLaws.{lines_more, part_behind, took_nothing, took_part}
use Rattle.express_cli.specs.Around.{Around, Seen}
use Rattle.express_cli.specs.Ends.{Prints, Said, out_of_memory_text}
use Rattle.express_cli.specs.Talking.{JobBreaks, JobMay, PlanBreaks, PlanMay, SaysRun, Talks, end_by}
use Rattle.express_cli.specs.declared.ends.End.{End}
use Rattle.express_cli.specs.declared.ends.End.TheVariants as ends
use Rattle.express_cli.proofs.Writing.{follows}

-- so far it came where the line of the last request is cut
came_cut : (plan : Plan) (Ended : EndSaid) (a b : Moment) (e : BrokeOff plan a b) (told : List Finished) (next : List ℕ) → IsNext plan Ended e.stand told next
    → CameTo plan Ended told next a.calls b.calls
came_cut plan Ended a b e told next is_next = record { stand = e.stand; is_next = is_next; peers = e.peers; at = e.at; calls = e.passed.calls }

cut_prefix : (plan : Plan) (a b : Moment) (e : BrokeOff plan a b) (more : List ℕ) → TookPrefix a.written b.written (lines_of e.stand.finished ++ more)
cut_prefix plan a b e more =
    let part = e.passed.written in
    let all : lines_of e.stand.finished ≡ lines_of e.told ++ (part.front ++ part.rest)
    = ap lines_of e.is_last.finished ∙ sym (lines_more e.told e.last) ∙ ap (λ (x : List ℕ). lines_of e.told ++ x) part.cut in (
      lines_of e.told ++ part.front,
      part.rest ++ more,
      ap (λ (x : List ℕ). x ++ more) (all ∙ sym (append_assoc (lines_of e.told) part.front part.rest))
          ∙ append_assoc (lines_of e.told ++ part.front) part.rest more,
      part.took,
    )

-- of a text that was said, a front went out where the sink failed
said_part : (said : End) (text sure : List ℕ) (old mid new : Seen) (end : End)
    → Took old.written mid.written sure → Prints (Said said text) mid new end → end ≡ ends.WriteFault → TookPart sure text old.written new.written
said_part said text sure old mid new end took h failed = grind (arith, part_behind, took_part)

-- what is said of the end, behind what was told
says : (May : End → List ℕ → Type 0) (end_is : End) (text told : List ℕ) (old mid new : Seen) (end : End)
    → ((e : End) (t : List ℕ) → Said end_is (told ++ text) e t → May e t) → Took old.written mid.written told → mid.faults ≡ old.faults
    → Prints (Said end_is text) mid new end → Prints May old new end
says May end_is text told old mid new end may took same said =
    follows (Said end_is text) May old mid new end told took same (λ e t is. may e (told ++ t) (is.0, ap (λ (x : List ℕ). told ++ x) is.1)) said

plan_prints : (Of : Plan → EndSaid) (plan : Plan) (net : Around) (run : Result Ran Untold) (old mid new : Seen) (end : End) → Comes plan (Of plan) run (moment net.before old) (moment net.now mid)
    → IfOk run (λ ran. RunFault ran.end net.before.faults net.now.faults) → PutSink run old.faults mid.faults → SaysRun run mid new end → Prints (PlanMay Of plan net) old new end
plan_prints Of plan net (Ok ran) old mid new end e fault same said = says (PlanMay Of plan net) (end_by ran.end) ran.text (lines_of e.told) old mid new end
    (λ x t is. inl (record { stand = e.stand; told = e.told; last = ran.text; by = ran.end; is_ended = e.is_ended; peers = e.peers; at = e.at; calls = e.passed.calls; fault = fault; says = is }))
    e.passed.written same said
plan_prints Of plan net (Err untold.NoMemory) old mid new end (told, next, came, took) fault same said =
    says (PlanMay Of plan net) ends.OutOfMemory out_of_memory_text (lines_of told) old mid new end (λ x t is. inr (told, next, came, is)) took same said
plan_prints Of plan net (Err untold.Unwritten) old mid new end e fault rose (is, same) =
    let whole = came_cut plan (Of plan) _ _ e e.stand.finished [] (between e.is_last.asked e.is_last.behind e.is_last.all e.is_last.works) in
    let all : Prints (PlanMay Of plan net) old mid ends.WriteFault =
    (rose, (ends.OutOfMemory, lines_of e.stand.finished ++ out_of_memory_text, inr (e.stand.finished, [], whole, (refl, refl)), cut_prefix plan _ _ e out_of_memory_text)) in
    rw (is, same) all

plan_breaks : (Of : Plan → EndSaid) (plan : Plan) (net : Around) (run : Result Ran Untold) (old mid new : Seen) (end : End)
    → Comes plan (Of plan) run (moment net.before old) (moment net.now mid) → SaysRun run mid new end → end ≡ ends.WriteFault → PlanBreaks Of plan net old new
plan_breaks Of plan net (Ok ran) old mid new end e said failed =
    let came : CameTo plan (Of plan) e.told ran.text net.before.calls net.now.calls
    = record { stand = e.stand; is_next = ended e.told ran.text ran.end e.is_ended; peers = e.peers; at = e.at; calls = e.passed.calls } in
    (e.told, ran.text, came, inl (said_part (end_by ran.end) ran.text (lines_of e.told) old mid new end e.passed.written said failed))
plan_breaks Of plan net (Err untold.NoMemory) old mid new end (told, next, came, took) said failed =
    (told, next, came, inr (said_part ends.OutOfMemory out_of_memory_text (lines_of told) old mid new end took said failed))
plan_breaks Of plan net (Err untold.Unwritten) old mid new end e (is, same) failed =
    let part = subst (λ (x : Seen). TookPart (lines_of e.told) (outcome_line e.last) old.written x.written) (sym same) e.passed.written in
    (e.told, outcome_line e.last, came_cut plan (Of plan) _ _ e e.told (outcome_line e.last) (outcome e.told e.last e.is_last), inl part)

-- what a plan's work came to
pub plan_ends : (Of : Plan → EndSaid) (plan : Plan) {Leaves : Type 0} (net : Around) (run : Result Ran Untold) (old mid : Seen) {new : Seen} {end : End}
    → Comes plan (Of plan) run (moment net.before old) (moment net.now mid) → IfOk run (λ ran. RunFault ran.end net.before.faults net.now.faults) → PutSink run old.faults mid.faults
    → SaysRun run mid new end → Leaves → Talks (PlanMay Of plan net) (PlanBreaks Of plan net old new) Leaves net old new end
plan_ends Of plan net run old mid {new} {end} comes fault sink said left = record {
  comes = plan_prints Of plan net run old mid new end comes fault sink said;
  in_time = λ failed. inr (plan_breaks Of plan net run old mid new end comes said failed);
  leaves = left;
}

-- a fetch tells nothing before its end
took_none : (old mid : Seen) → mid.written ≡ old.written → Took old.written mid.written []
took_none old mid still = rw still (took_nothing old.written)

-- what a carrier's job came to
pub job_ends : (job : CarryJob) (settings : CarrySettings) {Leaves : Type 0} (net : Around) (run : Result Ran Untold) (old mid : Seen) {new : Seen} {end : End}
    → ComesBy job settings net.seed run (moment net.before old) (moment net.now mid) → IfOk run (λ ran. RunFault ran.end net.before.faults net.now.faults) → PutSink run old.faults mid.faults
    → SaysRun run mid new end → Leaves → Talks (JobMay job settings net) (JobBreaks job settings net old new) Leaves net old new end
job_ends (Send id file addresses) settings net run old mid comes fault sink said left = plan_ends (SendEnded (length addresses)) (carry_plan settings net.seed) net run old mid comes fault sink said left
job_ends Fetch settings net (Ok ran) old mid {new} {end} (runs, still) fault same said left = record {
  comes = says (JobMay Fetch settings net) (end_by ran.end) ran.text [] old mid new end (λ e t is. rw is.1 (inl (ran.end, runs, fault, is.0))) (took_none old mid still) same said;
  in_time = λ failed. inr (inl (ran.text, ran.end, runs, said_part (end_by ran.end) ran.text [] old mid new end (took_none old mid still) said failed));
  leaves = left;
}
job_ends Fetch settings net (Err untold.NoMemory) old mid {new} {end} (part, still) fault same said left = record {
  comes = says (JobMay Fetch settings net) ends.OutOfMemory out_of_memory_text [] old mid new end (λ e t is. inr (part, is)) (took_none old mid still) same said;
  in_time = λ failed. inr (inr (part, said_part ends.OutOfMemory out_of_memory_text [] old mid new end (took_none old mid still) said failed));
  leaves = left;
}
job_ends Fetch settings net (Err untold.Unwritten) old mid never fault sink said left = absurd never
