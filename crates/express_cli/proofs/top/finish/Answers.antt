use Rattle.std.proofs.Common.{◌≡◌, List, ℕ, inl, inr, refl, arith}
use Rattle.clap.specs.Words.{Text}
use Rattle.express_cli.specs.Around.{Around, Read, Streams}
use Rattle.express_cli.specs.CommandLine.{AsksNet}
use Rattle.express_cli.specs.Ends.{MillMay, Prints, Said, SaidWanting, WorkMay, usage_text}
use Rattle.express_cli.specs.Runs.{RunEnds, RunMay, UnreadMay}
use Rattle.express_cli.specs.Talking.{IsStill, TalkEnds}
use Rattle.express_cli.specs.declared.ends.End.{End}
use Rattle.express_cli.specs.declared.ends.End.TheVariants.{Usage}
use Rattle.express_cli.specs.declared.words.InputTask.TheVariants.{Net}
use Rattle.express_cli.specs.declared.words.NetCommand.{NetCommand}
use Rattle.express_cli.specs.declared.words.Task.TheVariants.{OnInput}
use Rattle.express_cli.proofs.OneReading.{same_task}
use Rattle.express_cli.proofs.Settling.{lift, still_ends, work_end}
use Rattle.express_cli.proofs.top.finish.Goals as goal

-- where nothing was done with the net
quiet : (Then : End → List ℕ → Type 0) (words : List Text) (streams : Streams) (net : Around) (end : End) → IsStill net
    → ((e : End) (text : List ℕ) → Then e text → RunMay words streams net e text) → Prints Then streams.out streams.out_now end → RunEnds words streams net end
quiet Then words streams net end still f h = record { talks = still_ends Then still (λ command asks. grind arith) f h }

-- the command that was asked for worked over the net, by all that was read
talked : (words : List Text) (streams : Streams) (net : Around) (end : End) (command : NetCommand) (bytes : List ℕ)
    → AsksNet words command → Read streams bytes → TalkEnds command bytes net streams.out streams.out_now end → RunEnds words streams net end
talked words streams net end command bytes asks gave h =
    let same : (other : NetCommand) → AsksNet words other → other ≡ command = λ other found. cc (same_task words (OnInput (Net other)) (OnInput (Net command)) found asks) in
    record {
      talks = lift (λ e text may. grind (arith, work_end))
          (elim [ inl still ↦ inl still | inr breaks ↦ inr (λ other found. (bytes, gave, rw (same other found) breaks)) ])
          (λ leaves other found. rw (same other found) leaves) h;
    }

pub returns-in-Err-clause-ends : goal.returns-in-Err-clause-ends
returns-in-Err-clause-ends g c = quiet SaidWanting _ _ _ _ refl (λ e t is. rw (is.0, is.1) (inl (refl, refl))) c.say.ensures.says

pub returns-in-Ok-None-clause-ends : goal.returns-in-Ok-None-clause-ends
returns-in-Ok-None-clause-ends g c =
    quiet (Said Usage usage_text) _ _ _ _ refl (λ e t is. rw (is.0, is.1) (rw c.in-Ok-None.field-0-is at c.in-Ok-None.ensures, refl, refl)) c.say-in-Ok-None.ensures.says

pub returns-in-Ok-Some-Mill-clause-ends : goal.returns-in-Ok-Some-Mill-clause-ends
returns-in-Ok-Some-Mill-clause-ends g c =
    let asks = rw (c.in-Ok-Some-Mill.field-0-is, c.in-Ok-Some-Mill.field-0-0-is) at c.in-Ok-Some-Mill.ensures in
    quiet (MillMay c.in-Ok-Some-Mill.number) _ _ _ _ refl (λ e t may. grind arith) c.mill.ensures.ends

pub returns-in-Work-clause-ends : goal.returns-in-Work-clause-ends
returns-in-Work-clause-ends g c =
    let asks = rw (c.in-Ok-Some-OnInput.field-0-is, c.in-Ok-Some-OnInput.field-0-0-is, c.in-Work.is) at c.in-Ok-Some-OnInput.ensures in
    let read = rw (← c.as_slice.ensures.value) at c.in-Ok.ensures.read in
    quiet (WorkMay c.in-Work.command c.as_slice.result.now) _ _ _ _ refl (λ e t may. grind arith) (rw c.in-Ok.ensures.rests at c.work.ensures.ends)

pub returns-in-Ok-clause-ends : goal.returns-in-Ok-clause-ends
returns-in-Ok-clause-ends g c =
    let asks = rw (c.in-Ok-Some-OnInput.field-0-is, c.in-Ok-Some-OnInput.field-0-0-is, c.in-Net.is) at c.in-Ok-Some-OnInput.ensures in
    talked _ _ _ _ c.in-Net.command c.as_slice-in-Net.result.now asks (rw (← c.as_slice-in-Net.ensures.value) at c.in-Ok.ensures.read) (rw c.in-Ok.ensures.rests at c.talk.ensures.ends)

pub returns-clause-ends : goal.returns-clause-ends
returns-clause-ends g c =
    let asks = rw (c.in-Ok-Some-OnInput.field-0-is, c.in-Ok-Some-OnInput.field-0-0-is) at c.in-Ok-Some-OnInput.ensures in
    quiet (UnreadMay (g.S.Counted.seen c.args.input.now) (g.S.Counted.seen c.input_of.new.input)) _ _ _ _ refl (λ e t may. grind arith) c.in-Err-input_of.ensures.unread
