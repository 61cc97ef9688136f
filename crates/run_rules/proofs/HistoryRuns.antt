-- The history of a schedule is that of its two runs.
use Rattle.std.proofs.Common.{◌≡◌, ◌∙◌, ℕ, false, length, take, sym, ap, subst}
use Rattle.mailbox_rules.specs.Requests.{lines_of}
use Rattle.run_rules.specs.Book.{Book}
use Rattle.run_rules.specs.Letters.{FrameWorld}
use Rattle.run_rules.specs.History.{AtEnd, frame_run, history, no_lane, token_run}
use Rattle.run_rules.specs.Acts.{ended_of, history_of}
use Rattle.run_rules.specs.EveryEnd.{AtEveryEnd}
use Rattle.run_rules.specs.HistoryRuns.{HistoryIsRuns, RunsAreOne}
use Rattle.run_rules.specs.Known.{IsWhole}
use Rattle.token_rules.specs.Tokens.{World}
use Rattle.run_rules.proofs.ForeignFollows.{frames_agree}
use Rattle.run_rules.proofs.WholeForeign.{whole, world_is}
use Rattle.run_rules.proofs.WholeLaw as law

is_runs : (b : Book) (f : FrameWorld) (v : World) → IsWhole b v → HistoryIsRuns b f v
is_runs b f v w =
    let hon : (c : ℕ) → b.foreign c ≡ false → v.foreign c ≡ false = λ c honest. ap (λ g. g c) w.foreign ∙ honest in
    record {
      foreign = λ c. ap (λ g. g c) (sym w.foreign);
      sent = λ c. sym (w.sent c);
      serials = λ c honest. ap length (sym (w.sent c)) ∙ sym (w.lawful.sent.serials c (hon c honest));
      commands = sym w.commands;
      entries = sym w.journal;
      carried = ap lines_of (sym w.journal) ∙ w.lawful.coherent.journal ∙ ap (take v.carried) w.commands;
    }

pub runs_at_end : AtEnd HistoryIsRuns
runs_at_end o settings seed events limits fit few =
    let v = token_run o settings no_lane events in
    is_runs (history settings seed v) (frame_run settings seed events) v (law.whole o settings seed events limits fit few)

pub runs_at_every_end : AtEveryEnd HistoryIsRuns
runs_at_every_end settings seed foreign events limits fit few =
    let s = ended_of settings seed foreign events in
    let b = history_of settings seed foreign s in
    let f = frame_run settings seed events in
    subst (HistoryIsRuns b f) (world_is settings seed foreign events limits fit few)
    (is_runs b f s.world (whole settings seed foreign events limits fit few))

pub runs_are_one : RunsAreOne
runs_are_one settings seed foreign events limits fit few = record {
  frames = frames_agree settings seed foreign events limits fit few;
  tokens = world_is settings seed foreign events limits fit few;
}
