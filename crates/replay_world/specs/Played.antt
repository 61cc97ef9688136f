-- What a contract sees of a world: the schedule so far, and its run.
use Rattle.std.specs.Prelude.{◌≡◌, ℕ, nat_eq, if◌then◌else◌, List, [], ◌∷◌, ◌++◌}
use Rattle.leader_core.specs.State as leader
use Rattle.helper_core.specs.State as helper
use Rattle.run_rules.specs.Letters.{FrameWorld, opened}
use Rattle.run_rules.specs.Run.{run}
use Rattle.schedule_text.specs.declared.schedule.Event.{Event}
use Rattle.schedule_text.specs.declared.schedule.Schedule.{Schedule}
use Rattle.replay_world.specs.declared.world.World.{World}
use Rattle.replay_world.specs.Output.{run_text}
use Rattle.replay_world.specs.Parts.{events_in}
use Rattle.replay_world.specs.View.{run_in, IsFit}

-- the header and the events so far
abbrev pub played : World → Schedule
played w = record { header = w.header; events = w.events.items }

-- the state that the world holds, as the run's rules have it
abbrev pub stands : World → FrameWorld
stands w = run_in w.header w.state

-- the run over bytes of a whole schedule
unfoldable pub run_of : Schedule → FrameWorld
run_of schedule = run (opened schedule.header.settings schedule.header.seed) (events_in schedule.events)

-- the text that its replay writes
abbrev pub output_of : Schedule → List ℕ
output_of schedule = run_text (run_of schedule)

-- Memory was found for all events so far, so the world stands where their run does.
pub record IsWhole (w : World) : Type 0 where
  pub stands : stands w ≡ run_of (played w)
  pub fit : IsFit w.header w.state

abbrev pub with_event : Schedule → Event → Schedule
with_event schedule event = record { header = schedule.header; events = schedule.events ++ event ∷ [] }

-- A server's share of a box; the leader is server 0. A box that isn't registered there has zeros.
abbrev pub share_at : FrameWorld → ℕ → ℕ → List ℕ
share_at w server box =
    if nat_eq server 0 then leader.share_in w.leader box else helper.share_in w.helper.server box
