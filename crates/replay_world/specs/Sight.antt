-- What goes to clients' lanes.
use Rattle.std.specs.Prelude.{◌≡◌, ℕ, Some, slice_get}
use Rattle.frame_rules.specs.Frames as frame
use Rattle.frame_rules.specs.Frames.{PlainFrame, PlainBody}
use Rattle.frame_rules.specs.Spelling.{spelling}
use Rattle.run_rules.specs.Letters.{Letter, ToClient}
use Rattle.schedule_text.specs.declared.schedule.Schedule.{Schedule}
use Rattle.replay_world.specs.Played.{run_of}

-- An answer to a client. No other frame goes to its lane: so none with an audit's point, with an opening, or
-- with a proof share.
abbrev pub IsForClient : PlainBody → Type 0
IsForClient (frame.Held proof) = Unit {0}
IsForClient (frame.Challenge ckey) = Unit {0}
IsForClient (frame.Registered number) = Unit {0}
IsForClient frame.Accepted = Unit {0}
IsForClient (frame.Message zero one) = Unit {0}
IsForClient (frame.Refused refusal) = Unit {0}
IsForClient body = ⊥

-- of every frame of the pool that is addressed to a client, with whatever bytes from outside
abbrev pub ClientsGetAnswers : Type 0
ClientsGetAnswers = (schedule : Schedule) (place c : ℕ) (l : Letter)
    → slice_get (run_of schedule).pool place ≡ Some l → l.to ≡ ToClient c
    → (f : PlainFrame) × (l.bytes ≡ spelling f) × IsForClient f.body
