-- What calls count.
use Rattle.std.specs.Prelude.{ℕ, ◌+◌, ◌-◌, ◌^◌, ◌==◌, min, max, true, false, List, [], ◌∷◌, if◌then◌else◌}
use Rattle.many_words.specs.Events.{Event, Waited, Opened, Closed, Dropped, Sent, Unanswered}
use Rattle.server_status.specs.declared.tally.Tally.{Tally}
use Rattle.server_status.specs.declared.status.WorkCounts.{WorkCounts}

-- one more, up to the largest number of 64 bits
abbrev pub more : ℕ → ℕ
more count = min (count + 1) (2 ^ 64 - 1)

abbrev pub none : Tally
none = record {
  moment = 0;
  came = 0;
  dropped = 0;
  closed = 0;
  links = 0;
  linked = false;
  work = record { frames = 0; rounds = 0; batches = 0; largest = 0 };
  batch = 0;
}

-- a round begins
abbrev pub waited : ℕ → Tally → Tally
waited now t = record t { moment = now; work = record t.work { rounds = more t.work.rounds }; batch = 0 }

-- at the place 0 the other server's connection came, at any other one a client's
abbrev pub opened_at : ℕ → Tally → Tally
opened_at place t =
    if place == 0 then record t { links = more t.links; linked = true } else record t { came = more t.came }

abbrev pub closed_at : ℕ → Tally → Tally
closed_at place t = if place == 0 then record t { linked = false } else record t { closed = more t.closed }

abbrev pub dropped_at : ℕ → Tally → Tally
dropped_at place t = if place == 0 then record t { linked = false } else record t { dropped = more t.dropped }

-- a frame was taken: the first one since the last wait begins a batch
abbrev pub worked : ℕ → WorkCounts → WorkCounts
worked batch work = record {
  frames = more work.frames;
  rounds = work.rounds;
  batches = if batch == 0 then more work.batches else work.batches;
  largest = max work.largest (more batch);
}

abbrev pub answered : Tally → Tally
answered t = record t { work = worked t.batch t.work; batch = more t.batch }

-- what one call counts: each frame that was taken is sent its answer, or left without one for now
abbrev pub counted : Tally → Event → Tally
counted t (Waited now) = waited now t
counted t (Opened place door) = opened_at place t
counted t (Closed place) = closed_at place t
counted t (Dropped place) = dropped_at place t
counted t (Sent place bytes) = answered t
counted t (Unanswered place) = answered t
counted t other = t

abbrev pub tallied_from : Tally → List Event → Tally
tallied_from t [] = t
tallied_from t (e ∷ events) = tallied_from (counted t e) events

-- what all calls since the start count
abbrev pub tallied : List Event → Tally
tallied events = tallied_from none events
