-- How runs of calls go on.
use Rattle.std.proofs.Common.{◌≡◌, ◌≤◌, ◌+◌, ◌⊎◌, inl, inr, ℕ, Bool, true, if◌then◌else◌, List, [], ◌∷◌, ◌++◌, length, length-append, Option, Some, None, IsSome, filter, refl, sym, ◌∙◌, ap, subst, append_assoc, append-nil, lit≤, arith}
use Rattle.std.proofs.lemmas.List.Elements.{filter-append}
use Rattle.many_words.specs.Events.{Event, Entry, Adds, Logged, LogFailed, records_of}
use Rattle.kept_machine.specs.Kept.{Holds}
use Rattle.node_journal.specs.Batches.{BatchState, IsBeforeOrAll}
use Rattle.node_journal.specs.Disk.{DiskSeen, LeavesOnly}
use Rattle.node_journal.specs.Journal.{JournalState}
use Rattle.node_journal.specs.Records.{content, IsUndamaged}
use Rattle.node_journal.proofs.Moments.{and_then, started, widened}
use Rattle.kept_machine.proofs.JournalLaws.{undamaged_now}
use Rattle.logged_hub.specs.Calls.{AddsAll, is_of_wires, opening, written, written_by}
use Rattle.logged_hub.specs.Runs.{CallByCall, Calls, Fails, FailsFor, GoesOn, HasAtLeast, IsHubKept, IsOfBatch, IsOfEither, IsOneCall, IsWrittenUpToOne, IsWrittenWithBatch, LeavesCall, LeavesRun, Proceeds, StaysFailed}
use Rattle.logged_hub.specs.State.{HubState, LeavesWhole, records_in}
use Rattle.logged_hub.specs.declared.fault.LogFault.{LogFault}
use Rattle.logged_hub.proofs.HubLaws.{kept-beside, records-of-held, written-append}

adds-none : (told : Option (List Event)) → AddsAll told told []
adds-none None = tt
adds-none (Some own) = sym (append-nil own)

pub adds-same : (old new : Option (List Event)) → new ≡ old → AddsAll old new []
adds-same old new is = subst (λ now. AddsAll old now []) (sym is) (adds-none old)

pub adds-one : (old new : Option (List Event)) (event : Event) → Adds old new event → AddsAll old new (event ∷ [])
adds-one old None event adds = tt
adds-one None (Some new) event adds = adds
adds-one (Some old) (Some new) event adds = adds

adds-then : (old mid new : Option (List Event)) (a b : List Event) → AddsAll old mid a → AddsAll mid new b → AddsAll old new (a ++ b)
adds-then old mid None a b first second = tt
adds-then old None (Some new) a b first second = absurd second
adds-then None (Some mid) (Some new) a b first second = absurd first
adds-then (Some old) (Some mid) (Some new) a b first second = second ∙ ap (λ (l : List Event). l ++ b) first ∙ append_assoc old a b

pub told-written : (held : List (List ℕ)) (calls : List Event) → written (opening held ∷ calls) ≡ held ++ written calls
told-written held calls = ap (λ (l : List (List ℕ)). l ++ written calls) (records-of-held held)

module _ {W D : Type 0} (tells : W → Option (List Event)) (shows : D → DiskSeen) where
  -- the log has what it had, and what these calls wrote
  records-then : (old mid : HubState W D) (on : GoesOn tells shows old mid) → records_in mid ≡ records_in old ++ written on.events
  records-then old mid on =
      ap (λ (l : List (List ℕ)). l ++ written mid.calls) on.held
      ∙ ap (λ l. old.held ++ written l) on.calls
      ∙ ap (λ (l : List (List ℕ)). old.held ++ l) (written-append old.calls on.events)
      ∙ sym (append_assoc old.held (written old.calls) (written on.events))

  both-written : (old mid : HubState W D) (on : GoesOn tells shows old mid) (b : List Event) → records_in mid ++ written b ≡ records_in old ++ written (on.events ++ b)
  both-written old mid on b =
      ap (λ (l : List (List ℕ)). l ++ written b) (records-then old mid on)
      ∙ append_assoc (records_in old) (written on.events) (written b)
      ∙ ap (λ (l : List (List ℕ)). records_in old ++ l) (sym (written-append on.events b))

  module _ (old mid new : HubState W D) (first : GoesOn tells shows old mid) (second : GoesOn tells shows mid new) where
    abbrev all : List Event
    all = first.events ++ second.events

    up-to-first : (c : List ℕ) → IsWrittenUpToOne (records_in old) first.events c → IsWrittenUpToOne (records_in old) all c
    up-to-first c up =
        (up.0, up.1 ++ second.events, ap (λ (l : List Event). l ++ second.events) up.2 ∙ append_assoc up.0 up.1 second.events, up.3)

    up-to-second : (c : List ℕ) → IsWrittenUpToOne (records_in mid) second.events c → IsWrittenUpToOne (records_in old) all c
    up-to-second c up =
        (first.events ++ up.0, up.1, ap (λ (l : List Event). first.events ++ l) up.2 ∙ sym (append_assoc first.events up.0 up.1), up.3 ∙ both-written old mid first up.0)

    -- the log hadn't failed between the two
    from-first : mid.fault ≡ None → (c : List ℕ) → LeavesRun old mid first.events c → LeavesRun old new all c
    from-first none c left = record { records = go left.records; undamaged = left.undamaged }
      where
        go : IsWrittenUpToOne (records_in old) first.events c ⊎ IsWrittenWithBatch mid (records_in old) first.events c
            → IsWrittenUpToOne (records_in old) all c ⊎ IsWrittenWithBatch new (records_in old) all c
        go (inl up) = inl (up-to-first c up)
        go (inr with) = let no = subst IsSome none with.0 in absurd (cc no)

    from-second : (c : List ℕ) → LeavesRun mid new second.events c → LeavesRun old new all c
    from-second c left = record { records = go left.records; undamaged = subst (λ (n : ℕ). IsUndamaged n 0 c) first.limit left.undamaged }
      where
        go : IsWrittenUpToOne (records_in mid) second.events c ⊎ IsWrittenWithBatch new (records_in mid) second.events c
            → IsWrittenUpToOne (records_in old) all c ⊎ IsWrittenWithBatch new (records_in old) all c
        go (inl up) = inl (up-to-second c up)
        go (inr with) = inr (with.0, with.1 ∙ ap (λ (l : List (List ℕ)). l ++ new.batch.records) (both-written old mid first second.events))

    -- it had
    from-failed : StaysFailed mid new second.events → (c : List ℕ) → LeavesRun old mid first.events c → LeavesRun old new all c
    from-failed stays c left = record { records = go left.records; undamaged = left.undamaged }
      where
        go : IsWrittenUpToOne (records_in old) first.events c ⊎ IsWrittenWithBatch mid (records_in old) first.events c
            → IsWrittenUpToOne (records_in old) all c ⊎ IsWrittenWithBatch new (records_in old) all c
        go (inl up) = inl (up-to-first c up)
        go (inr with) = inr (
          subst IsSome (sym stays.fault) with.0,
          with.1
              ∙ ap (λ (l : List (List ℕ)). records_in old ++ l ++ mid.batch.records)
              (sym (append-nil (written first.events)) ∙ ap (λ (l : List (List ℕ)). written first.events ++ l) (sym stays.nothing) ∙ sym (written-append first.events second.events))
              ∙ ap (λ b. records_in old ++ written all ++ b.records) (sym stays.batch),
        )

    moments : (fault : Option LogFault) → mid.fault ≡ fault → IsHubKept shows old → old.fault ≡ None → LeavesOnly (shows old.disk) (shows new.disk) (LeavesRun old new all)
    moments None is kept none =
        and_then (shows old.disk) (shows mid.disk) (shows new.disk) (LeavesRun old new all)
        (widened (shows old.disk) (shows mid.disk) (LeavesRun old mid first.events) (LeavesRun old new all) (first.any_moment kept none) (from-first is))
        (widened (shows mid.disk) (shows new.disk) (LeavesRun mid new second.events) (LeavesRun old new all) (second.any_moment (first.keeps kept) is) from-second)
    moments (Some why) is kept none =
        let stays = second.failed (subst IsSome (sym is) refl) in
        subst (λ d. LeavesOnly (shows old.disk) (shows d) (LeavesRun old new all)) (sym stays.disk)
        (widened (shows old.disk) (shows mid.disk) (LeavesRun old mid first.events) (LeavesRun old new all) (first.any_moment kept none) (from-failed stays))

    pub run-then : GoesOn tells shows old new
    run-then = record {
      events = all;
      calls = second.calls ∙ ap (λ (l : List Event). l ++ second.events) first.calls ∙ append_assoc old.calls first.events second.events;
      wires = subst (λ l. AddsAll (tells old.wires) (tells new.wires) l) (sym (filter-append is_of_wires first.events second.events))
          (adds-then (tells old.wires) (tells mid.wires) (tells new.wires) (filter is_of_wires first.events) (filter is_of_wires second.events) first.wires second.wires);
      held = second.held ∙ first.held;
      limit = second.limit ∙ first.limit;
      keeps = λ kept. second.keeps (first.keeps kept);
      any_moment = moments mid.fault refl;
      failed = λ some.
          let one = first.failed some in
          let two = second.failed (subst IsSome (sym one.fault) some) in
          record {
            nothing = written-append first.events second.events ∙ ap (λ (l : List (List ℕ)). l ++ written second.events) one.nothing ∙ two.nothing;
            fault = two.fault ∙ one.fault;
            disk = two.disk ∙ one.disk;
            batch = two.batch ∙ one.batch;
          };
    }

-- ---- one call

none-behind : (event : Event) (before after : List Event) → length (event ∷ before ++ after) ≤ 1 → event ∷ before ++ after ≡ event ∷ before
none-behind event before [] le = append-nil (event ∷ before)
none-behind event before (other ∷ after) le =
    absurd (let more = length-append (event ∷ before) (other ∷ after) in omega (arith, le, more))

module _ {W D : Type 0} (tells : W → Option (List Event)) (shows : D → DiskSeen) (old new : HubState W D) (on : GoesOn tells shows old new)
    (one : length on.events ≤ 1) where
  up-to-now : (c : List ℕ) → IsWrittenUpToOne (records_in old) on.events c → IsOfEither old new c
  up-to-now c ([], after, split, is) = inl (is ∙ append-nil (records_in old))
  up-to-now c (event ∷ before, after, split, is) =
      let all = none-behind event before after (subst (λ (l : List Event). length l ≤ 1) split one) in
      inr (is ∙ ap (λ (l : List Event). records_in old ++ written l) (sym (split ∙ all)) ∙ sym (records-then tells shows old new on))

  left-by-one : (c : List ℕ) → LeavesRun old new on.events c → LeavesCall old new c
  left-by-one c left = record { records = go left.records; undamaged = left.undamaged }
    where
      go : IsWrittenUpToOne (records_in old) on.events c ⊎ IsWrittenWithBatch new (records_in old) on.events c → IsOfEither old new c ⊎ IsOfBatch new c
      go (inl up) = inl (up-to-now c up)
      go (inr with) = inr (with.0, with.1 ∙ ap (λ (l : List (List ℕ)). l ++ new.batch.records) (sym (records-then tells shows old new on)))

  by-one : CallByCall tells shows old new
  by-one = (
    new ∷ [],
    (
      record {
        goes = on;
        one = one;
        any_moment = λ kept none. widened (shows old.disk) (shows new.disk) (LeavesRun old new on.events) (LeavesCall old new) (on.any_moment kept none) left-by-one;
      },
      refl,
    ),
  )

module _ {W D : Type 0} (tells : W → Option (List Event)) (shows : D → DiskSeen) (old new : HubState W D) (calls : CallByCall tells shows old new) where
  no-fault-by : new.fault ≡ old.fault → Proceeds tells shows old new
  no-fault-by same = record { calls = calls; fault = same }

  fault-now : (why : LogFault) → new.fault ≡ Some why → FailsFor old why → Fails tells shows old new
  fault-now why is cause = record { calls = calls; why = why; fault = is; first = λ none. cause }

  fault-again : (fault : Option LogFault) → old.fault ≡ fault → IsSome fault → new.fault ≡ old.fault → Fails tells shows old new
  fault-again None is some same = absurd (cc some)
  fault-again (Some why) is some same = record { calls = calls; why = why; fault = same ∙ is; first = λ none. let no = sym none ∙ is in absurd (cc no) }

module _ {W D : Type 0} (tells : W → Option (List Event)) (shows : D → DiskSeen)
    (only_now : (d : D) (c : List ℕ) → (shows d).left_since (shows d).moment c → (shows d).may_leave c) where
  -- the disk isn't touched
  resting : (old : HubState W D) (events : List Event) → IsHubKept shows old → old.fault ≡ None → LeavesOnly (shows old.disk) (shows old.disk) (LeavesRun old old events)
  resting old events kept none =
      started (shows old.disk) (LeavesRun old old events) (λ c left.
      let ready = kept.ready none in
      let read = ready.in_place.durable c (only_now old.disk c left) in
      record {
        records = inl ([], events, refl, kept.held none c read ∙ sym (append-nil (records_in old)));
        undamaged = undamaged_now old.journal (shows old.disk) ready.in_place ready.ready c read;
      })

  -- a call of the connections
  pub beside : (old : HubState W D) (wires : W) (calls : List Event) (event : Event) → written_by event ≡ [] → is_of_wires event ≡ true
      → Adds (tells old.wires) (tells wires) event → calls ≡ old.calls ++ event ∷ [] → Proceeds tells shows old (record old { wires = wires; calls = calls })
  beside old wires calls event none is adds calls_are = no-fault-by tells shows old (record old { wires = wires; calls = calls }) (by-one tells shows old (record old { wires = wires; calls = calls }) (record {
    events = event ∷ [];
    calls = calls_are;
    wires = subst (λ (b : Bool). AddsAll (tells old.wires) (tells wires) (if b then event ∷ [] else [])) (sym is) (adds-one (tells old.wires) (tells wires) event adds);
    held = refl;
    limit = refl;
    keeps = kept-beside (shows old.disk) old.journal old.batch.records old.held old.fault old.calls calls event calls_are none;
    any_moment = λ kept unfailed.
        widened (shows old.disk) (shows old.disk) (LeavesRun old old (event ∷ [])) (LeavesRun old (record old { wires = wires; calls = calls }) (event ∷ []))
        (resting old (event ∷ []) kept unfailed) (λ c left. record { records = left.records; undamaged = left.undamaged });
    failed = λ some. record { nothing = append-nil (written_by event) ∙ none; fault = refl; disk = refl; batch = refl };
  }) (lit≤ tt)) refl

  -- none at all that is told
  pub unseen : (old : HubState W D) (wires : W) → tells wires ≡ tells old.wires → Proceeds tells shows old (record old { wires = wires })
  unseen old wires same = no-fault-by tells shows old (record old { wires = wires }) (by-one tells shows old (record old { wires = wires }) (record {
    events = [];
    calls = sym (append-nil old.calls);
    wires = adds-same (tells old.wires) (tells wires) same;
    held = refl;
    limit = refl;
    keeps = λ kept. kept;
    any_moment = λ kept unfailed.
        widened (shows old.disk) (shows old.disk) (LeavesRun old old []) (LeavesRun old (record old { wires = wires }) [])
        (resting old [] kept unfailed) (λ c left. record { records = left.records; undamaged = left.undamaged });
    failed = λ some. record { nothing = refl; fault = refl; disk = refl; batch = refl };
  }) (lit≤ tt)) refl

  -- a call of the log that has failed before
  pub failed-again : (old : HubState W D) (calls : List Event) → calls ≡ old.calls ++ LogFailed ∷ [] → IsSome old.fault → Fails tells shows old (record old { calls = calls })
  failed-again old calls is some = fault-again tells shows old (record old { calls = calls }) (by-one tells shows old (record old { calls = calls }) (record {
    events = LogFailed ∷ [];
    calls = is;
    wires = adds-same (tells old.wires) (tells old.wires) refl;
    held = refl;
    limit = refl;
    keeps = kept-beside (shows old.disk) old.journal old.batch.records old.held old.fault old.calls calls LogFailed is refl;
    any_moment = λ kept unfailed.
        widened (shows old.disk) (shows old.disk) (LeavesRun old old (LogFailed ∷ [])) (LeavesRun old (record old { calls = calls }) (LogFailed ∷ []))
        (resting old (LogFailed ∷ []) kept unfailed) (λ c left. record { records = left.records; undamaged = left.undamaged });
    failed = λ some. record { nothing = refl; fault = refl; disk = refl; batch = refl };
  }) (lit≤ tt)) old.fault refl some refl

  module _ (old : HubState W D) (journal : JournalState) (disk : D) (batch : BatchState) (calls : List Event) (entries : List Entry)
      (unfailed : old.fault ≡ None) (limit : journal.limit ≡ old.journal.limit)
      (leaves : Holds (records_in old) (shows old.disk).reads → LeavesOnly (shows old.disk) (shows disk) (LeavesWhole old.journal.limit (records_in old) (records_of entries))) where
    not-failed : IsSome old.fault → ⊥
    not-failed some = let no = subst IsSome unfailed some in absurd (cc no)

    -- the records were written
    abbrev written-now : HubState W D
    written-now = record old { journal = journal; disk = disk; batch = batch; calls = calls }

    pub logged : calls ≡ old.calls ++ Logged entries ∷ [] → (IsHubKept shows old → IsHubKept shows written-now) → Proceeds tells shows old written-now
    logged is keeps = no-fault-by tells shows old written-now (by-one tells shows old written-now (record {
      events = Logged entries ∷ [];
      calls = is;
      wires = adds-same (tells old.wires) (tells old.wires) refl;
      held = refl;
      limit = limit;
      keeps = keeps;
      any_moment = λ kept none. widened (shows old.disk) (shows disk) _ _ (leaves (kept.held none)) (λ c left. record { records = inl (go c left.0); undamaged = left.1 });
      failed = λ some. absurd (not-failed some);
    }) (lit≤ tt)) refl
      where
        go : (c : List ℕ) → IsBeforeOrAll (records_in old) (records_of entries) c → IsWrittenUpToOne (records_in old) (Logged entries ∷ []) c
        go c (inl before) = ([], Logged entries ∷ [], refl, before ∙ sym (append-nil (records_in old)))
        go c (inr all) = (Logged entries ∷ [], [], refl, all ∙ ap (λ (l : List (List ℕ)). records_in old ++ l) (sym (append-nil (records_of entries))))

    -- they weren't, or nothing says that they were
    abbrev failed-now : LogFault → HubState W D
    failed-now why = record old { journal = journal; disk = disk; batch = batch; fault = Some why; calls = calls }

    pub log-failed : (why : LogFault) → calls ≡ old.calls ++ LogFailed ∷ [] → (disk ≡ old.disk) ⊎ (batch.records ≡ records_of entries)
        → (IsHubKept shows old → IsHubKept shows (failed-now why)) → FailsFor old why → Fails tells shows old (failed-now why)
    log-failed why is wrote keeps cause = fault-now tells shows old (failed-now why) (by-one tells shows old (failed-now why) (record {
      events = LogFailed ∷ [];
      calls = is;
      wires = adds-same (tells old.wires) (tells old.wires) refl;
      held = refl;
      limit = limit;
      keeps = keeps;
      any_moment = λ kept none. moment kept none wrote;
      failed = λ some. absurd (not-failed some);
    }) (lit≤ tt)) why refl cause
      where
        go : (c : List ℕ) → batch.records ≡ records_of entries → IsBeforeOrAll (records_in old) (records_of entries) c
            → IsWrittenUpToOne (records_in old) (LogFailed ∷ []) c ⊎ IsWrittenWithBatch (failed-now why) (records_in old) (LogFailed ∷ []) c
        go c is (inl before) = inl ([], LogFailed ∷ [], refl, before ∙ sym (append-nil (records_in old)))
        go c is (inr all) = inr (refl, all ∙ ap (λ (l : List (List ℕ)). records_in old ++ l) (sym is) ∙ ap (λ (l : List (List ℕ)). l ++ batch.records) (sym (append-nil (records_in old))))

        moment : IsHubKept shows old → old.fault ≡ None → (disk ≡ old.disk) ⊎ (batch.records ≡ records_of entries)
            → LeavesOnly (shows old.disk) (shows disk) (LeavesRun old (failed-now why) (LogFailed ∷ []))
        moment kept none (inl same) =
            subst (λ d. LeavesOnly (shows old.disk) (shows d) (LeavesRun old (failed-now why) (LogFailed ∷ []))) (sym same)
            (widened (shows old.disk) (shows old.disk) (LeavesRun old old (LogFailed ∷ [])) (LeavesRun old (failed-now why) (LogFailed ∷ []))
            (resting old (LogFailed ∷ []) kept none) (λ c left. record { records = rested c left.records; undamaged = left.undamaged }))
          where
            rested : (c : List ℕ) → IsWrittenUpToOne (records_in old) (LogFailed ∷ []) c ⊎ IsWrittenWithBatch old (records_in old) (LogFailed ∷ []) c
                → IsWrittenUpToOne (records_in old) (LogFailed ∷ []) c ⊎ IsWrittenWithBatch (failed-now why) (records_in old) (LogFailed ∷ []) c
            rested c (inl up) = inl up
            rested c (inr with) = absurd (not-failed with.0)
        moment kept none (inr is) =
            widened (shows old.disk) (shows disk) _ _ (leaves (kept.held none)) (λ c left. record { records = go c is left.0; undamaged = left.1 })

module _ {W D : Type 0} (tells : W → Option (List Event)) (shows : D → DiskSeen)
    (only_now : (d : D) (c : List ℕ) → (shows d).left_since (shows d).moment c → (shows d).may_leave c) where
  goes-nowhere : (hub : HubState W D) → GoesOn tells shows hub hub
  goes-nowhere hub = record {
    events = [];
    calls = sym (append-nil hub.calls);
    wires = adds-same (tells hub.wires) (tells hub.wires) refl;
    held = refl;
    limit = refl;
    keeps = λ kept. kept;
    any_moment = resting tells shows only_now hub [];
    failed = λ some. record { nothing = refl; fault = refl; disk = refl; batch = refl };
  }

  all-calls : (hubs : List (HubState W D)) (old new : HubState W D) → Calls tells shows hubs old new → GoesOn tells shows old new
  all-calls [] old new is = subst (GoesOn tells shows old) (sym is) (goes-nowhere old)
  all-calls (hub ∷ hubs) old new calls = run-then tells shows old hub new calls.0.goes (all-calls hubs hub new calls.1)

  pub run-of : (old new : HubState W D) → CallByCall tells shows old new → GoesOn tells shows old new
  run-of old new run = all-calls run.0 old new run.1

  at-least : (old new : HubState W D) (events : List Event) (records : List (List ℕ)) → (c : List ℕ)
      → IsWrittenUpToOne records events c ⊎ IsWrittenWithBatch new records events c → (more : List (List ℕ)) × (content c ≡ records ++ more)
  at-least old new events records c (inl up) = (written up.0, up.3)
  at-least old new events records c (inr with) = (written events ++ new.batch.records, with.1 ∙ append_assoc records (written events) new.batch.records)

  pub stays : (old new : HubState W D) → CallByCall tells shows old new → IsHubKept shows old → old.fault ≡ None
      → LeavesOnly (shows old.disk) (shows new.disk) (HasAtLeast old.journal.limit (records_in old))
  stays old new run kept none =
      let on = run-of old new run in
      widened (shows old.disk) (shows new.disk) (LeavesRun old new on.events) (HasAtLeast old.journal.limit (records_in old)) (on.any_moment kept none)
      (λ c left. let at = at-least old new on.events (records_in old) c left.records in record { more = at.0; is = at.1; undamaged = left.undamaged })
