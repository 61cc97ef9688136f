-- A schedule that keeps the rules has its foreign lanes apart from its clients' lanes.
use Rattle.std.proofs.Common.{◌≡◌, ◌<◌, ◌≤◌, ℕ, ◌==◌, ◌||◌, Bool, true, false, List, [], ◌∷◌, ◌++◌, length, Option, Some, None, Result, Ok, Err, refl, sym, ap, ap₂, ◌∙◌, subst, inl, inr, arith, append_assoc, append-nil, length-append}
use Rattle.std.proofs.lemmas.Bool.{cases_Bool, eq-eqb, eqb-true}
use Rattle.std.proofs.lemmas.List.{length-map}
use Rattle.express_words.specs.declared.settings.Settings.{Settings}
use Rattle.express_words.specs.declared.refusal.Refusal.{Refusal}
use Rattle.frame_rules.specs.Frames.{PlainFrame}
use Rattle.frame_rules.specs.Whole.{whole}
use Rattle.token_rules.specs.Tokens.{World, oracle_of}
use Rattle.token_rules.proofs.Accounts.{outcomes_account}
use Rattle.token_rules.proofs.Outcomes.{outcomes_numbered}
use Rattle.run_rules.specs.Letters.{FrameWorld}
use Rattle.run_rules.specs.Book.{Book}
use Rattle.run_rules.specs.History as history
use Rattle.run_rules.specs.History.{token_events}
use Rattle.run_rules.specs.Acts as acts
use Rattle.run_rules.specs.Acts.{AreFitting, IsFitting, IsOutside, NamesForeign, foreign_in}
use Rattle.run_rules.specs.EveryEnd.{AtEveryEnd}
use Rattle.run_rules.specs.Run as run
use Rattle.run_rules.proofs.BroughtEnds.{commands_were_brought}
use Rattle.run_rules.proofs.FinishAnswers.{finish_answers, front_fits}
use Rattle.run_rules.proofs.FinishDrains.{finish_drains}
use Rattle.run_rules.proofs.HistoryRuns.{runs_are_one}
use Rattle.schedule_text.specs.declared.schedule.Asked.{Asked}
use Rattle.schedule_text.specs.declared.schedule.Asked.TheVariants.{Register, Write, Read, Retire}
use Rattle.schedule_text.specs.declared.schedule.Event.{Event}
use Rattle.schedule_text.specs.declared.schedule.Event.TheVariants.{Ask, Send, Tick, Deliver, Show, Finish, Inject}
use Rattle.schedule_text.specs.Lanes.{IsApart, client_of, foreign_by, is_foreign, is_lane, is_used, lane_from_client, lane_in}
use Rattle.schedule_text.specs.Rules.{EventsKeepRules, IsAskable}
use Rattle.replay_world.specs.Parts.{event_in, events_in, request_in}
use Rattle.replay_world.specs.Played.{run_of}
use Rattle.replay_world.specs.Laws.{AreFromClients}
use Rattle.replay_world.specs.Strangers.{ClientsAreAlone, FinishesAnswer, FinishesDrain, HistoryIsOfRun, OfEverySchedule, RequestsAreTold, SchedulesFit, StrangersAreForeign, StrangersWereBrought, runs_of, strangers_in}

-- ---- the lanes that bytes from outside name

same_lane : (r : Result PlainFrame Refusal) → history.lane_from_client r ≡ lane_from_client r
same_lane (Ok f) = refl
same_lane (Err r) = refl

same_test : (c : ℕ) (o : Option ℕ) → acts.is_lane c o ≡ is_lane c o
same_test c (Some d) = refl
same_test c None = refl

names_same : (c : ℕ) (event : Event) → acts.names_lane c (event_in event) ≡ is_lane c (foreign_by event)
unfolding lane_in
names_same c (Ask client asked) = refl
names_same c (Send client) = refl
names_same c Tick = refl
names_same c (Deliver number) = refl
names_same c (Show number) = refl
names_same c (Finish client) = refl
names_same c (Inject server bytes) =
    ap (acts.is_lane c) (same_lane (whole bytes)) ∙ same_test c (lane_from_client (whole bytes))

foreign_same : (events : List Event) (c : ℕ) → foreign_in (events_in events) c ≡ is_foreign events c
unfolding foreign_in is_foreign
foreign_same [] c = refl
foreign_same (event ∷ events) c = ap₂ (λ p q. p || q) (names_same c event) (foreign_same events c)

foreign_append : (xs ys : List Event) (c : ℕ) → is_foreign (xs ++ ys) c ≡ is_foreign xs c || is_foreign ys c
unfolding is_foreign
foreign_append [] ys c = refl
foreign_append (x ∷ xs) ys c = by_first (is_lane c (foreign_by x)) (foreign_append xs ys c)
  where
    by_first : (t : Bool) → is_foreign (xs ++ ys) c ≡ is_foreign xs c || is_foreign ys c
        → t || is_foreign (xs ++ ys) c ≡ (t || is_foreign xs c) || is_foreign ys c
    by_first true e = refl
    by_first false e = e

-- ---- a used lane is never made foreign

used_more : (xs : List Event) (x : Event) (c : ℕ) → is_used xs c ≡ true → is_used (xs ++ x ∷ []) c ≡ true
unfolding is_used
used_more [] x c h = absurd (cc h)
used_more (y ∷ xs) x c h = by_first (is_lane c (client_of y)) h (λ k. used_more xs x c k)
  where
    by_first : (t : Bool) → t || is_used xs c ≡ true → (is_used xs c ≡ true → is_used (xs ++ x ∷ []) c ≡ true)
        → t || is_used (xs ++ x ∷ []) c ≡ true
    by_first true e next = refl
    by_first false e next = next e

used_now : (xs : List Event) (x : Event) (c : ℕ) → is_lane c (client_of x) ≡ true → is_used (xs ++ x ∷ []) c ≡ true
unfolding is_used
used_now [] x c h = ap (λ t. t || false) h
used_now (y ∷ xs) x c h = by_first (is_lane c (client_of y)) (used_now xs x c h)
  where
    by_first : (t : Bool) → is_used (xs ++ x ∷ []) c ≡ true → t || is_used (xs ++ x ∷ []) c ≡ true
    by_first true e = refl
    by_first false e = e

-- a lane that is apart from these is none of theirs
apart : (among : ℕ → Bool) (lane : Option ℕ) (c : ℕ) → IsApart among lane → among c ≡ true → is_lane c lane ≡ false
apart among None c h used = refl
apart among (Some d) c h used = elim (cases_Bool (c == d)) [
  | inl same ↦ let e : c ≡ d = eqb-true c d same in absurd (cc (used, h, ap among e))
  | inr other ↦ other
]

never_foreign : (settings : Settings) (before events : List Event) (c : ℕ) → EventsKeepRules settings before events
    → is_used before c ≡ true → is_foreign events c ≡ false
unfolding is_foreign
never_foreign settings before [] c h used = refl
never_foreign settings before (x ∷ events) c h used =
    ap₂ (λ p q. p || q) (apart (is_used before) (foreign_by x) c h.0.1.stranger used)
    (never_foreign settings (before ++ x ∷ []) events c h.1 (used_more before x c used))

-- ---- so the schedule fits the runs

fits : (width : ℕ) (asked : Asked) → IsAskable width asked → history.Fits width (request_in asked)
fits width (Register address) h = h
fits width (Write target message) h = (h.0, h.1)
fits width (Read own) h = tt
fits width (Retire own) h = tt

itself : (c : ℕ) → c == c ≡ true
itself c = eq-eqb c c refl

is_named : (settings : Settings) (foreign : ℕ → Bool) (before events : List Event) (server : ℕ) (bytes : List ℕ)
    → ((c : ℕ) → foreign c ≡ is_foreign (before ++ Inject server bytes ∷ events) c)
    → NamesForeign foreign (history.lane_from_client (whole bytes))
unfolding is_foreign lane_in
is_named settings foreign before events server bytes all =
    by_lane (history.lane_from_client (whole bytes)) (same_lane (whole bytes))
  where
    or_true : (t : Bool) → t || true ≡ true
    or_true true = refl
    or_true false = refl

    by_lane : (o : Option ℕ) → o ≡ lane_from_client (whole bytes) → NamesForeign foreign o
    by_lane None e = tt
    by_lane (Some c) e =
        let here : is_foreign (Inject server bytes ∷ events) c ≡ true =
        ap (λ o. is_lane c o || is_foreign events c) (sym e) ∙ ap (λ t. t || is_foreign events c) (itself c) in
        all c ∙ foreign_append before (Inject server bytes ∷ events) c
        ∙ ap (λ t. is_foreign before c || t) here ∙ or_true (is_foreign before c)

not_named : (settings : Settings) (foreign : ℕ → Bool) (before events : List Event) (x : Event) (c : ℕ)
    → EventsKeepRules settings before (x ∷ events) → client_of x ≡ Some c → foreign_by x ≡ None
    → ((c : ℕ) → foreign c ≡ is_foreign (before ++ x ∷ events) c) → foreign c ≡ false
unfolding is_foreign
not_named settings foreign before events x c h mine none all =
    let was : is_foreign before c ≡ false = subst (IsApart (is_foreign before)) mine h.0.1.client in
    let used : is_used (before ++ x ∷ []) c ≡ true = used_now before x c (ap (is_lane c) mine ∙ itself c) in
    let after = never_foreign settings (before ++ x ∷ []) events c h.1 used in
    all c ∙ foreign_append before (x ∷ events) c
    ∙ ap (λ t. t || is_foreign (x ∷ events) c) was
    ∙ ap (λ o. is_lane c o || is_foreign events c) none ∙ after

is_fitting : (settings : Settings) (foreign : ℕ → Bool) (before events : List Event) (x : Event)
    → EventsKeepRules settings before (x ∷ events) → ((c : ℕ) → foreign c ≡ is_foreign (before ++ x ∷ events) c)
    → IsFitting settings foreign (event_in x)
is_fitting settings foreign before events (Ask client asked) h all =
    (h.0.0.0, not_named settings foreign before events (Ask client asked) client h refl refl all, fits settings.width asked h.0.0.1)
is_fitting settings foreign before events (Send client) h all = tt
is_fitting settings foreign before events Tick h all = tt
is_fitting settings foreign before events (Deliver number) h all = tt
is_fitting settings foreign before events (Show number) h all = tt
is_fitting settings foreign before events (Finish client) h all = tt
is_fitting settings foreign before events (Inject server bytes) h all = record {
  names = is_named settings foreign before events server bytes all;
  bytes_are = h.0.0.3;
  few = let most = h.0.0.2 in omega (arith, most);
}

are_fitting : (settings : Settings) (foreign : ℕ → Bool) (before events : List Event) → EventsKeepRules settings before events
    → ((c : ℕ) → foreign c ≡ is_foreign (before ++ events) c) → AreFitting settings foreign (events_in events)
are_fitting settings foreign before [] h all = tt
are_fitting settings foreign before (x ∷ events) h all = (
  is_fitting settings foreign before events x h all,
  are_fitting settings foreign (before ++ x ∷ []) events h.1
      (λ c. all c ∙ ap (λ xs. is_foreign xs c) (sym (append_assoc before (x ∷ []) events))),
)

pub strangers_are_foreign : StrangersAreForeign
strangers_are_foreign schedule c = foreign_same schedule.events c

none_named : (events : List Event) (c : ℕ) → AreFromClients events → is_foreign events c ≡ false
unfolding is_foreign
none_named [] c h = refl
none_named (Ask client asked ∷ events) c h = none_named events c h.1
none_named (Send client ∷ events) c h = none_named events c h.1
none_named (Tick ∷ events) c h = none_named events c h.1
none_named (Deliver number ∷ events) c h = none_named events c h.1
none_named (Show number ∷ events) c h = none_named events c h.1
none_named (Finish client ∷ events) c h = none_named events c h.1
none_named (Inject server bytes ∷ events) c h = absurd h.0

pub clients_are_alone : ClientsAreAlone
clients_are_alone schedule c h = foreign_same schedule.events c ∙ none_named schedule.events c h

pub schedule_fits : SchedulesFit
schedule_fits schedule rules =
    are_fitting schedule.header.settings (strangers_in schedule) [] schedule.events rules.events (foreign_same schedule.events)

pub of_every_schedule : (P : Book → FrameWorld → World → Type 0) → AtEveryEnd P → OfEverySchedule P
unfolding run_of
of_every_schedule P h schedule rules =
    h schedule.header.settings schedule.header.seed (strangers_in schedule) (events_in schedule.events) schedule.header.settings.limits
    (schedule_fits schedule rules) (omega (arith, rules.few, length-map schedule.events event_in))

pub history_is_of_run : HistoryIsOfRun
unfolding run_of
history_is_of_run schedule rules =
    runs_are_one schedule.header.settings schedule.header.seed (strangers_in schedule) (events_in schedule.events) schedule.header.settings.limits
    (schedule_fits schedule rules) (omega (arith, rules.few, length-map schedule.events event_in))

pub strangers_were_brought : StrangersWereBrought
strangers_were_brought schedule i e rules at strange =
    commands_were_brought schedule.header.settings schedule.header.seed (strangers_in schedule) (events_in schedule.events) schedule.header.settings.limits
    (schedule_fits schedule rules) (omega (arith, rules.few, length-map schedule.events event_in)) i e at strange

-- ---- what is told, and a finish

pub schedules_tell : RequestsAreTold
schedules_tell schedule client rules honest =
    let settings = schedule.header.settings in
    let o = oracle_of (runs_of schedule).acts in
    let events = token_events (events_in schedule.events) in
    let room : 0 < settings.window = omega (arith, settings.limits.3.0) in (
      outcomes_numbered o settings.width settings.boxes settings.window (strangers_in schedule) events room client,
      outcomes_account o settings.width settings.boxes settings.window (strangers_in schedule) events client room honest,
    )

rest_keeps : (settings : Settings) (before xs ys : List Event) → EventsKeepRules settings before (xs ++ ys)
    → EventsKeepRules settings (before ++ xs) ys
rest_keeps settings before [] ys h = subst (λ zs. EventsKeepRules settings zs ys) (sym (append-nil before)) h
rest_keeps settings before (x ∷ xs) ys h =
    subst (λ zs. EventsKeepRules settings zs ys) (append_assoc before (x ∷ []) xs) (rest_keeps settings (before ++ x ∷ []) xs ys h.1)

in_parts : (xs ys : List Event) → events_in (xs ++ ys) ≡ events_in xs ++ events_in ys
in_parts [] ys = refl
in_parts (x ∷ xs) ys = ap (λ l. event_in x ∷ l) (in_parts xs ys)

pub schedules_answer : FinishesAnswer
unfolding run_of
schedules_answer schedule client number before after rules is small =
    let settings = schedule.header.settings in
    let foreign = strangers_in schedule in
    let named : (c : ℕ) → foreign c ≡ is_foreign (before ++ Finish client ∷ after) c =
    λ c. foreign_same schedule.events c ∙ ap (λ es. is_foreign es c) is in
    let kept = rest_keeps settings [] before (Finish client ∷ after) (subst (EventsKeepRules settings []) is rules.events) in
    let honest = not_named settings foreign before after (Finish client) client kept refl refl named in
    let all : events_in schedule.events ≡ events_in before ++ run.Finish client ∷ events_in after =
    ap events_in is ∙ in_parts before (Finish client ∷ after) in
    let few : length (events_in schedule.events) ≤ 20000 = omega (arith, rules.few, length-map schedule.events event_in) in
    rw all (finish_answers settings schedule.header.seed foreign (events_in before) (events_in after) client number settings.limits
    (subst (AreFitting settings foreign) all (schedule_fits schedule rules)) honest (subst (λ es. length es ≤ 20000) all few) small)

pub finishes_drain : FinishesDrain
unfolding run_of
finishes_drain schedule client before rules is busy =
    let settings = schedule.header.settings in
    let foreign = strangers_in schedule in
    let named : (c : ℕ) → foreign c ≡ is_foreign (before ++ Finish client ∷ []) c =
    λ c. foreign_same schedule.events c ∙ ap (λ es. is_foreign es c) is in
    let kept = rest_keeps settings [] before (Finish client ∷ []) (subst (EventsKeepRules settings []) is rules.events) in
    let honest = not_named settings foreign before [] (Finish client) client kept refl refl named in
    let all : events_in schedule.events ≡ events_in before ++ run.Finish client ∷ [] =
    ap events_in is ∙ in_parts before (Finish client ∷ []) in
    let few : length (events_in schedule.events) ≤ 20000 = omega (arith, rules.few, length-map schedule.events event_in) in
    let fits = front_fits settings foreign (events_in before) (run.Finish client ∷ []) (subst (AreFitting settings foreign) all (schedule_fits schedule rules)) in
    let size = ap length all ∙ length-append (events_in before) (run.Finish client ∷ []) in
    rw all (finish_drains settings schedule.header.seed foreign (events_in before) client settings.limits fits honest (omega (arith, few, size)) busy)
