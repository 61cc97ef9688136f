-- What a run came to, by its work and what is said of its end.
use Rattle.std.specs.Prelude.{IsErrAnd}
use Rattle.std.proofs.Common.{◌≡◌, ℕ, true, false, List, [], ◌∷◌, ◌++◌, length, map, Option, Some, None, Result, Ok, Err, refl, sym, ap, ◌∙◌, subst}
use Rattle.express_words.specs.Calls.{Call}
use Rattle.mailbox_rules.specs.Requests.{Request}
use Rattle.step_rules.specs.Client.{Client}
use Rattle.node_client.specs.declared.finished.Finished.{Finished}
use Rattle.node_client.specs.declared.peers.Peers.{Peers}
use Rattle.node_client.specs.Talks.{Talk, TalksOn}
use Rattle.node_client.specs.Work.{WorkState, work_start, WorksAll, none}
use Rattle.settings_text.specs.declared.carry.CarryJob.{CarryJob}
use Rattle.settings_text.specs.declared.carry.CarryJob.TheVariants.{Send, Fetch}
use Rattle.settings_text.specs.declared.carry.CarrySettings.{CarrySettings}
use Rattle.settings_text.specs.declared.client.ClientSettings.{ClientSettings}
use Rattle.client_run.specs.declared.carrying.CarryHalt.{CarryHalt}
use Rattle.client_run.specs.declared.carrying.CarryHalt.TheVariants as halt
use Rattle.client_run.specs.declared.cut.Cut.{Cut}
use Rattle.client_run.specs.declared.cut.Cut.TheVariants as cuts
use Rattle.client_run.specs.declared.cut.Untold.{Untold}
use Rattle.client_run.specs.declared.cut.Untold.TheVariants as untold
use Rattle.client_run.specs.declared.ran.Ran.{Ran}
use Rattle.client_run.specs.declared.ran.RunEnd.{RunEnd}
use Rattle.client_run.specs.declared.ran.RunEnd.TheVariants.{Done}
use Rattle.client_run.specs.declared.telling.Until.{Until}
use Rattle.client_run.specs.declared.telling.Until.TheVariants as until
use Rattle.client_run.specs.Accounts.{AreAt}
use Rattle.client_run.specs.Carrying.{CarriesOff, CarriesPart, AllCarry}
use Rattle.client_run.specs.Carries.{CarryRuns, CarryComes, ComesBy, Fetches, FetchedPart, FetchComes, SendComes, carry_plan, carry_text, send_end}
use Rattle.client_run.specs.Runs.{EndSaid, Plan, IsNext, between, outcome, ended, CameTo, EndsWith, BreaksInLine, Comes, ClientEnded, ClientComes, client_plan, plan_at, end_of}
use Rattle.client_run.specs.Saying.{said, whole_text, SaidSo}
use Rattle.client_run.specs.Telling.{Moment, Passed, PassedPart, TellsOff, IsLast, lines_of}
use Rattle.client_run.specs.Texts.{outcome_line, end_line}
use Rattle.client_run.proofs.CarryLaws.{none_carry}
use Rattle.client_run.proofs.PassedLaws.{took_nothing}

-- ---- a text that wasn't told

untold_comes : (plan : Plan) (Ended : EndSaid) (until : Until) (peers : Peers) (why : Untold) (result : Result Ran Untold) (a b : Moment)
    → AreAt peers plan.leader plan.helper → TellsOff peers until plan.start plan.requests (Err (cuts.Untold why)) a b → result ≡ Err why → Comes plan Ended result a b
untold_comes plan Ended until peers untold.NoMemory result a b at (s, others, last, is_last, goes, passed) is =
    let came : CameTo plan Ended others (outcome_line last) a.calls b.calls = record { stand = s; is_next = outcome others last is_last; peers = peers; at = at; calls = passed.calls } in
    subst (λ (r : Result Ran Untold). Comes plan Ended r a b) (sym is) (others, outcome_line last, came, passed.written)
untold_comes plan Ended until peers untold.Unwritten result a b at (s, others, last, is_last, goes, passed) is =
    let off : BreaksInLine plan a b = record { stand = s; told = others; last = last; is_last = is_last; peers = peers; at = at; passed = passed } in
    subst (λ (r : Result Ran Untold). Comes plan Ended r a b) (sym is) off

-- what is said of the end, or memory is wanting for it
ends_so : (plan : Plan) (Ended : EndSaid) (peers : Peers) (s : WorkState) (told : List Finished) (text : List ℕ) (end : RunEnd) (result : Result Ran Untold) (a b : Moment)
    → AreAt peers plan.leader plan.helper → Ended s told text end → Passed peers s.made (lines_of told) a b → SaidSo (Ok (text, end)) result → Comes plan Ended result a b
ends_so plan Ended peers s told text end (Ok ran) a b at is passed so =
    let with_text : Ended s told ran.text end = subst (λ (t : List ℕ). Ended s told t end) (sym so.0) is in
    record {
      stand = s;
      told = told;
      is_ended = subst (λ (e : RunEnd). Ended s told ran.text e) (sym so.1) with_text;
      peers = peers;
      at = at;
      passed = passed;
    }
ends_so plan Ended peers s told text end (Err untold.NoMemory) a b at is passed so =
    (told, text, record { stand = s; is_next = ended told text end is; peers = peers; at = at; calls = passed.calls }, passed.written)
ends_so plan Ended peers s told text end (Err untold.Unwritten) a b at is passed so = absurd (cc so)

-- memory was wanting before anything was done
wants_memory : {A : Type 0} (r : Result A Untold) → IsErrAnd r (λ why. why ≡ untold.NoMemory) → r ≡ Err untold.NoMemory
wants_memory (Ok x) h = absurd h
wants_memory (Err why) h = ap Err h

first_wants : (plan : Plan) (Ended : EndSaid) (peers : Peers) (a : Moment)
    → AreAt peers plan.leader plan.helper → Comes plan Ended (Err untold.NoMemory) a a
first_wants plan Ended peers a at =
    let came : CameTo plan Ended [] [] a.calls a.calls = record {
      stand = work_start plan.start;
      is_next = between [] plan.requests refl none;
      peers = peers;
      at = at;
      calls = refl;
    } in
    ([], [], came, took_nothing a.written)

-- ---- a client

pub client_wants : (settings : ClientSettings) (seed : List ℕ) (peers : Peers) (result : Result Ran Untold) (a : Moment)
    → AreAt peers settings.leader settings.helper → IsErrAnd result (λ why. why ≡ untold.NoMemory) → ClientComes settings seed result a a
client_wants settings seed peers result a at wants =
    subst (λ (r : Result Ran Untold). ClientComes settings seed r a a) (sym (wants_memory result wants)) (first_wants (client_plan settings seed) _ peers a at)

client_ends : (plan : Plan) (peers : Peers) (end : Result Unit Cut) (result : Result Ran Untold) (a b : Moment)
    → AreAt peers plan.leader plan.helper → TellsOff peers until.Last plan.start plan.requests end a b → SaidSo (said None end) result
    → Comes plan (ClientEnded plan) result a b
client_ends plan peers (Ok done) result a b at (s, works, goes, passed) so =
    ends_so plan (ClientEnded plan) peers s s.finished (whole_text None) Done result a b at (Ok tt, works, refl, refl, refl) passed so
client_ends plan peers (Err cuts.Broken) result a b at (s, others, last, is_last, goes, never, passed) so = absurd (cc never)
client_ends plan peers (Err (cuts.Stopped why)) result a b at (s, stops, goes, passed) so =
    ends_so plan (ClientEnded plan) peers s s.finished (end_line (Err why)) (end_of (Err why)) result a b at (Err why, stops, refl, refl, refl) passed so
client_ends plan peers (Err (cuts.Untold why)) result a b at tells so = untold_comes plan (ClientEnded plan) until.Last peers why result a b at tells so

pub client_comes : (settings : ClientSettings) (seed : List ℕ) (peers : Peers) (start : Client) (requests : List Request) (end : Result Unit Cut) (result : Result Ran Untold) (a b : Moment)
    → start ≡ (client_plan settings seed).start → requests ≡ (client_plan settings seed).requests → AreAt peers settings.leader settings.helper
    → TellsOff peers until.Last start requests end a b → SaidSo (said None end) result → ClientComes settings seed result a b
client_comes settings seed peers start requests end result a b is_start is_requests at tells so =
    let plan = client_plan settings seed in
    let here : TellsOff peers until.Last plan.start plan.requests end a b
    = subst (λ (c : Client). TellsOff peers until.Last c plan.requests end a b) is_start
    (subst (λ (rs : List Request). TellsOff peers until.Last start rs end a b) is_requests tells) in
    client_ends plan peers end result a b at here so

-- ---- a carrier that sends

pub send_comes : (count : ℕ) (plan : Plan) (peers : Peers) (end : Result Unit Cut) (result : Result Ran Untold) (a b : Moment)
    → AreAt peers plan.leader plan.helper → TellsOff peers until.Broken plan.start plan.requests end a b → SaidSo (said (Some count) end) result
    → SendComes count plan result a b
send_comes count plan peers (Ok done) result a b at (s, works, goes, passed) so =
    ends_so plan _ peers s s.finished (whole_text (Some count)) Done result a b at (s.finished, Ok tt, works, goes, refl, refl, refl) passed so
send_comes count plan peers (Err cuts.Broken) result a b at (s, others, last, is_last, goes, breaks, passed) so =
    let stops : Result Unit CarryHalt = Err (halt.Broken last) in
    let last_is : IsLast plan.start plan.requests (record { client = s.client; finished = others ++ last ∷ []; made = s.made }) others last = record {
      asked = is_last.asked;
      behind = is_last.behind;
      all = is_last.all;
      works = subst (λ (x : List Finished). WorksAll plan.start is_last.asked (record { client = s.client; finished = x; made = s.made })) is_last.finished is_last.works;
      finished = refl;
    } in
    ends_so plan _ peers s s.finished (send_end count stops) Done result a b at (others, stops, (last_is, breaks), goes, is_last.finished, refl, refl) passed so
send_comes count plan peers (Err (cuts.Stopped why)) result a b at (s, stops, goes, passed) so =
    ends_so plan _ peers s s.finished (end_line (Err why)) (end_of (Err why)) result a b at (s.finished, Err (halt.Stopped why), stops, goes, refl, refl, refl) passed so
send_comes count plan peers (Err (cuts.Untold why)) result a b at tells so = untold_comes plan _ until.Broken peers why result a b at tells so

plan_same : (c d : Client) (rs qs : List Request) (l m h k : List ℕ) → c ≡ d → rs ≡ qs → l ≡ m → h ≡ k
    → (let p : Plan = record { start = c; requests = rs; leader = l; helper = h } in let q : Plan = record { start = d; requests = qs; leader = m; helper = k } in p ≡ q)
plan_same c d rs qs l m h k e f g i =
    let P : Client → List Request → List ℕ → List ℕ → Plan = λ a b x y. record { start = a; requests = b; leader = x; helper = y } in
    ap (λ (x : Client). P x rs l h) e ∙ ap (λ (x : List Request). P d x l h) f ∙ ap (λ (x : List ℕ). P d qs x h) g ∙ ap (λ (x : List ℕ). P d qs m x) i

-- so of the settings
pub sent : (settings : CarrySettings) (seed : List ℕ) (peers : Peers) (start : Client) (requests : List Request) (id count : ℕ) (file addresses : List ℕ) (result : Result Ran Untold) (a b : Moment)
    → start ≡ (carry_plan settings seed).start → requests ≡ (carry_plan settings seed).requests → AreAt peers settings.leader settings.helper → settings.job ≡ Send id file addresses → count ≡ length addresses
    → SendComes count (plan_at peers start requests) result a b → CarryComes settings seed result a b
sent settings seed peers start requests id count file addresses result a b is_start is_requests at job many comes =
    let plan : plan_at peers start requests ≡ carry_plan settings seed = plan_same _ _ _ _ _ _ _ _ is_start is_requests at.leads at.helps in
    subst (λ (j : CarryJob). ComesBy j settings seed result a b) (sym job)
    (subst (λ (p : Plan). SendComes (length addresses) p result a b) plan (subst (λ n. SendComes n (plan_at peers start requests) result a b) many comes))

-- ---- a carrier that fetches

pub fetched : (settings : CarrySettings) (seed : List ℕ) (peers : Peers) (start : Client) (requests : List Request) (ran : Ran) (a b : Moment)
    → start ≡ (carry_plan settings seed).start → requests ≡ (carry_plan settings seed).requests → AreAt peers settings.leader settings.helper → settings.job ≡ Fetch
    → Fetches (plan_at peers start requests) ran a.calls b.calls → b.written ≡ a.written → CarryComes settings seed (Ok ran) a b
fetched settings seed peers start requests ran a b is_start is_requests at job fetches still =
    let plan : plan_at peers start requests ≡ carry_plan settings seed = plan_same _ _ _ _ _ _ _ _ is_start is_requests at.leads at.helps in
    let (new, finished, made, worked, carries, carried, (dialled, stands, calls), text, end) = subst (λ (p : Plan). Fetches p ran a.calls b.calls) plan fetches in
    let runs : CarryRuns settings seed a.calls b.calls ran.text ran.end = record {
      client = new;
      finished = finished;
      made = made;
      worked = worked;
      carries = carries;
      carried = carried;
      peers = dialled;
      at = stands;
      calls = calls;
      prints = text ∙ sym (ap (λ (j : CarryJob). carry_text j finished worked) job);
      ends = end;
    } in
    subst (λ (j : CarryJob). ComesBy j settings seed (Ok ran) a b) (sym job) (runs, still)

-- ---- a carrier for which memory was wanting

-- no box was read yet
nothing_read : (plan : Plan) (peers : Peers) (calls : Option (List Call)) → CarriesPart peers plan.start plan.requests calls calls
nothing_read plan peers calls = record {
  asked = [];
  behind = plan.requests;
  all = refl;
  client = plan.start;
  finished = [];
  made = [];
  end = Ok tt;
  carries = none;
  carried = none_carry [] refl;
  calls = refl;
}

wants_by : (job : CarryJob) (settings : CarrySettings) (seed : List ℕ) (peers : Peers) (a : Moment) → AreAt peers settings.leader settings.helper
    → ComesBy job settings seed (Err untold.NoMemory) a a
wants_by (Send id file addresses) settings seed peers a at = first_wants (carry_plan settings seed) _ peers a at
wants_by Fetch settings seed peers a at = ((peers, at, nothing_read (carry_plan settings seed) peers a.calls), refl)

pub carry_wants : (settings : CarrySettings) (seed : List ℕ) (peers : Peers) (result : Result Ran Untold) (a : Moment)
    → AreAt peers settings.leader settings.helper → IsErrAnd result (λ why. why ≡ untold.NoMemory) → CarryComes settings seed result a a
carry_wants settings seed peers result a at wants =
    subst (λ (r : Result Ran Untold). CarryComes settings seed r a a) (sym (wants_memory result wants)) (wants_by settings.job settings seed peers a at)

pub fetch_wants : (settings : CarrySettings) (seed : List ℕ) (peers : Peers) (start : Client) (requests : List Request) (result : Result Ran Untold) (a b : Moment)
    → start ≡ (carry_plan settings seed).start → requests ≡ (carry_plan settings seed).requests → AreAt peers settings.leader settings.helper → settings.job ≡ Fetch
    → FetchedPart (plan_at peers start requests) a.calls b.calls → b.written ≡ a.written → IsErrAnd result (λ why. why ≡ untold.NoMemory) → CarryComes settings seed result a b
fetch_wants settings seed peers start requests result a b is_start is_requests at job part still wants =
    let plan : plan_at peers start requests ≡ carry_plan settings seed = plan_same _ _ _ _ _ _ _ _ is_start is_requests at.leads at.helps in
    subst (λ (r : Result Ran Untold). CarryComes settings seed r a b) (sym (wants_memory result wants))
    (subst (λ (j : CarryJob). ComesBy j settings seed (Err untold.NoMemory) a b) (sym job) (subst (λ (p : Plan). FetchedPart p a.calls b.calls) plan part, still))
