-- The clients of all lanes, read from a list of those that are there.
use Rattle.std.proofs.Common.{◌≡◌, ◌≢◌, ℕ, zero, suc, ◌<◌, ◌≤◌, true, false, nat_eq, List, [], ◌∷◌, ◌++◌, length, Option, Some, None, Result, Ok, Err, refl, sym, ap, ap₂, ◌∙◌, inl, inr, arith}
use Rattle.std.specs.Prelude.{slice_get, slice_set}
use Rattle.std.proofs.Math.Path.{fun_ext}
use Rattle.std.proofs.lemmas.Bool.{cases_eq, eq-eqb, ne_eqb}
use Rattle.std.proofs.lemmas.Option.{slice_get_past}
use Rattle.express_words.specs.declared.refusal.Refusal.{Refusal}
use Rattle.frame_rules.specs.Frames.{PlainFrame}
use Rattle.frame_rules.specs.Whole.{whole}
use Rattle.mailbox_rules.specs.Requests.{Request}
use Rattle.token_rules.specs.Tokens.{put}
use Rattle.step_rules.specs.Client.{Client, opened_client}
use Rattle.step_rules.specs.ClientReplies.{on_reply, if_whole, if_current, ignores}
use Rattle.step_rules.specs.Leader.{Leader, opened_leader}
use Rattle.express_words.specs.declared.settings.Settings.{Settings}
use Rattle.step_rules.specs.Helper.{Helper, opened_helper, opened_server}
use Rattle.run_rules.specs.Letters.{FrameWorld, ToClient, leader_seed, helper_seed, opened}
use Rattle.run_rules.specs.Run.{comes, to_client, goes_on_after}
use Rattle.schedule_text.specs.declared.schedule.Header.{Header}
use Rattle.replay_world.specs.declared.asker.Asker.{Asker}
use Rattle.replay_world.specs.declared.lines.OutcomeLine.{OutcomeLine}
use Rattle.replay_world.specs.declared.lines.JournalLine.{JournalLine}
use Rattle.replay_world.specs.declared.lines.Shown.{Shown}
use Rattle.replay_world.specs.declared.pool.Letter.{Letter}
use Rattle.replay_world.specs.Parts.{outcomes_in, journal_in, pool_in, shown_all_in}
use Rattle.replay_world.specs.View.{at_or, at_lane, fresh, requests_of, with_asker, AreFresh}
use Rattle.token_rules.proofs.Lists.{get_more}
use Rattle.replay_world.proofs.Clients.{put_same}

-- ---- lists

pub get_set : {X : Type 0} (xs : List X) (c : ℕ) (b : X) → c < length xs → slice_get (slice_set xs c b) c ≡ Some b
get_set [] c b lt = absurd (omega arith)
get_set (x ∷ xs) zero b lt = refl
get_set (x ∷ xs) (suc c) b lt = get_set xs c b (omega arith)

pub get_other : {X : Type 0} (xs : List X) (c : ℕ) (b : X) (d : ℕ) → d ≢ c → slice_get (slice_set xs c b) d ≡ slice_get xs d
get_other [] c b d n = refl
get_other (x ∷ xs) zero b zero n = absurd (n refl)
get_other (x ∷ xs) zero b (suc d) n = refl
get_other (x ∷ xs) (suc c) b zero n = refl
get_other (x ∷ xs) (suc c) b (suc d) n = get_other xs c b d (λ e. n (ap suc e))

-- ---- one value of each lane

pub lane_here : {X : Type 0} (read : Asker → X) (without : ℕ → X) (xs : List Asker) (c : ℕ) (a : Asker) → slice_get xs c ≡ Some a → at_lane read without xs c ≡ read a
unfolding at_lane
lane_here read without xs c a e = ap (at_or read (without c)) e

pub lane_past : {X : Type 0} (read : Asker → X) (without : ℕ → X) (xs : List Asker) (c : ℕ) → length xs ≤ c → at_lane read without xs c ≡ without c
unfolding at_lane
lane_past read without xs c le = ap (at_or read (without c)) (slice_get_past xs c le)

lane_same : {X : Type 0} (read : Asker → X) (without : ℕ → X) (xs : List Asker) (c : ℕ) (a : Asker) → slice_get xs c ≡ Some a → put (at_lane read without xs) c (read a) ≡ at_lane read without xs
lane_same read without xs c a e = ap (put (at_lane read without xs) c) (sym (lane_here read without xs c a e)) ∙ put_same (at_lane read without xs) c

lane_set : {X : Type 0} (read : Asker → X) (without : ℕ → X) (xs : List Asker) (c : ℕ) (b : Asker) → c < length xs → put (at_lane read without xs) c (read b) ≡ at_lane read without (slice_set xs c b)
unfolding put at_lane
lane_set {X} read without xs c b lt = fun_ext (λ d. elim (cases_eq d c) [
  | inl e ↦
      let t : nat_eq d c ≡ true = eq-eqb d c e in
      let here : slice_get (slice_set xs c b) d ≡ Some b = ap (slice_get (slice_set xs c b)) e ∙ get_set xs c b lt in
      rw t (sym (ap (at_or read (without d)) here))
  | inr n ↦
      let t : nat_eq d c ≡ false = ne_eqb d c n in
      rw t (sym (ap (at_or read (without d)) (get_other xs c b d n)))
])

-- ---- the state, which has these clients

abbrev pub laned : Header → FrameWorld → List Asker → List OutcomeLine → FrameWorld
laned header w xs outcomes = record w {
  clients = at_lane (λ a. a.client) (fresh header) xs;
  waiting = at_lane requests_of (λ c. []) xs;
  told = at_lane (λ a. a.told) (λ c. 0) xs;
  outcomes = outcomes_in outcomes;
}

pub stays : (header : Header) (w : FrameWorld) (xs : List Asker) (outcomes : List OutcomeLine) (c : ℕ) (a : Asker) → slice_get xs c ≡ Some a
    → with_asker (laned header w xs outcomes) c a outcomes ≡ laned header w xs outcomes
stays header w xs outcomes c a e =
    ap₂ (λ (clients : ℕ → Client) (waiting : ℕ → List Request). record w { clients = clients; waiting = waiting; told = put (at_lane (λ a. a.told) (λ c. 0) xs) c a.told; outcomes = outcomes_in outcomes })
    (lane_same (λ a. a.client) (fresh header) xs c a e) (lane_same requests_of (λ c. []) xs c a e)
    ∙ ap (λ (told : ℕ → ℕ). record w { clients = at_lane (λ a. a.client) (fresh header) xs; waiting = at_lane requests_of (λ c. []) xs; told = told; outcomes = outcomes_in outcomes })
    (lane_same (λ a. a.told) (λ c. 0) xs c a e)

pub changes : (header : Header) (w : FrameWorld) (xs : List Asker) (outcomes after : List OutcomeLine) (c : ℕ) (b : Asker) → c < length xs
    → with_asker (laned header w xs outcomes) c b after ≡ laned header w (slice_set xs c b) after
changes header w xs outcomes after c b lt =
    ap₂ (λ (clients : ℕ → Client) (waiting : ℕ → List Request). record w { clients = clients; waiting = waiting; told = put (at_lane (λ a. a.told) (λ c. 0) xs) c b.told; outcomes = outcomes_in after })
    (lane_set (λ a. a.client) (fresh header) xs c b lt) (lane_set requests_of (λ c. []) xs c b lt)
    ∙ ap (λ (told : ℕ → ℕ). record w { clients = at_lane (λ a. a.client) (fresh header) (slice_set xs c b); waiting = at_lane requests_of (λ c. []) (slice_set xs c b); told = told; outcomes = outcomes_in after })
    (lane_set (λ a. a.told) (λ c. 0) xs c b lt)

-- what a client's step is to the state
pub lane_moves : (step : FrameWorld → FrameWorld) (header : Header) (w : FrameWorld) (xs : List Asker) (before after : List OutcomeLine) (c : ℕ) (a b : Asker) → slice_get xs c ≡ Some a → c < length xs
    → with_asker (laned header w xs before) c b after ≡ step (with_asker (laned header w xs before) c a before)
    → laned header w (slice_set xs c b) after ≡ step (laned header w xs before)
lane_moves step header w xs before after c a b here lt moved =
    sym (changes header w xs before after c b lt) ∙ (moved ∙ ap step (stays header w xs before c a here))

pub heard_moves : (header : Header) (w : FrameWorld) (xs : List Asker) (before after : List OutcomeLine) (c : ℕ) (a b : Asker) (bytes : List ℕ) → slice_get xs c ≡ Some a → c < length xs
    → with_asker (laned header w xs before) c b after ≡ to_client (with_asker (laned header w xs before) c a before) c (on_reply a.client bytes)
    → laned header w (slice_set xs c b) after ≡ comes (laned header w xs before) (ToClient c) bytes
unfolding comes
heard_moves header w xs before after c a b bytes here lt moved =
    lane_moves (λ v. to_client v c (on_reply a.client bytes)) header w xs before after c a b here lt moved
    ∙ ap (λ x. to_client (laned header w xs before) c (on_reply x bytes)) (sym (lane_here (λ a. a.client) (fresh header) xs c a here))

-- ---- a lane that has no client

idle_ignores : (x : Client) (bytes : List ℕ) → x.current ≡ None → on_reply x bytes ≡ ignores x
unfolding if_whole if_current
idle_ignores x bytes idle = at_whole (whole bytes)
  where
    at_whole : (r : Result PlainFrame Refusal) → if_whole x r ≡ ignores x
    at_whole (Err refusal) = refl
    at_whole (Ok f) = ap (if_current x f) idle

fresh_idle : (header : Header) (c : ℕ) → (fresh header c).current ≡ None
unfolding opened_client
fresh_idle header c = refl

pub nobody_hears : (header : Header) (w : FrameWorld) (xs : List Asker) (outcomes : List OutcomeLine) (c : ℕ) (bytes : List ℕ) → length xs ≤ c
    → laned header w xs outcomes ≡ comes (laned header w xs outcomes) (ToClient c) bytes
unfolding comes goes_on_after
nobody_hears header w xs outcomes c bytes le =
    let v = laned header w xs outcomes in
    let idle : (v.clients c).current ≡ None = ap (λ (x : Client). x.current) (lane_past (λ a. a.client) (fresh header) xs c le) ∙ fresh_idle header c in
    sym (ap (to_client v c) (idle_ignores (v.clients c) bytes idle) ∙ ap (λ (f : ℕ → Client). record v { clients = f }) (put_same v.clients c))

-- ---- before the first event

value_of_fresh : {X : Type 0} (read : Asker → X) (without : ℕ → X) (xs : List Asker) → ((c : ℕ) (a : Asker) → slice_get xs c ≡ Some a → read a ≡ without c) → at_lane read without xs ≡ without
unfolding at_lane
value_of_fresh {X} read without xs same = fun_ext (λ c. at_option c (slice_get xs c) refl)
  where
    at_option : (c : ℕ) (o : Option Asker) → slice_get xs c ≡ o → at_or read (without c) o ≡ without c
    at_option c None e = refl
    at_option c (Some a) e = same c a e

abbrev pub begun : Leader → Helper → (ℕ → Client) → (ℕ → List Request) → (ℕ → ℕ) → FrameWorld
begun a h clients waiting told = record {
  leader = a;
  helper = h;
  clients = clients;
  waiting = waiting;
  told = told;
  journal = [];
  pool = [];
  outcomes = [];
  shown = [];
}

pub opens : (header : Header) (a : Leader) (h : Helper) (xs : List Asker) (js : List JournalLine) (ps : List Letter) (os : List OutcomeLine) (ss : List Shown)
    → a ≡ opened_leader header.settings (leader_seed header.seed) → h ≡ opened_helper header.settings (helper_seed header.seed) → AreFresh header xs
    → js ≡ [] → ps ≡ [] → os ≡ [] → ss ≡ []
    → record {
      leader = a;
      helper = h;
      clients = at_lane (λ a. a.client) (fresh header) xs;
      waiting = at_lane requests_of (λ c. []) xs;
      told = at_lane (λ a. a.told) (λ c. 0) xs;
      journal = journal_in js;
      pool = pool_in ps;
      outcomes = outcomes_in os;
      shown = shown_all_in ss;
    } ≡ opened header.settings header.seed
opens header a h xs js ps os ss ea eh all ej ep eo es =
    let clients = at_lane (λ a. a.client) (fresh header) xs in
    let waiting = at_lane requests_of (λ c. []) xs in
    let told = at_lane (λ a. a.told) (λ c. 0) xs in
    let leader = opened_leader header.settings (leader_seed header.seed) in
    let helper = opened_helper header.settings (helper_seed header.seed) in
    let lists = λ (j : List JournalLine) (p : List Letter) (o : List OutcomeLine) (s : List Shown).
    record (begun a h clients waiting told) { journal = journal_in j; pool = pool_in p; outcomes = outcomes_in o; shown = shown_all_in s } in
    let empty : lists js ps os ss ≡ begun a h clients waiting told =
    ap₂ (λ (j : List JournalLine) (p : List Letter). lists j p os ss) ej ep ∙ ap₂ (λ (o : List OutcomeLine) (s : List Shown). lists [] [] o s) eo es in
    empty
    ∙ (ap₂ (λ (x : Leader) (y : Helper). begun x y clients waiting told) ea eh
    ∙ (ap₂ (λ (f : ℕ → Client) (g : ℕ → List Request). begun leader helper f g told)
    (value_of_fresh (λ a. a.client) (fresh header) xs (λ c a e. (all c a e).0)) (value_of_fresh requests_of (λ c. []) xs (λ c a e. (all c a e).1))
    ∙ ap (λ (f : ℕ → ℕ). begun leader helper (fresh header) (λ c. []) f)
    (value_of_fresh (λ a. a.told) (λ c. 0) xs (λ c a e. (all c a e).2))))

pub leader_settings : (s : Settings) (seed : List ℕ) → (opened_leader s seed).settings ≡ s
unfolding opened_leader
leader_settings s seed = refl

pub helper_settings : (s : Settings) (seed : List ℕ) → (opened_helper s seed).server.settings ≡ s
unfolding opened_server
helper_settings s seed = refl

pub fresh_more : (header : Header) (xs : List Asker) (a : Asker) → AreFresh header xs → a.client ≡ fresh header (length xs) → requests_of a ≡ [] → a.told ≡ 0 → AreFresh header (xs ++ a ∷ [])
fresh_more header xs a all client waiting told c b h = elim (get_more xs a c b h) [
  | inl (lt, k) ↦ all c b k
  | inr (e, k) ↦ (ap (λ (x : Asker). x.client) (sym k) ∙ (client ∙ ap (fresh header) (sym e)), ap requests_of (sym k) ∙ waiting, ap (λ (x : Asker). x.told) (sym k) ∙ told)
]

pub none_fresh : (header : Header) → AreFresh header []
none_fresh header c a e = absurd (cc e)
