-- A finish leaves its client no request without an outcome.
use Rattle.std.proofs.Common.{◌≡◌, ◌<◌, ◌≤◌, ℕ, zero, suc, Bool, true, false, cond, nat_eq, List, [], ◌∷◌, ◌++◌, length, filter, Option, None, refl, sym, ap, ◌∙◌, arith, append_assoc, length-append}
use Rattle.express_words.specs.declared.settings.Settings.{Settings}
use Rattle.token_rules.specs.Tokens as token
use Rattle.token_rules.specs.Tokens.{World, Oracle, oracle_of, start}
use Rattle.token_rules.specs.Run as tokens
use Rattle.token_rules.specs.Laws.{asks_of, outcomes_of}
use Rattle.token_rules.proofs.Outcomes.{outcomes_numbered}
use Rattle.token_rules.proofs.Tallies.{finish_rests}
use Rattle.step_rules.specs.Client.{Current}
use Rattle.run_rules.specs.Letters as run
use Rattle.run_rules.specs.Letters.{FrameWorld}
use Rattle.run_rules.specs.Run.{Event, Finish}
use Rattle.run_rules.specs.Book.{Book}
use Rattle.run_rules.specs.Follows.{AreOutcomes, CurrentIs, Follows}
use Rattle.run_rules.specs.History.{frame_run, token_events, token_events_of, token_run}
use Rattle.run_rules.specs.Acts.{AreFitting, IsFitting, ended_of, history_of}
use Rattle.run_rules.specs.EveryEnd.{FinishAlwaysEnds}
use Rattle.run_rules.proofs.ClientHears.{client_at}
use Rattle.run_rules.proofs.ForeignFollows.{foreign_runs_agree, replies_fit}
use Rattle.run_rules.proofs.WholeForeign.{world_is}

events_append : (xs ys : List Event) → token_events (xs ++ ys) ≡ token_events xs ++ token_events ys
unfolding token_events
events_append [] ys = refl
events_append (x ∷ xs) ys = ap (λ zs. token_events_of x ++ zs) (events_append xs ys) ∙ sym (append_assoc (token_events_of x) (token_events xs) (token_events ys))

run_append : (o : Oracle) (w : World) (xs ys : List tokens.Event) → tokens.run o w (xs ++ ys) ≡ tokens.run o (tokens.run o w xs) ys
unfolding tokens.run
run_append o w [] ys = refl
run_append o w (x ∷ xs) ys = run_append o (tokens.happens o w x) xs ys

pub fit_append : (settings : Settings) (foreign : ℕ → Bool) (xs : List Event) (x : Event) → AreFitting settings foreign xs
    → IsFitting settings foreign x → AreFitting settings foreign (xs ++ x ∷ [])
fit_append settings foreign [] x h k = (k, tt)
fit_append settings foreign (y ∷ xs) x h k = (h.0, fit_append settings foreign xs x h.1 k)

pub same_count : (b : Book) (c : ℕ) (xs : List token.Outcome) (ys : List run.Outcome) → AreOutcomes b xs ys
    → length (filter (λ (o : run.Outcome). nat_eq o.client c) ys) ≡ length (outcomes_of c xs)
same_count b c [] [] h = refl
same_count b c (x ∷ xs) (y ∷ ys) h =
    let rest = same_count b c xs ys h.1 in
    let client : nat_eq y.client c ≡ nat_eq x.client c = ap (λ n. nat_eq n c) h.0.client in
    ap (λ t. length (cond t (y ∷ filter (λ (o : run.Outcome). nat_eq o.client c) ys) (filter (λ (o : run.Outcome). nat_eq o.client c) ys))) client
    ∙ by_test (nat_eq x.client c) rest
  where
    by_test : (t : Bool) → length (filter (λ (o : run.Outcome). nat_eq o.client c) ys) ≡ length (outcomes_of c xs)
        → length (cond t (y ∷ filter (λ (o : run.Outcome). nat_eq o.client c) ys) (filter (λ (o : run.Outcome). nat_eq o.client c) ys))
        ≡ length (cond t (x ∷ outcomes_of c xs) (outcomes_of c xs))
    by_test true e = ap suc e
    by_test false e = e
same_count b c [] (y ∷ ys) h = absurd h
same_count b c (x ∷ xs) [] h = absurd h

current_none : (b : Book) (c n s : ℕ) (current : Option Current) → n ≡ 0 → CurrentIs b c n s current → current ≡ None
current_none b c zero s current e h = h
current_none b c (suc n) s current e h = absurd (omega (arith, e))

pub last_is : (o : Oracle) (first : World) (events : List Event) (c : ℕ)
    → tokens.run o first (token_events (events ++ Finish c ∷ [])) ≡ tokens.happens o (tokens.run o first (token_events events)) (tokens.Finish c)
unfolding token_events tokens.run
last_is o first events c =
    ap (tokens.run o first) (events_append events (Finish c ∷ [])) ∙ run_append o first (token_events events) (tokens.Finish c ∷ [])

pub finish_always_ends : FinishAlwaysEnds
finish_always_ends settings seed foreign events c limits fit honest few =
    let all = events ++ Finish c ∷ [] in
    let many : length all ≤ 20000 = omega (arith, few, length-append events (Finish c ∷ [])) in
    let fits = fit_append settings foreign events (Finish c) fit tt in
    let s = ended_of settings seed foreign all in
    let o : Oracle = oracle_of s.acts in
    let w = token_run o settings foreign events in
    let v = token_run o settings foreign all in
    let b = history_of settings seed foreign s in
    let f = frame_run settings seed all in
    let h : Follows b f v = foreign_runs_agree settings seed foreign all limits fits many in
    let v_is : v ≡ tokens.happens o w (tokens.Finish c) = last_is o (start settings.width settings.boxes settings.window foreign) events c in
    let none : (tokens.happens o w (tokens.Finish c)).misfits ≡ 0 =
    ap (λ (u : World). u.misfits) (sym v_is ∙ sym (world_is settings seed foreign all limits fits many)) ∙ replies_fit settings seed foreign all limits fits many in
    let room : 0 < settings.window = omega (arith, limits.3.0) in
    let rests = finish_rests o settings.width settings.boxes settings.window foreign (token_events events) c room honest (omega (arith, none)) in
    let step : (v.lanes c).step ≡ 0 = ap (λ (u : World). (u.lanes c).step) v_is ∙ rests.step in
    let waiting : (v.requests c).waiting ≡ [] = ap (λ (u : World). (u.requests c).waiting) v_is ∙ rests.waiting in
    let told : (v.requests c).told ≡ asks_of c (token_events events) = ap (λ (u : World). (u.requests c).told) v_is ∙ rests.told in
    let numbered = outcomes_numbered o settings.width settings.boxes settings.window foreign (token_events all) room c in
    record {
      current = current_none b c (v.lanes c).step (v.lanes c).serial _ step (client_at b f v c h honest).current;
      waiting = h.waiting c ∙ waiting;
      outcomes = same_count b c v.outcomes f.outcomes h.outcomes ∙ numbered.count ∙ told;
    }
