-- A finish of a client that has a request leaves no command outstanding.
use Rattle.std.proofs.Common.{◌≡◌, ◌∙◌, ◌<◌, ◌≤◌, ◌*◌, ◌+◌, ℕ, zero, suc, Bool, true, false, cond, nat_eq, List, [], ◌∷◌, ◌++◌, length, drop, Option, Some, None, refl, sym, ap, subst, arith, length-append}
use Rattle.std.proofs.lemmas.Bool.{cond_both, ne_eqb}
use Rattle.mailbox_rules.specs.Requests.{Request}
use Rattle.token_rules.specs.Tokens as token
use Rattle.token_rules.specs.Tokens.{HasActs, Oracle, Token, World, act_or_none, oracle_of, start}
use Rattle.token_rules.specs.Rows.{ClientDoes, ClientHears, Finishes, GoesOn, HeardAnswer, HeardChallenge, HeardHeldDeposit, HeardHeldProof, Stays}
use Rattle.token_rules.specs.Run as tokens
use Rattle.token_rules.specs.Run.{client_hears, client_moves, client_sends, comes, delivers, delivers_at, drained, finish_round, finished, finishes, goes_on, handed_last, is_for, is_refused, last_for, notes, own_of, sent_and_drained}
use Rattle.token_rules.specs.Driven.{finished_by}
use Rattle.token_rules.specs.Lawful.{Lawful}
use Rattle.token_rules.proofs.Acts.{delivers_at_counts, drained_counts, finish_round_counts, finishes_counts, handed_counts}
use Rattle.token_rules.proofs.Drain.{drained_ends}
use Rattle.token_rules.proofs.Lawful.{moves_keep, start_is_lawful}
use Rattle.token_rules.proofs.Since.{since_itself}
use Rattle.run_rules.specs.Run.{Event, Finish}
use Rattle.run_rules.specs.Follows.{Follows}
use Rattle.run_rules.specs.History.{frame_run, token_run}
use Rattle.run_rules.specs.Acts.{Both, both_happen, both_moves, both_opened, ended_of, history_of, run_both}
use Rattle.run_rules.specs.EveryEnd.{FinishDrains}
use Rattle.run_rules.proofs.Asked.{same_outstanding}
use Rattle.run_rules.proofs.ClientHears.{client_at}
use Rattle.run_rules.proofs.ForeignFits.{sends_fit}
use Rattle.run_rules.proofs.ForeignFollows.{foreign_runs_agree, replies_fit}
use Rattle.run_rules.proofs.Heeded.{busy_step}
use Rattle.run_rules.proofs.WholeFinish.{fit_append, last_is}
use Rattle.run_rules.proofs.WholeForeign.{whole, world_is}
use Rattle.run_rules.proofs.WholeWorlds.{finish_agrees, same_run}

abbrev NoneOut : World → Type 0
NoneOut w = length w.commands ≡ w.acknowledged

-- ---- what comes to a client issues no command

went_out : (w : World) (c : ℕ) (rs : List Request) → NoneOut w → NoneOut (goes_on w c rs)
unfolding goes_on
went_out w c [] h = h
went_out w c (r ∷ rest) h =
    cond_both {A = World} (is_refused w c r) _ _ NoneOut (λ e. went_out (notes w c (token.NoOwnBox (own_of r))) c rest h) (λ e. h)

moved_out : (w : World) (c s : ℕ) (does : ClientDoes) → NoneOut w → NoneOut (client_moves w c s does)
unfolding client_moves
moved_out w c s Stays h = h
moved_out w c s GoesOn h = h
moved_out w c s Finishes h = went_out (notes w c _) c (w.requests c).waiting h

heard_out : (w : World) (c s : ℕ) (heard : ClientHears) → NoneOut w → NoneOut (client_hears w c s heard)
unfolding client_hears
heard_out w c s heard h = cond_both {A = World} (nat_eq s (w.lanes c).serial) _ _ NoneOut (λ e. moved_out w c s _ h) (λ e. h)

told_out : (o : Oracle) (w : World) (c : ℕ) (t : Token) → is_for c t ≡ true → NoneOut w → NoneOut (comes o w t)
unfolding comes is_for
told_out o w c (token.HeldDeposit d s) e h = heard_out w d s HeardHeldDeposit h
told_out o w c (token.Challenge d s) e h = heard_out w d s HeardChallenge h
told_out o w c (token.HeldProof d s) e h = heard_out w d s HeardHeldProof h
told_out o w c (token.Answer d s) e h = heard_out w d s HeardAnswer h
told_out o w c (token.Later d s) e h = h
told_out o w c (token.Foreign d) e h = h
told_out o w c t e h = absurd (cc e)

last_is_for : (c : ℕ) (ts : List Token) (found : Option Token) (t : Token) → ((u : Token) → found ≡ Some u → is_for c u ≡ true)
    → last_for c found ts ≡ Some t → is_for c t ≡ true
unfolding last_for
last_is_for c [] found t h e = h t e
last_is_for c (x ∷ ts) found t h e = last_is_for c ts _ t (at_test (is_for c x) refl) e
  where
    at_test : (b : Bool) → is_for c x ≡ b → (u : Token) → cond b (Some x) found ≡ Some u → is_for c u ≡ true
    at_test true is u e = let same : x ≡ u = cc in subst (λ u. is_for c u ≡ true) same is
    at_test false is u e = h u e

handed_out : (o : Oracle) (w : World) (c before : ℕ) → NoneOut w → NoneOut (handed_last o w c before)
unfolding handed_last delivers
handed_out o w c before h = at_last (last_for c None (drop before w.pool)) refl
  where
    at_last : (t : Option Token) → last_for c None (drop before w.pool) ≡ t → NoneOut (delivers o w t)
    at_last None e = h
    at_last (Some t) e = told_out o w c t (last_is_for c (drop before w.pool) None t (λ u e. absurd (cc e)) e) h

-- ---- a round, and a finish

round_out : (o : Oracle) (w : World) (c : ℕ) → Lawful w → (finish_round o w c).misfits ≤ w.misfits → NoneOut (finish_round o w c)
unfolding finish_round sent_and_drained
round_out o w c lawful fitted =
    let v = drained o w in
    let x = delivers_at o (client_sends v c) (length v.pool) in
    let first = (drained_counts o w).misfits in
    let second = (delivers_at_counts o (client_sends v c) (length v.pool)).misfits in
    let sent = sends_fit v c in
    let last = (handed_counts o (drained o x) c (length v.pool)).misfits in
    let k = (moves_keep o).drain o w lawful in
    let at_frame = (moves_keep o).deliver o (client_sends v c) (length v.pool) ((moves_keep o).send v c k) in
    handed_out o (drained o x) c (length v.pool) (drained_ends o x at_frame (omega (arith, fitted, first, second, sent, last)))

finishes_out : (o : Oracle) (rounds : ℕ) (w : World) (c : ℕ) → Lawful w → (finishes o rounds w c).misfits ≤ w.misfits → NoneOut w
    → NoneOut (finishes o rounds w c)
unfolding finishes
finishes_out o zero w c lawful fitted h = h
finishes_out o (suc rounds) w c lawful fitted h =
    cond_both {A = World} (nat_eq (w.lanes c).step 0) _ _ (λ v. v.misfits ≤ w.misfits → NoneOut v) (λ e fitted. h)
    (λ e fitted.
    let first = (finish_round_counts o w c).misfits in
    let second = (finishes_counts o rounds (finish_round o w c) c).misfits in
    finishes_out o rounds (finish_round o w c) c ((moves_keep o).attempt o w c lawful) (omega (arith, first, fitted))
    (round_out o w c lawful (omega (arith, second, fitted))))
    fitted

more_out : (o : Oracle) (n rounds : ℕ) (w : World) (c : ℕ) → n ≡ suc rounds → Lawful w → 0 < (w.lanes c).step
    → (finishes o n w c).misfits ≤ w.misfits → NoneOut (finishes o n w c)
unfolding finishes
more_out o zero rounds w c e lawful busy fitted = absurd (cc e)
more_out o (suc n) rounds w c e lawful busy fitted =
    let t : nat_eq (w.lanes c).step 0 ≡ false = ne_eqb (w.lanes c).step 0 (λ z. omega (arith, z, busy)) in
    let fitted : (finishes o n (finish_round o w c) c).misfits ≤ w.misfits = rw t at fitted in
    let first = (finish_round_counts o w c).misfits in
    let second = (finishes_counts o n (finish_round o w c) c).misfits in
    rw t (finishes_out o n (finish_round o w c) c ((moves_keep o).attempt o w c lawful) (omega (arith, first, fitted))
    (round_out o w c lawful (omega (arith, second, fitted))))

finished_out : (o : Oracle) (w : World) (c : ℕ) → Lawful w → 0 < (w.lanes c).step → (finished o w c).misfits ≤ w.misfits → NoneOut (finished o w c)
unfolding finished
finished_out o w c lawful busy fitted =
    more_out o (4 * (length (w.requests c).waiting + 1)) (4 * length (w.requests c).waiting + 3) w c (omega arith) lawful busy fitted

-- ---- in the run over bytes

both_append : (s : Both) (xs ys : List Event) → run_both s (xs ++ ys) ≡ run_both (run_both s xs) ys
unfolding run_both
both_append s [] ys = refl
both_append s (x ∷ xs) ys = both_append (both_happen s x) xs ys

both_last : (s : Both) (xs : List Event) (c : ℕ) → run_both s (xs ++ Finish c ∷ []) ≡ finished_by both_moves (run_both s xs) c
unfolding run_both both_happen
both_last s xs c = both_append s xs (Finish c ∷ [])

empty : {X : Type 0} (xs : List X) → length xs ≡ 0 → xs ≡ []
empty [] e = refl
empty (x ∷ xs) e = absurd (cc e)

pub finish_drains : FinishDrains
unfolding tokens.happens
finish_drains settings seed foreign events c limits fit honest few busy =
    let all = events ++ Finish c ∷ [] in
    let many : length all ≤ 20000 = omega (arith, few, length-append events (Finish c ∷ [])) in
    let before : length events ≤ 20000 = omega (arith, few) in
    let fits = fit_append settings foreign events (Finish c) fit tt in
    let s = ended_of settings seed foreign all in
    let t = ended_of settings seed foreign events in
    let o : Oracle = oracle_of s.acts in
    let w = token_run o settings foreign events in
    let v = token_run o settings foreign all in
    let first : World = start settings.width settings.boxes settings.window foreign in
    let room : 0 < settings.window = omega (arith, limits.3.0) in
    let s_is : s ≡ finished_by both_moves t c = both_last (both_opened settings seed foreign) events c in
    let all_agree : HasActs o s.acts = λ n act is. ap act_or_none is in
    let agree : HasActs o t.acts = finish_agrees first o t c (subst (λ (s : Both). HasActs o s.acts) s_is all_agree) in
    let w_is : t.world ≡ w = same_run first o settings foreign refl events (both_opened settings seed foreign) fit
    (record { lawful = start_is_lawful settings.width settings.boxes settings.window foreign room; since = since_itself first; count = refl }) agree in
    let lawful : Lawful w = subst Lawful w_is (whole settings seed foreign events limits fit before).lawful in
    let here = foreign_runs_agree settings seed foreign events limits fit before in
    let u = token_run (oracle_of t.acts) settings foreign events in
    let stepped : 0 < (u.lanes c).step =
    (busy_step (history_of settings seed foreign t) c (u.lanes c).step (u.lanes c).serial _ (client_at (history_of settings seed foreign t) _ u c here honest) busy).0 in
    let same : u ≡ w = sym (world_is settings seed foreign events limits fit before) ∙ w_is in
    let step : 0 < (w.lanes c).step = subst (λ (w : World). 0 < (w.lanes c).step) same stepped in
    let v_is : v ≡ finished o w c = last_is o first events c in
    let none : (finished o w c).misfits ≡ 0 =
    ap (λ (u : World). u.misfits) (sym v_is ∙ sym (world_is settings seed foreign all limits fits many)) ∙ replies_fit settings seed foreign all limits fits many in
    let out = finished_out o w c lawful step (omega (arith, none)) in
    let h : Follows (history_of settings seed foreign s) (frame_run settings seed all) v = foreign_runs_agree settings seed foreign all limits fits many in
    let size = same_outstanding (history_of settings seed foreign s) (frame_run settings seed all) v h in
    let commands : length v.commands ≡ v.acknowledged =
    ap (λ (u : World). length u.commands) v_is ∙ out ∙ ap (λ (u : World). u.acknowledged) (sym v_is) in
    empty (frame_run settings seed all).leader.outstanding (omega (arith, size, commands))
