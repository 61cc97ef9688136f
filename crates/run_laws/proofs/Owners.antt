-- A client has as many boxes as it was told of, so none of these is refused as no box of its own.
use Rattle.std.proofs.Common.{◌≡◌, ◌≢◌, ◌⊎◌, ◌+◌, ◌^◌, ◌<◌, ◌≤◌, ℕ, Bool, zero, suc, true, false, cond, nat_le, nat_eq, ◌&&◌, List, [], ◌∷◌, ◌++◌, length, take, Option, Some, None, Result, Ok, Err, slice_get, refl, sym, ap, subst, ◌∙◌, inl, inr, arith, append-nil, length-append}
use Rattle.std.specs.Prelude.{filter, is_none}
use Rattle.std.proofs.lemmas.Bool.{cond_both, eq-eqb, eqb-false, eqb-true, leb-true, ne_eqb}
use Rattle.std.proofs.lemmas.Option.{slice_get_within}
use Rattle.std.proofs.lemmas.List.{take-append-le}
use Rattle.std.proofs.lemmas.List.Elements.{filter-append}
use Rattle.std.proofs.Math.Nat.{add-zero}
use Rattle.std.proofs.Math.Seq.{take-append_seam}
use Rattle.mailbox_rules.proofs.Folds.{get_more}
use Rattle.express_words.specs.declared.refusal.Refusal.{Refusal}
use Rattle.express_words.specs.declared.refusal.Refusal.TheVariants as refusal
use Rattle.frame_rules.specs.Frames as frame
use Rattle.frame_rules.specs.Frames.{PlainFrame, PlainBody}
use Rattle.frame_rules.specs.Whole.{linked, is_command, whole}
use Rattle.mailbox_rules.specs.Requests.{Request, Register, Write, Read, Retire}
use Rattle.token_rules.specs.Tokens.{put}
use Rattle.token_rules.specs.Run.{own_of}
use Rattle.step_rules.specs.Helper as helper
use Rattle.step_rules.specs.HelperCommands.{on_link_bytes}
use Rattle.step_rules.specs.Client as client
use Rattle.step_rules.specs.Client.{Client, Current, Deposits, Fault, Finished, Owned, Progress, ProvesToHelper, ProvesToLeader, Step, Submits, Turn, opened_client}
use Rattle.step_rules.specs.ClientAsks.{asked, asked_with, fault_at, idle_fault, own_fault, with_request}
use Rattle.step_rules.specs.ClientReplies as replies
use Rattle.step_rules.specs.ClientReplies.{by_refusal, by_step, ended, if_current, if_whole, is_mine, of_no_frame, on_challenge, on_deposit, on_helper_proof, on_leader_proof, on_message, on_refusal, on_registered, on_reply, on_submission}
use Rattle.run_rules.specs.Letters.{Addressee, Ended, FrameWorld, Letter, NoOwnBox, Outcome, Told, ToClient, ToHelper, ToHelperLink, ToLeader, ToLeaderLink, opened}
use Rattle.run_rules.specs.Run.{Event, Inject, asks, client_sends, comes, delivers, goes_on, goes_on_after, happens, helper_answers, notes, shows, ticks, to_client, waits, was_asked, with_client}
use Rattle.run_laws.proofs.RunKeeps.{IsOfPool, Moves, run_keeps}
use Rattle.run_laws.specs.Owners.{OwnersAreHeeded, OwnersKeepTheirs, boxes_told, is_registered}

-- ---- what a client owns after a reply

is_new : client.Outcome → Bool
is_new (client.Registered n) = true
is_new outcome = false

got : Progress → ℕ
unfolding is_new
got (Finished outcome) = cond (is_new outcome) 1 0
got progress = 0

abbrev Owns : Client → Turn → Type 0
Owns c t = length t.client.owned ≡ length c.owned + got t.progress

either : (c : Client) (b : Bool) (t u : Turn) → Owns c t → Owns c u → Owns c (cond b t u)
either c true t u p q = p
either c false t u p q = q

stays : (c : Client) → length c.owned ≡ length c.owned + 0
stays c = sym (add-zero (length c.owned))

ended_owns : (c : Client) (step : Step) (r : Refusal) → Owns c (ended c step r)
unfolding got is_new
ended_owns c Submits r = stays c
ended_owns c (ProvesToLeader ckey) r = stays c
ended_owns c Deposits r = stays c
ended_owns c (ProvesToHelper ckey) r = stays c

refusals_own : (c : Client) (step : Step) (r : Refusal) → Owns c (on_refusal c step r)
unfolding on_refusal got is_new
refusals_own c step (refusal.Lane limit) = stays c
refusals_own c step (refusal.Taken n) = ended_owns c step (refusal.Taken n)
refusals_own c step (refusal.Full limit) = ended_owns c step (refusal.Full limit)
refusals_own c step (refusal.NoBox n) = ended_owns c step (refusal.NoBox n)
refusals_own c step (refusal.BadToken n) = ended_owns c step (refusal.BadToken n)
refusals_own c step refusal.NoDeposit = ended_owns c step refusal.NoDeposit
refusals_own c step refusal.NotProved = ended_owns c step refusal.NotProved
refusals_own c step (refusal.Rejected o0 o1 tau0 tau1) = ended_owns c step (refusal.Rejected o0 o1 tau0 tau1)
refusals_own c step (refusal.Stale serial) = stays c
refusals_own c step (refusal.Phase phase) = stays c
refusals_own c step (refusal.Again number) = stays c
refusals_own c step (refusal.LinkDown count) = stays c
refusals_own c step (refusal.Malformed place) = stays c
refusals_own c step (refusal.Version version) = stays c

deposits_own : (c : Client) (request : Request) (body : PlainBody) → Owns c (on_deposit c request body)
unfolding on_deposit got is_new
deposits_own c request (frame.Held false) = stays c
deposits_own c request (frame.Held true) = stays c
deposits_own c request body = stays c

registers_own : (c : Client) (body : PlainBody) → Owns c (on_registered c body)
unfolding on_registered got is_new
registers_own c (frame.Registered n) = length-append c.owned _
registers_own c body = stays c

challenges_own : (c : Client) (request : Request) (body : PlainBody) → Owns c (on_challenge c request body)
unfolding on_challenge got is_new
challenges_own c request (frame.Challenge ckey) = stays c
challenges_own c request body = stays c

messages_own : (c : Client) (own : Option Owned) (body : PlainBody) → Owns c (on_message c own body)
unfolding on_message got is_new
messages_own c (Some own) (frame.Message leaders helpers) = either c (nat_eq (length leaders) c.width) _ _ (stays c) (stays c)
messages_own c own body = stays c

submissions_own : (c : Client) (request : Request) (body : PlainBody) → Owns c (on_submission c request body)
unfolding on_submission
submissions_own c (Register address) body = registers_own c body
submissions_own c (Write target message) body = challenges_own c (Write target message) body
submissions_own c (Read own) body = messages_own c (slice_get c.owned own) body
submissions_own c (Retire own) body = messages_own c (slice_get c.owned own) body

helper_proofs_own : (c : Client) (request : Request) (ckey : List ℕ) (body : PlainBody) → Owns c (on_helper_proof c request ckey body)
unfolding on_helper_proof got is_new
helper_proofs_own c request ckey (frame.Held true) = stays c
helper_proofs_own c request ckey (frame.Held false) = stays c
helper_proofs_own c request ckey body = stays c

leader_proofs_own : (c : Client) (body : PlainBody) → Owns c (on_leader_proof c body)
unfolding on_leader_proof got is_new
leader_proofs_own c frame.Accepted = stays c
leader_proofs_own c body = stays c

steps_own : (c : Client) (request : Request) (step : Step) (body : PlainBody) → Owns c (by_step c request step body)
steps_own c request Deposits body = deposits_own c request body
steps_own c request Submits body = submissions_own c request body
steps_own c request (ProvesToHelper ckey) body = helper_proofs_own c request ckey body
steps_own c request (ProvesToLeader ckey) body = leader_proofs_own c body

frames_own : (c : Client) (now : Current) (f : PlainFrame) (why : Option Refusal) → Owns c (by_refusal c now f why)
unfolding by_refusal got is_new
frames_own c now f None = either c (is_mine c f) _ _ (steps_own c now.request now.step f.body) (stays c)
frames_own c now f (Some r) =
    either c (of_no_frame r) _ _ (stays c) (either c (is_mine c f) _ _ (refusals_own c now.step r) (stays c))

current_owns : (c : Client) (f : PlainFrame) (now : Option Current) → Owns c (if_current c f now)
unfolding if_current got is_new
current_owns c f None = stays c
current_owns c f (Some now) = frames_own c now f (replies.refusal_in f.body)

replies_own : (c : Client) (found : Result PlainFrame Refusal) → Owns c (if_whole c found)
unfolding if_whole got is_new
replies_own c (Err r) = stays c
replies_own c (Ok f) = current_owns c f c.current

-- ---- what a client refuses

-- taken as it is, or refused: as no box of its own where it has no more boxes
IsAsked : Client → Request → Result Client Fault → Type 0
IsAsked x r (Ok y) = y.owned ≡ x.owned
IsAsked x r (Err (client.NoBox own)) = length x.owned ≤ own_of r
IsAsked x r (Err fault) = Unit {0}

own_asked : (x : Client) (r : Request) → IsAsked x r (asked_with x r (own_fault x r))
unfolding IsAsked
own_asked x (Register address) = cond_both {A = Option Fault} (nat_le x.capacity (length x.owned)) _ _ (λ o. IsAsked x (Register address) (asked_with x (Register address) o)) (λ e. tt) (λ e. refl)
own_asked x (Write target message) = cond_both {A = Option Fault} (nat_eq (length message) x.width) _ _ (λ o. IsAsked x (Write target message) (asked_with x (Write target message) o)) (λ e. refl) (λ e. tt)
own_asked x (Read own) = cond_both {A = Option Fault} (nat_le (length x.owned) own) _ _ (λ o. IsAsked x (Read own) (asked_with x (Read own) o)) (λ e. leb-true _ _ e) (λ e. refl)
own_asked x (Retire own) = cond_both {A = Option Fault} (nat_le (length x.owned) own) _ _ (λ o. IsAsked x (Retire own) (asked_with x (Retire own) o)) (λ e. leb-true _ _ e) (λ e. refl)

is_asked : (x : Client) (r : Request) → IsAsked x r (asked x r)
unfolding asked IsAsked
is_asked x r = by_current x.current
  where
    by_current : (now : Option Current) → IsAsked x r (asked_with x r (fault_at x r now))
    by_current (Some now) = tt
    by_current None = cond_both {A = Option Fault} (nat_le (2 ^ 32) x.serial) _ _ (λ o. IsAsked x r (asked_with x r o)) (λ e. tt) (λ e. own_asked x r)

-- ---- outcomes

told_more : (c : ℕ) (os : List Outcome) (o : Outcome) → boxes_told c (os ++ o ∷ []) ≡ boxes_told c os + cond (nat_eq o.client c && is_registered o.told) 1 0
told_more c os o =
    let p : Outcome → Bool = λ o. nat_eq o.client c && is_registered o.told in
    ap (λ l. length l) (filter-append p os (o ∷ [])) ∙ length-append (filter p os) _ ∙ ap (λ n. length (filter p os) + n) (one (nat_eq o.client c && is_registered o.told))
  where
    one : (t : Bool) → length (cond t (o ∷ []) []) ≡ cond t 1 0
    one true = refl
    one false = refl

abbrev Heeded : List Outcome → Type 0
Heeded os = (k own : ℕ) (y : Outcome) → slice_get os k ≡ Some y → y.told ≡ NoOwnBox own → boxes_told y.client (take k os) ≤ own

-- the outcome that comes last is heeded too
heeded_more : (os : List Outcome) (o : Outcome) → ((own : ℕ) → o.told ≡ NoOwnBox own → boxes_told o.client os ≤ own) → Heeded os → Heeded (os ++ o ∷ [])
heeded_more os o last before k own y is told = elim (get_more os o k y is) [
  | inl old ↦
      let within = slice_get_within os k y old in
      let least : k ≤ length os = omega (arith, within) in
      subst (λ l. boxes_told y.client l ≤ own) (sym (take-append-le k os (o ∷ []) least)) (before k own y old told)
  | inr new ↦
      let front : take k (os ++ o ∷ []) ≡ os = ap (λ n. take n (os ++ o ∷ [])) new.0 ∙ take-append_seam os (o ∷ []) in
      subst (λ l. boxes_told y.client l ≤ own) (sym front)
      (subst (λ (z : Outcome). boxes_told z.client os ≤ own) new.1 (last own (ap (λ (z : Outcome). z.told) new.1 ∙ told)))
]

-- ---- what every move keeps

abbrev Has : (ℕ → Client) → List Outcome → Type 0
Has clients os = (c : ℕ) → length (clients c).owned ≡ boxes_told c os

abbrev Holds : FrameWorld → Type 0
Holds f = Has f.clients f.outcomes × Heeded f.outcomes

-- one client is another that has as many boxes
has_put : (clients : ℕ → Client) (os : List Outcome) (c : ℕ) (x : Client) → length x.owned ≡ length (clients c).owned → Has clients os → Has (put clients c x) os
unfolding put
has_put clients os c x same has d =
    cond_both {A = Client} (nat_eq d c) x (clients d) (λ y. length y.owned ≡ boxes_told d os)
    (λ e. same ∙ ap (λ n. length (clients n).owned) (sym (eqb-true d c e)) ∙ has d) (λ e. has d)

-- and a client that has some more is told so
has_told : (clients : ℕ → Client) (os : List Outcome) (c n : ℕ) (x : Client) (o : Outcome) → o.client ≡ c → n ≡ cond (is_registered o.told) 1 0
    → length x.owned ≡ length (clients c).owned + n → Has clients os → Has (put clients c x) (os ++ o ∷ [])
unfolding put
has_told clients os c n x o of more grown has d =
    cond_both {A = Client} (nat_eq d c) x (clients d) (λ y. length y.owned ≡ boxes_told d (os ++ o ∷ []))
    (λ e.
    let here = eqb-true d c e in
    let mine : nat_eq o.client d ≡ true = eq-eqb o.client d (of ∙ sym here) in
    let count : boxes_told d (os ++ o ∷ []) ≡ boxes_told d os + cond (is_registered o.told) 1 0 =
    told_more d os o ∙ ap (λ t. boxes_told d os + cond (t && is_registered o.told) 1 0) mine in
    let old : length (clients c).owned ≡ boxes_told d os = ap (λ n. length (clients n).owned) (sym here) ∙ has d in
    grown ∙ ap (λ k. k + n) old ∙ ap (λ k. boxes_told d os + k) more ∙ sym count)
    (λ e.
    let other : nat_eq o.client d ≡ false = ne_eqb o.client d (λ u. eqb-false d c e (sym u ∙ of)) in
    let count : boxes_told d (os ++ o ∷ []) ≡ boxes_told d os + 0 =
    told_more d os o ∙ ap (λ t. boxes_told d os + cond (t && is_registered o.told) 1 0) other in
    has d ∙ sym (count ∙ add-zero (boxes_told d os)))

-- a refused request is told of, by no more boxes than its number
refuses_hold : (f : FrameWorld) (c own : ℕ) → length (f.clients c).owned ≤ own → Holds f → Holds (notes f c (NoOwnBox own))
refuses_hold f c own few h =
    let o : Outcome = record { client = c; request = f.told c; told = NoOwnBox own } in
    (λ d. h.0 d ∙ sym (told_more d f.outcomes o ∙ none (nat_eq c d) (boxes_told d f.outcomes)), heeded_more f.outcomes o last h.1)
  where
    none : (t : Bool) (n : ℕ) → n + cond (t && false) 1 0 ≡ n
    none true n = add-zero n
    none false n = add-zero n

    last : (other : ℕ) → NoOwnBox own ≡ NoOwnBox other → boxes_told c f.outcomes ≤ other
    last other e =
        let same : own ≡ other = cc e in
        let has = h.0 c in
        omega (arith, same, has, few)

asked_holds : (f : FrameWorld) (c : ℕ) (r : Request) (rest : List Request) (next : FrameWorld) (q : Result Client Fault) → IsAsked (f.clients c) r q
    → (length (f.clients c).owned ≤ own_of r → Holds next) → Holds f → Holds (was_asked f c rest next q)
unfolding was_asked IsAsked
asked_holds f c r rest next (Ok y) same more h = (has_put f.clients f.outcomes c y (ap (λ l. length l) same) h.0, h.1)
asked_holds f c r rest next (Err (client.NoBox own)) few more h = more few
asked_holds f c r rest next (Err client.Busy) same more h = h
asked_holds f c r rest next (Err client.Spent) same more h = h
asked_holds f c r rest next (Err (client.Width width)) same more h = h
asked_holds f c r rest next (Err (client.OwnFull capacity)) same more h = h

goes_hold : (f : FrameWorld) (c : ℕ) (rs : List Request) → Holds f → Holds (goes_on f c rs)
unfolding goes_on
goes_hold f c [] h = h
goes_hold f c (r ∷ rest) h =
    let refused = notes f c (NoOwnBox (own_of r)) in
    asked_holds f c r rest (goes_on refused c rest) (asked (f.clients c) r) (is_asked (f.clients c) r)
    (λ few. goes_hold refused c rest (refuses_hold f c (own_of r) few h)) h

told_is_got : (outcome : client.Outcome) → got (Finished outcome) ≡ cond (is_registered (Ended outcome)) 1 0
unfolding got is_new
told_is_got (client.Registered n) = refl
told_is_got client.Accepted = refl
told_is_got (client.Message bytes) = refl
told_is_got (client.Refused why) = refl

progress_holds : (f : FrameWorld) (c : ℕ) (x : Client) (p : Progress) → length x.owned ≡ length (f.clients c).owned + got p → Holds f → Holds (goes_on_after (with_client f c x) c p)
unfolding goes_on_after got
progress_holds f c x (Finished outcome) grown h =
    let o : Outcome = record { client = c; request = f.told c; told = Ended outcome } in
    goes_hold (notes (with_client f c x) c (Ended outcome)) c (f.waiting c)
    (has_told f.clients f.outcomes c (got (Finished outcome)) x o refl (told_is_got outcome) grown h.0, heeded_more f.outcomes o (λ own e. absurd (cc e)) h.1)
progress_holds f c x client.Ignored grown h = (has_put f.clients f.outcomes c x (omega (arith, grown)) h.0, h.1)
progress_holds f c x (client.Later why) grown h = (has_put f.clients f.outcomes c x (omega (arith, grown)) h.0, h.1)
progress_holds f c x client.Next grown h = (has_put f.clients f.outcomes c x (omega (arith, grown)) h.0, h.1)

hears_hold : (f : FrameWorld) (c : ℕ) (t : Turn) → Owns (f.clients c) t → Holds f → Holds (to_client f c t)
hears_hold f c t owns h = progress_holds f c t.client t.progress owns h

-- ---- the helper and the leader leave clients and outcomes

answers_hold : (f : FrameWorld) (command : Option PlainFrame) (answer : helper.Answer) → Holds f → Holds (helper_answers f command answer)
unfolding helper_answers
answers_hold f command (helper.Carried reply) h = h
answers_hold f command (helper.Repeated bytes) h = h
answers_hold f command helper.Ignored h = h

comes_hold : (f : FrameWorld) (to : Addressee) (bytes : List ℕ) → Holds f → Holds (comes f to bytes)
unfolding comes
comes_hold f (ToClient c) bytes h = hears_hold f c (on_reply (f.clients c) bytes) (replies_own (f.clients c) (whole bytes)) h
comes_hold f ToLeader bytes h = h
comes_hold f ToHelper bytes h = h
comes_hold f ToLeaderLink bytes h = h
comes_hold f ToHelperLink bytes h =
    let turn = on_link_bytes f.helper bytes in
    answers_hold (record f { helper = turn.helper }) (linked is_command f.helper.server.settings.width bytes) turn.answer h

found_holds : (f : FrameWorld) (l : Option Letter) → Holds f → Holds (delivers f l)
unfolding delivers
found_holds f (Some l) h = comes_hold f l.to l.bytes h
found_holds f None h = h

asks_hold : (f : FrameWorld) (c : ℕ) (r : Request) → Holds f → Holds (asks f c r)
asks_hold f c r h = cond_both {A = FrameWorld} (is_none (f.clients c).current) _ _ Holds (λ e. goes_hold f c _ h) (λ e. h)

sends_hold : (f : FrameWorld) (c : ℕ) → Holds f → Holds (client_sends f c)
unfolding client_sends
sends_hold f c h = h

ticks_hold : (f : FrameWorld) → Holds f → Holds (ticks f)
unfolding ticks
ticks_hold f h = h

shows_hold : (f : FrameWorld) (n : ℕ) (l : Option Letter) → Holds f → Holds (shows f n l)
unfolding shows
shows_hold f n (Some l) h = h
shows_hold f n None h = h

injects_hold : (f : FrameWorld) (to_leader : Bool) (bytes : List ℕ) → Holds f → Holds (happens f (Inject to_leader bytes))
unfolding happens
injects_hold f true bytes h = h
injects_hold f false bytes h = h

holds_moves : Moves Holds
holds_moves = record {
  ask = asks_hold;
  send = sends_hold;
  tick = ticks_hold;
  deliver = λ f l of h. found_holds f l h;
  show = shows_hold;
  inject = injects_hold;
}

pub owners_keep_theirs : OwnersKeepTheirs
unfolding opened_client
owners_keep_theirs settings seed events =
    let end = run_keeps Holds holds_moves (opened settings seed) events (λ c. refl, λ k own y is told. absurd (cc is)) in
    record { heeded = end.1; has = end.0 }
