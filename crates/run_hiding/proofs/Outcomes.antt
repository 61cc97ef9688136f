-- What clients are told in two schedules alike but for aims differs in messages alone.
use Rattle.std.proofs.Common.{◌≡◌, ◌∙◌, ℕ, true, false, Bool, cond, nat_le, List, [], length, Option, Some, None, slice_get, refl, sym, ap, ap₂, subst}
use Rattle.std.specs.Option.{option_map}
use Rattle.std.proofs.lemmas.Option.{slice_get-map}
use Rattle.express_words.specs.declared.refusal.Refusal.TheVariants as refusal
use Rattle.mailbox_rules.specs.Requests.{Entry, Line, Operation, Request, AddBox, BeginWrite, AuditWrite, SettleWrite, ReadBox, RetireBox, Refuse, entry, lines_of, opening_of, operation_of}
use Rattle.mailbox_rules.specs.Tables.{Began, Full, Gave, Mailbox, NoBox, Refused, Registered, Result, Settled, Table, Taken, WasAudited, box_of, given, register_result, result_of, result_outline}
use Rattle.token_rules.specs.Tokens as token
use Rattle.token_rules.specs.Tokens.{World, oracle_of}
use Rattle.token_rules.specs.Laws.{last_of}
use Rattle.token_rules.specs.Run.{line_of}
use Rattle.step_rules.specs.Client as client
use Rattle.run_rules.specs.Letters.{Ended, FrameWorld, NoOwnBox, Outcome, Told}
use Rattle.run_rules.specs.Book.{Book, request_of, table_at}
use Rattle.run_rules.specs.Values.{accepted_at}
use Rattle.run_rules.specs.Acts.{ended_of, history_of}
use Rattle.run_rules.specs.History.{frame_run, history, no_lane, token_run}
use Rattle.run_rules.specs.Plain.{IsAnswer, IsAnswered, IsHistory, IsPlainOutcome, IsToldPlain, outcome_of, plain_at, plain_of, plain_result}
use Rattle.run_rules.proofs.PlainRegistered.{registered_accepted}
use Rattle.run_rules.proofs.PlainWrites.{settles_write}
use Rattle.run_hiding.specs.Ideal.{AreAims, is_write, writes}
use Rattle.run_hiding.specs.Moved.{OtherAims, with_sent}
use Rattle.run_hiding.specs.Flow.{OutcomesStay, OutcomesStayBeside, SameOutcome, unread, unread_told}
use Rattle.run_hiding.proofs.Aims.{bare, opening_unaimed, pair}
use Rattle.run_hiding.proofs.Histories.{history_stays}
use Rattle.run_hiding.proofs.Letters.{results_stay}
use Rattle.run_hiding.proofs.Seen.{asked}
use Rattle.run_hiding.proofs.Schedules.{TwoRuns, two_runs, two_schedules}
use Rattle.run_hiding.proofs.TwinEnds.{acts_alike}

-- what is told of a result, but for messages and rejections
tells : Result → Option client.Outcome
tells (Registered n) = Some (client.Registered n)
tells (Taken n) = Some (client.Refused (refusal.Taken n))
tells (Full limit) = Some (client.Refused (refusal.Full limit))
tells (Settled true) = Some client.Accepted
tells (Gave n bytes) = Some (client.Message [])
tells (NoBox n) = Some (client.Refused (refusal.NoBox n))
tells result = None

IsRejected : Result → Type 0
IsRejected r = r ≡ Settled false

told_is : (b : Book) (x : Line) (r : Result) → (IsRejected r → ⊥) → option_map (λ o. unread o) (outcome_of b x r) ≡ tells (result_outline r)
unfolding tells IsRejected
told_is b x (Registered n) h = refl
told_is b x (Taken n) h = refl
told_is b x (Full limit) h = refl
told_is b x (Began n) h = refl
told_is b x WasAudited h = refl
told_is b x (Settled true) h = refl
told_is b x (Settled false) h = absurd (h refl)
told_is b x (Gave n bytes) h = refl
told_is b x (NoBox n) h = refl
told_is b x Refused h = refl

not_given : (n : ℕ) (o : Option Mailbox) → given n o ≡ Settled false → ⊥
not_given n None e = cc e
not_given n (Some x) e = at_life x.live e
  where
    at_life : (t : Bool) → cond t (Gave n x.bytes) (NoBox n) ≡ Settled false → ⊥
    at_life true e = cc e
    at_life false e = cc e

not_registered : (limit : ℕ) (t : Table) (o : Option ℕ) → register_result limit t o ≡ Settled false → ⊥
not_registered limit t (Some n) e = cc e
not_registered limit t None e = at_test (nat_le limit (length t.boxes)) e
  where
    at_test : (f : Bool) → cond f (Full limit) (Registered (length t.boxes)) ≡ Settled false → ⊥
    at_test true e = cc e
    at_test false e = cc e

-- a client's write is never rejected
never_rejected : (b : Book) (k : IsHistory b) → AreAims b → (i : ℕ) (e : Entry) → slice_get b.entries i ≡ Some e
    → b.foreign e.line.lane ≡ false → IsRejected (plain_result b i e) → ⊥
unfolding IsRejected plain_result result_of
never_rejected b k aims i e is honest rejected = by_what e.line e.does is honest rejected
  where
    accepted : (line : Line) → slice_get b.entries i ≡ Some (entry line SettleWrite) → b.foreign line.lane ≡ false
        → accepted_at b line.lane line.serial ≡ true
    accepted line is honest =
        let by : IsAnswer b i (entry line SettleWrite) = k.answers i (entry line SettleWrite) is honest in
        let w = settles_write ((table_at b i).got line.lane) line.command by.request (by.does ∙ ap (operation_of ((table_at b i).got line.lane) line.command) by.is) in
        let kind : writes b line.lane line.serial ≡ true = ap (λ o. is_write o) (by.is ∙ ap (λ r. Some r) w.is) in
        registered_accepted b k line.lane line.serial _ _ (asked b k aims line.lane line.serial kind) (aims line.lane line.serial kind).registered

    by_what : (line : Line) (does : Operation) → slice_get b.entries i ≡ Some (entry line does) → b.foreign line.lane ≡ false
        → result_of b.settings.boxes (plain_of b) (plain_at b i) line does ≡ Settled false → ⊥
    by_what line (AddBox a) is honest e = not_registered b.settings.boxes (plain_at b i) (box_of a (plain_at b i).boxes) e
    by_what line BeginWrite is honest e = cc e
    by_what line AuditWrite is honest e = cc e
    by_what line SettleWrite is honest e = let both : Settled true ≡ Settled false = ap (λ t. Settled t) (sym (accepted line is honest)) ∙ e in cc both
    by_what line (ReadBox n) is honest e = not_given n _ e
    by_what line (RetireBox n) is honest e = not_given n _ e
    by_what line Refuse is honest e = cc e

module _ (b b' : Book) (f g : FrameWorld) (v w : World) (both : TwoRuns b b' f g v w) (aims : AreAims b) (aims' : AreAims b') where
  abbrev sent : ℕ → List Request
  sent c = b'.sent c

  otherwise : OtherAims b sent
  otherwise = record { alike = both.alike; aims = subst AreAims (sym both.book) aims' }

  k : IsHistory b
  k = both.history

  abbrev d : Book
  d = with_sent b sent

  same_opening : (c s : ℕ) (r q : Request) → request_of b c s ≡ Some r → request_of d c s ≡ Some q → opening_of q ≡ opening_of r
  same_opening c s r q one two =
      let e : bare (Some q) ≡ bare (Some r) = ap (λ x. bare x) (sym two) ∙ pair b sent otherwise c s ∙ ap (λ x. bare x) one in
      sym (opening_unaimed q) ∙ ap (λ x. opening_of x) (inside e) ∙ opening_unaimed r
    where
      inside : {X : Type 0} {x y : X} → Some x ≡ Some y → x ≡ y
      inside e = cc e

  answered : (c s : ℕ) (x y : client.Outcome) → IsAnswered b c s x → IsAnswered d c s y → unread y ≡ unread x
  answered c s x y one two =
      let line : two.entry.line ≡ one.entry.line = two.last ∙ ap (λ q. line_of c s (last_of q)) (same_opening c s one.request two.request one.asked two.asked) ∙ sym one.last in
      let at : (j : ℕ) (e : Entry) → slice_get b.entries j ≡ Some e → slice_get (lines_of v.journal) j ≡ Some e.line =
      λ j e is. slice_get-map (λ (e : Entry). e.line) v.journal j ∙ ap (option_map (λ (e : Entry). e.line)) (ap (λ es. slice_get es j) both.order.entries ∙ is) in
      let mine : b.foreign one.entry.line.lane ≡ false = ap (λ (l : Line). b.foreign l.lane) one.last ∙ k.asked c s one.request one.asked in
      let place : one.place ≡ two.place =
      both.order.once one.place two.place one.entry.line (at one.place one.entry one.is) (at two.place two.entry two.is ∙ ap (λ l. Some l) line)
      (ap (λ f. f one.entry.line.lane) both.follows.foreign ∙ mine) in
      let there : Some one.entry ≡ Some two.entry = sym one.is ∙ ap (slice_get b.entries) place ∙ two.is in
      let e : one.entry ≡ two.entry = cc there in
      let told : outcome_of d one.entry.line (plain_result d one.place one.entry) ≡ Some y =
      ap₂ (λ i e. outcome_of d e.line (plain_result d i e)) place e ∙ two.told in
      let h : IsHistory d = history_stays b sent k otherwise in
      let r = told_is b one.entry.line (plain_result b one.place one.entry) (never_rejected b k aims one.place one.entry one.is mine) in
      let q = told_is d one.entry.line (plain_result d one.place one.entry) (never_rejected d h otherwise.aims one.place one.entry one.is mine) in
      let all : Some (unread y) ≡ Some (unread x) =
      ap (option_map (λ o. unread o)) (sym told) ∙ q
      ∙ ap (λ z. tells z) (results_stay b sent one.place one.entry k aims otherwise one.is)
      ∙ sym r ∙ ap (option_map (λ o. unread o)) one.told in
      cc all

  told_same : (c : ℕ) (t : token.Told) (x y : Told) → IsToldPlain b c t x → IsToldPlain d c t y → unread_told y ≡ unread_told x
  told_same c (token.Answered s opening) (Ended x) (Ended y) one two = ap (λ z. Ended z) (answered c s x y one two)
  told_same c (token.Answered s opening) (Ended x) (NoOwnBox n) one two = absurd two
  told_same c (token.Answered s opening) (NoOwnBox n) y one two = absurd one
  told_same c (token.NoOwnBox own) (NoOwnBox m) (NoOwnBox n) one two = ap (λ z. NoOwnBox z) (two ∙ sym one)
  told_same c (token.NoOwnBox own) (NoOwnBox m) (Ended y) one two = absurd two
  told_same c (token.NoOwnBox own) (Ended x) y one two = absurd one

  pub outcomes : (j : ℕ) (x y : Outcome) → slice_get f.outcomes j ≡ Some x → slice_get g.outcomes j ≡ Some y → SameOutcome x y
  outcomes j x y one two =
      let p : IsPlainOutcome b v j x = both.outcomes j x one in
      let q : IsPlainOutcome d w j y = subst (λ z. IsPlainOutcome z w j y) (sym both.book) (both.others j y two) in
      let there : Some q.outcome ≡ Some p.outcome = sym q.is ∙ ap (λ (u : World). slice_get u.outcomes j) both.flow ∙ p.is in
      let e : q.outcome ≡ p.outcome = cc there in
      let client : y.client ≡ x.client = q.client ∙ ap (λ (z : token.Outcome). z.client) e ∙ sym p.client in
      record {
        client = client;
        request = q.request ∙ ap (λ (z : token.Outcome). z.request) e ∙ sym p.request;
        told = told_same x.client p.outcome.told x.told y.told p.told
            (subst (λ c. IsToldPlain d c p.outcome.told y.told) client (subst (λ (z : token.Outcome). IsToldPlain d y.client z.told y.told) e q.told));
      }

pub outcomes_stay : OutcomesStay
outcomes_stay o settings seed events others alike aims aims' j x y one two =
    outcomes (history settings seed (token_run o settings no_lane events)) (history settings seed (token_run o settings no_lane others))
    (frame_run settings seed events) (frame_run settings seed others) (token_run o settings no_lane events) (token_run o settings no_lane others)
    (two_schedules o settings seed events others alike) aims aims' j x y one two

pub outcomes_stay_beside : OutcomesStayBeside
outcomes_stay_beside settings seed foreign events others alike aims aims' j x y one two =
    let acts = acts_alike settings seed foreign events others alike in
    let s = ended_of settings seed foreign events in
    let t = ended_of settings seed foreign others in
    outcomes (history_of settings seed foreign s) (history_of settings seed foreign t) (frame_run settings seed events) (frame_run settings seed others)
    (token_run (oracle_of s.acts) settings foreign events) (token_run (oracle_of t.acts) settings foreign others)
    (two_runs settings seed foreign events others alike acts.acts acts.taken) aims aims' j x y one two
