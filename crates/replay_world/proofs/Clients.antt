-- A client's part of the state: what it becomes when it is asked, when a frame comes and when it goes on.
use Rattle.std.proofs.Common.{◌≡◌, ◌≢◌, ℕ, ◌+◌, nat_eq, Bool, true, false, cond, List, [], ◌∷◌, ◌++◌, Option, Some, None, Result, Ok, Err, refl, sym, ap, ap₂, ◌∙◌, inl, inr, drop, length, arith}
use Rattle.std.specs.Prelude.{is_none}
use Rattle.std.proofs.Math.Path.{fun_ext}
use Rattle.std.proofs.lemmas.Bool.{cases_eq, eq-eqb, ne_eqb}
use Rattle.client_core.specs.Answers.{outcome_in, progress_in, message_or}
use Rattle.client_core.specs.Requests.{fault_in}
use Rattle.client_core.specs.declared.request.AskFault.{AskFault}
use Rattle.client_core.specs.declared.request.AskFault.TheVariants as fault
use Rattle.client_core.specs.declared.progress.Outcome.{Outcome as Told}
use Rattle.client_core.specs.declared.progress.Progress.TheVariants as progress
use Rattle.mailbox_rules.specs.Requests.{Request, Register, Write, Read, Retire}
use Rattle.token_rules.specs.Tokens.{put}
use Rattle.token_rules.specs.Run.{own_of}
use Rattle.step_rules.specs.Client as steps
use Rattle.step_rules.specs.Client.{Client, Current, Fault, Progress}
use Rattle.step_rules.specs.ClientAsks.{asked, asked_with, fault_at, own_fault}
use Rattle.run_rules.specs.Letters.{FrameWorld, Outcome, Ended, NoOwnBox}
use Rattle.run_rules.specs.Letters as run
use Rattle.run_rules.specs.Run.{notes, waits, with_client, was_asked, goes_on, goes_on_after, asks, to_client}
use Rattle.replay_world.specs.declared.lines.Told.TheVariants.{Done}
use Rattle.replay_world.specs.Parts.{told_in}

-- ---- functions with one value changed

pub put_here : {X : Type 0} (f : ℕ → X) (c : ℕ) (x : X) → put f c x c ≡ x
unfolding put
put_here f c x = let t : nat_eq c c ≡ true = eq-eqb c c refl in rw t refl

pub put_same : {X : Type 0} (f : ℕ → X) (c : ℕ) → put f c (f c) ≡ f
unfolding put
put_same {X} f c = fun_ext (λ d. elim (cases_eq d c) [
  | inl e ↦ let t : nat_eq d c ≡ true = eq-eqb d c e in rw t (ap f (sym e))
  | inr n ↦ let t : nat_eq d c ≡ false = ne_eqb d c n in rw t refl
])

pub put_put : {X : Type 0} (f : ℕ → X) (c : ℕ) (x y : X) → put (put f c x) c y ≡ put f c y
unfolding put
put_put {X} f c x y = fun_ext (λ d. at_test d (nat_eq d c))
  where
    at_test : (d : ℕ) (t : Bool) → cond t y (cond t x (f d)) ≡ cond t y (f d)
    at_test d true = refl
    at_test d false = refl

-- ---- the state with a client's part

abbrev pub placed : FrameWorld → ℕ → Client → List Request → ℕ → List Outcome → FrameWorld
placed w c x ws n os = record w {
  clients = put w.clients c x;
  waiting = put w.waiting c ws;
  told = put w.told c n;
  outcomes = os;
}

abbrev pub line : ℕ → ℕ → run.Told → Outcome
line c n t = record { client = c; request = n; told = t }

-- the client is another one
pub other_client : (w : FrameWorld) (c : ℕ) (x : Client) (ws : List Request) (n : ℕ) (os : List Outcome) (y : Client)
    → placed w c y ws n os ≡ with_client (placed w c x ws n os) c y
other_client w c x ws n os y = ap (λ f. record (placed w c x ws n os) { clients = f }) (sym (put_put w.clients c x y))

-- other requests wait
pub others_wait : (w : FrameWorld) (c : ℕ) (x : Client) (ws : List Request) (n : ℕ) (os : List Outcome) (vs : List Request)
    → placed w c x vs n os ≡ waits (placed w c x ws n os) c vs
others_wait w c x ws n os vs = ap (λ f. record (placed w c x ws n os) { waiting = f }) (sym (put_put w.waiting c ws vs))

-- an outcome is noted
pub one_noted : (w : FrameWorld) (c : ℕ) (x : Client) (ws : List Request) (n : ℕ) (os : List Outcome) (t : run.Told)
    → placed w c x ws (n + 1) (os ++ line c n t ∷ []) ≡ notes (placed w c x ws n os) c t
one_noted w c x ws n os t =
    let at : (m : ℕ) → m ≡ n → placed w c x ws (n + 1) (os ++ line c n t ∷ []) ≡ record (placed w c x ws n os) { told = put (put w.told c n) c (m + 1); outcomes = os ++ line c m t ∷ [] } =
    λ m e. ap₂ (λ (f : ℕ → ℕ) (k : ℕ). record (placed w c x ws n os) { told = f; outcomes = os ++ line c k t ∷ [] })
    (sym (put_put w.told c n (n + 1)) ∙ ap (λ k. put (put w.told c n) c (k + 1)) (sym e)) (sym e)
    in at (put w.told c n c) (put_here w.told c n)

pub placed_by : (w : FrameWorld) (c : ℕ) (x y : Client) (ws vs : List Request) (n m : ℕ) (os ps : List Outcome) → x ≡ y → ws ≡ vs → n ≡ m → os ≡ ps
    → placed w c x ws n os ≡ placed w c y vs m ps
placed_by w c x y ws vs n m os ps ex ew en eo =
    ap₂ (λ (z : Client) (us : List Request). placed w c z us n os) ex ew ∙ ap₂ (λ (k : ℕ) (qs : List Outcome). placed w c y vs k qs) en eo

-- ---- going on

-- what waits before matters to nothing
waits_first : (c : ℕ) (v : FrameWorld) (ws rest : List Request) → waits (waits v c ws) c rest ≡ waits v c rest
waits_first c v ws rest = ap (λ f. record v { waiting = f }) (put_put v.waiting c ws rest)

asked_first : (c : ℕ) (v : FrameWorld) (ws rest : List Request) (a b : FrameWorld) (r : Result Client Fault) → a ≡ b
    → was_asked (waits v c ws) c rest a r ≡ was_asked v c rest b r
unfolding was_asked
asked_first c v ws rest a b (Ok client) e = waits_first c (with_client v c client) ws rest
asked_first c v ws rest a b (Err (steps.NoBox own)) e = e
asked_first c v ws rest a b (Err steps.Busy) e = waits_first c v ws rest
asked_first c v ws rest a b (Err steps.Spent) e = waits_first c v ws rest
asked_first c v ws rest a b (Err (steps.Width width)) e = waits_first c v ws rest
asked_first c v ws rest a b (Err (steps.OwnFull capacity)) e = waits_first c v ws rest

pub goes_on_first : (c : ℕ) (v : FrameWorld) (ws rest : List Request) → goes_on (waits v c ws) c rest ≡ goes_on v c rest
unfolding goes_on
goes_on_first c v ws [] = waits_first c v ws []
goes_on_first c v ws (r ∷ rest) =
    asked_first c v ws rest _ _ (asked (v.clients c) r) (goes_on_first c (notes v c (NoOwnBox (own_of r))) ws rest)

goes_on_placed : (w : FrameWorld) (c : ℕ) (x : Client) (ws vs rest : List Request) (n : ℕ) (os : List Outcome)
    → goes_on (placed w c x vs n os) c rest ≡ goes_on (placed w c x ws n os) c rest
goes_on_placed w c x ws vs rest n os =
    ap (λ v. goes_on v c rest) (others_wait w c x ws n os vs) ∙ goes_on_first c (placed w c x ws n os) vs rest

-- the first request is asked
asked_next : (c : ℕ) (v : FrameWorld) (r : Request) (rest : List Request) (q : Result Client Fault) → asked (v.clients c) r ≡ q
    → goes_on v c (r ∷ rest) ≡ was_asked v c rest (goes_on (notes v c (NoOwnBox (own_of r))) c rest) q
unfolding goes_on
asked_next c v r rest q e = ap (was_asked v c rest (goes_on (notes v c (NoOwnBox (own_of r))) c rest)) e

asked_here : (w : FrameWorld) (c : ℕ) (x : Client) (r : Request) (q : Result Client Fault) → asked x r ≡ q → asked (put w.clients c x c) r ≡ q
asked_here w c x r q e = ap (λ y. asked y r) (put_here w.clients c x) ∙ e

pub taken : (w : FrameWorld) (c : ℕ) (x : Client) (ws : List Request) (n : ℕ) (os : List Outcome) (r : Request) (rest : List Request) (y : Client)
    → asked x r ≡ Ok y → placed w c y rest n os ≡ goes_on (placed w c x ws n os) c (r ∷ rest)
unfolding was_asked
taken w c x ws n os r rest y e =
    others_wait w c y ws n os rest
    ∙ (ap (λ v. waits v c rest) (other_client w c x ws n os y)
    ∙ sym (asked_next c (placed w c x ws n os) r rest (Ok y) (asked_here w c x r (Ok y) e)))

-- no fault but that of an own box that isn't there
abbrev pub IsOther : Fault → Type 0
IsOther fault = (own : ℕ) → fault ≢ steps.NoBox own

drops : (v : FrameWorld) (c : ℕ) (rest : List Request) (next : FrameWorld) (fault : Fault) → IsOther fault → was_asked v c rest next (Err fault) ≡ waits v c rest
unfolding was_asked
drops v c rest next (steps.NoBox own) other = absurd (other own refl)
drops v c rest next steps.Busy other = refl
drops v c rest next steps.Spent other = refl
drops v c rest next (steps.Width width) other = refl
drops v c rest next (steps.OwnFull capacity) other = refl

pub dropped : (w : FrameWorld) (c : ℕ) (x : Client) (ws : List Request) (n : ℕ) (os : List Outcome) (r : Request) (rest : List Request) (fault : Fault)
    → asked x r ≡ Err fault → IsOther fault → placed w c x rest n os ≡ goes_on (placed w c x ws n os) c (r ∷ rest)
dropped w c x ws n os r rest fault e other =
    others_wait w c x ws n os rest
    ∙ (sym (drops (placed w c x ws n os) c rest _ fault other)
    ∙ sym (asked_next c (placed w c x ws n os) r rest (Err fault) (asked_here w c x r (Err fault) e)))

-- a fault names the own box that was asked for
own_box : (x : Client) (r : Request) (own : ℕ) → own_fault x r ≡ Some (steps.NoBox own) → own_of r ≡ own
own_box x (Register address) own e = pick _ e
  where
    pick : (t : Bool) → cond t (Some (steps.OwnFull x.capacity)) None ≡ Some (steps.NoBox own) → 0 ≡ own
    pick true e = absurd (cc e)
    pick false e = absurd (cc e)
own_box x (Write target message) own e = pick _ e
  where
    pick : (t : Bool) → cond t None (Some (steps.Width x.width)) ≡ Some (steps.NoBox own) → 0 ≡ own
    pick true e = absurd (cc e)
    pick false e = absurd (cc e)
own_box x (Read k) own e = pick _ e
  where
    pick : (t : Bool) → cond t (Some (steps.NoBox k)) None ≡ Some (steps.NoBox own) → k ≡ own
    pick true e = cc
    pick false e = absurd (cc e)
own_box x (Retire k) own e = pick _ e
  where
    pick : (t : Bool) → cond t (Some (steps.NoBox k)) None ≡ Some (steps.NoBox own) → k ≡ own
    pick true e = cc
    pick false e = absurd (cc e)

named_box : (x : Client) (r : Request) (own : ℕ) → asked x r ≡ Err (steps.NoBox own) → own_of r ≡ own
unfolding asked
named_box x r own e = at_current x.current e
  where
    at_fault : (f : Option Fault) → own_fault x r ≡ f → asked_with x r f ≡ Err (steps.NoBox own) → own_of r ≡ own
    at_fault None s e = absurd (cc e)
    at_fault (Some fault) s e = own_box x r own (s ∙ (let same : fault ≡ steps.NoBox own = cc in ap Some same))

    at_idle : (t : Bool) → asked_with x r (cond t (Some steps.Spent) (own_fault x r)) ≡ Err (steps.NoBox own) → own_of r ≡ own
    at_idle true e = absurd (cc e)
    at_idle false e = at_fault (own_fault x r) refl e

    at_current : (now : Option Current) → asked_with x r (fault_at x r now) ≡ Err (steps.NoBox own) → own_of r ≡ own
    at_current (Some current) e = absurd (cc e)
    at_current None e = at_idle _ e

refuses : (v : FrameWorld) (c : ℕ) (rest : List Request) (next : FrameWorld) (own : ℕ) → was_asked v c rest next (Err (steps.NoBox own)) ≡ next
unfolding was_asked
refuses v c rest next own = refl

pub refused : (w : FrameWorld) (c : ℕ) (x : Client) (ws : List Request) (n : ℕ) (os : List Outcome) (r : Request) (rest : List Request) (own : ℕ)
    → asked x r ≡ Err (steps.NoBox own)
    → goes_on (placed w c x rest (n + 1) (os ++ line c n (NoOwnBox own) ∷ [])) c rest ≡ goes_on (placed w c x ws n os) c (r ∷ rest)
refused w c x ws n os r rest own e =
    goes_on_placed w c x ws rest rest (n + 1) (os ++ line c n (NoOwnBox own) ∷ [])
    ∙ (ap (λ v. goes_on v c rest) (one_noted w c x ws n os (NoOwnBox own) ∙ ap (λ k. notes (placed w c x ws n os) c (NoOwnBox k)) (sym (named_box x r own e)))
    ∙ (sym (refuses (placed w c x ws n os) c rest _ own)
    ∙ sym (asked_next c (placed w c x ws n os) r rest (Err (steps.NoBox own)) (asked_here w c x r (Err (steps.NoBox own)) e))))

pub ended : (w : FrameWorld) (c : ℕ) (x : Client) (ws : List Request) (n : ℕ) (os : List Outcome)
    → placed w c x [] n os ≡ goes_on (placed w c x ws n os) c []
unfolding goes_on
ended w c x ws n os = others_wait w c x ws n os []

-- ---- being asked

asked_at : (v : FrameWorld) (c : ℕ) (r : Request) (x : Client) (ws : List Request) (t : Bool) → v.clients c ≡ x → v.waiting c ≡ ws → is_none x.current ≡ t
    → asks v c r ≡ cond t (goes_on v c (ws ++ r ∷ [])) (waits v c (ws ++ r ∷ []))
asked_at v c r x ws t ex ew et =
    ap₂ (λ (b : Bool) (us : List Request). cond b (goes_on v c (us ++ r ∷ [])) (waits v c (us ++ r ∷ []))) (ap (λ (y : Client). is_none y.current) ex ∙ et) ew

pub asked_idle : (w : FrameWorld) (c : ℕ) (x : Client) (ws : List Request) (n : ℕ) (os : List Outcome) (r : Request) → is_none x.current ≡ true
    → goes_on (placed w c x (ws ++ r ∷ []) n os) c (ws ++ r ∷ []) ≡ asks (placed w c x ws n os) c r
asked_idle w c x ws n os r e =
    goes_on_placed w c x ws (ws ++ r ∷ []) (ws ++ r ∷ []) n os
    ∙ sym (asked_at (placed w c x ws n os) c r x ws true (put_here w.clients c x) (put_here w.waiting c ws) e)

pub asked_busy : (w : FrameWorld) (c : ℕ) (x : Client) (ws : List Request) (n : ℕ) (os : List Outcome) (r : Request) → is_none x.current ≡ false
    → placed w c x (ws ++ r ∷ []) n os ≡ asks (placed w c x ws n os) c r
asked_busy w c x ws n os r e =
    others_wait w c x ws n os (ws ++ r ∷ [])
    ∙ sym (asked_at (placed w c x ws n os) c r x ws false (put_here w.clients c x) (put_here w.waiting c ws) e)

-- ---- a frame comes

-- what the code says of a request that is finished
pub record IsFinished (p : Progress) (o : Told) : Type 0 where
  pub outcome : steps.Outcome
  pub is : p ≡ steps.Finished outcome
  pub same : outcome_in outcome ≡ o

pub is_finished : (p : Progress) (o : Told) → progress_in p ≡ progress.Finished o → IsFinished p o
is_finished (steps.Finished outcome) o e = record { outcome = outcome; is = refl; same = cc }
is_finished steps.Ignored o e = absurd (cc e)
is_finished (steps.Later refusal) o e = absurd (cc e)
is_finished steps.Next o e = absurd (cc e)

pub told_ended : (o : steps.Outcome) (m : List ℕ) → told_in (Done (outcome_in o)) (message_or m (steps.Finished o)) ≡ Ended o
told_ended (steps.Registered number) m = refl
told_ended steps.Accepted m = refl
told_ended (steps.Message bytes) m = refl
told_ended (steps.Refused refusal) m = refl

pub heard_on : (w : FrameWorld) (c : ℕ) (x : Client) (ws : List Request) (n : ℕ) (os : List Outcome) (t : steps.Turn) (o : steps.Outcome) → t.progress ≡ steps.Finished o
    → goes_on (placed w c t.client ws (n + 1) (os ++ line c n (Ended o) ∷ [])) c ws ≡ to_client (placed w c x ws n os) c t
unfolding goes_on_after
heard_on w c x ws n os t o e =
    let v = with_client (placed w c x ws n os) c t.client in
    ap₂ (λ (u : FrameWorld) (vs : List Request). goes_on u c vs)
    (one_noted w c t.client ws n os (Ended o) ∙ ap (λ u. notes u c (Ended o)) (other_client w c x ws n os t.client))
    (sym (put_here w.waiting c ws))
    ∙ sym (ap (goes_on_after v c) e)

pub heard_else : (w : FrameWorld) (c : ℕ) (x : Client) (ws : List Request) (n : ℕ) (os : List Outcome) (t : steps.Turn)
    → ((o : steps.Outcome) → t.progress ≢ steps.Finished o) → placed w c t.client ws n os ≡ to_client (placed w c x ws n os) c t
unfolding goes_on_after
heard_else w c x ws n os t other = other_client w c x ws n os t.client ∙ sym (at_progress t.progress other)
  where
    at_progress : (p : Progress) → ((o : steps.Outcome) → p ≢ steps.Finished o) → goes_on_after (with_client (placed w c x ws n os) c t.client) c p ≡ with_client (placed w c x ws n os) c t.client
    at_progress (steps.Finished o) other = absurd (other o refl)
    at_progress steps.Ignored other = refl
    at_progress (steps.Later refusal) other = refl
    at_progress steps.Next other = refl

pub other_fault : (f : AskFault) → ((own : ℕ) → f ≢ fault.NoBox own) → IsOther (fault_in f)
other_fault (fault.NoBox k) n own e = n k refl
other_fault fault.Busy n own e = cc e
other_fault fault.Spent n own e = cc e
other_fault (fault.Width width) n own e = cc e
other_fault (fault.OwnFull capacity) n own e = cc e

pub nothing_left : {X : Type 0} (xs : List X) → xs ≡ drop 1 xs → xs ≡ []
nothing_left [] e = refl
nothing_left (x ∷ xs) e = absurd (omega (arith, ap length e))
