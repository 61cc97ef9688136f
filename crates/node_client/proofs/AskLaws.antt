-- What a client that has no request makes of one.
use Rattle.std.proofs.Common.{◌≡◌, ◌≢◌, ℕ, ◌^◌, Bool, true, false, cond, List, length, Option, Some, None, Result, Ok, Err, refl, subst, inl, inr, arith}
use Rattle.std.specs.Prelude.{slice_get, nat_le}
use Rattle.std.proofs.lemmas.Bool.{eq-eqb, leb-false}
use Rattle.std.proofs.lemmas.Option.{slice_get_cases}
use Rattle.mailbox_rules.specs.Requests.{Request, Register, Write, Read, Retire}
use Rattle.step_rules.specs.Client.{Client, Owned, Current, Deposits, Fault, Busy, Spent, Width}
use Rattle.step_rules.specs.ClientAsks.{asked, asked_with, fault_at, idle_fault, own_fault, with_request, sends, sent_with, deposit_of, read_deposit}
use Rattle.node_client.specs.Work.{Fits}

idle_asked : (c : Client) (r : Request) (x : Result Client Fault) → c.current ≡ None → asked c r ≡ x → asked_with c r (idle_fault c r) ≡ x
unfolding asked
idle_asked c r x idle is = subst (λ (o : Option Current). asked_with c r (fault_at c r o) ≡ x) idle is

-- ---- a request that is taken

taken_with : (c taken : Client) (r : Request) (o : Option Fault) → asked_with c r o ≡ Ok taken → (o ≡ None) × (with_request c r ≡ taken)
taken_with c taken r None e = (refl, cc)
taken_with c taken r (Some fault) e = absurd (cc e)

not_spent : (b : Bool) (o : Option Fault) → cond b (Some Spent) o ≡ None → o ≡ None
not_spent true o e = absurd (cc e)
not_spent false o e = e

not_past : (b : Bool) (fault : Fault) → cond b (Some fault) None ≡ None → b ≡ false
not_past true fault e = absurd (cc e)
not_past false fault e = refl

is_there : (boxes : List Owned) (n : ℕ) → nat_le (length boxes) n ≡ false → slice_get boxes n ≢ None
is_there boxes n h =
    elim (slice_get_cases boxes n).1 [
      | inl found ↦ λ e. absurd (cc (found.2, e))
      | inr past ↦ λ e. absurd (omega (arith, past.0, leb-false (length boxes) n h))
    ]

read_sends : (c : Client) (o : Option Owned) → o ≢ None → sent_with c Deposits (read_deposit c o) ≢ None
unfolding read_deposit
read_sends c None n = λ e. n refl
read_sends c (Some own) n = λ e. absurd (cc e)

first_sends : (c : Client) (r : Request) → own_fault c r ≡ None → sends (with_request c r) ≢ None
unfolding sends deposit_of
first_sends c (Register address) e = λ n. absurd (cc n)
first_sends c (Write target message) e = λ n. absurd (cc n)
first_sends c (Read own) e = read_sends (with_request c (Read own)) (slice_get c.owned own) (is_there c.owned own (not_past _ _ e))
first_sends c (Retire own) e = read_sends (with_request c (Retire own)) (slice_get c.owned own) (is_there c.owned own (not_past _ _ e))

-- its first frame can be sent
pub taken_sends : (c taken : Client) (r : Request) → c.current ≡ None → asked c r ≡ Ok taken → sends taken ≢ None
taken_sends c taken r idle is =
    let t = taken_with c taken r (idle_fault c r) (idle_asked c r (Ok taken) idle is) in
    subst (λ (x : Client). sends x ≢ None) t.1 (first_sends c r (not_spent _ _ t.0))

-- ---- a request that isn't

-- nothing that the caller rules out
abbrev pub Possible : Option Fault → Type 0
Possible (Some Busy) = ⊥
Possible (Some (Width width)) = ⊥
Possible other = Unit {0}

either : (b : Bool) (x y : Option Fault) → Possible x → Possible y → Possible (cond b x y)
either true x y p q = p
either false x y p q = q

own_possible : (c : Client) (r : Request) → Fits c.width r → Possible (own_fault c r)
own_possible c (Register address) fits = either (nat_le c.capacity (length c.owned)) _ _ tt tt
own_possible c (Write target message) fits = rw (eq-eqb (length message) c.width fits) tt
own_possible c (Read own) fits = either (nat_le (length c.owned) own) _ _ tt tt
own_possible c (Retire own) fits = either (nat_le (length c.owned) own) _ _ tt tt

refused_with : (c : Client) (r : Request) (fault : Fault) (o : Option Fault) → asked_with c r o ≡ Err fault → o ≡ Some fault
refused_with c r fault None e = absurd (cc e)
refused_with c r fault (Some other) e = cc

pub refused_possible : (c : Client) (r : Request) (fault : Fault) → c.current ≡ None → Fits c.width r → asked c r ≡ Err fault → Possible (Some fault)
refused_possible c r fault idle fits is =
    subst Possible (refused_with c r fault (idle_fault c r) (idle_asked c r (Err fault) idle is))
    (either (nat_le (2 ^ 32) c.serial) _ _ tt (own_possible c r fits))
