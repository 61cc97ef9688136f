-- Which refusals a client's request can come to.
use Rattle.std.proofs.Common.{◌≡◌, ◌⊎◌, ℕ, true, false, Bool, cond, List, take, Option, Some, None, slice_get, Contains, refl, ap, subst, inl, inr}
use Rattle.express_words.specs.declared.refusal.Refusal.{Refusal}
use Rattle.express_words.specs.declared.refusal.Refusal.TheVariants as refusal
use Rattle.mailbox_rules.specs.Requests.{Request, Register, Write, Read, Retire, Registers, Line, Operation, AddBox, BeginWrite, AuditWrite, SettleWrite, ReadBox, RetireBox, Refuse, opening_of}
use Rattle.mailbox_rules.specs.Tables.{Mailbox, Table, Writes, Result, Registered, Taken, Full, Began, WasAudited, Settled, Gave, NoBox, Refused, box_of, given, result_of}
use Rattle.mailbox_rules.specs.Laws.{Did}
use Rattle.token_rules.specs.Laws.{last_of}
use Rattle.step_rules.specs.Client as client
use Rattle.step_rules.specs.Client.{Outcome}
use Rattle.run_rules.specs.Book.{Book}
use Rattle.run_rules.specs.Values.{counted_at, closing_at}
use Rattle.run_rules.specs.Plain.{IsDue, outcome_of}
use Rattle.run_rules.proofs.PlainOutcomes.{IsOf, registers}

-- ---- a refused read or retire

given_none : (m n : ℕ) (o : Option Mailbox) → given m o ≡ NoBox n → m ≡ n
given_none m n None e = cc e
given_none m n (Some box) e = by_life box.live e
  where
    by_life : (t : Bool) → cond t (Gave m box.bytes) (NoBox m) ≡ NoBox n → m ≡ n
    by_life true e = absurd (cc e)
    by_life false e = cc e

pub no_box : (limit : ℕ) (writes : Writes) (t : Table) (x : Line) (does : Operation) (n : ℕ)
    → result_of limit writes t x does ≡ NoBox n → (does ≡ ReadBox n) ⊎ (does ≡ RetireBox n)
unfolding result_of
no_box limit writes t x (AddBox a) n e =
    absurd (subst (IsOf Registers) e (registers limit t (box_of a t.boxes)))
no_box limit writes t x BeginWrite n e = absurd (cc e)
no_box limit writes t x AuditWrite n e = absurd (cc e)
no_box limit writes t x SettleWrite n e = absurd (cc e)
no_box limit writes t x (ReadBox m) n e = inl (ap ReadBox (given_none m n (slice_get t.boxes m) e))
no_box limit writes t x (RetireBox m) n e = inr (ap RetireBox (given_none m n (slice_get t.boxes m) e))
no_box limit writes t x Refuse n e = absurd (cc e)

-- ---- the refusal of a result

module _ (b : Book) (i : ℕ) (x : Line) (r : Refusal) where
  abbrev Told : Result → Type 0
  Told result = outcome_of b x result ≡ Some (client.Refused r)

  pub due : (request : Request) (result : Result) → IsOf (last_of (opening_of request)) result → Told result
      → ((target : ℕ) (message : List ℕ) → request ≡ Write target message → result ≡ Settled false
      → Contains (counted_at b x.lane x.serial) target → ⊥)
      → ((n : ℕ) → result ≡ NoBox n → Did (take i b.entries) (RetireBox n))
      → IsDue b i x request r
  due (Register a) (Registered n) k e w d = absurd (cc e)
  due (Register a) (Taken n) k e w d = let same : refusal.Taken n ≡ r = cc in subst (λ r. IsDue b i x (Register a) r) same tt
  due (Register a) (Full n) k e w d = let same : refusal.Full n ≡ r = cc in subst (λ r. IsDue b i x (Register a) r) same tt
  due (Register a) (Began n) k e w d = absurd k
  due (Register a) WasAudited k e w d = absurd k
  due (Register a) (Settled t) k e w d = absurd k
  due (Register a) (Gave n bytes) k e w d = absurd k
  due (Register a) (NoBox n) k e w d = absurd k
  due (Register a) Refused k e w d = absurd k
  due (Write target message) (Settled true) k e w d = absurd (cc e)
  due (Write target message) (Settled false) k e w d =
      let zero = closing_at b 0 x.lane x.serial in
      let one = closing_at b 1 x.lane x.serial in
      let same : refusal.Rejected zero.o one.o zero.tau one.tau ≡ r = cc in
      subst (λ r. IsDue b i x (Write target message) r) same (w target message refl refl)
  due (Write target message) (Registered n) k e w d = absurd k
  due (Write target message) (Taken n) k e w d = absurd k
  due (Write target message) (Full n) k e w d = absurd k
  due (Write target message) (Began n) k e w d = absurd k
  due (Write target message) WasAudited k e w d = absurd k
  due (Write target message) (Gave n bytes) k e w d = absurd k
  due (Write target message) (NoBox n) k e w d = absurd k
  due (Write target message) Refused k e w d = absurd k
  due (Read own) (Gave n bytes) k e w d = absurd (cc e)
  due (Read own) (NoBox n) k e w d = let same : refusal.NoBox n ≡ r = cc in subst (λ r. IsDue b i x (Read own) r) same (d n refl)
  due (Read own) (Registered n) k e w d = absurd k
  due (Read own) (Taken n) k e w d = absurd k
  due (Read own) (Full n) k e w d = absurd k
  due (Read own) (Began n) k e w d = absurd k
  due (Read own) WasAudited k e w d = absurd k
  due (Read own) (Settled t) k e w d = absurd k
  due (Read own) Refused k e w d = absurd k
  due (Retire own) (Gave n bytes) k e w d = absurd (cc e)
  due (Retire own) (NoBox n) k e w d = let same : refusal.NoBox n ≡ r = cc in subst (λ r. IsDue b i x (Retire own) r) same (d n refl)
  due (Retire own) (Registered n) k e w d = absurd k
  due (Retire own) (Taken n) k e w d = absurd k
  due (Retire own) (Full n) k e w d = absurd k
  due (Retire own) (Began n) k e w d = absurd k
  due (Retire own) WasAudited k e w d = absurd k
  due (Retire own) (Settled t) k e w d = absurd k
  due (Retire own) Refused k e w d = absurd k
