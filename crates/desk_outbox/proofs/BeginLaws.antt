-- A try that begins.
use Rattle.std.proofs.Common.{◌≡◌, ◌^◌, ℕ, Bool, true, false, List, Option, Some, None, Result, Ok, Err, refl, sym, ap, ◌∙◌, subst, length}
use Rattle.std.proofs.lemmas.Bool.{lt-leb, eq-eqb}
use Rattle.std.specs.Prelude.{nat_le, ◌==◌, cond, slice_get, IsOk}
use Rattle.express_words.specs.Seen.{Seen}
use Rattle.mailbox_rules.specs.Requests.{Request, Write}
use Rattle.step_rules.specs.Client.{Client, Deposits, Fault, Spent, Width, opened_client}
use Rattle.step_rules.specs.ClientAsks as asks
use Rattle.step_rules.specs.ClientAsks.{asked_with, fault_at, own_fault, with_request}
use Rattle.client_restart.specs.declared.opening.ClientOpening.{ClientOpening}
use Rattle.client_restart.specs.Keeps.{KeepsNote, sight}
use Rattle.client_restart.specs.Kept.{HoldsNotes, ClientState}
use Rattle.client_restart.specs.Notes.{Asked}
use Rattle.client_restart.specs.Openings.{IsClientOpening}
use Rattle.client_restart.specs.Steps.{CoreState, client_or, fold, opened, step_of}
use Rattle.node_journal.specs.Disk.{DiskSeen}
use Rattle.desk_texts.specs.declared.sheet.Sheet.{Sheet}
use Rattle.desk_outbox.specs.Begun.{HasNoted, IsBegun, IsNoted, front_notes}
use Rattle.desk_outbox.specs.Outboxes.{IsTry}
use Rattle.desk_outbox.specs.Places.{address_at}
use Rattle.desk_outbox.specs.Trying.{Begins, begun_notes}
use Rattle.desk_outbox.specs.declared.place.Place.{Place}

-- ---- asking

asked_current : (c : Client) (r : Request) (o : Option Fault) → IsOk (asked_with c r o)
    → (client_or c (asked_with c r o)).current ≡ Some (record { request = r; step = Deposits })
asked_current c r None is = refl
asked_current c r (Some fault) is = absurd (cc is)

pub asked_write : (c : Client) (r : Request) → IsOk (asks.asked c r) → (client_or c (asks.asked c r)).current ≡ Some (record { request = r; step = Deposits })
unfolding asks.asked
asked_write c r is = asked_current c r (fault_at c r c.current) is

fits : (c : Client) (target : ℕ) (message : List ℕ) (spent wide : Bool) → spent ≡ false → wide ≡ true
    → cond spent (Some Spent) (cond wide None (Some (Width c.width))) ≡ None
fits c target message spent wide e f = ap (λ (b : Bool). cond b (Some Spent) (cond wide None (Some (Width c.width)))) e
    ∙ ap (λ (b : Bool). cond b None (Some (Width c.width))) f

pub opened_asks : (o : ClientOpening) (target : ℕ) (message : List ℕ) → IsClientOpening o → length message ≡ o.width
    → IsOk (asks.asked (opened o).client (Write target message))
unfolding asks.asked opened_client
opened_asks o target message is e =
    let c : Client = (opened o).client in
    let none : fault_at c (Write target message) None ≡ None =
    fits c target message (nat_le (2 ^ 32) o.first_serial) (length message == o.width) (lt-leb (2 ^ 32) o.first_serial is.serial.1) (eq-eqb (length message) o.width e) in
    subst (λ (x : Option Fault). IsOk (asked_with c (Write target message) x)) (sym none) refl

no_fault : (c : Client) (r : Request) (f : Fault) → IsOk (asks.asked c r) → asks.asked c r ≡ Err f → ⊥
no_fault c r f is e = let none = subst (λ (x : Result Client Fault). IsOk x) e is in absurd (cc none)

pub never_refused : (o : ClientOpening) (target : ℕ) (message : List ℕ) (c : Client) (f : Fault) → IsClientOpening o → length message ≡ o.width → c ≡ (opened o).client
    → asks.asked c (Write target message) ≡ Err f → ⊥
never_refused o target message c f is fit same e =
    no_fault (opened o).client (Write target message) f (opened_asks o target message is fit)
    (ap (λ (x : Client). asks.asked x (Write target message)) (sym same) ∙ e)

-- ---- the last note

pub front_client : {D : Type 0} (shows : D → DiskSeen) (o : ClientOpening) (card : Sheet) (place : Place) (most : ℕ) (k : ClientState D)
    → HasNoted shows o (front_notes card place) most k → k.core.client ≡ (opened o).client
front_client shows o card place most k has = ap (λ (c : CoreState). c.client) has.core

pub noted : {D V : Type 0} (shows : D → DiskSeen) (counts : D → Seen) (card : Sheet) (place : Place) (o : ClientOpening) (target : ℕ) (message : List ℕ) (most : ℕ)
    (k2 k3 : ClientState D) (z : V) → IsBegun card place o message → HasNoted shows o (front_notes card place) most k2
    → KeepsNote {T = V} (Asked (Write target message)) (sight shows counts k2) (sight shows counts k3) (Ok z)
    → slice_get card.addresses (address_at (length card.addresses) place) ≡ Some target
    → IsNoted shows card place o message k3
noted {D} {V} shows counts card place o target message most k2 k3 z begun has third there =
    let core : k3.core ≡ fold o (begun_notes card place target message)
    = third.step ∙ ap (λ (c : CoreState). step_of c (Asked (Write target message))) has.core in
    let current : k3.core.client.current ≡ Some (record { request = Write target message; step = Deposits })
    = ap (λ (k : CoreState). k.client.current) core ∙ asked_write (opened o).client (Write target message) (opened_asks o target message begun.is_opening begun.fits) in
    record {
      opening = third.opening ∙ has.opening;
      target = target;
      there = there;
      core = core;
      held = subst (λ (w : ClientOpening). HoldsNotes w (front_notes card place) (shows k2.disk).reads → HoldsNotes w (begun_notes card place target message) (shows k3.disk).reads) has.opening (third.added (front_notes card place)) has.held;
      write = record { target = target; message = message; step = Deposits; is = current; fits = begun.fits };
    }

-- ---- the try

pub begins : {D : Type 0} (shows : D → DiskSeen) (card : Sheet) (place : Place) (o : ClientOpening) (message : List ℕ) (k : ClientState D)
    → IsNoted shows card place o message k → Begins shows card place message (record { kept = k; card = card; place = place })
begins {D} shows card place o message k n = record {
  on_card = refl;
  at_place = refl;
  target = n.target;
  there = n.there;
  core = subst (λ (w : ClientOpening). k.core ≡ fold w (begun_notes card place n.target message)) (sym n.opening) n.core;
  held = subst (λ (w : ClientOpening). HoldsNotes w (begun_notes card place n.target message) (shows k.disk).reads) (sym n.opening) n.held;
}

pub begun_try : {D : Type 0} (shows : D → DiskSeen) (card : Sheet) (place : Place) (o : ClientOpening) (message : List ℕ) (k : ClientState D)
    → IsBegun card place o message → IsNoted shows card place o message k → IsTry k.opening card place k.core.client.current
begun_try {D} shows card place o message k b n =
    subst (λ (w : ClientOpening). IsTry w card place k.core.client.current) (sym n.opening)
    (record { on_card = b.on_card; first = b.first; address = b.address; few = b.few; write = n.write })
