-- What is said of a halt.
use Rattle.std.proofs.Common.{◌≡◌, ℕ, List, Option, Some, None, Result, Ok, Err, refl, ap, sym, subst}
use Rattle.express_words.specs.declared.role.Role.{Role}
use Rattle.http_door.specs.Replies.{PlainReply, Frame, Lease, NotYours, Ended, Busy, Preflight, Refused}
use Rattle.door_exchange.specs.declared.exchanging.Broken.{Broken}
use Rattle.door_exchange.specs.declared.exchanging.Broken.TheVariants as broken
use Rattle.door_work.specs.Asking.{Asking}
use Rattle.door_work.specs.Steps.{DiskFaultBy, NetFaultBy, came, halt_at, heard_by}
use Rattle.door_work.specs.declared.halt.Halt.{Halt}
use Rattle.door_work.specs.declared.halt.Halt.TheVariants as halt

-- the same halt, of another call
pub err_over : (T U : Type 0) (h k : Halt) → ◌≡◌ {A = Result T Halt} (Err h) (Err k)
    → ◌≡◌ {A = Result U Halt} (Err h) (Err k)
err_over T U h k e = let same : h ≡ k = cc e in ap Err same

pub why_of : (T : Type 0) (to server : Role) (why other : Broken)
    → ◌≡◌ {A = Result T Halt} (Err (halt.Unanswered to why)) (Err (halt.Unanswered server other)) → why ≡ other
why_of T to server why other e = cc e

-- ---- no fault of the disk

at_answer : (T : Type 0) (to : Role) (reply : PlainReply) (f : ℕ) → DiskFaultBy {T = T} (Err (halt_at to reply)) f f
at_answer T to (Frame frame) f = refl
at_answer T to (Lease lane serial) f = refl
at_answer T to NotYours f = refl
at_answer T to (Ended end) f = refl
at_answer T to Busy f = refl
at_answer T to Preflight f = refl
at_answer T to (Refused why) f = refl

heard_still : (T : Type 0) (to : Role) (reply : PlainReply) (o : Option (List ℕ)) (why : Halt) (f : ℕ)
    → Err why ≡ heard_by to reply o → DiskFaultBy {T = T} (Err why) f f
heard_still T to reply (Some bytes) why f e = absurd (cc e)
heard_still T to reply None why f e =
    let same : why ≡ halt_at to reply = cc e in
    subst (λ (h : Halt). DiskFaultBy {T = T} (Err h) f f) (sym same) (at_answer T to reply f)

-- where a request is answered, the disk had no fault
pub disk_still : (T : Type 0) {M : Type 0} (asking : Asking M) (m : M) (to : Role)
    (answer : Result PlainReply Broken) (why : Halt) (f : ℕ)
    → Err why ≡ came asking m to answer → DiskFaultBy {T = T} (Err why) f f
disk_still T asking m to (Ok reply) why f e = heard_still T to reply (asking.heard_as m reply) why f e
disk_still T asking m to (Err b) why f e =
    let same : why ≡ halt.Unanswered to b = cc e in
    subst (λ (h : Halt). DiskFaultBy {T = T} (Err h) f f) (sym same) refl

-- ---- counts of faults, over several steps

pub net_from : (T U : Type 0) (h : Halt) (first before now : ℕ) → before ≡ first
    → NetFaultBy {T = T} (Err h) before now → NetFaultBy {T = U} (Err h) first now
net_from T U h first before now is c =
    subst (λ (x : ℕ). NetFaultBy {T = U} (Err h) x now) is (over h c)
  where
    over : (x : Halt) → NetFaultBy {T = T} (Err x) before now → NetFaultBy {T = U} (Err x) before now
    over (halt.Unanswered server (broken.Fault count)) e = e
    over (halt.Unanswered server (broken.Early count)) e = e
    over (halt.Unanswered server (broken.Wrong fault)) e = e
    over (halt.Keep fault) e = e
    over (halt.Busy server) e = e
    over (halt.NotYours server) e = e
    over (halt.Answer server) e = e

pub disk_from : (T U : Type 0) (h : Halt) (first before now : ℕ) → before ≡ first
    → DiskFaultBy {T = T} (Err h) before now → DiskFaultBy {T = U} (Err h) first now
disk_from T U h first before now is c =
    subst (λ (x : ℕ). DiskFaultBy {T = U} (Err h) x now) is (over h c)
  where
    over : (x : Halt) → DiskFaultBy {T = T} (Err x) before now → DiskFaultBy {T = U} (Err x) before now
    over (halt.Unanswered server why) e = e
    over (halt.Keep fault) e = e
    over (halt.Busy server) e = e
    over (halt.NotYours server) e = e
    over (halt.Answer server) e = e
