-- A box that was registered is there ever after.
use Rattle.std.proofs.Common.{◌≡◌, ◌∙◌, ◌<◌, ◌-◌, ℕ, zero, suc, Bool, true, false, cond, nat_le, List, [], ◌∷◌, length, Option, Some, None, slice_get, arith, refl, sym, ap, subst}
use Rattle.std.proofs.lemmas.Bool.{cond_both}
use Rattle.std.proofs.lemmas.List.{length-append}
use Rattle.mailbox_rules.specs.Requests.{Line, Entry, Operation, AddBox, BeginWrite, AuditWrite, SettleWrite, ReadBox, RetireBox, Refuse}
use Rattle.mailbox_rules.specs.Tables.{Mailbox, Table, Writes, Result, Registered, Full, given, boxes_with, boxes_cleared, box_of, new_box, after_register, register_result, after_line, result_of, results_from, results_after}
use Rattle.mailbox_rules.proofs.Folds.{parts_grow, results_stand}
use Rattle.file_carry.specs.Carried.{Journal, table_at, result_at}
use Rattle.file_carry.specs.CarriedLaws.{RegisteredStay}
use Rattle.file_carry.proofs.Journals.{kept}

length_with : (f : ℕ → List ℕ) (k : ℕ) (xs : List Mailbox) → length (boxes_with f k xs) ≡ length xs
unfolding boxes_with
length_with f zero xs = refl
length_with f (suc k) [] = refl
length_with f (suc k) (x ∷ xs) = ap suc (length_with f k xs)

length_cleared : (width : ℕ) (stays : Bool) (xs : List Mailbox) (n : ℕ)
    → length (boxes_cleared width stays xs n) ≡ length xs
unfolding boxes_cleared
length_cleared width stays [] n = refl
length_cleared width stays (x ∷ xs) zero = refl
length_cleared width stays (x ∷ xs) (suc n) = ap suc (length_cleared width stays xs n)

there_register : (limit width : ℕ) (t : Table) (line : Line) (address : ℕ) (o : Option ℕ) (box : ℕ)
    → box < length t.boxes → box < length (after_register limit width t line address o).boxes
unfolding after_register
there_register limit width t line address (Some k) box h = h
there_register limit width t line address None box h =
    cond_both {A = Table} (nat_le limit (length t.boxes)) _ _ (λ u. box < length u.boxes) (λ f. h)
    (λ f. omega (arith, h, length-append t.boxes (new_box width line address ∷ [])))

there_line : (j : Journal) (box : ℕ) (t : Table) (line : Line) (does : Operation) → box < length t.boxes
    → box < length (after_line j.limit j.width j.writes t line does).boxes
unfolding after_line
there_line j box t line (AddBox other) h =
    there_register j.limit j.width t line other (box_of other t.boxes) box h
there_line j box t line BeginWrite h = h
there_line j box t line AuditWrite h = h
there_line j box t line SettleWrite h =
    cond_both {A = Table} (j.writes.accepts line.lane line.serial) _ _ (λ u. box < length u.boxes)
    (λ f. omega (arith, h, length_with (j.writes.adds line.lane line.serial) (t.count line.lane) t.boxes))
    (λ f. h)
there_line j box t line (ReadBox other) h = omega (arith, h, length_cleared j.width true t.boxes other)
there_line j box t line (RetireBox other) h = omega (arith, h, length_cleared j.width false t.boxes other)
there_line j box t line Refuse h = h

given_none : (n box : ℕ) (o : Option Mailbox) → given n o ≡ Registered box → ⊥
given_none n box None h = cc
given_none n box (Some m) h =
    cond_both {A = Result} m.live _ _ (λ r. r ≡ Registered box → ⊥) (λ f e. cc) (λ f e. cc) h

registered_there : (limit width : ℕ) (t : Table) (line : Line) (address : ℕ) (o : Option ℕ) (box : ℕ)
    → register_result limit t o ≡ Registered box
    → box < length (after_register limit width t line address o).boxes
unfolding after_register
registered_there limit width t line address (Some k) box h = cc
registered_there limit width t line address None box h =
    let n : ℕ = length t.boxes in
    cond_both {A = Table} (nat_le limit n) _ _ (λ u. box < length u.boxes)
    (λ f. absurd (let full : Full limit ≡ Registered box = ap (λ b. cond b (Full limit) (Registered n)) (sym f) ∙ h in cc))
    (λ f.
    let last : Registered n ≡ Registered box = ap (λ b. cond b (Full limit) (Registered n)) (sym f) ∙ h in
    let same : n ≡ box = cc in
    omega (arith, same, length-append t.boxes (new_box width line address ∷ [])))

line_registers : (j : Journal) (box : ℕ) (t : Table) (line : Line) (does : Operation)
    → result_of j.limit j.writes t line does ≡ Registered box
    → box < length (after_line j.limit j.width j.writes t line does).boxes
unfolding after_line result_of
line_registers j box t line (AddBox other) h =
    registered_there j.limit j.width t line other (box_of other t.boxes) box h
line_registers j box t line BeginWrite h = cc
line_registers j box t line AuditWrite h = cc
line_registers j box t line SettleWrite h = cc
line_registers j box t line (ReadBox other) h = absurd (given_none other box (slice_get t.boxes other) h)
line_registers j box t line (RetireBox other) h = absurd (given_none other box (slice_get t.boxes other) h)
line_registers j box t line Refuse h = cc

entry_from : (limit width : ℕ) (writes : Writes) (entries : List Entry) (t : Table) (i : ℕ) (r : Result)
    → slice_get (results_from limit width writes t entries) i ≡ Some r
    → (e : Entry) × (slice_get entries i ≡ Some e)
unfolding results_from
entry_from limit width writes [] t i r h = cc
entry_from limit width writes (x ∷ xs) t zero r h = (x, refl)
entry_from limit width writes (x ∷ xs) t (suc i) r h = entry_from limit width writes xs _ i r h

-- a result is that of an entry
entry_at : (j : Journal) (place : ℕ) (r : Result) → result_at j place ≡ Some r
    → (e : Entry) × (slice_get j.entries place ≡ Some e)
unfolding results_after
entry_at j place r h = entry_from j.limit j.width j.writes j.entries _ place r h

pub registered_stay : RegisteredStay
registered_stay j register later box is before =
    let x = entry_at j register (Registered box) is in
    let e : Entry = x.0 in
    let there : result_of j.limit j.writes (table_at j register) e.line e.does ≡ Registered box =
    (let stands = results_stand j.limit j.width j.writes j.entries register e x.1 in cc) in
    let next : box < length (table_at j (suc register)).boxes =
    subst (λ t. box < length t.boxes) (sym (parts_grow j.limit j.width j.writes j.entries register e x.1))
    (line_registers j box (table_at j register) e.line e.does there) in
    kept j (λ t. box < length t.boxes) (λ line does. Unit {0}) (λ t line does u. there_line j box t line does)
    (later - suc register) (suc register) later (omega arith) (λ place e from to is. tt) next
