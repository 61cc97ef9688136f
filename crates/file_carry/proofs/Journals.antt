-- What a box holds while a journal goes on.
use Rattle.std.proofs.Common.{◌≡◌, ◌∙◌, ◌<◌, ◌≤◌, ◌+◌, ◌-◌, ℕ, zero, suc, List, [], ◌∷◌, length, take, replicate, Option, Some, None, slice_get, arith, refl, sym, ap, subst}
use Rattle.std.proofs.lemmas.List.{length-replicate}
use Rattle.mailbox_rules.specs.Requests.{Line, Entry, entry, Operation, BeginWrite, SettleWrite, ReadBox}
use Rattle.mailbox_rules.specs.Tables.{Table, Gave, after_line, table_after, result_of}
use Rattle.mailbox_rules.proofs.Folds.{parts_grow, results_stand}
use Rattle.file_carry.specs.Carried.{Journal, Holds, LeavesAlone, BeginsNone, Between, BeganThere, IsCarried, IsUnwritten, table_at, result_at}
use Rattle.file_carry.specs.CarriedLaws.{PartsAreGiven}
use Rattle.file_carry.proofs.Boxes.{holds_alone, holds_written, count_alone, count_begun, gives}

take_past : {X : Type 0} (xs : List X) (i : ℕ) → slice_get xs i ≡ None → take (suc i) xs ≡ take i xs
take_past [] zero h = refl
take_past [] (suc i) h = refl
take_past (x ∷ xs) zero h = cc
take_past (x ∷ xs) (suc i) h = ap (λ zs. x ∷ zs) (take_past xs i h)

-- what each line keeps is kept from one place to another
module _ (j : Journal) (P : Table → Type 0) (Q : Line → Operation → Type 0)
    (on_line : (t : Table) (line : Line) (does : Operation) → Q line does → P t → P (after_line j.limit j.width j.writes t line does)) where
  kept_once : (i : ℕ) (o : Option Entry) → slice_get j.entries i ≡ o
      → ((e : Entry) → slice_get j.entries i ≡ Some e → Q e.line e.does) → P (table_at j i)
      → P (table_at j (suc i))
  kept_once i (Some e) is q h = subst P (sym (parts_grow j.limit j.width j.writes j.entries i e is))
      (on_line (table_at j i) e.line e.does (q e is) h)
  kept_once i None is q h = subst (λ l. P (table_after j.limit j.width j.writes l)) (sym (take_past j.entries i is)) h

  pub kept : (d i k : ℕ) → i + d ≡ k → Between j.entries i k Q → P (table_at j i) → P (table_at j k)
  kept zero i k e q h = let same : i ≡ k = omega arith in subst (λ m. P (table_at j m)) same h
  kept (suc d) i k e q h =
      kept d (suc i) k (omega arith) (λ m x from to. q m x (omega arith) to)
      (kept_once i (slice_get j.entries i) refl (λ x. q i x (omega arith) (omega arith)) h)

-- a write that began once the box was registered counts the box
counted : (j : Journal) (place lane box : ℕ) → BeganThere j place lane box
    → box < (table_at j place).count lane
counted j place lane box b =
    let begun : box < (table_at j (suc b.begin)).count lane =
    subst (λ t. box < t.count lane) (sym (parts_grow j.limit j.width j.writes j.entries b.begin
    (entry b.line BeginWrite) b.is))
    (count_begun j lane box (table_at j b.begin) b.line b.lane_is b.registered) in
    kept j (λ t. box < t.count lane) (λ line does. BeginsNone lane line does)
    (λ t line does. count_alone j lane box t line does)
    (place - suc b.begin) (suc b.begin) place (omega (arith, b.before)) b.last begun

-- a box that is left alone holds what it held
held : (j : Journal) (box address : ℕ) (bytes : List ℕ) (i k : ℕ) → length bytes ≡ j.width → i ≤ k
    → Between j.entries i k (λ line does. LeavesAlone j box address line does)
    → Holds (table_at j i) box address bytes → Holds (table_at j k) box address bytes
held j box address bytes i k size le alone h =
    kept j (λ t. Holds t box address bytes) (λ line does. LeavesAlone j box address line does)
    (λ t line does a. holds_alone j box address bytes t line does size a) (k - i) i k (omega arith) alone h

carried : (j : Journal) (address : ℕ) (part : List ℕ) (read : ℕ) (c : IsCarried j address part read)
    → length part ≡ j.width → Holds (table_at j read) c.box address part
carried j address part read c size =
    let zeros : List ℕ = replicate j.width 0 in
    let clear : Holds (table_at j c.settle) c.box address zeros =
    held j c.box address zeros c.clear c.settle (length-replicate j.width 0) c.clear_first c.alone c.zeros in
    let w = c.written in
    let written : Holds (table_at j (suc c.settle)) c.box address part =
    subst (λ t. Holds t c.box address part) (sym (parts_grow j.limit j.width j.writes j.entries c.settle
    (entry w.line SettleWrite) w.is))
    (holds_written j c.box address part (table_at j c.settle) w.line size w.accepted w.adds
    (counted j c.settle w.line.lane c.box w.began) clear) in
    held j c.box address part (suc c.settle) read size (omega (arith, c.write_first)) c.alone_then written

pub parts_are_given : PartsAreGiven
parts_are_given j address part read c size =
    let there : result_of j.limit j.writes (table_at j read) c.line (ReadBox c.box) ≡ Gave c.box part =
    gives j c.box address part (table_at j read) c.line (carried j address part read c size) in
    record {
      result = results_stand j.limit j.width j.writes j.entries read (entry c.line (ReadBox c.box)) c.is
          ∙ ap (λ r. Some r) there;
      there = there;
    }

-- a box to which nothing was written gives zeros
pub zeros_are_given : (j : Journal) (read : ℕ) (u : IsUnwritten j read)
    → result_at j read ≡ Some (Gave u.box (replicate j.width 0))
zeros_are_given j read u =
    let zeros : List ℕ = replicate j.width 0 in
    let clear : Holds (table_at j read) u.box u.address zeros =
    held j u.box u.address zeros u.clear read (length-replicate j.width 0) u.clear_first u.alone u.zeros in
    results_stand j.limit j.width j.writes j.entries read (entry u.line (ReadBox u.box)) u.is
    ∙ ap (λ r. Some r) (gives j u.box u.address zeros (table_at j read) u.line clear)
