-- No two files of a folder have one path.
use Rattle.std.proofs.Common.{◌≡◌, ℕ, zero, suc, ◌-◌, ◌<◌, ◌==◌, List, ◌++◌, length, get_or, codes}
use Rattle.std.proofs.Common.{if◌then◌else◌, refl, sym, ap, ◌∙◌, arith}
use Rattle.std.specs.Fmt.{digits}
use Rattle.std.proofs.lemmas.List.{append_cancel_left}
use Rattle.desk_outside.specs.declared.folder.DeskFile.{DeskFile}
use Rattle.desk_outside.specs.declared.folder.DeskFile.TheVariants.{Ledger, NextLedger, Outbox, NextOutbox}
use Rattle.desk_files.specs.Paths.{IsPathOfOne, IsOfItsOwn, file_name, path_in}

-- the file of a name, by its length, its first byte and the digit in it
abbrev named_by : (size first digit : ℕ) → DeskFile
named_by size first digit =
    if first == 108 then (if size == 6 then Ledger else NextLedger)
    else if size == 6 then Outbox (record { number = 0 })
    else if size == 8 then Outbox (record { number = digit - 49 })
    else if size == 11 then NextOutbox (record { number = 0 })
    else NextOutbox (record { number = digit - 49 })

abbrev named : List ℕ → DeskFile
named name = named_by (length name) (get_or name 0 0) (get_or name 7 0)

-- a fact of each place
each_place : (P : ℕ → Type 0) → P 0 → P 1 → P 2 → P 3 → P 4 → P 5 → P 6 → P 7 → (n : ℕ) → n < 8 → P n
each_place P a b c d e f g h zero fits = a
each_place P a b c d e f g h (suc zero) fits = b
each_place P a b c d e f g h (suc (suc zero)) fits = c
each_place P a b c d e f g h (suc (suc (suc zero))) fits = d
each_place P a b c d e f g h (suc (suc (suc (suc zero)))) fits = e
each_place P a b c d e f g h (suc (suc (suc (suc (suc zero))))) fits = f
each_place P a b c d e f g h (suc (suc (suc (suc (suc (suc zero)))))) fits = g
each_place P a b c d e f g h (suc (suc (suc (suc (suc (suc (suc zero))))))) fits = h
each_place P a b c d e f g h (suc (suc (suc (suc (suc (suc (suc (suc n)))))))) fits =
    absurd (omega (arith, fits))

abbrev IsNamed : DeskFile → Type 0
IsNamed file = named (file_name file) ≡ file

outbox_is_named : (n : ℕ) → n < 8 → IsNamed (Outbox (record { number = n }))
unfolding digits
outbox_is_named =
    each_place (λ n. IsNamed (Outbox (record { number = n }))) refl refl refl refl refl refl refl refl

next_outbox_is_named : (n : ℕ) → n < 8 → IsNamed (NextOutbox (record { number = n }))
unfolding digits
next_outbox_is_named =
    each_place (λ n. IsNamed (NextOutbox (record { number = n }))) refl refl refl refl refl refl refl refl

is_named : (file : DeskFile) → IsOfItsOwn file → IsNamed file
is_named Ledger own = refl
is_named NextLedger own = refl
is_named (Outbox slot) own = outbox_is_named slot.number own
is_named (NextOutbox slot) own = next_outbox_is_named slot.number own

pub one_path : (file : DeskFile) (folder path : List ℕ) → path ≡ path_in folder (file_name file)
    → IsPathOfOne file folder path
one_path file folder path is own other others same =
    let one_name = append_cancel_left (folder ++ codes "/") (file_name other) (file_name file) (same ∙ is) in
    sym (is_named other others) ∙ ap named one_name ∙ is_named file own
