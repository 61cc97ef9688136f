-- A desk that is opened.
use Rattle.std.proofs.Common.{◌≡◌, ℕ, suc, ◌≤◌, List, [], ◌∷◌, ◌++◌, Some, None, Result, Ok, Err, length, map, refl, sym, ◌∙◌, ap, subst, arith}
use Rattle.std.specs.Prelude.{slice_get}
use Rattle.node_journal.specs.Disk.{DiskSeen}
use Rattle.node_journal.specs.declared.fault.JournalFault.TheVariants.{Closed, NotEmpty, Full, Disk, Damaged}
use Rattle.kept_machine.specs.declared.fault.KeepFault.{KeepFault}
use Rattle.kept_machine.specs.declared.fault.KeepFault.TheVariants.{Journal, NoMemory, Foreign}
use Rattle.client_restart.specs.declared.opening.ClientOpening.{ClientOpening}
use Rattle.kept_machine.specs.Faults.{IsOfReopen, OnDamaged, OnForeign}
use Rattle.client_restart.specs.Kept.{HoldsNoNotes, IsDamagedBehindNotes, IsToldBy}
use Rattle.client_restart.specs.Steps.{CoreState}
use Rattle.desk_entries.specs.declared.entry.Entry.{Entry}
use Rattle.desk_entries.specs.declared.entry.Entry.TheVariants as entry
use Rattle.desk_entries.specs.Records.{AreEntries, IsEntry, IsNoEntry, entry_record}
use Rattle.desk_entries.proofs.EntryLaws.{one_list}
use Rattle.desk_texts.specs.Lines.{lines_in}
use Rattle.desk_texts.specs.Sheets.{sheet_of}
use Rattle.desk_texts.specs.Spelling.{IsFirstBadLine, SpellsSheet}
use Rattle.desk_texts.specs.declared.sheet.CardHead.{CardHead}
use Rattle.desk_texts.specs.declared.sheet.PairHead.{PairHead}
use Rattle.desk_texts.specs.declared.sheet.Head.TheVariants as head
use Rattle.desk_texts.specs.declared.sheet.Sheet.{Sheet}
use Rattle.desk_ledger.specs.declared.fault.OpenFault.{OpenFault}
use Rattle.desk_ledger.specs.declared.fault.OpenFault.TheVariants as open_fault
use Rattle.desk_ledger.specs.declared.pair.Pair.{Pair}
use Rattle.desk_ledger.specs.Ledgers.{IsDesk, IsOfPair, SaysPair}
use Rattle.desk_ledger.specs.Opening.{IsNoDesk, IsOfFirst, IsOfRemark, IsOfRemarks, IsOfReopening, IsOfText, LacksEntry, as_no_pair, first_text}

pub first_desk : (p : Pair) (text : List ℕ) (entries : List Entry) (remarks : List (List ℕ)) → SaysPair p text → length text ≤ 8212
    → entries ≡ entry.Pair text ∷ [] → remarks ≡ entry_record (entry.Pair text) ∷ [] → IsDesk p entries remarks
first_desk p text entries remarks says few is told =
    let whole : IsEntry (entry.Pair text) = record { formed = tt; few = omega (arith, few) } in
    subst (λ (l : List Entry). IsDesk p l remarks) (sym is) (record { are = (whole, tt); told = told; pair = says })

-- entries are told by what was kept of them
pub one_desk : (p : Pair) (entries others : List Entry) (core now : CoreState) → IsDesk p entries core.remarks → core ≡ now → AreEntries others
    → now.remarks ≡ map entry_record others → entries ≡ others
one_desk p entries others core now desk same are told =
    one_list entries others desk.are are (sym desk.told ∙ ap (λ (k : CoreState). k.remarks) same ∙ told)

-- ---- no desk

at_seam : (xs ys : List (List ℕ)) (w : List ℕ) → slice_get (xs ++ w ∷ ys) (length xs) ≡ Some w
at_seam [] ys w = refl
at_seam (x ∷ xs) ys w = at_seam xs ys w

same_length : (entries : List Entry) → length (map entry_record entries) ≡ length entries
same_length [] = refl
same_length (e ∷ entries) = ap (λ (n : ℕ). suc n) (same_length entries)

-- the remark behind those that are entries is none
pub no_entry : (all : List (List ℕ)) (entries : List Entry) (words : List ℕ) (rest : List (List ℕ)) (n : ℕ)
    → all ≡ map entry_record entries ++ words ∷ rest → n ≡ length entries → IsNoEntry words → LacksEntry n all
no_entry all entries words rest n split is none =
    let place : n ≡ length (map entry_record entries) = is ∙ sym (same_length entries) in
    (words, ap (λ (l : List (List ℕ)). slice_get l n) split ∙ ap (slice_get (map entry_record entries ++ words ∷ rest)) place ∙ at_seam (map entry_record entries) rest words, none)

pub of_remarks : (all : List (List ℕ)) (entries : List Entry) (words : List ℕ) (rest : List (List ℕ)) (n : ℕ) (f : OpenFault)
    → all ≡ map entry_record entries ++ words ∷ rest → n ≡ length entries → IsOfRemark n words f → IsOfRemarks all f
of_remarks all entries words rest n (open_fault.Keep fault) split is of = of
of_remarks all entries words rest n (open_fault.NoEntry k) split is of = no_entry all entries words rest k split (of.0 ∙ is) of.1
of_remarks all entries words rest n open_fault.NoPair split is of = absurd of
of_remarks all entries words rest n (open_fault.BadLine line) split is of = of
of_remarks all entries words rest n open_fault.NoPairFile split is of = of
of_remarks all entries words rest n open_fault.TooLong split is of = of

-- how texts are read as sheets, exactly
pub record IsReadExactly : Type 0 where
  pub only : (text : List ℕ) (sheet : Sheet) → SpellsSheet sheet text → sheet_of (lines_in text) ≡ Ok sheet
  pub only_bad : (text : List ℕ) (n : ℕ) → IsFirstBadLine n text → sheet_of (lines_in text) ≡ Err n

ok_not_err : {A B : Type 0} (r : Result A B) (a : A) (b : B) → r ≡ Ok a → r ≡ Err b → ⊥
ok_not_err r a b good bad = cc

same_ok : {A B : Type 0} (r : Result A B) (a b : A) → r ≡ Ok a → r ≡ Ok b → a ≡ b
same_ok r a b one two = cc

card_no_pair : (c : CardHead) (p : PairHead) → head.Card c ≡ head.Pair p → ⊥
card_no_pair c p same = cc

-- a text that isn't a pair file's
no_pair : IsReadExactly → (text : List ℕ) (rest : List Entry) (f : OpenFault) → IsOfText text f → IsOfFirst (entry.Pair text ∷ rest) (as_no_pair f)
no_pair exact text rest (open_fault.BadLine line) of = λ p says.
    ok_not_err (sheet_of (lines_in text)) says.sheet line (exact.only text says.sheet says.spells) (exact.only_bad text line of)
no_pair exact text rest open_fault.NoPairFile of = λ p says.
    let same = same_ok (sheet_of (lines_in text)) of.0 says.sheet (exact.only text of.0 of.2) (exact.only text says.sheet says.spells) in
    card_no_pair of.1 p.head (sym of.3 ∙ ap (λ (s : Sheet). s.head) same ∙ says.head)
no_pair exact text rest open_fault.TooLong of = λ p says. of
no_pair exact text rest (open_fault.Keep fault) of = of
no_pair exact text rest open_fault.NoPair of = λ p says. of
no_pair exact text rest (open_fault.NoEntry n) of = λ p says. of

pub no_first : IsReadExactly → (entries : List Entry) (text : List ℕ) (f : OpenFault) → first_text entries ≡ Some text → IsOfText text f
    → IsOfFirst entries (as_no_pair f)
no_first exact [] text f is of = absurd (cc is)
no_first exact (entry.Pair first ∷ rest) text f is of =
    let same : first ≡ text = cc is in
    no_pair exact first rest f (subst (λ (t : List ℕ). IsOfText t f) (sym same) of)
no_first exact (entry.Named n ∷ rest) text f is of = absurd (cc is)
no_first exact (entry.Registered b ∷ rest) text f is of = absurd (cc is)
no_first exact (entry.Refused d ∷ rest) text f is of = absurd (cc is)
no_first exact (entry.Read r ∷ rest) text f is of = absurd (cc is)
no_first exact (entry.Retiring name ∷ rest) text f is of = absurd (cc is)
no_first exact (entry.Shown count ∷ rest) text f is of = absurd (cc is)
no_first exact (entry.Written count ∷ rest) text f is of = absurd (cc is)
no_first exact (entry.Closed c ∷ rest) text f is of = absurd (cc is)

pub some_first : (p : Pair) (entries : List Entry) (text : List ℕ) → first_text entries ≡ Some text → SaysPair p text → IsOfPair p entries
some_first p [] text is says = absurd (cc is)
some_first p (entry.Pair first ∷ rest) text is says =
    let same : first ≡ text = cc is in
    subst (λ (t : List ℕ). SaysPair p t) (sym same) says
some_first p (entry.Named n ∷ rest) text is says = absurd (cc is)
some_first p (entry.Registered b ∷ rest) text is says = absurd (cc is)
some_first p (entry.Refused d ∷ rest) text is says = absurd (cc is)
some_first p (entry.Read r ∷ rest) text is says = absurd (cc is)
some_first p (entry.Retiring name ∷ rest) text is says = absurd (cc is)
some_first p (entry.Shown count ∷ rest) text is says = absurd (cc is)
some_first p (entry.Written count ∷ rest) text is says = absurd (cc is)
some_first p (entry.Closed c ∷ rest) text is says = absurd (cc is)

pub none_first : (p : Pair) (entries : List Entry) → first_text entries ≡ None → IsOfPair p entries → ⊥
none_first p [] is of = of
none_first p (entry.Pair first ∷ rest) is of = absurd (cc is)
none_first p (entry.Named n ∷ rest) is of = of
none_first p (entry.Registered b ∷ rest) is of = of
none_first p (entry.Refused d ∷ rest) is of = of
none_first p (entry.Read r ∷ rest) is of = of
none_first p (entry.Retiring name ∷ rest) is of = of
none_first p (entry.Shown count ∷ rest) is of = of
none_first p (entry.Written count ∷ rest) is of = of
none_first p (entry.Closed c ∷ rest) is of = of

-- entries that aren't of a pair are no desk's
pub no_desk : (entries : List Entry) (remarks : List (List ℕ)) (f : OpenFault) → AreEntries entries → remarks ≡ map entry_record entries
    → IsOfFirst entries f → IsOfRemarks remarks f
no_desk entries remarks (open_fault.Keep fault) are told of = of
no_desk entries remarks open_fault.NoPair are told of = λ p others desk.
    let same = one_list others entries desk.are are (sym desk.told ∙ told) in
    of p (subst (λ (l : List Entry). IsOfPair p l) same desk.pair)
no_desk entries remarks (open_fault.NoEntry n) are told of = absurd of
no_desk entries remarks (open_fault.BadLine line) are told of = of
no_desk entries remarks open_fault.NoPairFile are told of = of
no_desk entries remarks open_fault.TooLong are told of = of

-- what is wrong with a client's remarks is so of all notes that the disk may hold
pub of_disk : (limit : ℕ) (disk : DiskSeen) (opening : ClientOpening) (core : CoreState) (f : OpenFault) → IsToldBy disk.reads opening core
    → IsOfRemarks core.remarks f → IsOfReopening limit disk f
of_disk limit disk opening core (open_fault.Keep fault) told of =
    subst (λ (x : KeepFault). IsOfReopening limit disk (open_fault.Keep x)) (sym of) tt
of_disk limit disk opening core open_fault.NoPair told of = λ o notes c reads is all held.
    subst (λ (k : CoreState). IsNoDesk k.remarks) (told o notes c reads is all held).1 of
of_disk limit disk opening core (open_fault.NoEntry n) told of = λ o notes c reads is all held.
    subst (λ (k : CoreState). LacksEntry n k.remarks) (told o notes c reads is all held).1 of
of_disk limit disk opening core (open_fault.BadLine line) told of = of
of_disk limit disk opening core open_fault.NoPairFile told of = of
of_disk limit disk opening core open_fault.TooLong told of = of

-- a client that isn't opened again
pub of_client : (limit : ℕ) (disk : DiskSeen) (f : KeepFault) → IsOfReopen f → OnForeign f (λ n. HoldsNoNotes disk.reads)
    → OnDamaged f (λ n. (c : List ℕ) → disk.reads c → IsDamagedBehindNotes limit n c) → IsOfReopening limit disk (open_fault.Keep f)
of_client limit disk NoMemory of foreign damaged = tt
of_client limit disk (Foreign n) of foreign damaged = foreign
of_client limit disk (Journal (Damaged at)) of foreign damaged = damaged
of_client limit disk (Journal (Disk n)) of foreign damaged = tt
of_client limit disk (Journal Closed) of foreign damaged = of
of_client limit disk (Journal NotEmpty) of foreign damaged = of
of_client limit disk (Journal (Full end)) of foreign damaged = of
