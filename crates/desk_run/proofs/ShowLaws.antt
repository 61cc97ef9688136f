-- Letters, printed one behind another.
use Rattle.std.proofs.Common.{◌≡◌, ◌∙◌, ◌⊎◌, inl, inr, ℕ, Bool, true, false, ◌||◌, List, [], ◌∷◌, ◌++◌, Option, Result, Ok, Err, append_assoc, ap, refl, sym, subst, map, drop, take, min, length, get_or, arith, ◌-◌, ◌≤◌, ◌<◌}
use Rattle.std.proofs.lemmas.List.{append-nil, length-drop, drop-map, drop_min, length-map, take_all}
use Rattle.std.specs.Prelude.{OnOk}
use Rattle.std.specs.List.{list_any}
use Rattle.express_words.specs.Streams.{Took}
use Rattle.desk_entries.specs.declared.entry.Entry.{Entry}
use Rattle.desk_entries.specs.declared.entry.Entry.TheVariants as entry
use Rattle.desk_entries.specs.declared.entry.Held.{Held}
use Rattle.desk_entries.specs.declared.entry.Held.TheVariants as held
use Rattle.desk_entries.specs.declared.entry.Reading.{Reading}
use Rattle.desk_entries.specs.Desks.{name_of}
use Rattle.desk_entries.specs.Letters.{letters_of, shown_of, written_of}
use Rattle.desk_ledger.specs.Ledgers.{EntriesOnly, LedgerState}
use Rattle.desk_run.specs.Changes.{NotesShown}
use Rattle.desk_run.specs.Printing.{Prints, TellsMet, met_line}
use Rattle.desk_run.specs.Shown.{Each, Shows, ShowsReading, none, then, holds_met, is_met, new_letters}
use Rattle.desk_run.specs.Told.{TellsFile, TellsReading, unwritten_letters}
use Rattle.desk_run.proofs.PrintLaws.{took_nothing, took_both, tells_before, tells_behind, tells_line}

-- of all these the rest is to be told yet
pub record ShownSo (One : Reading → List ℕ → Type 0) (all rest : List Reading) (old new : Option (List ℕ)) : Type 0 where
  pub front : List ℕ
  pub took : Took old new front
  pub goes_on : (more : List ℕ) → Each One rest more → Each One all (front ++ more)

pub shown_none : (One : Reading → List ℕ → Type 0) (all : List Reading) (old : Option (List ℕ)) → ShownSo One all all old old
shown_none One all old = record { front = []; took = took_nothing old; goes_on = λ more each. each }

pub shown_more : (One : Reading → List ℕ → Type 0) (all rest : List Reading) (r : Reading) (old mid new : Option (List ℕ))
    → ShownSo One all (r ∷ rest) old mid → Prints (One r) mid new → ShownSo One all rest old new
shown_more One all rest r old mid new s p = record {
  front = s.front ++ p.0;
  took = took_both old mid new s.front p.0 s.took p.2;
  goes_on = λ more each. subst (λ (t : List ℕ). Each One all t) (sym (append_assoc s.front p.0 more))
      (s.goes_on (p.0 ++ more) (then r rest p.0 more p.1 each));
}

pub shown_all : (One : Reading → List ℕ → Type 0) (all : List Reading) (old new : Option (List ℕ)) → ShownSo One all [] old new
    → Prints (Each One all) old new
shown_all One all old new s =
    (s.front ++ [], s.goes_on [] none, subst (λ (t : List ℕ). Took old new t) (sym (append-nil s.front)) s.took)

-- ---- letters that met

either : (a b : Bool) → (a || b) ≡ true → (a ≡ true) ⊎ (b ≡ true)
either true b so = inl refl
either false b so = inr so

pub or_more : (whole met here rest : Bool) → whole ≡ (met || (here || rest)) → whole ≡ ((met || here) || rest)
or_more whole true here rest is = is
or_more whole false here rest is = is

abbrev pub TellsItsMet : (Reading → List ℕ → Type 0) → Type 0
TellsItsMet One = (r : Reading) (text : List ℕ) → One r text → is_met r ≡ true → TellsMet text

shows_met : (name : List ℕ) (h : Held) (one : List ℕ) → Shows name h one → holds_met h ≡ true → TellsMet one
shows_met name held.Nothing one shows met = cc
shows_met name held.Met one shows met = subst (λ (t : List ℕ). TellsMet t) (sym shows) (tells_line name _)
shows_met name (held.Letter id text) one shows met = cc

pub reading_met : (entries : List Entry) → TellsItsMet (ShowsReading entries)
reading_met entries r text shows met = shows_met (name_of entries r.registered) r.held text shows met

only_line : (name : List ℕ) → TellsMet (met_line name)
only_line name = record { name = name; before = []; behind = []; is = sym (append-nil (met_line name)) }

writes_met : (folder : List ℕ) (tag : ℕ) (name : List ℕ) (serial : ℕ) (h : Held) (one : List ℕ)
    → TellsFile folder tag name serial h one → holds_met h ≡ true → TellsMet one
writes_met folder tag name serial held.Nothing one tells met = cc
writes_met folder tag name serial held.Met one tells met = subst (λ (t : List ℕ). TellsMet t) (sym tells) (only_line name)
writes_met folder tag name serial (held.Letter id text) one tells met = cc

pub file_met : (folder : List ℕ) (tag : ℕ) (entries : List Entry) → TellsItsMet (TellsReading folder tag entries)
file_met folder tag entries r text tells met =
    writes_met folder tag (name_of entries r.registered) r.serial r.held text tells met

pub each_tells : (One : Reading → List ℕ → Type 0) → TellsItsMet One → (rs : List Reading) (text : List ℕ) → Each One rs text
    → list_any is_met rs ≡ true → TellsMet text
each_tells One its [] text none met = cc
each_tells One its (r ∷ rs) text (then _ _ one more here behind) met =
    elim (either (is_met r) (list_any is_met rs) met) [
      | inl now ↦ tells_before one more (its r one here now)
      | inr later ↦ tells_behind one more (each_tells One its rs more behind later)
    ]

pub shown_tell : (One : Reading → List ℕ → Type 0) → TellsItsMet One → (rs : List Reading) (old new : Option (List ℕ)) (met : Bool)
    → Prints (Each One rs) old new → met ≡ list_any is_met rs → met ≡ true → Prints TellsMet old new
shown_tell One its rs old new met p is so = (p.0, each_tells One its rs p.0 p.1 (sym is ∙ so), p.2)

-- ---- those that are new

pub later_of : {A : Type 0} (f : A → Reading) (xs : List A) (entries : List Entry) (n told : ℕ) → map f xs ≡ letters_of entries
    → n ≡ min told (length xs) → map f (drop n xs) ≡ drop told (letters_of entries)
later_of f xs entries n told are is =
    sym (drop-map f n xs) ∙ ap (λ (l : List Reading). drop n l) are
    ∙ ap (λ (k : ℕ). drop k (letters_of entries)) (is ∙ ap (λ (k : ℕ). min told k) (sym (length-map xs f) ∙ ap length are))
    ∙ drop_min told (letters_of entries)

-- where some weren't shown they are noted now
pub notes_more : {T E D : Type 0} (r : Result T E) (old new : LedgerState D) (count : ℕ) → count ≡ length (letters_of old.entries)
    → OnOk r (shown_of new.entries ≡ count) → OnOk r (new.entries ≡ old.entries ++ entry.Shown count ∷ [])
    → EntriesOnly old new → OnOk r (NotesShown old new)
notes_more (Err e) old new count is shown added only = tt
notes_more (Ok x) old new count is shown added only = record {
  shown = omega (arith, is, shown);
  noted = inr (added ∙ ap (λ (n : ℕ). old.entries ++ entry.Shown n ∷ []) is);
  only = only;
}

-- where all were nothing is noted
pub notes_none : {D : Type 0} (l : LedgerState D) → length (letters_of l.entries) ≤ shown_of l.entries → NotesShown l l
notes_none l few = record {
  shown = few;
  noted = inl refl;
  only = record { pair = refl; opening = refl; boxes = refl; client = refl; untold = refl };
}

no_length : (xs : List Reading) → length xs ≡ 0 → xs ≡ []
no_length [] is = refl
no_length (x ∷ xs) is = absurd (omega (arith, is))

drop_all : (xs : List Reading) (n : ℕ) → length xs ≤ n → drop n xs ≡ []
drop_all xs n few = no_length (drop n xs) (omega (arith, length-drop n xs, few))

pub none_new : (entries : List Entry) → length (letters_of entries) ≤ shown_of entries → new_letters entries ≡ []
none_new entries few = drop_all (letters_of entries) (shown_of entries) few

pub some_new : (entries : List Entry) → shown_of entries < length (letters_of entries) → new_letters entries ≡ [] → ⊥
some_new entries more gone =
    let count : length (drop (shown_of entries) (letters_of entries)) ≡ 0 = ap length gone in
    omega (arith, length-drop (shown_of entries) (letters_of entries), more, count)

pub none_unwritten : (entries : List Entry) → length (letters_of entries) ≤ written_of entries → unwritten_letters entries ≡ []
none_unwritten entries few = drop_all (letters_of entries) (written_of entries) few

pub some_unwritten : (entries : List Entry) → written_of entries < length (letters_of entries) → unwritten_letters entries ≡ [] → ⊥
some_unwritten entries more gone =
    let count : length (drop (written_of entries) (letters_of entries)) ≡ 0 = ap length gone in
    omega (arith, length-drop (written_of entries) (letters_of entries), more, count)

-- ---- a loop over a slice, whose rest goes down

abbrev pub behind : {A : Type 0} → ℕ → List A → List A
behind m rest = take (m - 1) (drop 1 rest)

pub split_rest : {A : Type 0} (rest : List A) (r : A) (m : ℕ) → m ≡ length rest → 1 ≤ m → r ≡ get_or rest 0 r
    → rest ≡ r ∷ behind m rest
split_rest [] r m is some at = absurd (omega (arith, is, some))
split_rest (x ∷ xs) r m is some at =
    let short : length xs ≤ m - 1 = omega (arith, is) in
    ap (λ y. y ∷ xs) (sym at) ∙ ap (λ (l : List _). r ∷ l) (sym (take_all (m - 1) xs short))

pub step_met : {A : Type 0} (f : A → Reading) (whole : Bool) (rest : List A) (r : A) (m : ℕ) (met here next : Bool)
    → m ≡ length rest → 1 ≤ m → r ≡ get_or rest 0 r → whole ≡ (met || list_any is_met (map f rest))
    → here ≡ is_met (f r) → next ≡ (met || here) → whole ≡ (next || list_any is_met (map f (behind m rest)))
step_met {A} f whole rest r m met here next is some at so here_is next_is =
    let parts = split_rest rest r m is some at in
    let more = list_any is_met (map f (behind m rest)) in
    let one : whole ≡ (met || (is_met (f r) || more)) =
    subst (λ (l : List A). whole ≡ (met || list_any is_met (map f l))) parts so in
    let two = or_more whole met (is_met (f r)) more one in
    subst (λ (b : Bool). whole ≡ (b || more)) (sym (next_is ∙ ap (λ (b : Bool). met || b) here_is)) two

pub step_shown : {A : Type 0} (f : A → Reading) (One : Reading → List ℕ → Type 0) (all : List Reading) (rest : List A) (r : A) (m : ℕ)
    (old mid new : Option (List ℕ)) → m ≡ length rest → 1 ≤ m → r ≡ get_or rest 0 r
    → ShownSo One all (map f rest) old mid → Prints (One (f r)) mid new
    → ShownSo One all (map f (behind m rest)) old new
step_shown {A} f One all rest r m old mid new is some at s p =
    let parts = split_rest rest r m is some at in
    shown_more One all (map f (behind m rest)) (f r) old mid new
    (subst (λ (l : List A). ShownSo One all (map f l) old mid) parts s) p

pub end_shown : {A : Type 0} (f : A → Reading) (One : Reading → List ℕ → Type 0) (all : List Reading) (rest : List A)
    (old new : Option (List ℕ)) → length rest < 1 → ShownSo One all (map f rest) old new
    → Prints (Each One all) old new
end_shown f One all [] old new none_left s = shown_all One all old new s
end_shown f One all (x ∷ xs) old new none_left s = absurd (omega (arith, none_left))

or_false : (met : Bool) → (met || false) ≡ met
or_false true = refl
or_false false = refl

pub end_met : {A : Type 0} (f : A → Reading) (whole : Bool) (rest : List A) (met : Bool) → length rest < 1
    → whole ≡ (met || list_any is_met (map f rest)) → met ≡ whole
end_met f whole [] met none_left so = sym (so ∙ or_false met)
end_met f whole (x ∷ xs) met none_left so = absurd (omega (arith, none_left))

pub later_range : {A : Type 0} (f : A → Reading) (d items : List A) (entries : List Entry) (n told shown count : ℕ) → d ≡ items
    → map f items ≡ letters_of entries → n ≡ min shown count → shown ≡ told → count ≡ length items
    → map f (take (length d - n) (drop n d)) ≡ drop told (letters_of entries)
later_range f d items entries n told shown count same are is shown_is count_is =
    let few : length (drop n d) ≤ length d - n = omega (arith, length-drop n d) in
    let counted : n ≡ min told (length d) =
    is ∙ ap (λ (s : ℕ). min s count) shown_is ∙ ap (λ (k : ℕ). min told k) (count_is ∙ ap length (sym same)) in
    ap (map f) (take_all (length d - n) (drop n d) few) ∙ later_of f d entries n told (ap (map f) same ∙ are) counted
