-- The addresses of a game are read exactly where they are spelled, and named where they aren't.
use Rattle.std.proofs.Common.{◌≡◌, ◌≢◌, ℕ, suc, ◌+◌, ◌<◌, ◌≤◌, ◌⊎◌, inl, inr, nat_eq, Bool, true, false, cond, List, [], ◌∷◌, ◌++◌, length, AllPairs, Contains, Option, Some, None, Result, Ok, Err, arith, refl, sym, ◌∙◌, ap, subst, append-nil, append_assoc}
use Rattle.std.proofs.lemmas.Bool.{eqb-true, eqb-false, ne_eqb}
use Rattle.std.proofs.lemmas.List.{get_or_append_left, length_push, length-append, get_or_default}
use Rattle.std.proofs.lemmas.List.Quantifiers.{all_pairs_push}
use Rattle.std.proofs.Math.Seq.{get_or-append_seam}
use Rattle.express_texts.specs.Games.{address_behind, most_addresses}
use Rattle.express_texts.specs.GameLines.{found_or, addresses_on}
use Rattle.express_texts.specs.GameSpelling.{SpellsAddresses, IsBadAddress}
use Rattle.express_texts.proofs.GameLineLaws.{behind_found, behind_only, behind_none, behind_bad}

abbrev pub Distinct : List ℕ → Type 0
Distinct xs = AllPairs (λ p q. p ≢ q) xs

-- one more address that isn't among those before
distinct_push : (xs : List ℕ) (a : ℕ) → Distinct xs → (Contains xs a → ⊥) → Distinct (xs ++ a ∷ [])
distinct_push xs a apart new = all_pairs_push (λ p q. p ≢ q) xs a apart (λ k d h e. new (k, h, get_or_default xs k a d h ∙ e))

-- an address isn't among those before it
new_in : (xs : List ℕ) (a : ℕ) (more : List ℕ) → Distinct (xs ++ a ∷ more) → Contains xs a → ⊥
new_in xs a more apart h =
    let long : length (xs ++ a ∷ more) ≡ length xs + suc (length more) = length-append xs (a ∷ more) in
    apart h.0 (length xs) a h.1 (omega (arith, long)) (get_or_append_left xs (a ∷ more) a h.0 h.1 ∙ h.2 ∙ sym (get_or-append_seam xs a more a))

pushed : (xs : List ℕ) (a : ℕ) (more : List ℕ) → xs ++ a ∷ more ≡ (xs ++ a ∷ []) ++ more
pushed xs a more = sym (append_assoc xs (a ∷ []) more)

-- ---- what is read

pub record ReadOn (before : List ℕ) (lines : List (List ℕ)) (all : List ℕ) : Type 0 where
  pub more : List ℕ
  pub is : all ≡ before ++ more
  pub spelled : SpellsAddresses more lines
  pub some : 1 ≤ length all
  pub few : length all ≤ most_addresses
  pub distinct : Distinct all

pub on_found : (before : List ℕ) (lines : List (List ℕ)) (all : List ℕ) → Distinct before → length before ≤ most_addresses → addresses_on before lines ≡ Ok all → ReadOn before lines all
unfolding addresses_on
on_found before [] all apart few h = at_test (nat_eq (length before) 0) refl h
  where
    at_test : (t : Bool) → nat_eq (length before) 0 ≡ t → cond {A = Result (List ℕ) ℕ} t (Err 6) (Ok before) ≡ Ok all → ReadOn before [] all
    at_test true e k = cc
    at_test false e k =
        let is : before ≡ all = cc in
        let none = eqb-false (length before) 0 e in
        subst (λ (xs : List ℕ). ReadOn before [] xs) is (record { more = []; is = sym (append-nil before); spelled = tt; some = omega (arith, none); few = few; distinct = apart })
on_found before (line ∷ lines) all apart few h =
    at_read (address_behind before line) refl (λ a other short k. on_found (before ++ a ∷ []) lines all other short k) h
  where
    at_read : (r : Option ℕ) → address_behind before line ≡ r
        → ((a : ℕ) → Distinct (before ++ a ∷ []) → length (before ++ a ∷ []) ≤ most_addresses → addresses_on (before ++ a ∷ []) lines ≡ Ok all → ReadOn (before ++ a ∷ []) lines all)
        → found_or (length before + 6) r (λ a. addresses_on (before ++ a ∷ []) lines) ≡ Ok all → ReadOn before (line ∷ lines) all
    at_read None e others k = cc
    at_read (Some a) e others k =
        let b = behind_found before line a e in
        let long : length (before ++ a ∷ []) ≡ length before + 1 = length_push before a in
        let r = others a (distinct_push before a apart b.new) (omega (arith, long, b.room)) k in
        record {
          more = a ∷ r.more;
          is = r.is ∙ sym (pushed before a r.more);
          spelled = (b.spelled, r.spelled);
          some = r.some;
          few = r.few;
          distinct = r.distinct;
        }

pub on_only : (before more : List ℕ) (lines : List (List ℕ)) → SpellsAddresses more lines → Distinct (before ++ more) → 1 ≤ length (before ++ more) → length (before ++ more) ≤ most_addresses
    → addresses_on before lines ≡ Ok (before ++ more)
unfolding addresses_on
on_only before [] [] spelled apart some few =
    let long : length (before ++ []) ≡ length before = ap length (append-nil before) in
    let other : nat_eq (length before) 0 ≡ false = ne_eqb (length before) 0 (λ e. omega (arith, e, long, some)) in
    rw other (ap Ok (sym (append-nil before)))
on_only before [] (line ∷ lines) spelled apart some few = absurd spelled
on_only before (a ∷ more) [] spelled apart some few = absurd spelled
on_only before (a ∷ more) (line ∷ lines) spelled apart some few =
    let long : length (before ++ a ∷ more) ≡ length before + suc (length more) = length-append before (a ∷ more) in
    let read = behind_only before line a (record { room = omega (arith, long, few); spelled = spelled.0; new = new_in before a more apart }) in
    let is = pushed before a more in
    let further = on_only (before ++ a ∷ []) more lines spelled.1 (subst (λ (xs : List ℕ). Distinct xs) is apart) (subst (λ (xs : List ℕ). 1 ≤ length xs) is some) (subst (λ (xs : List ℕ). length xs ≤ most_addresses) is few) in
    rw read (further ∙ ap Ok (sym is))

-- ---- what is named

-- the first bad line behind addresses that were read
pub record BadOn (before : List ℕ) (n : ℕ) (lines : List (List ℕ)) : Type 0 where
  pub good : List (List ℕ)
  pub more : List ℕ
  pub spelled : SpellsAddresses more good
  pub few : length (before ++ more) ≤ most_addresses
  pub distinct : Distinct (before ++ more)
  pub stop : ((lines ≡ good) × (before ++ more ≡ []))
      ⊎ ((line : List ℕ) × (behind : List (List ℕ)) × (lines ≡ good ++ line ∷ behind) × IsBadAddress (before ++ more) line)
  pub place : n ≡ length (before ++ more) + 6

none_from : (xs : List ℕ) → length xs ≡ 0 → xs ≡ []
none_from [] h = refl
none_from (x ∷ xs) h = absurd (omega (arith, h))

pub on_bad : (before : List ℕ) (lines : List (List ℕ)) (n : ℕ) → Distinct before → length before ≤ most_addresses → addresses_on before lines ≡ Err n → BadOn before n lines
unfolding addresses_on
on_bad before [] n apart few h = at_test (nat_eq (length before) 0) refl h
  where
    at_test : (t : Bool) → nat_eq (length before) 0 ≡ t → cond {A = Result (List ℕ) ℕ} t (Err 6) (Ok before) ≡ Err n → BadOn before n []
    at_test true e k =
        let none : before ≡ [] = none_from before (eqb-true (length before) 0 e) in
        let is : n ≡ 6 = cc in
        let same : before ++ [] ≡ before = append-nil before in
        record {
          good = [];
          more = [];
          spelled = tt;
          few = subst (λ (xs : List ℕ). length xs ≤ most_addresses) (sym same) few;
          distinct = subst (λ (xs : List ℕ). Distinct xs) (sym same) apart;
          stop = inl (refl, same ∙ none);
          place = is ∙ ap (λ xs. length xs + 6) (sym (same ∙ none));
        }
    at_test false e k = cc
on_bad before (line ∷ lines) n apart few h =
    at_read (address_behind before line) refl (λ a other short k. on_bad (before ++ a ∷ []) lines n other short k) h
  where
    one_more : (a : ℕ) (r : BadOn (before ++ a ∷ []) n lines) → ((lines ≡ r.good) × ((before ++ a ∷ []) ++ r.more ≡ []))
        ⊎ ((line' : List ℕ) × (behind : List (List ℕ)) × (lines ≡ r.good ++ line' ∷ behind) × IsBadAddress ((before ++ a ∷ []) ++ r.more) line')
        → ((line ∷ lines ≡ line ∷ r.good) × (before ++ a ∷ r.more ≡ []))
        ⊎ ((line' : List ℕ) × (behind : List (List ℕ)) × (line ∷ lines ≡ (line ∷ r.good) ++ line' ∷ behind) × IsBadAddress (before ++ a ∷ r.more) line')
    one_more a r (inl s) = inl (ap (λ ls. line ∷ ls) s.0, pushed before a r.more ∙ s.1)
    one_more a r (inr (line', behind, split, bad)) =
        inr (line', behind, ap (λ ls. line ∷ ls) split, subst (λ (xs : List ℕ). IsBadAddress xs line') (sym (pushed before a r.more)) bad)

    at_read : (r : Option ℕ) → address_behind before line ≡ r
        → ((a : ℕ) → Distinct (before ++ a ∷ []) → length (before ++ a ∷ []) ≤ most_addresses → addresses_on (before ++ a ∷ []) lines ≡ Err n → BadOn (before ++ a ∷ []) n lines)
        → found_or (length before + 6) r (λ a. addresses_on (before ++ a ∷ []) lines) ≡ Err n → BadOn before n (line ∷ lines)
    at_read None e others k =
        let is : n ≡ length before + 6 = cc in
        let same : before ++ [] ≡ before = append-nil before in
        record {
          good = [];
          more = [];
          spelled = tt;
          few = subst (λ (xs : List ℕ). length xs ≤ most_addresses) (sym same) few;
          distinct = subst (λ (xs : List ℕ). Distinct xs) (sym same) apart;
          stop = inr (line, lines, refl, subst (λ (xs : List ℕ). IsBadAddress xs line) (sym same) (behind_none before line few e));
          place = is ∙ ap (λ xs. length xs + 6) (sym same);
        }
    at_read (Some a) e others k =
        let b = behind_found before line a e in
        let long : length (before ++ a ∷ []) ≡ length before + 1 = length_push before a in
        let r = others a (distinct_push before a apart b.new) (omega (arith, long, b.room)) k in
        let is = sym (pushed before a r.more) in
        record {
          good = line ∷ r.good;
          more = a ∷ r.more;
          spelled = (b.spelled, r.spelled);
          few = subst (λ (xs : List ℕ). length xs ≤ most_addresses) is r.few;
          distinct = subst (λ (xs : List ℕ). Distinct xs) is r.distinct;
          stop = one_more a r r.stop;
          place = r.place ∙ ap (λ xs. length xs + 6) is;
        }

pub on_bad_only : (before more : List ℕ) (good lines : List (List ℕ)) → SpellsAddresses more good → Distinct (before ++ more) → length (before ++ more) ≤ most_addresses
    → ((lines ≡ good) × (before ++ more ≡ [])) ⊎ ((line : List ℕ) × (behind : List (List ℕ)) × (lines ≡ good ++ line ∷ behind) × IsBadAddress (before ++ more) line)
    → addresses_on before lines ≡ Err (length (before ++ more) + 6)
unfolding addresses_on
on_bad_only before [] [] lines spelled apart few (inl s) =
    let none : before ≡ [] = sym (append-nil before) ∙ s.1 in
    rw (s.0, none) refl
on_bad_only before [] [] lines spelled apart few (inr (line, behind, split, bad)) =
    let same : before ++ [] ≡ before = append-nil before in
    let unread = behind_bad before line (subst (λ (xs : List ℕ). IsBadAddress xs line) same bad) in
    rw (split, unread) (ap (λ xs. Err (length xs + 6)) (sym same))
on_bad_only before [] (first ∷ good) lines spelled apart few stop = absurd spelled
on_bad_only before (a ∷ more) [] lines spelled apart few stop = absurd spelled
on_bad_only before (a ∷ more) (first ∷ good) lines spelled apart few stop =
    at_stop (λ rest stop.
    on_bad_only (before ++ a ∷ []) more good rest spelled.1 (subst (λ (xs : List ℕ). Distinct xs) is apart) (subst (λ (xs : List ℕ). length xs ≤ most_addresses) is few) stop
    ∙ ap (λ xs. Err (length xs + 6)) (sym is)) stop
  where
    is : before ++ a ∷ more ≡ (before ++ a ∷ []) ++ more
    is = pushed before a more

    long : length (before ++ a ∷ more) ≡ length before + suc (length more)
    long = length-append before (a ∷ more)

    read : address_behind before first ≡ Some a
    read = behind_only before first a (record { room = omega (arith, long, few); spelled = spelled.0; new = new_in before a more apart })

    at_stop : ((rest : List (List ℕ)) → ((rest ≡ good) × ((before ++ a ∷ []) ++ more ≡ [])) ⊎ ((line : List ℕ) × (behind : List (List ℕ)) × (rest ≡ good ++ line ∷ behind) × IsBadAddress ((before ++ a ∷ []) ++ more) line)
        → addresses_on (before ++ a ∷ []) rest ≡ Err (length (before ++ a ∷ more) + 6))
        → ((lines ≡ first ∷ good) × (before ++ a ∷ more ≡ [])) ⊎ ((line : List ℕ) × (behind : List (List ℕ)) × (lines ≡ (first ∷ good) ++ line ∷ behind) × IsBadAddress (before ++ a ∷ more) line)
        → addresses_on before lines ≡ Err (length (before ++ a ∷ more) + 6)
    at_stop further (inl s) = absurd (omega (arith, ap length s.1, long))
    at_stop further (inr (line, behind, split, bad)) =
        rw (split, read) (further (good ++ line ∷ behind) (inr (line, behind, refl, subst (λ (xs : List ℕ). IsBadAddress xs line) is bad)))

-- ---- the reading loop

-- one turn of it
pub on_next : (before after : List ℕ) (line : List ℕ) (rest lines : List (List ℕ)) (a : ℕ) (all : Result (List ℕ) ℕ) → after ≡ before ++ a ∷ [] → lines ≡ line ∷ rest → address_behind before line ≡ Some a
    → addresses_on before lines ≡ all → addresses_on after rest ≡ all
unfolding addresses_on
on_next before after line rest lines a all is split read so_far =
    let next : addresses_on before (line ∷ rest) ≡ addresses_on (before ++ a ∷ []) rest = rw read refl in
    ap (λ xs. addresses_on xs rest) is ∙ sym next ∙ ap (addresses_on before) (sym split) ∙ so_far

pub on_none : (before line : List ℕ) (rest lines : List (List ℕ)) (all : Result (List ℕ) ℕ) → lines ≡ line ∷ rest → address_behind before line ≡ None → addresses_on before lines ≡ all → all ≡ Err (length before + 6)
unfolding addresses_on
on_none before line rest lines all split unread so_far =
    let bad : addresses_on before (line ∷ rest) ≡ Err (length before + 6) = rw unread refl in
    sym so_far ∙ ap (addresses_on before) split ∙ bad

pub on_end : (before : List ℕ) (lines : List (List ℕ)) (all : Result (List ℕ) ℕ) → lines ≡ [] → 0 < length before → addresses_on before lines ≡ all → all ≡ Ok before
unfolding addresses_on
on_end before lines all none some so_far =
    let other : nat_eq (length before) 0 ≡ false = ne_eqb (length before) 0 (λ e. omega (arith, e, some)) in
    let read : addresses_on before [] ≡ Ok before = rw other refl in
    sym so_far ∙ ap (addresses_on before) none ∙ read

pub on_nothing : (before : List ℕ) (lines : List (List ℕ)) (all : Result (List ℕ) ℕ) → lines ≡ [] → length before ≡ 0 → addresses_on before lines ≡ all → all ≡ Err 6
unfolding addresses_on
on_nothing before lines all none empty so_far =
    let read : addresses_on before [] ≡ Err 6 = rw empty refl in
    sym so_far ∙ ap (addresses_on before) none ∙ read
