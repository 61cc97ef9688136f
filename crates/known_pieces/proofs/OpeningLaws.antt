-- What is told once a reading is opened.
use Rattle.std.proofs.Common.{◌≡◌, ◌≢◌, ◌<◌, ◌≤◌, ◌+◌, ◌-◌, ◌⊎◌, inl, inr, ℕ, zero, suc, List, [], ◌∷◌, ◌++◌}
use Rattle.std.proofs.Common.{Bool, true, false, cond, length, get_or, take, drop, replicate, refl, sym}
use Rattle.std.proofs.Common.{ap, ◌∙◌, subst, arith, length-append}
use Rattle.std.specs.List.{All, AllPairs, Contains, filter}
use Rattle.std.proofs.lemmas.Bool.{cases_lt, cases_eq}
use Rattle.std.proofs.lemmas.List.{get_or_default, length-replicate, take-append-le, get_or_append_left}
use Rattle.std.proofs.lemmas.List.{get_or_push, take_all}
use Rattle.std.proofs.lemmas.List.Quantifiers.{all_pairs_push}
use Rattle.std.proofs.lemmas.List.Elements.{All-contains, All-weaker, All-cons, All-push}
use Rattle.std.proofs.lemmas.List.Elements.{Contains-append_left, Contains-push, Contains-push_cases}
use Rattle.express_words.specs.Bytes.{xor_bytes}
use Rattle.express_words.proofs.Bytes.{xor_bytes_self}
use Rattle.subset_search.specs.Subsets.{added, IsSubset, HasNone}
use Rattle.subset_search.proofs.SumLaws.{added-xor, xor_back, AreWide, length-added}
use Rattle.known_pieces.specs.Known.{Reading, IsPiece, Names, IsOpened, AreKnown, most_tried}
use Rattle.known_pieces.specs.Telling.{KnownPiece, Told, Accounts, IsOpen, IsEmpty, IsSumOf, IsSeen, bytes_of}
use Rattle.known_pieces.specs.Telling.{is_awaited, awaited_at, tried_at}
use Rattle.known_pieces.specs.Opening.{IsFound, IsMarked, AreMarked, IsNew, Opens}
use Rattle.known_pieces.proofs.ListLaws.{without, added-without, All-without, pairs_without, pairs_cons}
use Rattle.known_pieces.proofs.ListLaws.{Contains-map, Contains-from_map}

-- ---- lists

not_in_nil : {A : Type 0} (x : A) → Contains [] x → ⊥
not_in_nil x (k, lt, is) = omega arith

Contains-later : {A : Type 0} (y x : A) (xs : List A) → Contains xs x → Contains (y ∷ xs) x
Contains-later y x xs (k, lt, is) = (suc k, omega arith, is)

Contains-drop : {A : Type 0} (n : ℕ) (xs : List A) (x : A) → Contains (drop n xs) x → Contains xs x
Contains-drop zero [] x there = there
Contains-drop zero (y ∷ xs) x there = there
Contains-drop (suc n) [] x there = there
Contains-drop (suc n) (y ∷ xs) x there = Contains-later y x xs (Contains-drop n xs x there)

filter_later : {A : Type 0} (test : A → Bool) (y x : A) (xs : List A) → Contains xs x × (test x ≡ true)
    → Contains (y ∷ xs) x × (test x ≡ true)
filter_later test y x xs (there, passes) = (Contains-later y x xs there, passes)

filter_step : {A : Type 0} (test : A → Bool) (y x : A) (xs : List A) (b : Bool) → test y ≡ b →
    (Contains (filter test xs) x → Contains xs x × (test x ≡ true)) →
    Contains (cond b (y ∷ filter test xs) (filter test xs)) x → Contains (y ∷ xs) x × (test x ≡ true)
filter_step test y x xs true is rest (zero, lt, at) = ((0, omega arith, at), sym (ap test at) ∙ is)
filter_step test y x xs true is rest (suc k, lt, at) = filter_later test y x xs
    (rest (k, omega arith, at))
filter_step test y x xs false is rest there = filter_later test y x xs (rest there)

pub Contains-from_filter : {A : Type 0} (test : A → Bool) (xs : List A) (x : A) → Contains (filter test xs) x
    → Contains xs x × (test x ≡ true)
Contains-from_filter test [] x (k, lt, is) = absurd (omega arith)
Contains-from_filter test (y ∷ xs) x there =
    filter_step test y x xs (test y) refl (λ inside. Contains-from_filter test xs x inside) there

same_bytes : (xs ys : List ℕ) → (xs ≡ ys) ⊎ (xs ≢ ys)
same_bytes [] [] = inl refl
same_bytes [] (y ∷ ys) = inr (λ is. cc)
same_bytes (x ∷ xs) [] = inr (λ is. cc)
same_bytes (x ∷ xs) (y ∷ ys) = elim (cases_eq x y) [
  | inl heads ↦ elim (same_bytes xs ys) [
    | inl tails ↦ inl (cc)
    | inr differ ↦ inr (λ is. differ cc)
  ]
  | inr differ ↦ inr (λ is. differ cc)
]

pub is_among : (xs : List (List ℕ)) (x : List ℕ) → Contains xs x ⊎ (Contains xs x → ⊥)
is_among [] x = inr (not_in_nil x)
is_among (y ∷ xs) x = elim (same_bytes y x) [
  | inl is ↦ inl (0, omega arith, is)
  | inr differ ↦ elim (is_among xs x) [
    | inl there ↦ inl (suc there.0, let lt = there.1 in omega arith, there.2)
    | inr none ↦ inr (nowhere differ none)
  ]
]
  where
    nowhere : y ≢ x → (Contains xs x → ⊥) → Contains (y ∷ xs) x → ⊥
    nowhere differ none (zero, lt, is) = differ is
    nowhere differ none (suc k, lt, is) = none (k, omega arith, is)

-- ---- nothing opens a reading where no subset is found

abbrev zeros_of : ℕ → List ℕ
zeros_of n = replicate n 0

empty_by : (n : ℕ) (t : List ℕ) → t ≡ zeros_of n → IsEmpty t
empty_by n t zeros = zeros ∙ ap zeros_of (sym (ap (λ (u : List ℕ). length u) zeros ∙ length-replicate n 0))

module _ (w : ℕ) (bytes : List ℕ) (tried : List (List ℕ)) (long : length bytes ≡ w)
    (wide : AreWide w tried) where
  subset_wide : (part : List (List ℕ)) → IsSubset part tried → AreWide w part
  subset_wide part sub =
      All-weaker (Contains tried) (λ box. length box ≡ w)
      (λ x there. All-contains (λ box. length box ≡ w) tried x wide there) part sub.within

  -- a piece among those that are tried is no news: with it or without it nothing is left
  no_news : HasNone (IsFound tried) bytes tried → (part : List (List ℕ)) → IsSubset part tried
      → Contains tried (added bytes part) → ⊥
  no_news none part sub inside =
      let q : List ℕ = added bytes part in
      elim (is_among part q) [
        | inl there ↦
            let i : ℕ = there.0 in
            let lt : i < length part = there.1 in
            let read : get_or part i [] ≡ q = get_or_default part i [] q lt ∙ there.2 in
            let rest : List (List ℕ) = without part i in
            let smaller : IsSubset rest tried =
            record {
              within = All-without (Contains tried) part i sub.within;
              once = pairs_without part i
                  sub.once;
            } in
            let whole : q ≡ xor_bytes (added bytes rest) q =
            added-without bytes part i lt ∙ ap (xor_bytes (added bytes rest)) read in
            let size : length (added bytes rest) ≡ w =
            length-added w bytes rest long (subset_wide rest smaller) in
            let qsize : length q ≡ w = length-added w bytes part long (subset_wide part sub) in
            let back : added bytes rest ≡ xor_bytes q q =
            sym (xor_back w (added bytes rest) q size qsize) ∙ ap (λ t. xor_bytes t q) (sym whole) in
            none rest smaller (inl (empty_by (length q) (added bytes rest) (back ∙ xor_bytes_self q)))
        | inr apart ↦
            let larger : IsSubset (q ∷ part) tried = record {
              within = All-cons (Contains tried) q part inside sub.within;
              once = pairs_cons q part
                  (λ k d lt same. apart (k, lt, get_or_default part k q d lt ∙ sym same)) sub.once;
            } in
            let sum : added bytes (q ∷ part) ≡ xor_bytes q q = added-xor bytes q part in
            none (q ∷ part) larger
            (inl (empty_by (length q) (added bytes (q ∷ part)) (sum ∙ xor_bytes_self q)))
      ]

  pub none_opens : HasNone (IsFound tried) bytes tried → HasNone IsOpen bytes tried
  none_opens none part sub (inl empty) = none part sub (inl empty)
  none_opens none part sub (inr piece) = elim (is_among tried (added bytes part)) [
    | inl inside ↦ no_news none part sub inside
    | inr outside ↦ none part sub (inr (piece, outside))
  ]

-- ---- what is told once a reading is opened

bytes_push : (ks : List KnownPiece) (k : KnownPiece) → bytes_of (ks ++ k ∷ []) ≡ bytes_of ks ++ k.bytes ∷ []
bytes_push [] k = refl
bytes_push (x ∷ ks) k = ap (λ (t : List (List ℕ)). x.bytes ∷ t) (bytes_push ks k)

marked_bytes : (address : ℕ) (parts : List (List ℕ)) (old new : List KnownPiece) → AreMarked address parts old
    new → bytes_of new ≡ bytes_of old
marked_bytes address parts [] [] marks = refl
marked_bytes address parts [] (y ∷ new) marks = absurd marks
marked_bytes address parts (x ∷ old) [] marks = absurd marks
marked_bytes address parts (x ∷ old) (y ∷ new) marks =
    ap (λ (t : List ℕ). t ∷ bytes_of new) marks.0.bytes ∙ ap (λ (t : List (List ℕ)). x.bytes ∷ t)
    (marked_bytes address parts old new marks.1)

marked_from : (address : ℕ) (parts : List (List ℕ)) (old new : List KnownPiece) (k : KnownPiece)
    → AreMarked address parts old new →
    Contains new k → (was : KnownPiece) × Contains old was × IsMarked address parts was k
marked_from address parts old [] k marks (i, lt, is) = absurd (omega arith)
marked_from address parts [] (y ∷ new) k marks there = absurd marks
marked_from address parts (x ∷ old) (y ∷ new) k marks (zero, lt, is) =
    (x, (0, omega arith, refl), subst (IsMarked address parts x) is marks.0)
marked_from address parts (x ∷ old) (y ∷ new) k marks (suc i, lt, is) =
    let was = marked_from address parts old new k marks.1 (i, omega arith, is) in
    (was.0, Contains-later x was.0 old was.1, was.2)

-- a piece that is tried is known and awaited
tried_is : (address : ℕ) (known : List KnownPiece) (x : List ℕ) → Contains (tried_at address known) x →
    (k : KnownPiece) × Contains known k × (is_awaited address k ≡ true) × (k.bytes ≡ x)
tried_is address known x there =
    let k = Contains-from_map (λ (p : KnownPiece). p.bytes) (filter (is_awaited address) known) x
    (Contains-drop (length (awaited_at address known) - most_tried) (awaited_at address known) x there) in
    let all = Contains-from_filter (is_awaited address) known k.0 k.1 in
    (k.0, all.0, all.1, k.2)

known_push : (addresses : ℕ) (readings : List Reading) (xs : List (List ℕ)) (q : List ℕ) → AreKnown addresses
    readings xs →
    IsOpened addresses readings xs q → AreKnown addresses readings (xs ++ q ∷ [])
known_push addresses readings xs q known opened k lt = elim (cases_lt k (length xs)) [
  | inl below ↦
      subst (λ (ps : List (List ℕ)). IsOpened addresses readings ps (get_or (xs ++ q ∷ []) k []))
      (sym (take-append-le k xs (q ∷ []) (omega arith)))
      (subst (IsOpened addresses readings (take k xs)) (sym (get_or_append_left xs (q ∷ []) [] k below))
      (known k below))
  | inr above ↦
      let long : length (xs ++ q ∷ []) ≡ length xs + 1 = length-append xs (q ∷ []) in
      let is : length xs ≡ k = omega arith in
      subst (λ (m : ℕ). IsOpened addresses readings (take m (xs ++ q ∷ [])) (get_or (xs ++ q ∷ []) m [])) is
      (subst (λ (ps : List (List ℕ)). IsOpened addresses readings ps (get_or (xs ++ q ∷ []) (length xs) []))
      (sym (take-append-le (length xs) xs (q ∷ []) (omega arith) ∙ take_all (length xs) xs (omega arith)))
      (subst (IsOpened addresses readings xs) (sym (get_or_push xs q [] (length xs) refl)) opened))
]

pub subset_grows : (part xs ys : List (List ℕ)) → ((x : List ℕ) → Contains xs x → Contains ys x)
    → IsSubset part xs → IsSubset part ys
subset_grows part xs ys grows sub = record {
  within = All-weaker (Contains xs) (Contains ys) grows part sub.within;
  once = sub.once;
}

-- the parts of a reading that is opened
pub record Parts (new : List KnownPiece) (reading : Reading) (some : List (List ℕ)) : Type 0 where
  pub parts : List (List ℕ)
  pub sum : IsSumOf new reading parts
  pub holds : (x : List ℕ) → Contains some x → Contains parts x

pub with_sum : (new : List KnownPiece) (reading : Reading) (some : List (List ℕ)) → IsSubset some (bytes_of new)
    → length some ≤ most_tried →
    Contains (bytes_of new) (added reading.bytes some) → (Contains some (added reading.bytes some) → ⊥) →
    IsSumOf new reading (added reading.bytes some ∷ some)
with_sum new reading some sub most there apart =
    let q : List ℕ = added reading.bytes some in
    record {
      subset = record {
        within = All-cons (Contains (bytes_of new)) q some there sub.within;
        once = pairs_cons q some (λ k d lt same. apart (k, lt, get_or_default some k q d lt ∙ sym same))
            sub.once;
      };
      most = omega arith;
      sum = empty_by (length q) (added reading.bytes (q ∷ some)) (added-xor reading.bytes q some
          ∙ xor_bytes_self q);
    }

parts_of : (tried : List (List ℕ)) (new : List KnownPiece) (reading : Reading) (some : List (List ℕ))
    → IsSubset some tried →
    IsSubset some (bytes_of new) → length some ≤ most_tried → IsFound tried (added reading.bytes some) →
    (IsPiece (added reading.bytes some) → Contains (bytes_of new) (added reading.bytes some))
    → Parts new reading some
parts_of tried new reading some within sub most (inl empty) known = record {
  parts = some;
  sum = record { subset = sub; most = omega arith; sum = empty };
  holds = λ x there. there;
}
parts_of tried new reading some within sub most (inr news) known = record {
  parts = added reading.bytes some ∷ some;
  sum = with_sum new reading some sub most (known news.0)
      (λ inside. news.1 (All-contains (Contains tried) some (added reading.bytes some) within.within inside));
  holds = λ x there. Contains-later (added reading.bytes some) x some there;
}

seen_grows : (readings : List Reading) (old new : List KnownPiece) (a : ℕ) (p q : List ℕ) → p ≡ q →
    ((x : List ℕ) → Contains (bytes_of old) x → Contains (bytes_of new) x) → IsSeen readings old a p
    → IsSeen readings new a q
seen_grows readings old new a p q same grows seen = record {
  reading = seen.reading;
  is_read = seen.is_read;
  there = seen.there;
  parts = seen.parts;
  sum = record {
    subset = subset_grows seen.parts (bytes_of old) (bytes_of new) grows seen.sum.subset;
    most =
        seen.sum.most;
    sum = seen.sum.sum;
  };
  in_it = subst (Contains seen.parts) same seen.in_it;
}

module _ (addresses : ℕ) (readings : List Reading) (old : List KnownPiece) (left kept : List Reading)
    (r : Reading)
    (before : Accounts addresses readings (record { known = old; left = left })) (is_read : Contains readings r)
    (others : (x : Reading) → Contains left x → Contains kept x ⊎ (x ≡ r))
    (all_read : All (Contains readings) kept) where
  -- the old pieces, marked
  module _ (some : List (List ℕ)) (marked : List KnownPiece) (marks : AreMarked r.address some old marked)
      (new : List KnownPiece) (sum : Parts new r some) (grows : (x : List ℕ) → Contains (bytes_of old) x
      → Contains (bytes_of new) x) where
    kept_now : All (λ x. Contains kept x ⊎ ((parts : List (List ℕ)) × IsSumOf new x parts)) readings
    kept_now = λ k d lt. elim (before.kept k d lt) [
      | inl there ↦ elim (others (get_or readings k d) there) [
        | inl stays ↦ inl stays
        | inr is ↦ inr (sum.parts, subst (λ (x : Reading). IsSumOf new x sum.parts) (sym is) sum.sum)
      ]
      | inr parts ↦ inr (
        parts.0,
        record {
          subset = subset_grows parts.0 (bytes_of old) (bytes_of new) grows parts.1.subset;
          most = parts.1.most;
          sum = parts.1.sum;
        },
      )
    ]

    marked_named : (k : KnownPiece) (a : ℕ) → Contains marked k → is_awaited a k ≡ true
        → Names addresses a k.bytes
    marked_named k a there awaited =
        let was = marked_from r.address some old marked k marks there in
        subst (Names addresses a) (sym was.2.bytes) (before.named was.0 a was.1 (was.2.fewer a awaited))

    marked_awaits : (k : KnownPiece) (a : ℕ) → Contains marked k → Names addresses a k.bytes →
        (is_awaited a k ≡ true) ⊎ IsSeen readings new a k.bytes
    marked_awaits k a there names =
        let was = marked_from r.address some old marked k marks there in
        elim (before.awaits was.0 a was.1 (subst (Names addresses a) was.2.bytes names)) [
          | inl awaited ↦ elim (was.2.only a awaited) [
            | inl still ↦ inl still
            | inr here ↦ inr (record {
              reading = r;
              is_read = is_read;
              there = sym here.0;
              parts = sum.parts;
              sum = sum.sum;
              in_it = subst (Contains sum.parts) (sym was.2.bytes) (sum.holds was.0.bytes here.1);
            })
          ]
          | inr seen ↦ inr (seen_grows readings old new a was.0.bytes k.bytes (sym was.2.bytes) grows seen)
        ]

  module _ (new : List KnownPiece) (o : Opens addresses r old new) where
    same : bytes_of o.marked ≡ bytes_of old
    same = marked_bytes r.address o.parts old o.marked o.marks

    abbrev sum_of : List ℕ
    sum_of = added r.bytes o.parts

    in_old : IsSubset o.parts (bytes_of old)
    in_old = record {
      within = All-weaker (Contains (tried_at r.address old)) (Contains (bytes_of old))
          (λ x there. let k = tried_is r.address old x there in
          subst (Contains (bytes_of old)) k.3 (Contains-map (λ (p : KnownPiece). p.bytes) old k.0 k.1))
          o.parts o.tried.within;
      once = o.tried.once;
    }

    name_it : All (Names addresses r.address) o.parts
    name_it = All-weaker (Contains (tried_at r.address old)) (Names addresses r.address)
        (λ x there. let k = tried_is r.address old x there in
        subst (Names addresses r.address) k.3 (before.named k.0 r.address k.1 k.2))
        o.parts o.tried.within

    to_marked : (x : List ℕ) → Contains (bytes_of old) x → Contains (bytes_of o.marked) x
    to_marked x there = subst (λ (ps : List (List ℕ)). Contains ps x) (sym same) there

    stays : (IsPiece sum_of → Contains (bytes_of o.marked) sum_of) → Accounts addresses readings
        (record { known = o.marked; left = kept })
    stays known =
        let sum : Parts o.marked r o.parts = parts_of (tried_at r.address old) o.marked r o.parts o.tried
        (subset_grows o.parts (bytes_of old) (bytes_of o.marked) to_marked in_old) o.most o.found known in
        record {
          sound = subst (AreKnown addresses readings) (sym same) before.sound;
          once = subst (AllPairs (λ p q. p ≢ q)) (sym same) before.once;
          left_read = all_read;
          kept = kept_now o.parts o.marked o.marks o.marked sum to_marked;
          named = marked_named o.parts o.marked o.marks o.marked sum to_marked;
          awaits = marked_awaits o.parts o.marked o.marks o.marked sum to_marked;
        }

    module _ (is_piece : IsPiece sum_of) (apart : Contains (bytes_of o.marked) sum_of → ⊥)
        (piece : KnownPiece)
        (is_new : IsNew addresses r.address sum_of piece) where
      abbrev grown : List KnownPiece
      grown = o.marked ++ piece ∷ []

      bytes_grown : bytes_of grown ≡ bytes_of old ++ sum_of ∷ []
      bytes_grown =
          bytes_push o.marked piece
          ∙ ap (λ (t : List ℕ). bytes_of o.marked ++ t ∷ []) is_new.is
          ∙ ap (λ (t : List (List ℕ)). t ++ sum_of ∷ []) same

      to_grown : (x : List ℕ) → Contains (bytes_of old) x → Contains (bytes_of grown) x
      to_grown x there =
          subst (λ (ps : List (List ℕ)). Contains ps x) (sym bytes_grown)
          (Contains-append_left (bytes_of old) (sum_of ∷ []) x there)

      sum_grown : IsSumOf grown r (sum_of ∷ o.parts)
      sum_grown = with_sum grown r o.parts (subset_grows o.parts (bytes_of old) (bytes_of grown) to_grown
          in_old) o.most
          (subst (λ (ps : List (List ℕ)). Contains ps sum_of) (sym bytes_grown)
          (Contains-push (bytes_of old) sum_of))
          (λ inside. apart
          (to_marked sum_of (All-contains (Contains (bytes_of old)) o.parts sum_of in_old.within inside)))

      parts_grown : Parts grown r o.parts
      parts_grown = record {
        parts = sum_of ∷ o.parts;
        sum = sum_grown;
        holds = λ x there. Contains-later sum_of x o.parts there;
      }

      grown_named : (k : KnownPiece) (a : ℕ) → Contains grown k → is_awaited a k ≡ true
          → Names addresses a k.bytes
      grown_named k a there awaited = elim (Contains-push_cases o.marked piece k there) [
        | inl was ↦ marked_named o.parts o.marked o.marks grown parts_grown to_grown k a was awaited
        | inr is ↦ subst (λ (p : KnownPiece). Names addresses a p.bytes) is
            (subst (Names addresses a) (sym is_new.is)
            (is_new.named a (subst (λ (p : KnownPiece). is_awaited a p ≡ true) (sym is) awaited)))
      ]

      grown_awaits : (k : KnownPiece) (a : ℕ) → Contains grown k → Names addresses a k.bytes →
          (is_awaited a k ≡ true) ⊎ IsSeen readings grown a k.bytes
      grown_awaits k a there names = elim (Contains-push_cases o.marked piece k there) [
        | inl was ↦ marked_awaits o.parts o.marked o.marks grown parts_grown to_grown k a was names
        | inr is ↦
            let bytes : sum_of ≡ k.bytes = sym is_new.is ∙ ap (λ (p : KnownPiece). p.bytes) is in
            elim (is_new.awaits a (subst (Names addresses a) (sym bytes) names)) [
              | inl awaited ↦ inl (subst (λ (p : KnownPiece). is_awaited a p ≡ true) is awaited)
              | inr here ↦ inr (record {
                reading = r;
                is_read = is_read;
                there = sym here;
                parts = sum_of ∷ o.parts;
                sum = sum_grown;
                in_it = (0, omega arith, bytes);
              })
            ]
      ]

      grows_by : Accounts addresses readings (record { known = grown; left = kept })
      grows_by = record {
        sound = subst (AreKnown addresses readings) (sym bytes_grown)
            (known_push addresses readings (bytes_of old) sum_of before.sound
            (record {
              reading = r;
              is_read = is_read;
              others = o.parts;
              are_known = in_old;
              most = o.most;
              name_it = name_it;
              is = refl;
              is_piece = is_piece;
            }));
        once = subst (AllPairs (λ p q. p ≢ q)) (sym bytes_grown)
            (all_pairs_push (λ p q. p ≢ q) (bytes_of old) sum_of before.once
            (λ k d lt is. apart
            (to_marked sum_of (k, lt, get_or_default (bytes_of old) k sum_of d lt ∙ is))));
        left_read = all_read;
        kept = kept_now o.parts o.marked o.marks grown parts_grown to_grown;
        named = grown_named;
        awaits = grown_awaits;
      }

    pub accounts_opened : Accounts addresses readings (record { known = new; left = kept })
    accounts_opened = elim o.admits [
      | inl is ↦
          subst (λ (n : List KnownPiece). Accounts addresses readings (record { known = n; left = kept }))
          (sym is.1) (stays is.0)
      | inr more ↦
          subst (λ (n : List KnownPiece). Accounts addresses readings (record { known = n; left = kept }))
          (sym more.2.2)
          (grows_by more.0 more.1 more.2.0 more.2.1)
    ]

-- ---- the first reading, and one more

pub nothing_told : (addresses : ℕ) → Accounts addresses [] (record { known = []; left = [] })
nothing_told addresses = record {
  sound = λ k lt. absurd (omega arith);
  once = λ i j d lt le. absurd (omega arith);
  left_read = λ k d lt. absurd (omega arith);
  kept = λ k d lt. absurd (omega arith);
  named = λ k a there awaited. absurd (not_in_nil k there);
  awaits = λ k a there names. absurd (not_in_nil k there);
}

opened_still : (addresses : ℕ) (readings : List Reading) (r : Reading) (known : List (List ℕ)) (p : List ℕ) →
    IsOpened addresses readings known p → IsOpened addresses (readings ++ r ∷ []) known p
opened_still addresses readings r known p o = record {
  reading = o.reading;
  is_read = Contains-append_left readings (r ∷ []) o.reading o.is_read;
  others = o.others;
  are_known = o.are_known;
  most = o.most;
  name_it = o.name_it;
  is = o.is;
  is_piece = o.is_piece;
}

seen_still : (readings : List Reading) (r : Reading) (known : List KnownPiece) (a : ℕ) (p : List ℕ) →
    IsSeen readings known a p → IsSeen (readings ++ r ∷ []) known a p
seen_still readings r known a p seen = record {
  reading = seen.reading;
  is_read = Contains-append_left readings (r ∷ []) seen.reading seen.is_read;
  there = seen.there;
  parts = seen.parts;
  sum = seen.sum;
  in_it = seen.in_it;
}

pub one_more_read : (addresses : ℕ) (readings : List Reading) (told : Told) (r : Reading) → Accounts addresses
    readings told →
    Accounts addresses (readings ++ r ∷ []) (record { known = told.known; left = told.left ++ r ∷ [] })
one_more_read addresses readings told r before = record {
  sound = λ k lt. opened_still addresses readings r (take k (bytes_of told.known))
      (get_or (bytes_of told.known) k []) (before.sound k lt);
  once = before.once;
  left_read = All-push (Contains (readings ++ r ∷ [])) told.left r
      (All-weaker (Contains readings) (Contains (readings ++ r ∷ []))
      (λ x there. Contains-append_left readings (r ∷ []) x there) told.left before.left_read)
      (Contains-push readings r);
  kept = All-push (λ x. Contains (told.left ++ r ∷ []) x
      ⊎ ((parts : List (List ℕ)) × IsSumOf told.known x parts)) readings r
      (All-weaker (λ x. Contains told.left x ⊎ ((parts : List (List ℕ)) × IsSumOf told.known x parts))
      (λ x. Contains (told.left ++ r ∷ []) x ⊎ ((parts : List (List ℕ)) × IsSumOf told.known x parts))
      (λ x is. elim is [
        | inl there ↦ inl (Contains-append_left told.left (r ∷ []) x there)
        | inr parts ↦ inr parts
      ]) readings before.kept)
      (inl (Contains-push told.left r));
  named = before.named;
  awaits = λ k a there names. elim (before.awaits k a there names) [
    | inl awaited ↦ inl awaited
    | inr seen ↦ inr (seen_still readings r told.known a k.bytes seen)
  ];
}
