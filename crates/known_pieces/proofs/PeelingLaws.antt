-- Of a table that can be peeled every piece is told.
use Rattle.std.proofs.Common.{◌≡◌, ◌≢◌, ◌<◌, ◌≤◌, ◌⊎◌, inl, inr, ℕ, zero, suc, List, [], ◌∷◌}
use Rattle.std.proofs.Common.{length, get_or, take, replicate, refl, sym, ap, ◌∙◌, subst, arith}
use Rattle.std.proofs.Common.{length-take, get_or-take}
use Rattle.std.specs.List.{All, Contains}
use Rattle.std.proofs.lemmas.Bool.{cases_lt}
use Rattle.std.proofs.lemmas.List.{get_or_default, length-replicate}
use Rattle.std.proofs.lemmas.List.Elements.{All-contains, All-weaker}
use Rattle.express_words.specs.Bytes.{xor_bytes}
use Rattle.express_words.proofs.Bytes.{zeros_xor_bytes}
use Rattle.subset_search.specs.Subsets.{added, IsSubset}
use Rattle.subset_search.proofs.SumLaws.{added-xor, added-back}
use Rattle.known_pieces.specs.Known.{Reading, IsPiece, Names, IsOpened, IsKnown}
use Rattle.known_pieces.specs.Telling.{KnownPiece, Told, Tells, IsOpen, IsSumOf, pieces_in}
use Rattle.known_pieces.specs.Telling.{is_awaited, awaited_at, tried_at}
use Rattle.known_pieces.specs.Peeling.{Box, reading_of, readings_of, IsPut, IsTable, HasOneSum, Peels}
use Rattle.known_pieces.specs.Peeling.{FewAreAwaited}
use Rattle.known_pieces.specs.Laws.{ToldIsKnown, ToldWasPut, PeeledIsTold}
use Rattle.known_pieces.proofs.ListLaws.{without, added-without, All-without, pairs_without, apart-without}
use Rattle.known_pieces.proofs.ListLaws.{Contains-map, Contains-from_map, Contains-filter, all_or, drop_none}
use Rattle.known_pieces.proofs.OpeningLaws.{with_sum, subset_grows}

pub told_is_known : ToldIsKnown
told_is_known addresses readings told tells =
    All-weaker (Contains (pieces_in told)) (IsKnown addresses readings)
    (λ piece there. (pieces_in told, tells.accounts.sound, there)) (pieces_in told)
    (itself (pieces_in told))
  where
    itself : (xs : List (List ℕ)) → All (Contains xs) xs
    itself xs = λ k d lt. (k, lt, get_or_default xs k (get_or xs k d) d lt)

-- a box without one of its pieces, taken from the box, is that piece
alone : (width : ℕ) (pieces : List (List ℕ)) (i : ℕ) → i < length pieces → All (λ p. length p ≡ width) pieces
    →
    added (added (replicate width 0) pieces) (without pieces i) ≡ get_or pieces i []
alone width pieces i lt wide =
    let zeros : List ℕ = replicate width 0 in
    let rest : List (List ℕ) = without pieces i in
    let one : List ℕ = get_or pieces i [] in
    ap (λ (t : List ℕ). added t rest) (added-without zeros pieces i lt)
    ∙ added-xor (added zeros rest) one rest
    ∙ ap (λ (t : List ℕ). xor_bytes t one)
    (added-back width zeros rest (length-replicate width 0)
    (All-without (λ p. length p ≡ width) pieces i wide))
    ∙ zeros_xor_bytes width one (wide i [] lt)

module _ (addresses width : ℕ) (boxes : List Box) (told : Told)
    (one_sum : HasOneSum addresses width boxes) (tells : Tells addresses (readings_of width boxes) told)
  where
    -- a box whose reading is a sum of known pieces has no others
    sum_told : (b : Box) (parts : List (List ℕ)) → Contains boxes b → IsSumOf told.known (reading_of width b)
        parts → (p : List ℕ) →
        ((Contains parts p → Contains b.pieces p) × (Contains b.pieces p → Contains parts p)) ×
        (Contains parts p → Contains (pieces_in told) p)
    sum_told b parts there sum p =
        let known : All (IsKnown addresses (readings_of width boxes)) parts =
        All-weaker (Contains (pieces_in told)) (IsKnown addresses (readings_of width boxes))
        (λ piece inside. (pieces_in told, tells.accounts.sound, inside)) parts sum.subset.within in
        let same = one_sum b parts there sum.subset.once sum.most known sum.sum p in (
          (same.0, same.1),
          λ inside. All-contains (Contains (pieces_in told)) parts p sum.subset.within
              inside,
        )

    -- a piece that is told is, with those of the sum by which it became known, all that lies in a box
    module _ (k : ℕ) (lt : k < length (pieces_in told)) (o : IsOpened addresses (readings_of width boxes)
        (take k (pieces_in told)) (get_or (pieces_in told) k [])) where
      abbrev piece : List ℕ
      piece = get_or (pieces_in told) k []

      earlier_told : (x : List ℕ) → Contains (take k (pieces_in told)) x → Contains (pieces_in told) x
      earlier_told x (j, within, at) =
          let count = length-take k (pieces_in told) in
          (j, omega arith, sym (get_or-take k (pieces_in told) j x (omega arith)) ∙ at)

      apart : Contains o.others piece → ⊥
      apart there =
          let among =
          All-contains (Contains (take k (pieces_in told))) o.others piece o.are_known.within there in
          let count = length-take k (pieces_in told) in
          let small : among.0 < k = let within = among.1 in omega arith in
          tells.accounts.once among.0 k piece small lt
          (sym (get_or-take k (pieces_in told) among.0 piece small) ∙ among.2
          ∙ get_or_default (pieces_in told) k [] piece lt)

      sum_is : IsSumOf told.known o.reading (piece ∷ o.others)
      sum_is =
          subst (λ (q : List ℕ). IsSumOf told.known o.reading (q ∷ o.others)) (sym o.is)
          (with_sum told.known o.reading o.others
          (subset_grows o.others (take k (pieces_in told)) (pieces_in told) earlier_told o.are_known) o.most
          (subst (Contains (pieces_in told)) o.is (k, lt, get_or_default (pieces_in told) k piece [] lt))
          (λ there. apart (subst (Contains o.others) (sym o.is) there)))

      lies_in : (b : Box) × Contains boxes b × Contains b.pieces piece
      lies_in =
          let box = Contains-from_map (reading_of width) boxes o.reading o.is_read in
          let sum : IsSumOf told.known (reading_of width box.0) (piece ∷ o.others) =
          subst (λ (r : Reading). IsSumOf told.known r (piece ∷ o.others)) (sym box.2) sum_is in
          (box.0, box.1, (sum_told box.0 (piece ∷ o.others) box.1 sum piece).0.0 (0, omega arith, refl))

    pub told_lies : All (IsPut boxes) (pieces_in told)
    told_lies = λ k d lt.
        subst (IsPut boxes) (get_or_default (pieces_in told) k [] d lt)
        (lies_in k lt (tells.accounts.sound k lt))

module _ (addresses width : ℕ) (boxes : List Box) (order : List (List ℕ)) (told : Told)
    (table : IsTable addresses width boxes) (one_sum : HasOneSum addresses width boxes)
    (peels : Peels boxes order)
    (tells : Tells addresses (readings_of width boxes) told) (few : FewAreAwaited told) where
  abbrev IsTold : List ℕ → Type 0
  IsTold p = Contains (pieces_in told) p

  module _ (k : ℕ) (lt : k < length order) (before : (j : ℕ) → j < k → IsTold (get_or order j [])) where
    earlier : (q : List ℕ) → Contains (take (suc k) order) q → q ≢ get_or order k [] → IsTold q
    earlier q (j, within, at) other =
        let count = length-take (suc k) order in
        let small : j < suc k = omega arith in
        let read : get_or order j q ≡ q = sym (get_or-take (suc k) order j q small) ∙ at in
        let inside : j < length order = omega arith in
        let is : get_or order j [] ≡ q = get_or_default order j [] q inside ∙ read in
        elim (cases_lt j k) [
          | inl below ↦ subst IsTold is (before j below)
          | inr above ↦
              absurd (other
              (sym is ∙ ap (λ (i : ℕ). get_or order i []) (let same : j ≡ k = omega arith in same)))
        ]

    module _ (b : Box) (there : Contains boxes b) (i : ℕ) (within : i < length b.pieces)
        (at : get_or b.pieces i [] ≡ get_or order k []) (below : All (Contains (take (suc k) order)) b.pieces)
      where
        abbrev others : List (List ℕ)
        others = without b.pieces i

        abbrev IsReady : List ℕ → Type 0
        IsReady q = Contains (tried_at b.address told.known) q

        piece_there : Contains b.pieces (get_or order k [])
        piece_there = (i, within, get_or_default b.pieces i (get_or order k []) [] within ∙ at)

        ready : (q : List ℕ) → IsTold q → Names addresses b.address q → Contains b.pieces q → IsReady q
            ⊎ IsTold (get_or order k [])
        ready q known names inside =
            let from = Contains-from_map (λ (p : KnownPiece). p.bytes) told.known q known in
            elim (tells.accounts.awaits from.0 b.address from.1
            (subst (Names addresses b.address) (sym from.2) names)) [
              | inl awaited ↦
                  let found : Contains (awaited_at b.address told.known) q =
                  subst (Contains (awaited_at b.address told.known)) from.2
                  (Contains-map (λ (p : KnownPiece). p.bytes) _ from.0
                  (Contains-filter (is_awaited b.address) told.known from.0 from.1 awaited)) in
                  inl (subst (λ (xs : List (List ℕ)). Contains xs q)
                  (sym (drop_none _ (awaited_at b.address told.known)
                  (let most = few b.address in omega arith))) found)
              | inr seen ↦
                  let box = Contains-from_map (reading_of width) boxes seen.reading seen.is_read in
                  let sum : IsSumOf told.known (reading_of width box.0) seen.parts =
                  subst (λ (r : Reading). IsSumOf told.known r seen.parts) (sym box.2) seen.sum in
                  let all_of = sum_told addresses width boxes told one_sum tells box.0 seen.parts box.1 sum in
                  let other = (all_of q).0.0 (subst (Contains seen.parts) from.2 seen.in_it) in
                  let address : b.address ≡ box.0.address =
                  sym (ap (λ (r : Reading). r.address) box.2 ∙ seen.there) in
                  let same : b ≡ box.0 = table.once b box.0 q there box.1 address inside other in
                  let here : Contains box.0.pieces (get_or order k []) =
                  subst (λ (c : Box). Contains c.pieces (get_or order k [])) same piece_there in
                  let all = all_of (get_or order k []) in
                  inr (all.1 (all.0.1 here))
            ]

        all_ready : All (λ q. IsReady q ⊎ IsTold (get_or order k [])) others
        all_ready = λ j d le.
            let q : List ℕ = get_or (without b.pieces i) j d in
            let inside : Contains b.pieces q = All-without (Contains b.pieces) b.pieces i (itself b.pieces) j d
            le in
            let other : q ≢ get_or order k [] = λ is. apart-without b.pieces i [] within (table.apart b there) j
            d le (is ∙ sym at) in
            ready q (earlier q (All-without (Contains (take (suc k) order)) b.pieces i below j d le) other)
            (All-without (Names addresses b.address) b.pieces i (table.named b there) j d le) inside
          where
            itself : (xs : List (List ℕ)) → All (Contains xs) xs
            itself xs = λ m d le. (m, le, get_or_default xs m (get_or xs m d) d le)

        opened : All IsReady others → Contains told.left (reading_of width b) → ⊥
        opened all left =
            let names = All-contains (Names addresses b.address) b.pieces (get_or order k [])
            (table.named b there) piece_there in
            let sub : IsSubset (without b.pieces i) (tried_at b.address told.known) =
            record { within = all; once = pairs_without b.pieces i (table.apart b there) } in
            All-contains (λ r. (part : List (List ℕ)) → IsSubset part (tried_at r.address told.known)
            → IsOpen (added r.bytes part) → ⊥)
            told.left (reading_of width b) tells.complete left (without b.pieces i) sub
            (inr (subst IsPiece (sym (alone width b.pieces i within (table.wide b there) ∙ at))
            (names.0, names.1)))

        told_here : IsTold (get_or order k [])
        told_here =
            elim (All-contains
            (λ r. Contains told.left r ⊎ ((parts : List (List ℕ)) × IsSumOf told.known r parts))
            (readings_of width boxes) (reading_of width b) tells.accounts.kept
            (Contains-map (reading_of width) boxes b there)) [
              | inl left ↦ elim (all_or IsReady (IsTold (get_or order k [])) others all_ready) [
                | inl all ↦ absurd (opened all left)
                | inr known ↦ known
              ]
              | inr sum ↦
                  let all =
                  sum_told addresses width boxes told one_sum tells b sum.0 there sum.1 (get_or order k []) in
                  all.1 (all.0.1 piece_there)
            ]

  all_below : (n : ℕ) → n ≤ length order → (k : ℕ) → k < n → IsTold (get_or order k [])
  all_below zero le k lt = absurd (omega arith)
  all_below (suc n) le k lt =
      let before = all_below n (omega arith) in
      elim (cases_lt k n) [
        | inl small ↦ before k small
        | inr large ↦ subst (λ (m : ℕ). IsTold (get_or order m [])) (let is : n ≡ k = omega arith in is)
            (last before)
      ]
    where
      last : ((j : ℕ) → j < n → IsTold (get_or order j [])) → IsTold (get_or order n [])
      last before =
          let inside : n < length order = omega arith in
          let lies = peels n inside in
          let place = lies.2 in
          told_here n inside before lies.0 lies.1 place.0 place.1
          (get_or_default lies.0.pieces place.0 [] (get_or order n []) place.1 ∙ place.2) lies.3

  pub every_told : All (Contains (pieces_in told)) order
  every_told = λ k d lt.
      subst (Contains (pieces_in told)) (get_or_default order k [] d lt)
      (all_below (length order) (omega arith) k lt)

pub peeled_is_told : PeeledIsTold
peeled_is_told addresses width boxes order told table one_sum peels tells few =
    every_told addresses width boxes order told table one_sum peels tells few

pub told_was_put : ToldWasPut
told_was_put addresses width boxes told one_sum tells =
    told_lies addresses width boxes told one_sum tells
