-- Shares read from marks and bytes, one by one.
use Rattle.std.proofs.Common.{◌≡◌, ℕ, zero, suc, ◌+◌, ◌<◌, Bool, true, false, List, [], ◌∷◌, length, replicate, take, get_or, slice_index, set, refl, sym, ap, ◌∙◌, arith, add-one}
use Rattle.std.specs.List.{refill}
use Rattle.std.proofs.lemmas.List.{length-set, get_or-set_same, set-get_or, set-set, append-nil, take_all, drop_all}
use Rattle.express_words.specs.Bytes.{xor_bytes}
use Rattle.dpf_rules.specs.Walk.{leaf_bytes}
use Rattle.share_store.specs.Shares.{Share, Shares, empty_share, share_at, share_with, shares_of, shares_with, with_cleared}
use Rattle.share_store.specs.Marks.{shares_in}

-- bytes that are as long as those before them replace them
pub refill_whole : (old new : List ℕ) → length new ≡ length old → refill (length old) old new ≡ new
refill_whole old new same =
    rw (drop_all (length new) old (omega arith), append-nil new) (take_all (length old) new (omega arith))

-- what a box has after it was lent, had these bytes, and was given others as long
pub lent_back : (box old new : List ℕ) → old ≡ box → length new ≡ length old → refill (length box) box new ≡ new
lent_back box old new had same = refill_whole box new (same ∙ ap length had)

pub length-shares_in : (live : List Bool) (blocks : List (List ℕ)) → length live ≡ length blocks → length (shares_in live blocks) ≡ length live
length-shares_in [] blocks same = refl
length-shares_in (l ∷ live) [] same = absurd (omega arith)
length-shares_in (l ∷ live) (b ∷ blocks) same = ap (λ (n : ℕ). suc n) (length-shares_in live blocks (omega arith))

pub share_at-shares_in : (live : List Bool) (blocks : List (List ℕ)) (i : ℕ) (d : Bool) → length live ≡ length blocks → i < length live
    → share_at (shares_in live blocks) i ≡ record { bytes = get_or blocks i []; live = get_or live i d }
share_at-shares_in [] blocks i d same inside = absurd (omega arith)
share_at-shares_in (l ∷ live) [] i d same inside = absurd (omega arith)
share_at-shares_in (l ∷ live) (b ∷ blocks) zero d same inside = refl
share_at-shares_in (l ∷ live) (b ∷ blocks) (suc i) d same inside = share_at-shares_in live blocks i d (omega arith) (omega arith)

shares_in-set : (live : List Bool) (blocks : List (List ℕ)) (i : ℕ) (l : Bool) (b : List ℕ) → length live ≡ length blocks
    → shares_in (set live i l) (set blocks i b) ≡ set (shares_in live blocks) i (record { bytes = b; live = l })
shares_in-set [] blocks i l b same = refl
shares_in-set (k ∷ live) [] i l b same = absurd (omega arith)
shares_in-set (k ∷ live) (c ∷ blocks) zero l b same = refl
shares_in-set (k ∷ live) (c ∷ blocks) (suc i) l b same =
    ap (λ (shares : List Share). record { bytes = c; live = k } ∷ shares) (shares_in-set live blocks i l b (omega arith))

pub shares_in-new : (n width : ℕ) → shares_in (replicate n true) (replicate n (replicate width 0)) ≡ replicate n (empty_share width)
shares_in-new zero width = refl
shares_in-new (suc n) width = ap (λ (shares : List Share). empty_share width ∷ shares) (shares_in-new n width)

module _ (live : List Bool) (blocks : List (List ℕ)) (i : ℕ) (same : length live ≡ length blocks) (inside : i < length live) where
  -- other bytes at a box
  pub rewritten_view : (bytes : List ℕ) (d : Bool)
      → shares_in live (set blocks i bytes) ≡ set (shares_in live blocks) i (record { bytes = bytes; live = get_or live i d })
  rewritten_view bytes d =
      ap (λ (ls : List Bool). shares_in ls (set blocks i bytes)) (sym (set-get_or live i d))
      ∙ shares_in-set live blocks i (get_or live i d) bytes same

  -- a share that is cleared
  pub cleared_view : (size : ℕ) → shares_of size (shares_in live (set blocks i (replicate size 0)))
      ≡ with_cleared (shares_of size (shares_in live blocks)) i (share_at (shares_in live blocks) i).live
  cleared_view size =
      let lives : (share_at (shares_in live blocks) i).live ≡ get_or live i false =
      ap (λ (s : Share). s.live) (share_at-shares_in live blocks i false same inside) in
      rw lives (ap (shares_of size) (rewritten_view (replicate size 0) false))

  -- a box that is retired after it was cleared
  pub retired_view : (size : ℕ) (old : Shares) (l : Bool) → shares_of size (shares_in live blocks) ≡ with_cleared old i l
      → shares_of size (shares_in (set live i false) blocks) ≡ with_cleared old i false
  retired_view size old l view =
      let width : size ≡ old.width = ap (λ (s : Shares). s.width) view in
      let boxes : shares_in live blocks ≡ set old.boxes i (record { bytes = replicate old.width 0; live = l }) = ap (λ (s : Shares). s.boxes) view in
      let many : i < length old.boxes =
      omega (arith, length-shares_in live blocks same, ap length boxes ∙ length-set old.boxes i (record { bytes = replicate old.width 0; live = l })) in
      let bytes : get_or blocks i [] ≡ replicate old.width 0 =
      sym (ap (λ (s : Share). s.bytes) (share_at-shares_in live blocks i false same inside))
      ∙ ap (λ (bs : List Share). (share_at bs i).bytes) boxes
      ∙ ap (λ (s : Share). s.bytes) (get_or-set_same old.boxes i (record { bytes = replicate old.width 0; live = l }) (empty_share 0) many) in
      let there : shares_in (set live i false) blocks ≡ set old.boxes i (record { bytes = replicate old.width 0; live = false }) =
      ap (λ (bs : List (List ℕ)). shares_in (set live i false) bs) (sym (set-get_or blocks i []))
      ∙ shares_in-set live blocks i false (get_or blocks i []) same
      ∙ ap (λ (xs : List ℕ). set (shares_in live blocks) i (record { bytes = xs; live = false })) bytes
      ∙ ap (λ (bs : List Share). set bs i (record { bytes = replicate old.width 0; live = false })) boxes
      ∙ set-set old.boxes i (record { bytes = replicate old.width 0; live = l }) (record { bytes = replicate old.width 0; live = false }) in
      ap (λ (n : ℕ). shares_of n (shares_in (set live i false) blocks)) width ∙ ap (shares_of old.width) there

-- one more leaf
next_leaf : (part leaves : List ℕ) (boxes : List Share) (i : ℕ) → i < length leaves → i < length boxes
    → set (shares_with part (take i leaves) boxes) i (share_with (leaf_bytes part (slice_index leaves i)) (share_at (shares_with part (take i leaves) boxes) i))
    ≡ shares_with part (take (suc i) leaves) boxes
next_leaf part [] boxes i h k = absurd (omega arith)
next_leaf part (leaf ∷ leaves) [] i h k = absurd (omega arith)
next_leaf part (leaf ∷ leaves) (share ∷ boxes) zero h k = refl
next_leaf part (leaf ∷ leaves) (share ∷ boxes) (suc i) h k =
    ap (λ (rest : List Share). share_with (leaf_bytes part leaf) share ∷ rest) (next_leaf part leaves boxes i (omega arith) (omega arith))

module _ (part leaves : List ℕ) (live : List Bool) (first : List Share) (blocks : List (List ℕ)) (i : ℕ) (d : Bool)
    (same : length live ≡ length blocks) (inside : i < length live) (leaf_inside : i < length leaves) (many : i < length first)
    (before : shares_in live blocks ≡ shares_with part (take i leaves) first) where
  -- it reaches a live box, and no other
  pub added_live : get_or live i d ≡ true
      → shares_in live (set blocks i (xor_bytes (get_or blocks i []) (leaf_bytes part (slice_index leaves i)))) ≡ shares_with part (take (i + 1) leaves) first
  added_live is =
      let bytes = leaf_bytes part (slice_index leaves i) in
      let here : share_with bytes (share_at (shares_in live blocks) i) ≡ record { bytes = xor_bytes (get_or blocks i []) bytes; live = get_or live i d } =
      rw (share_at-shares_in live blocks i d same inside, is) refl in
      rewritten_view live blocks i same inside (xor_bytes (get_or blocks i []) bytes) d
      ∙ ap (set (shares_in live blocks) i) (sym here)
      ∙ ap (λ (bs : List Share). set bs i (share_with bytes (share_at bs i))) before
      ∙ next_leaf part leaves first i leaf_inside many ∙ rw (← add-one i) refl

  pub added_retired : get_or live i d ≡ false → shares_in live blocks ≡ shares_with part (take (i + 1) leaves) first
  added_retired is =
      let bytes = leaf_bytes part (slice_index leaves i) in
      let here : share_with bytes (share_at (shares_in live blocks) i) ≡ share_at (shares_in live blocks) i =
      rw (share_at-shares_in live blocks i d same inside, is) refl in
      sym (set-get_or (shares_in live blocks) i (empty_share 0))
      ∙ ap (set (shares_in live blocks) i) (sym here)
      ∙ ap (λ (bs : List Share). set bs i (share_with bytes (share_at bs i))) before
      ∙ next_leaf part leaves first i leaf_inside many ∙ rw (← add-one i) refl
