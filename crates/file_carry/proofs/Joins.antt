-- What the answers join to.
use Rattle.std.proofs.Common.{◌≡◌, ◌∙◌, ◌<◌, ◌≤◌, ◌^◌, ◌+◌, ◌-◌, max, ℕ, zero, suc, Bool, true, false, cond, List, [], ◌∷◌, ◌++◌, length, take, replicate, arith, refl, sym, ap, ap₂, append-nil}
use Rattle.std.specs.Prelude.{Err}
use Rattle.std.specs.Int.{w16, from_be_bytes}
use Rattle.std.proofs.lemmas.List.{length-append, length-replicate, take-replicate, drop-replicate}
use Rattle.file_carry.specs.Parts.{count_of, header, filled, content_of, part_of, parts_from, cut}
use Rattle.file_carry.specs.Boxes.{id_in, count_in, content_in, is_part, before, joined, join}
use Rattle.file_carry.proofs.CutLaws.{content_length, is_its_part, cut_joins}
use Rattle.file_carry.proofs.BoxLaws.{fields_of}
use Rattle.file_carry.specs.Carried.{Journal, AreCarried, bytes_given, result_at, answers}
use Rattle.file_carry.specs.CarriedLaws.{AnswersJoin, UnwrittenIsMissing}
use Rattle.file_carry.proofs.Journals.{parts_are_given, zeros_are_given}

part_size : (file : List ℕ) (id width index : ℕ) → 16 ≤ width → length (part_of file id width index) ≡ width
unfolding part_of
part_size file id width index h =
    let room : ℕ = width - 16 in
    let content : List ℕ = content_of file room index in
    let fits : length content ≤ room = omega (arith, content_length file room index) in
    let len : length (filled room content) ≡ room =
    omega (arith, length-append content (replicate (room - length content) 0), length-replicate {A = ℕ} (room - length content) 0) in
    omega (arith, len, length-append (header id index (count_of (length file) room) (length content)) (filled room content))

-- the reads give the parts
answers_are : (j : Journal) (file : List ℕ) (id index : ℕ) (addresses reads : List ℕ) → 16 ≤ j.width
    → AreCarried j file id index addresses reads
    → answers j reads ≡ parts_from file id j.width index (length addresses)
answers_are j file id index [] [] h c = refl
answers_are j file id index [] (read ∷ reads) h c = absurd c
answers_are j file id index (address ∷ addresses) [] h c = absurd c
answers_are j file id index (address ∷ addresses) (read ∷ reads) h c =
    let given = parts_are_given j address (part_of file id j.width index) read c.0 (part_size file id j.width index h) in
    ap₂ (λ (x : List ℕ) (xs : List (List ℕ)). x ∷ xs) (ap bytes_given given.result)
    (answers_are j file id (index + 1) addresses reads h c.1)

pub answers_join : AnswersJoin
unfolding cut
answers_join j file id addresses reads can many c =
    let least : 32 ≤ j.width = can.1.0 in
    ap join (answers_are j file id 0 addresses reads (omega (arith, least)) c)
    ∙ ap (λ n. join (parts_from file id j.width 0 n)) many
    ∙ ap join (sym (append-nil (cut file id j.width)))
    ∙ cut_joins file id j.width [] can.0 least can.1.1.1 can.2

-- ---- a box to which nothing was written

zeros_count : (width : ℕ) → 16 ≤ width → count_in (replicate width 0) ≡ 0
zeros_count width h =
    ap (λ (xs : List ℕ). from_be_bytes w16 (take 2 xs)) (drop-replicate 10 width 0)
    ∙ ap (from_be_bytes w16) (take-replicate 2 (width - 10) 0 (omega arith))

never : (b : Bool) → (b ≡ true → ⊥) → b ≡ false
never true fails = absurd (fails refl)
never false fails = refl

zeros_are_no_part : (id count index width : ℕ) → 16 ≤ width
    → is_part id count index (replicate width 0) ≡ false
zeros_are_no_part id count index width h =
    never (is_part id count index (replicate width 0))
    (λ t. let f = fields_of id count index (replicate width 0) t in omega (arith, f.below, f.count_is, zeros_count width h))

module _ (file : List ℕ) (id width : ℕ) (id_fits : id < 2 ^ 64) (least : 32 ≤ width) (most : width ≤ 4096)
    (few : count_of (length file) (width - 16) ≤ 4096) (box : List ℕ) (more : List (List ℕ)) where
  -- joining stops at the first box that isn't its part
  stops : (n k index place : ℕ) → index + n ≡ count_of (length file) (width - 16) → index + k ≡ place
      → place < count_of (length file) (width - 16)
      → is_part id (count_of (length file) (width - 16)) place box ≡ false
      → joined id (count_of (length file) (width - 16)) index n (parts_from file id width index k ++ box ∷ more) ≡ Err place
  stops zero k index place e p l fails = absurd (omega arith)
  stops (suc n) zero index place e p l fails =
      let count : ℕ = count_of (length file) (width - 16) in
      let same : index ≡ place = omega arith in
      ap (λ i. cond (is_part id count i box) (before (content_in box) (joined id count (index + 1) n more)) (Err i)) same
      ∙ ap (λ b. cond b (before (content_in box) (joined id count (index + 1) n more)) (Err place)) fails
  stops (suc n) (suc k) index place e p l fails =
      let count : ℕ = count_of (length file) (width - 16) in
      let part : List ℕ = part_of file id width index in
      ap (λ b. cond b (before (content_in part) (joined id count (index + 1) n (parts_from file id width (index + 1) k ++ box ∷ more))) (Err index))
      (is_its_part file id width id_fits least most few index (omega arith))
      ∙ ap (before (content_in part)) (stops n k (index + 1) place (omega arith) (omega arith) l fails)

  join_stops : (k : ℕ) → k < count_of (length file) (width - 16) → box ≡ replicate width 0
      → join (parts_from file id width 0 k ++ box ∷ more) ≡ Err k
  unfolding join
  join_stops zero l zeros =
      let count_is : count_in box ≡ 0 = ap count_in zeros ∙ zeros_count width (omega arith) in
      let one : max 1 (count_in box) ≡ 1 = omega (arith, count_is) in
      let fails : is_part (id_in box) (count_in box) 0 box ≡ false =
      ap (is_part (id_in box) (count_in box) 0) zeros ∙ zeros_are_no_part (id_in box) (count_in box) 0 width (omega arith) in
      ap (λ n. joined (id_in box) (count_in box) 0 n (box ∷ more)) one
      ∙ ap (λ b. cond b (before (content_in box) (joined (id_in box) (count_in box) 1 0 more)) (Err 0)) fails
  join_stops (suc k) l zeros =
      let count : ℕ = count_of (length file) (width - 16) in
      let first : List ℕ = part_of file id width 0 in
      let boxes : List (List ℕ) = parts_from file id width 0 (suc k) ++ box ∷ more in
      let f = fields_of id count 0 first (is_its_part file id width id_fits least most few 0 (omega arith)) in
      let n_is : max 1 (count_in first) ≡ count = omega (arith, f.count_is, f.below) in
      let fails : is_part id count (suc k) box ≡ false =
      ap (is_part id count (suc k)) zeros ∙ zeros_are_no_part id count (suc k) width (omega arith) in
      ap (λ n. joined (id_in first) (count_in first) 0 n boxes) n_is
      ∙ ap (λ i. joined i (count_in first) 0 count boxes) f.id_is
      ∙ ap (λ n. joined id n 0 count boxes) f.count_is
      ∙ stops count (suc k) 0 (suc k) (omega arith) (omega arith) l fails

answers_append : (j : Journal) (reads more : List ℕ)
    → answers j (reads ++ more) ≡ answers j reads ++ answers j more
answers_append j [] more = refl
answers_append j (read ∷ reads) more =
    ap (λ (xs : List (List ℕ)). bytes_given (result_at j read) ∷ xs) (answers_append j reads more)

pub unwritten_is_missing : UnwrittenIsMissing
unwritten_is_missing j file id addresses reads read more can fewer c u =
    let least : 32 ≤ j.width = can.1.0 in
    let box : List ℕ = bytes_given (result_at j read) in
    let zeros : box ≡ replicate j.width 0 = ap bytes_given (zeros_are_given j read u) in
    ap join (answers_append j reads (read ∷ more))
    ∙ ap (λ (xs : List (List ℕ)). join (xs ++ box ∷ answers j more))
    (answers_are j file id 0 addresses reads (omega (arith, least)) c)
    ∙ join_stops file id j.width can.0 least can.1.1.1 can.2 box (answers j more) (length addresses) fewer zeros
