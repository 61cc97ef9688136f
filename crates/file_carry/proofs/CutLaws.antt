-- Why the parts of a file join to it.
use Rattle.std.proofs.Common.{◌≡◌, ℕ, zero, suc, ◌+◌, ◌-◌, ◌*◌, ◌^◌, ◌<◌, ◌≤◌, max, min, leb, eqb, inl, inr, true, ◌||◌, cond, List, ◌++◌, length, take, drop, replicate, refl, ap, sym, ◌∙◌, arith}
use Rattle.std.specs.Prelude.{Ok, Err}
use Rattle.std.specs.Int.{div_ceil}
use Rattle.std.proofs.lemmas.Nat.{mul-le, from_be_bytes-to_be_bytes_2, from_be_bytes-to_be_bytes_8}
use Rattle.std.proofs.lemmas.Bool.{eq-eqb, le-leb, lt-ltb, ne_eqb, cases_lt, cases_eq, and_from, or_left, or_right}
use Rattle.std.proofs.lemmas.Grind.{div_ceil_times}
use Rattle.std.proofs.lemmas.List.{take_at, drop_at, length-append, length-take, length-drop, drop-drop, take-append-drop, drop_all, length-replicate}
use Rattle.file_carry.specs.Parts.{count_of, header, filled, content_of, part_of, parts_from, cut}
use Rattle.file_carry.specs.Boxes.{id_in, index_in, count_in, used_in, content_in, is_zeros, is_use, is_part, before, joined, join}

-- a part of these fields, whatever is behind them
abbrev pub fields : ℕ → ℕ → ℕ → ℕ → List ℕ → List ℕ
fields id index count used rest = header id index count used ++ rest

pub id_read : (id index count used : ℕ) (rest : List ℕ) → id < 2 ^ 64 → id_in (fields id index count used rest) ≡ id
id_read id index count used rest h = from_be_bytes-to_be_bytes_8 id h

pub index_read : (id index count used : ℕ) (rest : List ℕ) → index < 2 ^ 16 → index_in (fields id index count used rest) ≡ index
index_read id index count used rest h = from_be_bytes-to_be_bytes_2 index h

pub count_read : (id index count used : ℕ) (rest : List ℕ) → count < 2 ^ 16 → count_in (fields id index count used rest) ≡ count
count_read id index count used rest h = from_be_bytes-to_be_bytes_2 count h

pub used_read : (id index count used : ℕ) (rest : List ℕ) → used < 2 ^ 16 → used_in (fields id index count used rest) ≡ used
used_read id index count used rest h = from_be_bytes-to_be_bytes_2 used h

pub behind : (id index count used : ℕ) (rest : List ℕ) → drop 16 (fields id index count used rest) ≡ rest
behind id index count used rest = refl

pub zeros_are : (n : ℕ) → is_zeros (replicate n 0) ≡ true
zeros_are zero = refl
zeros_are (suc n) = zeros_are n

-- what is written at the front of a box is a part
pub part_holds : (id index count room : ℕ) (content : List ℕ) → id < 2 ^ 64 → count < 2 ^ 16 → room < 2 ^ 16 → index < count → length content ≤ room →
    is_use room index count (length content) ≡ true → is_part id count index (fields id index count (length content) (filled room content)) ≡ true
unfolding is_part
part_holds id index count room content id_fits count_fits room_fits below fits full =
    let used : ℕ = length content in
    let box : List ℕ = fields id index count used (filled room content) in
    let used_is : used_in box ≡ used = used_read id index count used (filled room content) (omega arith) in
    let len : length (filled room content) ≡ room = omega (arith, length-append content (replicate (room - used) 0), length-replicate {A = ℕ} (room - used) 0) in
    let left : length box - 16 ≡ room = omega (arith, len, length-append (header id index count used) (filled room content)) in
    let tail : drop (used_in box) (drop 16 box) ≡ replicate (room - used) 0 = ap (λ n. drop n (filled room content)) used_is ∙ drop_at content (replicate (room - used) 0) used refl in
    and_from _ _ (lt-ltb index count below)
    (and_from _ _ (eq-eqb _ _ (id_read id index count used (filled room content) id_fits))
    (and_from _ _ (eq-eqb _ _ (index_read id index count used (filled room content) (omega arith)))
    (and_from _ _ (eq-eqb _ _ (count_read id index count used (filled room content) count_fits))
    (and_from _ _ (ap (λ n. is_use n index count (used_in box)) left ∙ ap (is_use room index count) used_is ∙ full)
    (and_from _ _ refl (ap is_zeros tail ∙ zeros_are (room - used)))))))

pub content_read : (id index count room : ℕ) (content : List ℕ) → length content < 2 ^ 16 → content_in (fields id index count (length content) (filled room content)) ≡ content
content_read id index count room content h =
    ap (λ n. take n (filled room content)) (used_read id index count (length content) (filled room content) h) ∙ take_at content (replicate (room - length content) 0) (length content) refl

-- ---- how many parts there are

pub covers : (len room : ℕ) → 0 < room → len ≤ count_of len room * room
unfolding count_of
covers len room h =
    let c : ℕ = div_ceil len room in
    let b : len ≤ c * room = (div_ceil_times len room h).0 in
    elim (cases_lt c 1) as (λ _. len ≤ max 1 c * room) [
      | inl few ↦ (let z : c ≡ 0 = omega arith in let m : max 1 c ≡ 1 = omega arith in let n = rw z at b in rw m (omega (arith, n)))
      | inr more ↦ (let m : max 1 c ≡ c = omega arith in rw m b)
    ]

pub reaches : (len room index : ℕ) → 0 < room → index + 1 < count_of len room → (index + 1) * room ≤ len
unfolding count_of
reaches len room index h below =
    let c : ℕ = div_ceil len room in
    let b : c * room < len + room = (div_ceil_times len room h).1 in
    let le : index + 2 ≤ c = omega arith in
    let more : (index + 2) * room ≤ c * room = mul-le (index + 2) room c room le (omega arith) in
    omega (arith, b, more)

pub starts : (len room index : ℕ) → 0 < room → index < count_of len room → index * room ≤ len
starts len room zero h below = omega arith
starts len room (suc k) h below =
    let more = reaches len room k h (omega arith) in
    let is : suc k * room ≡ (k + 1) * room = omega arith in
    rw is more

pub last_used : (len room index : ℕ) → 0 < room → index + 1 ≡ count_of len room → 1 ≤ index → index * room < len
unfolding count_of
last_used len room index h last above =
    let c : ℕ = div_ceil len room in
    let b : c * room < len + room = (div_ceil_times len room h).1 in
    let is : c ≡ index + 1 = omega arith in
    let more : (index + 1) * room < len + room = rw is at b in
    omega (arith, more)

pub content_length : (file : List ℕ) (room index : ℕ) → length (content_of file room index) ≡ min room (length file - index * room)
content_length file room index = omega (arith, length-take room (drop (index * room) file), length-drop (index * room) file)

pub use_holds : (file : List ℕ) (room index : ℕ) → 0 < room → index < count_of (length file) room → is_use room index (count_of (length file) room) (length (content_of file room index)) ≡ true
use_holds file room index h below =
    let len : ℕ = length file in
    let count : ℕ = count_of len room in
    let used : ℕ = length (content_of file room index) in
    let used_is : used ≡ min room (len - index * room) = content_length file room index in
    elim (cases_eq (index + 1) count) as (λ _. is_use room index count used ≡ true) [
      | inl last ↦
          rw (eq-eqb (index + 1) count last)
          (and_from (leb used room) _ (le-leb used room (omega (arith, used_is)))
          (elim (cases_lt index 1) as (λ _. (leb 1 used || eqb index 0) ≡ true) [
            | inl first ↦ or_right _ _ (eq-eqb index 0 (omega arith))
            | inr above ↦ or_left _ _ (le-leb 1 used (omega (arith, used_is, last_used len room index h last above)))
          ]))
      | inr more ↦
          rw (ne_eqb (index + 1) count more)
          (eq-eqb used room (omega (arith, used_is, reaches len room index h (omega arith))))
    ]

-- the parts from an index on join to what the file has from there on
module _ (file : List ℕ) (id width : ℕ) (id_fits : id < 2 ^ 64) (least : 32 ≤ width) (most : width ≤ 4096) (few : count_of (length file) (width - 16) ≤ 4096) where
  pub is_its_part : (index : ℕ) → index < count_of (length file) (width - 16) → is_part id (count_of (length file) (width - 16)) index (part_of file id width index) ≡ true
  unfolding part_of
  is_its_part index below =
      let content : List ℕ = content_of file (width - 16) index in
      let fits : length content ≤ width - 16 = omega (arith, content_length file (width - 16) index) in
      part_holds id index (count_of (length file) (width - 16)) (width - 16) content id_fits (omega arith) (omega arith) below fits (use_holds file (width - 16) index (omega arith) below)

  pub its_content : (index : ℕ) → content_in (part_of file id width index) ≡ content_of file (width - 16) index
  unfolding part_of
  its_content index =
      let content : List ℕ = content_of file (width - 16) index in
      let fits : length content ≤ width - 16 = omega (arith, content_length file (width - 16) index) in
      content_read id index (count_of (length file) (width - 16)) (width - 16) content (omega arith)

  pub joins_from : (n index : ℕ) (more : List (List ℕ)) → index + n ≡ count_of (length file) (width - 16) →
      joined id (count_of (length file) (width - 16)) index n (parts_from file id width index n ++ more) ≡ Ok (drop (index * (width - 16)) file)
  joins_from zero index more e =
      let is : count_of (length file) (width - 16) ≡ index = omega arith in
      let cover = covers (length file) (width - 16) (omega arith) in
      let all : length file ≤ index * (width - 16) = rw is at cover in
      ap Ok (sym (drop_all (index * (width - 16)) file all))
  joins_from (suc n) index more e =
      let room : ℕ = width - 16 in
      let count : ℕ = count_of (length file) (width - 16) in
      let part : List ℕ = part_of file id width index in
      let later = joins_from n (index + 1) more (omega arith) in
      let next : drop room (drop (index * room) file) ≡ drop ((index + 1) * room) file = drop-drop room (index * room) file ∙ ap (λ k. drop k file) (omega arith) in
      let whole : content_of file room index ++ drop ((index + 1) * room) file ≡ drop (index * room) file =
      ap (λ (t : List ℕ). content_of file room index ++ t) (sym next) ∙ take-append-drop room (drop (index * room) file) in
      ap (λ b. cond b (before (content_in part) (joined id count (index + 1) n (parts_from file id width (index + 1) n ++ more))) (Err index)) (is_its_part index (omega arith))
      ∙ ap (before (content_in part)) later
      ∙ ap (λ (t : List ℕ). Ok (t ++ drop ((index + 1) * room) file)) (its_content index)
      ∙ ap Ok whole

first_id : (file : List ℕ) (id width index : ℕ) → id < 2 ^ 64 → id_in (part_of file id width index) ≡ id
unfolding part_of
first_id file id width index h = id_read id index (count_of (length file) (width - 16)) (length (content_of file (width - 16) index)) (filled (width - 16) (content_of file (width - 16) index)) h

first_count : (file : List ℕ) (id width index : ℕ) → count_of (length file) (width - 16) < 2 ^ 16 → count_in (part_of file id width index) ≡ count_of (length file) (width - 16)
unfolding part_of
first_count file id width index h = count_read id index (count_of (length file) (width - 16)) (length (content_of file (width - 16) index)) (filled (width - 16) (content_of file (width - 16) index)) h

counted : (len room : ℕ) → 1 ≤ count_of len room
unfolding count_of
counted len room = omega arith

none : (n : ℕ) → 0 * n ≡ 0
none n = omega arith

joins_all : (file : List ℕ) (id width n : ℕ) (more : List (List ℕ)) → id < 2 ^ 64 → 32 ≤ width → width ≤ 4096 → count_of (length file) (width - 16) ≤ 4096 →
    suc n ≡ count_of (length file) (width - 16) → join (parts_from file id width 0 (suc n) ++ more) ≡ Ok file
unfolding join
joins_all file id width n more id_fits least most few e =
    let count : ℕ = count_of (length file) (width - 16) in
    let parts : List (List ℕ) = parts_from file id width 0 (suc n) ++ more in
    let box : List ℕ = part_of file id width 0 in
    let count_is : count_in box ≡ count = first_count file id width 0 (omega arith) in
    let n_is : max 1 (count_in box) ≡ suc n = omega (arith, count_is) in
    ap (λ k. joined (id_in box) (count_in box) 0 k parts) n_is
    ∙ ap (λ k. joined k (count_in box) 0 (suc n) parts) (first_id file id width 0 id_fits)
    ∙ ap (λ k. joined id k 0 (suc n) parts) count_is
    ∙ joins_from file id width id_fits least most few (suc n) 0 more (omega arith)
    ∙ ap (λ k. Ok (drop k file)) (none (width - 16))

pub cut_joins : (file : List ℕ) (id width : ℕ) (more : List (List ℕ)) → id < 2 ^ 64 → 32 ≤ width → width ≤ 4096 → count_of (length file) (width - 16) ≤ 4096 → join (cut file id width ++ more) ≡ Ok file
unfolding cut
cut_joins file id width more id_fits least most few =
    let count : ℕ = count_of (length file) (width - 16) in
    let some : 1 ≤ count = counted (length file) (width - 16) in
    let is : suc (count - 1) ≡ count = omega arith in
    ap (λ k. join (parts_from file id width 0 k ++ more)) (sym is) ∙ joins_all file id width (count - 1) more id_fits least most few is

-- a header written before the filled content
pub part_made : (file : List ℕ) (id width index count k : ℕ) (content head body : List ℕ) → count ≡ count_of (length file) (width - 16) → content ≡ content_of file (width - 16) index → k ≡ width - 16 →
    head ≡ header id index count (length content) → body ≡ filled k content → head ++ body ≡ part_of file id width index
unfolding part_of
part_made file id width index count k content head body count_is content_is k_is head_is body_is =
    ap (λ (t : List ℕ). t ++ body) head_is
    ∙ ap (λ (t : List ℕ). header id index count (length content) ++ t) body_is
    ∙ ap (λ n. header id index count (length content) ++ filled n content) k_is
    ∙ ap (λ n. header id index n (length content) ++ filled (width - 16) content) count_is
    ∙ ap (λ (t : List ℕ). header id index (count_of (length file) (width - 16)) (length t) ++ filled (width - 16) t) content_is
