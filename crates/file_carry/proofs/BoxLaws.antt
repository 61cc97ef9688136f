-- Why boxes that join to a file begin with its parts, and why the box that is named is the first that is missing.
use Rattle.std.proofs.Common.{◌≡◌, ℕ, zero, suc, ◌+◌, ◌-◌, ◌*◌, ◌^◌, ◌<◌, ◌≤◌, max, ltb, leb, eqb, inl, inr, Bool, true, false, ◌&&◌, ◌||◌, cond, List, [], ◌∷◌, ◌++◌, length, get_or, take, drop, replicate, refl, ap, sym, subst, ◌∙◌, arith, append_assoc}
use Rattle.std.specs.Prelude.{All, Result, Ok, Err, ◌⊎◌}
use Rattle.std.specs.Int.{w16, w64, div_ceil, to_be_bytes, from_be_bytes}
use Rattle.std.proofs.lemmas.Nat.{mul-le, be_bytes_2, be_bytes_8}
use Rattle.std.proofs.lemmas.Bool.{true≢false, eqb-true, leb-true, ltb-true, eq-eqb, ne_eqb, cases_lt, cases_eq, and_parts, or_cases}
use Rattle.std.proofs.lemmas.Grind.{div_ceil_times}
use Rattle.std.proofs.lemmas.List.{take_at, drop_at, take_all, length-append, length-take, length-drop, drop-drop, take-append-drop, append-nil}
use Rattle.std.proofs.lemmas.List.Elements.{All-head, All-tail, All-take, All-drop}
use Rattle.file_carry.specs.Parts.{count_of, header, filled, content_of, part_of, parts_from, cut}
use Rattle.file_carry.specs.Boxes.{id_in, index_in, count_in, used_in, content_in, is_zeros, is_use, is_part, before, joined, join}
use Rattle.file_carry.specs.Laws.{AreBoxes, IsMissing, JoinedFilesAreCut, FirstMissingIsNamed}
use Rattle.file_carry.proofs.CutLaws.{part_made}

-- ---- the fields of a part

-- where used bytes end in the room of a part
abbrev pub IsUse : ℕ → ℕ → ℕ → ℕ → Type 0
IsUse room index count used =
    (used ≤ room) × (index + 1 ≡ count → (1 ≤ used) ⊎ (index ≡ 0)) × ((index + 1 ≡ count → ⊥) → used ≡ room)

use_is : (room index count used : ℕ) → is_use room index count used ≡ true → IsUse room index count used
use_is room index count used h = elim (cases_eq (index + 1) count) [
  | inl last ↦
      (let t = rw (eq-eqb (index + 1) count last) at h in
      let p = and_parts (leb used room) (leb 1 used || eqb index 0) t in (
        leb-true used room p.0,
        (λ _. elim (or_cases (leb 1 used) (eqb index 0) p.1) [ inl some ↦ inl (leb-true 1 used some) | inr first ↦ inr (eqb-true index 0 first) ]),
        (λ no. absurd (no last)),
      ))
  | inr more ↦
      (let t = rw (ne_eqb (index + 1) count more) at h in
      let all : used ≡ room = eqb-true used room t in
      (omega arith, (λ last. absurd (more last)), (λ _. all)))
]

pub record Fields (id count index : ℕ) (box : List ℕ) : Type 0 where
  pub below : index < count
  pub id_is : id_in box ≡ id
  pub index_is : index_in box ≡ index
  pub count_is : count_in box ≡ count
  pub usage : IsUse (length box - 16) index count (used_in box)
  pub zeros : is_zeros (take 2 (drop 14 box)) ≡ true
  pub rest : is_zeros (drop (used_in box) (drop 16 box)) ≡ true

each : (a b c d e f g : Bool) → (a && (b && (c && (d && (e && (f && g)))))) ≡ true →
    (a ≡ true) × (b ≡ true) × (c ≡ true) × (d ≡ true) × (e ≡ true) × (f ≡ true) × (g ≡ true)
each a b c d e f g h =
    let p = and_parts a _ h in
    let q = and_parts b _ p.1 in
    let r = and_parts c _ q.1 in
    let s = and_parts d _ r.1 in
    let t = and_parts e _ s.1 in
    let u = and_parts f g t.1 in
    (p.0, q.0, r.0, s.0, t.0, u.0, u.1)

pub fields_of : (id count index : ℕ) (box : List ℕ) → is_part id count index box ≡ true → Fields id count index box
unfolding is_part
fields_of id count index box h =
    let p = each (ltb index count) (eqb (id_in box) id) (eqb (index_in box) index) (eqb (count_in box) count) (is_use (length box - 16) index count (used_in box)) (is_zeros (take 2 (drop 14 box))) (is_zeros (drop (used_in box) (drop 16 box))) h in
    record {
      below = ltb-true index count p.0;
      id_is = eqb-true (id_in box) id p.1;
      index_is = eqb-true (index_in box) index p.2;
      count_is = eqb-true (count_in box) count p.3;
      usage = use_is (length box - 16) index count (used_in box) p.4;
      zeros = p.5;
      rest = p.6;
    }

-- ---- a part has one spelling

zeros_are : (bytes : List ℕ) → is_zeros bytes ≡ true → replicate (length bytes) 0 ≡ bytes
zeros_are [] h = refl
zeros_are (b ∷ bytes) h =
    let p = and_parts (eqb b 0) (is_zeros bytes) h in
    let first : 0 ≡ b = sym (eqb-true b 0 p.0) in
    ap (λ n. n ∷ replicate (length bytes) 0) first ∙ ap (λ (t : List ℕ). b ∷ t) (zeros_are bytes p.1)

abbrev pub IsBytes : List ℕ → Type 0
IsBytes bytes = All (λ b. b < 256) bytes

byte_at : (bytes : List ℕ) → IsBytes bytes → (i : ℕ) → get_or bytes i 0 < 256
byte_at [] h i = omega arith
byte_at (b ∷ bytes) h zero = h 0 0 (omega arith)
byte_at (b ∷ bytes) h (suc i) = byte_at bytes (All-tail (λ b. b < 256) b bytes h) i

field_length : (n m : ℕ) (box : List ℕ) → n + m ≤ length box → length (take m (drop n box)) ≡ m
field_length n m box h = omega (arith, length-take m (drop n box), length-drop n box)

field_byte : (n m : ℕ) (box : List ℕ) → IsBytes box → (i : ℕ) → get_or (take m (drop n box)) i 0 < 256
field_byte n m box h = byte_at (take m (drop n box)) (All-take (λ b. b < 256) m (drop n box) (All-drop (λ b. b < 256) n box h))

field_first : (n m : ℕ) (box : List ℕ) → take m (drop n box) ++ drop (n + m) box ≡ drop n box
field_first n m box = ap (λ (t : List ℕ). take m (drop n box) ++ t) (sym (drop-drop m n box)) ∙ take-append-drop m (drop n box)

two_zeros : (bytes : List ℕ) → length bytes ≡ 2 → is_zeros bytes ≡ true → 0 ∷ 0 ∷ [] ≡ bytes
two_zeros bytes len h = ap (λ n. replicate n 0) (sym len) ∙ zeros_are bytes h

header_is : (box : List ℕ) → IsBytes box → 16 ≤ length box → is_zeros (take 2 (drop 14 box)) ≡ true →
    header (id_in box) (index_in box) (count_in box) (used_in box) ++ drop 16 box ≡ box
header_is box bytes len zeros =
    let id : to_be_bytes w64 (id_in box) ≡ take 8 (drop 0 box) = be_bytes_8 (take 8 (drop 0 box)) (id_in box) (field_length 0 8 box (omega arith)) (field_byte 0 8 box bytes) refl in
    let index : to_be_bytes w16 (index_in box) ≡ take 2 (drop 8 box) = be_bytes_2 (take 2 (drop 8 box)) (index_in box) (field_length 8 2 box (omega arith)) (field_byte 8 2 box bytes) refl in
    let count : to_be_bytes w16 (count_in box) ≡ take 2 (drop 10 box) = be_bytes_2 (take 2 (drop 10 box)) (count_in box) (field_length 10 2 box (omega arith)) (field_byte 10 2 box bytes) refl in
    let used : to_be_bytes w16 (used_in box) ≡ take 2 (drop 12 box) = be_bytes_2 (take 2 (drop 12 box)) (used_in box) (field_length 12 2 box (omega arith)) (field_byte 12 2 box bytes) refl in
    let none : 0 ∷ 0 ∷ [] ≡ take 2 (drop 14 box) = two_zeros (take 2 (drop 14 box)) (field_length 14 2 box (omega arith)) zeros in
    glued box (to_be_bytes w64 (id_in box)) (to_be_bytes w16 (index_in box)) (to_be_bytes w16 (count_in box)) (to_be_bytes w16 (used_in box)) (0 ∷ 0 ∷ []) id index count used none
  where
    glued : (box a b c d e : List ℕ) → a ≡ take 8 (drop 0 box) → b ≡ take 2 (drop 8 box) → c ≡ take 2 (drop 10 box) → d ≡ take 2 (drop 12 box) → e ≡ take 2 (drop 14 box) →
        (a ++ (b ++ (c ++ (d ++ e)))) ++ drop 16 box ≡ box
    glued box a b c d e p q r s t =
        append_assoc a (b ++ (c ++ (d ++ e))) (drop 16 box)
        ∙ ap (λ (x : List ℕ). a ++ x) (append_assoc b (c ++ (d ++ e)) (drop 16 box)
        ∙ ap (λ (x : List ℕ). b ++ x) (append_assoc c (d ++ e) (drop 16 box)
        ∙ ap (λ (x : List ℕ). c ++ x) (append_assoc d e (drop 16 box)
        ∙ ap (λ (x : List ℕ). d ++ x) (ap (λ (x : List ℕ). x ++ drop 16 box) t ∙ field_first 14 2 box)
        ∙ ap (λ (x : List ℕ). x ++ drop 14 box) s ∙ field_first 12 2 box)
        ∙ ap (λ (x : List ℕ). x ++ drop 12 box) r ∙ field_first 10 2 box)
        ∙ ap (λ (x : List ℕ). x ++ drop 10 box) q ∙ field_first 8 2 box)
        ∙ ap (λ (x : List ℕ). x ++ drop 8 box) p ∙ field_first 0 8 box

content_length : (box : List ℕ) → used_in box ≤ length box - 16 → length (content_in box) ≡ used_in box
content_length box h = omega (arith, length-take (used_in box) (drop 16 box), length-drop 16 box)

-- the zeros behind the content
zeros_behind : (front back : List ℕ) (room : ℕ) → room - length front ≡ length back → is_zeros back ≡ true → filled room front ≡ front ++ back
zeros_behind front back room left zeros = ap (λ n. front ++ replicate n 0) left ∙ ap (λ (t : List ℕ). front ++ t) (zeros_are back zeros)

filled_front : (body : List ℕ) (used room : ℕ) → used ≤ room → length body ≡ room → is_zeros (drop used body) ≡ true → filled room (take used body) ≡ body
filled_front body used room fits len zeros =
    zeros_behind (take used body) (drop used body) room (omega (arith, length-take used body, length-drop used body)) zeros ∙ take-append-drop used body

filled_is : (box : List ℕ) (used : ℕ) → used ≤ length box - 16 → is_zeros (drop used (drop 16 box)) ≡ true → filled (length box - 16) (take used (drop 16 box)) ≡ drop 16 box
filled_is box used fits zeros = filled_front (drop 16 box) used (length box - 16) fits (length-drop 16 box) zeros

pub spelled : (id count index : ℕ) (box : List ℕ) → IsBytes box → 16 ≤ length box → Fields id count index box →
    box ≡ header id index count (length (content_in box)) ++ filled (length box - 16) (content_in box)
spelled id count index box bytes len f =
    let body : filled (length box - 16) (content_in box) ≡ drop 16 box = filled_is box (used_in box) f.usage.0 f.rest in
    sym (header_is box bytes len f.zeros)
    ∙ ap (λ (t : List ℕ). header (id_in box) (index_in box) (count_in box) (used_in box) ++ t) (sym body)
    ∙ named (id_in box) (index_in box) (count_in box) (used_in box) id index count (length (content_in box)) (filled (length box - 16) (content_in box)) f.id_is f.index_is f.count_is (sym (content_length box f.usage.0))
  where
    named : (a b c d a' b' c' d' : ℕ) (body : List ℕ) → a ≡ a' → b ≡ b' → c ≡ c' → d ≡ d' → header a b c d ++ body ≡ header a' b' c' d' ++ body
    named a b c d a' b' c' d' body p q r s =
        ap (λ n. header n b c d ++ body) p ∙ ap (λ n. header a' n c d ++ body) q ∙ ap (λ n. header a' b' n d ++ body) r ∙ ap (λ n. header a' b' c' n ++ body) s

-- ---- one step of joining

record Step (id count index n : ℕ) (box : List ℕ) (boxes : List (List ℕ)) (rest : List ℕ) : Type 0 where
  holds : is_part id count index box ≡ true
  tail : List ℕ
  later : joined id count (index + 1) n boxes ≡ Ok tail
  whole : rest ≡ content_in box ++ tail

step : (id count index n : ℕ) (box : List ℕ) (boxes : List (List ℕ)) (rest : List ℕ) → joined id count index (suc n) (box ∷ boxes) ≡ Ok rest → Step id count index n box boxes rest
step id count index n box boxes rest h = go (is_part id count index box) (joined id count (index + 1) n boxes) refl refl h where
  go : (b : Bool) (r : Result (List ℕ) ℕ) → is_part id count index box ≡ b → joined id count (index + 1) n boxes ≡ r → cond b (before (content_in box) r) (Err index) ≡ Ok rest → Step id count index n box boxes rest
  go true (Ok tail) p q e = record { holds = p; tail = tail; later = q; whole = cc }
  go true (Err i) p q e = cc
  go false r p q e = cc

-- ---- how long the file is

-- so many bytes end in the last of some parts, which stands so many behind the first; the first has this index
abbrev pub Ends : ℕ → ℕ → ℕ → ℕ → Type 0
Ends room index last len = (len ≤ suc last * room) × ((last * room < len) ⊎ ((index ≡ 0) × (last ≡ 0)))

not_below : (len room c last : ℕ) → last * room < len → len ≤ c * room → c ≤ last → ⊥
not_below len room c last more reach h =
    let le : c * room ≤ last * room = mul-le c room last room h (omega arith) in
    omega arith

not_above : (len room c last : ℕ) → len ≤ suc last * room → c * room < len + room → suc last < c → ⊥
not_above len room c last most reach h =
    let le : suc (suc last) * room ≤ c * room = mul-le (suc (suc last)) room c room h (omega arith) in
    omega arith

counted : (len room last : ℕ) → 0 < room → Ends room 0 last len → count_of len room ≡ suc last
unfolding count_of
counted len room last some ends =
    let c : ℕ = div_ceil len room in
    let b : (len ≤ c * room) × (c * room < len + room) = div_ceil_times len room some in
    let most : c ≤ suc last = elim (cases_lt (suc last) c) [ inl h ↦ absurd (not_above len room c last ends.0 b.1 h) | inr h ↦ h ] in
    elim ends.1 [
      | inl more ↦ (let above : last < c = elim (cases_lt last c) [ inl h ↦ h | inr h ↦ absurd (not_below len room c last more b.0 h) ] in omega arith)
      | inr one ↦ omega (arith, most, one.1)
    ]

module _ (id count width : ℕ) (least : 32 ≤ width) where
  abbrev pub room : ℕ
  room = width - 16

  first_sized : (box : List ℕ) (boxes : List (List ℕ)) → AreBoxes width (box ∷ boxes) → (length box ≡ width) × IsBytes box
  first_sized box boxes h = All-head (λ box. (length box ≡ width) × All (λ b. b < 256) box) box boxes h

  later_sized : (box : List ℕ) (boxes : List (List ℕ)) → AreBoxes width (box ∷ boxes) → AreBoxes width boxes
  later_sized box boxes h = All-tail (λ box. (length box ≡ width) × All (λ b. b < 256) box) box boxes h

  -- where the content of a part ends
  content_ends : (index : ℕ) (box : List ℕ) → length box ≡ width → Fields id count index box → IsUse room index count (length (content_in box))
  content_ends index box len f =
      let left : length box - 16 ≡ room = ap (λ n. n - 16) len in
      subst (λ n. IsUse room index count n) (sym (content_length box f.usage.0)) (subst (λ n. IsUse n index count (used_in box)) left f.usage)

  pub joined_length : (n index : ℕ) (boxes : List (List ℕ)) (rest : List ℕ) → index + suc n ≡ count → AreBoxes width boxes → joined id count index (suc n) boxes ≡ Ok rest → Ends room index n (length rest)
  joined_length n index [] rest e sized h = cc
  joined_length zero index (box ∷ boxes) rest e sized h =
      let s = step id count index zero box boxes rest h in
      let f = fields_of id count index box s.holds in
      let ends : IsUse room index count (length (content_in box)) = content_ends index box (first_sized box boxes sized).0 f in
      let none : [] ≡ s.tail = cc (s.later) in
      let len : length rest ≡ length (content_in box) = omega (arith, ap length s.whole, length-append (content_in box) s.tail, ap length none) in
      (omega (arith, ends.0, len), elim (ends.1 (omega arith)) [ inl some ↦ inl (omega (arith, len)) | inr first ↦ inr (first, refl) ])
  joined_length (suc m) index (box ∷ boxes) rest e sized h =
      let s = step id count index (suc m) box boxes rest h in
      let f = fields_of id count index box s.holds in
      let ends : IsUse room index count (length (content_in box)) = content_ends index box (first_sized box boxes sized).0 f in
      let whole : length (content_in box) ≡ room = ends.2 (λ last. omega arith) in
      let later : Ends room (index + 1) m (length s.tail) = joined_length m (index + 1) boxes s.tail (omega arith) (later_sized box boxes sized) s.later in
      let len : length rest ≡ room + length s.tail = omega (arith, ap length s.whole, length-append (content_in box) s.tail, whole) in
      (omega (arith, len, later.0), elim later.1 [ inl more ↦ inl (omega (arith, len, more)) | inr one ↦ absurd (omega (arith, one.0)) ])

  -- ---- which parts they are

  part_is : (index : ℕ) (box : List ℕ) (front rest : List ℕ) → length front ≡ index * room → count_of (length (front ++ rest)) room ≡ count → length box ≡ width → IsBytes box →
      Fields id count index box → take room rest ≡ content_in box → box ≡ part_of (front ++ rest) id width index
  part_is index box front rest len is wide bytes f own =
      let content : List ℕ = content_in box in
      let file : List ℕ = front ++ rest in
      let here : content ≡ content_of file room index = sym (ap (take room) (drop_at front rest (index * room) len) ∙ own) in
      spelled id count index box bytes (omega arith) f
      ∙ part_made file id width index count (length box - 16) content (header id index count (length content)) (filled (length box - 16) content) (sym is) here (ap (λ n. n - 16) wide) refl refl

  pub parts_are : (n index : ℕ) (boxes : List (List ℕ)) (front rest : List ℕ) → index + n ≡ count → length front ≡ index * room → count_of (length (front ++ rest)) room ≡ count → AreBoxes width boxes →
      joined id count index n boxes ≡ Ok rest → take n boxes ≡ parts_from (front ++ rest) id width index n
  parts_are zero index boxes front rest e len is sized h = refl
  parts_are (suc n) index [] front rest e len is sized h = cc
  parts_are (suc zero) index (box ∷ boxes) front rest e len is sized h =
      let s = step id count index zero box boxes rest h in
      let f = fields_of id count index box s.holds in
      let wide = first_sized box boxes sized in
      let content : List ℕ = content_in box in
      let ends : IsUse room index count (length content) = content_ends index box wide.0 f in
      let none : s.tail ≡ [] = cc (s.later) in
      let whole : rest ≡ content = s.whole ∙ ap (λ (t : List ℕ). content ++ t) none ∙ append-nil content in
      let own : take room rest ≡ content = ap (take room) whole ∙ take_all room content ends.0 in
      ap (λ (t : List ℕ). t ∷ []) (part_is index box front rest len is wide.0 wide.1 f own)
  parts_are (suc (suc m)) index (box ∷ boxes) front rest e len is sized h =
      let s = step id count index (suc m) box boxes rest h in
      let f = fields_of id count index box s.holds in
      let wide = first_sized box boxes sized in
      let content : List ℕ = content_in box in
      let ends : IsUse room index count (length content) = content_ends index box wide.0 f in
      let full : length content ≡ room = ends.2 (λ last. omega arith) in
      let own : take room rest ≡ content = ap (take room) s.whole ∙ take_at content s.tail room full in
      let same : (front ++ content) ++ s.tail ≡ front ++ rest = append_assoc front content s.tail ∙ ap (λ (t : List ℕ). front ++ t) (sym s.whole) in
      let long : length (front ++ content) ≡ (index + 1) * room = omega (arith, length-append front content, len, full) in
      let many : count_of (length ((front ++ content) ++ s.tail)) room ≡ count = ap (λ (t : List ℕ). count_of (length t) room) same ∙ is in
      let later = parts_are (suc m) (index + 1) boxes (front ++ content) s.tail (omega arith) long many (later_sized box boxes sized) s.later in
      ap (λ (t : List ℕ). t ∷ take (suc m) boxes) (part_is index box front rest len is wide.0 wide.1 f own)
      ∙ ap (λ (t : List (List ℕ)). part_of (front ++ rest) id width index ∷ t) (later ∙ ap (λ (t : List ℕ). parts_from t id width (index + 1) (suc m)) same)

id_below : (box : List ℕ) → IsBytes box → 16 ≤ length box → id_in box < 2 ^ 64
id_below box bytes len = eight (take 8 (drop 0 box)) (field_byte 0 8 box bytes)
  where
    eight : (bytes : List ℕ) → ((i : ℕ) → get_or bytes i 0 < 256) → from_be_bytes w64 bytes < 2 ^ 64
    eight bytes h = omega (arith, h 0, h 1, h 2, h 3, h 4, h 5, h 6, h 7)

join_nothing : join [] ≡ Err 0
unfolding join
join_nothing = refl

join_some : (box : List ℕ) (boxes : List (List ℕ)) → join (box ∷ boxes) ≡ joined (id_in box) (count_in box) 0 (max 1 (count_in box)) (box ∷ boxes)
unfolding join
join_some box boxes = refl

cut_of : (file : List ℕ) (id width count : ℕ) → count_of (length file) (width - 16) ≡ count → cut file id width ≡ parts_from file id width 0 count
unfolding cut
cut_of file id width count is = ap (parts_from file id width 0) is

pub joined_are_cut : JoinedFilesAreCut
joined_are_cut [] file width allowed sized h = cc (join_nothing)
joined_are_cut (box ∷ boxes) file width allowed sized h =
    let id : ℕ = id_in box in
    let count : ℕ = count_in box in
    let wide = first_sized 0 0 width allowed.0 box boxes sized in
    let all : joined id count 0 (max 1 count) (box ∷ boxes) ≡ Ok file = sym (join_some box boxes) ∙ h in
    let one : suc (max 1 count - 1) ≡ max 1 count = omega arith in
    let s = step id count 0 (max 1 count - 1) box boxes file (ap (λ n. joined id count 0 n (box ∷ boxes)) one ∙ all) in
    let f = fields_of id count 0 box s.holds in
    let below : 0 < count = f.below in
    let most : max 1 count ≡ count = omega arith in
    let back : suc (count - 1) ≡ count = omega arith in
    let whole : joined id count 0 count (box ∷ boxes) ≡ Ok file = ap (λ n. joined id count 0 n (box ∷ boxes)) (sym most) ∙ all in
    let again : joined id count 0 (suc (count - 1)) (box ∷ boxes) ≡ Ok file = ap (λ n. joined id count 0 n (box ∷ boxes)) back ∙ whole in
    let ends : Ends (width - 16) 0 (count - 1) (length file) = joined_length id count width allowed.0 (count - 1) 0 (box ∷ boxes) file (omega arith) sized again in
    let is : count_of (length file) (width - 16) ≡ count = counted (length file) (width - 16) (count - 1) (omega (arith, allowed.0)) ends ∙ back in
    let parts = parts_are id count width allowed.0 count 0 (box ∷ boxes) [] file (omega arith) (omega arith) is sized whole in
    (id, id_below box wide.1 (omega (arith, wide.0)), ap (λ n. take n (box ∷ boxes)) is ∙ parts ∙ sym (cut_of file id width count is))

-- ---- the first box that is missing

abbrev pub Gone : ℕ → ℕ → ℕ → List (List ℕ) → ℕ → Type 0
Gone id count start boxes k = (length boxes ≤ k) ⊎ (is_part id count (start + k) (get_or boxes k []) ≡ false)

pub record FirstGone (id count start : ℕ) (boxes : List (List ℕ)) (index : ℕ) : Type 0 where
  pub place : ℕ
  pub is : start + place ≡ index
  pub gone : Gone id count start boxes place
  pub least : (k : ℕ) → k < place → Gone id count start boxes k → ⊥

module _ (id count : ℕ) where
  stays_gone : (start : ℕ) (box : List ℕ) (boxes : List (List ℕ)) (k : ℕ) → Gone id count (start + 1) boxes k → Gone id count start (box ∷ boxes) (k + 1)
  stays_gone start box boxes k (inl past) = inl (omega arith)
  stays_gone start box boxes k (inr fails) =
      let e : start + (k + 1) ≡ start + 1 + k = omega arith in
      inr (ap (λ n. is_part id count n (get_or (box ∷ boxes) (k + 1) [])) e ∙ ap (is_part id count (start + 1 + k)) (next box boxes k) ∙ fails)
    where
      next : (box : List ℕ) (boxes : List (List ℕ)) (k : ℕ) → get_or (box ∷ boxes) (k + 1) [] ≡ get_or boxes k []
      next box boxes k = (let e : k + 1 ≡ suc k = omega arith in ap (λ n. get_or (box ∷ boxes) n []) e)

  not_gone : (start : ℕ) (box : List ℕ) (boxes : List (List ℕ)) (p : ℕ) → is_part id count start box ≡ true → ((k : ℕ) → k < p → Gone id count (start + 1) boxes k → ⊥) →
      (k : ℕ) → k < p + 1 → Gone id count start (box ∷ boxes) k → ⊥
  not_gone start box boxes p holds least zero h (inl past) = omega arith
  not_gone start box boxes p holds least zero h (inr fails) = (let e : start ≡ start + 0 = omega arith in true≢false (sym holds ∙ ap (λ n. is_part id count n box) e ∙ fails))
  not_gone start box boxes p holds least (suc k) h (inl past) = least k (omega arith) (inl (omega arith))
  not_gone start box boxes p holds least (suc k) h (inr fails) = (let e : start + 1 + k ≡ start + suc k = omega arith in least k (omega arith) (inr (ap (λ n. is_part id count n (get_or boxes k [])) e ∙ fails)))

  pub first_gone : (n start : ℕ) (boxes : List (List ℕ)) (index : ℕ) → joined id count start n boxes ≡ Err index → FirstGone id count start boxes index
  first_gone zero start boxes index h = cc
  first_gone (suc n) start [] index h = record { place = 0; is = (let e : start ≡ index = cc in omega (arith, e)); gone = inl (omega arith); least = λ k below gone. omega arith }
  first_gone (suc n) start (box ∷ boxes) index h = go (first_gone n (start + 1) boxes index) (is_part id count start box) (joined id count (start + 1) n boxes) refl refl h
    where
      go : (joined id count (start + 1) n boxes ≡ Err index → FirstGone id count (start + 1) boxes index) → (b : Bool) (r : Result (List ℕ) ℕ) → is_part id count start box ≡ b → joined id count (start + 1) n boxes ≡ r → cond b (before (content_in box) r) (Err start) ≡ Err index → FirstGone id count start (box ∷ boxes) index
      go later true (Ok tail) p q e = cc
      go later true (Err i) p q e =
          let same : i ≡ index = cc in
          let f = later (q ∙ ap Err same) in
          record {
            place = f.place + 1;
            is = omega (arith, f.is);
            gone = stays_gone start box boxes f.place f.gone;
            least = not_gone start box boxes f.place p f.least;
          }
      go later false r p q e = record { place = 0; is = (let s : start ≡ index = cc in omega (arith, s)); gone = (let e : start + 0 ≡ start = omega arith in inr (ap (λ n. is_part id count n box) e ∙ p)); least = λ k below gone. omega arith }

nothing : (index : ℕ) → join [] ≡ Err index → (k : ℕ) → k < index → ⊥
nothing index h k below = (let e : 0 ≡ index = cc (join_nothing) in omega arith)

pub first_missing : FirstMissingIsNamed
first_missing [] index h = (inl (omega arith), λ k below gone. nothing index h k below)
first_missing (box ∷ boxes) index h =
    let id : ℕ = id_in box in
    let count : ℕ = count_in box in
    let f = first_gone id count (max 1 count) 0 (box ∷ boxes) index (sym (join_some box boxes) ∙ h) in
    let place : f.place ≡ index = omega (arith, f.is) in
    (subst (IsMissing (box ∷ boxes)) place (missing id count (box ∷ boxes) f.place f.gone), λ k below gone. f.least k (omega arith) (found id count (box ∷ boxes) k gone))
  where
    missing : (id count : ℕ) (boxes : List (List ℕ)) (k : ℕ) → Gone id count 0 boxes k → (length boxes ≤ k) ⊎ (is_part id count k (get_or boxes k []) ≡ false)
    missing id count boxes k (inl past) = inl past
    missing id count boxes k (inr fails) = (let e : k ≡ 0 + k = omega arith in inr (ap (λ n. is_part id count n (get_or boxes k [])) e ∙ fails))

    found : (id count : ℕ) (boxes : List (List ℕ)) (k : ℕ) → (length boxes ≤ k) ⊎ (is_part id count k (get_or boxes k []) ≡ false) → Gone id count 0 boxes k
    found id count boxes k (inl past) = inl past
    found id count boxes k (inr fails) = (let e : 0 + k ≡ k = omega arith in inr (ap (λ n. is_part id count n (get_or boxes k [])) e ∙ fails))
