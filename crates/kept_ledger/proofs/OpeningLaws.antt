-- An opening's record tells the opening.
use Rattle.std.proofs.Common.{◌≡◌, ℕ, ◌<◌, ◌^◌, List, [], ◌∷◌, ◌++◌, length, get_or, take}
use Rattle.std.proofs.Common.{drop, refl, sym, ◌-◌}
use Rattle.std.proofs.Common.{◌∙◌, ap, subst, arith}
use Rattle.std.proofs.Math.Seq.{take-length}
use Rattle.std.proofs.lemmas.List.{append_assoc, length-append}
use Rattle.std.specs.Int.{w16, w32, to_be_bytes, from_be_bytes}
use Rattle.std.proofs.lemmas.Nat.{from_be_bytes-to_be_bytes_2, from_be_bytes-to_be_bytes_4}
use Rattle.lane_gate.specs.declared.ticket.Ticket.{Ticket}
use Rattle.kept_ledger.specs.Notes.{Opening, IsOpening, opening_record}
use Rattle.kept_ledger.specs.declared.opening.Front.{Front}
use Rattle.kept_ledger.specs.Openings.{HasNumbers, HasShape, HasTexts, IsFront, front_bytes, front_of}
use Rattle.kept_ledger.specs.Records.{IsNoOpening}

-- lists of one length, each with something behind it
front_same : (xs ys u v : List ℕ) → length xs ≡ length ys → xs ++ u ≡ ys ++ v → xs ≡ ys
front_same [] [] u v size is = refl
front_same [] (y ∷ ys) u v size is = absurd (omega (arith, size))
front_same (x ∷ xs) [] u v size is = absurd (omega (arith, size))
front_same (x ∷ xs) (y ∷ ys) u v size is =
    let head : x ≡ y = ap (λ (l : List ℕ). get_or l 0 0) is in
    let less : length xs ≡ length ys = omega (arith, size) in
    let tail : xs ≡ ys = front_same xs ys u v less (ap (drop 1) is) in
    ap (λ (z : ℕ). z ∷ xs) head ∙ ap (λ (l : List ℕ). y ∷ l) tail

rest_same : (xs ys u v : List ℕ) → length xs ≡ length ys → xs ++ u ≡ ys ++ v → u ≡ v
rest_same [] [] u v size is = is
rest_same [] (y ∷ ys) u v size is = absurd (omega (arith, size))
rest_same (x ∷ xs) [] u v size is = absurd (omega (arith, size))
rest_same (x ∷ xs) (y ∷ ys) u v size is =
    let less : length xs ≡ length ys = omega (arith, size) in rest_same xs ys u v less (ap (drop 1) is)

word_same : (a b : ℕ) → a < 2 ^ 32 → b < 2 ^ 32 → to_be_bytes w32 a ≡ to_be_bytes w32 b → a ≡ b
word_same a b fits less is =
    sym (from_be_bytes-to_be_bytes_4 a fits) ∙ ap (from_be_bytes w32) is ∙ from_be_bytes-to_be_bytes_4 b less

short_same : (a b : ℕ) → a < 2 ^ 16 → b < 2 ^ 16 → to_be_bytes w16 a ≡ to_be_bytes w16 b → a ≡ b
short_same a b fits less is =
    sym (from_be_bytes-to_be_bytes_2 a fits) ∙ ap (from_be_bytes w16) is ∙ from_be_bytes-to_be_bytes_2 b less

abbrev made : (width boxes lane : ℕ) → Ticket → Ticket → (leader helper : List ℕ) → (seed : List ℕ) → ℕ
    → Opening
made width boxes lane kl kh leader helper seed first = record {
  pair = record {
    width = width;
    boxes = boxes;
    lane = lane;
    leader = record { place = leader; key = kl };
    helper = record { place = helper; key = kh };
  };
  seed = seed;
  first_serial = first;
}

pub one_opening : (a b : Opening) → HasShape a → HasShape b → opening_record a ≡ opening_record b → a ≡ b
one_opening a b sa sb is =
    let r0 = ap (drop 1) is in
    let first : a.first_serial ≡ b.first_serial = word_same a.first_serial b.first_serial sa.front.serial sb.front.serial (front_same (to_be_bytes w32 a.first_serial) (to_be_bytes w32 b.first_serial) _ _ refl r0) in
    let r1 = rest_same (to_be_bytes w32 a.first_serial) (to_be_bytes w32 b.first_serial) _ _ refl r0 in
    let long : length a.seed ≡ length b.seed = sa.front.seed ∙ sym sb.front.seed in
    let seed : a.seed ≡ b.seed = front_same a.seed b.seed _ _ long r1 in
    let r2 = rest_same a.seed b.seed _ _ long r1 in
    let width : a.pair.width ≡ b.pair.width = word_same a.pair.width b.pair.width sa.front.width sb.front.width (front_same (to_be_bytes w32 a.pair.width) (to_be_bytes w32 b.pair.width) _ _ refl r2) in
    let r3 = rest_same (to_be_bytes w32 a.pair.width) (to_be_bytes w32 b.pair.width) _ _ refl r2 in
    let boxes : a.pair.boxes ≡ b.pair.boxes = word_same a.pair.boxes b.pair.boxes sa.front.boxes sb.front.boxes (front_same (to_be_bytes w32 a.pair.boxes) (to_be_bytes w32 b.pair.boxes) _ _ refl r3) in
    let r4 = rest_same (to_be_bytes w32 a.pair.boxes) (to_be_bytes w32 b.pair.boxes) _ _ refl r3 in
    let lane : a.pair.lane ≡ b.pair.lane = short_same a.pair.lane b.pair.lane sa.front.lane sb.front.lane (front_same (to_be_bytes w16 a.pair.lane) (to_be_bytes w16 b.pair.lane) _ _ refl r4) in
    let r5 = rest_same (to_be_bytes w16 a.pair.lane) (to_be_bytes w16 b.pair.lane) _ _ refl r4 in
    let size : length a.pair.leader.key.0 ≡ length b.pair.leader.key.0 = sa.leader ∙ sym sb.leader in
    let kl : a.pair.leader.key.0 ≡ b.pair.leader.key.0 = front_same a.pair.leader.key.0 b.pair.leader.key.0 _ _ size r5 in
    let r6 = rest_same a.pair.leader.key.0 b.pair.leader.key.0 _ _ size r5 in
    let other : length a.pair.helper.key.0 ≡ length b.pair.helper.key.0 = sa.helper ∙ sym sb.helper in
    let kh : a.pair.helper.key.0 ≡ b.pair.helper.key.0 = front_same a.pair.helper.key.0 b.pair.helper.key.0 _ _ other r6 in
    let r7 = rest_same a.pair.helper.key.0 b.pair.helper.key.0 _ _ other r6 in
    let count : length a.pair.leader.place ≡ length b.pair.leader.place = ap (λ (l : List ℕ). get_or l 0 0) r7 in
    let places = ap (drop 1) r7 in
    let leader : a.pair.leader.place ≡ b.pair.leader.place = front_same a.pair.leader.place b.pair.leader.place _ _ count places in
    let helper : a.pair.helper.place ≡ b.pair.helper.place = rest_same a.pair.leader.place b.pair.leader.place _ _ count places in
    ap (λ (x : ℕ). made x a.pair.boxes a.pair.lane a.pair.leader.key a.pair.helper.key a.pair.leader.place a.pair.helper.place a.seed a.first_serial) width
    ∙ ap (λ (x : ℕ). made b.pair.width x a.pair.lane a.pair.leader.key a.pair.helper.key a.pair.leader.place a.pair.helper.place a.seed a.first_serial) boxes
    ∙ ap (λ (x : ℕ). made b.pair.width b.pair.boxes x a.pair.leader.key a.pair.helper.key a.pair.leader.place a.pair.helper.place a.seed a.first_serial) lane
    ∙ ap (λ (x : List ℕ). made b.pair.width b.pair.boxes b.pair.lane (record { 0 = x }) a.pair.helper.key a.pair.leader.place a.pair.helper.place a.seed a.first_serial) kl
    ∙ ap (λ (x : List ℕ). made b.pair.width b.pair.boxes b.pair.lane b.pair.leader.key (record { 0 = x }) a.pair.leader.place a.pair.helper.place a.seed a.first_serial) kh
    ∙ ap (λ (x : List ℕ). made b.pair.width b.pair.boxes b.pair.lane b.pair.leader.key b.pair.helper.key x a.pair.helper.place a.seed a.first_serial) leader
    ∙ ap (λ (x : List ℕ). made b.pair.width b.pair.boxes b.pair.lane b.pair.leader.key b.pair.helper.key b.pair.leader.place x a.seed a.first_serial) helper
    ∙ ap (λ (x : List ℕ). made b.pair.width b.pair.boxes b.pair.lane b.pair.leader.key b.pair.helper.key b.pair.leader.place b.pair.helper.place x a.first_serial) seed
    ∙ ap (λ (x : ℕ). made b.pair.width b.pair.boxes b.pair.lane b.pair.leader.key b.pair.helper.key b.pair.leader.place b.pair.helper.place b.seed x) first

a_shape : (o : Opening) → IsOpening o → HasShape o
a_shape o is = record {
  front = record {
    serial = is.unspent;
    seed = is.seed;
    width = omega (arith, is.pair.width.1);
    boxes = omega (arith, is.pair.boxes);
    lane = is.pair.lane;
  };
  leader = is.pair.leader.key;
  helper = is.pair.helper.key;
  place = is.pair.leader.few;
}

-- where the record has no shape, it is no opening's
pub none_shaped : (bytes : List ℕ) → ((o : Opening) → HasShape o → bytes ≡ opening_record o → ⊥)
    → IsNoOpening bytes
none_shaped bytes none o is same = none o (a_shape o is) same

-- where what has its shape is no opening, it is none's
pub none_other : (bytes : List ℕ) (raw : Opening) → HasShape raw → bytes ≡ opening_record raw
    → (IsOpening raw → ⊥) → IsNoOpening bytes
none_other bytes raw shape is none o opening same =
    none (subst (λ (x : Opening). IsOpening x) (one_opening o raw (a_shape o opening) shape (sym same ∙ is)) opening)

numbers_of : (o : Opening) → IsOpening o → HasNumbers o
numbers_of o is = record {
  width = is.pair.width;
  some = is.pair.some;
  boxes = is.pair.boxes;
  serial = is.serial;
  place = is.pair.helper.few;
}

pub none_numbered : (bytes : List ℕ) (raw : Opening) → HasShape raw → bytes ≡ opening_record raw
    → (HasNumbers raw → ⊥) → IsNoOpening bytes
none_numbered bytes raw shape is none = none_other bytes raw shape is (λ o. none (numbers_of raw o))

pub none_texted : (bytes : List ℕ) (raw : Opening) → HasShape raw → bytes ≡ opening_record raw
    → (HasTexts raw → ⊥) → IsNoOpening bytes
none_texted bytes raw shape is none =
    none_other bytes raw shape is (λ o. none (record {
      leader = o.pair.leader.text;
      helper = o.pair.helper.text;
    }))

pub an_opening : (raw : Opening) → HasShape raw → HasNumbers raw → HasTexts raw → IsOpening raw
an_opening raw shape numbers texts = record {
  pair = record {
    width = numbers.width;
    some = numbers.some;
    boxes = numbers.boxes;
    lane = shape.front.lane;
    leader = record { text = texts.leader; few = shape.place; key = shape.leader };
    helper = record { text = texts.helper; few = numbers.place; key = shape.helper };
  };
  seed = shape.front.seed;
  serial = numbers.serial;
  unspent = shape.front.serial;
}

-- ---- the parts of the record

front_split : (f : Front) (rest : List ℕ) → front_bytes f ++ rest
    ≡ to_be_bytes w32 f.first_serial ++ (f.seed ++ (to_be_bytes w32 f.width ++ (to_be_bytes w32 f.boxes
    ++ (to_be_bytes w16 f.lane ++ rest))))
front_split f rest =
    ap (λ (l : List ℕ). to_be_bytes w32 f.first_serial ++ l)
    (append_assoc f.seed (to_be_bytes w32 f.width ++ (to_be_bytes w32 f.boxes ++ to_be_bytes w16 f.lane)) rest)

front_size : (f : Front) → IsFront f → length (front_bytes f) ≡ 46
front_size f is =
    let long = length-append f.seed (to_be_bytes w32 f.width ++ (to_be_bytes w32 f.boxes ++ to_be_bytes w16
    f.lane)) in
    let seed = is.seed in omega (arith, long, seed)

abbrev places_of : Opening → List ℕ
places_of o = length o.pair.leader.place ∷ o.pair.leader.place ++ o.pair.helper.place

opening_split : (o : Opening) → opening_record o
    ≡ 48 ∷ front_bytes (front_of o) ++ (o.pair.leader.key.0 ++ (o.pair.helper.key.0 ++ places_of o))
opening_split o =
    ap (λ (l : List ℕ). 48 ∷ l)
    (sym (front_split (front_of o) (o.pair.leader.key.0 ++ (o.pair.helper.key.0 ++ places_of o))))

-- what stands before the keys, the keys, and the places
record_split : (o : Opening) → (48 ∷ front_bytes (front_of o)) ++ ((o.pair.leader.key.0
    ++ (o.pair.helper.key.0 ++ length o.pair.leader.place ∷ [])) ++ (o.pair.leader.place
    ++ o.pair.helper.place)) ≡ opening_record o
record_split o =
    let kl = o.pair.leader.key.0 in
    let kh = o.pair.helper.key.0 in
    let count = length o.pair.leader.place ∷ [] in
    let places = o.pair.leader.place ++ o.pair.helper.place in
    ap (λ (l : List ℕ). (48 ∷ front_bytes (front_of o)) ++ l) (append_assoc kl (kh ++ count) places
    ∙ ap (λ (l : List ℕ). kl ++ l) (append_assoc kh count places))
    ∙ sym (opening_split o)

pub record_of : (o : Opening) (front keys places : List ℕ) → front ≡ 48 ∷ front_bytes (front_of o)
    → keys ≡ o.pair.leader.key.0 ++ (o.pair.helper.key.0 ++ length o.pair.leader.place ∷ [])
    → places ≡ o.pair.leader.place ++ o.pair.helper.place → front ++ (keys ++ places) ≡ opening_record o
record_of o front keys places first second third =
    ap (λ (l : List ℕ). l ++ (keys ++ places)) first
    ∙ ap (λ (l : List ℕ). (48 ∷ front_bytes (front_of o)) ++ (l ++ places)) second
    ∙ ap (λ (l : List ℕ). (48 ∷ front_bytes (front_of o)) ++ ((o.pair.leader.key.0 ++ (o.pair.helper.key.0
    ++ length o.pair.leader.place ∷ [])) ++ l)) third
    ∙ record_split o

pub tail_whole : (bytes : List ℕ) → take (length bytes - 1) (drop 1 bytes) ≡ drop 1 bytes
tail_whole [] = refl
tail_whole (x ∷ bytes) =
    let less : length (x ∷ bytes) - 1 ≡ length bytes = omega arith in
    ap (λ (n : ℕ). take n bytes) less ∙ take-length bytes

pub none_placed : (f : Front) (kl kh rest : List ℕ) → IsFront f → length kl ≡ 16 → length kh ≡ 16
    → ((one other : List ℕ) → rest ≡ length one ∷ one ++ other → ⊥) → (o : Opening) → HasShape o
    → front_bytes f ++ (kl ++ (kh ++ rest)) ≡ drop 1 (opening_record o) → ⊥
none_placed f kl kh rest is long size none o shape same =
    let whole = same ∙ ap (drop 1) (opening_split o) in
    let front : length (front_bytes f) ≡ length (front_bytes (front_of o)) =
    front_size f is ∙ sym (front_size (front_of o) shape.front) in
    let keys = rest_same (front_bytes f) (front_bytes (front_of o)) (kl ++ (kh ++ rest)) (o.pair.leader.key.0 ++ (o.pair.helper.key.0 ++ places_of o)) front whole in
    let second = rest_same kl o.pair.leader.key.0 (kh ++ rest) (o.pair.helper.key.0 ++ places_of o) (long ∙ sym shape.leader) keys in
    let places = rest_same kh o.pair.helper.key.0 rest (places_of o) (size ∙ sym shape.helper) second in
    none o.pair.leader.place o.pair.helper.place places
