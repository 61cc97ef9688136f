-- An opening's record tells the opening, and a letter that was made of it stands on its disk.
use Rattle.std.proofs.Common.{◌≡◌, ℕ, ◌<◌, ◌^◌, List, [], ◌∷◌, ◌++◌, length, get_or, drop, refl, sym}
use Rattle.std.proofs.Common.{◌∙◌, ap, subst, arith}
use Rattle.std.proofs.lemmas.List.{length-append}
use Rattle.std.specs.Int.{w32, w64, to_be_bytes, from_be_bytes}
use Rattle.std.proofs.lemmas.Nat.{from_be_bytes-to_be_bytes_4, from_be_bytes-to_be_bytes_8}
use Rattle.express_words.specs.Seen.{Seen}
use Rattle.node_journal.specs.Disk.{DiskSeen, Within}
use Rattle.node_journal.specs.Records.{IsSized, IsUndamaged}
use Rattle.kept_machine.specs.Keeps.{IsDurable, sight}
use Rattle.kept_machine.specs.Kept.{Holds, KeptState}
use Rattle.kept_letter.specs.declared.machine.KeptLetter.{KeptLetter}
use Rattle.kept_letter.specs.Letters.{opened_letter}
use Rattle.kept_letter.specs.Machines.{IsOpeningRecord, OpensLetter, letter_rules}
use Rattle.kept_letter.specs.Notes.{IsOpening, Opening, opening_record}
use Rattle.desk_send.proofs.DrawLaws.{opening_with}

-- lists of one length, each with something behind it
front_same : (xs ys u v : List ℕ) → length xs ≡ length ys → xs ++ u ≡ ys ++ v → xs ≡ ys
front_same [] [] u v size is = refl
front_same [] (y ∷ ys) u v size is = absurd (omega (arith, size))
front_same (x ∷ xs) [] u v size is = absurd (omega (arith, size))
front_same (x ∷ xs) (y ∷ ys) u v size is =
    let head : x ≡ y = ap (λ (l : List ℕ). get_or l 0 0) is in
    let less : length xs ≡ length ys = omega (arith, size) in
    let tail : xs ≡ ys = front_same xs ys u v less (ap (drop 1) is) in
    ap (λ (z : ℕ). z ∷ xs) head ∙ ap (λ (l : List ℕ). y ∷ l) tail

rest_same : (xs ys u v : List ℕ) → length xs ≡ length ys → xs ++ u ≡ ys ++ v → u ≡ v
rest_same [] [] u v size is = is
rest_same [] (y ∷ ys) u v size is = absurd (omega (arith, size))
rest_same (x ∷ xs) [] u v size is = absurd (omega (arith, size))
rest_same (x ∷ xs) (y ∷ ys) u v size is =
    let less : length xs ≡ length ys = omega (arith, size) in rest_same xs ys u v less (ap (drop 1) is)

word_same : (a b : ℕ) → a < 2 ^ 32 → b < 2 ^ 32 → to_be_bytes w32 a ≡ to_be_bytes w32 b → a ≡ b
word_same a b fits less is =
    sym (from_be_bytes-to_be_bytes_4 a fits) ∙ ap (from_be_bytes w32) is ∙ from_be_bytes-to_be_bytes_4 b less

long_same : (a b : ℕ) → a < 2 ^ 64 → b < 2 ^ 64 → to_be_bytes w64 a ≡ to_be_bytes w64 b → a ≡ b
long_same a b fits less is =
    sym (from_be_bytes-to_be_bytes_8 a fits) ∙ ap (from_be_bytes w64) is ∙ from_be_bytes-to_be_bytes_8 b less

pub one_opening : (a b : Opening) → IsOpening a → IsOpening b → opening_record a ≡ opening_record b → a ≡ b
one_opening a b ia ib is =
    let r0 = ap (drop 1) is in
    let id : a.id ≡ b.id = long_same a.id b.id ia.id ib.id
    (front_same (to_be_bytes w64 a.id) (to_be_bytes w64 b.id) _ _ refl r0) in
    let r1 = rest_same (to_be_bytes w64 a.id) (to_be_bytes w64 b.id) _ _ refl r0 in
    let count : a.count ≡ b.count = word_same a.count b.count ia.count ib.count
    (front_same (to_be_bytes w32 a.count) (to_be_bytes w32 b.count) _ _ refl r1) in
    let r2 = rest_same (to_be_bytes w32 a.count) (to_be_bytes w32 b.count) _ _ refl r1 in
    let long : length a.seed ≡ length b.seed = ia.seed ∙ sym ib.seed in
    let seed : a.seed ≡ b.seed = front_same a.seed b.seed _ _ long r2 in
    let card : a.card ≡ b.card = rest_same a.seed b.seed _ _ long r2 in
    ap (λ (x : List ℕ). opening_with x a.id a.count a.card) seed
    ∙ ap (λ (x : ℕ). opening_with b.seed x a.count a.card) id
    ∙ ap (λ (x : ℕ). opening_with b.seed b.id x a.card) count
    ∙ ap (λ (x : List ℕ). opening_with b.seed b.id b.count x) card

pub sized : (o : Opening) (bytes : List ℕ) → IsOpening o → bytes ≡ opening_record o → IsSized bytes
sized o bytes is made =
    subst IsSized (sym made) (
      omega (arith, is.seed, is.card, length-append o.seed o.card),
      omega (arith, is.seed, is.card, length-append o.seed o.card),
    )

pub opening_is : (o : Opening) (bytes : List ℕ) → IsOpening o → bytes ≡ opening_record o
    → IsOpeningRecord bytes
opening_is o bytes is made = record { opening = o; is_opening = is; is = made }

pub opened_is : (o : Opening) (bytes : List ℕ) (k : KeptLetter) → IsOpening o → bytes ≡ opening_record o
    → OpensLetter bytes k → k.letter ≡ opened_letter o
opened_is o bytes k is made opens =
    opens.letter ∙ ap opened_letter (one_opening opens.opening o opens.is_opening is (sym opens.is ∙ made))

pub made_durable : {D : Type 0} (shows : D → DiskSeen) (counts : D → Seen) (bytes : List ℕ) (limit : ℕ)
    (k : KeptState KeptLetter D) → IsOpeningRecord bytes → OpensLetter bytes k.machine
    → k.journal.limit ≡ limit → Holds (bytes ∷ []) (shows k.disk).reads
    → ((c : List ℕ) → (shows k.disk).reads c → IsUndamaged limit 0 c)
    → Within (shows k.disk).may_leave (shows k.disk).reads → IsDurable letter_rules (sight shows counts k)
made_durable shows counts bytes limit k is opens same held whole durable = record {
  stands = record {
    records = bytes ∷ [];
    gives = record {
      form = record { first = bytes; is_opening = is; later = []; are_records = tt; split = refl };
      opened = k.machine;
      opens = opens;
      stepped = k.machine;
      runs = refl;
      same = refl;
    };
    held = held;
  };
  durable = durable;
  undamaged = subst (λ (n : ℕ). (c : List ℕ) → (shows k.disk).reads c → IsUndamaged n 0 c) (sym same) whole;
}
