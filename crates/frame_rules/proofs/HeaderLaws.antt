-- The header: what is read is what was written, and the other way round.
use Rattle.std.proofs.Common.{◌≡◌, ℕ, ◌+◌, ◌-◌, ◌^◌, ◌<◌, ◌≤◌, Bool, true, false, cond, eqb, leb, ltb, not, List, [], ◌∷◌, ◌++◌, length, take, drop, Option, Some, None, Ok, Err, refl, sym, ap, ◌∙◌, subst, arith}
use Rattle.std.specs.Prelude.{◌&&◌, ◌||◌, MatchBool}
use Rattle.std.specs.Int.{Width, w8, w16, w32, w64, byte_len, to_be_bytes, from_be_bytes}
use Rattle.std.proofs.lemmas.Bool.Decides.{nat_tests}
use Rattle.std.proofs.lemmas.Bool.{eqb-true, eq-eqb, ltb-false, le-ltb}
use Rattle.std.proofs.lemmas.List.{take-take, drop-take, drop-drop, take-append-drop, length-append, length-take, length-drop}
use Rattle.frame_rules.specs.declared.fault.FrameFault.TheVariants.{Short, Malformed, Version}
use Rattle.frame_rules.specs.declared.kind.Kind.{Kind}
use Rattle.frame_rules.specs.declared.kind.Kind.TheVariants as kind
use Rattle.frame_rules.specs.Kinds.{kind_number, version_of, is_linked, is_refused, kinds, first_numbered, kind_numbered}
use Rattle.frame_rules.specs.Spelling as spell
use Rattle.frame_rules.specs.Forms.{◌>>=◌, number_at}
use Rattle.frame_rules.specs.Reading.{Header, length_in, version_in, kind_with, kind_in, serial_in, link_in, header_in}
use Rattle.frame_rules.proofs.Digits.{IsBytes}
use Rattle.frame_rules.proofs.Fields.{IsField, Is, IsBytes-take, IsBytes-drop, u8_field, u16_field, u32_field, u64_field}
use Rattle.frame_rules.proofs.FormLaws.{bind_ok, test_ok, guard_ok, ok_is}

-- ---- numbers at their places

pub record IsNumber (write : ℕ → List ℕ) (count place : ℕ) (bytes : List ℕ) (n : ℕ) : Type 0 where
  pub whole : place + count ≤ length bytes
  pub spelled : take count (drop place bytes) ≡ write n

number_takes : (w : Width) (write : ℕ → List ℕ) (Fits : ℕ → Type 0) (place : ℕ) (bytes : List ℕ) (n : ℕ) → IsField write (from_be_bytes w) (Is (byte_len w)) Fits → IsBytes bytes → number_at w place bytes ≡ Ok n
    → IsNumber write (byte_len w) place bytes n × Fits n
unfolding number_at
number_takes w write Fits place bytes n field h e =
    let g = guard_ok (ltb (length bytes) (place + byte_len w)) Short (Ok (from_be_bytes w (take (byte_len w) (drop place bytes)))) n e in
    let whole : place + byte_len w ≤ length bytes = ltb-false _ _ g.0 in
    let is : from_be_bytes w (take (byte_len w) (drop place bytes)) ≡ n = ok_is _ _ g.1 in
    let fits = IsBytes-take (byte_len w) (drop place bytes) (IsBytes-drop place bytes h) in
    let len : length (take (byte_len w) (drop place bytes)) ≡ byte_len w = omega (arith, length-take (byte_len w) (drop place bytes), length-drop place bytes, whole) in
    (record { whole = whole; spelled = sym (field.back (take (byte_len w) (drop place bytes)) fits len) ∙ ap write is }, subst Fits is (field.fits (take (byte_len w) (drop place bytes)) fits len))

-- ---- each field of the header

length_takes : (bytes : List ℕ) (n : ℕ) → IsBytes bytes → length_in bytes ≡ Ok n → IsNumber (to_be_bytes w32) 4 0 bytes n × (17 ≤ n) × (n ≤ 8209)
unfolding length_in
length_takes bytes n h e =
    let b = bind_ok (number_at w32 0 bytes) (λ length. cond (leb 17 length && leb length 8209) (Ok length) (Err (Malformed 0))) n e in
    let t = test_ok (leb 17 b.0 && leb b.0 8209) (Malformed 0) (Ok b.0) n b.2 in
    let is : b.0 ≡ n = ok_is _ _ t.1 in
    let limits : (17 ≤ b.0) × (b.0 ≤ 8209) = limited b.0 t.0 in
    (subst (IsNumber (to_be_bytes w32) 4 0 bytes) is (number_takes w32 (to_be_bytes w32) (λ n. n < 2 ^ 32) 0 bytes b.0 u32_field h b.1).0, omega arith, omega arith)
  where
    limited : (n : ℕ) → leb 17 n && leb n 8209 ≡ true → (17 ≤ n) × (n ≤ 8209)
    limited n h = grind (arith, nat_tests)

version_takes : (bytes : List ℕ) (n : ℕ) → IsBytes bytes → version_in bytes ≡ Ok n → IsNumber (λ n. n ∷ []) 1 4 bytes n
unfolding version_in
version_takes bytes n h e =
    let b = bind_ok (number_at w8 4 bytes) (λ v. cond (eqb v 1 || eqb v 2) (Ok v) (Err (Version v))) n e in
    let t = test_ok (eqb b.0 1 || eqb b.0 2) (Version b.0) (Ok b.0) n b.2 in
    subst (IsNumber (λ n. n ∷ []) 1 4 bytes) (ok_is _ _ t.1) (number_takes w8 (λ n. n ∷ []) (λ n. n < 2 ^ 8) 4 bytes b.0 u8_field h b.1).0

some_is : (x y : Kind) → Some x ≡ Some y → x ≡ y
some_is x y e = cc

numbered : (n : ℕ) (all : List Kind) (kind : Kind) → first_numbered n all ≡ Some kind → kind_number kind ≡ n
numbered n [] kind e = absurd cc
numbered n (k ∷ all) kind e = pick (eqb n (kind_number k)) refl (numbered n all kind) e where
  pick : (b : Bool) → eqb n (kind_number k) ≡ b → (first_numbered n all ≡ Some kind → kind_number kind ≡ n) → cond b (Some k) (first_numbered n all) ≡ Some kind → kind_number kind ≡ n
  pick true t others e = ap kind_number (sym (some_is k kind e)) ∙ sym (eqb-true _ _ t)
  pick false t others e = others e

pub kind_numbered_is : (n : ℕ) (kind : Kind) → kind_numbered n ≡ Some kind → kind_number kind ≡ n
unfolding kind_numbered
kind_numbered_is n kind e = numbered n kinds kind e

kind_with_is : (version : ℕ) (o : Option Kind) (kind : Kind) → kind_with version o ≡ Ok kind → (o ≡ Some kind) × (version_of kind ≡ version)
kind_with_is version None kind e = absurd cc
kind_with_is version (Some k) kind e =
    let t = test_ok (eqb (version_of k) version) (Malformed 5) (Ok k) kind e in
    let is : k ≡ kind = ok_is _ _ t.1 in
    (ap (λ x. Some x) is, ap version_of (sym is) ∙ eqb-true _ _ t.0)

kind_takes : (version : ℕ) (bytes : List ℕ) (kind : Kind) → IsBytes bytes → kind_in version bytes ≡ Ok kind → IsNumber (λ n. n ∷ []) 1 5 bytes (kind_number kind) × (version_of kind ≡ version)
unfolding kind_in
kind_takes version bytes kind h e =
    let b = bind_ok (number_at w8 5 bytes) (λ n. kind_with version (kind_numbered n)) kind e in
    let k = kind_with_is version (kind_numbered b.0) kind b.2 in
    (subst (IsNumber (λ n. n ∷ []) 1 5 bytes) (sym (kind_numbered_is b.0 kind k.0)) (number_takes w8 (λ n. n ∷ []) (λ n. n < 2 ^ 8) 5 bytes b.0 u8_field h b.1).0, k.1)

serial_right : (n : ℕ) (b : Bool) → eqb n 0 && not b ≡ false → b ≡ false → 1 ≤ n
serial_right n true h e = absurd cc
serial_right n false h e = grind (arith, nat_tests)

serial_takes : (kind : Kind) (bytes : List ℕ) (n : ℕ) → IsBytes bytes → serial_in kind bytes ≡ Ok n → IsNumber (to_be_bytes w32) 4 8 bytes n × (n < 2 ^ 32) × (is_refused kind ≡ false → 1 ≤ n)
unfolding serial_in
serial_takes kind bytes n h e =
    let b = bind_ok (number_at w32 8 bytes) (λ n. cond (eqb n 0 && not (is_refused kind)) (Err (Malformed 8)) (Ok n)) n e in
    let g = guard_ok (eqb b.0 0 && not (is_refused kind)) (Malformed 8) (Ok b.0) n b.2 in
    let t = number_takes w32 (to_be_bytes w32) (λ n. n < 2 ^ 32) 8 bytes b.0 u32_field h b.1 in
    let P : ℕ → Type 0 = λ n. IsNumber (to_be_bytes w32) 4 8 bytes n × (n < 2 ^ 32) × (is_refused kind ≡ false → 1 ≤ n) in
    subst P (ok_is _ _ g.1) (t.0, t.1, serial_right b.0 (is_refused kind) g.0)

link_right : (n : ℕ) (b : Bool) → cond b (eqb n 0) (not (eqb n 0)) ≡ false → MatchBool b (1 ≤ n) (n ≡ 0)
link_right n true h = grind (arith, nat_tests)
link_right n false h = grind (arith, nat_tests)

link_takes : (kind : Kind) (bytes : List ℕ) (n : ℕ) → IsBytes bytes → link_in kind bytes ≡ Ok n → IsNumber (to_be_bytes w64) 8 12 bytes n × (n < 2 ^ 64) × MatchBool (is_linked kind) (1 ≤ n) (n ≡ 0)
unfolding link_in
link_takes kind bytes n h e =
    let b = bind_ok (number_at w64 12 bytes) (λ n. cond (cond (is_linked kind) (eqb n 0) (not (eqb n 0))) (Err (Malformed 12)) (Ok n)) n e in
    let g = guard_ok (cond (is_linked kind) (eqb b.0 0) (not (eqb b.0 0))) (Malformed 12) (Ok b.0) n b.2 in
    let t = number_takes w64 (to_be_bytes w64) (λ n. n < 2 ^ 64) 12 bytes b.0 u64_field h b.1 in
    let P : ℕ → Type 0 = λ n. IsNumber (to_be_bytes w64) 8 12 bytes n × (n < 2 ^ 64) × MatchBool (is_linked kind) (1 ≤ n) (n ≡ 0) in
    subst P (ok_is _ _ g.1) (t.0, t.1, link_right b.0 (is_linked kind) g.0)

-- ---- the header as a whole

-- the first a + b bytes are the first a and then b
pub cut : (a b : ℕ) (bytes : List ℕ) → take (a + b) bytes ≡ take a bytes ++ take b (drop a bytes)
cut a b bytes =
    sym (take-append-drop a (take (a + b) bytes)) ∙ ap (λ (t : List ℕ). t ++ drop a (take (a + b) bytes)) (take-take a (a + b) bytes (omega arith))
    ∙ ap (λ (t : List ℕ). take a bytes ++ t) (drop-take a b bytes)

pub record IsHeader (bytes : List ℕ) (h : Header) : Type 0 where
  pub whole : 20 ≤ length bytes
  pub spelled : take 20 bytes ≡ spell.header h.kind h.lane h.serial h.link h.left
  pub lane : h.lane < 2 ^ 16
  pub serial : h.serial < 2 ^ 32
  pub right : is_refused h.kind ≡ false → 1 ≤ h.serial
  pub link : h.link < 2 ^ 64
  pub linked : MatchBool (is_linked h.kind) (1 ≤ h.link) (h.link ≡ 0)
  pub least : 1 ≤ h.left
  pub most : h.left ≤ 8193

pub header_takes : (bytes : List ℕ) (h : Header) → IsBytes bytes → header_in bytes ≡ Ok h → IsHeader bytes h
unfolding header_in
header_takes bytes h fits e =
    let made = λ (len : ℕ) (kind : Kind) (lane serial link : ℕ). let h : Header = record { kind = kind; lane = lane; serial = serial; link = link; left = len - 16 } in h in
    let a = bind_ok (length_in bytes) (λ len. version_in bytes >>= λ v. kind_in v bytes >>= λ k. number_at w16 6 bytes >>= λ lane. serial_in k bytes >>= λ s. link_in k bytes >>= λ l. Ok (made len k lane s l)) h e in
    let b = bind_ok (version_in bytes) (λ v. kind_in v bytes >>= λ k. number_at w16 6 bytes >>= λ lane. serial_in k bytes >>= λ s. link_in k bytes >>= λ l. Ok (made a.0 k lane s l)) h a.2 in
    let c = bind_ok (kind_in b.0 bytes) (λ k. number_at w16 6 bytes >>= λ lane. serial_in k bytes >>= λ s. link_in k bytes >>= λ l. Ok (made a.0 k lane s l)) h b.2 in
    let d = bind_ok (number_at w16 6 bytes) (λ lane. serial_in c.0 bytes >>= λ s. link_in c.0 bytes >>= λ l. Ok (made a.0 c.0 lane s l)) h c.2 in
    let f = bind_ok (serial_in c.0 bytes) (λ s. link_in c.0 bytes >>= λ l. Ok (made a.0 c.0 d.0 s l)) h d.2 in
    let g = bind_ok (link_in c.0 bytes) (λ l. Ok (made a.0 c.0 d.0 f.0 l)) h f.2 in
    let len = length_takes bytes a.0 fits a.1 in
    let version = version_takes bytes b.0 fits b.1 in
    let kind = kind_takes b.0 bytes c.0 fits c.1 in
    let lane = number_takes w16 (to_be_bytes w16) (λ n. n < 2 ^ 16) 6 bytes d.0 u16_field fits d.1 in
    let serial = serial_takes c.0 bytes f.0 fits f.1 in
    let link = link_takes c.0 bytes g.0 fits g.1 in
    subst (IsHeader bytes) (ok_is _ _ g.2)
    (record {
      whole = link.0.whole;
      spelled = parts bytes a.0 c.0 d.0 f.0 g.0 len.0.spelled (version.spelled ∙ ap (λ v. v ∷ []) (sym kind.1)) kind.0.spelled lane.0.spelled serial.0.spelled link.0.spelled (omega (arith, len.1));
      lane = lane.1;
      serial = serial.1;
      right = serial.2;
      link = link.1;
      linked = link.2;
      least = omega (arith, len.1);
      most = omega (arith, len.2);
    })
  where
    parts : (bytes : List ℕ) (len : ℕ) (kind : Kind) (lane serial link : ℕ) → take 4 bytes ≡ to_be_bytes w32 len → take 1 (drop 4 bytes) ≡ version_of kind ∷ [] → take 1 (drop 5 bytes) ≡ kind_number kind ∷ []
        → take 2 (drop 6 bytes) ≡ to_be_bytes w16 lane → take 4 (drop 8 bytes) ≡ to_be_bytes w32 serial → take 8 (drop 12 bytes) ≡ to_be_bytes w64 link → 16 ≤ len
        → take 20 bytes ≡ spell.header kind lane serial link (len - 16)
    parts bytes len kind lane serial link l v k a s n le =
        let same : 16 + (len - 16) ≡ len = omega arith in
        cut 4 16 bytes ∙ ap (λ (t : List ℕ). t ++ take 16 (drop 4 bytes)) (l ∙ ap (to_be_bytes w32) (sym same))
        ∙ ap (λ (t : List ℕ). to_be_bytes w32 (16 + (len - 16)) ++ t)
        (cut 2 14 (drop 4 bytes) ∙ ap (λ (t : List ℕ). t ++ take 14 (drop 2 (drop 4 bytes))) (cut 1 1 (drop 4 bytes) ∙ ap (λ (t : List ℕ). t ++ take 1 (drop 1 (drop 4 bytes))) v ∙ ap (λ (t : List ℕ). version_of kind ∷ take 1 t) (drop-drop 1 4 bytes) ∙ ap (λ (t : List ℕ). version_of kind ∷ t) k)
        ∙ ap (λ (t : List ℕ). version_of kind ∷ kind_number kind ∷ take 14 t) (drop-drop 2 4 bytes)
        ∙ ap (λ (t : List ℕ). version_of kind ∷ kind_number kind ∷ t)
        (cut 2 12 (drop 6 bytes) ∙ ap (λ (t : List ℕ). t ++ take 12 (drop 2 (drop 6 bytes))) a ∙ ap (λ (t : List ℕ). to_be_bytes w16 lane ++ take 12 t) (drop-drop 2 6 bytes)
        ∙ ap (λ (t : List ℕ). to_be_bytes w16 lane ++ t)
        (cut 4 8 (drop 8 bytes) ∙ ap (λ (t : List ℕ). t ++ take 8 (drop 4 (drop 8 bytes))) s ∙ ap (λ (t : List ℕ). to_be_bytes w32 serial ++ take 8 t) (drop-drop 4 8 bytes) ∙ ap (λ (t : List ℕ). to_be_bytes w32 serial ++ t) n)))

-- ---- a header is read again

number_again : (w : Width) (write : ℕ → List ℕ) (Fits : ℕ → Type 0) (place : ℕ) (bytes : List ℕ) (n : ℕ) → IsField write (from_be_bytes w) (Is (byte_len w)) Fits → Fits n → place + byte_len w ≤ length bytes
    → take (byte_len w) (drop place bytes) ≡ write n → number_at w place bytes ≡ Ok n
unfolding number_at
number_again w write Fits place bytes n field fit whole text =
    let long : ltb (length bytes) (place + byte_len w) ≡ false = le-ltb _ _ whole in
    rw (long, text, field.again n fit) refl

version_known : (k : Kind) → eqb (version_of k) 1 || eqb (version_of k) 2 ≡ true
version_known kind.Deposit = refl
version_known kind.Register = refl
version_known kind.Write = refl
version_known kind.Read = refl
version_known kind.Proof = refl
version_known kind.Held = refl
version_known kind.Challenge = refl
version_known kind.Done = refl
version_known kind.Refused = refl
version_known kind.LinkRegister = refl
version_known kind.LinkBegin = refl
version_known kind.LinkAudit = refl
version_known kind.LinkSettle = refl
version_known kind.LinkRead = refl
version_known kind.LinkReply = refl
version_known kind.Retire = refl
version_known kind.LinkRetire = refl
version_known kind.LinkBegun = refl

pub number_known : (k : Kind) → kind_numbered (kind_number k) ≡ Some k
unfolding kind_numbered
number_known kind.Deposit = refl
number_known kind.Register = refl
number_known kind.Write = refl
number_known kind.Read = refl
number_known kind.Proof = refl
number_known kind.Held = refl
number_known kind.Challenge = refl
number_known kind.Done = refl
number_known kind.Refused = refl
number_known kind.LinkRegister = refl
number_known kind.LinkBegin = refl
number_known kind.LinkAudit = refl
number_known kind.LinkSettle = refl
number_known kind.LinkRead = refl
number_known kind.LinkReply = refl
number_known kind.Retire = refl
number_known kind.LinkRetire = refl
number_known kind.LinkBegun = refl

bytes_known : (k : Kind) → (version_of k < 2 ^ 8) × (kind_number k < 2 ^ 8)
bytes_known kind.Deposit = (omega arith, omega arith)
bytes_known kind.Register = (omega arith, omega arith)
bytes_known kind.Write = (omega arith, omega arith)
bytes_known kind.Read = (omega arith, omega arith)
bytes_known kind.Proof = (omega arith, omega arith)
bytes_known kind.Held = (omega arith, omega arith)
bytes_known kind.Challenge = (omega arith, omega arith)
bytes_known kind.Done = (omega arith, omega arith)
bytes_known kind.Refused = (omega arith, omega arith)
bytes_known kind.LinkRegister = (omega arith, omega arith)
bytes_known kind.LinkBegin = (omega arith, omega arith)
bytes_known kind.LinkAudit = (omega arith, omega arith)
bytes_known kind.LinkSettle = (omega arith, omega arith)
bytes_known kind.LinkRead = (omega arith, omega arith)
bytes_known kind.LinkReply = (omega arith, omega arith)
bytes_known kind.Retire = (omega arith, omega arith)
bytes_known kind.LinkRetire = (omega arith, omega arith)
bytes_known kind.LinkBegun = (omega arith, omega arith)

serial_stands : (n : ℕ) (b : Bool) → (b ≡ false → 1 ≤ n) → eqb n 0 && not b ≡ false
serial_stands n true h = grind (arith, nat_tests)
serial_stands n false h = let one : 1 ≤ n = h refl in grind (arith, nat_tests)

link_stands : (n : ℕ) (b : Bool) → MatchBool b (1 ≤ n) (n ≡ 0) → cond b (eqb n 0) (not (eqb n 0)) ≡ false
link_stands n true h = grind (arith, nat_tests)
link_stands n false h = grind (arith, nat_tests)

length_stands : (n : ℕ) → 1 ≤ n → n ≤ 8193 → leb 17 (16 + n) && leb (16 + n) 8209 ≡ true
length_stands n h k = grind (arith, nat_tests)

module _ (k : Kind) (lane serial link count : ℕ) (tail : List ℕ) where
  text : List ℕ
  text = spell.header k lane serial link count ++ tail

  long : 20 ≤ length text
  unfolding text
  long = omega (arith, length-append (spell.header k lane serial link count) tail)

  length_again : 1 ≤ count → count ≤ 8193 → length_in text ≡ Ok (16 + count)
  unfolding length_in text
  length_again h m =
      rw (number_again w32 (to_be_bytes w32) (λ n. n < 2 ^ 32) 0 (spell.header k lane serial link count ++ tail) (16 + count) u32_field (omega arith) (omega (arith, long)) refl, length_stands count h m) refl

  version_again : version_in text ≡ Ok (version_of k)
  unfolding version_in text
  version_again =
      rw (number_again w8 (λ n. n ∷ []) (λ n. n < 2 ^ 8) 4 (spell.header k lane serial link count ++ tail) (version_of k) u8_field (bytes_known k).0 (omega (arith, long)) refl, version_known k) refl

  kind_again : kind_in (version_of k) text ≡ Ok k
  unfolding kind_in text
  kind_again =
      rw (number_again w8 (λ n. n ∷ []) (λ n. n < 2 ^ 8) 5 (spell.header k lane serial link count ++ tail) (kind_number k) u8_field (bytes_known k).1 (omega (arith, long)) refl, number_known k, eq-eqb (version_of k) (version_of k) refl) refl

  lane_again : lane < 2 ^ 16 → number_at w16 6 text ≡ Ok lane
  unfolding text
  lane_again h = number_again w16 (to_be_bytes w16) (λ n. n < 2 ^ 16) 6 (spell.header k lane serial link count ++ tail) lane u16_field h (omega (arith, long)) refl

  serial_again : serial < 2 ^ 32 → (is_refused k ≡ false → 1 ≤ serial) → serial_in k text ≡ Ok serial
  unfolding serial_in text
  serial_again h right =
      rw (number_again w32 (to_be_bytes w32) (λ n. n < 2 ^ 32) 8 (spell.header k lane serial link count ++ tail) serial u32_field h (omega (arith, long)) refl, serial_stands serial (is_refused k) right) refl

  link_again : link < 2 ^ 64 → MatchBool (is_linked k) (1 ≤ link) (link ≡ 0) → link_in k text ≡ Ok link
  unfolding link_in text
  link_again h linked =
      rw (number_again w64 (to_be_bytes w64) (λ n. n < 2 ^ 64) 12 (spell.header k lane serial link count ++ tail) link u64_field h (omega (arith, long)) refl, link_stands link (is_linked k) linked) refl

  pub header_again : 1 ≤ count → count ≤ 8193 → lane < 2 ^ 16 → serial < 2 ^ 32 → (is_refused k ≡ false → 1 ≤ serial) → link < 2 ^ 64 → MatchBool (is_linked k) (1 ≤ link) (link ≡ 0)
      → header_in (spell.header k lane serial link count ++ tail) ≡ Ok (record { kind = k; lane = lane; serial = serial; link = link; left = count })
  unfolding header_in text
  header_again h m l s right n linked =
      let same : 16 + count - 16 ≡ count = omega arith in
      rw (length_again h m, version_again, kind_again, lane_again l, serial_again s right, link_again n linked, same) refl
