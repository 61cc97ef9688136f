-- What is refused of bytes has a spelling: the place or the version that it names is small.
use Rattle.std.proofs.Common.{◌≡◌, ◌<◌, ◌^◌, ◌+◌, ◌-◌, ◌&&◌, ◌||◌, ℕ, Bool, true, false, cond, eqb, ltb, leb, not, All, List, [], ◌∷◌, length, take, drop, Option, Some, None, Result, Ok, Err, refl, subst, arith, inl, inr}
use Rattle.std.specs.Int.{Width, w8, w16, w32, w64, from_be_bytes}
use Rattle.std.proofs.lemmas.Bool.{cases_lt, lt-ltb}
use Rattle.std.proofs.lemmas.List.{length-take, length-drop}
use Rattle.express_words.specs.declared.refusal.Refusal.{Refusal}
use Rattle.express_words.specs.declared.refusal.Refusal.TheVariants as refusal
use Rattle.frame_rules.specs.declared.fault.FrameFault.{FrameFault}
use Rattle.frame_rules.specs.declared.fault.FrameFault.TheVariants.{Short, Malformed, Version}
use Rattle.frame_rules.specs.declared.kind.Kind.{Kind}
use Rattle.frame_rules.specs.declared.kind.Kind.TheVariants as kinds
use Rattle.frame_rules.specs.Frames.{PlainFrame}
use Rattle.frame_rules.specs.Kinds.{kind_numbered, version_of, is_linked, is_refused}
use Rattle.frame_rules.specs.Forms.{◌>>=◌, Form, Size, number_at, first_of, has_size, sized, filled, form_of, known, chosen, tagged}
use Rattle.frame_rules.specs.Bodies.{addressed, refused, refusals, replied, reply_refused, replies, body_in, deposits, helds, dones}
use Rattle.frame_rules.specs.Reading.{length_in, version_in, kind_with, kind_in, serial_in, link_in, header_in, decoded}
use Rattle.frame_rules.specs.Spelling.{IsRefusal}
use Rattle.frame_rules.specs.Whole.{whole, whole_of}
use Rattle.frame_rules.proofs.Digits.{IsBytes}
use Rattle.frame_rules.proofs.Fields.{IsBytes-drop, IsBytes-take, u8_field}
use Rattle.frame_rules.proofs.GrammarLaws.{bytes_of, decoded_takes}

-- a fault that a refusal can name
abbrev pub IsNamed : FrameFault → Type 0
IsNamed (Malformed place) = place < 2 ^ 32
IsNamed (Version version) = version < 2 ^ 8
IsNamed Short = Unit {0}

abbrev pub FailsSo : {A : Type 0} → Result A FrameFault → Type 0
FailsSo (Ok x) = Unit {0}
FailsSo (Err d) = IsNamed d

then : {A B : Type 0} (r : Result A FrameFault) (f : A → Result B FrameFault) → FailsSo r → ((x : A) → r ≡ Ok x → FailsSo (f x))
    → FailsSo (r >>= f)
then (Ok x) f h k = k x refl
then (Err d) f h k = h

either : {A : Type 0} (b : Bool) (x y : Result A FrameFault) → FailsSo x → FailsSo y → FailsSo (cond b x y)
either true x y h k = h
either false x y h k = k

-- ---- fields and forms

number_fails : (w : Width) (place : ℕ) (bytes : List ℕ) → FailsSo (number_at w place bytes)
unfolding number_at
number_fails w place bytes = either (ltb (length bytes) _) _ _ tt tt

first_fails : (bytes : List ℕ) → FailsSo (first_of bytes)
first_fails [] = tt
first_fails (b ∷ rest) = tt

sized_fails : (size : Size) (left : ℕ) (rest : List ℕ) → FailsSo (sized size left rest)
unfolding sized
sized_fails size left rest = either (has_size size left) _ _ (either (ltb (length rest) left) _ _ tt tt) (omega arith)

module _ {A : Type 0} where
  filled_fails : (form : Form A) (left : ℕ) (rest : List ℕ) → FailsSo (filled form left rest)
  unfolding filled
  filled_fails form left rest = then (sized form.size left rest) _ (sized_fails form.size left rest) (λ bytes e. tt)

  known_fails : (place : ℕ) (form : Option (Form A)) → place < 2 ^ 32 → FailsSo (known place form)
  known_fails place None h = h
  known_fails place (Some form) h = tt

  tagged_fails : (place : ℕ) (forms : List (ℕ × Form A)) (left : ℕ) (rest : List ℕ) → place < 2 ^ 32
      → FailsSo (tagged place forms left rest)
  unfolding tagged chosen
  tagged_fails place forms left rest h =
      then (first_of rest) _ (first_fails rest) (λ tag e.
      then (known place (form_of tag.0 forms)) _ (known_fails place (form_of tag.0 forms) h) (λ form f. filled_fails form (left - 1) tag.1))

-- ---- bodies

addressed_fails : (number lane serial : ℕ) → FailsSo (addressed number lane serial)
unfolding addressed
addressed_fails number lane serial =
    either (leb number 2) _ _ (either (eqb lane 0) _ _ (either (eqb serial 0) _ _ tt (omega arith)) (omega arith)) (either (eqb serial 0) _ _ (omega arith) tt)

refused_fails : (lane serial left : ℕ) (rest : List ℕ) → FailsSo (refused lane serial left rest)
unfolding refused
refused_fails lane serial left rest =
    then (first_of rest) _ (first_fails rest) (λ number e.
    then (cond (leb 1 number.0 && leb number.0 14) (addressed number.0 lane serial) (Err (Malformed 20))) _ (either (leb 1 number.0 && leb number.0 14) _ _ (addressed_fails number.0 lane serial) (omega arith)) (λ right f.
    then (tagged 20 refusals left rest) _ (tagged_fails 20 refusals left rest (omega arith)) (λ r g. tt)))

reply_refused_fails : (left : ℕ) (rest : List ℕ) → FailsSo (reply_refused left rest)
unfolding reply_refused
reply_refused_fails left rest =
    either (eqb left 0) _ _ (omega arith)
    (then (first_of rest) _ (first_fails rest) (λ number e.
    either (eqb number.0 3 || (leb 6 number.0 && leb number.0 11)) _ _
    (then (tagged 21 refusals left rest) _ (tagged_fails 21 refusals left rest (omega arith)) (λ r g. tt)) (omega arith)))

replied_fails : (left : ℕ) (rest : List ℕ) → FailsSo (replied left rest)
unfolding replied
replied_fails left rest =
    then (first_of rest) _ (first_fails rest) (λ tag e.
    either (eqb tag.0 7) _ _ (reply_refused_fails (left - 1) tag.1) (tagged_fails 20 replies left rest (omega arith)))

body_fails : (kind : Kind) (lane serial left : ℕ) (rest : List ℕ) → FailsSo (body_in kind lane serial left rest)
body_fails kinds.Deposit lane serial left rest = tagged_fails 20 deposits left rest (omega arith)
body_fails kinds.Register lane serial left rest = filled_fails _ left rest
body_fails kinds.Write lane serial left rest = filled_fails _ left rest
body_fails kinds.Read lane serial left rest = filled_fails _ left rest
body_fails kinds.Proof lane serial left rest = filled_fails _ left rest
body_fails kinds.Held lane serial left rest = tagged_fails 20 helds left rest (omega arith)
body_fails kinds.Challenge lane serial left rest = filled_fails _ left rest
body_fails kinds.Done lane serial left rest = tagged_fails 20 dones left rest (omega arith)
body_fails kinds.Refused lane serial left rest = refused_fails lane serial left rest
body_fails kinds.LinkRegister lane serial left rest = filled_fails _ left rest
body_fails kinds.LinkBegin lane serial left rest = filled_fails _ left rest
body_fails kinds.LinkAudit lane serial left rest = filled_fails _ left rest
body_fails kinds.LinkSettle lane serial left rest = filled_fails _ left rest
body_fails kinds.LinkRead lane serial left rest = filled_fails _ left rest
body_fails kinds.LinkReply lane serial left rest = replied_fails left rest
body_fails kinds.Retire lane serial left rest = filled_fails _ left rest
body_fails kinds.LinkRetire lane serial left rest = filled_fails _ left rest
body_fails kinds.LinkBegun lane serial left rest = filled_fails _ left rest

-- ---- headers

length_fails : (bytes : List ℕ) → FailsSo (length_in bytes)
unfolding length_in
length_fails bytes =
    then (number_at w32 0 bytes) _ (number_fails w32 0 bytes) (λ n e. either (leb 17 n && leb n 8209) _ _ tt (omega arith))

-- a byte that was read is one
byte_read : (bytes : List ℕ) (place n : ℕ) → IsBytes bytes → number_at w8 place bytes ≡ Ok n → n < 2 ^ 8
unfolding number_at
byte_read bytes place n h e = elim (cases_lt (length bytes) (place + 1)) [
  | inl short ↦ absurd (let t : ltb (length bytes) (place + 1) ≡ true = lt-ltb _ _ short in let never : Err Short ≡ Ok n = rw t at e in cc never)
  | inr whole ↦
      let one : length (take 1 (drop place bytes)) ≡ 1 = let d = length-drop place bytes in let t = length-take 1 (drop place bytes) in omega (arith, d, t, whole) in
      let small = u8_field.fits (take 1 (drop place bytes)) (IsBytes-take 1 (drop place bytes) (IsBytes-drop place bytes h)) one in
      by_test (ltb (length bytes) (place + 1)) small e
]
  where
    by_test : (t : Bool) → from_be_bytes w8 (take 1 (drop place bytes)) < 2 ^ 8
        → (let r : Result ℕ FrameFault = cond t (Err Short) (Ok (from_be_bytes w8 (take 1 (drop place bytes)))) in r) ≡ Ok n → n < 2 ^ 8
    by_test true small e = absurd (cc e)
    by_test false small e = let same : from_be_bytes w8 (take 1 (drop place bytes)) ≡ n = cc in subst (λ n. n < 2 ^ 8) same small

version_fails : (bytes : List ℕ) → IsBytes bytes → FailsSo (version_in bytes)
unfolding version_in
version_fails bytes h =
    then (number_at w8 4 bytes) _ (number_fails w8 4 bytes) (λ version e.
    either (eqb version 1 || eqb version 2) _ _ tt (byte_read bytes 4 version h e))

kind_fails : (version : ℕ) (bytes : List ℕ) → FailsSo (kind_in version bytes)
unfolding kind_in
kind_fails version bytes = then (number_at w8 5 bytes) _ (number_fails w8 5 bytes) (λ number e. with_kind (kind_numbered number))
  where
    with_kind : (kind : Option Kind) → FailsSo (kind_with version kind)
    with_kind None = omega arith
    with_kind (Some kind) = either (eqb (version_of kind) version) _ _ tt (omega arith)

serial_fails : (kind : Kind) (bytes : List ℕ) → FailsSo (serial_in kind bytes)
unfolding serial_in
serial_fails kind bytes =
    then (number_at w32 8 bytes) _ (number_fails w32 8 bytes) (λ serial e. either (eqb serial 0 && not (is_refused kind)) _ _ (omega arith) tt)

link_fails : (kind : Kind) (bytes : List ℕ) → FailsSo (link_in kind bytes)
unfolding link_in
link_fails kind bytes =
    then (number_at w64 12 bytes) _ (number_fails w64 12 bytes) (λ link e. either (cond (is_linked kind) (eqb link 0) (not (eqb link 0))) _ _ (omega arith) tt)

header_fails : (bytes : List ℕ) → IsBytes bytes → FailsSo (header_in bytes)
unfolding header_in
header_fails bytes h =
    then (length_in bytes) _ (length_fails bytes) (λ n e.
    then (version_in bytes) _ (version_fails bytes h) (λ version f.
    then (kind_in version bytes) _ (kind_fails version bytes) (λ kind g.
    then (number_at w16 6 bytes) _ (number_fails w16 6 bytes) (λ lane i.
    then (serial_in kind bytes) _ (serial_fails kind bytes) (λ serial j.
    then (link_in kind bytes) _ (link_fails kind bytes) (λ link k. tt))))))

decoded_fails : (bytes : List ℕ) → IsBytes bytes → FailsSo (decoded bytes)
unfolding decoded
decoded_fails bytes h =
    then (header_in bytes) _ (header_fails bytes h) (λ header e.
    then (body_in header.kind header.lane header.serial header.left (drop 20 bytes)) _
    (body_fails header.kind header.lane header.serial header.left (drop 20 bytes)) (λ body f. tt))

-- ---- what is refused

pub whole_refused : (bytes : List ℕ) (r : Refusal) → All (λ b. b < 256) bytes → length bytes < 2 ^ 32 → whole bytes ≡ Err r
    → IsRefusal r
unfolding whole_of
whole_refused bytes r all few e = by_read (decoded bytes) refl (decoded_fails bytes (bytes_of bytes all)) e
  where
    by_read : (read : Result (PlainFrame × ℕ) FrameFault) → decoded bytes ≡ read → FailsSo read → whole_of (length bytes) read ≡ Err r → IsRefusal r
    by_read (Err (Version version)) is h e = let same : refusal.Version version ≡ r = cc in subst IsRefusal same h
    by_read (Err (Malformed place)) is h e = let same : refusal.Malformed place ≡ r = cc in subst IsRefusal same h
    by_read (Err Short) is h e = let same : refusal.Malformed (length bytes) ≡ r = cc in subst IsRefusal same few
    by_read (Ok found) is h e = by_end (eqb found.1 (length bytes)) e
      where
        most : found.1 < 2 ^ 32
        most = let d = (decoded_takes bytes found.0 found.1 (bytes_of bytes all) is).most in omega (arith, d)

        by_end : (t : Bool) → (let read : Result PlainFrame Refusal = cond t (Ok found.0) (Err (refusal.Malformed found.1)) in read) ≡ Err r → IsRefusal r
        by_end true e = absurd (cc e)
        by_end false e = let same : refusal.Malformed found.1 ≡ r = cc in subst IsRefusal same most
