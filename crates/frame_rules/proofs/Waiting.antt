-- Where reading is short, the frame's end hasn't come.
use Rattle.std.proofs.Common.{◌≡◌, ℕ, suc, ◌+◌, ◌-◌, ◌<◌, ◌≤◌, Bool, true, false, cond, eqb, leb, ltb, not, List, [], ◌∷◌, length, take, drop, Option, Some, None, Result, Ok, Err, refl, sym, ap, ◌∙◌, arith, inl, inr}
use Rattle.std.specs.Prelude.{◌⊎◌, ◌&&◌, ◌||◌}
use Rattle.std.specs.Int.{Width, w8, w16, w32, w64, byte_len, from_be_bytes}
use Rattle.std.proofs.lemmas.Bool.Decides.{nat_tests}
use Rattle.std.proofs.lemmas.Bool.{ltb-true}
use Rattle.std.proofs.lemmas.List.{length-drop}
use Rattle.frame_rules.specs.declared.fault.FrameFault.{FrameFault}
use Rattle.frame_rules.specs.declared.fault.FrameFault.TheVariants.{Short, Malformed, Version}
use Rattle.frame_rules.specs.declared.kind.Kind.{Kind}
use Rattle.frame_rules.specs.declared.kind.Kind.TheVariants as kinds
use Rattle.frame_rules.specs.Frames.{PlainFrame, PlainBody, Refused, LinkReply, ReplyRefused}
use Rattle.frame_rules.specs.Kinds.{kind_numbered, version_of, is_linked, is_refused}
use Rattle.frame_rules.specs.Forms.{◌>>=◌, number_at, Size, Form, has_size, sized, filled, form_of, known, chosen, tagged}
use Rattle.frame_rules.specs.Bodies.{addressed, refusals, replies, refused, reply_refused, replied, body_in}
use Rattle.frame_rules.specs.Reading.{Header, length_in, version_in, kind_with, kind_in, serial_in, link_in, header_in, decoded}
use Rattle.frame_rules.proofs.FormLaws.{bind_ok, test_ok, ok_is}
use Rattle.frame_rules.proofs.BodyLaws.{positive}

abbrev fails : {A : Type 0} → FrameFault → Result A FrameFault
fails d = Err d

-- a step that failed: itself, or what came after it
pub bind_err : {A B : Type 0} (r : Result A FrameFault) (f : A → Result B FrameFault) (d : FrameFault) → (r >>= f) ≡ Err d → (r ≡ Err d) ⊎ ((x : A) × (r ≡ Ok x) × (f x ≡ Err d))
bind_err (Ok x) f d e = inr (x, refl, e)
bind_err {B = B} (Err c) f d e = inl (ap (λ x. Err x) (same c d e)) where
  same : (c d : FrameFault) → fails {A = B} c ≡ Err d → c ≡ d
  same c d e = cc

malformed_not_short : {A : Type 0} (place : ℕ) → fails {A = A} (Malformed place) ≡ Err Short → ⊥
malformed_not_short place e = cc

version_not_short : {A : Type 0} (v : ℕ) → fails {A = A} (Version v) ≡ Err Short → ⊥
version_not_short v e = cc

ok_not_short : {A : Type 0} (x : A) → (let r : Result A FrameFault = Ok x in r) ≡ Err Short → ⊥
ok_not_short x e = cc

number_short : (w : Width) (place : ℕ) (bytes : List ℕ) → number_at w place bytes ≡ Err Short → length bytes < place + byte_len w
unfolding number_at
number_short w place bytes e = pick (ltb (length bytes) (place + byte_len w)) refl e where
  pick : (b : Bool) → ltb (length bytes) (place + byte_len w) ≡ b → cond b (Err Short) (Ok (from_be_bytes w (take (byte_len w) (drop place bytes)))) ≡ Err Short → length bytes < place + byte_len w
  pick true t e = ltb-true _ _ t
  pick false t e = absurd (ok_not_short _ e)

sized_short : (size : Size) (left : ℕ) (rest : List ℕ) → sized size left rest ≡ Err Short → length rest < left
unfolding sized
sized_short size left rest e = outer (has_size size left) e where
  inner : (b : Bool) → ltb (length rest) left ≡ b → cond b (Err Short) (Ok (take left rest)) ≡ Err Short → length rest < left
  inner true t e = ltb-true _ _ t
  inner false t e = absurd (ok_not_short _ e)

  outer : (b : Bool) → cond b (cond (ltb (length rest) left) (Err Short) (Ok (take left rest))) (Err (Malformed 0)) ≡ Err Short → length rest < left
  outer true e = inner (ltb (length rest) left) refl e
  outer false e = absurd (malformed_not_short 0 e)

filled_short : {A : Type 0} (form : Form A) (left : ℕ) (rest : List ℕ) → filled form left rest ≡ Err Short → length rest < left
unfolding filled
filled_short {A} form left rest e = pick (bind_err (sized form.size left rest) (λ bytes. Ok (form.meaning bytes)) Short e) where
  pick : (sized form.size left rest ≡ Err Short) ⊎ ((x : List ℕ) × (sized form.size left rest ≡ Ok x) × (let r : Result A FrameFault = Ok (form.meaning x) in r ≡ Err Short)) → length rest < left
  pick (inl h) = sized_short form.size left rest h
  pick (inr h) = absurd (ok_not_short _ h.2)

known_not_short : {A : Type 0} (place : ℕ) (o : Option (Form A)) → known place o ≡ Err Short → ⊥
known_not_short place None e = malformed_not_short place e
known_not_short place (Some f) e = ok_not_short f e

tagged_short : {A : Type 0} (place : ℕ) (forms : List (ℕ × Form A)) (left : ℕ) (rest : List ℕ) → 1 ≤ left → tagged place forms left rest ≡ Err Short → length rest < left
unfolding tagged chosen
tagged_short place forms left [] one e = omega arith
tagged_short {A} place forms left (tag ∷ rest) one e = pick (bind_err (known place (form_of tag forms)) (λ form. filled form (left - 1) rest) Short e) where
  pick : (known place (form_of tag forms) ≡ Err Short) ⊎ ((form : Form A) × (known place (form_of tag forms) ≡ Ok form) × (filled form (left - 1) rest ≡ Err Short)) → suc (length rest) < left
  pick (inl h) = absurd (known_not_short place (form_of tag forms) h)
  pick (inr h) = omega (arith, filled_short h.0 (left - 1) rest h.2)

cond_short : {A : Type 0} (b : Bool) (r s : Result A FrameFault) (P : Type 0) → (r ≡ Err Short → P) → (s ≡ Err Short → P) → cond b r s ≡ Err Short → P
cond_short true r s P f g e = f e
cond_short false r s P f g e = g e

addressed_not_short : (number lane serial : ℕ) → addressed number lane serial ≡ Err Short → ⊥
unfolding addressed
addressed_not_short number lane serial e =
    cond_short (leb number 2) _ _ ⊥
    (λ e. cond_short (eqb lane 0) _ _ ⊥ (λ e. cond_short (eqb serial 0) _ _ ⊥ (λ e. ok_not_short tt e) (λ e. malformed_not_short 8 e) e) (λ e. malformed_not_short 6 e) e)
    (λ e. cond_short (eqb serial 0) _ _ ⊥ (λ e. malformed_not_short 8 e) (λ e. ok_not_short tt e) e)
    e

-- a value that is wrapped
wrapped_short : {A B : Type 0} (r : Result A FrameFault) (make : A → B) → (r >>= λ x. Ok (make x)) ≡ Err Short → r ≡ Err Short
wrapped_short (Ok x) make e = absurd (ok_not_short _ e)
wrapped_short {B = B} (Err d) make e = ap (λ x. Err x) (same d e) where
  same : (d : FrameFault) → fails {A = B} d ≡ Err Short → d ≡ Short
  same d e = cc

refused_short : (lane serial left : ℕ) (rest : List ℕ) → 1 ≤ left → refused lane serial left rest ≡ Err Short → length rest < left
unfolding refused
refused_short lane serial left [] one e = omega arith
refused_short lane serial left (n ∷ rest) one e = pick (bind_err check after Short e) where
  check : Result (Unit {0}) FrameFault
  check = cond (leb 1 n && leb n 14) (addressed n lane serial) (Err (Malformed 20))

  after : Unit {0} → Result PlainBody FrameFault
  after right = tagged 20 refusals left (n ∷ rest) >>= λ r. Ok (Refused r)

  pick : (check ≡ Err Short) ⊎ ((x : Unit {0}) × (check ≡ Ok x) × (after x ≡ Err Short)) → suc (length rest) < left
  pick (inl h) = absurd (cond_short (leb 1 n && leb n 14) (addressed n lane serial) (Err (Malformed 20)) ⊥ (λ e. addressed_not_short n lane serial e) (λ e. malformed_not_short 20 e) h)
  pick (inr h) = tagged_short 20 refusals left (n ∷ rest) one (wrapped_short (tagged 20 refusals left (n ∷ rest)) (λ r. Refused r) h.2)

reply_refused_short : (left : ℕ) (rest : List ℕ) → reply_refused left rest ≡ Err Short → length rest < left
unfolding reply_refused
reply_refused_short left [] e = pick (eqb left 0) refl e where
  pick : (b : Bool) → eqb left 0 ≡ b → cond b (fails {A = PlainBody} (Malformed 0)) (Err Short) ≡ Err Short → 0 < left
  pick true t e = absurd (malformed_not_short 0 e)
  pick false t e = positive left t
reply_refused_short left (n ∷ rest) e = pick (eqb left 0) refl e where
  read : Result PlainBody FrameFault
  read = tagged 21 refusals left (n ∷ rest) >>= λ r. Ok (LinkReply (ReplyRefused r))

  pick : (b : Bool) → eqb left 0 ≡ b → cond b (Err (Malformed 0)) (cond (eqb n 3 || (leb 6 n && leb n 11)) read (Err (Malformed 21))) ≡ Err Short → suc (length rest) < left
  pick true t e = absurd (malformed_not_short 0 e)
  pick false t e =
      cond_short (eqb n 3 || (leb 6 n && leb n 11)) read (Err (Malformed 21)) (suc (length rest) < left)
      (λ e. tagged_short 21 refusals left (n ∷ rest) (positive left t) (wrapped_short (tagged 21 refusals left (n ∷ rest)) (λ r. LinkReply (ReplyRefused r)) e)) (λ e. absurd (malformed_not_short 21 e)) e

replied_short : (left : ℕ) (rest : List ℕ) → 1 ≤ left → replied left rest ≡ Err Short → length rest < left
unfolding replied
replied_short left [] one e = omega arith
replied_short left (tag ∷ rest) one e =
    cond_short (eqb tag 7) (reply_refused (left - 1) rest) (tagged 20 replies left (tag ∷ rest)) (suc (length rest) < left) (λ e. omega (arith, reply_refused_short (left - 1) rest e)) (λ e. tagged_short 20 replies left (tag ∷ rest) one e) e

body_short : (k : Kind) (lane serial left : ℕ) (rest : List ℕ) → 1 ≤ left → body_in k lane serial left rest ≡ Err Short → length rest < left
body_short kinds.Deposit lane serial left rest one e = tagged_short _ _ left rest one e
body_short kinds.Register lane serial left rest one e = filled_short _ left rest e
body_short kinds.Write lane serial left rest one e = filled_short _ left rest e
body_short kinds.Read lane serial left rest one e = filled_short _ left rest e
body_short kinds.Proof lane serial left rest one e = filled_short _ left rest e
body_short kinds.Held lane serial left rest one e = tagged_short _ _ left rest one e
body_short kinds.Challenge lane serial left rest one e = filled_short _ left rest e
body_short kinds.Done lane serial left rest one e = tagged_short _ _ left rest one e
body_short kinds.Refused lane serial left rest one e = refused_short lane serial left rest one e
body_short kinds.LinkRegister lane serial left rest one e = filled_short _ left rest e
body_short kinds.LinkBegin lane serial left rest one e = filled_short _ left rest e
body_short kinds.LinkAudit lane serial left rest one e = filled_short _ left rest e
body_short kinds.LinkSettle lane serial left rest one e = filled_short _ left rest e
body_short kinds.LinkRead lane serial left rest one e = filled_short _ left rest e
body_short kinds.LinkReply lane serial left rest one e = replied_short left rest one e
body_short kinds.Retire lane serial left rest one e = filled_short _ left rest e
body_short kinds.LinkRetire lane serial left rest one e = filled_short _ left rest e
body_short kinds.LinkBegun lane serial left rest one e = filled_short _ left rest e

-- ---- the header

-- a number and a judgement of it that is never short
judged_short : {A : Type 0} (w : Width) (place : ℕ) (bytes : List ℕ) (f : ℕ → Result A FrameFault) → ((n : ℕ) → f n ≡ Err Short → ⊥) → (number_at w place bytes >>= f) ≡ Err Short → length bytes < place + byte_len w
judged_short {A} w place bytes f never e = pick (bind_err (number_at w place bytes) f Short e) where
  pick : (number_at w place bytes ≡ Err Short) ⊎ ((n : ℕ) × (number_at w place bytes ≡ Ok n) × (f n ≡ Err Short)) → length bytes < place + byte_len w
  pick (inl h) = number_short w place bytes h
  pick (inr h) = absurd (never h.0 h.2)

test_not_short : {A : Type 0} (b : Bool) (x : A) (d : FrameFault) → (fails {A = A} d ≡ Err Short → ⊥) → cond b (Ok x) (Err d) ≡ Err Short → ⊥
test_not_short b x d n e = cond_short b (Ok x) (Err d) ⊥ (λ e. ok_not_short x e) n e

guard_not_short : {A : Type 0} (b : Bool) (x : A) (d : FrameFault) → (fails {A = A} d ≡ Err Short → ⊥) → cond b (Err d) (Ok x) ≡ Err Short → ⊥
guard_not_short b x d n e = cond_short b (Err d) (Ok x) ⊥ n (λ e. ok_not_short x e) e

kind_not_short : (v : ℕ) (o : Option Kind) → kind_with v o ≡ Err Short → ⊥
kind_not_short v None e = malformed_not_short 5 e
kind_not_short v (Some k) e = test_not_short (eqb (version_of k) v) k (Malformed 5) (malformed_not_short 5) e

length_short : (bytes : List ℕ) → length_in bytes ≡ Err Short → length bytes < 4
unfolding length_in
length_short bytes e = judged_short w32 0 bytes _ (λ n. test_not_short (leb 17 n && leb n 8209) n (Malformed 0) (malformed_not_short 0)) e

version_short : (bytes : List ℕ) → version_in bytes ≡ Err Short → length bytes < 5
unfolding version_in
version_short bytes e = judged_short w8 4 bytes _ (λ n. test_not_short (eqb n 1 || eqb n 2) n (Version n) (version_not_short n)) e

kind_short : (v : ℕ) (bytes : List ℕ) → kind_in v bytes ≡ Err Short → length bytes < 6
unfolding kind_in
kind_short v bytes e = judged_short w8 5 bytes _ (λ n. kind_not_short v (kind_numbered n)) e

serial_short : (k : Kind) (bytes : List ℕ) → serial_in k bytes ≡ Err Short → length bytes < 12
unfolding serial_in
serial_short k bytes e = judged_short w32 8 bytes _ (λ n. guard_not_short (eqb n 0 && not (is_refused k)) n (Malformed 8) (malformed_not_short 8)) e

link_short : (k : Kind) (bytes : List ℕ) → link_in k bytes ≡ Err Short → length bytes < 20
unfolding link_in
link_short k bytes e = judged_short w64 12 bytes _ (λ n. guard_not_short (cond (is_linked k) (eqb n 0) (not (eqb n 0))) n (Malformed 12) (malformed_not_short 12)) e

-- a step of the header that is short, or one behind it
step_short : {A B : Type 0} (r : Result A FrameFault) (f : A → Result B FrameFault) (P : Type 0) → (r ≡ Err Short → P) → ((x : A) → f x ≡ Err Short → P) → (r >>= f) ≡ Err Short → P
step_short {A} r f P first then e = pick (bind_err r f Short e) where
  pick : (r ≡ Err Short) ⊎ ((x : A) × (r ≡ Ok x) × (f x ≡ Err Short)) → P
  pick (inl h) = first h
  pick (inr h) = then h.0 h.2

pub header_short : (bytes : List ℕ) → header_in bytes ≡ Err Short → length bytes < 20
unfolding header_in
header_short bytes e =
    step_short (length_in bytes) _ (length bytes < 20) (λ h. omega (arith, length_short bytes h)) (λ len e.
    step_short (version_in bytes) _ (length bytes < 20) (λ h. omega (arith, version_short bytes h)) (λ v e.
    step_short (kind_in v bytes) _ (length bytes < 20) (λ h. omega (arith, kind_short v bytes h)) (λ k e.
    step_short (number_at w16 6 bytes) _ (length bytes < 20) (λ h. omega (arith, number_short w16 6 bytes h)) (λ lane e.
    step_short (serial_in k bytes) _ (length bytes < 20) (λ h. omega (arith, serial_short k bytes h)) (λ s e.
    step_short (link_in k bytes) _ (length bytes < 20) (λ h. link_short k bytes h) (λ l e. absurd (ok_not_short _ e)) e) e) e) e) e) e

-- ---- the frame

-- bytes that are short are fewer than the length says
pub record IsWaiting (bytes : List ℕ) : Type 0 where
  pub most : length bytes < 8213
  pub length_right : (n : ℕ) → number_at w32 0 bytes ≡ Ok n → (17 ≤ n) × (n ≤ 8209) × (length bytes < 4 + n)

pub length_limits : (bytes : List ℕ) (n : ℕ) → length_in bytes ≡ Ok n → (number_at w32 0 bytes ≡ Ok n) × (17 ≤ n) × (n ≤ 8209)
unfolding length_in
length_limits bytes n e =
    let b = bind_ok (number_at w32 0 bytes) (λ length. cond (leb 17 length && leb length 8209) (Ok length) (Err (Malformed 0))) n e in
    let t = test_ok (leb 17 b.0 && leb b.0 8209) (Malformed 0) (Ok b.0) n b.2 in
    let is : b.0 ≡ n = ok_is _ _ t.1 in
    (b.1 ∙ ap (λ x. Ok x) is, omega (arith, limited b.0 t.0), omega (arith, limited b.0 t.0))
  where
    limited : (n : ℕ) → leb 17 n && leb n 8209 ≡ true → (17 ≤ n) × (n ≤ 8209)
    limited n h = grind (arith, nat_tests)

-- the length of a header that was read
pub header_length : (bytes : List ℕ) (h : Header) → header_in bytes ≡ Ok h → (n : ℕ) × (length_in bytes ≡ Ok n) × (h.left ≡ n - 16)
unfolding header_in
header_length bytes h e =
    let made = λ (len : ℕ) (kind : Kind) (lane serial link : ℕ). let h : Header = record { kind = kind; lane = lane; serial = serial; link = link; left = len - 16 } in h in
    let a = bind_ok (length_in bytes) (λ len. version_in bytes >>= λ v. kind_in v bytes >>= λ k. number_at w16 6 bytes >>= λ lane. serial_in k bytes >>= λ s. link_in k bytes >>= λ l. Ok (made len k lane s l)) h e in
    let b = bind_ok (version_in bytes) (λ v. kind_in v bytes >>= λ k. number_at w16 6 bytes >>= λ lane. serial_in k bytes >>= λ s. link_in k bytes >>= λ l. Ok (made a.0 k lane s l)) h a.2 in
    let c = bind_ok (kind_in b.0 bytes) (λ k. number_at w16 6 bytes >>= λ lane. serial_in k bytes >>= λ s. link_in k bytes >>= λ l. Ok (made a.0 k lane s l)) h b.2 in
    let d = bind_ok (number_at w16 6 bytes) (λ lane. serial_in c.0 bytes >>= λ s. link_in c.0 bytes >>= λ l. Ok (made a.0 c.0 lane s l)) h c.2 in
    let f = bind_ok (serial_in c.0 bytes) (λ s. link_in c.0 bytes >>= λ l. Ok (made a.0 c.0 d.0 s l)) h d.2 in
    let g = bind_ok (link_in c.0 bytes) (λ l. Ok (made a.0 c.0 d.0 f.0 l)) h f.2 in
    (a.0, a.1, ap (λ (x : Header). x.left) (sym (ok_is _ _ g.2)))

pub same_number : (m n : ℕ) → (let r : Result ℕ FrameFault = Ok m in r) ≡ Ok n → m ≡ n
same_number m n e = cc

-- a number of a length that is not refused
length_or_short : (bytes : List ℕ) (n : ℕ) → number_at w32 0 bytes ≡ Ok n → ((d : FrameFault) → length_in bytes ≡ Err d → d ≡ Short) → (17 ≤ n) × (n ≤ 8209)
unfolding length_in
length_or_short bytes n e right = pick (leb 17 n && leb n 8209) refl where
  limited : (n : ℕ) → leb 17 n && leb n 8209 ≡ true → (17 ≤ n) × (n ≤ 8209)
  limited n h = grind (arith, nat_tests)

  not_short : Malformed 0 ≡ Short → ⊥
  not_short e = cc

  pick : (b : Bool) → leb 17 n && leb n 8209 ≡ b → (17 ≤ n) × (n ≤ 8209)
  pick true t = limited n t
  pick false t = absurd (not_short (right (Malformed 0) (rw (e, t) refl)))

same_fault : (A : Type 0) (c d : FrameFault) → fails {A = A} c ≡ Err d → c ≡ d
same_fault A c d e = cc

-- the fault of a first step is the fault
first_fault : {A B : Type 0} (r : Result A FrameFault) (f : A → Result B FrameFault) (d : FrameFault) → r ≡ Err d → (r >>= f) ≡ Err Short → d ≡ Short
first_fault (Ok x) f d h e = absurd cc
first_fault {A} {B} (Err c) f d h e = sym (same_fault A c d h) ∙ same_fault B c Short e

fault_is : (bytes : List ℕ) (d : FrameFault) → length_in bytes ≡ Err d → header_in bytes ≡ Err Short → d ≡ Short
unfolding header_in
fault_is bytes d f e = first_fault (length_in bytes) _ d f e

pub decoded_short : (bytes : List ℕ) → decoded bytes ≡ Err Short → IsWaiting bytes
unfolding decoded
decoded_short bytes e = pick (bind_err (header_in bytes) after Short e) where
  after : Header → Result (PlainFrame × ℕ) FrameFault
  after h = body_in h.kind h.lane h.serial h.left (drop 20 bytes) >>= λ b. Ok (record { lane = h.lane; serial = h.serial; link = h.link; body = b }, 20 + h.left)

  pick : (header_in bytes ≡ Err Short) ⊎ ((h : Header) × (header_in bytes ≡ Ok h) × (after h ≡ Err Short)) → IsWaiting bytes
  pick (inl h) =
      let few = header_short bytes h in
      record {
        most = omega (arith, few);
        length_right = λ n e.
            let l = length_or_short bytes n e (λ d f. fault_is bytes d f h) in
            (l.0, l.1, omega (arith, l.0, few));
      }
  pick (inr h) =
      let l = header_length bytes h.0 h.1 in
      let limits = length_limits bytes l.0 l.1 in
      let few = body_short h.0.kind h.0.lane h.0.serial h.0.left (drop 20 bytes) (omega (arith, l.2, limits.1)) (wrapped_short (body_in h.0.kind h.0.lane h.0.serial h.0.left (drop 20 bytes)) _ h.2) in
      record {
        most = omega (arith, few, length-drop 20 bytes, l.2, limits.2);
        length_right = λ n e.
            let same = same_number l.0 n (sym limits.0 ∙ e) in
            (omega (arith, same, limits.1), omega (arith, same, limits.2), omega (arith, few, length-drop 20 bytes, l.2, limits.1, same));
      }
