-- What more bytes change: a frame and a fault stay, and only Short can give way.
use Rattle.std.proofs.Common.{◌≡◌, ℕ, suc, ◌+◌, ◌-◌, ◌≤◌, Bool, true, false, cond, eqb, leb, ltb, List, [], ◌∷◌, ◌++◌, length, take, drop, Result, Ok, Err, refl, sym, ap, ◌∙◌, subst, arith, inl, inr}
use Rattle.std.specs.Prelude.{◌⊎◌, ◌&&◌, ◌||◌}
use Rattle.std.specs.Int.{Width, w16, w64, byte_len, from_be_bytes}
use Rattle.std.proofs.lemmas.Bool.{cases_lt, ltb-false, le-ltb, lt-ltb}
use Rattle.std.proofs.lemmas.List.{take-append-le, drop-append-le, length-append, length-drop}
use Rattle.frame_rules.specs.declared.fault.FrameFault.{FrameFault}
use Rattle.frame_rules.specs.declared.fault.FrameFault.TheVariants.{Short, Malformed}
use Rattle.frame_rules.specs.declared.kind.Kind.{Kind}
use Rattle.frame_rules.specs.declared.kind.Kind.TheVariants as kinds
use Rattle.frame_rules.specs.Frames.{PlainBody, Refused, LinkReply, ReplyRefused}
use Rattle.frame_rules.specs.Forms.{◌>>=◌, number_at, Size, Form, has_size, sized, filled, chosen, tagged}
use Rattle.frame_rules.specs.Bodies.{addressed, refusals, replies, refused, reply_refused, replied, body_in}
use Rattle.frame_rules.specs.Reading.{Header, length_in, version_in, kind_in, serial_in, link_in, header_in, decoded}
use Rattle.frame_rules.proofs.FormLaws.{bind_ok, test_ok, guard_ok, sized_ok}
use Rattle.frame_rules.proofs.BodyLaws.{positive, never}

-- the answer to some bytes, and to more: short, or the same
unfoldable pub Settles : {A : Type 0} → Result A FrameFault → Result A FrameFault → Type 0
Settles r s = (r ≡ Err Short) ⊎ (s ≡ r)

module _ {A B : Type 0} where
  settles_then : (r s : Result A FrameFault) (g h : A → Result B FrameFault) → Settles r s → ((x : A) → r ≡ Ok x → Settles (g x) (h x)) → Settles (r >>= g) (s >>= h)
  unfolding Settles
  settles_then r s g h (inl e) f = inl (ap (λ t. t >>= g) e)
  settles_then (Ok x) s g h (inr e) f = subst (λ t. Settles (g x) (t >>= h)) (sym e) (f x refl)
  settles_then (Err d) s g h (inr e) f = inr (ap (λ t. t >>= h) e)

  -- a step that doesn't look at the bytes
  settles_same : (r : Result A FrameFault) (g h : A → Result B FrameFault) → ((x : A) → Settles (g x) (h x)) → Settles (r >>= g) (r >>= h)
  unfolding Settles
  settles_same r g h f = settles_then r r g h (inr refl) (λ x e. f x)

  settles_on : (r s : Result A FrameFault) (g : A → Result B FrameFault) → Settles r s → Settles (r >>= g) (s >>= g)
  unfolding Settles
  settles_on r s g h = settles_then r s g g h (λ x e. inr refl)

module _ {A : Type 0} where
  settles_refl : (r : Result A FrameFault) → Settles r r
  unfolding Settles
  settles_refl r = inr refl

  settles_short : (s : Result A FrameFault) → Settles (Err Short) s
  unfolding Settles
  settles_short s = inl refl

  settles_cond : (b : Bool) (r s r' s' : Result A FrameFault) → Settles r s → Settles r' s' → Settles (cond b r r') (cond b s s')
  settles_cond true r s r' s' h h' = h
  settles_cond false r s r' s' h h' = h'

pub number_grows : (w : Width) (place : ℕ) (a b : List ℕ) → Settles (number_at w place a) (number_at w place (a ++ b))
unfolding Settles number_at
number_grows w place a b =
    elim (cases_lt (length a) (place + byte_len w)) [
      | inl lt ↦ inl (rw (lt-ltb _ _ lt) refl)
      | inr le ↦
          let more : ltb (length (a ++ b)) (place + byte_len w) ≡ false = le-ltb _ _ (omega (arith, length-append a b)) in
          let same : take (byte_len w) (drop place (a ++ b)) ≡ take (byte_len w) (drop place a)
          = ap (take (byte_len w)) (drop-append-le place a b (omega arith)) ∙ take-append-le (byte_len w) (drop place a) b (omega (arith, length-drop place a)) in
          inr (rw (more, same, le-ltb (length a) (place + byte_len w) le) refl)
    ]

sized_grows : (size : Size) (left : ℕ) (a b : List ℕ) → Settles (sized size left a) (sized size left (a ++ b))
unfolding Settles sized
sized_grows size left a b =
    elim (has_size size left) as (λ t. Settles (cond t (cond (ltb (length a) left) (Err Short) (Ok (take left a))) (Err (Malformed 0))) (cond t (cond (ltb (length (a ++ b)) left) (Err Short) (Ok (take left (a ++ b)))) (Err (Malformed 0)))) [
      | false ↦ inr refl
      | true ↦
          elim (cases_lt (length a) left) [
            | inl lt ↦ inl (rw (lt-ltb _ _ lt) refl)
            | inr le ↦
                let more : ltb (length (a ++ b)) left ≡ false = le-ltb _ _ (omega (arith, length-append a b)) in
                inr (rw (more, take-append-le left a b le, le-ltb (length a) left le) refl)
          ]
    ]

filled_grows : {A : Type 0} (form : Form A) (left : ℕ) (a b : List ℕ) → Settles (filled form left a) (filled form left (a ++ b))
unfolding filled
filled_grows form left a b = settles_on (sized form.size left a) (sized form.size left (a ++ b)) (λ bytes. Ok (form.meaning bytes)) (sized_grows form.size left a b)

tagged_grows : {A : Type 0} (place : ℕ) (forms : List (ℕ × Form A)) (left : ℕ) (a b : List ℕ) → Settles (tagged place forms left a) (tagged place forms left (a ++ b))
unfolding Settles tagged
tagged_grows place forms left [] b = inl refl
tagged_grows place forms left (tag ∷ a) b = settles_same (chosen place tag forms) (λ form. filled form (left - 1) a) (λ form. filled form (left - 1) (a ++ b)) (λ form. filled_grows form (left - 1) a b)

refused_grows : (lane serial left : ℕ) (a b : List ℕ) → Settles (refused lane serial left a) (refused lane serial left (a ++ b))
unfolding Settles refused
refused_grows lane serial left [] b = inl refl
refused_grows lane serial left (n ∷ a) b =
    settles_same (cond (leb 1 n && leb n 14) (addressed n lane serial) (Err (Malformed 20))) (λ right. tagged 20 refusals left (n ∷ a) >>= λ r. Ok (Refused r)) (λ right. tagged 20 refusals left (n ∷ a ++ b) >>= λ r. Ok (Refused r))
    (λ right. settles_on (tagged 20 refusals left (n ∷ a)) (tagged 20 refusals left (n ∷ a ++ b)) (λ r. Ok (Refused r)) (tagged_grows 20 refusals left (n ∷ a) b))

reply_refused_grows : (left : ℕ) (a b : List ℕ) → Settles (reply_refused left a) (reply_refused left (a ++ b))
unfolding reply_refused
reply_refused_grows left [] b = settles_cond (eqb left 0) _ _ _ _ (settles_refl (Err (Malformed 0))) (settles_short _)
reply_refused_grows left (n ∷ a) b =
    settles_cond (eqb left 0) _ _ _ _ (settles_refl (Err (Malformed 0)))
    (settles_cond (eqb n 3 || (leb 6 n && leb n 11)) _ _ _ _ (settles_on (tagged 21 refusals left (n ∷ a)) (tagged 21 refusals left (n ∷ a ++ b)) (λ r. Ok (LinkReply (ReplyRefused r))) (tagged_grows 21 refusals left (n ∷ a) b)) (settles_refl (Err (Malformed 21))))

replied_grows : (left : ℕ) (a b : List ℕ) → Settles (replied left a) (replied left (a ++ b))
unfolding Settles replied
replied_grows left [] b = inl refl
replied_grows left (tag ∷ a) b = settles_cond (eqb tag 7) _ _ _ _ (reply_refused_grows (left - 1) a b) (tagged_grows 20 replies left (tag ∷ a) b)

body_grows : (k : Kind) (lane serial left : ℕ) (a b : List ℕ) → Settles (body_in k lane serial left a) (body_in k lane serial left (a ++ b))
body_grows kinds.Deposit lane serial left a b = tagged_grows _ _ left a b
body_grows kinds.Register lane serial left a b = filled_grows _ left a b
body_grows kinds.Write lane serial left a b = filled_grows _ left a b
body_grows kinds.Read lane serial left a b = filled_grows _ left a b
body_grows kinds.Proof lane serial left a b = filled_grows _ left a b
body_grows kinds.Held lane serial left a b = tagged_grows _ _ left a b
body_grows kinds.Challenge lane serial left a b = filled_grows _ left a b
body_grows kinds.Done lane serial left a b = tagged_grows _ _ left a b
body_grows kinds.Refused lane serial left a b = refused_grows lane serial left a b
body_grows kinds.LinkRegister lane serial left a b = filled_grows _ left a b
body_grows kinds.LinkBegin lane serial left a b = filled_grows _ left a b
body_grows kinds.LinkAudit lane serial left a b = filled_grows _ left a b
body_grows kinds.LinkSettle lane serial left a b = filled_grows _ left a b
body_grows kinds.LinkRead lane serial left a b = filled_grows _ left a b
body_grows kinds.LinkReply lane serial left a b = replied_grows left a b
body_grows kinds.Retire lane serial left a b = filled_grows _ left a b
body_grows kinds.LinkRetire lane serial left a b = filled_grows _ left a b
body_grows kinds.LinkBegun lane serial left a b = filled_grows _ left a b

length_grows : (a b : List ℕ) → Settles (length_in a) (length_in (a ++ b))
unfolding length_in
length_grows a b = settles_on (number_at _ 0 a) (number_at _ 0 (a ++ b)) _ (number_grows _ 0 a b)

version_grows : (a b : List ℕ) → Settles (version_in a) (version_in (a ++ b))
unfolding version_in
version_grows a b = settles_on (number_at _ 4 a) (number_at _ 4 (a ++ b)) _ (number_grows _ 4 a b)

kind_grows : (v : ℕ) (a b : List ℕ) → Settles (kind_in v a) (kind_in v (a ++ b))
unfolding kind_in
kind_grows v a b = settles_on (number_at _ 5 a) (number_at _ 5 (a ++ b)) _ (number_grows _ 5 a b)

serial_grows : (k : Kind) (a b : List ℕ) → Settles (serial_in k a) (serial_in k (a ++ b))
unfolding serial_in
serial_grows k a b = settles_on (number_at _ 8 a) (number_at _ 8 (a ++ b)) _ (number_grows _ 8 a b)

link_grows : (k : Kind) (a b : List ℕ) → Settles (link_in k a) (link_in k (a ++ b))
unfolding link_in
link_grows k a b = settles_on (number_at _ 12 a) (number_at _ 12 (a ++ b)) _ (number_grows _ 12 a b)

pub header_grows : (a b : List ℕ) → Settles (header_in a) (header_in (a ++ b))
unfolding header_in
header_grows a b =
    settles_then (length_in a) (length_in (a ++ b)) _ _ (length_grows a b) (λ len e.
    settles_then (version_in a) (version_in (a ++ b)) _ _ (version_grows a b) (λ v e.
    settles_then (kind_in v a) (kind_in v (a ++ b)) _ _ (kind_grows v a b) (λ k e.
    settles_then (number_at w16 6 a) (number_at w16 6 (a ++ b)) _ _ (number_grows w16 6 a b) (λ lane e.
    settles_then (serial_in k a) (serial_in k (a ++ b)) _ _ (serial_grows k a b) (λ s e.
    settles_on (link_in k a) (link_in k (a ++ b)) _ (link_grows k a b))))))

-- ---- what was read has come whole

number_whole : (w : Width) (place : ℕ) (bytes : List ℕ) (n : ℕ) → number_at w place bytes ≡ Ok n → place + byte_len w ≤ length bytes
unfolding number_at
number_whole w place bytes n e = ltb-false _ _ (guard_ok (ltb (length bytes) (place + byte_len w)) Short (Ok (from_be_bytes w (take (byte_len w) (drop place bytes)))) n e).0

pub header_whole : (bytes : List ℕ) (h : Header) → header_in bytes ≡ Ok h → 20 ≤ length bytes
unfolding header_in link_in
header_whole bytes h e =
    let a = bind_ok (length_in bytes) _ h e in
    let b = bind_ok (version_in bytes) _ h a.2 in
    let c = bind_ok (kind_in b.0 bytes) _ h b.2 in
    let d = bind_ok (number_at w16 6 bytes) _ h c.2 in
    let f = bind_ok (serial_in c.0 bytes) _ h d.2 in
    let g = bind_ok (link_in c.0 bytes) _ h f.2 in
    let n = bind_ok (number_at w64 12 bytes) _ g.0 g.1 in
    number_whole w64 12 bytes n.0 n.1

filled_whole : {A : Type 0} (form : Form A) (left : ℕ) (rest : List ℕ) (x : A) → filled form left rest ≡ Ok x → left ≤ length rest
unfolding filled
filled_whole form left rest x e = let b = bind_ok (sized form.size left rest) (λ bytes. Ok (form.meaning bytes)) x e in (sized_ok form.size left rest b.0 b.1).whole

tagged_whole : {A : Type 0} (place : ℕ) (forms : List (ℕ × Form A)) (left : ℕ) (rest : List ℕ) (x : A) → 1 ≤ left → tagged place forms left rest ≡ Ok x → left ≤ length rest
unfolding tagged
tagged_whole place forms left [] x one e = absurd cc
tagged_whole place forms left (tag ∷ rest) x one e =
    let b = bind_ok (chosen place tag forms) (λ form. filled form (left - 1) rest) x e in
    omega (arith, filled_whole b.0 (left - 1) rest x b.2)

refused_whole : (lane serial left : ℕ) (rest : List ℕ) (x : PlainBody) → 1 ≤ left → refused lane serial left rest ≡ Ok x → left ≤ length rest
unfolding refused
refused_whole lane serial left [] x one e = absurd cc
refused_whole lane serial left (n ∷ rest) x one e =
    let a = bind_ok (cond (leb 1 n && leb n 14) (addressed n lane serial) (Err (Malformed 20))) (λ right. tagged 20 refusals left (n ∷ rest) >>= λ r. Ok (Refused r)) x e in
    let b = bind_ok (tagged 20 refusals left (n ∷ rest)) (λ r. Ok (Refused r)) x a.2 in
    tagged_whole 20 refusals left (n ∷ rest) b.0 one b.1

reply_refused_whole : (left : ℕ) (rest : List ℕ) (x : PlainBody) → reply_refused left rest ≡ Ok x → left ≤ length rest
unfolding reply_refused
reply_refused_whole left [] x e = let g = guard_ok (eqb left 0) (Malformed 0) (Err Short) x e in absurd (never Short x g.1)
reply_refused_whole left (n ∷ rest) x e =
    let g = guard_ok (eqb left 0) (Malformed 0) (cond (eqb n 3 || (leb 6 n && leb n 11)) (tagged 21 refusals left (n ∷ rest) >>= λ r. Ok (LinkReply (ReplyRefused r))) (Err (Malformed 21))) x e in
    let t = test_ok (eqb n 3 || (leb 6 n && leb n 11)) (Malformed 21) (tagged 21 refusals left (n ∷ rest) >>= λ r. Ok (LinkReply (ReplyRefused r))) x g.1 in
    let b = bind_ok (tagged 21 refusals left (n ∷ rest)) (λ r. Ok (LinkReply (ReplyRefused r))) x t.1 in
    tagged_whole 21 refusals left (n ∷ rest) b.0 (positive left g.0) b.1

replied_whole : (left : ℕ) (rest : List ℕ) (x : PlainBody) → 1 ≤ left → replied left rest ≡ Ok x → left ≤ length rest
unfolding replied
replied_whole left [] x one e = absurd cc
replied_whole left (tag ∷ rest) x one e = pick (eqb tag 7) e where
  pick : (t : Bool) → cond t (reply_refused (left - 1) rest) (tagged 20 replies left (tag ∷ rest)) ≡ Ok x → left ≤ suc (length rest)
  pick true e = omega (arith, reply_refused_whole (left - 1) rest x e)
  pick false e = tagged_whole 20 replies left (tag ∷ rest) x one e

pub body_whole : (k : Kind) (lane serial left : ℕ) (rest : List ℕ) (x : PlainBody) → 1 ≤ left → body_in k lane serial left rest ≡ Ok x → left ≤ length rest
body_whole kinds.Deposit lane serial left rest x one e = tagged_whole _ _ left rest x one e
body_whole kinds.Register lane serial left rest x one e = filled_whole _ left rest x e
body_whole kinds.Write lane serial left rest x one e = filled_whole _ left rest x e
body_whole kinds.Read lane serial left rest x one e = filled_whole _ left rest x e
body_whole kinds.Proof lane serial left rest x one e = filled_whole _ left rest x e
body_whole kinds.Held lane serial left rest x one e = tagged_whole _ _ left rest x one e
body_whole kinds.Challenge lane serial left rest x one e = filled_whole _ left rest x e
body_whole kinds.Done lane serial left rest x one e = tagged_whole _ _ left rest x one e
body_whole kinds.Refused lane serial left rest x one e = refused_whole lane serial left rest x one e
body_whole kinds.LinkRegister lane serial left rest x one e = filled_whole _ left rest x e
body_whole kinds.LinkBegin lane serial left rest x one e = filled_whole _ left rest x e
body_whole kinds.LinkAudit lane serial left rest x one e = filled_whole _ left rest x e
body_whole kinds.LinkSettle lane serial left rest x one e = filled_whole _ left rest x e
body_whole kinds.LinkRead lane serial left rest x one e = filled_whole _ left rest x e
body_whole kinds.LinkReply lane serial left rest x one e = replied_whole left rest x one e
body_whole kinds.Retire lane serial left rest x one e = filled_whole _ left rest x e
body_whole kinds.LinkRetire lane serial left rest x one e = filled_whole _ left rest x e
body_whole kinds.LinkBegun lane serial left rest x one e = filled_whole _ left rest x e

-- ---- frames

pub decoded_grows : (a b : List ℕ) → Settles (decoded a) (decoded (a ++ b))
unfolding decoded
decoded_grows a b =
    settles_then (header_in a) (header_in (a ++ b)) _ _ (header_grows a b) (λ h e.
    settles_on (body_in h.kind h.lane h.serial h.left (drop 20 a)) (body_in h.kind h.lane h.serial h.left (drop 20 (a ++ b))) _
    (rw (drop-append-le 20 a b (header_whole a h e)) (body_grows h.kind h.lane h.serial h.left (drop 20 a) b)))
