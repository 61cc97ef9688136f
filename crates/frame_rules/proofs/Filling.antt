-- Behind the tag the length alone decides: bytes that are short at 22 stay so up to the end of the frame.
use Rattle.std.proofs.Common.{◌≡◌, ℕ, zero, suc, ◌+◌, ◌-◌, ◌<◌, ◌≤◌, Bool, true, false, cond, eqb, leb, List, [], ◌∷◌, ◌++◌, length, take, drop, min, Result, Ok, Err, refl, sym, ap, ◌∙◌, append_assoc, arith, inl, inr}
use Rattle.std.specs.Prelude.{◌&&◌, ◌||◌, ◌⊎◌}
use Rattle.std.specs.Int.{w32}
use Rattle.std.proofs.lemmas.Bool.{cases_lt, lt-ltb}
use Rattle.std.proofs.lemmas.List.{append-nil, drop-append-le, drop_all, length-append, length-take, length-drop, take-append-drop}
use Rattle.frame_rules.specs.declared.fault.FrameFault.{FrameFault}
use Rattle.frame_rules.specs.declared.fault.FrameFault.TheVariants.{Short, Malformed}
use Rattle.frame_rules.specs.declared.kind.Kind.{Kind}
use Rattle.frame_rules.specs.declared.kind.Kind.TheVariants as kinds
use Rattle.frame_rules.specs.Frames.{PlainFrame, Refused, LinkReply, ReplyRefused}
use Rattle.frame_rules.specs.Forms.{◌>>=◌, number_at, Size, Form, sized, filled, chosen, tagged}
use Rattle.frame_rules.specs.Bodies.{addressed, refusals, replies, refused, reply_refused, replied, body_in}
use Rattle.frame_rules.specs.Reading.{Header, header_in, decoded}
use Rattle.frame_rules.specs.Gathering.{is_short, gathered, missing, missing_from}
use Rattle.frame_rules.proofs.Growing.{Settles, number_grows, header_grows}
use Rattle.frame_rules.proofs.Waiting.{bind_err, header_short, header_length, length_limits, same_number, decoded_short}
use Rattle.frame_rules.proofs.GatheringLaws.{short_is, pieces, gathered_more, gathered_none, gathered_stays, gathered_taken, missing_none, missing_is, length_missing}

-- ---- the same answer to some bytes and to more, while both are fewer than the length says

sized_same : (size : Size) (left : ℕ) (a b : List ℕ) → length a + length b < left → sized size left a ≡ sized size left (a ++ b)
unfolding sized
sized_same size left a b lt =
    rw (lt-ltb (length a) left (omega arith), lt-ltb (length (a ++ b)) left (omega (arith, length-append a b))) refl

filled_same : {A : Type 0} (form : Form A) (left : ℕ) (a b : List ℕ) → length a + length b < left → filled form left a ≡ filled form left (a ++ b)
unfolding filled
filled_same form left a b lt = ap (λ r. r >>= λ bytes. Ok (form.meaning bytes)) (sized_same form.size left a b lt)

then_same : {A B : Type 0} (r : Result A FrameFault) (g h : A → Result B FrameFault) → ((x : A) → g x ≡ h x) → (r >>= g) ≡ (r >>= h)
then_same (Ok x) g h same = same x
then_same (Err d) g h same = refl

tagged_same : {A : Type 0} (place : ℕ) (forms : List (ℕ × Form A)) (left tag : ℕ) (a b : List ℕ) → suc (length a + length b) < left → tagged place forms left (tag ∷ a) ≡ tagged place forms left (tag ∷ a ++ b)
unfolding tagged
tagged_same place forms left tag a b lt = then_same (chosen place tag forms) _ _ (λ form. filled_same form (left - 1) a b (omega arith))

refused_same : (lane serial left n : ℕ) (a b : List ℕ) → suc (length a + length b) < left → refused lane serial left (n ∷ a) ≡ refused lane serial left (n ∷ a ++ b)
unfolding refused
refused_same lane serial left n a b lt =
    then_same (cond (leb 1 n && leb n 14) (addressed n lane serial) (Err (Malformed 20))) _ _
    (λ right. ap (λ t. t >>= λ r. Ok (Refused r)) (tagged_same 20 refusals left n a b lt))

reply_refused_same : (left n : ℕ) (a b : List ℕ) → suc (length a + length b) < left → reply_refused left (n ∷ a) ≡ reply_refused left (n ∷ a ++ b)
unfolding reply_refused
reply_refused_same left n a b lt =
    ap (λ r. cond (eqb left 0) (Err (Malformed 0)) (cond (eqb n 3 || (leb 6 n && leb n 11)) (r >>= λ r. Ok (LinkReply (ReplyRefused r))) (Err (Malformed 21))))
    (tagged_same 21 refusals left n a b lt)

replied_same : (left tag n : ℕ) (a b : List ℕ) → suc (suc (length a + length b)) < left → replied left (tag ∷ n ∷ a) ≡ replied left (tag ∷ n ∷ a ++ b)
unfolding replied
replied_same left tag n a b lt =
    let refusal = reply_refused_same (left - 1) n a b (omega arith) in
    ap (λ r. cond (eqb tag 7) r (tagged 20 replies left (tag ∷ n ∷ a))) refusal
    ∙ ap (λ r. cond (eqb tag 7) (reply_refused (left - 1) (n ∷ a ++ b)) r) (tagged_same 20 replies left tag (n ∷ a) b (omega arith))

body_same : (k : Kind) (lane serial left x y : ℕ) (a b : List ℕ) → suc (suc (length a + length b)) < left → body_in k lane serial left (x ∷ y ∷ a) ≡ body_in k lane serial left (x ∷ y ∷ a ++ b)
body_same kinds.Deposit lane serial left x y a b lt = tagged_same _ _ left x (y ∷ a) b (omega arith)
body_same kinds.Register lane serial left x y a b lt = filled_same _ left (x ∷ y ∷ a) b (omega arith)
body_same kinds.Write lane serial left x y a b lt = filled_same _ left (x ∷ y ∷ a) b (omega arith)
body_same kinds.Read lane serial left x y a b lt = filled_same _ left (x ∷ y ∷ a) b (omega arith)
body_same kinds.Proof lane serial left x y a b lt = filled_same _ left (x ∷ y ∷ a) b (omega arith)
body_same kinds.Held lane serial left x y a b lt = tagged_same _ _ left x (y ∷ a) b (omega arith)
body_same kinds.Challenge lane serial left x y a b lt = filled_same _ left (x ∷ y ∷ a) b (omega arith)
body_same kinds.Done lane serial left x y a b lt = tagged_same _ _ left x (y ∷ a) b (omega arith)
body_same kinds.Refused lane serial left x y a b lt = refused_same lane serial left x (y ∷ a) b (omega arith)
body_same kinds.LinkRegister lane serial left x y a b lt = filled_same _ left (x ∷ y ∷ a) b (omega arith)
body_same kinds.LinkBegin lane serial left x y a b lt = filled_same _ left (x ∷ y ∷ a) b (omega arith)
body_same kinds.LinkAudit lane serial left x y a b lt = filled_same _ left (x ∷ y ∷ a) b (omega arith)
body_same kinds.LinkSettle lane serial left x y a b lt = filled_same _ left (x ∷ y ∷ a) b (omega arith)
body_same kinds.LinkRead lane serial left x y a b lt = filled_same _ left (x ∷ y ∷ a) b (omega arith)
body_same kinds.LinkReply lane serial left x y a b lt = replied_same left x y a b lt
body_same kinds.Retire lane serial left x y a b lt = filled_same _ left (x ∷ y ∷ a) b (omega arith)
body_same kinds.LinkRetire lane serial left x y a b lt = filled_same _ left (x ∷ y ∷ a) b (omega arith)
body_same kinds.LinkBegun lane serial left x y a b lt = filled_same _ left (x ∷ y ∷ a) b (omega arith)

body_rest : (k : Kind) (lane serial left : ℕ) (a b : List ℕ) → 2 ≤ length a → length a + length b < left → body_in k lane serial left a ≡ body_in k lane serial left (a ++ b)
body_rest k lane serial left [] b two lt = absurd (omega arith)
body_rest k lane serial left (x ∷ []) b two lt = absurd (omega arith)
body_rest k lane serial left (x ∷ y ∷ a) b two lt = body_same k lane serial left x y a b (omega arith)

-- ---- the frame

header_left : (bytes : List ℕ) (h : Header) (n : ℕ) → header_in bytes ≡ Ok h → number_at w32 0 bytes ≡ Ok n → 4 + n ≡ 20 + h.left
header_left bytes h n e len =
    let l = header_length bytes h e in
    let limits = length_limits bytes l.0 l.1 in
    let same = same_number l.0 n (sym limits.0 ∙ len) in
    omega (arith, l.2, limits.1, same)

number_stays : (held more : List ℕ) (n : ℕ) → number_at w32 0 held ≡ Ok n → number_at w32 0 (held ++ more) ≡ Ok n
unfolding Settles
number_stays held more n e = pick (number_grows w32 0 held more) where
  pick : Settles (number_at w32 0 held) (number_at w32 0 (held ++ more)) → number_at w32 0 (held ++ more) ≡ Ok n
  pick (inl s) = absurd cc
  pick (inr s) = s ∙ e

after : Header → List ℕ → Result (PlainFrame × ℕ) FrameFault
after h rest = body_in h.kind h.lane h.serial h.left rest >>= λ b. Ok (record { lane = h.lane; serial = h.serial; link = h.link; body = b }, 20 + h.left)

same_header : (held more : List ℕ) (h : Header) → header_in held ≡ Ok h → header_in (held ++ more) ≡ Ok h
unfolding Settles
same_header held more h e = pick (header_grows held more) where
  pick : Settles (header_in held) (header_in (held ++ more)) → header_in (held ++ more) ≡ Ok h
  pick (inl s) = absurd cc
  pick (inr s) = s ∙ e

decoded_after : (bytes : List ℕ) (h : Header) → header_in bytes ≡ Ok h → decoded bytes ≡ after h (drop 20 bytes)
unfolding decoded after
decoded_after bytes h e = rw e refl

pub still_short : (held more : List ℕ) (n : ℕ) → number_at w32 0 held ≡ Ok n → decoded held ≡ Err Short → 22 ≤ length held → length held + length more < 4 + n → decoded (held ++ more) ≡ Err Short
unfolding decoded after
still_short held more n len short far lt = pick (bind_err (header_in held) (λ h. after h (drop 20 held)) Short short) where
  pick : (header_in held ≡ Err Short) ⊎ ((h : Header) × (header_in held ≡ Ok h) × (after h (drop 20 held) ≡ Err Short)) → decoded (held ++ more) ≡ Err Short
  pick (inl e) = absurd (omega (arith, header_short held e, far))
  pick (inr e) =
      let h = e.0 in
      let left : 4 + n ≡ 20 + h.left = header_left held h n e.1 len in
      let rest : drop 20 (held ++ more) ≡ drop 20 held ++ more = drop-append-le 20 held more (omega arith) in
      let same = body_rest h.kind h.lane h.serial h.left (drop 20 held) more (omega (arith, length-drop 20 held)) (omega (arith, length-drop 20 held, left)) in
      decoded_after (held ++ more) h (same_header held more h e.1)
      ∙ ap (after h) rest
      ∙ ap (λ r. r >>= λ b. Ok (record { lane = h.lane; serial = h.serial; link = h.link; body = b }, 20 + h.left)) (sym same)
      ∙ e.2

-- ---- gathering

-- what is known to be missing is taken at once
pub gathered_at_once : (held piece : List ℕ) (n count : ℕ) → number_at w32 0 held ≡ Ok n → decoded held ≡ Err Short → 22 ≤ length held → count ≤ length piece → length held + count ≤ 4 + n → gathered held piece ≡ gathered (held ++ take count piece) (drop count piece)
gathered_at_once held piece n zero len short far most room = ap (λ (t : List ℕ). gathered t piece) (sym (append-nil held))
gathered_at_once held [] n (suc count) len short far most room = absurd (omega arith)
gathered_at_once held (b ∷ piece) n (suc zero) len short far most room = gathered_more held b piece (ap is_short short)
gathered_at_once held (b ∷ piece) n (suc (suc count)) len short far most room =
    let next : List ℕ = held ++ b ∷ [] in
    let long : length next ≡ length held + 1 = length-append held (b ∷ []) in
    gathered_more held b piece (ap is_short short)
    ∙ gathered_at_once next piece n (suc count) (number_stays held (b ∷ []) n len) (still_short held (b ∷ []) n len short far (omega arith)) (omega (arith, long)) (omega arith) (omega (arith, long))
    ∙ ap (λ (t : List ℕ). gathered t (drop (suc count) piece)) (append_assoc held (b ∷ []) (take (suc count) piece))

-- what wasn't all taken takes nothing more
pub gathered_stopped : (held front more : List ℕ) → length (gathered held front) < length held + length front → gathered (gathered held front) more ≡ gathered held front
gathered_stopped held [] more lt = absurd (omega (arith, ap length (gathered_none held)))
gathered_stopped held (b ∷ front) more lt = pick (is_short (decoded held)) refl (gathered_stopped (held ++ b ∷ []) front more) where
  pick : (t : Bool) → is_short (decoded held) ≡ t → (length (gathered (held ++ b ∷ []) front) < length (held ++ b ∷ []) + length front → gathered (gathered (held ++ b ∷ []) front) more ≡ gathered (held ++ b ∷ []) front) → gathered (gathered held (b ∷ front)) more ≡ gathered held (b ∷ front)
  pick true t next =
      let same = gathered_more held b front t in
      ap (λ (x : List ℕ). gathered x more) same ∙ next (omega (arith, ap length same, length-append held (b ∷ []), lt)) ∙ sym same
  pick false t next =
      let same = gathered_stays held (b ∷ front) t in
      ap (λ (x : List ℕ). gathered x more) same ∙ gathered_stays held more t ∙ sym same

-- a front, and then the rest
pub gathered_cut : (held piece : List ℕ) (k : ℕ) → gathered held piece ≡ gathered (gathered held (take k piece)) (drop k piece)
gathered_cut held piece k = sym (pieces held (take k piece) (drop k piece) ∙ ap (gathered held) (take-append-drop k piece))

-- where fewer than 22 are held after a front that would have filled them, nothing more is taken
pub gathered_near : (held piece : List ℕ) (k : ℕ) → k ≡ min (22 - length held) (length piece) → length (gathered held (take k piece)) < 22 → gathered held piece ≡ gathered held (take k piece)
gathered_near held piece k is few = gathered_cut held piece k ∙ pick (cases_lt k (length piece)) where
  front : length (take k piece) ≡ k
  front = omega (arith, length-take k piece, is)

  pick : (k < length piece) ⊎ (length piece ≤ k) → gathered (gathered held (take k piece)) (drop k piece) ≡ gathered held (take k piece)
  pick (inl lt) =
      let t = gathered_taken held (take k piece) (gathered held (take k piece)) refl in
      gathered_stopped held (take k piece) (drop k piece) (omega (arith, front, is, few, lt, t.0))
  pick (inr le) = ap (gathered (gathered held (take k piece))) (drop_all k piece le) ∙ gathered_none (gathered held (take k piece))

missing_of : (r : Result ℕ FrameFault) (held : ℕ) (n : ℕ) → r ≡ Ok n → missing_from r held ≡ 4 + n - held
missing_of r held n e = ap (λ r. missing_from r held) e

no_length : (held : List ℕ) (d : FrameFault) → number_at w32 0 held ≡ Err d → 22 ≤ length held → ⊥
no_length held d e far = omega (arith, length_missing held d e, far)

-- as many bytes as the length says take nothing more
full_stays : (held more : List ℕ) (n : ℕ) → number_at w32 0 held ≡ Ok n → 4 + n ≤ length held → gathered held more ≡ held
full_stays held more n e full = pick (is_short (decoded held)) refl where
  pick : (t : Bool) → is_short (decoded held) ≡ t → gathered held more ≡ held
  pick true t = let w = (decoded_short held (short_is (decoded held) t)).length_right n e in absurd (omega (arith, full, w))
  pick false t = gathered_stays held more t

-- behind the tag, what is missing is taken at once
pub gathered_missing : (held piece : List ℕ) (count : ℕ) → 22 ≤ length held → count ≡ min (missing held) (length piece) → gathered held piece ≡ held ++ take count piece
gathered_missing held piece count far is = pick (is_short (decoded held)) refl where
  long : length (held ++ take count piece) ≡ length held + count
  long = omega (arith, length-append held (take count piece), length-take count piece, is)

  stop : (n : ℕ) → number_at w32 0 held ≡ Ok n → missing held ≡ 4 + n - length held → (count < length piece) ⊎ (length piece ≤ count) → gathered (held ++ take count piece) (drop count piece) ≡ held ++ take count piece
  stop n e lacks (inr le) = ap (gathered (held ++ take count piece)) (drop_all count piece le) ∙ gathered_none (held ++ take count piece)
  stop n e lacks (inl lt) = full_stays (held ++ take count piece) (drop count piece) n (number_stays held (take count piece) n e) (omega (arith, long, is, lacks, lt))

  filled_up : (r : Result ℕ FrameFault) → number_at w32 0 held ≡ r → is_short (decoded held) ≡ true → gathered held piece ≡ held ++ take count piece
  filled_up (Err d) e t = absurd (no_length held d e far)
  filled_up (Ok n) e t =
      let short : decoded held ≡ Err Short = short_is (decoded held) t in
      let w = (decoded_short held short).length_right n e in
      let lacks : missing held ≡ 4 + n - length held = missing_is held t ∙ missing_of (number_at w32 0 held) (length held) n e in
      gathered_at_once held piece n count e short far (omega (arith, is)) (omega (arith, is, lacks, w)) ∙ stop n e lacks (cases_lt count (length piece))

  pick : (t : Bool) → is_short (decoded held) ≡ t → gathered held piece ≡ held ++ take count piece
  pick true t = filled_up (number_at w32 0 held) refl t
  pick false t =
      let none : count ≡ 0 = omega (arith, is, missing_none held t) in
      gathered_stays held piece t ∙ sym (append-nil held) ∙ ap (λ k. held ++ take k piece) (sym none)

-- so many at once never exceed the longest frame
pub missing_room : (held : List ℕ) → missing held ≤ 8213 - length held
missing_room held = pick (is_short (decoded held)) refl where
  read : (r : Result ℕ FrameFault) → number_at w32 0 held ≡ r → is_short (decoded held) ≡ true → missing held ≤ 8213 - length held
  read (Err d) e t = omega (arith, missing_is held t ∙ ap (λ r. missing_from r (length held)) e)
  read (Ok n) e t =
      let w = (decoded_short held (short_is (decoded held) t)).length_right n e in
      omega (arith, missing_is held t ∙ missing_of (number_at w32 0 held) (length held) n e, w)

  pick : (t : Bool) → is_short (decoded held) ≡ t → missing held ≤ 8213 - length held
  pick true t = read (number_at w32 0 held) refl t
  pick false t = omega (arith, missing_none held t)
