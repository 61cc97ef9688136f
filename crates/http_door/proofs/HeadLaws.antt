-- A head is taken in one way only, and what follows from it.
use Rattle.std.proofs.Common.{◌≡◌, ℕ, ◌+◌, ◌<◌, ◌≤◌, List, [], ◌++◌, length, drop, Ok, Err, refl, sym, ap, ◌∙◌, subst, arith, append-nil, length-append, length-drop}
use Rattle.std.proofs.lemmas.List.{take_at}
use Rattle.std.proofs.lemmas.Bool.Decides.{nat_tests}
use Rattle.httparse.specs.Grammar.{RequestHead, print_request}
use Rattle.httparse.specs.declared.spans.HeaderSpan.{HeaderSpan}
use Rattle.httparse.specs.declared.spans.RequestSpans.{RequestSpans}
use Rattle.httparse.proofs.GrammarLemmas.{request_unique}
use Rattle.http1.specs.declared.framing.Framing.{Framing}
use Rattle.http1.specs.Framing.{method_kind, request_framing}
use Rattle.http1.specs.Message.{known_of}
use Rattle.std.specs.Prelude.{Result}
use Rattle.http_door.specs.declared.fault.DoorFault.{DoorFault}
use Rattle.http_door.specs.declared.fault.DoorFault.TheVariants as fault
use Rattle.http_door.specs.Heads.{TakesHead, HoldsRequest, LacksBody, LacksHead, NeverTakes, IsHeadAt, HasNoHead, body_len}
use Rattle.http_door.specs.Hearing.{heard_at, heard_of, heard_with, closed}

pub takes_unique : (held : List ℕ) (h k : RequestHead) (f g : Framing) (a b : List ℕ)
    → TakesHead held h f a → TakesHead held k g b → (h ≡ k) × (f ≡ g) × (a ≡ b)
takes_unique held h k f g a b x y =
    let same = request_unique held h k a b x.accepts.reads y.accepts.reads in
    let framed : Ok f ≡ Ok g =
    sym x.accepts.framed ∙ ap (λ (q : RequestHead). request_framing (method_kind q.method) q.minor (known_of q.fields)) same.0
    ∙ y.accepts.framed in
    (same.0, cc, same.1)

pub none_refused : (held : List ℕ) → NeverTakes held → HasNoHead held
none_refused held never head framing after takes =
    never [] head framing after (subst (λ (t : List ℕ). TakesHead t head framing after) (sym (append-nil held)) takes)

pub none_lacking : (held : List ℕ) → LacksHead held → HasNoHead held
none_lacking held lacks head framing after takes = lacks.none head after takes.accepts.reads

-- the head that was found is the one that is taken
pub found_same : (held : List ℕ) (spans : List HeaderSpan) (at : RequestSpans) (h k : RequestHead) (f g : Framing)
    (a : List ℕ) → IsHeadAt held spans at k g → TakesHead held h f a → (k ≡ h) × (g ≡ f) × (drop at.len held ≡ a)
found_same held spans at h k f g a found takes = takes_unique held k h g f (drop at.len held) a found.takes takes

pub heard_same : (held : List ℕ) (spans : List HeaderSpan) (at : RequestSpans) (h k : RequestHead) (f g : Framing)
    (a : List ℕ) → IsHeadAt held spans at k g → TakesHead held h f a
    → heard_at k g (drop at.len held) ≡ heard_at h f a
heard_same held spans at h k f g a found takes =
    let same = found_same held spans at h k f g a found takes in
    λ i. heard_at (same.0 i) (same.1 i) (same.2 i)

short_front : (head : RequestHead) (body rest : List ℕ) → heard_with head (body ++ rest) (Ok (length body)) ≡ heard_of head body
short_front head body rest =
    let all = take_at body rest (length body) refl in
    let fits = length-append body rest in
    rw all (grind (arith, nat_tests, fits))

pub heard_request : (held : List ℕ) (head : RequestHead) (body rest : List ℕ) (holds : HoldsRequest held head body rest)
    → heard_at head holds.framing (body ++ rest) ≡ heard_of head body
heard_request held head body rest holds =
    ap (heard_with head (body ++ rest)) holds.size ∙ short_front head body rest

pub heard_unsized : (why : DoorFault) (head : RequestHead) (framing : Framing) (after : List ℕ)
    → body_len head.method framing ≡ Err why → heard_at head framing after ≡ closed why
heard_unsized why head framing after wrong = ap (heard_with head after) wrong

lacking : (head : RequestHead) (after : List ℕ) (n : ℕ) → length after < n
    → heard_with head after (Ok n) ≡ closed fault.Malformed
lacking head after n short = grind (arith, nat_tests)

abbrev fine : ℕ → Result ℕ DoorFault
fine n = Ok n

-- a request ends where its body does
pub ends_at : (held : List ℕ) (spans : List HeaderSpan) (at : RequestSpans) (k : RequestHead) (g : Framing) (n : ℕ)
    (h : RequestHead) (body rest : List ℕ) → IsHeadAt held spans at k g → body_len k.method g ≡ Ok n
    → HoldsRequest held h body rest
    → (at.len ≡ length (print_request h)) × (n ≡ length body) × (drop at.len held ≡ body ++ rest)
ends_at held spans at k g n h body rest found sized holds =
    let same = found_same held spans at h k holds.framing g (body ++ rest) found holds.takes in
    let both : fine n ≡ fine (length body) =
    sym sized ∙ (λ i. body_len (same.0 i).method (same.1 i)) ∙ holds.size in
    (found.parts.len ∙ ap (λ (q : RequestHead). length (print_request q)) same.0, cc, same.2)

-- a body has a length that is taken, or none
pub sized_once : (held : List ℕ) (spans : List HeaderSpan) (at : RequestSpans) (h k : RequestHead) (f g : Framing)
    (a : List ℕ) → IsHeadAt held spans at k g → TakesHead held h f a → body_len k.method g ≡ body_len h.method f
sized_once held spans at h k f g a found takes =
    let same = found_same held spans at h k f g a found takes in
    λ i. body_len (same.0 i).method (same.1 i)

pub heard_lacking : (head : RequestHead) (framing : Framing) (after : List ℕ) (n : ℕ)
    → body_len head.method framing ≡ Ok n → length after < n → heard_at head framing after ≡ closed fault.Malformed
heard_lacking head framing after n sized short = ap (heard_with head after) sized ∙ lacking head after n short

-- a body that follows lies within the bytes
pub not_over : (held : List ℕ) (end n : ℕ) (body rest : List ℕ) → n ≡ length body → drop end held ≡ body ++ rest
    → end ≤ length held → length held < end + n → ⊥
not_over held end n body rest size behind inside over =
    omega (arith, ap length behind, length-append body rest, length-drop end held)

-- a body that is waited for isn't within the bytes
pub not_lacking : (held : List ℕ) (spans : List HeaderSpan) (at : RequestSpans) (k : RequestHead) (g : Framing) (n : ℕ)
    → LacksBody held → IsHeadAt held spans at k g → body_len k.method g ≡ Ok n → at.len + n ≤ length held → ⊥
not_lacking held spans at k g n lacks found sized inside =
    let same = found_same held spans at lacks.0 k lacks.1 g lacks.2 found lacks.4 in
    let both : fine n ≡ fine lacks.3 = sym sized ∙ (λ i. body_len (same.0 i).method (same.1 i)) ∙ lacks.5 in
    let size : n ≡ lacks.3 = cc in
    let after = lacks.6 in
    omega (arith, ap length same.2, length-drop at.len held)
