-- A response is taken in one way only, so an answer that is held is the one that is read.
use Rattle.std.proofs.Common.{◌≡◌, ℕ, ◌<◌, ◌≤◌, List, [], ◌++◌, length, take, refl, sym, ap, ◌∙◌, subst}
use Rattle.std.proofs.Common.{arith, inl, inr, append-nil, length-append}
use Rattle.std.specs.Prelude.{Option, Some, None, Result, Ok, Err}
use Rattle.std.proofs.lemmas.List.{take_at}
use Rattle.std.proofs.lemmas.Bool.Decides.{nat_tests}
use Rattle.httparse.specs.Grammar.{ResponseHead, print_response, status_code}
use Rattle.httparse.proofs.GrammarLemmas.{response_unique, response_prefix_free}
use Rattle.http1.specs.declared.framing.Framing.{Framing}
use Rattle.http1.specs.declared.framing.Framing.TheVariants.{NoBody, Length, Chunked, UntilClose}
use Rattle.http1.specs.declared.framing.FramingError.{FramingError}
use Rattle.http1.specs.declared.framing.MethodKind.TheVariants.{Other}
use Rattle.http1.specs.Framing.{response_framing}
use Rattle.http1.specs.Message.{known_of}
use Rattle.http_door.specs.declared.request.Path.{Path}
use Rattle.http_door.specs.declared.reply_fault.ReplyFault.{ReplyFault}
use Rattle.http_door.specs.declared.reply_fault.ReplyFault.TheVariants.{Malformed, Foreign}
use Rattle.http_door.specs.Replies.{PlainReply}
use Rattle.http_door.specs.Responses.{TakesResponse, HoldsResponse, AwaitsBody, NeverTakesResponse}
use Rattle.http_door.specs.Responses.{framed_len, reply_len}
use Rattle.http_door.specs.Reading.{IsRead, reply_of}

-- of bytes and of more of them the same head is taken
taken_again : (held more : List ℕ) (h k : ResponseHead) (a b : List ℕ) → TakesResponse held k a
    → TakesResponse (held ++ more) h b → (k ≡ h) × (a ++ more ≡ b)
taken_again held more h k a b x y = response_prefix_free held more k h a b x.reads y.reads

taken_once : (held : List ℕ) (h k : ResponseHead) (a b : List ℕ) → TakesResponse held h a
    → TakesResponse held k b
    → (h ≡ k) × (a ≡ b)
taken_once held h k a b x y = response_unique held h k a b x.reads y.reads

front_is : (b r c q : List ℕ) → b ++ r ≡ c ++ q → length b ≡ length c → b ≡ c
front_is b r c q e size =
    sym (take_at b r (length c) size) ∙ ap (take (length c)) e ∙ take_at c q (length c) refl

held_once : (held : List ℕ) (h k : ResponseHead) (b r c q : List ℕ) → HoldsResponse held h b r
    → HoldsResponse held k c q → (h ≡ k) × (b ≡ c)
held_once held h k b r c q x y =
    let same = taken_once held h k (b ++ r) (c ++ q) x.takes y.takes in
    let sizes : Some (length b) ≡ Some (length c) = sym x.size ∙ ap reply_len same.0 ∙ y.size in
    let size : length b ≡ length c = cc in
    (same.0, front_is b r c q same.1 size)

not_awaited : (held : List ℕ) (h : ResponseHead) (b r : List ℕ) → HoldsResponse held h b r → AwaitsBody held
    → ⊥
not_awaited held h b r holds waits =
    let same = taken_once held h waits.0 (b ++ r) waits.1 holds.takes waits.3 in
    let sizes : Some (length b) ≡ Some waits.2 = sym holds.size ∙ ap reply_len same.0 ∙ waits.4 in
    let size : length b ≡ waits.2 = cc in
    let short = waits.5 in
    omega (arith, ap length same.1, length-append b r)

not_never : (held : List ℕ) (h : ResponseHead) (a : List ℕ) → TakesResponse held h a → NeverTakesResponse held
    → ⊥
not_never held h a takes never =
    never [] h a (subst (λ (t : List ℕ). TakesResponse t h a) (sym (append-nil held)) takes)

-- whatever is read of bytes that begin with an answer is that answer
pub read_once : (path : Path) (held : List ℕ) (r : PlainReply) (read : Result (Option PlainReply) ReplyFault)
    → IsRead path held (Ok (Some r)) → IsRead path held read → read ≡ Ok (Some r)
read_once path held r (Ok None) (h, b, q, holds, is) (inl waits) = absurd (waits.none h _ holds.takes.reads)
read_once path held r (Ok None) (h, b, q, holds, is) (inr waits) = absurd (not_awaited held h b q holds waits)
read_once path held r (Ok (Some s)) (h, b, q, holds, is) (k, c, p, again, same) =
    let one = held_once held h k b q c p holds again in
    let both : Some s ≡ Some r = sym same ∙ sym (λ i. reply_of path (one.0 i) (one.1 i)) ∙ is in
    ap (λ (o : Option PlainReply). Ok o) both
read_once path held r (Err Malformed) (h, b, q, holds, is) (inl never) =
    absurd (not_never held h _ holds.takes never)
read_once path held r (Err Malformed) (h, b, q, holds, is) (inr (k, a, takes, unsized)) =
    let one = taken_once held h k _ a holds.takes takes in
    let both : Some (length b) ≡ None = sym holds.size ∙ ap reply_len one.0 ∙ unsized in
    cc
read_once path held r (Err (Foreign status)) (h, b, q, holds, is) (k, c, p, again, (none, code)) =
    let one = held_once held h k b q c p holds again in
    let both : Some r ≡ None = sym is ∙ (λ i. reply_of path (one.0 i) (one.1 i)) ∙ none in
    cc

longer : (c q b rest : List ℕ) → (c ++ q) ++ rest ≡ b ++ [] → length c ≡ length b → 0 < length rest → ⊥
longer c q b rest e size more =
    omega (arith, ap length e, length-append (c ++ q) rest, length-append c q, length-append b [], size)

-- a response isn't whole before its last byte came
not_yet : (held rest : List ℕ) (h k : ResponseHead) (b c q : List ℕ) → HoldsResponse (held ++ rest) h b []
    → HoldsResponse held k c q → 0 < length rest → ⊥
not_yet held rest h k b c q whole part more =
    let same = taken_again held rest h k (c ++ q) (b ++ []) part.takes whole.takes in
    let sizes : Some (length c) ≡ Some (length b) = sym part.size ∙ ap reply_len same.0 ∙ whole.size in
    let size : length c ≡ length b = cc in
    longer c q b rest same.1 size more

-- whatever is read of a part of a response, it is that more must come
pub read_later : (path : Path) (held rest : List ℕ) (h : ResponseHead) (b : List ℕ)
    (read : Result (Option PlainReply) ReplyFault) → HoldsResponse (held ++ rest) h b [] → 0 < length rest
    → IsRead path held read → read ≡ Ok None
read_later path held rest h b (Ok None) whole more is = refl
read_later path held rest h b (Ok (Some s)) whole more (k, c, q, part, is) =
    absurd (not_yet held rest h k b c q whole part more)
read_later path held rest h b (Err Malformed) whole more (inl never) = absurd (never rest h _ whole.takes)
read_later path held rest h b (Err Malformed) whole more (inr (k, a, takes, unsized)) =
    let same = taken_again held rest h k a (b ++ []) takes whole.takes in
    let both : Some (length b) ≡ None = sym whole.size ∙ sym (ap reply_len same.0) ∙ unsized in
    cc
read_later path held rest h b (Err (Foreign status)) whole more (k, c, q, part, is) =
    absurd (not_yet held rest h k b c q whole part more)

framed_short : (f : Result Framing FramingError) (n : ℕ) → framed_len f ≡ Some n → n ≤ 8262
framed_short (Ok NoBody) n e = let same : 0 ≡ n = cc in omega arith
framed_short (Ok (Length m)) n e = grind (arith, nat_tests)
framed_short (Ok Chunked) n e = cc
framed_short (Ok UntilClose) n e = cc
framed_short (Err why) n e = cc

-- what is waited for has less than a head and a body
pub awaited_short : (path : Path) (held : List ℕ) → IsRead path held (Ok None) → length held < 12358
awaited_short path held (inl waits) = let room = waits.room in omega arith
awaited_short path held (inr (h, a, n, takes, size, short)) =
    let head = takes.strict.0 in
    let few = framed_short (response_framing Other (status_code h) h.minor (known_of h.fields)) n size in
    omega (arith, ap length takes.reads.1, length-append (print_response h) a)
