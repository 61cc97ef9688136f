-- An answer that a door wrote is held as one response, and is that answer.
use Rattle.std.proofs.Common.{◌≡◌, ℕ, ◌≤◌, Bool, true, false, ◌&&◌, List, [], ◌∷◌, ◌++◌, map, length, refl}
use Rattle.std.proofs.Common.{sym, ap, ◌∙◌, subst, arith, append_assoc, append-nil, length-append}
use Rattle.std.specs.Fmt.{decimal}
use Rattle.std.specs.Prelude.{codes, Option, Some, None, Ok}
use Rattle.std.proofs.lemmas.Bool.{and_from}
use Rattle.std.proofs.lemmas.Bool.Decides.{nat_tests}
use Rattle.std.proofs.lemmas.Grind.{flat_map-append}
use Rattle.std.proofs.lemmas.List.{length-map}
use Rattle.std.proofs.lemmas.List.Folds.{list_all-append}
use Rattle.std.proofs.lemmas.Nat.{from_be_bytes-to_be_bytes_2, from_be_bytes-to_be_bytes_4}
use Rattle.httparse.specs.Grammar.{ResponseHead, ReadsResponse, is_token_byte}
use Rattle.http1.specs.declared.fields.ContentLength.TheVariants as Sized
use Rattle.http1.specs.declared.fields.TransferEncoding.TheVariants as Coding
use Rattle.http1.specs.declared.fields.KnownFields.{KnownFields}
use Rattle.http1.specs.declared.framing.Framing.TheVariants.{Length, UntilClose}
use Rattle.http1.specs.declared.framing.MethodKind.TheVariants.{Other}
use Rattle.http1.specs.Text.{eq_ignore_case}
use Rattle.http1.specs.Fields.{Header, elements, elements_named, values_named, content_length}
use Rattle.http1.specs.Fields.{transfer_encoding, known_fields}
use Rattle.http1.specs.Framing.{by_fields, has_no_body, response_framing}
use Rattle.http1.specs.Head.{is_header, is_trimmed_value, are_headers, is_status_line, field_of}
use Rattle.http1.specs.Head.{print_headers, response_head, response_text}
use Rattle.http1.proofs.HeadRoundTrip.{ResponseReadsBack, response_reads_back}
use Rattle.lane_leases.specs.declared.ended.End.TheVariants as ends
use Rattle.http_door.specs.declared.fault.DoorFault.TheVariants as fault
use Rattle.http_door.specs.declared.request.Path.{Path}
use Rattle.http_door.specs.declared.request.Path.TheVariants as path
use Rattle.http_door.specs.Fields.{has_octets}
use Rattle.http_door.specs.Replies.{PlainReply, Frame, Lease, NotYours, Ended, Busy, Preflight, Refused}
use Rattle.http_door.specs.Replies.{reply_status, reply_reason, reply_body, reply_fields, reply_text}
use Rattle.http_door.specs.Replies.{own_fields, length_fields, origin_fields, close_fields, origin_text}
use Rattle.http_door.specs.Responses.{HoldsResponse, framed_len}
use Rattle.http_door.specs.Reading.{reply_at, reply_of}
use Rattle.http_door.specs.Laws.{Fits, IsOrigin, AnswersAreReadBack, CutAnswersAreAwaited}
use Rattle.http_door.proofs.ComingLaws.{accepted, decimal_is, host_short, host_trimmed, length_is}
use Rattle.http_door.proofs.ReadOnce.{read_later, read_once}
use Rattle.http_door.proofs.ReplyLaws.{close_of, length_of, origin_is, start_of, total}

-- ---- the fields that each answer has may be sent

both : (a b : List Header) → are_headers a ≡ true → are_headers b ≡ true → are_headers (a ++ b) ≡ true
unfolding are_headers
both a b p q = list_all-append is_header a b ∙ and_from _ _ p q

behind_first : (hs : List Header) → are_headers hs ≡ true
    → are_headers ((codes "Cache-Control", codes "no-store") ∷ hs) ≡ true
unfolding are_headers is_token_byte
behind_first hs p = p

own_sent : (r : PlainReply) → are_headers (own_fields r) ≡ true
unfolding are_headers is_token_byte
own_sent (Frame frame) = refl
own_sent (Lease lane serial) = refl
own_sent NotYours = refl
own_sent (Ended end) = refl
own_sent Busy = refl
own_sent Preflight = refl
own_sent (Refused fault.Malformed) = refl
own_sent (Refused fault.NoPath) = refl
own_sent (Refused fault.Method) = refl
own_sent (Refused fault.NoLength) = refl
own_sent (Refused fault.LongBody) = refl
own_sent (Refused fault.NotOctets) = refl
own_sent (Refused fault.LongHead) = refl

length_sent : (r : PlainReply) → is_trimmed_value (decimal (length (reply_body r))) ≡ true
    → are_headers (length_fields r) ≡ true
unfolding are_headers is_token_byte
length_sent (Frame frame) d = λ i. d i && true
length_sent (Lease lane serial) d = λ i. d i && true
length_sent NotYours d = λ i. d i && true
length_sent (Ended end) d = λ i. d i && true
length_sent Busy d = λ i. d i && true
length_sent Preflight d = refl
length_sent (Refused why) d = λ i. d i && true

origin_sent : (origin : Option (List ℕ)) → IsOrigin origin → are_headers (origin_fields origin) ≡ true
unfolding are_headers is_token_byte
origin_sent None is = refl
origin_sent (Some v) is = λ i. host_trimmed v is i && true

close_sent : (keeps : Bool) → are_headers (close_fields keeps) ≡ true
unfolding are_headers is_token_byte
close_sent true = refl
close_sent false = refl

line_sent : (r : PlainReply) → is_status_line 1 (reply_status r) (reply_reason r) ≡ true
line_sent (Frame frame) = refl
line_sent (Lease lane serial) = refl
line_sent NotYours = refl
line_sent (Ended end) = refl
line_sent Busy = refl
line_sent Preflight = refl
line_sent (Refused fault.Malformed) = refl
line_sent (Refused fault.NoPath) = refl
line_sent (Refused fault.Method) = refl
line_sent (Refused fault.NoLength) = refl
line_sent (Refused fault.LongBody) = refl
line_sent (Refused fault.NotOctets) = refl
line_sent (Refused fault.LongHead) = refl

sent : (r : PlainReply) (origin : Option (List ℕ)) (keeps : Bool)
    → is_trimmed_value (decimal (length (reply_body r))) ≡ true → IsOrigin origin
    → are_headers (reply_fields r origin keeps) ≡ true
sent r origin keeps d o =
    behind_first _ (both (own_fields r) _ (own_sent r)
    (both (length_fields r) _ (length_sent r d)
    (both (origin_fields origin) (close_fields keeps) (origin_sent origin o) (close_sent keeps))))

-- ---- they frame its body

abbrev sizes : List Header → List (List ℕ)
sizes hs = values_named (codes "content-length") hs

abbrev codings : List Header → List (List ℕ)
codings hs = elements_named (codes "transfer-encoding") hs

record FramesNothing (hs : List Header) : Type 0 where
  size : sizes hs ≡ []
  coding : codings hs ≡ []

sizes-append : (a b : List Header) → sizes (a ++ b) ≡ sizes a ++ sizes b
sizes-append a b = flat_map-append _ a b

codings-append : (a b : List Header) → codings (a ++ b) ≡ codings a ++ codings b
codings-append a b = flat_map-append _ a b

own_frames : (r : PlainReply) → FramesNothing (own_fields r)
unfolding eq_ignore_case elements
own_frames (Frame frame) = record { size = refl; coding = refl }
own_frames (Lease lane serial) = record { size = refl; coding = refl }
own_frames NotYours = record { size = refl; coding = refl }
own_frames (Ended end) = record { size = refl; coding = refl }
own_frames Busy = record { size = refl; coding = refl }
own_frames Preflight = record { size = refl; coding = refl }
own_frames (Refused fault.Malformed) = record { size = refl; coding = refl }
own_frames (Refused fault.NoPath) = record { size = refl; coding = refl }
own_frames (Refused fault.Method) = record { size = refl; coding = refl }
own_frames (Refused fault.NoLength) = record { size = refl; coding = refl }
own_frames (Refused fault.LongBody) = record { size = refl; coding = refl }
own_frames (Refused fault.NotOctets) = record { size = refl; coding = refl }
own_frames (Refused fault.LongHead) = record { size = refl; coding = refl }

origin_frames : (origin : Option (List ℕ)) → FramesNothing (origin_fields origin)
unfolding eq_ignore_case elements
origin_frames None = record { size = refl; coding = refl }
origin_frames (Some v) = record { size = refl; coding = refl }

close_frames : (keeps : Bool) → FramesNothing (close_fields keeps)
unfolding eq_ignore_case elements
close_frames true = record { size = refl; coding = refl }
close_frames false = record { size = refl; coding = refl }

one_size : (n : ℕ) → sizes ((codes "Content-Length", decimal n) ∷ []) ≡ decimal n ∷ []
unfolding eq_ignore_case
one_size n = refl

no_coding : (n : ℕ) → codings ((codes "Content-Length", decimal n) ∷ []) ≡ []
unfolding eq_ignore_case elements
no_coding n = refl

first_size : (hs : List Header) → sizes ((codes "Cache-Control", codes "no-store") ∷ hs) ≡ sizes hs
unfolding eq_ignore_case
first_size hs = refl

first_coding : (hs : List Header) → codings ((codes "Cache-Control", codes "no-store") ∷ hs) ≡ codings hs
unfolding eq_ignore_case elements
first_coding hs = refl

-- the fields of an answer whose body has n bytes
module _ (a c d : List Header) (n : ℕ) where
  abbrev all : List Header
  all = (codes "Cache-Control", codes "no-store")
      ∷ (a ++ (((codes "Content-Length", decimal n) ∷ []) ++ (c ++ d)))

  all_sizes : FramesNothing a → FramesNothing c → FramesNothing d → sizes all ≡ decimal n ∷ []
  all_sizes p q r =
      first_size _ ∙ sizes-append a _
      ∙ ap (λ (t : List (List ℕ)). t ++ sizes (((codes "Content-Length", decimal n) ∷ []) ++ (c ++ d)))
      p.size
      ∙ sizes-append ((codes "Content-Length", decimal n) ∷ []) (c ++ d)
      ∙ (λ i. one_size n i ++ (sizes-append c d ∙ (λ j. q.size j ++ r.size j)) i)

  all_codings : FramesNothing a → FramesNothing c → FramesNothing d → codings all ≡ []
  all_codings p q r =
      first_coding _ ∙ codings-append a _
      ∙ ap (λ (t : List (List ℕ)). t ++ codings (((codes "Content-Length", decimal n) ∷ []) ++ (c ++ d)))
      p.coding
      ∙ codings-append ((codes "Content-Length", decimal n) ∷ []) (c ++ d)
      ∙ (λ i. no_coding n i ++ (codings-append c d ∙ (λ j. q.coding j ++ r.coding j)) i)

known_coding : (hs : List Header) → codings hs ≡ [] → (known_fields hs).transfer_encoding ≡ Coding.Absent
unfolding known_fields
known_coding hs none = ap transfer_encoding none

known_size : (hs : List Header) (n : ℕ) → n ≤ 8262 → sizes hs ≡ decimal n ∷ []
    → (known_fields hs).content_length ≡ Sized.Value n
unfolding known_fields
known_size hs n low one = ap content_length one ∙ length_is n (decimal_is n low)

framed : (status n : ℕ) (k : KnownFields) → has_no_body Other status ≡ false
    → k.transfer_encoding ≡ Coding.Absent
    → k.content_length ≡ Sized.Value n → response_framing Other status 1 k ≡ Ok (Length n)
framed status n k body coding size =
    rw body (λ i. by_fields 1 UntilClose (Ok UntilClose) (coding i) (size i))

framed_one : (n : ℕ) → n ≤ 8262 → framed_len (Ok (Length n)) ≡ Some n
framed_one n low = grind (arith, nat_tests)

-- a body of an answer that isn't a preflight's
abbrev Bodied : PlainReply → Type 0
Bodied r = (has_no_body Other (reply_status r) ≡ false)
    × (length_fields r ≡ (codes "Content-Length", decimal (length (reply_body r))) ∷ [])

framing_of : (r : PlainReply) (origin : Option (List ℕ)) (keeps : Bool) → length (reply_body r) ≤ 8262
    → Bodied r
    → framed_len (response_framing Other (reply_status r) 1 (known_fields (reply_fields r origin keeps)))
    ≡ Some (length (reply_body r))
framing_of r origin keeps low bodied =
    let n = length (reply_body r) in
    let own = own_frames r in
    let from = origin_frames origin in
    let close = close_frames keeps in
    let hs = all (own_fields r) (origin_fields origin) (close_fields keeps) n in
    let same : reply_fields r origin keeps ≡ hs =
    λ i. (codes "Cache-Control", codes "no-store")
    ∷ (own_fields r ++ (bodied.1 i ++ (origin_fields origin ++ close_fields keeps))) in
    let coding = known_coding hs (all_codings _ _ _ n own from close) in
    let size = known_size hs n low (all_sizes _ _ _ n own from close) in
    ap (λ (q : List Header). framed_len (response_framing Other (reply_status r) 1 (known_fields q))) same
    ∙ ap framed_len (framed (reply_status r) n (known_fields hs) bodied.0 coding size) ∙ framed_one n low

len_of : (r : PlainReply) (origin : Option (List ℕ)) (keeps : Bool) → length (reply_body r) ≤ 8262
    → framed_len (response_framing Other (reply_status r) 1 (known_fields (reply_fields r origin keeps)))
    ≡ Some (length (reply_body r))
len_of (Frame frame) origin keeps low = framing_of (Frame frame) origin keeps low (refl, refl)
len_of (Lease lane serial) origin keeps low = framing_of (Lease lane serial) origin keeps low (refl, refl)
len_of NotYours origin keeps low = framing_of NotYours origin keeps low (refl, refl)
len_of (Ended end) origin keeps low = framing_of (Ended end) origin keeps low (refl, refl)
len_of Busy origin keeps low = framing_of Busy origin keeps low (refl, refl)
len_of Preflight origin keeps low = refl
len_of (Refused fault.Malformed) origin keeps low = framing_of (Refused fault.Malformed) origin keeps low
    (refl, refl)
len_of (Refused fault.NoPath) origin keeps low = framing_of (Refused fault.NoPath) origin keeps low
    (refl, refl)
len_of (Refused fault.Method) origin keeps low = framing_of (Refused fault.Method) origin keeps low
    (refl, refl)
len_of (Refused fault.NoLength) origin keeps low = framing_of (Refused fault.NoLength) origin keeps low
    (refl, refl)
len_of (Refused fault.LongBody) origin keeps low = framing_of (Refused fault.LongBody) origin keeps low
    (refl, refl)
len_of (Refused fault.NotOctets) origin keeps low = framing_of (Refused fault.NotOctets) origin keeps low
    (refl, refl)
len_of (Refused fault.LongHead) origin keeps low = framing_of (Refused fault.LongHead) origin keeps low
    (refl, refl)

-- ---- its head is short

start_short : (r : PlainReply) → length (start_of r) ≤ 300
start_short (Frame frame) = omega arith
start_short (Lease lane serial) = omega arith
start_short NotYours = omega arith
start_short (Ended end) = omega arith
start_short Busy = omega arith
start_short Preflight = omega arith
start_short (Refused fault.Malformed) = omega arith
start_short (Refused fault.NoPath) = omega arith
start_short (Refused fault.Method) = omega arith
start_short (Refused fault.NoLength) = omega arith
start_short (Refused fault.LongBody) = omega arith
start_short (Refused fault.NotOctets) = omega arith
start_short (Refused fault.LongHead) = omega arith

line_short : (digits : List ℕ) → length digits ≤ 5
    → length (print_headers ((codes "Content-Length", digits) ∷ [])) ≤ 23
line_short digits few = simp length-append (omega arith)

length_short : (r : PlainReply) → length (decimal (length (reply_body r))) ≤ 5 → length (length_of r) ≤ 23
length_short (Frame frame) few = line_short _ few
length_short (Lease lane serial) few = line_short _ few
length_short NotYours few = line_short _ few
length_short (Ended end) few = line_short _ few
length_short Busy few = line_short _ few
length_short Preflight few = omega arith
length_short (Refused why) few = line_short _ few

value_short : (v : List ℕ) → length v ≤ 255
    → length (codes "Access-Control-Allow-Origin: " ++ (v ++ (codes "\r\nVary: Origin\r\n" ++ []))) ≤ 300
value_short v few = simp length-append (omega arith)

origin_short : (origin : Option (List ℕ)) → IsOrigin origin → length (origin_text origin) ≤ 300
origin_short None is = omega arith
origin_short (Some v) is = omega (arith, ap length (origin_is v), value_short v (host_short v is))

close_short : (keeps : Bool) → length (close_of keeps) ≤ 30
close_short true = omega arith
close_short false = omega arith

head_text : PlainReply → Option (List ℕ) → Bool → List ℕ
head_text r origin keeps = response_text 1 (reply_status r) (reply_reason r) (reply_fields r origin keeps)

text_short : (r : PlainReply) (origin : Option (List ℕ)) (keeps : Bool)
    → length (decimal (length (reply_body r))) ≤ 5
    → IsOrigin origin
    → length (response_text 1 (reply_status r) (reply_reason r) (reply_fields r origin keeps)) ≤ 4096
text_short r origin keeps few is =
    omega (
      arith,
      total r origin keeps,
      start_short r,
      length_short r few,
      origin_short origin is,
      close_short keeps,
      length-append (response_text 1 (reply_status r) (reply_reason r) (reply_fields r origin keeps))
          (reply_body r),
    )

-- ---- and has few fields

own_few : (r : PlainReply) → length (own_fields r) ≤ 2
own_few (Frame frame) = omega arith
own_few (Lease lane serial) = omega arith
own_few NotYours = omega arith
own_few (Ended end) = omega arith
own_few Busy = omega arith
own_few Preflight = omega arith
own_few (Refused fault.Malformed) = omega arith
own_few (Refused fault.NoPath) = omega arith
own_few (Refused fault.Method) = omega arith
own_few (Refused fault.NoLength) = omega arith
own_few (Refused fault.LongBody) = omega arith
own_few (Refused fault.NotOctets) = omega arith
own_few (Refused fault.LongHead) = omega arith

sizes_few : (r : PlainReply) → length (length_fields r) ≤ 1
sizes_few (Frame frame) = omega arith
sizes_few (Lease lane serial) = omega arith
sizes_few NotYours = omega arith
sizes_few (Ended end) = omega arith
sizes_few Busy = omega arith
sizes_few Preflight = omega arith
sizes_few (Refused why) = omega arith

origin_few : (origin : Option (List ℕ)) → length (origin_fields origin) ≤ 2
origin_few None = omega arith
origin_few (Some v) = omega arith

close_few : (keeps : Bool) → length (close_fields keeps) ≤ 1
close_few true = omega arith
close_few false = omega arith

few_fields : (r : PlainReply) (origin : Option (List ℕ)) (keeps : Bool)
    → length (map field_of (reply_fields r origin keeps)) ≤ 64
few_fields r origin keeps =
    omega (
      arith,
      length-map (reply_fields r origin keeps) field_of,
      own_few r,
      sizes_few r,
      origin_few origin,
      close_few keeps,
      length-append (own_fields r) (length_fields r ++ (origin_fields origin ++ close_fields keeps)),
      length-append (length_fields r) (origin_fields origin ++ close_fields keeps),
      length-append (origin_fields origin) (close_fields keeps),
    )

-- ---- it is that answer

frame_octets : (frame : List ℕ) (origin : Option (List ℕ)) (keeps : Bool)
    → has_octets (reply_fields (Frame frame) origin keeps) ≡ true
unfolding eq_ignore_case
frame_octets frame None true = refl
frame_octets frame None false = refl
frame_octets frame (Some v) true = refl
frame_octets frame (Some v) false = refl

lease_octets : (lane serial : ℕ) (origin : Option (List ℕ)) (keeps : Bool)
    → has_octets (reply_fields (Lease lane serial) origin keeps) ≡ true
unfolding eq_ignore_case
lease_octets lane serial None true = refl
lease_octets lane serial None false = refl
lease_octets lane serial (Some v) true = refl
lease_octets lane serial (Some v) false = refl

answered : (p : Path) (r : PlainReply) (origin : Option (List ℕ)) (keeps : Bool) → Fits p r
    → reply_at p (reply_status r) (has_octets (reply_fields r origin keeps)) (reply_body r) ≡ Some r
answered path.Frame (Frame frame) origin keeps fits = rw (frame_octets frame origin keeps) refl
answered path.Proof (Frame frame) origin keeps fits = rw (frame_octets frame origin keeps) refl
answered path.Lease (Frame frame) origin keeps fits = absurd fits
answered path.Frame (Lease lane serial) origin keeps fits = absurd fits
answered path.Proof (Lease lane serial) origin keeps fits = absurd fits
answered path.Lease (Lease lane serial) origin keeps fits =
    rw (lease_octets lane serial origin keeps)
    (λ i. Some (Lease (from_be_bytes-to_be_bytes_2 lane fits.0 i)
    (from_be_bytes-to_be_bytes_4 serial fits.1 i)))
answered p NotYours origin keeps fits = refl
answered p (Ended ends.Written) origin keeps fits = refl
answered p (Ended ends.NotWritten) origin keeps fits = refl
answered p Busy origin keeps fits = refl
answered p Preflight origin keeps fits = refl
answered p (Refused fault.Malformed) origin keeps fits = refl
answered p (Refused fault.NoPath) origin keeps fits = refl
answered p (Refused fault.Method) origin keeps fits = refl
answered p (Refused fault.NoLength) origin keeps fits = refl
answered p (Refused fault.LongBody) origin keeps fits = refl
answered p (Refused fault.NotOctets) origin keeps fits = refl
answered p (Refused fault.LongHead) origin keeps fits = refl

body_short : (p : Path) (r : PlainReply) → Fits p r → length (reply_body r) ≤ 8262
body_short path.Frame (Frame frame) fits = fits
body_short path.Proof (Frame frame) fits = fits
body_short path.Lease (Frame frame) fits = absurd fits
body_short p (Lease lane serial) fits = omega arith
body_short p NotYours fits = omega arith
body_short p (Ended ends.Written) fits = omega arith
body_short p (Ended ends.NotWritten) fits = omega arith
body_short p Busy fits = omega arith
body_short p Preflight fits = omega arith
body_short p (Refused why) fits = omega arith

module _ (p : Path) (r : PlainReply) (origin : Option (List ℕ)) (keeps : Bool) (fits : Fits p r)
    (is : IsOrigin origin) where
  abbrev hs : List Header
  hs = reply_fields r origin keeps

  abbrev head : ResponseHead
  head = response_head 1 (reply_status r) (reply_reason r) hs

  back : (rest : List ℕ) → ResponseReadsBack 1 (reply_status r) (reply_reason r) hs rest
  back rest =
      let d = (decimal_is (length (reply_body r)) (body_short p r fits)).trim in
      response_reads_back 1 (reply_status r) (reply_reason r) hs rest
      (accepted (is_status_line 1 (reply_status r) (reply_reason r)) hs (line_sent r)
      (sent r origin keeps d is))

  held : (rest : List ℕ) → HoldsResponse (reply_text r origin keeps ++ rest) head (reply_body r) rest
  held rest =
      let read = back (reply_body r ++ rest) in
      let low = body_short p r fits in
      let text =
      append_assoc (response_text 1 (reply_status r) (reply_reason r) hs) (reply_body r) rest in
      record {
        takes = record {
          reads = subst (λ (t : List ℕ). ReadsResponse t head (reply_body r ++ rest)) (sym text) read.reads;
          strict = (text_short r origin keeps (decimal_is (length (reply_body r)) low).short is, read.strict);
          few = few_fields r origin keeps;
        };
        size =
            (λ i. framed_len (response_framing Other (read.code i) 1 (known_fields (read.fields i))))
            ∙ len_of r origin keeps low;
      }

  says : reply_of p head (reply_body r) ≡ Some r
  says =
      let read = back [] in
      (λ i. reply_at p (read.code i) (has_octets (read.fields i)) (reply_body r))
      ∙ answered p r origin keeps fits

pub back_as_written : AnswersAreReadBack
back_as_written p r origin keeps rest read fits is readable =
    read_once p (reply_text r origin keeps ++ rest) r read (
      head p r origin keeps fits is,
      reply_body r,
      rest,
      held p r origin keeps fits is rest,
      says p r origin keeps fits is,
    )
    readable

pub cut_as_awaited : CutAnswersAreAwaited
cut_as_awaited p r origin keeps front rest read fits is cut more readable =
    let whole = held p r origin keeps fits is [] in
    let text = append-nil (reply_text r origin keeps) ∙ cut in
    read_later p front rest (head p r origin keeps fits is) (reply_body r) read
    (subst (λ (t : List ℕ). HoldsResponse t (head p r origin keeps fits is) (reply_body r) []) text whole)
    more readable
