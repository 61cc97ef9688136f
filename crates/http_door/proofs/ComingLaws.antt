-- A request that was written is the request that is heard.
use Rattle.std.proofs.Common.{◌≡◌, ℕ, ◌<◌, ◌≤◌, Bool, true, false, not, ◌&&◌, List, [], ◌∷◌, ◌++◌, length, reverse, take, drop, refl, sym, ap, ◌∙◌, subst, arith, append_assoc, length-append}
use Rattle.std.specs.Fmt.{decimal}
use Rattle.std.specs.Prelude.{codes, Some, None, Ok, Err, nat_le, ◌==◌}
use Rattle.std.specs.List.{list_all}
use Rattle.std.specs.Char.{is_ascii_graphic, is_ascii_digit, digit_value}
use Rattle.std.specs.Str.Parse.{digits_value, AllDigits}
use Rattle.std.proofs.lemmas.Fmt.{decimal_is_IsNumeral, length-decimal-le}
use Rattle.std.proofs.lemmas.Bool.{eq-eqb, and_parts, and_from, lt-ltb, leb-true}
use Rattle.std.proofs.lemmas.Bool.Decides.{nat_tests}
use Rattle.std.proofs.lemmas.List.{take_at, drop_at}
use Rattle.std.proofs.lemmas.List.Elements.{All-head, All-weaker}
use Rattle.std.proofs.lemmas.List.Sums.{AllPass-from_list_all, list_all-from_AllPass}
use Rattle.httparse.specs.Grammar.{RequestHead, AllPass, is_ows, is_value_byte, is_token_byte, ReadsRequest}
use Rattle.httparse.proofs.TrimLemmas.{AllPass-reverse}
use Rattle.http1.specs.declared.fields.ContentLength.TheVariants as Sized
use Rattle.http1.specs.declared.fields.TransferEncoding.TheVariants as Coding
use Rattle.http1.specs.declared.framing.Framing.TheVariants.{NoBody, Length}
use Rattle.http1.specs.declared.framing.FramingError.TheVariants.{InvalidTransferEncoding}
use Rattle.http1.specs.Text.{eq_ignore_case}
use Rattle.http1.specs.Fields.{Header, elements, is_number, content_length, known_fields}
use Rattle.http1.specs.Framing.{method_kind, by_fields, request_framing}
use Rattle.http1.specs.Head.{is_trimmed_value, starts_visible, are_headers, is_request_line, head_refusal, request_head, request_text}
use Rattle.http1.specs.Message.{has_one_host}
use Rattle.http1.proofs.HeadRoundTrip.{request_reads_back}
use Rattle.http_door.specs.declared.request.Path.{Path}
use Rattle.http_door.specs.declared.request.Path.TheVariants as path
use Rattle.http_door.specs.Values.{is_value, is_visible}
use Rattle.http_door.specs.Fields.{has_octets, fields_of}
use Rattle.http_door.specs.Heads.{body_len}
use Rattle.http_door.specs.Requests.{PlainRequest, Frame, Proof, Lease, path_text, path_of, request_path, request_body, request_of}
use Rattle.http_door.specs.Hearing.{heard_of, asked_where, asked_in}
use Rattle.http_door.specs.Sending.{sent_fields, sent_head, sent_text}
use Rattle.http_door.specs.Laws.{IsSendable, HasWidths, heard_whole, RequestsComeAsSent}
use Rattle.http_door.proofs.SendingLaws.{head_is}

-- ---- values

decimal_digit : (c : ℕ) → digit_value c < 10 → is_ascii_digit c ≡ true
decimal_digit c small = grind (arith, nat_tests)

decimal_digits : (text : List ℕ) → AllDigits 10 text → list_all is_ascii_digit text ≡ true
decimal_digits [] all = refl
decimal_digits (c ∷ cs) all = and_from _ _ (decimal_digit c all.0) (decimal_digits cs all.1)

abbrev Plain : (ℕ → Bool) → Type 0
Plain test = (c : ℕ) → test c ≡ true → (not (is_ows c) ≡ true) × (is_value_byte c ≡ true)

starts : (test : ℕ → Bool) → Plain test → (text : List ℕ) → AllPass test text → starts_visible text ≡ true
starts test plain [] all = refl
starts test plain (c ∷ cs) all = (plain c (All-head (λ b. test b ≡ true) c cs all)).0

trimmed : (test : ℕ → Bool) → Plain test → (text : List ℕ) → list_all test text ≡ true → is_trimmed_value text ≡ true
trimmed test plain text passes =
    let all = AllPass-from_list_all test text passes in
    let values = All-weaker (λ b. test b ≡ true) (λ b. is_value_byte b ≡ true) (λ b p. (plain b p).1) text all in
    and_from _ _ (starts test plain text all)
    (and_from _ _ (starts test plain (reverse text) (AllPass-reverse test text all)) (list_all-from_AllPass is_value_byte text values))

digit_plain : Plain is_ascii_digit
digit_plain c digit = grind (arith, nat_tests)

graphic_plain : Plain is_ascii_graphic
graphic_plain c graphic = grind (arith, nat_tests)

pub host_trimmed : (host : List ℕ) → is_value host ≡ true → is_trimmed_value host ≡ true
host_trimmed host value =
    let parts = and_parts _ _ value in
    let rest = and_parts _ (is_visible host) parts.1 in
    trimmed is_ascii_graphic graphic_plain host rest.1

pub host_short : (host : List ℕ) → is_value host ≡ true → length host ≤ 255
host_short host value =
    let parts = and_parts _ _ value in
    let rest = and_parts _ (is_visible host) parts.1 in
    leb-true (length host) 255 rest.0

pub record IsDecimal (n : ℕ) : Type 0 where
  pub trim : is_trimmed_value (decimal n) ≡ true
  pub number : is_number (decimal n) ≡ true
  pub value : digits_value 10 (decimal n) ≡ n
  pub short : length (decimal n) ≤ 5

pub decimal_is : (n : ℕ) → n ≤ 8262 → IsDecimal n
decimal_is n low =
    let numeral = decimal_is_IsNumeral n (omega arith) in
    let digits = decimal_digits (decimal n) numeral.0.1 in
    record {
      trim = trimmed is_ascii_digit digit_plain (decimal n) digits;
      number = and_from _ _ (lt-ltb _ _ numeral.0.0) (and_from _ _ digits (lt-ltb _ _ (omega (arith, numeral.1))));
      value = numeral.1;
      short = length-decimal-le 5 n (omega arith) (omega arith) (omega arith);
    }

-- ---- heads

valid : (host : List ℕ) (n : ℕ) → is_trimmed_value host ≡ true → is_trimmed_value (decimal n) ≡ true
    → are_headers (sent_fields host n) ≡ true
unfolding are_headers is_token_byte
valid host n h d = λ i. h i && (d i && true)

line_is : (p : Path) → is_request_line (codes "POST") (path_text p) 1 ≡ true
unfolding is_token_byte
line_is path.Frame = refl
line_is path.Proof = refl
line_is path.Lease = refl

pub accepted : (line : Bool) (hs : List Header) → line ≡ true → are_headers hs ≡ true
    → head_refusal line hs ≡ None
accepted line hs p q = rw p (rw q refl)

one_host : (host : List ℕ) (n : ℕ) → has_one_host 1 (known_fields (sent_fields host n)) ≡ true
unfolding known_fields eq_ignore_case elements
one_host host n = refl

stays : (host : List ℕ) (n : ℕ) → (known_fields (sent_fields host n)).close ≡ false
unfolding known_fields eq_ignore_case elements
stays host n = refl

octets : (host : List ℕ) (n : ℕ) → has_octets (sent_fields host n) ≡ true
unfolding eq_ignore_case
octets host n = refl

framing_is : (host : List ℕ) (n : ℕ) → request_framing (method_kind (codes "POST")) 1 (known_fields (sent_fields host n))
    ≡ by_fields 1 NoBody (Err InvalidTransferEncoding) Coding.Absent (content_length (decimal n ∷ []))
unfolding known_fields eq_ignore_case elements
framing_is host n = refl

pub length_is : (n : ℕ) → IsDecimal n → content_length (decimal n ∷ []) ≡ Sized.Value n
length_is n is = rw is.number (ap Sized.Value is.value)

framed : (host : List ℕ) (n : ℕ) → IsDecimal n
    → request_framing (method_kind (codes "POST")) 1 (known_fields (sent_fields host n)) ≡ Ok (Length n)
framed host n is =
    framing_is host n ∙ ap (by_fields 1 NoBody (Err InvalidTransferEncoding) Coding.Absent) (length_is n is)

path_short : (p : Path) → length (path_text p) ≤ 6
path_short path.Frame = omega arith
path_short path.Proof = omega arith
path_short path.Lease = omega arith

head_short : (p h d : List ℕ) → length p ≤ 6 → length h ≤ 255 → length d ≤ 5 → length (sent_head p h d) ≤ 4096
head_short p h d a b c = simp length-append (omega arith)

-- ---- the request

path_back : (p : Path) → path_of (path_text p) ≡ Some p
path_back path.Frame = refl
path_back path.Proof = refl
path_back path.Lease = refl

fits : (k : ℕ) (xs : List ℕ) → k ≤ length xs → nat_le k (length xs) ≡ true
fits k xs low = grind (arith, nat_tests)

request_back : (r : PlainRequest) → HasWidths r → request_of (request_path r) (request_body r) ≡ Some r
request_back (Frame ticket frame) wide =
    rw (fits 16 (ticket.0 ++ frame) (omega (arith, length-append ticket.0 frame)))
    (λ i. Some (Frame (record { 0 = take_at ticket.0 frame 16 wide i }) (drop_at ticket.0 frame 16 wide i)))
request_back (Proof ticket statement frame) wide =
    let s = statement.0 in
    let behind = drop_at ticket.0 (s ++ frame) 16 wide.0 in
    let hash = ap (take 32) behind ∙ take_at s frame 32 wide.1 in
    let rest = ap (drop 32) behind ∙ drop_at s frame 32 wide.1 in
    rw (fits 48 (ticket.0 ++ (s ++ frame)) (omega (arith, length-append ticket.0 (s ++ frame), length-append s frame, wide.0, wide.1)))
    (λ i. Some (Proof (record { 0 = take_at ticket.0 (s ++ frame) 16 wide.0 i }) (record { 0 = hash i }) (rest i)))
request_back (Lease ticket helper) wide =
    rw (eq-eqb (length (ticket.0 ++ helper.0)) 48 (omega (arith, length-append ticket.0 helper.0, wide.0, wide.1)))
    (λ i. Some (Lease (record { 0 = take_at ticket.0 helper.0 16 wide.0 i }) (record { 0 = drop_at ticket.0 helper.0 16 wide.0 i })))

sized : (n : ℕ) → n ≤ 8262 → body_len (codes "POST") (Length n) ≡ Ok n
sized n low = grind (arith, nat_tests)

heard_back : (r : PlainRequest) (host : List ℕ) (head : RequestHead) → IsSendable r
    → head ≡ request_head (codes "POST") (path_text (request_path r)) 1 (sent_fields host (length (request_body r)))
    → fields_of head ≡ sent_fields host (length (request_body r)) → heard_of head (request_body r) ≡ heard_whole r
heard_back r host head sendable is same =
    let n = length (request_body r) in
    let p = request_path r in
    let target = ap (λ (h : RequestHead). path_of h.target) is ∙ path_back p in
    let method = ap (λ (h : RequestHead). h.method) is in
    let minor = ap (λ (h : RequestHead). h.minor) is in
    let type = ap has_octets same ∙ octets host n in
    let kept = ap (λ (q : List Header). not (known_fields q).close) same ∙ ap not (stays host n) in
    let asked =
    (λ i. asked_where (target i) (method i) (type i) (request_body r)) ∙ ap asked_in (request_back r sendable.widths) in
    λ i. record { asked = asked i; keeps = ((λ j. (minor j == 1) && kept j) ∙ refl) i }

-- a request whose body is taken has no more than a head and a body
pub sent_short : (r : PlainRequest) (host : List ℕ) → length (request_body r) ≤ 8262 → is_value host ≡ true
    → length (sent_text r host) ≤ 12358
sent_short r host low value =
    let n = length (request_body r) in
    let target = path_text (request_path r) in
    let short = (decimal_is n low).short in
    let bound =
    head_short target host (decimal n) (path_short (request_path r)) (host_short host value) short in
    let text = request_text (codes "POST") target 1 (sent_fields host n) in
    omega (arith, ap length (head_is target host n), bound, length-append text (request_body r))

pub coming : RequestsComeAsSent
coming r host rest sendable value =
    let n = length (request_body r) in
    let target = path_text (request_path r) in
    let hs = sent_fields host n in
    let is = decimal_is n sendable.short in
    let ok = valid host n (host_trimmed host value) is.trim in
    let none = accepted (is_request_line (codes "POST") target 1) hs (line_is (request_path r)) ok in
    let back = request_reads_back (codes "POST") target 1 hs (request_body r ++ rest) none in
    let head = request_head (codes "POST") target 1 hs in
    let text = append_assoc (request_text (codes "POST") target 1 hs) (request_body r) rest in
    let bound = head_short target host (decimal n) (path_short (request_path r)) (host_short host value) is.short in
    let short : length (request_text (codes "POST") target 1 hs) ≤ 4096 = omega (arith, ap length (head_is target host n), bound) in (
      head,
      record {
        framing = Length n;
        takes = record {
          accepts = record {
            reads = subst (λ (t : List ℕ). ReadsRequest t head (request_body r ++ rest)) (sym text) back.reads;
            strict = (short, back.strict);
            host = ap (λ (q : List Header). has_one_host 1 (known_fields q)) back.fields ∙ one_host host n;
            framed = ap (λ (q : List Header). request_framing (method_kind (codes "POST")) 1 (known_fields q)) back.fields ∙ framed host n is;
          };
          few = omega arith;
        };
        size = sized n sendable.short;
      },
      heard_back r host head sendable refl back.fields,
    )
