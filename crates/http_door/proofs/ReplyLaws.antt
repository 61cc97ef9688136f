-- The pieces of an answer are its text.
use Rattle.std.proofs.Common.{◌≡◌, ℕ, ◌+◌, ◌<◌, Bool, List, [], ◌∷◌, ◌++◌, length, refl, sym, ap, ◌∙◌, arith, append_assoc, append-nil, length-append}
use Rattle.std.specs.Prelude.{codes, Option, Some}
use Rattle.std.proofs.lemmas.Grind.{flat_map-append}
use Rattle.http1.specs.Fields.{Header}
use Rattle.http1.specs.Head.{print_header, print_headers, status_digits, response_text}
use Rattle.http1.proofs.HeadLemmas.{response_text_is}
use Rattle.http_door.specs.Replies.{PlainReply, reply_status, reply_reason, own_fields, length_fields, origin_fields, close_fields, reply_body, reply_text, start_text, origin_text}

four : (a b c d : List Header)
    → print_headers (a ++ (b ++ (c ++ d))) ≡ print_headers a ++ (print_headers b ++ (print_headers c ++ print_headers d))
four a b c d =
    flat_map-append print_header a (b ++ (c ++ d))
    ∙ ap (λ (t : List ℕ). print_headers a ++ t) (flat_map-append print_header b (c ++ d)
    ∙ ap (λ (t : List ℕ). print_headers b ++ t) (flat_map-append print_header c d))

-- the status line
abbrev line : ℕ → List ℕ → List ℕ
line status reason =
    codes "HTTP/1." ++ ((48 + 1) ∷ 32 ∷ (status_digits status ++ (32 ∷ (reason ++ (13 ∷ 10 ∷ [])))))

abbrev store : List ℕ
store = codes "Cache-Control: no-store\r\n"

line_and : (status : ℕ) (reason more : List ℕ)
    → line status reason ++ more ≡ codes "HTTP/1.1 " ++ (status_digits status ++ (codes " " ++ (reason ++ (13 ∷ 10 ∷ more))))
line_and status reason more =
    ap (λ (t : List ℕ). codes "HTTP/1.1 " ++ (status_digits status ++ (codes " " ++ t))) (append_assoc reason (13 ∷ 10 ∷ []) more)

start_is : (status : ℕ) (reason own : List ℕ)
    → start_text (status_digits status) reason own ≡ line status reason ++ (store ++ own)
start_is status reason own =
    ap (λ (t : List ℕ). codes "HTTP/1.1 " ++ (status_digits status ++ (codes " " ++ (reason ++ (13 ∷ 10 ∷ (store ++ t)))))) (append-nil own)
    ∙ sym (line_and status reason (store ++ own))

flat : (front store own b c close crlf body : List ℕ)
    → (front ++ ((store ++ (own ++ (b ++ (c ++ close)))) ++ crlf)) ++ body
    ≡ (front ++ (store ++ own)) ++ (b ++ (c ++ (close ++ (crlf ++ body))))
flat front store own b c close crlf body = simp append_assoc

-- pieces whose fields are printed one after another
pub pieces : (status : ℕ) (reason own second third close body : List ℕ) (a b c d : List Header)
    → own ≡ print_headers a → second ≡ print_headers b → third ≡ print_headers c → close ≡ print_headers d
    → start_text (status_digits status) reason own ++ (second ++ (third ++ ((close ++ (codes "\r\n" ++ [])) ++ body)))
    ≡ response_text 1 status reason ((codes "Cache-Control", codes "no-store") ∷ (a ++ (b ++ (c ++ d)))) ++ body
pieces status reason own second third close body a b c d p q r s =
    let hs = (codes "Cache-Control", codes "no-store") ∷ (a ++ (b ++ (c ++ d))) in
    let fields : own ++ (second ++ (third ++ close)) ≡ print_headers (a ++ (b ++ (c ++ d))) =
    (λ i. p i ++ (q i ++ (r i ++ s i))) ∙ sym (four a b c d) in
    (λ i. start_is status reason own i ++ (second ++ (third ++ append_assoc close (13 ∷ 10 ∷ []) body i)))
    ∙ sym (flat (line status reason) store own second third close (13 ∷ 10 ∷ []) body)
    ∙ ap (λ (t : List ℕ). (line status reason ++ ((store ++ t) ++ (13 ∷ 10 ∷ []))) ++ body) fields
    ∙ ap (λ (t : List ℕ). t ++ body) (response_text_is 1 status reason hs)

-- the fields of an origin, in pieces
pub origin_is : (v : List ℕ)
    → codes "Access-Control-Allow-Origin: " ++ (v ++ (codes "\r\nVary: Origin\r\n" ++ [])) ≡ origin_text (Some v)
origin_is v =
    ap (λ (t : List ℕ). codes "Access-Control-Allow-Origin: " ++ t) (sym (append_assoc v (13 ∷ 10 ∷ []) (codes "Vary: Origin\r\n")))

abbrev pub start_of : PlainReply → List ℕ
start_of r = start_text (status_digits (reply_status r)) (reply_reason r) (print_headers (own_fields r))

abbrev pub length_of : PlainReply → List ℕ
length_of r = print_headers (length_fields r)

abbrev pub close_of : Bool → List ℕ
close_of keeps = print_headers (close_fields keeps) ++ codes "\r\n"

-- an answer's text, piece by piece
pub reply_is : (r : PlainReply) (origin : Option (List ℕ)) (keeps : Bool)
    → start_of r ++ (length_of r ++ (origin_text origin ++ (close_of keeps ++ reply_body r))) ≡ reply_text r origin keeps
reply_is r origin keeps =
    pieces (reply_status r) (reply_reason r) _ _ _ _ (reply_body r) (own_fields r) (length_fields r) (origin_fields origin)
    (close_fields keeps) refl refl refl refl

pub total : (r : PlainReply) (origin : Option (List ℕ)) (keeps : Bool) → length (reply_text r origin keeps)
    ≡ length (start_of r) + (length (length_of r) + (length (origin_text origin) + (length (close_of keeps) + length (reply_body r))))
total r origin keeps =
    ap length (sym (reply_is r origin keeps))
    ∙ sums (start_of r) (length_of r) (origin_text origin) (close_of keeps) (reply_body r)
  where
    sums : (a b c d e : List ℕ) → length (a ++ (b ++ (c ++ (d ++ e)))) ≡ length a + (length b + (length c + (length d + length e)))
    sums a b c d e = simp length-append

module _ (r : PlainReply) (origin : Option (List ℕ)) (keeps : Bool) (room : ℕ) (a b d : List ℕ) (starts : a ≡ start_of r) where
  pub over_first : room < length a → room < length (reply_text r origin keeps)
  over_first short = omega (arith, total r origin keeps, ap length starts)

  pub over_second : b ≡ length_of r → (at : ℕ) → at ≡ length a → room < at + length b
      → room < length (reply_text r origin keeps)
  over_second sizes at end short = omega (arith, total r origin keeps, ap length starts, ap length sizes)

  pub over_third : b ≡ length_of r → (at : ℕ) → at ≡ length (a ++ b) → room < at + length (origin_text origin)
      → room < length (reply_text r origin keeps)
  over_third sizes at end short =
      omega (arith, total r origin keeps, ap length starts, ap length sizes, length-append a b)

  pub over_fourth : b ≡ length_of r → d ≡ close_of keeps → (at : ℕ) → at ≡ length ((a ++ b) ++ origin_text origin)
      → room < at + length d → room < length (reply_text r origin keeps)
  over_fourth sizes closes at end short =
      omega (arith, total r origin keeps, ap length starts, ap length sizes, ap length closes, length-append a b, length-append (a ++ b) (origin_text origin))

  pub over_fifth : b ≡ length_of r → d ≡ close_of keeps → (at : ℕ)
      → at ≡ length (((a ++ b) ++ origin_text origin) ++ d) → room < at + length (reply_body r)
      → room < length (reply_text r origin keeps)
  over_fifth sizes closes at end short =
      omega (arith, total r origin keeps, ap length starts, ap length sizes, ap length closes, length-append a b, length-append (a ++ b) (origin_text origin), length-append ((a ++ b) ++ origin_text origin) d)

-- the pieces that were put one behind another are the text
pub put_whole : (r : PlainReply) (origin : Option (List ℕ)) (keeps : Bool) (a b d : List ℕ) → a ≡ start_of r
    → b ≡ length_of r → d ≡ close_of keeps
    → (((a ++ b) ++ origin_text origin) ++ d) ++ reply_body r ≡ reply_text r origin keeps
put_whole r origin keeps a b d starts sizes closes =
    (λ i. (((starts i ++ sizes i) ++ origin_text origin) ++ closes i) ++ reply_body r)
    ∙ flatten (start_of r) (length_of r) (origin_text origin) (close_of keeps) (reply_body r) ∙ reply_is r origin keeps
  where
    flatten : (a b c d e : List ℕ) → (((a ++ b) ++ c) ++ d) ++ e ≡ a ++ (b ++ (c ++ (d ++ e)))
    flatten a b c d e = simp append_assoc
