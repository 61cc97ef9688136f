-- A request that was written is the request that is heard.
use Rattle.std.proofs.Common.{◌≡◌, ℕ, ◌+◌, ◌<◌, List, [], ◌∷◌, ◌++◌, length, sym, ap, ◌∙◌, arith, append_assoc, append-nil, length-append}
use Rattle.std.specs.Fmt.{decimal}
use Rattle.std.specs.Prelude.{codes}
use Rattle.http1.specs.Head.{request_text}
use Rattle.http1.proofs.HeadLemmas.{request_text_is}
use Rattle.http_door.specs.Requests.{PlainRequest, path_text, request_path, request_body}
use Rattle.http_door.specs.Sending.{sent_fields, sent_head, sent_text}

flat : (a path v b host crlf t l digits : List ℕ)
    → (a ++ (path ++ v)) ++ (((b ++ (host ++ crlf)) ++ (t ++ ((l ++ (digits ++ crlf)) ++ []))) ++ crlf)
    ≡ a ++ (path ++ (v ++ (b ++ (host ++ (crlf ++ (t ++ (l ++ (digits ++ (crlf ++ crlf)))))))))
flat a path v b host crlf t l digits = simp (append_assoc, append-nil)

-- the pieces of a head are its text
pub head_is : (path host : List ℕ) (n : ℕ)
    → sent_head path host (decimal n) ≡ request_text (codes "POST") path 1 (sent_fields host n)
head_is path host n =
    sym (flat (codes "POST ") path (codes " HTTP/1.1\r\n") (codes "Host: ") host (13 ∷ 10 ∷ [])
    (codes "Content-Type: application/octet-stream\r\n") (codes "Content-Length: ") (decimal n))
    ∙ request_text_is (codes "POST") path 1 (sent_fields host n)

-- a head and then a body
total : (r : PlainRequest) (host : List ℕ) → length (sent_text r host)
    ≡ length (sent_head (path_text (request_path r)) host (decimal (length (request_body r)))) + length (request_body r)
total r host =
    length-append (request_text (codes "POST") (path_text (request_path r)) 1 (sent_fields host (length (request_body r)))) (request_body r)
    ∙ ap (λ k. k + length (request_body r)) (ap length (sym (head_is (path_text (request_path r)) host (length (request_body r)))))

pub sent_pieces : (r : PlainRequest) (host a : List ℕ)
    → a ≡ sent_head (path_text (request_path r)) host (decimal (length (request_body r)))
    → a ++ request_body r ≡ sent_text r host
sent_pieces r host a heads =
    ap (λ (t : List ℕ). t ++ request_body r) (heads ∙ head_is (path_text (request_path r)) host (length (request_body r)))

pub over_head : (r : PlainRequest) (host a : List ℕ) (room : ℕ)
    → a ≡ sent_head (path_text (request_path r)) host (decimal (length (request_body r))) → room < length a
    → room < length (sent_text r host)
over_head r host a room heads short = omega (arith, total r host, ap length heads)

pub over_body : (r : PlainRequest) (host a : List ℕ) (room at : ℕ)
    → a ≡ sent_head (path_text (request_path r)) host (decimal (length (request_body r))) → at ≡ length a
    → room < at + length (request_body r) → room < length (sent_text r host)
over_body r host a room at heads end short = omega (arith, total r host, ap length heads)

pub over_all : (r : PlainRequest) (host : List ℕ) (room : ℕ) → room < length (request_body r)
    → room < length (sent_text r host)
over_all r host room short = omega (arith, total r host)
