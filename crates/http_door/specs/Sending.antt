-- A request as a client writes it.
use Rattle.std.specs.Prelude.{ℕ, List, [], ◌∷◌, ◌++◌, length, codes, decimal}
use Rattle.http1.specs.Fields.{Header}
use Rattle.http1.specs.Head.{request_text}
use Rattle.http_door.specs.Requests.{PlainRequest, path_text, request_path, request_body}

-- its fields, and no other
abbrev pub sent_fields : List ℕ → ℕ → List Header
sent_fields host n =
    (codes "Host", host)
    ∷ (codes "Content-Type", codes "application/octet-stream")
    ∷ (codes "Content-Length", decimal n) ∷ []

-- the bytes of a request: a head of HTTP/1.1, and the body
abbrev pub sent_text : PlainRequest → List ℕ → List ℕ
sent_text r host =
    request_text (codes "POST") (path_text (request_path r)) 1 (sent_fields host (length (request_body r)))
    ++ request_body r

-- the same head in pieces
abbrev pub sent_head : List ℕ → List ℕ → List ℕ → List ℕ
sent_head path host digits =
    codes "POST " ++ (path ++ (codes " HTTP/1.1\r\nHost: " ++ (host
    ++ (codes "\r\nContent-Type: application/octet-stream\r\nContent-Length: " ++ (digits ++ (codes "\r\n\r\n" ++ []))))))
