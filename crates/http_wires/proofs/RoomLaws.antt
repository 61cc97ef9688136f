-- No ask is longer than there is room for.
use Rattle.std.proofs.Common.{◌≡◌, ℕ, ◌<◌, ◌≤◌, ◌⊎◌, inl, inr, Bool, true, false, List, ◌++◌, length, take, drop, refl, sym, ap, ◌∙◌, subst, arith, length-append, length-take, length-drop}
use Rattle.std.specs.Prelude.{Option, Some, None, Result, Ok, Err, if◌then◌else◌, nat_le, not, bytes_eq, codes, ◌==◌}
use Rattle.std.specs.Int.{w16, to_be_bytes}
use Rattle.std.proofs.lemmas.Bool.{cases_lt, leb-true}
use Rattle.std.proofs.lemmas.List.{take-append-drop}
use Rattle.httparse.specs.Grammar.{RequestHead}
use Rattle.http1.specs.declared.framing.Framing.{Framing}
use Rattle.http1.specs.declared.framing.Framing.TheVariants.{NoBody, Length, Chunked, UntilClose}
use Rattle.http_door.specs.declared.fault.DoorFault.{DoorFault}
use Rattle.http_door.specs.declared.fault.DoorFault.TheVariants as fault
use Rattle.http_door.specs.declared.request.Path.{Path}
use Rattle.http_door.specs.declared.request.Path.TheVariants as path
use Rattle.http_door.specs.Fields.{fields_of, has_octets}
use Rattle.http_door.specs.Heads.{HasNoHead, HoldsRequest, TakesHead, body_len}
use Rattle.http_door.specs.Hearing.{PlainAsked, PlainHeard, Preflight, Refused, asked_in, asked_at, asked_where, asked_of}
use Rattle.http_door.specs.Requests.{PlainRequest, Frame, Proof, Lease, path_of, request_body, request_of, ticket_at}
use Rattle.door_asks.specs.Asks.{LacksRoom, asked_body}
use Rattle.http_wires.specs.Clients.{Hears}

abbrev Short : PlainAsked → Type 0
Short asked = length (asked_body asked) ≤ 8262

refused : (why : DoorFault) → Short (Refused why)
refused why = omega arith

pick : (b : Bool) (x y : PlainAsked) → Short x → Short y → Short (if b then x else y)
pick true x y first second = first
pick false x y first second = second

read_if : (b : Bool) (r : PlainRequest) → length (request_body r) ≤ 8262 → Short (asked_in (if b then Some r else None))
read_if true r short = short
read_if false r short = omega arith

two : (n : ℕ) (body : List ℕ) → length body ≤ 8262 → length (take n body ++ drop n body) ≤ 8262
two n body short = omega (arith, ap length (take-append-drop n body))

three : (body : List ℕ) → length body ≤ 8262
    → length (take 16 body ++ (take 32 (drop 16 body) ++ drop 32 (drop 16 body))) ≤ 8262
three body short =
    omega (
      arith,
      length-append (take 16 body) (take 32 (drop 16 body) ++ drop 32 (drop 16 body)),
      ap length (take-append-drop 32 (drop 16 body)),
      length-take 16 body,
      length-drop 16 body,
    )

request : (p : Path) (body : List ℕ) → length body ≤ 8262 → Short (asked_in (request_of p body))
request path.Frame body short = read_if (nat_le 16 (length body)) (Frame (ticket_at body) (drop 16 body)) (two 16 body short)
request path.Proof body short =
    read_if (nat_le 48 (length body))
    (Proof (ticket_at body) (record { 0 = take 32 (drop 16 body) }) (drop 32 (drop 16 body))) (three body short)
request path.Lease body short =
    read_if (length body == 48) (Lease (ticket_at body) (record { 0 = drop 16 body })) (two 16 body short)

at : (p : Path) (method : List ℕ) (octets : Bool) (body : List ℕ) → length body ≤ 8262 → Short (asked_at p method octets body)
at p method octets body short =
    let read : PlainAsked = asked_in (request_of p body) in
    let typed : PlainAsked = if not octets then Refused fault.NotOctets else read in
    let posted : PlainAsked = if not (bytes_eq method (codes "POST")) then Refused fault.Method else typed in
    pick (bytes_eq method (codes "OPTIONS")) Preflight posted (omega arith)
    (pick (not (bytes_eq method (codes "POST"))) (Refused fault.Method) typed (refused fault.Method)
    (pick (not octets) (Refused fault.NotOctets) read (refused fault.NotOctets) (request p body short)))

where_at : (p : Option Path) (method : List ℕ) (octets : Bool) (body : List ℕ) → length body ≤ 8262
    → Short (asked_where p method octets body)
where_at None method octets body short = refused fault.NoPath
where_at (Some p) method octets body short = at p method octets body short

asked_short : (head : RequestHead) (body : List ℕ) → length body ≤ 8262 → Short (asked_of head body)
asked_short head body short = where_at (path_of head.target) head.method (has_octets (fields_of head)) body short

-- ---- the length that a head states

abbrev fine : ℕ → Result ℕ DoorFault
fine n = Ok n

abbrev wrong : DoorFault → Result ℕ DoorFault
wrong why = Err why

never : (why : DoorFault) (n : ℕ) → wrong why ≡ fine n → ⊥
never why n e = cc

same : (m n : ℕ) → fine m ≡ fine n → m ≡ n
same m n e = cc

stated_none : (b : Bool) (n : ℕ) → (if b then wrong fault.NoLength else fine 0) ≡ fine n → n ≤ 8262
stated_none true n e = absurd (never _ n e)
stated_none false n e = let zero : 0 ≡ n = same 0 n e in omega (arith, zero)

stated_some : (b : Bool) (k n : ℕ) → (b ≡ true → k ≤ 8262) → (if b then fine k else wrong fault.LongBody) ≡ fine n → n ≤ 8262
stated_some true k n low e = let is : k ≡ n = same k n e in let most : k ≤ 8262 = low refl in omega (arith, is, most)
stated_some false k n low e = absurd (never _ n e)

sized : (method : List ℕ) (framing : Framing) (n : ℕ) → body_len method framing ≡ Ok n → n ≤ 8262
sized method NoBody n e = stated_none (bytes_eq method (codes "POST")) n e
sized method (Length k) n e = stated_some (nat_le k 8262) k n (leb-true k 8262) e
sized method Chunked n e = absurd (never _ n e)
sized method UntilClose n e = absurd (never _ n e)

-- ---- what is heard

long : (asked : PlainAsked) → LacksRoom asked 8265 → Short asked → ⊥
long asked (inl over) short = omega arith
long asked (inr over) short =
    omega (arith, length-append (to_be_bytes w16 (length (asked_body asked))) (asked_body asked), over, short)

pub has_room : (held : List ℕ) (heard : PlainHeard) (rest : List ℕ) → Hears held heard rest → LacksRoom heard.asked 8265 → ⊥
has_room held heard rest hears lacks = long heard.asked lacks short where
  asked_is : (h k : PlainHeard) → h ≡ k → Short k.asked → Short h.asked
  asked_is h k e s = subst (λ (x : PlainHeard). Short x.asked) (sym e) s

  whole : (head : RequestHead) (framing : Framing) (after : List ℕ) (n : ℕ) → TakesHead held head framing after
      → body_len head.method framing ≡ Ok n → (length after < n) ⊎ (n ≤ length after) → ⊥
  whole head framing after n takes size (inl less) = hears.whole.body (head, framing, after, n, takes, size, less)
  whole head framing after n takes size (inr enough) =
      let len : length (take n after) ≡ n = omega (arith, length-take n after) in
      let holds : HoldsRequest held head (take n after) (drop n after) = record {
        framing = framing;
        takes = subst (TakesHead held head framing) (sym (take-append-drop n after)) takes;
        size = size ∙ ap fine (sym len);
      } in
      let body = sized head.method framing n size in
      long heard.asked lacks (asked_is heard _ (hears.request head (take n after) (drop n after) holds).0
      (asked_short head (take n after) (omega (arith, len, body))))

  taken : (head : RequestHead) (framing : Framing) (after : List ℕ) → TakesHead held head framing after
      → (size : Result ℕ DoorFault) → body_len head.method framing ≡ size → ⊥
  taken head framing after takes (Ok n) size = whole head framing after n takes size (cases_lt (length after) n)
  taken head framing after takes (Err why) size =
      long heard.asked lacks (asked_is heard _ (hears.unsized why (head, framing, after, takes, size)).0 (refused why))

  none : HasNoHead held
  none head framing after takes = taken head framing after takes (body_len head.method framing) refl

  short : Short heard.asked
  short = let refusal = (hears.headless none).0 in asked_is heard _ refusal.1 (refused refusal.0)
