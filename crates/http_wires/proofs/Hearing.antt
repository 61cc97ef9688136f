-- What is heard of the bytes that are held.
use Rattle.std.proofs.Common.{◌≡◌, ℕ, ◌+◌, List, [], ◌++◌, length, drop, sym, ap, ◌∙◌, subst, arith, append_assoc, length-append}
use Rattle.std.specs.Prelude.{Option, Some, None}
use Rattle.std.proofs.lemmas.List.{drop_at, drop_all}
use Rattle.httparse.specs.Grammar.{RequestHead, print_request}
use Rattle.http_door.specs.declared.fault.DoorFault.{DoorFault}
use Rattle.http_door.specs.Heads.{HasNoHead, HoldsRequest, HoldsUnsized, IsHeadCause, LacksBody, NeverTakes}
use Rattle.http_door.specs.Hearing.{PlainHeard, closed, heard_of}
use Rattle.http_wires.specs.Clients.{Hears, IsWhole}

abbrev found : ℕ → Option ℕ
found n = Some n

abbrev nothing : Option ℕ
nothing = None

-- where the first request ends, the rest begins
behind : (held : List ℕ) (end : ℕ) (head : RequestHead) (body after : List ℕ) → HoldsRequest held head body after
    → end ≡ length (print_request head) + length body → drop end held ≡ after
behind held end head body after holds ends =
    let front = print_request head in
    ap (drop end) (holds.takes.accepts.reads.1 ∙ sym (append_assoc front body after))
    ∙ drop_at (front ++ body) after end (omega (arith, length-append front body, ends))

pub whole_of : (held : List ℕ) (end : ℕ) → (HasNoHead held → NeverTakes held) → (LacksBody held → found end ≡ nothing)
    → IsWhole held
whole_of held end never short = record { body = λ lacks. absurd (some (short lacks)); head = never } where
  some : found end ≡ nothing → ⊥
  some e = cc

-- what `whole` says of these bytes, where it gives an end
abbrev pub EndsAt : ℕ → List ℕ → Type 0
EndsAt end held =
    ((head : RequestHead) (body rest : List ℕ)
    → HoldsRequest held head body rest → found end ≡ found (length (print_request head) + length body))
    × ((why : DoorFault) → HoldsUnsized held why → found end ≡ found (length held))
    × (HasNoHead held → end ≡ length held) × IsWhole held

-- and what `read` says of them
abbrev pub ReadAs : PlainHeard → List ℕ → Type 0
ReadAs heard held =
    ((head : RequestHead) (body rest : List ℕ) → HoldsRequest held head body rest → heard ≡ heard_of head body)
    × ((why : DoorFault) → HoldsUnsized held why → heard ≡ closed why)
    × (HasNoHead held → (why : DoorFault) × (heard ≡ closed why) × IsHeadCause why held)

at_once : (held : List ℕ) (end : ℕ) (heard : PlainHeard) → EndsAt end held → ReadAs heard held
    → Hears held heard (drop end held)
at_once held end heard ends read = record {
  request =
      λ head body after holds.
      (read.0 head body after holds, behind held end head body after holds (same _ _ (ends.0 head body after holds)));
  unsized = λ why holds. (read.1 why holds, nothing_left (same _ _ (ends.1 why holds)));
  headless = λ none. (read.2 none, nothing_left (ends.2 none));
  whole = ends.3;
} where
  same : (m n : ℕ) → found m ≡ found n → m ≡ n
  same m n e = cc

  nothing_left : end ≡ length held → drop end held ≡ []
  nothing_left e = drop_all end held (omega (arith, e))

-- the same, of two names of the bytes
pub hears : (held a b : List ℕ) (end : ℕ) (heard : PlainHeard) → a ≡ held → b ≡ held → EndsAt end a → ReadAs heard b
    → Hears held heard (drop end held)
hears held a b end heard first second ends read =
    at_once held end heard (subst (EndsAt end) first ends) (subst (ReadAs heard) second read)
