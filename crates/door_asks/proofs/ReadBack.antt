-- Asks and answers are read back as they were written.
use Rattle.std.proofs.Common.{◌≡◌, ℕ, ◌+◌, ◌<◌, ◌≤◌, ◌^◌, true, List, ◌∷◌, ◌++◌, length, take, drop, refl, sym, ap, ◌∙◌, arith, length-append}
use Rattle.std.specs.Prelude.{Some, nat_le, option_map}
use Rattle.std.specs.Int.{w16, to_be_bytes}
use Rattle.std.proofs.lemmas.Bool.{eq-eqb}
use Rattle.std.proofs.lemmas.Bool.Decides.{nat_tests}
use Rattle.std.proofs.lemmas.List.{take_at, drop_at}
use Rattle.std.proofs.lemmas.Nat.{from_be_bytes-to_be_bytes_2, from_be_bytes-to_be_bytes_4}
use Rattle.lane_leases.specs.declared.ended.End.TheVariants as ends
use Rattle.http_door.specs.declared.fault.DoorFault.{DoorFault}
use Rattle.http_door.specs.declared.fault.DoorFault.TheVariants as fault
use Rattle.http_door.specs.Hearing.{PlainAsked, Request, Preflight, Refused}
use Rattle.http_door.specs.Laws.{HasWidths}
use Rattle.http_door.specs.Requests.{PlainRequest, Frame, Proof, Lease, request_path, request_body, request_of}
use Rattle.http_door.specs.Replies as reply
use Rattle.http_door.specs.Replies.{PlainReply}
use Rattle.door_asks.specs.Answers.{answer_bytes, answer_in}
use Rattle.door_asks.specs.Asks.{ask_bytes, ask_end, asked_at, asked_body, asked_in, kind_number, stated_len}
use Rattle.door_asks.specs.Faults.{fault_number, fault_in}
use Rattle.door_asks.specs.Laws.{IsAskable, IsAnswer}

fits : (k : ℕ) (xs : List ℕ) → k ≤ length xs → nat_le k (length xs) ≡ true
fits k xs low = grind (arith, nat_tests)

request_back : (r : PlainRequest) → HasWidths r → request_of (request_path r) (request_body r) ≡ Some r
request_back (Frame ticket frame) wide =
    rw (fits 16 (ticket.0 ++ frame) (omega (arith, length-append ticket.0 frame)))
    (λ i. Some (Frame (record { 0 = take_at ticket.0 frame 16 wide i }) (drop_at ticket.0 frame 16 wide i)))
request_back (Proof ticket statement frame) wide =
    let s = statement.0 in
    let behind = drop_at ticket.0 (s ++ frame) 16 wide.0 in
    let hash = ap (take 32) behind ∙ take_at s frame 32 wide.1 in
    let rest = ap (drop 32) behind ∙ drop_at s frame 32 wide.1 in
    rw (fits 48 (ticket.0 ++ (s ++ frame)) (omega (arith, length-append ticket.0 (s ++ frame), length-append s frame, wide.0, wide.1)))
    (λ i. Some (Proof (record { 0 = take_at ticket.0 (s ++ frame) 16 wide.0 i }) (record { 0 = hash i }) (rest i)))
request_back (Lease ticket helper) wide =
    rw (eq-eqb (length (ticket.0 ++ helper.0)) 48 (omega (arith, length-append ticket.0 helper.0, wide.0, wide.1)))
    (λ i. Some (Lease (record { 0 = take_at ticket.0 helper.0 16 wide.0 i }) (record { 0 = drop_at ticket.0 helper.0 16 wide.0 i })))

fault_back : (why : DoorFault) → fault_in (fault_number why) ≡ Some why
fault_back fault.Malformed = refl
fault_back fault.NoPath = refl
fault_back fault.Method = refl
fault_back fault.NoLength = refl
fault_back fault.LongBody = refl
fault_back fault.NotOctets = refl
fault_back fault.LongHead = refl

asked_back : (asked : PlainAsked) → IsAskable asked → asked_at (kind_number asked) (asked_body asked) ≡ Some asked
asked_back (Request (Frame ticket frame)) sendable = ap (option_map Request) (request_back (Frame ticket frame) sendable.widths)
asked_back (Request (Proof ticket statement frame)) sendable =
    ap (option_map Request) (request_back (Proof ticket statement frame) sendable.widths)
asked_back (Request (Lease ticket helper)) sendable = ap (option_map Request) (request_back (Lease ticket helper) sendable.widths)
asked_back Preflight askable = refl
asked_back (Refused why) askable = ap (option_map Refused) (fault_back why)

short : (asked : PlainAsked) → IsAskable asked → length (asked_body asked) < 2 ^ 16
short (Request r) sendable = omega (arith, sendable.short)
short Preflight askable = omega arith
short (Refused why) askable = omega arith

stated : (kind n : ℕ) (body : List ℕ) → n < 2 ^ 16 → stated_len (kind ∷ (to_be_bytes w16 n ++ body)) ≡ n
stated kind n body small = from_be_bytes-to_be_bytes_2 n small

three : (kind n : ℕ) (body : List ℕ) → 3 ≤ length (kind ∷ (to_be_bytes w16 n ++ body))
three kind n body = omega (arith, length-append (to_be_bytes w16 n) body)

read_at : (kind n : ℕ) (body : List ℕ) → n ≡ length body → n < 2 ^ 16
    → asked_in (kind ∷ (to_be_bytes w16 n ++ body)) ≡ asked_at kind body
read_at kind n body len small =
    rw (fits 3 (kind ∷ (to_be_bytes w16 n ++ body)) (three kind n body))
    (rw (eq-eqb (length body) (stated_len (kind ∷ (to_be_bytes w16 n ++ body))) (sym len ∙ sym (stated kind n body small))) refl)

ends_at : (kind n : ℕ) (body : List ℕ) → n < 2 ^ 16 → n ≤ length body
    → ask_end (kind ∷ (to_be_bytes w16 n ++ body)) ≡ Some (3 + n)
ends_at kind n body small whole =
    let same = stated kind n body small in
    rw (fits 3 (kind ∷ (to_be_bytes w16 n ++ body)) (three kind n body))
    (rw (fits (stated_len (kind ∷ (to_be_bytes w16 n ++ body))) body (omega (arith, same))) (ap (λ (k : ℕ). Some (3 + k)) same))

pub ask_back : (asked : PlainAsked) → IsAskable asked → asked_in (ask_bytes asked) ≡ Some asked
ask_back asked askable =
    read_at (kind_number asked) (length (asked_body asked)) (asked_body asked) refl (short asked askable)
    ∙ asked_back asked askable

pub ask_alone : (asked : PlainAsked) (rest : List ℕ) → IsAskable asked
    → ask_end (ask_bytes asked ++ rest) ≡ Some (length (ask_bytes asked))
ask_alone asked rest askable =
    let body = asked_body asked in
    let n = length body in
    ends_at (kind_number asked) n (body ++ rest) (short asked askable) (omega (arith, length-append body rest))
    ∙ ap (λ (k : ℕ). Some k) (omega (arith, length-append (to_be_bytes w16 n) body))

pub answer_back : (answer : PlainReply) → IsAnswer answer → answer_in (answer_bytes answer) ≡ Some answer
answer_back (reply.Frame frame) fits = refl
answer_back (reply.Lease lane serial) fits =
    λ i. Some (reply.Lease (from_be_bytes-to_be_bytes_2 lane fits.0 i) (from_be_bytes-to_be_bytes_4 serial fits.1 i))
answer_back reply.NotYours fits = refl
answer_back (reply.Ended ends.Written) fits = refl
answer_back (reply.Ended ends.NotWritten) fits = refl
answer_back reply.Busy fits = refl
answer_back reply.Preflight fits = refl
answer_back (reply.Refused why) fits = ap (option_map reply.Refused) (fault_back why)
