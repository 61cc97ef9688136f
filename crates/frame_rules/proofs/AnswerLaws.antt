-- Answers and link frames are frames.
use Rattle.std.proofs.Common.{◌≡◌, ◌<◌, ◌≤◌, ◌^◌, ℕ, true, refl, arith}
use Rattle.frame_rules.specs.Frames.{PlainFrame, PlainBody, Deposit, Register, Write, Read, Proof, Held, Challenge, Registered, Accepted, Message, Refused, LinkRegister, LinkBegin, LinkAudit, LinkSettle, LinkRead, LinkReply, Retire, LinkRetire, LinkBegun}
use Rattle.frame_rules.specs.Kinds.{is_linked}
use Rattle.frame_rules.specs.Spelling.{kind_of, IsFrame, IsBody, IsAddressed}
use Rattle.frame_rules.specs.Whole.{is_from_client, answer, on_link, IsAnswer}

-- a client's frame has a serial
pub client_serial : (b : PlainBody) (lane serial : ℕ) → is_from_client b ≡ true → IsAddressed b lane serial → 1 ≤ serial
client_serial (Deposit d) lane serial right h = h
client_serial (Register a k) lane serial right h = h
client_serial (Write r p) lane serial right h = h
client_serial (Read n t) lane serial right h = h
client_serial (Proof s) lane serial right h = h
client_serial (Held p) lane serial right h = absurd cc
client_serial (Challenge k) lane serial right h = absurd cc
client_serial (Registered n) lane serial right h = absurd cc
client_serial Accepted lane serial right h = absurd cc
client_serial (Message z o) lane serial right h = absurd cc
client_serial (Refused r) lane serial right h = absurd cc
client_serial (LinkRegister a) lane serial right h = absurd cc
client_serial (LinkBegin k p) lane serial right h = absurd cc
client_serial (LinkAudit s o) lane serial right h = absurd cc
client_serial (LinkSettle c) lane serial right h = absurd cc
client_serial (LinkRead n) lane serial right h = absurd cc
client_serial (LinkReply r) lane serial right h = absurd cc
client_serial (Retire n t) lane serial right h = h
client_serial (LinkRetire n) lane serial right h = absurd cc
client_serial (LinkBegun n d) lane serial right h = absurd cc

-- a frame of the link has a serial
pub linked_serial : (b : PlainBody) (lane serial : ℕ) → is_linked (kind_of b) ≡ true → IsAddressed b lane serial → 1 ≤ serial
linked_serial (Deposit d) lane serial right h = absurd cc
linked_serial (Register a k) lane serial right h = absurd cc
linked_serial (Write r p) lane serial right h = absurd cc
linked_serial (Read n t) lane serial right h = absurd cc
linked_serial (Proof s) lane serial right h = absurd cc
linked_serial (Held p) lane serial right h = absurd cc
linked_serial (Challenge k) lane serial right h = absurd cc
linked_serial (Registered n) lane serial right h = absurd cc
linked_serial Accepted lane serial right h = absurd cc
linked_serial (Message z o) lane serial right h = absurd cc
linked_serial (Refused r) lane serial right h = absurd cc
linked_serial (LinkRegister a) lane serial right h = h
linked_serial (LinkBegin k p) lane serial right h = h
linked_serial (LinkAudit s o) lane serial right h = h
linked_serial (LinkSettle c) lane serial right h = h
linked_serial (LinkRead n) lane serial right h = h
linked_serial (LinkReply r) lane serial right h = h
linked_serial (Retire n t) lane serial right h = absurd cc
linked_serial (LinkRetire n) lane serial right h = h
linked_serial (LinkBegun n d) lane serial right h = h

linked_addressed : (b : PlainBody) (lane serial : ℕ) → is_linked (kind_of b) ≡ true → 1 ≤ serial → IsAddressed b lane serial
linked_addressed (Deposit d) lane serial right h = absurd cc
linked_addressed (Register a k) lane serial right h = absurd cc
linked_addressed (Write r p) lane serial right h = absurd cc
linked_addressed (Read n t) lane serial right h = absurd cc
linked_addressed (Proof s) lane serial right h = absurd cc
linked_addressed (Held p) lane serial right h = absurd cc
linked_addressed (Challenge k) lane serial right h = absurd cc
linked_addressed (Registered n) lane serial right h = absurd cc
linked_addressed Accepted lane serial right h = absurd cc
linked_addressed (Message z o) lane serial right h = absurd cc
linked_addressed (Refused r) lane serial right h = absurd cc
linked_addressed (LinkRegister a) lane serial right h = h
linked_addressed (LinkBegin k p) lane serial right h = h
linked_addressed (LinkAudit s o) lane serial right h = h
linked_addressed (LinkSettle c) lane serial right h = h
linked_addressed (LinkRead n) lane serial right h = h
linked_addressed (LinkReply r) lane serial right h = h
linked_addressed (Retire n t) lane serial right h = absurd cc
linked_addressed (LinkRetire n) lane serial right h = h
linked_addressed (LinkBegun n d) lane serial right h = h

pub answer_frame : (f : PlainFrame) (body : PlainBody) → IsFrame f → 1 ≤ f.serial → IsAnswer body → IsFrame (answer f body)
answer_frame f body is some a =
    record { lane = is.lane; serial = is.serial; addressed = a.addressed f.lane f.serial some; link = omega arith; linked = rw a.unlinked refl; body = a.is_body }

pub on_link_frame : (f : PlainFrame) (number : ℕ) (body : PlainBody) → IsFrame f → 1 ≤ f.serial → 1 ≤ number → number < 2 ^ 64 → is_linked (kind_of body) ≡ true → IsBody body → IsFrame (on_link f number body)
on_link_frame f number body is some least most linked right =
    record { lane = is.lane; serial = is.serial; addressed = linked_addressed body f.lane f.serial linked some; link = most; linked = rw linked least; body = right }
