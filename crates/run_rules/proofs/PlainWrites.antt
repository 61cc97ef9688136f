-- A client's write in a history: its keys are honest, and both servers' write bytes add up to what the plain
-- table adds.
use Rattle.std.proofs.Common.{◌≡◌, ◌<◌, ◌≤◌, ◌^◌, ℕ, Bool, true, false, cond, nat_eq, List, [], length, replicate, Option, Some, None, slice_get, arith, refl, sym, ap, ap₂, ◌∙◌, subst, inl, inr}
use Rattle.std.proofs.lemmas.Bool.{cases_Bool}
use Rattle.express_words.specs.Bytes.{xor_bytes}
use Rattle.express_words.proofs.Bytes.{length-xor_bytes, xor_nil, xor_bytes_zeros}
use Rattle.dpf_rules.specs.Expansion.{choice}
use Rattle.dpf_rules.specs.Walk.{leaf_of, write_bytes}
use Rattle.dpf_rules.specs.Keys.{honest_keys}
use Rattle.dpf_rules.proofs.BoxLemmas.{length-write}
use Rattle.dpf_rules.proofs.WriteLemmas.{write_sum}
use Rattle.mailbox_rules.specs.Requests.{Request, Register, Write, Read, Retire, Command, Registers, Begins, Audits, Settles, Reads, Retires, Line, entry, AddBox, SettleWrite, reads_box, retires_box, operation_of}
use Rattle.mailbox_rules.specs.Tables.{message_at, sum_of}
use Rattle.mailbox_rules.specs.Widths.{AddsWithin}
use Rattle.step_rules.specs.ClientAsks.{public_part}
use Rattle.run_rules.specs.Letters.{client_seed}
use Rattle.run_rules.specs.Book.{Book, Brought, request_of, target_of, message_of}
use Rattle.run_rules.specs.Values.{part_at, root_at, writes_at}
use Rattle.run_rules.specs.Follows.{IsGood, Sound, does_by}
use Rattle.run_rules.specs.Plain.{IsAnswer, IsHistory, both_add, plain_of}
use Rattle.run_rules.proofs.Alike.{IsAlike, AddsAlike}
use Rattle.run_rules.proofs.Widths.{brought_length}

other_branch : {X : Type 0} (t : Bool) (x y : X) → t ≡ false → cond t x y ≡ y
other_branch true x y e = absurd (cc e)
other_branch false x y e = refl

-- ---- what an operation was asked by

pub record IsWrite (request : Request) : Type 0 where
  pub target : ℕ
  pub message : List ℕ
  pub is : request ≡ Write target message

not_read : (o : Option ℕ) → SettleWrite ≡ reads_box o → ⊥
not_read (Some n) e = cc e
not_read None e = cc e

not_retired : (o : Option ℕ) → SettleWrite ≡ retires_box o → ⊥
not_retired (Some n) e = cc e
not_retired None e = cc e

pub settles_write : (got : List ℕ) (command : Command) (request : Request)
    → SettleWrite ≡ operation_of got command (Some request) → IsWrite request
settles_write got command (Write target message) e = record { target = target; message = message; is = refl }
settles_write got Registers (Register a) e = absurd (cc e)
settles_write got Begins (Register a) e = absurd (cc e)
settles_write got Audits (Register a) e = absurd (cc e)
settles_write got Settles (Register a) e = absurd (cc e)
settles_write got Reads (Register a) e = absurd (cc e)
settles_write got Retires (Register a) e = absurd (cc e)
settles_write got Registers (Read own) e = absurd (cc e)
settles_write got Begins (Read own) e = absurd (cc e)
settles_write got Audits (Read own) e = absurd (cc e)
settles_write got Settles (Read own) e = absurd (cc e)
settles_write got Reads (Read own) e = absurd (not_read (slice_get got own) e)
settles_write got Retires (Read own) e = absurd (cc e)
settles_write got Registers (Retire own) e = absurd (cc e)
settles_write got Begins (Retire own) e = absurd (cc e)
settles_write got Audits (Retire own) e = absurd (cc e)
settles_write got Settles (Retire own) e = absurd (cc e)
settles_write got Reads (Retire own) e = absurd (cc e)
settles_write got Retires (Retire own) e = absurd (not_retired (slice_get got own) e)

no_address : (a : ℕ) (o : Option ℕ) → AddBox a ≡ reads_box o → ⊥
no_address a (Some n) e = cc e
no_address a None e = cc e

nor_address : (a : ℕ) (o : Option ℕ) → AddBox a ≡ retires_box o → ⊥
nor_address a (Some n) e = cc e
nor_address a None e = cc e

pub adds_registered : (got : List ℕ) (command : Command) (request : Request) (a : ℕ)
    → AddBox a ≡ operation_of got command (Some request) → request ≡ Register a
adds_registered got Registers (Register b) a e = ap (λ x. Register x) (let same : a ≡ b = cc in sym same)
adds_registered got Begins (Register b) a e = absurd (cc e)
adds_registered got Audits (Register b) a e = absurd (cc e)
adds_registered got Settles (Register b) a e = absurd (cc e)
adds_registered got Reads (Register b) a e = absurd (cc e)
adds_registered got Retires (Register b) a e = absurd (cc e)
adds_registered got Registers (Write t m) a e = absurd (cc e)
adds_registered got Begins (Write t m) a e = absurd (cc e)
adds_registered got Audits (Write t m) a e = absurd (cc e)
adds_registered got Settles (Write t m) a e = absurd (cc e)
adds_registered got Reads (Write t m) a e = absurd (cc e)
adds_registered got Retires (Write t m) a e = absurd (cc e)
adds_registered got Registers (Read own) a e = absurd (cc e)
adds_registered got Begins (Read own) a e = absurd (cc e)
adds_registered got Audits (Read own) a e = absurd (cc e)
adds_registered got Settles (Read own) a e = absurd (cc e)
adds_registered got Reads (Read own) a e = absurd (no_address a (slice_get got own) e)
adds_registered got Retires (Read own) a e = absurd (cc e)
adds_registered got Registers (Retire own) a e = absurd (cc e)
adds_registered got Begins (Retire own) a e = absurd (cc e)
adds_registered got Audits (Retire own) a e = absurd (cc e)
adds_registered got Settles (Retire own) a e = absurd (cc e)
adds_registered got Reads (Retire own) a e = absurd (cc e)
adds_registered got Retires (Retire own) a e = absurd (nor_address a (slice_get got own) e)

-- ---- the write of a request

module _ (b : Book) (k : IsHistory b) (c s target : ℕ) (message : List ℕ)
    (asked : request_of b c s ≡ Some (Write target message)) where
  honest : b.foreign c ≡ false
  honest = k.asked c s (Write target message) asked

  pub root_is : (server : ℕ) → root_at b server c s ≡ choice (client_seed b.seed c) s server
  root_is server = other_branch (b.foreign c) _ _ honest

  pub part_is : part_at b c s ≡ honest_keys target message (root_at b 0 c s) (root_at b 1 c s)
  unfolding public_part
  part_is =
      other_branch (b.foreign c) _ _ honest
      ∙ ap₂ (λ t m. honest_keys t m (choice (client_seed b.seed c) s 0) (choice (client_seed b.seed c) s 1))
      (ap target_of asked) (ap message_of asked)
      ∙ ap₂ (λ r0 r1. honest_keys target message r0 r1) (sym (root_is 0)) (sym (root_is 1))

  pub fits : IsGood b (Write target message)
  fits = k.sound.requests c s (Write target message) asked

  same_test : (a : ℕ) → nat_eq a target ≡ nat_eq target a
  same_test a = grind arith

  pub write_alike : AddsAlike b.settings.width (plain_of b) (sum_of (writes_at b 0) (writes_at b 1)) c s
  write_alike bytes a wide small =
      ap (λ part. xor_bytes bytes (xor_bytes (write_bytes part 0 (root_at b 0 c s) a) (write_bytes part 1 (root_at b 1 c s) a))) part_is
      ∙ ap (xor_bytes bytes) (write_sum target message (root_at b 0 c s) (root_at b 1 c s) a small fits.0)
      ∙ ap (λ t. xor_bytes bytes (cond t message (replicate (length message) 0))) (same_test a)
      ∙ by_test (nat_eq target a)
      ∙ ap (λ o. xor_bytes bytes (message_at o a)) (sym asked)
      ∙ ap (λ t. xor_bytes bytes (cond t (both_add b c s a) (message_at (request_of b c s) a))) (sym honest)
    where
      by_test : (t : Bool) → xor_bytes bytes (cond t message (replicate (length message) 0)) ≡ xor_bytes bytes (cond t message [])
      by_test true = refl
      by_test false = xor_bytes_zeros bytes (length message) (wide ∙ sym fits.1) ∙ sym (xor_nil bytes)

-- ---- all writes of a history

-- a foreign lane's write adds what both servers add
strange_alike : (b : Book) (c s : ℕ) → b.foreign c ≡ true
    → AddsAlike b.settings.width (plain_of b) (sum_of (writes_at b 0) (writes_at b 1)) c s
strange_alike b c s foreign bytes a wide small =
    ap (λ t. xor_bytes bytes (cond t (both_add b c s a) (message_at (request_of b c s) a))) (sym foreign)

pub writes_alike : (b : Book) → IsHistory b → (i : ℕ) (line : Line) → slice_get b.entries i ≡ Some (entry line SettleWrite)
    → IsAlike b.settings.width (plain_of b) (sum_of (writes_at b 0) (writes_at b 1)) line.lane line.serial
writes_alike b k i line is = elim (cases_Bool (b.foreign line.lane)) [
  | inl foreign ↦ record { accepts = refl; adds = strange_alike b line.lane line.serial foreign }
  | inr honest ↦
      let by : IsAnswer b i (entry line SettleWrite) = k.answers i (entry line SettleWrite) is honest in
      let w : IsWrite by.request = settles_write _ line.command by.request (by.does ∙ ap (operation_of _ line.command) by.is) in
      record {
        accepts = refl;
        adds = write_alike b k line.lane line.serial w.target w.message (by.is ∙ ap (λ r. Some r) w.is);
      }
]

adds_brought : (b : Brought) (c s : ℕ) (command : Command) (a : ℕ) → AddBox a ≡ does_by b c s command
    → a ≡ b.address c s
adds_brought b c s Registers a e = cc e
adds_brought b c s Begins a e = absurd (cc e)
adds_brought b c s Audits a e = absurd (cc e)
adds_brought b c s Settles a e = absurd (cc e)
adds_brought b c s Reads a e = absurd (cc e)
adds_brought b c s Retires a e = absurd (cc e)

pub addresses_small : (b : Book) → IsHistory b → (i : ℕ) (line : Line) (a : ℕ)
    → slice_get b.entries i ≡ Some (entry line (AddBox a)) → a < 2 ^ 128
addresses_small b k i line a is = elim (cases_Bool (b.foreign line.lane)) [
  | inl foreign ↦ elim ((k.strange i (entry line (AddBox a)) is foreign).does) [
    | inl none ↦ absurd (cc none)
    | inr does ↦ subst (λ n. n < 2 ^ 128) (sym (adds_brought b.brought line.lane line.serial line.command a does)) (k.sound.brought.addresses line.lane line.serial)
  ]
  | inr honest ↦
      let by : IsAnswer b i (entry line (AddBox a)) = k.answers i (entry line (AddBox a)) is honest in
      let r = adds_registered _ line.command by.request a (by.does ∙ ap (operation_of _ line.command) by.is) in
      k.sound.requests line.lane line.serial (Register a) (by.is ∙ ap (λ r. Some r) r)
]

message_fits : (b : Book) (o : Option Request) (a : ℕ) → ((r : Request) → o ≡ Some r → IsGood b r)
    → length (message_at o a) ≤ b.settings.width
message_fits b None a good = omega arith
message_fits b (Some (Register x)) a good = omega arith
message_fits b (Some (Write target message)) a good = by_test (nat_eq target a)
  where
    by_test : (t : Bool) → length (cond t message []) ≤ b.settings.width
    by_test true = let fit : length message ≡ b.settings.width = (good (Write target message) refl).1 in omega arith
    by_test false = omega arith
message_fits b (Some (Read own)) a good = omega arith
message_fits b (Some (Retire own)) a good = omega arith

-- a foreign lane's write adds the width to a box
pub length-both_add : (b : Book) (c s a : ℕ) → Sound b → b.foreign c ≡ true → length (both_add b c s a) ≡ b.settings.width
length-both_add b c s a sound foreign =
    let part : part_at b c s ≡ b.brought.part c s = rw foreign refl in
    let last = brought_length (b.brought.part c s) b.settings.width (sound.parts c s) in
    let wide : (server : ℕ) → length (write_bytes (part_at b c s) server (root_at b server c s) a) ≡ b.settings.width =
    λ server. subst (λ p. length (write_bytes p server (root_at b server c s) a) ≡ b.settings.width) (sym part)
    (length-write (b.brought.part c s) (leaf_of (b.brought.part c s) server (root_at b server c s) a) ∙ last) in
    length-xor_bytes _ _ (wide 0 ∙ sym (wide 1)) ∙ wide 0

pub plain_within : (b : Book) → IsHistory b → AddsWithin b.settings.width (plain_of b)
plain_within b k lane serial a accepted = elim (cases_Bool (b.foreign lane)) [
  | inl foreign ↦
      let size = length-both_add b lane serial a k.sound foreign in
      subst (λ t. length (cond t (both_add b lane serial a) (message_at (request_of b lane serial) a)) ≤ b.settings.width) (sym foreign) (omega (arith, size))
  | inr honest ↦
      subst (λ t. length (cond t (both_add b lane serial a) (message_at (request_of b lane serial) a)) ≤ b.settings.width) (sym honest)
      (message_fits b (request_of b lane serial) a (λ r e. k.sound.requests lane serial r e))
]
