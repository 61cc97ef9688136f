-- A record tells the note whose record it is, and the opening.
use Rattle.std.proofs.Common.{◌≡◌, ◌==◌, ℕ, ◌<◌, ◌^◌, List, ◌++◌, length, take, drop, get_or, if◌then◌else◌, refl, sym, ◌∙◌, ap, subst, arith}
use Rattle.std.proofs.Math.Seq.{take-append_seam}
use Rattle.std.proofs.lemmas.Nat.{from_be_bytes-to_be_bytes_2, from_be_bytes-to_be_bytes_4}
use Rattle.std.specs.Int.{w16, w32, to_be_bytes, from_be_bytes}
use Rattle.lane_gate.specs.declared.note.Note.{Note}
use Rattle.lane_gate.specs.declared.note.Note.TheVariants.{Key, Statement, Lease}
use Rattle.lane_gate.specs.declared.opening.GateOpening.{GateOpening}
use Rattle.lane_gate.specs.Notes.{tag_in, lane_in, serial_in, hash_in, IsNote, note_record}
use Rattle.lane_gate.specs.Openings.{IsGateOpening, opening_record}

pub wide_one : (a b : ℕ) → a < 2 ^ 32 → b < 2 ^ 32 → to_be_bytes w32 a ≡ to_be_bytes w32 b → a ≡ b
wide_one a b fa fb is = sym (from_be_bytes-to_be_bytes_4 a fa) ∙ ap (from_be_bytes w32) is ∙ from_be_bytes-to_be_bytes_4 b fb

pub short_one : (a b : ℕ) → a < 2 ^ 16 → b < 2 ^ 16 → to_be_bytes w16 a ≡ to_be_bytes w16 b → a ≡ b
short_one a b fa fb is = sym (from_be_bytes-to_be_bytes_2 a fa) ∙ ap (from_be_bytes w16) is ∙ from_be_bytes-to_be_bytes_2 b fb

-- the note of these parts
abbrev note_from : ℕ → ℕ → ℕ → List ℕ → Note
note_from tag lane serial hash =
    if tag == 17 then Key lane (record { 0 = hash }) else
    if tag == 18 then Statement lane serial (record { 0 = hash }) else Lease lane serial (record { 0 = hash })

note-from : (n : Note) → note_from (tag_in n) (lane_in n) (serial_in n) (hash_in n) ≡ n
note-from (Key lane hash) = refl
note-from (Statement lane serial hash) = refl
note-from (Lease lane serial hash) = refl

pub one_note : (a b : Note) → IsNote a → IsNote b → note_record a ≡ note_record b → a ≡ b
one_note a b ia ib is =
    let tag : tag_in a ≡ tag_in b = ap (λ (l : List ℕ). get_or l 0 0) is in
    let lane = short_one (lane_in a) (lane_in b) ia.lane ib.lane (ap (λ (l : List ℕ). take 2 (drop 1 l)) is) in
    let serial = wide_one (serial_in a) (serial_in b) ia.serial ib.serial (ap (λ (l : List ℕ). take 4 (drop 3 l)) is) in
    let hash : hash_in a ≡ hash_in b = ap (λ (l : List ℕ). drop 7 l) is in
    sym (note-from a)
    ∙ ap (λ (x : ℕ). note_from x (lane_in a) (serial_in a) (hash_in a)) tag
    ∙ ap (λ (x : ℕ). note_from (tag_in b) x (serial_in a) (hash_in a)) lane
    ∙ ap (λ (x : ℕ). note_from (tag_in b) (lane_in b) x (hash_in a)) serial
    ∙ ap (λ (x : List ℕ). note_from (tag_in b) (lane_in b) (serial_in b) x) hash
    ∙ note-from b

abbrev opening_from : ℕ → ℕ → GateOpening
opening_from owners strangers = record { owners = owners; strangers = strangers }

pub one_opening : (a b : GateOpening) → IsGateOpening a → IsGateOpening b → opening_record a ≡ opening_record b → a ≡ b
one_opening a b ia ib is =
    let owners = short_one a.owners b.owners (omega arith) (omega arith) (ap (λ (l : List ℕ). take 2 (drop 1 l)) is) in
    let strangers = short_one a.strangers b.strangers (omega arith) (omega arith) (ap (λ (l : List ℕ). drop 3 l) is) in
    ap (λ (x : ℕ). opening_from x a.strangers) owners ∙ ap (λ (x : ℕ). opening_from b.owners x) strangers

-- the front of a room that a record was written to
pub front : (whole written rest : List ℕ) → written ≡ whole → length whole ≡ 39 → take 39 (written ++ rest) ≡ whole
front whole written rest same long =
    ap (λ (l : List ℕ). take 39 (l ++ rest)) same
    ∙ subst (λ (n : ℕ). take n (whole ++ rest) ≡ whole) long (take-append_seam whole rest)
