-- What is drawn for a letter.
use Rattle.std.proofs.Common.{◌≡◌, ◌∙◌, ℕ, List, ap}
use Rattle.rand_core.specs.Stream.{Stream, fill_bytes, next_u64}
use Rattle.kept_letter.specs.Notes.{Opening}
use Rattle.desk_send.specs.Letters.{behind_letter, id_of, seed_of}

pub drawn_seed : (seed : List ℕ) (mid draws : Stream)
    → (let p : List ℕ × Stream = (seed, mid) in p) ≡ fill_bytes 32 draws → seed ≡ seed_of draws
drawn_seed seed mid draws is = ap (λ (p : List ℕ × Stream). p.0) is

pub drawn_mid : (seed : List ℕ) (mid draws : Stream)
    → (let p : List ℕ × Stream = (seed, mid) in p) ≡ fill_bytes 32 draws → mid ≡ (fill_bytes 32 draws).1
drawn_mid seed mid draws is = ap (λ (p : List ℕ × Stream). p.1) is

pub drawn_id : (id : ℕ) (mid last draws : Stream) → mid ≡ (fill_bytes 32 draws).1
    → (let p : ℕ × Stream = (id, last) in p) ≡ next_u64 mid → id ≡ id_of draws
drawn_id id mid last draws before is =
    ap (λ (p : ℕ × Stream). p.0) is ∙ ap (λ (s : Stream). (next_u64 s).0) before

pub drawn_last : (id : ℕ) (mid last draws : Stream) → mid ≡ (fill_bytes 32 draws).1
    → (let p : ℕ × Stream = (id, last) in p) ≡ next_u64 mid → last ≡ behind_letter draws
drawn_last id mid last draws before is =
    ap (λ (p : ℕ × Stream). p.1) is ∙ ap (λ (s : Stream). (next_u64 s).1) before

abbrev pub opening_with : List ℕ → ℕ → ℕ → List ℕ → Opening
opening_with seed id count card = record { seed = seed; id = id; count = count; card = card }

pub same_opening : (seed other : List ℕ) (id another count : ℕ) (card : List ℕ) → seed ≡ other → id ≡ another
    → opening_with seed id count card ≡ opening_with other another count card
same_opening seed other id another count card one two =
    ap (λ (s : List ℕ). opening_with s id count card) one
    ∙ ap (λ (n : ℕ). opening_with other n count card) two
