-- No two draws of a run have a byte in common.
use Rattle.std.proofs.Common.{◌≡◌, ◌≢◌, ◌⊎◌, ℕ, zero, suc, ◌+◌, ◌*◌, ◌-◌, ◌<◌, ◌≤◌, Bool, true, false, cond, List, [], ◌∷◌, length, take, Option, Some, None, slice_get, refl, sym, ap, subst, ◌∙◌, inl, inr, arith}
use Rattle.std.specs.Prelude.{filter}
use Rattle.std.proofs.lemmas.Bool.{cases_eq, cases_lt}
use Rattle.mailbox_rules.specs.Requests.{Entry, Line, Register, Request, Write}
use Rattle.token_rules.specs.Tokens.{World}
use Rattle.step_laws.proofs.Draws.{word_is}
use Rattle.run_rules.specs.Acts.{ended_of, history_of}
use Rattle.run_rules.specs.Book.{Book, begun_in, client_at, drawn_in, has_begun, is_drawn, request_of}
use Rattle.run_rules.specs.EveryEnd.{AtEveryEnd}
use Rattle.run_rules.specs.Letters.{FrameWorld}
use Rattle.run_rules.specs.Plain.{IsHistory}
use Rattle.run_rules.specs.Values.{key_at, root_at}
use Rattle.run_rules.proofs.EveryEnd.{history_at_every_end}
use Rattle.run_laws.specs.Draws.{AreApart, Drawn, DrawsAreApart, HelpersDraw, IsDrawnAs, IsDrawnIn, Key, LeadersDraw, Slice, Word, bytes_of_slice}

-- ---- counts of the draws before a place

counts : {X : Type 0} (p : X → Bool) (xs : List X) (i k : ℕ) (x : X) → i < k → slice_get xs i ≡ Some x → p x ≡ true
    → length (filter p (take i xs)) < length (filter p (take k xs))
counts p [] i k x less at drawn = absurd (cc at)
counts p (y ∷ xs) i zero x less at drawn = absurd (omega (arith, less))
counts {X} p (y ∷ xs) zero (suc k) x less at drawn =
    let here : p y ≡ true = ap p (some_is y x at) ∙ drawn in
    rw here (omega arith)
  where
    some_is : (y x : X) → Some y ≡ Some x → y ≡ x
    some_is y x e = cc e
counts p (y ∷ xs) (suc i) (suc k) x less at drawn =
    by_first (p y) (counts p xs i k x (omega (arith, less)) at drawn)
  where
    by_first : (t : Bool) → length (filter p (take i xs)) < length (filter p (take k xs))
        → length (cond t (y ∷ filter p (take i xs)) (filter p (take i xs))) < length (cond t (y ∷ filter p (take k xs)) (filter p (take k xs)))
    by_first true h = omega (arith, h)
    by_first false h = h

-- two places that draw have distinct counts
distinct : {X : Type 0} (p : X → Bool) (xs : List X) (i k : ℕ) (x y : X) → i ≢ k → slice_get xs i ≡ Some x → p x ≡ true
    → slice_get xs k ≡ Some y → p y ≡ true → length (filter p (take i xs)) ≢ length (filter p (take k xs))
distinct p xs i k x y other at drawn there too same = elim (cases_lt i k) [
  | inl less ↦ let n = counts p xs i k x less at drawn in omega (arith, n, same)
  | inr most ↦
      let more : k < i = elim (cases_eq i k) [ inl e ↦ absurd (other e) | inr n ↦ omega (arith, most, n) ] in
      let n = counts p xs k i y more there too in
      omega (arith, n, same)
]

-- ---- a run

module _ (b : Book) (h : IsHistory b) where
  slice_of : Drawn → Slice
  slice_of (Word c serial k) = record { key = c + 1; stream = serial; from = 16 * k; size = 16 }
  slice_of (Key c serial server) = record { key = c + 1; stream = serial; from = 32 * server; size = 32 }
  slice_of (LeadersDraw i) = record { key = 0; stream = drawn_in (take i b.commands); from = 0; size = 32 }
  slice_of (HelpersDraw i) = record { key = 257; stream = begun_in (take i b.entries); from = 0; size = 32 }

  drawn_as : (x : Drawn) → IsDrawnIn b x → IsDrawnAs b x (bytes_of_slice b.seed (slice_of x))
  unfolding slice_of
  drawn_as (Word c serial k) d =
      let honest = h.asked c serial _ d.2.2 in
      (word_is (client_at b c serial) k d.0, λ low. rw honest refl)
  drawn_as (Key c serial server) d =
      let honest = h.asked c serial _ d.2.1 in
      rw honest refl
  drawn_as (LeadersDraw i) d = refl
  drawn_as (HelpersDraw i) d = refl

  lanes : b.settings.lanes ≤ 256
  lanes = h.sound.limits.2.1

  clients_apart : (c d s t n m x y : ℕ) → (c ≡ d → s ≡ t → (n + x ≤ m) ⊎ (m + y ≤ n))
      → AreApart (record { key = c + 1; stream = s; from = n; size = x }) (record { key = d + 1; stream = t; from = m; size = y })
  clients_apart c d s t n m x y ranges = elim (cases_eq c d) [
    | inr other ↦ inl (λ e. other (omega (arith, e)))
    | inl same ↦ elim (cases_eq s t) [
      | inr other ↦ inr (inl other)
      | inl too ↦ elim (ranges same too) [ inl before ↦ inr (inr (inl before)) | inr behind ↦ inr (inr (inr behind)) ]
    ]
  ]

  words_apart : (c d s t n m : ℕ) → Word c s n ≢ Word d t m → c ≡ d → s ≡ t → (16 * n + 16 ≤ 16 * m) ⊎ (16 * m + 16 ≤ 16 * n)
  words_apart c d s t n m other same too = elim (cases_lt n m) [
    | inl less ↦ inl (omega (arith, less))
    | inr most ↦ elim (cases_eq n m) [ inl e ↦ absurd (other (cc (same, too, e))) | inr ne ↦ inr (omega (arith, most, ne)) ]
  ]

  keys_apart : (c d s t n m : ℕ) → Key c s n ≢ Key d t m → c ≡ d → s ≡ t → (32 * n + 32 ≤ 32 * m) ⊎ (32 * m + 32 ≤ 32 * n)
  keys_apart c d s t n m other same too = elim (cases_lt n m) [
    | inl less ↦ inl (omega (arith, less))
    | inr most ↦ elim (cases_eq n m) [ inl e ↦ absurd (other (cc (same, too, e))) | inr ne ↦ inr (omega (arith, most, ne)) ]
  ]

  -- a request is no write and a register
  one_kind : (c d s t : ℕ) → ((target : ℕ) × (message : List ℕ) × (request_of b c s ≡ Some (Write target message)))
      → ((address : ℕ) × (request_of b d t ≡ Some (Register address))) → c ≡ d → s ≡ t → ⊥
  one_kind c d s t w r same too =
      let one : request_of b c s ≡ Some (Write w.0 w.1) = w.2 in
      let two : request_of b c s ≡ Some (Register r.0) = subst (λ e. request_of b e s ≡ Some (Register r.0)) (sym same) (subst (λ u. request_of b d u ≡ Some (Register r.0)) (sym too) r.1) in
      cc (one, two)

  apart : (x y : Drawn) → x ≢ y → IsDrawnIn b x → IsDrawnIn b y → AreApart (slice_of x) (slice_of y)
  unfolding slice_of
  apart (Word c s n) (Word d t m) other one two = clients_apart c d s t _ _ _ _ (words_apart c d s t n m other)
  apart (Key c s n) (Key d t m) other one two = clients_apart c d s t _ _ _ _ (keys_apart c d s t n m other)
  apart (Word c s n) (Key d t m) other one two = clients_apart c d s t _ _ _ _ (λ e u. absurd (one_kind c d s t one.2 two.2 e u))
  apart (Key c s n) (Word d t m) other one two = clients_apart c d s t _ _ _ _ (λ e u. absurd (one_kind d c t s two.2 one.2 (sym e) (sym u)))
  apart (LeadersDraw i) (LeadersDraw k) other one two =
      inr (inl (distinct (λ x. is_drawn x) b.commands i k one.0 two.0 (λ e. other (ap (λ n. LeadersDraw n) e)) one.1 one.2 two.1 two.2))
  apart (HelpersDraw i) (HelpersDraw k) other one two =
      inr (inl (distinct (λ e. has_begun e.does) b.entries i k one.0 two.0 (λ e. other (ap (λ n. HelpersDraw n) e)) one.1 one.2 two.1 two.2))
  apart (LeadersDraw i) (HelpersDraw k) other one two = inl (λ e. omega (arith, e))
  apart (HelpersDraw i) (LeadersDraw k) other one two = inl (λ e. omega (arith, e))
  apart (LeadersDraw i) (Word d t m) other one two = inl (λ e. omega (arith, e))
  apart (LeadersDraw i) (Key d t m) other one two = inl (λ e. omega (arith, e))
  apart (Word c s n) (LeadersDraw k) other one two = inl (λ e. omega (arith, e))
  apart (Key c s n) (LeadersDraw k) other one two = inl (λ e. omega (arith, e))
  apart (HelpersDraw i) (Word d t m) other one two = let low = two.1 in let most = lanes in inl (λ e. omega (arith, e, low, most))
  apart (HelpersDraw i) (Key d t m) other one two = let low = two.1 in let most = lanes in inl (λ e. omega (arith, e, low, most))
  apart (Word c s n) (HelpersDraw k) other one two = let low = one.1 in let most = lanes in inl (λ e. omega (arith, e, low, most))
  apart (Key c s n) (HelpersDraw k) other one two = let low = one.1 in let most = lanes in inl (λ e. omega (arith, e, low, most))

  pub draws_apart : (f : FrameWorld) (w : World) → DrawsAreApart b f w
  draws_apart f w = record { slice = slice_of; is = drawn_as; apart = apart }

pub draws_at_every_end : AtEveryEnd DrawsAreApart
draws_at_every_end settings seed foreign events limits fit few =
    draws_apart (history_of settings seed foreign (ended_of settings seed foreign events))
    (history_at_every_end settings seed foreign events limits fit few) _ _
