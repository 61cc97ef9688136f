-- What two histories of schedules that are alike but for aims agree on, of their foreign lanes.
use Rattle.std.proofs.Common.{◌≡◌, ◌∙◌, ◌<◌, ◌≤◌, ◌⊎◌, ℕ, zero, suc, true, List, [], ◌∷◌, length, map, take, Some, slice_get, refl, sym, ap, ap₂, arith, inl, inr}
use Rattle.std.proofs.lemmas.Bool.{cases_Bool}
use Rattle.dpf_rules.specs.Expansion.{draw32}
use Rattle.frame_rules.specs.Frames as frame
use Rattle.frame_rules.specs.Frames.{PlainBody}
use Rattle.mailbox_rules.specs.Requests.{AddBox, Audits, Begins, Command, Entry, Line, Operation, Reads, Refuse, Registers, Request, Retires, Settles}
use Rattle.mailbox_rules.specs.Tables as tables
use Rattle.mailbox_rules.specs.Tables.{Mailbox, no_writes, table_after}
use Rattle.mailbox_rules.proofs.Outlines.{outlines_agree}
use Rattle.mailbox_rules.proofs.Owners.{boxes_are_registered}
use Rattle.token_rules.proofs.Lists.{get_taken}
use Rattle.step_rules.specs.Boxes.{Box}
use Rattle.run_rules.specs.Letters.{leader_seed}
use Rattle.run_rules.specs.Book.{Book, Brought, drawn_in, leaders_draw, table_at}
use Rattle.run_rules.specs.Values.{boxes_at, box_at, closing_at, key_at, opened_at, part_at, shares_at, sigma_at, writes_at}
use Rattle.run_rules.specs.Follows.{ForeignOrder, does_by}
use Rattle.run_hiding.proofs.LikeBoxes.{bares}

-- the command of the leader, by what its lane brought
abbrev pub order_for : Book → ℕ → ℕ → ℕ → Command → PlainBody
order_for b k c s Registers = frame.LinkRegister (b.brought.address c s)
order_for b k c s Begins = frame.LinkBegin (leaders_draw b k) (part_at b c s)
order_for b k c s Audits = frame.LinkAudit (sigma_at b c s) (opened_at b 0 c s)
order_for b k c s Settles = frame.LinkSettle (closing_at b 0 c s)
order_for b k c s Reads = frame.LinkRead (b.brought.number c s)
order_for b k c s Retires = frame.LinkRetire (b.brought.number c s)

pub order_is : (b : Book) (k : ℕ) (x : Line) (body : PlainBody) → ForeignOrder b k x body → body ≡ order_for b k x.lane x.serial x.command
order_is b k x (frame.LinkRegister address) h = ap (λ a. frame.LinkRegister a) h.1 ∙ ap (λ y. order_for b k x.lane x.serial y) (sym h.0)
order_is b k x (frame.LinkBegin drawn part) h = ap₂ (λ a p. frame.LinkBegin a p) h.1 h.2 ∙ ap (λ y. order_for b k x.lane x.serial y) (sym h.0)
order_is b k x (frame.LinkAudit sigma opened) h = ap₂ (λ a p. frame.LinkAudit a p) h.1 h.2 ∙ ap (λ y. order_for b k x.lane x.serial y) (sym h.0)
order_is b k x (frame.LinkSettle closing) h = ap (λ a. frame.LinkSettle a) h.1 ∙ ap (λ y. order_for b k x.lane x.serial y) (sym h.0)
order_is b k x (frame.LinkRead n) h = ap (λ a. frame.LinkRead a) h.1 ∙ ap (λ y. order_for b k x.lane x.serial y) (sym h.0)
order_is b k x (frame.LinkRetire n) h = ap (λ a. frame.LinkRetire a) h.1 ∙ ap (λ y. order_for b k x.lane x.serial y) (sym h.0)
order_is b k x body h = absurd h

-- only a register adds a box
adds_box : (x : Brought) (c s address : ℕ) (y : Command) → AddBox address ≡ does_by x c s y → y ≡ Registers
adds_box x c s address Registers e = refl
adds_box x c s address Begins e = absurd (cc e)
adds_box x c s address Audits e = absurd (cc e)
adds_box x c s address Settles e = absurd (cc e)
adds_box x c s address Reads e = absurd (cc e)
adds_box x c s address Retires e = absurd (cc e)

pub is_register : (x : Brought) (c s address : ℕ) (does : Operation) (y : Command) → does ≡ AddBox address → (does ≡ Refuse) ⊎ (does ≡ does_by x c s y) → y ≡ Registers
is_register x c s address does y is (inl none) = absurd (let never : AddBox address ≡ Refuse = sym is ∙ none in cc never)
is_register x c s address does y is (inr same) = adds_box x c s address y (sym is ∙ same)

pub take_taken : {X : Type 0} (i n : ℕ) (xs : List X) → i ≤ n → take i (take n xs) ≡ take i xs
take_taken zero n xs h = refl
take_taken (suc i) zero xs h = absurd (omega (arith, h))
take_taken (suc i) (suc n) [] h = refl
take_taken (suc i) (suc n) (x ∷ xs) h = ap (λ l. x ∷ l) (take_taken i n xs (omega (arith, h)))

-- a part of two lists that begin alike
pub same_front : {X : Type 0} (i : ℕ) (xs ys zs : List X) → i ≤ length zs → zs ≡ take (length zs) xs → zs ≡ take (length zs) ys → take i xs ≡ take i ys
same_front i xs ys zs low one two =
    sym (take_taken i (length zs) xs low) ∙ ap (λ l. take i l) (sym one ∙ two) ∙ take_taken i (length zs) ys low

module _ (b : Book) (sent : ℕ → List Request) (commands : List Line) (entries : List Entry) (brought : Brought) where
  abbrev d : Book
  d = record b { sent = sent; commands = commands; entries = entries; brought = brought }

  -- what a command of the leader for a foreign lane rests on
  abbrev pub SameFor : ℕ → ℕ → ℕ → Command → Type 0
  SameFor k c s Registers = (d.brought.address c s ≡ b.brought.address c s) × (key_at d 0 c s ≡ key_at b 0 c s)
  SameFor k c s Begins = (leaders_draw d k ≡ leaders_draw b k) × (part_at d c s ≡ part_at b c s)
  SameFor k c s Audits = (sigma_at d c s ≡ sigma_at b c s) × (opened_at d 0 c s ≡ opened_at b 0 c s)
  SameFor k c s Settles = closing_at d 0 c s ≡ closing_at b 0 c s
  SameFor k c s Reads = d.brought.number c s ≡ b.brought.number c s
  SameFor k c s Retires = d.brought.number c s ≡ b.brought.number c s

  same_orders : (k c s : ℕ) (y : Command) → SameFor k c s y → order_for d k c s y ≡ order_for b k c s y
  same_orders k c s Registers h = ap (λ a. frame.LinkRegister a) h.0
  same_orders k c s Begins h = ap₂ (λ a p. frame.LinkBegin a p) h.0 h.1
  same_orders k c s Audits h = ap₂ (λ a p. frame.LinkAudit a p) h.0 h.1
  same_orders k c s Settles h = ap (λ a. frame.LinkSettle a) h
  same_orders k c s Reads h = ap (λ a. frame.LinkRead a) h
  same_orders k c s Retires h = ap (λ a. frame.LinkRetire a) h

  pub one_order : (k : ℕ) (x : Line) (body other : PlainBody) → SameFor k x.lane x.serial x.command → ForeignOrder b k x body → ForeignOrder d k x other → other ≡ body
  one_order k x body other same h g = order_is d k x other g ∙ same_orders k x.lane x.serial x.command same ∙ sym (order_is b k x body h)

  pub same_draw : (k : ℕ) → take k commands ≡ take k b.commands → leaders_draw d k ≡ leaders_draw b k
  same_draw k e = ap (λ cs. draw32 (leader_seed b.seed) (drawn_in cs)) e

  -- ---- boxes

  outlined : Book → ℕ → Mailbox → Box
  outlined x server m = record { address = m.address; key = key_at x server m.lane m.serial; share = []; live = m.live }

  bare_is : (x : Book) (server : ℕ) (ms : List Mailbox) → bares (map (λ m. box_at x server m) ms) ≡ map (λ m. outlined x server m) (map (λ m. tables.bare m) ms)
  unfolding outlined
  bare_is x server [] = refl
  bare_is x server (m ∷ ms) = ap (λ l. outlined x server m ∷ l) (bare_is x server ms)

  bare_again : (x : Book) (server : ℕ) (ms : List Mailbox) → map (λ m. outlined x server m) (map (λ m. tables.bare m) ms) ≡ map (λ m. outlined x server m) ms
  unfolding outlined
  bare_again x server [] = refl
  bare_again x server (m ∷ ms) = ap (λ l. outlined x server m ∷ l) (bare_again x server ms)

  outlines : (x : Book) (server i : ℕ) → bares (boxes_at x server i) ≡ map (λ m. outlined x server m) (table_at x i).boxes
  unfolding shares_at
  outlines x server i =
      bare_is x server (shares_at x server i).boxes
      ∙ ap (λ (t : tables.Table). map (λ m. outlined x server m) t.boxes)
      (outlines_agree x.settings.boxes x.settings.width x.settings.width no_writes (writes_at x server) (take i x.entries))
      ∙ bare_again x server (table_at x i).boxes

  abbrev Keys : ℕ → List Mailbox → Type 0
  Keys server ms = (n : ℕ) (m : Mailbox) → slice_get ms n ≡ Some m → key_at d server m.lane m.serial ≡ key_at b server m.lane m.serial

  same_outlines : (server : ℕ) (ms : List Mailbox) → Keys server ms → map (λ m. outlined d server m) ms ≡ map (λ m. outlined b server m) ms
  unfolding outlined
  same_outlines server [] keys = refl
  same_outlines server (m ∷ ms) keys =
      ap₂ (λ (k : List ℕ) (l : List Box). (record { address = m.address; key = k; share = []; live = m.live }) ∷ l) (keys 0 m refl)
      (same_outlines server ms (λ n. keys (suc n)))

  pub same_boxes : (server i : ℕ) → take i entries ≡ take i b.entries → Keys server (table_at b i).boxes
      → bares (boxes_at d server i) ≡ bares (boxes_at b server i)
  same_boxes server i front keys =
      outlines d server i
      ∙ ap (λ es. map (λ m. outlined d server m) (table_after b.settings.boxes b.settings.width no_writes es).boxes) front
      ∙ same_outlines server (table_at b i).boxes keys ∙ sym (outlines b server i)

  -- a client's key is its own; a foreign box stands by an entry
  pub same_keys : (server i : ℕ) → ((k : ℕ) (e : Entry) (address : ℕ) → slice_get b.entries k ≡ Some e → k < i → b.foreign e.line.lane ≡ true → e.does ≡ AddBox address
      → key_at d server e.line.lane e.line.serial ≡ key_at b server e.line.lane e.line.serial) → Keys server (table_at b i).boxes
  same_keys server i came n m is =
      let r = boxes_are_registered b.settings.boxes b.settings.width no_writes (take i b.entries) n m is in
      let at = get_taken b.entries i r.place _ r.is in
      elim (cases_Bool (b.foreign m.lane)) [
        | inl foreign ↦ came r.place _ m.address at.1 at.0 foreign refl
        | inr honest ↦ rw honest refl
      ]
