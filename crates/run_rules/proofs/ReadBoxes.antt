-- The box of a number in the tables of a run and at both servers: it keeps the lane and serial that registered it.
use Rattle.std.proofs.Common.{◌≡◌, ◌∙◌, ◌≤◌, ℕ, zero, suc, false, List, [], ◌∷◌, ◌++◌, length, map, take, drop, Option, Some, None, slice_get, option_map, refl, sym, ap, subst, arith}
use Rattle.std.proofs.lemmas.Option.{slice_get-map}
use Rattle.std.proofs.lemmas.List.{take-append-drop}
use Rattle.dpf_rules.specs.Expansion.{owner_key}
use Rattle.mailbox_rules.specs.Requests.{Entry}
use Rattle.mailbox_rules.specs.Tables.{Mailbox, bare, no_writes, table_after}
use Rattle.mailbox_rules.specs.Owned.{StillThere}
use Rattle.mailbox_rules.proofs.Keepers.{owners_stay}
use Rattle.mailbox_rules.proofs.Outlines.{outlines_agree}
use Rattle.mailbox_rules.proofs.Owners.{got_stays}
use Rattle.token_rules.specs.Tokens.{World}
use Rattle.token_rules.specs.Laws as laws
use Rattle.step_rules.specs.Client.{Owned}
use Rattle.run_rules.specs.Letters.{client_seed}
use Rattle.run_rules.specs.Book.{Book, all_boxes, owned_box, serial_of, table_at}
use Rattle.run_rules.specs.Values.{box_at, boxes_at, key_at, shares_at, writes_at}
use Rattle.run_rules.specs.Known.{Known}

-- ---- tables of the run are those of the history

pub limit_is : (b : Book) (v w : World) → Known b v w → w.limit ≡ b.settings.boxes
limit_is b v w k = sym k.since.limit ∙ k.whole.limit

pub width_is : (b : Book) (v w : World) → Known b v w → w.width ≡ b.settings.width
width_is b v w k = sym k.since.width ∙ k.whole.width

same_table : (a e d f : ℕ) (xs ys : List Entry) → a ≡ e → d ≡ f → xs ≡ ys
    → table_after a d no_writes xs ≡ table_after e f no_writes ys
same_table a e d f xs ys k l m = rw (k, l, m) refl

take_taken : {X : Type 0} (i n : ℕ) (xs : List X) → i ≤ n → take i (take n xs) ≡ take i xs
take_taken zero n xs h = refl
take_taken (suc i) zero xs h = absurd (omega (arith, h))
take_taken (suc i) (suc n) [] h = refl
take_taken (suc i) (suc n) (x ∷ xs) h = ap (λ l. x ∷ l) (take_taken i n xs (omega (arith, h)))

pub table_in : (b : Book) (v w : World) (i : ℕ) → Known b v w → i ≤ length w.journal
    → laws.table_at w i ≡ table_at b i
table_in b v w i k few =
    same_table w.limit b.settings.boxes w.width b.settings.width (take i w.journal) (take i b.entries) (limit_is b v w k) (width_is b v w k)
    (ap (take i) k.within.journal ∙ take_taken i (length w.journal) b.entries few)

pub table_now : (b : Book) (v w : World) → Known b v w → w.table ≡ table_at b (length w.journal)
table_now b v w k =
    k.lawful.table ∙ same_table w.limit b.settings.boxes w.width b.settings.width w.journal (take (length w.journal) b.entries) (limit_is b v w k) (width_is b v w k) k.within.journal

-- ---- a box stays

take_whole : {X : Type 0} (xs : List X) → take (length xs) xs ≡ xs
take_whole [] = refl
take_whole (x ∷ xs) = ap (λ l. x ∷ l) (take_whole xs)

pub later_box : (b : Book) (i n : ℕ) (x : Mailbox) → slice_get (table_at b i).boxes n ≡ Some x
    → StillThere (table_at b (length b.entries)) n x
later_box b i n x e =
    subst (λ es. StillThere (table_after b.settings.boxes b.settings.width no_writes es) n x) (take-append-drop i b.entries ∙ sym (take_whole b.entries))
    (owners_stay b.settings.boxes b.settings.width no_writes (take i b.entries) (drop i b.entries) n x e)

abbrev key_of : Book → ℕ → ℕ → ℕ → List ℕ
key_of b c serial server = owner_key (client_seed b.seed c) serial server

-- so a client's keys of it are those of the servers
pub record OwnKeys (b : Book) (c : ℕ) (own : Owned) (x : Mailbox) : Type 0 where
  pub zero : own.key0 ≡ key_at b 0 x.lane x.serial
  pub one : own.key1 ≡ key_at b 1 x.lane x.serial

pub own_keys : (b : Book) (c i n : ℕ) (x : Mailbox) → b.foreign c ≡ false
    → slice_get (table_at b i).boxes n ≡ Some x → x.lane ≡ c → OwnKeys b c (owned_box b c n) x
own_keys b c i n x hon e lane =
    let y = later_box b i n x e in
    let serial : serial_of (slice_get (all_boxes b) n) ≡ x.serial = ap serial_of y.is ∙ y.serial in
    let hon_x : b.foreign x.lane ≡ false = ap b.foreign lane ∙ hon in
    record {
      zero = rw hon_x (ap (λ s. key_of b c s 0) serial ∙ ap (λ d. key_of b d x.serial 0) (sym lane));
      one = rw hon_x (ap (λ s. key_of b c s 1) serial ∙ ap (λ d. key_of b d x.serial 1) (sym lane));
    }

-- ---- the box at a server

pub record ShareBox (b : Book) (server i n : ℕ) (x : Mailbox) : Type 0 where
  pub box : Mailbox
  pub is : slice_get (shares_at b server i).boxes n ≡ Some box
  pub bare_is : bare box ≡ bare x
  pub held : slice_get (boxes_at b server i) n ≡ Some (box_at b server box)

pub bare_get : (xs ys : List Mailbox) (n : ℕ) (x : Mailbox) → map (λ m. bare m) xs ≡ map (λ m. bare m) ys
    → slice_get ys n ≡ Some x → (y : Mailbox) × ((slice_get xs n ≡ Some y) × (bare y ≡ bare x))
bare_get xs ys n x e is =
    at_found (slice_get xs n) refl (sym (slice_get-map (λ m. bare m) xs n) ∙ ap (λ l. slice_get l n) e ∙ slice_get-map (λ m. bare m) ys n ∙ ap (option_map (λ m. bare m)) is)
  where
    at_found : (found : Option Mailbox) → slice_get xs n ≡ found → option_map (λ m. bare m) found ≡ Some (bare x)
        → (y : Mailbox) × ((slice_get xs n ≡ Some y) × (bare y ≡ bare x))
    at_found (Some y) f g = (y, (f, cc))
    at_found None f g = absurd (cc g)

pub share_box : (b : Book) (server i n : ℕ) (x : Mailbox) → slice_get (table_at b i).boxes n ≡ Some x
    → ShareBox b server i n x
unfolding shares_at
share_box b server i n x e =
    let out = outlines_agree b.settings.boxes b.settings.width b.settings.width no_writes (writes_at b server) (take i b.entries) in
    let r = bare_get (shares_at b server i).boxes (table_at b i).boxes n x (ap (λ t. t.boxes) out) e in
    record {
      box = r.0;
      is = r.1.0;
      bare_is = r.1.1;
      held = slice_get-map (λ m. box_at b server m) (shares_at b server i).boxes n ∙ ap (option_map (λ m. box_at b server m)) r.1.0;
    }

-- ---- what a lane got stays

pub later_got : (b : Book) (i j c k n : ℕ) → i ≤ j → slice_get ((table_at b i).got c) k ≡ Some n
    → slice_get ((table_at b j).got c) k ≡ Some n
later_got b i j c k n few e =
    let front : take i (take j b.entries) ≡ take i b.entries = take_taken i j b.entries few in
    subst (λ es. slice_get ((table_after b.settings.boxes b.settings.width no_writes es).got c) k ≡ Some n)
    (ap (λ es. es ++ drop i (take j b.entries)) (sym front) ∙ take-append-drop i (take j b.entries))
    (got_stays b.settings.boxes b.settings.width no_writes (take i b.entries) (drop i (take j b.entries)) c k n e)
