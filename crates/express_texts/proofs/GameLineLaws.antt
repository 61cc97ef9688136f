-- A line of a game is read exactly where it spells what it should.
use Rattle.std.proofs.Common.{◌≡◌, ℕ, ◌<◌, ◌≤◌, ◌==◌, ◌%◌, inl, inr, nat_eq, nat_lt, not, Bool, true, false, List, [], ◌++◌, length, take, Contains, Option, Some, None, codes, arith, refl, sym, ◌∙◌, ap, subst, append-nil}
use Rattle.std.specs.Fmt.{decimal}
use Rattle.std.proofs.lemmas.Bool.{eqb-true}
use Rattle.std.proofs.lemmas.List.Folds.{Any-from_list_any, list_any_at}
use Rattle.express_texts.specs.declared.cloak.AimText.{AimText}
use Rattle.express_texts.specs.declared.cloak.GameHeader.{GameHeader}
use Rattle.express_texts.specs.LineFields.{after, end, word_at, seed_of, message_of, wanted}
use Rattle.express_texts.specs.Numbers.{number_at}
use Rattle.express_texts.specs.WordSpelling.{SpellsWord}
use Rattle.express_texts.proofs.FieldLaws.{bind_some, after_found, after_only, seed_found, seed_only, word_at_found, word_at_only, wanted_found, message_found, message_only}
use Rattle.express_texts.proofs.NumberLaws.{number_found, number_only}
use Rattle.express_texts.specs.Fields.{value_line, key_line}
use Rattle.express_texts.specs.Games.{game_header_of, target_at, aim_of, is_among, address_behind, most_addresses}
use Rattle.express_texts.specs.GameSpelling.{SpellsGameHeader, SpellsValueLine, SpellsKeyLine, SpellsAim, IsBadAddress}
use Rattle.express_texts.proofs.PairLaws.{end_is}

some_is : {A : Type 0} (x y : A) → Some x ≡ Some y → x ≡ y
some_is x y h = cc

-- ---- a word and a value

pub value_found : (word line : List ℕ) (value : ℕ) → value_line word line ≡ Some value → SpellsValueLine word value line
unfolding value_line
value_found word line value h =
    let rest = bind_some (after word line) _ value h in
    let read = bind_some (word_at rest.0) _ value rest.2 in
    let stop = bind_some (end read.0.1) _ value read.2 in
    let is : read.0.0 ≡ value = some_is _ _ stop.2 in
    let found = word_at_found rest.0 read.0 read.1 in
    let digits : List ℕ = take 32 rest.0 in
    let whole : rest.0 ≡ digits = found.1 ∙ ap (λ (t : List ℕ). digits ++ t) (end_is read.0.1 stop.0 stop.1) ∙ append-nil digits in
    (digits, subst (λ (n : ℕ). SpellsWord n digits) is found.0, after_found word line rest.0 rest.1 ∙ ap (λ (t : List ℕ). word ++ t) whole)

pub value_only : (word line : List ℕ) (value : ℕ) → SpellsValueLine word value line → value_line word line ≡ Some value
unfolding value_line
value_only word line value h =
    let read : word_at h.0 ≡ Some (value, []) = ap word_at (sym (append-nil h.0)) ∙ word_at_only h.0 [] value h.1 in
    rw (h.2, after_only word h.0, read) refl

pub key_found : (word line key : List ℕ) → key_line word line ≡ Some key → SpellsKeyLine word key line
unfolding key_line
key_found word line key h =
    let a = bind_some (after word line) seed_of key h in
    (a.0, seed_found a.0 key a.2, after_found word line a.0 a.1)

pub key_only : (word line key : List ℕ) → SpellsKeyLine word key line → key_line word line ≡ Some key
unfolding key_line
key_only word line key h = rw (h.2, after_only word h.0) (seed_only h.0 key h.1)

-- ---- the header

pub game_header_found : (line : List ℕ) (header : GameHeader) → game_header_of line ≡ Some header → SpellsGameHeader header line
unfolding game_header_of
game_header_found line header h =
    let a = bind_some (after (codes "cloak 1 ") line) _ header h in
    let viewer = bind_some (number_at 0 1 a.0) _ header a.2 in
    let b = bind_some (after (codes " ") viewer.0.1) _ header viewer.2 in
    let width = bind_some (number_at 16 4096 b.0) _ header b.2 in
    let sixteen = bind_some (wanted (width.0.0 % 16 == 0)) _ header width.2 in
    let d = bind_some (after (codes " ") width.0.1) _ header sixteen.2 in
    let seed = bind_some (seed_of d.0) _ header d.2 in
    let found : GameHeader = record { viewer = viewer.0.0; width = width.0.0; seed = seed.0 } in
    let is : found ≡ header = some_is found header seed.2 in
    let v = number_found 0 1 a.0 viewer.0 (omega arith) viewer.1 in
    let w = number_found 16 4096 b.0 width.0 (omega arith) width.1 in
    let whole : line ≡ codes "cloak 1 " ++ (decimal viewer.0.0 ++ (codes " " ++ (decimal width.0.0 ++ (codes " " ++ d.0)))) =
    after_found (codes "cloak 1 ") line a.0 a.1
    ∙ ap (λ (t : List ℕ). codes "cloak 1 " ++ t) (v.text
    ∙ ap (λ (t : List ℕ). decimal viewer.0.0 ++ t) (after_found (codes " ") viewer.0.1 b.0 b.1
    ∙ ap (λ (t : List ℕ). codes " " ++ t) (w.text
    ∙ ap (λ (t : List ℕ). decimal width.0.0 ++ t) (after_found (codes " ") width.0.1 d.0 d.1)))) in
    subst (λ (q : GameHeader). SpellsGameHeader q line) {x = found} is (record {
      viewer = v.at_most;
      least = w.at_least;
      most = w.at_most;
      sixteens = eqb-true _ _ (wanted_found _ _ sixteen.1);
      digits = d.0;
      seed = seed_found d.0 seed.0 seed.1;
      line_is = whole;
    })

pub game_header_only : (line : List ℕ) (header : GameHeader) → SpellsGameHeader header line → game_header_of line ≡ Some header
unfolding game_header_of
game_header_only line header h =
    let sixteen : nat_eq (header.width % 16) 0 ≡ true = rw h.sixteens refl in
    let tail1 = codes " " ++ h.digits in
    let tail2 = codes " " ++ (decimal header.width ++ tail1) in
    rw (
      h.line_is,
      after_only (codes "cloak 1 ") (decimal header.viewer ++ tail2),
      number_only 0 1 header.viewer tail2 (omega arith) (omega arith) h.viewer refl,
      after_only (codes " ") (decimal header.width ++ tail1),
      number_only 16 4096 header.width tail1 (omega arith) h.least h.most refl,
      sixteen,
      after_only (codes " ") h.digits,
      seed_only h.digits header.seed h.seed,
    ) refl

-- ---- an aim

target_found : (word line : List ℕ) (found : ℕ × List ℕ) → target_at word line ≡ Some found
    → (digits : List ℕ) × SpellsWord found.0 digits × (line ≡ word ++ (digits ++ (codes " " ++ found.1)))
unfolding target_at
target_found word line found h =
    let rest = bind_some (after word line) _ found h in
    let read = bind_some (word_at rest.0) _ found rest.2 in
    let gap = bind_some (after (codes " ") read.0.1) _ found read.2 in
    let is : (read.0.0, gap.0) ≡ found = some_is _ _ gap.2 in
    let address = word_at_found rest.0 read.0 read.1 in
    let digits : List ℕ = take 32 rest.0 in
    let whole : line ≡ word ++ (digits ++ (codes " " ++ gap.0)) =
    after_found word line rest.0 rest.1 ∙ ap (λ (t : List ℕ). word ++ t) (address.1 ∙ ap (λ (t : List ℕ). digits ++ t) (after_found (codes " ") read.0.1 gap.0 gap.1)) in
    subst (λ (f : ℕ × List ℕ). (digits : List ℕ) × SpellsWord f.0 digits × (line ≡ word ++ (digits ++ (codes " " ++ f.1)))) is (digits, address.0, whole)

target_only : (word digits rest : List ℕ) (address : ℕ) → SpellsWord address digits → target_at word (word ++ (digits ++ (codes " " ++ rest))) ≡ Some (address, rest)
unfolding target_at
target_only word digits rest address h = rw (after_only word (digits ++ (codes " " ++ rest)), word_at_only digits (codes " " ++ rest) address h, after_only (codes " ") rest) refl

pub aim_found : (word : List ℕ) (width : ℕ) (line : List ℕ) (aim : AimText) → aim_of word width line ≡ Some aim → SpellsAim word width aim line
unfolding aim_of
aim_found word width line aim h =
    let target = bind_some (target_at word line) _ aim h in
    let message = bind_some (message_of width target.0.1) _ aim target.2 in
    let found : AimText = record { address = target.0.0; message = message.0 } in
    let is : found ≡ aim = some_is found aim message.2 in
    let front = target_found word line target.0 target.1 in
    subst (λ (a : AimText). SpellsAim word width a line) {x = found} is (record {
      address = front.0;
      message = target.0.1;
      address_spelled = front.1;
      message_spelled = message_found width target.0.1 message.0 message.1;
      line_is = front.2;
    })

pub aim_only : (word : List ℕ) (width : ℕ) (line : List ℕ) (aim : AimText) → SpellsAim word width aim line → aim_of word width line ≡ Some aim
unfolding aim_of
aim_only word width line aim h =
    rw (h.line_is, target_only word h.address h.message aim.address h.address_spelled, message_only width h.message aim.message h.message_spelled) refl

-- ---- an address behind others

pub among_found : (a : ℕ) (xs : List ℕ) → is_among a xs ≡ true → Contains xs a
among_found a xs h =
    let any = Any-from_list_any (λ x. x == a) xs h in
    let is : any.1 ≡ a = eqb-true any.1 a any.4 in
    subst (λ (x : ℕ). Contains xs x) is (any.0, any.2, any.3)

pub among_only : (a : ℕ) (xs : List ℕ) → Contains xs a → is_among a xs ≡ true
among_only a xs h = let same : nat_eq a a ≡ true = grind arith in list_any_at (λ x. x == a) xs h.0 a h.1 (rw h.2 same)

pub not_among : (a : ℕ) (xs : List ℕ) → (Contains xs a → ⊥) → is_among a xs ≡ false
not_among a xs none = at_test (is_among a xs) refl
  where
    at_test : (t : Bool) → is_among a xs ≡ t → t ≡ false
    at_test true e = absurd (none (among_found a xs e))
    at_test false e = refl

pub among_false : (a : ℕ) (xs : List ℕ) → is_among a xs ≡ false → Contains xs a → ⊥
among_false a xs none h = let some = among_only a xs h in cc

-- what is known of an address that is read behind others
pub record Behind (before : List ℕ) (line : List ℕ) (a : ℕ) : Type 0 where
  pub room : length before < most_addresses
  pub spelled : SpellsValueLine (codes "address ") a line
  pub new : Contains before a → ⊥

not_true : (t : Bool) → not t ≡ true → t ≡ false
not_true true h = cc
not_true false h = refl

lt_true : (m n : ℕ) → nat_lt m n ≡ true → m < n
lt_true m n h = grind arith

lt_false : (m n : ℕ) → nat_lt m n ≡ false → m < n → ⊥
lt_false m n h k = grind arith

pub behind_found : (before line : List ℕ) (a : ℕ) → address_behind before line ≡ Some a → Behind before line a
unfolding address_behind
behind_found before line a h =
    let room = bind_some (wanted (nat_lt (length before) most_addresses)) _ a h in
    let read = bind_some (value_line (codes "address ") line) _ a room.2 in
    let new = bind_some (wanted (not (is_among read.0 before))) _ a read.2 in
    let is : read.0 ≡ a = some_is _ _ new.2 in
    subst (λ (x : ℕ). Behind before line x) is (record {
      room = lt_true _ _ (wanted_found _ _ room.1);
      spelled = value_found (codes "address ") line read.0 read.1;
      new = among_false read.0 before (not_true _ (wanted_found _ _ new.1));
    })

pub behind_only : (before line : List ℕ) (a : ℕ) → Behind before line a → address_behind before line ≡ Some a
unfolding address_behind
behind_only before line a h =
    let room : nat_lt (length before) most_addresses ≡ true = lt_is (length before) most_addresses h.room in
    rw (room, value_only (codes "address ") line a h.spelled, not_among a before h.new) refl
  where
    lt_is : (m n : ℕ) → m < n → nat_lt m n ≡ true
    lt_is m n k = grind (arith, k)

-- none is read exactly where the line is a bad one
pub behind_none : (before line : List ℕ) → length before ≤ most_addresses → address_behind before line ≡ None → IsBadAddress before line
behind_none before line few h = at_room (nat_lt (length before) most_addresses) refl
  where
    spelled_before : length before < most_addresses → (a : ℕ) → SpellsValueLine (codes "address ") a line → Contains before a
    spelled_before room a spelled = at_test (is_among a before) refl
      where
        at_test : (t : Bool) → is_among a before ≡ t → Contains before a
        at_test true e = among_found a before e
        at_test false e = let some = behind_only before line a (record { room = room; spelled = spelled; new = among_false a before e }) in cc

    at_room : (t : Bool) → nat_lt (length before) most_addresses ≡ t → IsBadAddress before line
    at_room true e = inr (spelled_before (lt_true _ _ e))
    at_room false e = let none = lt_false (length before) most_addresses e in inl (full none)
      where
        full : (length before < most_addresses → ⊥) → length before ≡ most_addresses
        full none = omega (arith, few, none)

pub behind_bad : (before line : List ℕ) → IsBadAddress before line → address_behind before line ≡ None
behind_bad before line bad = at_read (address_behind before line) refl bad
  where
    at_read : (r : Option ℕ) → address_behind before line ≡ r → IsBadAddress before line → r ≡ None
    at_read None e h = refl
    at_read (Some a) e (inl full) = let b = behind_found before line a e in absurd (omega (arith, full, b.room))
    at_read (Some a) e (inr old) = let b = behind_found before line a e in absurd (b.new (old a b.spelled))
