-- A line says what is printed of it.
use Rattle.std.proofs.Common.{◌≡◌, ℕ, ◌-◌, ◌%◌, nat_eq, Bool, true, false, cond, List, ◌++◌, Option, Some, None, [], ◌∷◌, Result, Ok, Err, codes, length, take, drop, refl, sym, ap, subst, ◌∙◌, arith, append-nil}
use Rattle.std.specs.Prelude.{IfSome}
use Rattle.std.specs.Fmt.{decimal}
use Rattle.std.specs.Result.{result_ok}
use Rattle.std.specs.Str.{bytes_eq}
use Rattle.std.proofs.lemmas.Bool.{eqb-true}
use Rattle.std.proofs.lemmas.List.{take_at, drop_at, length-append, take-append-drop}
use Rattle.std.proofs.lemmas.Slice.Eq.{bytes_eq-Decides}
use Rattle.hex.specs.Hex.{encode_lower, decode_sized}
use Rattle.hex.specs.declared.error.FromHexError.{FromHexError}
use Rattle.hex.proofs.HexLemmas.{decode_sized-ok, length-encode_with}
use Rattle.express_texts.specs.LineFields.{after, wanted}
use Rattle.express_texts.specs.Numbers.{number_at, last_number}
use Rattle.express_texts.proofs.FieldLaws.{bind_some, after_found, after_only, wanted_found}
use Rattle.express_texts.proofs.NumberLaws.{NoDigit, number_found, number_only, last_found, last_only}
use Rattle.lane_gate.specs.declared.ticket.Ticket.{Ticket}
use Rattle.desk_texts.specs.declared.day.Day.{Day}
use Rattle.desk_texts.specs.Days.{IsDay, day_text, day_of}
use Rattle.desk_texts.specs.Places.{is_place}
use Rattle.desk_texts.proofs.DayLaws.{day_found, day_only}
use Rattle.desk_texts.proofs.HeadLaws.{below_64, below_255, below_4096, some_is}
use Rattle.desk_sheets.specs.declared.head.CardHead.{CardHead}
use Rattle.desk_sheets.specs.declared.head.Head.{Head}
use Rattle.desk_sheets.specs.declared.head.Head.TheVariants.{Card, Pair}
use Rattle.desk_sheets.specs.declared.head.PairHead.{PairHead}
use Rattle.desk_sheets.specs.declared.sheet.OwnersServer.{OwnersServer}
use Rattle.desk_sheets.specs.Heads.{until_of, card_of, pair_of, head_by, head_of}
use Rattle.desk_sheets.specs.Keys.{key_digits, key_of, server_of}
use Rattle.desk_sheets.specs.Spelling.{until_text, card_text, pair_text, IsCardHead, IsPairHead, SpellsHead, IsKey, IsServer, server_text, SpellsServer}

-- ---- a card's head

abbrev SpellsUntil : Option Day → List ℕ → Type 0
SpellsUntil until text = IfSome until IsDay × (text ≡ until_text until)

until_found : (text : List ℕ) (until : Option Day) → until_of text ≡ Some until → SpellsUntil until text
until_found [] until h = subst (λ (u : Option Day). SpellsUntil u []) (some_is None until h) (tt, refl)
until_found (b ∷ text) until h =
    let rest = bind_some (after (codes " ") (b ∷ text)) _ until h in
    let day = bind_some (day_of rest.0) _ until rest.2 in
    let d = day_found rest.0 day.0 day.1 in
    subst (λ (u : Option Day). SpellsUntil u (b ∷ text)) (some_is (Some day.0) until day.2) (
      d.day,
      after_found (codes " ") (b ∷ text) rest.0 rest.1 ∙ ap (λ (x : List ℕ). codes " " ++ x) d.text_is,
    )

until_only : (until : Option Day) → IfSome until IsDay → until_of (until_text until) ≡ Some until
until_only None is = refl
until_only (Some day) is = rw (after_only (codes " ") (day_text day), day_only day is) refl

no_digit : (until : Option Day) → NoDigit (until_text until)
no_digit None = tt
no_digit (Some day) = refl

card_found : (content : List ℕ) (card : CardHead) → card_of content ≡ Some card
    → IsCardHead card × (content ≡ card_text card)
unfolding card_of
card_found content card h =
    let a = bind_some (after (codes "express card 2 ") content) _ card h in
    let width = bind_some (number_at 32 4096 a.0) _ card a.2 in
    let sixteen = bind_some (wanted (nat_eq (width.0.0 % 16) 0)) _ card width.2 in
    let b = bind_some (after (codes " ") width.0.1) _ card sixteen.2 in
    let count = bind_some (number_at 1 64 b.0) _ card b.2 in
    let until = bind_some (until_of count.0.1) _ card count.2 in
    let found : CardHead = record { width = width.0.0; addresses = count.0.0; until = until.0 } in
    let w = number_found 32 4096 a.0 width.0 below_4096 width.1 in
    let n = number_found 1 64 b.0 count.0 below_64 count.1 in
    let u = until_found count.0.1 until.0 until.1 in
    let whole : content ≡ card_text found =
    after_found (codes "express card 2 ") content a.0 a.1
    ∙ ap (λ (x : List ℕ). codes "express card 2 " ++ x) (w.text
    ∙ ap (λ (x : List ℕ). decimal width.0.0 ++ x) (after_found (codes " ") width.0.1 b.0 b.1
    ∙ ap (λ (x : List ℕ). codes " " ++ x) (n.text
    ∙ ap (λ (x : List ℕ). decimal count.0.0 ++ x) u.1))) in
    subst (λ (q : CardHead). IsCardHead q × (content ≡ card_text q)) {x = found} (some_is found card until.2) (
      record {
        width = record { least = w.at_least; most = w.at_most; sixteens = eqb-true _ _ (wanted_found _ _ sixteen.1) };
        some = n.at_least;
        few = n.at_most;
        until = u.0;
      },
      whole,
    )

card_only : (h : CardHead) → IsCardHead h → card_of (card_text h) ≡ Some h
unfolding card_of
card_only h is =
    let sixteen : nat_eq (h.width % 16) 0 ≡ true = rw is.width.sixteens refl in
    let tail2 = until_text h.until in
    let tail1 = codes " " ++ (decimal h.addresses ++ tail2) in
    rw (
      after_only (codes "express card 2 ") (decimal h.width ++ tail1),
      number_only 32 4096 h.width tail1 (omega arith) is.width.least is.width.most refl,
      sixteen,
      after_only (codes " ") (decimal h.addresses ++ tail2),
      number_only 1 64 h.addresses tail2 (omega arith) is.some is.few (no_digit h.until),
      until_only h.until is.until,
    ) refl

-- ---- a pair's head

pair_found : (content : List ℕ) (pair : PairHead) → pair_of content ≡ Some pair
    → IsPairHead pair × (content ≡ pair_text pair)
unfolding pair_of
pair_found content pair h =
    let a = bind_some (after (codes "express pair 2 ") content) _ pair h in
    let width = bind_some (number_at 32 4096 a.0) _ pair a.2 in
    let sixteen = bind_some (wanted (nat_eq (width.0.0 % 16) 0)) _ pair width.2 in
    let b = bind_some (after (codes " ") width.0.1) _ pair sixteen.2 in
    let boxes = bind_some (number_at 1 4096 b.0) _ pair b.2 in
    let d = bind_some (after (codes " ") boxes.0.1) _ pair boxes.2 in
    let lane = bind_some (last_number 0 255 d.0) _ pair d.2 in
    let found : PairHead = record { width = width.0.0; boxes = boxes.0.0; lane = lane.0 } in
    let w = number_found 32 4096 a.0 width.0 below_4096 width.1 in
    let x = number_found 1 4096 b.0 boxes.0 below_4096 boxes.1 in
    let l = last_found 0 255 d.0 lane.0 below_255 lane.1 in
    let whole : content ≡ pair_text found =
    after_found (codes "express pair 2 ") content a.0 a.1
    ∙ ap (λ (y : List ℕ). codes "express pair 2 " ++ y) (w.text
    ∙ ap (λ (y : List ℕ). decimal width.0.0 ++ y) (after_found (codes " ") width.0.1 b.0 b.1
    ∙ ap (λ (y : List ℕ). codes " " ++ y) (x.text
    ∙ ap (λ (y : List ℕ). decimal boxes.0.0 ++ y) (after_found (codes " ") boxes.0.1 d.0 d.1
    ∙ ap (λ (y : List ℕ). codes " " ++ y) l.0)))) in
    subst (λ (q : PairHead). IsPairHead q × (content ≡ pair_text q)) {x = found} (some_is found pair lane.2) (
      record {
        width = record { least = w.at_least; most = w.at_most; sixteens = eqb-true _ _ (wanted_found _ _ sixteen.1) };
        some = x.at_least;
        few = x.at_most;
        lane = l.2;
      },
      whole,
    )

pair_only : (h : PairHead) → IsPairHead h → pair_of (pair_text h) ≡ Some h
unfolding pair_of
pair_only h is =
    let sixteen : nat_eq (h.width % 16) 0 ≡ true = rw is.width.sixteens refl in
    let tail2 = codes " " ++ decimal h.lane in
    let tail1 = codes " " ++ (decimal h.boxes ++ tail2) in
    rw (
      after_only (codes "express pair 2 ") (decimal h.width ++ tail1),
      number_only 32 4096 h.width tail1 (omega arith) is.width.least is.width.most refl,
      sixteen,
      after_only (codes " ") (decimal h.boxes ++ tail2),
      number_only 1 4096 h.boxes tail2 (omega arith) is.some is.few refl,
      after_only (codes " ") (decimal h.lane),
      last_only 0 255 h.lane (omega arith) (omega arith) is.lane,
    ) refl

-- ---- any head

-- a pair's head is no card's
no_card : (h : PairHead) → card_of (pair_text h) ≡ None
unfolding card_of after
no_card h = refl

pub head_found : (content : List ℕ) (head : Head) → head_of content ≡ Some head → SpellsHead head content
unfolding head_of
head_found content head h = at_card (card_of content) refl (pair_of content) refl h
  where
    at_card : (c : Option CardHead) → card_of content ≡ c → (p : Option PairHead) → pair_of content ≡ p
        → head_by c p ≡ Some head → SpellsHead head content
    at_card (Some card) e p f k =
        subst (λ (q : Head). SpellsHead q content) {x = Card card} (some_is (Card card) head k) (card_found content card e)
    at_card None e (Some pair) f k =
        subst (λ (q : Head). SpellsHead q content) {x = Pair pair} (some_is (Pair pair) head k) (pair_found content pair f)
    at_card None e None f k = cc

pub head_only : (content : List ℕ) (head : Head) → SpellsHead head content → head_of content ≡ Some head
unfolding head_of
head_only content (Card card) h = rw (h.1, card_only card h.0) refl
head_only content (Pair pair) h = rw (h.1, no_card pair, pair_only pair h.0) refl

-- ---- an owner's server

ok_found : (r : Result (List ℕ) FromHexError) (bytes : List ℕ) → result_ok r ≡ Some bytes → r ≡ Ok bytes
ok_found (Ok found) bytes h = ap Ok (some_is found bytes h)
ok_found (Err e) bytes h = cc

key_found : (text : List ℕ) (key : Ticket) → key_of text ≡ Some key
    → IsKey key × (text ≡ codes " " ++ key_digits key)
unfolding key_of
key_found text key h =
    let digits = bind_some (after (codes " ") text) _ key h in
    let bytes = bind_some (result_ok (decode_sized digits.0 16)) _ key digits.2 in
    at_test digits.0 bytes.0 (bytes_eq digits.0 (encode_lower bytes.0)) refl digits.1 (ok_found (decode_sized digits.0 16) bytes.0 bytes.1) bytes.2
  where
    at_test : (ds bs : List ℕ) (t : Bool) → bytes_eq ds (encode_lower bs) ≡ t
        → after (codes " ") text ≡ Some ds → decode_sized ds 16 ≡ Ok bs
        → cond t (Some (record { 0 = bs })) None ≡ Some key → IsKey key × (text ≡ codes " " ++ key_digits key)
    at_test ds bs false e is d k = cc
    at_test ds bs true e is d k =
        let same : ds ≡ encode_lower bs = (bytes_eq-Decides ds (encode_lower bs)).0 e in
        subst (λ (q : Ticket). IsKey q × (text ≡ codes " " ++ key_digits q)) {x = record { 0 = bs }} (some_is (record { 0 = bs }) key k)
        (ap (λ (t : List ℕ). decode_sized t 16) (sym same) ∙ d, after_found (codes " ") text ds is ∙ ap (λ (t : List ℕ). codes " " ++ t) same)

key_only : (key : Ticket) → IsKey key → key_of (codes " " ++ key_digits key) ≡ Some key
unfolding key_of
key_only key is =
    let same : bytes_eq (key_digits key) (key_digits key) ≡ true = (bytes_eq-Decides (key_digits key) (key_digits key)).1 refl in
    rw (after_only (codes " ") (key_digits key), is, same) refl

pub key_length : (key : Ticket) → IsKey key → length (codes " " ++ key_digits key) ≡ 33
key_length key is =
    let digits = decode_sized-ok (key_digits key) 16 key.0 is in
    let all = length-append (codes " ") (key_digits key) in
    let one : length (codes " ") ≡ 1 = refl in
    omega (arith, digits, all, one)

pub server_found : (word content : List ℕ) (s : OwnersServer) → server_of word content ≡ Some s
    → SpellsServer word s content
unfolding server_of
server_found word content s h =
    let rest = bind_some (after word content) _ s h in
    let key = bind_some (key_of (drop (length rest.0 - 33) rest.0)) _ s rest.2 in
    at_test rest.0 (take (length rest.0 - 33) rest.0) key.0 (is_place (take (length rest.0 - 33) rest.0)) refl rest.1
    (key_found (drop (length rest.0 - 33) rest.0) key.0 key.1) (sym (take-append-drop (length rest.0 - 33) rest.0)) key.2
  where
    at_test : (rest place : List ℕ) (key : Ticket) (t : Bool) → is_place place ≡ t → after word content ≡ Some rest
        → IsKey key × (drop (length rest - 33) rest ≡ codes " " ++ key_digits key)
        → rest ≡ place ++ drop (length rest - 33) rest
        → cond t (Some (record { place = place; key = key })) None ≡ Some s → SpellsServer word s content
    at_test rest place key false e is k parts j = cc
    at_test rest place key true e is k parts j =
        let found : OwnersServer = record { place = place; key = key } in
        subst (λ (q : OwnersServer). SpellsServer word q content) {x = found} (some_is found s j) (
          record { place = e; key = k.0 },
          after_found word content rest is
              ∙ ap (λ (t : List ℕ). word ++ t) (parts ∙ ap (λ (t : List ℕ). place ++ t) k.1),
        )

pub server_only : (word content : List ℕ) (s : OwnersServer) → SpellsServer word s content
    → server_of word content ≡ Some s
unfolding server_of
server_only word content s h =
    let behind : List ℕ = codes " " ++ key_digits s.key in
    let rest : List ℕ = s.place ++ behind in
    let len : length rest - 33 ≡ length s.place =
    omega (arith, length-append s.place behind, key_length s.key h.0.key) in
    let front : take (length rest - 33) rest ≡ s.place =
    ap (λ n. take n rest) len ∙ take_at s.place behind (length s.place) refl in
    let back : drop (length rest - 33) rest ≡ behind =
    ap (λ n. drop n rest) len ∙ drop_at s.place behind (length s.place) refl in
    rw (h.1, after_only word rest, front, back, key_only s.key h.0.key, h.0.place) refl
