-- A line says what is printed of it.
use Rattle.std.proofs.Common.{◌≡◌, ℕ, ◌%◌, ◌^◌, ◌<◌, ◌==◌, nat_eq, Bool, true, false, cond, List, ◌++◌, Option, Some, None, [], ◌∷◌, codes, refl, sym, ap, subst, ◌∙◌, arith}
use Rattle.std.specs.Prelude.{IfSome}
use Rattle.std.specs.Fmt.{decimal}
use Rattle.std.specs.Str.{bytes_eq}
use Rattle.std.proofs.lemmas.Bool.{eqb-true}
use Rattle.std.proofs.lemmas.Slice.Eq.{bytes_eq-Decides}
use Rattle.express_texts.specs.LineFields.{after, end, spelled_word, wanted}
use Rattle.express_texts.specs.Numbers.{number_at, last_number}
use Rattle.express_texts.proofs.FieldLaws.{bind_some, after_found, after_only, wanted_found}
use Rattle.express_texts.proofs.NumberLaws.{NoDigit, number_found, number_only, last_found, last_only}
use Rattle.desk_texts.specs.declared.day.Day.{Day}
use Rattle.desk_texts.specs.declared.sheet.CardHead.{CardHead}
use Rattle.desk_texts.specs.declared.sheet.Head.{Head}
use Rattle.desk_texts.specs.declared.sheet.Head.TheVariants.{Card, Pair}
use Rattle.desk_texts.specs.declared.sheet.PairHead.{PairHead}
use Rattle.desk_texts.specs.Days.{IsDay, day_text, day_of}
use Rattle.desk_texts.specs.Fields.{card_numbers, lasting_card, dated_card, card_by, card_of, pair_numbers, is_strangers, pair_of, head_by, head_of, place_of, address_digits, address_of}
use Rattle.desk_texts.specs.Places.{is_place}
use Rattle.desk_texts.specs.Sheets.{is_among, if_new, new_address}
use Rattle.desk_texts.specs.Spelling.{numbers_text, lasting_text, dated_text, card_text_by, card_text, pair_text, IsCard, IsPair, SpellsHead, SpellsPlace, IsAddress, address_text, SpellsNew}
use Rattle.desk_texts.proofs.DayLaws.{day_found, day_only}

-- the bounds of numbers are below 2 ^ 64
pub below_64 : 64 < 2 ^ 64
below_64 = omega arith

pub below_255 : 255 < 2 ^ 64
below_255 = omega arith

pub below_4096 : 4096 < 2 ^ 64
below_4096 = omega arith

pub some_is : {A : Type 0} (x y : A) → Some x ≡ Some y → x ≡ y
some_is x y h = cc

-- ---- a card's head

-- the numbers of a card that lasts, and what follows them
record CardNumbers (content : List ℕ) (r : CardHead × List ℕ) : Type 0 where
  is : IsCard r.0
  text_is : content ≡ numbers_text r.0 r.1
  lasts : r.0.until ≡ None

card_numbers_found : (content : List ℕ) (r : CardHead × List ℕ) → card_numbers content ≡ Some r → CardNumbers content r
unfolding card_numbers
card_numbers_found content r h =
    let width = bind_some (number_at 32 4096 content) _ r h in
    let sixteen = bind_some (wanted (width.0.0 % 16 == 0)) _ r width.2 in
    let b = bind_some (after (codes " ") width.0.1) _ r sixteen.2 in
    let from = bind_some (number_at 0 255 b.0) _ r b.2 in
    let d = bind_some (after (codes " ") from.0.1) _ r from.2 in
    let to = bind_some (number_at from.0.0 255 d.0) _ r d.2 in
    let e = bind_some (after (codes " ") to.0.1) _ r to.2 in
    let count = bind_some (number_at 1 64 e.0) _ r e.2 in
    let card : CardHead = record { width = width.0.0; from = from.0.0; to = to.0.0; addresses = count.0.0; until = None } in
    let is : (card, count.0.1) ≡ r = some_is (card, count.0.1) r count.2 in
    let w = number_found 32 4096 content width.0 below_4096 width.1 in
    let f = number_found 0 255 b.0 from.0 below_255 from.1 in
    let t = number_found from.0.0 255 d.0 to.0 below_255 to.1 in
    let n = number_found 1 64 e.0 count.0 below_64 count.1 in
    let whole : content ≡ numbers_text card count.0.1 =
    w.text
    ∙ ap (λ (x : List ℕ). decimal width.0.0 ++ x) (after_found (codes " ") width.0.1 b.0 b.1
    ∙ ap (λ (x : List ℕ). codes " " ++ x) (f.text
    ∙ ap (λ (x : List ℕ). decimal from.0.0 ++ x) (after_found (codes " ") from.0.1 d.0 d.1
    ∙ ap (λ (x : List ℕ). codes " " ++ x) (t.text
    ∙ ap (λ (x : List ℕ). decimal to.0.0 ++ x) (after_found (codes " ") to.0.1 e.0 e.1
    ∙ ap (λ (x : List ℕ). codes " " ++ x) n.text))))) in
    subst (λ (q : CardHead × List ℕ). CardNumbers content q) {x = (card, count.0.1)} is (record {
      is = record {
        width = record { least = w.at_least; most = w.at_most; sixteens = eqb-true _ _ (wanted_found _ _ sixteen.1) };
        lanes = record { order = t.at_least; last = t.at_most };
        some = n.at_least;
        few = n.at_most;
        until = tt;
      };
      text_is = whole;
      lasts = refl;
    })

abbrev lasting : CardHead → CardHead
lasting h = record h { until = None }

card_numbers_only : (h : CardHead) (rest : List ℕ) → IsCard h → NoDigit rest
    → card_numbers (numbers_text h rest) ≡ Some (lasting h, rest)
unfolding card_numbers
card_numbers_only h rest is none =
    let sixteen : nat_eq (h.width % 16) 0 ≡ true = rw is.width.sixteens refl in
    let tail3 = codes " " ++ (decimal h.addresses ++ rest) in
    let tail2 = codes " " ++ (decimal h.to ++ tail3) in
    let tail1 = codes " " ++ (decimal h.from ++ tail2) in
    let order = is.lanes.order in
    let last = is.lanes.last in
    rw (
      number_only 32 4096 h.width tail1 (omega arith) is.width.least is.width.most refl,
      sixteen,
      after_only (codes " ") (decimal h.from ++ tail2),
      number_only 0 255 h.from tail2 (omega arith) (omega arith) (omega (arith, order, last)) refl,
      after_only (codes " ") (decimal h.to ++ tail3),
      number_only h.from 255 h.to tail3 (omega arith) order last refl,
      after_only (codes " ") (decimal h.addresses ++ rest),
      number_only 1 64 h.addresses rest (omega arith) is.some is.few none,
    ) refl

end_found : (xs : List ℕ) (u : Unit {0}) → end xs ≡ Some u → xs ≡ []
end_found [] u h = refl
end_found (x ∷ xs) u h = cc

-- a card is spelled by its content
abbrev SpellsCard : CardHead → List ℕ → Type 0
SpellsCard card content = IsCard card × (content ≡ card_text card)

lasting_found : (content : List ℕ) (card : CardHead) → lasting_card content ≡ Some card → SpellsCard card content
unfolding lasting_card
lasting_found content card h =
    let a = bind_some (after (codes "express card 1 ") content) _ card h in
    let r = bind_some (card_numbers a.0) _ card a.2 in
    let last = bind_some (end r.0.1) _ card r.2 in
    let n = card_numbers_found a.0 r.0 r.1 in
    let nothing : r.0.1 ≡ [] = end_found r.0.1 last.0 last.1 in
    let whole : content ≡ card_text r.0.0 =
    after_found (codes "express card 1 ") content a.0 a.1
    ∙ ap (λ (x : List ℕ). codes "express card 1 " ++ x) (n.text_is ∙ ap (numbers_text r.0.0) nothing)
    ∙ ap (card_text_by r.0.0) (sym n.lasts) in
    subst (λ (q : CardHead). SpellsCard q content) {x = r.0.0} (some_is r.0.0 card last.2) (n.is, whole)

dated_found : (content : List ℕ) (card : CardHead) → dated_card content ≡ Some card → SpellsCard card content
unfolding dated_card
dated_found content card h =
    let a = bind_some (after (codes "express card 2 ") content) _ card h in
    let r = bind_some (card_numbers a.0) _ card a.2 in
    let b = bind_some (after (codes " ") r.0.1) _ card r.2 in
    let day = bind_some (day_of b.0) _ card b.2 in
    let n = card_numbers_found a.0 r.0 r.1 in
    let d = day_found b.0 day.0 day.1 in
    let found : CardHead = record r.0.0 { until = Some day.0 } in
    let whole : content ≡ card_text found =
    after_found (codes "express card 2 ") content a.0 a.1
    ∙ ap (λ (x : List ℕ). codes "express card 2 " ++ x) (n.text_is
    ∙ ap (numbers_text r.0.0) (after_found (codes " ") r.0.1 b.0 b.1 ∙ ap (λ (x : List ℕ). codes " " ++ x) d.text_is)) in
    let is : IsCard found = record {
      width = n.is.width;
      lanes = n.is.lanes;
      some = n.is.some;
      few = n.is.few;
      until = d.day;
    } in
    subst (λ (q : CardHead). SpellsCard q content) {x = found} (some_is found card day.2) (is, whole)

card_found : (content : List ℕ) (card : CardHead) → card_of content ≡ Some card → SpellsCard card content
unfolding card_of
card_found content card h = at_form (lasting_card content) refl h
  where
    at_form : (c : Option CardHead) → lasting_card content ≡ c → card_by c (dated_card content) ≡ Some card
        → SpellsCard card content
    at_form (Some found) e k =
        subst (λ (q : CardHead). SpellsCard q content) {x = found} (some_is found card k) (lasting_found content found e)
    at_form None e k = dated_found content card k

lasting_only : (h : CardHead) → IsCard h → lasting_card (lasting_text h) ≡ Some (lasting h)
unfolding lasting_card
lasting_only h is =
    rw (after_only (codes "express card 1 ") (numbers_text h []), card_numbers_only h [] is tt) refl

dated_only : (h : CardHead) (day : Day) → IsCard h → IsDay day
    → dated_card (dated_text h day) ≡ Some (record h { until = Some day })
unfolding dated_card
dated_only h day is d =
    let behind : List ℕ = codes " " ++ day_text day in
    rw (
      after_only (codes "express card 2 ") (numbers_text h behind),
      card_numbers_only h behind is refl,
      after_only (codes " ") (day_text day),
      day_only day d,
    ) refl

-- a card with a last day is none that lasts
not_lasting : (h : CardHead) (day : Day) → lasting_card (dated_text h day) ≡ None
unfolding lasting_card after
not_lasting h day = refl

card_only : (h : CardHead) → IsCard h → card_of (card_text h) ≡ Some h
unfolding card_of
card_only h is = at_until h.until refl
  where
    at_until : (u : Option Day) → h.until ≡ u
        → card_by (lasting_card (card_text_by h u)) (dated_card (card_text_by h u)) ≡ Some h
    at_until None e =
        rw (lasting_only h is) (ap (λ (u : Option Day). Some (record h { until = u })) (sym e))
    at_until (Some day) e =
        let d : IsDay day = subst (λ (u : Option Day). IfSome u IsDay) e is.until in
        rw (not_lasting h day, dated_only h day is d) (ap (λ (u : Option Day). Some (record h { until = u })) (sym e))

-- ---- a pair's head

numbers_found : (content : List ℕ) (pair : PairHead) → pair_numbers content ≡ Some pair
    → (is_strangers pair ≡ false → IsPair pair) × (content ≡ pair_text pair)
unfolding pair_numbers
numbers_found content pair h =
    let a = bind_some (after (codes "express pair 1 ") content) _ pair h in
    let width = bind_some (number_at 32 4096 a.0) _ pair a.2 in
    let sixteen = bind_some (wanted (width.0.0 % 16 == 0)) _ pair width.2 in
    let b = bind_some (after (codes " ") width.0.1) _ pair sixteen.2 in
    let boxes = bind_some (number_at 1 4096 b.0) _ pair b.2 in
    let d = bind_some (after (codes " ") boxes.0.1) _ pair boxes.2 in
    let lane = bind_some (number_at 0 255 d.0) _ pair d.2 in
    let e = bind_some (after (codes " ") lane.0.1) _ pair lane.2 in
    let from = bind_some (number_at 0 255 e.0) _ pair e.2 in
    let g = bind_some (after (codes " ") from.0.1) _ pair from.2 in
    let to = bind_some (last_number from.0.0 255 g.0) _ pair g.2 in
    let found : PairHead = record { width = width.0.0; boxes = boxes.0.0; lane = lane.0.0; from = from.0.0; to = to.0 } in
    let is : found ≡ pair = some_is found pair to.2 in
    let w = number_found 32 4096 a.0 width.0 below_4096 width.1 in
    let x = number_found 1 4096 b.0 boxes.0 below_4096 boxes.1 in
    let l = number_found 0 255 d.0 lane.0 below_255 lane.1 in
    let f = number_found 0 255 e.0 from.0 below_255 from.1 in
    let t = last_found from.0.0 255 g.0 to.0 below_255 to.1 in
    let whole : content ≡ pair_text found =
    after_found (codes "express pair 1 ") content a.0 a.1
    ∙ ap (λ (y : List ℕ). codes "express pair 1 " ++ y) (w.text
    ∙ ap (λ (y : List ℕ). decimal width.0.0 ++ y) (after_found (codes " ") width.0.1 b.0 b.1
    ∙ ap (λ (y : List ℕ). codes " " ++ y) (x.text
    ∙ ap (λ (y : List ℕ). decimal boxes.0.0 ++ y) (after_found (codes " ") boxes.0.1 d.0 d.1
    ∙ ap (λ (y : List ℕ). codes " " ++ y) (l.text
    ∙ ap (λ (y : List ℕ). decimal lane.0.0 ++ y) (after_found (codes " ") lane.0.1 e.0 e.1
    ∙ ap (λ (y : List ℕ). codes " " ++ y) (f.text
    ∙ ap (λ (y : List ℕ). decimal from.0.0 ++ y) (after_found (codes " ") from.0.1 g.0 g.1
    ∙ ap (λ (y : List ℕ). codes " " ++ y) t.0)))))))) in
    subst (λ (q : PairHead). (is_strangers q ≡ false → IsPair q) × (content ≡ pair_text q)) {x = found} is (
      (λ own. record {
        width = record { least = w.at_least; most = w.at_most; sixteens = eqb-true _ _ (wanted_found _ _ sixteen.1) };
        some = x.at_least;
        few = x.at_most;
        lane = l.at_most;
        lanes = record { order = t.1; last = t.2 };
        own = own;
      }),
      whole,
    )

numbers_only : (h : PairHead) → IsPair h → pair_numbers (pair_text h) ≡ Some h
unfolding pair_numbers
numbers_only h is =
    let sixteen : nat_eq (h.width % 16) 0 ≡ true = rw is.width.sixteens refl in
    let tail4 = codes " " ++ decimal h.to in
    let tail3 = codes " " ++ (decimal h.from ++ tail4) in
    let tail2 = codes " " ++ (decimal h.lane ++ tail3) in
    let tail1 = codes " " ++ (decimal h.boxes ++ tail2) in
    let order = is.lanes.order in
    let last = is.lanes.last in
    rw (
      after_only (codes "express pair 1 ") (decimal h.width ++ tail1),
      number_only 32 4096 h.width tail1 (omega arith) is.width.least is.width.most refl,
      sixteen,
      after_only (codes " ") (decimal h.boxes ++ tail2),
      number_only 1 4096 h.boxes tail2 (omega arith) is.some is.few refl,
      after_only (codes " ") (decimal h.lane ++ tail3),
      number_only 0 255 h.lane tail3 (omega arith) (omega arith) is.lane refl,
      after_only (codes " ") (decimal h.from ++ tail4),
      number_only 0 255 h.from tail4 (omega arith) (omega arith) (omega (arith, order, last)) refl,
      after_only (codes " ") (decimal h.to),
      last_only h.from 255 h.to (omega arith) order last,
    ) refl

pair_found : (content : List ℕ) (pair : PairHead) → pair_of content ≡ Some pair
    → IsPair pair × (content ≡ pair_text pair)
unfolding pair_of
pair_found content pair h =
    let n = bind_some (pair_numbers content) _ pair h in
    at_test n.0 n.1 (is_strangers n.0) refl n.2
  where
    at_test : (q : PairHead) → pair_numbers content ≡ Some q → (t : Bool) → is_strangers q ≡ t
        → cond t None (Some q) ≡ Some pair → IsPair pair × (content ≡ pair_text pair)
    at_test q is true e k = cc
    at_test q is false e k =
        let f = numbers_found content q is in
        subst (λ (p : PairHead). IsPair p × (content ≡ pair_text p)) {x = q} (some_is q pair k) (f.0 e, f.1)

pair_only : (h : PairHead) → IsPair h → pair_of (pair_text h) ≡ Some h
unfolding pair_of
pair_only h is = rw (numbers_only h is, is.own) refl

-- ---- any head

-- a pair's head is no card's
no_card : (h : PairHead) → card_of (pair_text h) ≡ None
unfolding card_of lasting_card dated_card after
no_card h = refl

pub head_found : (content : List ℕ) (head : Head) → head_of content ≡ Some head → SpellsHead head content
unfolding head_of
head_found content head h = at_card (card_of content) refl (pair_of content) refl h
  where
    at_card : (c : Option CardHead) → card_of content ≡ c → (p : Option PairHead) → pair_of content ≡ p
        → head_by c p ≡ Some head → SpellsHead head content
    at_card (Some card) e p f k =
        subst (λ (q : Head). SpellsHead q content) {x = Card card} (some_is (Card card) head k) (card_found content card e)
    at_card None e (Some pair) f k =
        subst (λ (q : Head). SpellsHead q content) {x = Pair pair} (some_is (Pair pair) head k) (pair_found content pair f)
    at_card None e None f k = cc

pub head_only : (content : List ℕ) (head : Head) → SpellsHead head content → head_of content ≡ Some head
unfolding head_of
head_only content (Card card) h = rw (h.1, card_only card h.0) refl
head_only content (Pair pair) h = rw (h.1, no_card pair, pair_only pair h.0) refl

-- ---- places and addresses

pub place_found : (word content place : List ℕ) → place_of word content ≡ Some place → SpellsPlace word place content
unfolding place_of
place_found word content place h =
    let a = bind_some (after word content) _ place h in
    at_test a.0 (is_place a.0) refl a.1 a.2
  where
    at_test : (p : List ℕ) (t : Bool) → is_place p ≡ t → after word content ≡ Some p
        → cond t (Some p) None ≡ Some place → SpellsPlace word place content
    at_test p true e is k =
        subst (λ (q : List ℕ). SpellsPlace word q content) (some_is p place k) (e, after_found word content p is)
    at_test p false e is k = cc

pub place_only : (word content place : List ℕ) → SpellsPlace word place content → place_of word content ≡ Some place
unfolding place_of
place_only word content place h = rw (h.1, after_only word place, h.0) refl

address_found : (content : List ℕ) (a : ℕ) → address_of content ≡ Some a → IsAddress a × (content ≡ address_text a)
unfolding address_of
address_found content a h =
    let digits = bind_some (after (codes "address ") content) _ a h in
    let word = bind_some (spelled_word digits.0) _ a digits.2 in
    at_test digits.0 word.0 (bytes_eq digits.0 (address_digits word.0)) refl digits.1 word.1 word.2
  where
    at_test : (ds : List ℕ) (n : ℕ) (t : Bool) → bytes_eq ds (address_digits n) ≡ t
        → after (codes "address ") content ≡ Some ds → spelled_word ds ≡ Some n
        → cond t (Some n) None ≡ Some a → IsAddress a × (content ≡ address_text a)
    at_test ds n false e is w k = cc
    at_test ds n true e is w k =
        let same : ds ≡ address_digits n = (bytes_eq-Decides ds (address_digits n)).0 e in
        subst (λ (m : ℕ). IsAddress m × (content ≡ address_text m)) (some_is n a k)
        (ap spelled_word (sym same) ∙ w, after_found (codes "address ") content ds is ∙ ap (λ (t : List ℕ). codes "address " ++ t) same)

address_only : (a : ℕ) → IsAddress a → address_of (address_text a) ≡ Some a
unfolding address_of
address_only a is =
    let same : bytes_eq (address_digits a) (address_digits a) ≡ true = (bytes_eq-Decides (address_digits a) (address_digits a)).1 refl in
    rw (after_only (codes "address ") (address_digits a), is, same) refl

pub new_found : (before content : List ℕ) (a : ℕ) → new_address before content ≡ Some a → SpellsNew before a content
unfolding new_address
new_found before content a h = at_address (address_of content) refl h
  where
    at_test : (n : ℕ) (t : Bool) → is_among n before ≡ t → address_of content ≡ Some n
        → cond t None (Some n) ≡ Some a → SpellsNew before a content
    at_test n true e is k = cc
    at_test n false e is k =
        let f = address_found content n is in
        subst (λ (m : ℕ). SpellsNew before m content) (some_is n a k) (f.0, e, f.1)

    at_address : (r : Option ℕ) → address_of content ≡ r → if_new before r ≡ Some a → SpellsNew before a content
    at_address None is k = cc
    at_address (Some n) is k = at_test n (is_among n before) refl is k

pub new_only : (before content : List ℕ) (a : ℕ) → SpellsNew before a content → new_address before content ≡ Some a
unfolding new_address
new_only before content a h = rw (h.2, address_only a h.0, h.1) refl
