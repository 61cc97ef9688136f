-- How long the text of a sheet is at most.
use Rattle.std.proofs.Common.{◌≡◌, ℕ, ◌+◌, ◌-◌, ◌*◌, ◌^◌, ◌<◌, ◌≤◌, true, List, [], ◌∷◌, ◌++◌, map, length, Option, Some, None, codes, refl, sym, ap, subst, ◌∙◌, arith}
use Rattle.std.specs.Prelude.{IfSome, nat_le, replicate}
use Rattle.std.specs.Fmt.{decimal}
use Rattle.std.specs.Int.{w128, to_be_bytes}
use Rattle.std.proofs.lemmas.Bool.{and_parts}
use Rattle.std.proofs.lemmas.Bool.Decides.{nat_tests}
use Rattle.std.proofs.lemmas.Fmt.{length-decimal-le}
use Rattle.std.proofs.lemmas.List.{length-append, length-replicate}
use Rattle.hex.specs.Hex.{lower_digits}
use Rattle.hex.proofs.HexLemmas.{length-encode_with}
use Rattle.desk_texts.specs.declared.day.Day.{Day}
use Rattle.desk_texts.specs.declared.sheet.CardHead.{CardHead}
use Rattle.desk_texts.specs.declared.sheet.Head.{Head}
use Rattle.desk_texts.specs.declared.sheet.Head.TheVariants.{Card, Pair}
use Rattle.desk_texts.specs.declared.sheet.PairHead.{PairHead}
use Rattle.desk_texts.specs.declared.sheet.Sheet.{Sheet}
use Rattle.desk_texts.specs.Checks.{with_content, check_word, checked}
use Rattle.desk_texts.specs.Days.{IsDay, zero_filled, day_text}
use Rattle.desk_texts.specs.Fields.{address_digits}
use Rattle.desk_texts.specs.Places.{is_place}
use Rattle.desk_texts.specs.Printing.{printed_from, printed}
use Rattle.desk_texts.specs.Sheets.{count_of}
use Rattle.desk_texts.specs.Spelling.{numbers_text, lasting_text, dated_text, card_text_by, pair_text, head_text, address_text, IsCard, IsPair, IsHead, IsSheet}
use Rattle.desk_texts.proofs.CheckLaws.{length-check_word}
use Rattle.desk_texts.proofs.DayLaws.{short_day}

-- ---- parts

pub both : (a b : List ℕ) (m n : ℕ) → length a ≤ m → length b ≤ n → length (a ++ b) ≤ m + n
both a b m n p q = let e = length-append a b in omega (arith, e, p, q)

filled : (width n : ℕ) → length (decimal n) ≤ width → length (zero_filled width n) ≤ width
filled width n short =
    let front : List ℕ = replicate (width - length (decimal n)) 48 in
    let zeros : length front ≡ width - length (decimal n) = length-replicate (width - length (decimal n)) 48 in
    let all : length (front ++ decimal n) ≡ length front + length (decimal n) = length-append front (decimal n) in
    omega (arith, zeros, all, short)

pub two_digits_at : (n : ℕ) → n < 100 → length (decimal n) ≤ 2
two_digits_at n small = length-decimal-le 2 n (omega arith) (omega (arith, small)) (omega (arith, small))

pub three_digits_at : (n : ℕ) → n ≤ 255 → length (decimal n) ≤ 3
three_digits_at n small = length-decimal-le 3 n (omega arith) (omega (arith, small)) (omega (arith, small))

pub four_digits_at : (n : ℕ) → n ≤ 9999 → length (decimal n) ≤ 4
four_digits_at n small = length-decimal-le 4 n (omega arith) (omega (arith, small)) (omega (arith, small))

pub one_space : length (codes " ") ≤ 1
one_space = omega arith

one_hyphen : length (codes "-") ≤ 1
one_hyphen = omega arith

-- ---- heads

pub day_len : (d : Day) → IsDay d → length (day_text d) ≤ 10
day_len d is =
    let short = short_day d is in
    let year = filled 4 d.year (four_digits_at d.year is.year) in
    let month = filled 2 d.month (two_digits_at d.month short.0) in
    let day = filled 2 d.day (two_digits_at d.day short.1) in
    let p1 = both (codes "-") (zero_filled 2 d.day) 1 (2) one_hyphen day in
    let x1 : List ℕ = codes "-" ++ zero_filled 2 d.day in
    let p2 = both (zero_filled 2 d.month) (x1) 2 (1 + (2)) month p1 in
    let x2 : List ℕ = zero_filled 2 d.month ++ x1 in
    let p3 = both (codes "-") (x2) 1 (2 + (1 + (2))) one_hyphen p2 in
    let x3 : List ℕ = codes "-" ++ x2 in
    let p4 = both (zero_filled 4 d.year) (x3) 4 (1 + (2 + (1 + (2)))) year p3 in
    let x4 : List ℕ = zero_filled 4 d.year ++ x3 in
    let all : length (day_text d) ≤ 4 + (1 + (2 + (1 + (2)))) = p4 in
    omega (arith, all)

numbers_len : (h : CardHead) (rest : List ℕ) (n : ℕ) → IsCard h → length rest ≤ n → length (numbers_text h rest) ≤ 15 + n
numbers_len h rest n is more =
    let wide = is.width.most in let order = is.lanes.order in let last = is.lanes.last in let few = is.few in
    let width = four_digits_at h.width (omega (arith, wide)) in
    let from = three_digits_at h.from (omega (arith, order, last)) in
    let to = three_digits_at h.to last in
    let count = two_digits_at h.addresses (omega (arith, few)) in
    let p1 = both (decimal h.addresses) (rest) 2 (n) count more in
    let x1 : List ℕ = decimal h.addresses ++ rest in
    let p2 = both (codes " ") (x1) 1 (2 + (n)) one_space p1 in
    let x2 : List ℕ = codes " " ++ x1 in
    let p3 = both (decimal h.to) (x2) 3 (1 + (2 + (n))) to p2 in
    let x3 : List ℕ = decimal h.to ++ x2 in
    let p4 = both (codes " ") (x3) 1 (3 + (1 + (2 + (n)))) one_space p3 in
    let x4 : List ℕ = codes " " ++ x3 in
    let p5 = both (decimal h.from) (x4) 3 (1 + (3 + (1 + (2 + (n))))) from p4 in
    let x5 : List ℕ = decimal h.from ++ x4 in
    let p6 = both (codes " ") (x5) 1 (3 + (1 + (3 + (1 + (2 + (n)))))) one_space p5 in
    let x6 : List ℕ = codes " " ++ x5 in
    let p7 = both (decimal h.width) (x6) 4 (1 + (3 + (1 + (3 + (1 + (2 + (n))))))) width p6 in
    let x7 : List ℕ = decimal h.width ++ x6 in
    let all : length (numbers_text h rest) ≤ 4 + (1 + (3 + (1 + (3 + (1 + (2 + (n))))))) = p7 in
    omega (arith, all)

card_len : (h : CardHead) (until : Option Day) → IsCard h → h.until ≡ until → length (card_text_by h until) ≤ 41
card_len h None is e =
    let front : length (codes "express card 1 ") ≤ 15 = omega arith in
    let all : length (lasting_text h) ≤ 15 + (15 + 0) = both (codes "express card 1 ") (numbers_text h []) 15 (15 + 0) front (numbers_len h [] 0 is (omega arith)) in
    omega (arith, all)
card_len h (Some day) is e =
    let front : length (codes "express card 2 ") ≤ 15 = omega arith in
    let d : IsDay day = subst (λ (u : Option Day). IfSome u IsDay) e is.until in
    let behind : length (codes " " ++ day_text day) ≤ 1 + 10 = both (codes " ") (day_text day) 1 10 one_space (day_len day d) in
    let all : length (dated_text h day) ≤ 15 + (15 + (1 + 10)) = both (codes "express card 2 ") (numbers_text h (codes " " ++ day_text day)) 15 (15 + (1 + 10)) front (numbers_len h (codes " " ++ day_text day) (1 + 10) is behind) in
    omega (arith, all)

pair_len : (h : PairHead) → IsPair h → length (pair_text h) ≤ 36
pair_len h is =
    let front : length (codes "express pair 1 ") ≤ 15 = omega arith in
    let wide = is.width.most in let order = is.lanes.order in let last = is.lanes.last in let few = is.few in
    let width = four_digits_at h.width (omega (arith, wide)) in
    let boxes = four_digits_at h.boxes (omega (arith, few)) in
    let lane = three_digits_at h.lane is.lane in
    let from = three_digits_at h.from (omega (arith, order, last)) in
    let to = three_digits_at h.to last in
    let p1 = both (codes " ") (decimal h.to) 1 (3) one_space to in
    let x1 : List ℕ = codes " " ++ decimal h.to in
    let p2 = both (decimal h.from) (x1) 3 (1 + (3)) from p1 in
    let x2 : List ℕ = decimal h.from ++ x1 in
    let p3 = both (codes " ") (x2) 1 (3 + (1 + (3))) one_space p2 in
    let x3 : List ℕ = codes " " ++ x2 in
    let p4 = both (decimal h.lane) (x3) 3 (1 + (3 + (1 + (3)))) lane p3 in
    let x4 : List ℕ = decimal h.lane ++ x3 in
    let p5 = both (codes " ") (x4) 1 (3 + (1 + (3 + (1 + (3))))) one_space p4 in
    let x5 : List ℕ = codes " " ++ x4 in
    let p6 = both (decimal h.boxes) (x5) 4 (1 + (3 + (1 + (3 + (1 + (3)))))) boxes p5 in
    let x6 : List ℕ = decimal h.boxes ++ x5 in
    let p7 = both (codes " ") (x6) 1 (4 + (1 + (3 + (1 + (3 + (1 + (3))))))) one_space p6 in
    let x7 : List ℕ = codes " " ++ x6 in
    let p8 = both (decimal h.width) (x7) 4 (1 + (4 + (1 + (3 + (1 + (3 + (1 + (3)))))))) width p7 in
    let x8 : List ℕ = decimal h.width ++ x7 in
    let p9 = both (codes "express pair 1 ") (x8) 15 (4 + (1 + (4 + (1 + (3 + (1 + (3 + (1 + (3))))))))) front p8 in
    let x9 : List ℕ = codes "express pair 1 " ++ x8 in
    let all : length (pair_text h) ≤ 15 + (4 + (1 + (4 + (1 + (3 + (1 + (3 + (1 + (3))))))))) = p9 in
    omega (arith, all)

head_len : (h : Head) → IsHead h → length (head_text h) ≤ 41
head_len (Card h) is = card_len h h.until is refl
head_len (Pair h) is = let all = pair_len h is in omega (arith, all)

-- ---- lines

pub place_len : (place : List ℕ) → is_place place ≡ true → length place ≤ 255
unfolding is_place
place_len place is = let front = (and_parts (nat_le (length place) 255) _ is).0 in grind (arith, nat_tests, front)

digits_len : (address : ℕ) → length (address_text address) ≡ 40
digits_len address =
    let bytes : length (to_be_bytes w128 address) ≡ 16 = refl in
    let digits = length-encode_with lower_digits (to_be_bytes w128 address) in
    let word : length (codes "address ") ≡ 8 = refl in
    let all : length (address_text address) ≡ length (codes "address ") + length (address_digits address)
    = length-append (codes "address ") (address_digits address) in
    omega (arith, bytes, digits, word, all)

pub line_len : (said content : List ℕ) (contents : List (List ℕ))
    → length (printed_from said (content ∷ contents)) ≡ length content + 7 + length (printed_from (with_content said content) contents)
unfolding printed_from
line_len said content contents =
    let word = length-check_word (with_content said content) in
    let front = length-append content (check_word (with_content said content)) in
    let line = length-append (checked said content) (10 ∷ []) in
    let all = length-append (checked said content ++ 10 ∷ []) (printed_from (with_content said content) contents) in
    omega (arith, word, front, line, all)

pub addresses_len : (said addresses : List ℕ) → length (printed_from said (map address_text addresses)) ≡ 47 * length addresses
unfolding printed_from
addresses_len said [] = refl
addresses_len said (a ∷ addresses) =
    let first = line_len said (address_text a) (map address_text addresses) in
    let size = digits_len a in
    let rest = addresses_len (with_content said (address_text a)) addresses in
    omega (arith, first, size, rest)

-- ---- a sheet

few_addresses : (h : Head) → IsHead h → count_of h ≤ 64
few_addresses (Card h) is = is.few
few_addresses (Pair h) is = omega arith

pub place_line : (word place : List ℕ) → length word ≤ 7 → is_place place ≡ true → length (word ++ place) ≤ 262
place_line word place few is = let all : length (word ++ place) ≤ 7 + 255 = both word place 7 255 few (place_len place is) in omega (arith, all)

pub few_bytes : (s : Sheet) → IsSheet s → length (printed s) ≤ 4096
few_bytes s is =
    let leader_text : List ℕ = codes "leader " ++ s.leader in
    let helper_text : List ℕ = codes "helper " ++ s.helper in
    let head = head_len s.head is.head in
    let leader : length leader_text ≤ 262 = place_line (codes "leader ") s.leader (omega arith) is.leader in
    let helper : length helper_text ≤ 262 = place_line (codes "helper ") s.helper (omega arith) is.helper in
    let few = few_addresses s.head is.head in
    let count = is.count in
    let first = line_len [] (head_text s.head) (leader_text ∷ helper_text ∷ map address_text s.addresses) in
    let second = line_len (with_content [] (head_text s.head)) leader_text (helper_text ∷ map address_text s.addresses) in
    let third = line_len (with_content (with_content [] (head_text s.head)) leader_text) helper_text (map address_text s.addresses) in
    let rest = addresses_len (with_content (with_content (with_content [] (head_text s.head)) leader_text) helper_text) s.addresses in
    omega (arith, head, leader, helper, few, count, first, second, third, rest)
