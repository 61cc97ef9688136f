-- How long the text of a sheet is at most.
use Rattle.std.proofs.Common.{◌≡◌, ℕ, ◌+◌, ◌*◌, ◌≤◌, true, List, [], ◌∷◌, ◌++◌, map, length, Option, Some, None, codes, arith}
use Rattle.std.specs.Prelude.{IfSome}
use Rattle.std.specs.Fmt.{decimal}
use Rattle.desk_texts.specs.declared.day.Day.{Day}
use Rattle.desk_texts.specs.Checks.{with_content}
use Rattle.desk_texts.specs.Days.{IsDay, day_text}
use Rattle.desk_texts.specs.Printing.{printed_from}
use Rattle.desk_texts.specs.Spelling.{address_text}
use Rattle.desk_texts.proofs.SizeLaws.{both, two_digits_at, three_digits_at, four_digits_at, one_space, day_len, place_len, line_len, addresses_len, place_line}
use Rattle.desk_sheets.specs.declared.head.CardHead.{CardHead}
use Rattle.desk_sheets.specs.declared.head.PairHead.{PairHead}
use Rattle.desk_sheets.specs.declared.sheet.Card.{Card}
use Rattle.desk_sheets.specs.declared.sheet.OwnersServer.{OwnersServer}
use Rattle.desk_sheets.specs.declared.sheet.Pair.{Pair}
use Rattle.desk_sheets.specs.Keys.{key_digits}
use Rattle.desk_sheets.specs.Printing.{printed_card, printed_pair}
use Rattle.desk_sheets.specs.Spelling.{until_text, card_text, pair_text, IsCardHead, IsPairHead, IsServer, server_text, card_head, pair_head, IsCard, IsPair}
use Rattle.desk_sheets.proofs.HeadLaws.{key_length}

-- ---- lines

until_len : (until : Option Day) → IfSome until IsDay → length (until_text until) ≤ 11
until_len None is = omega arith
until_len (Some day) is =
    let all : length (codes " " ++ day_text day) ≤ 1 + 10 = both (codes " ") (day_text day) 1 10 one_space (day_len day is) in
    omega (arith, all)

card_len : (h : CardHead) → IsCardHead h → length (card_text h) ≤ 33
card_len h is =
    let front : length (codes "express card 2 ") ≤ 15 = omega arith in
    let wide = is.width.most in let few = is.few in
    let width = four_digits_at h.width (omega (arith, wide)) in
    let count = two_digits_at h.addresses (omega (arith, few)) in
    let until = until_len h.until is.until in
    let p1 = both (decimal h.addresses) (until_text h.until) 2 11 count until in
    let x1 : List ℕ = decimal h.addresses ++ until_text h.until in
    let p2 = both (codes " ") x1 1 (2 + 11) one_space p1 in
    let x2 : List ℕ = codes " " ++ x1 in
    let p3 = both (decimal h.width) x2 4 (1 + (2 + 11)) width p2 in
    let x3 : List ℕ = decimal h.width ++ x2 in
    let all : length (card_text h) ≤ 15 + (4 + (1 + (2 + 11))) = both (codes "express card 2 ") x3 15 (4 + (1 + (2 + 11))) front p3 in
    omega (arith, all)

pair_len : (h : PairHead) → IsPairHead h → length (pair_text h) ≤ 28
pair_len h is =
    let front : length (codes "express pair 2 ") ≤ 15 = omega arith in
    let wide = is.width.most in let few = is.few in
    let width = four_digits_at h.width (omega (arith, wide)) in
    let boxes = four_digits_at h.boxes (omega (arith, few)) in
    let lane = three_digits_at h.lane is.lane in
    let p1 = both (codes " ") (decimal h.lane) 1 3 one_space lane in
    let x1 : List ℕ = codes " " ++ decimal h.lane in
    let p2 = both (decimal h.boxes) x1 4 (1 + 3) boxes p1 in
    let x2 : List ℕ = decimal h.boxes ++ x1 in
    let p3 = both (codes " ") x2 1 (4 + (1 + 3)) one_space p2 in
    let x3 : List ℕ = codes " " ++ x2 in
    let p4 = both (decimal h.width) x3 4 (1 + (4 + (1 + 3))) width p3 in
    let x4 : List ℕ = decimal h.width ++ x3 in
    let all : length (pair_text h) ≤ 15 + (4 + (1 + (4 + (1 + 3)))) = both (codes "express pair 2 ") x4 15 (4 + (1 + (4 + (1 + 3)))) front p4 in
    omega (arith, all)

server_len : (word : List ℕ) (s : OwnersServer) → length word ≤ 7 → IsServer s → length (server_text word s) ≤ 295
server_len word s short is =
    let key = key_length s.key is.key in
    let behind : List ℕ = codes " " ++ key_digits s.key in
    let p1 = both s.place behind 255 33 (place_len s.place is.place) (omega (arith, key)) in
    let all : length (word ++ (s.place ++ behind)) ≤ 7 + (255 + 33) = both word (s.place ++ behind) 7 (255 + 33) short p1 in
    omega (arith, all)

-- ---- sheets

pub few_card : (c : Card) → IsCard c → length (printed_card c) ≤ 4096
few_card c is =
    let head_is : List ℕ = card_text (card_head c) in
    let leader_is : List ℕ = codes "leader " ++ c.leader in
    let helper_is : List ℕ = codes "helper " ++ c.helper in
    let head = card_len (card_head c) is.head in
    let leader : length leader_is ≤ 262 = place_line (codes "leader ") c.leader (omega arith) is.leader in
    let helper : length helper_is ≤ 262 = place_line (codes "helper ") c.helper (omega arith) is.helper in
    let few = is.head.few in
    let said2 : List ℕ = with_content [] head_is in
    let said3 : List ℕ = with_content said2 leader_is in
    let first = line_len [] head_is (leader_is ∷ helper_is ∷ map address_text c.addresses) in
    let second = line_len said2 leader_is (helper_is ∷ map address_text c.addresses) in
    let third = line_len said3 helper_is (map address_text c.addresses) in
    let rest = addresses_len (with_content said3 helper_is) c.addresses in
    omega (arith, head, leader, helper, few, first, second, third, rest)

nothing_len : (said : List ℕ) → length (printed_from said []) ≡ 0
unfolding printed_from
nothing_len said = omega arith

pub few_pair : (p : Pair) → IsPair p → length (printed_pair p) ≤ 4096
few_pair p is =
    let head_is : List ℕ = pair_text (pair_head p) in
    let leader_is : List ℕ = server_text (codes "leader ") p.leader in
    let helper_is : List ℕ = server_text (codes "helper ") p.helper in
    let head = pair_len (pair_head p) is.head in
    let leader : length leader_is ≤ 295 = server_len (codes "leader ") p.leader (omega arith) is.leader in
    let helper : length helper_is ≤ 295 = server_len (codes "helper ") p.helper (omega arith) is.helper in
    let said2 : List ℕ = with_content [] head_is in
    let said3 : List ℕ = with_content said2 leader_is in
    let first = line_len [] head_is (leader_is ∷ helper_is ∷ []) in
    let second = line_len said2 leader_is (helper_is ∷ []) in
    let third = line_len said3 helper_is [] in
    let rest = nothing_len (with_content said3 helper_is) in
    omega (arith, head, leader, helper, first, second, third, rest)
