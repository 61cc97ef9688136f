-- A text is read as a sheet exactly where it spells it, and a line is named exactly where it is the first bad one.
use Rattle.std.proofs.Common.{◌≡◌, inl, inr, ℕ, suc, ◌+◌, List, [], ◌∷◌, ◌++◌, map, length, Result, Ok, Err, codes, refl, sym, ap, subst, ◌∙◌, append-nil}
use Rattle.express_texts.specs.GameLines.{◌>>=◌}
use Rattle.express_texts.specs.GameSpelling.{FaultFrom}
use Rattle.desk_texts.specs.Checks.{with_content, checked, checked_lines}
use Rattle.desk_texts.specs.Fields.{place_of}
use Rattle.desk_texts.specs.Lines.{lines_in, lines_before, from_first}
use Rattle.desk_texts.specs.Sheets.{line_as, addresses_at}
use Rattle.desk_texts.specs.Spelling.{SpellsPlace, address_text, Says, FaultOfAddresses}
use Rattle.desk_texts.proofs.SheetLaws.{Reads, reads_place, Line, line_ok, line_on, line_bad, line_bad_only, New, addresses_found, addresses_only, addresses_bad, addresses_bad_only, bind_ok, bind_bad, bad_bind}
use Rattle.desk_sheets.specs.declared.head.CardHead.{CardHead}
use Rattle.desk_sheets.specs.declared.head.Head.{Head}
use Rattle.desk_sheets.specs.declared.head.Head.TheVariants as heads
use Rattle.desk_sheets.specs.declared.head.PairHead.{PairHead}
use Rattle.desk_sheets.specs.declared.sheet.Card.{Card}
use Rattle.desk_sheets.specs.declared.sheet.OwnersServer.{OwnersServer}
use Rattle.desk_sheets.specs.declared.sheet.Pair.{Pair}
use Rattle.desk_sheets.specs.declared.sheet.Sheet.{Sheet}
use Rattle.desk_sheets.specs.declared.sheet.Sheet.TheVariants as sheets
use Rattle.desk_sheets.specs.Heads.{head_of}
use Rattle.desk_sheets.specs.Keys.{server_of}
use Rattle.desk_sheets.specs.Sheets.{card_at, pair_at, behind_head, sheet_at, sheet_of}
use Rattle.desk_sheets.specs.Spelling.{head_text, card_text, pair_text, SpellsHead, SpellsServer, IsCardHead, IsPairHead, server_text, card_head, pair_head, IsCard, IsPair, IsSheet, contents, SpellsSheet, FaultOfCard, FaultOfPair, FaultBehind, FaultOfLines, IsFirstBadLine}
use Rattle.desk_sheets.proofs.HeadLaws.{head_found, head_only, server_found, server_only}

reads_head : Reads head_of SpellsHead
reads_head = record { found = head_found; only = head_only }

reads_server : (word : List ℕ) → Reads (server_of word) (SpellsServer word)
reads_server word = record { found = server_found word; only = server_only word }

-- ---- a card behind its first line

-- the text of a place's line
abbrev line_of : List ℕ → List ℕ → List ℕ
line_of word place = word ++ place

abbrev card_of : CardHead → List ℕ → List ℕ → List ℕ → Card
card_of head leader helper addresses =
    record { width = head.width; until = head.until; leader = leader; helper = helper; addresses = addresses }

-- what its lines say
abbrev rest_of_card : Card → List (List ℕ)
rest_of_card c = line_of (codes "leader ") c.leader ∷ (line_of (codes "helper ") c.helper ∷ map address_text c.addresses)

-- what was found behind a card's first line, and the lines that spell it
record FoundCard (head : CardHead) (said : List ℕ) (lines : List (List ℕ)) (c : Card) : Type 0 where
  head_is : card_head c ≡ head
  card : IsCardHead head → IsCard c
  behind : List (List ℕ)
  lines_are : lines ≡ checked_lines said (rest_of_card c) ++ behind

abbrev ok : {A : Type 0} → A → Result A ℕ
ok a = Ok a

ok_is : {A : Type 0} (x y : A) → ok x ≡ ok y → x ≡ y
ok_is x y h = cc

card_found : (place : ℕ) (head : CardHead) (said : List ℕ) (lines : List (List ℕ)) (c : Card)
    → card_at place head said lines ≡ Ok c → FoundCard head said lines c
unfolding card_at
card_found place head said lines c h =
    let two = line_ok (place + 1) said (place_of (codes "leader ")) (SpellsPlace (codes "leader ")) (reads_place (codes "leader ")) lines _ c h in
    let said2 = with_content said two.0.content in
    let three = line_ok (place + 2) said2 (place_of (codes "helper ")) (SpellsPlace (codes "helper ")) (reads_place (codes "helper ")) two.0.rest _ c two.1 in
    let said3 = with_content said2 three.0.content in
    let last = bind_ok (addresses_at head.addresses (place + 3) said3 [] three.0.rest) _ c three.1 in
    let four = addresses_found head.addresses (place + 3) said3 [] three.0.rest last.0 last.1 in
    made two.0 three.0 last.0 four last.2
  where
    made : (two : Line said (SpellsPlace (codes "leader ")) lines)
        → (three : Line (with_content said two.content) (SpellsPlace (codes "helper ")) two.rest)
        → (all : List ℕ)
        → New head.addresses (with_content (with_content said two.content) three.content) [] three.rest all
        → ok (card_of head two.a three.a all) ≡ ok c
        → FoundCard head said lines c
    made two three all four is =
        let found : Card = card_of head two.a three.a four.addresses in
        let same : found ≡ c = ap (card_of head two.a three.a) (sym four.all_is) ∙ ok_is (card_of head two.a three.a all) c is in
        let count : card_head found ≡ head = ap (λ n. record { width = head.width; addresses = n; until = head.until }) four.count in
        subst (λ (x : Card). FoundCard head said lines x) {x = found} same (record {
          head_is = count;
          card = λ first. record {
            head = subst IsCardHead (sym count) first;
            leader = two.spelled.0;
            helper = three.spelled.0;
            addresses = four.new;
          };
          behind = four.behind;
          lines_are = two.are
              ∙ ap (λ (ls : List (List ℕ)). checked said two.content ∷ ls) (three.are
              ∙ ap (λ (ls : List (List ℕ)). checked (with_content said two.content) three.content ∷ ls) four.lines_are)
              ∙ ap (λ (t : List ℕ). checked_lines said (t ∷ (three.content ∷ map address_text four.addresses)) ++ four.behind) two.spelled.1
              ∙ ap (λ (t : List ℕ). checked_lines said (line_of (codes "leader ") two.a ∷ (t ∷ map address_text four.addresses)) ++ four.behind) three.spelled.1;
        })

card_only : (place : ℕ) (c : Card) (said : List ℕ) (behind : List (List ℕ)) → IsCard c
    → card_at place (card_head c) said (checked_lines said (rest_of_card c) ++ behind) ≡ Ok c
unfolding card_at
card_only place c said behind is =
    let second : List ℕ = line_of (codes "leader ") c.leader in
    let third : List ℕ = line_of (codes "helper ") c.helper in
    let said2 : List ℕ = with_content said second in
    let said3 : List ℕ = with_content said2 third in
    let last : List (List ℕ) = checked_lines said3 (map address_text c.addresses) ++ behind in
    rw (
      line_on (place + 1) said (place_of (codes "leader ")) (SpellsPlace (codes "leader ")) (reads_place (codes "leader ")) second (checked said2 third ∷ last) c.leader (is.leader, refl),
      line_on (place + 2) said2 (place_of (codes "helper ")) (SpellsPlace (codes "helper ")) (reads_place (codes "helper ")) third last c.helper (is.helper, refl),
      addresses_only (place + 3) said3 [] c.addresses behind is.addresses,
    ) refl

-- the faults behind a card's second and third line
abbrev behind_helper : ℕ → CardHead → List ℕ × List ℕ → ℕ → List (List ℕ) → Type 0
behind_helper place head helper = FaultOfAddresses head.addresses (place + 3) helper.1 []

abbrev behind_leader : ℕ → CardHead → List ℕ × List ℕ → ℕ → List (List ℕ) → Type 0
behind_leader place head leader =
    FaultFrom (place + 2) (Says leader.1 (SpellsPlace (codes "helper "))) (behind_helper place head)

card_bad : (place : ℕ) (head : CardHead) (said : List ℕ) (lines : List (List ℕ)) (n : ℕ)
    → card_at place head said lines ≡ Err n → FaultOfCard place head said n lines
unfolding card_at
card_bad place head said lines n h =
    line_bad (place + 1) said (place_of (codes "leader ")) (SpellsPlace (codes "leader ")) (reads_place (codes "leader ")) lines _ (behind_leader place head) n (λ leader said2 rest2 k2.
    line_bad (place + 2) said2 (place_of (codes "helper ")) (SpellsPlace (codes "helper ")) (reads_place (codes "helper ")) rest2 _ (behind_helper place head) n (λ helper said3 rest3 k3.
    addresses_bad head.addresses (place + 3) said3 [] rest3 n (bind_bad (addresses_at head.addresses (place + 3) said3 [] rest3) (card_of head leader helper) n k3)) k2) h

card_bad_only : (place : ℕ) (head : CardHead) (said : List ℕ) (lines : List (List ℕ)) (n : ℕ)
    → FaultOfCard place head said n lines → card_at place head said lines ≡ Err n
unfolding card_at
card_bad_only place head said lines n h =
    line_bad_only (place + 1) said (place_of (codes "leader ")) (SpellsPlace (codes "leader ")) (reads_place (codes "leader ")) lines _ (behind_leader place head) n (λ leader said2 rest2 k2.
    line_bad_only (place + 2) said2 (place_of (codes "helper ")) (SpellsPlace (codes "helper ")) (reads_place (codes "helper ")) rest2 _ (behind_helper place head) n (λ helper said3 rest3 k3.
    bad_bind (addresses_at head.addresses (place + 3) said3 [] rest3) (card_of head leader helper) n (addresses_bad_only head.addresses (place + 3) said3 [] rest3 n k3)) k2) h

-- ---- a pair file behind its first line

abbrev pair_of : PairHead → OwnersServer → OwnersServer → Pair
pair_of head leader helper =
    record { width = head.width; boxes = head.boxes; lane = head.lane; leader = leader; helper = helper }

abbrev rest_of_pair : Pair → List (List ℕ)
rest_of_pair p = server_text (codes "leader ") p.leader ∷ (server_text (codes "helper ") p.helper ∷ [])

record FoundPair (head : PairHead) (said : List ℕ) (lines : List (List ℕ)) (p : Pair) : Type 0 where
  head_is : pair_head p ≡ head
  pair : IsPairHead head → IsPair p
  behind : List (List ℕ)
  lines_are : lines ≡ checked_lines said (rest_of_pair p) ++ behind

pair_found : (place : ℕ) (head : PairHead) (said : List ℕ) (lines : List (List ℕ)) (p : Pair)
    → pair_at place head said lines ≡ Ok p → FoundPair head said lines p
unfolding pair_at
pair_found place head said lines p h =
    let two = line_ok (place + 1) said (server_of (codes "leader ")) (SpellsServer (codes "leader ")) (reads_server (codes "leader ")) lines _ p h in
    let said2 = with_content said two.0.content in
    let three = line_ok (place + 2) said2 (server_of (codes "helper ")) (SpellsServer (codes "helper ")) (reads_server (codes "helper ")) two.0.rest _ p two.1 in
    made two.0 three.0 three.1
  where
    made : (two : Line said (SpellsServer (codes "leader ")) lines)
        → (three : Line (with_content said two.content) (SpellsServer (codes "helper ")) two.rest)
        → ok (pair_of head two.a three.a) ≡ ok p → FoundPair head said lines p
    made two three is =
        let found : Pair = pair_of head two.a three.a in
        subst (λ (x : Pair). FoundPair head said lines x) {x = found} (ok_is found p is) (record {
          head_is = refl;
          pair = λ first. record { head = first; leader = two.spelled.0; helper = three.spelled.0 };
          behind = three.rest;
          lines_are = two.are
              ∙ ap (λ (ls : List (List ℕ)). checked said two.content ∷ ls) three.are
              ∙ ap (λ (t : List ℕ). checked_lines said (t ∷ (three.content ∷ [])) ++ three.rest) two.spelled.1
              ∙ ap (λ (t : List ℕ). checked_lines said (server_text (codes "leader ") two.a ∷ (t ∷ [])) ++ three.rest) three.spelled.1;
        })

pair_only : (place : ℕ) (p : Pair) (said : List ℕ) (behind : List (List ℕ)) → IsPair p
    → pair_at place (pair_head p) said (checked_lines said (rest_of_pair p) ++ behind) ≡ Ok p
unfolding pair_at
pair_only place p said behind is =
    let second : List ℕ = server_text (codes "leader ") p.leader in
    let third : List ℕ = server_text (codes "helper ") p.helper in
    let said2 : List ℕ = with_content said second in
    rw (
      line_on (place + 1) said (server_of (codes "leader ")) (SpellsServer (codes "leader ")) (reads_server (codes "leader ")) second (checked said2 third ∷ behind) p.leader (is.leader, refl),
      line_on (place + 2) said2 (server_of (codes "helper ")) (SpellsServer (codes "helper ")) (reads_server (codes "helper ")) third behind p.helper (is.helper, refl),
    ) refl

-- no line behind the third is bad
abbrev none_behind : OwnersServer × List ℕ → ℕ → List (List ℕ) → Type 0
none_behind helper n lines = ⊥

abbrev behind_first : ℕ → OwnersServer × List ℕ → ℕ → List (List ℕ) → Type 0
behind_first place leader = FaultFrom (place + 2) (Says leader.1 (SpellsServer (codes "helper "))) none_behind

pair_bad : (place : ℕ) (head : PairHead) (said : List ℕ) (lines : List (List ℕ)) (n : ℕ)
    → pair_at place head said lines ≡ Err n → FaultOfPair place said n lines
unfolding pair_at
pair_bad place head said lines n h =
    line_bad (place + 1) said (server_of (codes "leader ")) (SpellsServer (codes "leader ")) (reads_server (codes "leader ")) lines _ (behind_first place) n (λ leader said2 rest2 k2.
    line_bad (place + 2) said2 (server_of (codes "helper ")) (SpellsServer (codes "helper ")) (reads_server (codes "helper ")) rest2 _ none_behind n (λ helper said3 rest3 k3. cc) k2) h

pair_bad_only : (place : ℕ) (head : PairHead) (said : List ℕ) (lines : List (List ℕ)) (n : ℕ)
    → FaultOfPair place said n lines → pair_at place head said lines ≡ Err n
unfolding pair_at
pair_bad_only place head said lines n h =
    line_bad_only (place + 1) said (server_of (codes "leader ")) (SpellsServer (codes "leader ")) (reads_server (codes "leader ")) lines _ (behind_first place) n (λ leader said2 rest2 k2.
    line_bad_only (place + 2) said2 (server_of (codes "helper ")) (SpellsServer (codes "helper ")) (reads_server (codes "helper ")) rest2 _ none_behind n (λ helper said3 rest3 k3. absurd k3) k2) h

-- ---- a sheet

-- what was found, and the lines that spell it
record Found (s : Sheet) (lines : List (List ℕ)) : Type 0 where
  sheet : IsSheet s
  behind : List (List ℕ)
  lines_are : lines ≡ checked_lines [] (contents s) ++ behind

sheet_found : (place : ℕ) (lines : List (List ℕ)) (s : Sheet) → sheet_at place lines ≡ Ok s → Found s lines
unfolding sheet_at
sheet_found place lines s h =
    let one = line_ok place [] head_of SpellsHead reads_head lines _ s h in
    at_head one.0.a one.0.content one.0.rest one.0.are one.0.spelled one.1
  where
    at_head : (head : Head) (content : List ℕ) (rest : List (List ℕ)) → lines ≡ checked [] content ∷ rest
        → SpellsHead head content → behind_head place head (with_content [] content) rest ≡ Ok s → Found s lines
    at_head (heads.Card head) content rest are spelled k =
        let got = bind_ok (card_at place head (with_content [] content) rest) _ s k in
        let f = card_found place head (with_content [] content) rest got.0 got.1 in
        subst (λ (x : Sheet). Found x lines) {x = sheets.Card got.0} (ok_is (sheets.Card got.0) s got.2) (record {
          sheet = f.card spelled.0;
          behind = f.behind;
          lines_are = are
              ∙ ap (λ (ls : List (List ℕ)). checked [] content ∷ ls) f.lines_are
              ∙ ap (λ (t : List ℕ). checked_lines [] (t ∷ rest_of_card got.0) ++ f.behind) (spelled.1 ∙ ap card_text (sym f.head_is));
        })
    at_head (heads.Pair head) content rest are spelled k =
        let got = bind_ok (pair_at place head (with_content [] content) rest) _ s k in
        let f = pair_found place head (with_content [] content) rest got.0 got.1 in
        subst (λ (x : Sheet). Found x lines) {x = sheets.Pair got.0} (ok_is (sheets.Pair got.0) s got.2) (record {
          sheet = f.pair spelled.0;
          behind = f.behind;
          lines_are = are
              ∙ ap (λ (ls : List (List ℕ)). checked [] content ∷ ls) f.lines_are
              ∙ ap (λ (t : List ℕ). checked_lines [] (t ∷ rest_of_pair got.0) ++ f.behind) (spelled.1 ∙ ap pair_text (sym f.head_is));
        })

sheet_only : (place : ℕ) (s : Sheet) (behind : List (List ℕ)) → IsSheet s
    → sheet_at place (checked_lines [] (contents s) ++ behind) ≡ Ok s
unfolding sheet_at
sheet_only place (sheets.Card c) behind is =
    let first : List ℕ = card_text (card_head c) in
    rw (
      line_on place [] head_of SpellsHead reads_head first (checked_lines (with_content [] first) (rest_of_card c) ++ behind) (heads.Card (card_head c)) (is.head, refl),
      card_only place c (with_content [] first) behind is,
    ) refl
sheet_only place (sheets.Pair p) behind is =
    let first : List ℕ = pair_text (pair_head p) in
    rw (
      line_on place [] head_of SpellsHead reads_head first (checked_lines (with_content [] first) (rest_of_pair p) ++ behind) (heads.Pair (pair_head p)) (is.head, refl),
      pair_only place p (with_content [] first) behind is,
    ) refl

-- the faults behind the first line
abbrev behind : ℕ → Head × List ℕ → ℕ → List (List ℕ) → Type 0
behind place head = FaultBehind place head.0 head.1

later_bad : (place : ℕ) (head : Head) (said : List ℕ) (lines : List (List ℕ)) (n : ℕ)
    → behind_head place head said lines ≡ Err n → FaultBehind place head said n lines
later_bad place (heads.Card h) said lines n k = card_bad place h said lines n (bind_bad (card_at place h said lines) sheets.Card n k)
later_bad place (heads.Pair h) said lines n k = pair_bad place h said lines n (bind_bad (pair_at place h said lines) sheets.Pair n k)

later_bad_only : (place : ℕ) (head : Head) (said : List ℕ) (lines : List (List ℕ)) (n : ℕ)
    → FaultBehind place head said n lines → behind_head place head said lines ≡ Err n
later_bad_only place (heads.Card h) said lines n k = bad_bind (card_at place h said lines) sheets.Card n (card_bad_only place h said lines n k)
later_bad_only place (heads.Pair h) said lines n k = bad_bind (pair_at place h said lines) sheets.Pair n (pair_bad_only place h said lines n k)

sheet_bad : (place : ℕ) (lines : List (List ℕ)) (n : ℕ) → sheet_at place lines ≡ Err n → FaultOfLines place n lines
unfolding sheet_at
sheet_bad place lines n h =
    line_bad place [] head_of SpellsHead reads_head lines _ (behind place) n (λ head said rest k. later_bad place head said rest n k) h

sheet_bad_only : (place : ℕ) (lines : List (List ℕ)) (n : ℕ) → FaultOfLines place n lines
    → sheet_at place lines ≡ Err n
unfolding sheet_at
sheet_bad_only place lines n h =
    line_bad_only place [] head_of SpellsHead reads_head lines _ (behind place) n (λ head said rest k. later_bad_only place head said rest n k) h

-- ---- of texts

abbrev place_in : List ℕ → ℕ
place_in text = lines_before (lines_in text) + 1

pub is_found : (text : List ℕ) (s : Sheet) → sheet_of (lines_in text) ≡ Ok s → SpellsSheet s text
unfolding sheet_of
is_found text s h =
    let f = sheet_found (place_in text) (from_first (lines_in text)) s h in
    record { sheet = f.sheet; behind = f.behind; lines = f.lines_are }

pub is_only : (text : List ℕ) (s : Sheet) → SpellsSheet s text → sheet_of (lines_in text) ≡ Ok s
unfolding sheet_of
is_only text s h = ap (sheet_at (place_in text)) h.lines ∙ sheet_only (place_in text) s h.behind h.sheet

pub is_bad : (text : List ℕ) (n : ℕ) → sheet_of (lines_in text) ≡ Err n → IsFirstBadLine n text
unfolding sheet_of
is_bad text n h = sheet_bad (place_in text) (from_first (lines_in text)) n h

pub is_bad_only : (text : List ℕ) (n : ℕ) → IsFirstBadLine n text → sheet_of (lines_in text) ≡ Err n
unfolding sheet_of
is_bad_only text n h = sheet_bad_only (place_in text) (from_first (lines_in text)) n h
