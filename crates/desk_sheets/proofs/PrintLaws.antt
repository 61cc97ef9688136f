-- What is printed of a sheet has the sheet's lines.
use Rattle.std.proofs.Common.{◌≡◌, ℕ, ◌^◌, ◌<◌, ◌≤◌, List, [], ◌∷◌, ◌++◌, map, length, Ok, Option, Some, None, codes, refl, sym, ap, ◌∙◌, arith, append-nil}
use Rattle.std.specs.Prelude.{IfSome}
use Rattle.std.specs.Fmt.{decimal}
use Rattle.hex.specs.Hex.{lower_digits}
use Rattle.express_texts.specs.Lines.{HasNoLf}
use Rattle.express_texts.proofs.LineLaws.{lines_only}
use Rattle.desk_texts.specs.declared.day.Day.{Day}
use Rattle.desk_texts.specs.Checks.{with_content, checked, checked_lines}
use Rattle.desk_texts.specs.Days.{IsDay, day_text}
use Rattle.desk_texts.specs.Lines.{trimmed, lines_in, from_first}
use Rattle.desk_texts.specs.Printing.{printed_from}
use Rattle.desk_texts.specs.Spelling.{address_text}
use Rattle.desk_texts.proofs.PrintLaws.{HasNoLf-append, HasNoLf-encode_with, HasNoLf-digits, HasNoLf-decimal, spaced, spaced_last, day_no_lf, bytes_no_lf, AreLfFree, addresses_no_lf, all_stay, are_lines, begins_card, begins_pair, nothing_before, one_more, no_more}
use Rattle.desk_texts.proofs.TextLaws.{place_bytes}
use Rattle.desk_sheets.specs.declared.head.CardHead.{CardHead}
use Rattle.desk_sheets.specs.declared.head.PairHead.{PairHead}
use Rattle.desk_sheets.specs.declared.sheet.Card.{Card}
use Rattle.desk_sheets.specs.declared.sheet.OwnersServer.{OwnersServer}
use Rattle.desk_sheets.specs.declared.sheet.Pair.{Pair}
use Rattle.desk_sheets.specs.declared.sheet.Sheet.TheVariants as sheets
use Rattle.desk_sheets.specs.Keys.{key_digits}
use Rattle.desk_sheets.specs.Printing.{printed_card, printed_pair}
use Rattle.desk_sheets.specs.Sheets.{as_card, as_pair, card_in, pair_in}
use Rattle.desk_sheets.specs.Spelling.{until_text, card_text, pair_text, IsCardHead, IsPairHead, IsServer, server_text, card_head, pair_head, IsCard, IsPair, card_contents, pair_contents}
use Rattle.desk_sheets.proofs.JudgeLaws.{told_only}

-- ---- no line has an LF in it

until_no_lf : (until : Option Day) → IfSome until IsDay → HasNoLf (until_text until)
until_no_lf None is = tt
until_no_lf (Some day) is = HasNoLf-append (codes " ") (day_text day) (search arith) (day_no_lf day is)

card_no_lf : (h : CardHead) → IsCardHead h → HasNoLf (card_text h)
card_no_lf h is =
    let width = is.width.most in let few = is.few in
    let tail = spaced h.addresses (until_text h.until) (omega (arith, few)) (until_no_lf h.until is.until) in
    HasNoLf-append (codes "express card 2 ") _ (search arith) (HasNoLf-append (decimal h.width) _ (HasNoLf-decimal h.width (omega (arith, width))) tail)

pair_no_lf : (h : PairHead) → IsPairHead h → HasNoLf (pair_text h)
pair_no_lf h is =
    let width = is.width.most in let few = is.few in let lane = is.lane in
    let tail1 = spaced_last h.lane (omega (arith, lane)) in
    let tail2 = spaced h.boxes _ (omega (arith, few)) tail1 in
    HasNoLf-append (codes "express pair 2 ") _ (search arith) (HasNoLf-append (decimal h.width) _ (HasNoLf-decimal h.width (omega (arith, width))) tail2)

server_no_lf : (word : List ℕ) (s : OwnersServer) → HasNoLf word → IsServer s → HasNoLf (server_text word s)
server_no_lf word s none is =
    let digits = HasNoLf-encode_with lower_digits s.key.0 HasNoLf-digits in
    let key = HasNoLf-append (codes " ") (key_digits s.key) (search arith) digits in
    HasNoLf-append word _ none (HasNoLf-append s.place _ (bytes_no_lf s.place (place_bytes s.place is.place)) key)

card_lines : (c : Card) → IsCard c → AreLfFree (card_contents c)
card_lines c is = (
  card_no_lf (card_head c) is.head,
  (
    HasNoLf-append (codes "leader ") c.leader (search arith) (bytes_no_lf c.leader (place_bytes c.leader is.leader)),
    (
      HasNoLf-append (codes "helper ") c.helper (search arith) (bytes_no_lf c.helper (place_bytes c.helper is.helper)),
      addresses_no_lf c.addresses,
    ),
  ),
)

pair_lines : (p : Pair) → IsPair p → AreLfFree (pair_contents p)
pair_lines p is = (
  pair_no_lf (pair_head p) is.head,
  (
    server_no_lf (codes "leader ") p.leader (search arith) is.leader,
    (server_no_lf (codes "helper ") p.helper (search arith) is.helper, tt),
  ),
)

-- ---- reading what is printed gives it again

lines_printed : (contents : List (List ℕ)) → AreLfFree contents
    → lines_in (printed_from [] contents) ≡ checked_lines [] contents
lines_printed contents free =
    ap (λ (ls : List (List ℕ)). map trimmed ls)
    (lines_only (checked_lines [] contents) (printed_from [] contents) (are_lines [] contents free))
    ∙ all_stay [] contents

pub card_again : (c : Card) → IsCard c → card_in (lines_in (printed_card c)) ≡ Ok c
card_again c is =
    ap as_card (told_only (printed_card c) (sheets.Card c) (record {
      sheet = is;
      behind = [];
      lines = ap from_first (lines_printed (card_contents c) (card_lines c is))
          ∙ nothing_before _ _ (begins_card _)
          ∙ sym (append-nil (checked_lines [] (card_contents c)));
    }))

pub pair_again : (p : Pair) → IsPair p → pair_in (lines_in (printed_pair p)) ≡ Ok p
pair_again p is =
    ap as_pair (told_only (printed_pair p) (sheets.Pair p) (record {
      sheet = is;
      behind = [];
      lines = ap from_first (lines_printed (pair_contents p) (pair_lines p is))
          ∙ nothing_before _ _ (begins_pair _)
          ∙ sym (append-nil (checked_lines [] (pair_contents p)));
    }))

-- ---- three lines are added

-- a line was added to a text
pub record Adds (text said content new_text new_said : List ℕ) : Type 0 where
  pub text_is : new_text ≡ text ++ (checked said content ++ 10 ∷ [])
  pub said_is : new_said ≡ with_content said content

one_line : (t s a u r : List ℕ) (rest : List (List ℕ)) → Adds t s a u r
    → u ++ printed_from r rest ≡ t ++ printed_from s (a ∷ rest)
one_line t s a u r rest adds = rw (adds.text_is, adds.said_is) (one_more t s a rest)

pub three_lines : (t0 s0 t1 s1 t2 s2 t3 s3 a b c x y z : List ℕ) (rest : List (List ℕ)) → t0 ≡ [] → s0 ≡ []
    → Adds t0 s0 a t1 s1 → Adds t1 s1 b t2 s2 → Adds t2 s2 c t3 s3 → a ≡ x → b ≡ y → c ≡ z
    → t3 ++ printed_from s3 rest ≡ printed_from [] (x ∷ (y ∷ (z ∷ rest)))
three_lines t0 s0 t1 s1 t2 s2 t3 s3 a b c x y z rest no_text nothing one two three a_is b_is c_is =
    one_line t2 s2 c t3 s3 rest three
    ∙ one_line t1 s1 b t2 s2 (c ∷ rest) two
    ∙ one_line t0 s0 a t1 s1 (b ∷ (c ∷ rest)) one
    ∙ rw (no_text, nothing, a_is, b_is, c_is) refl

pub ends_here : (text said : List ℕ) → text ≡ text ++ printed_from said []
ends_here text said = sym (no_more text said)
