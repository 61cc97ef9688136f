-- A letter as it is made.
use Rattle.std.proofs.Common.{◌≡◌, ◌∙◌, ℕ, ◌<◌, ◌≤◌, ◌^◌, Bool, true, false, List, [], length, Ok}
use Rattle.std.proofs.Common.{Result, Option, inl, ap, sym, subst, refl, arith}
use Rattle.std.specs.Prelude.{◌&&◌, if◌then◌else◌}
use Rattle.std.proofs.lemmas.Bool.{eq-eqb, le-leb}
use Rattle.std.proofs.lemmas.Nat.{mul-le}
use Rattle.rand_core.specs.Stream.{Stream}
use Rattle.express_words.specs.Seen.{Seen}
use Rattle.node_journal.specs.Disk.{DiskSeen}
use Rattle.desk_texts.specs.Lines.{lines_in}
use Rattle.desk_outside.specs.Calls.{Adds, FolderCall, Placed}
use Rattle.desk_outside.specs.declared.folder.DeskFile.TheVariants.{NextOutbox, Outbox}
use Rattle.desk_outside.specs.declared.folder.Slot.{Slot}
use Rattle.desk_sheets.specs.declared.sheet.Card.{Card}
use Rattle.desk_sheets.specs.declared.fault.SheetFault.{SheetFault}
use Rattle.desk_sheets.specs.Sheets.{card_in}
use Rattle.desk_sheets.specs.Spelling.{IsCard}
use Rattle.desk_steps.specs.Folder.{IsHere, IsUnsent}
use Rattle.letter_pieces.specs.Sizes.{most_parts, most_text, room}
use Rattle.kept_letter.specs.declared.plan.Plan.{Plan}
use Rattle.kept_letter.specs.Letters.{LetterState, is_text_whole, opened_letter, opened_on}
use Rattle.kept_letter.specs.Notes.{Opening}
use Rattle.kept_letter.specs.Plans.{no_plan, plan_by, plan_of, takes_letter}
use Rattle.desk_send.specs.declared.placed.OnItsWay.{OnItsWay}
use Rattle.desk_send.specs.Cards.{FitsCard}
use Rattle.desk_send.specs.Letters.{id_of, new_letter, plan_with, seed_of}
use Rattle.desk_send.specs.Starting.{StartsAt}
use Rattle.desk_send.proofs.DrawLaws.{opening_with}
use Rattle.desk_send.proofs.NoteLaws.{with_all}

-- ---- how many bytes

pub few_bytes : (card : Card) (text : List ℕ) → IsCard card → FitsCard card text → length text < 2 ^ 32
few_bytes card text is fits =
    let head = is.head in
    let few : most_parts (length card.addresses) ≤ 21 = omega (arith, head.few) in
    let wide : room card.width ≤ 4068 = omega (arith, head.width.most) in
    let most = mul-le (most_parts (length card.addresses)) (room card.width) 21 4068 few wide in
    omega (arith, most, fits.most)

-- ---- the plan

both : (a b : Bool) → a ≡ true → b ≡ true → (a && b) ≡ true
both true true one two = refl
both true false one two = two
both false b one two = one

takes : (addresses width count : ℕ) → 1 ≤ addresses → 1 ≤ count → count ≤ most_text addresses width
    → takes_letter addresses width count ≡ true
takes addresses width count some least most =
    both _ _ (le-leb 1 addresses some) (both _ _ (le-leb 1 count least)
    (le-leb count (most_text addresses width) most))

chosen : {A : Type 0} (b : Bool) (x y : A) → b ≡ true → (if b then x else y) ≡ x
chosen true x y is = refl
chosen false x y is = absurd (cc is)

pub plan_read : (card : Card) (text bytes : List ℕ) → card_in (lines_in bytes) ≡ Ok card → IsCard card
    → FitsCard card text → plan_of bytes (length text) ≡ plan_with card text
unfolding plan_of
plan_read card text bytes read is fits =
    ap (λ (r : Result Card SheetFault). plan_by (length text) r) read
    ∙ chosen (takes_letter (length card.addresses) card.width (length text)) (plan_with card text) no_plan
    (takes (length card.addresses) card.width (length text) is.head.some fits.some fits.most)

-- ---- the letter

-- before its text is noted
pub opened_as : (o : Opening) (card : Card) (text bytes : List ℕ) (count : ℕ) (draws : Stream)
    → o ≡ opening_with (seed_of draws) (id_of draws) count bytes → count ≡ length text
    → card_in (lines_in bytes) ≡ Ok card → IsCard card → FitsCard card text
    → opened_letter o ≡ with_all (new_letter card text draws) []
opened_as o card text bytes count draws is long read whole fits =
    ap opened_letter (is ∙ ap (λ (n : ℕ). opening_with (seed_of draws) (id_of draws) n bytes) long)
    ∙ ap (λ (p : Plan). opened_on (opening_with (seed_of draws) (id_of draws) (length text) bytes) p)
    (plan_read card text bytes read whole fits)

pub opened_count : (s : LetterState) (card : Card) (text : List ℕ) (draws : Stream)
    → s ≡ with_all (new_letter card text draws) [] → s.plan.count ≡ length text
opened_count s card text draws is = ap (λ (x : LetterState). x.plan.count) is

pub written_as : (s letter : LetterState) (card : Card) (text : List ℕ) (draws : Stream)
    → s ≡ with_all (new_letter card text draws) [] → letter ≡ with_all s text
    → letter ≡ new_letter card text draws
written_as s letter card text draws is made = made ∙ ap (λ (x : LetterState). with_all x text) is

is_new_whole : (card : Card) (text : List ℕ) (draws : Stream) → FitsCard card text
    → is_text_whole (new_letter card text draws) ≡ true
is_new_whole card text draws fits =
    both _ _ (le-leb 1 (length text) fits.some) (eq-eqb (length text) (length text) refl)

pub unsent : (letter : LetterState) (card : Card) (text : List ℕ) (draws : Stream)
    → letter ≡ new_letter card text draws → FitsCard card text → IsUnsent letter
unsent letter card text draws is fits = record {
  whole = ap is_text_whole is ∙ is_new_whole card text draws fits;
  untried = ap (λ (s : LetterState). s.tries) is;
  silent = ap (λ (s : LetterState). s.client) is;
}

-- ---- in its place

placed_as : {D : Type 0} (slot other : Slot) (old new : Option (List (FolderCall D))) → other ≡ slot
    → Adds old new (Placed (NextOutbox slot) (Outbox slot) false)
    → Adds old new (Placed (NextOutbox other) (Outbox other) false)
placed_as slot other old new is adds =
    subst (λ (s : Slot). Adds old new (Placed (NextOutbox s) (Outbox s) false)) (sym is) adds

pub started_here : {D : Type 0} (shows : D → DiskSeen) (counts : D → Seen) (card : Card) (text : List ℕ)
    (draws : Stream) (slot : Slot) (old new : Option (List (FolderCall D))) (sent : OnItsWay D)
    → StartsAt shows counts (new_letter card text draws) slot old new sent → FitsCard card text
    → IsHere shows sent.slot sent.letter new
started_here shows counts card text draws slot old new sent starts fits =
    inl (record {
      unsent = unsent sent.letter.machine.letter card text draws starts.is fits;
      before = starts.made;
      placed = placed_as slot sent.slot starts.made new starts.at_slot starts.placed;
    })
