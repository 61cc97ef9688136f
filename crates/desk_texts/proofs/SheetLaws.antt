-- A text is read as a sheet exactly where it spells it, and a line is named exactly where it is the first bad one.
use Rattle.std.proofs.Common.{◌≡◌, inl, inr, ℕ, zero, suc, ◌+◌, List, [], ◌∷◌, ◌++◌, map, length, Option, Some, None, Result, Ok, Err, codes, refl, sym, ap, subst, ◌∙◌, append_assoc, append-nil}
use Rattle.express_texts.specs.GameLines.{◌>>=◌, found_or}
use Rattle.express_texts.specs.GameSpelling.{FaultFrom}
use Rattle.desk_texts.specs.declared.sheet.Head.{Head}
use Rattle.desk_texts.specs.declared.sheet.Sheet.{Sheet}
use Rattle.desk_texts.specs.Checks.{with_content, checked, content_of, checked_lines}
use Rattle.desk_texts.specs.Fields.{head_of, place_of}
use Rattle.desk_texts.specs.Lines.{content_at, lines_in, lines_before, from_first}
use Rattle.desk_texts.specs.Sheets.{line_as, count_of, new_address, addresses_at, sheet_at, sheet_of}
use Rattle.desk_texts.specs.Spelling.{head_text, SpellsHead, SpellsPlace, address_text, SpellsNew, AreNew, IsSheet, contents, SpellsSheet, Says, FaultOfAddresses, FaultOfLines, IsFirstBadLine}
use Rattle.desk_texts.proofs.CheckLaws.{content_found, content_only}
use Rattle.desk_texts.proofs.HeadLaws.{head_found, head_only, place_found, place_only, new_found, new_only}

-- a reader of a content reads exactly what spells
pub record Reads {A : Type 0} (read : List ℕ → Option A) (Spells : A → List ℕ → Type 0) : Type 0 where
  pub found : (content : List ℕ) (a : A) → read content ≡ Some a → Spells a content
  pub only : (content : List ℕ) (a : A) → Spells a content → read content ≡ Some a

reads_head : Reads head_of SpellsHead
reads_head = record { found = head_found; only = head_only }

pub reads_place : (word : List ℕ) → Reads (place_of word) (SpellsPlace word)
reads_place word = record { found = place_found word; only = place_only word }

pub reads_new : (before : List ℕ) → Reads (new_address before) (SpellsNew before)
reads_new before = record { found = new_found before; only = new_only before }

-- ---- one line

-- what a line says with the lines behind it, and what is read of it
abbrev says : List ℕ → List (List ℕ) → List ℕ → Result (List ℕ × List ℕ × List (List ℕ)) ℕ
says said lines content = Ok (content, with_content said content, lines)

abbrev reading : {A : Type 0} → ℕ → (List ℕ → Option A) → List ℕ × List ℕ × List (List ℕ)
    → Result (A × List ℕ × List (List ℕ)) ℕ
reading place read r = found_or place (read r.0) (λ a. Ok (a, r.1, r.2))

-- a line that was read, and the lines behind it
pub record Line {A : Type 0} (said : List ℕ) (Spells : A → List ℕ → Type 0) (lines : List (List ℕ)) : Type 0 where
  pub content : List ℕ
  pub a : A
  pub rest : List (List ℕ)
  pub are : lines ≡ checked said content ∷ rest
  pub spelled : Spells a content

pub line_ok : {A B : Type 0} (place : ℕ) (said : List ℕ) (read : List ℕ → Option A) (Spells : A → List ℕ → Type 0)
    → Reads read Spells → (lines : List (List ℕ)) (f : A × List ℕ × List (List ℕ) → Result B ℕ) (b : B)
    → (line_as place said read lines >>= f) ≡ Ok b
    → (l : Line said Spells lines) × (f (l.a, with_content said l.content, l.rest) ≡ Ok b)
unfolding line_as content_at
line_ok place said read Spells law [] f b h = cc
line_ok {A} {B} place said read Spells law (line ∷ lines) f b h = at_content (content_of said line) refl h
  where
    at_read : (content : List ℕ) → line ≡ checked said content → (r : Option A) → read content ≡ r
        → (found_or place r (λ a. Ok (a, with_content said content, lines)) >>= f) ≡ Ok b
        → (l : Line said Spells (line ∷ lines)) × (f (l.a, with_content said l.content, l.rest) ≡ Ok b)
    at_read content is None e k = cc
    at_read content is (Some a) e k =
        (record { content = content; a = a; rest = lines; are = ap (λ (t : List ℕ). t ∷ lines) is; spelled = law.found content a e }, k)

    at_content : (c : Option (List ℕ)) → content_of said line ≡ c
        → ((found_or place c (says said lines) >>= reading place read) >>= f) ≡ Ok b
        → (l : Line said Spells (line ∷ lines)) × (f (l.a, with_content said l.content, l.rest) ≡ Ok b)
    at_content None e k = cc
    at_content (Some content) e k = at_read content (content_found said line content e) (read content) refl k

pub line_on : {A : Type 0} (place : ℕ) (said : List ℕ) (read : List ℕ → Option A) (Spells : A → List ℕ → Type 0)
    → Reads read Spells → (content : List ℕ) (rest : List (List ℕ)) (a : A) → Spells a content
    → line_as place said read (checked said content ∷ rest) ≡ Ok (a, with_content said content, rest)
unfolding line_as content_at
line_on place said read Spells law content rest a h = rw (content_only said content, law.only content a h) refl

pub line_bad : {A B : Type 0} (place : ℕ) (said : List ℕ) (read : List ℕ → Option A) (Spells : A → List ℕ → Type 0)
    → Reads read Spells → (lines : List (List ℕ)) (f : A × List ℕ × List (List ℕ) → Result B ℕ)
    (Later : A × List ℕ → ℕ → List (List ℕ) → Type 0) (n : ℕ)
    → ((a : A) (more : List ℕ) (rest : List (List ℕ)) → f (a, more, rest) ≡ Err n → Later (a, more) n rest)
    → (line_as place said read lines >>= f) ≡ Err n → FaultFrom place (Says said Spells) Later n lines
unfolding line_as content_at
line_bad place said read Spells law [] f Later n later h = cc
line_bad {A} {B} place said read Spells law (line ∷ lines) f Later n later h =
    at_content (content_of said line) refl h
  where
    at_read : (content : List ℕ) → content_of said line ≡ Some content → (r : Option A) → read content ≡ r
        → (found_or place r (λ a. Ok (a, with_content said content, lines)) >>= f) ≡ Err n
        → FaultFrom place (Says said Spells) Later n (line ∷ lines)
    at_read content is None e k = inl (cc, λ a spelled. unread a.0 spelled.0 spelled.1 spelled.2)
      where
        unread : (a : A) (other : List ℕ) → Spells a other → line ≡ checked said other → ⊥
        unread a other spelled line_is =
            let same : content_of said line ≡ Some other = ap (content_of said) line_is ∙ content_only said other in
            let some = law.only other a spelled in
            let one : content ≡ other = cc in
            let none : read other ≡ None = ap read (sym one) ∙ e in cc
    at_read content is (Some a) e k =
        inr ((a, with_content said content), (content, law.found content a e, content_found said line content is, refl), later a (with_content said content) lines k)

    at_content : (c : Option (List ℕ)) → content_of said line ≡ c
        → ((found_or place c (says said lines) >>= reading place read) >>= f) ≡ Err n
        → FaultFrom place (Says said Spells) Later n (line ∷ lines)
    at_content None e k = inl (cc, λ a spelled. unchecked spelled.0 spelled.2)
      where
        unchecked : (other : List ℕ) → line ≡ checked said other → ⊥
        unchecked other line_is =
            let same : content_of said line ≡ Some other = ap (content_of said) line_is ∙ content_only said other in cc
    at_content (Some content) e k = at_read content e (read content) refl k

pub line_bad_only : {A B : Type 0} (place : ℕ) (said : List ℕ) (read : List ℕ → Option A)
    (Spells : A → List ℕ → Type 0) → Reads read Spells → (lines : List (List ℕ))
    (f : A × List ℕ × List (List ℕ) → Result B ℕ) (Later : A × List ℕ → ℕ → List (List ℕ) → Type 0) (n : ℕ)
    → ((a : A) (more : List ℕ) (rest : List (List ℕ)) → Later (a, more) n rest → f (a, more, rest) ≡ Err n)
    → FaultFrom place (Says said Spells) Later n lines → (line_as place said read lines >>= f) ≡ Err n
unfolding line_as content_at
line_bad_only place said read Spells law [] f Later n later h = ap Err (sym h)
line_bad_only {A} {B} place said read Spells law (line ∷ lines) f Later n later (inl (is, none)) =
    at_content (content_of said line) refl
  where
    at_read : (content : List ℕ) → line ≡ checked said content → (r : Option A) → read content ≡ r
        → (found_or place r (λ a. Ok (a, with_content said content, lines)) >>= f) ≡ Err n
    at_read content line_is None e = ap Err (sym is)
    at_read content line_is (Some a) e =
        absurd (none (a, with_content said content) (content, law.found content a e, line_is, refl))

    at_content : (c : Option (List ℕ)) → content_of said line ≡ c
        → ((found_or place c (says said lines) >>= reading place read) >>= f) ≡ Err n
    at_content None e = ap Err (sym is)
    at_content (Some content) e = at_read content (content_found said line content e) (read content) refl
line_bad_only place said read Spells law (line ∷ lines) f Later n later (inr (r, said_so, h)) =
    rw (said_so.2, content_only said said_so.0, law.only said_so.0 r.0 said_so.1)
    (later r.0 (with_content said said_so.0) lines (subst (λ (m : List ℕ). Later (r.0, m) n lines) said_so.3 h))

-- ---- addresses

pub record New (room : ℕ) (said before : List ℕ) (lines : List (List ℕ)) (all : List ℕ) : Type 0 where
  pub addresses : List ℕ
  pub all_is : all ≡ before ++ addresses
  pub new : AreNew before addresses
  pub behind : List (List ℕ)
  pub lines_are : lines ≡ checked_lines said (map address_text addresses) ++ behind
  pub count : length addresses ≡ room

pub addresses_found : (room place : ℕ) (said before : List ℕ) (lines : List (List ℕ)) (all : List ℕ)
    → addresses_at room place said before lines ≡ Ok all → New room said before lines all
unfolding addresses_at
addresses_found zero place said before lines all h = record {
  addresses = [];
  all_is = (let e : before ≡ all = cc in sym e ∙ sym (append-nil before));
  new = tt;
  behind = lines;
  lines_are = refl;
  count = refl;
}
addresses_found (suc room) place said before lines all h =
    let one = line_ok place said (new_address before) (SpellsNew before) (reads_new before) lines _ all h in
    let l = one.0 in
    let later = addresses_found room (place + 1) (with_content said l.content) (before ++ l.a ∷ []) l.rest all one.1 in
    record {
      addresses = l.a ∷ later.addresses;
      all_is = later.all_is ∙ append_assoc before (l.a ∷ []) later.addresses;
      new = (l.spelled.0, l.spelled.1, later.new);
      behind = later.behind;
      lines_are = l.are ∙ ap (λ (ls : List (List ℕ)). checked said l.content ∷ ls) later.lines_are
          ∙ ap (λ (c : List ℕ). checked said c ∷ (checked_lines (with_content said c) (map address_text later.addresses) ++ later.behind)) l.spelled.2;
      count = ap suc later.count;
    }

pub addresses_only : (place : ℕ) (said before addresses : List ℕ) (behind : List (List ℕ)) → AreNew before addresses
    → addresses_at (length addresses) place said before (checked_lines said (map address_text addresses) ++ behind)
    ≡ Ok (before ++ addresses)
unfolding addresses_at
addresses_only place said before [] behind new = ap Ok (sym (append-nil before))
addresses_only place said before (a ∷ addresses) behind new =
    let content : List ℕ = address_text a in
    let one = line_on place said (new_address before) (SpellsNew before) (reads_new before) content
    (checked_lines (with_content said content) (map address_text addresses) ++ behind) a (new.0, new.1, refl) in
    rw one (addresses_only (place + 1) (with_content said content) (before ++ a ∷ []) addresses behind new.2
    ∙ ap Ok (append_assoc before (a ∷ []) addresses))

-- the faults behind an address
abbrev behind : ℕ → ℕ → List ℕ → ℕ × List ℕ → ℕ → List (List ℕ) → Type 0
behind room place before r = FaultOfAddresses room (place + 1) r.1 (before ++ r.0 ∷ [])

pub addresses_bad : (room place : ℕ) (said before : List ℕ) (lines : List (List ℕ)) (n : ℕ)
    → addresses_at room place said before lines ≡ Err n → FaultOfAddresses room place said before n lines
unfolding addresses_at
addresses_bad zero place said before lines n h = cc
addresses_bad (suc room) place said before lines n h =
    line_bad place said (new_address before) (SpellsNew before) (reads_new before) lines _ (behind room place before) n
    (λ a more rest k. addresses_bad room (place + 1) more (before ++ a ∷ []) rest n k) h

pub addresses_bad_only : (room place : ℕ) (said before : List ℕ) (lines : List (List ℕ)) (n : ℕ)
    → FaultOfAddresses room place said before n lines → addresses_at room place said before lines ≡ Err n
unfolding addresses_at
addresses_bad_only zero place said before lines n h = absurd h
addresses_bad_only (suc room) place said before lines n h =
    line_bad_only place said (new_address before) (SpellsNew before) (reads_new before) lines _ (behind room place before) n
    (λ a more rest k. addresses_bad_only room (place + 1) more (before ++ a ∷ []) rest n k) h

-- ---- a sheet

pub bind_ok : {A B : Type 0} (r : Result A ℕ) (f : A → Result B ℕ) (b : B) → (r >>= f) ≡ Ok b
    → (a : A) × (r ≡ Ok a) × (f a ≡ Ok b)
bind_ok (Ok a) f b h = (a, refl, h)
bind_ok (Err n) f b h = cc

abbrev ok : Sheet → Result Sheet ℕ
ok s = Ok s

ok_is : (x y : Sheet) → ok x ≡ ok y → x ≡ y
ok_is x y h = cc

-- what was found, and the lines that spell it
pub record Found (s : Sheet) (lines : List (List ℕ)) : Type 0 where
  pub sheet : IsSheet s
  pub behind : List (List ℕ)
  pub lines_are : lines ≡ checked_lines [] (contents s) ++ behind

sheet_found : (place : ℕ) (lines : List (List ℕ)) (s : Sheet) → sheet_at place lines ≡ Ok s → Found s lines
unfolding sheet_at
sheet_found place lines s h =
    let one = line_ok place [] head_of SpellsHead reads_head lines _ s h in
    let said1 = with_content [] one.0.content in
    let two = line_ok (place + 1) said1 (place_of (codes "leader ")) (SpellsPlace (codes "leader ")) (reads_place (codes "leader ")) one.0.rest _ s one.1 in
    let said2 = with_content said1 two.0.content in
    let three = line_ok (place + 2) said2 (place_of (codes "helper ")) (SpellsPlace (codes "helper ")) (reads_place (codes "helper ")) two.0.rest _ s two.1 in
    let said3 = with_content said2 three.0.content in
    let last = bind_ok (addresses_at (count_of one.0.a) (place + 3) said3 [] three.0.rest) _ s three.1 in
    let four = addresses_found (count_of one.0.a) (place + 3) said3 [] three.0.rest last.0 last.1 in
    made one.0 two.0 three.0 last.0 four last.2
  where
    made : (one : Line [] SpellsHead lines)
        → (two : Line (with_content [] one.content) (SpellsPlace (codes "leader ")) one.rest)
        → (three : Line (with_content (with_content [] one.content) two.content) (SpellsPlace (codes "helper ")) two.rest)
        → (all : List ℕ)
        → New (count_of one.a) (with_content (with_content (with_content [] one.content) two.content) three.content) [] three.rest all
        → ok (record { head = one.a; leader = two.a; helper = three.a; addresses = all }) ≡ ok s
        → Found s lines
    made one two three all four is =
        let sheet : Sheet = record { head = one.a; leader = two.a; helper = three.a; addresses = four.addresses } in
        let same : sheet ≡ s =
        ap (λ (x : List ℕ). record { head = one.a; leader = two.a; helper = three.a; addresses = x }) (sym four.all_is)
        ∙ ok_is (record { head = one.a; leader = two.a; helper = three.a; addresses = all }) s is in
        subst (λ (x : Sheet). Found x lines) {x = sheet} same (record {
          sheet = record {
            head = one.spelled.0;
            leader = two.spelled.0;
            helper = three.spelled.0;
            addresses = four.new;
            count = four.count;
          };
          behind = four.behind;
          lines_are = one.are
              ∙ ap (λ (ls : List (List ℕ)). checked [] one.content ∷ ls) (two.are
              ∙ ap (λ (ls : List (List ℕ)). checked (with_content [] one.content) two.content ∷ ls) (three.are
              ∙ ap (λ (ls : List (List ℕ)). checked (with_content (with_content [] one.content) two.content) three.content ∷ ls) four.lines_are))
              ∙ ap (λ (c : List ℕ). checked_lines [] (c ∷ (two.content ∷ (three.content ∷ map address_text four.addresses))) ++ four.behind) one.spelled.1
              ∙ ap (λ (c : List ℕ). checked_lines [] (head_text one.a ∷ (c ∷ (three.content ∷ map address_text four.addresses))) ++ four.behind) two.spelled.1
              ∙ ap (λ (c : List ℕ). checked_lines [] (head_text one.a ∷ ((codes "leader " ++ two.a) ∷ (c ∷ map address_text four.addresses))) ++ four.behind) three.spelled.1;
        })

sheet_only : (place : ℕ) (s : Sheet) (behind : List (List ℕ)) → IsSheet s
    → sheet_at place (checked_lines [] (contents s) ++ behind) ≡ Ok s
unfolding sheet_at
sheet_only place s behind is =
    let first : List ℕ = head_text s.head in
    let second : List ℕ = codes "leader " ++ s.leader in
    let third : List ℕ = codes "helper " ++ s.helper in
    let said1 : List ℕ = with_content [] first in
    let said2 : List ℕ = with_content said1 second in
    let said3 : List ℕ = with_content said2 third in
    let last : List (List ℕ) = checked_lines said3 (map address_text s.addresses) ++ behind in
    let addresses : addresses_at (count_of s.head) (place + 3) said3 [] last ≡ Ok s.addresses =
    ap (λ n. addresses_at n (place + 3) said3 [] last) (sym is.count)
    ∙ addresses_only (place + 3) said3 [] s.addresses behind is.addresses in
    rw (
      line_on place [] head_of SpellsHead reads_head first (checked said1 second ∷ (checked said2 third ∷ last)) s.head (is.head, refl),
      line_on (place + 1) said1 (place_of (codes "leader ")) (SpellsPlace (codes "leader ")) (reads_place (codes "leader ")) second (checked said2 third ∷ last) s.leader (is.leader, refl),
      line_on (place + 2) said2 (place_of (codes "helper ")) (SpellsPlace (codes "helper ")) (reads_place (codes "helper ")) third last s.helper (is.helper, refl),
      addresses,
    ) refl

abbrev made_of : Head → List ℕ → List ℕ → List ℕ → Sheet
made_of head leader helper addresses = record { head = head; leader = leader; helper = helper; addresses = addresses }

pub bind_bad : {A B : Type 0} (r : Result A ℕ) (f : A → B) (n : ℕ) → (r >>= (λ a. Ok (f a))) ≡ Err n → r ≡ Err n
bind_bad (Ok a) f n h = cc
bind_bad (Err m) f n h = cc

pub bad_bind : {A B : Type 0} (r : Result A ℕ) (f : A → B) (n : ℕ) → r ≡ Err n → (r >>= (λ a. Ok (f a))) ≡ Err n
bad_bind (Ok a) f n h = cc
bad_bind (Err m) f n h = cc

-- the faults behind each line
abbrev behind_helper : ℕ → Head → List ℕ × List ℕ → ℕ → List (List ℕ) → Type 0
behind_helper place head helper = FaultOfAddresses (count_of head) (place + 3) helper.1 []

abbrev behind_leader : ℕ → Head → List ℕ × List ℕ → ℕ → List (List ℕ) → Type 0
behind_leader place head leader =
    FaultFrom (place + 2) (Says leader.1 (SpellsPlace (codes "helper "))) (behind_helper place head)

abbrev behind_head : ℕ → Head × List ℕ → ℕ → List (List ℕ) → Type 0
behind_head place head =
    FaultFrom (place + 1) (Says head.1 (SpellsPlace (codes "leader "))) (behind_leader place head.0)

sheet_bad : (place : ℕ) (lines : List (List ℕ)) (n : ℕ) → sheet_at place lines ≡ Err n → FaultOfLines place n lines
unfolding sheet_at
sheet_bad place lines n h =
    line_bad place [] head_of SpellsHead reads_head lines _ (behind_head place) n (λ head said1 rest1 k1.
    line_bad (place + 1) said1 (place_of (codes "leader ")) (SpellsPlace (codes "leader ")) (reads_place (codes "leader ")) rest1 _ (behind_leader place head) n (λ leader said2 rest2 k2.
    line_bad (place + 2) said2 (place_of (codes "helper ")) (SpellsPlace (codes "helper ")) (reads_place (codes "helper ")) rest2 _ (behind_helper place head) n (λ helper said3 rest3 k3.
    addresses_bad (count_of head) (place + 3) said3 [] rest3 n (bind_bad (addresses_at (count_of head) (place + 3) said3 [] rest3) (made_of head leader helper) n k3)) k2) k1) h

sheet_bad_only : (place : ℕ) (lines : List (List ℕ)) (n : ℕ) → FaultOfLines place n lines
    → sheet_at place lines ≡ Err n
unfolding sheet_at
sheet_bad_only place lines n h =
    line_bad_only place [] head_of SpellsHead reads_head lines _ (behind_head place) n (λ head said1 rest1 k1.
    line_bad_only (place + 1) said1 (place_of (codes "leader ")) (SpellsPlace (codes "leader ")) (reads_place (codes "leader ")) rest1 _ (behind_leader place head) n (λ leader said2 rest2 k2.
    line_bad_only (place + 2) said2 (place_of (codes "helper ")) (SpellsPlace (codes "helper ")) (reads_place (codes "helper ")) rest2 _ (behind_helper place head) n (λ helper said3 rest3 k3.
    bad_bind (addresses_at (count_of head) (place + 3) said3 [] rest3) (made_of head leader helper) n (addresses_bad_only (count_of head) (place + 3) said3 [] rest3 n k3)) k2) k1) h

-- ---- of texts

abbrev place_in : List ℕ → ℕ
place_in text = lines_before (lines_in text) + 1

pub is_found : (text : List ℕ) (s : Sheet) → sheet_of (lines_in text) ≡ Ok s → SpellsSheet s text
unfolding sheet_of
is_found text s h =
    let f = sheet_found (place_in text) (from_first (lines_in text)) s h in
    record { sheet = f.sheet; behind = f.behind; lines = f.lines_are }

pub is_only : (text : List ℕ) (s : Sheet) → SpellsSheet s text → sheet_of (lines_in text) ≡ Ok s
unfolding sheet_of
is_only text s h = ap (sheet_at (place_in text)) h.lines ∙ sheet_only (place_in text) s h.behind h.sheet

pub is_bad : (text : List ℕ) (n : ℕ) → sheet_of (lines_in text) ≡ Err n → IsFirstBadLine n text
unfolding sheet_of
is_bad text n h = sheet_bad (place_in text) (from_first (lines_in text)) n h

pub is_bad_only : (text : List ℕ) (n : ℕ) → IsFirstBadLine n text → sheet_of (lines_in text) ≡ Err n
unfolding sheet_of
is_bad_only text n h = sheet_bad_only (place_in text) (from_first (lines_in text)) n h
