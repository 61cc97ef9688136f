-- A text is read as a game exactly where it spells it, and a line is named exactly where it is the one to name.
use Rattle.std.proofs.Common.{◌≡◌, ℕ, ◌⊎◌, inl, inr, Bool, true, false, cond, List, [], ◌∷◌, Contains, Option, Some, None, Result, Ok, Err, codes, arith, refl, sym, ◌∙◌, ap, subst}
use Rattle.express_texts.specs.declared.cloak.AimText.{AimText}
use Rattle.express_texts.specs.declared.cloak.CloakGame.{CloakGame}
use Rattle.express_texts.specs.declared.cloak.GameHeader.{GameHeader}
use Rattle.express_texts.specs.Lines.{lines_of}
use Rattle.express_texts.proofs.LineLaws.{lines_found, lines_only}
use Rattle.express_texts.specs.Fields.{value_line, key_line}
use Rattle.express_texts.specs.Games.{game_header_of, aim_of, is_among}
use Rattle.express_texts.specs.GameLines.{◌>>=◌, found_or, line_at, addresses_on, form_of, registered, game_of}
use Rattle.express_texts.specs.GameSpelling.{SpellsGameHeader, SpellsValueLine, SpellsKeyLine, SpellsAim, SpellsAddresses, SpellsForm, SpellsGame, FaultFrom, FaultOfAddresses, FaultOfForm, IsUnregistered, IsFirstBadGameLine}
use Rattle.express_texts.proofs.GameLineLaws.{value_found, value_only, key_found, key_only, game_header_found, game_header_only, aim_found, aim_only, among_found, among_only, not_among, among_false}
use Rattle.express_texts.proofs.AddressLaws.{Distinct, on_found, on_only, on_bad, on_bad_only}

-- a reader of a line reads exactly what is spelled
record ReadsLine {A : Type 0} (read : List ℕ → Option A) (Spells : A → List ℕ → Type 0) : Type 0 where
  found : (line : List ℕ) (a : A) → read line ≡ Some a → Spells a line
  only : (line : List ℕ) (a : A) → Spells a line → read line ≡ Some a

reads_header : ReadsLine game_header_of SpellsGameHeader
reads_header = record { found = game_header_found; only = game_header_only }

reads_key : (word : List ℕ) → ReadsLine (key_line word) (SpellsKeyLine word)
reads_key word = record { found = key_found word; only = key_only word }

reads_value : (word : List ℕ) → ReadsLine (value_line word) (SpellsValueLine word)
reads_value word = record { found = value_found word; only = value_only word }

reads_aim : (word : List ℕ) (width : ℕ) → ReadsLine (aim_of word width) (SpellsAim word width)
reads_aim word width = record { found = aim_found word width; only = aim_only word width }

-- ---- one line

-- what a line says, and the lines behind it
record Line {A : Type 0} (Spells : A → List ℕ → Type 0) (lines : List (List ℕ)) : Type 0 where
  line : List ℕ
  a : A
  rest : List (List ℕ)
  are : lines ≡ line ∷ rest
  spelled : Spells a line

line_ok : {A B : Type 0} (read : List ℕ → Option A) (Spells : A → List ℕ → Type 0) → ReadsLine read Spells → (n : ℕ) (lines : List (List ℕ)) (f : A × List (List ℕ) → Result B ℕ) (b : B)
    → (line_at n read lines >>= f) ≡ Ok b → (l : Line Spells lines) × (f (l.a, l.rest) ≡ Ok b)
unfolding line_at
line_ok read Spells law n [] f b h = cc
line_ok {A} {B} read Spells law n (line ∷ lines) f b h = at_read (read line) refl h
  where
    at_read : (r : Option A) → read line ≡ r → (found_or n r (λ a. Ok (a, lines)) >>= f) ≡ Ok b → (l : Line Spells (line ∷ lines)) × (f (l.a, l.rest) ≡ Ok b)
    at_read None e k = cc
    at_read (Some a) e k = (record { line = line; a = a; rest = lines; are = refl; spelled = law.found line a e }, k)

line_on : {A : Type 0} (read : List ℕ → Option A) (Spells : A → List ℕ → Type 0) → ReadsLine read Spells → (n : ℕ) (line : List ℕ) (lines : List (List ℕ)) (a : A)
    → Spells a line → line_at n read (line ∷ lines) ≡ Ok (a, lines)
unfolding line_at
line_on read Spells law n line lines a h = rw (law.only line a h) refl

line_bad : {A B : Type 0} (read : List ℕ → Option A) (Spells : A → List ℕ → Type 0) → ReadsLine read Spells → (place : ℕ) (lines : List (List ℕ)) (f : A × List (List ℕ) → Result B ℕ)
    (Later : A → ℕ → List (List ℕ) → Type 0) (n : ℕ) → ((a : A) (rest : List (List ℕ)) → f (a, rest) ≡ Err n → Later a n rest)
    → (line_at place read lines >>= f) ≡ Err n → FaultFrom place Spells Later n lines
unfolding line_at
line_bad read Spells law place [] f Later n later h = cc
line_bad {A} {B} read Spells law place (line ∷ lines) f Later n later h = at_read (read line) refl h
  where
    at_read : (r : Option A) → read line ≡ r → (found_or place r (λ a. Ok (a, lines)) >>= f) ≡ Err n → FaultFrom place Spells Later n (line ∷ lines)
    at_read None e k = inl (cc, λ a spelled. unread a (law.only line a spelled))
      where
        unread : (a : A) → read line ≡ Some a → ⊥
        unread a some = cc
    at_read (Some a) e k = inr (a, law.found line a e, later a lines k)

line_bad_only : {A B : Type 0} (read : List ℕ → Option A) (Spells : A → List ℕ → Type 0) → ReadsLine read Spells → (place : ℕ) (lines : List (List ℕ)) (f : A × List (List ℕ) → Result B ℕ)
    (Later : A → ℕ → List (List ℕ) → Type 0) (n : ℕ) → ((a : A) (rest : List (List ℕ)) → Later a n rest → f (a, rest) ≡ Err n)
    → FaultFrom place Spells Later n lines → (line_at place read lines >>= f) ≡ Err n
unfolding line_at
line_bad_only read Spells law place [] f Later n later h = ap Err (sym h)
line_bad_only {A} {B} read Spells law place (line ∷ lines) f Later n later (inl (is, none)) = at_read (read line) refl
  where
    at_read : (r : Option A) → read line ≡ r → (found_or place r (λ a. Ok (a, lines)) >>= f) ≡ Err n
    at_read None e = ap Err (sym is)
    at_read (Some a) e = absurd (none a (law.found line a e))
line_bad_only read Spells law place (line ∷ lines) f Later n later (inr (a, spelled, h)) = rw (law.only line a spelled) (later a lines h)

bind_ok : {A B : Type 0} (r : Result A ℕ) (f : A → Result B ℕ) (b : B) → (r >>= f) ≡ Ok b → (a : A) × (r ≡ Ok a) × (f a ≡ Ok b)
bind_ok (Ok a) f b h = (a, refl, h)
bind_ok (Err n) f b h = cc

bind_bad : {A B : Type 0} (r : Result A ℕ) (f : A → Result B ℕ) (n : ℕ) → (r >>= f) ≡ Err n → (r ≡ Err n) ⊎ ((a : A) × (r ≡ Ok a) × (f a ≡ Err n))
bind_bad (Ok a) f n h = inr (a, refl, h)
bind_bad (Err m) f n h = inl cc

-- ---- the form

no_pairs : Distinct []
no_pairs i j d h k = absurd (omega (arith, k))

ok_is : (r : Result CloakGame ℕ) (x y : CloakGame) → r ≡ Ok x → r ≡ Ok y → x ≡ y
ok_is r x y h k = cc

form_found : (lines : List (List ℕ)) (game : CloakGame) → form_of lines ≡ Ok game → SpellsForm game lines
unfolding form_of
form_found lines game h =
    let one = line_ok game_header_of SpellsGameHeader reads_header 1 lines _ game h in
    let header = one.0.a in
    let two = line_ok (key_line (codes "ckey ")) (SpellsKeyLine (codes "ckey ")) (reads_key (codes "ckey ")) 2 one.0.rest _ game one.1 in
    let three = line_ok (value_line (codes "sigma ")) (SpellsValueLine (codes "sigma ")) (reads_value (codes "sigma ")) 3 two.0.rest _ game two.1 in
    let four = line_ok (aim_of (codes "from ") header.width) (SpellsAim (codes "from ") header.width) (reads_aim (codes "from ") header.width) 4 three.0.rest _ game three.1 in
    let five = line_ok (aim_of (codes "to ") header.width) (SpellsAim (codes "to ") header.width) (reads_aim (codes "to ") header.width) 5 four.0.rest _ game four.1 in
    let last = bind_ok (addresses_on [] five.0.rest) _ game five.1 in
    let found : CloakGame = record {
      viewer = header.viewer;
      width = header.width;
      seed = header.seed;
      ckey = two.0.a;
      sigma = three.0.a;
      old_aim = four.0.a;
      new_aim = five.0.a;
      addresses = last.0;
    } in
    let is = ok_is (Ok found) found game refl last.2 in
    let read = on_found [] five.0.rest last.0 no_pairs (omega arith) last.1 in
    let tail5 = ap (λ (ls : List (List ℕ)). four.0.line ∷ ls) five.0.are in
    let tail4 = ap (λ (ls : List (List ℕ)). three.0.line ∷ ls) (four.0.are ∙ tail5) in
    let tail3 = ap (λ (ls : List (List ℕ)). two.0.line ∷ ls) (three.0.are ∙ tail4) in
    let whole = one.0.are ∙ ap (λ (ls : List (List ℕ)). one.0.line ∷ ls) (two.0.are ∙ tail3) in
    subst (λ (g : CloakGame). SpellsForm g lines) {x = found} is (record {
      first = one.0.line;
      ckey = two.0.line;
      sigma = three.0.line;
      from = four.0.line;
      to = five.0.line;
      others = five.0.rest;
      are = whole;
      header = one.0.spelled;
      ckey_spelled = two.0.spelled;
      sigma_spelled = three.0.spelled;
      from_spelled = four.0.spelled;
      to_spelled = five.0.spelled;
      addresses = subst (λ (xs : List ℕ). SpellsAddresses xs five.0.rest) (sym read.is) read.spelled;
      some = read.some;
      few = read.few;
      distinct = read.distinct;
    })

form_only : (lines : List (List ℕ)) (game : CloakGame) → SpellsForm game lines → form_of lines ≡ Ok game
unfolding form_of
form_only lines game h =
    let header : GameHeader = record { viewer = game.viewer; width = game.width; seed = game.seed } in
    rw (
      h.are,
      line_on game_header_of SpellsGameHeader reads_header 1 h.first (h.ckey ∷ (h.sigma ∷ (h.from ∷ (h.to ∷ h.others)))) header h.header,
      line_on (key_line (codes "ckey ")) (SpellsKeyLine (codes "ckey ")) (reads_key (codes "ckey ")) 2 h.ckey (h.sigma ∷ (h.from ∷ (h.to ∷ h.others))) game.ckey h.ckey_spelled,
      line_on (value_line (codes "sigma ")) (SpellsValueLine (codes "sigma ")) (reads_value (codes "sigma ")) 3 h.sigma (h.from ∷ (h.to ∷ h.others)) game.sigma h.sigma_spelled,
      line_on (aim_of (codes "from ") game.width) (SpellsAim (codes "from ") game.width) (reads_aim (codes "from ") game.width) 4 h.from (h.to ∷ h.others) game.old_aim h.from_spelled,
      line_on (aim_of (codes "to ") game.width) (SpellsAim (codes "to ") game.width) (reads_aim (codes "to ") game.width) 5 h.to h.others game.new_aim h.to_spelled,
      on_only [] game.addresses h.others h.addresses h.distinct h.some h.few,
    ) refl

addresses_bad : (lines : List (List ℕ)) (n : ℕ) → addresses_on [] lines ≡ Err n → FaultOfAddresses n lines
addresses_bad lines n h =
    let r = on_bad [] lines n no_pairs (omega arith) h in
    record { before = r.good; addresses = r.more; spelled = r.spelled; few = r.few; distinct = r.distinct; stop = r.stop; place = r.place }

addresses_bad_only : (lines : List (List ℕ)) (n : ℕ) → FaultOfAddresses n lines → addresses_on [] lines ≡ Err n
addresses_bad_only lines n r = on_bad_only [] r.addresses r.before lines r.spelled r.distinct r.few r.stop ∙ ap Err (sym r.place)

last_bad : (r : Result (List ℕ) ℕ) (f : List ℕ → CloakGame) (n : ℕ) → (r >>= λ a. Ok (f a)) ≡ Err n → r ≡ Err n
last_bad (Ok a) f n h = cc
last_bad (Err m) f n h = cc

bad_on : {A B : Type 0} (r : Result A ℕ) (f : A → Result B ℕ) (n : ℕ) → r ≡ Err n → (r >>= f) ≡ Err n
bad_on (Ok a) f n h = cc
bad_on (Err m) f n h = cc

-- the faults behind each of the first five lines
abbrev behind_to : AimText → ℕ → List (List ℕ) → Type 0
behind_to to = FaultOfAddresses

abbrev behind_from : ℕ → AimText → ℕ → List (List ℕ) → Type 0
behind_from width from = FaultFrom 5 (SpellsAim (codes "to ") width) behind_to

abbrev behind_sigma : ℕ → ℕ → ℕ → List (List ℕ) → Type 0
behind_sigma width sigma = FaultFrom 4 (SpellsAim (codes "from ") width) (behind_from width)

abbrev behind_ckey : ℕ → List ℕ → ℕ → List (List ℕ) → Type 0
behind_ckey width ckey = FaultFrom 3 (SpellsValueLine (codes "sigma ")) (behind_sigma width)

abbrev behind_header : GameHeader → ℕ → List (List ℕ) → Type 0
behind_header header = FaultFrom 2 (SpellsKeyLine (codes "ckey ")) (behind_ckey header.width)

fault_found : (lines : List (List ℕ)) (n : ℕ) → form_of lines ≡ Err n → FaultOfForm n lines
unfolding form_of
fault_found lines n h =
    line_bad game_header_of SpellsGameHeader reads_header 1 lines _ behind_header n (λ header rest k.
    line_bad (key_line (codes "ckey ")) (SpellsKeyLine (codes "ckey ")) (reads_key (codes "ckey ")) 2 rest _ (behind_ckey header.width) n (λ ckey rest k.
    line_bad (value_line (codes "sigma ")) (SpellsValueLine (codes "sigma ")) (reads_value (codes "sigma ")) 3 rest _ (behind_sigma header.width) n (λ sigma rest k.
    line_bad (aim_of (codes "from ") header.width) (SpellsAim (codes "from ") header.width) (reads_aim (codes "from ") header.width) 4 rest _ (behind_from header.width) n (λ from rest k.
    line_bad (aim_of (codes "to ") header.width) (SpellsAim (codes "to ") header.width) (reads_aim (codes "to ") header.width) 5 rest _ behind_to n (λ to rest k.
    addresses_bad rest n (last_bad (addresses_on [] rest) _ n k)) k) k) k) k) h

fault_only : (lines : List (List ℕ)) (n : ℕ) → FaultOfForm n lines → form_of lines ≡ Err n
unfolding form_of
fault_only lines n h =
    line_bad_only game_header_of SpellsGameHeader reads_header 1 lines _ behind_header n (λ header rest k.
    line_bad_only (key_line (codes "ckey ")) (SpellsKeyLine (codes "ckey ")) (reads_key (codes "ckey ")) 2 rest _ (behind_ckey header.width) n (λ ckey rest k.
    line_bad_only (value_line (codes "sigma ")) (SpellsValueLine (codes "sigma ")) (reads_value (codes "sigma ")) 3 rest _ (behind_sigma header.width) n (λ sigma rest k.
    line_bad_only (aim_of (codes "from ") header.width) (SpellsAim (codes "from ") header.width) (reads_aim (codes "from ") header.width) 4 rest _ (behind_from header.width) n (λ from rest k.
    line_bad_only (aim_of (codes "to ") header.width) (SpellsAim (codes "to ") header.width) (reads_aim (codes "to ") header.width) 5 rest _ behind_to n (λ to rest k.
    bad_on (addresses_on [] rest) _ n (addresses_bad_only rest n k)) k) k) k) k) h

-- ---- the targets

record Registered (game all : CloakGame) : Type 0 where
  is : game ≡ all
  from : Contains game.addresses game.old_aim.address
  to : Contains game.addresses game.new_aim.address

registered_found : (game all : CloakGame) → registered game ≡ Ok all → Registered game all
unfolding registered
registered_found game all h = at_test (is_among game.old_aim.address game.addresses) (is_among game.new_aim.address game.addresses) refl refl h
  where
    at_test : (t u : Bool) → is_among game.old_aim.address game.addresses ≡ t → is_among game.new_aim.address game.addresses ≡ u
        → cond {A = Result CloakGame ℕ} t (cond {A = Result CloakGame ℕ} u (Ok game) (Err 5)) (Err 4) ≡ Ok all → Registered game all
    at_test true true e f k = record { is = cc; from = among_found game.old_aim.address game.addresses e; to = among_found game.new_aim.address game.addresses f }
    at_test true false e f k = cc
    at_test false u e f k = cc

registered_only : (game : CloakGame) → Contains game.addresses game.old_aim.address → Contains game.addresses game.new_aim.address → registered game ≡ Ok game
unfolding registered
registered_only game from to = rw (among_only game.old_aim.address game.addresses from, among_only game.new_aim.address game.addresses to) refl

unregistered_found : (game : CloakGame) (n : ℕ) → registered game ≡ Err n → IsUnregistered n game
unfolding registered
unregistered_found game n h = at_test (is_among game.old_aim.address game.addresses) (is_among game.new_aim.address game.addresses) refl refl h
  where
    at_test : (t u : Bool) → is_among game.old_aim.address game.addresses ≡ t → is_among game.new_aim.address game.addresses ≡ u
        → cond {A = Result CloakGame ℕ} t (cond {A = Result CloakGame ℕ} u (Ok game) (Err 5)) (Err 4) ≡ Err n → IsUnregistered n game
    at_test true true e f k = cc
    at_test true false e f k = inr (cc, among_found game.old_aim.address game.addresses e, among_false game.new_aim.address game.addresses f)
    at_test false u e f k = inl (cc, among_false game.old_aim.address game.addresses e)

unregistered_only : (game : CloakGame) (n : ℕ) → IsUnregistered n game → registered game ≡ Err n
unfolding registered
unregistered_only game n (inl (is, none)) = rw (not_among game.old_aim.address game.addresses none) (ap Err (sym is))
unregistered_only game n (inr (is, from, none)) = rw (among_only game.old_aim.address game.addresses from, not_among game.new_aim.address game.addresses none) (ap Err (sym is))

-- ---- the text

pub game_found : (text : List ℕ) (game : CloakGame) → game_of text ≡ Ok game → SpellsGame game text
game_found text game h =
    let form = bind_ok (form_of (lines_of text)) registered game h in
    let both = registered_found form.0 game form.2 in
    let spelled = form_found (lines_of text) form.0 form.1 in
    subst (λ (g : CloakGame). SpellsGame g text) both.is
    (record { lines = lines_of text; are = lines_found text; form = spelled; from_registered = both.from; to_registered = both.to })

pub game_only : (text : List ℕ) (game : CloakGame) → SpellsGame game text → game_of text ≡ Ok game
game_only text game h =
    rw (lines_only h.lines text h.are, form_only h.lines game h.form) (registered_only game h.from_registered h.to_registered)

pub bad_game_found : (text : List ℕ) (n : ℕ) → game_of text ≡ Err n → IsFirstBadGameLine n text
bad_game_found text n h = (lines_of text, lines_found text, at_round (bind_bad (form_of (lines_of text)) registered n h))
  where
    at_round : (form_of (lines_of text) ≡ Err n) ⊎ ((game : CloakGame) × (form_of (lines_of text) ≡ Ok game) × (registered game ≡ Err n))
        → FaultOfForm n (lines_of text) ⊎ ((game : CloakGame) × SpellsForm game (lines_of text) × IsUnregistered n game)
    at_round (inl k) = inl (fault_found (lines_of text) n k)
    at_round (inr (game, is, k)) = inr (game, form_found (lines_of text) game is, unregistered_found game n k)

pub bad_game_only : (text : List ℕ) (n : ℕ) → IsFirstBadGameLine n text → game_of text ≡ Err n
bad_game_only text n (lines, are, inl fault) = rw (lines_only lines text are, fault_only lines n fault) refl
bad_game_only text n (lines, are, inr (game, spelled, none)) = rw (lines_only lines text are, form_only lines game spelled) (unregistered_only game n none)
