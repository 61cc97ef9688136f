-- A text asks exactly what it spells.
use Rattle.std.proofs.Common.{◌≡◌, ℕ, zero, suc, ◌<◌, ◌≤◌, ◌^◌, inl, inr, List, [], ◌∷◌, ◌++◌, Option, Some, option_map, Ok, codes, length, take, drop, arith, refl, sym, ◌∙◌, ap, subst}
use Rattle.std.specs.Fmt.{decimal}
use Rattle.std.proofs.lemmas.List.{take-append-drop}
use Rattle.hex.specs.Hex.{decode_sized}
use Rattle.hex.proofs.HexLemmas.{decode_sized-ok}
use Rattle.express_words.specs.declared.settings.Settings.{Settings}
use Rattle.schedule_text.specs.declared.schedule.Asked.{Asked}
use Rattle.schedule_text.specs.declared.schedule.Asked.TheVariants.{Register, Write, Read, Retire}
use Rattle.express_texts.specs.LineFields.{◌>>=◌, after, spelled_word, word_at, message_of}
use Rattle.express_texts.specs.Numbers.{last_number}
use Rattle.express_texts.specs.WordSpelling.{SpellsWord}
use Rattle.express_texts.proofs.FieldLaws.{bind_some, map_some, after_found, after_only, word_found, word_only, message_found, message_only}
use Rattle.express_texts.proofs.NumberLaws.{last_found, last_only}
use Rattle.schedule_text.specs.Fields.{or_else}
use Rattle.schedule_text.specs.Grammar.{register_of, read_of, retire_of, target_of, write_of, asked_of}
use Rattle.schedule_text.specs.Spelling.{SpellsAsked}
use Rattle.schedule_text.proofs.FieldLaws.{or_else_some}

-- bytes in front and what follows them
halves : (n : ℕ) (bytes : List ℕ) → bytes ≡ take n bytes ++ drop n bytes
halves n bytes = sym (take-append-drop n bytes)

front_of : (front rest : List ℕ) (n : ℕ) → length front ≡ n
    → (take n (front ++ rest) ≡ front) × (drop n (front ++ rest) ≡ rest)
front_of [] rest zero h = (refl, refl)
front_of [] rest (suc n) h = absurd (omega (arith, h))
front_of (x ∷ front) rest zero h = absurd (omega (arith, h))
front_of (x ∷ front) rest (suc n) h =
    let r = front_of front rest n (omega (arith, h)) in (ap (λ ys. x ∷ ys) r.0, r.1)

register_found : (settings : Settings) (text : List ℕ) (asked : Asked) → register_of text ≡ Some asked
    → SpellsAsked settings asked text
unfolding register_of
register_found settings text asked k =
    let a = bind_some (after (codes "register ") text) (λ digits. option_map Register (spelled_word digits))
    asked k in
    let m = map_some Register (spelled_word a.0) asked a.2 in
    subst (λ (x : Asked). SpellsAsked settings x text) m.2
    (a.0, word_found a.0 m.0 m.1, after_found (codes "register ") text a.0 a.1)

-- a word, and a number and nothing more
pub word_number_found : {A : Type 0} (word : List ℕ) (most : ℕ) (make : ℕ → A) (text : List ℕ) (x : A)
    → most < 2 ^ 64
    → (after word text >>= λ number. option_map make (last_number 0 most number)) ≡ Some x
    → (n : ℕ) × (n ≤ most) × (text ≡ word ++ decimal n) × (make n ≡ x)
word_number_found word most make text x small k =
    let a = bind_some (after word text) (λ number. option_map make (last_number 0 most number)) x k in
    let m = map_some make (last_number 0 most a.0) x a.2 in
    let n = last_found 0 most a.0 m.0 small m.1 in
    (m.0, n.2, after_found word text a.0 a.1 ∙ ap (λ d. word ++ d) n.0, m.2)

read_found : (settings : Settings) (text : List ℕ) (asked : Asked) → read_of text ≡ Some asked
    → SpellsAsked settings asked text
unfolding read_of
read_found settings text asked k =
    let n = word_number_found (codes "read ") 4095 Read text asked (omega arith) k in
    subst (λ (x : Asked). SpellsAsked settings x text) n.3 (n.1, n.2)

retire_found : (settings : Settings) (text : List ℕ) (asked : Asked) → retire_of text ≡ Some asked
    → SpellsAsked settings asked text
unfolding retire_of
retire_found settings text asked k =
    let n = word_number_found (codes "retire ") 4095 Retire text asked (omega arith) k in
    subst (λ (x : Asked). SpellsAsked settings x text) n.3 (n.1, n.2)

-- what target_of finds
target_found : (text : List ℕ) (found : ℕ × List ℕ) → target_of text ≡ Some found
    → (digits : List ℕ) × SpellsWord found.0 digits
    × (text ≡ codes "write " ++ (digits ++ (codes " " ++ found.1)))
unfolding target_of word_at
target_found text found k =
    let a = bind_some (after (codes "write ") text) _ found k in
    let b = bind_some (word_at a.0) _ found a.2 in
    let d = bind_some (after (codes " ") b.0.1) _ found b.2 in
    let m = map_some (λ address. (address, drop 32 a.0)) (spelled_word (take 32 a.0)) b.0 b.1 in
    let target : m.0 ≡ b.0.0 = ap (λ (r : ℕ × List ℕ). r.0) m.2 in
    let rest : drop 32 a.0 ≡ b.0.1 = ap (λ (r : ℕ × List ℕ). r.1) m.2 in
    let is : (b.0.0, d.0) ≡ found = some_is _ _ d.2 in
    let spelled : SpellsWord found.0 (take 32 a.0) =
    subst (λ (x : ℕ). SpellsWord x (take 32 a.0)) (target ∙ ap (λ (r : ℕ × List ℕ). r.0) is)
    (word_found (take 32 a.0) m.0 m.1) in (
      take 32 a.0,
      spelled,
      after_found (codes "write ") text a.0 a.1
          ∙ ap (λ r. codes "write " ++ r) (halves 32 a.0
          ∙ ap (λ r. take 32 a.0 ++ r) (rest ∙ after_found (codes " ") b.0.1 d.0 d.1
          ∙ ap (λ r. codes " " ++ r) (ap (λ (r : ℕ × List ℕ). r.1) is))),
    )
  where
    some_is : (x y : ℕ × List ℕ) → Some x ≡ Some y → x ≡ y
    some_is x y h = cc

target_only : (target : ℕ) (digits more : List ℕ) → SpellsWord target digits
    → target_of (codes "write " ++ (digits ++ (codes " " ++ more))) ≡ Some (target, more)
unfolding target_of word_at
target_only target digits more h =
    let front = front_of digits (codes " " ++ more) 32 (decode_sized-ok digits 16 h.0 h.1) in
    rw (
      after_only (codes "write ") (digits ++ (codes " " ++ more)),
      front.0,
      front.1,
      word_only digits
          target h,
      after_only (codes " ") more,
    ) refl

write_found : (settings : Settings) (text : List ℕ) (asked : Asked) → write_of settings text ≡ Some asked
    → SpellsAsked settings asked text
unfolding write_of
write_found settings text asked k =
    let a = bind_some (target_of text)
    (λ target. option_map (Write target.0) (message_of settings.width target.1)) asked k in
    let m = map_some (Write a.0.0) (message_of settings.width a.0.1) asked a.2 in
    let t = target_found text a.0 a.1 in
    subst (λ (x : Asked). SpellsAsked settings x text) m.2
    (t.0, a.0.1, t.1, message_found settings.width a.0.1 m.0 m.1, t.2)

pub either_of : {A : Type 0} (P : A → Type 0) (r s : Option A) (y : A) → ((x : A) → r ≡ Some x → P x)
    → ((x : A) → s ≡ Some x → P x)
    → or_else r s ≡ Some y → P y
either_of P r s y one other h = elim (or_else_some r s y h) [ inl k ↦ one y k | inr k ↦ other y k ]

pub asked_found : (settings : Settings) (text : List ℕ) (asked : Asked)
    → asked_of settings text ≡ Some asked → SpellsAsked settings asked text
asked_found settings text asked h =
    let P = λ (x : Asked). SpellsAsked settings x text in
    either_of P _ _ asked (register_found settings text)
    (λ x. either_of P _ _ x (write_found settings text)
    (λ y. either_of P _ _ y (read_found settings text) (retire_found settings text)))
    h

register_only : (settings : Settings) (digits : List ℕ) (a : ℕ) → SpellsWord a digits
    → asked_of settings (codes "register " ++ digits) ≡ Some (Register a)
unfolding register_of
register_only settings digits a h = rw (after_only (codes "register ") digits, word_only digits a h) refl

write_only : (settings : Settings) (target : ℕ) (message digits more : List ℕ) → SpellsWord target digits
    → decode_sized more settings.width ≡ Ok message
    → asked_of settings (codes "write " ++ (digits ++ (codes " " ++ more))) ≡ Some (Write target message)
unfolding register_of write_of after
write_only settings target message digits more h k =
    rw (target_only target digits more h, message_only settings.width more message k) refl

read_only : (settings : Settings) (own : ℕ) → own ≤ 4095
    → asked_of settings (codes "read " ++ decimal own) ≡ Some (Read own)
unfolding register_of write_of target_of read_of after
read_only settings own h = rw (last_only 0 4095 own (omega arith) (omega arith) h) refl

retire_only : (settings : Settings) (own : ℕ) → own ≤ 4095
    → asked_of settings (codes "retire " ++ decimal own) ≡ Some (Retire own)
unfolding register_of write_of target_of read_of retire_of after
retire_only settings own h = rw (last_only 0 4095 own (omega arith) (omega arith) h) refl

pub asked_only : (settings : Settings) (text : List ℕ) (asked : Asked) → SpellsAsked settings asked text
    → asked_of settings text ≡ Some asked
asked_only settings text (Register a) h = rw (h.2) (register_only settings h.0 a h.1)
asked_only settings text (Write target message) h =
    rw (h.4) (write_only settings target message h.0 h.1 h.2 h.3)
asked_only settings text (Read own) h = rw (h.1) (read_only settings own h.0)
asked_only settings text (Retire own) h = rw (h.1) (retire_only settings own h.0)
