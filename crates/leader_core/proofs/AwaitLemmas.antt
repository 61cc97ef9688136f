-- What is outstanding and the rows that wait for it, where a command is issued and where one is answered.
use Rattle.std.proofs.Common.{◌≡◌, ◌≢◌, ◌<◌, ℕ, zero, suc, ◌+◌, ◌⊎◌, Bool, slice_get, Option, Some, None, IfSome, option_map, cond, nat_eq, List, [], ◌∷◌, ◌++◌, append-nil, length, replicate, slice_set, slice_index_or, inl, inr, refl, sym, ap, subst, ◌∙◌, arith}
use Rattle.std.proofs.lemmas.Bool.{cases_eq, cases_lt, eq-eqb, ne_eqb}
use Rattle.std.proofs.lemmas.List.{get_or-set_same, get_or-set_other, get_or_past, get_or-replicate, length-append, length-set, length-replicate}
use Rattle.std.proofs.lemmas.List.Elements.{filter-append}
use Rattle.express_words.specs.declared.settings.Settings.{Settings}
use Rattle.frame_rules.specs.Frames.{PlainFrame}
use Rattle.frame_rules.specs.Spelling.{spelling}
use Rattle.leader_core.specs.Told.{resent_at}
use Rattle.step_rules.specs.Leader.{Leader, Stage, Idle, Waiting, Challenged, Auditing, Settling, Done, Row, idle, opened_leader}
use Rattle.leader_core.specs.Awaited.{commands_of, awaited_at, awaited, AreThoseAwaited, RowsAwait}

-- ---- the commands of a lane

of_both : (lane : ℕ) (xs ys : List PlainFrame) → commands_of lane (xs ++ ys) ≡ commands_of lane xs ++ commands_of lane ys
of_both lane xs ys = filter-append (λ (c : PlainFrame). nat_eq c.lane lane) xs ys

of_own : (c : PlainFrame) (xs : List PlainFrame) → commands_of c.lane (c ∷ xs) ≡ c ∷ commands_of c.lane xs
of_own c xs = ap (λ (b : Bool). cond b (c ∷ commands_of c.lane xs) (commands_of c.lane xs)) (eq-eqb c.lane c.lane refl)

of_other : (lane : ℕ) (c : PlainFrame) (xs : List PlainFrame) → lane ≢ c.lane → commands_of lane (c ∷ xs) ≡ commands_of lane xs
of_other lane c xs apart = ap (λ (b : Bool). cond b (c ∷ commands_of lane xs) (commands_of lane xs)) (ne_eqb c.lane lane (λ same. apart (sym same)))

-- ---- the numbers

abbrev Numbered : ℕ → List PlainFrame → Type 0
Numbered next xs = (place : ℕ) (c : PlainFrame) → slice_get xs place ≡ Some c → c.link + length xs ≡ next + place

-- a command is the last, or stood before
last_or : (xs : List PlainFrame) (c : PlainFrame) (place : ℕ) (x : PlainFrame) → slice_get (xs ++ c ∷ []) place ≡ Some x → (slice_get xs place ≡ Some x) ⊎ ((place ≡ length xs) × (c ≡ x))
last_or [] c zero x e = let same : c ≡ x = cc in inr (refl, same)
last_or [] c (suc place) x e = absurd (cc e)
last_or (y ∷ xs) c zero x e = inl e
last_or (y ∷ xs) c (suc place) x e = elim (last_or xs c place x e) [
  | inl before ↦ inl before
  | inr last ↦ inr (ap suc last.0, last.1)
]

numbers_more : (next : ℕ) (xs : List PlainFrame) (c : PlainFrame) → Numbered next xs → c.link ≡ next → Numbered (next + 1) (xs ++ c ∷ [])
numbers_more next xs c is number place x e = elim (last_or xs c place x e) [
  | inl before ↦ omega (arith, is place x before, length-append xs (c ∷ []))
  | inr last ↦ omega (arith, ap (λ (y : PlainFrame). y.link) last.1, number, last.0, length-append xs (c ∷ []))
]

numbers_less : (next : ℕ) (c : PlainFrame) (rest : List PlainFrame) → Numbered next (c ∷ rest) → Numbered next rest
numbers_less next c rest is place x e = omega (arith, is (suc place) x e)

-- ---- one row changes

-- the row of one lane and that lane's commands
changed : (lanes : ℕ) (rows : List Row) (before after : List PlainFrame) (old next lane : ℕ) (r : Row) → AreThoseAwaited lanes rows before old → Numbered next after → lane < length rows →
    ((other : ℕ) → other ≢ lane → commands_of other after ≡ commands_of other before) → commands_of lane after ≡ awaited lane r → AreThoseAwaited lanes (slice_set rows lane r) after next
changed lanes rows before after old next lane r is numbers there others own = record {
  count = length-set rows lane r ∙ is.count;
  numbers = numbers;
  commands = λ k. elim (cases_eq k lane) [
    | inl same ↦ subst (λ (n : ℕ). commands_of n after ≡ awaited n (slice_index_or (slice_set rows lane r) n idle)) (sym same)
        (own ∙ ap (awaited lane) (sym (get_or-set_same rows lane r idle there)))
    | inr apart ↦ others k apart ∙ (is.commands k ∙ ap (awaited k) (sym (get_or-set_other rows lane k r idle apart)))
  ];
}

-- a command is issued for a row that waits for none
pub issued_awaits : (lanes : ℕ) (rows : List Row) (commands : List PlainFrame) (c : PlainFrame) (next : ℕ) (r : Row) → AreThoseAwaited lanes rows commands next → c.link ≡ next → c.lane < lanes →
    awaited c.lane (slice_index_or rows c.lane idle) ≡ [] → awaited c.lane r ≡ c ∷ [] → AreThoseAwaited lanes (slice_set rows c.lane r) (commands ++ c ∷ []) (next + 1)
issued_awaits lanes rows commands c next r is number below free waits =
    changed lanes rows commands (commands ++ c ∷ []) next (next + 1) c.lane r is (numbers_more next commands c is.numbers number) (omega (arith, is.count))
    (λ other apart. of_both other commands (c ∷ []) ∙ (ap (λ xs. commands_of other commands ++ xs) (of_other other c [] apart) ∙ append-nil (commands_of other commands)))
    (of_both c.lane commands (c ∷ []) ∙ (ap (λ xs. xs ++ commands_of c.lane (c ∷ [])) (is.commands c.lane ∙ free) ∙ (of_own c [] ∙ sym waits)))

-- a stage waits for one command at most
none_more : (lane serial : ℕ) (stage : Stage) (c : PlainFrame) (xs : List PlainFrame) → c ∷ xs ≡ awaited_at lane serial stage → xs ≡ []
none_more lane serial (Waiting number asked) c xs e = cc e
none_more lane serial (Auditing number write share sigma opened) c xs e = cc e
none_more lane serial (Settling number write own other) c xs e = cc e
none_more lane serial Idle c xs e = absurd (cc e)
none_more lane serial (Challenged write kept) c xs e = absurd (cc e)
none_more lane serial (Done want kept) c xs e = absurd (cc e)

-- the oldest command is its lane's only one
alone : (lanes : ℕ) (rows : List Row) (c : PlainFrame) (rest : List PlainFrame) (next : ℕ) → AreThoseAwaited lanes rows (c ∷ rest) next → commands_of c.lane rest ≡ []
alone lanes rows c rest next is =
    let r = slice_index_or rows c.lane idle in
    none_more c.lane r.serial r.stage c (commands_of c.lane rest) (sym (of_own c rest) ∙ is.commands c.lane)

-- and its lane has a row
there_is : (lanes : ℕ) (rows : List Row) (c : PlainFrame) (rest : List PlainFrame) (next : ℕ) → AreThoseAwaited lanes rows (c ∷ rest) next → c.lane < length rows
there_is lanes rows c rest next is = elim (cases_lt c.lane (length rows)) [
  | inl there ↦ there
  | inr past ↦ absurd (none (sym (of_own c rest) ∙ (is.commands c.lane ∙ ap (awaited c.lane) (get_or_past rows c.lane idle past))))
]
  where
    none : c ∷ commands_of c.lane rest ≡ [] → ⊥
    none e = cc e

-- the oldest command is answered, and its row waits for nothing
pub answered_awaits : (lanes : ℕ) (rows : List Row) (c : PlainFrame) (rest : List PlainFrame) (next : ℕ) (r : Row) → AreThoseAwaited lanes rows (c ∷ rest) next → awaited c.lane r ≡ [] →
    AreThoseAwaited lanes (slice_set rows c.lane r) rest next
answered_awaits lanes rows c rest next r is free =
    changed lanes rows (c ∷ rest) rest next next c.lane r is (numbers_less next c rest is.numbers) (there_is lanes rows c rest next is) (λ other apart. sym (of_other other c rest apart)) (alone lanes rows c rest next is ∙ sym free)

-- or another command is issued for its row
pub followed_awaits : (lanes : ℕ) (rows : List Row) (c next : PlainFrame) (rest : List PlainFrame) (number : ℕ) (r : Row) → AreThoseAwaited lanes rows (c ∷ rest) number → next.link ≡ number → next.lane ≡ c.lane →
    awaited c.lane r ≡ next ∷ [] → AreThoseAwaited lanes (slice_set rows c.lane r) (rest ++ next ∷ []) (number + 1)
followed_awaits lanes rows c next rest number r is numbered same waits =
    changed lanes rows (c ∷ rest) (rest ++ next ∷ []) number (number + 1) c.lane r is (numbers_more number rest next (numbers_less number c rest is.numbers) numbered) (there_is lanes rows c rest number is)
    (λ other apart. of_both other rest (next ∷ []) ∙ (ap (λ xs. commands_of other rest ++ xs) (of_other other next [] (λ e. apart (e ∙ same))) ∙ (append-nil (commands_of other rest) ∙ sym (of_other other c rest apart))))
    (of_both c.lane rest (next ∷ []) ∙ (ap (λ xs. xs ++ commands_of c.lane (next ∷ [])) (alone lanes rows c rest number is) ∙ (subst (λ (n : ℕ). commands_of n (next ∷ []) ≡ next ∷ []) same (of_own next []) ∙ sym waits)))

-- ---- a leader that was opened

no_command : (place : ℕ) (c : PlainFrame) → (let none : List PlainFrame = [] in slice_get none place) ≡ Some c → ⊥
no_command place c e = cc e

pub opened_rows : (settings : Settings) → AreThoseAwaited settings.lanes (replicate settings.lanes idle) [] 1
opened_rows settings = record {
  numbers = λ place c e. absurd (no_command place c e);
  count = length-replicate settings.lanes idle;
  commands = λ lane. elim (cases_lt lane settings.lanes) [
    | inl there ↦ ap (awaited lane) (sym (get_or-replicate settings.lanes lane idle idle there))
    | inr past ↦ ap (awaited lane) (sym (get_or_past (replicate settings.lanes idle) lane idle (omega (arith, length-replicate settings.lanes idle))))
  ];
}

pub opened_awaits : (settings : Settings) (seed : List ℕ) → RowsAwait (opened_leader settings seed)
unfolding opened_leader
opened_awaits settings seed = opened_rows settings

-- ---- a command that is sent again

same_link : (a : Leader) (place number size : ℕ) (found : Option PlainFrame) → RowsAwait a → slice_get a.outstanding place ≡ found → number + length a.outstanding ≡ a.next + place →
    option_map (λ (c : PlainFrame). length (spelling c)) found ≡ Some size → option_map (λ (c : PlainFrame). c.link) found ≡ Some number
same_link a place number size None is e next there = absurd (cc there)
same_link a place number size (Some c) is e next there = let same : c.link ≡ number = omega (arith, is.numbers place c e, next) in ap (λ (n : ℕ). let o : Option ℕ = Some n in o) same

-- has the number under which it is sent again
pub resent_link : (a : Leader) (place : ℕ) (found : Option (ℕ × ℕ)) → RowsAwait a → IfSome found (λ x. x.0 + length a.outstanding ≡ a.next + place) →
    IfSome found (λ x. option_map (λ (c : PlainFrame). length (spelling c)) (resent_at a place) ≡ Some x.1) → IfSome found (λ x. option_map (λ (c : PlainFrame). c.link) (resent_at a place) ≡ Some x.0)
resent_link a place None is next there = tt
resent_link a place (Some x) is next there = same_link a place x.0 x.1 (resent_at a place) is refl next there
