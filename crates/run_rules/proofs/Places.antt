-- The place of a command among all that were issued.
use Rattle.std.proofs.Common.{◌≡◌, ℕ, zero, suc, ◌<◌, cond, nat_eq, nat_lt, true, false, Bool, List, [], ◌∷◌, length, position, Some, slice_get, not, refl, sym, ap, ◌∙◌, arith}
use Rattle.std.proofs.lemmas.Bool.{eqb-true, eq-eqb, lt-ltb, false_from_ne_true}
use Rattle.std.specs.List.{prefix_len}
use Rattle.std.proofs.lemmas.Option.{slice_get_within}
use Rattle.mailbox_rules.specs.Requests.{Line, Command, Registers, Begins, Audits, Settles, Reads, Retires}
use Rattle.token_rules.specs.Tokens.{World}
use Rattle.token_rules.specs.Run.{line_of}
use Rattle.token_rules.specs.Stages.{Stage, issued, past, rank}
use Rattle.token_rules.specs.Invariant.{Coherent}
use Rattle.token_rules.proofs.Lists.{get_taken, taken_get}
use Rattle.run_rules.specs.Book.{Book, place, place_or, same_command, same_line}
use Rattle.run_rules.specs.Follows.{Within}

commands_same : (x y : Command) → same_command x y ≡ true → x ≡ y
commands_same Registers Registers e = refl
commands_same Begins Begins e = refl
commands_same Audits Audits e = refl
commands_same Settles Settles e = refl
commands_same Reads Reads e = refl
commands_same Retires Retires e = refl
commands_same x y e = absurd (cc e)

command_itself : (x : Command) → same_command x x ≡ true
command_itself Registers = refl
command_itself Begins = refl
command_itself Audits = refl
command_itself Settles = refl
command_itself Reads = refl
command_itself Retires = refl

pub lines_same : (x y : Line) → same_line x y ≡ true → x ≡ y
lines_same x y e =
    by_tests (nat_eq x.lane y.lane) (nat_eq x.serial y.serial) (λ t. eqb-true _ _ t) (λ t. eqb-true _ _ t) e
  where
    by_tests : (t u : Bool) → (t ≡ true → x.lane ≡ y.lane) → (u ≡ true → x.serial ≡ y.serial)
        → cond t (cond u (same_command x.command y.command) false) false ≡ true → x ≡ y
    by_tests true true l s e =
        ap (λ c. record { lane = c; serial = x.serial; command = x.command }) (l refl)
        ∙ ap (λ n. record { lane = y.lane; serial = n; command = x.command }) (s refl)
        ∙ ap (λ k. record { lane = y.lane; serial = y.serial; command = k }) (commands_same x.command y.command e)
    by_tests true false l s e = absurd (cc e)
    by_tests false u l s e = absurd (cc e)

pub line_itself : (x : Line) → same_line x x ≡ true
line_itself x =
    let l : nat_eq x.lane x.lane ≡ true = eq-eqb _ _ refl in let s : nat_eq x.serial x.serial ≡ true = eq-eqb _ _ refl in rw (l, s) (command_itself x.command)

-- the first element that passes
first_len : {X : Type 0} (p : X → Bool) (xs : List X) (i : ℕ) (x : X) → slice_get xs i ≡ Some x → p x ≡ true
    → ((k : ℕ) (y : X) → k < i → slice_get xs k ≡ Some y → p y ≡ false)
    → (prefix_len (λ x. not (p x)) xs ≡ i) × (i < length xs)
first_len p [] i x e h k = absurd (cc e)
first_len p (y ∷ xs) zero x e h k =
    let same : y ≡ x = cc in let t : p y ≡ true = ap p same ∙ h in (rw t refl, omega arith)
first_len p (y ∷ xs) (suc i) x e h k =
    let t : p y ≡ false = k zero y (omega arith) refl in
    let rest = first_len p xs i x e h (λ n z l f. k (suc n) z (omega (arith, l)) f) in
    let is = rest.0 in
    let low = rest.1 in
    (rw t (omega (arith, is)), omega (arith, low))

pub found_first : {X : Type 0} (p : X → Bool) (xs : List X) (i : ℕ) (x : X) → slice_get xs i ≡ Some x → p x ≡ true
    → ((k : ℕ) (y : X) → k < i → slice_get xs k ≡ Some y → p y ≡ false) → position p xs ≡ Some i
found_first p xs i x e h k =
    let r = first_len p xs i x e h k in
    let t : nat_lt i (length xs) ≡ true = lt-ltb _ _ r.1 in
    rw (r.0, t) refl

-- the first command of its kind
pub place_first : (b : Book) (c s i : ℕ) (x : Command) → slice_get b.commands i ≡ Some (line_of c s x)
    → ((k : ℕ) → k < i → slice_get b.commands k ≡ Some (line_of c s x) → ⊥) → place b c s x ≡ i
unfolding place
place_first b c s i x e none =
    ap (place_or (length b.commands)) (found_first (λ y. same_line y (line_of c s x)) b.commands i (line_of c s x) e (line_itself (line_of c s x))
    (λ k y l f. false_from_ne_true _ (λ t. none k l (f ∙ ap Some (lines_same y (line_of c s x) t)))))

-- an honest lane's command stands once among those issued

past_issued : (x : Command) → rank (issued x) < past x
past_issued Registers = omega arith
past_issued Begins = omega arith
past_issued Audits = omega arith
past_issued Settles = omega arith
past_issued Reads = omega arith
past_issued Retires = omega arith

pub place_is : (b : Book) (w : World) (p : ℕ → Stage) (c s i : ℕ) (x : Command) → Coherent w p → Within b w
    → w.foreign c ≡ false → slice_get w.commands i ≡ Some (line_of c s x) → place b c s x ≡ i
unfolding place
place_is b w p c s i x ok within hon e =
    let commands = within.commands in
    let there : slice_get b.commands i ≡ Some (line_of c s x) = (get_taken b.commands (length w.commands) i (line_of c s x) (ap (λ xs. slice_get xs i) (sym commands) ∙ e)).1 in
    let low : i < length w.commands = slice_get_within w.commands i (line_of c s x) e in
    ap (place_or (length b.commands)) (found_first (λ y. same_line y (line_of c s x)) b.commands i (line_of c s x) there (line_itself (line_of c s x))
    (λ k y l f. false_from_ne_true _ (λ t.
    let same = lines_same y (line_of c s x) t in
    let here : slice_get w.commands k ≡ Some (line_of c s x) = ap (λ xs. slice_get xs k) commands ∙ taken_get b.commands (length w.commands) k (line_of c s x) (omega (arith, l, low)) (f ∙ ap Some same) in
    let o = ok.order k i (line_of c s x) (line_of c s x) l here e refl hon in
    let r = past_issued x in
    omega (arith, o, r))))
