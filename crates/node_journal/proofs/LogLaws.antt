-- What one more step adds to a history.
use Rattle.std.proofs.Common.{◌≡◌, ℕ, ◌+◌, ◌≤◌, List, [], ◌∷◌, ◌++◌, length, take, drop, refl, ap, sym, ◌∙◌, ◌-◌, arith, length-append, length-drop}
use Rattle.std.proofs.lemmas.List.{take-append-le, drop-append-le}
use Rattle.std.proofs.lemmas.Grind.{common_steps}
use Rattle.node_journal.specs.History.{History, began, wrote, synced}
use Rattle.node_journal.specs.Memory.{LogState, write_noted, sync_noted, replay, text_bytes}
use Rattle.node_journal.specs.declared.disk_log.Step.{Step}
use Rattle.node_journal.specs.declared.disk_log.Step.TheVariants.{Write, Sync}

pub text_bytes-write : (steps : List Step) (at n : ℕ) → text_bytes (steps ++ Write at n ∷ []) ≡ text_bytes steps + n
text_bytes-write [] at n = omega arith
text_bytes-write (Write a b ∷ steps) at n = omega (arith, text_bytes-write steps at n)
text_bytes-write (Sync ∷ steps) at n = text_bytes-write steps at n

pub text_bytes-sync : (steps : List Step) → text_bytes (steps ++ Sync ∷ []) ≡ text_bytes steps
text_bytes-sync [] = refl
text_bytes-sync (Write a b ∷ steps) = ap (λ k. b + k) (text_bytes-sync steps)
text_bytes-sync (Sync ∷ steps) = text_bytes-sync steps

pub replay-write : (before : History) (steps : List Step) (texts bytes : List ℕ) (at : ℕ) → text_bytes steps ≡ length texts →
    replay before (steps ++ Write at (length bytes) ∷ []) (texts ++ bytes) ≡ wrote at bytes (replay before steps texts)
replay-write before [] [] bytes at e = grind (arith, common_steps)
replay-write before [] (x ∷ texts) bytes at e = absurd (omega arith)
replay-write before (Write a b ∷ steps) texts bytes at e =
    let le : b ≤ length texts = omega arith in
    let rest : text_bytes steps ≡ length (drop b texts) = omega (arith, length-drop b texts) in
    ap (λ (front : List ℕ). replay (wrote a front before) (steps ++ Write at (length bytes) ∷ []) (drop b (texts ++ bytes))) (take-append-le b texts bytes le)
    ∙ ap (λ (back : List ℕ). replay (wrote a (take b texts) before) (steps ++ Write at (length bytes) ∷ []) back) (drop-append-le b texts bytes le)
    ∙ replay-write (wrote a (take b texts) before) steps (drop b texts) bytes at rest
replay-write before (Sync ∷ steps) texts bytes at e = replay-write (synced before) steps texts bytes at e

pub replay-sync : (before : History) (steps : List Step) (texts : List ℕ) → replay before (steps ++ Sync ∷ []) texts ≡ synced (replay before steps texts)
replay-sync before [] texts = refl
replay-sync before (Write a b ∷ steps) texts = replay-sync (wrote a (take b texts) before) steps (drop b texts)
replay-sync before (Sync ∷ steps) texts = replay-sync (synced before) steps texts

abbrev pub state : History → ℕ → ℕ → LogState
state history calls room = record { history = history; calls = calls; room = room }

pub log-write : (first texts now_texts bytes : List ℕ) (steps now_steps : List Step) (at calls room : ℕ) → text_bytes steps ≡ length texts
    → now_steps ≡ steps ++ Write at (length bytes) ∷ [] → now_texts ≡ texts ++ bytes
    → state (replay (began first) now_steps now_texts) (calls - 1) (room - length bytes) ≡ write_noted at bytes (state (replay (began first) steps texts) calls room)
log-write first texts now_texts bytes steps now_steps at calls room e steps_are texts_are =
    ap (λ (s : List Step). state (replay (began first) s now_texts) (calls - 1) (room - length bytes)) steps_are
    ∙ ap (λ (t : List ℕ). state (replay (began first) (steps ++ Write at (length bytes) ∷ []) t) (calls - 1) (room - length bytes)) texts_are
    ∙ ap (λ (h : History). state h (calls - 1) (room - length bytes)) (replay-write (began first) steps texts bytes at e)

pub log-sync : (first texts : List ℕ) (steps now_steps : List Step) (calls room : ℕ) → now_steps ≡ steps ++ Sync ∷ []
    → state (replay (began first) now_steps texts) (calls - 1) room ≡ sync_noted (state (replay (began first) steps texts) calls room)
log-sync first texts steps now_steps calls room steps_are =
    ap (λ (s : List Step). state (replay (began first) s texts) (calls - 1) room) steps_are
    ∙ ap (λ (h : History). state h (calls - 1) room) (replay-sync (began first) steps texts)

pub log-texts : (texts now_texts bytes : List ℕ) (steps now_steps : List Step) (at : ℕ) → text_bytes steps ≡ length texts
    → now_steps ≡ steps ++ Write at (length bytes) ∷ [] → now_texts ≡ texts ++ bytes → text_bytes now_steps ≡ length now_texts
log-texts texts now_texts bytes steps now_steps at e steps_are texts_are =
    let now = text_bytes-write steps at (length bytes) in
    let longer : length (texts ++ bytes) ≡ length texts + length bytes = length-append texts bytes in
    let sum : text_bytes steps + length bytes ≡ length (texts ++ bytes) = omega (arith, longer, e) in
    ap text_bytes steps_are ∙ now ∙ sum ∙ ap length (sym texts_are)
