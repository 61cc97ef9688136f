-- What a writer took, piece by piece.
use Rattle.std.proofs.Common.{◌≡◌, ℕ, ◌+◌, ◌-◌, List, ◌++◌, length, take, drop, Option, Some, None, Result, Ok, Err, ap, sym, ◌∙◌, arith, length-drop}
use Rattle.std.proofs.Math.Seq.{take-add}
use Rattle.std.proofs.lemmas.List.{append_assoc, take_all, take-append-drop}
use Rattle.std.specs.Io.KnownBytes.{Appends, Keeps, WriteAppends}
use Rattle.express_words.specs.Streams.{Took, TookPrefix}

-- the rest of the bytes, as a slice has it
rest_of : (bytes : List ℕ) (done : ℕ) → take (length bytes - done) (drop done bytes) ≡ drop done bytes
rest_of bytes done = take_all (length bytes - done) (drop done bytes) (omega (arith, length-drop done bytes))

-- one write more
pub took_more : (old mid new : Option (List ℕ)) (bytes : List ℕ) (done count : ℕ) → Took old mid (take done bytes)
    → Appends mid new (take count (take (length bytes - done) (drop done bytes))) → Took old new (take (done + count) bytes)
took_more None mid new bytes done count before more = tt
took_more (Some o) None new bytes done count before more = absurd before
took_more (Some o) (Some m) None bytes done count before more = absurd more
took_more (Some o) (Some m) (Some n) bytes done count before more =
    more ∙ ap (λ xs. m ++ take count xs) (rest_of bytes done) ∙ ap (λ xs. xs ++ take count (drop done bytes)) before
    ∙ append_assoc o (take done bytes) (take count (drop done bytes))
    ∙ ap (λ xs. o ++ xs) (sym (take-add done count bytes))

-- a call that changed nothing
pub took_kept : (old mid new : Option (List ℕ)) (bytes : List ℕ) → Took old mid bytes → Keeps mid new → Took old new bytes
took_kept None mid new bytes before same = tt
took_kept (Some o) None new bytes before same = absurd before
took_kept (Some o) (Some m) None bytes before same = absurd same
took_kept (Some o) (Some m) (Some n) bytes before same = same ∙ before

-- the front of the bytes is a part of them
pub took_front : (old new : Option (List ℕ)) (bytes : List ℕ) (done : ℕ) → Took old new (take done bytes) → TookPrefix old new bytes
took_front old new bytes done before = (take done bytes, drop done bytes, sym (take-append-drop done bytes), before)

-- one write, whatever it answered, leaves a part of the bytes taken
pub took_some : {E : Type 0} (old mid new : Option (List ℕ)) (bytes : List ℕ) (done : ℕ) (result : Result ℕ E) → Took old mid (take done bytes)
    → WriteAppends mid new result (take (length bytes - done) (drop done bytes)) → TookPrefix old new bytes
took_some old mid new bytes done (Ok n) before wrote = took_front old new bytes (done + n) (took_more old mid new bytes done n before wrote)
took_some old mid new bytes done (Err e) before kept = took_front old new bytes done (took_kept old mid new (take done bytes) before kept)
