-- What one more entry adds to the calls of a ledger.
use Rattle.std.proofs.Common.{◌≡◌, ℕ, ◌+◌, ◌≤◌, Bool, List, [], ◌∷◌, ◌++◌, length, take, drop, refl, ap, arith, length-drop}
use Rattle.std.proofs.lemmas.List.{take-append-le, drop-append-le}
use Rattle.std.proofs.lemmas.Grind.{common_steps}
use Rattle.express_words.specs.Memory.{ConnState, close_of}
use Rattle.express_words.specs.Noted.{call_of, calls_of, text_bytes, closes}
use Rattle.express_words.specs.declared.outside.net_ledger.Door.{Door}
use Rattle.express_words.specs.declared.outside.net_ledger.Entry.{Entry}
use Rattle.express_words.specs.declared.outside.net_ledger.Entry.TheVariants.{Opened, Closed}

pub text_bytes-opened : (es : List Entry) (door : Door) (n : ℕ) (fails : Bool) → text_bytes (es ++ Opened door n fails ∷ []) ≡ text_bytes es + n
text_bytes-opened [] door n fails = omega arith
text_bytes-opened (Opened d b f ∷ es) door n fails = omega (arith, text_bytes-opened es door n fails)
text_bytes-opened (Closed ∷ es) door n fails = text_bytes-opened es door n fails

pub closes-opened : (es : List Entry) (door : Door) (n : ℕ) (fails : Bool) → closes (es ++ Opened door n fails ∷ []) ≡ closes es
closes-opened [] door n fails = refl
closes-opened (Opened d b f ∷ es) door n fails = closes-opened es door n fails
closes-opened (Closed ∷ es) door n fails = ap (λ k. 1 + k) (closes-opened es door n fails)

pub text_bytes-closed : (es : List Entry) → text_bytes (es ++ Closed ∷ []) ≡ text_bytes es
text_bytes-closed [] = refl
text_bytes-closed (Opened d b f ∷ es) = ap (λ k. b + k) (text_bytes-closed es)
text_bytes-closed (Closed ∷ es) = text_bytes-closed es

pub closes-closed : (es : List Entry) → closes (es ++ Closed ∷ []) ≡ closes es + 1
closes-closed [] = refl
closes-closed (Opened d b f ∷ es) = closes-closed es
closes-closed (Closed ∷ es) = omega (arith, closes-closed es)

pub calls_of-opened : (es : List Entry) (texts text : List ℕ) (closed : List ConnState) (door : Door) (fails : Bool) →
    text_bytes es ≡ length texts →
    calls_of (es ++ Opened door (length text) fails ∷ []) (texts ++ text) closed ≡ calls_of es texts closed ++ call_of door text fails ∷ []
calls_of-opened [] [] text closed door fails e = grind (arith, common_steps)
calls_of-opened [] (x ∷ xs) text closed door fails e = absurd (omega arith)
calls_of-opened (Opened d b f ∷ es) texts text closed door fails e =
    let le : b ≤ length texts = omega arith in
    let rest : text_bytes es ≡ length (drop b texts) = omega (arith, length-drop b texts) in
    rw (take-append-le b texts text le, drop-append-le b texts text le)
    (ap (λ cs. call_of d (take b texts) f ∷ cs) (calls_of-opened es (drop b texts) text closed door fails rest))
calls_of-opened (Closed ∷ es) texts text [] door fails e = calls_of-opened es texts text [] door fails e
calls_of-opened (Closed ∷ es) texts text (c ∷ closed) door fails e =
    ap (λ cs. close_of c ∷ cs) (calls_of-opened es texts text closed door fails e)

pub calls_of-closed : (es : List Entry) (texts : List ℕ) (closed : List ConnState) (conn : ConnState) →
    closes es ≡ length closed →
    calls_of (es ++ Closed ∷ []) texts (closed ++ conn ∷ []) ≡ calls_of es texts closed ++ close_of conn ∷ []
calls_of-closed [] texts [] conn e = refl
calls_of-closed [] texts (c ∷ closed) conn e = absurd (omega arith)
calls_of-closed (Opened d b f ∷ es) texts closed conn e =
    ap (λ cs. call_of d (take b texts) f ∷ cs) (calls_of-closed es (drop b texts) closed conn e)
calls_of-closed (Closed ∷ es) texts [] conn e = absurd (omega arith)
calls_of-closed (Closed ∷ es) texts (c ∷ closed) conn e =
    let rest : closes es ≡ length closed = omega arith in
    ap (λ cs. close_of c ∷ cs) (calls_of-closed es texts closed conn rest)
