-- Requests taken from settings, one after another.
use Rattle.std.proofs.Common.{◌≡◌, ℕ, ◌+◌, ◌<◌, List, [], ◌∷◌, ◌++◌, length, get_or, take, map, sym, ap, ◌∙◌}
use Rattle.std.proofs.lemmas.List.{take_more, map-append}
use Rattle.client_core.specs.Requests.{plain_request}
use Rattle.client_core.specs.declared.request.Request.{Request}
use Rattle.settings_text.specs.declared.requests.Asking.{Asking}
use Rattle.client_run.specs.Accounts.{request_of}

pub asked_more : (before after : List Request) (r : Request) (askings : List Asking) (i : ℕ) (a : Asking) → i < length askings
    → a ≡ get_or askings i a → plain_request r ≡ request_of a → after ≡ before ++ r ∷ []
    → map plain_request before ≡ map request_of (take i askings)
    → map plain_request after ≡ map request_of (take (i + 1) askings)
asked_more before after r askings i a less at is more so_far =
    let last : map plain_request (r ∷ []) ≡ map request_of (a ∷ []) = ap (λ x. x ∷ []) is in
    let next : take i askings ++ a ∷ [] ≡ take (i + 1) askings
    = sym (take_more askings i a less ∙ ap (λ (x : Asking). take i askings ++ x ∷ []) (sym at)) in
    ap (map plain_request) more ∙ map-append plain_request before (r ∷ [])
    ∙ ap (λ x. x ++ map plain_request (r ∷ [])) so_far ∙ ap (λ x. map request_of (take i askings) ++ x) last
    ∙ sym (map-append request_of (take i askings) (a ∷ [])) ∙ ap (map request_of) next
