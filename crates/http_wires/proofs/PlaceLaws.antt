-- The connection of the clients' door at a place.
use Rattle.std.proofs.Common.{◌≡◌, ℕ, ◌<◌, ◌≤◌, ◌⊎◌, inl, inr, true, false, List, length, get_or, refl, sym, ap, ◌∙◌}
use Rattle.std.specs.Prelude.{Some, None, is_some, slice_get, Bool}
use Rattle.std.proofs.lemmas.Option.{slice_get_read, slice_get_cases}
use Rattle.http_wires.specs.Clients.{Client, is_http}
use Rattle.http_wires.specs.Steps.{client_at, http_client, http_if}

no : false ≡ true → ⊥
no e = cc

shown : (b : Bool) (p : Client) → is_some (http_if b p) ≡ true → http_if b p ≡ Some p
shown true p e = refl
shown false p e = absurd (no e)

within : (clients : List Client) (place : ℕ)
    → ((x : Client) × (place < length clients) × (slice_get clients place ≡ Some x) × (get_or clients place x ≡ x))
    ⊎ ((length clients ≤ place) × (slice_get clients place ≡ None))
    → is_some (client_at clients place) ≡ true → place < length clients
within clients place (inl w) there = w.1
within clients place (inr w) there = absurd (no (sym (ap (λ o. is_some (http_client o)) w.1) ∙ there))

pub client_is : (clients : List Client) (place : ℕ) (p : Client) → p ≡ get_or clients place p
    → is_some (client_at clients place) ≡ true → client_at clients place ≡ Some p
client_is clients place p is there =
    let lt = within clients place (slice_get_cases clients place).1 there in
    let read : slice_get clients place ≡ Some p = slice_get_read clients (length clients) place p refl lt is in
    let at : client_at clients place ≡ http_if (is_http p) p = ap http_client read in
    at ∙ shown (is_http p) p (sym (ap is_some at) ∙ there)
