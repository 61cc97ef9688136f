-- Messages of settings have the width that the client's have.
use Rattle.std.proofs.Common.{◌≡◌, ℕ, List, length, map, sym, ap, ◌∙◌, subst, arith}
use Rattle.std.specs.Prelude.{All}
use Rattle.std.proofs.lemmas.List.{length-map, get_or-map}
use Rattle.std.proofs.lemmas.List.Elements.{All-map, All-same, All-weaker}
use Rattle.client_core.specs.Requests.{plain_request}
use Rattle.client_core.specs.declared.request.Request.{Request}
use Rattle.node_client.specs.Work.{Fits}
use Rattle.settings_text.specs.Requests.{IsAsking}
use Rattle.settings_text.specs.declared.requests.Asking.{Asking}
use Rattle.settings_text.specs.declared.requests.Asking.TheVariants.{Register, Write, Read, Retire}
use Rattle.client_run.specs.Accounts.{request_of}

asking_fits : (width : ℕ) (a : Asking) → IsAsking width a → Fits width (request_of a)
asking_fits width (Register address) is = tt
asking_fits width (Write target message) is = is
asking_fits width (Read own) is = tt
asking_fits width (Retire own) is = tt

unmapped : {X Y : Type 0} (P : X → Type 0) (f : Y → X) (ys : List Y) → All P (map f ys) → All (λ y. P (f y)) ys
unmapped P f ys all =
    λ k d less. subst P (get_or-map f ys k d (f d) less) (all k (f d) (omega (arith, length-map ys f, less)))

pub askings_fit : (width : ℕ) (askings : List Asking) → All (IsAsking width) askings → All (λ a. Fits width (request_of a)) askings
askings_fit width askings all = All-weaker (IsAsking width) (λ (a : Asking). Fits width (request_of a)) (asking_fits width) askings all

-- the requests that a client of this width is lent, where they are those of the askings
pub lent_fit : (width same : ℕ) (askings given : List Asking) (requests lent : List Request) → same ≡ width → given ≡ askings → lent ≡ requests
    → map plain_request requests ≡ map request_of given → All (λ a. Fits width (request_of a)) askings → All (λ r. Fits same (plain_request r)) lent
lent_fit width same askings given requests lent is_width is_given is_lent is all =
    let plain : map plain_request lent ≡ map request_of askings = ap (map plain_request) is_lent ∙ is ∙ ap (map request_of) is_given in
    let fit = unmapped (Fits width) plain_request lent (All-same (Fits width) _ _ plain (All-map (Fits width) request_of askings all)) in
    subst (λ w. All (λ r. Fits w (plain_request r)) lent) (sym is_width) fit

pub as_many : (askings : List Asking) (requests : List Request) → map plain_request requests ≡ map request_of askings → length requests ≡ length askings
as_many askings requests is = sym (length-map requests plain_request) ∙ ap length is ∙ length-map askings request_of
