-- Replies by their first five bytes: what follows them is the rest of an address, and a port.
use Rattle.std.proofs.Common.{◌≡◌, ◌+◌, ◌++◌, ℕ, List, [], ◌∷◌, length, get_or, take, drop, ap, arith}
use Rattle.std.proofs.lemmas.List.{take-append-drop, length-take, length-drop, length-append}
use Rattle.socks_proxy.specs.Forms.{Address, Four, Host, Six, IsAddress, address_bytes, IsReply}

pub four_yes : (front rest : List ℕ) → length front ≡ 5 → get_or front 0 0 ≡ 5 → get_or front 1 0 ≡ 0 → get_or front 2 0 ≡ 0 → get_or front 3 0 ≡ 1
    → length rest ≡ 5 → IsReply 0 (front ++ rest)
four_yes (v ∷ (c ∷ (r ∷ (k ∷ (f ∷ []))))) rest five v_is c_is r_is k_is long = record {
  address = Four (f ∷ take 3 rest);
  port = drop 3 rest;
  whole = omega (arith, length-take 3 rest);
  two = omega (arith, length-drop 3 rest);
  spelled = let e = take-append-drop 3 rest in cc;
}
four_yes [] rest five v_is c_is r_is k_is long = absurd (omega (arith, five))
four_yes (v ∷ []) rest five v_is c_is r_is k_is long = absurd (omega (arith, five))
four_yes (v ∷ (c ∷ [])) rest five v_is c_is r_is k_is long = absurd (omega (arith, five))
four_yes (v ∷ (c ∷ (r ∷ []))) rest five v_is c_is r_is k_is long = absurd (omega (arith, five))
four_yes (v ∷ (c ∷ (r ∷ (k ∷ [])))) rest five v_is c_is r_is k_is long = absurd (omega (arith, five))
four_yes (v ∷ (c ∷ (r ∷ (k ∷ (f ∷ (g ∷ more)))))) rest five v_is c_is r_is k_is long = absurd (omega (arith, five))

pub host_yes : (front rest : List ℕ) → length front ≡ 5 → get_or front 0 0 ≡ 5 → get_or front 1 0 ≡ 0 → get_or front 2 0 ≡ 0 → get_or front 3 0 ≡ 3
    → length rest ≡ get_or front 4 0 + 2 → IsReply 0 (front ++ rest)
host_yes (v ∷ (c ∷ (r ∷ (k ∷ (f ∷ []))))) rest five v_is c_is r_is k_is long =
    let named : length (take f rest) ≡ f = omega (arith, length-take f rest) in
    record {
      address = Host (take f rest);
      port = drop f rest;
      whole = tt;
      two = omega (arith, length-drop f rest);
      spelled = let e = take-append-drop f rest in cc;
    }
host_yes [] rest five v_is c_is r_is k_is long = absurd (omega (arith, five))
host_yes (v ∷ []) rest five v_is c_is r_is k_is long = absurd (omega (arith, five))
host_yes (v ∷ (c ∷ [])) rest five v_is c_is r_is k_is long = absurd (omega (arith, five))
host_yes (v ∷ (c ∷ (r ∷ []))) rest five v_is c_is r_is k_is long = absurd (omega (arith, five))
host_yes (v ∷ (c ∷ (r ∷ (k ∷ [])))) rest five v_is c_is r_is k_is long = absurd (omega (arith, five))
host_yes (v ∷ (c ∷ (r ∷ (k ∷ (f ∷ (g ∷ more)))))) rest five v_is c_is r_is k_is long = absurd (omega (arith, five))

pub six_yes : (front rest : List ℕ) → length front ≡ 5 → get_or front 0 0 ≡ 5 → get_or front 1 0 ≡ 0 → get_or front 2 0 ≡ 0 → get_or front 3 0 ≡ 4
    → length rest ≡ 17 → IsReply 0 (front ++ rest)
six_yes (v ∷ (c ∷ (r ∷ (k ∷ (f ∷ []))))) rest five v_is c_is r_is k_is long = record {
  address = Six (f ∷ take 15 rest);
  port = drop 15 rest;
  whole = omega (arith, length-take 15 rest);
  two = omega (arith, length-drop 15 rest);
  spelled = let e = take-append-drop 15 rest in cc;
}
six_yes [] rest five v_is c_is r_is k_is long = absurd (omega (arith, five))
six_yes (v ∷ []) rest five v_is c_is r_is k_is long = absurd (omega (arith, five))
six_yes (v ∷ (c ∷ [])) rest five v_is c_is r_is k_is long = absurd (omega (arith, five))
six_yes (v ∷ (c ∷ (r ∷ []))) rest five v_is c_is r_is k_is long = absurd (omega (arith, five))
six_yes (v ∷ (c ∷ (r ∷ (k ∷ [])))) rest five v_is c_is r_is k_is long = absurd (omega (arith, five))
six_yes (v ∷ (c ∷ (r ∷ (k ∷ (f ∷ (g ∷ more)))))) rest five v_is c_is r_is k_is long = absurd (omega (arith, five))

-- how long the rest is, by the kind
abbrev rest_long : ℕ → ℕ → List ℕ → Type 0
rest_long kind first rest = (kind ≡ 1 → length rest ≡ 5) × (kind ≡ 4 → length rest ≡ 17)

by_address : (k f : ℕ) (rest : List ℕ) (a : Address) (p : List ℕ) → IsAddress a → length p ≡ 2 → k ∷ (f ∷ rest) ≡ address_bytes a ++ p → rest_long k f rest
by_address k f rest (Four bytes) p whole two same =
    let long = ap length same in (λ is. omega (arith, length-append bytes p, long, whole, two), λ is. absurd (let head : k ≡ 1 = cc in omega (arith, head, is)))
by_address k f rest (Host name) p whole two same =
    (λ is. absurd (let head : k ≡ 3 = cc in omega (arith, head, is)), λ is. absurd (let head : k ≡ 3 = cc in omega (arith, head, is)))
by_address k f rest (Six bytes) p whole two same =
    let long = ap length same in (λ is. absurd (let head : k ≡ 4 = cc in omega (arith, head, is)), λ is. omega (arith, length-append bytes p, long, whole, two))

only : (front rest : List ℕ) → length front ≡ 5 → IsReply 0 (front ++ rest) → rest_long (get_or front 3 0) (get_or front 4 0) rest
only (v ∷ (c ∷ (r ∷ (k ∷ (f ∷ []))))) rest five is = by_address k f rest is.address is.port is.whole is.two (let e = is.spelled in cc)
only [] rest five is = absurd (omega (arith, five))
only (v ∷ []) rest five is = absurd (omega (arith, five))
only (v ∷ (c ∷ [])) rest five is = absurd (omega (arith, five))
only (v ∷ (c ∷ (r ∷ []))) rest five is = absurd (omega (arith, five))
only (v ∷ (c ∷ (r ∷ (k ∷ [])))) rest five is = absurd (omega (arith, five))
only (v ∷ (c ∷ (r ∷ (k ∷ (f ∷ (g ∷ more)))))) rest five is = absurd (omega (arith, five))

pub four_only : (front rest : List ℕ) → length front ≡ 5 → get_or front 3 0 ≡ 1 → IsReply 0 (front ++ rest) → length rest ≡ 5
four_only front rest five kind is = (only front rest five is).0 kind

pub six_only : (front rest : List ℕ) → length front ≡ 5 → get_or front 3 0 ≡ 4 → IsReply 0 (front ++ rest) → length rest ≡ 17
six_only front rest five kind is = (only front rest five is).1 kind
