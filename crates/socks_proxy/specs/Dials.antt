-- The calls on a net below that a dial makes.
use Rattle.std.specs.Prelude.{◌≡◌, ◌⊎◌, ℕ, ◌-◌, ◌^◌, Bool, true, false, List, [], ◌∷◌, ◌++◌, codes}
use Rattle.std.specs.Prelude.{Option, Some, None, Result, OnOk, OnErr, IfOk, IsErr, is_err}
use Rattle.express_words.specs.Calls.{Call, Dialled, Closed, Adds, AddsClose}
use Rattle.express_words.specs.Causes.{next}
use Rattle.express_words.specs.Seen.{Seen}
use Rattle.socks_proxy.specs.Circuits.{said_for}
use Rattle.socks_proxy.specs.Routes.{PlainTarget, PlainRoute, route_of}
use Rattle.socks_proxy.specs.Talks.{IsYes}
use Rattle.socks_proxy.specs.declared.proxied_net.ProxiedNet.{ProxiedNet}
use Rattle.socks_proxy.specs.declared.proxy.Proxy.{Proxy}
use Rattle.socks_proxy.specs.declared.proxy.Proxy.TheVariants.{Named, Tor}

-- where a proxy listens: at the place that is named, or where Tor does, or Tor Browser's
abbrev pub places_of : Proxy → List (List ℕ)
places_of (Named place) = place.now ∷ []
places_of Tor = codes "127.0.0.1:9050" ∷ (codes "127.0.0.1:9150" ∷ [])

abbrev pub is_named : Proxy → Bool
is_named (Named place) = true
is_named Tor = false

-- From old to new a net made these calls. Of one that doesn't tell its calls now nothing is said.
abbrev pub Makes : Option (List Call) → Option (List Call) → List Call → Type 0
Makes old None calls = Unit {0}
Makes None (Some new) calls = ⊥
Makes (Some old) (Some new) calls = new ≡ old ++ calls

-- each of the places was dialled, and none was reached
abbrev pub unreached : List (List ℕ) → List Call
unreached [] = []
unreached (place ∷ places) = Dialled place true ∷ unreached places

-- the places were dialled one after another until one was reached
abbrev pub Reaches : List (List ℕ) → List Call → Type 0
Reaches places calls =
    (before : List (List ℕ)) × (place : List ℕ) × (behind : List (List ℕ))
    × (places ≡ before ++ place ∷ behind) × (calls ≡ unreached before ++ Dialled place false ∷ [])

-- From old to new a proxy at one of these places was reached, and its connection is open.
abbrev pub ReachesOn : List (List ℕ) → Option (List Call) → Option (List Call) → Type 0
ReachesOn places old new = (calls : List Call) × Makes old new calls × Reaches places calls

-- The calls of a dial through a proxy that gave no connection: none at all; or no place was reached; or one
-- was, and its connection, which took no more than a front of what is said to a proxy, was closed.
abbrev pub IsRefused : List (List ℕ) → (said : List ℕ) → List Call → Type 0
IsRefused places said calls =
    (calls ≡ []) ⊎ ((calls ≡ unreached places)
    ⊎ ((dials : List Call) × (given : List ℕ) × (taken : List ℕ) × (rest : List ℕ) × (whole : Bool)
    × Reaches places dials × (said ≡ taken ++ rest) × (calls ≡ dials ++ Closed given taken whole ∷ [])))

abbrev pub RefusedOn : List (List ℕ) → (said : List ℕ) → Option (List Call) → Option (List Call) → Type 0
RefusedOn places said old new = (calls : List Call) × Makes old new calls × IsRefused places said calls

-- A connection of a net that tells its calls took what is said to a proxy and nothing more, and gave a yes
-- and nothing more.
abbrev pub IsOpened : Option (List Call) → Seen → (said : List ℕ) → Type 0
IsOpened None conn said = Unit {0}
IsOpened (Some calls) conn said =
    (conn.written ≡ Some said)
    × ((answer : List ℕ) × (left : Option (List ℕ)) × IsYes answer
    × (conn.content ≡ Some (record { given = answer; left = left })))

-- What a dial through a proxy came to on a net, where this is said to the proxy: with a connection, the proxy
-- was reached, and the connection is opened; with none, the dial was refused.
pub record Opens {C E : Type 0} (conn_seen : C → Seen) (proxy : Proxy) (said : List ℕ) (old new : Seen)
    (result : Result C E) : Type 0 where
  pub reached : OnOk result (ReachesOn (places_of proxy) old.calls new.calls)
  pub opened : IfOk result (λ conn. IsOpened new.calls (conn_seen conn) said)
  pub refused : OnErr result (RefusedOn (places_of proxy) said old.calls new.calls)

-- From old to new a net dialled a place, with this result.
abbrev pub Dials : {C E : Type 0} → (old new : Seen) → List ℕ → Result C E → Type 0
Dials old new place result = Adds old.calls new.calls (Dialled place (is_err result))

-- From old to new a net closed a connection.
abbrev pub Closes : (old new conn : Seen) → Type 0
Closes old new conn = AddsClose old.calls new.calls conn.content conn.written conn.faults

-- ---- a net whose dials may go through a proxy, over the net below

-- how a place is reached
abbrev pub route_on : {N L : Type 0} → ProxiedNet N L → List ℕ → PlainRoute
route_on net place = route_of place (is_named net.proxy)

-- What a dial through its proxy came to: it is made under the next user name, and once the numbers of these
-- are spent it fails, and makes no call below.
pub record DialsThrough {N L C E : Type 0} (seen : N → Seen) (conn_seen : C → Seen) (old new : ProxiedNet N L)
    (to : PlainTarget) (result : Result C E) : Type 0 where
  pub opens : Opens conn_seen old.proxy (said_for old.drawn old.number to) (seen old.below) (seen new.below)
      result
  pub names : new.number ≡ next old.number
  pub spent : old.number ≡ 2 ^ 64 - 1 → IsErr result × (new.below ≡ old.below)
