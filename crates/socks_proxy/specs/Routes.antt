-- How a place is reached.
use Rattle.std.specs.Prelude.{◌≡◌, ℕ, ◌+◌, ◌≤◌, nat_le, ◌==◌, ◌||◌, ◌&&◌, if◌then◌else◌, Bool, false}
use Rattle.std.specs.Prelude.{List, [], ◌∷◌, length, take, drop, codes, position}
use Rattle.std.specs.Prelude.{Option, Some, None, option_map}
use Rattle.std.specs.Char.{is_ascii_lowercase}
use Rattle.std.specs.List.{list_all}
use Rattle.std.specs.Str.{bytes_eq, str_eq_ignore_ascii_case}
use Rattle.express_texts.specs.LineFields.{◌>>=◌, wanted}
use Rattle.express_texts.specs.Numbers.{last_number}
use Rattle.socks_proxy.specs.declared.targets.Target.{Target}
use Rattle.socks_proxy.specs.declared.routes.Route.{Route}
use Rattle.socks_proxy.specs.declared.routes.Route.TheVariants as ways

-- The bytes begin with .onion, in letters of either case.
abbrev pub begins_onion : List ℕ → Bool
begins_onion bytes = str_eq_ignore_ascii_case (take 6 bytes) (codes ".onion")

-- .onion stands somewhere in the place
unfoldable pub names_onion : List ℕ → Bool
names_onion [] = false
names_onion (b ∷ bytes) = begins_onion (b ∷ bytes) || names_onion bytes

-- a character of base 32 (RFC 4648) in lower case
abbrev pub is_base32 : ℕ → Bool
is_base32 b = is_ascii_lowercase b || (nat_le 50 b && nat_le b 55)

-- an address of an onion service of version 3: 56 such characters, and .onion
abbrev pub is_onion_host : List ℕ → Bool
is_onion_host host =
    (length host == 62) && (list_all is_base32 (take 56 host) && bytes_eq (drop 56 host) (codes ".onion"))

-- a host and a port of it
pub record PlainTarget : Type 0 where
  pub host : List ℕ
  pub port : ℕ

-- what stands before the first colon, and what stands behind it
abbrev pub around_colon : List ℕ → Option (List ℕ × List ℕ)
around_colon place = option_map (λ i. (take i place, drop (i + 1) place)) (position (λ b. b == 58) place)

-- a name of 1 to 255 bytes
abbrev pub is_host : List ℕ → Bool
is_host host = nat_le 1 (length host) && nat_le (length host) 255

-- a host and its port, HOST:PORT, where the port is a number from 1 to 65,535
unfoldable pub target_of : List ℕ → Option PlainTarget
target_of place = do
  parts ← around_colon place
  port ← last_number 1 65535 parts.1
  _ ← wanted (is_host parts.0)
  Some (record { host = parts.0; port = port })

-- where that is an onion service
unfoldable pub onion_of : List ℕ → Option PlainTarget
onion_of place = target_of place >>= (λ target. if is_onion_host target.host then Some target else None)

-- A place is dialled directly, or its host is named to a proxy, or it isn't dialled.
pub data PlainRoute : Type 0 where
  Direct : PlainRoute
  Through : PlainTarget → PlainRoute
  Wrong : PlainRoute

abbrev pub route_to : Option PlainTarget → PlainRoute
route_to (Some target) = Through target
route_to None = Wrong

-- Where .onion stands in a place it is one of an onion service, or wrong. Another is dialled directly, or
-- where a proxy is named through that.
abbrev pub route_of : List ℕ → (is_named : Bool) → PlainRoute
route_of place is_named =
    if names_onion place then route_to (onion_of place)
    else if is_named then route_to (target_of place)
    else Direct

-- where a route is one through a proxy, what holds of its target
abbrev pub IfThrough : PlainRoute → (PlainTarget → Type 0) → Type 0
IfThrough route Law = (to : PlainTarget) → route ≡ Through to → Law to

-- ---- as contracts see the code's own

abbrev pub plain_target : Target → PlainTarget
plain_target target = record { host = target.host.now; port = target.port }

abbrev pub plain_route : Route → PlainRoute
plain_route ways.Direct = Direct
plain_route (ways.Through target) = Through (plain_target target)
plain_route ways.Wrong = Wrong

-- a host that a proxy is asked for fits into a request
abbrev pub IsShort : Route → Type 0
IsShort ways.Direct = Unit {0}
IsShort (ways.Through target) = length target.host.now ≤ 255
IsShort ways.Wrong = Unit {0}
