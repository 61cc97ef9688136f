-- The messages of SOCKS 5 (RFC 1928) and of its user names and passwords (RFC 1929). A number of one byte
-- stands for itself; a port has two, the high one first.
use Rattle.std.specs.Prelude.{◌≡◌, ℕ, List, [], ◌∷◌, ◌++◌, length}
use Rattle.std.specs.Int.{w16, to_be_bytes}

-- its length, and then its bytes
abbrev pub sized : List ℕ → List ℕ
sized bytes = length bytes ∷ bytes

-- ---- what is said to a proxy

-- version 5, and one way to be known: a user name with a password
abbrev pub greeting : List ℕ
greeting = 5 ∷ (1 ∷ (2 ∷ []))

-- a user name and a password
abbrev pub credentials : (name password : List ℕ) → List ℕ
credentials name password = 1 ∷ (sized name ++ sized password)

-- a connection to a port of a host that is named, and never to an address
abbrev pub request : (host : List ℕ) → (port : ℕ) → List ℕ
request host port = 5 ∷ (1 ∷ (0 ∷ (3 ∷ (sized host ++ to_be_bytes w16 port))))

-- ---- what a proxy answers

-- the way that it takes; 255 is none
abbrev pub choice : (way : ℕ) → List ℕ
choice way = 5 ∷ (way ∷ [])

-- what it says of the user name; 0 is yes
abbrev pub status : (code : ℕ) → List ℕ
status code = 1 ∷ (code ∷ [])

-- an address of one of three kinds: IPv4, a host's name, IPv6
pub data Address : Type 0 where
  Four : List ℕ → Address
  Host : List ℕ → Address
  Six : List ℕ → Address

abbrev pub IsAddress : Address → Type 0
IsAddress (Four bytes) = length bytes ≡ 4
IsAddress (Host name) = Unit {0}
IsAddress (Six bytes) = length bytes ≡ 16

abbrev pub address_bytes : Address → List ℕ
address_bytes (Four bytes) = 1 ∷ bytes
address_bytes (Host name) = 3 ∷ sized name
address_bytes (Six bytes) = 4 ∷ bytes

-- what it says of the request, where 0 is yes, with the address and the port that its own connection has
pub record IsReply (code : ℕ) (bytes : List ℕ) : Type 0 where
  pub address : Address
  pub port : List ℕ
  pub whole : IsAddress address
  pub two : length port ≡ 2
  pub spelled : bytes ≡ 5 ∷ (code ∷ (0 ∷ (address_bytes address ++ port)))
