-- The user name of a dial, by which Tor keeps its circuit apart from all others.
use Rattle.std.specs.Prelude.{◌≡◌, ℕ, ◌^◌, ◌<◌, List, ◌++◌, length, codes}
use Rattle.std.specs.Int.{w64, to_be_bytes}
use Rattle.socks_proxy.specs.Talks.{talk_of}
use Rattle.socks_proxy.specs.Routes.{PlainTarget, plain_target}
use Rattle.socks_proxy.specs.declared.circuits.Login.{Login}
use Rattle.socks_proxy.specs.declared.targets.Target.{Target}

-- bytes that were drawn, and the number of the dial
abbrev pub name_of : (drawn : List ℕ) → (number : ℕ) → List ℕ
name_of drawn number = drawn ++ to_be_bytes w64 number

-- Dials of different numbers, or under bytes that were drawn differently, have different names.
abbrev pub NamesDiffer : Type 0
NamesDiffer =
    (a b : List ℕ) (m n : ℕ) → length a ≡ length b → m < 2 ^ 64 → n < 2 ^ 64 →
    name_of a m ≡ name_of b n → (a ≡ b) × (m ≡ n)

abbrev pub password : List ℕ
password = codes "express"

-- what is said to a proxy for the dial of this number
abbrev pub said_for : (drawn : List ℕ) → (number : ℕ) → PlainTarget → List ℕ
said_for drawn number target = talk_of (name_of drawn number) password target.host target.port

-- what is said under this user name, as contracts see the code's own
abbrev pub said_under : Login → Target → List ℕ
said_under login target = said_for login.drawn login.number (plain_target target)
