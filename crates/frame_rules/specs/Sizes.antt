-- How many bytes a body has: the format's tables, by the numbers of kinds, tags and refusals.
use Rattle.std.specs.Prelude.{◌≡◌, ◌⊎◌, ℕ, ◌+◌, ◌*◌, List, [], ◌∷◌, MatchBool, ◌==◌, if◌then◌else◌}
use Rattle.express_words.specs.Limits.{IsWidth}
use Rattle.frame_rules.specs.Forms.{Size, Exactly, Wide}

-- so many bytes, or a base and so many times a message's width
abbrev pub IsSize : Size → ℕ → Type 0
IsSize (Exactly count) n = n ≡ count
IsSize (Wide base copies) n = (width : ℕ) × IsWidth width × (n ≡ base + copies * width)

-- n bytes are right for what stands under this number
abbrev pub HasSize : ℕ → List (ℕ × Size) → ℕ → Type 0
HasSize number [] n = ⊥
HasSize number (row ∷ rows) n = MatchBool (number == row.0) (IsSize row.1 n) (HasSize number rows n)

-- bodies without a tag, by their kind
abbrev pub untagged : List (ℕ × Size)
untagged =
    (2, Exactly 48)
    ∷ (3, Wide 2080 1)
    ∷ (4, Exactly 20)
    ∷ (5, Exactly 160)
    ∷ (7, Exactly 32)
    ∷ (10, Exactly 16)
    ∷ (11, Wide 2096 1)
    ∷ (12, Exactly 48)
    ∷ (13, Exactly 32)
    ∷ (14, Exactly 4)
    ∷ (16, Exactly 20)
    ∷ (17, Exactly 4)
    ∷ (18, Exactly 36)
    ∷ []

-- what stands behind a tag: of a deposit, of what is held, of a finished request, of a reply but for refusals
abbrev pub behind_deposit : List (ℕ × Size)
behind_deposit = (1, Exactly 32) ∷ (2, Exactly 16) ∷ (3, Exactly 16) ∷ []

abbrev pub behind_held : List (ℕ × Size)
behind_held = (1, Exactly 0) ∷ (2, Exactly 0) ∷ []

abbrev pub behind_done : List (ℕ × Size)
behind_done = (1, Exactly 4) ∷ (2, Exactly 0) ∷ (3, Wide 0 2) ∷ []

abbrev pub behind_reply : List (ℕ × Size)
behind_reply =
    (1, Exactly 4)
    ∷ (2, Exactly 4)
    ∷ (3, Exactly 64)
    ∷ (4, Exactly 0)
    ∷ (5, Exactly 0)
    ∷ (6, Wide 0 1)
    ∷ []

-- what explains a refusal, behind its number
abbrev pub behind_refusal : List (ℕ × Size)
behind_refusal =
    (1, Exactly 4)
    ∷ (2, Exactly 1)
    ∷ (3, Exactly 2)
    ∷ (4, Exactly 4)
    ∷ (5, Exactly 1)
    ∷ (6, Exactly 4)
    ∷ (7, Exactly 4)
    ∷ (8, Exactly 4)
    ∷ (9, Exactly 4)
    ∷ (10, Exactly 0)
    ∷ (11, Exactly 0)
    ∷ (12, Exactly 64)
    ∷ (13, Exactly 8)
    ∷ (14, Exactly 8)
    ∷ []

-- the tags of a kind, in a refusal its numbers
abbrev pub behind_tag : ℕ → List (ℕ × Size)
behind_tag kind =
    if kind == 1 then behind_deposit
    else if kind == 6 then behind_held
    else if kind == 8 then behind_done
    else if kind == 9 then behind_refusal
    else if kind == 15 then behind_reply
    else []

-- n bytes are right for a body: without a tag, with one, or with a reply's tag 7 and a refusal's number
abbrev pub IsBodySize : (kind tag number n : ℕ) → Type 0
IsBodySize kind tag number n =
    HasSize kind untagged n
    ⊎ ((rest : ℕ) × (n ≡ 1 + rest) × HasSize tag (behind_tag kind) rest)
    ⊎ ((rest : ℕ) × (n ≡ 2 + rest) × (kind ≡ 15) × (tag ≡ 7) × HasSize number behind_refusal rest)
