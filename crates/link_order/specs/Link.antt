-- A numbered link as its two ends see it.
use Rattle.std.specs.Prelude.{◌≡◌, ℕ, ◌+◌, ◌-◌, ◌<◌, ◌≤◌, min, List, [], ◌∷◌, ◌++◌, length, drop, All}

-- The commands that were issued and not acknowledged, oldest first; the next number, the most commands that
-- may be outstanding, and the most bytes of one.
pub record Outstanding : Type 0 where
  pub next : ℕ
  pub window : ℕ
  pub size : ℕ
  pub frames : List (List ℕ)

-- How many numbers were carried, and the replies to the last ones, oldest first;
-- how many of them are kept, and the most bytes of one.
pub record Carried : Type 0 where
  pub carried : ℕ
  pub window : ℕ
  pub size : ℕ
  pub replies : List (List ℕ)

-- what holds of every link that issues commands: at most the window of them are outstanding, each has a
-- number from 1 on, and each has room
pub record IsOutstanding (link : Outstanding) : Type 0 where
  pub some : 1 ≤ link.window
  pub numbered : length link.frames < link.next
  pub few : length link.frames ≤ link.window
  pub short : All (λ frame. length frame ≤ link.size) link.frames

-- what holds of every link that carries commands out: as many replies are kept as were carried, up to the
-- window, and each has room
pub record IsCarried (link : Carried) : Type 0 where
  pub some : 1 ≤ link.window
  pub kept : length link.replies ≡ min link.carried link.window
  pub short : All (λ reply. length reply ≤ link.size) link.replies

-- the number of the oldest outstanding command
abbrev pub IsOldest : Outstanding → ℕ → Type 0
IsOldest link number = (0 < length link.frames) × (number + length link.frames ≡ link.next)

-- a number among those whose replies are kept, with its place there
abbrev pub IsKeptAt : Carried → ℕ → ℕ → Type 0
IsKeptAt link number place =
    (place < length link.replies) × (number + length link.replies ≡ link.carried + 1 + place)

-- the last n of a list
abbrev pub last : ℕ → List (List ℕ) → List (List ℕ)
last n xs = drop (length xs - n) xs

-- no command was issued
abbrev pub none_issued : ℕ → ℕ → Outstanding
none_issued window size = record { next = 1; window = window; size = size; frames = [] }

-- one command more is outstanding
abbrev pub with_issued : Outstanding → List ℕ → Outstanding
with_issued link frame = record {
  next = link.next + 1;
  window = link.window;
  size = link.size;
  frames = link.frames ++ frame ∷ [];
}

-- the oldest command isn't outstanding any more
abbrev pub with_removed : Outstanding → Outstanding
with_removed link = record {
  next = link.next;
  window = link.window;
  size = link.size;
  frames = drop 1 link.frames;
}

-- no command was carried out
abbrev pub none_carried : ℕ → ℕ → Carried
none_carried window size = record { carried = 0; window = window; size = size; replies = [] }

-- one command more was carried out, with this reply
abbrev pub with_carried : Carried → List ℕ → Carried
with_carried link reply = record {
  carried = link.carried + 1;
  window = link.window;
  size = link.size;
  replies = last link.window (link.replies ++ reply ∷ []);
}
