-- Room for a frame.
use Rattle.std.specs.Prelude.{ℕ, ◌≤◌, List, length}

-- a buffer has room for the longest frame
abbrev pub HasRoom : List ℕ → Type 0
HasRoom buffer = 8213 ≤ length buffer
