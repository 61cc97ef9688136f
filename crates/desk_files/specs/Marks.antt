-- The mark of a folder's lock, as text.
use Rattle.std.specs.Prelude.{ℕ, ℤ, List, ◌++◌, codes, decimal}
use Rattle.std.specs.Fmt.{signed_decimal}

-- the lock's inode, and the seconds and nanoseconds of its last change
abbrev pub mark_text : (inode : ℕ) (seconds nanoseconds : ℤ) → List ℕ
mark_text inode seconds nanoseconds = codes "inode " ++ (decimal inode ++ (codes " changed "
    ++ (signed_decimal seconds ++ (codes " " ++ (signed_decimal nanoseconds ++ codes "\n")))))
