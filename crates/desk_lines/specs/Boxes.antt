-- What is told of a desk's boxes and of how it stands.
use Rattle.std.specs.Prelude.{ℕ, ◌*◌, ◌/◌, min, Bool, true, false, List, ◌++◌, codes}
use Rattle.std.specs.Fmt.{decimal}

unfoldable pub pair_line : (leader helper : List ℕ) → List ℕ
pair_line leader helper = codes "servers: " ++ (leader ++ (codes " and " ++ (helper ++ codes "\n")))

-- how many of the boxes of a name stand so
unfoldable pub boxes_line : List ℕ → (live waiting retired : ℕ) → List ℕ
boxes_line name live waiting retired =
    codes "box " ++ (name ++ (codes ": " ++ (decimal live ++ (codes " in use, " ++ (decimal waiting
    ++ (codes " to be made yet, " ++ (decimal retired ++ codes " retired\n")))))))

unfoldable pub retired_line : List ℕ → List ℕ
retired_line name = codes "the boxes of " ++ (name ++ codes " are retired: its cards are of no use any more\n")

abbrev pub work_words : (is_done : Bool) → List ℕ
work_words true = codes "nothing is under way\n"
work_words false = codes "something is under way: run resume\n"

-- how many letters there are, and how many were not shown
unfoldable pub letters_line : (letters new : ℕ) → List ℕ
letters_line letters new =
    codes "letters: " ++ (decimal letters ++ (codes ", of which " ++ (decimal new ++ codes " weren't shown yet\n")))

-- how many hundredths are full
unfoldable pub full_line : ℕ → List ℕ
full_line full = codes "the desk is " ++ (decimal full ++ codes "% full; forget empties it\n")
