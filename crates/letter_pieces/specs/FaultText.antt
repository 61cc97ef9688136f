-- The words that are printed of a text that makes no letter.
use Rattle.std.specs.Prelude.{ℕ, List, ◌++◌, codes}
use Rattle.std.specs.Fmt.{decimal}
use Rattle.letter_pieces.specs.declared.fault.LetterFault.{LetterFault}
use Rattle.letter_pieces.specs.declared.fault.LetterFault.TheVariants.{NoText, TooLong}

abbrev pub fault_text : LetterFault → List ℕ
fault_text NoText = codes "a letter has at least one byte"
fault_text (TooLong most) = codes "the letter is too long: at most " ++ (decimal most ++ codes " bytes fit")
