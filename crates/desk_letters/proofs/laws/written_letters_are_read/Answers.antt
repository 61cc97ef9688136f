use Rattle.std.proofs.Common.{ℕ, List, replicate, ap, sym, subst}
use Rattle.std.proofs.lemmas.List.{length-replicate}
use Rattle.file_carry.specs.Carried.{bytes_given}
use Rattle.file_carry.proofs.Journals.{parts_are_given, zeros_are_given}
use Rattle.desk_letters.specs.Letters.{letter_of}
use Rattle.desk_letters.specs.Laws.{WrittenAreRead, UnwrittenAreEmpty}
use Rattle.desk_letters.specs.Opening.{Empty, Letter, Opens}
use Rattle.desk_letters.proofs.LetterLaws.{length-letter, sealed_open}
use Rattle.desk_letters.proofs.laws.written_letters_are_read.Goals as goal

written : WrittenAreRead
written j address id text read f c =
    let given = parts_are_given j address (letter_of j.width id text) read c (length-letter j.width id text f) in
    subst (λ (b : List ℕ). Opens (Letter id text) b) (sym (ap bytes_given given.result)) (sealed_open j.width id text f)

unwritten : UnwrittenAreEmpty
unwritten j read u =
    subst (λ (b : List ℕ). Opens Empty b) (sym (ap bytes_given (zeros_are_given j read u)))
    (sym (ap (λ n. replicate n 0) (length-replicate j.width 0)))

pub returns-clause-letters : goal.returns-clause-letters
returns-clause-letters c = written

pub returns-clause-empty : goal.returns-clause-empty
returns-clause-empty c = unwritten
