-- Which sheets are cards.
use Rattle.std.proofs.Common.{◌≡◌, ℕ, List, Option, refl}
use Rattle.express_words.specs.Streams.{Took}
use Rattle.desk_ledger.specs.declared.pair.Pair.{Pair}
use Rattle.desk_ledger.specs.Cards.{IsCardOf}
use Rattle.desk_texts.specs.Printing.{printed}
use Rattle.desk_run.specs.Printing.{Prints}
use Rattle.desk_run.specs.Shown.{IsCardText}
use Rattle.desk_texts.specs.declared.day.Day.{Day}
use Rattle.desk_texts.specs.declared.sheet.Sheet.{Sheet}
use Rattle.desk_texts.specs.declared.sheet.CardHead.{CardHead}
use Rattle.desk_texts.specs.declared.sheet.Head.TheVariants.{Card}
use Rattle.desk_texts.specs.Spelling.{IsSheet}
use Rattle.desk_outbox.specs.Outboxes.{IsCardSheet}

pub card_sheet : (s : Sheet) (card : CardHead) → IsSheet s → s.head ≡ Card card → IsCardSheet s
card_sheet s card sheet is = record { sheet = sheet; card = card; is_card = is }

pub prints_card : (pair : Pair) (addresses : List ℕ) (until : Option Day) (s : Sheet) (old new : Option (List ℕ)) → IsCardOf pair addresses until s
    → Took old new (printed s) → Prints (IsCardText pair addresses until) old new
prints_card pair addresses until s old new is took = (printed s, record { card = s; is_of = is; is = refl }, took)
