-- What is told of how a desk stands.
use Rattle.std.specs.Prelude.{◌≡◌, ◌≤◌, ◌^◌, ℕ, ◌&&◌, if◌then◌else◌, Bool, true, false, List, [], ◌++◌}
use Rattle.std.specs.Prelude.{length, Option, Some, None, is_none}
use Rattle.std.specs.List.{filter, flat_map}
use Rattle.desk_lines.specs.declared.boxes.BoxCounts.{BoxCounts}
use Rattle.desk_lines.specs.Boxes.{boxes_line, full_line, letters_line, pair_line, work_words}
use Rattle.desk_lines.specs.Closing.{closed_line}
use Rattle.desk_texts.specs.declared.day.Day.{Day}
use Rattle.kept_ledger.specs.declared.entry.Handling.TheVariants.{Shown}
use Rattle.kept_ledger.specs.declared.entry.NamedBoxes.{NamedBoxes}
use Rattle.kept_ledger.specs.declared.standing.Standing.{Standing}
use Rattle.kept_ledger.specs.declared.standing.Standing.TheVariants as standing
use Rattle.kept_ledger.specs.Ledgers.{LedgerState}
use Rattle.kept_ledger.specs.Standings.{addresses_that}
use Rattle.kept_ledger.specs.Tasks.{next_task}
use Rattle.owner_mail.specs.Mail.{AreMails, NamedMail, all_letters}
use Rattle.owner_mail.specs.News.{is_due}

-- ---- names

abbrev pub count_that : LedgerState → List ℕ → Standing → ℕ
count_that s name standing = length (addresses_that s name standing)

-- of a name that is to be retired no box is made any more
abbrev pub count_waiting : LedgerState → NamedBoxes → ℕ
count_waiting s n = if n.is_retiring then 0 else count_that s n.name standing.Waiting

abbrev pub counts_of : LedgerState → NamedBoxes → BoxCounts
counts_of s n = record {
  live = count_that s n.name standing.Live;
  waiting = count_waiting s n;
  retired = count_that s n.name standing.Retired;
}

abbrev pub counts_line : List ℕ → BoxCounts → List ℕ
counts_line name c = boxes_line name c.live c.waiting c.retired

-- since when boxes are closed, where they aren't to be retired
abbrev pub closed_part : List ℕ → (is_retiring : Bool) → Option Day → List ℕ
closed_part name true closed = []
closed_part name false None = []
closed_part name false (Some day) = closed_line name day

abbrev pub line_of : LedgerState → NamedBoxes → List ℕ
line_of s n = counts_line n.name (counts_of s n) ++ closed_part n.name n.is_retiring n.closed

-- of each name its boxes, and since when they are closed
abbrev pub boxes_lines : LedgerState → List ℕ
boxes_lines s = flat_map (line_of s) s.named

-- ---- work and letters

-- whether no request is under way and nothing is left to be done; a client has fewer than 2^32 boxes
abbrev pub IsDone : LedgerState → Bool → Type 0
IsDone s is_done = length s.boxes ≤ 2 ^ 32 → is_done ≡ (is_none s.client.current && is_none (next_task s))

abbrev pub work_text : (is_done : Bool) → (letters new full : ℕ) → List ℕ
work_text is_done letters new full = work_words is_done ++ (letters_line letters new ++ full_line full)

-- what is under way, how many letters there are and how many of them are new, and how full the desk is
pub record TellsWork (s : LedgerState) (full : ℕ) (text : List ℕ) : Type 0 where
  pub is_done : Bool
  pub done : IsDone s is_done
  pub mails : List NamedMail
  pub are : AreMails s mails
  pub is : text ≡ work_text is_done (length (all_letters mails))
      (length (filter (is_due Shown s.marks) (all_letters mails))) full

-- the servers, the boxes of each name, and the work
pub record TellsStatus (s : LedgerState) (full : ℕ) (text : List ℕ) : Type 0 where
  pub work : List ℕ
  pub tells : TellsWork s full work
  pub is : text ≡ pair_line s.pair.leader.place s.pair.helper.place ++ (boxes_lines s ++ work)
