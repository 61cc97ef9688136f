-- An answer is read of a source.
use Rattle.std.specs.Prelude.{◌≡◌, ℕ, ◌≤◌, ◌⊎◌, List, [], ◌++◌, length, None, Some, Ok, Err}
use Rattle.http_door.specs.declared.request.Path.{Path}
use Rattle.http_door.specs.Reading.{IsRead}
use Rattle.http_door.specs.Replies.{PlainReply}
use Rattle.door_exchange.specs.declared.reading.Reading.{Reading}
use Rattle.door_exchange.specs.declared.reading.Reading.TheVariants as reading

-- before the last of the bytes came, more had to come
abbrev pub WasAwaited : Path → List ℕ → Type 0
WasAwaited path given =
    (front : List ℕ) × (last : List ℕ) × (given ≡ front ++ last) × IsRead path front (Ok None)

-- no more was taken than a head and a body, and nothing once an answer was whole
pub record IsWanted (path : Path) (given : List ℕ) : Type 0 where
  pub few : length given ≤ 12358
  pub awaited : (given ≡ []) ⊎ WasAwaited path given

-- what was taken, by how reading ended: it begins with an answer, or with none, or neither is known
abbrev pub EndsBy : Path → Reading → List ℕ → Type 0
EndsBy path reading.Whole taken = (reply : PlainReply) × IsRead path taken (Ok (Some reply))
EndsBy path (reading.Wrong fault) taken = IsRead path taken (Err fault)
EndsBy path reading.Ended taken = IsRead path taken (Ok None)
EndsBy path reading.Failed taken = IsRead path taken (Ok None)
