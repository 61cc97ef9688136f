-- The frames that a server is handed, and the records of them.
use Rattle.std.specs.Prelude.{◌≡◌, ℕ, ◌+◌, ◌⊎◌, List, [], ◌∷◌, ◌++◌, length, map, IsOk}
use Rattle.frame_rules.specs.Whole.{whole}
use Rattle.node_restart.specs.declared.frames.Sender.{Sender}
use Rattle.node_restart.specs.declared.frames.Sender.TheVariants.{Client, Peer}
use Rattle.node_restart.specs.declared.opening.Opening.{Opening}
use Rattle.node_restart.specs.Openings.{IsOpening, opening_record}

-- by whom, and its bytes
pub record Handed : Type 0 where
  pub sender : Sender
  pub frame : List ℕ

abbrev pub handed : Sender → List ℕ → Handed
handed sender frame = record { sender = sender; frame = frame }

abbrev pub sender_tag : Sender → ℕ
sender_tag Client = 1
sender_tag Peer = 2

abbrev pub frame_record : Handed → List ℕ
frame_record h = sender_tag h.sender ∷ h.frame

-- the bytes are exactly one frame
abbrev pub IsOneFrame : List ℕ → Type 0
IsOneFrame bytes = IsOk (whole bytes)

abbrev pub AllFrames : List Handed → Type 0
AllFrames [] = Unit {0}
AllFrames (h ∷ frames) = IsOneFrame h.frame × AllFrames frames

-- the records of an opening and of these frames
abbrev pub records_of : Opening → List Handed → List (List ℕ)
records_of o frames = opening_record o ∷ map frame_record frames

-- ---- records of another form

-- no opening stands first
abbrev pub LacksOpening : List (List ℕ) → Type 0
LacksOpening records =
    (o : Opening) (rest : List (List ℕ)) → IsOpening o → records ≡ opening_record o ∷ rest → ⊥

-- the record is no frame's
abbrev pub IsNoFrame : List ℕ → Type 0
IsNoFrame r = (h : Handed) → IsOneFrame h.frame → r ≡ frame_record h → ⊥

-- Those before record n are an opening's and frames', and record n is no frame's.
pub record HasForeign (n : ℕ) (records : List (List ℕ)) : Type 0 where
  pub opening : Opening
  pub is_opening : IsOpening opening
  pub frames : List Handed
  pub whole : AllFrames frames
  pub foreign : List ℕ
  pub no_frame : IsNoFrame foreign
  pub rest : List (List ℕ)
  pub split : records ≡ records_of opening frames ++ foreign ∷ rest
  pub place : n ≡ length frames + 1

-- record n is the first that isn't of the form, or is record 0 and missing
abbrev pub IsForeign : ℕ → List (List ℕ) → Type 0
IsForeign n records = ((n ≡ 0) × LacksOpening records) ⊎ HasForeign n records
