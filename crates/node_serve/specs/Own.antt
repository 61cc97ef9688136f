-- Whose reply it is: what goes out on a connection answers the frame that came in on it, and what a leader
-- takes of its helper in between answers the commands that it sent.
use Rattle.std.specs.Prelude.{◌≡◌, ◌⊎◌, ℕ, true, false, List, [], ◌∷◌, Option, Result, Ok, Err}
use Rattle.express_words.specs.Calls.{Call, Dialled, Closed}
use Rattle.express_words.specs.Seen.{Seen}
use Rattle.express_words.specs.Streams.{TookPrefix}
use Rattle.express_words.specs.declared.refusal.Refusal.{Refusal}
use Rattle.express_words.specs.declared.refusal.Refusal.TheVariants as refusal
use Rattle.frame_rules.specs.Frames.{PlainFrame}
use Rattle.frame_rules.specs.Spelling.{spelling}
use Rattle.frame_rules.specs.Whole.{is_command, refused_bytes, whole}
use Rattle.node_exchange.specs.Exchanging.{Makes}
use Rattle.node_restart.specs.declared.server.Core.{Core}
use Rattle.node_restart.specs.declared.server.Core.TheVariants.{Lead, Help}
use Rattle.node_serve.specs.Moved.{Moved, Calls, moved, calls_of}
use Rattle.node_serve.specs.Responding.{link_down}
use Rattle.step_rules.specs.HelperCommands.{kept_for}

-- a frame answers another: it is for its lane and its serial, and for a command under its number on the link
pub record IsAnswerTo (asked said : PlainFrame) : Type 0 where
  pub lane : said.lane ≡ asked.lane
  pub serial : said.serial ≡ asked.serial
  pub number : is_command asked.body ≡ true → said.link ≡ asked.link

-- ---- to the one that gave these bytes

-- a helper's kept reply, to a command that it has carried out
abbrev pub IsKept : Core → PlainFrame → List ℕ → Type 0
IsKept (Help h) asked reply = (is_command asked.body ≡ true) × (reply ≡ kept_for h asked.link)
IsKept (Lead a) asked reply = ⊥

-- to a frame: one that answers it, the reply that is kept for it, or that it is of a kind that isn't taken;
-- to other bytes what is wrong with them
abbrev pub IsToldOf : Core → Result PlainFrame Refusal → List ℕ → Type 0
IsToldOf core (Ok asked) reply =
    ((said : PlainFrame) × IsAnswerTo asked said × (reply ≡ spelling said))
    ⊎ (IsKept core asked reply
    ⊎ ((place : ℕ) × (reply ≡ spelling (refused_bytes (refusal.Malformed place)))))
IsToldOf core (Err why) reply = reply ≡ spelling (refused_bytes why)

-- nothing, or that
abbrev pub IsToldTo : Core → (given reply : List ℕ) → Type 0
IsToldTo core given reply = (reply ≡ []) ⊎ IsToldOf core (whole given) reply

-- ---- with the helper in between

-- a connection to the helper took a command and gave the frame that answers it
pub record IsMet (given taken : List ℕ) : Type 0 where
  pub command : PlainFrame
  pub reply : PlainFrame
  pub sent : taken ≡ spelling command
  pub read : whole given ≡ Ok reply
  pub answers : IsAnswerTo command reply
  pub number : reply.link ≡ command.link

-- so did each, and no other call was made
abbrev pub AreMet : List Call → Type 0
AreMet [] = Unit {0}
AreMet (Dialled to false ∷ Closed given taken true ∷ calls) = IsMet given taken × AreMet calls
AreMet calls = ⊥

abbrev pub SaysLinkDown : List ℕ → Type 0
SaysLinkDown reply = (asked : PlainFrame) × (count : ℕ) × (reply ≡ spelling (link_down asked count))

-- What a server that stood so told the one that gave these bytes: what was written to the connection, from
-- the old state to the new one, is a front of this reply and nothing else. Each command that it sent its helper
-- meanwhile was answered, or the reply is that the link is down.
pub record TellsOwn (core : Core) (given : List ℕ) (calls : Calls) (written : Moved (Option (List ℕ)))
    : Type 0 where
  pub reply : List ℕ
  pub told : IsToldTo core given reply
  pub took : TookPrefix written.old written.new reply
  pub link : ((own : List Call) × Makes calls.old calls.new own × AreMet own) ⊎ SaysLinkDown reply

-- the same over a net and a connection
abbrev pub TellsOwnOn : Core → List ℕ → (net conn : Moved Seen) → Type 0
TellsOwnOn core given net conn = TellsOwn core given (calls_of net) (moved conn.old.written conn.new.written)
