-- The text that a replay writes.
use Rattle.std.specs.Prelude.{ℕ, ◌+◌, true, false, List, [], ◌∷◌, ◌++◌, codes, flat_map}
use Rattle.std.specs.Fmt.{decimal}
use Rattle.std.specs.Int.{w128, to_be_bytes}
use Rattle.hex.specs.Hex.{encode_lower}
use Rattle.express_words.specs.Texts.{refusal_text}
use Rattle.express_words.specs.declared.audit.Openings.{Openings}
use Rattle.express_words.specs.declared.audit.Closing.{Closing}
use Rattle.mailbox_rules.specs.Requests.{Command, Registers, Begins, Audits, Settles, Reads, Retires}
use Rattle.step_rules.specs.Boxes.{Box}
use Rattle.step_rules.specs.Leader.{Leader}
use Rattle.leader_core.specs.State.{share_in}
use Rattle.client_core.specs.Outcomes.{outcome_text, no_box_text}
use Rattle.run_rules.specs.Letters.{Value, Registered, Began, Audited, Settled, WasRead, Retired, Refused}
use Rattle.run_rules.specs.Letters.{JournalLine, Told, Ended, NoOwnBox, Outcome, Shown, FrameWorld}

-- 32 hexadecimal digits, the most significant first
abbrev pub number_text : ℕ → List ℕ
number_text number = encode_lower (to_be_bytes w128 number)

abbrev pub openings_text : Openings → List ℕ
openings_text o = number_text o.d ++ (codes " " ++ number_text o.e)

abbrev pub closing_text : Closing → List ℕ
closing_text c = number_text c.o ++ (codes " " ++ number_text c.tau)

unfoldable pub told_text : Told → List ℕ
told_text (Ended outcome) = outcome_text outcome
told_text (NoOwnBox own) = no_box_text own

unfoldable pub outcome_line : Outcome → List ℕ
outcome_line o =
    codes "outcome " ++ (decimal o.client ++ (codes " " ++ (decimal o.request
    ++ (codes " " ++ (told_text o.told ++ codes "\n")))))

abbrev pub command_text : Command → List ℕ
command_text Registers = codes "register"
command_text Begins = codes "begin"
command_text Audits = codes "audit"
command_text Settles = codes "settle"
command_text Reads = codes "read"
command_text Retires = codes "retire"

unfoldable pub value_text : Value → List ℕ
value_text (Registered box) = codes "register " ++ decimal box
value_text (Began count) = codes "begin " ++ decimal count
value_text (Audited leaders helpers closing) =
    codes "audit " ++ (openings_text leaders ++ (codes " " ++ (openings_text helpers
    ++ (codes " " ++ closing_text closing))))
value_text (Settled true leaders) = codes "settle accepted " ++ closing_text leaders
value_text (Settled false leaders) = codes "settle rejected " ++ closing_text leaders
value_text (WasRead box) = codes "read " ++ decimal box
value_text (Retired box) = codes "retire " ++ decimal box
value_text (Refused command refusal) = command_text command ++ (codes " " ++ refusal_text refusal)

unfoldable pub journal_line : JournalLine → List ℕ
journal_line j =
    codes "journal " ++ (decimal j.lane ++ (codes " " ++ (decimal j.serial
    ++ (codes " " ++ (value_text j.value ++ codes "\n")))))

-- a box's number and address, and both servers' shares of it
unfoldable pub share_line : ℕ → ℕ → List ℕ → List ℕ → List ℕ
share_line box address zero one =
    codes "share " ++ (decimal box ++ (codes " " ++ (number_text address
    ++ (codes " " ++ (encode_lower zero ++ (codes " " ++ (encode_lower one ++ codes "\n")))))))

-- The boxes of the helper in order, from this number on, each beside the leader's share of it:
-- zeros where the leader has no such box yet.
unfoldable pub share_lines : Leader → ℕ → List Box → List ℕ
share_lines leader number [] = []
share_lines leader number (box ∷ boxes) =
    share_line number box.address (share_in leader number) box.share ++ share_lines leader (number + 1) boxes

-- a noted frame, by its number in the pool
unfoldable pub shown_line : Shown → List ℕ
shown_line s = codes "frame " ++ (decimal s.number ++ (codes " " ++ (encode_lower s.bytes ++ codes "\n")))

-- The outcomes in the order in which they came, the journal in the order in which the helper carried commands
-- out, the boxes with both servers' shares, the noted frames, and the end.
unfoldable pub run_text : FrameWorld → List ℕ
run_text w =
    flat_map outcome_line w.outcomes
    ++ flat_map journal_line w.journal
    ++ share_lines w.leader 0 w.helper.server.boxes
    ++ flat_map shown_line w.shown
    ++ codes "end\n"
