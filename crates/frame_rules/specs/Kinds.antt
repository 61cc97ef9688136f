-- The kinds of frames, with their numbers and versions.
use Rattle.std.specs.Prelude.{ℕ, Bool, true, false, List, [], ◌∷◌, Option, Some, None, ◌==◌, if◌then◌else◌}
use Rattle.frame_rules.specs.declared.kind.Kind.{Kind}
use Rattle.frame_rules.specs.declared.kind.Kind.TheVariants.{Deposit, Register, Write, Read, Proof, Held}
use Rattle.frame_rules.specs.declared.kind.Kind.TheVariants.{Challenge, Done, Refused, LinkRegister}
use Rattle.frame_rules.specs.declared.kind.Kind.TheVariants.{LinkBegin, LinkAudit, LinkSettle, LinkRead}
use Rattle.frame_rules.specs.declared.kind.Kind.TheVariants.{LinkReply, Retire, LinkRetire, LinkBegun}

abbrev pub kind_number : Kind → ℕ
kind_number Deposit = 1
kind_number Register = 2
kind_number Write = 3
kind_number Read = 4
kind_number Proof = 5
kind_number Held = 6
kind_number Challenge = 7
kind_number Done = 8
kind_number Refused = 9
kind_number LinkRegister = 10
kind_number LinkBegin = 11
kind_number LinkAudit = 12
kind_number LinkSettle = 13
kind_number LinkRead = 14
kind_number LinkReply = 15
kind_number Retire = 16
kind_number LinkRetire = 17
kind_number LinkBegun = 18

-- the version byte of the kind's frames
abbrev pub version_of : Kind → ℕ
version_of Deposit = 1
version_of Register = 1
version_of Write = 1
version_of Read = 1
version_of Proof = 1
version_of Held = 1
version_of Challenge = 1
version_of Done = 1
version_of Refused = 1
version_of LinkRegister = 1
version_of LinkBegin = 1
version_of LinkAudit = 1
version_of LinkSettle = 1
version_of LinkRead = 1
version_of LinkReply = 1
version_of Retire = 2
version_of LinkRetire = 2
version_of LinkBegun = 2

-- between the two servers, so that its frames have a link number
abbrev pub is_linked : Kind → Bool
is_linked Deposit = false
is_linked Register = false
is_linked Write = false
is_linked Read = false
is_linked Proof = false
is_linked Held = false
is_linked Challenge = false
is_linked Done = false
is_linked Refused = false
is_linked LinkRegister = true
is_linked LinkBegin = true
is_linked LinkAudit = true
is_linked LinkSettle = true
is_linked LinkRead = true
is_linked LinkReply = true
is_linked Retire = false
is_linked LinkRetire = true
is_linked LinkBegun = true

-- the kind's frames may have serial 0
abbrev pub is_refused : Kind → Bool
is_refused Refused = true
is_refused _ = false

abbrev pub kinds : List Kind
kinds =
    Deposit ∷ Register ∷ Write ∷ Read ∷ Proof ∷ Held ∷ Challenge ∷ Done ∷ Refused ∷ LinkRegister ∷ LinkBegin
    ∷ LinkAudit ∷ LinkSettle ∷ LinkRead ∷ LinkReply ∷ Retire ∷ LinkRetire ∷ LinkBegun ∷ []

-- the first of these kinds that has the number
abbrev pub first_numbered : ℕ → List Kind → Option Kind
first_numbered number [] = None
first_numbered number (kind ∷ others) =
    if number == kind_number kind then Some kind else first_numbered number others

unfoldable pub kind_numbered : ℕ → Option Kind
kind_numbered number = first_numbered number kinds
