-- Classes of frames by the numbers of their kinds.
use Rattle.std.proofs.Common.{◌≡◌, eqb, leb, refl}
use Rattle.std.specs.Prelude.{◌&&◌, ◌||◌}
use Rattle.frame_rules.specs.Frames.{PlainBody, Deposit, Register, Write, Read, Proof, Held, Challenge, Registered, Accepted, Message, Refused, LinkRegister, LinkBegin, LinkAudit, LinkSettle, LinkRead, LinkReply, Retire, LinkRetire, LinkBegun}
use Rattle.frame_rules.specs.Kinds.{kind_number}
use Rattle.frame_rules.specs.Spelling.{kind_of}
use Rattle.frame_rules.specs.Whole.{is_from_client, is_command, is_reply}

pub from_client_is : (b : PlainBody) → is_from_client b ≡ (leb (kind_number (kind_of b)) 5 || eqb (kind_number (kind_of b)) 16)
from_client_is (Deposit d) = refl
from_client_is (Register a k) = refl
from_client_is (Write r p) = refl
from_client_is (Read n t) = refl
from_client_is (Proof s) = refl
from_client_is (Held p) = refl
from_client_is (Challenge k) = refl
from_client_is (Registered n) = refl
from_client_is Accepted = refl
from_client_is (Message z o) = refl
from_client_is (Refused r) = refl
from_client_is (LinkRegister a) = refl
from_client_is (LinkBegin k p) = refl
from_client_is (LinkAudit s o) = refl
from_client_is (LinkSettle c) = refl
from_client_is (LinkRead n) = refl
from_client_is (LinkReply r) = refl
from_client_is (Retire n t) = refl
from_client_is (LinkRetire n) = refl
from_client_is (LinkBegun n d) = refl

pub command_is : (b : PlainBody) → is_command b ≡ ((leb 10 (kind_number (kind_of b)) && leb (kind_number (kind_of b)) 14) || eqb (kind_number (kind_of b)) 17)
command_is (Deposit d) = refl
command_is (Register a k) = refl
command_is (Write r p) = refl
command_is (Read n t) = refl
command_is (Proof s) = refl
command_is (Held p) = refl
command_is (Challenge k) = refl
command_is (Registered n) = refl
command_is Accepted = refl
command_is (Message z o) = refl
command_is (Refused r) = refl
command_is (LinkRegister a) = refl
command_is (LinkBegin k p) = refl
command_is (LinkAudit s o) = refl
command_is (LinkSettle c) = refl
command_is (LinkRead n) = refl
command_is (LinkReply r) = refl
command_is (Retire n t) = refl
command_is (LinkRetire n) = refl
command_is (LinkBegun n d) = refl

pub reply_is : (b : PlainBody) → is_reply b ≡ (eqb (kind_number (kind_of b)) 15 || eqb (kind_number (kind_of b)) 18)
reply_is (Deposit d) = refl
reply_is (Register a k) = refl
reply_is (Write r p) = refl
reply_is (Read n t) = refl
reply_is (Proof s) = refl
reply_is (Held p) = refl
reply_is (Challenge k) = refl
reply_is (Registered n) = refl
reply_is Accepted = refl
reply_is (Message z o) = refl
reply_is (Refused r) = refl
reply_is (LinkRegister a) = refl
reply_is (LinkBegin k p) = refl
reply_is (LinkAudit s o) = refl
reply_is (LinkSettle c) = refl
reply_is (LinkRead n) = refl
reply_is (LinkReply r) = refl
reply_is (Retire n t) = refl
reply_is (LinkRetire n) = refl
reply_is (LinkBegun n d) = refl
