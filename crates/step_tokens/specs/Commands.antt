-- The command that a frame of the leader is.
use Rattle.frame_rules.specs.Frames as frame
use Rattle.frame_rules.specs.Frames.{PlainBody}
use Rattle.mailbox_rules.specs.Requests.{Command, Registers, Begins, Audits, Settles, Reads, Retires}

abbrev pub command_of : PlainBody → Command
command_of (frame.LinkRegister address) = Registers
command_of (frame.LinkBegin draw part) = Begins
command_of (frame.LinkAudit sigma opened) = Audits
command_of (frame.LinkSettle closing) = Settles
command_of (frame.LinkRetire number) = Retires
command_of body = Reads
