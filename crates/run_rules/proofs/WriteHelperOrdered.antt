-- A command of a client's write comes to the helper, in both runs.
use Rattle.std.proofs.Common.{◌≡◌, ◌∙◌, ℕ, false, ap}
use Rattle.mailbox_rules.specs.Requests.{Command, Registers, Begins, Audits, Settles, Reads, Retires, Line, opens_with}
use Rattle.token_rules.specs.Tokens as token
use Rattle.token_rules.specs.Run.{line_of}
use Rattle.token_rules.specs.Invariant.{Claims, state}
use Rattle.run_rules.specs.Book.{Book}
use Rattle.run_rules.specs.Laws.{ComesFollows}
use Rattle.run_rules.proofs.WriteLeaderRanges.{WriteIs, write_is}
use Rattle.run_rules.proofs.WriteHelperWrites.{is_write}
use Rattle.run_rules.proofs.WriteHelperBegins.{begin_ordered}
use Rattle.run_rules.proofs.WriteHelperAudits.{audit_ordered}
use Rattle.run_rules.proofs.WriteHelperSettles.{settle_ordered}

by_command : (b : Book) (n c s : ℕ) (y : Command) → opens_with y ≡ Begins → WriteIs b c s
    → ComesFollows b (token.Ordered n (line_of c s y))
by_command b n c s Begins e write = begin_ordered b n c s write
by_command b n c s Audits e write = audit_ordered b n c s write
by_command b n c s Settles e write = settle_ordered b n c s write
by_command b n c s Registers e write = absurd (cc e)
by_command b n c s Reads e write = absurd (cc e)
by_command b n c s Retires e write = absurd (cc e)

pub write_ordered : (b : Book) (n : ℕ) (x : Line) → b.foreign x.lane ≡ false → opens_with x.command ≡ Begins
    → ComesFollows b (token.Ordered n x)
write_ordered b n x hon e o f v w place l known after there h k =
    let lawful = known.lawful in
    let claim : Claims (state w lawful.stages) (token.Ordered n x) = lawful.coherent.pool place (token.Ordered n x) there in
    let sent = lawful.sent.lines claim.1.place x claim.1.is (ap (λ foreign. foreign x.lane) h.foreign ∙ hon) in
    let write = is_write b w x known.within sent e in
    by_command b n x.lane x.serial x.command e (write_is b x.lane x.serial write.target write.message known.sound hon write.is)
    o f v w place l known after there h k
