-- A command of a client's lane comes to the helper, of any kind: as the next one it is carried out.
use Rattle.std.proofs.Common.{◌≡◌, ℕ, ◌<◌, ◌+◌, ◌-◌, true, false, Some, slice_get, ◌++◌, ◌∷◌, [], refl, sym, ap, ◌∙◌, subst, arith}
use Rattle.frame_rules.specs.Frames.{PlainFrame}
use Rattle.frame_rules.specs.Whole.{is_command, has_width}
use Rattle.mailbox_rules.specs.Requests.{Command, Registers, Begins, Audits, Settles, Reads, Retires, Line, entry}
use Rattle.token_rules.specs.Tokens as token
use Rattle.token_rules.specs.Tokens.{World, Oracle}
use Rattle.token_rules.specs.Rows.{carried_row}
use Rattle.token_rules.specs.Run.{carries, carries_next, comes, asked_operation}
use Rattle.token_rules.specs.Laws.{IsSent}
use Rattle.token_rules.specs.Invariant.{Claims, state}
use Rattle.step_rules.specs.HelperCommands as steps
use Rattle.run_rules.specs.Letters.{FrameWorld, ToHelperLink}
use Rattle.run_rules.specs.Run as frames
use Rattle.run_rules.specs.Book.{Book}
use Rattle.run_rules.specs.Frames.{frame_with, frame_of, command_body}
use Rattle.run_rules.specs.Follows.{Spelled, IsFrameOf, Within, Follows}
use Rattle.run_rules.specs.Known.{Known}
use Rattle.run_rules.specs.Laws.{ComesFollows}
use Rattle.run_rules.proofs.HelperOrders.{ordered_follows, comes_next}
use Rattle.run_rules.proofs.HelperRegistered.{linked_spelled}
use Rattle.run_rules.proofs.WriteHelperCarried.{ordered, Made, Ready, is_ready, made_follows, entry_at}

command_taken : (b : Book) (i : ℕ) (x : Line) (y : Command) → is_command (command_body b i x y) ≡ true
unfolding command_body
command_taken b i x Registers = refl
command_taken b i x Begins = refl
command_taken b i x Audits = refl
command_taken b i x Settles = refl
command_taken b i x Reads = refl
command_taken b i x Retires = refl

-- the frame of the token
command_frame : (b : Book) (n : ℕ) (x : Line) (g : PlainFrame) → frame_of b (token.Ordered n x) ≡ Some g
    → g ≡ frame_with x.lane x.serial n (command_body b (n - 1) x x.command)
unfolding frame_of
command_frame b n x g e = cc

honest_next : (o : Oracle) (w : World) (x : Line) → w.foreign x.lane ≡ false
    → carries_next o w x ≡ carries w x (carried_row x) (asked_operation w x)
unfolding carries_next
honest_next o w x hon = rw hon refl

-- What is to be shown of a client's command for its token: the frame is read at the helper, and as the next command it
-- makes what the token run says.
pub record Makes (b : Book) (x : Line) : Type 0 where
  pub wide : (v w : World) (i : ℕ) → Known b v w → IsSent w x
      → has_width b.settings.width (command_body b i x x.command) ≡ true
  pub made : (f : FrameWorld) (v w : World) → Known b v w → Follows b f w → x.lane < b.settings.lanes
      → slice_get w.commands w.carried ≡ Some x → Ready b f w x
      → slice_get b.entries w.carried ≡ Some (entry x (asked_operation w x))
      → Made b f.helper.server x w.carried (w.journal ++ entry x (asked_operation w x) ∷ [])
      (steps.carries_out f.helper.server (ordered b w.carried x))

pub honest_ordered : (b : Book) (n : ℕ) (x : Line) → b.foreign x.lane ≡ false → Makes b x
    → ComesFollows b (token.Ordered n x)
unfolding comes frames.comes steps.if_command
honest_ordered b n x hon make o f v w place l known after there h k =
    let lawful = known.lawful in
    let claim : Claims (state w lawful.stages) (token.Ordered n x) = lawful.coherent.pool place (token.Ordered n x) there in
    let number = claim.1 in
    let next = number.next in
    let one : IsFrameOf b l ToHelperLink x.lane (token.Ordered n x) = rw hon at k in
    let is = command_frame b n x one.frame one.is in
    let spelled = subst (Spelled l ToHelperLink) is one.spelled in
    let g = frame_with x.lane x.serial n (command_body b (n - 1) x x.command) in
    let honest : w.foreign x.lane ≡ false = ap (λ foreign. foreign x.lane) h.foreign ∙ hon in
    let same = honest_next o w x honest in
    let sent = lawful.sent.lines number.place x number.is honest in
    let width = ap (λ s. has_width s.width g.body) h.helper.settings ∙ make.wide v w (n - 1) known sent in
    let read = linked_spelled is_command f.helper.server.settings.width g spelled.is_frame (command_taken b (n - 1) x x.command) width in
    rw (spelled.at, spelled.bytes, read)
    (ordered_follows b o f w lawful.stages n x g (known.sound.limits.3.0) lawful.coherent number h refl (λ e.
    let due : slice_get w.commands w.carried ≡ Some x = subst (λ i. slice_get w.commands i ≡ Some x) (omega (arith, e, next)) number.is in
    let within : Within b (carries w x (carried_row x) (asked_operation w x)) = subst (Within b) (comes_next o w n x e ∙ same) after.within in
    let ready = is_ready b f v w x known h hon one.lane due in
    let entered = entry_at b w x (asked_operation w x) lawful within in
    let at : n - 1 ≡ w.carried = omega (arith, e) in
    let frame_is : g ≡ ordered b w.carried x = ap (λ m. frame_with x.lane x.serial m (command_body b (n - 1) x x.command)) e ∙ ap (λ i. frame_with x.lane x.serial (w.carried + 1) (command_body b i x x.command)) at in
    subst (λ g. Follows b (frames.to_helper_link f (Some g) (steps.arrives f.helper g)) (carries_next o w x)) (sym frame_is)
    (subst (λ u. Follows b (frames.to_helper_link f (Some (ordered b w.carried x)) (steps.arrives f.helper (ordered b w.carried x))) u) (sym same)
    (made_follows b f w x (asked_operation w x) known.sound lawful h hon one.lane ready entered (make.made f v w known h one.lane due ready entered)))))
