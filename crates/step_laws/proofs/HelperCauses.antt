-- Each refusal of a command has its cause.
use Rattle.std.specs.Prelude.{◌≡◌, ℕ, ◌+◌, Bool, true, false, cond, nat_le, nat_eq, refl, List, length, Option, Some, None, slice_get}
use Rattle.std.proofs.Common.{sym, subst, ap, arith}
use Rattle.std.proofs.lemmas.Bool.{cond_both, eqb-true, eqb-false, leb-true}
use Rattle.express_words.specs.declared.audit.ProofShare.{ProofShare}
use Rattle.express_words.specs.declared.audit.Openings.{Openings}
use Rattle.express_words.specs.declared.audit.Closing.{Closing}
use Rattle.express_words.specs.declared.refusal.Refusal.{Refusal}
use Rattle.express_words.specs.declared.refusal.Refusal.TheVariants as refusal
use Rattle.frame_rules.specs.declared.frame.DepositBody.TheVariants as deposit
use Rattle.frame_rules.specs.Frames as frame
use Rattle.frame_rules.specs.Frames.{PlainFrame, PlainBody}
use Rattle.frame_rules.specs.Whole.{is_command, linked}
use Rattle.audit_rules.specs.Audit.{accepts}
use Rattle.audit_rules.specs.Values.{Write}
use Rattle.dpf_rules.specs.Expansion.{token}
use Rattle.step_rules.specs.Boxes.{Box, place_of}
use Rattle.step_rules.specs.Helper.{Server, Helper, Stage, Idle, Deposited, Begun, Proved, Audited, Done, row_at, LinkTurn}
use Rattle.step_rules.specs.HelperCommands.{Effect, stage_for, held_key, held_root, held_proof, held_closing, held_token, register_at, register, begin, audit, settle, read_live, read_at, read, command, carries_out, arrives, if_command}
use Rattle.step_laws.specs.Causes.{AnswersCommand, HelperAnswers, HoldsNothing, IsCommandCause, IsGone, IsOfAddress, IsOfBox, LacksProof}

module _ (h : Server) (c : PlainFrame) (stage : Stage) where
  abbrev Good : PlainBody → Type 0
  Good body = (why : Refusal) → body ≡ frame.LinkReply (frame.ReplyRefused why) → IsCommandCause h c stage why

  refused : (why : Refusal) → IsCommandCause h c stage why → Good (frame.LinkReply (frame.ReplyRefused why))
  refused why because other is = subst (IsCommandCause h c stage) (cc is) because

  abbrev GoodEffect : Effect → Type 0
  GoodEffect e = Good e.body

  registers : (address : ℕ) (key : List ℕ) (found : Option ℕ) → IsOfAddress c.body address → place_of address h.boxes ≡ found
      → GoodEffect (register_at h c address key found)
  unfolding register_at
  registers address key (Some n) named is = refused (refusal.Taken n) (address, named, is)
  registers address key None named is =
      cond_both {A = Effect} (nat_le h.settings.boxes (length h.boxes)) _ _ GoodEffect
      (λ e. refused (refusal.Full h.settings.boxes) (refl, leb-true _ _ e, (address, named, is))) (λ e why bad. absurd (cc bad))

  reads_live : (stays : Bool) (number held : ℕ) (box : Box) → IsOfBox c.body number → stage ≡ Deposited (deposit.Read held)
      → slice_get h.boxes number ≡ Some box → box.live ≡ true → GoodEffect (read_live h c stays number held box)
  unfolding read_live
  reads_live stays number held box named at is live =
      cond_both {A = Effect} (nat_eq held (token box.key c.lane c.serial)) _ _ GoodEffect (λ e why bad. absurd (cc bad))
      (λ e. refused (refusal.BadToken number) (record { named = named; held = held; deposited = at; box = box; is = is; live = live; other = eqb-false _ _ e }))

  reads_at : (stays : Bool) (number held : ℕ) (found : Option Box) → IsOfBox c.body number → stage ≡ Deposited (deposit.Read held)
      → slice_get h.boxes number ≡ found → GoodEffect (read_at h c stays number held found)
  unfolding read_at
  reads_at stays number held None named at is = refused (refusal.NoBox number) (named, subst IsGone (sym is) tt)
  reads_at stays number held (Some box) named at is =
      cond_both {A = Effect} box.live _ _ GoodEffect (λ e. reads_live stays number held box named at is e)
      (λ e. refused (refusal.NoBox number) (named, subst IsGone (sym is) e))

-- nothing is held for the command
lacks : (h : Server) (c : PlainFrame) (stage : Stage) → HoldsNothing c.body stage → Good h c stage (frame.LinkReply (frame.ReplyRefused refusal.NoDeposit))
lacks h c stage nothing = refused h c stage refusal.NoDeposit nothing

module _ (h : Server) (c : PlainFrame) where
  -- by the command's body
  abbrev Holds : PlainBody → Stage → Type 0
  Holds body stage = Good h c stage (command h c body stage).body

  nothing : (body : PlainBody) (stage : Stage) → c.body ≡ body → HoldsNothing body stage → HoldsNothing c.body stage
  nothing body stage is none = subst (λ b. HoldsNothing b stage) (sym is) none

  registering : (address : ℕ) (stage : Stage) → c.body ≡ frame.LinkRegister address → Holds (frame.LinkRegister address) stage
  unfolding command register
  registering address (Deposited (deposit.Register key)) is =
      registers h c _ address key (place_of address h.boxes) (subst (λ b. IsOfAddress b address) (sym is) refl) refl
  registering address stage is = lacks h c stage (nothing (frame.LinkRegister address) stage is tt)

  beginning : (drawn part : List ℕ) (stage : Stage) → c.body ≡ frame.LinkBegin drawn part → Holds (frame.LinkBegin drawn part) stage
  unfolding command begin
  beginning drawn part (Deposited (deposit.Write root)) is = λ why bad. absurd (cc bad)
  beginning drawn part stage is = lacks h c stage (nothing (frame.LinkBegin drawn part) stage is tt)

  auditing : (sigma : ℕ) (opened : Openings) (stage : Stage) → c.body ≡ frame.LinkAudit sigma opened → Holds (frame.LinkAudit sigma opened) stage
  unfolding command audit
  auditing sigma opened (Begun write) is = refused h c (Begun write) refusal.NotProved (subst (λ b. LacksProof b (Begun write)) (sym is) tt)
  auditing sigma opened (Proved write share) is = λ why bad. absurd (cc bad)
  auditing sigma opened stage is = lacks h c stage (nothing (frame.LinkAudit sigma opened) stage is tt)

  settling : (closing : Closing) (stage : Stage) → c.body ≡ frame.LinkSettle closing → Holds (frame.LinkSettle closing) stage
  unfolding command settle
  settling closing (Audited write own) is =
      cond_both {A = Effect} (accepts closing own) _ _ (λ e. Good h c (Audited write own) e.body) (λ e why bad. absurd (cc bad)) (λ e why bad. absurd (cc bad))
  settling closing stage is = lacks h c stage (nothing (frame.LinkSettle closing) stage is tt)

  reading : (number : ℕ) (stage : Stage) → c.body ≡ frame.LinkRead number → Holds (frame.LinkRead number) stage
  unfolding command read
  reading number (Deposited (deposit.Read held)) is =
      reads_at h c _ true number held (slice_get h.boxes number) (subst (λ b. IsOfBox b number) (sym is) refl) refl refl
  reading number stage is = lacks h c stage (nothing (frame.LinkRead number) stage is tt)

  retiring : (number : ℕ) (stage : Stage) → c.body ≡ frame.LinkRetire number → Holds (frame.LinkRetire number) stage
  unfolding command read
  retiring number (Deposited (deposit.Read held)) is =
      reads_at h c _ false number held (slice_get h.boxes number) (subst (λ b. IsOfBox b number) (sym is) refl) refl refl
  retiring number stage is = lacks h c stage (nothing (frame.LinkRetire number) stage is tt)

  commands : (body : PlainBody) (stage : Stage) → c.body ≡ body → Holds body stage
  unfolding command
  commands (frame.LinkRegister address) stage is = registering address stage is
  commands (frame.LinkBegin drawn part) stage is = beginning drawn part stage is
  commands (frame.LinkAudit sigma opened) stage is = auditing sigma opened stage is
  commands (frame.LinkSettle closing) stage is = settling closing stage is
  commands (frame.LinkRead number) stage is = reading number stage is
  commands (frame.LinkRetire number) stage is = retiring number stage is
  commands body stage is = lacks h c stage (nothing body stage is tt)

  carried : Good h c (stage_for (row_at h c.lane) c.serial) (carries_out h c).body
  unfolding carries_out
  carried =
      let stage = stage_for (row_at h c.lane) c.serial in
      cond_both {A = Effect} (nat_le h.settings.lanes c.lane) _ _ (λ e. Good h c stage e.body)
      (λ e. refused h c stage (refusal.Lane h.settings.lanes) (refl, leb-true _ _ e)) (λ e. commands c.body stage refl)

arrived : (h : Helper) (bytes : List ℕ) (c : PlainFrame) → linked is_command h.server.settings.width bytes ≡ Some c → AnswersCommand h bytes (arrives h c).answer
unfolding arrives
arrived h bytes c read =
    cond_both {A = LinkTurn} (nat_eq c.link (h.carried + 1)) _ _ Answered
    (λ e. record { command = c; read = read; next = eqb-true _ _ e; lane = refl; serial = refl; number = refl; refused = record { caused = carried h.server c } })
    (λ e. cond_both {A = LinkTurn} (nat_le c.link h.carried) _ _ Answered
    (λ u. cond_both {A = LinkTurn} (nat_le (h.carried + 1) (c.link + length h.replies)) _ _ Answered (λ v. tt) (λ v. tt)) (λ u. tt))
  where
    Answered : LinkTurn → Type 0
    Answered t = AnswersCommand h bytes t.answer

found : (h : Helper) (bytes : List ℕ) (c : Option PlainFrame) → linked is_command h.server.settings.width bytes ≡ c → AnswersCommand h bytes (if_command h c).answer
unfolding if_command
found h bytes (Some c) read = arrived h bytes c read
found h bytes None read = tt

pub helper_answers : HelperAnswers
helper_answers h bytes = found h bytes (linked is_command h.server.settings.width bytes) refl
