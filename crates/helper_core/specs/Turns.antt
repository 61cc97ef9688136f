-- What the helper's calls come to, by the turn that the table names.
use Rattle.std.specs.Prelude.{◌≡◌, ℕ, List, length, take, drop}
use Rattle.frame_rules.specs.Spelling.{spelling}
use Rattle.step_rules.specs.Helper as steps
use Rattle.step_rules.specs.Refusals.{IsRefusal, AnswerLeaves}
use Rattle.helper_core.specs.declared.helper.LinkTurn.{LinkTurn}
use Rattle.helper_core.specs.State.{turned, IsCarriedFrame}

-- at a client's frame: its one reply, whose length is given, stands at the front
pub record DoesClient (t : steps.ClientTurn) (old new : steps.Helper) (given : ℕ) (out out_new : List ℕ)
    : Type 0 where
  pub helper : new ≡ t.helper
  pub refused : IsRefusal t.reply.body → new ≡ old
  pub written : take given out_new ≡ spelling t.reply
  pub rest : drop given out_new ≡ drop given out
  pub settings : new.server.settings ≡ old.server.settings
  pub length : given ≡ length (spelling t.reply)

-- at bytes of the leader: a reply stands at the front, where there is one
pub record DoesLink (t : steps.LinkTurn) (old new : steps.Helper) (given : LinkTurn) (out out_new : List ℕ)
    : Type 0 where
  pub helper : new ≡ t.helper
  pub refused : AnswerLeaves t.answer old new
  pub answer : given ≡ turned t.answer
  pub written : take (length (steps.written t.answer)) out_new ≡ steps.written t.answer
  pub rest : drop (length (steps.written t.answer)) out_new ≡ drop (length (steps.written t.answer)) out
  pub settings : new.server.settings ≡ old.server.settings
  -- the reply to a command that is carried out now is a frame of the grammar
  pub frame : IsCarriedFrame t.answer
