use Rattle.std.proofs.Common.{ap, sym, refl, arith}
use Rattle.std.specs.Prelude.{option_map}
use Rattle.frame_rules.specs.Frames.{plain}
use Rattle.frame_rules.proofs.GrammarLaws.{spelling_limit}
use Rattle.client_core.specs.Answers.{addressed}
use Rattle.client_core.proofs.WriteLemmas.{are_words, nothing_current, something_current, nothing_sent, nothing_written, write_is}
use Rattle.client_core.proofs.client.Client.send.Goals as goal

pub returns-in-None-clause-none : goal.returns-in-None-clause-none
returns-in-None-clause-none c =
    (λ e. nothing_current c.self.inside.state c.args.self.now c.self.view_is c.in-None.is, λ e. refl)

pub returns-in-None-clause-sent : goal.returns-in-None-clause-sent
returns-in-None-clause-sent c =
    ap (option_map addressed) (sym (nothing_sent c.args.self.now (nothing_current c.self.inside.state c.args.self.now c.self.view_is c.in-None.is)))

pub returns-in-None-clause-written : goal.returns-in-None-clause-written
returns-in-None-clause-written c =
    nothing_written _ c.args.out.now (nothing_sent c.args.self.now (nothing_current c.self.inside.state c.args.self.now c.self.view_is c.in-None.is))

pub returns-in-None-clause-write : goal.returns-in-None-clause-write
returns-in-None-clause-write c = write_is c.args.self.now

pub returns-in-None-clause-words : goal.returns-in-None-clause-words
returns-in-None-clause-words c = are_words c.args.self.now

pub encode_into-requires-clause-room : goal.encode_into-requires-clause-room
encode_into-requires-clause-room c = let l = spelling_limit (plain c.frame-frame.result) c.frame-frame.ensures.is_frame in omega arith

pub returns-in-Some-clause-none : goal.returns-in-Some-clause-none
returns-in-Some-clause-none c =
    (λ e. absurd (cc e), λ e. absurd (something_current c.self.inside.state c.args.self.now c.in-Some.stage c.self.view_is c.in-Some.is e))

pub returns-in-Some-clause-write : goal.returns-in-Some-clause-write
returns-in-Some-clause-write c = write_is c.args.self.now

pub returns-in-Some-clause-words : goal.returns-in-Some-clause-words
returns-in-Some-clause-words c = are_words c.args.self.now
