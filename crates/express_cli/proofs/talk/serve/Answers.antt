use Rattle.std.proofs.Common.{refl, inl, inr}
use Rattle.express_cli.specs.Ends.{out_of_memory_text}
use Rattle.express_cli.specs.declared.ends.End.TheVariants.{OutOfMemory}
use Rattle.express_cli.specs.declared.words.NetCommand.TheVariants.{Serve}
use Rattle.express_cli.proofs.Settling.{lift, no_wait, said_ends}
use Rattle.express_cli.proofs.talk.serve.Goals as goal

pub listen_and_serve-end-requires : goal.listen_and_serve-end-requires
listen_and_serve-end-requires g c = record { whole = tt }

pub returns-in_default-clause-ends : goal.returns-in_default-clause-ends
returns-in_default-clause-ends g c = said_ends OutOfMemory out_of_memory_text refl tt (inr (refl, (refl, refl))) c.say.ensures.says

pub returns-in-Ok-open_node-clause-ends : goal.returns-in-Ok-open_node-clause-ends
returns-in-Ok-open_node-clause-ends g c =
    lift (λ e t may. inl (c.in-Ok-open_node.node, c.listen_and_serve-end.new.server, c.in-Ok-open_node.ensures.opened, may)) (λ broke. broke) (λ counts. tt) c.listen_and_serve-end.ensures.ends

pub returns-in-Ok-open_node-clause-waits : goal.returns-in-Ok-open_node-clause-waits
returns-in-Ok-open_node-clause-waits g c = no_wait Serve c.args.settings.now (returns-in-Ok-open_node-clause-ends g c)

pub returns-clause-ends : goal.returns-clause-ends
returns-clause-ends g c = said_ends OutOfMemory out_of_memory_text refl tt (inr (refl, (refl, refl))) c.say-in-Err.ensures.says
