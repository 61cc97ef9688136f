use Rattle.client_run.proofs.TellLaws.{tells_end, tells_stop, tells_untold}
use Rattle.client_run.proofs.worker.Worker.tell_one.Goals as goal

pub returns-in-Err-clause-tells : goal.returns-in-Err-clause-tells
returns-in-Err-clause-tells g c =
    tells_stop c.args.self.now.peers c.args.number c.args.self.now.client _ c.one_request.new.client _ c.in-Err.why _ _ _ c.in-Err.ensures.came

pub returns-in-Ok-put_told-clause-tells : goal.returns-in-Ok-put_told-clause-tells
returns-in-Ok-put_told-clause-tells g c =
    tells_end c.args.self.now.peers c.args.number c.args.self.now.client _ c.one_request.new.client c.one_request.new.message c.in-Ok.told _ _ _ _
    c.in-Ok.ensures.came c.in-Ok-put_told.ensures.puts

pub returns-in-Err-put_told-clause-tells : goal.returns-in-Err-put_told-clause-tells
returns-in-Err-put_told-clause-tells g c =
    tells_untold c.args.self.now.peers c.args.number c.args.self.now.client _ c.one_request.new.client c.one_request.new.message c.in-Ok.told c.in-Err-put_told.why _ _ _ _
    c.in-Ok.ensures.came c.in-Err-put_told.ensures.puts
