use Rattle.std.proofs.Common.{◌∙◌}
use Rattle.client_core.proofs.ReplyLemmas.{unmasked_is}
use Rattle.client_core.proofs.state.ClientState.unmask.Goals as goal

pub returns : goal.returns
returns c =
    unmasked_is c.args.zero.now c.args.one.now c.copy_from_slice.new.self c.mask_into.new.out c.mask_into-2.new.out c.xor_into.new.out c.args.own.now.key0 c.args.own.now.key1
    c.args.self.now.lane c.current_serial-serial.result c.args.self.now.serial c.args.self.now.width
    c.copy_from_slice.ensures.after c.mask_into.ensures c.mask_into-2.ensures c.xor_into.ensures c.current_serial-serial.ensures (c.copy_from_slice.auto.self ∙ c.requires.room) c.mask_into.auto.out
