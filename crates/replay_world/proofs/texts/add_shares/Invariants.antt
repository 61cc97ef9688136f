use Rattle.std.proofs.Common.{◌≡◌, ◌++◌, drop}
use Rattle.std.specs.Prelude.{string_bytes}
use Rattle.replay_world.specs.Output.{share_lines}
use Rattle.replay_world.proofs.texts.add_shares.Given as goal

abbrev pub invariant-loop-box_number : goal.invariant-loop-box_number
invariant-loop-box_number l =
    string_bytes l.text ++ share_lines l.state.leader l.box_number (drop l.box_number l.state.helper.server.boxes)
    ≡ string_bytes l.fn.text ++ share_lines l.state.leader 0 l.state.helper.server.boxes
