use Rattle.std.proofs.Common.{◌≡◌, ◌<◌, List, [], length, refl, sym, ap, ◌∙◌, arith}
use Rattle.std.specs.Prelude.{slice_get}
use Rattle.std.proofs.lemmas.List.{length-map}
use Rattle.std.proofs.lemmas.Option.{slice_get_read}
use Rattle.mailbox_rules.specs.Requests.{Request}
use Rattle.replay_world.specs.Parts.{request_in}
use Rattle.replay_world.specs.View.{requests_of}
use Rattle.replay_world.proofs.Lanes.{lane_here}
use Rattle.replay_world.proofs.state.State.waiting.Goals as goal

pub returns : goal.returns
returns c header =
    let xs = c.args.self.now.askers.items in
    let a = c.index.result.now in
    let within : c.from.result < length xs = omega (arith, c.from.ensures, c.requires) in
    let here = ap (slice_get xs) (sym c.from.ensures) ∙ slice_get_read xs (length xs) c.from.result a refl within c.index.ensures in
    let size : c.len.result ≡ length a.waiting.items = omega arith in
    size ∙ (sym (length-map a.waiting.items request_in)
    ∙ ap (λ (rs : List Request). length rs) (sym (lane_here requests_of (λ d. []) xs c.args.lane a here)))
