use Rattle.std.proofs.Common.{◌≡◌, codes, Ok, ap, subst}
use Rattle.toml.specs.View.{table_view}
use Rattle.express_words.proofs.SettledLaws.{settings_settle}
use Rattle.settings_text.specs.Keys.{needed}
use Rattle.settings_text.specs.Serve.{of_numbers, settings_of}
use Rattle.settings_text.specs.Values.{number_in, width_in}
use Rattle.settings_text.proofs.serve.settings.Goals as goal

pub returns : goal.returns
unfolding settings_of
returns c =
    let table = table_view c.args.table.now in
    let width : needed (codes "width") (width_in 16) table ≡ Ok c.in_ok-width.width = c.in_ok-width.ensures.value in
    let boxes : needed (codes "boxes") (number_in 1 4096) table ≡ Ok c.in_ok-boxes.boxes = c.in_ok-boxes.ensures.value in
    let lanes : needed (codes "lanes") (number_in 1 256) table ≡ Ok c.in_ok-lanes.lanes =
    subst (λ most. needed (codes "lanes") (number_in 1 most) table ≡ Ok c.in_ok-lanes.lanes) c.from.ensures c.in_ok-lanes.ensures.value in
    let window : needed (codes "window") (number_in 1 32) table ≡ Ok c.in_ok-window.window =
    subst (λ most. needed (codes "window") (number_in 1 most) table ≡ Ok c.in_ok-window.window) c.from-2.ensures c.in_ok-window.ensures.value in
    record { value = rw (width, boxes, lanes, window) (ap of_numbers (settings_settle _)) }
