use Rattle.std.proofs.Common.{is_none, sym, ap}
use Rattle.std.specs.Vec.{vec_ptr}
use Rattle.block_region.specs.Region.{Shelf, Shelves}
use Rattle.block_region.proofs.BlockLaws.{position-none, none-position, class-at}
use Rattle.block_region.proofs.FreeLaws.{taken-free}
use Rattle.block_region.proofs.region.Region.take.Goals as goal

pub returns-in_err-index-clause-none : goal.returns-in_err-index-clause-none
returns-in_err-index-clause-none c =
    let region : Shelves = record { home = vec_ptr c.self.inside.shelves; classes = c.self.inside.shelves.items } in
    let shelf = c.index_mut-shelf.result.now in
    let within = rw (← c.self.view_is) at c.requires in
    let at = class-at region c.args.class c.from.result shelf c.from.ensures within c.index_mut-shelf.ensures.value in
    rw (← c.self.view_is, at, c.from_residual.ensures) (λ _. position-none is_none shelf.blocks (rw (← c.in_err-index.ensures.which)), λ _. (cc))

pub returns-clause-none : goal.returns-clause-none
returns-clause-none c =
    let region : Shelves = record { home = vec_ptr c.self.inside.shelves; classes = c.self.inside.shelves.items } in
    let shelf = c.index_mut-shelf.result.now in
    let within = rw (← c.self.view_is) at c.requires in
    let at = class-at region c.args.class c.from.result shelf c.from.ensures within c.index_mut-shelf.ensures.value in
    rw (← c.self.view_is, at) (λ h. absurd (cc h), λ e. let none = none-position is_none shelf.blocks e in rw (← c.in_ok-index.ensures.which) at none)

pub returns-clause-free : goal.returns-clause-free
returns-clause-free c =
    let region : Shelves = record { home = vec_ptr c.self.inside.shelves; classes = c.self.inside.shelves.items } in
    let shelf = c.index_mut-shelf.result.now in
    let within = rw (← c.self.view_is) at c.requires in
    let at = class-at region c.args.class c.from.result shelf c.from.ensures within c.index_mut-shelf.ensures.value in
    rw (← c.self.view_is, c.from.ensures)
    (taken-free region c.args.class c.in_ok-index.index shelf c.take.new.self _ within at (sym c.in_ok-index.ensures.which) (ap (λ (s : Shelf). s.blocks) c.in_ok-index.ensures.taken))
