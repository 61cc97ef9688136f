use Rattle.std.proofs.Common.{◌≡◌, subst, sym, true}
use Rattle.std.specs.Prelude.{IsSome}
use Rattle.http_door.specs.Values.{is_value}
use Rattle.owner_check.proofs.PlaceLaws.{place_is_value}
use Rattle.owner_check.proofs.asking.place_of.Goals as goal

pub unreachable-requires : goal.unreachable-requires
unreachable-requires c =
    let value : is_value c.as_str.result.now ≡ true =
    subst (λ t. is_value t ≡ true) (sym c.as_str.ensures) (place_is_value c.args.server.now.place c.requires) in
    let some = c.of.ensures.variant.1 value in
    let none = subst (λ o. IsSome o) c.in-None.is some in
    cc
