use Rattle.std.proofs.Common.{◌≡◌, ◌≤◌, ◌<◌, ◌++◌, ◌∷◌, [], length, ap, arith}
use Rattle.std.specs.Prelude.{insert}
use Rattle.std.proofs.lemmas.List.{length_push}
use Rattle.dpf_eval.specs.Order.{IsOrder}
use Rattle.dpf_eval.specs.Listing.{Listing}
use Rattle.dpf_eval.proofs.InsertLemmas.{inserted, absent_everywhere}
use Rattle.dpf_eval.proofs.stream.Frontier.insert.Goals as goal

pub invariant_of-self : goal.invariant_of-self
invariant_of-self c =
    let addresses = c.self.inside.addresses.items in
    let order = c.self.inside.order.items in
    let here : addresses ≡ c.args.self.now.addresses = ap (λ (f : Listing). f.addresses) c.self.view_is in
    let there : length addresses ≤ c.self.inside.limit = c.self.invariant.within in
    let absent = absent_everywhere addresses c.args.address (rw here c.requires.new) in
    let sorted : IsOrder (addresses ++ c.args.address ∷ []) (insert order c.place_of-place.result (length addresses)) =
    inserted addresses order c.self.invariant.ordered c.args.address c.place_of-place.result
    (rw (← c.deref-2.ensures.value) c.place_of-place.ensures.within)
    (rw (← c.deref.ensures.value, ← c.deref-2.ensures.value) c.place_of-place.ensures.below)
    (rw (← c.deref.ensures.value, ← c.deref-2.ensures.value) c.place_of-place.ensures.above) absent in
    let number : c.len-box_number.result ≡ length addresses = omega arith in
    let limit : c.self.inside.limit ≡ c.args.self.now.limit = ap (λ (f : Listing). f.limit) c.self.view_is in
    let room : length addresses < c.self.inside.limit = rw (here, limit) c.requires.room in
    record {
      ordered = rw (c.push_reserved.ensures.items, c.in-Ok.ensures.items, number) sorted;
      within = rw (c.push_reserved.ensures.items, length_push addresses c.args.address) (omega arith);
      small = omega arith;
      addresses_fit = omega arith;
      order_fits = omega (arith, c.in-Ok.ensures.capacity);
      scratch_fits = c.self.invariant.scratch_fits;
    }
