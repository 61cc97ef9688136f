use Rattle.std.proofs.Common.{◌≡◌, ◌++◌, ℕ, List, ◌∙◌, ap, arith}
use Rattle.std.specs.Int.{w128, to_be_bytes}
use Rattle.std.specs.List.{flat_map}
use Rattle.std.proofs.lemmas.List.{take-append-drop}
use Rattle.desk_entries.proofs.AddressLaws.{are_push, flat_more}
use Rattle.desk_entries.proofs.parts.addresses_in.Goals as goal

pub loop-rest-preserved : goal.loop-rest-preserved
loop-rest-preserved c =
    let before : List ℕ = c.loop-rest.addresses.items in
    let rest : List ℕ = c.loop-rest.rest.now in
    let front : List ℕ = c.split_at.result.0.now in
    let behind : List ℕ = c.split_at.result.1.now in
    let whole : front ++ behind ≡ rest = cc (c.split_at.ensures.front, c.split_at.ensures.back, take-append-drop 16 rest) in
    record {
      spelled = rw c.in_ok-push.ensures.items
          (flat_more before front behind c.address_of.result c.address_of.ensures.spelled
          ∙ ap (λ (l : List ℕ). flat_map (to_be_bytes w128) before ++ l) whole
          ∙ c.loop-rest.invariant.spelled);
      fits = rw c.in_ok-push.ensures.items (are_push before c.address_of.result c.loop-rest.invariant.fits c.address_of.ensures.fits);
      whole = omega (arith, c.split_at.ensures.back_len, c.loop-rest.invariant.whole);
    }
