use Rattle.std.proofs.Common.{◌≡◌, ◌++◌, ℕ, List, ◌∙◌, ap, arith, take}
use Rattle.std.proofs.lemmas.List.{take-append-drop}
use Rattle.kept_ledger.specs.Notes.{address_bytes}
use Rattle.kept_ledger.proofs.AddressLaws.{are_push, flat_more}
use Rattle.kept_ledger.proofs.digits.read_addresses.Goals as goal

pub loop-rest-preserved : goal.loop-rest-preserved
loop-rest-preserved c =
    let before : List ℕ = take c.loop-rest.used c.loop-rest.room in
    let rest : List ℕ = c.loop-rest.rest.now in
    let front : List ℕ = c.split_at.result.0.now in
    let behind : List ℕ = c.split_at.result.1.now in
    let whole : front ++ behind ≡ rest = cc (
      c.split_at.ensures.front,
      c.split_at.ensures.back,
      take-append-drop 16 rest,
    ) in
    record {
      spelled = rw c.put_number-used.ensures.numbers
          (flat_more before front behind c.address_of.result c.address_of.ensures.spelled
          ∙ ap (λ (l : List ℕ). address_bytes before ++ l) whole
          ∙ c.loop-rest.invariant.spelled);
      fits = rw c.put_number-used.ensures.numbers
          (are_push before c.address_of.result c.loop-rest.invariant.fits c.address_of.ensures.fits);
      whole = omega (arith, c.split_at.ensures.back_len, c.loop-rest.invariant.whole);
      within = omega (
        arith,
        c.split_at.ensures.back_len,
        c.loop-rest.invariant.within,
        c.put_number-used.ensures.used,
        c.put_number-used.auto.room,
      );
    }
