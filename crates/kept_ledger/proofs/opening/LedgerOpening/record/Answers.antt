use Rattle.std.proofs.Common.{◌≡◌, ◌++◌, ◌∙◌}
use Rattle.kept_ledger.specs.Notes.{plain_opening}
use Rattle.kept_ledger.proofs.OpeningLaws.{record_of}
use Rattle.kept_ledger.proofs.opening.LedgerOpening.record.Goals as goal

pub returns : goal.returns
returns c =
    let places : c.put-places.result.now
    ≡ c.args.self.now.leader.place.now ++ c.args.self.now.helper.place.now = cc in
    c.put_three.ensures
    ∙ record_of (plain_opening c.args.self.now) c.front-front.result.now c.keys-keys.result.now
    c.put-places.result.now c.front-front.ensures c.keys-keys.ensures places
