use Rattle.kept_ledger.proofs.SerialLaws.{frames_are_of_one_request, ledgers_keep_their_opening, serials_rise}
use Rattle.kept_ledger.proofs.laws.serials_are_used_once.Goals as goal

pub returns : goal.returns
returns c = record {
  rise = serials_rise;
  one_request = frames_are_of_one_request;
  opening = ledgers_keep_their_opening;
}
