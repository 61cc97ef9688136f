-- What is read of a record is what was written.
use Rattle.std.proofs.Common.{◌≡◌, ℕ, List, ◌∷◌, ◌++◌, length, take, drop, Some, Option, refl, sym, ◌∙◌, ap, subst}
use Rattle.std.proofs.Math.Seq.{take-append_seam, drop-append_seam}
use Rattle.lane_leases.specs.declared.ask.Ask.{Ask}
use Rattle.lane_leases.specs.declared.ended.Ended.{Ended}
use Rattle.lane_leases.specs.declared.ended.End.{End}
use Rattle.lane_leases.specs.declared.ended.End.TheVariants.{Written, NotWritten}
use Rattle.lane_leases.specs.Records.{IsAsk, ask_bytes, end_number}
use Rattle.gated_servers.specs.Records.{ask_in, end_of, ended_of}

abbrev asked : List ℕ → List ℕ → Ask
asked own helper = record { own = record { 0 = own }; helper = record { 0 = helper } }

pub ask_read : (ask : Ask) → IsAsk ask → ask_in (ask_bytes ask) ≡ ask
ask_read ask is =
    let own : take 32 (ask_bytes ask) ≡ ask.own.0 = subst (λ (n : ℕ). take n (ask_bytes ask) ≡ ask.own.0) is.own (take-append_seam ask.own.0 ask.helper.0) in
    let helper : drop 32 (ask_bytes ask) ≡ ask.helper.0 = subst (λ (n : ℕ). drop n (ask_bytes ask) ≡ ask.helper.0) is.own (drop-append_seam ask.own.0 ask.helper.0) in
    ap (λ (l : List ℕ). asked l (drop 32 (ask_bytes ask))) own ∙ ap (asked ask.own.0) helper

end_read : (end : End) → end_of (end_number end) ≡ end
end_read Written = refl
end_read NotWritten = refl

pub ended_read : (ended : Ended) → ended_of (end_number ended.end ∷ ended.hash.0) ≡ Some ended
ended_read ended = ap (λ (e : End). let o : Option Ended = Some (record { hash = ended.hash; end = e }) in o) (end_read ended.end)
