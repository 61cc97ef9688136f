use Rattle.std.proofs.Common.{◌∙◌, sym, ◌≡◌, ℕ, [], ◌∷◌, Contains, lit<, refl, rules, arith}
use Rattle.express_cli.specs.Around.{Around, Streams, over, streams}
use Rattle.express_cli.specs.Keeping.{KeepMay}
use Rattle.express_cli.proofs.Writing.{sink_stays}
use Rattle.std.proofs.lemmas.List.Elements.{Contains-append_left}
use Rattle.express_words.specs.Causes.{Rose}
use Rattle.express_cli.specs.Ends.{DiskCounts, status_of}
use Rattle.express_cli.specs.declared.ends.End.{End}
use Rattle.express_cli.specs.declared.ends.End.TheVariants as ends
use Rattle.express_cli.proofs.kept_top.run_kept.Goals as goal

statuses : (end : End) → Contains (0 ∷ 2 ∷ 3 ∷ 4 ∷ 5 ∷ 6 ∷ 7 ∷ 8 ∷ 10 ∷ 11 ∷ 12 ∷ 13 ∷ []) (status_of end)
statuses ends.Done = (0, lit< tt, refl)
statuses ends.Usage = (1, lit< tt, refl)
statuses (ends.BadLine n) = (2, lit< tt, refl)
statuses ends.BadKey = (2, lit< tt, refl)
statuses ends.ReadFault = (3, lit< tt, refl)
statuses ends.WriteFault = (4, lit< tt, refl)
statuses ends.NetFault = (5, lit< tt, refl)
statuses ends.OutOfMemory = (6, lit< tt, refl)
statuses ends.TooLong = (7, lit< tt, refl)
statuses ends.DiskFault = (8, lit< tt, refl)
statuses ends.JournalFull = (9, lit< tt, refl)
statuses (ends.JournalDamaged at) = (10, lit< tt, refl)
statuses (ends.JournalForeign n) = (11, lit< tt, refl)

disk_fault : (end : End) (before now : ℕ) → status_of end ≡ 10 → DiskCounts end before now → Rose before now
disk_fault end before now is counts = grind arith

not_ten : (status : ℕ) → Contains (0 ∷ 2 ∷ 3 ∷ 4 ∷ 5 ∷ 6 ∷ 7 ∷ 8 ∷ []) status → status ≡ 10 → ⊥
not_ten status h is = search rules

pub returns-then-asks_keep : goal.returns-then-asks_keep
returns-then-asks_keep g c =
    let net : Around = over g.N.Counted.seen g.N.Conn.Counted.seen c.args.seed.now c.args.net.now c.keep-end.new.net in
    let io : Streams = streams g.S.Counted.seen g.K.Counted.seen c.args.input.now c.keep-end.new.input c.args.out.now c.keep-end.new.out in
    let keeps = c.asks_keep.ensures.0 c.if-asks_keep.true in
    record {
      ran = λ other. absurd (other keeps);
      disk_rests = λ other. absurd (other keeps);
      input_rests = λ other. absurd (other keeps);
      net_rests = λ other. absurd (other keeps);
      net_waits = λ other. absurd (other keeps);
      laws = c.laws.ensures;
      kept = λ asks. record {
        ending = c.keep-end.result.0;
        status_is = c.status_of.ensures;
        ends = c.keep-end.ensures.ends;
        input_counts = c.keep-end.ensures.input;
        output_counts = sink_stays (KeepMay g.D.Disk.disk io net c.args.disk c.keep-end.result.1) io.out io.out_now c.keep-end.result.0 c.keep-end.ensures.ends.comes;
      };
      last_take = search rules;
      disk_fault = λ is. disk_fault c.keep-end.result.0 _ _ (sym c.status_of.ensures ∙ is) c.keep-end.ensures.ends.leaves;
      statuses = rw c.status_of.ensures (statuses c.keep-end.result.0);
    }

pub returns-else-asks_keep-clause-kept : goal.returns-else-asks_keep-clause-kept
returns-else-asks_keep-clause-kept g c asks = absurd (cc (c.asks_keep.ensures.1 asks, c.if-asks_keep.false))

pub returns-else-asks_keep-clause-ran : goal.returns-else-asks_keep-clause-ran
returns-else-asks_keep-clause-ran g c other = c.run.ensures.ran

pub returns-else-asks_keep-clause-disk_fault : goal.returns-else-asks_keep-clause-disk_fault
returns-else-asks_keep-clause-disk_fault g c is = absurd (not_ten _ c.run.ensures.ran.statuses is)

pub returns-else-asks_keep-clause-statuses : goal.returns-else-asks_keep-clause-statuses
returns-else-asks_keep-clause-statuses g c =
    Contains-append_left (0 ∷ 2 ∷ 3 ∷ 4 ∷ 5 ∷ 6 ∷ 7 ∷ 8 ∷ []) (10 ∷ 11 ∷ 12 ∷ 13 ∷ []) _ c.run.ensures.ran.statuses
