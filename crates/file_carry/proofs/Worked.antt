-- The worked journal carries its file.
use Rattle.std.proofs.Common.{◌≡◌, ℕ, suc, inl, inr, List, [], length, replicate, Some, slice_get, arith, refl, subst}
use Rattle.std.proofs.lemmas.Bool.{cases_eq}
use Rattle.mailbox_rules.specs.Requests.{Line, Entry, Operation, Begins, Settles, Reads}
use Rattle.mailbox_rules.specs.Tables.{boxes_with, after_register, after_line, table_from, table_after}
use Rattle.file_carry.specs.Parts.{count_of, part_of}
use Rattle.file_carry.specs.Carried.{Holds, IsNothing, LeavesAlone, BeginsNone, Between, BeganThere, IsCarried, table_at}
use Rattle.file_carry.specs.Worked.{worked_file, worked_entries, worked_journal, TwoPartsAreCarried}

between_none : (entries : List Entry) (from : ℕ) (P : Line → Operation → Type 0) → Between entries from from P
between_none entries from P place e least below is = absurd (omega arith)

between_more : (entries : List Entry) (from to : ℕ) (P : Line → Operation → Type 0) (x : Entry)
    → slice_get entries from ≡ Some x → P x.line x.does → Between entries (suc from) to P
    → Between entries from to P
between_more entries from to P x at here rest place e least below is = elim (cases_eq from place) [
  | inl same ↦
      (let here_too : slice_get entries place ≡ Some x = subst (λ n. slice_get entries n ≡ Some x) same at in
      let x_is : x ≡ e = cc in
      subst (λ y. P y.line y.does) x_is here)
  | inr other ↦ rest place e (omega arith) below is
]

adds_nothing : IsNothing 32 []
adds_nothing = record { size = 0; fits = omega arith; zeros = refl }

-- what leaves the first box alone, or the second, or begins no write of lane 1
abbrev first : Line → Operation → Type 0
first line does = LeavesAlone worked_journal 0 5 line does

abbrev second : Line → Operation → Type 0
second line does = LeavesAlone worked_journal 1 9 line does

abbrev begins : Line → Operation → Type 0
begins line does = BeginsNone 1 line does

alone_0 : Between worked_entries 2 4 first
alone_0 =
    between_more worked_entries 2 4 first _ refl tt
    (between_more worked_entries 3 4 first _ refl tt
    (between_none worked_entries 4 first))

alone_then_0 : Between worked_entries 5 8 first
alone_then_0 =
    between_more worked_entries 5 8 first _ refl tt
    (between_more worked_entries 6 8 first _ refl tt
    (between_more worked_entries 7 8 first _ refl (λ _. adds_nothing)
    (between_none worked_entries 8 first)))

alone_1 : Between worked_entries 2 7 second
alone_1 =
    between_more worked_entries 2 7 second _ refl tt
    (between_more worked_entries 3 7 second _ refl tt
    (between_more worked_entries 4 7 second _ refl (λ _. adds_nothing)
    (between_more worked_entries 5 7 second _ refl tt
    (between_more worked_entries 6 7 second _ refl tt
    (between_none worked_entries 7 second)))))

alone_then_1 : Between worked_entries 8 9 second
alone_then_1 =
    between_more worked_entries 8 9 second _ refl (λ e. omega (arith, e))
    (between_none worked_entries 9 second)

began_0 : BeganThere worked_journal 4 1 0
unfolding table_after table_from after_line after_register
began_0 = record {
  begin = 2;
  line = record { lane = 1; serial = 1; command = Begins };
  is = refl;
  lane_is = refl;
  before = omega arith;
  last = between_more worked_entries 3 4 begins _ refl tt (between_none worked_entries 4 begins);
  registered = (let two : length (table_at worked_journal 2).boxes ≡ 2 = refl in omega (arith, two));
}

began_1 : BeganThere worked_journal 7 1 1
unfolding table_after table_from after_line after_register boxes_with
began_1 = record {
  begin = 5;
  line = record { lane = 1; serial = 2; command = Begins };
  is = refl;
  lane_is = refl;
  before = omega arith;
  last = between_more worked_entries 6 7 begins _ refl tt (between_none worked_entries 7 begins);
  registered = (let two : length (table_at worked_journal 5).boxes ≡ 2 = refl in omega (arith, two));
}

clear_0 : Holds (table_at worked_journal 2) 0 5 (replicate 32 0)
unfolding table_after table_from after_line after_register
clear_0 = record { lane = 0; serial = 1; is = refl }

clear_1 : Holds (table_at worked_journal 2) 1 9 (replicate 32 0)
unfolding table_after table_from after_line after_register
clear_1 = record { lane = 0; serial = 2; is = refl }

carried_0 : IsCarried worked_journal 5 (part_of worked_file 7 32 0) 8
carried_0 = record {
  box = 0;
  clear = 2;
  zeros = clear_0;
  settle = 4;
  clear_first = omega arith;
  alone = alone_0;
  written = record {
    line = record { lane = 1; serial = 1; command = Settles };
    is = refl;
    accepted = refl;
    adds = refl;
    began = began_0;
  };
  write_first = omega arith;
  alone_then = alone_then_0;
  line = record { lane = 0; serial = 3; command = Reads };
  is = refl;
}

carried_1 : IsCarried worked_journal 9 (part_of worked_file 7 32 1) 9
carried_1 = record {
  box = 1;
  clear = 2;
  zeros = clear_1;
  settle = 7;
  clear_first = omega arith;
  alone = alone_1;
  written = record {
    line = record { lane = 1; serial = 2; command = Settles };
    is = refl;
    accepted = refl;
    adds = refl;
    began = began_1;
  };
  write_first = omega arith;
  alone_then = alone_then_1;
  line = record { lane = 0; serial = 4; command = Reads };
  is = refl;
}

pub two_parts_are_carried : TwoPartsAreCarried
unfolding count_of
two_parts_are_carried = record {
  can = (omega arith, (omega arith, (omega arith, omega arith, refl)), omega arith);
  each = refl;
  carried = (carried_0, (carried_1, tt));
}
