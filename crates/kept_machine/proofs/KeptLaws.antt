-- What stands on a disk, before and after a record.
use Rattle.std.proofs.Common.{inr, ℕ, List, [], ◌∷◌, ◌++◌, ◌∙◌, ap, arith, refl}
use Rattle.node_journal.specs.Records.{content, Appended}
use Rattle.kept_machine.specs.Machines.{Rules, RulesHold, IsForm, IsForeign, All}
use Rattle.kept_machine.specs.Kept.{Holds, Stands, IsDamagedAt}
use Rattle.kept_machine.specs.Replays.{EndsWith, EndsDamaged, IsNoRecord, RecordsToEnd, StandsFirst, StepsToEnd}
use Rattle.kept_machine.proofs.FormLaws.{gives_push, gives_same}

-- ---- reading

opened_form : {M : Type 0} (rules : Rules M) (first : List ℕ) (later : List (List ℕ)) → rules.is_opening first → All rules.is_record later → IsForm rules (first ∷ later)
opened_form rules first later is all = record { first = first; is_opening = is; later = later; are_records = all; split = refl }

pub stands_all : {M : Type 0} (rules : Rules M) (first : List ℕ) (end : ℕ) (opened now : M) (reads : List ℕ → Type 0) → RulesHold rules
    → rules.is_opening first → rules.opens first opened → StandsFirst first end reads → StepsToEnd rules end opened now reads → Stands rules now reads
unfolding opened_form
stands_all rules first end opened now reads hold is opens stands all = record {
  records = first ∷ all.records;
  gives = record {
    form = opened_form rules first all.records is all.whole;
    opened = opened;
    opens = opens;
    stepped = now;
    runs = all.runs;
    same = hold.itself now;
  };
  held = λ d read. stands d read ∙ ap (λ (l : List (List ℕ)). first ∷ l) (all.all d read);
}

pub holds_whole : {M : Type 0} (rules : Rules M) (first : List ℕ) (end : ℕ) (reads : List ℕ → Type 0) → rules.is_opening first → StandsFirst first end reads
    → RecordsToEnd rules end reads → (records : List (List ℕ)) × IsForm rules records × Holds records reads
holds_whole rules first end reads is stands all =
    (first ∷ all.0, opened_form rules first all.0 is all.1, λ d read. stands d read ∙ ap (λ (l : List (List ℕ)). first ∷ l) (all.2 d read))

pub ends_foreign : {M : Type 0} (rules : Rules M) (n end : ℕ) (first : List ℕ) (reads : List ℕ → Type 0) → rules.is_opening first → StandsFirst first end reads
    → EndsWith rules (IsNoRecord rules) n end reads → (d : List ℕ) → reads d → IsForeign rules n (content d)
ends_foreign rules n end first reads is stands ends d read = inr (record {
  before = first ∷ ends.records;
  form = opened_form rules first ends.records is ends.whole;
  foreign = ends.bytes;
  no_record = ends.is;
  rest = (ends.split d read).0;
  split = stands d read ∙ ap (λ (l : List (List ℕ)). first ∷ l) (ends.split d read).1;
  place = omega (arith, ends.place);
})

pub ends_damaged : {M : Type 0} (rules : Rules M) (limit n end : ℕ) (first : List ℕ) (reads : List ℕ → Type 0) → rules.is_opening first → StandsFirst first end reads
    → EndsDamaged rules limit n end reads → (d : List ℕ) → reads d → IsDamagedAt rules limit n d
ends_damaged rules limit n end first reads is stands ends d read = record {
  found = (ends.damaged d read).0;
  before = inr (record {
    before = first ∷ ends.records;
    form = opened_form rules first ends.records is ends.whole;
    split = stands d read ∙ ap (λ (l : List (List ℕ)). first ∷ l) (ends.split d read);
  });
}

-- ---- one record more

pub holds_push : (records : List (List ℕ)) (bytes : List ℕ) (reads reads_now : List ℕ → Type 0) → Holds records reads
    → ((d : List ℕ) → reads_now d → Appended reads bytes d) → Holds (records ++ bytes ∷ []) reads_now
holds_push records bytes reads reads_now held appended d read =
    let now = appended d read in
    now.2 ∙ ap (λ (l : List (List ℕ)). l ++ bytes ∷ []) (held now.0 now.1)

pub stands_push : {M : Type 0} (rules : Rules M) (before now : M) (bytes : List ℕ) (reads reads_now : List ℕ → Type 0) → RulesHold rules
    → Stands rules before reads → rules.is_record bytes → rules.steps bytes before now → ((d : List ℕ) → reads_now d → Appended reads bytes d)
    → Stands rules now reads_now
stands_push rules before now bytes reads reads_now hold stands is step appended = record {
  records = stands.records ++ bytes ∷ [];
  gives = gives_push rules stands.records before bytes now hold stands.gives is step;
  held = holds_push stands.records bytes reads reads_now stands.held appended;
}

-- memory was taken
pub stands_same : {M : Type 0} (rules : Rules M) (before now : M) (reads : List ℕ → Type 0) → RulesHold rules → rules.is_same before now
    → Stands rules before reads → Stands rules now reads
stands_same rules before now reads hold same stands =
    record { records = stands.records; gives = gives_same rules stands.records before now hold same stands.gives; held = stands.held }
