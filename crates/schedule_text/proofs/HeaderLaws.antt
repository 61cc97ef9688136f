-- A line is a header exactly where it spells one.
use Rattle.std.proofs.Common.{◌≡◌, ℕ, ◌<◌, ◌^◌, ◌==◌, nat_eq, ◌%◌, true, List, ◌++◌, Some, codes, arith, refl, sym, ◌∙◌, ap, subst}
use Rattle.std.specs.Fmt.{decimal}
use Rattle.std.proofs.lemmas.Bool.{eqb-true}
use Rattle.schedule_text.specs.declared.schedule.Header.{Header}
use Rattle.express_texts.specs.LineFields.{after, wanted, seed_of}
use Rattle.express_texts.specs.Numbers.{number_at}
use Rattle.express_texts.proofs.FieldLaws.{bind_some, after_found, after_only, wanted_found, seed_found}
use Rattle.express_texts.proofs.NumberLaws.{number_found, number_only}
use Rattle.express_words.specs.Settled.{settled}
use Rattle.express_words.proofs.SettledLaws.{settings_settle, settled_numbers}
use Rattle.schedule_text.specs.Grammar.{header_of}
use Rattle.schedule_text.specs.Spelling.{SpellsHeader}
use Rattle.schedule_text.proofs.FieldLaws.{spaced}

some_is : {A : Type 0} (x y : A) → Some x ≡ Some y → x ≡ y
some_is x y h = cc

fits_4096 : 4096 < 2 ^ 64
fits_4096 = omega arith

fits_256 : 256 < 2 ^ 64
fits_256 = omega arith

fits_32 : 32 < 2 ^ 64
fits_32 = omega arith

-- the line of four numbers, and what stands behind them
abbrev spelled : ℕ → ℕ → ℕ → ℕ → List ℕ → List ℕ
spelled width boxes lanes window f =
    codes "express 1 " ++ (decimal width ++ (codes " " ++ (decimal boxes ++ (codes " "
    ++ (decimal lanes ++ (codes " " ++ (decimal window ++ (codes " " ++ f))))))))

-- the word, and four numbers, each before a space
fields_of : (line a b d e f : List ℕ) (width boxes lanes window : ℕ × List ℕ) → line ≡ codes "express 1 " ++ a
    → a ≡ decimal width.0 ++ (codes " " ++ b) → b ≡ decimal boxes.0 ++ (codes " " ++ d)
    → d ≡ decimal lanes.0 ++ (codes " " ++ e) → e ≡ decimal window.0 ++ (codes " " ++ f)
    → line ≡ spelled width.0 boxes.0 lanes.0 window.0 f
fields_of line a b d e f width boxes lanes window g h k l m =
    g
    ∙ ap (λ r. codes "express 1 " ++ r) (h
    ∙ ap (λ r. decimal width.0 ++ (codes " " ++ r)) (k
    ∙ ap (λ r. decimal boxes.0 ++ (codes " " ++ r)) (l
    ∙ ap (λ r. decimal lanes.0 ++ (codes " " ++ r)) m)))

spelled_too : (line f : List ℕ) (w b l i w2 b2 l2 i2 : ℕ) → (w2 ≡ w) × (b2 ≡ b) × (l2 ≡ l) × (i2 ≡ i) → line ≡ spelled w b l i f → line ≡ spelled w2 b2 l2 i2 f
spelled_too line f w b l i w2 b2 l2 i2 are is =
    is ∙ (ap (λ x. spelled x b l i f) (sym are.0) ∙ (ap (λ x. spelled w2 x l i f) (sym are.1)
    ∙ (ap (λ x. spelled w2 b2 x i f) (sym are.2) ∙ ap (λ x. spelled w2 b2 l2 x f) (sym are.3))))

pub header_found : (line : List ℕ) (header : Header) → header_of line ≡ Some header → SpellsHeader header line
unfolding header_of
header_found line header h =
    let a = bind_some (after (codes "express 1 ") line) _ header h in
    let width = bind_some (number_at 16 4096 a.0) _ header a.2 in
    let b = bind_some (after (codes " ") width.0.1) _ header width.2 in
    let boxes = bind_some (number_at 1 4096 b.0) _ header b.2 in
    let d = bind_some (after (codes " ") boxes.0.1) _ header boxes.2 in
    let lanes = bind_some (number_at 1 256 d.0) _ header d.2 in
    let e = bind_some (after (codes " ") lanes.0.1) _ header lanes.2 in
    let window = bind_some (number_at 1 32 e.0) _ header e.2 in
    let f = bind_some (after (codes " ") window.0.1) _ header window.2 in
    let seed = bind_some (seed_of f.0) _ header f.2 in
    let settings = bind_some (settled width.0.0 boxes.0.0 lanes.0.0 window.0.0) _ header seed.2 in
    let is = some_is (record { settings = settings.0; seed = seed.0 }) header settings.2 in
    let are = settled_numbers width.0.0 boxes.0.0 lanes.0.0 window.0.0 settings.0 settings.1 in
    subst (λ (q : Header). SpellsHeader q line) is (record {
      digits = f.0;
      seed = seed_found f.0 seed.0 seed.1;
      text = spelled_too line f.0 width.0.0 boxes.0.0 lanes.0.0 window.0.0 settings.0.width settings.0.boxes settings.0.lanes settings.0.window are (fields_of line a.0 b.0 d.0 e.0 f.0 width.0 boxes.0 lanes.0 window.0
          (after_found (codes "express 1 ") line a.0 a.1)
          (spaced 16 4096 a.0 width.0 b.0 fits_4096 width.1 b.1)
          (spaced 1 4096 b.0 boxes.0 d.0 fits_4096 boxes.1 d.1)
          (spaced 1 256 d.0 lanes.0 e.0 fits_256 lanes.1 e.1)
          (spaced 1 32 e.0 window.0 f.0 fits_32 window.1 f.1));
    })

pub header_only : (line : List ℕ) (header : Header) → SpellsHeader header line → header_of line ≡ Some header
unfolding header_of seed_of
header_only line header h =
    let s = header.settings in
    let tail1 = codes " " ++ h.digits in
    let tail2 = codes " " ++ (decimal s.window ++ tail1) in
    let tail3 = codes " " ++ (decimal s.lanes ++ tail2) in
    let tail4 = codes " " ++ (decimal s.boxes ++ tail3) in
    rw (
      h.text,
      after_only (codes "express 1 ") (decimal s.width ++ tail4),
      number_only 16 4096 s.width tail4 (omega arith) s.limits.0.0 s.limits.0.1 refl,
      after_only (codes " ") (decimal s.boxes ++ tail3),
      number_only 1 4096 s.boxes tail3 (omega arith) s.limits.1.0 s.limits.1.1 refl,
      after_only (codes " ") (decimal s.lanes ++ tail2),
      number_only 1 256 s.lanes tail2 (omega arith) s.limits.2.0 s.limits.2.1 refl,
      after_only (codes " ") (decimal s.window ++ tail1),
      number_only 1 32 s.window tail1 (omega arith) s.limits.3.0 s.limits.3.1 refl,
      after_only (codes " ") h.digits,
      h.seed,
      settings_settle s,
    ) refl
