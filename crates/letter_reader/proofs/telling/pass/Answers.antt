use Rattle.std.proofs.Common.{◌≡◌, ◌≤◌, ◌+◌, drop, Vec, Global, ◌++◌, ◌∷◌, ℕ, List, [], length, arith, sym}
use Rattle.std.proofs.Common.{ap, ◌∙◌, subst}
use Rattle.std.proofs.Common.{length-append}
use Rattle.std.proofs.lemmas.List.Elements.{All-push, All-get_or}
use Rattle.known_pieces.specs.Known.{Reading}
use Rattle.known_pieces.specs.Telling.{KnownPiece, Accounts}
use Rattle.letter_reader.specs.Reader.{AreBoxes, told_as}
use Rattle.letter_reader.proofs.TellLaws.{pass_opened, pass_left, tried_push, pass_done}
use Rattle.letter_reader.proofs.telling.pass.Goals as goal
use Rattle.letter_reader.proofs.telling.pass.Goals.{then-not-is_opened+in_ok-push, else-not-is_opened}

pub loop-reading-preserved : goal.loop-reading-preserved
loop-reading-preserved c =
    let r : Reading = c.reading-item.result in
    let kept : List Reading = c.loop-reading.kept.items in
    let kept_now : List Reading = c.if-not-is_opened.kept.items in
    let left : List Reading = c.args.left.now in
    let i : ℕ = c.loop-reading.reading-index in
    let old : List KnownPiece = c.loop-reading.known.items in
    let new : List KnownPiece = c.open_reading.new.known.items in
    let le : length kept ≤ i = c.loop-reading.invariant.fewer in
    elim c.if-not-is_opened.branch [
      | then-not-is_opened+in_ok-push w ↦
          let pushed : kept_now ≡ kept ++ r ∷ [] =
          ap (λ (v : Vec Reading Global). v.items) w.kept-is ∙ w.in_ok-push.ensures.items
          ∙ ap (λ (x : Reading). kept ++ x ∷ []) w.copied.ensures in
          let long : length kept_now ≡ length kept + 1 =
          ap (λ (t : List Reading). length t) pushed ∙ length-append kept (r ∷ []) in
          let same : new ≡ old = c.in_ok-is_opened.ensures.same w.if-not-is_opened.true in
          record {
            accounts = λ readings before.
                pass_left c.args.card.addresses readings kept kept_now left i r old new
                c.loop-reading-test.true
                c.reading-item.is same pushed (c.loop-reading.invariant.accounts readings before);
            tried = λ all. tried_push kept kept_now r old new same pushed (c.loop-reading.invariant.tried
                (omega arith))
                (c.in_ok-is_opened.ensures.tried w.if-not-is_opened.true);
            fewer = omega arith;
            wide = subst (AreBoxes c.args.card.width) (sym pushed)
                (All-push (λ (x : Reading). length x.bytes ≡ c.args.card.width) kept r
                c.loop-reading.invariant.wide
                (subst (λ (x : Reading). length x.bytes ≡ c.args.card.width) (sym c.reading-item.is)
                (All-get_or (λ (x : Reading). length x.bytes ≡ c.args.card.width) left i r
                c.loop-reading-test.true
                c.requires.wide)));
            apart = c.in_ok-is_opened.ensures.apart;
          }
      | else-not-is_opened w ↦
          let same : kept_now ≡ kept = ap (λ (v : Vec Reading Global). v.items) w.kept-is in
          let long : length kept_now ≡ length kept = ap (λ (t : List Reading). length t) same in
          record {
            accounts = λ readings before.
                subst (λ (some : List Reading). Accounts c.args.card.addresses readings
                (told_as new (some ++ drop (i + 1) left))) (sym same)
                (pass_opened c.args.card.addresses readings kept left i r old new c.loop-reading-test.true
                c.reading-item.is (c.loop-reading.invariant.accounts readings before)
                (c.in_ok-is_opened.ensures.opens w.if-not-is_opened.false));
            tried = λ all. absurd (omega arith);
            fewer = omega arith;
            wide = subst (AreBoxes c.args.card.width) (sym same) c.loop-reading.invariant.wide;
            apart = c.in_ok-is_opened.ensures.apart;
          }
    ]

pub returns-clause-accounts : goal.returns-clause-accounts
returns-clause-accounts c readings before =
    pass_done c.args.card.addresses readings c.loop-reading.kept.items c.args.left.now
    c.loop-reading.reading-index
    c.loop-reading.known.items c.loop-reading-test.false (c.loop-reading.invariant.accounts readings before)
