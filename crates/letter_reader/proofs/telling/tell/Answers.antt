use Rattle.std.proofs.Common.{List, length, arith, sym, ap, subst}
use Rattle.known_pieces.specs.Known.{Reading}
use Rattle.known_pieces.specs.Telling.{KnownPiece, Accounts}
use Rattle.letter_reader.specs.Reader.{told_as}
use Rattle.letter_reader.proofs.TellLaws.{all_left}
use Rattle.letter_reader.proofs.telling.tell.Goals as goal

pub loop-before-init : goal.loop-before-init
loop-before-init c = record {
  accounts = c.in_ok-left.ensures.accounts c.args.readings.now
      (subst (λ (known : List KnownPiece). Accounts c.args.card.addresses c.args.readings.now
      (told_as known c.args.readings.now)) (sym c.new-known.ensures.items)
      (all_left c.args.card.addresses c.args.readings.now));
  tried = c.in_ok-left.ensures.tried;
  fewer = c.in_ok-left.ensures.fewer;
  wide = c.in_ok-left.ensures.wide;
  apart = c.in_ok-left.ensures.apart;
}

pub loop-before-preserved : goal.loop-before-preserved
loop-before-preserved c = record {
  accounts = c.in_ok-left-2.ensures.accounts c.args.readings.now
      (subst (λ (left : List Reading). Accounts c.args.card.addresses c.args.readings.now
      (told_as c.loop-before.known.items left)) (sym c.as_slice.ensures.value)
      c.loop-before.invariant.accounts);
  tried = λ all. c.in_ok-left-2.ensures.tried (let e = ap (λ (t : List Reading). length t)
      c.as_slice.ensures.value in omega (arith, c.len-before.ensures, all));
  fewer = let e = ap (λ (t : List Reading). length t) c.as_slice.ensures.value in let le =
      c.in_ok-left-2.ensures.fewer in omega (arith, c.len-before.ensures);
  wide = c.in_ok-left-2.ensures.wide;
  apart = c.in_ok-left-2.ensures.apart;
}
