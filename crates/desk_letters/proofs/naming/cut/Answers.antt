use Rattle.std.proofs.Common.{◌≡◌, ◌∙◌, IfOk, ap, arith, subst, take}
use Rattle.std.specs.Prelude.{encode_utf8_all, string_bytes}
use Rattle.std.specs.Str.{chars}
use Rattle.std.proofs.lemmas.Iterator.{YieldsList-from_chars, YieldsList-from_take, text_from_collect}
use Rattle.desk_letters.proofs.NamingLaws.{cut_off, not_cut}
use Rattle.desk_letters.proofs.naming.cut.Goals.{then-len-line+in_ok-push_str, else-len-line}
use Rattle.desk_letters.proofs.naming.cut.Goals as goal

-- what the first characters are
front : (c : goal.Joined-len-line) → string_bytes c.in_ok-words.words ≡ encode_utf8_all (take 40 (chars c.args.line.now))
front c =
    let all = YieldsList-from_take 40 (YieldsList-from_chars c.args.line.now c.utf8.line cc) c.take.ensures.count in
    subst (λ r. IfOk r (λ w. string_bytes w ≡ encode_utf8_all (take 40 (chars c.args.line.now)))) c.in_ok-words.was
    (text_from_collect c.collect.result c.collect.ensures.ran all)

pub returns : goal.returns
returns c = elim c.if-len-line.branch [
  | then-len-line+in_ok-push_str w ↦
      ap string_bytes w.words-is ∙ w.in_ok-push_str.ensures.bytes
      ∙ cut_off c.args.line.now (string_bytes c.in_ok-words.words) c.utf8.line (front c)
      (omega (arith, w.if-len-line.true, c.len.ensures, c.in_ok-words.words.bytes.ok.0))
  | else-len-line w ↦
      ap string_bytes w.words-is
      ∙ not_cut c.args.line.now (string_bytes c.in_ok-words.words) c.utf8.line (front c)
      (omega (arith, w.if-len-line.false, c.len.ensures, c.in_ok-words.words.bytes.ok.0))
]
