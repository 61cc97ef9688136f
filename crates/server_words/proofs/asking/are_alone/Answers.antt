use Rattle.std.proofs.Common.{arith, ◌≡◌, ◌↔◌, ◌∙◌, ap, sym, subst, IsTrue, length, get_or, string_bytes}
use Rattle.clap.specs.Words.{Text}
use Rattle.server_words.specs.CommandLine.{IsEither}
use Rattle.server_words.proofs.WordLaws.{one_word}
use Rattle.server_words.proofs.asking.are_alone.Goals as goal

pub returns-in-len1 : goal.returns-in-len1
returns-in-len1 c =
    let same = c.as_slice.ensures.value in
    let one : length c.as_slice.result.now ≡ 1 = omega arith in
    let is = c.word-item.is ∙ ap (λ s. get_or s 0 c.word-item.result) same in
    let says = subst (λ (t : Text). IsTrue c.is_either.result ↔ IsEither c.args.long.now c.args.short.now t) c.as_str.ensures.value c.is_either.ensures in
    one_word string_bytes c.args.long.now c.args.short.now c.args.words.now.items c.word-item.result c.is_either.result (ap length (sym same) ∙ one) is says
