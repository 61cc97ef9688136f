use Rattle.std.proofs.Common.{string_bytes}
use Rattle.owner_mail.specs.News.{Arrived}
use Rattle.owner_mail.specs.Targets.{files_of}
use Rattle.owner_mail.specs.Telling.{TellsItem}
use Rattle.owner_mail.proofs.TellLaws.{first_nothing, first_prefix, first_whole, on_err, on_ok, prints_whole}
use Rattle.owner_mail.proofs.writing.tell_file.Goals as goal

pub returns-in_err-text-clause-first : goal.returns-in_err-text-clause-first
returns-in_err-text-clause-first g c =
    on_err c.from_residual.result
    (first_nothing (TellsItem (files_of c.args.target.now) (Arrived c.args.mail.now c.args.letter.now)) _)

pub returns-in_err-put-clause-first : goal.returns-in_err-put-clause-first
returns-in_err-put-clause-first g c =
    on_err c.from_residual-in_err-put.result
    (first_prefix (TellsItem (files_of c.args.target.now) (Arrived c.args.mail.now c.args.letter.now))
    (string_bytes c.in_ok-text.text) c.as_str.result.now _ _ c.in_ok-text.ensures c.as_str.ensures.value
    c.in_err-put.ensures.first)

pub returns-clause-told : goal.returns-clause-told
returns-clause-told g c =
    on_ok c.note_told.result
    (prints_whole (TellsItem (files_of c.args.target.now) (Arrived c.args.mail.now c.args.letter.now))
    (string_bytes c.in_ok-text.text) c.as_str.result.now _ _ c.in_ok-text.ensures c.as_str.ensures.value
    c.in_ok-put.ensures.took)

pub returns-clause-first : goal.returns-clause-first
returns-clause-first g c =
    on_err c.note_told.result
    (first_whole (TellsItem (files_of c.args.target.now) (Arrived c.args.mail.now c.args.letter.now))
    (string_bytes c.in_ok-text.text) c.as_str.result.now _ _ c.in_ok-text.ensures c.as_str.ensures.value
    c.in_ok-put.ensures.took)
