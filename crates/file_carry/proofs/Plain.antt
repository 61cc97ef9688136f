-- What a client's write adds in the plain table.
use Rattle.std.proofs.Common.{◌∙◌, [], cond, arith, refl, ap}
use Rattle.std.proofs.lemmas.Bool.{eq-eqb, ne_eqb}
use Rattle.mailbox_rules.specs.Tables.{message_at}
use Rattle.file_carry.specs.CarriedLaws.{PlainWritesAdd}

pub plain_writes_add : PlainWritesAdd
plain_writes_add sent accepts lane serial target message is = record {
  at_target = ap (λ r. message_at r target) is ∙ ap (λ b. cond b message []) (eq-eqb target target refl);
  elsewhere = λ width address fails. record {
    size = 0;
    fits = omega arith;
    zeros = ap (λ r. message_at r address) is ∙ ap (λ b. cond b message []) (ne_eqb target address fails);
  };
}
