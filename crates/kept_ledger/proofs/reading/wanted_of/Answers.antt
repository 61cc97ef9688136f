use Rattle.std.proofs.Common.{◌≡◌, ◌≤◌, ◌*◌, ◌++◌, ℕ, List, length, false, drop, ◌∙◌, ap, subst, arith}
use Rattle.std.proofs.lemmas.List.{take-append-drop}
use Rattle.kept_ledger.specs.Names.{is_name}
use Rattle.kept_ledger.proofs.NamedLaws.{named_is, none_unnamed}
use Rattle.kept_ledger.proofs.reading.wanted_of.Goals as goal

pub returns-in-Some-clause-is : goal.returns-in-Some-clause-is
returns-in-Some-clause-is c =
    let rest : List ℕ = c.args.rest.now in
    let front : List ℕ = c.split_at.result.0.now in
    let behind : List ℕ = c.split_at.result.1.now in
    let whole : front ++ behind ≡ rest = cc (c.split_at.ensures.front, c.split_at.ensures.back, take-append-drop (c.from-used.result * 16) rest) in
    let size : length front ≡ c.args.count * 16 = omega (arith, c.split_at.ensures.front_len, c.from-used.ensures) in
    let some : 1 ≤ c.args.count = omega (arith, c.if-count-eq0.false) in
    let few : c.args.count ≤ 64 = omega (arith, c.if-count-gt64.false) in
    let is = rw c.in-Some.is at c.name_in.ensures in
    named_is c.args.count rest front behind c.addresses_in.result.now c.in-Some.name.now c.args.until c.requires some few whole size
    c.addresses_in.ensures.spelled c.addresses_in.ensures.fits is.0 is.1

pub returns-in-None-clause-is : goal.returns-in-None-clause-is
returns-in-None-clause-is c =
    let no_name : is_name c.split_at.result.1.now ≡ false = rw c.in-None.is at c.name_in.ensures in
    let behind : c.split_at.result.1.now ≡ drop (c.args.count * 16) c.args.rest.now =
    c.split_at.ensures.back ∙ ap (λ (k : ℕ). drop (k * 16) c.args.rest.now) c.from-used.ensures in
    none_unnamed c.args.count c.args.rest.now (subst (λ (l : List ℕ). is_name l ≡ false) behind no_name)
