use Rattle.std.proofs.Common.{drop, refl, ap, ◌∙◌, arith, rules}
use Rattle.httparse.specs.Grammar.{HasNoResponse, print_response}
use Rattle.httparse.specs.Spans.{IsResponseOf, IsResponseWithin}
use Rattle.http1.specs.Text.{lf_follows_cr}
use Rattle.http1.proofs.StrictLemmas.{take_front, response_too_long, response_refused}
use Rattle.http_door.proofs.ResponseLaws.{few_fields, never_strict}
use Rattle.http_door.proofs.response.find_response.Goals as goal

pub returns-in-Ok-Partial-clause-never : goal.returns-in-Ok-Partial-clause-never
returns-in-Ok-Partial-clause-never c =
    let none : HasNoResponse c.args.held.now = search rules in
    (refl, never_strict _ (response_too_long 4096 64 _ none c.if-held-ge-HEAD_MAX.true))

pub returns-in-Ok-Complete-clause-never : goal.returns-in-Ok-Complete-clause-never
returns-in-Ok-Complete-clause-never c =
    let found : IsResponseOf c.args.held.now c.parse_response.new.headers c.in-Ok-Complete.head =
    search rules in (
      refl,
      never_strict _
          (response_refused 4096 64 _ found.0 _ found.1.reads
          (λ strict. omega (arith, strict.0, found.1.len))),
    )

pub returns-in-Ok-Complete-2-clause-never : goal.returns-in-Ok-Complete-2-clause-never
returns-in-Ok-Complete-2-clause-never c =
    let found : IsResponseOf c.args.held.now c.parse_response.new.headers c.in-Ok-Complete.head =
    search rules in
    let text = take_front c.args.held.now (print_response found.0)
    (drop c.in-Ok-Complete.head.len c.args.held.now) c.in-Ok-Complete.head.len found.1.reads.1
    found.1.len in
    let is = c.has_no_bare_lf.ensures ∙ ap (lf_follows_cr 0) text in (
      refl,
      never_strict _ (response_refused 4096 64 _ found.0 _ found.1.reads
          (λ strict. cc (is, strict.1, c.if-not-has_no_bare_lf.true))),
    )

pub returns-in-Ok-Complete-3-clause-found : goal.returns-in-Ok-Complete-3-clause-found
returns-in-Ok-Complete-3-clause-found c =
    let found : IsResponseOf c.args.held.now c.parse_response.new.headers c.in-Ok-Complete.head =
    search rules in
    let within : IsResponseWithin c.args.held.now c.parse_response.new.headers c.in-Ok-Complete.head =
    search rules in
    let text = take_front c.args.held.now (print_response found.0)
    (drop c.in-Ok-Complete.head.len c.args.held.now) c.in-Ok-Complete.head.len found.1.reads.1
    found.1.len in
    let is = c.has_no_bare_lf.ensures ∙ ap (lf_follows_cr 0) text in (
      within,
      found.0,
      record {
        takes = record {
          reads = found.1.reads;
          strict = (omega (arith, found.1.len), cc (is, c.if-not-has_no_bare_lf.false));
          few = few_fields c.args.held.now c.parse_response.new.headers c.in-Ok-Complete.head.headers
              found.0.fields (omega (arith, c.requires, c.parse_response.auto.headers)) found.1.fields;
        };
        parts = found.1;
      },
    )
