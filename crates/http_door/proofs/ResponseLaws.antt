-- The response that bytes begin with.
use Rattle.std.proofs.Common.{◌≡◌, ℕ, ◌≤◌, List, length, take, drop, sym, ap, ◌∙◌, subst, arith}
use Rattle.std.specs.Prelude.{Some}
use Rattle.std.proofs.lemmas.List.{length-map, length-take, take-append-drop}
use Rattle.httparse.specs.Grammar.{Field, ResponseHead}
use Rattle.httparse.specs.Spans.{AreFieldsAt, header_bytes, name_and_value}
use Rattle.httparse.specs.declared.spans.HeaderSpan.{HeaderSpan}
use Rattle.http1.specs.Client.{HasNoStrictHead}
use Rattle.http_door.specs.Responses.{TakesResponse, HoldsResponse, NeverTakesResponse, reply_len}

pub never_strict : (held : List ℕ) → HasNoStrictHead 4096 held 64 → NeverTakesResponse held
never_strict held none more head after takes =
    let over = none more head after takes.reads takes.strict in
    let few = takes.few in
    absurd (omega arith)

pub few_fields : (held : List ℕ) (spans : List HeaderSpan) (count : ℕ) (fields : List Field)
    → length spans ≡ 64
    → AreFieldsAt held spans count fields → length fields ≤ 64
few_fields held spans count fields room are =
    omega (
      arith,
      ap length are,
      length-map (take count spans) (header_bytes held),
      length-map fields name_and_value,
      length-take count spans,
    )

-- a head, and behind it no less than its body
pub holds_reply : (held : List ℕ) (head : ResponseHead) (after : List ℕ) (n : ℕ)
    → TakesResponse held head after
    → reply_len head ≡ Some n → n ≤ length after → HoldsResponse held head (take n after) (drop n after)
holds_reply held head after n takes size inside = record {
  takes = subst (λ (t : List ℕ). TakesResponse held head t) (sym (take-append-drop n after)) takes;
  size = size ∙ ap (λ (k : ℕ). Some k) (omega (arith, length-take n after));
}
