use Rattle.std.proofs.Common.{◌≡◌, ◌∙◌, ap, ℕ, ◌+◌, ◌-◌, List, take, drop, length, refl, arith}
use Rattle.std.proofs.lemmas.List.{length-take-le}
use Rattle.express_words.specs.Bytes.{xor_bytes}
use Rattle.dpf_rules.specs.Expansion.{stream_bytes}
use Rattle.chacha_expand.proofs.StreamLemmas.{stream_slice, length-stream_bytes}
use Rattle.chacha_expand.proofs.reads.mask_into.Goals as goal

pub returns : goal.returns
returns c =
    let n = length c.args.out.now in
    let key = c.args.key.now in
    let stream = c.read_stream.result in
    let filled : c.stream_into.new.out ≡ stream_bytes key stream 0 (n + 16) =
    c.stream_into.ensures ∙ ap (stream_bytes key stream 0) (length-take-le (n + 16) _ (omega arith)) in
    let rest : take (length c.stream_into.new.out - 16) (drop 16 c.stream_into.new.out) ≡ stream_bytes key stream 16 n =
    ap (λ (xs : List ℕ). take (length xs - 16) (drop 16 xs)) filled
    ∙ ap (λ (k : ℕ). take k (drop 16 (stream_bytes key stream 0 (n + 16)))) (omega (arith, length-stream_bytes key stream 0 (n + 16)))
    ∙ stream_slice key stream 0 16 n (n + 16) 16 refl (omega arith) in
    c.xor_into.ensures ∙ ap (xor_bytes c.args.out.now) (rest ∙ ap (λ (s : ℕ). stream_bytes key s 16 n) c.read_stream.ensures)
