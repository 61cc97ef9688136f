-- What equal leaves write.
use Rattle.std.proofs.Common.{◌≡◌, ℕ, ◌%◌, List, length, sym, ap, ◌∙◌, arith, inl, inr}
use Rattle.std.proofs.lemmas.Bool.{cases_eq}
use Rattle.express_words.specs.Bytes.{xor_bytes}
use Rattle.express_words.proofs.Bytes.{length-xor_bytes, xor_bytes_exchange, xor_bytes_self, xor_bytes_zeros}
use Rattle.dpf_rules.specs.Expansion.{block}
use Rattle.dpf_rules.specs.Walk.{last_of, leaf_of, leaf_bytes, write_bytes}
use Rattle.dpf_rules.proofs.KeysLemmas.{length-block}
use Rattle.dpf_rules.proofs.WriteLemmas.{set_bytes, clear_bytes}

-- write bytes are as long as the last correction
pub length-write : (part : List ℕ) (leaf : ℕ) → length (leaf_bytes part leaf) ≡ length (last_of part)
length-write part leaf =
    let own = length-block (length (last_of part)) leaf in
    elim (cases_eq (leaf % 2) 1) [
      | inl h ↦ ap length (set_bytes part leaf h) ∙ length-xor_bytes (block (length (last_of part)) leaf) (last_of part) own ∙ own
      | inr h ↦ ap length (clear_bytes part leaf (omega arith)) ∙ own
    ]

pub write_alike : (part : List ℕ) (root0 root1 address : ℕ) → leaf_of part 0 root0 address ≡ leaf_of part 1 root1 address → write_bytes part 0 root0 address ≡ write_bytes part 1 root1 address
write_alike part root0 root1 address h = ap (leaf_bytes part) h

pub box_stays : (part : List ℕ) (root0 root1 address : ℕ) (s t : List ℕ) → leaf_of part 0 root0 address ≡ leaf_of part 1 root1 address →
    length s ≡ length (last_of part) → length t ≡ length (last_of part) →
    xor_bytes (xor_bytes s (write_bytes part 0 root0 address)) (xor_bytes t (write_bytes part 1 root1 address)) ≡ xor_bytes s t
box_stays part root0 root1 address s t h hs ht =
    let w = write_bytes part 1 root1 address in
    let lw : length w ≡ length (last_of part) = length-write part (leaf_of part 1 root1 address) in
    let sizes : length s ≡ length t = hs ∙ sym ht in
    ap (λ v. xor_bytes (xor_bytes s v) (xor_bytes t w)) (write_alike part root0 root1 address h)
    ∙ xor_bytes_exchange s w t w
    ∙ ap (xor_bytes (xor_bytes s t)) (xor_bytes_self w)
    ∙ xor_bytes_zeros (xor_bytes s t) (length w) (length-xor_bytes s t sizes ∙ hs ∙ sym lw)
