-- A read: the box's share, masked.
use Rattle.std.proofs.Common.{◌≡◌, ℕ, List, length, replicate, ap, ◌∙◌}
use Rattle.std.proofs.lemmas.List.FromFn.{length-map-range_with_len}
use Rattle.std.proofs.lemmas.List.{length-replicate}
use Rattle.express_words.specs.Bytes.{xor_bytes}
use Rattle.express_words.proofs.Bytes.{xor_bytes_comm, zeros_xor_bytes}
use Rattle.dpf_rules.specs.Expansion.{stream_byte, stream_bytes, read_stream, mask}

length-mask : (k : List ℕ) (lane serial n : ℕ) → length (mask k lane serial n) ≡ n
unfolding stream_bytes
length-mask k lane serial n = length-map-range_with_len (stream_byte k (read_stream lane serial)) 16 n

-- zeros, with the mask and then the share added
pub masked_is : (n w : ℕ) (zeros first out share k : List ℕ) (lane serial : ℕ) → zeros ≡ replicate n 0 → n ≡ w → first ≡ xor_bytes zeros (mask k lane serial (length zeros)) → out ≡ xor_bytes first share →
    out ≡ xor_bytes share (mask k lane serial w)
masked_is n w zeros first out share k lane serial zeros_are n_is first_is out_is =
    let first_mask : first ≡ mask k lane serial w =
    first_is
    ∙ (ap (λ (z : List ℕ). xor_bytes z (mask k lane serial (length z))) (zeros_are ∙ ap (λ x. replicate x 0) n_is)
    ∙ (ap (λ l. xor_bytes (replicate w 0) (mask k lane serial l)) (length-replicate w 0)
    ∙ zeros_xor_bytes w (mask k lane serial w) (length-mask k lane serial w))) in
    out_is ∙ (ap (λ x. xor_bytes x share) first_mask ∙ xor_bytes_comm (mask k lane serial w) share)
