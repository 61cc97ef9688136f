-- The words by which server 0's share, with f·g and a·b, makes up server 1's.
use Rattle.std.proofs.Common.{◌≡◌, ℕ, List, [], ◌∷◌, length, ap, arith, bit_xor}
use Rattle.std.specs.Prelude.{slice_index}
use Rattle.std.specs.Int.Bits.{xor_comm}
use Rattle.express_words.specs.declared.audit.ProofShare.{ProofShare}
use Rattle.tower_laws.specs.Polynomials.{plus_of, times_of}
use Rattle.audit_rules.specs.Audit.{product, zero_share, one_share, honest_f, honest_g}
use Rattle.write_hiding.specs.Choices.{PlainChoice}
use Rattle.write_hiding.specs.Views.{drawn}
use Rattle.write_hiding.specs.Moved.{with_zero}
use Rattle.write_hiding.proofs.AuditLemmas.{plus_comm}

module _ (choice : PlainChoice) (share : ProofShare) (m r s : ℕ) where
  -- the words of the choice where server 0 has this share, but for this h
  abbrev with : List ℕ → ℕ → List ℕ
  with h c = with_zero choice.words (record share { h = h; c = c })

  abbrev words : List ℕ
  words = drawn (record choice { words = with_zero choice.words share })

  abbrev fg : List ℕ
  fg = times_of 0 bit_xor product (honest_f m r words) (honest_g m r s words)

  abbrev ab : ℕ
  ab = product (bit_xor share.a (slice_index choice.words 10)) (bit_xor share.b (slice_index choice.words 12))

  abbrev made : List ℕ → ProofShare
  made h = one_share m r s (choice.own_root ∷ (choice.other_root ∷ with h share.c))

  pub zero_words_are : (h : List ℕ) → length h ≡ 5 →
      with (made h).h (made h).c ≡ with (plus_of bit_xor h fg) (bit_xor share.c ab)
  unfolding one_share zero_share
  zero_words_are (h0 ∷ (h1 ∷ (h2 ∷ (h3 ∷ (h4 ∷ []))))) size =
      rw (xor_comm ab share.c) (ap (λ h. with h (bit_xor share.c ab)) (plus_comm fg (h0 ∷ (h1 ∷ (h2 ∷ (h3 ∷ (h4 ∷ [])))))))
  zero_words_are [] size = absurd (omega arith)
  zero_words_are (h0 ∷ []) size = absurd (omega arith)
  zero_words_are (h0 ∷ (h1 ∷ [])) size = absurd (omega arith)
  zero_words_are (h0 ∷ (h1 ∷ (h2 ∷ []))) size = absurd (omega arith)
  zero_words_are (h0 ∷ (h1 ∷ (h2 ∷ (h3 ∷ [])))) size = absurd (omega arith)
  zero_words_are (h0 ∷ (h1 ∷ (h2 ∷ (h3 ∷ (h4 ∷ (h5 ∷ h)))))) size = absurd (omega arith)
