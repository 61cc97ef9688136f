-- User names of different dials differ.
use Rattle.std.proofs.Common.{◌≡◌, ◌++◌, ℕ, List, length, take, drop, sym, ◌∙◌, ap, subst}
use Rattle.std.specs.Int.{w64, from_be_bytes}
use Rattle.std.proofs.Math.Seq.{take-append_seam, drop-append_seam}
use Rattle.std.proofs.lemmas.Nat.{from_be_bytes-to_be_bytes_8}
use Rattle.socks_proxy.specs.Circuits.{NamesDiffer}

front_of : (a b x y : List ℕ) → length a ≡ length b → a ++ x ≡ b ++ y → a ≡ b
front_of a b x y long same =
    sym (take-append_seam a x) ∙ ap (take (length a)) same ∙ subst (λ n. take n (b ++ y) ≡ b) (sym long) (take-append_seam b y)

behind_of : (a b x y : List ℕ) → length a ≡ length b → a ++ x ≡ b ++ y → x ≡ y
behind_of a b x y long same =
    sym (drop-append_seam a x) ∙ ap (drop (length a)) same ∙ subst (λ n. drop n (b ++ y) ≡ y) (sym long) (drop-append_seam b y)

pub names_tell : NamesDiffer
names_tell a b m n long small few same = (
  front_of a b _ _ long same,
  sym (from_be_bytes-to_be_bytes_8 m small) ∙ ap (from_be_bytes w64) (behind_of a b _ _ long same) ∙ from_be_bytes-to_be_bytes_8 n few,
)
