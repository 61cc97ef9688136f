-- What foreign frames brought has a spelling.
use Rattle.std.proofs.Common.{◌≡◌, ◌<◌, ◌^◌, ◌+◌, ℕ, nat_eq, nat_lt, ◌&&◌, true, false, cond, Bool, All, List, [], ◌∷◌, length, Option, Some, None, refl, subst}
use Rattle.std.specs.List.{list_all}
use Rattle.std.proofs.lemmas.Bool.{and_parts, eqb-true, ltb-true}
use Rattle.std.proofs.lemmas.List.Elements.{All-nil, All-cons}
use Rattle.std.proofs.lemmas.List.{length-replicate}
use Rattle.express_words.specs.Limits.{levels_len}
use Rattle.express_words.specs.Ranges.{IsProofShare}
use Rattle.express_words.specs.declared.audit.ProofShare.{ProofShare}
use Rattle.frame_rules.specs.declared.frame.DepositBody.TheVariants as deposit
use Rattle.frame_rules.specs.Frames as frame
use Rattle.frame_rules.specs.Frames.{PlainBody}
use Rattle.run_rules.specs.Follows.{IsOfFrames}
use Rattle.run_rules.specs.Acts.{Taken, address_in, brought_by, first_in, if_fits, if_here, is_part, is_share, is_word, key_in, number_in, or_else, part_in, root_in, share_in}
use Rattle.run_rules.proofs.WholeLaw.{nothing_brought}

fitting : {X : Type 0} (P : X → Type 0) (t : Bool) (x y : X) → (t ≡ true → P x) → if_fits t x ≡ Some y → P y
fitting P true x y h e = let same : x ≡ y = cc in subst P same (h refl)
fitting P false x y h e = absurd (cc e)

first_fits : {X : Type 0} (P : X → Type 0) (of : PlainBody → Option X) (server c s : ℕ) (default : X) (ts : List Taken) → P default
    → ((body : PlainBody) (x : X) → of body ≡ Some x → P x) → P (first_in (if_here of server c s) default ts)
unfolding first_in
first_fits P of server c s default [] d h = d
first_fits P of server c s default (t ∷ ts) d h =
    at_test (nat_eq t.server server && (nat_eq t.frame.lane c && nat_eq t.frame.serial s)) (first_fits P of server c s default ts d h)
  where
    at_found : {X : Type 0} (P : X → Type 0) (found : Option X) (rest : X) → ((x : X) → found ≡ Some x → P x) → P rest → P (or_else found rest)
    at_found P (Some x) rest h k = h x refl
    at_found P None rest h k = k

    at_test : (here : Bool) → P (first_in (if_here of server c s) default ts) → P (or_else (cond here (of t.frame.body) None) (first_in (if_here of server c s) default ts))
    at_test true k = at_found P (of t.frame.body) _ (λ x e. h t.frame.body x e) k
    at_test false k = k

all_words : (m : ℕ) (xs : List ℕ) → list_all (λ n. nat_lt n m) xs ≡ true → All (λ n. n < m) xs
all_words m [] e = All-nil (λ n. n < m)
all_words m (x ∷ xs) e = let p = and_parts _ _ e in All-cons (λ n. n < m) x xs (ltb-true _ _ p.0) (all_words m xs p.1)

word : (n : ℕ) → is_word n ≡ true → n < 2 ^ 128
word n e = ltb-true _ _ e

share_fits : (p : ProofShare) → is_share p ≡ true → IsProofShare p
share_fits p e =
    let u = and_parts _ _ e in
    let v = and_parts _ _ u.1 in
    let h = and_parts _ _ v.1 in
    let size = and_parts _ _ h.1 in
    let a = and_parts _ _ size.1 in
    let b = and_parts _ _ a.1 in
    record { u = word p.u u.0; v = word p.v v.0; h = all_words (2 ^ 128) p.h h.0; size = eqb-true _ _ size.0; a = word p.a a.0; b = word p.b b.0; c = word p.c b.1 }

key_is : (body : PlainBody) (key : List ℕ) → key_in body ≡ Some key → length key ≡ 32
key_is (frame.Deposit (deposit.Register key)) x e = fitting (λ k. length k ≡ 32) (nat_eq (length key) 32) key x (λ t. eqb-true _ _ t) e
key_is (frame.Register address key) x e = fitting (λ k. length k ≡ 32) (nat_eq (length key) 32) key x (λ t. eqb-true _ _ t) e
key_is (frame.Deposit (deposit.Write root)) x e = absurd (cc e)
key_is (frame.Deposit (deposit.Read held)) x e = absurd (cc e)
key_is body x e = absurd (cc e)

root_is : (body : PlainBody) (root : ℕ) → root_in body ≡ Some root → root < 2 ^ 128
root_is (frame.Deposit (deposit.Write root)) x e = fitting (λ k. k < 2 ^ 128) (is_word root) root x (λ t. word root t) e
root_is (frame.Write root part) x e = fitting (λ k. k < 2 ^ 128) (is_word root) root x (λ t. word root t) e
root_is (frame.Deposit (deposit.Register key)) x e = absurd (cc e)
root_is (frame.Deposit (deposit.Read held)) x e = absurd (cc e)
root_is body x e = absurd (cc e)

share_is : (body : PlainBody) (share : ProofShare) → share_in body ≡ Some share → IsProofShare share
share_is (frame.Proof share) x e = fitting IsProofShare (is_share share) share x (λ t. share_fits share t) e
share_is body x e = absurd (cc e)

part_is : (width : ℕ) (body : PlainBody) (part : List ℕ) → part_in width body ≡ Some part → (length part ≡ levels_len + width) × All (λ n. n < 256) part
part_is width (frame.Write root part) x e =
    fitting (λ p. (length p ≡ levels_len + width) × All (λ n. n < 256) p) (is_part width part) part x
    (λ t. let p = and_parts _ _ t in (eqb-true _ _ p.0, all_words 256 part p.1)) e
part_is width body x e = absurd (cc e)

address_is : (body : PlainBody) (address : ℕ) → address_in body ≡ Some address → address < 2 ^ 128
address_is (frame.Register address key) x e = fitting (λ k. k < 2 ^ 128) (is_word address) address x (λ t. word address t) e
address_is body x e = absurd (cc e)

number_is : (body : PlainBody) (number : ℕ) → number_in body ≡ Some number → number < 2 ^ 32
number_is (frame.Read number held) x e = fitting (λ k. k < 2 ^ 32) (nat_lt number (2 ^ 32)) number x (λ t. ltb-true _ _ t) e
number_is (frame.Retire number held) x e = fitting (λ k. k < 2 ^ 32) (nat_lt number (2 ^ 32)) number x (λ t. ltb-true _ _ t) e
number_is body x e = absurd (cc e)

pub brought_fits : (width : ℕ) (all : List Taken) → IsOfFrames (brought_by width all)
brought_fits width all = let none = nothing_brought width in record {
  keys = λ server c s. first_fits (λ k. length k ≡ 32) key_in server c s _ all (none.keys server c s) key_is;
  roots = λ server c s. first_fits (λ k. k < 2 ^ 128) root_in server c s _ all (none.roots server c s) root_is;
  shares = λ server c s. first_fits IsProofShare share_in server c s _ all (none.shares server c s) share_is;
  bytes = λ c s. first_fits (λ p. All (λ n. n < 256) p) (part_in width) 0 c s _ all (none.bytes c s) (λ body x e. (part_is width body x e).1);
  addresses = λ c s. first_fits (λ k. k < 2 ^ 128) address_in 0 c s _ all (none.addresses c s) address_is;
  numbers = λ c s. first_fits (λ k. k < 2 ^ 32) number_in 0 c s _ all (none.numbers c s) number_is;
}

pub parts_fit : (width : ℕ) (all : List Taken) (c s : ℕ) → length ((brought_by width all).part c s) ≡ levels_len + width
parts_fit width all c s =
    first_fits (λ p. length p ≡ levels_len + width) (part_in width) 0 c s _ all (length-replicate (levels_len + width) 0) (λ body x e. (part_is width body x e).0)
