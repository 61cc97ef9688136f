-- A line is read exactly where its check word is right.
use Rattle.std.proofs.Common.{◌≡◌, ℕ, ◌-◌, Bool, true, false, cond, List, [], ◌∷◌, ◌++◌, length, get_or, take, drop, Some, None, refl, ap, sym, ◌∙◌, arith}
use Rattle.std.specs.Str.{bytes_eq}
use Rattle.std.proofs.lemmas.List.{take_at, drop_at, length-append, take-append-drop}
use Rattle.std.proofs.lemmas.Slice.Eq.{bytes_eq-Decides}
use Rattle.sha2.specs.Sha256.{sha256}
use Rattle.desk_texts.specs.Checks.{with_content, digit_of, check_word, checked, content_of}

-- a check word from a digest
abbrev pub word_of : List ℕ → List ℕ
word_of d =
    32 ∷ (digit_of (get_or d 0 0) ∷ (digit_of (get_or d 1 0) ∷ (digit_of (get_or d 2 0)
    ∷ (digit_of (get_or d 3 0) ∷ (digit_of (get_or d 4 0) ∷ [])))))

pub word_is : (d said : List ℕ) → d ≡ sha256 said → word_of d ≡ check_word said
unfolding check_word
word_is d said is = ap word_of is

pub length-check_word : (said : List ℕ) → length (check_word said) ≡ 6
unfolding check_word
length-check_word said = refl

-- what was checked is read
pub content_only : (said content : List ℕ) → content_of said (checked said content) ≡ Some content
unfolding content_of
content_only said content =
    let word : List ℕ = check_word (with_content said content) in
    let len : length (content ++ word) - 6 ≡ length content =
    omega (arith, length-append content word, length-check_word (with_content said content)) in
    let front : take (length (content ++ word) - 6) (content ++ word) ≡ content =
    ap (λ n. take n (content ++ word)) len ∙ take_at content word (length content) refl in
    let back : drop (length (content ++ word) - 6) (content ++ word) ≡ word =
    ap (λ n. drop n (content ++ word)) len ∙ drop_at content word (length content) refl in
    let same : bytes_eq word (check_word (with_content said content)) ≡ true = (bytes_eq-Decides word word).1 refl in
    at_parts (take (length (content ++ word) - 6) (content ++ word)) (drop (length (content ++ word) - 6) (content ++ word)) front back same
  where
    at_parts : (c w : List ℕ) → c ≡ content → w ≡ check_word (with_content said content)
        → bytes_eq (check_word (with_content said content)) (check_word (with_content said content)) ≡ true
        → cond (bytes_eq w (check_word (with_content said c))) (Some c) None ≡ Some content
    at_parts c w c_is w_is same = rw (c_is, w_is, same) refl

-- what is read was checked
pub content_found : (said line content : List ℕ) → content_of said line ≡ Some content → line ≡ checked said content
unfolding content_of
content_found said line content h =
    at_test (bytes_eq (drop (length line - 6) line) (check_word (with_content said (take (length line - 6) line)))) refl h
  where
    at_test : (t : Bool)
        → bytes_eq (drop (length line - 6) line) (check_word (with_content said (take (length line - 6) line))) ≡ t
        → cond t (Some (take (length line - 6) line)) None ≡ Some content → line ≡ checked said content
    at_test false e k = cc
    at_test true e k =
        let c : take (length line - 6) line ≡ content = cc in
        let w = (bytes_eq-Decides (drop (length line - 6) line) (check_word (with_content said (take (length line - 6) line)))).0 e in
        sym (take-append-drop (length line - 6) line)
        ∙ ap (λ (t : List ℕ). take (length line - 6) line ++ t) w
        ∙ ap (λ (t : List ℕ). t ++ check_word (with_content said t)) c
