-- The header, field by field.
use Rattle.std.proofs.Common.{◌≡◌, ℕ, suc, ◌+◌, ◌≤◌, Bool, true, false, cond, eqb, leb, not, List, [], ◌∷◌, length, Option, Some, None, Ok, Err, refl, sym, ap, ◌∙◌, subst, arith, inl, inr}
use Rattle.std.specs.Prelude.{◌⊎◌, ◌&&◌, ◌||◌}
use Rattle.std.specs.Int.{w8, w16, w32, w64}
use Rattle.std.proofs.lemmas.Bool.Decides.{nat_tests}
use Rattle.std.proofs.lemmas.Bool.{cases_eq, eqb-true, eqb-false}
use Rattle.frame_rules.specs.declared.fault.FrameFault.TheVariants as fault
use Rattle.frame_rules.specs.declared.kind.Kind.{Kind}
use Rattle.frame_rules.specs.declared.kind.Kind.TheVariants as kinds
use Rattle.frame_rules.specs.Kinds.{kind_number, version_of, is_linked, is_refused, kind_numbered}
use Rattle.frame_rules.specs.Reading.{Header, length_in, version_in, kind_with, kind_in, serial_in, link_in, header_in}
use Rattle.frame_rules.specs.Fields as field
use Rattle.frame_rules.specs.Fields.{Field, HasCome, big_endian, Front, front, IsLinked, IsRight, FirstWrong}
use Rattle.frame_rules.proofs.HeaderLaws.{kind_numbered_is, number_known}
use Rattle.frame_rules.proofs.FieldSteps.{Heads, heads_ok, then, judged_number, passed_number, tested, guarded}

-- ---- kinds and their numbers

-- of which version a kind is
pub version_is : (k : Kind) → ((version_of k ≡ 1) × (1 ≤ kind_number k) × (kind_number k ≤ 15)) ⊎ ((version_of k ≡ 2) × (16 ≤ kind_number k) × (kind_number k ≤ 18))
version_is kinds.Deposit = inl (refl, omega arith, omega arith)
version_is kinds.Register = inl (refl, omega arith, omega arith)
version_is kinds.Write = inl (refl, omega arith, omega arith)
version_is kinds.Read = inl (refl, omega arith, omega arith)
version_is kinds.Proof = inl (refl, omega arith, omega arith)
version_is kinds.Held = inl (refl, omega arith, omega arith)
version_is kinds.Challenge = inl (refl, omega arith, omega arith)
version_is kinds.Done = inl (refl, omega arith, omega arith)
version_is kinds.Refused = inl (refl, omega arith, omega arith)
version_is kinds.LinkRegister = inl (refl, omega arith, omega arith)
version_is kinds.LinkBegin = inl (refl, omega arith, omega arith)
version_is kinds.LinkAudit = inl (refl, omega arith, omega arith)
version_is kinds.LinkSettle = inl (refl, omega arith, omega arith)
version_is kinds.LinkRead = inl (refl, omega arith, omega arith)
version_is kinds.LinkReply = inl (refl, omega arith, omega arith)
version_is kinds.Retire = inr (refl, omega arith, omega arith)
version_is kinds.LinkRetire = inr (refl, omega arith, omega arith)
version_is kinds.LinkBegun = inr (refl, omega arith, omega arith)

-- whether it is between the servers
pub linked_is : (k : Kind) → ((is_linked k ≡ true) × IsLinked (kind_number k)) ⊎ ((is_linked k ≡ false) × (IsLinked (kind_number k) → ⊥))
linked_is kinds.Deposit = inr (refl, λ h. omega (arith, h))
linked_is kinds.Register = inr (refl, λ h. omega (arith, h))
linked_is kinds.Write = inr (refl, λ h. omega (arith, h))
linked_is kinds.Read = inr (refl, λ h. omega (arith, h))
linked_is kinds.Proof = inr (refl, λ h. omega (arith, h))
linked_is kinds.Held = inr (refl, λ h. omega (arith, h))
linked_is kinds.Challenge = inr (refl, λ h. omega (arith, h))
linked_is kinds.Done = inr (refl, λ h. omega (arith, h))
linked_is kinds.Refused = inr (refl, λ h. omega (arith, h))
linked_is kinds.LinkRegister = inl (refl, inl (omega arith, omega arith))
linked_is kinds.LinkBegin = inl (refl, inl (omega arith, omega arith))
linked_is kinds.LinkAudit = inl (refl, inl (omega arith, omega arith))
linked_is kinds.LinkSettle = inl (refl, inl (omega arith, omega arith))
linked_is kinds.LinkRead = inl (refl, inl (omega arith, omega arith))
linked_is kinds.LinkReply = inl (refl, inl (omega arith, omega arith))
linked_is kinds.Retire = inr (refl, λ h. omega (arith, h))
linked_is kinds.LinkRetire = inl (refl, inr (inl refl))
linked_is kinds.LinkBegun = inl (refl, inr (inr refl))

-- whether it is number 9
pub refused_is : (k : Kind) → ((is_refused k ≡ true) × (kind_number k ≡ 9)) ⊎ ((is_refused k ≡ false) × (kind_number k ≡ 9 → ⊥))
refused_is kinds.Deposit = inr (refl, λ h. omega (arith, h))
refused_is kinds.Register = inr (refl, λ h. omega (arith, h))
refused_is kinds.Write = inr (refl, λ h. omega (arith, h))
refused_is kinds.Read = inr (refl, λ h. omega (arith, h))
refused_is kinds.Proof = inr (refl, λ h. omega (arith, h))
refused_is kinds.Held = inr (refl, λ h. omega (arith, h))
refused_is kinds.Challenge = inr (refl, λ h. omega (arith, h))
refused_is kinds.Done = inr (refl, λ h. omega (arith, h))
refused_is kinds.Refused = inl (refl, refl)
refused_is kinds.LinkRegister = inr (refl, λ h. omega (arith, h))
refused_is kinds.LinkBegin = inr (refl, λ h. omega (arith, h))
refused_is kinds.LinkAudit = inr (refl, λ h. omega (arith, h))
refused_is kinds.LinkSettle = inr (refl, λ h. omega (arith, h))
refused_is kinds.LinkRead = inr (refl, λ h. omega (arith, h))
refused_is kinds.LinkReply = inr (refl, λ h. omega (arith, h))
refused_is kinds.Retire = inr (refl, λ h. omega (arith, h))
refused_is kinds.LinkRetire = inr (refl, λ h. omega (arith, h))
refused_is kinds.LinkBegun = inr (refl, λ h. omega (arith, h))

-- a number that no kind has
not_of : (n : ℕ) (k : Kind) → kind_numbered n ≡ None → n ≡ kind_number k → ⊥
not_of n k none is = clash (sym none ∙ ap kind_numbered is ∙ number_known k) where
  clash : None ≡ Some k → ⊥
  clash e = cc

next_up : (n low : ℕ) → low ≤ n → (n ≡ low → ⊥) → suc low ≤ n
next_up n low h ne = elim (cases_eq n low) [ inl e ↦ absurd (ne e) | inr other ↦ grind (arith, h, other) ]

unnumbered : (n : ℕ) → kind_numbered n ≡ None → 1 ≤ n → 19 ≤ n
unnumbered n none one =
    next_up n 18 (next_up n 17 (next_up n 16 (next_up n 15 (next_up n 14 (next_up n 13 (next_up n 12 (next_up n 11 (next_up n 10 (next_up n 9 (next_up n 8 (next_up n 7 (next_up n 6 (next_up n 5 (next_up n 4 (next_up n 3 (next_up n 2 (next_up n 1 one
    (not_of n kinds.Deposit none)) (not_of n kinds.Register none)) (not_of n kinds.Write none)) (not_of n kinds.Read none)) (not_of n kinds.Proof none)) (not_of n kinds.Held none))
    (not_of n kinds.Challenge none)) (not_of n kinds.Done none)) (not_of n kinds.Refused none)) (not_of n kinds.LinkRegister none)) (not_of n kinds.LinkBegin none)) (not_of n kinds.LinkAudit none))
    (not_of n kinds.LinkSettle none)) (not_of n kinds.LinkRead none)) (not_of n kinds.LinkReply none)) (not_of n kinds.Retire none)) (not_of n kinds.LinkRetire none)) (not_of n kinds.LinkBegun none)

-- ---- each field

length_step : (bytes : List ℕ) → Heads (field.Length ∷ []) bytes (λ n. (n ≡ (front bytes).follow) × (17 ≤ n)) (length_in bytes)
unfolding length_in
length_step bytes =
    judged_number w32 0 field.Length bytes (λ n. (n ≡ (front bytes).follow) × (17 ≤ n)) (λ n. cond (leb 17 n && leb n 8209) (Ok n) (Err (fault.Malformed 0))) tt refl
    (λ come. tested field.Length bytes (leb 17 (big_endian w32 0 bytes) && leb (big_endian w32 0 bytes) 8209) (big_endian w32 0 bytes) (λ n. (n ≡ (front bytes).follow) × (17 ≤ n)) tt come
    (λ t. (limited (big_endian w32 0 bytes) t, (refl, (limited (big_endian w32 0 bytes) t).0))) (λ t right. broken (big_endian w32 0 bytes) t right))
  where
    limited : (n : ℕ) → leb 17 n && leb n 8209 ≡ true → (17 ≤ n) × (n ≤ 8209)
    limited n h = grind (arith, nat_tests)

    broken : (n : ℕ) → leb 17 n && leb n 8209 ≡ false → (17 ≤ n) × (n ≤ 8209) → ⊥
    broken n h right = grind (arith, nat_tests)

version_step : (bytes : List ℕ) → Heads (field.Version ∷ []) bytes (λ n. n ≡ (front bytes).version) (version_in bytes)
unfolding version_in
version_step bytes =
    judged_number w8 4 field.Version bytes (λ n. n ≡ (front bytes).version) (λ n. cond (eqb n 1 || eqb n 2) (Ok n) (Err (fault.Version n))) tt refl
    (λ come. tested field.Version bytes (eqb (big_endian w8 4 bytes) 1 || eqb (big_endian w8 4 bytes) 2) (big_endian w8 4 bytes) _ tt come
    (λ t. (known (big_endian w8 4 bytes) t, refl)) (λ t right. unknown (big_endian w8 4 bytes) t right))
  where
    known : (n : ℕ) → eqb n 1 || eqb n 2 ≡ true → (n ≡ 1) ⊎ (n ≡ 2)
    known n h = grind (arith, nat_tests)

    unknown : (n : ℕ) → eqb n 1 || eqb n 2 ≡ false → (n ≡ 1) ⊎ (n ≡ 2) → ⊥
    unknown n h right = grind (arith, nat_tests)

-- a kind of the version, one of the other version, and none
of_version : (k : Kind) (f : Front) → kind_number k ≡ f.kind → version_of k ≡ f.version → IsRight field.Kind f
of_version k f e v = elim (version_is k) [ inl h ↦ inl (sym v ∙ h.0, omega (arith, h, e), omega (arith, h, e)) | inr h ↦ inr (sym v ∙ h.0, omega (arith, h, e), omega (arith, h, e)) ]

of_other : (k : Kind) (f : Front) → kind_number k ≡ f.kind → (version_of k ≡ f.version → ⊥) → IsRight field.Kind f → ⊥
of_other k f e v right = elim (version_is k) [ inl h ↦ elim right [ inl r ↦ v (h.0 ∙ sym r.0) | inr r ↦ omega (arith, e, h, r) ] | inr h ↦ elim right [ inl r ↦ omega (arith, e, h, r) | inr r ↦ v (h.0 ∙ sym r.0) ] ]

of_none : (f : Front) → kind_numbered f.kind ≡ None → IsRight field.Kind f → ⊥
of_none f none right = elim right [ inl r ↦ omega (arith, r, unnumbered f.kind none r.1) | inr r ↦ omega (arith, r, unnumbered f.kind none (omega (arith, r))) ]

kind_step : (version : ℕ) (bytes : List ℕ) → version ≡ (front bytes).version → Heads (field.Kind ∷ []) bytes (λ k. kind_number k ≡ (front bytes).kind) (kind_in version bytes)
unfolding Heads FirstWrong kind_in
kind_step version bytes is =
    judged_number w8 5 field.Kind bytes (λ k. kind_number k ≡ (front bytes).kind) (λ n. kind_with version (kind_numbered n)) tt refl
    (λ come. judge come (kind_numbered (big_endian w8 5 bytes)) refl)
  where
    judge : HasCome field.Kind bytes → (o : Option Kind) → kind_numbered (big_endian w8 5 bytes) ≡ o → Heads (field.Kind ∷ []) bytes (λ k. kind_number k ≡ (front bytes).kind) (kind_with version o)
    judge come None e = inl (inl ((tt, come, of_none (front bytes) e), refl))
    judge come (Some k) e =
        let same = kind_numbered_is (big_endian w8 5 bytes) k e in
        tested field.Kind bytes (eqb (version_of k) version) k _ tt come
        (λ t. (of_version k (front bytes) same (eqb-true (version_of k) version t ∙ is), same)) (λ t right. of_other k (front bytes) same (λ v. eqb-false (version_of k) version t (v ∙ sym is)) right)

serial_step : (k : Kind) (bytes : List ℕ) → kind_number k ≡ (front bytes).kind → Heads (field.Serial ∷ []) bytes (λ n. n ≡ (front bytes).serial) (serial_in k bytes)
unfolding serial_in
serial_step k bytes is =
    judged_number w32 8 field.Serial bytes (λ n. n ≡ (front bytes).serial) (λ n. cond (eqb n 0 && not (is_refused k)) (Err (fault.Malformed 8)) (Ok n)) tt refl
    (λ come. guarded field.Serial bytes (eqb (big_endian w32 8 bytes) 0 && not (is_refused k)) (big_endian w32 8 bytes) _ tt come
    (λ t. (right (big_endian w32 8 bytes) (refused_is k) t, refl)) (λ t h. wrong (big_endian w32 8 bytes) (refused_is k) t h))
  where
    serial_some : (n : ℕ) (b : Bool) → eqb n 0 && not b ≡ false → b ≡ false → 1 ≤ n
    serial_some n true h e = absurd cc
    serial_some n false h e = grind (arith, nat_tests)

    right : (n : ℕ) → ((is_refused k ≡ true) × (kind_number k ≡ 9)) ⊎ ((is_refused k ≡ false) × (kind_number k ≡ 9 → ⊥)) → eqb n 0 && not (is_refused k) ≡ false → (1 ≤ n) ⊎ ((front bytes).kind ≡ 9)
    right n (inl h) t = inr (sym is ∙ h.1)
    right n (inr h) t = inl (serial_some n (is_refused k) t h.0)

    never : (n : ℕ) (b : Bool) → eqb n 0 && not b ≡ true → b ≡ true → ⊥
    never n true h e = grind (arith, nat_tests)
    never n false h e = absurd cc

    none : (n : ℕ) (b : Bool) → eqb n 0 && not b ≡ true → 1 ≤ n → ⊥
    none n true h e = grind (arith, nat_tests)
    none n false h e = grind (arith, nat_tests)

    wrong : (n : ℕ) → ((is_refused k ≡ true) × (kind_number k ≡ 9)) ⊎ ((is_refused k ≡ false) × (kind_number k ≡ 9 → ⊥)) → eqb n 0 && not (is_refused k) ≡ true → (1 ≤ n) ⊎ ((front bytes).kind ≡ 9) → ⊥
    wrong n (inl h) t r = never n (is_refused k) t h.0
    wrong n (inr h) t r = elim r [ inl some ↦ none n (is_refused k) t some | inr nine ↦ h.1 (is ∙ nine) ]

abbrev IsOf : ℕ → Bool → Type 0
IsOf kind b = ((b ≡ true) × IsLinked kind) ⊎ ((b ≡ false) × (IsLinked kind → ⊥))

link_step : (k : Kind) (bytes : List ℕ) → kind_number k ≡ (front bytes).kind → Heads (field.Link ∷ []) bytes (λ n. 20 ≤ length bytes) (link_in k bytes)
unfolding link_in
link_step k bytes is =
    judged_number w64 12 field.Link bytes (λ n. 20 ≤ length bytes) (λ n. cond (cond (is_linked k) (eqb n 0) (not (eqb n 0))) (Err (fault.Malformed 12)) (Ok n)) tt refl
    (λ come. judge come (is_linked k) (by_kind (linked_is k)))
  where
    by_kind : ((is_linked k ≡ true) × IsLinked (kind_number k)) ⊎ ((is_linked k ≡ false) × (IsLinked (kind_number k) → ⊥)) → IsOf (front bytes).kind (is_linked k)
    by_kind (inl h) = inl (h.0, subst IsLinked is h.1)
    by_kind (inr h) = inr (h.0, λ l. h.1 (subst IsLinked (sym is) l))

    judge : HasCome field.Link bytes → (b : Bool) → IsOf (front bytes).kind b → Heads (field.Link ∷ []) bytes (λ n. 20 ≤ length bytes) (cond (cond b (eqb (big_endian w64 12 bytes) 0) (not (eqb (big_endian w64 12 bytes) 0))) (Err (fault.Malformed 12)) (Ok (big_endian w64 12 bytes)))
    judge come true (inl h) = guarded field.Link bytes (eqb (big_endian w64 12 bytes) 0) (big_endian w64 12 bytes) _ tt come (λ t. (inl (h.1, grind (arith, nat_tests)), come)) (λ t r. elim r [ inl x ↦ grind (arith, nat_tests) | inr x ↦ x.0 h.1 ])
    judge come true (inr h) = absurd cc
    judge come false (inl h) = absurd cc
    judge come false (inr h) = guarded field.Link bytes (not (eqb (big_endian w64 12 bytes) 0)) (big_endian w64 12 bytes) _ tt come (λ t. (inr (h.1, grind (arith, nat_tests)), come)) (λ t r. elim r [ inl x ↦ h.1 x.0 | inr x ↦ grind (arith, nat_tests) ])

-- ---- the header

-- what was read stands in the bytes
pub record IsHead (bytes : List ℕ) (h : Header) : Type 0 where
  pub kind : kind_number h.kind ≡ (front bytes).kind
  pub lane : h.lane ≡ (front bytes).lane
  pub serial : h.serial ≡ (front bytes).serial
  pub left : (front bytes).follow ≡ 16 + h.left
  pub some : 1 ≤ h.left
  pub come : 20 ≤ length bytes

abbrev pub header_fields : List Field
header_fields = field.Length ∷ field.Version ∷ field.Kind ∷ field.Serial ∷ field.Link ∷ []

pub header_heads : (bytes : List ℕ) → Heads header_fields bytes (IsHead bytes) (header_in bytes)
unfolding header_in
header_heads bytes =
    then field.Length _ bytes (λ n. (n ≡ (front bytes).follow) × (17 ≤ n)) (IsHead bytes) (length_in bytes) _ (length_step bytes) (λ n size.
    then field.Version _ bytes (λ n. n ≡ (front bytes).version) (IsHead bytes) (version_in bytes) _ (version_step bytes) (λ v version.
    then field.Kind _ bytes (λ k. kind_number k ≡ (front bytes).kind) (IsHead bytes) (kind_in v bytes) _ (kind_step v bytes version) (λ k kind.
    passed_number w16 6 field.Serial _ bytes (IsHead bytes) _ tt (omega arith) (
    then field.Serial _ bytes (λ n. n ≡ (front bytes).serial) (IsHead bytes) (serial_in k bytes) _ (serial_step k bytes kind) (λ s serial.
    then field.Link _ bytes (λ n. 20 ≤ length bytes) (IsHead bytes) (link_in k bytes) _ (link_step k bytes kind) (λ l come.
    heads_ok bytes (IsHead bytes) _ (record { kind = kind; lane = refl; serial = serial; left = omega (arith, size.0, size.1); some = omega (arith, size.1); come = come })))))))
