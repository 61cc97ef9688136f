-- A body, field by field: its tag, what a refusal asks for, and the length.
use Rattle.std.proofs.Common.{◌≡◌, ℕ, suc, ◌+◌, ◌*◌, ◌-◌, ◌/◌, ◌%◌, ◌≤◌, Bool, true, false, cond, eqb, leb, ltb, List, [], ◌∷◌, length, take, drop, Option, Some, None, Result, Ok, Err, refl, sym, ap, ◌∙◌, subst, arith, inl, inr}
use Rattle.std.specs.Prelude.{◌⊎◌, ◌&&◌, ◌||◌, MatchBool}
use Rattle.std.specs.Int.{w8, from_be_bytes}
use Rattle.std.proofs.lemmas.Bool.Decides.{nat_tests}
use Rattle.std.proofs.lemmas.Bool.{eqb-true, eqb-false}
use Rattle.std.proofs.lemmas.List.{length-drop, drop-drop}
use Rattle.express_words.specs.declared.refusal.Refusal.{Refusal}
use Rattle.frame_rules.specs.declared.fault.FrameFault.{FrameFault}
use Rattle.frame_rules.specs.declared.fault.FrameFault.TheVariants as fault
use Rattle.frame_rules.specs.declared.kind.Kind.{Kind}
use Rattle.frame_rules.specs.declared.kind.Kind.TheVariants as kinds
use Rattle.frame_rules.specs.Kinds.{kind_number}
use Rattle.frame_rules.specs.Frames.{PlainBody, Refused, LinkReply, ReplyRefused}
use Rattle.frame_rules.specs.Forms.{◌>>=◌, first_of, Size, Exactly, Wide, has_size, sized, Form, filled, form_of, known, chosen, tagged}
use Rattle.frame_rules.specs.Bodies as bodies
use Rattle.frame_rules.specs.Bodies.{deposits, helds, dones, refusals, replies, addressed, refused, reply_refused, replied, body_in}
use Rattle.frame_rules.specs.Sizes.{IsSize, HasSize, untagged, behind_reply, behind_refusal, behind_tag, IsBodySize}
use Rattle.frame_rules.specs.Fields as field
use Rattle.frame_rules.specs.Fields.{Field, HasCome, front, last_tag, IsThere, IsRight, Passes, FirstWrong}
use Rattle.frame_rules.proofs.FieldSteps.{Ends, pass_end, absent, wait_end, wrong_end, made_end}

-- ---- sizes as the forms have them

pub record Tells (size : Size) : Type 0 where
  pub found : (n : ℕ) → has_size size n ≡ true → IsSize size n
  pub only : (n : ℕ) → IsSize size n → has_size size n ≡ true

pub exactly_tells : (count : ℕ) → Tells (Exactly count)
exactly_tells count = record { found = λ n h. eqb-true n count h; only = λ n h. equal n h } where
  equal : (n : ℕ) → n ≡ count → eqb n count ≡ true
  equal n h = grind (arith, nat_tests)

pub wide_tells : (base : ℕ) → Tells (Wide base 1)
wide_tells base = record { found = λ n h. found n h; only = λ n h. only n h.0 h.1 h.2 } where
  found : (n : ℕ) → has_size (Wide base 1) n ≡ true → IsSize (Wide base 1) n
  found n h = (n - base, grind (arith, nat_tests), grind (arith, nat_tests))

  only : (n width : ℕ) → (16 ≤ width) × (width ≤ 4096) × (width % 16 ≡ 0) → n ≡ base + 1 * width → has_size (Wide base 1) n ≡ true
  only n width h e = grind (arith, nat_tests)

pub both_tell : Tells (Wide 0 2)
both_tell = record { found = λ n h. found n h; only = λ n h. only n h.0 h.1 h.2 } where
  found : (n : ℕ) → has_size (Wide 0 2) n ≡ true → IsSize (Wide 0 2) n
  found n h = (n / 2, grind (arith, nat_tests), grind (arith, nat_tests))

  only : (n width : ℕ) → (16 ≤ width) × (width ≤ 4096) × (width % 16 ≡ 0) → n ≡ 0 + 2 * width → has_size (Wide 0 2) n ≡ true
  only n width h e = grind (arith, nat_tests)

-- ---- the length against the body

-- n bytes are left for a body of these numbers
pub IsBody : List ℕ → ℕ → Type 0
IsBody bytes n = IsBodySize (front bytes).kind (front bytes).tag (front bytes).number n

module _ (bytes : List ℕ) (left : ℕ) (is_left : (front bytes).follow ≡ 16 + left) where
  right_size : IsBody bytes left → IsRight field.BodyLength (front bytes)
  unfolding IsBody
  right_size h = (left, is_left, h)

  size_right : IsRight field.BodyLength (front bytes) → IsBody bytes left
  unfolding IsBody
  size_right h = subst (λ n. IsBodySize (front bytes).kind (front bytes).tag (front bytes).number n) (omega (arith, h.1, is_left)) h.2

  filled_end : {A : Type 0} (form : Form A) (n : ℕ) (rest : List ℕ) → 4 ≤ length bytes → Tells form.size → (IsSize form.size n → IsBody bytes left) → (IsBody bytes left → IsSize form.size n)
      → Ends (field.BodyLength ∷ []) bytes (filled form n rest)
  unfolding Ends FirstWrong filled sized
  filled_end {A} form n rest come tells to from = fits (has_size form.size n) refl where
    whole : IsRight field.BodyLength (front bytes) → (b : Bool) → Ends {A = A} (field.BodyLength ∷ []) bytes (cond b (Err fault.Short) (Ok (take n rest)) >>= λ some. Ok (form.meaning some))
    whole right true = inr (refl, λ d w. elim w [ inl x ↦ x.0.2 right | inr y ↦ y.1 ])
    whole right false = ((λ there. (come, right)), tt)

    fits : (b : Bool) → has_size form.size n ≡ b → Ends {A = A} (field.BodyLength ∷ []) bytes (cond b (cond (ltb (length rest) n) (Err fault.Short) (Ok (take n rest))) (Err (fault.Malformed 0)) >>= λ some. Ok (form.meaning some))
    fits true t = whole (right_size (to (tells.found n t))) (ltb (length rest) n)
    fits false t = wrong_end A field.BodyLength [] bytes tt come (λ right. differ (tells.only n (from (size_right right)))) where
      differ : has_size form.size n ≡ true → ⊥
      differ h = clash (sym t ∙ h) where
        clash : false ≡ true → ⊥
        clash e = cc

-- ---- forms by their tags

abbrev pub sizes_of : {A : Type 0} → List (ℕ × Form A) → List (ℕ × Size)
sizes_of [] = []
sizes_of (f ∷ forms) = (f.0, f.1.size) ∷ sizes_of forms

abbrev pub AllTell : {A : Type 0} → List (ℕ × Form A) → Type 0
AllTell [] = Unit {0}
AllTell (f ∷ forms) = Tells f.1.size × AllTell forms

-- the tags follow each other
abbrev pub Counted : {A : Type 0} → ℕ → List (ℕ × Form A) → Type 0
Counted low [] = Unit {0}
Counted low (f ∷ forms) = (f.0 ≡ suc low) × Counted (suc low) forms

-- what the form of a tag tells of its size
pub record Sizes {A : Type 0} (tag : ℕ) (forms : List (ℕ × Form A)) (form : Form A) : Type 0 where
  pub tells : Tells form.size
  pub to : (n : ℕ) → IsSize form.size n → HasSize tag (sizes_of forms) n
  pub from : (n : ℕ) → HasSize tag (sizes_of forms) n → IsSize form.size n

some_is : {A : Type 0} (x y : A) → Some x ≡ Some y → x ≡ y
some_is x y e = cc

none_is : {A : Type 0} (x : A) → None ≡ Some x → ⊥
none_is x e = cc

pub form_sizes : {A : Type 0} (tag : ℕ) (forms : List (ℕ × Form A)) (form : Form A) → AllTell forms → form_of tag forms ≡ Some form → Sizes tag forms form
form_sizes tag [] form all e = absurd (none_is form e)
form_sizes {A} tag (f ∷ forms) form all e = pick (eqb tag f.0) refl (λ h. form_sizes tag forms form all.1 h) e where
  pick : (b : Bool) → eqb tag f.0 ≡ b → (form_of tag forms ≡ Some form → Sizes tag forms form) → cond b (Some f.1) (form_of tag forms) ≡ Some form → Sizes tag (f ∷ forms) form
  pick true t others h =
      let is : f.1 ≡ form = some_is f.1 form h in
      record {
        tells = subst (λ (g : Form A). Tells g.size) is all.0;
        to = λ n s. rw t (subst (λ (g : Form A). IsSize g.size n) (sym is) s);
        from = λ n s. subst (λ (g : Form A). IsSize g.size n) is (subst (λ b. MatchBool b (IsSize f.1.size n) (HasSize tag (sizes_of forms) n)) t s);
      }
  pick false t others h =
      let o = others h in
      record {
        tells = o.tells;
        to = λ n s. rw t (o.to n s);
        from = λ n s. o.from n (subst (λ b. MatchBool b (IsSize f.1.size n) (HasSize tag (sizes_of forms) n)) t s);
      }

pub form_range : {A : Type 0} (low tag : ℕ) (forms : List (ℕ × Form A)) (form : Form A) → Counted low forms → form_of tag forms ≡ Some form → (suc low ≤ tag) × (tag ≤ low + length forms)
form_range low tag [] form all e = absurd (none_is form e)
form_range low tag (f ∷ forms) form all e = pick (eqb tag f.0) refl (λ h. form_range (suc low) tag forms form all.1 h) e where
  pick : (b : Bool) → eqb tag f.0 ≡ b → (form_of tag forms ≡ Some form → (suc (suc low) ≤ tag) × (tag ≤ suc low + length forms)) → cond b (Some f.1) (form_of tag forms) ≡ Some form → (suc low ≤ tag) × (tag ≤ low + suc (length forms))
  pick true t others h = let is = eqb-true tag f.0 t in (omega (arith, is, all.0), omega (arith, is, all.0))
  pick false t others h = let o = others h in (omega (arith, o), omega (arith, o))

pub no_form : {A : Type 0} (low tag : ℕ) (forms : List (ℕ × Form A)) → Counted low forms → form_of tag forms ≡ None → suc low ≤ tag → tag ≤ low + length forms → ⊥
no_form low tag [] all e least most = omega (arith, least, most)
no_form {A} low tag (f ∷ forms) all e least most = pick (eqb tag f.0) refl (λ h above. no_form (suc low) tag forms all.1 h above (omega (arith, most))) e where
  is_none : (x : Form A) → Some x ≡ None → ⊥
  is_none x h = cc

  pick : (b : Bool) → eqb tag f.0 ≡ b → (form_of tag forms ≡ None → suc (suc low) ≤ tag → ⊥) → cond b (Some f.1) (form_of tag forms) ≡ None → ⊥
  pick true t others h = is_none f.1 h
  pick false t others h = others h (above (eqb-false tag f.0 t)) where
    above : (tag ≡ f.0 → ⊥) → suc (suc low) ≤ tag
    above ne = grind (arith, ne, least, all.0)

-- ---- tables

deposits_tell : AllTell deposits
deposits_tell = (exactly_tells 32, (exactly_tells 16, (exactly_tells 16, tt)))

helds_tell : AllTell helds
helds_tell = (exactly_tells 0, (exactly_tells 0, tt))

dones_tell : AllTell dones
dones_tell = (exactly_tells 4, (exactly_tells 0, (both_tell, tt)))

replies_tell : AllTell replies
replies_tell = (exactly_tells 4, (exactly_tells 4, (exactly_tells 64, (exactly_tells 0, (exactly_tells 0, (wide_tells 0, tt))))))

refusals_tell : AllTell refusals
refusals_tell =
    (exactly_tells 4, (exactly_tells 1, (exactly_tells 2, (exactly_tells 4, (exactly_tells 1, (exactly_tells 4, (exactly_tells 4, (exactly_tells 4, (exactly_tells 4, (exactly_tells 0, (exactly_tells 0, (exactly_tells 64, (exactly_tells 8, (exactly_tells 8, tt))))))))))))))

refusals_counted : Counted 0 refusals
refusals_counted = (refl, (refl, (refl, (refl, (refl, (refl, (refl, (refl, (refl, (refl, (refl, (refl, (refl, (refl, tt))))))))))))))

-- ---- bodies

pub record IsHeader (bytes : List ℕ) (left : ℕ) : Type 0 where
  pub is_left : (front bytes).follow ≡ 16 + left
  pub some : 1 ≤ left
  pub come : 20 ≤ length bytes

abbrev pub body_fields : List Field
body_fields = field.Tag ∷ field.ReplyRefusal ∷ field.RefusedLane ∷ field.RefusedSerial ∷ field.BodyLength ∷ []

-- a kind without a tag
pub record IsUntagged (k : ℕ) (size : Size) : Type 0 where
  pub no_tag : last_tag k ≡ 0
  pub no_refusal : k ≡ 9 → ⊥
  pub no_reply : k ≡ 15 → ⊥
  pub to : (n : ℕ) → IsSize size n → HasSize k untagged n
  pub from : (n : ℕ) → HasSize k untagged n → IsSize size n
  pub none : (tag n : ℕ) → HasSize tag (behind_tag k) n → ⊥

module _ (bytes : List ℕ) (left : ℕ) (h : IsHeader bytes left) where
  untagged_end : {A : Type 0} (k : ℕ) (form : Form A) (rest : List ℕ) → k ≡ (front bytes).kind → Tells form.size → IsUntagged k form.size → Ends body_fields bytes (filled form left rest)
  unfolding IsBody
  untagged_end k form rest is tells u =
      pass_end field.Tag _ bytes _ (absent field.Tag bytes (λ there. omega (arith, subst (λ m. 1 ≤ last_tag m) (sym is) there, u.no_tag)))
      (pass_end field.ReplyRefusal _ bytes _ (absent field.ReplyRefusal bytes (λ there. u.no_reply (is ∙ there.0)))
      (pass_end field.RefusedLane _ bytes _ (absent field.RefusedLane bytes (λ there. u.no_refusal (is ∙ there.0)))
      (pass_end field.RefusedSerial _ bytes _ (absent field.RefusedSerial bytes (λ there. u.no_refusal (is ∙ there)))
      (filled_end bytes left h.is_left form left rest (omega (arith, h.come)) tells to from))))
    where
      to : IsSize form.size left → IsBody bytes left
      to s = inl (subst (λ m. HasSize m untagged left) is (u.to left s))

      from : IsBody bytes left → IsSize form.size left
      from b =
          elim b [
            | inl x ↦ u.from left (subst (λ m. HasSize m untagged left) (sym is) x)
            | inr y ↦ elim y [ inl x ↦ absurd (u.none (front bytes).tag x.0 (subst (λ m. HasSize (front bytes).tag (behind_tag m) x.0) (sym is) x.2)) | inr x ↦ absurd (u.no_reply (is ∙ x.2)) ]
          ]

  -- a tag that hasn't come
  no_tag_yet : (A : Type 0) → 1 ≤ last_tag (front bytes).kind → drop 20 bytes ≡ [] → Ends {A = A} body_fields bytes (Err fault.Short)
  no_tag_yet A there e = wait_end _ field.Tag _ bytes there (λ come. absurd (omega (arith, come, length-drop 20 bytes, ap length e)))

  tag_come : (tag : ℕ) (after : List ℕ) → drop 20 bytes ≡ tag ∷ after → HasCome field.Tag bytes
  tag_come tag after e = omega (arith, length-drop 20 bytes, ap length e)

  tag_is : (tag : ℕ) (after : List ℕ) → drop 20 bytes ≡ tag ∷ after → (front bytes).tag ≡ tag
  tag_is tag after e = ap (λ rest. from_be_bytes w8 (take 1 rest)) e

  after_is : (tag : ℕ) (after : List ℕ) → drop 20 bytes ≡ tag ∷ after → drop 21 bytes ≡ after
  after_is tag after e = sym (drop-drop 1 20 bytes) ∙ ap (drop 1) e

  -- a body by its tag, in which nothing is judged between the tag and the length
  tagged_end : {A : Type 0} (forms : List (ℕ × Form A)) (tag : ℕ) (after : List ℕ) → drop 20 bytes ≡ tag ∷ after → 1 ≤ last_tag (front bytes).kind → AllTell forms
      → (form_of tag forms ≡ None → IsRight field.Tag (front bytes) → ⊥) → ((form : Form A) → form_of tag forms ≡ Some form → IsRight field.Tag (front bytes))
      → Passes field.ReplyRefusal bytes → Passes field.RefusedLane bytes → Passes field.RefusedSerial bytes
      → ((n : ℕ) → HasSize tag (sizes_of forms) n → IsBody bytes (1 + n)) → ((n : ℕ) → IsBody bytes (1 + n) → HasSize tag (sizes_of forms) n)
      → Ends body_fields bytes (tagged 20 forms left (tag ∷ after))
  unfolding tagged chosen
  tagged_end {A} forms tag after e there tell wrong right reply lane serial to from = pick (form_of tag forms) refl where
    one : 1 + (left - 1) ≡ left
    one = omega (arith, h.some)

    pick : (o : Option (Form A)) → form_of tag forms ≡ o → Ends body_fields bytes (known 20 o >>= λ form. filled form (left - 1) after)
    pick None found = wrong_end A field.Tag _ bytes there (tag_come tag after e) (wrong found)
    pick (Some form) found =
        let s = form_sizes tag forms form tell found in
        pass_end field.Tag _ bytes _ (λ t. (tag_come tag after e, right form found))
        (pass_end field.ReplyRefusal _ bytes _ reply
        (pass_end field.RefusedLane _ bytes _ lane
        (pass_end field.RefusedSerial _ bytes _ serial
        (filled_end bytes left h.is_left form (left - 1) after (omega (arith, h.come)) s.tells
        (λ size. subst (IsBody bytes) one (to (left - 1) (s.to (left - 1) size))) (λ body. s.from (left - 1) (from (left - 1) (subst (IsBody bytes) (sym one) body)))))))

-- a kind whose tags are these alone
pub record IsTagged (k : ℕ) (rows : List (ℕ × Size)) (last : ℕ) : Type 0 where
  pub last_is : last_tag k ≡ last
  pub rows_are : behind_tag k ≡ rows
  pub no_refusal : k ≡ 9 → ⊥
  pub no_reply : k ≡ 15 → ⊥
  pub none : (n : ℕ) → HasSize k untagged n → ⊥

module _ (bytes : List ℕ) (left : ℕ) (h : IsHeader bytes left) where
  by_tag : {A : Type 0} (k : ℕ) (forms : List (ℕ × Form A)) (rest : List ℕ) → k ≡ (front bytes).kind → drop 20 bytes ≡ rest → 1 ≤ length forms → AllTell forms → Counted 0 forms
      → IsTagged k (sizes_of forms) (length forms) → Ends body_fields bytes (tagged 20 forms left rest)
  unfolding IsBody tagged
  by_tag k forms [] is e some tell count t = no_tag_yet bytes left h _ (subst (λ m. 1 ≤ last_tag m) is (omega (arith, t.last_is, some))) e
  by_tag {A} k forms (tag ∷ after) is e some tell count t =
      tagged_end bytes left h forms tag after e (subst (λ m. 1 ≤ last_tag m) is (omega (arith, t.last_is, some))) tell
      (λ none r. no_form 0 tag forms count none (omega (arith, at, r)) (omega (arith, at, r, last, t.last_is)))
      (λ form found. let r = form_range 0 tag forms form count found in (omega (arith, at, r), omega (arith, at, r, last, t.last_is)))
      (absent field.ReplyRefusal bytes (λ there. t.no_reply (is ∙ there.0))) (absent field.RefusedLane bytes (λ there. t.no_refusal (is ∙ there.0))) (absent field.RefusedSerial bytes (λ there. t.no_refusal (is ∙ there)))
      to from
    where
      at : (front bytes).tag ≡ tag
      at = tag_is bytes left h tag after e

      last : last_tag (front bytes).kind ≡ last_tag k
      last = ap last_tag (sym is)

      rows : sizes_of forms ≡ behind_tag (front bytes).kind
      rows = sym t.rows_are ∙ ap behind_tag is

      to : (n : ℕ) → HasSize tag (sizes_of forms) n → IsBody bytes (1 + n)
      to n s = inr (inl (n, refl, subst (λ m. HasSize m (behind_tag (front bytes).kind) n) (sym at) (subst (λ r. HasSize tag r n) rows s)))

      from : (n : ℕ) → IsBody bytes (1 + n) → HasSize tag (sizes_of forms) n
      from n b =
          elim b [
            | inl x ↦ absurd (t.none (1 + n) (subst (λ m. HasSize m untagged (1 + n)) (sym is) x))
            | inr y ↦ elim y [
              | inl x ↦ subst (λ r. HasSize tag r n) (sym rows) (subst (λ m. HasSize m (behind_tag (front bytes).kind) n) at (subst (λ m. HasSize (front bytes).tag (behind_tag (front bytes).kind) m) (omega (arith, x.1)) x.2))
              | inr x ↦ absurd (t.no_reply (is ∙ x.2))
            ]
          ]

-- ---- a refusal

abbrev right : Result (Unit {0}) FrameFault
right = Ok tt

module _ (bytes : List ℕ) (left : ℕ) (h : IsHeader bytes left) (nine : (front bytes).kind ≡ 9) where
  -- lane and serial by the refusal's number
  addressed_end : {A : Type 0} (tag : ℕ) (after : List ℕ) (next : Result A FrameFault) → drop 20 bytes ≡ tag ∷ after → Ends (field.BodyLength ∷ []) bytes next
      → Ends (field.RefusedLane ∷ field.RefusedSerial ∷ field.BodyLength ∷ []) bytes (addressed tag (front bytes).lane (front bytes).serial >>= λ so. next)
  unfolding addressed
  addressed_end {A} tag after next e rest = low (leb tag 2) refl where
    at : (front bytes).tag ≡ tag
    at = tag_is bytes left h tag after e

    few : leb tag 2 ≡ true → (front bytes).tag ≤ 2
    few t = grind (arith, at, t, nat_tests)

    many : leb tag 2 ≡ false → 3 ≤ (front bytes).tag
    many t = grind (arith, at, t, nat_tests)

    none : leb tag 2 ≡ true → (b : Bool) → eqb (front bytes).serial 0 ≡ b
        → Ends (field.RefusedSerial ∷ field.BodyLength ∷ []) bytes (cond b right (Err (fault.Malformed 8)) >>= λ so. next)
    none t true z = pass_end field.RefusedSerial _ bytes _ (λ there. (omega (arith, h.come), inl (few t, eqb-true (front bytes).serial 0 z))) rest
    none t false z = wrong_end A field.RefusedSerial _ bytes nine (omega (arith, h.come)) (λ r. elim r [ inl x ↦ eqb-false (front bytes).serial 0 z x.1 | inr x ↦ omega (arith, x, few t) ])

    some : leb tag 2 ≡ false → (b : Bool) → eqb (front bytes).serial 0 ≡ b
        → Ends (field.RefusedSerial ∷ field.BodyLength ∷ []) bytes (cond b (Err (fault.Malformed 8)) right >>= λ so. next)
    some t true z = wrong_end A field.RefusedSerial _ bytes nine (omega (arith, h.come)) (λ r. elim r [ inl x ↦ omega (arith, x, many t) | inr x ↦ omega (arith, x, eqb-true (front bytes).serial 0 z) ])
    some t false z = pass_end field.RefusedSerial _ bytes _ (λ there. (omega (arith, h.come), inr (many t, grind (arith, z, nat_tests)))) rest

    no_lane : leb tag 2 ≡ true → (b : Bool) → eqb (front bytes).lane 0 ≡ b
        → Ends (field.RefusedLane ∷ field.RefusedSerial ∷ field.BodyLength ∷ []) bytes (cond b (cond (eqb (front bytes).serial 0) right (Err (fault.Malformed 8))) (Err (fault.Malformed 6)) >>= λ so. next)
    no_lane t true z = pass_end field.RefusedLane _ bytes _ (λ there. (omega (arith, h.come), eqb-true (front bytes).lane 0 z)) (none t (eqb (front bytes).serial 0) refl)
    no_lane t false z = wrong_end A field.RefusedLane _ bytes (nine, few t) (omega (arith, h.come)) (λ r. eqb-false (front bytes).lane 0 z r)

    low : (b : Bool) → leb tag 2 ≡ b
        → Ends (field.RefusedLane ∷ field.RefusedSerial ∷ field.BodyLength ∷ []) bytes
        (cond b (cond (eqb (front bytes).lane 0) (cond (eqb (front bytes).serial 0) right (Err (fault.Malformed 8))) (Err (fault.Malformed 6))) (cond (eqb (front bytes).serial 0) (Err (fault.Malformed 8)) right) >>= λ so. next)
    low true t = no_lane t (eqb (front bytes).lane 0) refl
    low false t =
        pass_end field.RefusedLane _ bytes _ (absent field.RefusedLane bytes (λ there. omega (arith, there, many t)))
        (some t (eqb (front bytes).serial 0) refl)

  refusal_size : (tag : ℕ) (after : List ℕ) → drop 20 bytes ≡ tag ∷ after → (n : ℕ) → HasSize tag behind_refusal n → IsBody bytes (1 + n)
  unfolding IsBody
  refusal_size tag after e n s =
      inr (inl (n, refl, subst (λ m. HasSize m (behind_tag (front bytes).kind) n) (sym (tag_is bytes left h tag after e)) (subst (λ k. HasSize tag (behind_tag k) n) (sym nine) s)))

  size_refusal : (tag : ℕ) (after : List ℕ) → drop 20 bytes ≡ tag ∷ after → (n : ℕ) → IsBody bytes (1 + n) → HasSize tag behind_refusal n
  unfolding IsBody
  size_refusal tag after e n b =
      elim b [
        | inl x ↦ absurd (subst (λ k. HasSize k untagged (1 + n)) nine x)
        | inr y ↦ elim y [
          | inl x ↦
              let same : x.0 ≡ n = omega (arith, x.1) in
              subst (λ m. HasSize m behind_refusal n) (tag_is bytes left h tag after e) (subst (λ k. HasSize (front bytes).tag (behind_tag k) n) nine (subst (λ m. HasSize (front bytes).tag (behind_tag (front bytes).kind) m) same x.2))
          | inr x ↦ absurd (omega (arith, nine, x.2))
        ]
      ]

  -- the length by a number that is known
  refusal_end : (tag : ℕ) (after : List ℕ) → drop 20 bytes ≡ tag ∷ after → 1 ≤ tag → tag ≤ 14 → Ends (field.BodyLength ∷ []) bytes (tagged 20 refusals left (tag ∷ after))
  unfolding tagged chosen
  refusal_end tag after e least most = pick (form_of tag refusals) refl where
    one : 1 + (left - 1) ≡ left
    one = omega (arith, h.some)

    pick : (o : Option (Form Refusal)) → form_of tag refusals ≡ o → Ends (field.BodyLength ∷ []) bytes (known 20 o >>= λ form. filled form (left - 1) after)
    pick None found = absurd (no_form 0 tag refusals refusals_counted found least most)
    pick (Some form) found =
        let s = form_sizes tag refusals form refusals_tell found in
        filled_end bytes left h.is_left form (left - 1) after (omega (arith, h.come)) s.tells
        (λ size. subst (IsBody bytes) one (refusal_size tag after e (left - 1) (s.to (left - 1) size))) (λ body. s.from (left - 1) (size_refusal tag after e (left - 1) (subst (IsBody bytes) (sym one) body)))

  has_tags : 1 ≤ last_tag (front bytes).kind
  has_tags = subst (λ k. 1 ≤ last_tag k) (sym nine) (omega arith)

  refused_end : (rest : List ℕ) → drop 20 bytes ≡ rest → Ends body_fields bytes (refused (front bytes).lane (front bytes).serial left rest)
  unfolding refused
  refused_end [] e = no_tag_yet bytes left h PlainBody has_tags e
  refused_end (tag ∷ after) e = pick (leb 1 tag && leb tag 14) refl where
    at : (front bytes).tag ≡ tag
    at = tag_is bytes left h tag after e

    last : last_tag (front bytes).kind ≡ 14
    last = ap last_tag nine

    limited : leb 1 tag && leb tag 14 ≡ true → (1 ≤ tag) × (tag ≤ 14)
    limited t = grind (arith, t, nat_tests)

    broken : leb 1 tag && leb tag 14 ≡ false → IsRight field.Tag (front bytes) → ⊥
    broken t r =
        let least : 1 ≤ tag = omega (arith, at, r) in
        let most : tag ≤ 14 = omega (arith, at, r, last) in
        grind (arith, t, least, most, nat_tests)

    pick : (b : Bool) → leb 1 tag && leb tag 14 ≡ b
        → Ends body_fields bytes (cond b (addressed tag (front bytes).lane (front bytes).serial) (Err (fault.Malformed 20)) >>= λ right. tagged 20 refusals left (tag ∷ after) >>= λ r. Ok (Refused r))
    pick false t = wrong_end PlainBody field.Tag _ bytes has_tags (tag_come bytes left h tag after e) (broken t)
    pick true t =
        let limits = limited t in
        pass_end field.Tag _ bytes _ (λ there. (tag_come bytes left h tag after e, (omega (arith, at, limits), omega (arith, at, limits, last))))
        (pass_end field.ReplyRefusal _ bytes _ (absent field.ReplyRefusal bytes (λ there. omega (arith, nine, there.0)))
        (addressed_end tag after _ e (made_end _ bytes _ (λ r. Refused r) (refusal_end tag after e limits.0 limits.1))))

-- ---- a reply

module _ (bytes : List ℕ) (left : ℕ) (h : IsHeader bytes left) (fifteen : (front bytes).kind ≡ 15) where
  no_lane : Passes field.RefusedLane bytes
  no_lane = absent field.RefusedLane bytes (λ there. omega (arith, fifteen, there.0))

  no_serial : Passes field.RefusedSerial bytes
  no_serial = absent field.RefusedSerial bytes (λ there. omega (arith, fifteen, there))

  reply_tags : last_tag (front bytes).kind ≡ 7
  reply_tags = ap last_tag fifteen

  reply_has_tags : 1 ≤ last_tag (front bytes).kind
  reply_has_tags = omega (arith, reply_tags)

  -- a reply but for a refusal
  reply_end : (tag : ℕ) (after : List ℕ) → drop 20 bytes ≡ tag ∷ after → (tag ≡ 7 → ⊥) → Ends body_fields bytes (tagged 20 replies left (tag ∷ after))
  unfolding IsBody
  reply_end tag after e other =
      tagged_end bytes left h replies tag after e reply_has_tags replies_tell wrong right
      (absent field.ReplyRefusal bytes (λ there. other (sym at ∙ there.1))) no_lane no_serial to from
    where
      at : (front bytes).tag ≡ tag
      at = tag_is bytes left h tag after e

      counted : Counted 0 replies
      counted = (refl, (refl, (refl, (refl, (refl, (refl, tt))))))

      wrong : form_of tag replies ≡ None → IsRight field.Tag (front bytes) → ⊥
      wrong none r =
          let least : 1 ≤ tag = omega (arith, at, r) in
          let most : tag ≤ 7 = omega (arith, at, r, reply_tags) in
          no_form 0 tag replies counted none least (grind (arith, most, other))

      right : (form : Form PlainBody) → form_of tag replies ≡ Some form → IsRight field.Tag (front bytes)
      right form found = let r = form_range 0 tag replies form counted found in (omega (arith, at, r), omega (arith, at, r, reply_tags))

      to : (n : ℕ) → HasSize tag behind_reply n → IsBody bytes (1 + n)
      to n s = inr (inl (n, refl, subst (λ m. HasSize m (behind_tag (front bytes).kind) n) (sym at) (subst (λ k. HasSize tag (behind_tag k) n) (sym fifteen) s)))

      from : (n : ℕ) → IsBody bytes (1 + n) → HasSize tag behind_reply n
      from n b =
          elim b [
            | inl x ↦ absurd (subst (λ k. HasSize k untagged (1 + n)) fifteen x)
            | inr y ↦ elim y [
              | inl x ↦
                  let same : x.0 ≡ n = omega (arith, x.1) in
                  subst (λ m. HasSize m behind_reply n) at (subst (λ k. HasSize (front bytes).tag (behind_tag k) n) fifteen (subst (λ m. HasSize (front bytes).tag (behind_tag (front bytes).kind) m) same x.2))
              | inr x ↦ absurd (other (sym at ∙ x.3))
            ]
          ]

  module _ (after : List ℕ) (e : drop 20 bytes ≡ 7 ∷ after) where
    seven : (front bytes).tag ≡ 7
    seven = tag_is bytes left h 7 after e

    number_is : (number : ℕ) (behind : List ℕ) → after ≡ number ∷ behind → (front bytes).number ≡ number
    number_is number behind is = ap (λ rest. from_be_bytes w8 (take 1 rest)) (after_is bytes left h 7 after e ∙ is)

    -- what is left for the refusal, whose number is this
    explained : (n : ℕ) → IsBody bytes n → (rest : ℕ) × (n ≡ 2 + rest) × HasSize (front bytes).number behind_refusal rest
    unfolding IsBody
    explained n b =
        elim b [
          | inl x ↦ absurd (subst (λ k. HasSize k untagged n) fifteen x)
          | inr y ↦ elim y [
            | inl x ↦ absurd (subst (λ m. HasSize m behind_reply x.0) seven (subst (λ k. HasSize (front bytes).tag (behind_tag k) x.0) fifteen x.2))
            | inr x ↦ (x.0, x.1, x.4)
          ]
        ]

    reply_refusal_end : (number : ℕ) (behind : List ℕ) → after ≡ number ∷ behind → 2 ≤ left → 1 ≤ number → number ≤ 14 → Ends (field.BodyLength ∷ []) bytes (tagged 21 refusals (left - 1) (number ∷ behind))
    unfolding tagged chosen IsBody
    reply_refusal_end number behind is two least most = pick (form_of number refusals) refl where
      at : (front bytes).number ≡ number
      at = number_is number behind is

      to : (n : ℕ) → left ≡ 2 + n → HasSize number behind_refusal n → IsBody bytes left
      to n l s = inr (inr (n, l, fifteen, seven, subst (λ m. HasSize m behind_refusal n) (sym at) s))

      from : (n : ℕ) → left ≡ 2 + n → IsBody bytes left → HasSize number behind_refusal n
      from n l b =
          let x = explained left b in
          subst (λ m. HasSize m behind_refusal n) at (subst (λ m. HasSize (front bytes).number behind_refusal m) (omega (arith, l, x.1)) x.2)

      pick : (o : Option (Form Refusal)) → form_of number refusals ≡ o → Ends (field.BodyLength ∷ []) bytes (known 21 o >>= λ form. filled form (left - 1 - 1) behind)
      pick None found = absurd (no_form 0 number refusals refusals_counted found least most)
      pick (Some form) found =
          let s = form_sizes number refusals form refusals_tell found in
          filled_end bytes left h.is_left form (left - 1 - 1) behind (omega (arith, h.come)) s.tells
          (λ size. to (left - 1 - 1) (omega (arith, two)) (s.to (left - 1 - 1) size)) (λ body. s.from (left - 1 - 1) (from (left - 1 - 1) (omega (arith, two)) body))

    pass_seven : Passes field.Tag bytes
    pass_seven there = (tag_come bytes left h 7 after e, (omega (arith, seven), omega (arith, seven, reply_tags)))

    -- the length ends before the number
    ends_early : left ≡ 1 → Ends {A = PlainBody} body_fields bytes (Err (fault.Malformed 0))
    unfolding IsBody
    ends_early one =
        pass_end field.Tag _ bytes _ pass_seven
        (pass_end field.ReplyRefusal _ bytes _ (absent field.ReplyRefusal bytes (λ there. omega (arith, there.2, h.is_left, one)))
        (pass_end field.RefusedLane _ bytes _ no_lane
        (pass_end field.RefusedSerial _ bytes _ no_serial
        (wrong_end PlainBody field.BodyLength [] bytes tt (omega (arith, h.come)) (λ r. let x = explained r.0 r.2 in omega (arith, r.1, x.1, h.is_left, one))))))

    number_end : 2 ≤ left → (rest : List ℕ) → after ≡ rest
        → Ends body_fields bytes (first_of rest >>= λ number. cond (eqb number.0 3 || (leb 6 number.0 && leb number.0 11)) (tagged 21 refusals (left - 1) rest >>= λ r. Ok (LinkReply (ReplyRefused r))) (Err (fault.Malformed 21)))
    number_end two [] is =
        pass_end field.Tag _ bytes _ pass_seven
        (wait_end PlainBody field.ReplyRefusal _ bytes (fifteen, seven, omega (arith, h.is_left, two)) (λ come. absurd (omega (arith, come, length-drop 21 bytes, ap length (after_is bytes left h 7 after e ∙ is)))))
    number_end two (number ∷ behind) is = pick (eqb number 3 || (leb 6 number && leb number 11)) refl where
      at : (front bytes).number ≡ number
      at = number_is number behind is

      come : HasCome field.ReplyRefusal bytes
      come = omega (arith, length-drop 21 bytes, ap length (after_is bytes left h 7 after e ∙ is))

      known_number : eqb number 3 || (leb 6 number && leb number 11) ≡ true → (number ≡ 3) ⊎ ((6 ≤ number) × (number ≤ 11))
      known_number t = grind (arith, t, nat_tests)

      unknown_number : eqb number 3 || (leb 6 number && leb number 11) ≡ false → (number ≡ 3) ⊎ ((6 ≤ number) × (number ≤ 11)) → ⊥
      unknown_number t r = grind (arith, t, r, nat_tests)

      pick : (b : Bool) → eqb number 3 || (leb 6 number && leb number 11) ≡ b
          → Ends body_fields bytes (cond b (tagged 21 refusals (left - 1) (number ∷ behind) >>= λ r. Ok (LinkReply (ReplyRefused r))) (Err (fault.Malformed 21)))
      pick false t =
          pass_end field.Tag _ bytes _ pass_seven
          (wrong_end PlainBody field.ReplyRefusal _ bytes (fifteen, seven, omega (arith, h.is_left, two)) come (λ r. unknown_number t (subst (λ m. (m ≡ 3) ⊎ ((6 ≤ m) × (m ≤ 11))) at r)))
      pick true t =
          pass_end field.Tag _ bytes _ pass_seven
          (pass_end field.ReplyRefusal _ bytes _ (λ there. (come, subst (λ m. (m ≡ 3) ⊎ ((6 ≤ m) × (m ≤ 11))) (sym at) (known_number t)))
          (pass_end field.RefusedLane _ bytes _ no_lane
          (pass_end field.RefusedSerial _ bytes _ no_serial
          (made_end _ bytes _ (λ r. LinkReply (ReplyRefused r)) (reply_refusal_end number behind is two (omega (arith, known_number t)) (omega (arith, known_number t)))))))

    reply_refused_end : Ends body_fields bytes (reply_refused (left - 1) after)
    unfolding reply_refused
    reply_refused_end = pick (eqb (left - 1) 0) refl where
      one : eqb (left - 1) 0 ≡ true → left ≡ 1
      one t = omega (arith, eqb-true (left - 1) 0 t, h.some)

      two : eqb (left - 1) 0 ≡ false → 2 ≤ left
      two t = grind (arith, eqb-false (left - 1) 0 t, h.some)

      pick : (b : Bool) → eqb (left - 1) 0 ≡ b
          → Ends body_fields bytes (cond b (Err (fault.Malformed 0)) (first_of after >>= λ number. cond (eqb number.0 3 || (leb 6 number.0 && leb number.0 11)) (tagged 21 refusals (left - 1) after >>= λ r. Ok (LinkReply (ReplyRefused r))) (Err (fault.Malformed 21))))
      pick true t = ends_early (one t)
      pick false t = number_end (two t) after refl

  replied_end : (rest : List ℕ) → drop 20 bytes ≡ rest → Ends body_fields bytes (replied left rest)
  unfolding replied
  replied_end [] e = no_tag_yet bytes left h PlainBody reply_has_tags e
  replied_end (tag ∷ after) e = pick (eqb tag 7) refl where
    pick : (b : Bool) → eqb tag 7 ≡ b → Ends body_fields bytes (cond b (reply_refused (left - 1) after) (tagged 20 replies left (tag ∷ after)))
    pick true t = reply_refused_end after (e ∙ ap (λ n. n ∷ after) (eqb-true tag 7 t))
    pick false t = reply_end tag after e (eqb-false tag 7 t)

-- ---- each kind

module _ (bytes : List ℕ) (left : ℕ) (h : IsHeader bytes left) where
  pub body_end : (k : Kind) → kind_number k ≡ (front bytes).kind → Ends body_fields bytes (body_in k (front bytes).lane (front bytes).serial left (drop 20 bytes))
  body_end kinds.Deposit is = by_tag bytes left h 1 deposits _ is refl (omega arith) deposits_tell (refl, (refl, (refl, tt))) (record { last_is = refl; rows_are = refl; no_refusal = λ e. omega (arith, e); no_reply = λ e. omega (arith, e); none = λ n s. s })
  body_end kinds.Register is = untagged_end bytes left h 2 bodies.register _ is (exactly_tells 48) (record { no_tag = refl; no_refusal = λ e. omega (arith, e); no_reply = λ e. omega (arith, e); to = λ n s. s; from = λ n s. s; none = λ t n s. s })
  body_end kinds.Write is = untagged_end bytes left h 3 bodies.write _ is (wide_tells 2080) (record { no_tag = refl; no_refusal = λ e. omega (arith, e); no_reply = λ e. omega (arith, e); to = λ n s. s; from = λ n s. s; none = λ t n s. s })
  body_end kinds.Read is = untagged_end bytes left h 4 _ _ is (exactly_tells 20) (record { no_tag = refl; no_refusal = λ e. omega (arith, e); no_reply = λ e. omega (arith, e); to = λ n s. s; from = λ n s. s; none = λ t n s. s })
  body_end kinds.Proof is = untagged_end bytes left h 5 bodies.proof _ is (exactly_tells 160) (record { no_tag = refl; no_refusal = λ e. omega (arith, e); no_reply = λ e. omega (arith, e); to = λ n s. s; from = λ n s. s; none = λ t n s. s })
  body_end kinds.Held is = by_tag bytes left h 6 helds _ is refl (omega arith) helds_tell (refl, (refl, tt)) (record { last_is = refl; rows_are = refl; no_refusal = λ e. omega (arith, e); no_reply = λ e. omega (arith, e); none = λ n s. s })
  body_end kinds.Challenge is = untagged_end bytes left h 7 _ _ is (exactly_tells 32) (record { no_tag = refl; no_refusal = λ e. omega (arith, e); no_reply = λ e. omega (arith, e); to = λ n s. s; from = λ n s. s; none = λ t n s. s })
  body_end kinds.Done is = by_tag bytes left h 8 dones _ is refl (omega arith) dones_tell (refl, (refl, (refl, tt))) (record { last_is = refl; rows_are = refl; no_refusal = λ e. omega (arith, e); no_reply = λ e. omega (arith, e); none = λ n s. s })
  body_end kinds.Refused is = refused_end bytes left h (sym is) _ refl
  body_end kinds.LinkRegister is = untagged_end bytes left h 10 bodies.link_register _ is (exactly_tells 16) (record { no_tag = refl; no_refusal = λ e. omega (arith, e); no_reply = λ e. omega (arith, e); to = λ n s. s; from = λ n s. s; none = λ t n s. s })
  body_end kinds.LinkBegin is = untagged_end bytes left h 11 bodies.link_begin _ is (wide_tells 2096) (record { no_tag = refl; no_refusal = λ e. omega (arith, e); no_reply = λ e. omega (arith, e); to = λ n s. s; from = λ n s. s; none = λ t n s. s })
  body_end kinds.LinkAudit is = untagged_end bytes left h 12 bodies.link_audit _ is (exactly_tells 48) (record { no_tag = refl; no_refusal = λ e. omega (arith, e); no_reply = λ e. omega (arith, e); to = λ n s. s; from = λ n s. s; none = λ t n s. s })
  body_end kinds.LinkSettle is = untagged_end bytes left h 13 bodies.link_settle _ is (exactly_tells 32) (record { no_tag = refl; no_refusal = λ e. omega (arith, e); no_reply = λ e. omega (arith, e); to = λ n s. s; from = λ n s. s; none = λ t n s. s })
  body_end kinds.LinkRead is = untagged_end bytes left h 14 _ _ is (exactly_tells 4) (record { no_tag = refl; no_refusal = λ e. omega (arith, e); no_reply = λ e. omega (arith, e); to = λ n s. s; from = λ n s. s; none = λ t n s. s })
  body_end kinds.LinkReply is = replied_end bytes left h (sym is) _ refl
  body_end kinds.Retire is = untagged_end bytes left h 16 _ _ is (exactly_tells 20) (record { no_tag = refl; no_refusal = λ e. omega (arith, e); no_reply = λ e. omega (arith, e); to = λ n s. s; from = λ n s. s; none = λ t n s. s })
  body_end kinds.LinkRetire is = untagged_end bytes left h 17 _ _ is (exactly_tells 4) (record { no_tag = refl; no_refusal = λ e. omega (arith, e); no_reply = λ e. omega (arith, e); to = λ n s. s; from = λ n s. s; none = λ t n s. s })
  body_end kinds.LinkBegun is = untagged_end bytes left h 18 bodies.link_begun _ is (exactly_tells 36) (record { no_tag = refl; no_refusal = λ e. omega (arith, e); no_reply = λ e. omega (arith, e); to = λ n s. s; from = λ n s. s; none = λ t n s. s })
