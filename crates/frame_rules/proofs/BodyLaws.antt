-- Bodies: what is read is what was written, and the other way round.
use Rattle.std.proofs.Common.{◌≡◌, ℕ, suc, ◌-◌, ◌/◌, ◌%◌, ◌^◌, ◌<◌, ◌≤◌, Bool, true, false, cond, eqb, leb, ltb, List, [], ◌∷◌, ◌++◌, length, get_or, take, Some, Result, Ok, Err, refl, sym, ap, ◌∙◌, subst, arith}
use Rattle.std.specs.Prelude.{◌&&◌, ◌||◌, ◌==◌}
use Rattle.std.specs.Int.{w16, w32, w64, to_be_bytes}
use Rattle.std.specs.List.{AllByRecursion}
use Rattle.std.proofs.lemmas.Bool.Decides.{nat_tests}
use Rattle.std.proofs.lemmas.Bool.{eqb-true, eq-eqb, le-ltb}
use Rattle.std.proofs.lemmas.List.{nil_from_length}
use Rattle.express_words.specs.Limits.{IsWidth}
use Rattle.express_words.specs.declared.refusal.Refusal.{Refusal}
use Rattle.express_words.specs.declared.refusal.Refusal.TheVariants as refusal
use Rattle.frame_rules.specs.declared.frame.DepositBody.TheVariants as deposit
use Rattle.frame_rules.specs.declared.fault.FrameFault.{FrameFault}
use Rattle.frame_rules.specs.declared.fault.FrameFault.TheVariants.{Short, Malformed}
use Rattle.frame_rules.specs.declared.kind.Kind.{Kind}
use Rattle.frame_rules.specs.declared.kind.Kind.TheVariants as kinds
use Rattle.frame_rules.specs.Frames.{PlainBody, PlainReply, Deposit, Register, Write, Read, Proof, Held, Challenge, Registered, Accepted, Message, Refused, LinkRegister, LinkBegin, LinkAudit, LinkSettle, LinkRead, LinkReply, Retire, LinkRetire, LinkBegun, ReplyRegistered, ReplyBegun, ReplyAudited, ReplyAccepted, ReplyRejected, ReplyMasked, ReplyRefused}
use Rattle.frame_rules.specs.Kinds.{is_refused}
use Rattle.frame_rules.specs.Spelling as spell
use Rattle.express_words.specs.Ranges.{IsWord}
use Rattle.frame_rules.specs.Spelling.{kind_of, word, IsKey, IsBody, IsRefusal, IsReplyRefusal, IsReply, IsAddressed}
use Rattle.frame_rules.specs.Forms.{◌>>=◌, first_of, Size, Exactly, Wide, has_size, Form, form_of, sized, filled, chosen, tagged, nothing, number}
use Rattle.frame_rules.specs.Bodies.{deposits, helds, dones, refusals, replies, addressed, refused, reply_refused, replied, body_in}
use Rattle.frame_rules.proofs.Digits.{IsBytes, IsBytes-rest}
use Rattle.frame_rules.proofs.Fields.{IsField, Is, u8_field, u16_field, u32_field, u64_field, address_field, word_field, raw_field}
use Rattle.frame_rules.proofs.BodyFields.{words4, closing_field, proof_field, address_key, box_word, count_key, word_openings, openings_closing, WideLength, word_part, key_part, halves}
use Rattle.frame_rules.proofs.FormLaws.{bind_ok, test_ok, guard_ok, ok_is, Means, means, IsTaken, filled_takes, take_first, tagged_takes, filled_again, tagged_again}

-- a body of this kind, right under this lane and serial
pub record Fitted (kind : Kind) (lane serial : ℕ) (b : PlainBody) : Type 0 where
  pub kind_is : kind_of b ≡ kind
  pub is_body : IsBody b
  pub addressed : IsAddressed b lane serial

-- ---- sizes

exact : (n k : ℕ) → has_size (Exactly n) k ≡ true → k ≡ n
exact n k h = eqb-true k n h

exact_back : (n k : ℕ) → k ≡ n → has_size (Exactly n) k ≡ true
exact_back n k h = eq-eqb k n h

wide1 : (base k : ℕ) → has_size (Wide base 1) k ≡ true → WideLength base k
wide1 base k h = grind (arith, nat_tests)

wide1_back : (base k : ℕ) → WideLength base k → has_size (Wide base 1) k ≡ true
wide1_back base k h = grind (arith, nat_tests)

wide2 : (k : ℕ) → has_size (Wide 0 2) k ≡ true → IsWidth (k / 2) × (k % 2 ≡ 0)
wide2 k h = grind (arith, nat_tests)

wide2_back : (k : ℕ) → IsWidth (k / 2) × (k % 2 ≡ 0) → has_size (Wide 0 2) k ≡ true
wide2_back k h = grind (arith, nat_tests)

-- ---- what is read

-- a form of no bytes
means_nothing : {A : Type 0} (spell : A → List ℕ) (Fits : A → Type 0) (tag : ℕ) (x : A) → spell x ≡ tag ∷ [] → Fits x → Means spell Fits (tag ∷ []) (nothing x)
means_nothing spell Fits tag x s f = record {
  read = λ bytes h len. record { spelled = s ∙ ap (λ (t : List ℕ). tag ∷ t) (sym (nil_from_length bytes (exact 0 (length bytes) len))); fits = f };
}

-- refusals are spelled with their number
refusals_mean : AllByRecursion (λ (f : ℕ × Form Refusal). Means spell.refusal IsRefusal (f.0 ∷ []) f.1) refusals
refusals_mean =
    let m8 = λ (n : ℕ) (make : ℕ → Refusal) (s : (x : ℕ) → spell.refusal (make x) ≡ (n ∷ []) ++ x ∷ []) (f : (x : ℕ) → x < 2 ^ 8 → IsRefusal (make x)). means u8_field (Exactly 1) make spell.refusal IsRefusal (n ∷ []) (exact 1) s f in
    let m16 = λ (n : ℕ) (make : ℕ → Refusal) (s : (x : ℕ) → spell.refusal (make x) ≡ (n ∷ []) ++ to_be_bytes w16 x) (f : (x : ℕ) → x < 2 ^ 16 → IsRefusal (make x)). means u16_field (Exactly 2) make spell.refusal IsRefusal (n ∷ []) (exact 2) s f in
    let m32 = λ (n : ℕ) (make : ℕ → Refusal) (s : (x : ℕ) → spell.refusal (make x) ≡ (n ∷ []) ++ to_be_bytes w32 x) (f : (x : ℕ) → x < 2 ^ 32 → IsRefusal (make x)). means u32_field (Exactly 4) make spell.refusal IsRefusal (n ∷ []) (exact 4) s f in
    let m64 = λ (n : ℕ) (make : ℕ → Refusal) (s : (x : ℕ) → spell.refusal (make x) ≡ (n ∷ []) ++ to_be_bytes w64 x) (f : (x : ℕ) → x < 2 ^ 64 → IsRefusal (make x)). means u64_field (Exactly 8) make spell.refusal IsRefusal (n ∷ []) (exact 8) s f in
    let m0 = λ (n : ℕ) (x : Refusal) (s : spell.refusal x ≡ n ∷ []) (f : IsRefusal x). means_nothing spell.refusal IsRefusal n x s f in (
      m32 1 refusal.Malformed (λ x. refl) (λ x h. h),
      (
        m8 2 refusal.Version (λ x. refl) (λ x h. h),
        (
          m16 3 refusal.Lane (λ x. refl) (λ x h. h),
          (
            m32 4 refusal.Stale (λ x. refl) (λ x h. h),
            (
              m8 5 refusal.Phase (λ x. refl) (λ x h. h),
              (
                m32 6 refusal.Taken (λ x. refl) (λ x h. h),
                (
                  m32 7 refusal.Full (λ x. refl) (λ x h. h),
                  (
                    m32 8 refusal.NoBox (λ x. refl) (λ x h. h),
                    (
                      m32 9 refusal.BadToken (λ x. refl) (λ x h. h),
                      (
                        m0 10 refusal.NoDeposit refl tt,
                        (
                          m0 11 refusal.NotProved refl tt,
                          (
                            means words4 (Exactly 64) (λ p. refusal.Rejected p.0 p.1.0 p.1.1.0 p.1.1.1) spell.refusal IsRefusal (12 ∷ []) (exact 64) (λ x. refl) (λ x h. h),
                            (m64 13 refusal.Again (λ x. refl) (λ x h. h), (m64 14 refusal.LinkDown (λ x. refl) (λ x h. h), tt)),
                          ),
                        ),
                      ),
                    ),
                  ),
                ),
              ),
            ),
          ),
        ),
      ),
    )

-- ---- what a body is read from

-- a body that has no tag
plain_takes : {A : Type 0} {write' : A → List ℕ} {get : List ℕ → A} {HasLength : ℕ → Type 0} {Fits : A → Type 0} (field : IsField write' get HasLength Fits) (size : Size) (make : A → PlainBody) (kind : Kind) (lane serial left : ℕ) (rest : List ℕ) (b : PlainBody)
    → ((k : ℕ) → has_size size k ≡ true → HasLength k) → ((x : A) → spell.body (make x) ≡ write' x) → ((x : A) → Fits x → Fitted kind lane serial (make x)) → IsBytes rest
    → filled (record { size = size; meaning = λ bytes. make (get bytes) }) left rest ≡ Ok b → IsTaken spell.body (Fitted kind lane serial) b [] left rest
plain_takes {get = get} field size make kind lane serial left rest b sizes spells fit h e =
    filled_takes spell.body (Fitted kind lane serial) [] (record { size = size; meaning = λ bytes. make (get bytes) }) left rest b (means field size make spell.body (Fitted kind lane serial) [] sizes spells fit) h e

deposits_mean : (lane serial : ℕ) → 1 ≤ serial → AllByRecursion (λ (f : ℕ × Form PlainBody). Means spell.body (Fitted kinds.Deposit lane serial) (f.0 ∷ []) f.1) deposits
deposits_mean lane serial right = (
  means (raw_field (Is 32)) (Exactly 32) (λ k. Deposit (deposit.Register k)) spell.body (Fitted kinds.Deposit lane serial) (1 ∷ []) (exact 32) (λ x. refl) (λ x h. record { kind_is = refl; is_body = h; addressed = right }),
  (
    means word_field (Exactly 16) (λ k. Deposit (deposit.Write k)) spell.body (Fitted kinds.Deposit lane serial) (2 ∷ []) (exact 16) (λ x. refl) (λ x h. record { kind_is = refl; is_body = h; addressed = right }),
    (means word_field (Exactly 16) (λ k. Deposit (deposit.Read k)) spell.body (Fitted kinds.Deposit lane serial) (3 ∷ []) (exact 16) (λ x. refl) (λ x h. record { kind_is = refl; is_body = h; addressed = right }), tt),
  ),
)

helds_mean : (lane serial : ℕ) → 1 ≤ serial → AllByRecursion (λ (f : ℕ × Form PlainBody). Means spell.body (Fitted kinds.Held lane serial) (f.0 ∷ []) f.1) helds
helds_mean lane serial right = (
  means_nothing spell.body (Fitted kinds.Held lane serial) 1 (Held false) refl (record { kind_is = refl; is_body = tt; addressed = right }),
  (means_nothing spell.body (Fitted kinds.Held lane serial) 2 (Held true) refl (record { kind_is = refl; is_body = tt; addressed = right }), tt),
)

dones_mean : (lane serial : ℕ) → 1 ≤ serial → AllByRecursion (λ (f : ℕ × Form PlainBody). Means spell.body (Fitted kinds.Done lane serial) (f.0 ∷ []) f.1) dones
dones_mean lane serial right = (
  means u32_field (Exactly 4) Registered spell.body (Fitted kinds.Done lane serial) (1 ∷ []) (exact 4) (λ x. refl) (λ x h. record { kind_is = refl; is_body = h; addressed = right }),
  (
    means_nothing spell.body (Fitted kinds.Done lane serial) 2 Accepted refl (record { kind_is = refl; is_body = tt; addressed = right }),
    (means halves (Wide 0 2) (λ p. Message p.0 p.1) spell.body (Fitted kinds.Done lane serial) (3 ∷ []) wide2 (λ x. refl) (λ x h. record { kind_is = refl; is_body = h; addressed = right }), tt),
  ),
)

wide0 : (k : ℕ) → has_size (Wide 0 1) k ≡ true → IsWidth k
wide0 k h = grind (arith, nat_tests)

wide0_back : (k : ℕ) → IsWidth k → has_size (Wide 0 1) k ≡ true
wide0_back k h = grind (arith, nat_tests)

replies_mean : (lane serial : ℕ) → 1 ≤ serial → AllByRecursion (λ (f : ℕ × Form PlainBody). Means spell.body (Fitted kinds.LinkReply lane serial) (f.0 ∷ []) f.1) replies
replies_mean lane serial right =
    let F = Fitted kinds.LinkReply lane serial in (
      means u32_field (Exactly 4) (λ n. LinkReply (ReplyRegistered n)) spell.body F (1 ∷ []) (exact 4) (λ x. refl) (λ x h. record { kind_is = refl; is_body = h; addressed = right }),
      (
        means u32_field (Exactly 4) (λ n. LinkReply (ReplyBegun n)) spell.body F (2 ∷ []) (exact 4) (λ x. refl) (λ x h. record { kind_is = refl; is_body = h; addressed = right }),
        (
          means openings_closing (Exactly 64) (λ p. LinkReply (ReplyAudited p.0 p.1)) spell.body F (3 ∷ []) (exact 64) (λ x. refl) (λ x h. record { kind_is = refl; is_body = h; addressed = right }),
          (
            means_nothing spell.body F 4 (LinkReply ReplyAccepted) refl (record { kind_is = refl; is_body = tt; addressed = right }),
            (
              means_nothing spell.body F 5 (LinkReply ReplyRejected) refl (record { kind_is = refl; is_body = tt; addressed = right }),
              (means (raw_field IsWidth) (Wide 0 1) (λ t. LinkReply (ReplyMasked t)) spell.body F (6 ∷ []) wide0 (λ x. refl) (λ x h. record { kind_is = refl; is_body = h; addressed = right }), tt),
            ),
          ),
        ),
      ),
    )

-- the number of a refusal
abbrev number_in : Refusal → ℕ
number_in r = get_or (spell.refusal r) 0 0

nobody : (number lane serial : ℕ) → leb number 2 ≡ true → addressed number lane serial ≡ Ok tt → (lane ≡ 0) × (serial ≡ 0)
unfolding addressed
nobody number lane serial t e = grind (arith, nat_tests)

somebody : (number lane serial : ℕ) → leb number 2 ≡ false → addressed number lane serial ≡ Ok tt → 1 ≤ serial
unfolding addressed
somebody number lane serial t e = grind (arith, nat_tests)

addressed_is : (r : Refusal) (lane serial : ℕ) → addressed (number_in r) lane serial ≡ Ok tt → IsAddressed (Refused r) lane serial
addressed_is (refusal.Malformed place) lane serial e = nobody 1 lane serial refl e
addressed_is (refusal.Version version) lane serial e = nobody 2 lane serial refl e
addressed_is (refusal.Lane limit) lane serial e = somebody 3 lane serial refl e
addressed_is (refusal.Stale n) lane serial e = somebody 4 lane serial refl e
addressed_is (refusal.Phase phase) lane serial e = somebody 5 lane serial refl e
addressed_is (refusal.Taken n) lane serial e = somebody 6 lane serial refl e
addressed_is (refusal.Full limit) lane serial e = somebody 7 lane serial refl e
addressed_is (refusal.NoBox n) lane serial e = somebody 8 lane serial refl e
addressed_is (refusal.BadToken n) lane serial e = somebody 9 lane serial refl e
addressed_is refusal.NoDeposit lane serial e = somebody 10 lane serial refl e
addressed_is refusal.NotProved lane serial e = somebody 11 lane serial refl e
addressed_is (refusal.Rejected a b c d) lane serial e = somebody 12 lane serial refl e
addressed_is (refusal.Again n) lane serial e = somebody 13 lane serial refl e
addressed_is (refusal.LinkDown n) lane serial e = somebody 14 lane serial refl e

pub positive : (n : ℕ) → eqb n 0 ≡ false → 1 ≤ n
positive n h = grind (arith, nat_tests)

unit_is : (u : Unit {0}) → u ≡ tt
unit_is u = refl

refused_takes : (lane serial left : ℕ) (rest : List ℕ) (b : PlainBody) → 1 ≤ left → IsBytes rest → refused lane serial left rest ≡ Ok b → IsTaken spell.body (Fitted kinds.Refused lane serial) b [] left rest
unfolding refused
refused_takes lane serial left [] b one h e = absurd cc
refused_takes lane serial left (n ∷ after) b one h e =
    let a = bind_ok (cond (leb 1 n && leb n 14) (addressed n lane serial) (Err (Malformed 20))) (λ right. tagged 20 refusals left (n ∷ after) >>= λ r. Ok (Refused r)) b e in
    let c = bind_ok (tagged 20 refusals left (n ∷ after)) (λ r. Ok (Refused r)) b a.2 in
    let t = tagged_takes spell.refusal IsRefusal 20 refusals left (n ∷ after) c.0 refusals_mean one h c.1 in
    let number_is : number_in c.0 ≡ n = ap (λ (t : List ℕ). get_or t 0 0) (t.spelled ∙ take_first left n after one) in
    let right : addressed n lane serial ≡ Ok tt = (test_ok (leb 1 n && leb n 14) (Malformed 20) (addressed n lane serial) a.0 a.1).1 ∙ ap (λ u. Ok u) (unit_is a.0) in
    let at : IsAddressed (Refused c.0) lane serial = addressed_is c.0 lane serial (ap (λ k. addressed k lane serial) number_is ∙ right) in
    let is : Refused c.0 ≡ b = ok_is _ _ c.2 in
    subst (λ x. IsTaken spell.body (Fitted kinds.Refused lane serial) x [] left (n ∷ after)) is
    (record { whole = t.whole; spelled = t.spelled; fits = record { kind_is = refl; is_body = t.fits; addressed = at } })

-- which refusals a helper answers
abbrev is_answer : ℕ → Bool
is_answer n = n == 3 || (leb 6 n && leb n 11)

answer_is : (r : Refusal) → is_answer (number_in r) ≡ true → IsRefusal r → IsReplyRefusal r
answer_is (refusal.Malformed place) e h = absurd cc
answer_is (refusal.Version version) e h = absurd cc
answer_is (refusal.Lane limit) e h = h
answer_is (refusal.Stale n) e h = absurd cc
answer_is (refusal.Phase phase) e h = absurd cc
answer_is (refusal.Taken n) e h = h
answer_is (refusal.Full limit) e h = h
answer_is (refusal.NoBox n) e h = h
answer_is (refusal.BadToken n) e h = h
answer_is refusal.NoDeposit e h = h
answer_is refusal.NotProved e h = h
answer_is (refusal.Rejected a b c d) e h = absurd cc
answer_is (refusal.Again n) e h = absurd cc
answer_is (refusal.LinkDown n) e h = absurd cc

pub never : (d : FrameFault) (b : PlainBody) → (let r : Result PlainBody FrameFault = Err d in r) ≡ Ok b → ⊥
never d b e = cc

reply_refused_takes : (lane serial left : ℕ) (rest : List ℕ) (b : PlainBody) → 1 ≤ serial → IsBytes rest → reply_refused left rest ≡ Ok b
    → (r : Refusal) × (b ≡ LinkReply (ReplyRefused r)) × IsReplyRefusal r × IsTaken spell.refusal IsRefusal r [] left rest
unfolding reply_refused
reply_refused_takes lane serial left [] b right h e = let g = guard_ok (eqb left 0) (Malformed 0) (Err Short) b e in absurd (never Short b g.1)
reply_refused_takes lane serial left (n ∷ after) b right h e =
    let g = guard_ok (eqb left 0) (Malformed 0) (cond (is_answer n) (tagged 21 refusals left (n ∷ after) >>= λ r. Ok (LinkReply (ReplyRefused r))) (Err (Malformed 21))) b e in
    let t = test_ok (is_answer n) (Malformed 21) (tagged 21 refusals left (n ∷ after) >>= λ r. Ok (LinkReply (ReplyRefused r))) b g.1 in
    let c = bind_ok (tagged 21 refusals left (n ∷ after)) (λ r. Ok (LinkReply (ReplyRefused r))) b t.1 in
    let one : 1 ≤ left = positive left g.0 in
    let k = tagged_takes spell.refusal IsRefusal 21 refusals left (n ∷ after) c.0 refusals_mean one h c.1 in
    let number_is : number_in c.0 ≡ n = ap (λ (t : List ℕ). get_or t 0 0) (k.spelled ∙ take_first left n after one) in
    (c.0, sym (ok_is _ _ c.2), answer_is c.0 (ap is_answer number_is ∙ t.0) k.fits, k)

replied_takes : (lane serial left : ℕ) (rest : List ℕ) (b : PlainBody) → 1 ≤ serial → 1 ≤ left → IsBytes rest → replied left rest ≡ Ok b → IsTaken spell.body (Fitted kinds.LinkReply lane serial) b [] left rest
unfolding replied
replied_takes lane serial left [] b right one h e = absurd cc
replied_takes lane serial left (tag ∷ after) b right one h e = pick (eqb tag 7) refl e where
  pick : (t : Bool) → eqb tag 7 ≡ t → cond t (reply_refused (left - 1) after) (tagged 20 replies left (tag ∷ after)) ≡ Ok b → IsTaken spell.body (Fitted kinds.LinkReply lane serial) b [] left (tag ∷ after)
  pick true t e =
      let k = reply_refused_takes lane serial (left - 1) after b right (IsBytes-rest tag after h) e in
      let seven : tag ≡ 7 = eqb-true tag 7 t in
      let text : 7 ∷ spell.refusal k.0 ≡ take left (tag ∷ after) = ap (λ (t : List ℕ). 7 ∷ t) k.3.spelled ∙ ap (λ n. n ∷ take (left - 1) after) (sym seven) ∙ sym (take_first left tag after one) in
      subst (λ x. IsTaken spell.body (Fitted kinds.LinkReply lane serial) x [] left (tag ∷ after)) (sym k.1)
      (record { whole = omega (arith, k.3.whole, one); spelled = text; fits = record { kind_is = refl; is_body = k.2; addressed = right } })
  pick false t e = tagged_takes spell.body (Fitted kinds.LinkReply lane serial) 20 replies left (tag ∷ after) b (replies_mean lane serial right) one h e

pub body_takes : (kind : Kind) (lane serial left : ℕ) (rest : List ℕ) (b : PlainBody) → (is_refused kind ≡ false → 1 ≤ serial) → 1 ≤ left → IsBytes rest → body_in kind lane serial left rest ≡ Ok b
    → IsTaken spell.body (Fitted kind lane serial) b [] left rest
body_takes kinds.Deposit lane serial left rest b right one h e = tagged_takes spell.body (Fitted kinds.Deposit lane serial) 20 deposits left rest b (deposits_mean lane serial (right refl)) one h e
body_takes kinds.Register lane serial left rest b right one h e = plain_takes address_key (Exactly 48) (λ p. Register p.0 p.1) kinds.Register lane serial left rest b (exact 48) (λ x. refl) (λ x f. record { kind_is = refl; is_body = f; addressed = right refl }) h e
body_takes kinds.Write lane serial left rest b right one h e = plain_takes word_part (Wide 2080 1) (λ p. Write p.0 p.1) kinds.Write lane serial left rest b (wide1 2080) (λ x. refl) (λ x f. record { kind_is = refl; is_body = f; addressed = right refl }) h e
body_takes kinds.Read lane serial left rest b right one h e = plain_takes box_word (Exactly 20) (λ p. Read p.0 p.1) kinds.Read lane serial left rest b (exact 20) (λ x. refl) (λ x f. record { kind_is = refl; is_body = f; addressed = right refl }) h e
body_takes kinds.Proof lane serial left rest b right one h e = plain_takes proof_field (Exactly 160) Proof kinds.Proof lane serial left rest b (exact 160) (λ x. refl) (λ x f. record { kind_is = refl; is_body = f; addressed = right refl }) h e
body_takes kinds.Held lane serial left rest b right one h e = tagged_takes spell.body (Fitted kinds.Held lane serial) 20 helds left rest b (helds_mean lane serial (right refl)) one h e
body_takes kinds.Challenge lane serial left rest b right one h e = plain_takes (raw_field (Is 32)) (Exactly 32) Challenge kinds.Challenge lane serial left rest b (exact 32) (λ x. refl) (λ x f. record { kind_is = refl; is_body = f; addressed = right refl }) h e
body_takes kinds.Done lane serial left rest b right one h e = tagged_takes spell.body (Fitted kinds.Done lane serial) 20 dones left rest b (dones_mean lane serial (right refl)) one h e
body_takes kinds.Refused lane serial left rest b right one h e = refused_takes lane serial left rest b one h e
body_takes kinds.LinkRegister lane serial left rest b right one h e = plain_takes address_field (Exactly 16) LinkRegister kinds.LinkRegister lane serial left rest b (exact 16) (λ x. refl) (λ x f. record { kind_is = refl; is_body = f; addressed = right refl }) h e
body_takes kinds.LinkBegin lane serial left rest b right one h e = plain_takes key_part (Wide 2096 1) (λ p. LinkBegin p.0 p.1) kinds.LinkBegin lane serial left rest b (wide1 2096) (λ x. refl) (λ x f. record { kind_is = refl; is_body = f; addressed = right refl }) h e
body_takes kinds.LinkAudit lane serial left rest b right one h e = plain_takes word_openings (Exactly 48) (λ p. LinkAudit p.0 p.1) kinds.LinkAudit lane serial left rest b (exact 48) (λ x. refl) (λ x f. record { kind_is = refl; is_body = f; addressed = right refl }) h e
body_takes kinds.LinkSettle lane serial left rest b right one h e = plain_takes closing_field (Exactly 32) LinkSettle kinds.LinkSettle lane serial left rest b (exact 32) (λ x. refl) (λ x f. record { kind_is = refl; is_body = f; addressed = right refl }) h e
body_takes kinds.LinkRead lane serial left rest b right one h e = plain_takes u32_field (Exactly 4) LinkRead kinds.LinkRead lane serial left rest b (exact 4) (λ x. refl) (λ x f. record { kind_is = refl; is_body = f; addressed = right refl }) h e
body_takes kinds.LinkReply lane serial left rest b right one h e = replied_takes lane serial left rest b (right refl) one h e
body_takes kinds.Retire lane serial left rest b right one h e = plain_takes box_word (Exactly 20) (λ p. Retire p.0 p.1) kinds.Retire lane serial left rest b (exact 20) (λ x. refl) (λ x f. record { kind_is = refl; is_body = f; addressed = right refl }) h e
body_takes kinds.LinkRetire lane serial left rest b right one h e = plain_takes u32_field (Exactly 4) LinkRetire kinds.LinkRetire lane serial left rest b (exact 4) (λ x. refl) (λ x f. record { kind_is = refl; is_body = f; addressed = right refl }) h e
body_takes kinds.LinkBegun lane serial left rest b right one h e = plain_takes count_key (Exactly 36) (λ p. LinkBegun p.0 p.1) kinds.LinkBegun lane serial left rest b (exact 36) (λ x. refl) (λ x f. record { kind_is = refl; is_body = f; addressed = right refl }) h e

-- ---- a body is read again

-- a tag, and the field behind it
tag_again : {A B : Type 0} {write' : A → List ℕ} {get : List ℕ → A} {HasLength : ℕ → Type 0} {Fits : A → Type 0} (field : IsField write' get HasLength Fits) (size : Size) (make : A → B) (place tag : ℕ) (forms : List (ℕ × Form B)) (x : A) (rest : List ℕ)
    → ((k : ℕ) → HasLength k → has_size size k ≡ true) → form_of tag forms ≡ Some (record { size = size; meaning = λ bytes. make (get bytes) }) → Fits x
    → tagged place forms (length (tag ∷ write' x)) ((tag ∷ write' x) ++ rest) ≡ Ok (make x)
tag_again {write' = write'} {get = get} field size make place tag forms x rest sizes f fit =
    tagged_again place tag forms (record { size = size; meaning = λ bytes. make (get bytes) }) (length (write' x)) (write' x ++ rest) (make x) f (filled_again field size make sizes x fit rest)

nothing_again : {B : Type 0} (x : B) (place tag : ℕ) (forms : List (ℕ × Form B)) (rest : List ℕ) → form_of tag forms ≡ Some (nothing x) → tagged place forms 1 (tag ∷ rest) ≡ Ok x
unfolding tagged chosen filled sized
nothing_again x place tag forms rest f = let long : ltb (length rest) 0 ≡ false = le-ltb _ _ (omega arith) in rw (f, long) refl

refusal_again : (place : ℕ) (r : Refusal) (rest : List ℕ) → IsRefusal r → tagged place refusals (length (spell.refusal r)) (spell.refusal r ++ rest) ≡ Ok r
refusal_again place (refusal.Malformed x) rest fit = tag_again u32_field (Exactly 4) refusal.Malformed place 1 refusals x rest (exact_back 4) refl fit
refusal_again place (refusal.Version x) rest fit = tag_again u8_field (Exactly 1) refusal.Version place 2 refusals x rest (exact_back 1) refl fit
refusal_again place (refusal.Lane x) rest fit = tag_again u16_field (Exactly 2) refusal.Lane place 3 refusals x rest (exact_back 2) refl fit
refusal_again place (refusal.Stale x) rest fit = tag_again u32_field (Exactly 4) refusal.Stale place 4 refusals x rest (exact_back 4) refl fit
refusal_again place (refusal.Phase x) rest fit = tag_again u8_field (Exactly 1) refusal.Phase place 5 refusals x rest (exact_back 1) refl fit
refusal_again place (refusal.Taken x) rest fit = tag_again u32_field (Exactly 4) refusal.Taken place 6 refusals x rest (exact_back 4) refl fit
refusal_again place (refusal.Full x) rest fit = tag_again u32_field (Exactly 4) refusal.Full place 7 refusals x rest (exact_back 4) refl fit
refusal_again place (refusal.NoBox x) rest fit = tag_again u32_field (Exactly 4) refusal.NoBox place 8 refusals x rest (exact_back 4) refl fit
refusal_again place (refusal.BadToken x) rest fit = tag_again u32_field (Exactly 4) refusal.BadToken place 9 refusals x rest (exact_back 4) refl fit
refusal_again place refusal.NoDeposit rest fit = nothing_again refusal.NoDeposit place 10 refusals rest refl
refusal_again place refusal.NotProved rest fit = nothing_again refusal.NotProved place 11 refusals rest refl
refusal_again place (refusal.Rejected a b c d) rest fit = tag_again words4 (Exactly 64) (λ p. refusal.Rejected p.0 p.1.0 p.1.1.0 p.1.1.1) place 12 refusals (a, (b, (c, d))) rest (exact_back 64) refl fit
refusal_again place (refusal.Again x) rest fit = tag_again u64_field (Exactly 8) refusal.Again place 13 refusals x rest (exact_back 8) refl fit
refusal_again place (refusal.LinkDown x) rest fit = tag_again u64_field (Exactly 8) refusal.LinkDown place 14 refusals x rest (exact_back 8) refl fit

pub answer_fits : (r : Refusal) → IsReplyRefusal r → IsRefusal r
answer_fits (refusal.Malformed place) h = absurd h
answer_fits (refusal.Version version) h = absurd h
answer_fits (refusal.Lane limit) h = h
answer_fits (refusal.Stale n) h = absurd h
answer_fits (refusal.Phase phase) h = absurd h
answer_fits (refusal.Taken n) h = h
answer_fits (refusal.Full limit) h = h
answer_fits (refusal.NoBox n) h = h
answer_fits (refusal.BadToken n) h = h
answer_fits refusal.NoDeposit h = h
answer_fits refusal.NotProved h = h
answer_fits (refusal.Rejected a b c d) h = absurd h
answer_fits (refusal.Again n) h = absurd h
answer_fits (refusal.LinkDown n) h = absurd h

answers : (r : Refusal) → IsReplyRefusal r → is_answer (number_in r) ≡ true
answers (refusal.Malformed place) h = absurd h
answers (refusal.Version version) h = absurd h
answers (refusal.Lane limit) h = refl
answers (refusal.Stale n) h = absurd h
answers (refusal.Phase phase) h = absurd h
answers (refusal.Taken n) h = refl
answers (refusal.Full limit) h = refl
answers (refusal.NoBox n) h = refl
answers (refusal.BadToken n) h = refl
answers refusal.NoDeposit h = refl
answers refusal.NotProved h = refl
answers (refusal.Rejected a b c d) h = absurd h
answers (refusal.Again n) h = absurd h
answers (refusal.LinkDown n) h = absurd h

-- a refusal's number, and what stands behind it
starts : (r : Refusal) → (after : List ℕ) × (spell.refusal r ≡ number_in r ∷ after)
starts (refusal.Malformed x) = (to_be_bytes w32 x, refl)
starts (refusal.Version x) = (x ∷ [], refl)
starts (refusal.Lane x) = (to_be_bytes w16 x, refl)
starts (refusal.Stale x) = (to_be_bytes w32 x, refl)
starts (refusal.Phase x) = (x ∷ [], refl)
starts (refusal.Taken x) = (to_be_bytes w32 x, refl)
starts (refusal.Full x) = (to_be_bytes w32 x, refl)
starts (refusal.NoBox x) = (to_be_bytes w32 x, refl)
starts (refusal.BadToken x) = (to_be_bytes w32 x, refl)
starts refusal.NoDeposit = ([], refl)
starts refusal.NotProved = ([], refl)
starts (refusal.Rejected a b c d) = (word a ++ (word b ++ (word c ++ word d)), refl)
starts (refusal.Again x) = (to_be_bytes w64 x, refl)
starts (refusal.LinkDown x) = (to_be_bytes w64 x, refl)

first_is : (r : Refusal) (rest : List ℕ) → first_of (spell.refusal r ++ rest) ≡ Ok (number_in r, (starts r).0 ++ rest)
first_is r rest = ap (λ (t : List ℕ). first_of (t ++ rest)) (starts r).1

some_length : (r : Refusal) → eqb (length (spell.refusal r)) 0 ≡ false
some_length r = ap (λ (t : List ℕ). eqb (length t) 0) (starts r).1 ∙ grind (arith, nat_tests)

reply_refused_again : (r : Refusal) (rest : List ℕ) → IsReplyRefusal r → reply_refused (length (spell.refusal r)) (spell.refusal r ++ rest) ≡ Ok (LinkReply (ReplyRefused r))
unfolding reply_refused
reply_refused_again r rest fit = rw (some_length r, first_is r rest, answers r fit, refusal_again 21 r rest (answer_fits r fit)) refl

-- lane and serial of a refusal
at_nobody : (number lane serial : ℕ) → leb number 2 ≡ true → (lane ≡ 0) × (serial ≡ 0) → addressed number lane serial ≡ Ok tt
unfolding addressed
at_nobody number lane serial t h = grind (arith, nat_tests)

at_somebody : (number lane serial : ℕ) → leb number 2 ≡ false → 1 ≤ serial → addressed number lane serial ≡ Ok tt
unfolding addressed
at_somebody number lane serial t h = grind (arith, nat_tests)

is_addressed : (r : Refusal) (lane serial : ℕ) → IsAddressed (Refused r) lane serial → addressed (number_in r) lane serial ≡ Ok tt
is_addressed (refusal.Malformed place) lane serial h = at_nobody 1 lane serial refl h
is_addressed (refusal.Version version) lane serial h = at_nobody 2 lane serial refl h
is_addressed (refusal.Lane limit) lane serial h = at_somebody 3 lane serial refl h
is_addressed (refusal.Stale n) lane serial h = at_somebody 4 lane serial refl h
is_addressed (refusal.Phase phase) lane serial h = at_somebody 5 lane serial refl h
is_addressed (refusal.Taken n) lane serial h = at_somebody 6 lane serial refl h
is_addressed (refusal.Full limit) lane serial h = at_somebody 7 lane serial refl h
is_addressed (refusal.NoBox n) lane serial h = at_somebody 8 lane serial refl h
is_addressed (refusal.BadToken n) lane serial h = at_somebody 9 lane serial refl h
is_addressed refusal.NoDeposit lane serial h = at_somebody 10 lane serial refl h
is_addressed refusal.NotProved lane serial h = at_somebody 11 lane serial refl h
is_addressed (refusal.Rejected a b c d) lane serial h = at_somebody 12 lane serial refl h
is_addressed (refusal.Again n) lane serial h = at_somebody 13 lane serial refl h
is_addressed (refusal.LinkDown n) lane serial h = at_somebody 14 lane serial refl h

is_known : (r : Refusal) → leb 1 (number_in r) && leb (number_in r) 14 ≡ true
is_known (refusal.Malformed place) = refl
is_known (refusal.Version version) = refl
is_known (refusal.Lane limit) = refl
is_known (refusal.Stale n) = refl
is_known (refusal.Phase phase) = refl
is_known (refusal.Taken n) = refl
is_known (refusal.Full limit) = refl
is_known (refusal.NoBox n) = refl
is_known (refusal.BadToken n) = refl
is_known refusal.NoDeposit = refl
is_known refusal.NotProved = refl
is_known (refusal.Rejected a b c d) = refl
is_known (refusal.Again n) = refl
is_known (refusal.LinkDown n) = refl

refused_again : (r : Refusal) (lane serial : ℕ) (rest : List ℕ) → IsRefusal r → IsAddressed (Refused r) lane serial → refused lane serial (length (spell.refusal r)) (spell.refusal r ++ rest) ≡ Ok (Refused r)
unfolding refused
refused_again r lane serial rest fit at = rw (first_is r rest, is_known r, is_addressed r lane serial at, refusal_again 20 r rest fit) refl

reply_again : (r : PlainReply) (rest : List ℕ) → IsReply r → replied (length (spell.reply r)) (spell.reply r ++ rest) ≡ Ok (LinkReply r)
unfolding replied
reply_again (ReplyRegistered n) rest fit = tag_again u32_field (Exactly 4) (λ n. LinkReply (ReplyRegistered n)) 20 1 replies n rest (exact_back 4) refl fit
reply_again (ReplyBegun n) rest fit = tag_again u32_field (Exactly 4) (λ n. LinkReply (ReplyBegun n)) 20 2 replies n rest (exact_back 4) refl fit
reply_again (ReplyAudited o c) rest fit = tag_again openings_closing (Exactly 64) (λ p. LinkReply (ReplyAudited p.0 p.1)) 20 3 replies (o, c) rest (exact_back 64) refl fit
reply_again ReplyAccepted rest fit = nothing_again (LinkReply ReplyAccepted) 20 4 replies rest refl
reply_again ReplyRejected rest fit = nothing_again (LinkReply ReplyRejected) 20 5 replies rest refl
reply_again (ReplyMasked share) rest fit = tag_again (raw_field IsWidth) (Wide 0 1) (λ t. LinkReply (ReplyMasked t)) 20 6 replies share rest wide0_back refl fit
reply_again (ReplyRefused r) rest fit =
    let one : suc (length (spell.refusal r)) - 1 ≡ length (spell.refusal r) = omega arith in
    rw one (reply_refused_again r rest fit)

pub body_again : (b : PlainBody) (lane serial : ℕ) (rest : List ℕ) → IsBody b → IsAddressed b lane serial → body_in (kind_of b) lane serial (length (spell.body b)) (spell.body b ++ rest) ≡ Ok b
body_again (Deposit (deposit.Register k)) lane serial rest fit at = tag_again (raw_field (Is 32)) (Exactly 32) (λ k. Deposit (deposit.Register k)) 20 1 deposits k rest (exact_back 32) refl fit
body_again (Deposit (deposit.Write n)) lane serial rest fit at = tag_again word_field (Exactly 16) (λ n. Deposit (deposit.Write n)) 20 2 deposits n rest (exact_back 16) refl fit
body_again (Deposit (deposit.Read n)) lane serial rest fit at = tag_again word_field (Exactly 16) (λ n. Deposit (deposit.Read n)) 20 3 deposits n rest (exact_back 16) refl fit
body_again (Register a k) lane serial rest fit at = filled_again address_key (Exactly 48) (λ p. Register p.0 p.1) (exact_back 48) (a, k) fit rest
body_again (Write root part) lane serial rest fit at = filled_again word_part (Wide 2080 1) (λ p. Write p.0 p.1) (wide1_back 2080) (root, part) fit rest
body_again (Read n token) lane serial rest fit at = filled_again box_word (Exactly 20) (λ p. Read p.0 p.1) (exact_back 20) (n, token) fit rest
body_again (Proof share) lane serial rest fit at = filled_again proof_field (Exactly 160) Proof (exact_back 160) share fit rest
body_again (Held false) lane serial rest fit at = nothing_again (Held false) 20 1 helds rest refl
body_again (Held true) lane serial rest fit at = nothing_again (Held true) 20 2 helds rest refl
body_again (Challenge ckey) lane serial rest fit at = filled_again (raw_field (Is 32)) (Exactly 32) Challenge (exact_back 32) ckey fit rest
body_again (Registered n) lane serial rest fit at = tag_again u32_field (Exactly 4) Registered 20 1 dones n rest (exact_back 4) refl fit
body_again Accepted lane serial rest fit at = nothing_again Accepted 20 2 dones rest refl
body_again (Message zero' one) lane serial rest fit at = tag_again halves (Wide 0 2) (λ p. Message p.0 p.1) 20 3 dones (zero', one) rest wide2_back refl fit
body_again (Refused r) lane serial rest fit at = refused_again r lane serial rest fit at
body_again (LinkRegister a) lane serial rest fit at = filled_again address_field (Exactly 16) LinkRegister (exact_back 16) a fit rest
body_again (LinkBegin ckey part) lane serial rest fit at = filled_again key_part (Wide 2096 1) (λ p. LinkBegin p.0 p.1) (wide1_back 2096) (ckey, part) fit rest
body_again (LinkAudit sigma opened) lane serial rest fit at = filled_again word_openings (Exactly 48) (λ p. LinkAudit p.0 p.1) (exact_back 48) (sigma, opened) fit rest
body_again (LinkSettle closed) lane serial rest fit at = filled_again closing_field (Exactly 32) LinkSettle (exact_back 32) closed fit rest
body_again (LinkRead n) lane serial rest fit at = filled_again u32_field (Exactly 4) LinkRead (exact_back 4) n fit rest
body_again (LinkReply r) lane serial rest fit at = reply_again r rest fit
body_again (Retire n token) lane serial rest fit at = filled_again box_word (Exactly 20) (λ p. Retire p.0 p.1) (exact_back 20) (n, token) fit rest
body_again (LinkRetire n) lane serial rest fit at = filled_again u32_field (Exactly 4) LinkRetire (exact_back 4) n fit rest
body_again (LinkBegun count draw) lane serial rest fit at = filled_again count_key (Exactly 36) (λ p. LinkBegun p.0 p.1) (exact_back 36) (count, draw) fit rest
