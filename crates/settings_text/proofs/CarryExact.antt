-- The settings of carriers are read exactly.
use Rattle.std.proofs.Common.{◌≡◌, ◌≢◌, ◌⊎◌, inl, inr, ℕ, suc, ◌+◌, ◌-◌, ◌<◌, ◌≤◌, nat_eq, nat_le, not, Bool, true, false, cond, List, [], ◌∷◌, ◌++◌, length, codes, AllPairs, Contains, Option, Some, None, Result, Ok, Err, arith, refl, sym, ◌∙◌, ap, subst, le-leb, leb-true, append-nil, append_assoc}
use Rattle.std.specs.Str.{bytes_eq}
use Rattle.std.specs.List.{list_any}
use Rattle.std.specs.Result.{result_ok}
use Rattle.std.proofs.lemmas.Bool.{eqb-true, ne_eqb}
use Rattle.std.proofs.lemmas.List.{get_or_append_left, length_push, length-append, get_or_default}
use Rattle.std.proofs.lemmas.List.Folds.{Any-from_list_any, list_any_at}
use Rattle.std.proofs.lemmas.List.Quantifiers.{all_pairs_push}
use Rattle.std.proofs.Math.Seq.{get_or-append_seam}
use Rattle.hex.specs.Hex.{decode_of}
use Rattle.file_carry.specs.Parts.{count_of}
use Rattle.toml.specs.Data as toml
use Rattle.toml.specs.Data.{Data, Members, as_str}
use Rattle.express_texts.specs.LineFields.{any_bytes_of, wanted}
use Rattle.express_texts.proofs.FieldLaws.{bind_some, wanted_found}
use Rattle.settings_text.specs.AccountSpelling.{HasAccount}
use Rattle.settings_text.specs.Carry.{mode_of, mode_in, send_of, job_of, carry_with, carry_of}
use Rattle.settings_text.specs.CarrySpelling.{FaultOfCarry, FaultOfJob, HasCarry, HasJob, MeansAddresses, MeansFile, MeansMode}
use Rattle.settings_text.specs.Files.{id_in, file_in, few_parts, is_new, addresses_on, addresses_in}
use Rattle.settings_text.specs.Keys.{◌>>=◌, needed}
use Rattle.settings_text.specs.Meanings.{EachMeans, Has, NoneIs, MeansAddress, MeansList, MeansNumber}
use Rattle.settings_text.specs.Values.{address_in, elements, list_within, number_in}
use Rattle.settings_text.specs.declared.account.Account.{Account}
use Rattle.settings_text.specs.declared.carry.CarryJob.{CarryJob}
use Rattle.settings_text.specs.declared.carry.CarryJob.TheVariants.{Send, Fetch}
use Rattle.settings_text.specs.declared.carry.CarrySettings.{CarrySettings}
use Rattle.settings_text.specs.declared.carry.Mode.{Mode}
use Rattle.settings_text.specs.declared.carry.Mode.TheVariants as mode
use Rattle.settings_text.specs.declared.owned.OwnedBox.{OwnedBox}
use Rattle.settings_text.proofs.AddressLaws.{Distinct, is_old}
use Rattle.settings_text.proofs.ClientExact.{account_exact}
use Rattle.settings_text.proofs.ExactLaws.{IsExact, ReadsAs, and_then, as_well, done, failed, needed_exact}
use Rattle.settings_text.proofs.MeaningLaws.{address_read, each_long, is_string, number_read, some_then, values_found, values_only}
use Rattle.settings_text.proofs.ServeExact.{if_named, named_string}

-- ---- the mode

mode_found : (value : Data) (m : Mode) → mode_in value ≡ Some m → MeansMode m value
unfolding mode_in
mode_found value m h =
    let at = some_then mode_of (as_str value) m h in
    at_send at.0 at.1 (if_named at.0 (codes "send") mode.Send m _ at.2)
  where
    at_fetch : (name : List ℕ) → as_str value ≡ Some name → ((name ≡ codes "fetch") × (mode.Fetch ≡ m)) ⊎ (None ≡ Some m) → MeansMode m value
    at_fetch name there (inl is) = subst (λ (x : Mode). MeansMode x value) is.1 (named_string value name (codes "fetch") there is.0)
    at_fetch name there (inr none) = cc

    at_send : (name : List ℕ) → as_str value ≡ Some name
        → ((name ≡ codes "send") × (mode.Send ≡ m)) ⊎ (cond (bytes_eq name (codes "fetch")) (Some mode.Fetch) None ≡ Some m) → MeansMode m value
    at_send name there (inl is) = subst (λ (x : Mode). MeansMode x value) is.1 (named_string value name (codes "send") there is.0)
    at_send name there (inr other) = at_fetch name there (if_named name (codes "fetch") mode.Fetch m None other)

mode_only : (value : Data) (m : Mode) → MeansMode m value → mode_in value ≡ Some m
unfolding mode_in
mode_only value mode.Send h = rw h refl
mode_only value mode.Fetch h = rw h refl

mode_read : ReadsAs mode_in MeansMode
mode_read = record { found = mode_found; only = mode_only }

-- ---- the file

id_read : ReadsAs id_in (MeansNumber 0 9223372036854775807)
unfolding id_in
id_read = number_read 0 9223372036854775807

bytes_found : (digits file : List ℕ) → any_bytes_of digits ≡ Some file → decode_of digits ≡ Ok file
unfolding any_bytes_of
bytes_found digits file h = at_read (decode_of digits) refl h
  where
    at_read : (r : Result (List ℕ) _) → decode_of digits ≡ r → result_ok r ≡ Some file → decode_of digits ≡ Ok file
    at_read (Ok bytes) e k = cc
    at_read (Err f) e k = cc

bytes_only : (digits file : List ℕ) → decode_of digits ≡ Ok file → any_bytes_of digits ≡ Some file
unfolding any_bytes_of
bytes_only digits file h = rw h refl

parts_found : (width : ℕ) (file : List ℕ) (count : ℕ) → few_parts width file ≡ Some count → (count ≡ count_of (length file) (width - 16)) × (count ≤ 4096)
unfolding few_parts
parts_found width file count h = at_test (count_of (length file) (width - 16)) (nat_le (count_of (length file) (width - 16)) 4096) refl h
  where
    at_test : (n : ℕ) (t : Bool) → nat_le n 4096 ≡ t → cond t (Some n) None ≡ Some count → (count ≡ n) × (count ≤ 4096)
    at_test n true e k = let same : n ≡ count = cc in (sym same, subst (λ (x : ℕ). x ≤ 4096) same (leb-true n 4096 e))
    at_test n false e k = cc

parts_only : (width : ℕ) (file : List ℕ) (count : ℕ) → count ≡ count_of (length file) (width - 16) → count ≤ 4096 → few_parts width file ≡ Some count
unfolding few_parts
parts_only width file count is few =
    let short : count_of (length file) (width - 16) ≤ 4096 = subst (λ (x : ℕ). x ≤ 4096) is few in
    rw (le-leb (count_of (length file) (width - 16)) 4096 short) (ap Some (sym is))

file_found : (width : ℕ) (value : Data) (file : List ℕ × ℕ) → file_in width value ≡ Some file → MeansFile width file value
unfolding file_in
file_found width value file h =
    let digits = bind_some (as_str value) _ file h in
    let bytes = bind_some (any_bytes_of digits.0) _ file digits.2 in
    let count = bind_some (few_parts width bytes.0) _ file bytes.2 in
    let parts = parts_found width bytes.0 count.0 count.1 in
    subst (λ (f : List ℕ × ℕ). MeansFile width f value) (some_pair (bytes.0, count.0) file count.2)
    (digits.0, is_string value digits.0 digits.1, bytes_found digits.0 bytes.0 bytes.1, parts.0, parts.1)
  where
    some_pair : (a b : List ℕ × ℕ) → Some a ≡ Some b → a ≡ b
    some_pair a b e = cc

file_only : (width : ℕ) (value : Data) (file : List ℕ × ℕ) → MeansFile width file value → file_in width value ≡ Some file
unfolding file_in
file_only width value file h = rw (h.1, bytes_only h.0 file.0 h.2, parts_only width file.0 file.1 h.3 h.4) refl

file_read : (width : ℕ) → ReadsAs (file_in width) (MeansFile width)
file_read width = record { found = file_found width; only = file_only width }

-- ---- the addresses

is_among : (a : ℕ) (xs : List ℕ) → is_old xs a ≡ true → Contains xs a
is_among a xs h =
    let any = Any-from_list_any (λ other. nat_eq a other) xs h in
    let is : any.1 ≡ a = sym (eqb-true a any.1 any.4) in
    subst (λ (x : ℕ). Contains xs x) is (any.0, any.2, any.3)

isnt_among : (a : ℕ) (xs : List ℕ) → is_old xs a ≡ false → Contains xs a → ⊥
isnt_among a xs none h =
    let same : nat_eq a a ≡ true = grind arith in
    let some = list_any_at (λ other. nat_eq a other) xs h.0 a h.1 (rw h.2 same) in cc

not_among : (a : ℕ) (xs : List ℕ) → (Contains xs a → ⊥) → is_old xs a ≡ false
not_among a xs none = at_test (is_old xs a) refl
  where
    at_test : (t : Bool) → is_old xs a ≡ t → t ≡ false
    at_test true e = absurd (none (is_among a xs e))
    at_test false e = refl

-- one more address that isn't among those before
distinct_push : (xs : List ℕ) (a : ℕ) → Distinct xs → (Contains xs a → ⊥) → Distinct (xs ++ a ∷ [])
distinct_push xs a apart new = all_pairs_push (λ p q. p ≢ q) xs a apart (λ k d h e. new (k, h, get_or_default xs k a d h ∙ e))

-- an address isn't among those before it
new_in : (xs : List ℕ) (a : ℕ) (more : List ℕ) → Distinct (xs ++ a ∷ more) → Contains xs a → ⊥
new_in xs a more apart h =
    let long : length (xs ++ a ∷ more) ≡ length xs + suc (length more) = length-append xs (a ∷ more) in
    apart h.0 (length xs) a h.1 (omega (arith, long)) (get_or_append_left xs (a ∷ more) a h.0 h.1 ∙ h.2 ∙ sym (get_or-append_seam xs a more a))

pushed : (xs : List ℕ) (a : ℕ) (more : List ℕ) → xs ++ a ∷ more ≡ (xs ++ a ∷ []) ++ more
pushed xs a more = sym (append_assoc xs (a ∷ []) more)

-- what is read of values behind addresses that were read
pub record ReadOn (before : List ℕ) (values : List Data) (all : List ℕ) : Type 0 where
  pub rest : List ℕ
  pub is : all ≡ before ++ rest
  pub each : EachMeans MeansAddress rest values
  pub distinct : Distinct all

on_found : (before : List ℕ) (values : List Data) (all : List ℕ) → Distinct before → addresses_on before values ≡ Some all → ReadOn before values all
unfolding addresses_on
on_found before [] all apart h =
    let same : before ≡ all = cc in
    subst (λ (xs : List ℕ). ReadOn before [] xs) same (record { rest = []; is = sym (append-nil before); each = tt; distinct = apart })
on_found before (value ∷ values) all apart h =
    let address = bind_some (address_in value) _ all h in
    let new = bind_some (wanted (is_new before address.0)) _ all address.2 in
    let fresh : is_old before address.0 ≡ false = not_true (is_old before address.0) (wanted_found (is_new before address.0) new.0 new.1) in
    let r = on_found (before ++ address.0 ∷ []) values all (distinct_push before address.0 apart (isnt_among address.0 before fresh)) new.2 in
    record { rest = address.0 ∷ r.rest; is = r.is ∙ sym (pushed before address.0 r.rest); each = (address_read.found value address.0 address.1, r.each); distinct = r.distinct }
  where
    not_true : (t : Bool) → not t ≡ true → t ≡ false
    not_true true e = cc
    not_true false e = refl

on_only : (before rest : List ℕ) (values : List Data) → EachMeans MeansAddress rest values → Distinct (before ++ rest) → addresses_on before values ≡ Some (before ++ rest)
unfolding addresses_on
on_only before [] [] each apart = ap Some (sym (append-nil before))
on_only before [] (value ∷ values) each apart = absurd each
on_only before (a ∷ rest) [] each apart = absurd each
on_only before (a ∷ rest) (value ∷ values) each apart =
    let is = pushed before a rest in
    let fresh = not_among a before (new_in before a rest apart) in
    let further = on_only (before ++ a ∷ []) rest values each.1 (subst (λ (xs : List ℕ). Distinct xs) is apart) in
    rw (address_read.only value a each.0, fresh) (further ∙ ap Some (sym is))

addresses_found : (count : ℕ) (value : Data) (all : List ℕ) → addresses_in count value ≡ Some all → MeansAddresses count all value
unfolding addresses_in
addresses_found count value all h =
    let at = bind_some (list_within count count value) _ all h in
    let has = values_found count count value at.0 at.1 in
    let r = on_found [] at.0 all (λ i j d below inside. absurd (omega arith)) at.2 in
    let each : EachMeans MeansAddress all at.0 = subst (λ (xs : List ℕ). EachMeans MeansAddress xs at.0) (sym r.is) r.each in
    let long = each_long MeansAddress at.0 all each in
    ((has.items, has.is, subst (λ (xs : List Data). EachMeans MeansAddress all xs) (sym has.values_are) each, omega (arith, long, has.enough), omega (arith, long, has.few)), r.distinct)

addresses_only : (count : ℕ) (value : Data) (all : List ℕ) → MeansAddresses count all value → addresses_in count value ≡ Some all
unfolding addresses_in
addresses_only count value all h =
    let long = each_long MeansAddress (elements h.0.0) all h.0.2 in
    rw (values_only count count value h.0.0 h.0.1 (omega (arith, long, h.0.3)) (omega (arith, long, h.0.4))) (on_only [] all (elements h.0.0) h.0.2 h.1)

addresses_read : (count : ℕ) → ReadsAs (addresses_in count) (MeansAddresses count)
addresses_read count = record { found = addresses_found count; only = addresses_only count }

-- ---- the job

abbrev given : CarryJob → Result CarryJob (List ℕ)
given job = Ok job

-- what the keys of a job have behind the mode
abbrev pub JobChain : ℕ → List OwnedBox → Members → Mode → CarryJob → Type 0
JobChain width owned keys mode.Send job =
    (id : ℕ) × Has (codes "id") (MeansNumber 0 9223372036854775807) keys id
    × ((file : List ℕ × ℕ) × Has (codes "file") (MeansFile width) keys file
    × ((addresses : List ℕ) × Has (codes "addresses") (MeansAddresses file.1) keys addresses × (job ≡ Send id file.0 addresses)))
JobChain width owned keys mode.Fetch job = (owned ≢ []) × (job ≡ Fetch)

-- a fetch with a box
fetch_is : (width : ℕ) (one : OwnedBox) (owned : List OwnedBox) (keys : Members) → job_of width (one ∷ owned) mode.Fetch keys ≡ given Fetch
unfolding job_of
fetch_is width one owned keys =
    let some : nat_eq (length (one ∷ owned)) 0 ≡ false = ne_eqb (length (one ∷ owned)) 0 (λ e. omega (arith, e)) in rw some refl

job_exact : (width : ℕ) (owned : List OwnedBox) (keys : Members) (m : Mode) → IsExact (job_of width owned m keys) (JobChain width owned keys m) (FaultOfJob width owned keys m)
unfolding job_of send_of
job_exact width owned keys mode.Send =
    and_then _ _ _ _ _ _ (needed_exact (codes "id") id_in (MeansNumber 0 9223372036854775807) keys id_read) (λ id.
    and_then _ _ _ _ _ _ (needed_exact (codes "file") (file_in width) (MeansFile width) keys (file_read width)) (λ file.
    and_then _ _ _ _ _ _ (needed_exact (codes "addresses") (addresses_in file.1) (MeansAddresses file.1) keys (addresses_read file.1)) (λ addresses. done _)))
job_exact width [] keys mode.Fetch = record {
  found = λ job h. cc;
  only = λ job h. absurd (h.0 refl);
  bad = λ named h. (named_owned named h, refl);
  only_bad = λ named h. ap (λ (k : List ℕ). failed {A = CarryJob} k) (sym h.0);
}
  where
    named_owned : (named : List ℕ) → failed {A = CarryJob} (codes "owned") ≡ Err named → named ≡ codes "owned"
    named_owned named h = cc
job_exact width (one ∷ owned) keys mode.Fetch =
    let fetch = fetch_is width one owned keys in
    record {
      found = λ job h. ((λ none. cc), fetched job (sym fetch ∙ h));
      only = λ job h. fetch ∙ ap (λ (j : CarryJob). given j) (sym h.1);
      bad = λ named h. absurd (no_key named (sym fetch ∙ h));
      only_bad = λ named h. let none = h.1 in cc;
    }
  where
    fetched : (job : CarryJob) → given Fetch ≡ given job → job ≡ Fetch
    fetched job h = cc

    no_key : (named : List ℕ) → given Fetch ≡ failed named → ⊥
    no_key named h = cc

job_then : (account : Account) (keys : Members) (m : Mode)
    → IsExact (job_of account.width account.owned m keys >>= λ job. Ok (carry_with account job))
    (λ s. (job : CarryJob) × JobChain account.width account.owned keys m job × (s ≡ carry_with account job)) (FaultOfJob account.width account.owned keys m)
job_then account keys m =
    as_well _ _ _ _ _ (λ s h. h) (λ s h. h) (λ named h. of_job named h) (λ named h. inl h)
    (and_then _ _ _ _ _ _ (job_exact account.width account.owned keys m) (λ job. done _))
  where
    of_job : (named : List ℕ) → FaultOfJob account.width account.owned keys m named ⊎ ((job : CarryJob) × JobChain account.width account.owned keys m job × NoneIs named)
        → FaultOfJob account.width account.owned keys m named
    of_job named (inl h) = h
    of_job named (inr h) = absurd h.2

-- ---- all keys

abbrev pub CarryChain : Members → CarrySettings → Type 0
CarryChain keys s =
    (account : Account) × HasAccount 32 keys account
    × ((m : Mode) × Has (codes "mode") MeansMode keys m
    × ((job : CarryJob) × JobChain account.width account.owned keys m job
    × (s ≡ carry_with account job)))

-- a job has its mode
has_job : (width : ℕ) (owned : List OwnedBox) (keys : Members) (m : Mode) (job : CarryJob) → Has (codes "mode") MeansMode keys m → JobChain width owned keys m job → HasJob width owned keys job
has_job width owned keys mode.Send job moded (id, i, (file, f, (addresses, a, is))) =
    let few : length addresses ≤ file.1 = a.2.0.4 in
    let enough : file.1 ≤ length addresses = a.2.0.3 in
    let count : file.1 ≡ length addresses = omega (arith, few, enough) in
    let paired : file ≡ (file.0, length addresses) = ap (λ (n : ℕ). (file.0, n)) count in
    subst (HasJob width owned keys) (sym is)
    (moded, i, subst (λ (p : List ℕ × ℕ). Has (codes "file") (MeansFile width) keys p) paired f, subst (λ (n : ℕ). Has (codes "addresses") (MeansAddresses n) keys addresses) count a)
has_job width owned keys mode.Fetch job moded (some, is) = subst (HasJob width owned keys) (sym is) (moded, some)

job_chain : (width : ℕ) (owned : List OwnedBox) (keys : Members) (job : CarryJob) → HasJob width owned keys job
    → (m : Mode) × Has (codes "mode") MeansMode keys m × JobChain width owned keys m job
job_chain width owned keys (Send id file addresses) h = (mode.Send, h.0, (id, h.1, ((file, length addresses), h.2, (addresses, h.3, refl))))
job_chain width owned keys Fetch h = (mode.Fetch, h.0, (h.1, refl))

chain_has : (keys : Members) (s : CarrySettings) → CarryChain keys s → HasCarry keys s
chain_has keys s (account, a, (m, moded, (job, j, is))) =
    subst (HasCarry keys) (sym is) (record { account = account; has_account = a; job = has_job account.width account.owned keys m job moded j; is = refl })

has_chain : (keys : Members) (s : CarrySettings) → HasCarry keys s → CarryChain keys s
has_chain keys s h =
    let j = job_chain h.account.width h.account.owned keys s.job h.job in
    (h.account, h.has_account, (j.0, j.1, (s.job, j.2, h.is)))

chain_exact : (keys : Members) → IsExact (carry_of keys) (CarryChain keys) (FaultOfCarry keys)
unfolding carry_of
chain_exact keys =
    and_then _ _ _ _ _ _ (account_exact 32 keys) (λ account.
    and_then _ _ _ _ _ _ (needed_exact (codes "mode") mode_in MeansMode keys mode_read) (λ m. job_then account keys m))

pub carry_exact : (keys : Members) → IsExact (carry_of keys) (HasCarry keys) (FaultOfCarry keys)
carry_exact keys =
    as_well (carry_of keys) (CarryChain keys) (HasCarry keys) (FaultOfCarry keys) (FaultOfCarry keys) (chain_has keys) (has_chain keys) (λ named h. h) (λ named h. h) (chain_exact keys)
