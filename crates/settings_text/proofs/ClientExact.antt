-- The settings of clients are read exactly, and so is what those of carriers begin with.
use Rattle.std.proofs.Common.{◌≡◌, ◌⊎◌, inl, inr, ℕ, cond, List, [], codes, Option, Some, None, option_map, Result, Ok, refl, sym, ◌∙◌, ap, subst}
use Rattle.std.specs.Str.{bytes_eq}
use Rattle.toml.specs.Data as toml
use Rattle.toml.specs.Data.{Data, Members, as_str, as_table}
use Rattle.express_texts.proofs.FieldLaws.{bind_some, map_some}
use Rattle.settings_text.specs.AccountSpelling.{FaultOfAccount, HasAccount, HasOwned, MeansOwned, MeansSeed}
use Rattle.settings_text.specs.Client.{account_of, client_of, client_with, optional_seed}
use Rattle.settings_text.specs.ClientSpelling.{FaultOfClient, HasAsking, HasClient, MeansAsking}
use Rattle.settings_text.specs.Keys.{needed}
use Rattle.settings_text.specs.Meanings.{Has, HasOr, MeansAddress, MeansBytes, MeansList, MeansNumber, MeansText, MeansWidth}
use Rattle.settings_text.specs.Owned.{owned_box_in, owned_in}
use Rattle.settings_text.specs.Requests.{kind_of, own_of, write_of, asking_of, asking_in, requests_in}
use Rattle.settings_text.specs.Values.{address_in, at_key, message_in, number_in, seed_in, width_in}
use Rattle.settings_text.specs.declared.account.Account.{Account}
use Rattle.settings_text.specs.declared.client.ClientSettings.{ClientSettings}
use Rattle.settings_text.specs.declared.owned.OwnedBox.{OwnedBox}
use Rattle.settings_text.specs.declared.requests.Asking.{Asking}
use Rattle.settings_text.specs.declared.requests.Asking.TheVariants.{Register, Write, Read, Retire}
use Rattle.settings_text.specs.declared.requests.Kind.{Kind}
use Rattle.settings_text.specs.declared.requests.Kind.TheVariants as kind
use Rattle.settings_text.proofs.ExactLaws.{IsExact, ReadsAs, and_then, as_well, done, key_read, needed_exact, optional_exact}
use Rattle.settings_text.proofs.MeaningLaws.{address_read, is_table, list_read, message_read, number_read, seed_found_in, seed_only_in, text_read, width_read}
use Rattle.settings_text.proofs.ServeExact.{if_named}

-- ---- a seed, and the owned boxes

seed_found : (value : Data) (seed : Option (List ℕ)) → optional_seed value ≡ Some seed → MeansSeed seed value
seed_found value seed h =
    let at = map_some (λ (s : List ℕ). Some s) (seed_in value) seed h in
    subst (λ (s : Option (List ℕ)). MeansSeed s value) at.2 (seed_found_in value at.0 at.1)

seed_only : (value : Data) (seed : Option (List ℕ)) → MeansSeed seed value → optional_seed value ≡ Some seed
seed_only value None h = absurd h
seed_only value (Some seed) h = rw (seed_only_in value seed h) refl

seed_read : ReadsAs optional_seed MeansSeed
seed_read = record { found = seed_found; only = seed_only }

-- what stands under a key of a table
pub under : {A : Type 0} (key : List ℕ) (read : Data → Option A) (Means : A → Data → Type 0) → ReadsAs read Means → (keys : Members) (a : A) → at_key key read keys ≡ Some a → Has key Means keys a
under key read Means reads keys a h = (key_read key read Means keys reads).0 a h

pub back : {A : Type 0} (key : List ℕ) (read : Data → Option A) (Means : A → Data → Type 0) → ReadsAs read Means → (keys : Members) (a : A) → Has key Means keys a → at_key key read keys ≡ Some a
back key read Means reads keys a h = (key_read key read Means keys reads).1 a h

owned_found : (value : Data) (owned : OwnedBox) → owned_box_in value ≡ Some owned → MeansOwned owned value
unfolding owned_box_in
owned_found value owned h =
    let table = bind_some (as_table value) _ owned h in
    let box = bind_some (at_key (codes "box") (number_in 0 4095) table.0) _ owned table.2 in
    let serial = bind_some (at_key (codes "serial") (number_in 1 4294967295) table.0) _ owned box.2 in
    let is : record { box_number = box.0; serial = serial.0 } ≡ owned = some_is _ _ serial.2 in
    subst (λ (o : OwnedBox). MeansOwned o value) is
    (table.0, is_table value table.0 table.1, under (codes "box") (number_in 0 4095) (MeansNumber 0 4095) (number_read 0 4095) table.0 box.0 box.1, under (codes "serial") (number_in 1 4294967295) (MeansNumber 1 4294967295) (number_read 1 4294967295) table.0 serial.0 serial.1)
  where
    some_is : (a b : OwnedBox) → Some a ≡ Some b → a ≡ b
    some_is a b e = cc

owned_only : (value : Data) (owned : OwnedBox) → MeansOwned owned value → owned_box_in value ≡ Some owned
unfolding owned_box_in
owned_only value owned h =
    rw (h.1, back (codes "box") (number_in 0 4095) (MeansNumber 0 4095) (number_read 0 4095) h.0 owned.box_number h.2, back (codes "serial") (number_in 1 4294967295) (MeansNumber 1 4294967295) (number_read 1 4294967295) h.0 owned.serial h.3) refl

owned_box_read : ReadsAs owned_box_in MeansOwned
owned_box_read = record { found = owned_found; only = owned_only }

owned_read : (most : ℕ) → ReadsAs (owned_in most) (MeansList 0 most MeansOwned)
unfolding owned_in
owned_read most = list_read 0 most owned_box_in MeansOwned owned_box_read

-- ---- the account

-- what its keys have, one after the other
abbrev pub AccountChain : ℕ → Members → Account → Type 0
AccountChain least keys a =
    (lane : ℕ) × Has (codes "lane") (MeansNumber 0 255) keys lane
    × ((leader : List ℕ) × Has (codes "leader") MeansText keys leader
    × ((helper : List ℕ) × Has (codes "helper") MeansText keys helper
    × ((width : ℕ) × Has (codes "width") (MeansWidth least) keys width
    × ((boxes : ℕ) × Has (codes "boxes") (MeansNumber 1 4096) keys boxes
    × ((serial : ℕ) × Has (codes "serial") (MeansNumber 1 4294967295) keys serial
    × ((seed : Option (List ℕ)) × HasOr None (codes "seed") MeansSeed keys seed
    × ((owned : List OwnedBox) × HasOwned boxes keys owned
    × (a ≡ record { lane = lane; leader = leader; helper = helper; width = width; boxes = boxes; serial = serial; seed = seed; owned = owned }))))))))

account_has : (least : ℕ) (keys : Members) (a : Account) → AccountChain least keys a → HasAccount least keys a
account_has least keys a (lane, l, (leader, e, (helper, h, (width, w, (boxes, b, (serial, s, (seed, d, (owned, o, is)))))))) =
    subst (HasAccount least keys) (sym is) (record { lane = l; leader = e; helper = h; width = w; boxes = b; serial = s; seed = d; owned = o })

has_account : (least : ℕ) (keys : Members) (a : Account) → HasAccount least keys a → AccountChain least keys a
has_account least keys a h =
    (a.lane, h.lane, (a.leader, h.leader, (a.helper, h.helper, (a.width, h.width, (a.boxes, h.boxes, (a.serial, h.serial, (a.seed, h.seed, (a.owned, h.owned, refl))))))))

account_chain : (least : ℕ) (keys : Members) → IsExact (account_of least keys) (AccountChain least keys) (FaultOfAccount least keys)
unfolding account_of
account_chain least keys =
    and_then _ _ _ _ _ _ (needed_exact (codes "lane") (number_in 0 255) (MeansNumber 0 255) keys (number_read 0 255)) (λ lane.
    and_then _ _ _ _ _ _ (needed_exact (codes "leader") as_str MeansText keys text_read) (λ leader.
    and_then _ _ _ _ _ _ (needed_exact (codes "helper") as_str MeansText keys text_read) (λ helper.
    and_then _ _ _ _ _ _ (needed_exact (codes "width") (width_in least) (MeansWidth least) keys (width_read least)) (λ width.
    and_then _ _ _ _ _ _ (needed_exact (codes "boxes") (number_in 1 4096) (MeansNumber 1 4096) keys (number_read 1 4096)) (λ boxes.
    and_then _ _ _ _ _ _ (needed_exact (codes "serial") (number_in 1 4294967295) (MeansNumber 1 4294967295) keys (number_read 1 4294967295)) (λ serial.
    and_then _ _ _ _ _ _ (optional_exact None (codes "seed") optional_seed MeansSeed keys seed_read) (λ seed.
    and_then _ _ _ _ _ _ (optional_exact [] (codes "owned") (owned_in boxes) (MeansList 0 boxes MeansOwned) keys (owned_read boxes)) (λ owned. done _))))))))

pub account_exact : (least : ℕ) (keys : Members) → IsExact (account_of least keys) (HasAccount least keys) (FaultOfAccount least keys)
account_exact least keys =
    as_well (account_of least keys) (AccountChain least keys) (HasAccount least keys) (FaultOfAccount least keys) (FaultOfAccount least keys) (account_has least keys) (has_account least keys) (λ named h. h) (λ named h. h) (account_chain least keys)

-- ---- requests

own_found : (keys : Members) (own : ℕ) → own_of keys ≡ Some own → Has (codes "own") (MeansNumber 0 4095) keys own
own_found = under (codes "own") (number_in 0 4095) (MeansNumber 0 4095) (number_read 0 4095)

own_only : (keys : Members) (own : ℕ) → Has (codes "own") (MeansNumber 0 4095) keys own → own_of keys ≡ Some own
own_only = back (codes "own") (number_in 0 4095) (MeansNumber 0 4095) (number_read 0 4095)

-- the word for each kind
abbrev pub word_of : Kind → List ℕ
word_of kind.Register = codes "register"
word_of kind.Write = codes "write"
word_of kind.Read = codes "read"
word_of kind.Retire = codes "retire"

is_word : (name word : List ℕ) (a k : Kind) → word ≡ word_of a → (name ≡ word) × (a ≡ k) → name ≡ word_of k
is_word name word a k is h = h.0 ∙ is ∙ ap word_of h.1

kind_found : (name : List ℕ) (k : Kind) → kind_of name ≡ Some k → name ≡ word_of k
kind_found name k h = at_register (if_named name (codes "register") kind.Register k _ h)
  where
    at_retire : ((name ≡ codes "retire") × (kind.Retire ≡ k)) ⊎ (None ≡ Some k) → name ≡ word_of k
    at_retire (inl is) = is_word name (codes "retire") kind.Retire k refl is
    at_retire (inr none) = cc

    at_read : ((name ≡ codes "read") × (kind.Read ≡ k)) ⊎ (cond (bytes_eq name (codes "retire")) (Some kind.Retire) None ≡ Some k) → name ≡ word_of k
    at_read (inl is) = is_word name (codes "read") kind.Read k refl is
    at_read (inr other) = at_retire (if_named name (codes "retire") kind.Retire k None other)

    at_write : ((name ≡ codes "write") × (kind.Write ≡ k)) ⊎ (cond (bytes_eq name (codes "read")) (Some kind.Read) (cond (bytes_eq name (codes "retire")) (Some kind.Retire) None) ≡ Some k) → name ≡ word_of k
    at_write (inl is) = is_word name (codes "write") kind.Write k refl is
    at_write (inr other) = at_read (if_named name (codes "read") kind.Read k _ other)

    at_register : ((name ≡ codes "register") × (kind.Register ≡ k))
        ⊎ (cond (bytes_eq name (codes "write")) (Some kind.Write) (cond (bytes_eq name (codes "read")) (Some kind.Read) (cond (bytes_eq name (codes "retire")) (Some kind.Retire) None)) ≡ Some k) → name ≡ word_of k
    at_register (inl is) = is_word name (codes "register") kind.Register k refl is
    at_register (inr other) = at_write (if_named name (codes "write") kind.Write k _ other)

kind_only : (k : Kind) → kind_of (word_of k) ≡ Some k
kind_only kind.Register = refl
kind_only kind.Write = refl
kind_only kind.Read = refl
kind_only kind.Retire = refl

some_is : {A : Type 0} (a b : A) → Some a ≡ Some b → a ≡ b
some_is a b h = cc

asking_as : (width : ℕ) (k : Kind) (keys : Members) (asking : Asking) → Has (codes "kind") MeansText keys (word_of k) → asking_of width k keys ≡ Some asking → HasAsking width keys asking
unfolding asking_of write_of
asking_as width kind.Register keys asking named h =
    let at = map_some Register (at_key (codes "address") address_in keys) asking h in
    subst (HasAsking width keys) at.2 (named, under (codes "address") address_in MeansAddress address_read keys at.0 at.1)
asking_as width kind.Write keys asking named h =
    let address = bind_some (at_key (codes "address") address_in keys) _ asking h in
    let message = bind_some (at_key (codes "message") (message_in width) keys) _ asking address.2 in
    subst (HasAsking width keys) (some_is (Write address.0 message.0) asking message.2)
    (named, under (codes "address") address_in MeansAddress address_read keys address.0 address.1, under (codes "message") (message_in width) (MeansBytes width) (message_read width) keys message.0 message.1)
asking_as width kind.Read keys asking named h =
    let at = map_some Read (own_of keys) asking h in
    subst (HasAsking width keys) at.2 (named, own_found keys at.0 at.1)
asking_as width kind.Retire keys asking named h =
    let at = map_some Retire (own_of keys) asking h in
    subst (HasAsking width keys) at.2 (named, own_found keys at.0 at.1)

asking_found : (width : ℕ) (value : Data) (asking : Asking) → asking_in width value ≡ Some asking → MeansAsking width asking value
unfolding asking_in
asking_found width value asking h =
    let table = bind_some (as_table value) _ asking h in
    let name = bind_some (at_key (codes "kind") as_str table.0) _ asking table.2 in
    let k = bind_some (kind_of name.0) _ asking name.2 in
    let named = under (codes "kind") as_str MeansText text_read table.0 (word_of k.0) (name.1 ∙ ap Some (kind_found name.0 k.0 k.1)) in
    (table.0, is_table value table.0 table.1, asking_as width k.0 table.0 asking named k.2)

-- the kind of a request
abbrev pub kind_in : Asking → Kind
kind_in (Register address) = kind.Register
kind_in (Write address message) = kind.Write
kind_in (Read own) = kind.Read
kind_in (Retire own) = kind.Retire

asking_back : (width : ℕ) (keys : Members) (asking : Asking) → HasAsking width keys asking
    → (at_key (codes "kind") as_str keys ≡ Some (word_of (kind_in asking))) × (asking_of width (kind_in asking) keys ≡ Some asking)
unfolding asking_of write_of
asking_back width keys (Register address) h =
    (back (codes "kind") as_str MeansText text_read keys (codes "register") h.0, rw (back (codes "address") address_in MeansAddress address_read keys address h.1) refl)
asking_back width keys (Write address message) h = (
  back (codes "kind") as_str MeansText text_read keys (codes "write") h.0,
  rw (back (codes "address") address_in MeansAddress address_read keys address h.1, back (codes "message") (message_in width) (MeansBytes width) (message_read width) keys message h.2) refl,
)
asking_back width keys (Read own) h =
    (back (codes "kind") as_str MeansText text_read keys (codes "read") h.0, rw (own_only keys own h.1) refl)
asking_back width keys (Retire own) h =
    (back (codes "kind") as_str MeansText text_read keys (codes "retire") h.0, rw (own_only keys own h.1) refl)

asking_only : (width : ℕ) (value : Data) (asking : Asking) → MeansAsking width asking value → asking_in width value ≡ Some asking
unfolding asking_in
asking_only width value asking h =
    let both = asking_back width h.0 asking h.2 in
    rw (h.1, both.0, kind_only (kind_in asking)) both.1

asking_read : (width : ℕ) → ReadsAs (asking_in width) (MeansAsking width)
asking_read width = record { found = asking_found width; only = asking_only width }

requests_read : (width : ℕ) → ReadsAs (requests_in width) (MeansList 1 1000 (MeansAsking width))
unfolding requests_in
requests_read width = list_read 1 1000 (asking_in width) (MeansAsking width) (asking_read width)

-- ---- all keys of a client

abbrev pub ClientChain : Members → ClientSettings → Type 0
ClientChain keys s =
    (account : Account) × HasAccount 16 keys account
    × ((requests : List Asking) × Has (codes "request") (MeansList 1 1000 (MeansAsking account.width)) keys requests
    × (s ≡ client_with account requests))

chain_has : (keys : Members) (s : ClientSettings) → ClientChain keys s → HasClient keys s
chain_has keys s (account, a, (requests, q, is)) =
    subst (HasClient keys) (sym is) (record { account = account; has_account = a; request = q; is = refl })

has_chain : (keys : Members) (s : ClientSettings) → HasClient keys s → ClientChain keys s
has_chain keys s h = (h.account, h.has_account, (s.requests, h.request, h.is))

chain_exact : (keys : Members) → IsExact (client_of keys) (ClientChain keys) (FaultOfClient keys)
unfolding client_of
chain_exact keys =
    and_then _ _ _ _ _ _ (account_exact 16 keys) (λ account.
    and_then _ _ _ _ _ _ (needed_exact (codes "request") (requests_in account.width) (MeansList 1 1000 (MeansAsking account.width)) keys (requests_read account.width)) (λ requests. done _))

pub client_exact : (keys : Members) → IsExact (client_of keys) (HasClient keys) (FaultOfClient keys)
client_exact keys =
    as_well (client_of keys) (ClientChain keys) (HasClient keys) (FaultOfClient keys) (FaultOfClient keys) (chain_has keys) (has_chain keys) (λ named h. h) (λ named h. h) (chain_exact keys)
