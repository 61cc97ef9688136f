-- The boxes of earlier runs come to a client one after another.
use Rattle.std.proofs.Common.{◌≡◌, ℕ, ◌+◌, ◌<◌, ◌≤◌, Bool, true, false, cond, List, [], ◌∷◌, ◌++◌, length, get_or, take, map, Some, None, refl, sym, ap, subst, ◌∙◌, arith}
use Rattle.std.proofs.lemmas.List.{take_more, map-append, length-take, length-map}
use Rattle.std.proofs.lemmas.Bool.{lt-leb}
use Rattle.std.specs.Prelude.{nat_le}
use Rattle.step_rules.specs.Client.{Client, Owned, opened_client}
use Rattle.step_rules.specs.ClientAsks.{owned_by, owning}
use Rattle.settings_text.specs.declared.owned.OwnedBox.{OwnedBox}
use Rattle.client_run.specs.Accounts.{Account, opened}

-- the account with these boxes alone
abbrev pub with_boxes : Account → List OwnedBox → Account
with_boxes a boxes = record a { owned = boxes }

pub none_owned : (a : Account) → opened_client a.lane a.seed a.width (a.boxes + 1) a.serial ≡ opened (with_boxes a [])
unfolding opened opened_client
none_owned a = refl

taken : (full result : Bool) (with_box new : Client) → full ≡ false
    → cond full None (Some with_box) ≡ cond result (Some new) None → new ≡ with_box
taken true result with_box new room is = absurd (cc room)
taken false true with_box new room is = cc
taken false false with_box new room is = absurd (cc is)

room : (a : Account) (boxes : List OwnedBox) (i : ℕ) → i < length boxes → length boxes ≤ a.boxes
    → let c = opened (with_boxes a (take i boxes)) in nat_le c.capacity (length c.owned) ≡ false
unfolding opened opened_client
room a boxes i less few =
    let fresh : Client = opened_client a.lane a.seed a.width (a.boxes + 1) a.serial in
    let own : OwnedBox → Owned = λ (b : OwnedBox). owned_by fresh b.box_number b.serial in
    lt-leb (a.boxes + 1) (length (map own (take i boxes))) (omega (arith, length-map (take i boxes) own, length-take i boxes))

one_more : (a : Account) (boxes : List OwnedBox) (b : OwnedBox)
    → let c = opened (with_boxes a boxes) in
    record c { owned = c.owned ++ owned_by c b.box_number b.serial ∷ [] } ≡ opened (with_boxes a (boxes ++ b ∷ []))
unfolding opened opened_client
one_more a boxes b =
    let fresh : Client = opened_client a.lane a.seed a.width (a.boxes + 1) a.serial in
    let own : OwnedBox → Owned = λ (b : OwnedBox). owned_by fresh b.box_number b.serial in
    ap (λ (owned : List Owned). record fresh { owned = owned }) (sym (map-append own boxes (b ∷ [])))

pub own_more : (a : Account) (c new : Client) (boxes : List OwnedBox) (i : ℕ) (d : OwnedBox) (result : Bool) → i < length boxes → length boxes ≤ a.boxes
    → owning c (get_or boxes i d).box_number (get_or boxes i d).serial ≡ cond result (Some new) None
    → c ≡ opened (with_boxes a (take i boxes)) → new ≡ opened (with_boxes a (take (i + 1) boxes))
unfolding owning
own_more a c new boxes i d result less few is so_far =
    let b = get_or boxes i d in
    let before : Client = opened (with_boxes a (take i boxes)) in
    let owns : owning before b.box_number b.serial ≡ cond result (Some new) None
    = subst (λ (x : Client). owning x b.box_number b.serial ≡ cond result (Some new) None) so_far is in
    taken (nat_le before.capacity (length before.owned)) result _ new (room a boxes i less few) owns
    ∙ one_more a (take i boxes) b ∙ ap (λ (x : List OwnedBox). opened (with_boxes a x)) (sym (take_more boxes i d less))
