-- An honest write and its move, at either server.
use Rattle.std.specs.Prelude.{◌≡◌, ℕ, ◌-◌, ◌<◌, ◌&&◌, Bool, true, cond, nat_eq, bytes_eq, refl, List, [], ◌∷◌, length, Option, Some, None, Ok, slice_get}
use Rattle.std.proofs.Common.{arith, ap, sym, ◌∙◌, append-nil}
use Rattle.std.proofs.lemmas.Bool.{eq-eqb}
use Rattle.express_words.specs.Bytes.{xor_bytes}
use Rattle.express_words.specs.Ranges.{IsProofShare}
use Rattle.express_words.proofs.Bytes.{xor_bytes_comm, xor_bytes_assoc, xor_bytes_self, xor_bytes_zeros, length-xor_bytes}
use Rattle.express_words.specs.declared.audit.ProofShare.{ProofShare}
use Rattle.express_words.specs.declared.audit.Openings.{Openings}
use Rattle.frame_rules.specs.Frames.{PlainFrame}
use Rattle.frame_rules.specs.Spelling.{spelling, IsFrame}
use Rattle.frame_rules.specs.Reading.{decoded}
use Rattle.frame_rules.proofs.GrammarLaws.{decoded_again}
use Rattle.frame_rules.specs.Whole.{whole, whole_of}
use Rattle.dpf_rules.specs.Walk.{leaf_of}
use Rattle.audit_rules.specs.Values.{Write, Values}
use Rattle.write_hiding.specs.Choices.{PlainChoice, PlainAim, IsChoice, IsAim}
use Rattle.write_hiding.specs.Views.{public_part, other_leaf, other_share}
use Rattle.write_hiding.specs.Moved.{moved}
use Rattle.write_hiding.specs.Laws.{ChoicesStay}
use Rattle.write_hiding.proofs.ChoiceLemmas.{share_in}
use Rattle.moved_worlds.specs.Moves.{AreTwinWrites, MovedChoicesAreTwins}
use Rattle.step_rules.specs.Boxes.{Box}
use Rattle.step_hiding.specs.Worlds.{Leaves, sums_in, opens_in, values_in}
use Rattle.step_hiding.specs.Twins as twins
use Rattle.step_hiding.specs.Twins.{Two, SameElsewhere, SameProofs, TwinBoxes}
use Rattle.step_hiding.proofs.Lists.{Both, zip_get}
use Rattle.std.specs.List.{AllZip}
use Rattle.run_sights.specs.Histories.{HonestWrite, Writes, Aims, is_own, leaves_of, world_of, proof_frame, moved_to, write_moved, writes_moved, mask_by, mask_at, mask_moved, number_in}
use Rattle.run_sights.specs.Suppositions.{AllMove, AuditsOwn, SendsNoProof, IsProved, Covers}

-- what was spelled is read as exactly one frame
pub whole_spelled : (f : PlainFrame) → IsFrame f → whole (spelling f) ≡ Ok f
unfolding whole_of
whole_spelled f h =
    let e : decoded (spelling f) ≡ Ok (f, length (spelling f)) = ap decoded (sym (append-nil (spelling f))) ∙ decoded_again f [] h in
    rw (e, eq-eqb (length (spelling f)) (length (spelling f)) refl) refl

-- a mask that takes up what two shares of one size differ in
pub masks_take_up : (s t mask : List ℕ) → length s ≡ length t → length mask ≡ length s
    → xor_bytes s mask ≡ xor_bytes t (xor_bytes mask (xor_bytes s t))
masks_take_up s t mask same size =
    let sum : length (xor_bytes s mask) ≡ length t = length-xor_bytes s mask (sym size) ∙ same in
    sym (xor_bytes_zeros (xor_bytes s mask) (length t) sum)
    ∙ ap (xor_bytes (xor_bytes s mask)) (sym (xor_bytes_self t))
    ∙ sym (xor_bytes_assoc (xor_bytes s mask) t t)
    ∙ xor_bytes_comm (xor_bytes (xor_bytes s mask) t) t
    ∙ ap (xor_bytes t) (ap (λ x. xor_bytes x t) (xor_bytes_comm s mask) ∙ xor_bytes_assoc mask s t)

bytes_are_same : (xs : List ℕ) → bytes_eq xs xs ≡ true
bytes_are_same [] = refl
bytes_are_same (x ∷ xs) = rw (eq-eqb x x refl, bytes_are_same xs) refl

-- a write's own root and public part are its own
is_own_own : (viewer : ℕ) (v : HonestWrite) → is_own viewer v (public_part viewer v.choice v.aim) v.choice.other_root ≡ true
is_own_own viewer v =
    rw (bytes_are_same (public_part viewer v.choice v.aim), eq-eqb v.choice.other_root v.choice.other_root refl) refl

-- the shares of an honest write's proof, and of the moved one's
abbrev pub proofs_of : ℕ → Option HonestWrite → PlainAim → Option (ProofShare × ProofShare)
proofs_of viewer (Some w) aim =
    Some (other_share viewer w.choice w.aim w.game, other_share viewer (moved viewer w.choice w.aim aim w.game) aim w.game)
proofs_of viewer None aim = None

module _ (moves : MovedChoicesAreTwins) (stay : ChoicesStay) (viewer : ℕ) (is_server : viewer < 2) (width : ℕ) (spared : ℕ → Bool)
    (writes : Writes) (to : Aims) (fine : AllMove width spared writes to) where
  abbrev pub alike : twins.Aims
  alike = record { spared = spared; proofs = λ lane serial. proofs_of viewer (writes lane serial) (to lane serial) }

  abbrev pub two_at : (mask gone : List ℕ) → Two
  two_at mask gone = record { here = world_of viewer writes mask; there = world_of viewer (writes_moved viewer writes to) gone; aims = alike }

  module _ (lane serial : ℕ) where
    abbrev gone : HonestWrite → PlainChoice
    gone w = moved viewer w.choice w.aim (to lane serial) w.game

    -- the leaves of a choice are under its own root and public part
    own_leaves : (v : HonestWrite) (address : ℕ)
        → leaves_of viewer (Some v) (public_part viewer v.choice v.aim) v.choice.other_root address ≡ other_leaf viewer v.choice v.aim address
    own_leaves v address =
        ap (λ own. cond own (other_leaf viewer v.choice v.aim address) (leaf_of (public_part viewer v.choice v.aim) (1 - viewer) v.choice.other_root address))
        (is_own_own viewer v)

    twin_writes : (w : HonestWrite) → writes lane serial ≡ Some w
        → AreTwinWrites viewer w.choice (gone w) w.aim (to lane serial) w.game (leaves_of viewer (Some w)) (leaves_of viewer (write_moved viewer (Some w) (to lane serial)))
    twin_writes w is =
        let may = fine lane serial w is in
        moves width viewer w.choice w.aim (to lane serial) w.game is_server may.game may.choice may.from may.to may.masks
        (leaves_of viewer (Some w)) (leaves_of viewer (write_moved viewer (Some w) (to lane serial))) (own_leaves w) (own_leaves (moved_to viewer w (to lane serial)))

    same_leaves : (part : List ℕ) (root address : ℕ) → spared address ≡ true → (found : Option HonestWrite) → writes lane serial ≡ found
        → leaves_of viewer found part root address ≡ leaves_of viewer (write_moved viewer found (to lane serial)) part root address
    same_leaves part root address is None found = refl
    same_leaves part root address is (Some w) found =
        let at = twin_writes w found in
        let v = moved_to viewer w (to lane serial) in
        let other : leaves_of viewer (Some v) (public_part viewer w.choice w.aim) w.choice.other_root address ≡ other_leaf viewer v.choice v.aim address =
        ap (λ p. leaves_of viewer (Some v) p w.choice.other_root address) (sym at.part)
        ∙ ap (λ r. leaves_of viewer (Some v) (public_part viewer v.choice v.aim) r address) (sym at.root) ∙ own_leaves v address in
        let both : other_leaf viewer w.choice w.aim address ≡ other_leaf viewer v.choice v.aim address =
        sym (own_leaves w address) ∙ at.elsewhere address ((fine lane serial w found).missed address is) ∙ other in
        ap (λ leaf. cond (is_own viewer w part root) leaf (leaf_of part (1 - viewer) root address)) both
        ∙ ap (λ p. cond (bytes_eq part p && nat_eq root w.choice.other_root) (other_leaf viewer v.choice v.aim address) (leaf_of part (1 - viewer) root address)) (sym at.part)
        ∙ ap (λ r. cond (bytes_eq part (public_part viewer v.choice v.aim) && nat_eq root r) (other_leaf viewer v.choice v.aim address) (leaf_of part (1 - viewer) root address)) (sym at.root)

    -- what is audited of a write is the same
    pub same_values : (found : Option HonestWrite) → writes lane serial ≡ found → (held : Write) (addresses : List ℕ) (sigma : ℕ) (share other : ProofShare)
        → AuditsOwn viewer found held addresses sigma → SameProofs (proofs_of viewer found (to lane serial)) share other → (sent : Openings)
        → values_in (leaves_of viewer found) (1 - viewer) held addresses share sigma sent
        ≡ values_in (leaves_of viewer (write_moved viewer found (to lane serial))) (1 - viewer) held addresses other sigma sent
    unfolding values_in opens_in sums_in
    same_values None found held addresses sigma share other own proofs sent =
        ap (λ s. values_in (leaves_of viewer None) (1 - viewer) held addresses s sigma sent) proofs
    same_values (Some w) found held addresses sigma share other own proofs sent =
        at (leaves_of viewer (Some w)) share (other_share viewer w.choice w.aim w.game) proofs.0
        ∙ (twin_writes w found).values sent
        ∙ sym (at (leaves_of viewer (write_moved viewer (Some w) (to lane serial))) other (other_share viewer (gone w) (to lane serial) w.game) proofs.1)
      where
        values_by : Leaves → ℕ → List ℕ → List ℕ → List ℕ → ProofShare → ℕ → Values
        values_by leaf root part ckey list s point =
            values_in leaf (1 - viewer) (record { root = root; part = part; count = length w.game.addresses; ckey = ckey }) list s point sent

        at : (leaf : Leaves) (s t : ProofShare) → s ≡ t
            → values_by leaf held.root held.part held.ckey addresses s sigma
            ≡ values_by leaf w.choice.other_root (public_part viewer w.choice w.aim) w.game.ckey w.game.addresses t w.game.sigma
        at leaf s t same =
            ap (λ x. values_by leaf x held.part held.ckey addresses s sigma) own.root
            ∙ ap (λ x. values_by leaf w.choice.other_root x held.ckey addresses s sigma) own.part
            ∙ ap (λ x. values_by leaf w.choice.other_root (public_part viewer w.choice w.aim) x addresses s sigma) own.ckey
            ∙ ap (λ x. values_by leaf w.choice.other_root (public_part viewer w.choice w.aim) w.game.ckey x s sigma) own.counted
            ∙ ap (λ x. values_by leaf w.choice.other_root (public_part viewer w.choice w.aim) w.game.ckey w.game.addresses x sigma) same
            ∙ ap (λ x. values_by leaf w.choice.other_root (public_part viewer w.choice w.aim) w.game.ckey w.game.addresses t x) own.point

    -- both proofs are frames
    share_fits : (choice : PlainChoice) (aim : PlainAim) (w : HonestWrite) → writes lane serial ≡ Some w → IsChoice width choice → IsAim width w.game aim
        → IsProofShare (other_share viewer choice aim w.game)
    share_fits choice aim w is good aimed = share_in width viewer is_server choice aim w.game good aimed (fine lane serial w is).game (1 - viewer)

    frame_fits : IsProved writes lane serial → (w : HonestWrite) → IsProofShare (other_share viewer w.choice w.aim w.game) → IsFrame (proof_frame viewer lane serial w)
    frame_fits proved w share = record {
      lane = proved.low;
      serial = proved.few;
      addressed = proved.from_one;
      link = omega arith;
      linked = refl;
      body = share;
    }

    pub here_reads : IsProved writes lane serial → (w : HonestWrite) → writes lane serial ≡ Some w
        → whole (spelling (proof_frame viewer lane serial w)) ≡ Ok (proof_frame viewer lane serial w)
    here_reads proved w is =
        let may = fine lane serial w is in
        whole_spelled (proof_frame viewer lane serial w) (frame_fits proved w (share_fits w.choice w.aim w is may.choice may.from))

    pub there_reads : IsProved writes lane serial → (w : HonestWrite) → writes lane serial ≡ Some w
        → let v : HonestWrite = record w { choice = gone w; aim = to lane serial } in
        whole (spelling (proof_frame viewer lane serial v)) ≡ Ok (proof_frame viewer lane serial v)
    there_reads proved w is =
        let may = fine lane serial w is in
        let v : HonestWrite = record w { choice = gone w; aim = to lane serial } in
        let good = stay width viewer w.choice w.aim (to lane serial) w.game is_server may.game may.choice may.from may.to in
        whole_spelled (proof_frame viewer lane serial v) (frame_fits proved v (share_fits (gone w) (to lane serial) w is good may.to))

  pub same_elsewhere : (mask later : List ℕ) → SameElsewhere (two_at mask later)
  same_elsewhere mask later lane serial part root address is = same_leaves lane serial part root address is (writes lane serial) refl

  -- what is audited there is the moved write's own
  pub same_own : (lane serial : ℕ) (found : Option HonestWrite) → writes lane serial ≡ found → (held : Write) (addresses : List ℕ) (sigma : ℕ)
      → AuditsOwn viewer found held addresses sigma → AuditsOwn viewer (write_moved viewer found (to lane serial)) held addresses sigma
  same_own lane serial None found held addresses sigma own = tt
  same_own lane serial (Some w) found held addresses sigma own =
      let at = twin_writes lane serial w found in
      record { root = own.root ∙ sym at.root; part = own.part ∙ sym at.part; ckey = own.ckey; counted = own.counted; point = own.point }

  pub proved_there : (lane serial : ℕ) → IsProved writes lane serial → IsProved (writes_moved viewer writes to) lane serial
  proved_there lane serial proved = record {
    write = moved_to viewer proved.write (to lane serial);
    is = ap (λ found. write_moved viewer found (to lane serial)) proved.is;
    low = proved.low;
    from_one = proved.from_one;
    few = proved.few;
  }

  pub no_proof_there : (bytes : List ℕ) → SendsNoProof writes bytes → SendsNoProof (writes_moved viewer writes to) bytes
  no_proof_there bytes none f share is at = ap (λ found. write_moved viewer found (to f.lane f.serial)) (none f share is at)

-- ---- masks of boxes and their twins

taken_up : (mask s t : List ℕ) → length s ≡ length t → length mask ≡ length s → length (xor_bytes mask (xor_bytes s t)) ≡ length t
taken_up mask s t same size =
    length-xor_bytes mask (xor_bytes s t) (size ∙ sym (length-xor_bytes s t same)) ∙ size ∙ same

given_back : (mask s t : List ℕ) → length s ≡ length t → length mask ≡ length s
    → xor_bytes (xor_bytes mask (xor_bytes s t)) (xor_bytes t s) ≡ mask
given_back mask s t same size =
    xor_bytes_assoc mask (xor_bytes s t) (xor_bytes t s)
    ∙ ap (λ z. xor_bytes mask (xor_bytes (xor_bytes s t) z)) (xor_bytes_comm t s)
    ∙ ap (xor_bytes mask) (xor_bytes_self (xor_bytes s t))
    ∙ xor_bytes_zeros mask (length (xor_bytes s t)) (size ∙ sym (length-xor_bytes s t same))

kept_as_is : (mask s t : List ℕ) → s ≡ t → length mask ≡ length s → xor_bytes mask (xor_bytes s t) ≡ mask
kept_as_is mask s t same size =
    ap (λ z. xor_bytes mask (xor_bytes s z)) (sym same)
    ∙ ap (xor_bytes mask) (xor_bytes_self s) ∙ xor_bytes_zeros mask (length s) size

module _ (aims : twins.Aims) where
  abbrev CoversBox : Option Box → List ℕ → Type 0
  CoversBox found mask = (box : Box) → found ≡ Some box → length mask ≡ length box.share

  by_back : (found other : Option Box) → Both (TwinBoxes aims) found other → (mask : List ℕ) → CoversBox found mask
      → mask_by other found (mask_by found other mask) ≡ mask
  by_back (Some box) (Some twin) both mask covers = given_back mask box.share twin.share both.size (covers box refl)
  by_back None None both mask covers = refl
  by_back (Some box) None both mask covers = absurd both
  by_back None (Some twin) both mask covers = absurd both

  by_size : (found other : Option Box) → Both (TwinBoxes aims) found other → (mask : List ℕ) → CoversBox found mask
      → CoversBox other (mask_by found other mask)
  by_size (Some box) (Some twin) both mask covers x is =
      let same : twin ≡ x = cc is in
      taken_up mask box.share twin.share both.size (covers box refl) ∙ ap (λ (b : Box). length b.share) same
  by_size found None both mask covers x is = absurd (cc is)
  by_size None (Some twin) both mask covers x is = absurd both

  by_stay : (found other : Option Box) → Both (TwinBoxes aims) found other → (mask : List ℕ) → CoversBox found mask
      → (box : Box) → found ≡ Some box → aims.spared box.address ≡ true → mask_by found other mask ≡ mask
  by_stay (Some one) (Some twin) both mask covers box is spared =
      let same : one ≡ box = cc is in
      kept_as_is mask one.share twin.share (both.share (ap (λ (b : Box). aims.spared b.address) same ∙ spared)) (covers one refl)
  by_stay None None both mask covers box is spared = refl
  by_stay (Some one) None both mask covers box is spared = absurd both
  by_stay None (Some twin) both mask covers box is spared = absurd both

  module _ (here there : List Box) (zip : AllZip (TwinBoxes aims) here there) where
    at_back : (number : Option ℕ) (mask : List ℕ) → Covers here number mask → mask_at there here number (mask_at here there number mask) ≡ mask
    at_back None mask covers = refl
    at_back (Some n) mask covers = by_back (slice_get here n) (slice_get there n) (zip_get (TwinBoxes aims) here there n zip) mask covers

    pub at_size : (number : Option ℕ) (mask : List ℕ) → Covers here number mask → Covers there number (mask_at here there number mask)
    at_size None mask covers = tt
    at_size (Some n) mask covers = by_size (slice_get here n) (slice_get there n) (zip_get (TwinBoxes aims) here there n zip) mask covers

    pub at_stay : (number : Option ℕ) (mask : List ℕ) → Covers here number mask → (n : ℕ) (box : Box) → number ≡ Some n
        → slice_get here n ≡ Some box → aims.spared box.address ≡ true → mask_at here there number mask ≡ mask
    at_stay None mask covers n box at is spared = refl
    at_stay (Some m) mask covers n box at is spared =
        let same : m ≡ n = cc at in
        by_stay (slice_get here m) (slice_get there m) (zip_get (TwinBoxes aims) here there m zip) mask covers box (ap (slice_get here) same ∙ is) spared

    pub moved_back : (found : Option PlainFrame) (mask : List ℕ) → ((c : PlainFrame) → found ≡ Some c → Covers here (number_in c.body) mask)
        → mask_moved there here found (mask_moved here there found mask) ≡ mask
    moved_back None mask covers = refl
    moved_back (Some c) mask covers = at_back (number_in c.body) mask (covers c refl)
