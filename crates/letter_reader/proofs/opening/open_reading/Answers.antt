use Rattle.std.proofs.Common.{◌≡◌, ◌<◌, ◌-◌, ℕ, List, ◌++◌, Bool, take, drop, length, refl, sym, ap, ◌∙◌}
use Rattle.std.proofs.Common.{subst}
use Rattle.std.specs.List.{All}
use Rattle.std.proofs.lemmas.List.Elements.{All-drop}
use Rattle.subset_search.specs.Subsets.{boxes_at, added, chosen_below, HasNone}
use Rattle.known_pieces.specs.Known.{Reading, most_tried}
use Rattle.known_pieces.specs.Telling.{KnownPiece, bytes_of, awaited_at, newest}
use Rattle.known_pieces.specs.Opening.{IsFound, IsMarked, AreMarked, IsAdmitted}
use Rattle.std.proofs.lemmas.Slice.Zip.{AllZip-long}
use Rattle.letter_reader.proofs.TriedLaws.{tried_are, opens_by, none_tried, refilled}
use Rattle.letter_reader.proofs.MarkLaws.{apart_after}
use Rattle.letter_reader.proofs.opening.open_reading.Goals as goal

pub returns-then-not-take_out-clause-tried : goal.returns-then-not-take_out-clause-tried
returns-then-not-take_out-clause-tried c =
    let known : List KnownPiece = c.args.known.now.items in
    let r : Reading = c.args.reading.now in
    let address_is : c.reading.inside.address ≡ r.address = ap (λ (x : Reading). x.address)
    c.reading.view_is in
    let bytes_is : c.reading.inside.bytes.now ≡ r.bytes = ap (λ (x : Reading). x.bytes) c.reading.view_is in
    let tried : List ℕ = c.newest-tried.result.now in
    let tried_is : tried ≡ newest c.in_ok-awaited.awaited.items = c.newest-tried.ensures.newest
    ∙ ap newest c.as_slice-2.ensures.value in
    let pieces : boxes_at (bytes_of known) c.in_ok-awaited.awaited.items ≡ awaited_at r.address known =
    rw (c.as_slice.ensures.value, address_is) at c.in_ok-awaited.ensures.pieces in
    let within : All (λ i. i < length known) c.in_ok-awaited.awaited.items =
    subst (λ (ks : List KnownPiece). All (λ i. i < length ks) c.in_ok-awaited.awaited.items)
    c.as_slice.ensures.value
    c.in_ok-awaited.ensures.known in
    let sum_is : c.as_mut_slice.result.now ≡ r.bytes = c.as_mut_slice.ensures.value
    ∙ c.in_ok-sum.ensures.items ∙ bytes_is in
    λ no. none_tried c.args.card.width r.address r.bytes known tried
    (tried_are known c.in_ok-awaited.awaited.items tried r.address tried_is pieces)
    (subst (All (λ i. i < length known)) (sym tried_is)
    (All-drop (λ i. i < length known) (length c.in_ok-awaited.awaited.items - most_tried)
    c.in_ok-awaited.awaited.items within))
    c.requires.apart.wide c.requires.wide
    (subst (λ (s : List ℕ). HasNone (IsFound (boxes_at (bytes_of known) tried)) s (boxes_at (bytes_of known)
    tried)) sum_is
    (subst (λ (ks : List KnownPiece). HasNone (IsFound (boxes_at (bytes_of ks) tried))
    c.as_mut_slice.result.now
    (boxes_at (bytes_of ks) tried)) c.as_slice-3.ensures.value (c.if-not-take_out.ensures.none refl)))

pub returns-clause-opens : goal.returns-clause-opens
returns-clause-opens c =
    let known : List KnownPiece = c.args.known.now.items in
    let r : Reading = c.args.reading.now in
    let address_is : c.reading.inside.address ≡ r.address = ap (λ (x : Reading). x.address)
    c.reading.view_is in
    let bytes_is : c.reading.inside.bytes.now ≡ r.bytes = ap (λ (x : Reading). x.bytes) c.reading.view_is in
    let tried : List ℕ = c.newest-tried.result.now in
    let tried_is : tried ≡ newest c.in_ok-awaited.awaited.items = c.newest-tried.ensures.newest
    ∙ ap newest c.as_slice-2.ensures.value in
    let pieces : boxes_at (bytes_of known) c.in_ok-awaited.awaited.items ≡ awaited_at r.address known =
    rw (c.as_slice.ensures.value, address_is) at c.in_ok-awaited.ensures.pieces in
    let sum_is : c.as_mut_slice.result.now ≡ r.bytes = c.as_mut_slice.ensures.value
    ∙ c.in_ok-sum.ensures.items ∙ bytes_is in
    let chosen : List Bool = c.take_out.new.chosen in
    let sum : List ℕ = c.take_out.new.sum in
    let found : IsFound (boxes_at (bytes_of known) tried) sum =
    subst (λ (ks : List KnownPiece). IsFound (boxes_at (bytes_of ks) tried) sum) c.as_slice-3.ensures.value
    (c.if-not-take_out.ensures.found refl) in
    let added_is : sum ≡ added r.bytes (chosen_below (length tried) (boxes_at (bytes_of known) tried)
    chosen) =
    subst (λ (s : List ℕ). sum ≡ added s (chosen_below (length tried) (boxes_at (bytes_of known) tried)
    chosen)) sum_is
    (subst (λ (ks : List KnownPiece). sum ≡ added c.as_mut_slice.result.now
    (chosen_below (length tried) (boxes_at (bytes_of ks) tried) chosen)) c.as_slice-3.ensures.value
    (c.if-not-take_out.ensures.added refl)) in
    let marks : AreMarked r.address (chosen_below (length tried) (boxes_at (bytes_of known) tried) chosen)
    known
    c.mark.new.known =
    subst (λ (ks : List KnownPiece). AreMarked r.address (chosen_below (length tried) (boxes_at (bytes_of
    ks) tried) chosen)
    ks c.mark.new.known) c.as_mut_slice-2.ensures.value
    (subst (λ a. AreMarked a (chosen_below (length tried) (boxes_at (bytes_of c.as_mut_slice-2.result.now)
    tried) chosen)
    c.as_mut_slice-2.result.now c.mark.new.known) address_is c.mark.ensures) in
    let known_is : take c.args.known.now.len (c.mark.new.known ++ drop (length c.mark.new.known) known) ≡
    c.mark.new.known =
    refilled c.args.known.now.len known c.mark.new.known
    (AllZip-long (IsMarked r.address (chosen_below (length tried) (boxes_at (bytes_of known) tried) chosen))
    known
    c.mark.new.known marks ∙ sym c.args.known.now.ok.0) in
    let out_is : take c.in_ok-sum.sum.len (sum ++ drop (length sum) c.in_ok-sum.sum.items) ≡ sum =
    refilled c.in_ok-sum.sum.len c.in_ok-sum.sum.items sum (c.if-not-take_out.ensures.length
    ∙ ap (λ (t : List ℕ). length t) c.as_mut_slice.ensures.value ∙ sym c.in_ok-sum.sum.ok.0) in
    let admits : IsAdmitted c.args.card.addresses r.address sum c.mark.new.known c.admit.new.known.items =
    subst (λ (ks : List KnownPiece). IsAdmitted c.args.card.addresses r.address sum ks
    c.admit.new.known.items) known_is
    (subst (λ (s : List ℕ). IsAdmitted c.args.card.addresses r.address s
    (take c.args.known.now.len (c.mark.new.known ++ drop (length c.mark.new.known) known))
    c.admit.new.known.items) out_is
    (subst (λ a. IsAdmitted c.args.card.addresses a
    (take c.in_ok-sum.sum.len (sum ++ drop (length sum) c.in_ok-sum.sum.items))
    (take c.args.known.now.len (c.mark.new.known ++ drop (length c.mark.new.known) known))
    c.admit.new.known.items)
    address_is c.in_ok-admit.ensures)) in
    λ yes. opens_by c.args.card.addresses r known c.mark.new.known c.admit.new.known.items tried chosen sum
    (tried_are known c.in_ok-awaited.awaited.items tried r.address tried_is pieces) c.requires.apart.once
    c.newest-tried.ensures.most added_is found marks admits

pub returns-clause-apart : goal.returns-clause-apart
returns-clause-apart c =
    let known : List KnownPiece = c.args.known.now.items in
    let tried : List ℕ = c.newest-tried.result.now in
    let bytes_is : c.reading.inside.bytes.now ≡ c.args.reading.now.bytes =
    ap (λ (x : Reading). x.bytes) c.reading.view_is in
    let sum_is : c.as_mut_slice.result.now ≡ c.args.reading.now.bytes =
    c.as_mut_slice.ensures.value ∙ c.in_ok-sum.ensures.items ∙ bytes_is in
    let marks : AreMarked c.reading.inside.address
    (chosen_below (length tried) (boxes_at (bytes_of known) tried) c.take_out.new.chosen) known
    c.mark.new.known =
    subst (λ (ks : List KnownPiece). AreMarked c.reading.inside.address
    (chosen_below (length tried) (boxes_at (bytes_of ks) tried) c.take_out.new.chosen)
    ks c.mark.new.known) c.as_mut_slice-2.ensures.value c.mark.ensures in
    let sum : List ℕ = c.take_out.new.sum in
    let known_is : take c.args.known.now.len (c.mark.new.known ++ drop (length c.mark.new.known) known) ≡
    c.mark.new.known =
    refilled c.args.known.now.len known c.mark.new.known
    (AllZip-long (IsMarked c.reading.inside.address
    (chosen_below (length tried) (boxes_at (bytes_of known) tried) c.take_out.new.chosen)) known
    c.mark.new.known marks ∙ sym c.args.known.now.ok.0) in
    let out_is : take c.in_ok-sum.sum.len (sum ++ drop (length sum) c.in_ok-sum.sum.items) ≡ sum =
    refilled c.in_ok-sum.sum.len c.in_ok-sum.sum.items sum (c.if-not-take_out.ensures.length
    ∙ ap (λ (t : List ℕ). length t) c.as_mut_slice.ensures.value ∙ sym c.in_ok-sum.sum.ok.0) in
    let admits : IsAdmitted c.args.card.addresses c.reading.inside.address sum c.mark.new.known
    c.admit.new.known.items =
    subst (λ (ks : List KnownPiece). IsAdmitted c.args.card.addresses c.reading.inside.address sum ks
    c.admit.new.known.items) known_is
    (subst (λ (s : List ℕ). IsAdmitted c.args.card.addresses c.reading.inside.address s
    (take c.args.known.now.len (c.mark.new.known ++ drop (length c.mark.new.known) known))
    c.admit.new.known.items) out_is
    c.in_ok-admit.ensures) in
    apart_after c.args.card.width c.args.card.addresses c.reading.inside.address
    (chosen_below (length tried) (boxes_at (bytes_of known) tried) c.take_out.new.chosen) sum known
    c.mark.new.known c.admit.new.known.items c.requires.apart marks admits
    (c.if-not-take_out.ensures.length ∙ ap (λ (t : List ℕ). length t) sum_is ∙ c.requires.wide)
