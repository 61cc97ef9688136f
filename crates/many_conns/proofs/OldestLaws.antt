-- The connection of a door that has been waited for the longest.
use Rattle.std.proofs.Common.{◌≡◌, ℕ, ◌+◌, ◌<◌, ◌≤◌, List, length, take, true, All, refl, sym, ap, ◌∙◌, subst, get_or, arith}
use Rattle.std.proofs.lemmas.Option.{get_or_from_slice_get, slice_get-get_or}
use Rattle.std.specs.Prelude.{Option, Some, None, slice_get}
use Rattle.many_words.specs.declared.door.Door.{Door}
use Rattle.many_words.specs.declared.door.Door.TheVariants.{Clients}
use Rattle.many_conns.specs.Places.{Place, empty_place}
use Rattle.many_conns.specs.Hall.{IsSomeAt, IsOldestAmong, IsOldestOf}
use Rattle.many_conns.proofs.ListLaws.{all_more, one_more}
use Rattle.many_conns.proofs.PlaceLaws.{read_at}

-- among those before a place and that one it is still the one
pub still_oldest : (door : Door) (places : List Place) (place best : ℕ) (o : Option ℕ) (q x : Place) → o ≡ Some best
    → IsOldestOf door (take place places) places o → place < length places → q ≡ get_or places best q → x ≡ get_or places place x
    → q.since ≤ x.since → IsOldestAmong door (take (place + 1) places) places best
still_oldest door places place best o q x is so_far lt read_q read_x le =
    let so = subst (IsOldestOf door (take place places) places) is so_far in
    record {
      there = so.there;
      of = so.of;
      oldest = λ b got. one_more (λ p. p.door ≡ door → b.since ≤ p.since) places place x lt read_x
          (λ of. subst (λ k. k.since ≤ x.since) (read_q ∙ get_or_from_slice_get places best b q got) le) (so.oldest b got);
    }

-- that place has been waited for longer
pub now_oldest : (door : Door) (places : List Place) (place best : ℕ) (o : Option ℕ) (q x : Place) → o ≡ Some best
    → IsOldestOf door (take place places) places o → place < length places → IsSomeAt places place (λ p. p.door ≡ door)
    → q ≡ get_or places best q → x ≡ get_or places place x
    → x.since < q.since → IsOldestAmong door (take (place + 1) places) places place
now_oldest door places place best o q x is so_far lt through read_q read_x less =
    let so = subst (IsOldestOf door (take place places) places) is so_far in
    let all = so.oldest q (read_at places best q so.there read_q) in
    record {
      there = lt;
      of = through;
      oldest = λ b got. subst (λ k. All (λ p. p.door ≡ door → k.since ≤ p.since) (take (place + 1) places))
          (read_x ∙ get_or_from_slice_get places place b x got)
          (one_more (λ p. p.door ≡ door → x.since ≤ p.since) places place x lt read_x (λ of. omega arith)
          (λ k d in' of. omega (arith, less, all k d in' of)));
    }

-- it is the first of its door
pub first_oldest : (door : Door) (places : List Place) (place : ℕ) (o : Option ℕ) → o ≡ None
    → IsOldestOf door (take place places) places o → place < length places → IsSomeAt places place (λ p. p.door ≡ door)
    → IsOldestAmong door (take (place + 1) places) places place
first_oldest door places place o is so_far lt through =
    let none = subst (IsOldestOf door (take place places) places) is so_far in
    record {
      there = lt;
      of = through;
      oldest = λ b got. all_more (λ p. p.door ≡ door → b.since ≤ p.since) places place lt (λ k d in' of. absurd (none k d in' of))
          (λ p there of. subst (λ k. b.since ≤ k.since) (sym (get_or_from_slice_get places place b p got) ∙ get_or_from_slice_get places place p p there) (omega arith));
    }

-- a place of another door
pub skipped : (door : Door) (places : List Place) (place : ℕ) (o : Option ℕ) (x : Place) → (x.door ≡ door → ⊥) → place < length places
    → x ≡ get_or places place x → IsOldestOf door (take place places) places o → IsOldestOf door (take (place + 1) places) places o
skipped door places place None x other lt read none =
    one_more (λ p. p.door ≡ door → ⊥) places place x lt read other none
skipped door places place (Some best) x other lt read so =
    record {
      there = so.there;
      of = so.of;
      oldest = λ b got. one_more (λ p. p.door ≡ door → b.since ≤ p.since) places place x lt read (λ of. absurd (other of)) (so.oldest b got);
    }
