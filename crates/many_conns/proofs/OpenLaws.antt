-- The places as they are opened.
use Rattle.std.proofs.Common.{◌≡◌, ℕ, List, true, false, All, refl, sym, replicate}
use Rattle.std.proofs.lemmas.List.Elements.{All-append, All-cons, All-replicate}
use Rattle.std.specs.Prelude.{Option}
use Rattle.many_words.specs.declared.door.Door.{Door}
use Rattle.many_words.specs.declared.door.Door.TheVariants as door
use Rattle.many_conns.specs.declared.doors.Doors.{Doors}
use Rattle.many_conns.specs.declared.patience.Patience.{Patience}
use Rattle.many_conns.specs.Doors.{free_places, link_door}
use Rattle.many_conns.specs.Places.{Place, empty_place}
use Rattle.many_conns.specs.Hall.{IsLooked, IsInTime}
use Rattle.many_conns.proofs.PlaceLaws.{dead_in_time, closed_looked}

opened_all : (P : Place → Type 0) → ((door : Door) → P (empty_place door)) → (doors : Doors) → All P (free_places doors)
opened_all P each doors =
    All-cons P (empty_place (link_door doors.role)) _ (each (link_door doors.role))
    (All-append P (replicate doors.status (empty_place door.Status)) (replicate doors.clients (empty_place door.Clients))
    (All-replicate P doors.status (empty_place door.Status) (each door.Status))
    (All-replicate P doors.clients (empty_place door.Clients) (each door.Clients)))

pub opened_looked : (doors : Doors) → All IsLooked (free_places doors)
opened_looked doors = opened_all IsLooked (λ door. closed_looked (empty_place door) (empty_place door) refl) doors

pub opened_in_time : (whole : Door → List ℕ → Option ℕ) (patience : Patience) (now : ℕ) (doors : Doors)
    → All (IsInTime whole patience now) (free_places doors)
opened_in_time whole patience now doors =
    opened_all (IsInTime whole patience now) (λ door. dead_in_time whole patience now (empty_place door) refl) doors
