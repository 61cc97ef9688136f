-- How a region and the places of its blocks are stored: as the tuples of their fields.
use Rattle.std.specs.Prelude.{ℕ, List, Option, refl}
use Rattle.std.specs.Coded.{Coded, code_by, coded×, coded_ℕ, coded_list, coded_option}
use denote.RawPtr.{Ptr, coded_ptr}
use Rattle.block_region.specs.Region.{Place, Shelf, Shelves}

abbrev pub place_code : Coded Place
place_code =
    code_by (Ptr × (ℕ × ℕ)) (coded× coded_ptr (coded× coded_ℕ coded_ℕ)) (λ p. (p.home, (p.class, p.index)))
    (λ t. record { home = t.0; class = t.1.0; index = t.1.1 }) (λ _. refl)

abbrev pub shelf_code : Coded Shelf
shelf_code =
    code_by (ℕ × List (Option (List ℕ))) (coded× coded_ℕ (coded_list (coded_option (coded_list coded_ℕ))))
    (λ s. (s.size, s.blocks)) (λ t. record { size = t.0; blocks = t.1 }) (λ _. refl)

abbrev pub shelves_code : Coded Shelves
shelves_code =
    code_by (Ptr × List Shelf) (coded× coded_ptr (coded_list shelf_code)) (λ r. (r.home, r.classes))
    (λ t. record { home = t.0; classes = t.1 }) (λ _. refl)
