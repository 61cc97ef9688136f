-- Bytes that are no name with its addresses.
use Rattle.std.proofs.Common.{◌≡◌, ℕ, ◌*◌, ◌≤◌, ◌<◌, true, false, List, ◌∷◌, ◌++◌, Option, length, drop}
use Rattle.std.proofs.Common.{get_or, sym, ◌∙◌, ap, subst, arith}
use Rattle.std.specs.Prelude.{IfSome}
use Rattle.std.specs.Int.{w128, to_be_bytes}
use Rattle.std.specs.List.{flat_map}
use Rattle.std.proofs.Math.Seq.{drop-append_seam}
use Rattle.std.proofs.lemmas.List.{length-append}
use Rattle.desk_texts.specs.Days.{IsDay}
use Rattle.desk_texts.specs.declared.day.Day.{Day}
use Rattle.kept_ledger.specs.Notes.{AreAddresses, IsWanted, Wanted, named_bytes}
use Rattle.kept_ledger.specs.Names.{is_name}
use Rattle.kept_ledger.specs.Records.{IsNoNamed}
use Rattle.kept_ledger.proofs.AddressLaws.{flat_size}

count_is : (count : ℕ) (rest : List ℕ) (n : Wanted) → count ∷ rest ≡ named_bytes n → count ≡ length n.addresses
count_is count rest n is = ap (λ (l : List ℕ). get_or l 0 0) is

rest_is : (count : ℕ) (rest : List ℕ) (n : Wanted) → count ∷ rest ≡ named_bytes n → rest ≡ flat_map (to_be_bytes w128) n.addresses ++ n.name
rest_is count rest n is = ap (drop 1) is

pub none_zero : (count : ℕ) (rest : List ℕ) → count ≡ 0 → IsNoNamed (count ∷ rest)
none_zero count rest zero n named is = let here = count_is count rest n is in absurd (omega (arith, here, named.some))

pub none_many : (count : ℕ) (rest : List ℕ) → 64 < count → IsNoNamed (count ∷ rest)
none_many count rest many n named is = let here = count_is count rest n is in absurd (omega (arith, here, named.few))

pub none_short : (count : ℕ) (rest : List ℕ) → length rest < count * 16 → IsNoNamed (count ∷ rest)
none_short count rest short n named is =
    let here = count_is count rest n is in
    let size = flat_size n.addresses in
    let whole = ap length (rest_is count rest n is) ∙ length-append (flat_map (to_be_bytes w128) n.addresses) n.name in
    absurd (omega (arith, here, size, whole))

pub none_unnamed : (count : ℕ) (rest : List ℕ) → is_name (drop (count * 16) rest) ≡ false → IsNoNamed (count ∷ rest)
none_unnamed count rest unnamed n named is =
    let here = count_is count rest n is in
    let size = flat_size n.addresses in
    let used : length (flat_map (to_be_bytes w128) n.addresses) ≡ count * 16 = omega (arith, here, size) in
    let name : drop (count * 16) rest ≡ n.name =
    ap (λ (k : ℕ). drop k rest) (sym used)
    ∙ ap (drop (length (flat_map (to_be_bytes w128) n.addresses))) (rest_is count rest n is)
    ∙ drop-append_seam (flat_map (to_be_bytes w128) n.addresses) n.name in
    let no_name : is_name n.name ≡ false = subst (λ (l : List ℕ). is_name l ≡ false) name unnamed in
    let a_name = named.name in
    absurd (cc)

pub named_is : (count : ℕ) (rest front behind addresses name : List ℕ) (until : Option Day) → IfSome until IsDay → 1 ≤ count → count ≤ 64 → front ++ behind ≡ rest → length front ≡ count * 16
    → flat_map (to_be_bytes w128) addresses ≡ front → AreAddresses addresses → name ≡ behind → is_name behind ≡ true
    → IsWanted (record { name = name; addresses = addresses; until = until })
    × (count ∷ rest ≡ named_bytes (record { name = name; addresses = addresses; until = until }))
named_is count rest front behind addresses name until day some few split size spelled are is named =
    let flat = flat_size addresses in
    let long : length (flat_map (to_be_bytes w128) addresses) ≡ count * 16 = ap length spelled ∙ size in
    let many : length addresses ≡ count = omega (arith, flat, long) in
    let whole : rest ≡ flat_map (to_be_bytes w128) addresses ++ name = cc (split, spelled, is) in (
      record {
        name = subst (λ (l : List ℕ). is_name l ≡ true) (sym is) named;
        some = omega (arith, many, some);
        few = omega (arith, many, few);
        addresses = are;
        until = day;
      },
      ap (λ (k : ℕ). k ∷ rest) (sym many) ∙ ap (λ (l : List ℕ). length addresses ∷ l) whole,
    )
