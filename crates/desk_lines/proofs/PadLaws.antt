-- Numbers in digits.
use Rattle.std.proofs.Common.{◌≡◌, ℕ, ◌-◌, ◌^◌, false, [], length, refl, arith, append-nil}
use Rattle.std.specs.Fmt.{decimal, char_count, padded_integral, format_spec}
use Rattle.desk_texts.specs.Days.{zero_filled}

-- what is printed of a number with zeros in front, to its width
pub pads : (width n : ℕ) → padded_integral (format_spec 32 0 4 width (2 ^ 64 - 1)) false [] (decimal n) ≡ zero_filled width n
unfolding padded_integral char_count
pads width n =
    let none : width - length (decimal n) - 0 - 0 ≡ width - length (decimal n) = omega arith in
    rw (none, append-nil (decimal n)) refl
