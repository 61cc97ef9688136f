-- The gates, case by case.
use Rattle.std.proofs.Common.{◌≡◌, ◌≢◌, ℕ, ◌<◌, true, false, refl, sym, arith}
use Rattle.std.proofs.lemmas.Bool.{lt-ltb, le-ltb, eq-eqb, ne_eqb}
use Rattle.lane_table.specs.declared.row.Row.{Row}
use Rattle.lane_table.specs.declared.row.Want.{Want}
use Rattle.lane_table.specs.declared.row.Want.TheVariants.{Nothing, Register, Write, Read}
use Rattle.lane_table.specs.declared.gate.Gate.TheVariants.{New, Same, Stale, Phase}
use Rattle.lane_table.specs.Gates.{same_want, fits_want, opening_gate, closing_gate}

same : (a : Want) → same_want a a ≡ true
same Nothing = refl
same Register = refl
same Write = refl
same Read = refl

other : (a b : Want) → a ≢ b → same_want a b ≡ false
other Nothing Nothing apart = absurd (apart refl)
other Nothing Register apart = refl
other Nothing Write apart = refl
other Nothing Read apart = refl
other Register Nothing apart = refl
other Register Register apart = absurd (apart refl)
other Register Write apart = refl
other Register Read apart = refl
other Write Nothing apart = refl
other Write Register apart = refl
other Write Write apart = absurd (apart refl)
other Write Read apart = refl
other Read Nothing apart = refl
other Read Register apart = refl
other Read Write apart = refl
other Read Read apart = absurd (apart refl)

fits-same : (row : Row) (want : Want) → want ≡ row.want → Same ≡ fits_want row want
fits-same row want is = rw (is, same row.want) refl

fits-other : (row : Row) (want : Want) → want ≢ row.want → Phase row.phase ≡ fits_want row want
fits-other row want apart = rw (other want row.want apart) refl

pub opens-stale : (row : Row) (serial : ℕ) (want : Want) → serial < row.serial → Stale row.serial ≡ opening_gate row serial want
unfolding opening_gate
opens-stale row serial want less = rw (lt-ltb serial row.serial less) refl

pub opens-new : (row : Row) (serial : ℕ) (want : Want) → row.serial < serial → New ≡ opening_gate row serial want
unfolding opening_gate
opens-new row serial want more =
    rw (le-ltb serial row.serial (omega arith), ne_eqb serial row.serial (λ (e : serial ≡ row.serial). omega arith)) refl

pub opens-same : (row : Row) (serial : ℕ) (want : Want) → serial ≡ row.serial → want ≡ row.want → Same ≡ opening_gate row serial want
unfolding opening_gate
opens-same row serial want at is = rw (le-ltb serial row.serial (omega arith), eq-eqb serial row.serial at) (fits-same row want is)

pub opens-other : (row : Row) (serial : ℕ) (want : Want) → serial ≡ row.serial → want ≢ row.want → Phase row.phase ≡ opening_gate row serial want
unfolding opening_gate
opens-other row serial want at apart = rw (le-ltb serial row.serial (omega arith), eq-eqb serial row.serial at) (fits-other row want apart)

pub closes-stale : (row : Row) (serial : ℕ) → serial ≢ row.serial → Stale row.serial ≡ closing_gate row serial
unfolding closing_gate
closes-stale row serial apart = rw (ne_eqb serial row.serial apart) refl

pub closes-same : (row : Row) (serial : ℕ) → serial ≡ row.serial → row.want ≡ Write → Same ≡ closing_gate row serial
unfolding closing_gate
closes-same row serial at is = rw (eq-eqb serial row.serial at) (fits-same row Write (sym is))

pub closes-other : (row : Row) (serial : ℕ) → serial ≡ row.serial → row.want ≢ Write → Phase row.phase ≡ closing_gate row serial
unfolding closing_gate
closes-other row serial at apart = rw (eq-eqb serial row.serial at) (fits-other row Write (λ same. apart (sym same)))
