-- An honest write and its move.
use Rattle.std.specs.Prelude.{◌≡◌, ◌==◌, ◌&&◌, not, Bool, true, false, refl}
use Rattle.std.proofs.Common.{ap}
use Rattle.write_hiding.specs.declared.choice.View.{View}
use Rattle.write_hiding.specs.Choices.{PlainChoice}
use Rattle.write_hiding.specs.Views.{view}
use Rattle.write_hiding.specs.Moved.{moved}
use Rattle.write_hiding.specs.Laws.{ChoicesStay, ViewsStay, MovesReturn}
use Rattle.run_sights.specs.Histories.{HonestWrite}
use Rattle.run_sights.specs.WriteLaws.{WritesTellTheSame, WritesReturn}

pub writes_tell_the_same : ViewsStay → WritesTellTheSame
unfolding view moved
writes_tell_the_same views width spared viewer w other is_server may =
    let same : view viewer (moved viewer w.choice w.aim other w.game) other w.game ≡ view viewer w.choice w.aim w.game =
    views width viewer w.choice w.aim other w.game is_server may.game may.choice may.from may.to in
    record {
      root = refl;
      part = ap (λ (v : View). v.public) same;
      proof = ap (λ (v : View). v.proof) same;
      deposit = refl;
    }

both_ways : (p q : Bool) → (not p && not q) ≡ true → (not q && not p) ≡ true
both_ways false false e = refl
both_ways true q e = absurd (cc e)
both_ways false true e = absurd (cc e)

pub writes_return : ChoicesStay → MovesReturn → WritesReturn
writes_return stay back width spared viewer w other is_server may = (
  record {
    choice = stay width viewer w.choice w.aim other w.game is_server may.game may.choice may.from may.to;
    game = may.game;
    masks = may.masks;
    from = may.to;
    to = may.from;
    missed = λ address is. both_ways (address == w.aim.target) (address == other.target) (may.missed address is);
  },
  ap (λ (c : PlainChoice). with_choice c) (back width viewer w.choice w.aim other w.game is_server may.game may.choice may.from may.to),
)
  where
    with_choice : PlainChoice → HonestWrite
    with_choice c = record { choice = c; aim = w.aim; game = w.game }
