-- The parts of an opening's record.
use Rattle.std.specs.Prelude.{◌≡◌, ℕ, ◌<◌, ◌≤◌, ◌^◌, true, List, ◌++◌, length}
use Rattle.std.specs.Str.{is_utf8}
use Rattle.std.specs.Int.{w16, w32, to_be_bytes}
use Rattle.express_words.specs.Limits.{IsWidth}
use Rattle.kept_ledger.specs.declared.opening.Front.{Front}
use Rattle.kept_ledger.specs.declared.opening.RawOpening.{RawOpening}
use Rattle.kept_ledger.specs.Notes.{Opening}

-- what stands before the keys
abbrev pub front_bytes : Front → List ℕ
front_bytes f =
    to_be_bytes w32 f.first_serial ++ (f.seed ++ (to_be_bytes w32 f.width
    ++ (to_be_bytes w32 f.boxes ++ to_be_bytes w16 f.lane)))

abbrev pub front_of : Opening → Front
front_of o = record {
  first_serial = o.first_serial;
  seed = o.seed;
  width = o.pair.width;
  boxes = o.pair.boxes;
  lane = o.pair.lane;
}

pub record IsFront (f : Front) : Type 0 where
  pub serial : f.first_serial < 2 ^ 32
  pub seed : length f.seed ≡ 32
  pub width : f.width < 2 ^ 32
  pub boxes : f.boxes < 2 ^ 32
  pub lane : f.lane < 2 ^ 16

abbrev pub raw_opening : RawOpening → Opening
raw_opening r = record {
  pair = record {
    width = r.front.width;
    boxes = r.front.boxes;
    lane = r.front.lane;
    leader = record { place = r.leader.now; key = record { 0 = r.leader_key } };
    helper = record { place = r.helper.now; key = record { 0 = r.helper_key } };
  };
  seed = r.front.seed;
  first_serial = r.front.first_serial;
}

-- numbers and lengths that fit their bytes
pub record HasShape (o : Opening) : Type 0 where
  pub front : IsFront (front_of o)
  pub leader : length o.pair.leader.key.0 ≡ 16
  pub helper : length o.pair.helper.key.0 ≡ 16
  pub place : length o.pair.leader.place ≤ 255

pub record HasNumbers (o : Opening) : Type 0 where
  pub width : IsWidth o.pair.width
  pub some : 1 ≤ o.pair.boxes
  pub boxes : o.pair.boxes ≤ 4096
  pub serial : 1 ≤ o.first_serial
  pub place : length o.pair.helper.place ≤ 255

-- the places are texts
pub record HasTexts (o : Opening) : Type 0 where
  pub leader : is_utf8 o.pair.leader.place ≡ true
  pub helper : is_utf8 o.pair.helper.place ≡ true
