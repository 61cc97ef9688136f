-- The fields of a frame in the order of judging, and the first one that is wrong.
use Rattle.std.specs.Prelude.{◌≡◌, ◌⊎◌, ℕ, ◌+◌, ◌≤◌, List, [], ◌∷◌, length, take, drop, ◌==◌, if◌then◌else◌}
use Rattle.std.specs.Int.{Width, w8, w16, w32, w64, byte_len, from_be_bytes}
use Rattle.frame_rules.specs.declared.fault.FrameFault.{FrameFault}
use Rattle.frame_rules.specs.declared.fault.FrameFault.TheVariants as fault
use Rattle.frame_rules.specs.Sizes.{IsBodySize}

-- The tag is a refusal's number in kind 9. What a refusal makes of lane and serial, and a body of the length,
-- is judged behind the numbers that it goes by.
pub data Field : Type 0 where
  Length : Field
  Version : Field
  Kind : Field
  Serial : Field
  Link : Field
  Tag : Field
  ReplyRefusal : Field
  RefusedLane : Field
  RefusedSerial : Field
  BodyLength : Field

abbrev pub fields : List Field
fields =
    Length
    ∷ Version
    ∷ Kind
    ∷ Serial
    ∷ Link
    ∷ Tag
    ∷ ReplyRefusal
    ∷ RefusedLane
    ∷ RefusedSerial
    ∷ BodyLength
    ∷ []

-- ---- where each stands: its offset, and how many bytes it has

abbrev pub offset : Field → ℕ
offset Length = 0
offset Version = 4
offset Kind = 5
offset Serial = 8
offset Link = 12
offset Tag = 20
offset ReplyRefusal = 21
offset RefusedLane = 6
offset RefusedSerial = 8
offset BodyLength = 0

abbrev pub size : Field → ℕ
size Length = 4
size Version = 1
size Kind = 1
size Serial = 4
size Link = 8
size Tag = 1
size ReplyRefusal = 1
size RefusedLane = 2
size RefusedSerial = 4
size BodyLength = 4

-- all its bytes have come
abbrev pub HasCome : Field → List ℕ → Type 0
HasCome field bytes = offset field + size field ≤ length bytes

-- ---- what stands there

pub record Front : Type 0 where
  -- how many bytes follow the length
  pub follow : ℕ
  pub version : ℕ
  pub kind : ℕ
  pub lane : ℕ
  pub serial : ℕ
  pub link : ℕ
  pub tag : ℕ
  -- of a refusal in a reply
  pub number : ℕ

-- a big-endian number at a place
abbrev pub big_endian : Width → ℕ → List ℕ → ℕ
big_endian w place bytes = from_be_bytes w (take (byte_len w) (drop place bytes))

abbrev pub front : List ℕ → Front
front bytes =
    record {
      follow = big_endian w32 0 bytes;
      version = big_endian w8 4 bytes;
      kind = big_endian w8 5 bytes;
      lane = big_endian w16 6 bytes;
      serial = big_endian w32 8 bytes;
      link = big_endian w64 12 bytes;
      tag = big_endian w8 20 bytes;
      number = big_endian w8 21 bytes;
    }

-- ---- which fields a frame has, and where they are right

-- between the two servers
abbrev pub IsLinked : ℕ → Type 0
IsLinked kind = ((10 ≤ kind) × (kind ≤ 15)) ⊎ (kind ≡ 17) ⊎ (kind ≡ 18)

-- a kind's tags are 1 to this one; 0 where it has none
abbrev pub last_tag : ℕ → ℕ
last_tag kind =
    if kind == 1 then 3
    else if kind == 6 then 2
    else if kind == 8 then 3
    else if kind == 9 then 14
    else if kind == 15 then 7
    else 0

abbrev pub IsThere : Field → Front → Type 0
IsThere Tag f = 1 ≤ last_tag f.kind
IsThere ReplyRefusal f = (f.kind ≡ 15) × (f.tag ≡ 7) × (18 ≤ f.follow)
IsThere RefusedLane f = (f.kind ≡ 9) × (f.tag ≤ 2)
IsThere RefusedSerial f = f.kind ≡ 9
IsThere _ f = Unit {0}

abbrev pub IsRight : Field → Front → Type 0
IsRight Length f = (17 ≤ f.follow) × (f.follow ≤ 8209)
IsRight Version f = (f.version ≡ 1) ⊎ (f.version ≡ 2)
IsRight Kind f =
    ((f.version ≡ 1) × (1 ≤ f.kind) × (f.kind ≤ 15)) ⊎ ((f.version ≡ 2) × (16 ≤ f.kind) × (f.kind ≤ 18))
IsRight Serial f = (1 ≤ f.serial) ⊎ (f.kind ≡ 9)
IsRight Link f = (IsLinked f.kind × (1 ≤ f.link)) ⊎ ((IsLinked f.kind → ⊥) × (f.link ≡ 0))
IsRight Tag f = (1 ≤ f.tag) × (f.tag ≤ last_tag f.kind)
IsRight ReplyRefusal f = (f.number ≡ 3) ⊎ ((6 ≤ f.number) × (f.number ≤ 11))
IsRight RefusedLane f = f.lane ≡ 0
IsRight RefusedSerial f = ((f.tag ≤ 2) × (f.serial ≡ 0)) ⊎ ((3 ≤ f.tag) × (1 ≤ f.serial))
IsRight BodyLength f = (n : ℕ) × (f.follow ≡ 16 + n) × IsBodySize f.kind f.tag f.number n

-- ---- the first wrong one

-- a frame that hasn't this field, or has it, come and right
abbrev pub Passes : Field → List ℕ → Type 0
Passes field bytes = IsThere field (front bytes) → HasCome field bytes × IsRight field (front bytes)

abbrev pub IsWrong : Field → List ℕ → Type 0
IsWrong field bytes =
    IsThere field (front bytes) × HasCome field bytes × (IsRight field (front bytes) → ⊥)

-- what is said of a wrong field: of the version its value, of all others their offset
abbrev pub fault_of : Field → Front → FrameFault
fault_of Version f = fault.Version f.version
fault_of field f = fault.Malformed (offset field)

-- one of these fields is wrong, all before it pass, and this is its fault
unfoldable pub FirstWrong : List Field → List ℕ → FrameFault → Type 0
FirstWrong [] bytes d = ⊥
FirstWrong (field ∷ others) bytes d =
    (IsWrong field bytes × (d ≡ fault_of field (front bytes)))
    ⊎ (Passes field bytes × FirstWrong others bytes d)
