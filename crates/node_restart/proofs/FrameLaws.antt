-- Records tell the frames whose records they are.
use Rattle.std.proofs.Common.{◌≡◌, ◌⊎◌, inl, inr, ℕ, List, [], ◌∷◌, ◌++◌, map, refl, sym, ◌∙◌, ap, arith, Bool, true, false}
use Rattle.std.specs.Prelude.{is_ok}
use Rattle.frame_rules.specs.Whole.{whole}
use Rattle.node_restart.specs.declared.frames.Sender.{Sender}
use Rattle.node_restart.specs.declared.frames.Sender.TheVariants.{Client, Peer}
use Rattle.node_restart.specs.declared.opening.Opening.{Opening}
use Rattle.node_restart.specs.Openings.{IsOpening, opening_record}
use Rattle.node_restart.specs.Frames.{Handed, handed, sender_tag, frame_record, IsOneFrame, AllFrames, records_of, IsNoFrame, IsForeign}

decide : (b : Bool) → (b ≡ true) ⊎ (b ≡ true → ⊥)
decide true = inl refl
decide false = inr (λ is. cc)

pub one_or_not : (bytes : List ℕ) → IsOneFrame bytes ⊎ (IsOneFrame bytes → ⊥)
one_or_not bytes = decide (is_ok (whole bytes))

pub all_push : (frames : List Handed) (h : Handed) → AllFrames frames → IsOneFrame h.frame → AllFrames (frames ++ h ∷ [])
all_push [] h all one = (one, tt)
all_push (x ∷ frames) h all one = (all.0, all_push frames h all.1 one)

pub map_push : (frames : List Handed) (h : Handed) → map frame_record (frames ++ h ∷ []) ≡ map frame_record frames ++ frame_record h ∷ []
map_push [] h = refl
map_push (x ∷ frames) h = ap (λ (l : List (List ℕ)). frame_record x ∷ l) (map_push frames h)

pub records_push : (o : Opening) (frames : List Handed) (h : Handed) → records_of o (frames ++ h ∷ []) ≡ records_of o frames ++ frame_record h ∷ []
records_push o frames h = ap (λ (l : List (List ℕ)). opening_record o ∷ l) (map_push frames h)

one_tag : (a b : Sender) → sender_tag a ≡ sender_tag b → a ≡ b
one_tag Client Client is = refl
one_tag Client Peer is = absurd (omega arith)
one_tag Peer Client is = absurd (omega arith)
one_tag Peer Peer is = refl

pub one_frame : (a b : Handed) → frame_record a ≡ frame_record b → a ≡ b
one_frame a b is =
    let tags : sender_tag a.sender ≡ sender_tag b.sender = cc in
    let same : a.frame ≡ b.frame = cc in
    let senders = one_tag a.sender b.sender tags in
    ap (λ (s : Sender). handed s a.frame) senders ∙ ap (λ (f : List ℕ). handed b.sender f) same

pub one_list : (xs ys : List Handed) → map frame_record xs ≡ map frame_record ys → xs ≡ ys
one_list [] [] is = refl
one_list [] (y ∷ ys) is = absurd (cc)
one_list (x ∷ xs) [] is = absurd (cc)
one_list (x ∷ xs) (y ∷ ys) is =
    let heads : frame_record x ≡ frame_record y = cc in
    let tails : map frame_record xs ≡ map frame_record ys = cc in
    ap (λ (z : Handed). z ∷ xs) (one_frame x y heads) ∙ ap (λ (l : List Handed). y ∷ l) (one_list xs ys tails)

-- no record among those of frames is foreign
pub no_foreign : (before frames : List Handed) (r : List ℕ) (rest : List (List ℕ)) → AllFrames frames → IsNoFrame r → map frame_record before ++ r ∷ rest ≡ map frame_record frames → ⊥
no_foreign [] [] r rest all apart is = cc
no_foreign [] (x ∷ frames) r rest all apart is = let same : r ≡ frame_record x = cc in apart x all.0 same
no_foreign (b ∷ before) [] r rest all apart is = cc
no_foreign (b ∷ before) (x ∷ frames) r rest all apart is =
    let tails : map frame_record before ++ r ∷ rest ≡ map frame_record frames = cc in
    no_foreign before frames r rest all.1 apart tails

pub never_foreign : (n : ℕ) (o : Opening) (frames : List Handed) (records : List (List ℕ)) → IsOpening o → AllFrames frames → records ≡ records_of o frames → IsForeign n records → ⊥
never_foreign n o frames records is_opening all is (inl lacks) = lacks.1 o (map frame_record frames) is_opening is
never_foreign n o frames records is_opening all is (inr f) =
    let both : opening_record f.opening ∷ (map frame_record f.frames ++ f.foreign ∷ f.rest) ≡ opening_record o ∷ map frame_record frames = sym f.split ∙ is in
    let tails : map frame_record f.frames ++ f.foreign ∷ f.rest ≡ map frame_record frames = cc in
    no_foreign f.frames frames f.foreign f.rest all f.no_frame tails
