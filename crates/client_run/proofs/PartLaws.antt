-- The requests of a job, one after another.
use Rattle.std.proofs.Common.{◌≡◌, ℕ, ◌+◌, List, [], ◌∷◌, ◌++◌, ◌-◌, ◌≤◌, length, take, drop, replicate, map, sym, ap, subst, ◌∙◌, append-nil, arith}
use Rattle.std.specs.Prelude.{All, slice_index}
use Rattle.std.specs.List.{range_with_len}
use Rattle.std.proofs.Math.ListN.{drop_of_length-le}
use Rattle.std.proofs.lemmas.List.{take_all, length-append, length-replicate}
use Rattle.std.proofs.lemmas.List.Elements.{All-map}
use Rattle.std.proofs.lemmas.List.FromFn.{map-range_with_len_more, length-map-range_with_len}
use Rattle.file_carry.specs.Parts.{count_of, header, filled, content_of, part_of}
use Rattle.file_carry.proofs.CutLaws.{content_length}
use Rattle.node_client.specs.Work.{Fits}
use Rattle.settings_text.specs.declared.carry.CarryJob.{CarryJob}
use Rattle.settings_text.specs.declared.carry.CarryJob.TheVariants.{Send, Fetch}
use Rattle.settings_text.specs.declared.owned.OwnedBox.{OwnedBox}
use Rattle.settings_text.specs.declared.requests.Asking.{Asking}
use Rattle.settings_text.specs.declared.requests.Asking.TheVariants.{Write, Read}
use Rattle.client_run.specs.Accounts.{request_of}
use Rattle.client_run.specs.Carrying.{askings_of}

pub one_more : (ask : ℕ → Asking) (before after : List Asking) (number : ℕ) (asking : Asking) → asking ≡ ask number → after ≡ before ++ asking ∷ []
    → before ≡ map ask (range_with_len 0 number) → after ≡ map ask (range_with_len 0 (number + 1))
one_more ask before after number asking is more so_far =
    more ∙ ap (λ (x : List Asking). x ++ asking ∷ []) so_far ∙ ap (λ (x : Asking). map ask (range_with_len 0 number) ++ x ∷ []) is
    ∙ sym (map-range_with_len_more ask 0 number number (omega arith))

-- a fetch asks for each own box
pub fetch_count : (width n : ℕ) (owned : List OwnedBox) (job : CarryJob) → job ≡ Fetch → n ≤ length (askings_of width owned job) → n ≤ length owned
fetch_count width n owned job is few =
    let fetched : n ≤ length (askings_of width owned Fetch) = subst (λ (j : CarryJob). n ≤ length (askings_of width owned j)) is few in
    omega (arith, fetched, length-map-range_with_len (λ (own : ℕ). Read own) 0 (length owned))

-- ---- the bytes of a part

pub part_is : (len : ℕ) (part out room bytes : List ℕ) → part ≡ take len (out ++ drop (length out) room) → length room ≡ len → length out ≡ len → out ≡ bytes → part ≡ bytes
part_is len part out room bytes is size same made =
    let rest : drop (length out) room ≡ [] = drop_of_length-le room (omega (arith, size, same)) in
    is ∙ ap (λ (x : List ℕ). take len (out ++ x)) rest ∙ ap (take len) (append-nil out) ∙ take_all len out (omega (arith, same)) ∙ made

part_size : (file : List ℕ) (id width index : ℕ) → 16 ≤ width → length (part_of file id width index) ≡ width
unfolding part_of
part_size file id width index h =
    let room : ℕ = width - 16 in
    let content : List ℕ = content_of file room index in
    let fits : length content ≤ room = omega (arith, content_length file room index) in
    let len : length (filled room content) ≡ room =
    omega (arith, length-append content (replicate (room - length content) 0), length-replicate {A = ℕ} (room - length content) 0) in
    omega (arith, len, length-append (header id index (count_of (length file) room) (length content)) (filled room content))

pub job_fits : (width : ℕ) (owned : List OwnedBox) (job : CarryJob) → 16 ≤ width → All (λ a. Fits width (request_of a)) (askings_of width owned job)
job_fits width owned (Send id file addresses) least =
    All-map (λ (a : Asking). Fits width (request_of a)) (λ (i : ℕ). Write (slice_index addresses i) (part_of file id width i)) (range_with_len 0 (length addresses))
    (λ k d less. part_size file id width _ least)
job_fits width owned Fetch least =
    All-map (λ (a : Asking). Fits width (request_of a)) (λ (own : ℕ). Read own) (range_with_len 0 (length owned)) (λ k d less. tt)
