-- What a tunnel and its net tell follows what the net below and its connections tell.
use Rattle.std.proofs.Common.{◌≡◌, ◌≤◌, ℕ, ◌==◌, nat_le, if◌then◌else◌, Bool, true, false, List, [], ◌∷◌, ◌++◌, length, drop, Option, Some, None, Result, Ok, Err, refl, sym, ◌∙◌, ap, subst, arith, length-append}
use Rattle.std.proofs.lemmas.Bool.{leb-true, le-leb}
use Rattle.std.proofs.lemmas.List.{drop-append-le}
use Rattle.std.proofs.Math.Seq.{drop-length}
use Rattle.express_words.specs.Calls.{Call, Adds, AddsClose, GivesTelling}
use Rattle.express_words.specs.Calls as call
use Rattle.express_words.specs.Seen.{Seen}
use Rattle.express_words.specs.Streams.{Stream, Gave, Leaves, IsAtEnd, IsAtStart, IsBlank, Took, TookPrefix}
use Rattle.socks_proxy.specs.declared.net_log.Entry.{Entry}
use Rattle.socks_proxy.specs.declared.net_log.Entry.TheVariants.{Listened, Accepted, Dialled, Closed}
use Rattle.express_words.specs.declared.outside.Failed.{Failed}
use Rattle.socks_proxy.specs.Circuits.{said_for}
use Rattle.socks_proxy.specs.Dials.{Makes, ReachesOn, RefusedOn, IsOpened, DialsThrough, places_of}
use Rattle.socks_proxy.specs.Routes.{PlainTarget}
use Rattle.socks_proxy.specs.declared.proxied_net.ProxiedNet.{ProxiedNet}
use Rattle.socks_proxy.specs.declared.tunnel.Tunnel.{Tunnel}
use Rattle.socks_proxy.specs.Telling.{given_since, taken_since, close_of, call_of, in_front, all_calls, calls_over, WasTold, TellsBoth}

-- ---- a connection

fits_more : (k : ℕ) (old new bytes : List ℕ) → new ≡ old ++ bytes → nat_le k (length old) ≡ true → nat_le k (length new) ≡ true
fits_more k old new bytes is fits =
    let le : k ≤ length old = leb-true k (length old) fits in
    le-leb k (length new) (omega (arith, ap length is, length-append old bytes, le))

drop_more : (k : ℕ) (old new bytes : List ℕ) → new ≡ old ++ bytes → nat_le k (length old) ≡ true → drop k new ≡ drop k old ++ bytes
drop_more k old new bytes is fits = ap (drop k) is ∙ drop-append-le k old bytes (leb-true k (length old) fits)

gave_both : (b c : Bool) (old new : List ℕ) (left left_now : Option (List ℕ)) (bytes : List ℕ) → (b ≡ true → c ≡ true) → (b ≡ true → new ≡ old ++ bytes) → Leaves left left_now bytes
    → Gave (if b then Some (record { given = old; left = left }) else None) (if c then Some (record { given = new; left = left_now }) else None) bytes
gave_both true true old new left left_now bytes fits is leaves = (leaves, is refl)
gave_both true false old new left left_now bytes fits is leaves = absurd (let no = fits refl in cc)
gave_both false c old new left left_now bytes fits is leaves = tt

gave_some : (k : ℕ) (old new : Stream) (bytes : List ℕ) → Leaves old.left new.left bytes → new.given ≡ old.given ++ bytes
    → Gave (if nat_le k (length old.given) then Some (record { given = drop k old.given; left = old.left }) else None)
    (if nat_le k (length new.given) then Some (record { given = drop k new.given; left = new.left }) else None) bytes
gave_some k old new bytes left given =
    gave_both (nat_le k (length old.given)) (nat_le k (length new.given)) (drop k old.given) (drop k new.given) old.left new.left bytes
    (fits_more k old.given new.given bytes given) (drop_more k old.given new.given bytes given) left

pub gave_since : (was old new : Option Stream) (bytes : List ℕ) → Gave old new bytes → Gave (given_since was old) (given_since was new) bytes
gave_since None old new bytes h = tt
gave_since (Some was) None new bytes h = tt
gave_since (Some was) (Some old) None bytes h = absurd h
gave_since (Some was) (Some old) (Some new) bytes h = gave_some (length was.given) old new bytes h.0 h.1

took_both : (b c : Bool) (old new bytes : List ℕ) → (b ≡ true → c ≡ true) → (b ≡ true → new ≡ old ++ bytes)
    → Took (if b then Some old else None) (if c then Some new else None) bytes
took_both true true old new bytes fits is = is refl
took_both true false old new bytes fits is = absurd (let no = fits refl in cc)
took_both false c old new bytes fits is = tt

took_some : (k : ℕ) (old new bytes : List ℕ) → new ≡ old ++ bytes
    → Took (if nat_le k (length old) then Some (drop k old) else None) (if nat_le k (length new) then Some (drop k new) else None) bytes
took_some k old new bytes is =
    took_both (nat_le k (length old)) (nat_le k (length new)) (drop k old) (drop k new) bytes (fits_more k old new bytes is) (drop_more k old new bytes is)

pub took_since : (was old new : Option (List ℕ)) (bytes : List ℕ) → Took old new bytes → Took (taken_since was old) (taken_since was new) bytes
took_since None old new bytes h = tt
took_since (Some was) None new bytes h = tt
took_since (Some was) (Some old) None bytes h = absurd h
took_since (Some was) (Some old) (Some new) bytes h = took_some (length was) old new bytes h

pub prefix_since : (was old new : Option (List ℕ)) (bytes : List ℕ) → TookPrefix old new bytes → TookPrefix (taken_since was old) (taken_since was new) bytes
prefix_since was old new bytes h = (h.0, h.1, h.2, took_since was old new h.0 h.3)

end_some : (b : Bool) (k : ℕ) (now : Stream) → IsAtEnd (Some now) → IsAtEnd (if b then Some (record { given = drop k now.given; left = now.left }) else None)
end_some true k now h = h
end_some false k now h = tt

pub end_since : (was now : Option Stream) → IsAtEnd now → IsAtEnd (given_since was now)
end_since None now h = tt
end_since (Some was) None h = tt
end_since (Some was) (Some now) h = end_some (nat_le (length was.given) (length now.given)) (length was.given) now h

-- ---- what a net below told before

pub told_before : (a b : Option (List Call)) (x : Call) → Adds a b x → WasTold a b
told_before a None x h = tt
told_before None (Some b) x h = absurd h
told_before (Some a) (Some b) x h = tt

pub told_before_close : (a b : Option (List Call)) (s : Option Stream) (w : Option (List ℕ)) (faults : ℕ) → AddsClose a b s w faults → WasTold a b
told_before_close a None s w faults h = tt
told_before_close a (Some b) None w faults h = absurd h
told_before_close a (Some b) (Some s) None faults h = absurd h
told_before_close None (Some b) (Some s) (Some w) faults h = absurd h
told_before_close (Some a) (Some b) (Some s) (Some w) faults h = tt

-- ---- the net's own calls

abbrev pub joined : (x : Option Call) (xs : Option (List Call)) → Option (List Call)
joined x None = None
joined None (Some xs) = None
joined (Some x) (Some xs) = Some (xs ++ x ∷ [])

joined_front : (x y : Option Call) (xs : Option (List Call)) → in_front x (joined y xs) ≡ joined y (in_front x xs)
joined_front None y xs = refl
joined_front (Some x) y None = refl
joined_front (Some x) None (Some xs) = refl
joined_front (Some x) (Some y) (Some xs) = refl

one_alone : (x : Option Call) → in_front x (Some []) ≡ joined x (Some [])
one_alone None = refl
one_alone (Some x) = refl

calls_joined : {T : Type 0} (seen : T → Seen) (items : List (Entry × Option T)) (item : Entry × Option T)
    → all_calls seen (items ++ item ∷ []) ≡ joined (call_of seen item) (all_calls seen items)
calls_joined seen [] item = one_alone (call_of seen item)
calls_joined seen (one ∷ items) item =
    ap (in_front (call_of seen one)) (calls_joined seen items item) ∙ joined_front (call_of seen one) (call_of seen item) (all_calls seen items)

adds_joined : (xs : Option (List Call)) (x : Call) → Adds xs (joined (Some x) xs) x
adds_joined None x = tt
adds_joined (Some xs) x = refl

-- one call more of which the log has an entry
pub logged : {T : Type 0} (seen : T → Seen) (a b : Option (List Call)) (items : List (Entry × Option T)) (item : Entry × Option T) (x : Call)
    → WasTold a b → call_of seen item ≡ Some x → Adds (calls_over seen a items) (calls_over seen b (items ++ item ∷ [])) x
logged seen a None items item x was is = tt
logged seen None (Some b) items item x was is = absurd was
logged seen (Some a) (Some b) items item x was is =
    subst (λ (xs : Option (List Call)). Adds (all_calls seen items) xs x)
    (sym (calls_joined seen items item ∙ ap (λ (y : Option Call). joined y (all_calls seen items)) is)) (adds_joined (all_calls seen items) x)

close_joined : (xs : Option (List Call)) (s : Option Stream) (w : Option (List ℕ)) (faults : ℕ) → AddsClose xs (joined (close_of s w faults) xs) s w faults
close_joined None s w faults = tt
close_joined (Some xs) None w faults = tt
close_joined (Some xs) (Some s) None faults = tt
close_joined (Some xs) (Some s) (Some w) faults = refl

-- a close more
pub logged_close : {T : Type 0} (seen : T → Seen) (a b : Option (List Call)) (items : List (Entry × Option T)) (conn : T)
    → WasTold a b → AddsClose (calls_over seen a items) (calls_over seen b (items ++ (Closed, Some conn) ∷ [])) (seen conn).content (seen conn).written (seen conn).faults
logged_close seen a None items conn was = tt
logged_close seen None (Some b) items conn was = absurd was
logged_close seen (Some a) (Some b) items conn was =
    subst (λ (xs : Option (List Call)). AddsClose (all_calls seen items) xs (seen conn).content (seen conn).written (seen conn).faults)
    (sym (calls_joined seen items (Closed, Some conn))) (close_joined (all_calls seen items) (seen conn).content (seen conn).written (seen conn).faults)

-- the same, of a log that was noted so
pub logged_so : (T : Type 0) (seen : T → Seen) (a b now : Option (List Call)) (items items_now : List (Entry × Option T)) (item : Entry × Option T) (x : Call)
    → WasTold a b → now ≡ b → items_now ≡ items ++ item ∷ [] → call_of seen item ≡ Some x → Adds (calls_over seen a items) (calls_over seen now items_now) x
logged_so T seen a b now items items_now item x was same noted is =
    subst (λ (n : Option (List Call)). Adds (calls_over seen a items) (calls_over seen n items_now) x) (sym same)
    (subst (λ (l : List (Entry × Option T)). Adds (calls_over seen a items) (calls_over seen b l) x) (sym noted) (logged seen a b items item x was is))

pub closed_so : (T : Type 0) (seen : T → Seen) (a b : Option (List Call)) (items items_now : List (Entry × Option T)) (conn : T)
    → WasTold a b → items_now ≡ items ++ (Closed, Some conn) ∷ []
    → AddsClose (calls_over seen a items) (calls_over seen b items_now) (seen conn).content (seen conn).written (seen conn).faults
closed_so T seen a b items items_now conn was noted =
    subst (λ (l : List (Entry × Option T)). AddsClose (calls_over seen a items) (calls_over seen b l) (seen conn).content (seen conn).written (seen conn).faults) (sym noted)
    (logged_close seen a b items conn was)

-- the same dial, with a connection for its user and the log noted
pub through_tunnel : (N L C : Type 0) (seen : N → Seen) (conn_seen : C → Seen) (old mid new : ProxiedNet N L) (to : PlainTarget) (conn : C) (tunnel : Tunnel C)
    → tunnel.below ≡ conn → new.below ≡ mid.below → new.number ≡ mid.number → (let given : Result C Failed = Ok conn in DialsThrough seen conn_seen old mid to given)
    → (let given : Result (Tunnel C) Failed = Ok tunnel in DialsThrough seen (λ t. conn_seen t.below) old new to given)
through_tunnel N L C seen conn_seen old mid new to conn tunnel under below number through =
    let calls : (seen new.below).calls ≡ (seen mid.below).calls = ap (λ (n : N). (seen n).calls) below in
    record {
      opens = record {
        reached = subst (λ (b : Option (List Call)). ReachesOn (places_of old.proxy) (seen old.below).calls b) (sym calls) through.opens.reached;
        opened = subst (λ (b : Option (List Call)). IsOpened b (conn_seen tunnel.below) (said_for old.drawn old.number to)) (sym calls)
            (subst (λ (k : C). IsOpened (seen mid.below).calls (conn_seen k) (said_for old.drawn old.number to)) (sym under) through.opens.opened);
        refused = tt;
      };
      names = number ∙ through.names;
      spent = λ none. absurd (let no = (through.spent none).0 in cc);
    }

pub through_refused : (N L C D : Type 0) (seen : N → Seen) (conn_seen : C → Seen) (shown : D → Seen) (old mid new : ProxiedNet N L) (to : PlainTarget) (why : Failed)
    → new.below ≡ mid.below → new.number ≡ mid.number → (let given : Result C Failed = Err why in DialsThrough seen conn_seen old mid to given)
    → (let given : Result D Failed = Err why in DialsThrough seen shown old new to given)
through_refused N L C D seen conn_seen shown old mid new to why below number through =
    let calls : (seen new.below).calls ≡ (seen mid.below).calls = ap (λ (n : N). (seen n).calls) below in
    record {
      opens = record {
        reached = tt;
        opened = tt;
        refused = subst (λ (b : Option (List Call)). RefusedOn (places_of old.proxy) (said_for old.drawn old.number to) (seen old.below).calls b) (sym calls) through.opens.refused;
      };
      names = number ∙ through.names;
      spent = λ none. ((through.spent none).0, below ∙ (through.spent none).1);
    }

pub same_listened : (T : Type 0) (seen : T → Seen) (closed : Option T) (said at : List ℕ) (failed answer : Bool) → said ≡ at → failed ≡ answer
    → call_of seen (Listened said failed, closed) ≡ Some (call.Listened at answer)
same_listened T seen closed said at failed answer one two = ap (λ l. Some (call.Listened l failed)) one ∙ ap (λ b. Some (call.Listened at b)) two

pub same_dialled : (T : Type 0) (seen : T → Seen) (closed : Option T) (said at : List ℕ) (failed answer : Bool) → said ≡ at → failed ≡ answer
    → call_of seen (Dialled said failed, closed) ≡ Some (call.Dialled at answer)
same_dialled T seen closed said at failed answer one two = ap (λ l. Some (call.Dialled l failed)) one ∙ ap (λ b. Some (call.Dialled at b)) two
