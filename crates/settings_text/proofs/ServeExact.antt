-- A server's settings are read exactly.
use Rattle.std.proofs.Common.{◌≡◌, ◌⊎◌, inl, inr, ℕ, Bool, true, false, cond, List, [], codes, Option, Some, None, Ok, refl, sym, ◌∙◌, ap, subst}
use Rattle.std.proofs.lemmas.Slice.Eq.{bytes_eq-Decides}
use Rattle.std.specs.Str.{bytes_eq}
use Rattle.toml.specs.Data as toml
use Rattle.toml.specs.Data.{Data, Members, as_str}
use Rattle.express_words.specs.Settled.{settled}
use Rattle.express_words.proofs.SettledLaws.{settings_settle, settled_numbers}
use Rattle.express_words.specs.declared.settings.Settings.{Settings}
use Rattle.express_words.specs.declared.role.Role.{Role}
use Rattle.express_words.specs.declared.role.Role.TheVariants.{Leader, Helper}
use Rattle.settings_text.specs.declared.serve.ServeSettings.{ServeSettings}
use Rattle.settings_text.specs.Keys.{◌>>=◌, needed}
use Rattle.settings_text.specs.Meanings.{Has, IsWrong, NoneIs, MeansNumber, MeansText, MeansWidth}
use Rattle.settings_text.specs.Serve.{role_of, role_in, peer_of, of_numbers, settings_of, serve_of}
use Rattle.settings_text.specs.ServeSpelling.{MeansRole, HasPeer, HasLimits, HasServe, FaultOfLimits, FaultOfServe}
use Rattle.settings_text.specs.Values.{number_in, width_in}
use Rattle.settings_text.proofs.ExactLaws.{IsExact, ReadsAs, and_so, and_then, as_well, done, needed_exact, not_both}
use Rattle.settings_text.proofs.MeaningLaws.{is_string, number_read, some_then, text_read, width_read}

-- one name more
pub if_named : {A : Type 0} (name word : List ℕ) (a b : A) (others : Option A) → cond (bytes_eq name word) (Some a) others ≡ Some b → ((name ≡ word) × (a ≡ b)) ⊎ (others ≡ Some b)
if_named {A} name word a b others h = at_test (bytes_eq name word) refl h
  where
    at_test : (t : Bool) → bytes_eq name word ≡ t → cond t (Some a) others ≡ Some b → ((name ≡ word) × (a ≡ b)) ⊎ (others ≡ Some b)
    at_test true e k = inl ((bytes_eq-Decides name word).0 e, cc)
    at_test false e k = inr k

pub named_string : (value : Data) (name word : List ℕ) → as_str value ≡ Some name → name ≡ word → value ≡ toml.string word
named_string value name word h same = is_string value name h ∙ ap toml.string same

role_found : (value : Data) (role : Role) → role_in value ≡ Some role → MeansRole role value
unfolding role_in
role_found value role h =
    let at = some_then role_of (as_str value) role h in
    at_leader at.0 at.1 (if_named at.0 (codes "leader") Leader role _ at.2)
  where
    at_helper : (name : List ℕ) → as_str value ≡ Some name → ((name ≡ codes "helper") × (Helper ≡ role)) ⊎ (None ≡ Some role) → MeansRole role value
    at_helper name there (inl is) = subst (λ r. MeansRole r value) is.1 (named_string value name (codes "helper") there is.0)
    at_helper name there (inr none) = cc

    at_leader : (name : List ℕ) → as_str value ≡ Some name
        → ((name ≡ codes "leader") × (Leader ≡ role)) ⊎ (cond (bytes_eq name (codes "helper")) (Some Helper) None ≡ Some role) → MeansRole role value
    at_leader name there (inl is) = subst (λ r. MeansRole r value) is.1 (named_string value name (codes "leader") there is.0)
    at_leader name there (inr other) = at_helper name there (if_named name (codes "helper") Helper role None other)

role_only : (value : Data) (role : Role) → MeansRole role value → role_in value ≡ Some role
unfolding role_in
role_only value Leader h = rw h refl
role_only value Helper h = rw h refl

role_read : ReadsAs role_in MeansRole
role_read = record { found = role_found; only = role_only }

-- ---- the peer

peer_exact : (role : Role) (keys : Members) → IsExact (peer_of role keys) (HasPeer role keys) (IsWrong (codes "peer") (HasPeer role keys))
unfolding peer_of
peer_exact Leader keys = needed_exact (codes "peer") as_str MeansText keys text_read
peer_exact Helper keys =
    as_well (Ok []) (λ peer. peer ≡ []) (HasPeer Helper keys) NoneIs (IsWrong (codes "peer") (HasPeer Helper keys))
    (λ peer h. h) (λ peer h. h) (λ named h. absurd h) (λ named h. h.1 [] refl) (done [])

-- ---- the limits

-- what their keys have, one after the other
abbrev pub LimitsChain : Members → Settings → Type 0
LimitsChain keys s =
    (width : ℕ) × Has (codes "width") (MeansWidth 16) keys width
    × ((boxes : ℕ) × Has (codes "boxes") (MeansNumber 1 4096) keys boxes
    × ((lanes : ℕ) × Has (codes "lanes") (MeansNumber 1 256) keys lanes
    × ((window : ℕ) × Has (codes "window") (MeansNumber 1 32) keys window
    × (settled width boxes lanes window ≡ Some s))))

limits_has : (keys : Members) (s : Settings) → LimitsChain keys s → HasLimits keys s
limits_has keys s (width, w, (boxes, b, (lanes, n, (window, i, is)))) =
    let are = settled_numbers width boxes lanes window s is in
    record {
      width = subst (Has (codes "width") (MeansWidth 16) keys) (sym are.0) w;
      boxes = subst (Has (codes "boxes") (MeansNumber 1 4096) keys) (sym are.1) b;
      lanes = subst (Has (codes "lanes") (MeansNumber 1 256) keys) (sym are.2) n;
      window = subst (Has (codes "window") (MeansNumber 1 32) keys) (sym are.3) i;
    }

has_limits : (keys : Members) (s : Settings) → HasLimits keys s → LimitsChain keys s
has_limits keys s h = (s.width, h.width, (s.boxes, h.boxes, (s.lanes, h.lanes, (s.window, h.window, settings_settle s))))

numbers_make : (r : Option Settings) (s : Settings) → of_numbers r ≡ Ok s → r ≡ Some s
numbers_make (Some t) s is = cc is
numbers_make None s is = cc is

settled_exact : (s : Settings) → IsExact (of_numbers (settled s.width s.boxes s.lanes s.window)) (λ t. settled s.width s.boxes s.lanes s.window ≡ Some t) NoneIs
settled_exact s = record {
  found = λ t h. numbers_make _ t h;
  only = λ t h. ap of_numbers h;
  bad = λ named h. not_both _ s named (ap of_numbers (settings_settle s)) h;
  only_bad = λ named h. absurd h;
}

limits_chain : (keys : Members) → IsExact (settings_of keys) (LimitsChain keys) (FaultOfLimits keys)
unfolding settings_of
limits_chain keys =
    and_so _ _ _ _ _ _ (needed_exact (codes "width") (width_in 16) (MeansWidth 16) keys (width_read 16)) (λ width w.
    and_so _ _ _ _ _ _ (needed_exact (codes "boxes") (number_in 1 4096) (MeansNumber 1 4096) keys (number_read 1 4096)) (λ boxes b.
    and_so _ _ _ _ _ _ (needed_exact (codes "lanes") (number_in 1 256) (MeansNumber 1 256) keys (number_read 1 256)) (λ lanes n.
    and_so _ _ _ _ _ _ (needed_exact (codes "window") (number_in 1 32) (MeansNumber 1 32) keys (number_read 1 32)) (λ window i.
    settled_exact (record {
      width = width;
      boxes = boxes;
      lanes = lanes;
      window = window;
      limits = ((w.2.0.1, w.2.0.2, w.2.1), (b.2.1, b.2.2), (n.2.1, n.2.2), (i.2.1, i.2.2));
    })))))

limits_exact : (keys : Members) → IsExact (settings_of keys) (HasLimits keys) (FaultOfLimits keys)
limits_exact keys =
    as_well (settings_of keys) (LimitsChain keys) (HasLimits keys) (FaultOfLimits keys) (FaultOfLimits keys) (limits_has keys) (has_limits keys) (λ named h. h) (λ named h. h) (limits_chain keys)

-- ---- all keys

abbrev pub Chain : Members → ServeSettings → Type 0
Chain keys s =
    (role : Role) × Has (codes "role") MeansRole keys role
    × ((listen : List ℕ) × Has (codes "listen") MeansText keys listen
    × ((peer : List ℕ) × HasPeer role keys peer
    × ((settings : Settings) × HasLimits keys settings
    × ((connections : ℕ) × Has (codes "connections") (MeansNumber 1 1000000) keys connections
    × (s ≡ record { role = role; listen = listen; peer = peer; settings = settings; connections = connections })))))

chain_has : (keys : Members) (s : ServeSettings) → Chain keys s → HasServe keys s
chain_has keys s (role, r, (listen, l, (peer, p, (settings, t, (connections, c, is))))) =
    subst (HasServe keys) (sym is) (record { role = r; listen = l; peer = p; limits = t; connections = c })

has_chain : (keys : Members) (s : ServeSettings) → HasServe keys s → Chain keys s
has_chain keys s h = (s.role, h.role, (s.listen, h.listen, (s.peer, h.peer, (s.settings, h.limits, (s.connections, h.connections, refl)))))

chain_exact : (keys : Members) → IsExact (serve_of keys) (Chain keys) (FaultOfServe keys)
unfolding serve_of
chain_exact keys =
    and_then _ _ _ _ _ _ (needed_exact (codes "role") role_in MeansRole keys role_read) (λ role.
    and_then _ _ _ _ _ _ (needed_exact (codes "listen") as_str MeansText keys text_read) (λ listen.
    and_then _ _ _ _ _ _ (peer_exact role keys) (λ peer.
    and_then _ _ _ _ _ _ (limits_exact keys) (λ settings.
    and_then _ _ _ _ _ _ (needed_exact (codes "connections") (number_in 1 1000000) (MeansNumber 1 1000000) keys (number_read 1 1000000)) (λ connections. done _)))))

pub serve_exact : (keys : Members) → IsExact (serve_of keys) (HasServe keys) (FaultOfServe keys)
serve_exact keys =
    as_well (serve_of keys) (Chain keys) (HasServe keys) (FaultOfServe keys) (FaultOfServe keys) (chain_has keys) (has_chain keys) (λ named h. h) (λ named h. h) (chain_exact keys)
