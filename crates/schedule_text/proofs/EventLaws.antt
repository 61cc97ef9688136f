-- A line is an event exactly where it spells one.
use Rattle.std.proofs.Common.{◌≡◌, ℕ, zero, suc, ◌-◌, ◌/◌, ◌<◌, ◌≤◌, ◌^◌, nat_le, ◌&&◌, Bool, true, false, cond, List, [], ◌∷◌, ◌++◌, Some, None, option_map, Result, Ok, Err, codes, length, arith, refl, ◌∙◌, ap, subst}
use Rattle.std.specs.Fmt.{decimal}
use Rattle.std.specs.Result.{result_ok}
use Rattle.std.proofs.lemmas.Bool.{le-leb, leb-true}
use Rattle.hex.specs.Hex.{decode_of}
use Rattle.hex.proofs.HexLemmas.{decode_of-ok}
use Rattle.frame_rules.specs.declared.frame.TheConstants.{FRAME_MAX}
use Rattle.express_words.specs.declared.settings.Settings.{Settings}
use Rattle.schedule_text.specs.declared.schedule.Asked.{Asked}
use Rattle.schedule_text.specs.declared.schedule.Event.{Event}
use Rattle.schedule_text.specs.declared.schedule.Event.TheVariants.{Ask, Send, Tick, Deliver, Show, Finish, Inject}
use Rattle.express_texts.specs.LineFields.{after, end}
use Rattle.express_texts.specs.Numbers.{number_at}
use Rattle.express_texts.proofs.FieldLaws.{bind_some, map_some, after_found, after_only}
use Rattle.express_texts.proofs.NumberLaws.{number_found, number_only, last_only}
use Rattle.schedule_text.specs.Fields.{server_at, bytes_of}
use Rattle.schedule_text.specs.Grammar.{asked_of, asker_of, ask_of, numbered, send_of, tick_of, deliver_of, show_of, finish_of, plain_event_of, injected_in, inject_of, event_of}
use Rattle.schedule_text.specs.Spelling.{SpellsAsked, SpellsEvent, server_letter}
use Rattle.schedule_text.proofs.AskedLaws.{word_number_found, either_of, asked_found, asked_only}

-- what asker_of finds
asker_found : (settings : Settings) (line : List ℕ) (found : ℕ × List ℕ) → 0 < settings.lanes
    → settings.lanes < 2 ^ 16 → asker_of settings line ≡ Some found
    → (found.0 < settings.lanes) × (line ≡ codes "ask " ++ (decimal found.0 ++ (codes " " ++ found.1)))
unfolding asker_of
asker_found settings line found some small k =
    let a = bind_some (after (codes "ask ") line) _ found k in
    let b = bind_some (number_at 0 (settings.lanes - 1) a.0) _ found a.2 in
    let d = bind_some (after (codes " ") b.0.1) _ found b.2 in
    let n = number_found 0 (settings.lanes - 1) a.0 b.0 (omega arith) b.1 in
    let is : (b.0.0, d.0) ≡ found = some_is _ _ d.2 in
    let line_is : line ≡ codes "ask " ++ (decimal b.0.0 ++ (codes " " ++ d.0)) =
    after_found (codes "ask ") line a.0 a.1
    ∙ ap (λ r. codes "ask " ++ r) (n.text
    ∙ ap (λ r. decimal b.0.0 ++ r) (after_found (codes " ") b.0.1 d.0 d.1)) in
    subst (λ (x : ℕ × List ℕ). (x.0 < settings.lanes)
    × (line ≡ codes "ask " ++ (decimal x.0 ++ (codes " " ++ x.1)))) is
    (omega (arith, n.at_most, some), line_is)
  where
    some_is : (x y : ℕ × List ℕ) → Some x ≡ Some y → x ≡ y
    some_is x y h = cc

asker_only : (settings : Settings) (client : ℕ) (text : List ℕ) → settings.lanes < 2 ^ 16
    → client < settings.lanes
    → asker_of settings (codes "ask " ++ (decimal client ++ (codes " " ++ text))) ≡ Some (client, text)
unfolding asker_of
asker_only settings client text small h =
    rw (
      after_only (codes "ask ") (decimal client ++ (codes " " ++ text)),
      number_only 0 (settings.lanes - 1) client (codes " " ++ text) (omega arith) (omega arith)
          (omega arith) refl,
      after_only (codes " ") text,
    ) refl

ask_found : (settings : Settings) (line : List ℕ) (event : Event) → 0 < settings.lanes
    → settings.lanes < 2 ^ 16 → ask_of settings line ≡ Some event → SpellsEvent settings event line
unfolding ask_of
ask_found settings line event some small k =
    let c = bind_some (asker_of settings line) (λ c. option_map (Ask c.0) (asked_of settings c.1)) event k in
    let m = map_some (Ask c.0.0) (asked_of settings c.0.1) event c.2 in
    let f = asker_found settings line c.0 some small c.1 in
    subst (λ (x : Event). SpellsEvent settings x line) m.2
    (f.0, (c.0.1, asked_found settings c.0.1 m.0 m.1, f.1))

send_found : (settings : Settings) (line : List ℕ) (event : Event) → 0 < settings.lanes
    → settings.lanes < 2 ^ 16 → send_of settings line ≡ Some event → SpellsEvent settings event line
unfolding numbered
send_found settings line event some small k =
    let n = word_number_found (codes "send ") (settings.lanes - 1) Send line event (omega arith) k in
    subst (λ (x : Event). SpellsEvent settings x line) n.3 (omega (arith, n.1, some), n.2)

finish_found : (settings : Settings) (line : List ℕ) (event : Event) → 0 < settings.lanes
    → settings.lanes < 2 ^ 16 → finish_of settings line ≡ Some event → SpellsEvent settings event line
unfolding numbered
finish_found settings line event some small k =
    let n = word_number_found (codes "finish ") (settings.lanes - 1) Finish line event (omega arith) k in
    subst (λ (x : Event). SpellsEvent settings x line) n.3 (omega (arith, n.1, some), n.2)

deliver_found : (settings : Settings) (line : List ℕ) (event : Event) → deliver_of line ≡ Some event
    → SpellsEvent settings event line
unfolding numbered
deliver_found settings line event k =
    let n = word_number_found (codes "deliver ") 4294967295 Deliver line event (omega arith) k in
    subst (λ (x : Event). SpellsEvent settings x line) n.3 (omega (arith, n.1), n.2)

show_found : (settings : Settings) (line : List ℕ) (event : Event) → show_of line ≡ Some event
    → SpellsEvent settings event line
unfolding numbered
show_found settings line event k =
    let n = word_number_found (codes "show ") 4294967295 Show line event (omega arith) k in
    subst (λ (x : Event). SpellsEvent settings x line) n.3 (omega (arith, n.1), n.2)

ended : (rest : List ℕ) (u : Unit {0}) → end rest ≡ Some u → rest ≡ []
ended [] u h = refl
ended (b ∷ rest) u h = cc

tick_found : (settings : Settings) (line : List ℕ) (event : Event) → tick_of line ≡ Some event
    → SpellsEvent settings event line
unfolding tick_of
tick_found settings line event k =
    let a = bind_some (after (codes "tick") line) _ event k in
    let b = bind_some (end a.0) (λ u. Some Tick) event a.2 in
    let e : Tick ≡ event = cc in
    subst (λ (x : Event). SpellsEvent settings x line) e
    (after_found (codes "tick") line a.0 a.1 ∙ ap (λ r. codes "tick" ++ r) (ended a.0 b.0 b.1))

bytes_found : (digits bytes : List ℕ) → bytes_of digits ≡ Some bytes
    → (decode_of digits ≡ Ok bytes) × (1 ≤ length bytes) × (length bytes ≤ FRAME_MAX)
unfolding bytes_of
bytes_found digits bytes h =
    at_test (nat_le 1 (length digits / 2)) (nat_le (length digits / 2) FRAME_MAX) refl refl h
  where
    at_read : (r : Result (List ℕ) _) → decode_of digits ≡ r → result_ok r ≡ Some bytes
        → decode_of digits ≡ Ok bytes
    at_read (Ok others) e k = cc
    at_read (Err f) e k = cc

    at_test : (t u : Bool) → nat_le 1 (length digits / 2) ≡ t → nat_le (length digits / 2) FRAME_MAX ≡ u
        → cond (t && u) (result_ok (decode_of digits)) None ≡ Some bytes
        → (decode_of digits ≡ Ok bytes) × (1 ≤ length bytes) × (length bytes ≤ FRAME_MAX)
    at_test true true e f k =
        let decoded = at_read (decode_of digits) refl k in
        let twice = (decode_of-ok digits bytes decoded).2 in
        let least = leb-true _ _ e in
        let most = leb-true _ _ f in
        (decoded, omega (arith, twice, least), omega (arith, twice, most))
    at_test true false e f k = cc
    at_test false u e f k = cc

bytes_only : (digits bytes : List ℕ) → decode_of digits ≡ Ok bytes → 1 ≤ length bytes
    → length bytes ≤ FRAME_MAX → bytes_of digits ≡ Some bytes
unfolding bytes_of
bytes_only digits bytes decoded some most =
    let twice = (decode_of-ok digits bytes decoded).2 in
    let least : nat_le 1 (length digits / 2) ≡ true = le-leb _ _ (omega (arith, twice, some)) in
    let greatest : nat_le (length digits / 2) FRAME_MAX ≡ true = le-leb _ _ (omega (arith, twice, most)) in
    rw (least, greatest, decoded) refl

server_found : (text : List ℕ) (found : ℕ × List ℕ) → server_at text ≡ Some found
    → (found.0 ≤ 1) × (text ≡ server_letter found.0 ++ (codes " " ++ found.1))
unfolding server_at
server_found text found h =
    either_of (λ (x : ℕ × List ℕ). (x.0 ≤ 1) × (text ≡ server_letter x.0 ++ (codes " " ++ x.1))) _ _ found
    leader helper h
  where
    leader : (x : ℕ × List ℕ) → option_map (λ rest. (0, rest)) (after (codes "A ") text) ≡ Some x
        → (x.0 ≤ 1) × (text ≡ server_letter x.0 ++ (codes " " ++ x.1))
    leader x k =
        let m = map_some (λ (rest : List ℕ). (0, rest)) (after (codes "A ") text) x k in
        subst (λ (x : ℕ × List ℕ). (x.0 ≤ 1) × (text ≡ server_letter x.0 ++ (codes " " ++ x.1))) m.2
        (omega arith, after_found (codes "A ") text m.0 m.1)

    helper : (x : ℕ × List ℕ) → option_map (λ rest. (1, rest)) (after (codes "B ") text) ≡ Some x
        → (x.0 ≤ 1) × (text ≡ server_letter x.0 ++ (codes " " ++ x.1))
    helper x k =
        let m = map_some (λ (rest : List ℕ). (1, rest)) (after (codes "B ") text) x k in
        subst (λ (x : ℕ × List ℕ). (x.0 ≤ 1) × (text ≡ server_letter x.0 ++ (codes " " ++ x.1))) m.2
        (omega arith, after_found (codes "B ") text m.0 m.1)

inject_found : (settings : Settings) (line : List ℕ) (event : Event) → inject_of line ≡ Some event
    → SpellsEvent settings event line
unfolding inject_of injected_in
inject_found settings line event k =
    let a = bind_some (injected_in line) (λ server. option_map (Inject server.0) (bytes_of server.1)) event
    k in
    let b = bind_some (after (codes "inject ") line) (λ rest. server_at rest) a.0 a.1 in
    let m = map_some (Inject a.0.0) (bytes_of a.0.1) event a.2 in
    let s = server_found b.0 a.0 b.2 in
    let d = bytes_found a.0.1 m.0 m.1 in
    subst (λ (x : Event). SpellsEvent settings x line) m.2 (record {
      of_two = s.0;
      some = d.1;
      most = d.2;
      digits = a.0.1;
      decoded = d.0;
      text = after_found (codes "inject ") line b.0 b.1 ∙ ap (λ r. codes "inject " ++ r) s.1;
    })

plain_found : (settings : Settings) (line : List ℕ) (event : Event) → 0 < settings.lanes
    → settings.lanes < 2 ^ 16
    → plain_event_of settings line ≡ Some event → SpellsEvent settings event line
plain_found settings line event some small h =
    let P = λ (x : Event). SpellsEvent settings x line in
    either_of P _ _ event (λ x. send_found settings line x some small)
    (λ x. either_of P _ _ x (tick_found settings line)
    (λ x. either_of P _ _ x (deliver_found settings line)
    (λ x. either_of P _ _ x (show_found settings line) (λ y. finish_found settings line y some small))))
    h

pub event_found : (settings : Settings) (line : List ℕ) (event : Event) → 0 < settings.lanes
    → settings.lanes < 2 ^ 16 → event_of settings line ≡ Some event → SpellsEvent settings event line
event_found settings line event some small h =
    let P = λ (x : Event). SpellsEvent settings x line in
    either_of P _ _ event (λ x. ask_found settings line x some small)
    (λ x. either_of P _ _ x (λ y. plain_found settings line y some small) (inject_found settings line))
    h

-- ---- what is spelled so is found

ask_only : (settings : Settings) (client : ℕ) (text : List ℕ) (asked : Asked) → settings.lanes < 2 ^ 16
    → client < settings.lanes → SpellsAsked settings asked text
    → event_of settings (codes "ask " ++ (decimal client ++ (codes " " ++ text))) ≡ Some (Ask client asked)
unfolding ask_of
ask_only settings client text asked small h spelled =
    rw (asker_only settings client text small h, asked_only settings text asked spelled) refl

send_only : (settings : Settings) (client : ℕ) → settings.lanes < 2 ^ 16 → client < settings.lanes
    → event_of settings (codes "send " ++ decimal client) ≡ Some (Send client)
unfolding ask_of asker_of numbered after
send_only settings client small h =
    rw (last_only 0 (settings.lanes - 1) client (omega arith) (omega arith) (omega arith)) refl

tick_only : (settings : Settings) → event_of settings (codes "tick") ≡ Some Tick
unfolding ask_of asker_of numbered tick_of after
tick_only settings = refl

deliver_only : (settings : Settings) (number : ℕ) → number < 2 ^ 32
    → event_of settings (codes "deliver " ++ decimal number) ≡ Some (Deliver number)
unfolding ask_of asker_of numbered tick_of after
deliver_only settings number h =
    rw (last_only 0 4294967295 number (omega arith) (omega arith) (omega arith)) refl

show_only : (settings : Settings) (number : ℕ) → number < 2 ^ 32
    → event_of settings (codes "show " ++ decimal number) ≡ Some (Show number)
unfolding ask_of asker_of numbered tick_of after
show_only settings number h =
    rw (last_only 0 4294967295 number (omega arith) (omega arith) (omega arith)) refl

finish_only : (settings : Settings) (client : ℕ) → settings.lanes < 2 ^ 16 → client < settings.lanes
    → event_of settings (codes "finish " ++ decimal client) ≡ Some (Finish client)
unfolding ask_of asker_of numbered tick_of after
finish_only settings client small h =
    rw (last_only 0 (settings.lanes - 1) client (omega arith) (omega arith) (omega arith)) refl

inject_only : (settings : Settings) (server : ℕ) (bytes digits : List ℕ) → server ≤ 1
    → bytes_of digits ≡ Some bytes
    → event_of settings (codes "inject " ++ (server_letter server ++ (codes " " ++ digits))) ≡ Some
    (Inject server bytes)
unfolding ask_of asker_of numbered tick_of injected_in inject_of server_at after
inject_only settings zero bytes digits h k = rw k refl
inject_only settings (suc zero) bytes digits h k = rw k refl
inject_only settings (suc (suc n)) bytes digits h k = absurd (omega (arith, h))

pub event_only : (settings : Settings) (line : List ℕ) (event : Event) → settings.lanes < 2 ^ 16
    → SpellsEvent settings event line → event_of settings line ≡ Some event
event_only settings line (Ask client asked) small h =
    rw (h.1.2) (ask_only settings client h.1.0 asked small h.0 h.1.1)
event_only settings line (Send client) small h = rw (h.1) (send_only settings client small h.0)
event_only settings line Tick small h = rw h (tick_only settings)
event_only settings line (Deliver number) small h = rw (h.1) (deliver_only settings number h.0)
event_only settings line (Show number) small h = rw (h.1) (show_only settings number h.0)
event_only settings line (Finish client) small h = rw (h.1) (finish_only settings client small h.0)
event_only settings line (Inject server bytes) small h =
    rw (h.text) (inject_only settings server bytes h.digits h.of_two
    (bytes_only h.digits bytes h.decoded h.some h.most))
