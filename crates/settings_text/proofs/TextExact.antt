-- The text of settings is read exactly.
use Rattle.std.proofs.Common.{◌≡◌, ℕ, Bool, true, false, cond, List, codes, Option, Some, None, Result, Ok, Err, refl}
use Rattle.std.proofs.lemmas.Str.{IsUtf8-from_is_utf8, is_utf8-from_IsUtf8}
use Rattle.std.specs.Str.{is_utf8}
use Rattle.toml.specs.Data.{Members}
use Rattle.toml.specs.Parse.{parse_document}
use Rattle.express_texts.specs.declared.fault.TextFault.{TextFault}
use Rattle.express_texts.specs.declared.fault.TextFault.TheVariants.{Wrong, WrongKey, NoMemory}
use Rattle.settings_text.specs.Carry.{carry_of}
use Rattle.settings_text.specs.CarrySpelling.{SpellsCarry, IsBadCarryKey, HasCarry, FaultOfCarry}
use Rattle.settings_text.specs.Client.{client_of}
use Rattle.settings_text.specs.ClientSpelling.{SpellsClient, IsBadClientKey, HasClient, FaultOfClient}
use Rattle.settings_text.specs.Judging.{Gives, Judges}
use Rattle.settings_text.specs.Meanings.{FaultOfText, IsWrong, SpellsTable}
use Rattle.settings_text.specs.Serve.{serve_of}
use Rattle.settings_text.specs.ServeSpelling.{SpellsServe, IsBadServeKey, HasServe, FaultOfServe}
use Rattle.settings_text.specs.Tables.{judged, read_table}
use Rattle.settings_text.proofs.CarryExact.{carry_exact}
use Rattle.settings_text.proofs.ClientExact.{client_exact}
use Rattle.settings_text.proofs.ExactLaws.{IsExact, and_then, or_named}
use Rattle.settings_text.proofs.ServeExact.{serve_exact}

table_found : (text : List ℕ) (keys : Members) → cond (is_utf8 text) (parse_document text) None ≡ Some keys → SpellsTable keys text
table_found text keys h = at_test (is_utf8 text) refl h
  where
    at_test : (t : Bool) → is_utf8 text ≡ t → cond t (parse_document text) None ≡ Some keys → SpellsTable keys text
    at_test true e k = (IsUtf8-from_is_utf8 text e, k)
    at_test false e k = cc

table_only : (text : List ℕ) (keys : Members) → SpellsTable keys text → cond (is_utf8 text) (parse_document text) None ≡ Some keys
table_only text keys h = rw (is_utf8-from_IsUtf8 text h.0) h.1

table_exact : (text : List ℕ) → IsExact (read_table text) (λ keys. SpellsTable keys text) (IsWrong (codes "toml") (λ keys. SpellsTable keys text))
unfolding read_table
table_exact text = or_named (cond (is_utf8 text) (parse_document text) None) (codes "toml") (λ keys. SpellsTable keys text) (table_found text) (table_only text)

text_exact : {A : Type 0} (read : Members → Result A (List ℕ)) (Holds : Members → A → Type 0) (Fault : Members → List ℕ → Type 0) → ((keys : Members) → IsExact (read keys) (Holds keys) (Fault keys))
    → (text : List ℕ) → IsExact (judged read text) (λ a. (keys : Members) × SpellsTable keys text × Holds keys a) (λ named. FaultOfText Fault named text)
text_exact read Holds Fault exact text = and_then (read_table text) read _ _ Holds Fault (table_exact text) exact

pub serve_text : (text : List ℕ) → IsExact (judged serve_of text) (λ s. SpellsServe s text) (λ key. IsBadServeKey key text)
serve_text = text_exact serve_of HasServe FaultOfServe serve_exact

pub client_text : (text : List ℕ) → IsExact (judged client_of text) (λ s. SpellsClient s text) (λ key. IsBadClientKey key text)
client_text = text_exact client_of HasClient FaultOfClient client_exact

pub carry_text : (text : List ℕ) → IsExact (judged carry_of text) (λ s. SpellsCarry s text) (λ key. IsBadCarryKey key text)
carry_text = text_exact carry_of HasCarry FaultOfCarry carry_exact

-- so what a reader answers is what the text spells, or its first bad key
pub judges : {A : Type 0} (read : Members → Result A (List ℕ)) (Spells : A → List ℕ → Type 0) (IsBadKey : List ℕ → List ℕ → Type 0) (text : List ℕ)
    → IsExact (judged read text) (λ a. Spells a text) (λ key. IsBadKey key text) → (r : Result A TextFault) → Gives (λ a. a) r (judged read text) → Judges Spells IsBadKey text r
judges read Spells IsBadKey text exact (Ok a) gives = exact.found a gives
judges read Spells IsBadKey text exact (Err (Wrong n)) gives = absurd gives
judges read Spells IsBadKey text exact (Err (WrongKey key)) gives = exact.bad key gives
judges read Spells IsBadKey text exact (Err NoMemory) gives = tt
