-- What answers exclude that a write is accepted, by what the servers do with frames: the tables of
-- docs/PROTOCOL.md, which are `step_rules/specs`.
--
-- A server adds a write's bytes only at its settle. The leader issues the settle behind the audit, and the
-- audit only when it takes a proof of that lane and serial at a row that is challenged. So a write whose last
-- proof never went out isn't added. A lane and serial have one write; its row at the leader is done with one
-- of these answers, and keeps it:
--   Accepted    both servers have added the write's bytes
--   Rejected    the closings of both servers don't accept: neither has added them
--   NotProved   the helper had no proof at the audit: no settle is issued
--   NoDeposit   the helper's row was another's at the begin, the audit or the settle: the helper carries none
--               of them out, and the leader adds nothing
-- `Stale` and `Phase` tell of the row as it is by then: it may have been done with this write before. The
-- others are of no write, or of a frame that wasn't taken at this time.
use Rattle.std.specs.Prelude.{Bool, true, false}
use Rattle.express_words.specs.declared.refusal.Refusal.{Refusal}
use Rattle.express_words.specs.declared.refusal.Refusal.TheVariants as refusal
use Rattle.desk_tries.specs.declared.heard.Answer.{Answer}
use Rattle.desk_tries.specs.declared.heard.Answer.TheVariants as answer

-- a row that is done by this refusal: its write isn't accepted, before or after
abbrev pub closes : Refusal → Bool
closes (refusal.Rejected o0 o1 t0 t1) = true
closes refusal.NotProved = true
closes refusal.NoDeposit = true
closes r = false

abbrev pub excludes : Answer → Bool
excludes (answer.Refused r) = closes r
excludes a = false
