-- What servers say of a lane.
use Rattle.std.proofs.Common.{◌≡◌, ◌∙◌, ◌≤◌, ◌+◌, ℕ, List, Option, Result, Ok, Err, refl, sym, subst, inl, inr, arith, max}
use denote.Bor.{Bor}
use Rattle.express_words.specs.Calls.{Call}
use Rattle.express_words.specs.Seen.{Seen}
use Rattle.express_words.specs.declared.role.Role.{Role}
use Rattle.express_words.specs.declared.role.Role.TheVariants.{Leader, Helper}
use Rattle.frame_rules.specs.Frames.{PlainFrame}
use Rattle.node_journal.specs.Disk.{DiskSeen}
use Rattle.door_exchange.specs.declared.exchanging.Broken.{Broken}
use Rattle.door_exchange.specs.declared.exchanging.Broken.TheVariants as broken
use Rattle.desk_sheets.specs.declared.sheet.OwnersServer.{OwnersServer}
use Rattle.desk_sheets.specs.declared.sheet.Pair.{Pair}
use Rattle.owner_check.specs.Answers.{Asks, CountBy}
use Rattle.owner_check.specs.Questions.{helper_question, leader_question, width_question}
use Rattle.owner_check.specs.declared.found.Found.{Found}
use Rattle.owner_check.specs.declared.found.Found.TheVariants as found
use Rattle.desk_around.specs.Chains.{Chain, goes}
use Rattle.desk_around.specs.Ends.{Unfailed, status_by}
use Rattle.desk_around.specs.declared.trouble.Trouble.{Trouble}
use Rattle.desk_steps.specs.Net.{IsQuestion, NetStep, question}
use Rattle.owner_ledger.specs.Checks.{ChecksPair, SaysOf, first_above, standing_by}

pub says : (role : Role) (server : OwnersServer) (q : PlainFrame) (path : Bor (List ℕ)) (told : Result Found Broken)
    (result : Result ℕ Trouble) (a b : Option (List Call)) → Asks server q told a b
    → result ≡ standing_by role path told → SaysOf role server q path result a b
says role server q path told result a b asks is = record { told = told; asks = asks; is = is }

-- a fault of the net is told as a word that isn't done
unfailed_by : (role : Role) (path : Bor (List ℕ)) (told : Result Found Broken) (old new : ℕ)
    → CountBy told old new → Unfailed old new (standing_by role path told)
unfailed_by role path (Ok (found.Stands serial)) old new is = is
unfailed_by role path (Ok found.OtherWidth) old new is = λ other. is
unfailed_by role path (Ok found.OtherServer) old new is = λ other. is
unfailed_by role path (Ok found.NotYours) old new is = λ other. is
unfailed_by role path (Ok found.Other) old new is = λ other. is
unfailed_by role path (Err (broken.Fault count)) old new is = λ other. absurd (other refl)
unfailed_by role path (Err (broken.Early count)) old new is = λ other. is
unfailed_by role path (Err (broken.Wrong fault)) old new is = λ other. is

pub unfailed : (role : Role) (path : Bor (List ℕ)) (told : Result Found Broken) (result : Result ℕ Trouble)
    (old new : ℕ) → CountBy told old new → result ≡ standing_by role path told → Unfailed old new result
unfailed role path told result old new counts is =
    subst (λ (r : Result ℕ Trouble). Unfailed old new r) (sym is) (unfailed_by role path told old new counts)

on_question : {D : Type 0} (shows : D → DiskSeen) (counts : D → Seen) (server : OwnersServer) (q : PlainFrame)
    (told : Result Found Broken) (a b : Option (List Call)) → IsQuestion q → Asks server q told a b
    → (start : Option (List Call)) → Chain (NetStep shows counts) start a → Chain (NetStep shows counts) start b
on_question shows counts server q told a b is asks start s = goes a b s (question server q told is asks)

pub leader_on : {D : Type 0} (shows : D → DiskSeen) (counts : D → Seen) (server : OwnersServer) (lane : ℕ)
    (told : Result Found Broken) (a b : Option (List Call)) → Asks server (leader_question lane) told a b
    → (start : Option (List Call)) → Chain (NetStep shows counts) start a → Chain (NetStep shows counts) start b
leader_on shows counts server lane told a b asks =
    on_question shows counts server (leader_question lane) told a b (inl (lane, refl)) asks

pub helper_on : {D : Type 0} (shows : D → DiskSeen) (counts : D → Seen) (server : OwnersServer) (lane : ℕ)
    (told : Result Found Broken) (a b : Option (List Call)) → Asks server (helper_question lane) told a b
    → (start : Option (List Call)) → Chain (NetStep shows counts) start a → Chain (NetStep shows counts) start b
helper_on shows counts server lane told a b asks =
    on_question shows counts server (helper_question lane) told a b (inr (inl (lane, refl))) asks

pub width_on : {D : Type 0} (shows : D → DiskSeen) (counts : D → Seen) (server : OwnersServer) (lane width : ℕ)
    (told : Result Found Broken) (a b : Option (List Call)) → Asks server (width_question lane width) told a b
    → (start : Option (List Call)) → Chain (NetStep shows counts) start a → Chain (NetStep shows counts) start b
width_on shows counts server lane width told a b asks =
    on_question shows counts server (width_question lane width) told a b (inr (inr (lane, width, refl))) asks

pub checks : (pair : Pair) (path : Bor (List ℕ)) (first l w h : ℕ) (a b c d : Option (List Call))
    → SaysOf Leader pair.leader (leader_question pair.lane) path (Ok l) a b
    → SaysOf Leader pair.leader (width_question pair.lane pair.width) path (Ok w) b c
    → SaysOf Helper pair.helper (helper_question pair.lane) path (Ok h) c d
    → first ≡ first_above l h → ChecksPair pair path first a d
checks pair path first l w h a b c d leader width helper is = record {
  at_leader = l;
  at_width = w;
  at_helper = h;
  asked = b;
  measured = c;
  leader = leader;
  width = width;
  helper = helper;
  first_is = is;
}
