-- What planning came to in a room, as a call's answer: a refusal as it is, or the plan in the front of a buffer, or 13.
-- Assumes nothing.
use mathlib.Core.Path.{◌≡◌, refl}
use mathlib.Core.Logic.{◌≢◌}
use mathlib.Core.List.{List, ◌++◌}
use Prim.Native.Nat.{ℕ, ◌≤◌, ◌<◌}
use native.Mathlib.Omega.{arith}
use lib.ListN.{length, take, drop, length-drop}
use lib.Seq.{take_at}
use Rattle.answer.specs.Answers.{done}
use Rattle.answer.specs.declared.Answer.{Answer}
use Rattle.ranking.specs.Ranking.{tested}
use Rattle.std.specs.Prelude.{Ok}
use Rattle.study.specs.Study.{Study}
use Rattle.lawful.specs.Lawful.{Lawful}
use Rattle.planning.specs.Refusals.{short_buffer}
use Rattle.planning.specs.Planning.{FirstPlan, Plans, wrong_length, wrong_entry, no_walk, off_walk_lem, ring, no_room, a_plan}
use Rattle.planning.proofs.Found.{straight_plan_short}
use Rattle.handing.specs.Handing.{InRoom}

-- a refusal, whatever the buffer; or a plan of 256 steps at most, in the front of some bytes
pub data Came (t : Study) (ranks bytes : List ℕ) : Answer → Type 0 where
  no_plan : {r : Answer} → ((before : List ℕ) → Plans t ranks before r before) → r.number ≢ 0 → Came t ranks bytes r
  the_plan :
      {list : List ℕ} → tested ranks (length t.actions) ≡ Ok tt → FirstPlan t ranks list → length list ≤ 256 → take (length list) bytes ≡ list
      → Came t ranks bytes (done (length list) 0)

came :
    {t : Study} {ranks bytes after : List ℕ} {r : Answer} → Lawful t → length bytes ≡ 256 → after ≡ bytes → Plans t ranks bytes r after
    → Came t ranks bytes r
came lawful long e (wrong_length h) = no_plan (λ before. wrong_length h) (λ z. omega arith)
came lawful long e (wrong_entry h) = no_plan (λ before. wrong_entry h) (λ z. omega arith)
came lawful long e (no_walk fine l) = no_plan (λ before. no_walk fine l) (λ z. omega arith)
came lawful long e (off_walk_lem fine walks l) = no_plan (λ before. off_walk_lem fine walks l) (λ z. omega arith)
came lawful long e (ring fine walks met x n) = no_plan (λ before. ring fine walks met x n) (λ z. omega arith)
came lawful long e (no_room fine p short) = absurd (omega (arith, straight_plan_short lawful p.straight))
came {bytes = bytes} lawful long e (a_plan {list = list} fine p h) =
    the_plan fine p (omega arith) (rw (← e) (take_at list (drop (length list) bytes) (length list) refl))

pub came_in_room :
    {t : Study} {ranks : List ℕ} {r : Answer} → Lawful t → (room : List ℕ) → length room ≡ 512 → InRoom t ranks r room
    → Came t ranks (drop 256 room) r
came_in_room lawful room sized = came lawful (omega (arith, length-drop 256 room)) refl

module _ {t : Study} {ranks bytes : List ℕ} where
  pub plan_within : {r : Answer} → Came t ranks bytes r → r.number ≡ 0 → r.first ≤ 256
  plan_within (no_plan p away) z = absurd (away z)
  plan_within (the_plan fine p few front) z = few

  module _ (before : List ℕ) where
    pub refused_alike : {r : Answer} → Came t ranks bytes r → r.number ≢ 0 → Plans t ranks before r before
    refused_alike (no_plan p away) n = p before
    refused_alike (the_plan fine p few front) n = absurd (n refl)

    pub too_long : {r : Answer} → Came t ranks bytes r → r.number ≡ 0 → length before < r.first → Plans t ranks before (short_buffer r.first) before
    too_long (no_plan p away) z short = absurd (away z)
    too_long (the_plan fine p few front) z short = no_room fine p short

    pub handed :
        {r : Answer} → Came t ranks bytes r → r.number ≡ 0 → r.first ≤ length before
        → Plans t ranks before r (take r.first bytes ++ drop r.first before)
    handed (no_plan p away) z fits = absurd (away z)
    handed (the_plan fine p few front) z fits = rw front (a_plan fine p fits)
