-- What was taken of a study, and what planning came to, before it is handed over.
-- Assumes nothing.
use Rattle.std.specs.Prelude.{ℕ, ◌≡◌, List, length, take, drop, Ok}
use Rattle.answer.specs.declared.Answer.{Answer}
use Rattle.ranking.specs.Ranking.{tested}
use Rattle.study.specs.Study.{Study}
use Rattle.lawful.specs.Lawful.{Lawful}
use Rattle.walks.specs.Walks.{Walks, Met}
use Rattle.planning.specs.Planning.{Plans}
use Rattle.tracing.specs.Steps.{Members}
use Rattle.taking.specs.Taking.{TakenGreedily}

-- so many actions were taken greedily, and stand in the room from 256 on
pub record Taken (t : Study) (ranks : List ℕ) (total taken : ℕ) (room : List ℕ) : Type 0 where
  pub lawful : Lawful t
  pub ranked : tested ranks (length t.actions) ≡ Ok tt
  pub walks : Walks t
  pub met : Met t
  pub list : List ℕ
  pub members : Members t list
  pub counted : length list ≡ total
  pub greedy : TakenGreedily t ranks (take taken (drop 256 room))

-- planning came to this answer, and a plan stands in the room from 256 on: that half of the room is its buffer
abbrev pub InRoom : Study → List ℕ → Answer → List ℕ → Type 0
InRoom t ranks r room = Plans t ranks (drop 256 room) r (drop 256 room)
