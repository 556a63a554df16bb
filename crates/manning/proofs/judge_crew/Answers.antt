-- `manning::judge_crew` meets its contract: the opening is judged, then the tasks that the crew takes, then its seed.
-- Assumes nothing.
use borrow.Enum.Refused.{opened as keys_of}
use Rattle.drafts.proofs.Turns.{task_early, not_far}
use Rattle.drafts.proofs.Stops.{keeps_more, stopped_keeps, stopped_leads}
use Rattle.manning.proofs.judge_crew.Goals as goal

pub judge_opening-by_opening-requires : goal.judge_opening-by_opening-requires
judge_opening-by_opening-requires c = let (bounds, may, _) = c.requires in (may, not_far bounds)

pub returns-in_default : goal.returns-in_default
returns-in_default c = record { keeps = stopped_keeps (keys_of c.in_default.in_default-own.keys2); by_index = λ file rest h. stopped_leads (keys_of c.in_default.in_default-own.keys2) (c.judge_opening-by_opening.ensures.by_index_2 file _ _ h) }

pub judge_tasks-by_tasks-requires : goal.judge_tasks-by_tasks-requires
judge_tasks-by_tasks-requires c =
    let k = (c.judge_opening-by_opening.ensures.by_index _ c.requires.0).on _ c.in-On.is in
    (k.0, k.1, c.requires.2)

pub returns-in_default-by_tasks : goal.returns-in_default-by_tasks
returns-in_default-by_tasks c =
    record {
      keeps = stopped_keeps (keys_of c.in_default-by_tasks.in_default-by_tasks-own.keys2);
      by_index = λ file rest h. stopped_leads (keys_of c.in_default-by_tasks.in_default-by_tasks-own.keys2)
          (c.judge_tasks-by_tasks.ensures.by_index file _ ((c.judge_opening-by_opening.ensures.by_index_2 file _ _ h).on _ c.in-On.is));
    }

pub judge_seed-requires : goal.judge_seed-requires
judge_seed-requires c =
    let k = c.judge_tasks-by_tasks.ensures.keeps.on _ c.in-On-by_tasks.is in
    (k.1.0, not_far k.0, k.0.room_for_one (task_early k.1.0))

pub returns : goal.returns
returns c =
    let k = c.judge_tasks-by_tasks.ensures.keeps.on _ c.in-On-by_tasks.is in
    let e = c.judge_seed.ensures in record {
      keeps = keeps_more (e.by_index _ k.0) (λ q last. (last, k.1.1));
      by_index = λ file rest h. e.by_index_2 file _ rest
          ((c.judge_tasks-by_tasks.ensures.by_index file _ ((c.judge_opening-by_opening.ensures.by_index_2 file _ _ h).on _ c.in-On.is)).on _ c.in-On-by_tasks.is);
    }
