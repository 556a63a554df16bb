-- `ending::on_end` meets its contract: what filling the table of setters came to says whether an action repeats, and the set of used variables whether one is not used.
-- Assumes nothing.
use mathlib.Core.Path.{◌≡◌, sym, ◌∙◌, subst}
use native.Mathlib.Omega.{arith}
use Rattle.bits.specs.Bits.{LowestClear}
use Rattle.standing.proofs.Unused.{unused_is, none_is_unused}
use Rattle.ending.proofs.Ends.{ends_with_7, ends_with_21, ends_with_8, ends_well}
use Rattle.ending.proofs.on_end.Goals as goal
use Rattle.ending.proofs.on_end.Goals.{After-wide-unused}

pub returns-in-Some : goal.returns-in-Some
returns-in-Some c =
    let less = c.in-Some.ensures.upper_bound in
    record {
      by_index = λ file counts at. tt;
      meets = λ file counts starts goals begins d e s.
          ends_with_7 s (c.fill.ensures.by_index file _ _ s.actions s.sized.setters) _ c.in-Some.is less
          (c.record_place.ensures (omega (arith, c.action_at-act.ensures.place, s.places _ less)) ∙ c.action_at-act.ensures.place);
    }

-- the number that is compared is the lowest bit that is clear
lowest : (c : After-wide-unused) → LowestClear 64 c.args.p.used c.wide-unused.result
lowest c = subst (LowestClear 64 _) (sym c.wide-unused.ensures.0) c.lowest_clear.ensures

pub returns-then-unused-p : goal.returns-then-unused-p
returns-then-unused-p c =
    record {
      by_index = λ file counts at. tt;
      meets = λ file counts starts goals begins d e s.
          ends_with_21 s (c.fill.ensures.by_index file _ _ s.actions s.sized.setters) _ c.in_default.is
          (unused_is s.knows (lowest (goal.at.returns-then-unused-p c).After-wide-unused) c.if-unused-p.true);
    }

pub returns-then-next-len : goal.returns-then-next-len
returns-then-next-len c =
    record {
      by_index = λ file counts at. tt;
      meets = λ file counts starts goals begins d e s.
          ends_with_8 s (c.fill.ensures.by_index file _ _ s.actions s.sized.setters) _ c.in_default.is
          (none_is_unused s.knows (lowest (goal.at.returns-then-next-len c).After-wide-unused) (omega (arith, c.if-unused-p.false)))
          (omega (arith, e, c.if-next-len.true));
    }

pub returns : goal.returns
returns c =
    record {
      by_index = λ file counts at. tt;
      meets = λ file counts starts goals begins d e s.
          ends_well s (c.fill.ensures.by_index file _ _ s.actions s.sized.setters) _ c.in_default.is
          (none_is_unused s.knows (lowest (goal.at.returns c).After-wide-unused) (omega (arith, c.if-unused-p.false)))
          (omega (arith, e, c.if-next-len.false));
    }
