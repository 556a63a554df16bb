-- The bits of the entries met so far, and the test one entry on.
-- Assumes nothing.
use mathlib.Core.Path.{◌≡◌, refl, sym, ◌∙◌}
use mathlib.Core.Bool.{true, false, ◌||◌}
use mathlib.Core.List.{List, [], ◌∷◌}
use Prim.Native.Nat.{ℕ, suc, ◌+◌, ◌≤◌, ◌<◌}
use native.Mathlib.Numerals.{add-one}
use native.Mathlib.Omega.{arith}
use lib.Dec.{leb}
use lib.ListN.{length, get_or, drop, replicate}
use lib.Seq.{drop-cons, drop-length}
use borrow.Author.Tests.{le-leb, lt-leb}
use Rattle.plain.specs.Choose.{pick}
use Rattle.bits.specs.Bits.{within, Added}
use Rattle.bits.proofs.Members.{fresh_empty}
use Rattle.std.specs.Prelude.{Ok, Err}
use Rattle.ranking.specs.declared.Unranked.TheVariants.{Entry}
use Rattle.ranking.specs.Ranking.{among, tested_from}

-- after k entries the set has the earlier ones, and what is left to test gives what the whole does
pub record Marked (ranks : List ℕ) (actions k : ℕ) (met : List ℕ) : Type 0 where
  pub earlier : List ℕ
  pub reached : k ≤ length ranks
  pub sized : length met ≡ 4
  pub marks : (x : ℕ) → among earlier x ≡ within met x
  pub rest : tested_from actions [] 0 ranks ≡ tested_from actions earlier k (drop k ranks)

pub none_marked : (ranks : List ℕ) (actions : ℕ) → Marked ranks actions 0 (replicate 4 0)
unfolding among
none_marked ranks actions =
    record { earlier = []; reached = omega arith; sized = refl; marks = λ x. sym (fresh_empty 4 x); rest = refl }

module _ {ranks : List ℕ} {actions k : ℕ} {met : List ℕ} (m : Marked ranks actions k met) where
  -- entry k is the next to be tested
  next_entry :
      (more : k < length ranks)
      → tested_from actions [] 0 ranks
      ≡ pick (leb actions (get_or ranks k 0) || among m.earlier (get_or ranks k 0)) (Err (Entry k)) (tested_from actions (get_or ranks k 0 ∷ m.earlier) (k + 1) (drop (suc k) ranks))
  unfolding tested_from
  next_entry more = m.rest ∙ rw (drop-cons ranks k 0 more)

  pub too_large : k < length ranks → actions ≤ get_or ranks k 0 → tested_from actions [] 0 ranks ≡ Err (Entry k)
  too_large more h = rw (next_entry more, le-leb actions (get_or ranks k 0) h)

  pub repeated :
      k < length ranks → get_or ranks k 0 < actions → within met (get_or ranks k 0) ≡ true → tested_from actions [] 0 ranks ≡ Err (Entry k)
  repeated more h old = rw (next_entry more, lt-leb actions (get_or ranks k 0) h, m.marks (get_or ranks k 0), old)

  pub one_more :
      {after : List ℕ} → k < length ranks → get_or ranks k 0 < actions → within met (get_or ranks k 0) ≡ false
      → Added (get_or ranks k 0) met after → Marked ranks actions (k + 1) after
  unfolding among
  one_more more h new added =
      record {
        earlier = x ∷ m.earlier;
        reached = omega arith;
        sized = added.long;
        marks = λ y. rw (m.marks y) (sym (added.members y));
        rest = rw (add-one k) (next_entry more ∙ rw (lt-leb actions x h, m.marks x, new, add-one k));
      }
    where
      x : ℕ
      x = get_or ranks k 0

  pub all_tested : length ranks ≤ k → tested_from actions [] 0 ranks ≡ Ok tt
  unfolding tested_from
  all_tested h =
      let e : k ≡ length ranks = omega (arith, m.reached) in
      m.rest ∙ rw (e, drop-length ranks)
