-- The lowest of those left that comes directly before an action that is left: of those that want what it leaves, that set what it leaves, and that set what it wants.
-- Assumes nothing.
use mathlib.Core.Path.{◌≡◌, sym, ◌∙◌}
use mathlib.Core.Logic.{◌⊎◌, inl, inr, ◌≢◌}
use mathlib.Core.Bool.{true, ◌&&◌, and-eq-true_iff}
use mathlib.Core.List.{List, []}
use Prim.Native.Nat.{ℕ, ◌+◌, ◌*◌, ◌≤◌, ◌<◌}
use native.Mathlib.Omega.{arith}
use native.Mathlib.Decide.{dec_lt}
use lib.Dec.{ltb}
use lib.ListN.{length, get_or}
use borrow.Author.Tests.{lt-ltb}
use Rattle.bits.specs.Bits.{within, LeastMember}
use Rattle.bits.proofs.Members.{not_both}
use Rattle.study.specs.Study.{Study}
use Rattle.orders.proofs.Rings.{behind_has_one_before}
use Rattle.walks.specs.Walks.{var_of, pre_of, post_of, conditions_of, start_of, Wants, OnAWalk, ComesBefore, next, sets, leaves}
use Rattle.walks.proofs.Leads.{on_walk_usable}
use Rattle.wanting.specs.Wanting.{wants}
use Rattle.wanting.proofs.Counting.{wants-told, wants_tells}
use Rattle.tracing.proofs.Ranges.{pre_small}
use Rattle.explained.specs.Rings.{Stuck, WaitsOn}
use Rattle.explained.specs.Wanters.{Sets}
use Rattle.ringing.specs.Stranded.{Stranded}
use Rattle.circling.specs.Lowest.{LowerOf, LowestBelow}
use Rattle.ringing.proofs.Befores.{stuck_on_walk, stuck_there, stuck_small, sets_no_start, left_is_set, set_by_named}
use Rattle.circling.proofs.Lowest.{lowest_of_none, lowest_of_one, lowest_of_both, lowest_in_other_words}

-- i wants what j leaves; i sets what j leaves; i sets what j wants
abbrev pub WantsLeft : Study → ℕ → ℕ → Type 0
WantsLeft t j i = Wants (conditions_of t i) (var_of t j) (pre_of t j)

abbrev pub SetsLeft : Study → ℕ → ℕ → Type 0
SetsLeft t j i = (var_of t i ≡ var_of t j) × (post_of t i ≡ pre_of t j)

abbrev pub SetsWanted : Study → ℕ → ℕ → Type 0
SetsWanted t j i = Wants (conditions_of t j) (var_of t i) (post_of t i)

module _
    {file firsts setters : List ℕ} {wanters : Sets} {left : List ℕ} {t : Study} (s : Stranded file firsts setters wanters left t)
    {j : ℕ} (stuck : Stuck t j) where
  var_there : var_of t j < length t.tasks
  var_there = (stuck_on_walk stuck).there

  module _ {x y : ℕ} (is_var : x ≡ var_of t j) (is_pre : y ≡ pre_of t j) where
    pub var_fits : x < 32
    var_fits = omega (arith, var_there, s.lawful.a_task_each, s.lawful.few_variables)

    pub pre_fits : y < 16
    pre_fits = rw is_pre (pre_small s.lawful j (stuck_there stuck))

    pub lowest_wanter : {r : ℕ} → LeastMember (get_or wanters (16 * x + y) []) r → LowestBelow t (WantsLeft t j) 256 r
    lowest_wanter {r} least = record {
      most = least.most;
      lowest = λ i b w. first i b w (dec_lt i r);
      is = λ d. let h : r < 256 = omega (arith, least.most) in only h (least.there h);
    }
      where
        noted : (i : ℕ) → i < 256 → within (get_or wanters (16 * x + y) []) i ≡ (ltb i (length t.actions) && (within left i && wants (conditions_of t i) x y))
        noted i h = s.noted x y i var_fits pre_fits h

        first : (i : ℕ) → Stuck t i → WantsLeft t j i → Dec (i < r) → r ≤ i
        first i b w (yes h) = absurd (not_both there (least.none_below i h))
          where
            small : i < 256
            small = stuck_small s.lawful b

            there : within (get_or wanters (16 * x + y) []) i ≡ true
            there =
                noted i small
                ∙ rw (lt-ltb i (length t.actions) (stuck_there b), (s.left_are i small).1 b)
                (wants_tells (conditions_of t i) x y (rw (is_var, is_pre) w))
        first i b w (no n) = omega arith

        only : r < 256 → within (get_or wanters (16 * x + y) []) r ≡ true → Stuck t r × WantsLeft t j r
        only h e =
            let (_, both) = (and-eq-true_iff (ltb r (length t.actions)) (within left r && wants (conditions_of t r) x y)).0 (sym (noted r h) ∙ e) in
            let (among, wanting) = (and-eq-true_iff (within left r) (wants (conditions_of t r) x y)).0 both in
            ((s.left_are r h).0 among, rw (is_var, is_pre) at (wants-told (conditions_of t r) x y wanting))

    first_told : get_or firsts x 0 ≡ start_of t (var_of t j)
    first_told = rw is_var (s.starts (var_of t j) var_there)

    pub none_sets_left : {low : ℕ} → y ≡ get_or firsts x 0 → LowestBelow t (SetsLeft t j) low low
    none_sets_left e = lowest_of_none λ i b (f, g). sets_no_start (stuck_on_walk b) f g (sym is_pre ∙ e ∙ first_told)

    pub lowest_sets_left :
        {low r : ℕ} → y ≢ get_or firsts x 0 → LowerOf left low (get_or setters (16 * x + y) 0) r → LowestBelow t (SetsLeft t j) low r
    lowest_sets_left off lower =
        let (i, set) = left_is_set (stuck_on_walk stuck) (λ e. off (is_pre ∙ e ∙ sym first_told)) in
        let named = set_by_named s set in
        lowest_of_one s.left_are (omega (arith, s.lawful.few_actions, set.usable.there)) (set.var, set.post)
        (λ m b (f, g). sym (set_by_named s (record { usable = on_walk_usable (stuck_on_walk b); var = f; post = g })) ∙ named)
        (rw (is_var, is_pre, named) at lower)

  pub waits_on :
      {first low r : ℕ} → LowestBelow t (WantsLeft t j) 256 first → LowestBelow t (SetsLeft t j) first low → LowestBelow t (SetsWanted t j) low r
      → (r < 256) × WaitsOn t j r
  waits_on {r = r} one two three = (small, record { stuck = is.0; before = is.1; lowest = λ k h b c. omega (arith, all.lowest k b c) })
    where
      together : (i : ℕ) → (WantsLeft t j i ⊎ SetsLeft t j i) ⊎ SetsWanted t j i → ComesBefore t i j
      together i (inl (inl w)) = leaves w
      together i (inl (inr (e, f))) = next e f
      together i (inr w) = sets w

      cases : (i : ℕ) → ComesBefore t i j → (WantsLeft t j i ⊎ SetsLeft t j i) ⊎ SetsWanted t j i
      cases i (next e f) = inl (inr (e, f))
      cases i (sets w) = inr w
      cases i (leaves w) = inl (inl w)

      all : LowestBelow t (λ i. ComesBefore t i j) 256 r
      all = lowest_in_other_words together cases (lowest_of_both (lowest_of_both one two) three)

      small : r < 256
      small =
          let (i, (on, (before, b))) = behind_has_one_before (OnAWalk t) (ComesBefore t) stuck in
          omega (arith, all.lowest i b before, stuck_small s.lawful b)

      is : Stuck t r × ComesBefore t r j
      is = all.is (λ e. omega (arith, small))
