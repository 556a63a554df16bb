-- A variable traced back from its goal: the values that were passed, as bits and as a list, and the facts told so far.
-- Assumes nothing.
use mathlib.Core.Path.{◌≡◌, refl, sym, ap, ◌∙◌}
use mathlib.Core.Logic.{inl, inr}
use mathlib.Core.Bool.{true, false, ◌||◌, or-true}
use mathlib.Core.List.{List, [], ◌∷◌, ◌++◌, append_assoc, map-append}
use Prim.Native.Nat.{ℕ, suc, ◌+◌, ◌≤◌, ◌<◌}
use native.Mathlib.Omega.{arith}
use native.Mathlib.Decide.{ℕ_discrete}
use lib.Dec.{eqb}
use lib.ListN.{length, get_or, take}
use borrow.Author.Tests.{eq-eqb, ne_eqb}
use Rattle.bits.specs.Bits.{bit}
use Rattle.bits.proofs.Words.{bit_zero}
use Rattle.bits.proofs.Members.{not_both}
use Rattle.study.specs.Study.{Study}
use Rattle.orders.specs.Orders.{In, Distinct}
use Rattle.orders.proofs.Lists.{distinct_below}
use Rattle.walks.specs.Walks.{pre_of, goal_of}
use Rattle.walks.specs.Breaks.{Unset as IsUnset}
use Rattle.tables.specs.Rows.{Row, pre_column}
use Rattle.tracing.specs.Facts.{MovesIn}
use Rattle.tracing.specs.Steps.{SetterIs}
use Rattle.std.specs.Prelude.{Some}
use Rattle.tracing.proofs.Ranges.{told_pre, told_pre_small}
use Rattle.facts.specs.declared.Fact.{Fact as FactRow}
use Rattle.facts.specs.declared.Fact.TheVariants.{Goal, Set, Unset, Round}
use Rattle.explained.specs.Facts.{Fact, goal, set, unset, round, row_of, rows_of}
use Rattle.explained.specs.Refusals.{Traced, comes_back, breaks_off, goes_on, TracedFromGoal}

-- ---- the values passed

-- a set of bits has the numbers of a list, which are values, each once
pub record Marks (bits : ℕ) (values : List ℕ) : Type 0 where
  pub once : Distinct values
  pub small : (x : ℕ) → In x values → x < 16
  pub there : (x : ℕ) → bit bits x ≡ true → In x values
  pub only : (x : ℕ) → In x values → bit bits x ≡ true

none_marked : Marks 0 []
none_marked = record {
  once = tt;
  small = λ x h. absurd h;
  there = λ x h. absurd (not_both h (bit_zero x));
  only = λ x h. absurd h;
}

not_marked : {bits : ℕ} {values : List ℕ} → Marks bits values → (q : ℕ) → bit bits q ≡ false → In q values → ⊥
not_marked marks q off h = not_both (marks.only q h) off

one_more_marked :
    {bits bits' q : ℕ} {values : List ℕ} → Marks bits values → q < 16 → bit bits q ≡ false
    → ((j : ℕ) → bit bits' j ≡ (eqb q j || bit bits j)) → Marks bits' (q ∷ values)
one_more_marked {bits} {bits'} {q} {values} marks low off more =
    record {
      once = (not_marked marks q off, marks.once);
      small = λ x h. elim h [ inl e ↦ rw e low | inr g ↦ marks.small x g ];
      there = λ x h. from x h (ℕ_discrete q x);
      only = λ x h. elim h [ inl e ↦ more x ∙ rw (eq-eqb q x (sym e)) | inr g ↦ more x ∙ rw (marks.only x g, or-true) ];
    }
  where
    from : (x : ℕ) → bit bits' x ≡ true → Dec (q ≡ x) → In x (q ∷ values)
    from x h (yes e) = inl (sym e)
    from x h (no o) = inr (marks.there x (rw (ne_eqb q x o) at (sym (more x) ∙ h)))

few_marked : {bits : ℕ} {values : List ℕ} → Marks bits values → length values ≤ 16
few_marked {values = values} marks = distinct_below values 16 marks.once marks.small

-- ---- the facts told

one_more_fact : (list : List Fact) (f : Fact) → rows_of (list ++ (f ∷ [])) ≡ rows_of list ++ (row_of f ∷ [])
one_more_fact list f = map-append row_of list (f ∷ [])

-- where the loop stands in turn k: what is traced on from q completes the trace from the goal g
pub record Backward (v g a : ℕ) (setters : List ℕ) (acts : List Row) (facts : List FactRow) (n passed q k : ℕ) : Type 0 where
  pub some : (t : Study) × MovesIn a setters acts t
  pub sized : length facts ≡ 288
  pub count : n ≡ k + 1
  pub low : q < 16
  pub values : List ℕ
  pub long : length values ≡ k
  pub marks : Marks passed values
  pub so_far_lem : List Fact
  pub told : take n facts ≡ rows_of (goal v g ∷ so_far_lem)
  pub completes :
      (t : Study) → MovesIn a setters acts t → (rest : List Fact) → Traced t v q values rest → Traced t v g [] (so_far_lem ++ rest)

pub begins :
    {v g a : ℕ} {setters : List ℕ} {acts : List Row} {facts : List FactRow} {n : ℕ}
    → (t : Study) × MovesIn a setters acts t → length facts ≡ 288 → n ≡ 1 → g < 16
    → take n facts ≡ Goal v g ∷ []
    → Backward v g a setters acts facts n 0 g 0
begins some sized count low told = record {
  some = some;
  sized = sized;
  count = omega arith;
  low = low;
  values = [];
  long = refl;
  marks = none_marked;
  so_far_lem = [];
  told = told;
  completes = λ t moves rest traced. traced;
}

-- the facts of a trace from the goal, as the rows hold them
abbrev pub Told : ℕ → ℕ → ℕ → List ℕ → List Row → List FactRow → ℕ → Type 0
Told v g a setters acts facts n =
    (t : Study) → MovesIn a setters acts t → goal_of t v ≡ g
    → (list : List Fact) × (TracedFromGoal t v list × (take n facts ≡ rows_of list))

module _
    {v g a : ℕ} {setters : List ℕ} {acts : List Row} {facts : List FactRow} {n passed q k : ℕ}
    (back : Backward v g a setters acts facts n passed q k) where
  -- the trace comes round before the turns end
  pub few_turns : k ≤ 16
  few_turns = omega (arith, few_marked back.marks, back.long)

  module _ (facts' : List FactRow) (n' : ℕ) where
    -- a fact that ends the trace
    ends :
        (f : Fact) → take n' facts' ≡ take n facts ++ (row_of f ∷ [])
        → ((t : Study) → MovesIn a setters acts t → Traced t v q back.values (f ∷ [])) → Told v g a setters acts facts' n'
    ends f told last t moves e =
        let rest : List Fact = back.so_far_lem ++ (f ∷ []) in (
          goal v g ∷ rest,
          (
            record { rest = rest; traced = rw e (back.completes t moves (f ∷ []) (last t moves)); told = rw e },
            told ∙ rw back.told (sym (one_more_fact (goal v g ∷ back.so_far_lem) f)),
          ),
        )

    pub ends_round :
        bit passed q ≡ true → take n' facts' ≡ take n facts ++ (Round v q ∷ []) → Told v g a setters acts facts' n'
    ends_round on told = ends (round v q) told (λ t moves. comes_back (back.marks.there q on))

    pub ends_unset :
        bit passed q ≡ false → ((t : Study) → MovesIn a setters acts t → IsUnset t v q)
        → take n' facts' ≡ take n facts ++ (Unset v q ∷ []) → Told v g a setters acts facts' n'
    ends_unset off none told = ends (unset v q) told (λ t moves. breaks_off (not_marked back.marks q off) (none t moves))

    -- one action further back
    pub further :
        {i p passed' : ℕ}
        → bit passed q ≡ false → ((t : Study) → MovesIn a setters acts t → SetterIs t v q (Some i))
        → p ≡ get_or (pre_column acts) i 0
        → n' ≡ n + 1 → length facts' ≡ 288
        → take n' facts' ≡ take n facts ++ (Set v q i p ∷ [])
        → ((j : ℕ) → bit passed' j ≡ (eqb q j || bit passed j))
        → Backward v g a setters acts facts' n' passed' p (suc k)
    further {i} {p} {passed'} off setter is_pre count sized told more =
        record {
          some = back.some;
          sized = sized;
          count = omega (arith, back.count);
          low = let (t, moves) = back.some in rw is_pre (told_pre_small moves i (setter t moves).0.there);
          values = q ∷ back.values;
          long = ap suc back.long;
          marks = one_more_marked back.marks back.low off more;
          so_far_lem = back.so_far_lem ++ (set v q i p ∷ []);
          told = told ∙ rw back.told (sym (one_more_fact (goal v g ∷ back.so_far_lem) (set v q i p)));
          completes = λ t moves rest traced. rw append_assoc (back.completes t moves _ (step t moves rest traced));
        }
      where
        step :
            (t : Study) → MovesIn a setters acts t → (rest : List Fact) → Traced t v p (q ∷ back.values) rest
            → Traced t v q back.values (set v q i p ∷ rest)
        step t moves rest traced =
            let (usable, var, post) = setter t moves in
            let e : p ≡ pre_of t i = is_pre ∙ told_pre moves i usable.there in
            rw e (goes_on (not_marked back.marks q off) usable var post (rw e at traced))
