-- Each fault that a chart can have is found, or there is none.
-- Assumes nothing.
use Prim.Native.Nat.{ℕ, ◌<◌}
use native.Mathlib.Omega.{arith}
use native.Mathlib.Decide.{ℕ_discrete, dec_lt}
use mathlib.Core.Path.{◌≡◌, refl, sym}
use mathlib.Core.Logic.{◌⊎◌, inl, inr}
use mathlib.Core.Bool.{Bool, true, false, true≢false}
use mathlib.Core.List.{List, []}
use lib.ListN.{length, get_or}
use Rattle.answer.specs.declared.Answer.{Answer}
use Rattle.ranks.specs.Ranks.{count, rising}
use Rattle.ranks.proofs.Laws.{rising_is_rank_list}
use Rattle.ranking.proofs.Fine.{rank_list_is_fine}
use Rattle.study.specs.Study.{Study, in_force, action_at}
use Rattle.lawful.specs.Lawful.{Lawful}
use Rattle.plans.specs.Plans.{Usable}
use Rattle.orders.specs.Orders.{In}
use Rattle.orders.proofs.Lists.{in_decided, in_has_place}
use Rattle.orders.proofs.Counts.{counted_in}
use Rattle.orders.proofs.Extended.{some_or_none}
use Rattle.walks.specs.Walks.{OnAWalk, ComesBefore}
use Rattle.walks.proofs.Leads.{on_walk_usable}
use Rattle.planning.proofs.Decided.{comes_before_decided}
use Rattle.planning.proofs.Ways.{Barred, Way, at_fault, barred, planned, way_of}
use Rattle.reference.proofs.Tests.{Says, holds, fails}
use Rattle.reference.proofs.Meeting.{says_on_walk}
use Rattle.reference.proofs.Reference.{planned_allowed}
use Rattle.charts.specs.Charts.{Pair}
use Rattle.charts.specs.Faults.{AllUsable, FirstUnusable, Amiss, repeats, missing, on_no_walk, NoneAmiss, LowestAmiss}
use Rattle.charts.specs.Faults.{Astray, this_unlisted, that_unlisted, itself, pair_at, NoneAstray, FirstAstray, Chained, InCircle, NoCircle, Direct, NoneLacking, LowestLacking}
use Rattle.charts.specs.Answers.{Plannable}
use Rattle.charts.proofs.Pairs.{firsts, chained_decided, chained_first}
use Rattle.charts.proofs.Lowest.{Lowest, lowest_or_none, LowestTwo, lowest_two_or_none}

-- ---- decisions

not_decided : {P : Type 0} → Dec P → Dec (P → ⊥)
not_decided (yes p) = no (λ n. n p)
not_decided (no n) = yes n

pub settled_by : {P : Type 0} → Dec P → ((P → ⊥) → ⊥) → P
settled_by (yes p) m = p
settled_by (no n) m = absurd (m n)

says_decided : {P : Type 0} {b : Bool} → Says P b → Dec P
says_decided (holds p) = yes p
says_decided (fails n) = no n

holds_decided : (b : Bool) → Dec (b ≡ true)
holds_decided true = yes refl
holds_decided false = no (λ e. true≢false (sym e))

-- ---- 10, 11, 12: planning finds what bars every straight plan, or one

pub barred_or_plannable : {t : Study} → Lawful t → ((r : Answer) × Barred t r) ⊎ Plannable t
barred_or_plannable {t} lawful = go (way_of (planned_allowed lawful ranks []))
  where
    ranks : List ℕ
    ranks = rising (length t.actions)

    go : {r : Answer} {after : List ℕ} → Way t ranks [] r after → ((r : Answer) × Barred t r) ⊎ Plannable t
    go (at_fault f) = absurd (rw (rank_list_is_fine (rising_is_rank_list (length t.actions))) at f)
    go (barred {r = r} _ b) = inl (r, b)
    go (planned {list = list} _ p _) = inr (list, p.straight)

-- ---- 14

pub usable_decided : (t : Study) (i : ℕ) → Dec (Usable t i)
usable_decided t i = go (dec_lt i (length t.actions)) (holds_decided (in_force t.situation (action_at t.actions i)))
  where
    go : Dec (i < length t.actions) → Dec (in_force t.situation (action_at t.actions i) ≡ true) → Dec (Usable t i)
    go (yes h) (yes e) = yes (record { there = h; in_force_lem = e })
    go (yes _) (no n) = no (λ u. n u.in_force_lem)
    go (no n) _ = no (λ u. n u.there)

pub unusable_or_none : (t : Study) (list : List ℕ) → ((k : ℕ) × FirstUnusable t list k) ⊎ AllUsable t list
unusable_or_none t list = go (lowest_or_none Bad (λ k. not_decided (decided k)) (length list))
  where
    decided : (k : ℕ) → Dec (Usable t (get_or list k 0))
    decided k = usable_decided t (get_or list k 0)

    Bad : ℕ → Type 0
    Bad k = Usable t (get_or list k 0) → ⊥

    go : Lowest Bad (length list) ⊎ ((k : ℕ) → k < length list → Bad k → ⊥) → ((k : ℕ) × FirstUnusable t list k) ⊎ AllUsable t list
    go (inl l) = inl (l.who, record { there = l.below; unusable = l.has; before = λ j h. settled_by (decided j) (l.lower j h) })
    go (inr f) = inr (λ k h. settled_by (decided k) (f k h))

-- ---- 25

on_walk_decided : {t : Study} → Lawful t → (i : ℕ) → Dec (OnAWalk t i)
on_walk_decided lawful i = says_decided (says_on_walk lawful i)

module _ {t : Study} (lawful : Lawful t) (list : List ℕ) where
  amiss_decided : (i : ℕ) → Dec (Amiss t list i)
  amiss_decided i = go (dec_lt 1 (count i list)) (in_decided i list) (on_walk_decided lawful i)
    where
      none : (1 < count i list → ⊥) → (OnAWalk t i → (In i list → ⊥) → ⊥) → (In i list → (OnAWalk t i → ⊥) → ⊥) → Amiss t list i → ⊥
      none a b c (repeats h) = a h
      none a b c (missing o n) = b o n
      none a b c (on_no_walk h n) = c h n

      go : Dec (1 < count i list) → Dec (In i list) → Dec (OnAWalk t i) → Dec (Amiss t list i)
      go (yes h) _ _ = yes (repeats h)
      go (no a) (yes h) (yes o) = no (none a (λ _ n. n h) (λ _ n. n o))
      go (no a) (yes h) (no n) = yes (on_no_walk h n)
      go (no a) (no n) (yes o) = yes (missing o n)
      go (no a) (no n) (no m) = no (none a (λ o _. m o) (λ h _. n h))

  -- where each listed action may be used, those amiss are actions of the study
  module _ (usable : AllUsable t list) where
    listed_there : (i : ℕ) → In i list → i < length t.actions
    listed_there i h = let (k, (b, e)) = in_has_place i list h in rw e at (usable k b).there

    amiss_there : (i : ℕ) → Amiss t list i → i < length t.actions
    amiss_there i (repeats h) = listed_there i (counted_in i list (omega arith))
    amiss_there i (missing o n) = (on_walk_usable o).there
    amiss_there i (on_no_walk h n) = listed_there i h

    pub amiss_or_none : ((i : ℕ) × LowestAmiss t list i) ⊎ NoneAmiss t list
    amiss_or_none = go (lowest_or_none (Amiss t list) amiss_decided (length t.actions))
      where
        go : Lowest (Amiss t list) (length t.actions) ⊎ ((i : ℕ) → i < length t.actions → Amiss t list i → ⊥)
            → ((i : ℕ) × LowestAmiss t list i) ⊎ NoneAmiss t list
        go (inl l) = inl (l.who, record { amiss = l.has; lower = l.lower })
        go (inr f) = inr (λ i a. f i (amiss_there i a) a)

-- ---- 26

astray_decided : (list : List ℕ) (p : Pair) → Dec (Astray list p)
astray_decided list p = go (in_decided p.this list) (in_decided p.that list) (ℕ_discrete p.this p.that)
  where
    none : In p.this list → In p.that list → (p.this ≡ p.that → ⊥) → Astray list p → ⊥
    none h g d (this_unlisted n) = n h
    none h g d (that_unlisted n) = n g
    none h g d (itself e) = d e

    go : Dec (In p.this list) → Dec (In p.that list) → Dec (p.this ≡ p.that) → Dec (Astray list p)
    go (no n) _ _ = yes (this_unlisted n)
    go (yes _) (no n) _ = yes (that_unlisted n)
    go (yes _) (yes _) (yes e) = yes (itself e)
    go (yes h) (yes g) (no d) = no (none h g d)

pub astray_or_none : (list : List ℕ) (pairs : List Pair) → ((k : ℕ) × FirstAstray list pairs k) ⊎ NoneAstray list pairs
astray_or_none list pairs = go (lowest_or_none (λ k. Astray list (pair_at pairs k)) (λ k. astray_decided list (pair_at pairs k)) (length pairs))
  where
    go : Lowest (λ k. Astray list (pair_at pairs k)) (length pairs) ⊎ NoneAstray list pairs
        → ((k : ℕ) × FirstAstray list pairs k) ⊎ NoneAstray list pairs
    go (inl l) = inl (l.who, record { there = l.below; astray = l.has; before = l.lower })
    go (inr f) = inr f

-- ---- 27

pub circle_or_none : (pairs : List Pair) → ((x : ℕ) × InCircle pairs x) ⊎ NoCircle pairs
circle_or_none pairs = go (some_or_none (InCircle pairs) (λ x. chained_decided pairs x x) (firsts pairs))
  where
    go : ((x : ℕ) × (In x (firsts pairs) × InCircle pairs x)) ⊎ ((x : ℕ) → In x (firsts pairs) → InCircle pairs x → ⊥)
        → ((x : ℕ) × InCircle pairs x) ⊎ NoCircle pairs
    go (inl (x, (h, c))) = inl (x, c)
    go (inr f) = inr (λ x c. f x (chained_first pairs c) c)

-- ---- 28

-- a direct order that no chain of pairs gives
abbrev pub Lacks : Study → List Pair → ℕ → ℕ → Type 0
Lacks t pairs i j = Direct t i j × (Chained pairs i j → ⊥)

module _ {t : Study} (lawful : Lawful t) (pairs : List Pair) where
  lacks_decided : (i j : ℕ) → Dec (Lacks t pairs i j)
  lacks_decided i j =
      go (on_walk_decided lawful i) (on_walk_decided lawful j) (comes_before_decided t i j) (chained_decided pairs i j)
    where
      go : Dec (OnAWalk t i) → Dec (OnAWalk t j) → Dec (ComesBefore t i j) → Dec (Chained pairs i j) → Dec (Lacks t pairs i j)
      go (yes m) (yes n) (yes b) (no c) = yes (record { one = m; other = n; comes_before_lem = b }, c)
      go (yes _) (yes _) (yes _) (yes c) = no (λ l. l.1 c)
      go (yes _) (yes _) (no b) _ = no (λ l. b l.0.comes_before_lem)
      go (yes _) (no n) _ _ = no (λ l. n l.0.other)
      go (no n) _ _ _ = no (λ l. n l.0.one)

  pub lacking_or_none : ((i : ℕ) × ((j : ℕ) × LowestLacking t pairs i j)) ⊎ NoneLacking t pairs
  lacking_or_none =
      go (lowest_two_or_none (Lacks t pairs) lacks_decided (length t.actions)
      (λ i j l. (on_walk_usable l.0.one).there) (λ i j l. (on_walk_usable l.0.other).there))
    where
      chained : (i j : ℕ) → (Lacks t pairs i j → ⊥) → Direct t i j → Chained pairs i j
      chained i j n d = settled_by (chained_decided pairs i j) (λ m. n (d, m))

      go : LowestTwo (Lacks t pairs) ⊎ ((i j : ℕ) → Lacks t pairs i j → ⊥) → ((i : ℕ) × ((j : ℕ) × LowestLacking t pairs i j)) ⊎ NoneLacking t pairs
      go (inl l) = inl (
        l.one,
        (
          l.other,
          record {
            direct = l.has.0;
            unchained = l.has.1;
            lower = λ k m h d. chained k m (l.lower k m h) d;
          },
        ),
      )
      go (inr f) = inr (λ i j d. chained i j (f i j) d)
