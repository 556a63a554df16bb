-- What comes directly before an action that is on or after a ring: who sets what it leaves, who sets what it wants, and who wants what it leaves. The table of setters names the first two, since a walk has each such value.
-- Assumes nothing.
use mathlib.Core.Path.{◌≡◌, refl, sym, ap, ◌∙◌}
use mathlib.Core.Logic.{◌⊎◌, inl, inr, ◌≢◌}
use mathlib.Core.Bool.{true}
use mathlib.Core.List.{List}
use Prim.Native.Nat.{ℕ, ◌+◌, ◌*◌, ◌<◌}
use native.Mathlib.Omega.{arith}
use native.Mathlib.Decide.{dec_lt}
use lib.ListN.{length, get_or}
use Rattle.bits.specs.Bits.{within, LeastMember}
use Rattle.bits.proofs.Members.{not_both}
use Rattle.study.specs.Study.{Study}
use Rattle.lawful.specs.Lawful.{Lawful}
use Rattle.plans.specs.Plans.{Usable}
use Rattle.orders.specs.Orders.{In}
use Rattle.orders.proofs.Lists.{in_has_place}
use Rattle.walks.specs.Walks.{var_of, pre_of, post_of, start_of, OnAWalk, ValueOnWalk}
use Rattle.walks.proofs.Leads.{leads_in, on_walk_usable}
use Rattle.walks.proofs.Ways.{way_cut, way_shorter}
use Rattle.tracing.proofs.Setters.{names_usable}
use Rattle.explained.specs.Rings.{Stuck}
use Rattle.explained.specs.Wanters.{Sets}
use Rattle.explained.proofs.Rings.{stuck_on}
use Rattle.ringing.specs.Stranded.{Stranded}

module _ {t : Study} where
  pub stuck_on_walk : {i : ℕ} → Stuck t i → OnAWalk t i
  stuck_on_walk s = stuck_on t s

  pub stuck_there : {i : ℕ} → Stuck t i → i < length t.actions
  stuck_there s = (on_walk_usable (stuck_on_walk s)).there

  pub stuck_small : Lawful t → {i : ℕ} → Stuck t i → i < 256
  stuck_small lawful s = omega (arith, lawful.few_actions, stuck_there s)

  -- an action of a walk does not set the start
  pub sets_no_start : {i v q : ℕ} → OnAWalk t i → var_of t i ≡ v → post_of t i ≡ q → q ≢ start_of t v
  sets_no_start {i} on e f z = on.walk.ends_at_start i on.on (f ∙ z ∙ ap (start_of t) (sym e))

-- an action in force that sets a variable to a value
pub record SetBy (t : Study) (v q i : ℕ) : Type 0 where
  pub usable : Usable t i
  pub var : var_of t i ≡ v
  pub post : post_of t i ≡ q

module _ {t : Study} where
  -- what is left is the start, or is set
  pub left_is_set : {j : ℕ} → OnAWalk t j → pre_of t j ≢ start_of t (var_of t j) → (i : ℕ) × SetBy t (var_of t j) (pre_of t j) i
  left_is_set {j} on off =
      let (k, (h, e)) = in_has_place j on.list on.on in
      let s = way_shorter off (rw e at (way_cut on.walk k h)) in
      (s.last, record { usable = s.usable; var = s.var; post = s.post })

  -- .. and so is what is on a walk
  pub value_is_set : {v q : ℕ} → ValueOnWalk t v q → q ≢ start_of t v → (i : ℕ) × SetBy t v q i
  value_is_set {v} {q} on off = from on.value
    where
      from : (q ≡ start_of t v) ⊎ ((i : ℕ) × (In i on.list × (post_of t i ≡ q))) → (i : ℕ) × SetBy t v q i
      from (inl e) = absurd (off e)
      from (inr (i, (h, e))) =
          let (u, f) = leads_in t v _ on.list _ on.walk.leads i h in
          (i, record { usable = u; var = f; post = e })

-- the table of setters names whoever sets a value
pub set_by_named :
    {file firsts setters : List ℕ} {sets : Sets} {left : List ℕ} {t : Study} → Stranded file firsts setters sets left t
    → {v q i : ℕ} → SetBy t v q i → get_or setters (16 * v + q) 0 ≡ i
set_by_named {setters = setters} s {i = i} set = names_usable setters refl s.names i set.usable set.var set.post

-- the least that is left is the lowest on or after a ring
pub least_left_is_lowest :
    {file firsts setters : List ℕ} {sets : Sets} {left : List ℕ} {t : Study} → Stranded file firsts setters sets left t
    → {i r : ℕ} → Stuck t i → LeastMember left r → Stuck t r × ((k : ℕ) → k < r → Stuck t k → ⊥)
least_left_is_lowest {left = left} {t = t} s {i} {r} stuck least = ((s.left_are r small).0 (least.there small), none_below)
  where
    is_left : {k : ℕ} → Stuck t k → within left k ≡ true
    is_left {k} b = (s.left_are k (stuck_small s.lawful b)).1 b

    none_below : (k : ℕ) → k < r → Stuck t k → ⊥
    none_below k h b = not_both (is_left b) (least.none_below k h)

    from : Dec (i < r) → r < 256
    from (yes h) = absurd (none_below i h stuck)
    from (no n) = omega (arith, stuck_small s.lawful stuck)

    small : r < 256
    small = from (dec_lt i r)
