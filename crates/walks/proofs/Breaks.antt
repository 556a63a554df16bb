-- Without a walk the trace breaks off at one value or comes round, and not both; with a walk it does neither.
-- Assumes nothing.
use Prim.Native.Nat.{ℕ, zero, suc, ◌+◌, ◌-◌, ◌≤◌}
use native.Mathlib.Omega.{arith}
use mathlib.Core.Path.{◌≡◌, refl, sym, ap, ◌∙◌}
use mathlib.Core.Logic.{inl, inr, ◌↔◌}
use mathlib.Core.List.{List, [], ◌∷◌, ◌++◌}
use lib.ListN.{length, length-append}
use Rattle.study.specs.Study.{Study}
use Rattle.lawful.specs.Lawful.{Lawful}
use Rattle.orders.specs.Orders.{In, Distinct}
use Rattle.orders.proofs.Lists.{in_decided, in_append_cases}
use Rattle.walks.specs.Walks.{pre_of, post_of, goal_of, Walk}
use Rattle.walks.specs.Breaks.{Trail, Back, BreaksAt, ComesRound, Breaks, unset, round}
use Rattle.walks.specs.Traces.{Trace, breaks, comes_round, traced_back, break_in, break_of}
use Rattle.walks.proofs.Leads.{leads_joined}
use Rattle.walks.proofs.Traces.{Tells, met, unset as unset-there, round as round-there, trace_tells, goes_back, breaks_off, way_traced}

-- a trail, cut where an action was passed
record Cut (t : Study) (v p x q : ℕ) : Type 0 where
  before : List ℕ
  after : List ℕ
  to : Trail t v p before (pre_of t x)
  from : Trail t v (pre_of t x) (x ∷ after) q

module _ {t : Study} {v : ℕ} where
  pub trail_joined : {p m q : ℕ} {xs ys : List ℕ} → Trail t v p xs m → Trail t v m ys q → Trail t v p (xs ++ ys) q
  trail_joined {p} {m} {q} {xs} {ys} a b =
      record {
        leads = leads_joined t v p xs m ys q a.leads b.leads;
        new = λ i h. elim (in_append_cases i xs ys h) [ inl g ↦ a.new i g | inr g ↦ b.new i g ];
      }

  pub trail_tail : {p x q : ℕ} {xs : List ℕ} → Trail t v p (x ∷ xs) q → Trail t v (post_of t x) xs q
  trail_tail a = record { leads = a.leads.1.1.1; new = λ i h. a.new i (inr h) }

  -- ---- a trail that passes an action twice comes round

  trail_cut : (p : ℕ) (xs : List ℕ) (x q : ℕ) → Trail t v p xs q → In x xs → Cut t v p x q
  trail_cut p [] x q a h = absurd h
  trail_cut p (y ∷ ys) x q a (inl e) =
      let f : pre_of t x ≡ p = rw e a.leads.1.1.0 in
      record { before = []; after = ys; to = record { leads = sym f; new = λ i h. absurd h }; from = rw (f, e) a }
  trail_cut p (y ∷ ys) x q a (inr h) = longer (trail_cut (post_of t y) ys x q (trail_tail a) h)
    where
      longer : Cut t v (post_of t y) x q → Cut t v p x q
      longer c = record {
        before = y ∷ c.before;
        after = c.after;
        to = record {
          leads = (a.leads.0, (a.leads.1.0, (a.leads.1.1.0, c.to.leads)));
          new = λ i g. elim g [ inl e ↦ a.new i (inl e) | inr k ↦ c.to.new i k ];
        };
        from = c.from;
      }

  pub twice_round : (p : ℕ) (found : List ℕ) → Back t v p found → (Distinct found → ⊥) → ComesRound t v
  twice_round p [] back n = absurd (n tt)
  twice_round p (x ∷ rest) back n = go (in_decided x rest) (twice_round (post_of t x) rest (trail_tail back))
    where
      go : Dec (In x rest) → ((Distinct rest → ⊥) → ComesRound t v) → ComesRound t v
      go (no h) on = on (λ d. n (h, d))
      go (yes h) on =
          let c = trail_cut (post_of t x) rest x (goal_of t v) (trail_tail back) h in
          record {
            value = pre_of t x;
            passed = x ∷ c.after;
            back = c.from;
            first = x;
            others = c.before;
            circle = record {
              leads = (back.leads.0, (back.leads.1.0, (refl, c.to.leads)));
              new = λ i g. elim g [ inl e ↦ back.new i (inl e) | inr k ↦ c.to.new i k ];
            };
          }

  -- ---- every trace that may pass enough actions says the same

  module _ (lawful : Lawful t) where
    trail_traced :
        (n p : ℕ) (passed : List ℕ) (q : ℕ) (found : List ℕ) → Trail t v p passed q
        → traced_back t v (length passed + n) q found ≡ traced_back t v n p (passed ++ found)
    trail_traced n p [] q found a = let e : length {A = ℕ} [] + n ≡ n = omega arith in rw (e, a.leads)
    trail_traced n p (x ∷ xs) q found a =
        let e : suc (length xs) + n ≡ length xs + suc n = omega arith in
        rw e (trail_traced (suc n) (post_of t x) xs q found (trail_tail a))
        ∙ goes_back t v lawful n x (xs ++ found) a.leads.0 a.leads.1.0 (a.new x (inl refl))
        ∙ ap (λ (m : ℕ). traced_back t v n m (x ∷ xs ++ found)) a.leads.1.1.0

    break_traced : {q : ℕ} (b : BreaksAt t v q) (n : ℕ) → traced_back t v (length b.passed + suc n) (goal_of t v) [] ≡ breaks q
    break_traced {q} b n =
        trail_traced (suc n) q b.passed (goal_of t v) [] b.back ∙ breaks_off t v n q (b.passed ++ []) b.off b.unset

    -- a trace that comes round passes as many actions as one likes
    pumped : (c : ComesRound t v) (k : ℕ) → (list : List ℕ) × (Back t v c.value list × (k ≤ length list))
    pumped c zero = (c.passed, (c.back, omega arith))
    pumped c (suc k) =
        let (list, (back, long)) = pumped c k in
        ((c.first ∷ c.others) ++ list, (trail_joined c.circle back, omega (arith, long, length-append (c.first ∷ c.others) list)))

    round_traced : (c : ComesRound t v) (k : ℕ) → (n : ℕ) × ((k ≤ n) × (traced_back t v n (goal_of t v) [] ≡ comes_round))
    unfolding traced_back
    round_traced c k =
        let (list, (back, long)) = pumped c k in
        (length list + 0, (omega arith, trail_traced 0 c.value list (goal_of t v) [] back))

    break_from : {q : ℕ} (b : BreaksAt t v q) (n : ℕ) → suc (length b.passed) ≤ n → traced_back t v n (goal_of t v) [] ≡ breaks q
    break_from b n h =
        let e : n ≡ length b.passed + suc (n - suc (length b.passed)) = omega arith in
        rw e (break_traced b (n - suc (length b.passed)))

    -- ---- the theorem

    -- the value where it breaks off is one only
    pub breaks_at_one : {p q : ℕ} → BreaksAt t v p → BreaksAt t v q → p ≡ q
    breaks_at_one {p} {q} a b =
        let n : ℕ = suc (length a.passed + length b.passed) in
        let e = break_from a n (omega arith) in
        let f = break_from b n (omega arith) in
        cc

    pub breaks_or_round : {q : ℕ} → BreaksAt t v q → ComesRound t v → ⊥
    breaks_or_round b c =
        let (n, (long, e)) = round_traced c (suc (length b.passed)) in
        let f = break_from b n long in
        let z : ◌≡◌ {A = ℕ} 0 1 = cc in
        omega arith

    -- with a walk the trace neither breaks off nor comes round
    pub walk_unbroken : {w : List ℕ} {q : ℕ} → Walk t v w → BreaksAt t v q → ⊥
    walk_unbroken {w} walk b =
        let n : ℕ = suc (length b.passed + length w) in
        let e = way_traced t v lawful n (goal_of t v) w [] walk (omega arith) in
        let f = break_from b n (omega arith) in
        let z : ◌≡◌ {A = ℕ} 0 1 = cc in
        omega arith

    pub walk_not_round : {w : List ℕ} → Walk t v w → ComesRound t v → ⊥
    walk_not_round {w} walk c =
        let (n, (long, e)) = round_traced c (suc (length w)) in
        let f = way_traced t v lawful n (goal_of t v) w [] walk (omega arith) in
        let z : ◌≡◌ {A = ℕ} 0 1 = cc in
        omega arith

    -- one number only, as the two exclude each other
    pub breaks_determined : {a b : ℕ} → Breaks t v a → Breaks t v b → a ≡ b
    breaks_determined (unset a) (unset b) = breaks_at_one a b
    breaks_determined (unset a) (round c) = absurd (breaks_or_round a c)
    breaks_determined (round c) (unset b) = absurd (breaks_or_round b c)
    breaks_determined (round c) (round d) = refl

    pub walk_never_breaks : {w : List ℕ} {b : ℕ} → Walk t v w → Breaks t v b → ⊥
    walk_never_breaks walk (unset b) = walk_unbroken walk b
    walk_never_breaks walk (round c) = walk_not_round walk c

  -- without a walk one of the two holds
  pub without_walk_breaks : ((w : List ℕ) → Walk t v w → ⊥) → Breaks t v (break_of t v)
  unfolding break_of
  without_walk_breaks none = go (trace_tells t v)
    where
      go : {r : Trace} → Tells t v r → Breaks t v (break_in r)
      go (met walk) = absurd (none _ walk)
      go (unset-there b) = unset b
      go (round-there back twice) = round (twice_round _ _ back twice)

  -- .. and so has one where it breaks exactly if there is none
  pub breaks_without_walk : Lawful t → (((w : List ℕ) → Walk t v w → ⊥) ↔ ((b : ℕ) × Breaks t v b))
  breaks_without_walk lawful = (λ none. (break_of t v, without_walk_breaks none), λ (b, broken) w walk. walk_never_breaks lawful walk broken)
