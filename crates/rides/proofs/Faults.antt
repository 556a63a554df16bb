-- What is told of a list of rides, exactly: the first ride that is cut short or breaks a rule, with the number of the first rule that it breaks; or that each is in order.
-- Assumes nothing.
use mathlib.Core.Path.{◌≡◌, refl, sym, ap, subst, ◌∙◌}
use mathlib.Core.Logic.{◌⊎◌, inl, inr, ◌≢◌, ◌↔◌}
use mathlib.Core.Bool.{Bool, true, false, ◌&&◌, ◌||◌, true≢false}
use mathlib.Core.Option.{Option, none, some}
use mathlib.Core.List.{List, [], ◌∷◌}
use Prim.Native.Nat.{ℕ, zero, suc, ◌+◌, ◌≤◌, ◌<◌}
use native.Mathlib.Omega.{arith}
use native.Mathlib.Decide.{ℕ_discrete}
use lib.Dec.{eqb, leb}
use lib.ListN.{length}
use borrow.Author.Tests.{eqb-true, eqb-false, eq-eqb, leb-true, leb-false, le-leb, lt-leb}
use Rattle.plain.proofs.Tests.{picked, either}
use Rattle.answer.specs.Answers.{refusal}
use Rattle.answer.specs.declared.Answer.{Answer}
use Rattle.ranking.specs.Ranking.{among}
use Rattle.rides.specs.Rides.{Ride, rides_of, cut_short_lem, highest, is_floor, wrong_with_lem, unless_wrong, fault_from, ride_fault, fault_of}
use Rattle.rides.specs.Words.{ride_at, Again, ActionThere, OnFloors, Leads, InOrder, Fault, cut_short, not_there, no_floor_lem, own_floor, second_ride, FirstFault, AllInOrder}

-- ---- faults exclude one another

not_both : {actions k n : ℕ} {bytes : List ℕ} → Fault actions bytes k n → InOrder actions (rides_of bytes) k → ⊥
not_both (cut_short c e) o = omega (arith, o.leads.floors.action.whole)
not_both (not_there w h) o = omega (arith, o.leads.floors.action.there)
not_both (no_floor_lem a (inl h)) o = omega (arith, o.leads.floors.from_floor)
not_both (no_floor_lem a (inr h)) o = omega (arith, o.leads.floors.to_floor)
not_both (own_floor f e) o = o.leads.elsewhere e
not_both (second_ride l a) o = o.first a

-- .. and a ride that breaks one breaks no other first
pub one_number : {actions k n m : ℕ} {bytes : List ℕ} → Fault actions bytes k n → Fault actions bytes k m → n ≡ m
one_number (cut_short c e) (cut_short _ _) = refl
one_number (cut_short c e) (not_there w h) = absurd (omega arith)
one_number (cut_short c e) (no_floor_lem a h) = absurd (omega (arith, a.whole))
one_number (cut_short c e) (own_floor f h) = absurd (omega (arith, f.action.whole))
one_number (cut_short c e) (second_ride l a) = absurd (omega (arith, l.floors.action.whole))
one_number (not_there w h) (cut_short c e) = absurd (omega arith)
one_number (not_there w h) (not_there _ _) = refl
one_number (not_there w h) (no_floor_lem a _) = absurd (omega (arith, a.there))
one_number (not_there w h) (own_floor f _) = absurd (omega (arith, f.action.there))
one_number (not_there w h) (second_ride l _) = absurd (omega (arith, l.floors.action.there))
one_number (no_floor_lem a h) (cut_short c e) = absurd (omega (arith, a.whole))
one_number (no_floor_lem a h) (not_there w g) = absurd (omega (arith, a.there))
one_number (no_floor_lem a h) (no_floor_lem _ _) = refl
one_number (no_floor_lem a (inl h)) (own_floor f e) = absurd (omega (arith, f.from_floor))
one_number (no_floor_lem a (inr h)) (own_floor f e) = absurd (omega (arith, f.to_floor))
one_number (no_floor_lem a (inl h)) (second_ride l g) = absurd (omega (arith, l.floors.from_floor))
one_number (no_floor_lem a (inr h)) (second_ride l g) = absurd (omega (arith, l.floors.to_floor))
one_number (own_floor f e) (cut_short c g) = absurd (omega (arith, f.action.whole))
one_number (own_floor f e) (not_there w h) = absurd (omega (arith, f.action.there))
one_number (own_floor f e) (no_floor_lem a (inl h)) = absurd (omega (arith, f.from_floor))
one_number (own_floor f e) (no_floor_lem a (inr h)) = absurd (omega (arith, f.to_floor))
one_number (own_floor f e) (own_floor _ _) = refl
one_number (own_floor f e) (second_ride l a) = absurd (l.elsewhere e)
one_number (second_ride l a) (cut_short c e) = absurd (omega (arith, l.floors.action.whole))
one_number (second_ride l a) (not_there w h) = absurd (omega (arith, l.floors.action.there))
one_number (second_ride l a) (no_floor_lem b (inl h)) = absurd (omega (arith, l.floors.from_floor))
one_number (second_ride l a) (no_floor_lem b (inr h)) = absurd (omega (arith, l.floors.to_floor))
one_number (second_ride l a) (own_floor f e) = absurd (l.elsewhere e)
one_number (second_ride l a) (second_ride _ _) = refl

-- a fault has a number
pub fault_numbered : {actions k n : ℕ} {bytes : List ℕ} → Fault actions bytes k n → 1 ≤ n
fault_numbered (cut_short c e) = omega arith
fault_numbered (not_there w h) = omega arith
fault_numbered (no_floor_lem a h) = omega arith
fault_numbered (own_floor f e) = omega arith
fault_numbered (second_ride l a) = omega arith

-- what an answer says, if there is one
abbrev number_in : Option Answer → ℕ
number_in none = 0
number_in (some r) = r.number

abbrev first_in : Option Answer → ℕ
first_in none = 0
first_in (some r) = r.first

-- ---- one ride

-- the actions of the rides before k are the earlier ones
record Earlier (rides : List Ride) (earlier : List ℕ) (k : ℕ) : Type 0 where
  all : (j : ℕ) → j < k → among earlier (ride_at rides j).action ≡ true
  only : (x : ℕ) → among earlier x ≡ true → (j : ℕ) × ((j < k) × ((ride_at rides j).action ≡ x))

none_earlier : {rides : List Ride} → Earlier rides [] 0
unfolding among
none_earlier = record { all = λ j h. absurd (omega arith); only = λ x h. absurd (true≢false (sym h)) }

one_earlier : {rides : List Ride} {earlier : List ℕ} {k : ℕ} → Earlier rides earlier k → Earlier rides ((ride_at rides k).action ∷ earlier) (k + 1)
unfolding among
one_earlier {rides} {earlier} {k} e = record {
  all = λ j h. there j h (ℕ_discrete j k);
  only = λ x h. back x (either (eqb (ride_at rides k).action x) (among earlier x) h);
}
  where
    or_true : (b : Bool) → (b || true) ≡ true
    or_true true = refl
    or_true false = refl

    there : (j : ℕ) → j < k + 1 → Dec (j ≡ k) → (eqb (ride_at rides k).action (ride_at rides j).action || among earlier (ride_at rides j).action) ≡ true
    there j h (yes f) = rw (f, eq-eqb (ride_at rides k).action (ride_at rides k).action refl)
    there j h (no d) = rw (e.all j (omega arith)) (or_true (eqb (ride_at rides k).action (ride_at rides j).action))

    back : (x : ℕ) → (eqb (ride_at rides k).action x ≡ true) ⊎ (among earlier x ≡ true) → (j : ℕ) × ((j < k + 1) × ((ride_at rides j).action ≡ x))
    back x (inl f) = (k, (omega arith, eqb-true (ride_at rides k).action x f))
    back x (inr f) = let (j, (b, g)) = e.only x f in (j, (omega arith, g))

abbrev Judged : ℕ → List ℕ → ℕ → ℕ → Type 0
Judged actions bytes k zero = InOrder actions (rides_of bytes) k
Judged actions bytes k (suc n) = Fault actions bytes k (suc n)

not_floors : (a b : Bool) → (a && b) ≡ false → (a ≡ false) ⊎ (b ≡ false)
not_floors true b e = inr e
not_floors false b e = inl refl

both_floors : (a b : Bool) → (a && b) ≡ true → (a ≡ true) × (b ≡ true)
both_floors true b e = (refl, e)
both_floors false b e = absurd (true≢false (sym e))

module _ (actions : ℕ) (bytes : List ℕ) where
  abbrev listed : List Ride
  listed = rides_of bytes

  ride_judged :
      (earlier : List ℕ) (k : ℕ) → k < length listed → Earlier listed earlier k
      → Judged actions bytes k (wrong_with_lem actions (among earlier (ride_at listed k).action) (ride_at listed k))
  unfolding wrong_with_lem
  ride_judged earlier k whole e =
      picked (Judged actions bytes k) (leb actions r.action) (λ h. not_there whole (leb-true actions r.action h))
      λ there-test.
      let there : ActionThere actions listed k = record { whole = whole; there = leb-false actions r.action there-test } in
      picked (Judged actions bytes k) (is_floor r.from && is_floor r.to)
      (λ h.
      let (f, g) = both_floors (is_floor r.from) (is_floor r.to) h in
      let floors : OnFloors actions listed k = record { action = there; from_floor = leb-true r.from highest f; to_floor = leb-true r.to highest g } in
      picked (Judged actions bytes k) (eqb r.from r.to) (λ h. own_floor floors (eqb-true r.from r.to h))
      λ h.
      let leads : Leads actions listed k = record { floors = floors; elsewhere = eqb-false r.from r.to h } in
      picked (Judged actions bytes k) (among earlier r.action) (λ h. second_ride leads (e.only r.action h))
      λ h. record { leads = leads; first = λ a. true≢false (sym (again a) ∙ h) })
      λ h. no_floor_lem there (which (not_floors (is_floor r.from) (is_floor r.to) h))
    where
      r : Ride
      r = ride_at listed k

      again : Again listed k → among earlier r.action ≡ true
      again (j, (b, f)) = rw (← f) (e.all j b)

      which : (is_floor r.from ≡ false) ⊎ (is_floor r.to ≡ false) → (highest < r.from) ⊎ (highest < r.to)
      which (inl h) = inl (leb-false r.from highest h)
      which (inr h) = inr (leb-false r.to highest h)

  -- ---- the list

  pub data Tells : Option Answer → Type 0 where
    faulty : {n k : ℕ} → FirstFault actions bytes n k → Tells (some (refusal n k))
    sound : AllInOrder actions bytes → Tells none

  one_more : {k : ℕ} → ((j : ℕ) → j < k → InOrder actions listed j) → InOrder actions listed k → (j : ℕ) → j < k + 1 → InOrder actions listed j
  one_more {k} before here j h = go (ℕ_discrete j k)
    where
      go : Dec (j ≡ k) → InOrder actions listed j
      go (yes e) = rw e here
      go (no d) = before j (omega arith)

  by_number :
      (n k : ℕ) (rest : Option Answer) → Judged actions bytes k n → ((j : ℕ) → j < k → InOrder actions listed j)
      → (InOrder actions listed k → Tells rest) → Tells (unless_wrong n k rest)
  by_number zero k rest o before f = f o
  by_number (suc n) k rest o before f = faulty (record { fault = o; before = before })

  tells_from :
      (earlier : List ℕ) (k : ℕ) (rest : List Ride) → k + length rest ≡ length listed → ((i : ℕ) → ride_at rest i ≡ ride_at listed (k + i))
      → Earlier listed earlier k → ((j : ℕ) → j < k → InOrder actions listed j)
      → Tells (fault_from actions (cut_short_lem bytes) earlier k rest)
  unfolding fault_from
  tells_from earlier k [] all same e before =
      let end : k ≡ length listed = omega arith in
      picked Tells (cut_short_lem bytes) (λ c. faulty (record { fault = cut_short c end; before = before }))
      λ c. sound (record { whole = c; each = λ j h. before j (omega arith) })
  tells_from earlier k (r ∷ rest) all same e before =
      by_number (wrong_with_lem actions (among earlier r.action) r) k (fault_from actions (cut_short_lem bytes) (r.action ∷ earlier) (k + 1) rest)
      (rw (← here) at (ride_judged earlier k (omega arith) e))
      before
      (λ o.
      tells_from (r.action ∷ earlier) (k + 1) rest (omega arith) (λ i. same (suc i) ∙ ap (ride_at listed) (omega arith))
      (subst (λ (x : Ride). Earlier listed (x.action ∷ earlier) (k + 1)) (sym here) (one_earlier e))
      (one_more before o))
    where
      here : r ≡ ride_at listed k
      here = same 0 ∙ ap (ride_at listed) (omega arith)

  pub tells : Tells (ride_fault actions bytes)
  tells = tells_from [] 0 listed (omega arith) (λ i. ap (ride_at listed) (omega arith)) none_earlier (λ j h. absurd (omega arith))

  -- ---- exactly

  first_same : {n k m j : ℕ} → FirstFault actions bytes n k → FirstFault actions bytes m j → (n ≡ m) × (k ≡ j)
  first_same {n} {k} {m} {j} a b =
      let e : k ≡ j = omega (arith, below a b, below b a) in
      let c : Fault actions bytes k m = rw e b.fault in
      (one_number a.fault c, e)
    where
      below : {n k m j : ℕ} → FirstFault actions bytes n k → FirstFault actions bytes m j → k < j → ⊥
      below {n} {k} a b h = not_both a.fault (b.before k h)

  tells_first : {o : Option Answer} → Tells o → (n k : ℕ) → o ≡ some (refusal n k) → FirstFault actions bytes n k
  tells_first (faulty {n = m} {k = j} f) n k e =
      let z : m ≡ n = ap number_in e in
      let w : j ≡ k = ap first_in e in
      rw (z, w) at f
  tells_first (sound s) n k e = let z : ◌≡◌ {A = ℕ} 0 1 = cc in absurd (omega arith)

  none_at_fault : {n k : ℕ} → AllInOrder actions bytes → Fault actions bytes k n → ⊥
  none_at_fault s (cut_short c e) = true≢false (sym c ∙ s.whole)
  none_at_fault s (not_there w h) = not_both (not_there w h) (s.each _ w)
  none_at_fault s (no_floor_lem a h) = not_both (no_floor_lem a h) (s.each _ a.whole)
  none_at_fault s (own_floor f e) = not_both (own_floor f e) (s.each _ f.action.whole)
  none_at_fault s (second_ride l a) = not_both (second_ride l a) (s.each _ l.floors.action.whole)

  first_tells : {o : Option Answer} → Tells o → (n k : ℕ) → FirstFault actions bytes n k → o ≡ some (refusal n k)
  first_tells (faulty f) n k g = let (e, h) = first_same f g in rw (e, h)
  first_tells (sound s) n k g = absurd (none_at_fault s g.fault)

  -- refused with a number at a ride exactly if that is the first at fault, and that the number of its fault
  pub refused_exactly : (n k : ℕ) → (ride_fault actions bytes ≡ some (refusal n k)) ↔ FirstFault actions bytes n k
  refused_exactly n k = (tells_first tells n k, first_tells tells n k)

  -- not refused exactly if each is in order
  pub in_order_exactly : (ride_fault actions bytes ≡ none) ↔ AllInOrder actions bytes
  in_order_exactly = (λ e. from tells e, λ s. to tells s)
    where
      from : {o : Option Answer} → Tells o → o ≡ none → AllInOrder actions bytes
      from (faulty f) e = let z : ◌≡◌ {A = ℕ} 0 1 = cc in absurd (omega arith)
      from (sound s) e = s

      to : {o : Option Answer} → Tells o → AllInOrder actions bytes → o ≡ none
      to (faulty {n = n} {k = k} f) s =
          absurd (none_at_fault s f.fault)
      to (sound _) s = refl

  -- ---- the start floor comes first

  pub start_refused : (start : ℕ) → highest < start → fault_of actions bytes start ≡ some (refusal 5 (length (rides_of bytes)))
  unfolding fault_of
  start_refused start h = rw (lt-leb start highest h)

  pub start_on_floor : (start : ℕ) → start ≤ highest → fault_of actions bytes start ≡ ride_fault actions bytes
  unfolding fault_of
  start_on_floor start h = rw (le-leb start highest h)
