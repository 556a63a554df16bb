-- Journeys put into the buffer, three bytes each, and step after step: what stands in front is what was made, and the rest is as it was.
-- Assumes nothing.
use mathlib.Core.Path.{◌≡◌, refl, sym, ap, ◌∙◌}
use mathlib.Core.Logic.{◌≢◌}
use mathlib.Core.Option.{some}
use mathlib.Core.List.{List, [], ◌∷◌, ◌++◌, append_assoc}
use Prim.Native.Nat.{ℕ, suc, ◌+◌, ◌≤◌, ◌<◌}
use native.Mathlib.Numerals.{add-one}
use native.Mathlib.Omega.{arith}
use lib.ListN.{length, get_or, take, drop, set, length-append}
use lib.Seq.{sets-eq, take_at, drop-drop, drop-append-add, length-take-le}
use Rattle.rides.specs.Rides.{ride}
use Rattle.rides.specs.Journeys.{Journey, step_makes, journeys_from, bytes_of}
use Rattle.rides.proofs.Bytes.{bytes_append}
use Rattle.riding.specs.Tables.{no_floor, ride_in, Placed}
use Rattle.riding.proofs.Steps.{makes_one, makes_two, same_makes, next_passed, next_ridden, none_left}

pub three-placed :
    (before : List ℕ) (at a b c : ℕ) → at + 3 ≤ length before → Placed before at (a ∷ b ∷ c ∷ []) (set (set (set before at a) (at + 1) b) (at + 2) c)
three-placed before at a b c h =
    let two : at + 2 ≡ suc (suc at) = omega arith in
    rw (add-one at, two) (sets-eq (a ∷ b ∷ c ∷ []) before at (omega arith) ∙ append_assoc (take at before) (a ∷ b ∷ c ∷ []) (drop (at + 3) before))

-- bytes behind bytes
pub placed_twice :
    (before mid after : List ℕ) (at : ℕ) (xs ys : List ℕ) → at + length xs ≤ length before
    → Placed before at xs mid → Placed mid (at + length xs) ys after → Placed before at (xs ++ ys) after
placed_twice before mid after at xs ys room p q =
    let front : List ℕ = take at before ++ xs in
    let long : length front ≡ at + length xs = omega (arith, length-append (take at before) xs, length-take-le at before (omega (arith, room))) in
    let rest = drop (at + length xs) before in
    let whole : mid ≡ front ++ rest = p ∙ sym (append_assoc (take at before) xs rest) in
    let head : take (at + length xs) mid ≡ front = ap (take (at + length xs)) whole ∙ take_at front rest (at + length xs) long in
    let tail : drop (at + length xs + length ys) mid ≡ drop (length ys) rest =
    ap (drop (at + length xs + length ys)) whole
    ∙ ap (λ (n : ℕ). drop (n + length ys) (front ++ rest)) (sym long)
    ∙ drop-append-add front rest (length ys) in
    let behind : drop (length ys) rest ≡ drop (at + length (xs ++ ys)) before =
    drop-drop (length ys) (at + length xs) before
    ∙ ap (λ (n : ℕ). drop n before) (let e : at + length xs + length ys ≡ at + length (xs ++ ys) = omega (arith, length-append xs ys) in e) in
    q
    ∙ ap (λ (l : List ℕ). l ++ (ys ++ drop (at + length xs + length ys) mid)) head
    ∙ ap (λ (l : List ℕ). front ++ (ys ++ l)) (tail ∙ behind)
    ∙ append_assoc (take at before) xs (ys ++ drop (at + length (xs ++ ys)) before)
    ∙ ap (λ (l : List ℕ). take at before ++ l) (sym (append_assoc xs ys (drop (at + length (xs ++ ys)) before)))

-- ---- one step

module _ (i from to step floor : ℕ) where
  abbrev its : List ℕ
  its = bytes_of (step_makes step floor (some (ride i from to)))

  bytes_one : floor ≡ from → its ≡ step ∷ from ∷ to ∷ []
  unfolding bytes_of
  bytes_one e = ap bytes_of (makes_one i from to step floor e)

  bytes_two : floor ≢ from → its ≡ step ∷ floor ∷ from ∷ step ∷ from ∷ to ∷ []
  unfolding bytes_of
  bytes_two n = ap bytes_of (makes_two i from to step floor n)

  module _ (before : List ℕ) (at : ℕ) where
    pub room_one : at + length its ≤ length before → floor ≡ from → at + 3 ≤ length before
    room_one h e = omega (arith, h, ap (length {A = ℕ}) (bytes_one e))

    pub room_two : at + length its ≤ length before → floor ≢ from → at + 6 ≤ length before
    room_two h n = omega (arith, h, ap (length {A = ℕ}) (bytes_two n))

    pub step_one :
        {r : ℕ} {after : List ℕ} → floor ≡ from → (r ≡ at + 3) × Placed before at (step ∷ from ∷ to ∷ []) after
        → (r ≡ at + length its) × Placed before at its after
    step_one e p = rw (bytes_one e) p

    pub step_two :
        {next r : ℕ} {mid after : List ℕ} → floor ≢ from → at + 6 ≤ length before → (next ≡ at + 3) × Placed before at (step ∷ floor ∷ from ∷ []) mid
        → (r ≡ next + 3) × Placed mid next (step ∷ from ∷ to ∷ []) after → (r ≡ at + length its) × Placed before at its after
    step_two {next} {r} {mid} {after} n room (e, p) (f, q) =
        rw (bytes_two n)
        (omega (arith, e, f), placed_twice before mid after at (step ∷ floor ∷ from ∷ []) (step ∷ from ∷ to ∷ []) (omega arith) p (rw e at q))

-- ---- step after step

-- `made` are the journeys of the first k steps, and fill the buffer up to `at`
pub record WrittenSoFar (plan froms tos : List ℕ) (start : ℕ) (before bytes : List ℕ) (floor at k : ℕ) : Type 0 where
  pub few : k ≤ length plan
  pub made : List Journey
  pub left : made ++ journeys_from (ride_in froms tos) k floor (drop k plan) ≡ journeys_from (ride_in froms tos) 0 start plan
  pub ends : at ≡ length (bytes_of made)
  pub placed : Placed before 0 (bytes_of made) bytes
  pub long : length bytes ≡ length before

pub none_written : {plan froms tos : List ℕ} {start : ℕ} {before : List ℕ} → WrittenSoFar plan froms tos start before before start 0 0
unfolding bytes_of
none_written {before = before} = record { few = omega arith; made = []; left = refl; ends = refl; placed = refl; long = refl }

module _ {plan froms tos : List ℕ} {start : ℕ} {before bytes : List ℕ} {floor at k : ℕ} (w : WrittenSoFar plan froms tos start before bytes floor at k)
    (room : length (bytes_of (journeys_from (ride_in froms tos) 0 start plan)) ≤ length before) where
  module _ (h : k < length plan) {i : ℕ} (is : i ≡ get_or plan k 0) where
    pub one_passed : get_or froms i 0 ≡ no_floor → WrittenSoFar plan froms tos start before bytes floor at (k + 1)
    one_passed e = record {
      few = omega arith;
      made = w.made;
      left = ap (λ (l : List Journey). w.made ++ l) (sym (next_passed froms tos plan k floor i h is e)) ∙ w.left;
      ends = w.ends;
      placed = w.placed;
      long = w.long;
    }

    module _ (d : get_or froms i 0 ≢ no_floor) where
      abbrev here : List Journey
      here = step_makes k floor (some (ride i (get_or froms i 0) (get_or tos i 0)))

      abbrev rest : List Journey
      rest = journeys_from (ride_in froms tos) (k + 1) (get_or tos i 0) (drop (k + 1) plan)

      split : (w.made ++ here) ++ rest ≡ journeys_from (ride_in froms tos) 0 start plan
      split =
          append_assoc w.made here rest
          ∙ ap (λ (l : List Journey). w.made ++ l) (sym (next_ridden froms tos plan k floor i h is d))
          ∙ w.left

      fits : length (bytes_of w.made) + length (bytes_of here) ≤ length before
      fits =
          omega (
            arith,
            room,
            ap (λ (l : List Journey). length (bytes_of l)) split,
            ap (length {A = ℕ}) (bytes_append (w.made ++ here) rest),
            length-append (bytes_of (w.made ++ here)) (bytes_of rest),
            ap (length {A = ℕ}) (bytes_append w.made here),
            length-append (bytes_of w.made) (bytes_of here),
          )

      room_here : at + length (bytes_of here) ≤ length bytes
      room_here = omega (arith, fits, w.ends, w.long)

      -- the action's number stands in no journey
      pub room_any : (j : ℕ) → at + length (bytes_of (step_makes k floor (some (ride j (get_or froms i 0) (get_or tos i 0))))) ≤ length bytes
      room_any j = rw (same_makes k floor (get_or froms i 0) (get_or tos i 0) j i) room_here

      pub one_written :
          {then : List ℕ} {at-then : ℕ} → at-then ≡ at + length (bytes_of here) → Placed bytes at (bytes_of here) then → length then ≡ length bytes
          → WrittenSoFar plan froms tos start before then (get_or tos i 0) at-then (k + 1)
      one_written {then} {at-then} is_at p same = record {
        few = omega arith;
        made = w.made ++ here;
        left = split;
        ends = omega (arith, is_at, w.ends, ap (length {A = ℕ}) (bytes_append w.made here), length-append (bytes_of w.made) (bytes_of here));
        placed =
            rw (bytes_append w.made here)
            (placed_twice before bytes then 0 (bytes_of w.made) (bytes_of here) (omega (arith, fits)) w.placed
            (rw (let e : 0 + length (bytes_of w.made) ≡ at = omega (arith, w.ends) in e) p));
        long = same ∙ w.long;
      }

  pub all_written : length plan ≤ k → Placed before 0 (bytes_of (journeys_from (ride_in froms tos) 0 start plan)) bytes
  all_written h =
      let e : w.made ≡ journeys_from (ride_in froms tos) 0 start plan =
      sym (append_none w.made) ∙ ap (λ (l : List Journey). w.made ++ l) (sym (none_left (ride_in froms tos) plan k floor h)) ∙ w.left in
      rw (← e) w.placed
    where
      append_none : (l : List Journey) → l ++ [] ≡ l
      append_none [] = refl
      append_none (j ∷ l) = ap (λ (m : List Journey). j ∷ m) (append_none l)
