-- The least open rank: if there is none, no next action is ready; else its action is ready and of least rank, or its variable waits.
-- Assumes nothing.
use mathlib.Core.Path.{◌≡◌, refl, sym, ap, subst, ◌∙◌}
use mathlib.Core.Logic.{◌⊎◌, inl, inr}
use mathlib.Core.Bool.{true, ◌||◌, or-true}
use mathlib.Core.List.{List}
use Prim.Native.Nat.{ℕ, ◌+◌, ◌*◌, ◌≤◌, ◌<◌}
use native.Mathlib.Omega.{arith}
use native.Mathlib.Decide.{ℕ_discrete, dec_lt}
use lib.Dec.{eqb}
use lib.ListN.{get_or, set, length-set}
use lib.Seq.{get_or-set_same, get_or-set_other}
use borrow.Author.Tests.{eq-eqb, ne_eqb}
use Rattle.std.specs.Prelude.{Some, None}
use Rattle.bits.specs.Bits.{bit, within, LeastMember, Removed}
use Rattle.bits.proofs.Members.{not_both, removed_gone, removed_keeps, removed_only}
use Rattle.opening.specs.Conditions.{HoldUpTo, FirstOpen}
use Rattle.choosing.specs.Choosing.{LooksReady, Chosen, Guarded}
use Rattle.choosing.specs.OpenRight.{Free, Owner, Waits, Asleep, OpenRight}
use Rattle.choosing.proofs.Looking.{rank_below, rank_tells, action_tells, one_action_lem, one_variable}

module _ {file vars places manys steps state ranks room : List ℕ} {n : ℕ} {held : List ℕ}
    (guarded : Guarded file vars places manys steps state ranks room n held)
    {wants opened waiting : List ℕ} (right : OpenRight ranks file places manys steps wants state opened waiting n) where
  looks_free : {v i : ℕ} → v < n → LooksReady file places manys steps wants state v i → Free steps wants state n v i
  looks_free h looks = record { below = h; next = looks.next; unwanted = looks.unwanted }

  -- who looks ready is open
  pub ready_open : {v i : ℕ} → v < n → LooksReady file places manys steps wants state v i → within opened (get_or ranks i 0) ≡ true
  ready_open {v} {i} h looks = go (right.open_or_waits v i (looks_free h looks))
    where
      go : (within opened (get_or ranks i 0) ≡ true) ⊎ Waits file places manys state waiting v i → within opened (get_or ranks i 0) ≡ true
      go (inl o) = o
      go (inr w) = absurd (w.fails (looks.hold w.number w.there))

  module _ {r : ℕ} (least : LeastMember opened r) where
    least_first : (s : ℕ) → within opened s ≡ true → r ≤ s
    least_first s o = go (dec_lt s r)
      where
        go : Dec (s < r) → r ≤ s
        go (yes l) = absurd (not_both o (least.none_below s l))
        go (no l) = omega arith

    pub none_ready : 256 ≤ r → Chosen ranks n file places manys steps wants state None
    none_ready none v j h looks = omega (arith, least_first (get_or ranks j 0) (ready_open h looks), rank_below guarded (looks_free h looks))

    module _ (some : r < 256) where
      abbrev i : ℕ
      i = get_or room r 0

      abbrev v : ℕ
      v = get_or vars i 0

      owner : Owner ranks steps wants state n r
      owner = right.owned r (least.there some)

      action_is : i ≡ owner.action
      action_is = ap (λ (x : ℕ). get_or room x 0) (sym owner.rank) ∙ rank_tells guarded owner.free

      variable_is : v ≡ owner.var
      variable_is = ap (λ (x : ℕ). get_or vars x 0) action_is ∙ action_tells guarded owner.free

      pub front_free : Free steps wants state n v i
      front_free =
          subst (λ (x : ℕ). Free steps wants state n x i) (sym variable_is)
          (subst (λ (x : ℕ). Free steps wants state n owner.var x) (sym action_is) owner.free)

      front_rank : get_or ranks i 0 ≡ r
      front_rank = ap (λ (x : ℕ). get_or ranks x 0) action_is ∙ owner.rank

      module _ {k from : ℕ} (first : FirstOpen file (get_or places i 0) (get_or manys i 0) state from k) where
        pub front_chosen :
            HoldUpTo file (get_or places i 0) state from → get_or manys i 0 ≤ k → Chosen ranks n file places manys steps wants state (Some i)
        front_chosen hold all = (
          (
            v,
            (
              front_free.below,
              record { next = front_free.next; unwanted = front_free.unwanted; hold = λ j h. first.hold hold j (omega arith) },
            ),
          ),
          λ w j h looks. omega (arith, front_rank, least_first (get_or ranks j 0) (ready_open h looks)),
        )

        -- its condition k fails: it waits
        module _
            (on : ℕ) (is : on ≡ get_or file (get_or places i 0 + 3 * k + 1) 0) (low : on < 32) (unmet : k < get_or manys i 0)
            {opened' : List ℕ} (removed : Removed r opened opened')
            (word : ℕ) (bits : (j : ℕ) → bit word j ≡ (eqb v j || bit (get_or waiting on 0) j)) where
          abbrev waiting' : List ℕ
          waiting' = set waiting on word

          word_now : get_or waiting' on 0 ≡ word
          word_now = get_or-set_same waiting on word 0 (omega (arith, right.waiting_long))

          -- v waits for `on`, and who waited waits still
          waits_now : bit (get_or waiting' on 0) v ≡ true
          waits_now = rw word_now (bits v ∙ rw (eq-eqb v v refl))

          still_waits : (u w : ℕ) → bit (get_or waiting u 0) w ≡ true → bit (get_or waiting' u 0) w ≡ true
          still_waits u w h = go (ℕ_discrete u on)
            where
              go : Dec (u ≡ on) → bit (get_or waiting' u 0) w ≡ true
              go (yes e) =
                  subst (λ (x : ℕ). bit (get_or waiting' x 0) w ≡ true) (sym e)
                  (rw word_now (bits w ∙ rw (subst (λ (x : ℕ). bit (get_or waiting x 0) w ≡ true) e h, or-true)))
              go (no d) = rw (get_or-set_other waiting on u word 0 d) h

          waited : (u w : ℕ) → bit (get_or waiting' u 0) w ≡ true → ((u ≡ on) × (w ≡ v)) ⊎ (bit (get_or waiting u 0) w ≡ true)
          waited u w h = go (ℕ_discrete u on) (ℕ_discrete v w)
            where
              go : Dec (u ≡ on) → Dec (v ≡ w) → ((u ≡ on) × (w ≡ v)) ⊎ (bit (get_or waiting u 0) w ≡ true)
              go (yes e) (yes f) = inl (e, sym f)
              go (yes e) (no d) =
                  inr (subst (λ (x : ℕ). bit (get_or waiting x 0) w ≡ true) (sym e)
                  (rw (ne_eqb v w d) at (sym (bits w) ∙ (rw word_now at (subst (λ (x : ℕ). bit (get_or waiting' x 0) w ≡ true) e h)))))
              go (no d) f = inr (rw (get_or-set_other waiting on u word 0 d) at h)

          -- v waited for none
          not_waiting : (u : ℕ) → bit (get_or waiting u 0) v ≡ true → ⊥
          not_waiting u h =
              let a = right.asleep u v h in
              let same : a.action ≡ i = omega (arith, a.free.next, front_free.next) in
              a.shut (rw (same, front_rank) (least.there some))

          own_waits : Waits file places manys state waiting' v i
          own_waits = record {
            number = k;
            there = unmet;
            fails = first.fails unmet;
            noted = subst (λ (x : ℕ). bit (get_or waiting' x 0) v ≡ true) is waits_now;
          }

          pub front_waits : OpenRight ranks file places manys steps wants state opened' waiting' n
          front_waits = record {
            opened_long = removed.long;
            waiting_long = length-set waiting on word ∙ right.waiting_long;
            owned = λ s o. right.owned s (removed_only removed s o);
            open_or_waits = λ w j free. open_still w j free (right.open_or_waits w j free) (ℕ_discrete r (get_or ranks j 0));
            asleep = λ u w h. asleep_still u w (waited u w h);
            once = λ t u w h g. once_still t u w (waited t w h) (waited u w g);
          }
            where
              open_still :
                  (w j : ℕ) → Free steps wants state n w j → (within opened (get_or ranks j 0) ≡ true) ⊎ Waits file places manys state waiting w j → Dec (r ≡ get_or ranks j 0)
                  → (within opened' (get_or ranks j 0) ≡ true) ⊎ Waits file places manys state waiting' w j
              open_still w j free (inr a) d =
                  inr record {
                    number = a.number;
                    there = a.there;
                    fails = a.fails;
                    noted = still_waits _ w a.noted;
                  }
              open_still w j free (inl o) (no d) = inl (removed_keeps removed (get_or ranks j 0) d o)
              open_still w j free (inl o) (yes e) =
                  inr (subst (λ (x : ℕ). Waits file places manys state waiting' x j) (one_variable guarded front_free free (front_rank ∙ e))
                  (subst (λ (x : ℕ). Waits file places manys state waiting' v x) (one_action_lem guarded front_free free (front_rank ∙ e)) own_waits))

              asleep_still :
                  (u w : ℕ) → ((u ≡ on) × (w ≡ v)) ⊎ (bit (get_or waiting u 0) w ≡ true) → Asleep ranks steps wants state opened' n w
              asleep_still u w (inl e) =
                  subst (λ (x : ℕ). Asleep ranks steps wants state opened' n x) (sym e.1)
                  record { action = i; free = front_free; shut = λ o. not_both (rw front_rank at o) (removed_gone removed) }
              asleep_still u w (inr h) =
                  let a = right.asleep u w h in
                  record { action = a.action; free = a.free; shut = λ o. a.shut (removed_only removed (get_or ranks a.action 0) o) }

              once_still :
                  (t u w : ℕ) → ((t ≡ on) × (w ≡ v)) ⊎ (bit (get_or waiting t 0) w ≡ true) → ((u ≡ on) × (w ≡ v)) ⊎ (bit (get_or waiting u 0) w ≡ true) → t ≡ u
              once_still t u w (inl e) (inl f) = e.0 ∙ sym f.0
              once_still t u w (inl e) (inr g) = absurd (not_waiting u (rw e.1 at g))
              once_still t u w (inr h) (inl f) = absurd (not_waiting t (rw f.1 at h))
              once_still t u w (inr h) (inr g) = right.once t u w h g
