-- The open ranks from round to round: they are right at the start, and again after an action is taken, the ranks that it frees are put in, and those that waited for its variable are woken.
-- Assumes nothing.
use mathlib.Core.Path.{◌≡◌, refl, sym, ap, subst, ◌∙◌}
use mathlib.Core.Logic.{◌≢◌, ◌⊎◌, inl, inr}
use mathlib.Core.Bool.{true, false}
use mathlib.Core.List.{List}
use Prim.Native.Nat.{ℕ, ◌+◌, ◌*◌, ◌<◌}
use native.Mathlib.Omega.{arith}
use native.Mathlib.Decide.{ℕ_discrete}
use lib.ListN.{get_or, set, replicate, length-set}
use lib.Seq.{get_or-set_same, get_or-set_other}
use Rattle.bits.specs.Bits.{bit, within, Removed}
use Rattle.bits.proofs.Words.{bit_zero}
use Rattle.bits.proofs.Members.{not_both, removed_gone, removed_keeps, removed_only, zero_words, fresh_empty}
use Rattle.opening.specs.Conditions.{entry_at, Lowerable, lowered_all}
use Rattle.opening.specs.Opening.{step_of, Unwanted, Leads, Joined, Opens, OpensBelow, Freed, Woken}
use Rattle.opening.proofs.Joining.{joined_then}
use Rattle.opening.proofs.Lowering.{all_lowered_at_most, lowered_entry, lowered_counted}
use Rattle.choosing.specs.Choosing.{LooksReady, Guarded}
use Rattle.choosing.specs.OpenRight.{Free, Owner, Waits, Asleep, OpenRight}
use Rattle.choosing.proofs.Looking.{one_variable}
use Rattle.choosing.proofs.Waiting.{ready_open}

-- whose next action's rank is put in is free
opens_free : {ranks steps wants state : List ℕ} {n v r : ℕ} → v < n → (o : Opens ranks steps wants state v r) → Free steps wants state n v o.leads.action
opens_free below o = record { below = below; next = o.leads.next; unwanted = o.unwanted }

-- who is free leads on by its own rank
free_leads : {ranks steps wants state : List ℕ} {n v i : ℕ} → Free steps wants state n v i → Leads ranks (step_of steps state v) (get_or ranks i 0)
free_leads {i = i} free = record { action = i; next = free.next; rank = refl }

-- ---- the start

-- nobody waits
nobody : (u v : ℕ) → bit (get_or (replicate 32 0) u 0) v ≡ true → ⊥
nobody u v h = not_both h (rw (zero_words 32 u) (bit_zero v))

pub right_begins :
    {ranks file places manys steps wants state opened : List ℕ} {n : ℕ}
    → Joined (OpensBelow n ranks steps wants state) (replicate 4 0) opened
    → OpenRight ranks file places manys steps wants state opened (replicate 32 0) n
right_begins {ranks} {steps = steps} {wants} {state} {n = n} joined = record {
  opened_long = joined.long;
  waiting_long = refl;
  owned = λ r o. owner r (joined.only r o);
  open_or_waits = λ v i free. inl (joined.joined _ (v, (free.below, record { unwanted = free.unwanted; leads = free_leads free })));
  asleep = λ u v h. absurd (nobody u v h);
  once = λ t u v h g. absurd (nobody t v h);
}
  where
    owner : (r : ℕ) → (within (replicate 4 0) r ≡ true) ⊎ OpensBelow n ranks steps wants state r → Owner ranks steps wants state n r
    owner r (inl o) = absurd (not_both o (fresh_empty 4 r))
    owner r (inr o) = record { var = o.0; action = o.1.1.leads.action; free = opens_free o.1.0 o.1.1; rank = o.1.1.leads.rank }

-- ---- one action taken

module _ {file vars places manys steps state ranks room : List ℕ} {n : ℕ} {held : List ℕ}
    (guarded : Guarded file vars places manys steps state ranks room n held)
    {wants opened waiting : List ℕ} (right : OpenRight ranks file places manys steps wants state opened waiting n)
    {v i : ℕ} (below : v < n) (looks : LooksReady file places manys steps wants state v i)
    (lowerable : Lowerable file (get_or places i 0) (get_or manys i 0) wants)
    (known : (k : ℕ) → k < get_or manys i 0 → get_or file (get_or places i 0 + 3 * k + 1) 0 < n)
    (post : ℕ) where
  abbrev wants₁ : List ℕ
  wants₁ = lowered_all file (get_or places i 0) (get_or manys i 0) wants

  abbrev state₁ : List ℕ
  state₁ = set state v post

  abbrev waiting₁ : List ℕ
  waiting₁ = set waiting v 0

  chosen_free : Free steps wants state n v i
  chosen_free = record { below = below; next = looks.next; unwanted = looks.unwanted }

  -- v waits for none
  not_waiting : (u : ℕ) → bit (get_or waiting u 0) v ≡ true → ⊥
  not_waiting u h =
      let a = right.asleep u v h in
      let same : a.action ≡ i = omega (arith, a.free.next, looks.next) in
      a.shut (rw same (ready_open guarded right below looks))

  waits_other : (u w : ℕ) → bit (get_or waiting u 0) w ≡ true → w ≢ v
  waits_other u w h e = not_waiting u (rw e at h)

  -- the others have what they had
  module _ (w : ℕ) (other : w ≢ v) where
    same_state : get_or state₁ w 0 ≡ get_or state w 0
    same_state = get_or-set_other state v w post 0 other

    same_step : step_of steps state₁ w ≡ step_of steps state w
    same_step = ap (λ (q : ℕ). get_or steps (16 * w + q) 0) same_state

    same_wanted : get_or wants₁ (16 * w + get_or state₁ w 0) 0 ≡ get_or wants₁ (16 * w + get_or state w 0) 0
    same_wanted = ap (λ (q : ℕ). get_or wants₁ (16 * w + q) 0) same_state

    still_unwanted : Unwanted wants state w → Unwanted wants₁ state₁ w
    still_unwanted u = same_wanted ∙ omega (arith, u, all_lowered_at_most file (get_or places i 0) (get_or manys i 0) wants (16 * w + get_or state w 0))

    still_free : {j : ℕ} → Free steps wants state n w j → Free steps wants₁ state₁ n w j
    still_free free = record { below = free.below; next = same_step ∙ free.next; unwanted = still_unwanted free.unwanted }

  -- ---- whose value nobody wants any more

  module _ {r : ℕ} (freed : Freed file (get_or places i 0) (get_or manys i 0) ranks steps wants₁ r) where
    abbrev freed_var : ℕ
    freed_var = get_or file (get_or places i 0 + 3 * freed.number + 1) 0

    freed_entry : entry_at file (get_or places i 0 + 3 * freed.number) ≡ 16 * freed_var + get_or state freed_var 0
    freed_entry = omega (arith, looks.hold freed.number freed.there)

    -- it was wanted
    freed_wanted : Unwanted wants state freed_var → ⊥
    freed_wanted u =
        omega (
          arith,
          rw freed_entry at (lowered_counted file (get_or places i 0) (get_or manys i 0) wants lowerable freed.number freed.there),
          u,
        )

    freed_other : freed_var ≢ v
    freed_other e = freed_wanted (rw e looks.unwanted)

    freed_free : Free steps wants₁ state₁ n freed_var freed.leads.action
    freed_free = record {
      below = known freed.number freed.there;
      next = same_step freed_var freed_other ∙ (rw freed_entry at freed.leads.next);
      unwanted = same_wanted freed_var freed_other ∙ (rw freed_entry at freed.none_left);
    }

  module _ {room₁ held₁ : List ℕ} (guarded₁ : Guarded file vars places manys steps state₁ ranks room₁ n held₁)
      {opened₁ opened₂ opened₃ opened₄ : List ℕ}
      (removed : Removed (get_or ranks i 0) opened opened₁)
      (freed : Joined (Freed file (get_or places i 0) (get_or manys i 0) ranks steps wants₁) opened₁ opened₂)
      (own : Joined (Opens ranks steps wants₁ state₁ v) opened₂ opened₃)
      (woken : Joined (Woken (get_or waiting v 0) ranks steps state₁) opened₃ opened₄) where
    abbrev Put : ℕ → Type 0
    Put r =
        (Freed file (get_or places i 0) (get_or manys i 0) ranks steps wants₁ r ⊎ Opens ranks steps wants₁ state₁ v r)
        ⊎ Woken (get_or waiting v 0) ranks steps state₁ r

    put : Joined Put opened₁ opened₄
    put =
        joined_then (joined_then freed own (λ r f. inl f) (λ r o. inr o) (λ r e. e)) woken (λ r e. inl e) (λ r w. inr w) (λ r e. e)

    woken_free : {r : ℕ} (w : Woken (get_or waiting v 0) ranks steps state₁ r) → Free steps wants₁ state₁ n w.var w.leads.action
    woken_free w =
        let a = right.asleep v w.var w.there in
        record {
          below = a.free.below;
          next = w.leads.next;
          unwanted = still_unwanted w.var (waits_other v w.var w.there) a.free.unwanted;
        }

    owned_still : (r : ℕ) → (within opened₁ r ≡ true) ⊎ Put r → Owner ranks steps wants₁ state₁ n r
    owned_still r (inr (inl (inl f))) = record { var = _; action = _; free = freed_free f; rank = f.leads.rank }
    owned_still r (inr (inl (inr o))) = record { var = v; action = _; free = opens_free below o; rank = o.leads.rank }
    owned_still r (inr (inr w)) = record { var = w.var; action = _; free = woken_free w; rank = w.leads.rank }
    owned_still r (inl h) =
        let o = right.owned r (removed_only removed r h) in
        record { var = o.var; action = o.action; free = still_free o.var (other o) o.free; rank = o.rank }
      where
        other : (o : Owner ranks steps wants state n r) → o.var ≢ v
        other o e = not_both h (subst (λ (x : ℕ). within opened₁ x ≡ false) same (removed_gone removed))
          where
            action : o.action ≡ i
            action = omega (arith, rw e at o.free.next, looks.next)

            same : get_or ranks i 0 ≡ r
            same = rw (← action) o.rank

    module _ (w j : ℕ) (other : w ≢ v) (free : Free steps wants₁ state₁ n w j) where
      -- its value was wanted: its rank is put in
      was_wanted : (get_or wants (16 * w + get_or state w 0) 0 ≡ 0 → ⊥) → within opened₄ (get_or ranks j 0) ≡ true
      was_wanted o =
          let none : get_or wants₁ (16 * w + get_or state w 0) 0 ≡ 0 = sym (same_wanted w other) ∙ free.unwanted in
          let fell = lowered_entry file (get_or places i 0) (get_or manys i 0) wants (16 * w + get_or state w 0) (omega arith) in
          put.joined (get_or ranks j 0) (inl (inl record {
            number = fell.0;
            there = fell.1.0;
            none_left = rw fell.1.1 none;
            leads = record { action = j; next = rw fell.1.1 (sym (same_step w other) ∙ free.next); rank = refl };
          }))

      was_unwanted : Unwanted wants state w → (within opened₄ (get_or ranks j 0) ≡ true) ⊎ Waits file places manys state₁ waiting₁ w j
      was_unwanted u = go (right.open_or_waits w j before)
        where
          before : Free steps wants state n w j
          before = record { below = free.below; next = sym (same_step w other) ∙ free.next; unwanted = u }

          go :
              (within opened (get_or ranks j 0) ≡ true) ⊎ Waits file places manys state waiting w j
              → (within opened₄ (get_or ranks j 0) ≡ true) ⊎ Waits file places manys state₁ waiting₁ w j
          go (inl o) =
              inl (put.kept _ (removed_keeps removed (get_or ranks j 0) (λ e. other (one_variable guarded before chosen_free (sym e))) o))
          go (inr a) = waits_or_woken (ℕ_discrete (get_or file (get_or places j 0 + 3 * a.number + 1) 0) v)
            where
              waits_or_woken :
                  Dec (get_or file (get_or places j 0 + 3 * a.number + 1) 0 ≡ v)
                  → (within opened₄ (get_or ranks j 0) ≡ true) ⊎ Waits file places manys state₁ waiting₁ w j
              waits_or_woken (yes e) =
                  inl (put.joined _ (inr record {
                    var = w;
                    there = subst (λ (x : ℕ). bit (get_or waiting x 0) w ≡ true) e a.noted;
                    leads = free_leads free;
                  }))
              waits_or_woken (no o) =
                  inr record {
                    number = a.number;
                    there = a.there;
                    fails = λ holds. a.fails (sym (get_or-set_other state v _ post 0 o) ∙ holds);
                    noted = rw (get_or-set_other waiting v (get_or file (get_or places j 0 + 3 * a.number + 1) 0) 0 0 o) a.noted;
                  }

    open_still : (w j : ℕ) → Free steps wants₁ state₁ n w j → Dec (w ≡ v) → Dec (get_or wants (16 * w + get_or state w 0) 0 ≡ 0)
        → (within opened₄ (get_or ranks j 0) ≡ true) ⊎ Waits file places manys state₁ waiting₁ w j
    open_still w j free (yes e) d =
        let here = subst (λ (x : ℕ). Free steps wants₁ state₁ n x j) e free in
        inl (put.joined _ (inl (inr record { unwanted = here.unwanted; leads = free_leads here })))
    open_still w j free (no o) (yes z) = was_unwanted w j o free z
    open_still w j free (no o) (no d) = inl (was_wanted w j o free d)

    -- who waits waited, and not for v
    waited : (u w : ℕ) → bit (get_or waiting₁ u 0) w ≡ true → (u ≢ v) × (bit (get_or waiting u 0) w ≡ true)
    waited u w h = go (ℕ_discrete u v)
      where
        go : Dec (u ≡ v) → (u ≢ v) × (bit (get_or waiting u 0) w ≡ true)
        go (yes e) =
            absurd (not_both (subst (λ (x : ℕ). bit (get_or waiting₁ x 0) w ≡ true) e h)
            (rw (get_or-set_same waiting v 0 0 (omega (arith, right.waiting_long, (guarded.sound v below).there))) (bit_zero w)))
        go (no o) = (o, rw (get_or-set_other waiting v u 0 0 o) at h)

    asleep_still : (u w : ℕ) → u ≢ v → bit (get_or waiting u 0) w ≡ true → Asleep ranks steps wants₁ state₁ opened₄ n w
    asleep_still u w away h = record { action = a.action; free = free; shut = λ o. shut (put.only _ o) }
      where
        a : Asleep ranks steps wants state opened n w
        a = right.asleep u w h

        free : Free steps wants₁ state₁ n w a.action
        free = still_free w (waits_other u w h) a.free

        shut : (within opened₁ (get_or ranks a.action 0) ≡ true) ⊎ Put (get_or ranks a.action 0) → ⊥
        shut (inl o) = a.shut (removed_only removed _ o)
        shut (inr (inl (inl f))) =
            freed_wanted f (subst (λ (x : ℕ). Unwanted wants state x) (one_variable guarded₁ free (freed_free f) (sym f.leads.rank)) a.free.unwanted)
        shut (inr (inl (inr o))) = waits_other u w h (one_variable guarded₁ free (opens_free below o) (sym o.leads.rank))
        shut (inr (inr x)) =
            away (right.once u v w h
            (subst (λ (y : ℕ). bit (get_or waiting v 0) y ≡ true) (one_variable guarded₁ (woken_free x) free x.leads.rank) x.there))

    pub right_goes_on : OpenRight ranks file places manys steps wants₁ state₁ opened₄ waiting₁ n
    right_goes_on = record {
      opened_long = woken.long;
      waiting_long = length-set waiting v 0 ∙ right.waiting_long;
      owned = λ r o. owned_still r (put.only r o);
      open_or_waits = λ w j free. open_still w j free (ℕ_discrete w v) (ℕ_discrete (get_or wants (16 * w + get_or state w 0) 0) 0);
      asleep = λ u w h. let x = waited u w h in asleep_still u w x.0 x.1;
      once = λ t u w h g. right.once t u w (waited t w h).1 (waited u w g).1;
    }
