-- The ranks put in while conditions are lowered: those of the actions that leave a value which nothing wants any more.
-- Assumes nothing.
use mathlib.Core.Path.{◌≡◌, refl, sym, ◌∙◌}
use mathlib.Core.Logic.{◌⊎◌, inl, inr}
use mathlib.Core.List.{List}
use Prim.Native.Nat.{ℕ, ◌+◌, ◌-◌, ◌*◌, ◌<◌}
use native.Mathlib.Omega.{arith}
use native.Mathlib.Decide.{ℕ_discrete}
use lib.ListN.{length, get_or}
use lib.Seq.{get_or-set_same, get_or-set_other}
use Rattle.opening.specs.Conditions.{entry_at, lowered}
use Rattle.opening.specs.Opening.{Leads, Joined, Freed}
use Rattle.opening.proofs.Joining.{joined_none, joined_as, joined_then}
use Rattle.opening.proofs.Lowering.{lowered_at_most}

module _ (file : List ℕ) (place : ℕ) (ranks steps : List ℕ) where
  module _ (k : ℕ) (wants : List ℕ) where
    abbrev entry : ℕ
    entry = entry_at file (place + 3 * k)

    abbrev wants' : List ℕ
    wants' = lowered file (place + 3 * k) wants

    -- what the condition itself puts in
    pub record Own (r : ℕ) : Type 0 where
      pub none_left : get_or wants' entry 0 ≡ 0
      pub leads : Leads ranks (get_or steps entry 0) r

    fell : entry < length wants → get_or wants' entry 0 ≡ get_or wants entry 0 - 1
    fell h = get_or-set_same wants entry (get_or wants entry 0 - 1) 0 h

    pub own_last :
        {before after : List ℕ} → entry < length wants → get_or wants entry 0 - 1 ≡ 0 → Joined (Leads ranks (get_or steps entry 0)) before after → Joined Own before after
    own_last h z j = joined_as j (λ r l. record { none_left = fell h ∙ z; leads = l }) (λ r o. o.leads)

    pub own_not : {set : List ℕ} → length set ≡ 4 → entry < length wants → (get_or wants entry 0 - 1 ≡ 0 → ⊥) → Joined Own set set
    own_not long h o = joined_none long (λ r f. o (sym (fell h) ∙ f.none_left))

    pub freed_more :
        {first second third : List ℕ} → Joined (Freed file place k ranks steps wants) first second → Joined Own second third
        → Joined (Freed file place (k + 1) ranks steps wants') first third
    freed_more a b = joined_then a b still now back
      where
        still : (r : ℕ) → Freed file place k ranks steps wants r → Freed file place (k + 1) ranks steps wants' r
        still r f = record {
          number = f.number;
          there = omega (arith, f.there);
          none_left =
              omega (arith, f.none_left, lowered_at_most file (place + 3 * k) wants (entry_at file (place + 3 * f.number)));
          leads = f.leads;
        }

        now : (r : ℕ) → Own r → Freed file place (k + 1) ranks steps wants' r
        now r o = record { number = k; there = omega arith; none_left = o.none_left; leads = o.leads }

        back : (r : ℕ) → Freed file place (k + 1) ranks steps wants' r → Freed file place k ranks steps wants r ⊎ Own r
        back r f = go (ℕ_discrete (entry_at file (place + 3 * f.number)) entry) (ℕ_discrete f.number k)
          where
            go : Dec (entry_at file (place + 3 * f.number) ≡ entry) → Dec (f.number ≡ k) → Freed file place k ranks steps wants r ⊎ Own r
            go (yes e) d = inr record { none_left = rw e at f.none_left; leads = rw e at f.leads }
            go (no o) (yes e) = absurd (o (rw e refl))
            go (no o) (no d) =
                inl record {
                  number = f.number;
                  there = omega (arith, f.there);
                  none_left = sym (get_or-set_other wants entry (entry_at file (place + 3 * f.number)) (get_or wants entry 0 - 1) 0 o) ∙ f.none_left;
                  leads = f.leads;
                }

    module _ {at : ℕ} (is : at ≡ place + 3 * k) (inside : entry_at file at < length wants) {first second : List ℕ}
        (before : Joined (Freed file place k ranks steps wants) first second) where
      pub freed_last :
          {third : List ℕ} → get_or wants (entry_at file at) 0 - 1 ≡ 0 → Joined (Leads ranks (get_or steps (entry_at file at) 0)) second third
          → Joined (Freed file place (k + 1) ranks steps (lowered file at wants)) first third
      freed_last z j = rw is (freed_more before (own_last (rw is at inside) (rw is at z) (rw is at j)))

      pub freed_not :
          (get_or wants (entry_at file at) 0 - 1 ≡ 0 → ⊥) → Joined (Freed file place (k + 1) ranks steps (lowered file at wants)) first second
      freed_not o = rw is (freed_more before (own_not before.long (rw is at inside) (rw is at o)))
