-- Ranks put into a set: one, none, those of one rule after those of another.
-- Assumes nothing.
use mathlib.Core.Path.{◌≡◌, subst}
use mathlib.Core.Logic.{◌⊎◌, inl, inr}
use mathlib.Core.Bool.{true}
use mathlib.Core.List.{List}
use Prim.Native.Nat.{ℕ, ◌+◌, ◌-◌, ◌≤◌, ◌<◌}
use native.Mathlib.Omega.{arith}
use native.Mathlib.Decide.{ℕ_discrete}
use lib.ListN.{length, get_or}
use Rattle.bits.specs.Bits.{within, Added}
use Rattle.bits.proofs.Members.{added_there, added_keeps, added_only}
use Rattle.opening.specs.Opening.{Leads, Joined, Opens, OpensBelow}

pub joined_none : {P : ℕ → Type 0} {set : List ℕ} → length set ≡ 4 → ((r : ℕ) → P r → ⊥) → Joined P set set
joined_none long none = record { long = long; kept = λ r h. h; joined = λ r p. absurd (none r p); only = λ r h. inl h }

-- the same ranks told otherwise
pub joined_as :
    {P Q : ℕ → Type 0} {before after : List ℕ} → Joined P before after → ((r : ℕ) → P r → Q r) → ((r : ℕ) → Q r → P r) → Joined Q before after
joined_as {P} {Q} {before} j there back = record {
  long = j.long;
  kept = j.kept;
  joined = λ r q. j.joined r (back r q);
  only = λ r h. go r (j.only r h);
}
  where
    go : (r : ℕ) → (within before r ≡ true) ⊎ P r → (within before r ≡ true) ⊎ Q r
    go r (inl h) = inl h
    go r (inr p) = inr (there r p)

-- those of P, and then those of Q: together those of R
pub joined_then :
    {P Q R : ℕ → Type 0} {first second third : List ℕ} → Joined P first second → Joined Q second third
    → ((r : ℕ) → P r → R r) → ((r : ℕ) → Q r → R r) → ((r : ℕ) → R r → P r ⊎ Q r) → Joined R first third
joined_then {P} {Q} {R} {first} {second} {third} a b from-p from-q back = record {
  long = b.long;
  kept = λ r h. b.kept r (a.kept r h);
  joined = λ r x. put r (back r x);
  only = λ r h. found r (b.only r h);
}
  where
    put : (r : ℕ) → P r ⊎ Q r → within third r ≡ true
    put r (inl p) = b.kept r (a.joined r p)
    put r (inr q) = b.joined r q

    found' : (r : ℕ) → (within first r ≡ true) ⊎ P r → (within first r ≡ true) ⊎ R r
    found' r (inl h) = inl h
    found' r (inr p) = inr (from-p r p)

    found : (r : ℕ) → (within second r ≡ true) ⊎ Q r → (within first r ≡ true) ⊎ R r
    found r (inl h) = found' r (a.only r h)
    found r (inr q) = inr (from-q r q)

-- ---- the rank of the action that a step names

pub leads_nowhere : {ranks : List ℕ} {step r : ℕ} → step ≤ 1 → Leads ranks step r → ⊥
leads_nowhere h l = omega (arith, l.next)

pub leads_joined : {ranks : List ℕ} {step : ℕ} {before after : List ℕ} → 1 < step → Added (get_or ranks (step - 2) 0) before after → Joined (Leads ranks step) before after
leads_joined {ranks} {step} {before} {after} h added = record {
  long = added.long;
  kept = added_keeps added;
  joined = same;
  only = λ r x. told r (added_only added r x);
}
  where
    same : (r : ℕ) → Leads ranks step r → within after r ≡ true
    same r l =
        let i : step - 2 ≡ l.action = omega (arith, l.next) in
        let e : get_or ranks (step - 2) 0 ≡ r = rw i l.rank in
        rw (← e) (added_there added)

    told : (r : ℕ) → (within before r ≡ true) ⊎ (get_or ranks (step - 2) 0 ≡ r) → (within before r ≡ true) ⊎ Leads ranks step r
    told r (inl x) = inl x
    told r (inr e) = inr record { action = step - 2; next = omega arith; rank = e }
