-- Looking for the first repeat, one lent entry after another: the marks tell what the earlier actions in force set, and no earlier action repeats.
-- Assumes nothing.
use mathlib.Core.Path.{◌≡◌, refl, sym, ap, ◌∙◌, subst}
use mathlib.Core.Bool.{true, false, ◌&&◌, ◌||◌, or-false, or_comm}
use mathlib.Core.Option.{none, some}
use mathlib.Core.List.{List, [], ◌∷◌, ◌++◌}
use Prim.Native.Nat.{ℕ, suc, ◌+◌, ◌*◌, ◌%◌, ◌<◌}
use native.Mathlib.Omega.{arith}
use lib.Dec.{eqb}
use lib.ListN.{length, get_or, drop, replicate}
use Rattle.bits.specs.Bits.{bit}
use Rattle.bits.proofs.Words.{bit_zero}
use Rattle.bits.proofs.Members.{zero_words}
use Rattle.plain.proofs.Lists.{length_more}
use Rattle.study.specs.Study.{Condition, Action, in_force}
use Rattle.study.specs.Reading.{sets_to, sets, repeat_from}
use Rattle.study.proofs.Setters.{sets_more}
use Rattle.lawful.specs.Lengths.{bytes_of_times, places_from}
use Rattle.spelling.specs.Lent.{unlent_condition, first_of, left, actions_in}
use Rattle.spelling.proofs.LentBytes.{so_many_first}
use Rattle.spelling.proofs.Chunks.{Chunk, five_first}
use Rattle.repeats.specs.Repeats.{entry_length_lem, Small}

-- fewer bytes than an entry's stand for an action that is not small, or for none
none_of_few : (bytes : List ℕ) (conditions : List Condition) → length bytes < 5 → Small (actions_in bytes conditions) → actions_in bytes conditions ≡ []
unfolding actions_in left
none_of_few [] [] h small = refl
none_of_few [] (c ∷ rest) h small = absurd (omega (arith, (small 0 (omega arith)).0))
none_of_few (v ∷ []) conditions h small = absurd (omega (arith, (small 0 (omega arith)).0))
none_of_few (v ∷ p ∷ []) conditions h small = absurd (omega (arith, (small 0 (omega arith)).0))
none_of_few (v ∷ p ∷ q ∷ []) conditions h small = absurd (omega (arith, (small 0 (omega arith)).0))
none_of_few (v ∷ p ∷ q ∷ s ∷ []) conditions h small = absurd (omega (arith, (small 0 (omega arith)).0))
none_of_few (v ∷ p ∷ q ∷ s ∷ n ∷ rest) conditions h small = absurd (omega arith)

module _ (situation front : ℕ) (actions : List ℕ) (all : List Action) where
  -- up to an entry of the lent bytes; its action stands at a place
  pub record Looked (marks : List ℕ) (place i : ℕ) : Type 0 where
    earlier : List Action
    conditions : List Condition
    small : Small (actions_in (drop i actions) conditions)
    none_yet : repeat_from situation [] all ≡ repeat_from situation earlier (actions_in (drop i actions) conditions)
    marked : (v q : ℕ) → bit (get_or marks v 0) q ≡ sets situation earlier v q
    places : (j k : ℕ) → j ≡ length earlier + k → get_or (places_from front all) j 0 ≡ get_or (places_from place (actions_in (drop i actions) conditions)) k 0

  pub nothing_looked : (conditions : List Condition) → all ≡ actions_in actions conditions → Small all → Looked (replicate 32 0) front 0
  unfolding sets
  nothing_looked conditions e small = record {
    earlier = [];
    conditions = conditions;
    small = subst Small e small;
    none_yet = ap (repeat_from situation []) e;
    marked = λ v q. rw (zero_words 32 v) (bit_zero q);
    places = λ j k f. let same : j ≡ k = omega arith in rw (e, same);
  }

  -- no entry is left
  pub none_left : {marks : List ℕ} {place i : ℕ} → length (drop i actions) < 5 → Looked marks place i → repeat_from situation [] all ≡ none
  unfolding repeat_from
  none_left {i = i} h l = l.none_yet ∙ rw (none_of_few (drop i actions) l.conditions h l.small)

  module _ {marks entry : List ℕ} {place n : ℕ} (l : Looked marks place (5 * n)) (c : Chunk 5 actions n entry) where
    abbrev byte : ℕ → ℕ
    byte k = get_or entry k 0

    abbrev this : Action
    this =
        record { var = byte 0; pre = byte 1; post = byte 2; conditions = first_of unlent_condition (byte 4) l.conditions; situations = byte 3 }

    abbrev rest : List Action
    rest = actions_in (drop (5 * (n + 1)) actions) (drop (byte 4) l.conditions)

    this_first : actions_in (drop (5 * n) actions) l.conditions ≡ this ∷ rest
    unfolding actions_in
    this_first = rw (five_first c)

    none_yet_here : repeat_from situation [] all ≡ repeat_from situation l.earlier (this ∷ rest)
    none_yet_here = l.none_yet ∙ ap (repeat_from situation l.earlier) this_first

    places_here : (j k : ℕ) → j ≡ length l.earlier + k → get_or (places_from front all) j 0 ≡ get_or (places_from place (this ∷ rest)) k 0
    places_here j k e = l.places j k e ∙ ap (λ (actions : List Action). get_or (places_from place actions) k 0) this_first

    small_here : Small (this ∷ rest)
    small_here = subst Small this_first l.small

    -- the remainders change nothing
    its_var : this.var % 32 ≡ this.var
    its_var = omega (arith, (small_here 0 (omega arith)).0)

    its_post : this.post % 16 ≡ this.post
    its_post = omega (arith, (small_here 0 (omega arith)).1)

    pub found :
        bit (byte 3) situation ≡ true → bit (get_or marks (this.var % 32) 0) (this.post % 16) ≡ true
        → (k : ℕ) × ((repeat_from situation [] all ≡ some k) × (get_or (places_from front all) k 0 ≡ place))
    unfolding repeat_from places_from in_force
    found in_force_lem there =
        let set_before = sym (l.marked this.var this.post) ∙ (rw (its_var, its_post) at there) in
        (length l.earlier, (none_yet_here ∙ rw (in_force_lem, set_before), places_here (length l.earlier) 0 (omega arith)))

    -- the next entry, where this action does not repeat
    next :
        {marks' : List ℕ} → (in_force situation this && sets situation l.earlier this.var this.post) ≡ false
        → ((v q : ℕ) → bit (get_or marks' v 0) q ≡ (sets situation l.earlier v q || sets_to situation this v q))
        → Looked marks' (place + entry_length_lem (byte 3) (byte 4)) (5 * (n + 1))
    unfolding repeat_from places_from
    next not-this marked' = record {
      earlier = l.earlier ++ (this ∷ []);
      conditions = drop (byte 4) l.conditions;
      small = λ k less. small_here (suc k) (omega arith);
      none_yet = none_yet_here ∙ rw not-this;
      marked = λ v q. marked' v q ∙ sym (sets_more situation l.earlier this v q);
      places =
          λ j k e. places_here j (suc k) (omega (arith, length_more l.earlier this)) ∙ ap (λ (at : ℕ). get_or (places_from at rest) k 0) its_end;
    }
      where
        its_end : place + 4 + 3 * length this.conditions + bytes_of_times (byte 3) ≡ place + entry_length_lem (byte 3) (byte 4)
        its_end = omega (arith, so_many_first unlent_condition (byte 4) l.conditions)

    pub out_of_force : bit (byte 3) situation ≡ false → Looked marks (place + entry_length_lem (byte 3) (byte 4)) (5 * (n + 1))
    unfolding in_force
    out_of_force out = next (rw out) (λ v q. l.marked v q ∙ rw out (sym (or-false (sets situation l.earlier v q))))

    pub in_force_and_new :
        {marks' : List ℕ} → bit (byte 3) situation ≡ true → bit (get_or marks (this.var % 32) 0) (this.post % 16) ≡ false
        → ((v q : ℕ) → bit (get_or marks' v 0) q ≡ ((eqb (this.var % 32) v && eqb (this.post % 16) q) || bit (get_or marks v 0) q))
        → Looked marks' (place + entry_length_lem (byte 3) (byte 4)) (5 * (n + 1))
    unfolding in_force
    in_force_and_new in_force_lem new put =
        next
        (rw in_force_lem (sym (l.marked this.var this.post) ∙ (rw (its_var, its_post) at new)))
        λ v q.
        put v q
        ∙ rw (its_var, its_post, l.marked v q, in_force_lem) (or_comm (eqb this.var v && eqb this.post q) (sets situation l.earlier v q))
