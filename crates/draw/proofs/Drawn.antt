-- What the draw's definition gives: a rank list, in the first bytes alone.
-- Assumes nothing.
use mathlib.Core.Path.{◌≡◌, refl, ap, ◌∙◌}
use mathlib.Core.List.{List, ◌++◌}
use mathlib.Core.Option.{none, some}
use Prim.Native.Nat.{ℕ, zero, suc, ◌+◌, ◌-◌, ◌%◌, ◌≤◌, ◌<◌}
use native.Mathlib.Nat.{mod-lt}
use native.Mathlib.Omega.{arith}
use native.Mathlib.Decide.{dec_lt}
use borrow.Author.Tests.{le-leb, lt-leb, lt-ltb, le-ltb}
use lib.ListN.{length, get_or, set, take, drop, get_or-append}
use lib.Seq.{set-append_left, lt-length-set, take_at}
use Rattle.answer.specs.declared.Answer.{Answer}
use Rattle.answer.specs.Answers.{refusal}
use Rattle.ranks.specs.Ranks.{RankList, rising, exchanged}
use Rattle.ranks.proofs.Laws.{length_exchanged, length-rising, exchanged_keeps_rank_list, rising_is_rank_list}
use Rattle.draw.specs.Draw.{next, shuffled, drawn, refused, draw_answer, draw_leaves}

exchanged_front : (a b : List ℕ) (i j : ℕ) → i < length a → j < length a → exchanged (a ++ b) i j ≡ exchanged a i j ++ b
exchanged_front a b i j hi hj =
    rw (get_or-append a b 0 i hi, get_or-append a b 0 j hj, set-append_left a b i (get_or a j 0) hi)
    (set-append_left (set a i (get_or a j 0)) b j (get_or a i 0) (lt-length-set a i (get_or a j 0) hj))

partner_below : (x i : ℕ) {n : ℕ} → i < n → x % (i + 1) < n
partner_below x i h = omega (arith, mod-lt x {m = i + 1} (omega arith))

-- a shuffle of the first entries leaves the later ones
pub shuffled_front : (k last : ℕ) (a b : List ℕ) → k < length a → shuffled k last (a ++ b) ≡ shuffled k last a ++ b
shuffled_front zero last a b h = refl
shuffled_front (suc k) last a b h =
    let x = next last in
    let j = x % (suc k + 1) in
    ap (shuffled k x) (exchanged_front a b (suc k) j h (partner_below x (suc k) h))
    ∙ shuffled_front k x (exchanged a (suc k) j) b (omega (arith, length_exchanged a (suc k) j))

shuffled_keeps_rank_list : {n : ℕ} (k last : ℕ) (l : List ℕ) → k < n → RankList n l → RankList n (shuffled k last l)
shuffled_keeps_rank_list zero last l h r = r
shuffled_keeps_rank_list (suc k) last l h r =
    let x = next last in
    let j = x % (suc k + 1) in
    shuffled_keeps_rank_list k x (exchanged l (suc k) j) (omega arith)
    (exchanged_keeps_rank_list (suc k) j h (partner_below x (suc k) h) r)

pub drawn_is_rank_list : (seed count : ℕ) → RankList count (drawn seed count)
drawn_is_rank_list seed zero = rising_is_rank_list 0
drawn_is_rank_list seed (suc n) =
    shuffled_keeps_rank_list (suc n - 1) seed (rising (suc n)) (omega arith) (rising_is_rank_list (suc n))

-- the whole buffer, filled and shuffled
pub drawn_in_front : (seed count : ℕ) (later : List ℕ) → shuffled (count - 1) seed (rising count ++ later) ≡ drawn seed count ++ later
drawn_in_front seed zero later = refl
drawn_in_front seed (suc n) later =
    shuffled_front (suc n - 1) seed (rising (suc n)) later (omega (arith, length-rising (suc n)))

-- ---- which refusal is due, if any

module _ (seed count room : ℕ) where
  pub seed_too_low : seed < 1 → refused seed count room ≡ some (refusal 18 seed)
  seed_too_low low = simp (lt-leb 1 seed low)

  pub seed_too_high : 2147483646 < seed → refused seed count room ≡ some (refusal 18 seed)
  seed_too_high high = simp (le-leb 1 seed (omega arith), lt-leb seed 2147483646 high)

  module _ (from-1 : 1 ≤ seed) (in_range_lem : seed ≤ 2147483646) where
    pub count_too_high : 256 < count → refused seed count room ≡ some (refusal 19 count)
    count_too_high high = simp (le-leb 1 seed from-1, le-leb seed 2147483646 in_range_lem, lt-ltb 256 count high)

    pub room_too_short : count ≤ 256 → room < count → refused seed count room ≡ some (refusal 13 count)
    room_too_short few short =
        simp (le-leb 1 seed from-1, le-leb seed 2147483646 in_range_lem, le-ltb 256 count few, lt-ltb room count short)

    pub not_refused : count ≤ 256 → count ≤ room → refused seed count room ≡ none
    not_refused few enough =
        simp (le-leb 1 seed from-1, le-leb seed 2147483646 in_range_lem, le-ltb 256 count few, le-ltb room count enough)

  pub answer_0_not_refused : (draw_answer seed count room).number ≡ 0 → refused seed count room ≡ none
  answer_0_not_refused zero-answer = go (dec_lt seed 1) (dec_lt 2147483646 seed) (dec_lt 256 count) (dec_lt room count)
    where
      refused_as : {r : Answer} → refused seed count room ≡ some r → r.number ≡ 0
      refused_as e = rw e at zero-answer

      go : Dec (seed < 1) → Dec (2147483646 < seed) → Dec (256 < count) → Dec (room < count) → refused seed count room ≡ none
      go (yes low) _ _ _ = absurd (omega (arith, refused_as (seed_too_low low)))
      go (no h) (yes high) _ _ = absurd (omega (arith, refused_as (seed_too_high high)))
      go (no h) (no i) (yes many) _ = absurd (omega (arith, refused_as (count_too_high (omega arith) (omega arith) many)))
      go (no h) (no i) (no k) (yes short) =
          absurd (omega (arith, refused_as (room_too_short (omega arith) (omega arith) (omega arith) short)))
      go (no h) (no i) (no k) (no m) = not_refused (omega arith) (omega arith) (omega arith) (omega arith)

-- ---- answer 0

module _ (seed count : ℕ) (before : List ℕ) (done-0 : (draw_answer seed count (length before)).number ≡ 0) where
  pub answer_0_leaves : draw_leaves seed count before ≡ drawn seed count ++ drop count before
  answer_0_leaves = rw (answer_0_not_refused seed count (length before) done-0) refl

  pub answer_0_leaves_a_rank_list : RankList count (take count (draw_leaves seed count before))
  answer_0_leaves_a_rank_list =
      let list = drawn_is_rank_list seed count in
      rw (answer_0_leaves, take_at (drawn seed count) (drop count before) count list.an_entry_for_each) list
