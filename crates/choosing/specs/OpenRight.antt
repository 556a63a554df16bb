-- What the open ranks tell: whose they are, and that who is free to move and not among them waits for a variable.
-- Assumes nothing.
use Rattle.std.specs.Prelude.{ℕ, ◌+◌, ◌*◌, ◌<◌, ◌≡◌, ◌⊎◌, true, List, length, get_or}
use Rattle.bits.specs.Bits.{bit, within}
use Rattle.opening.specs.Conditions.{HoldsAt}
use Rattle.opening.specs.Opening.{step_of, Unwanted}

-- i is the next action of v, one of the first n, and nothing wants the value that v has
pub record Free (steps wants state : List ℕ) (n v i : ℕ) : Type 0 where
  pub below : v < n
  pub next : step_of steps state v ≡ i + 2
  pub unwanted : Unwanted wants state v

-- a variable that is free, by an action of rank r
pub record Owner (ranks steps wants state : List ℕ) (n r : ℕ) : Type 0 where
  pub var : ℕ
  pub action : ℕ
  pub free : Free steps wants state n var action
  pub rank : get_or ranks action 0 ≡ r

-- v waits for the variable of a condition of its next action i that does not hold
pub record Waits (file places manys state waiting : List ℕ) (v i : ℕ) : Type 0 where
  pub number : ℕ
  pub there : number < get_or manys i 0
  pub fails : HoldsAt file (get_or places i 0) state number → ⊥
  pub noted : bit (get_or waiting (get_or file (get_or places i 0 + 3 * number + 1) 0) 0) v ≡ true

-- v is free, and the rank of its next action is not open
pub record Asleep (ranks steps wants state opened : List ℕ) (n v : ℕ) : Type 0 where
  pub action : ℕ
  pub free : Free steps wants state n v action
  pub shut : within opened (get_or ranks action 0) ≡ true → ⊥

-- an open rank has its owner; who is free is open or waits; who waits is free and not open, and waits for one variable alone
pub record OpenRight (ranks file places manys steps wants state opened waiting : List ℕ) (n : ℕ) : Type 0 where
  pub opened_long : length opened ≡ 4
  pub waiting_long : length waiting ≡ 32
  pub owned : (r : ℕ) → within opened r ≡ true → Owner ranks steps wants state n r
  pub open_or_waits :
      (v i : ℕ) → Free steps wants state n v i → (within opened (get_or ranks i 0) ≡ true) ⊎ Waits file places manys state waiting v i
  pub asleep : (u v : ℕ) → bit (get_or waiting u 0) v ≡ true → Asleep ranks steps wants state opened n v
  pub once : (t u v : ℕ) → bit (get_or waiting t 0) v ≡ true → bit (get_or waiting u 0) v ≡ true → t ≡ u
