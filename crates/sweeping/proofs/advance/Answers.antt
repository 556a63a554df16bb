-- `sweeping::advance` meets its contract: each turn is one more move of v, and it stops where v cannot move.
-- Assumes nothing.
use mathlib.Core.Bool.{not}
use mathlib.Core.Path.{ap}
use mathlib.Core.Path.{◌≡◌}
use Prim.Native.Nat.{ℕ, ◌+◌, ◌-◌, ◌*◌, ◌≤◌, ◌<◌}
use native.Mathlib.Numerals.{add-one}
use native.Mathlib.Omega.{arith}
use borrow.Author.Tests.{not-true, not-false}
use lib.ListN.{get_or}
use Rattle.tables.specs.Rows.{place_column, many_column}
use Rattle.opening.specs.Conditions.{Readable}
use Rattle.opening.specs.Opening.{step_of}
use Rattle.sweeping.specs.Moving.{Guided, Moves, none, more, LooksInRange, Looks, wanted_after, state_after}
use Rattle.sweeping.proofs.advance.Goals as goal
use Rattle.sweeping.proofs.advance.Goals.{After-wide, At-loop-wants, Else-not-all_hold, Else-step-lt2}

-- v is one of the variables, and a look at it is in range
abbrev Here : At-loop-wants → Type 0
Here l =
    let s = l.args in
    (n : ℕ) × (s.v < n) × LooksInRange s.file.now s.acts.now s.steps.now n l.loop-wants.wants l.loop-wants.state

here : (l : At-loop-wants) → Here l
here l = let (n, h, g) = l.requires in (n, h, (g _ _ _ (l.loop-wants.invariant n h g)).0)

low : (l : At-loop-wants) → l.args.v < 32
low l = let (n, h, within) = here l in omega (arith, within.few)

entry-low : (w : After-wide) → 16 * w.args.v + w.wide.result < 512
entry-low w = let (n, h, within) = (let here_here : (let s = w.args in
    (n : ℕ) × (s.v < n) × LooksInRange s.file.now s.acts.now s.steps.now n w.loop-wants.wants w.loop-wants.state) = let (n, h, g) = w.requires in (n, h, (g _ _ _ (w.loop-wants.invariant n h g)).0) in here_here) in omega (arith, within.few, within.narrow _ h, w.wide.ensures.0)

-- the action that v's step names
abbrev named : Else-step-lt2 → ℕ
named c =
    let s = c.args in
    get_or s.steps.now (16 * s.v + c.wide.result) 0 - 2

-- .. is the next of v
names-next :
    (c : Else-step-lt2) → (step_of c.args.steps.now c.loop-wants.state c.args.v ≡ named c + 2)
names-next c =
    rw c.wide.ensures.0 (omega (arith, rw c.wide.ensures.0 at c.if-step-lt2.false))

-- .. and can be looked at
next-in-range :
    (c : Else-step-lt2) → (let s = c.args in
    (named c < 256) × Readable s.file.now (get_or (place_column s.acts.now) (named c) 0) (get_or (many_column s.acts.now) (named c) 0))
next-in-range c = let (n, h, within) = (let here_here : (let s = c.args in
    (n : ℕ) × (s.v < n) × LooksInRange s.file.now s.acts.now s.steps.now n c.loop-wants.wants c.loop-wants.state) = let (n, h, g) = c.requires in (n, h, (g _ _ _ (c.loop-wants.invariant n h g)).0) in here_here) in within.next _ _ h (names-next c)

-- all its conditions hold: it looks ready
looks-ready :
    (c : Else-not-all_hold) → (let s = c.args in
    Looks s.file.now s.acts.now s.steps.now c.loop-wants.wants c.loop-wants.state s.v ((let s = c.args in
    get_or s.steps.now (16 * s.v + c.wide.result) 0 - 2)))
looks-ready c =
    let o = c.action_at-act.ensures in
    record {
      next = (let names_next_here : (step_of c.args.steps.now c.loop-wants.state c.args.v ≡ (let s = c.args in
          get_or s.steps.now (16 * s.v + c.wide.result) 0 - 2) + 2) = rw c.wide.ensures.0 (omega (arith, rw c.wide.ensures.0 at c.if-step-lt2.false)) in names_next_here);
      unwanted = rw c.wide.ensures.0 at c.if-wants-j-ne0.false;
      hold = rw (o.place, o.many) at (c.all_hold.ensures.0 (not-false _ (ap not c.if-not-all_hold.false)));
    }

-- .. and one more move
one_more :
    (c : Else-not-all_hold) → (let s = c.args in
    (n : ℕ) → s.v < n → Guided s.file.now s.acts.now s.steps.now n s.wants.now s.state.now
    → Moves s.file.now s.acts.now s.steps.now n s.wants.now s.state.now (c.loop-wants.k + 1)
    (wanted_after s.file.now s.acts.now s.steps.now c.loop-wants.wants ((let s = c.args in
    get_or s.steps.now (16 * s.v + c.wide.result) 0 - 2)))
    (state_after s.file.now s.acts.now s.steps.now c.loop-wants.state s.v ((let s = c.args in
    get_or s.steps.now (16 * s.v + c.wide.result) 0 - 2))))
one_more c n h g =
    rw (add-one c.loop-wants.k) (more _ _ (c.loop-wants.invariant n h g) h (looks-ready c))

at_most : (c : Else-not-all_hold) → c.loop-wants.k + 1 ≤ 256
at_most c =
    let (n, h, g) = c.requires in
    (g _ _ _ (one_more c n h g)).1

pub loop-wants-init : goal.loop-wants-init
loop-wants-init c = λ n h g. none

pub overflow_mul-j : goal.overflow_mul-j
overflow_mul-j c = omega (arith, low c)

pub bounds-state-v : goal.bounds-state-v
bounds-state-v c = low (goal.at.bounds-state-v c).At-loop-wants

pub overflow_add-j : goal.overflow_add-j
overflow_add-j c = omega (arith, entry-low c)

pub offset_bounds-wants-j : goal.offset_bounds-wants-j
offset_bounds-wants-j c = omega (arith, entry-low c)

pub bounds-wants-j : goal.bounds-wants-j
bounds-wants-j c = entry-low (goal.at.bounds-wants-j c).After-wide

pub returns-then-wants-j-ne0 : goal.returns-then-wants-j-ne0
returns-then-wants-j-ne0 c =
    λ n h g. record { moves = c.loop-wants.invariant n h g; stays = λ i looks. c.if-wants-j-ne0.true (rw c.wide.ensures.0 looks.unwanted) }

pub offset_bounds-steps-j : goal.offset_bounds-steps-j
offset_bounds-steps-j c = omega (arith, entry-low (goal.at.offset_bounds-steps-j c).After-wide)

pub bounds-steps-j : goal.bounds-steps-j
bounds-steps-j c = entry-low (goal.at.bounds-steps-j c).After-wide

pub returns-then-step-lt2 : goal.returns-then-step-lt2
returns-then-step-lt2 c =
    λ n h g. record { moves = c.loop-wants.invariant n h g; stays = λ i looks. omega (arith, rw c.wide.ensures.0 at c.if-step-lt2.true, looks.next) }

pub overflow_cast-step : goal.overflow_cast-step
overflow_cast-step c = omega (arith, (next-in-range c).0)

pub action_at-act-requires : goal.action_at-act-requires
action_at-act-requires c = (next-in-range c).0

pub all_hold-requires : goal.all_hold-requires
all_hold-requires c =
    rw (c.action_at-act.ensures.place, c.action_at-act.ensures.many) (next-in-range (goal.at.all_hold-requires c).Else-step-lt2).1

pub returns-then-not-all_hold : goal.returns-then-not-all_hold
returns-then-not-all_hold c =
    let o = c.action_at-act.ensures in
    λ n h g. record {
      moves = c.loop-wants.invariant n h g;
      stays = λ i looks.
          let same : i ≡ named (goal.at.returns-then-not-all_hold c).Else-step-lt2 = omega (arith, looks.next, names-next (goal.at.returns-then-not-all_hold c).Else-step-lt2) in
          c.all_hold.ensures.1 (not-true _ (ap not c.if-not-all_hold.true)) (rw (o.place, o.many) (rw same at looks.hold));
    }

pub unwant-requires : goal.unwant-requires
unwant-requires c =
    let o = c.action_at-act.ensures in
    let (n, h, within) = here (goal.at.unwant-requires c).At-loop-wants in
    (rw (o.place, o.many) (within.able _ _ h (looks-ready (goal.at.unwant-requires c).Else-not-all_hold)), within.wants_long)

pub bounds-state-v-in-loop-wants : goal.bounds-state-v-in-loop-wants
bounds-state-v-in-loop-wants c = low (goal.at.bounds-state-v-in-loop-wants c).At-loop-wants

pub overflow_add-k : goal.overflow_add-k
overflow_add-k c = omega (arith, at_most (goal.at.overflow_add-k c).Else-not-all_hold)

pub loop-wants-smaller : goal.loop-wants-smaller
loop-wants-smaller c = omega (arith, at_most (goal.at.loop-wants-smaller c).Else-not-all_hold)

pub loop-wants-preserved : goal.loop-wants-preserved
loop-wants-preserved c =
    let o = c.action_at-act.ensures in
    rw (c.unwant.ensures, o.place, o.many, o.post) (one_more (goal.at.loop-wants-preserved c).Else-not-all_hold)
