-- The record that is left holds the occupant's bytes.
-- Assumes nothing.
use mathlib.Core.Path.{◌≡◌, refl, sym, ap, ◌∙◌}
use mathlib.Core.List.{List, ◌++◌, append_assoc, append-nil}
use Prim.Native.Nat.{ℕ, ◌+◌, ◌-◌, ◌≤◌}
use native.Mathlib.Omega.{arith}
use lib.ListN.{length, take, drop, replicate, length-append, length-drop, length-replicate, replicate-append-replicate, drop_of_length-le}
use lib.Seq.{sets, sets-eq, take_at, drop_at, length-take-le}
use Rattle.study.specs.Study.{Study}
use Rattle.replays.specs.Replay as Replay
use Rattle.replays.specs.Replay.{idle, waits_for, Progress, stance_bytes, sum_bytes, state_bytes, occupant_bytes}
use Rattle.barring.specs.Stances.{stance_of}
use Rattle.occupant.specs.declared.Occupant.{Occupant}
use Rattle.following.specs.Following.{Shows}
use Rattle.replaying.specs.Leaving.{told_of, told_bytes}

-- a run of stores over the last bytes of a list
pub end_stored : (bytes vs : List ℕ) (i : ℕ) → length bytes ≡ i + length vs → sets bytes i vs ≡ take i bytes ++ vs
end_stored bytes vs i e =
    sets-eq vs bytes i (omega arith)
    ∙ (rw (drop_of_length-le bytes {i = i + length vs} (omega arith)) (append-nil (take i bytes ++ vs)))

told_bytes_lem : (f : Replay.Stance) → told_bytes (told_of (stance_of f)) ≡ stance_bytes f
told_bytes_lem idle = refl
told_bytes_lem (waits_for v q) = refl

-- so many zeros
abbrev zeros : ℕ → List ℕ
zeros n = replicate n 0

-- what was put over forty zeros: the state with zeros behind it
state_padded : (s : List ℕ) (n : ℕ) → length s ≡ n → n ≤ 32 → take 32 (s ++ drop n (zeros 40)) ≡ state_bytes s
state_padded s n e few =
    let rest : List ℕ = zeros (32 - n) ++ zeros 8 in
    let all : zeros 40 ≡ zeros n ++ rest =
    let k : n + (32 - n + 8) ≡ 40 = omega arith in
    ap (λ (m : ℕ). zeros m) (sym k)
    ∙ sym (replicate-append-replicate {A = ℕ} n (32 - n + 8) 0)
    ∙ ap (λ (ys : List ℕ). zeros n ++ ys) (sym (replicate-append-replicate {A = ℕ} (32 - n) 8 0)) in
    rw (all, drop_at (zeros n) rest n (length-replicate {A = ℕ} n 0), ← append_assoc s (zeros (32 - n)) (zeros 8), e)
    (take_at (s ++ zeros (32 - n)) (zeros 8) 32 (omega (arith, e, length-append s (zeros (32 - n)), length-replicate {A = ℕ} (32 - n) 0)))

pub record_put :
    {t : Study} {p : Progress} {one : Occupant} {table : List ℕ} → Shows t p one table → length t.counts ≤ 32
    → (n : ℕ) → n ≡ length t.counts → {first last : List ℕ}
    → first ≡ take n table ++ drop n (zeros 40)
    → (length first ≡ 40 → last ≡ take 32 first ++ (sum_bytes one.sum ++ told_bytes (told_of one.stance)))
    → last ≡ occupant_bytes p.occupant
record_put {t} {p} {one} {table} shows few n e {first} {last} put end =
    let s = p.occupant.state in
    let shown-is : take n table ≡ s = rw e shows.state in
    let long : length s ≡ n = ap length (sym shown-is) ∙ length-take-le n table (omega (arith, shows.long, e)) in
    let first-is : first ≡ s ++ drop n (zeros 40) = rw (← shown-is) put in
    let room : length first ≡ 40 = omega (arith, ap length first-is, length-append s (drop n (zeros 40)), length-drop n (zeros 40), long, e) in
    end room
    ∙ (rw (first-is, state_padded s n long (omega (arith, e)), shows.sum, shows.stance, told_bytes_lem p.occupant.stance))
