-- Text put at a place, one after another.
-- Assumes nothing.
use mathlib.Core.Path.{ap, ◌∙◌}
use mathlib.Core.List.{List, ◌++◌, append_assoc}
use Prim.Native.Nat.{ℕ}
use native.Mathlib.Omega.{arith}
use lib.ListN.{take, length-append}
use Rattle.telling.specs.Text.{Appends}

pub then :
    {before middle after a b : List ℕ} {at m n : ℕ}
    → Appends before at a middle m → Appends middle m b after n → Appends before at (a ++ b) after n
then {before} {middle} {after} {a} {b} {at} p q =
    record {
      text = q.text ∙ ap (λ (l : List ℕ). l ++ b) p.text ∙ append_assoc (take at before) a b;
      place = omega (arith, length-append a b, p.place, q.place);
    }
