-- Before the first record nothing is known.
-- Assumes nothing.
use mathlib.Core.Path.{refl}
use mathlib.Core.List.{List}
use Prim.Native.Nat.{ℕ}
use native.Mathlib.Omega.{arith}
use lib.Dec.{leb-zero}
use Rattle.bits.proofs.Words.{bit_zero}
use Rattle.study.specs.Reading.{blank, above}
use Rattle.study.specs.Uses.{uses}
use Rattle.standing.specs.Reads.{Knows, origin}

pub nothing_known : (counts : List ℕ) → Knows origin counts blank
unfolding above uses
nothing_known counts =
    record {
      situation = refl;
      counts = record { count = refl; few = omega arith; small = λ v h. absurd (omega arith); value = λ v h. absurd (omega arith) };
      actions = refl;
      tasks = refl;
      last = refl;
      own = refl;
      above = λ v. leb-zero v;
      used = λ v. bit_zero v;
      crews = refl;
    }
