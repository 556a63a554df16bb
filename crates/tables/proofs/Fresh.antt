-- Tables made anew are as long as their types say.
-- Assumes nothing.
use mathlib.Core.Path.{refl}
use Prim.Native.Nat.{ℕ}
use lib.ListN.{replicate}
use Rattle.tables.specs.Tables.{Sized}
use Rattle.tables.specs.Rows.{seen_all, column}

pub fresh_sized : Sized (seen_all (replicate 256 (replicate 6 0)) (replicate 32 (replicate 3 0)) (replicate {A = ℕ} 512 0))
unfolding column
fresh_sized =
    record { counts = refl; setters = refl; vars = refl; pres = refl; posts = refl; places = refl; manys = refl; outs = refl; starts = refl; goals = refl }
