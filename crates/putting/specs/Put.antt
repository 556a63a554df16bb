-- Bytes put into a file from a place on, and the place after them.
-- Assumes nothing.
use Rattle.std.specs.Prelude.{◌≡◌, List, ℕ, ◌+◌, ◌≤◌, length}
use Rattle.std.proofs.lemmas.List.Edits.{sets}

abbrev pub Fits : List ℕ → ℕ → List ℕ → Type 0
Fits bytes at file = at + length bytes ≤ length file

pub record Put (bytes : List ℕ) (at : ℕ) (before after : List ℕ) (next : ℕ) : Type 0 where
  pub file : after ≡ sets before at bytes
  pub place : next ≡ at + length bytes
