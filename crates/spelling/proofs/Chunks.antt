-- Lent bytes in chunks of so many: which of the bytes stand in a chunk.
-- Assumes nothing.
use mathlib.Core.Path.{◌≡◌, ◌∙◌}
use mathlib.Core.List.{List, [], ◌∷◌}
use Prim.Native.Nat.{ℕ, zero, suc, ◌+◌, ◌*◌, ◌/◌, ◌≤◌, ◌<◌}
use native.Mathlib.Nat.{mul-le-mul_left, mul-div-le}
use native.Mathlib.Omega.{arith}
use lib.ListN.{length, get_or, drop}
use Rattle.std.specs.Simd.{first_chunks}
use Rattle.std.proofs.lemmas.List.{get_or-take, get_or-drop}
use Rattle.spelling.proofs.LentBytes.{two_bytes, three_bytes, five_bytes}

-- chunk k, of n bytes, begins at byte n * k
pub record Chunk (n : ℕ) (bytes : List ℕ) (k : ℕ) (chunk : List ℕ) : Type 0 where
  pub room : n * k + n ≤ length bytes
  pub byte : (j i : ℕ) → j < n → i ≡ n * k + j → get_or chunk j 0 ≡ get_or bytes i 0

-- .. of the first m
chunk_byte : (n m : ℕ) (bytes : List ℕ) (k j : ℕ) → k < m → j < n → get_or (get_or (first_chunks n m bytes) k []) j 0 ≡ get_or bytes (n * k + j) 0
chunk_byte n zero bytes k j h inside = absurd (omega arith)
chunk_byte n (suc m) bytes zero j h inside =
    let here : n * 0 + j ≡ j = omega arith in
    rw here (get_or-take n bytes j 0 inside)
chunk_byte n (suc m) bytes (suc k) j h inside =
    let here : n + (n * k + j) ≡ n * suc k + j = omega arith in
    chunk_byte n m (drop n bytes) k j (omega arith) inside ∙ rw (get_or-drop n bytes (n * k + j) 0, here)

-- what `as_chunks` says of the chunks
pub chunk_at :
    (n : ℕ) (bytes : List ℕ) {chunks : List (List ℕ)} → chunks ≡ first_chunks n (length bytes / n) bytes → length chunks ≡ length bytes / n
    → (k : ℕ) → k < length chunks → Chunk n bytes k (get_or chunks k [])
chunk_at n bytes e many k h = let upto : suc k ≤ length bytes / n = omega arith in record {
  room = omega (arith, mul-le-mul_left n upto, mul-div-le (length bytes) n);
  byte = λ j i inside here. rw (e, here) (chunk_byte n (length bytes / n) bytes k j (omega arith) inside);
}

-- the bytes from a chunk on
module _ {bytes chunk : List ℕ} {k : ℕ} where
  pub two_first : Chunk 2 bytes k chunk → drop (2 * k) bytes ≡ get_or chunk 0 0 ∷ get_or chunk 1 0 ∷ drop (2 * (k + 1)) bytes
  two_first c =
      let next : 2 * (k + 1) ≡ 2 * k + 2 = omega arith in
      rw (next, c.byte 0 (2 * k) (omega arith) (omega arith), c.byte 1 (2 * k + 1) (omega arith) (omega arith)) (two_bytes bytes (2 * k) c.room)

  pub three_first : Chunk 3 bytes k chunk → drop (3 * k) bytes ≡ get_or chunk 0 0 ∷ get_or chunk 1 0 ∷ get_or chunk 2 0 ∷ drop (3 * (k + 1)) bytes
  three_first c =
      let next : 3 * (k + 1) ≡ 3 * k + 3 = omega arith in
      rw (
        next,
        c.byte 0 (3 * k) (omega arith) (omega arith),
        c.byte 1 (3 * k + 1) (omega arith) (omega arith),
        c.byte 2 (3 * k + 2) (omega arith) (omega arith),
      )
      (three_bytes bytes (3 * k) c.room)

  pub five_first :
      Chunk 5 bytes k chunk
      → drop (5 * k) bytes ≡ get_or chunk 0 0 ∷ get_or chunk 1 0 ∷ get_or chunk 2 0 ∷ get_or chunk 3 0 ∷ get_or chunk 4 0 ∷ drop (5 * (k + 1)) bytes
  five_first c =
      let next : 5 * (k + 1) ≡ 5 * k + 5 = omega arith in
      rw (
        next,
        c.byte 0 (5 * k) (omega arith) (omega arith),
        c.byte 1 (5 * k + 1) (omega arith) (omega arith),
        c.byte 2 (5 * k + 2) (omega arith) (omega arith),
        c.byte 3 (5 * k + 3) (omega arith) (omega arith),
        c.byte 4 (5 * k + 4) (omega arith) (omega arith),
      )
      (five_bytes bytes (5 * k) c.room)
