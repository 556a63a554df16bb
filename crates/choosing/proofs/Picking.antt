-- One look after another at the least open rank: what is so between the looks, and what the choice is.
-- Assumes nothing.
use mathlib.Core.Path.{◌≡◌, ◌∙◌}
use mathlib.Core.Bool.{◌||◌}
use mathlib.Core.List.{List}
use Prim.Native.Nat.{ℕ, ◌+◌, ◌*◌, ◌≤◌, ◌<◌}
use lib.Dec.{eqb}
use lib.ListN.{length, get_or, set}
use Rattle.std.specs.Prelude.{Option, Some, None}
use Rattle.bits.specs.Bits.{bit, LeastMember, Removed}
use Rattle.opening.specs.Conditions.{Readable, FirstOpen}
use Rattle.choosing.specs.Choosing.{Noted, Chosen, Guarded}
use Rattle.choosing.specs.OpenRight.{OpenRight}
use Rattle.choosing.proofs.Looking.{notes_same, noted_again, notes_more}
use Rattle.choosing.proofs.Waiting.{none_ready, front_free, front_chosen, front_waits}

pub record Picking (file vars places manys state room held₀ opened₀ waiting₀ held opened waiting : List ℕ) : Type 0 where
  pub some :
      (ranks : List ℕ) × (steps : List ℕ) × (wants : List ℕ) × (n : ℕ)
      × Guarded file vars places manys steps state ranks room n held
      × OpenRight ranks file places manys steps wants state opened waiting n
  pub keeps :
      (ranks steps wants : List ℕ) (n : ℕ) → Guarded file vars places manys steps state ranks room n held₀
      → OpenRight ranks file places manys steps wants state opened₀ waiting₀ n
      → OpenRight ranks file places manys steps wants state opened waiting n × Noted file places manys steps state held₀ held

guarded_noted :
    {file vars places manys steps state ranks room held held' : List ℕ} {n : ℕ}
    → Guarded file vars places manys steps state ranks room n held → Noted file places manys steps state held held'
    → Guarded file vars places manys steps state ranks room n held'
guarded_noted guarded noted = record {
  sound = guarded.sound;
  right = λ v h. noted.right v (guarded.right v h);
  by_rank = guarded.by_rank;
  long = noted.long ∙ guarded.long;
}

pub picking_starts :
    {file vars places manys state room held opened waiting : List ℕ}
    → ((ranks : List ℕ) × (steps : List ℕ) × (wants : List ℕ) × (n : ℕ)
    × Guarded file vars places manys steps state ranks room n held
    × OpenRight ranks file places manys steps wants state opened waiting n)
    → Picking file vars places manys state room held opened waiting held opened waiting
picking_starts some = record { some = some; keeps = λ ranks steps wants n guarded right. (right, notes_same _ _ _ _ _ _) }

module _ {file vars places manys state room held₀ opened₀ waiting₀ held opened waiting : List ℕ}
    (picking : Picking file vars places manys state room held₀ opened₀ waiting₀ held opened waiting) where
  pub picked_long : length opened ≡ 4
  picked_long = let (ranks, steps, wants, n, guarded, right) = picking.some in right.opened_long

  module _ {r : ℕ} (least : LeastMember opened r) where
    -- what the choice is to be
    abbrev Picks : Option ℕ → Type 0
    Picks c =
        (ranks steps wants : List ℕ) (n : ℕ) → Guarded file vars places manys steps state ranks room n held₀
        → OpenRight ranks file places manys steps wants state opened₀ waiting₀ n
        → Chosen ranks n file places manys steps wants state c × OpenRight ranks file places manys steps wants state opened waiting n
        × Noted file places manys steps state held₀ held

    pub picks_none : 256 ≤ r → Picks None
    picks_none none ranks steps wants n guarded right =
        let (right', noted) = picking.keeps ranks steps wants n guarded right in
        (none_ready (guarded_noted guarded noted) right' least none, right', noted)

    module _ (some : r < 256) where
      abbrev i : ℕ
      i = get_or room r 0

      abbrev v : ℕ
      v = get_or vars i 0

      pub picked_low : v < 32
      picked_low =
          let (ranks, steps, wants, n, guarded, right) = picking.some in
          (guarded.sound v (front_free guarded right least some).below).there

      pub picked_readable : Readable file (get_or places i 0) (get_or manys i 0)
      picked_readable =
          let (ranks, steps, wants, n, guarded, right) = picking.some in
          let free = front_free guarded right least some in
          ((guarded.sound v free.below).next i free.next).1

      pub picked_held : get_or held v 0 ≤ get_or manys i 0
      picked_held =
          let (ranks, steps, wants, n, guarded, right) = picking.some in
          let free = front_free guarded right least some in
          (guarded.right v free.below i free.next).0

      module _ {k : ℕ} (first : FirstOpen file (get_or places i 0) (get_or manys i 0) state (get_or held v 0) k) where
        pub picks_ready : get_or manys i 0 ≤ k → Picks (Some i)
        picks_ready all ranks steps wants n guarded₀ right₀ =
            let (right, noted) = picking.keeps ranks steps wants n guarded₀ right₀ in
            let guarded = guarded_noted guarded₀ noted in
            let free = front_free guarded right least some in
            (front_chosen guarded right least some first (guarded.right v free.below i free.next).1 all, right, noted)

        pub picks_again :
            (on : ℕ) → on ≡ get_or file (get_or places i 0 + 3 * k + 1) 0 → k < get_or manys i 0
            → {opened' : List ℕ} → Removed r opened opened'
            → (word : ℕ) → ((j : ℕ) → bit word j ≡ (eqb v j || bit (get_or waiting on 0) j))
            → Picking file vars places manys state room held₀ opened₀ waiting₀ (set held v k) opened' (set waiting on word)
        picks_again on is unmet {opened'} removed word bits = record {
          some =
              let (ranks, steps, wants, n, guarded, right) = picking.some in
              (ranks, steps, wants, n, guarded_noted guarded (notes guarded right), moved guarded right);
          keeps = λ ranks steps wants n guarded₀ right₀.
              let (right, noted) = picking.keeps ranks steps wants n guarded₀ right₀ in
              let guarded = guarded_noted guarded₀ noted in
              (moved guarded right, noted_again noted (notes guarded right));
        }
          where
            notes :
                {ranks steps wants : List ℕ} {n : ℕ} → Guarded file vars places manys steps state ranks room n held
                → OpenRight ranks file places manys steps wants state opened waiting n → Noted file places manys steps state held (set held v k)
            notes guarded right = notes_more v i picked_low (front_free guarded right least some).next first guarded.long

            moved :
                {ranks steps wants : List ℕ} {n : ℕ} → Guarded file vars places manys steps state ranks room n held
                → OpenRight ranks file places manys steps wants state opened waiting n
                → OpenRight ranks file places manys steps wants state opened' (set waiting on word) n
            moved guarded right =
                front_waits guarded right least some first on is (rw is (picked_readable.var k unmet)) unmet removed word bits
