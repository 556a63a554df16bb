-- The search from a root, depth first: each turn puts a number on the path, or finishes the top and takes it off.
-- Assumes nothing.
use mathlib.Core.Path.{◌≡◌, refl, sym, subst, ◌∙◌}
use mathlib.Core.Logic.{inl, inr}
use mathlib.Core.Bool.{true, false}
use mathlib.Core.List.{List, [], ◌∷◌}
use Prim.Native.Nat.{ℕ, ◌+◌, ◌-◌, ◌≤◌, ◌<◌}
use native.Mathlib.Omega.{arith}
use lib.ListN.{length, get_or, set, length-set}
use Rattle.bits.specs.Bits.{within, Added}
use Rattle.bits.proofs.Members.{not_both, added_there, added_keeps}
use Rattle.orders.specs.Orders.{In}
use Rattle.orders.proofs.Lists.{distinct_below}
use Rattle.linking.specs.Linking.{Rows, Linked, Shaped}
use Rattle.linking.specs.Passing.{LeastOutside, Gathers, Partly, Finishes, Ring}
use Rattle.linking.proofs.Sets.{member_low, all_inside, missing, missing_fewer}
use Rattle.linking.proofs.Path.{Leads, Standing, room_left, put_on, taken_off, comes_round, leads_off}
use Rattle.linking.proofs.Finishing.{partly_on}

-- the list is the path, its top first
pub record Going (root : ℕ) (rows₀ : Rows) (done₀ : List ℕ) (rows : Rows) (done path begun : List ℕ) (depth : ℕ) (list : List ℕ) : Type 0 where
  pub shaped : Shaped rows
  pub done_long : length done ≡ 4
  pub path_long : length path ≡ 256
  pub begun_long : length begun ≡ 4
  pub count : length list ≡ depth
  pub standing : Standing path done begun list
  pub root_begun : within begun root ≡ true
  pub stays : (y : ℕ) → within done₀ y ≡ true → within done y ≡ true
  pub so_far_lem : (before : Rows) → Partly before rows₀ done₀ → Partly before rows done × Leads before list

pub going_begins :
    {root : ℕ} {rows : Rows} {done begun : List ℕ} (path : List ℕ) → Shaped rows → length done ≡ 4 → length path ≡ 256 → within done root ≡ false
    → Added root done begun → Going root rows done rows done (set path 0 root) begun 1 (root ∷ [])
going_begins {root} {rows} {done} {begun} path shaped done_long path_long undone added = record {
  shaped = shaped;
  done_long = done_long;
  path_long = length-set path 0 root ∙ path_long;
  begun_long = added.long;
  count = refl;
  standing = put_on nothing (omega arith) undone undone added;
  root_begun = added_there added;
  stays = λ y h. h;
  so_far_lem = λ before partly. (partly, tt);
}
  where
    nothing : Standing path done done []
    nothing = record {
      stands = tt;
      once = tt;
      undone = λ y h. absurd h;
      path_begun = λ y h. absurd h;
      done_begun = λ y h. h;
      no_other = λ y h. inl h;
    }

module _ {root : ℕ} {rows₀ : Rows} {done₀ : List ℕ} {rows : Rows} {done path begun : List ℕ} {depth : ℕ} where
  -- the top stands in the table
  pub has_top :
      (list : List ℕ) → Going root rows₀ done₀ rows done path begun depth list → 0 < depth
      → (rest : List ℕ) × Going root rows₀ done₀ rows done path begun depth (get_or path (depth - 1) 0 ∷ rest)
  has_top [] g h = absurd (omega (arith, g.count))
  has_top (x ∷ rest) g h = (rest, subst (λ (z : ℕ). Going root rows₀ done₀ rows done path begun depth (z ∷ rest)) (sym top) g)
    where
      place : depth - 1 ≡ length rest
      place = omega (arith, g.count)

      top : get_or path (depth - 1) 0 ≡ x
      top = rw place g.standing.stands.0

  pub path_fits : {list : List ℕ} → Going root rows₀ done₀ rows done path begun depth list → depth ≤ 256
  path_fits {list} g =
      omega (arith, g.count, distinct_below list 256 g.standing.once (λ y h. member_low begun g.begun_long y (g.standing.path_begun y h)))

  pub going_ends :
      (list : List ℕ) → Going root rows₀ done₀ rows done path begun depth list → depth ≡ 0 → Finishes root done₀ done
  going_ends (x ∷ rest) g h = absurd (omega (arith, g.count))
  going_ends [] g h = record {
    reached = elim (g.standing.no_other root g.root_begun) [ inl d ↦ d | inr k ↦ absurd k ];
    stays = g.stays;
  }

  module _ {x : ℕ} {rest : List ℕ} (g : Going root rows₀ done₀ rows done path begun depth (x ∷ rest)) where
    pub top_low : x < 256
    top_low = member_low begun g.begun_long x (g.standing.path_begun x (inl refl))

    top_undone : within done x ≡ false
    top_undone = g.standing.undone x (inl refl)

    -- all that the top is linked to is done
    module _ {r : ℕ} (least : LeastOutside (get_or rows x []) done r) (none : r ≡ 256) {done' : List ℕ} (added : Added x done done') where
      pub going_off : {rows' : Rows} → Gathers x rows rows' → Going root rows₀ done₀ rows' done' path begun (depth - 1) rest
      going_off gathers = record {
        shaped = gathers.shaped;
        done_long = added.long;
        path_long = g.path_long;
        begun_long = g.begun_long;
        count = omega (arith, g.count);
        standing = taken_off g.standing added;
        root_begun = g.root_begun;
        stays = λ y h. added_keeps added y (g.stays y h);
        so_far_lem = λ before partly.
            let (now, leads) = g.so_far_lem before partly in
            (partly_on now top_undone ready gathers added, leads_off before x rest leads);
      }
        where
          ready : (y : ℕ) → Linked rows x y → within done y ≡ true
          ready y l = all_inside least none y (member_low (get_or rows x []) (g.shaped.fours x top_low) y l) l

      pub off_fewer : missing begun + missing done' < missing begun + missing done
      off_fewer = omega (arith, missing_fewer done done' (added_keeps added) x top_low top_undone (added_there added))

    -- the top is linked to y, which is not done
    module _ {y : ℕ} (least : LeastOutside (get_or rows x []) done y) (low : y < 256) where
      linked_there : (before : Rows) → Partly before rows done → Linked before x y
      linked_there before now = rw (now.kept x top_undone) at (least.there low)

      pub going_round : within begun y ≡ true → (before : Rows) → Partly before rows₀ done₀ → Ring before
      going_round met before partly =
          let (now, leads) = g.so_far_lem before partly in
          comes_round before x rest leads y on_path (linked_there before now)
        where
          on_path : In y (x ∷ rest)
          on_path = elim (g.standing.no_other y met) [ inl d ↦ absurd (not_both d (least.outside low)) | inr h ↦ h ]

      module _ (fresh : within begun y ≡ false) where
        pub path_room : depth < 256
        path_room = omega (arith, room_left g.standing g.begun_long low fresh, g.count)

        module _ {begun' : List ℕ} (added : Added y begun begun') where
          pub going_on : Going root rows₀ done₀ rows done (set path depth y) begun' (depth + 1) (y ∷ (x ∷ rest))
          going_on = record {
            shaped = g.shaped;
            done_long = g.done_long;
            path_long = length-set path depth y ∙ g.path_long;
            begun_long = added.long;
            count = omega (arith, g.count);
            standing =
                subst (λ (k : ℕ). Standing (set path k y) done begun' (y ∷ (x ∷ rest))) g.count
                (put_on g.standing (omega (arith, path_room, g.count, g.path_long)) (least.outside low) fresh added);
            root_begun = added_keeps added root g.root_begun;
            stays = g.stays;
            so_far_lem = λ before partly.
                let (now, leads) = g.so_far_lem before partly in
                (now, (linked_there before now, leads));
          }

          pub on_fewer : missing begun' + missing done < missing begun + missing done
          on_fewer = omega (arith, missing_fewer begun begun' (added_keeps added) y low fresh (added_there added))
