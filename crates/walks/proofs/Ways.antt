-- Ways, the lists of actions that lead from the start to a value and do not set the start: by their last action, made longer, cut, one at most, and no action twice.
-- Assumes nothing.
use mathlib.Core.Path.{◌≡◌, refl, sym, ap, ◌∙◌}
use mathlib.Core.Logic.{◌⊎◌, inl, inr, ◌≢◌}
use mathlib.Core.List.{List, [], ◌∷◌, ◌++◌}
use Prim.Native.Nat.{ℕ, zero, suc, ◌<◌}
use native.Mathlib.Omega.{arith}
use lib.ListN.{length, get_or, take, length-append}
use lib.Seq.{length-take-le}
use Rattle.study.specs.Study.{Study}
use Rattle.lawful.specs.Lawful.{Lawful}
use Rattle.plans.specs.Plans.{Usable}
use Rattle.orders.specs.Orders.{In, Distinct}
use Rattle.plans.proofs.Usable.{one_setter}
use Rattle.walks.specs.Walks.{Way, var_of, pre_of, post_of, start_of}
use Rattle.orders.proofs.Lists.{in_append_left, in_append_right, in_append_cases, in_take, entries_differ_distinct}
use Rattle.walks.proofs.Leads.{leads_joined, Last, leads_last, leads_cut}

-- a way with a last action, which sets the value; before it stands a way to what it leaves
pub record Shorter (t : Study) (v q : ℕ) (xs : List ℕ) : Type 0 where
  pub front : List ℕ
  pub last : ℕ
  pub is : xs ≡ front ++ (last ∷ [])
  pub long : length xs ≡ suc (length front)
  pub usable : Usable t last
  pub var : var_of t last ≡ v
  pub post : post_of t last ≡ q
  pub off : q ≢ start_of t v
  pub way : Way t v (pre_of t last) front

module _ {t : Study} {v : ℕ} where
  pub way_empty : Way t v (start_of t v) []
  way_empty = record { leads = refl; ends_at_start = λ i h. absurd h }

  -- a way is made longer by an action that does not set the start
  pub way_longer :
      {list : List ℕ} {i q : ℕ}
      → Usable t i → var_of t i ≡ v → post_of t i ≡ q → q ≢ start_of t v → Way t v (pre_of t i) list → Way t v q (list ++ (i ∷ []))
  way_longer {list} {i} {q} u e f d w =
      record {
        leads = leads_joined t v (start_of t v) list (pre_of t i) (i ∷ []) q w.leads (u, (e, (refl, f)));
        ends_at_start = λ j h. elim (in_append_cases j list (i ∷ []) h) [ inl g ↦ w.ends_at_start j g | inr g ↦ last j g ];
      }
    where
      last : (j : ℕ) → In j (i ∷ []) → post_of t j ≢ start_of t v
      last j (inl k) z = d (sym f ∙ sym (ap (post_of t) k) ∙ z)
      last j (inr k) z = k

  -- a way is empty, and then leads to the start, or has a last action
  pub way_last : {q : ℕ} {xs : List ℕ} → Way t v q xs → ((xs ≡ []) × (start_of t v ≡ q)) ⊎ Shorter t v q xs
  way_last {q} {xs} w = from (leads_last t v (start_of t v) xs q w.leads)
    where
      from : ((xs ≡ []) × (start_of t v ≡ q)) ⊎ Last t v (start_of t v) xs q → ((xs ≡ []) × (start_of t v ≡ q)) ⊎ Shorter t v q xs
      from (inl e) = inl e
      from (inr l) =
          let last : In l.last xs = rw l.is (in_append_right l.last l.front (l.last ∷ []) (inl refl)) in
          inr (record {
            front = l.front;
            last = l.last;
            is = l.is;
            long = omega (arith, simp length-append at (ap length l.is));
            usable = l.usable;
            var = l.var;
            post = l.post;
            off = λ e. w.ends_at_start l.last last (l.post ∙ e);
            way = record {
              leads = l.leads;
              ends_at_start = λ j h. w.ends_at_start j (rw l.is (in_append_left j l.front (l.last ∷ []) h));
            };
          })

  pub way_shorter : {q : ℕ} {xs : List ℕ} → q ≢ start_of t v → Way t v q xs → Shorter t v q xs
  way_shorter d w = elim (way_last w) [ inl e ↦ absurd (d (sym e.1)) | inr s ↦ s ]

  -- a way, cut before an action, is a way to what that leaves
  pub way_cut : {q : ℕ} {xs : List ℕ} → Way t v q xs → (k : ℕ) → k < length xs → Way t v (pre_of t (get_or xs k 0)) (take k xs)
  way_cut {q} {xs} w k h =
      record {
        leads = leads_cut t v (start_of t v) xs q w.leads k h;
        ends_at_start = λ j g. w.ends_at_start j (in_take j xs k g);
      }

module _ {t : Study} (lawful : Lawful t) {v : ℕ} where
  -- two ways to one value have the same last action, and before it are two ways to one value
  unique_below : (n : ℕ) (q : ℕ) (xs ys : List ℕ) → length xs < n → Way t v q xs → Way t v q ys → xs ≡ ys
  unique_below zero q xs ys h a b = absurd (omega arith)
  unique_below (suc n) q xs ys h a b = from (way_last a) (way_last b) (unique_below n)
    where
      from : ((xs ≡ []) × (start_of t v ≡ q)) ⊎ Shorter t v q xs → ((ys ≡ []) × (start_of t v ≡ q)) ⊎ Shorter t v q ys
          → ((p : ℕ) (us ws : List ℕ) → length us < n → Way t v p us → Way t v p ws → us ≡ ws) → xs ≡ ys
      from (inl (e, _)) (inl (f, _)) shorter = e ∙ sym f
      from (inl (_, e)) (inr r) shorter = absurd (r.off (sym e))
      from (inr s) (inl (_, e)) shorter = absurd (s.off (sym e))
      from (inr s) (inr r) shorter =
          let last : s.last ≡ r.last = one_setter lawful s.last r.last s.usable r.usable (s.var ∙ sym r.var) (s.post ∙ sym r.post) in
          let front : s.front ≡ r.front = shorter (pre_of t r.last) s.front r.front (omega (arith, s.long)) (rw last at s.way) r.way in
          rw (s.is, r.is, last, front)

  pub way_unique : {q : ℕ} {xs ys : List ℕ} → Way t v q xs → Way t v q ys → xs ≡ ys
  way_unique {q} {xs} {ys} = unique_below (suc (length xs)) q xs ys (omega arith)

  -- no action of a way leaves the value at its end
  pub way_ends_once : {q : ℕ} {xs : List ℕ} → Way t v q xs → (k : ℕ) → k < length xs → pre_of t (get_or xs k 0) ≢ q
  way_ends_once {q} {xs} w k h e =
      let c : Way t v q (take k xs) = rw e at (way_cut w k h) in
      omega (arith, length-take-le k xs (omega arith), ap length (way_unique c w))

  pub way_distinct : {q : ℕ} {xs : List ℕ} → Way t v q xs → Distinct xs
  way_distinct {q} {xs} w = entries_differ_distinct xs λ i j b h e.
      let c : Way t v (pre_of t (get_or xs j 0)) (take i xs) = rw e at (way_cut w i (omega arith)) in
      omega (arith, length-take-le i xs (omega arith), length-take-le j xs (omega arith), ap length (way_unique c (way_cut w j h)))
