-- `records::body_length` meets its contract: the kinds' four bits, one kind after another.
-- Assumes nothing.
use mathlib.Core.Path.{◌≡◌, refl}
use Prim.Native.Nat.{ℕ, zero, suc, ◌≤◌, ◌*◌, ◌/◌, ◌%◌, ◌^◌}
use native.Mathlib.Omega.{arith}
use Rattle.records.specs.Records.{body_length_lem, body_lengths}
use Rattle.records.proofs.Laws.{body_length_small}
use Rattle.records.proofs.body_length.Goals as goal

four-bits : (kind : ℕ) → kind ≤ 9 → 4567802640 / 2 ^ (4 * kind) % 16 ≡ body_length_lem kind
unfolding body_length_lem body_lengths
four-bits zero h = refl
four-bits (suc zero) h = refl
four-bits (suc (suc zero)) h = refl
four-bits (suc (suc (suc zero))) h = refl
four-bits (suc (suc (suc (suc zero)))) h = refl
four-bits (suc (suc (suc (suc (suc zero))))) h = refl
four-bits (suc (suc (suc (suc (suc (suc zero)))))) h = refl
four-bits (suc (suc (suc (suc (suc (suc (suc zero))))))) h = refl
four-bits (suc (suc (suc (suc (suc (suc (suc (suc zero)))))))) h = refl
four-bits (suc (suc (suc (suc (suc (suc (suc (suc (suc zero))))))))) h = refl
four-bits (suc (suc (suc (suc (suc (suc (suc (suc (suc (suc kind)))))))))) h = omega arith

pub returns : goal.returns
returns c =
    let e = four-bits c.args.kind c.requires.1 in
    (e, rw e (body_length_small c.args.kind))
