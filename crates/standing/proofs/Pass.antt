-- One pass over the file: what has been read so far, with what is still to be read, is what the file says.
-- Assumes nothing.
use mathlib.Core.Path.{◌≡◌, refl}
use mathlib.Core.List.{List}
use Prim.Native.Nat.{ℕ}
use native.Mathlib.Omega.{arith}
use lib.ListN.{length}
use Rattle.std.specs.Prelude.{Ok}
use Rattle.study.specs.Reading.{refused, blank, reading}
use Rattle.advancing.specs.declared.Progress.{Progress}
use Rattle.advancing.specs.declared.Step.TheVariants.{On, Refused, Done}
use Rattle.tables.specs.Tables.{Tables, Sized, Reads}
use Rattle.standing.specs.Reads.{Safe, origin}
use Rattle.standing.specs.Halfway.{Halfway}
use Rattle.standing.proofs.Arms.{Answers}
use Rattle.standing.proofs.Reached.{begun, settles, goes_further}
use Rattle.standing.proofs.Start.{nothing_known}

pub begins : (file : List ℕ) {t : Tables} {crews : List ℕ} → Sized t → length crews ≡ 8 → Halfway file t crews origin
begins file sized eight =
    record {
      draft = blank;
      reached = begun file;
      stands =
          record {
            knows = nothing_known _;
            sized = sized;
            actions = record { count = refl; few = omega arith; action = λ i h. absurd (omega arith) };
            no_actions = λ h. refl;
            placed = refl;
            places = λ i h. absurd (omega arith);
            no_tasks = λ h. refl;
            tasks = λ h. record { count = refl; room = omega arith; start = λ v h. absurd (omega arith); goal = λ v h. absurd (omega arith) };
            no_crews = λ h. refl;
            crews = record { long = eight; count_is = refl; few = omega arith; crew = λ c h. absurd (omega arith) };
            next-condition = λ h k. absurd (omega arith);
            counted = λ h k. absurd (omega arith);
            still_in = λ h k. absurd (omega arith);
          };
    }

module _ {file : List ℕ} {t : Tables} {crews : List ℕ} {p : Progress} (safe : Safe file p t.counts) (h : Halfway file t crews p) where
  pub goes_on : {t' : Tables} {crews' : List ℕ} {p' : Progress} → Answers file p t crews t' crews' (On p') → Halfway file t' crews' p'
  goes_on a =
      let k = a.1 h.draft h.stands in
      record { draft = k.0; reached = goes_further h.reached safe.inside k.1 a.0.0; stands = k.2 }

  pub refuses : {n place : ℕ} → Answers file p t crews t crews (Refused n place) → reading file ≡ refused n place
  refuses a = settles h.reached safe.inside (a.1 h.draft h.stands)

  pub ends :
      (t' : Tables) (crews' : List ℕ) (p' : Progress) → Answers file p t crews t' crews' (Done p')
      → Reads file t' crews' (Ok (record { vars = p'.vars; actions = p'.actions; crews = p'.crews }))
  ends t' crews' p' a = let k = a.1 h.draft h.stands in (k.0, settles h.reached safe.inside k.1, k.2)
