-- The verdict, from all parts that were tried.
use Rattle.std.proofs.Common.{◌≡◌, ℕ, List, [], ◌∷◌, ◌++◌, length, map, refl, sym, ap, ◌∙◌, subst}
use Rattle.std.specs.List.{flat_map}
use Rattle.std.proofs.lemmas.List.{append-nil, append_assoc, length-map}
use Rattle.tm_check.proofs.Growth.{sized_kept}
use Rattle.tm_cert.specs.declared.cert.Rank.{Rank}
use Rattle.tm_cert.specs.Cert.{DriverData}
use Rattle.tm_check.specs.declared.loaded.DriverDiagrams.{DriverDiagrams}
use Rattle.tm_check.specs.Checked.{CanCheck}
use Rattle.tm_check.specs.Loaded.{AreDiagrams}
use Rattle.tm_check.specs.Told.{IsTold}
use Rattle.tm_check.specs.Tried.{AreTried, HavePassed, SetsPassed}
use Rattle.tm_check.specs.Verdict.{IsDriverVerdict}
use Rattle.tm_cir.specs.Tree.{BlockTree}
use Rattle.tm_game.specs.Game.{GameData, Grows}
use Rattle.tm_game.proofs.Growing.{of_kept}
use Rattle.tm_sem.specs.declared.state.Move.{Move}
use Rattle.tm_sem.specs.Certificates.{DriverSets, WaitForConditions}
use Rattle.tm_sem.specs.State.{StateData}
use Rattle.tm_verdict.specs.Sets.{driver_sets, ranked_set}
use Rattle.tm_verdict.proofs.Shapes.{fairs_shape, goals_shape}
use Rattle.tm_syntax.specs.Design.{DesignTree}
use Rattle.tm_verdict.specs.declared.verdict.Verdict.{Verdict}
use Rattle.tm_verdict.specs.declared.verdict.Verdict.TheVariants.{Accepted, Refused}
use Rattle.tm_verdict.specs.Driver.{DriverPart, Passes, begins_within, driver_parts, falls_when_fair, goal_parts}
use Rattle.tm_verdict.specs.Driver.{goals_of, is_answered, is_calm, is_ranked, never_rises}
use Rattle.tm_verdict.proofs.DriverParts.{meets_of_parts}
use Rattle.tm_verdict.proofs.Listed.{all_first, all_second, each_below, each_mapped}

-- what is known once a certificate is loaded
pub told_of : (d : DesignTree) (bs : List BlockTree) (c : DriverData) (g h : GameData) (told : DriverDiagrams) →
    CanCheck d bs c g → Grows g h → AreDiagrams d g.order h.diagrams.table (driver_sets d c) told →
    IsTold d bs (driver_sets d c) h told
told_of d bs c g h told can grows are = record {
  of = of_kept g h grows d can.load.of;
  sized = sized_kept g h grows can.sized;
  regular = can.regular;
  begins = can.begins;
  blocks = can.blocks;
  goals = goals_shape d _ c can.load.fits;
  few = can.few;
  fairs = fairs_shape d _ c can.load.fits;
  diagrams = subst (λ (o : List ℕ). AreDiagrams d o h.diagrams.table (driver_sets d c) told) (sym grows.order) are;
}

module _ (d : DesignTree) (answers : StateData → ℕ → Move → Type 0) (c : DriverSets) where
  -- the parts of C0 to C3, and those of C4 to C6
  abbrev pub set_parts : List DriverPart
  set_parts =
      flat_map (goal_parts c) (goals_of c)
      ++ (begins_within ∷ [] ++ (map is_ranked (goals_of c) ++ is_calm ∷ []))

  abbrev pub step_parts : List DriverPart
  step_parts = map is_answered (goals_of c) ++ (map never_rises (goals_of c) ++ map falls_when_fair (goals_of c))

  pub all_parts : set_parts ++ step_parts ≡ driver_parts c
  all_parts =
      append_assoc (flat_map (goal_parts c) (goals_of c))
      (begins_within ∷ [] ++ (map is_ranked (goals_of c) ++ is_calm ∷ [])) step_parts
      ∙ ap (λ ps. flat_map (goal_parts c) (goals_of c) ++ (begins_within ∷ ps))
      (append_assoc (map is_ranked (goals_of c)) (is_calm ∷ []) step_parts
      ∙ ap (λ ps. map is_ranked (goals_of c)
      ++ (is_calm ∷ (map is_answered (goals_of c) ++ (map never_rises (goals_of c) ++ ps))))
      (sym (append-nil (map falls_when_fair (goals_of c)))))

  -- the parts pass on which others rest
  pub sets_passed : AreTried d answers c set_parts Accepted → SetsPassed d answers c
  sets_passed all =
      let behind = all_second (Passes d answers c) (flat_map (goal_parts c) (goals_of c)) _ all in
      let ranks = all_second (Passes d answers c) (begins_within ∷ []) _ behind in
      record {
        ranked = λ goal below.
            each_below (λ g. Passes d answers c (is_ranked g)) (length c.goals)
            (each_mapped (Passes d answers c) is_ranked (goals_of c)
            (all_first (Passes d answers c) (map is_ranked (goals_of c)) (is_calm ∷ []) ranks)) goal below;
        calm = (all_second (Passes d answers c) (map is_ranked (goals_of c)) (is_calm ∷ []) ranks).0;
      }

  pub have_passed : SetsPassed d answers c → AreTried d answers c (map is_answered (goals_of c)) Accepted →
      HavePassed d answers c
  have_passed sets all = record {
    sets = sets;
    answered = λ goal below.
        each_below (λ g. Passes d answers c (is_answered g)) (length c.goals)
        (each_mapped (Passes d answers c) is_answered (goals_of c) all) goal below;
  }

  -- the verdict
  pub verdict_is : length c.goals ≡ length d.goals → WaitForConditions d c → (v : Verdict) →
      AreTried d answers c (driver_parts c) v → IsDriverVerdict d answers c v
  verdict_is goals fairs Accepted all = meets_of_parts d answers c goals fairs all
  verdict_is goals fairs (Refused condition goal s) refused = refused

-- as many ranks as there are in the certificate
pub ranks_same : (d : DesignTree) (c : DriverData) → map length (driver_sets d c).goals ≡ map length c.goals
ranks_same d c = by c.goals
  where
    by : (rows : List (List Rank)) →
        map length (map (map (ranked_set d c.order c.nodes)) rows) ≡ map length rows
    by [] = refl
    by (row ∷ rows) =
        λ i. length-map row (ranked_set d c.order c.nodes) i ∷ by rows i
