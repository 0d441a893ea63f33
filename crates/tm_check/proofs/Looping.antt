-- How many ranked regions a goal has.
use Rattle.std.proofs.Common.{◌≡◌, ℕ, ◌<◌, List, length, sym, ap, ◌∙◌}
use Rattle.std.specs.Prelude.{slice_get}
use Rattle.std.specs.Option.{option_map_or}
use Rattle.tm_check.specs.declared.loaded.DriverDiagrams.{DriverDiagrams}
use Rattle.tm_check.specs.Loaded.{row_at}
use Rattle.tm_check.specs.Told.{IsTold}
use Rattle.tm_check.proofs.Parts.{ranked_here}
use Rattle.tm_cir.specs.Tree.{BlockTree}
use Rattle.tm_game.specs.Game.{GameData}
use Rattle.tm_sem.specs.Certificates.{DriverSets, RankedSet}
use Rattle.tm_syntax.specs.Design.{DesignTree}

-- of a certificate
abbrev pub ranks_of : DriverSets → ℕ → ℕ
ranks_of c goal = option_map_or (λ (ranked : List RankedSet). length ranked) (slice_get c.goals goal) 0

-- as many as there are diagrams
pub ranks_are : (d : DesignTree) (bs : List BlockTree) (c : DriverSets) (g : GameData) (told : DriverDiagrams) →
    IsTold d bs c g told → (goal : ℕ) → goal < length told.goals.items →
    ranks_of c goal ≡ length (row_at told goal)
ranks_are d bs c g told is goal there =
    let ranked = ranked_here d bs c g told is goal there in
    ap (λ o. option_map_or (λ (xs : List RankedSet). length xs) o 0) ranked.1
    ∙ sym (is.diagrams.each goal ranked.0 ranked.1).count
