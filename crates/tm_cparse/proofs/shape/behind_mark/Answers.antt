use Rattle.std.proofs.Common.{◌≡◌, ◌≢◌, ℕ, List, [], ◌∷◌, ◌++◌, sym, ◌∙◌}
use Rattle.tm_cparse.proofs.shape.behind_mark.Goals as goal

no_byte : (text : List ℕ) (b : ℕ) → text ≡ [] → (rest : List ℕ) → text ≢ (b ∷ []) ++ rest
no_byte text b empty rest whole = let same : [] ≡ b ∷ rest = sym empty ∙ whole in cc

pub returns-in_err-first : goal.returns-in_err-first
returns-in_err-first c = rw c.from_residual.ensures (no_byte c.args.text.now 95 c.in_err-first.ensures)
