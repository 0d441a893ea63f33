-- Which results fit, by whether there is a type and a result.
use Rattle.std.proofs.Common.{◌≡◌, not, None, Some, is_some, refl}
use Rattle.tm_syntax.specs.declared.tree.TaskKind.{TaskKind}
use Rattle.tm_syntax.specs.declared.tree.TaskKind.TheVariants.{Controllable, Uncontrollable, Procedure}
use Rattle.tm_syntax.specs.Tree.{ExprTree}
use Rattle.tm_syntax.specs.Scopes.Parts.{written_result}
use Rattle.tm_syntax.specs.Faults.Mismatches.{result_fits}

pub with_result : (kind : TaskKind) (e : ExprTree) → is_some (written_result kind) ≡ result_fits kind (Some e)
with_result Controllable e = refl
with_result Uncontrollable e = refl
with_result (Procedure None) e = refl
with_result (Procedure (Some ty)) e = refl

pub without_result : (kind : TaskKind) → not (is_some (written_result kind)) ≡ result_fits kind None
without_result Controllable = refl
without_result Uncontrollable = refl
without_result (Procedure None) = refl
without_result (Procedure (Some ty)) = refl
