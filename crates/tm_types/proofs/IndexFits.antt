-- Which indices fit, by what they are.
use Rattle.std.proofs.Common.{◌≡◌, true, false, ◌||◌, ◌&&◌, refl, sym, ap, ◌∙◌}
use Rattle.tm_syntax.specs.Tree.{ExprTree, truth, number, path, group, unary, binary, shift, conditional, cast, element}
use Rattle.tm_syntax.specs.Scopes.Context.{BodyName, process_body, task_body, outside}
use Rattle.tm_syntax.specs.Faults.Operands.{Finding, index_fits, is_number_typed}
use Rattle.tm_types.specs.Inner.Indices.{is_number}
use Rattle.tm_names.specs.Sites.{is_in_body}

-- an index is a NUMBER, or stands in a body and is a number with a type of its own
index_fits-by_parts : (body : BodyName) (e : ExprTree) (found : Finding) →
    (is_number e || (is_in_body body && is_number_typed found)) ≡ index_fits body e found
index_fits-by_parts (process_body k) (number n) found = refl
index_fits-by_parts (process_body k) (truth _ _) found = refl
index_fits-by_parts (process_body k) (path _) found = refl
index_fits-by_parts (process_body k) (group _ _) found = refl
index_fits-by_parts (process_body k) (unary _ _ _) found = refl
index_fits-by_parts (process_body k) (binary _ _ _ _) found = refl
index_fits-by_parts (process_body k) (shift _ _ _ _) found = refl
index_fits-by_parts (process_body k) (conditional _ _ _ _) found = refl
index_fits-by_parts (process_body k) (cast _ _ _) found = refl
index_fits-by_parts (process_body k) (element _ _) found = refl
index_fits-by_parts (task_body k) (number n) found = refl
index_fits-by_parts (task_body k) (truth _ _) found = refl
index_fits-by_parts (task_body k) (path _) found = refl
index_fits-by_parts (task_body k) (group _ _) found = refl
index_fits-by_parts (task_body k) (unary _ _ _) found = refl
index_fits-by_parts (task_body k) (binary _ _ _ _) found = refl
index_fits-by_parts (task_body k) (shift _ _ _ _) found = refl
index_fits-by_parts (task_body k) (conditional _ _ _ _) found = refl
index_fits-by_parts (task_body k) (cast _ _ _) found = refl
index_fits-by_parts (task_body k) (element _ _) found = refl
index_fits-by_parts outside (number n) found = refl
index_fits-by_parts outside (truth _ _) found = refl
index_fits-by_parts outside (path _) found = refl
index_fits-by_parts outside (group _ _) found = refl
index_fits-by_parts outside (unary _ _ _) found = refl
index_fits-by_parts outside (binary _ _ _ _) found = refl
index_fits-by_parts outside (shift _ _ _ _) found = refl
index_fits-by_parts outside (conditional _ _ _ _) found = refl
index_fits-by_parts outside (cast _ _ _) found = refl
index_fits-by_parts outside (element _ _) found = refl

pub index_fits-number : (body : BodyName) (e : ExprTree) (found : Finding) → is_number e ≡ true →
    true ≡ index_fits body e found
index_fits-number body e found is =
    ap (λ b. b || (is_in_body body && is_number_typed found)) (sym is) ∙ index_fits-by_parts body e found

pub index_fits-other : (body : BodyName) (e : ExprTree) (found : Finding) → is_number e ≡ false →
    (is_in_body body && is_number_typed found) ≡ index_fits body e found
index_fits-other body e found is =
    ap (λ b. b || (is_in_body body && is_number_typed found)) (sym is) ∙ index_fits-by_parts body e found
