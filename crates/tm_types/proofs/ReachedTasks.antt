-- What is said of the task that a call reaches, and the place of the last name of a path.
use Rattle.std.proofs.Common.{◌≡◌, suc, ◌-◌, ◌<◌, Option, None, Some, List, [], ◌∷◌, length, get_or, ap, ◌∙◌, arith}
use Rattle.std.specs.Option.{option_map, option_map_or}
use Rattle.tm_syntax.specs.declared.tree.Ident.{Ident}
use Rattle.tm_syntax.specs.Tree.{TaskTree, TemplateTree}
use Rattle.tm_syntax.specs.Faults.Mismatches.{last_place}

-- what the task of a pair holds
pub of_reached : {X : Type 0} (f : TaskTree → List X) (reached : Option (TemplateTree × TaskTree))
    (task : Option TaskTree) → task ≡ option_map (λ (k : TemplateTree × TaskTree). k.1) reached →
    option_map_or f task [] ≡ option_map_or (λ (k : TemplateTree × TaskTree). f k.1) reached []
of_reached f None task is = ap (λ o. option_map_or f o []) is
of_reached f (Some k) task is = ap (λ o. option_map_or f o []) is

-- the place of the last name of a path that has one
pub last_place-read : (path : List Ident) (name : Ident) → 0 < length path → name ≡ get_or path (length path - 1) name →
    name.place ≡ last_place path
last_place-read [] name some is = absurd (omega arith)
last_place-read (first ∷ []) name some is = ap (λ (n : Ident). n.place) is
last_place-read (first ∷ next ∷ names) name some is =
    let before : length (first ∷ next ∷ names) - 1 ≡ suc (length (next ∷ names) - 1) = omega arith in
    let more : 0 < length (next ∷ names) = omega arith in
    last_place-read (next ∷ names) name more (is ∙ ap (λ k. get_or (first ∷ next ∷ names) k name) before)
