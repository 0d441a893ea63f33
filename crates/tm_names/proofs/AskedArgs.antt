-- The arguments of a call, one by one.
use Rattle.std.proofs.Common.{◌≡◌, ℕ, zero, suc, ◌+◌, ◌<◌, List, [], ◌∷◌, ◌++◌, map, length, drop, get_or, slice_get, refl, ap, ◌∙◌, sym, arith}
use Rattle.std.specs.Option.{option_map}
use Rattle.std.proofs.lemmas.List.{at_drop_more, map-append}
use Rattle.tm_syntax.specs.declared.tree.Expr.{Expr}
use Rattle.tm_syntax.specs.declared.tree.Param.{Param}
use Rattle.tm_syntax.specs.Tree.{ExprTree}
use Rattle.tm_syntax.specs.Tree.View.{expr_tree, expr_trees}
use Rattle.tm_syntax.specs.Scopes.Names.{type_of}
use Rattle.tm_syntax.specs.Scopes.Parts.{asked_args}

-- an argument is asked for the type of the parameter of its index
first_asked : (ps : List Param) (i : ℕ) (e : ExprTree) (es : List ExprTree) →
    asked_args (drop i ps) (e ∷ es)
    ≡ record { ty = option_map (λ (p : Param). type_of p.ty) (slice_get ps i); expr = e }
    ∷ asked_args (drop (suc i) ps) es
first_asked [] zero e es = refl
first_asked [] (suc i) e es = refl
first_asked (p ∷ ps) zero e es = refl
first_asked (p ∷ ps) (suc i) e es = first_asked ps i e es

pub asked_args-more : (ps : List Param) (xs : List Expr) (i : ℕ) (x : Expr) → i < length xs → x ≡ get_or xs i x →
    asked_args (drop i ps) (expr_trees (drop i xs))
    ≡ record { ty = option_map (λ (p : Param). type_of p.ty) (slice_get ps i); expr = expr_tree x }
    ∷ asked_args (drop (i + 1) ps) (expr_trees (drop (i + 1) xs))
asked_args-more ps xs i x within is =
    let more : suc i ≡ i + 1 = omega arith in
    at_drop_more (λ ys. asked_args (drop i ps) (expr_trees ys)) xs i x within
    ∙ ap (λ y. asked_args (drop i ps) (expr_tree y ∷ expr_trees (drop (i + 1) xs))) (sym is)
    ∙ first_asked ps i (expr_tree x) (expr_trees (drop (i + 1) xs))
    ∙ ap (λ k. record { ty = option_map (λ (p : Param). type_of p.ty) (slice_get ps i); expr = expr_tree x }
    ∷ asked_args (drop k ps) (expr_trees (drop (i + 1) xs))) more

-- one more element of a list that is seen through a view
pub pushed_one : {X Y : Type 0} (view : X → Y) (old new : List X) (x : X) → new ≡ old ++ x ∷ [] →
    map view new ≡ map view old ++ view x ∷ []
pushed_one view old new x is = ap (map view) is ∙ map-append view old (x ∷ [])
