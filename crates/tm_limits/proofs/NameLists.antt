-- The first long name of a list that is told part by part.
use Rattle.std.proofs.Common.{◌≡◌, Option, List, [], ◌∷◌, ◌++◌, sym, ap, ◌∙◌}
use Rattle.std.specs.List.{flat_map}
use Rattle.std.proofs.lemmas.List.{append-nil}
use Rattle.std.proofs.lemmas.List.Concat.{flat_map-append}
use Rattle.tm_syntax.specs.declared.tree.Ident.{Ident}
use Rattle.tm_syntax.specs.Tree.{ExprTree, StmtTree}
use Rattle.tm_limits.specs.declared.names.bodies.Sought.{Sought}
use Rattle.tm_limits.specs.LongNames.{expr_names, first_long, own_names}

-- of one path, which is a slice in the code
pub one_path : (slice p : List Ident) (r : Option Ident) → slice ≡ p → r ≡ first_long slice →
    r ≡ first_long (flat_map (λ q. q) (p ∷ []))
one_path slice p r same is = is ∙ ap first_long (same ∙ sym (append-nil p))

-- of two lists of paths
pub both_paths : (ps qs : List (List Ident)) (r : Option Ident) →
    r ≡ first_long (flat_map (λ q. q) ps ++ flat_map (λ q. q) qs) → r ≡ first_long (flat_map (λ q. q) (ps ++ qs))
both_paths ps qs r is = is ∙ ap first_long (sym (flat_map-append (λ q. q) ps qs))

-- of a path, which is a slice in the code, before others
pub path_before : (slice p : List Ident) (ps : List (List Ident)) (r : Option Ident) → slice ≡ p →
    r ≡ first_long (slice ++ flat_map (λ q. q) ps) → r ≡ first_long (flat_map (λ q. q) (p ∷ ps))
path_before slice p ps r same is = is ∙ ap (λ q. first_long (q ++ flat_map (λ q. q) ps)) same

-- of one expression
pub one_expr : (e : ExprTree) (r : Option Ident) → r ≡ first_long (expr_names e) →
    r ≡ first_long (flat_map expr_names (e ∷ []))
one_expr e r is = is ∙ ap first_long (sym (append-nil (expr_names e)))

-- of two lists of expressions
pub both_exprs : (es fs : List ExprTree) (r : Option Ident) →
    r ≡ first_long (flat_map expr_names es ++ flat_map expr_names fs) →
    r ≡ first_long (flat_map expr_names (es ++ fs))
both_exprs es fs r is = is ∙ ap first_long (sym (flat_map-append expr_names es fs))

-- of two lists of statements
pub both_stmts : (sought : Sought) (ss us : List StmtTree) (r : Option Ident) →
    r ≡ first_long (flat_map (own_names sought) ss ++ flat_map (own_names sought) us) →
    r ≡ first_long (flat_map (own_names sought) (ss ++ us))
both_stmts sought ss us r is = is ∙ ap first_long (sym (flat_map-append (own_names sought) ss us))

pub ruleset name_lists = (one_path, both_paths, path_before, one_expr, both_exprs, both_stmts)
