-- Paths that lead to nothing, list by list.
use Rattle.std.proofs.Common.{◌≡◌, Option, List, [], ◌∷◌, ◌++◌, sym, ap, ◌∙◌}
use Rattle.std.proofs.lemmas.List.{append-nil}
use Rattle.std.proofs.lemmas.List.Concat.{flat_map-append}
use Rattle.tm_syntax.specs.declared.tree.Ident.{Ident}
use Rattle.tm_syntax.specs.Scopes.Context.{Context}
use Rattle.tm_syntax.specs.Scopes.Declared.{meaning}
use Rattle.tm_syntax.specs.Faults.Marks.{Mark, first_mark}
use Rattle.tm_syntax.specs.Faults.Names.{unknown_of, unknown_paths}

-- of one path, which is a slice in the code
pub one_path : (c : Context) (slice p : List Ident) (r : Option Mark) → slice ≡ p →
    r ≡ first_mark (unknown_of (meaning c slice)) → r ≡ first_mark (unknown_paths c (p ∷ []))
one_path c slice p r same is =
    is
    ∙ ap (λ q. first_mark (unknown_of (meaning c q))) same
    ∙ ap first_mark (sym (append-nil (unknown_of (meaning c p))))

-- of two lists of paths
pub both_paths : (c : Context) (ps qs : List (List Ident)) (r : Option Mark) →
    r ≡ first_mark (unknown_paths c ps ++ unknown_paths c qs) → r ≡ first_mark (unknown_paths c (ps ++ qs))
both_paths c ps qs r is = is ∙ ap first_mark (sym (flat_map-append (λ p. unknown_of (meaning c p)) ps qs))

-- of a path, which is a slice in the code, before others
pub path_before : (c : Context) (slice p : List Ident) (ps : List (List Ident)) (r : Option Mark) → slice ≡ p →
    r ≡ first_mark (unknown_of (meaning c slice) ++ unknown_paths c ps) → r ≡ first_mark (unknown_paths c (p ∷ ps))
path_before c slice p ps r same is =
    is ∙ ap (λ q. first_mark (unknown_of (meaning c q) ++ unknown_paths c ps)) same

pub ruleset path_lists = (one_path, both_paths, path_before)
