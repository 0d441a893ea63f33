-- Functions that are put behind a text one by one.
use Rattle.std.proofs.Common.{◌≡◌, ℕ, zero, suc, ◌+◌, ◌<◌, List, [], ◌∷◌, ◌++◌, All, codes, length, drop, get_or, sym, ap, subst, ◌∙◌, append_assoc, arith}
use Rattle.std.specs.Fmt.{decimal}
use Rattle.std.proofs.lemmas.List.{drop_more}
use Rattle.std.proofs.lemmas.List.Elements.{All-head, All-tail}
use Rattle.tm_syntax.specs.Design.{DesignTree}
use Rattle.tm_cprint.proofs.Behind.{after_three}
use Rattle.tm_struct.specs.declared.program.Tree.{Tree}
use Rattle.tm_struct.specs.View.{action_tree, action_trees}
use Rattle.tm_struct.specs.Fit.{MayNest}
use Rattle.tm_struct.specs.Layout.{body_text, functions_text}

-- what holds of all functions holds of each
pub nests_at : (fs : List Tree) (k : ℕ) (f : Tree) → All (MayNest 0) (action_trees fs) → k < length fs →
    f ≡ get_or fs k f → MayNest 0 (action_tree f)
nests_at [] k f all within is = absurd (omega (arith, within))
nests_at (x ∷ fs) zero f all within is =
    subst (λ (y : Tree). MayNest 0 (action_tree y)) (sym is)
    (All-head (MayNest 0) (action_tree x) (action_trees fs) all)
nests_at (x ∷ fs) (suc k) f all within is =
    nests_at fs k f (All-tail (MayNest 0) (action_tree x) (action_trees fs) all) (omega (arith, within)) is

-- one function more
pub function_put : (d : DesignTree) (fs : List Tree) (k : ℕ) (f : Tree) (s0 s1 s2 s3 whole : List ℕ) →
    k < length fs → f ≡ get_or fs k f → s1 ≡ s0 ++ (codes "static void b" ++ decimal k) →
    s2 ≡ s1 ++ body_text d (action_tree f) → s3 ≡ s2 ++ codes "\n" →
    s0 ++ functions_text d k (action_trees (drop k fs)) ≡ whole →
    s3 ++ functions_text d (k + 1) (action_trees (drop (k + 1) fs)) ≡ whole
function_put d fs k f s0 s1 s2 s3 whole within is name body end so_far =
    let rest : List ℕ = functions_text d (k + 1) (action_trees (drop (k + 1) fs)) in
    let head : List ℕ = codes "static void b" ++ decimal k ++ body_text d (action_tree f) ++ codes "\n" in
    let pieces : s3 ≡ s0 ++ head =
    after_three s0 s1 s2 s3 (codes "static void b" ++ decimal k) (body_text d (action_tree f)) (codes "\n") name body
    end in
    let next : drop k fs ≡ f ∷ drop (k + 1) fs =
    drop_more fs k f within ∙ ap (λ (y : Tree). y ∷ drop (k + 1) fs) (sym is) in
    ap (λ (s : List ℕ). s ++ rest) pieces ∙ append_assoc s0 head rest
    ∙ ap (λ (l : List Tree). s0 ++ functions_text d k (action_trees l)) (sym next) ∙ so_far
