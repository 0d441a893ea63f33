-- Functions that are written one behind another.
use Rattle.std.proofs.Common.{◌≡◌, ℕ, ◌+◌, ◌<◌, ◌⊎◌, inl, inr, Some, List, [], ◌∷◌, ◌++◌, length, map, slice_get, refl, sym, ap, subst, ◌∙◌, length-append, arith}
use Rattle.std.proofs.lemmas.List.{map-append}
use Rattle.std.proofs.lemmas.Option.{slice_get_within}
use Rattle.tm_cir.specs.Tree.{BlockTree}
use Rattle.tm_struct.specs.declared.program.Tree.{Tree}
use Rattle.tm_struct.specs.Tree.{ActionTree}
use Rattle.tm_struct.specs.View.{action_tree, action_trees}
use Rattle.tm_struct.specs.Shape.{IsWritten}
use Rattle.tm_struct.specs.Inner.Naming.{AreFunctions}
use Rattle.tm_struct.proofs.Pushed.{is_one, pushed}

-- the first functions are written
pub record AreFilled (bs : List BlockTree) (order : List ℕ) (done : ℕ) (functions : List ActionTree) : Type 0 where
  pub many : length functions ≡ done
  pub each : (k at : ℕ) (a : ActionTree) → slice_get order k ≡ Some at → slice_get functions k ≡ Some a →
      IsWritten bs order at a

pub none_filled : (bs : List BlockTree) (order : List ℕ) (made : List Tree) → made ≡ [] →
    AreFilled bs order 0 (action_trees made)
none_filled bs order made none =
    subst (λ (l : List Tree). AreFilled bs order 0 (action_trees l)) (sym none)
    (record { many = refl; each = λ k at a is also. absurd (cc) })

pub one_filled : (bs : List BlockTree) (order : List ℕ) (done at : ℕ) (made more : List Tree) (tree : Tree) →
    AreFilled bs order done (action_trees made) → more ≡ made ++ tree ∷ [] → slice_get order done ≡ Some at →
    IsWritten bs order at (action_tree tree) → AreFilled bs order (done + 1) (action_trees more)
one_filled bs order done at made more tree filled put here written =
    subst (AreFilled bs order (done + 1)) (sym trees)
    (record {
      many = omega (arith, length-append (action_trees made) (action_tree tree ∷ []), filled.many);
      each = λ k x a is also. of k x a is (pushed (action_trees made) (action_tree tree) k a also);
    })
  where
    trees : action_trees more ≡ action_trees made ++ action_tree tree ∷ []
    trees = ap action_trees put ∙ map-append action_tree made (tree ∷ [])

    of : (k x : ℕ) (a : ActionTree) → slice_get order k ≡ Some x →
        (slice_get (action_trees made) k ≡ Some a) ⊎ ((k ≡ length (action_trees made)) × (a ≡ action_tree tree)) →
        IsWritten bs order x a
    of k x a is (inl there) = filled.each k x a is there
    of k x a is (inr last) =
        let number : done ≡ k = omega (arith, last.0, filled.many) in
        let block : at ≡ x =
        is_one (slice_get order k) at x (subst (λ (n : ℕ). slice_get order n ≡ Some at) number here) is in
        subst (IsWritten bs order x) (sym last.1)
        (subst (λ (n : ℕ). IsWritten bs order n (action_tree tree)) block written)

pub all_filled : (bs : List BlockTree) (order : List ℕ) (done : ℕ) (functions : List ActionTree) →
    AreFilled bs order done functions → done ≡ length order → AreFunctions bs order functions
all_filled bs order done functions filled all = record { many = filled.many ∙ all; each = filled.each }
