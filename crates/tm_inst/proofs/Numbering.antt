-- The numbers of instances that stand one behind the other.
use Rattle.std.proofs.Common.{◌≡◌, ℕ, ◌+◌, ◌<◌, ◌≤◌, List, [], ◌∷◌, ◌++◌, append_assoc, drop, get_or, length, map, sym, ap, ◌∙◌, subst, arith}
use Rattle.std.specs.Prelude.{sum_by}
use Rattle.std.proofs.lemmas.List.{append-nil, at_drop_more, drop_all}
use Rattle.std.proofs.lemmas.List.Sums.{sum_by-cons}
use Rattle.tm_syntax.specs.declared.tree.InstanceDef.{InstanceDef}
use Rattle.tm_syntax.specs.Tree.{InstanceTree, SpecTree}
use Rattle.tm_syntax.specs.Tree.View.{instance_tree}
use Rattle.tm_inst.specs.Inner.Growth.{offsets}
use Rattle.tm_inst.specs.Instances.{held_size}

-- the first of some instances have their numbers, and the number of the next one is known
pub record IsNumberedSoFar (spec : SpecTree) (sizes : List ℕ) (first at : ℕ) (all left : List InstanceTree)
    (numbers : List ℕ) : Type 0 where
  pub numbers_are : numbers ++ offsets spec sizes at left ≡ offsets spec sizes first all
  pub room : at + sum_by (held_size spec sizes) left ≡ first + sum_by (held_size spec sizes) all

-- what is left at an index begins with the instance that stands there
pub left_at : (held : List InstanceDef) (k : ℕ) (x : InstanceDef) → k < length held → x ≡ get_or held k x →
    map instance_tree (drop k held) ≡ instance_tree x ∷ map instance_tree (drop (k + 1) held)
left_at held k x within is =
    at_drop_more (map instance_tree) held k x within
    ∙ ap (λ y. instance_tree y ∷ map instance_tree (drop (k + 1) held)) (sym is)

module _ (spec : SpecTree) (sizes : List ℕ) (first : ℕ) (all : List InstanceTree) where
  -- one more has its number
  pub numbered_more : (at next : ℕ) (i : InstanceTree) (left before : List InstanceTree) (numbers new : List ℕ) →
      before ≡ i ∷ left → new ≡ numbers ++ at ∷ [] → next ≡ at + held_size spec sizes i →
      IsNumberedSoFar spec sizes first at all before numbers → IsNumberedSoFar spec sizes first next all left new
  numbered_more at next i left before numbers new split pushed grown so_far =
      let room = so_far.room in
      let parts = ap (sum_by (held_size spec sizes)) split ∙ sum_by-cons (held_size spec sizes) i left in
      record {
        numbers_are = ap (λ ns. ns ++ offsets spec sizes next left) pushed
            ∙ append_assoc numbers (at ∷ []) (offsets spec sizes next left)
            ∙ ap (λ n. numbers ++ at ∷ offsets spec sizes n left) grown
            ∙ ap (λ is. numbers ++ offsets spec sizes at is) (sym split)
            ∙ so_far.numbers_are;
        room = omega (arith, room, parts, grown);
      }

  -- the next number is within the bound of all
  pub next_within : (at bound : ℕ) (left : List InstanceTree) (numbers : List ℕ) →
      first + sum_by (held_size spec sizes) all < bound → IsNumberedSoFar spec sizes first at all left numbers →
      at + sum_by (held_size spec sizes) left < bound
  next_within at bound left numbers within so_far = subst (λ n. n < bound) (sym so_far.room) within

  -- in the end all have their numbers
  pub numbered_all : (held : List InstanceDef) (k at : ℕ) (numbers : List ℕ) → length held ≤ k →
      IsNumberedSoFar spec sizes first at all (map instance_tree (drop k held)) numbers →
      numbers ≡ offsets spec sizes first all
  numbered_all held k at numbers end so_far =
      sym (append-nil numbers)
      ∙ ap (λ is. numbers ++ offsets spec sizes at is) (sym (ap (map instance_tree) (drop_all k held end)))
      ∙ so_far.numbers_are
