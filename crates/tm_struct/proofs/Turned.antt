-- Blocks that are taken from the end of one list, turned, and put behind another.
use Rattle.std.proofs.Common.{◌≡◌, ℕ, zero, suc, ◌+◌, ◌<◌, ◌≤◌, Some, option_map, List, [], ◌∷◌, ◌++◌, length, map, reverse, take, slice_get, refl, sym, ap, subst, ◌∙◌, append_assoc, length-append, arith}
use Rattle.std.proofs.lemmas.List.{append-nil, map-append, reverse-append, length-take, length-map}
use Rattle.tm_cir.specs.declared.block.Block.{Block}
use Rattle.tm_cir.specs.Tree.{TruthTree, BlockTree, test, call, leave, idle}
use Rattle.tm_cir.specs.View.{block_tree, block_trees}
use Rattle.tm_struct.specs.Inner.Laying.{LeadBack, LeadsUpTo, turned, turned_over}
use Rattle.tm_struct.proofs.Laid.{from_taken}
use Rattle.tm_struct.proofs.Pushed.{in_front, last_one}

-- what is left, and what was made from the end on
pub record IsPart (last : ℕ) (whole left made : List Block) : Type 0 where
  pub back : LeadBack (block_trees left)
  pub few : length left ≤ last + 1
  pub trees : block_trees made ++ reverse (map (turned last) (block_trees left)) ≡ turned_over last (block_trees whole)

take_trees : (n : ℕ) (bs : List Block) → block_trees (take n bs) ≡ take n (block_trees bs)
take_trees zero [] = refl
take_trees zero (b ∷ bs) = refl
take_trees (suc n) [] = refl
take_trees (suc n) (b ∷ bs) = ap (λ (l : List BlockTree). block_tree b ∷ l) (take_trees n bs)

back_taken : (n : ℕ) (bs : List BlockTree) → LeadBack bs → LeadBack (take n bs)
back_taken n bs back = record { earlier = λ at i j t is. back.earlier at i j t (from_taken bs n at (test t i j) is) }

pub part_begins : (last : ℕ) (whole left made : List Block) → LeadBack (block_trees whole) →
    left ≡ take (last + 1) whole → made ≡ [] → IsPart last whole left made
part_begins last whole left made back is none =
    let trees : block_trees left ≡ take (last + 1) (block_trees whole) =
    ap block_trees is ∙ take_trees (last + 1) whole in
    record {
      back = subst LeadBack (sym trees) (back_taken (last + 1) (block_trees whole) back);
      few = omega (arith, ap length is, length-take (last + 1) whole);
      trees =
          ap (λ (l : List Block). block_trees l ++ reverse (map (turned last) (block_trees left))) none
          ∙ ap (λ (l : List BlockTree). reverse (map (turned last) l)) trees;
    }

tree_there : (left : List Block) (b : Block) →
    slice_get (block_trees (left ++ b ∷ [])) (length left) ≡ Some (block_tree b)
tree_there [] b = refl
tree_there (x ∷ left) b = tree_there left b

up_to : (last at : ℕ) (bs : List BlockTree) (b : BlockTree) → LeadBack bs → slice_get bs at ≡ Some b → at ≤ last →
    LeadsUpTo last b
up_to last at bs (test t i j) back is low =
    let earlier = back.earlier at i j t is in (omega (arith, low, earlier.0), omega (arith, low, earlier.1))
up_to last at bs (call task args) back is low = tt
up_to last at bs (leave p) back is low = tt
up_to last at bs idle back is low = tt

-- the block that is taken leads to none behind the last one
pub part_leads : (last : ℕ) (whole old new made : List Block) (b : Block) → IsPart last whole old made →
    old ≡ new ++ b ∷ [] → LeadsUpTo last (block_tree b)
part_leads last whole old new made b part is =
    up_to last (length new) (block_trees old) (block_tree b) part.back
    (subst (λ (l : List Block). slice_get (block_trees l) (length new) ≡ Some (block_tree b)) (sym is)
    (tree_there new b))
    (omega (arith, part.few, ap length is, length-append new (b ∷ [])))

pub part_goes_on : (last : ℕ) (whole old new made more : List Block) (b turned_block : Block) →
    IsPart last whole old made → old ≡ new ++ b ∷ [] → more ≡ made ++ turned_block ∷ [] →
    block_tree turned_block ≡ turned last (block_tree b) → IsPart last whole new more
part_goes_on last whole old new made more b turned_block part is put same = record {
  back = record {
    earlier = λ at i j t there.
        part.back.earlier at i j t
        (subst (λ (l : List BlockTree). slice_get l at ≡ Some (test t i j)) (sym trees)
        (in_front (block_trees new) (block_tree b ∷ []) at (test t i j) there));
  };
  few = omega (arith, part.few, ap length is, length-append new (b ∷ []));
  trees = moved ∙ part.trees;
}
  where
    trees : block_trees old ≡ block_trees new ++ block_tree b ∷ []
    trees = ap block_trees is ∙ map-append block_tree new (b ∷ [])

    made_trees : block_trees more ≡ block_trees made ++ turned last (block_tree b) ∷ []
    made_trees =
        ap block_trees put ∙ map-append block_tree made (turned_block ∷ [])
        ∙ ap (λ (x : BlockTree). block_trees made ++ x ∷ []) same

    turned_old : reverse (map (turned last) (block_trees old))
        ≡ turned last (block_tree b) ∷ reverse (map (turned last) (block_trees new))
    turned_old =
        ap (λ (l : List BlockTree). reverse (map (turned last) l)) trees
        ∙ ap reverse (map-append (turned last) (block_trees new) (block_tree b ∷ []))
        ∙ reverse-append (map (turned last) (block_trees new)) (turned last (block_tree b) ∷ [])

    moved : block_trees more ++ reverse (map (turned last) (block_trees new))
        ≡ block_trees made ++ reverse (map (turned last) (block_trees old))
    moved =
        ap (λ (l : List BlockTree). l ++ reverse (map (turned last) (block_trees new))) made_trees
        ∙ append_assoc (block_trees made) (turned last (block_tree b) ∷ [])
        (reverse (map (turned last) (block_trees new)))
        ∙ ap (λ (l : List BlockTree). block_trees made ++ l) (sym turned_old)

pub part_ends : (last : ℕ) (whole left made : List Block) → IsPart last whole left made → left ≡ [] →
    block_trees made ≡ turned_over last (block_trees whole)
part_ends last whole left made part none =
    sym (append-nil (block_trees made))
    ∙ ap (λ (l : List Block). block_trees made ++ reverse (map (turned last) (block_trees l))) (sym none)
    ∙ part.trees
