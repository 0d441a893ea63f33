-- Blocks that are taken from the end of one list and put behind another.
use Rattle.std.proofs.Common.{◌≡◌, List, [], ◌∷◌, ◌++◌, map, reverse, All, refl, sym, ap, ◌∙◌, subst, append_assoc}
use Rattle.std.proofs.lemmas.List.{append-nil, reverse-append}
use Rattle.std.proofs.lemmas.List.Elements.{All-head, All-tail, All-nil, All-cons}
use Rattle.tm_cir.specs.Tree.{BlockTree}
use Rattle.tm_cir.specs.View.{block_tree, block_trees}
use Rattle.tm_cir.specs.declared.block.Block.{Block}
use Rattle.tm_cparse.specs.declared.statement.Labelled.{Labelled}
use Rattle.tm_cparse.specs.View.{statement_tree, written_tree}
use Rattle.tm_cparse.specs.Inner.Bodies.{block_of, IsSmallBlock}

abbrev pub labelled_trees : List Labelled → List BlockTree
labelled_trees ws = map block_of (map written_tree ws)

trees_more : (ws : List Labelled) (w : Labelled) →
    labelled_trees (ws ++ w ∷ []) ≡ labelled_trees ws ++ statement_tree w.statement ∷ []
trees_more [] w = refl
trees_more (x ∷ ws) w = ap (λ (l : List BlockTree). statement_tree x.statement ∷ l) (trees_more ws w)

small_front : (ws : List Labelled) (w : Labelled) → All IsSmallBlock (labelled_trees (ws ++ w ∷ [])) →
    All IsSmallBlock (labelled_trees ws)
small_front [] w all = All-nil IsSmallBlock
small_front (x ∷ ws) w all =
    All-cons IsSmallBlock (statement_tree x.statement) (labelled_trees ws)
    (All-head IsSmallBlock (statement_tree x.statement) (labelled_trees (ws ++ w ∷ [])) all)
    (small_front ws w (All-tail IsSmallBlock (statement_tree x.statement) (labelled_trees (ws ++ w ∷ [])) all))

small_last : (ws : List Labelled) (w : Labelled) → All IsSmallBlock (labelled_trees (ws ++ w ∷ [])) →
    IsSmallBlock (statement_tree w.statement)
small_last [] w all = All-head IsSmallBlock (statement_tree w.statement) [] all
small_last (x ∷ ws) w all =
    small_last ws w (All-tail IsSmallBlock (statement_tree x.statement) (labelled_trees (ws ++ w ∷ [])) all)

-- what is left, and what was made from the end on
pub record IsPart (whole : List BlockTree) (left : List Labelled) (made : List Block) : Type 0 where
  pub small : All IsSmallBlock (labelled_trees left)
  pub trees : labelled_trees left ++ block_trees (reverse made) ≡ whole

pub part_begins : (ws : List Labelled) (made : List Block) → All IsSmallBlock (labelled_trees ws) → made ≡ [] →
    IsPart (labelled_trees ws) ws made
part_begins ws made small none = record {
  small = small;
  trees = ap (λ (l : List Block). labelled_trees ws ++ block_trees (reverse l)) none ∙ append-nil (labelled_trees ws);
}

pub part_small : (whole : List BlockTree) (old new : List Labelled) (made : List Block) (w : Labelled) →
    IsPart whole old made → old ≡ new ++ w ∷ [] → IsSmallBlock (statement_tree w.statement)
part_small whole old new made w part is =
    small_last new w (subst (λ (l : List Labelled). All IsSmallBlock (labelled_trees l)) is part.small)

pub part_goes_on : (whole : List BlockTree) (old new : List Labelled) (made more : List Block) (w : Labelled)
    (b : Block) → IsPart whole old made → old ≡ new ++ w ∷ [] → more ≡ made ++ b ∷ [] →
    block_tree b ≡ statement_tree w.statement → IsPart whole new more
part_goes_on whole old new made more w b part is put same = record {
  small = small_front new w (subst (λ (l : List Labelled). All IsSmallBlock (labelled_trees l)) is part.small);
  trees =
      ap (λ (l : List Block). labelled_trees new ++ block_trees (reverse l)) put
      ∙ ap (λ (l : List Block). labelled_trees new ++ block_trees l) (reverse-append made (b ∷ []))
      ∙ ap (λ (t : BlockTree). labelled_trees new ++ t ∷ block_trees (reverse made)) same
      ∙ sym (append_assoc (labelled_trees new) (statement_tree w.statement ∷ []) (block_trees (reverse made)))
      ∙ ap (λ (l : List BlockTree). l ++ block_trees (reverse made)) (sym (trees_more new w))
      ∙ ap (λ (l : List Labelled). labelled_trees l ++ block_trees (reverse made)) (sym is) ∙ part.trees;
}

pub part_ends : (whole : List BlockTree) (left : List Labelled) (made turned : List Block) → IsPart whole left made →
    left ≡ [] → turned ≡ reverse made → block_trees turned ≡ whole
part_ends whole left made turned part is turns =
    ap block_trees turns
    ∙ ap (λ (l : List Labelled). labelled_trees l ++ block_trees (reverse made)) (sym is) ∙ part.trees
