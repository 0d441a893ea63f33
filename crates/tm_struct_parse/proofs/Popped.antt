-- Functions that are taken from the end of one list and put behind another.
use Rattle.std.proofs.Common.{◌≡◌, List, [], ◌∷◌, ◌++◌, map, reverse, All, refl, sym, ap, ◌∙◌, subst, append_assoc}
use Rattle.std.proofs.lemmas.List.{append-nil, reverse-append}
use Rattle.std.proofs.lemmas.List.Elements.{All-head, All-tail, All-nil, All-cons}
use Rattle.tm_struct.specs.declared.program.Tree.{Tree}
use Rattle.tm_struct.specs.Tree.{ActionTree}
use Rattle.tm_struct.specs.View.{action_tree, action_trees}
use Rattle.tm_struct_parse.specs.declared.draft.NamedDraft.{NamedDraft}
use Rattle.tm_struct_parse.specs.View.{draft_tree, named_tree}
use Rattle.tm_struct_parse.specs.Inner.Bodies.{IsSmall, IsSmallFunction, action_of}

-- what functions do
abbrev pub drafted : List NamedDraft → List ActionTree
drafted ws = map action_of (map named_tree ws)

trees_more : (ws : List NamedDraft) (w : NamedDraft) →
    drafted (ws ++ w ∷ []) ≡ drafted ws ++ draft_tree w.draft ∷ []
trees_more [] w = refl
trees_more (x ∷ ws) w = ap (λ (l : List ActionTree). draft_tree x.draft ∷ l) (trees_more ws w)

small_front : (ws : List NamedDraft) (w : NamedDraft) → All IsSmallFunction (map named_tree (ws ++ w ∷ [])) →
    All IsSmallFunction (map named_tree ws)
small_front [] w all = All-nil IsSmallFunction
small_front (x ∷ ws) w all =
    All-cons IsSmallFunction (named_tree x) (map named_tree ws)
    (All-head IsSmallFunction (named_tree x) (map named_tree (ws ++ w ∷ [])) all)
    (small_front ws w (All-tail IsSmallFunction (named_tree x) (map named_tree (ws ++ w ∷ [])) all))

small_last : (ws : List NamedDraft) (w : NamedDraft) → All IsSmallFunction (map named_tree (ws ++ w ∷ [])) →
    IsSmall (draft_tree w.draft)
small_last [] w all = All-head IsSmallFunction (named_tree w) [] all
small_last (x ∷ ws) w all =
    small_last ws w (All-tail IsSmallFunction (named_tree x) (map named_tree (ws ++ w ∷ [])) all)

-- what is left, and what was made from the end on
pub record IsPart (whole : List ActionTree) (left : List NamedDraft) (made : List Tree) : Type 0 where
  pub small : All IsSmallFunction (map named_tree left)
  pub trees : drafted left ++ action_trees (reverse made) ≡ whole

pub part_begins : (ws : List NamedDraft) (made : List Tree) → All IsSmallFunction (map named_tree ws) → made ≡ [] →
    IsPart (drafted ws) ws made
part_begins ws made small none = record {
  small = small;
  trees = ap (λ (l : List Tree). drafted ws ++ action_trees (reverse l)) none ∙ append-nil (drafted ws);
}

pub part_small : (whole : List ActionTree) (old new : List NamedDraft) (made : List Tree) (w : NamedDraft) →
    IsPart whole old made → old ≡ new ++ w ∷ [] → IsSmall (draft_tree w.draft)
part_small whole old new made w part is =
    small_last new w (subst (λ (l : List NamedDraft). All IsSmallFunction (map named_tree l)) is part.small)

pub part_goes_on : (whole : List ActionTree) (old new : List NamedDraft) (made more : List Tree) (w : NamedDraft)
    (b : Tree) → IsPart whole old made → old ≡ new ++ w ∷ [] → more ≡ made ++ b ∷ [] →
    action_tree b ≡ draft_tree w.draft → IsPart whole new more
part_goes_on whole old new made more w b part is put same = record {
  small = small_front new w (subst (λ (l : List NamedDraft). All IsSmallFunction (map named_tree l)) is part.small);
  trees =
      ap (λ (l : List Tree). drafted new ++ action_trees (reverse l)) put
      ∙ ap (λ (l : List Tree). drafted new ++ action_trees l) (reverse-append made (b ∷ []))
      ∙ ap (λ (t : ActionTree). drafted new ++ t ∷ action_trees (reverse made)) same
      ∙ sym (append_assoc (drafted new) (draft_tree w.draft ∷ []) (action_trees (reverse made)))
      ∙ ap (λ (l : List ActionTree). l ++ action_trees (reverse made)) (sym (trees_more new w))
      ∙ ap (λ (l : List NamedDraft). drafted l ++ action_trees (reverse made)) (sym is) ∙ part.trees;
}

pub part_ends : (whole : List ActionTree) (left : List NamedDraft) (made turned : List Tree) → IsPart whole left made →
    left ≡ [] → turned ≡ reverse made → action_trees turned ≡ whole
part_ends whole left made turned part is turns =
    ap action_trees turns
    ∙ ap (λ (l : List NamedDraft). drafted l ++ action_trees (reverse made)) (sym is) ∙ part.trees
