use Rattle.std.proofs.Common.{ℕ, List, Option, length, sym, ap, subst, ◌∙◌, arith}
use Rattle.std.proofs.lemmas.List.{length-map}
use Rattle.tm_syntax.specs.Design.View.{design_tree}
use Rattle.tm_cir.specs.View.{block_tree, block_trees, trees_of}
use Rattle.tm_struct.specs.View.{action_tree, action_trees, program_tree}
use Rattle.tm_struct.specs.Shape.{IsWritten, IsShape}
use Rattle.tm_struct.specs.Inner.Naming.{AreNumbers}
use Rattle.tm_struct.specs.Inner.Reaching.{LeadOn, AreReaches}
use Rattle.tm_struct.proofs.Counting.{has_moves}
use Rattle.tm_struct.proofs.Shaped.{lead_on, listed_within, listed_long, shape_listed}
use Rattle.tm_struct.proofs.Shapes.{shape_fits, shape_answers}
use Rattle.tm_struct.proofs.shaping.structure.Goals as goal
use Rattle.tm_struct.proofs.shaping.structure.Goals.{After-blocks-blocks, In_ok-main}

on : (c : After-blocks-blocks) → LeadOn (block_trees c.blocks-blocks.result.now)
on c =
    subst LeadOn (sym c.blocks-blocks.ensures)
    (lead_on (design_tree c.args.design.now) (trees_of c.args.blocks.now) c.requires)

pub reaches-requires : goal.reaches-requires
reaches-requires c = on (goal.at.reaches-requires c).After-blocks-blocks

pub functions-requires-clause-leads : goal.functions-requires-clause-leads
functions-requires-clause-leads c = on (goal.at.functions-requires-clause-leads c).After-blocks-blocks

pub functions-requires-clause-long : goal.functions-requires-clause-long
functions-requires-clause-long c = listed_long c.blocks-blocks.result.now _ _ _ c.in_ok-naming.ensures

pub functions-requires-clause-numbers : goal.functions-requires-clause-numbers
functions-requires-clause-numbers c = c.in_ok-naming.ensures.numbered

pub functions-requires-clause-within : goal.functions-requires-clause-within
functions-requires-clause-within c = listed_within c.blocks-blocks.result.now _ _ _ c.in_ok-naming.ensures

pub tree-requires-clause-leads : goal.tree-requires-clause-leads
tree-requires-clause-leads c = on (goal.at.tree-requires-clause-leads c).After-blocks-blocks

pub tree-requires-clause-long : goal.tree-requires-clause-long
tree-requires-clause-long c =
    ap length c.deref-2.ensures.value ∙ listed_long c.blocks-blocks.result.now _ _ _ c.in_ok-naming.ensures

pub tree-requires-clause-within : goal.tree-requires-clause-within
tree-requires-clause-within c =
    let some = (on (goal.at.tree-requires-clause-within c).After-blocks-blocks).some in
    omega (arith, some, length-map c.blocks-blocks.result.now block_tree)

shape : (c : In_ok-main) → LeadOn (block_trees c.blocks-blocks.result.now) →
    IsShape (trees_of c.args.blocks.now)
    (record { functions = action_trees c.in_ok-functions.functions.items; main = action_tree c.in_ok-main.main })
shape c leads =
    shape_listed (trees_of c.args.blocks.now) c.blocks-blocks.result.now c.blocks-blocks.ensures leads _
    (subst (AreReaches (block_trees c.blocks-blocks.result.now)) (sym c.deref.ensures.value) c.in_ok-reaches.ensures)
    _ _
    c.in_ok-naming.ensures (action_trees c.in_ok-functions.functions.items)
    (action_tree c.in_ok-main.main) c.in_ok-functions.ensures
    (subst
    (λ (l : List (Option ℕ)).
    (order : List ℕ) → AreNumbers order l →
    IsWritten (block_trees c.blocks-blocks.result.now) order 0 (action_tree c.in_ok-main.main))
    c.deref-2.ensures.value c.in_ok-main.ensures)

pub returns-clause-shape : goal.returns-clause-shape
returns-clause-shape c =
    shape (goal.at.returns-clause-shape c).In_ok-main
    (on (goal.at.returns-clause-shape c).After-blocks-blocks)

pub returns-clause-fits : goal.returns-clause-fits
returns-clause-fits c =
    shape_fits (design_tree c.args.design.now) (trees_of c.args.blocks.now) c.requires _
    (shape (goal.at.returns-clause-fits c).In_ok-main
    (on (goal.at.returns-clause-fits c).After-blocks-blocks))

pub returns-clause-count : goal.returns-clause-count
returns-clause-count c =
    has_moves (design_tree c.args.design.now) (trees_of c.args.blocks.now) c.requires _
    (shape (goal.at.returns-clause-count c).In_ok-main
    (on (goal.at.returns-clause-count c).After-blocks-blocks))

pub returns-clause-same : goal.returns-clause-same
returns-clause-same c = λ s g m.
    shape_answers (design_tree c.args.design.now) (trees_of c.args.blocks.now) c.requires _
    (shape (goal.at.returns-clause-same c).In_ok-main
    (on (goal.at.returns-clause-same c).After-blocks-blocks)) s g m
