use Rattle.std.proofs.Common.{List, map, ap, ◌∙◌}
use Rattle.tm_strat.proofs.Fitted.{spelled_fits}
use Rattle.tm_strat.specs.Spelled.{draft_tree}
use Rattle.tm_strat_drafts.specs.declared.drafts.DraftBlock.{DraftBlock}
use Rattle.tm_strat.proofs.making.spelled_driver.Goals as goal
use Rattle.tm_syntax.specs.Design.View.{design_tree}

pub fitting-blocks-requires : goal.fitting-blocks-requires
fitting-blocks-requires c =
    spelled_fits (design_tree c.args.design.now) c.args.drafted.made.items c.deref.result.now c.in-Ok.given.items
    c.requires.later c.deref.ensures.value c.in-Ok.ensures.fits

pub returns-clause-trees : goal.returns-clause-trees
returns-clause-trees c =
    c.fitting-blocks.ensures.same
    ∙ c.in-Ok.ensures.trees
    ∙ ap (λ (l : List DraftBlock). map (draft_tree (design_tree c.args.design.now) c.args.spelling.now) l)
    c.deref.ensures.value
