use Rattle.std.proofs.Common.{◌≡◌, List, Some, slice_get, sym, ap, subst, ◌∙◌, true≢false}
use Rattle.tm_syntax.specs.Design.View.{design_tree}
use Rattle.tm_cir.specs.View.{block_trees, trees_of}
use Rattle.tm_struct.specs.declared.program.Tree.{Tree}
use Rattle.tm_struct.specs.View.{action_trees, program_tree}
use Rattle.tm_struct.proofs.Blocks.{names_below, made_fit, made_answer, main_names}
use Rattle.tm_struct.proofs.laying.blocks_of.Goals as goal

pub lay_functions-requires-clause-names : goal.lay_functions-requires-clause-names
lay_functions-requires-clause-names c = λ k a is.
    names_below (design_tree c.args.design.now) k a
    (c.requires.functions k a
    (subst (λ (l : List Tree). slice_get (action_trees l) k ≡ Some a) c.deref.ensures.value is))

pub lay-requires-clause-names : goal.lay-requires-clause-names
lay-requires-clause-names c =
    main_names (design_tree c.args.design.now) (program_tree c.args.program.now) c.requires
    (block_trees c.lay_functions.new.laid.items) c.in_ok-starts.starts.items c.deref-2.result.now
    (action_trees c.deref.result.now) c.in_ok-starts.ensures (ap action_trees c.deref.ensures.value)
    c.deref-2.ensures.value

pub unreachable-requires : goal.unreachable-requires
unreachable-requires c =
    true≢false
    (sym
    (c.in-None.ensures.exact.1
    (made_fit (design_tree c.args.design.now) (program_tree c.args.program.now) c.requires
    (block_trees c.lay_functions.new.laid.items) (block_trees c.lay.new.laid.items)
    (block_trees c.in_ok-blocks.blocks.items) c.in_ok-starts.starts.items c.deref-2.result.now
    (action_trees c.deref.result.now) c.in_ok-first.first c.in_ok-starts.ensures
    (ap action_trees c.deref.ensures.value) c.in_ok-first.ensures c.deref-2.ensures.value c.in_ok-blocks.ensures)))

pub returns-clause-same : goal.returns-clause-same
returns-clause-same c = λ s g m.
    made_answer (design_tree c.args.design.now) (program_tree c.args.program.now) c.requires
    (block_trees c.lay_functions.new.laid.items) (block_trees c.lay.new.laid.items) (trees_of c.in-Some.blocks)
    c.in_ok-starts.starts.items c.deref-2.result.now (action_trees c.deref.result.now) c.in_ok-first.first
    c.in_ok-starts.ensures (ap action_trees c.deref.ensures.value) c.in_ok-first.ensures c.deref-2.ensures.value
    (c.in-Some.ensures.same ∙ c.in_ok-blocks.ensures) s g m
