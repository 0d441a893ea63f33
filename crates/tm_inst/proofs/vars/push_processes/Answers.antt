use Rattle.std.proofs.Common.{◌++◌, ℕ, map, refl, arith}
use Rattle.std.specs.List.{flat_map}
use Rattle.tm_syntax.specs.Tree.View.{process_tree}
use Rattle.tm_syntax.specs.Design.{process_vars}
use Rattle.tm_inst.proofs.Listing.{listed_all, listed_more}
use Rattle.tm_inst.proofs.vars.push_processes.Goals as goal

pub loop-process-preserved : goal.loop-process-preserved
loop-process-preserved c =
    let f = process_vars c.args.number c.args.base.now in
    let i : ℕ = c.loop-process.process-index in
    let x = c.process-item.result in
    listed_more (λ _ ps. flat_map f (map process_tree ps)) (λ _ p. f (process_tree p)) (λ k p ps. refl)
    c.args.processes.now i x c.loop-process.vars.items c.push_process.new.vars.items
    (c.args.vars.now.items ++ flat_map f (map process_tree c.args.processes.now)) (omega arith) c.process-item.is
    c.in_ok-push_process.ensures c.loop-process.invariant

pub returns : goal.returns
returns c =
    let f = process_vars c.args.number c.args.base.now in
    listed_all (λ _ ps. flat_map f (map process_tree ps)) (λ _ p. f (process_tree p)) (λ k p ps. refl)
    c.args.processes.now c.loop-process.process-index c.loop-process.vars.items
    (c.args.vars.now.items ++ flat_map f (map process_tree c.args.processes.now)) refl (omega arith)
    c.loop-process.invariant
