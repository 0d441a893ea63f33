use Rattle.std.proofs.Common.{◌<◌, ℕ, length, map, ap, ◌∙◌, arith}
use Rattle.std.specs.List.{flat_map}
use Rattle.std.proofs.lemmas.List.{take_all}
use Rattle.tm_limits.proofs.LongNames.{long_more}
use Rattle.tm_limits.specs.LongNames.{first_long}
use Rattle.tm_syntax.specs.Faults.Limits.{type_names}
use Rattle.tm_syntax.specs.Tree.{LocalTree, ProcessTree}
use Rattle.tm_syntax.specs.Tree.View.{local_tree, process_tree}
use Rattle.tm_limits.proofs.names.templates.processes_types.Goals as goal

pub loop-process-preserved : goal.loop-process-preserved
loop-process-preserved c =
    let xs = c.args.processes.now in
    let i : ℕ = c.loop-process.process-index in
    let x = c.process-item.result in
    let within : i < length xs = omega arith in
    long_more (λ (p : ProcessTree). flat_map
    (λ (l : LocalTree). type_names l.ty) p.body.locals) process_tree xs i x _ _ _ within c.process-item.is
    (c.locals_types.ensures ∙ ap (λ ls. first_long (flat_map (λ (l : LocalTree). type_names l.ty)
    (map local_tree ls))) c.as_slice.ensures.value) c.earlier-first.ensures c.loop-process.invariant

pub returns : goal.returns
returns c =
    c.loop-process.invariant
    ∙ ap (λ xs. first_long (flat_map (λ (p : ProcessTree). flat_map
    (λ (l : LocalTree). type_names l.ty) p.body.locals) (map process_tree xs)))
    (take_all c.loop-process.process-index c.args.processes.now (omega arith))
