use Rattle.std.proofs.Common.{◌<◌, ℕ, take, length, map, ap, ◌∙◌, arith}
use Rattle.std.specs.List.{enumerate_from}
use Rattle.std.proofs.lemmas.List.{take_all}
use Rattle.std.proofs.lemmas.Option.{slice_get_within}
use Rattle.tm_syntax.specs.Tree.View.{process_tree, spec_tree, template_tree}
use Rattle.tm_limits.specs.declared.totals.Combination.{Combination}
use Rattle.tm_limits.specs.Amount.{capped}
use Rattle.tm_limits.specs.Shares.{combination_of, process_share}
use Rattle.tm_limits.specs.Totals.{combined, over}
use Rattle.tm_limits.proofs.Sums.{over_more}
use Rattle.tm_limits.proofs.shares.processes.processes_share.Goals as goal

pub loop-index-preserved : goal.loop-index-preserved
loop-index-preserved c =
    let spec = spec_tree c.args.scopes.now in
    let t = template_tree c.args.template.now in
    let q = c.args.quantity in
    let processes = c.as_slice-processes.result.now in
    let i : ℕ = c.loop-index.index in
    let x = c.index-processes-index.result in
    let within : i < length processes = omega arith in
    over_more (combination_of q) (process_share spec q t) process_tree processes i x c.combined-share.result within
    c.index-processes-index.is
    (c.combined-share.ensures _ (process_share spec q t (i, process_tree x)) c.loop-index.invariant
    (c.process_share-own.ensures c.args.template.now c.requires.numbered)
    ∙ ap (λ (by : Combination). capped (combined by (over (combination_of q) (map (process_share spec q t)
    (enumerate_from 0 (map process_tree (take i processes))))) (process_share spec q t (i, process_tree x))))
    c.combination_of.ensures)

pub returns : goal.returns
returns c =
    let spec = spec_tree c.args.scopes.now in
    let t = template_tree c.args.template.now in
    let q = c.args.quantity in
    c.loop-index.invariant
    ∙ ap (λ xs. capped (over (combination_of q) (map (process_share spec q t)
    (enumerate_from 0 (map process_tree xs)))))
    (take_all c.loop-index.index c.as_slice-processes.result.now (omega arith) ∙ c.as_slice-processes.ensures.value)

pub process_share-own-requires : goal.process_share-own-requires
process_share-own-requires c = record {
  counted = c.requires.counted;
  within = slice_get_within c.args.scopes.now.templates.items c.args.number c.args.template.now c.requires.numbered;
}
