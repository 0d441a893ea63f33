use Rattle.std.proofs.Common.{◌++◌, ◌∷◌, [], get_or, take, sym, subst, ◌∙◌}
use Rattle.std.proofs.lemmas.List.{take_more}
use Rattle.std.proofs.lemmas.List.Elements.{Contains-get_or}
use Rattle.tm_dd.specs.declared.node.TheConstants.{FALSE}
use Rattle.tm_ddops.specs.Copied.{AllReached, MeanTheSame}
use Rattle.tm_ddops.proofs.Copies.{means_more, reached_more}
use Rattle.tm_ddops.proofs.copy.copies.Goals as goal

pub copied-requires-clause-known : goal.copied-requires-clause-known
copied-requires-clause-known c =
    c.requires.known (get_or c.args.roots.now c.loop-root.root-index FALSE)
    (Contains-get_or c.args.roots.now c.loop-root.root-index FALSE c.loop-root-test.true)

pub loop-root-preserved : goal.loop-root-preserved
loop-root-preserved c =
    let from = c.args.from.now in
    let roots = c.args.roots.now in
    let k = c.loop-root.root-index in
    let old = c.loop-root.ids.items in
    let pushed = c.in_ok-push.ensures.items in
    record {
      reduced = c.copied.ensures.reduced;
      levels = c.copied.ensures.extends.same_levels ∙ c.loop-root.invariant.levels;
      ranks = c.copied.ensures.extends.same_ranks ∙ c.loop-root.invariant.ranks;
      found = c.copied.ensures.found;
      same =
          subst (λ xs. MeanTheSame from xs c.copied.new.to c.push.new.self.items)
          (sym (take_more roots k FALSE c.loop-root-test.true))
          (subst (MeanTheSame from (take k roots ++ get_or roots k FALSE ∷ []) c.copied.new.to) (sym pushed)
          (means_more from c.loop-root.to c.copied.new.to c.copied.ensures.extends (take k roots) old
          c.loop-root.invariant.same (get_or roots k FALSE) c.in_ok-id.id c.in_ok-id.ensures.answer));
      reached =
          subst (AllReached c.copied.new.to) (sym pushed)
          (reached_more from c.loop-root.to c.copied.new.to c.loop-root.invariant.reduced c.copied.ensures.extends
          (take k roots) old c.loop-root.invariant.same c.in_ok-id.id
          c.loop-root.invariant.reached c.in_ok-id.ensures.reached);
    }
