use Rattle.std.proofs.Common.{Some, sym, ap, ◌∙◌}
use Rattle.std.proofs.lemmas.Option.{slice_get-get_or}
use Rattle.tm_syntax.specs.declared.tree.Param.{Param}
use Rattle.tm_syntax.specs.Tree.View.{spec_tree}
use Rattle.tm_syntax.specs.Scopes.Names.{type_of}
use Rattle.tm_syntax.specs.Design.Sizes.{type_bits}
use Rattle.tm_typing.specs.HasType.{IsSized}
use Rattle.tm_flat_states.proofs.Lists.{listed_more, rest_each}
use Rattle.tm_flat_states.proofs.Spaces.{all_narrow}
use Rattle.tm_flat_states.proofs.parameters.param_widths.Goals as goal

pub loop-param-preserved : goal.loop-param-preserved
loop-param-preserved c =
    let ps = c.args.params.now in
    let i = c.loop-param.param-index in
    let p = c.param-item.result in
    let here = slice_get-get_or ps i p c.loop-param-test.true ∙ ap Some (sym c.param-item.is) in
    record {
      sized = rest_each (λ (p : Param). IsSized (type_of p.ty)) ps i c.loop-param.invariant.sized;
      so_far = listed_more (λ (p : Param). type_bits (spec_tree c.args.scopes.now) (type_of p.ty)) ps i p
          c.loop-param.widths.items c.push.new.self.items c.type_bits.result here c.loop-param.invariant.so_far
          (c.type_bits.ensures.bits ∙ ap (type_bits (spec_tree c.args.scopes.now)) c.of.ensures)
          c.in_ok-push.ensures.items;
      narrow = all_narrow c.loop-param.widths.items c.push.new.self.items c.type_bits.result
          c.loop-param.invariant.narrow
          c.type_bits.ensures.is_width c.in_ok-push.ensures.items;
    }
