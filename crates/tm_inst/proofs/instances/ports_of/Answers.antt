use Rattle.std.proofs.Common.{◌++◌, ℕ, [], refl, ap, ◌∙◌, arith}
use Rattle.std.specs.List.{cons_option, filter_map}
use Rattle.tm_inst.specs.Inner.Growth.{port_named}
use Rattle.std.specs.Option.{option_and_then}
use Rattle.tm_syntax.specs.Design.{neighbor}
use Rattle.tm_syntax.specs.Design.Scope.{site}
use Rattle.tm_scope.specs.Instances.{InstanceTables, bare_design}
use Rattle.tm_inst.proofs.ItemSteps.{one_before}
use Rattle.tm_inst.proofs.Listing.{listed_all, listed_more}
use Rattle.tm_inst.proofs.instances.ports_of.Goals as goal

pub loop-arg-init : goal.loop-arg-init
loop-arg-init c =
    ap (λ ns. ns ++ filter_map
    (port_named c.new-sites.result.spec c.new-sites.result.instances c.args.holder) c.args.args.now)
    c.new-ports.ensures.items

pub loop-arg-preserved : goal.loop-arg-preserved
loop-arg-preserved c =
    let f = port_named c.new-sites.result.spec c.new-sites.result.instances c.args.holder in
    let i : ℕ = c.loop-arg.arg-index in
    let x = c.arg-item.result in
    listed_more (λ _ xs. filter_map f xs) (λ _ a. cons_option (f a) []) (λ k a xs. one_before (f a) (filter_map f xs))
    c.args.args.now i x c.loop-arg.ports.items c.push_port.new.ports.items (filter_map f c.args.args.now)
    c.loop-arg-test.true c.arg-item.is
    (c.in_ok-push_port.ensures ∙ ap (λ o. c.loop-arg.ports.items ++ cons_option o [])
    (c.neighbor.ensures ∙ ap (λ name. option_and_then (λ at. neighbor at.node at.template name)
    (site (bare_design c.new-sites.result) c.args.holder)) c.as_bytes.ensures))
    c.loop-arg.invariant

pub returns : goal.returns
returns c =
    let f = port_named c.new-sites.result.spec c.new-sites.result.instances c.args.holder in
    listed_all (λ _ xs. filter_map f xs) (λ _ a. cons_option (f a) []) (λ k a xs. one_before (f a) (filter_map f xs))
    c.args.args.now c.loop-arg.arg-index c.loop-arg.ports.items (filter_map f c.args.args.now) refl (omega arith)
    c.loop-arg.invariant
    ∙ ap (λ (x : InstanceTables). filter_map (port_named x.spec x.instances c.args.holder) c.args.args.now)
    c.new-sites.ensures
