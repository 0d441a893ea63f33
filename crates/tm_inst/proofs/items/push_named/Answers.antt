use Rattle.std.proofs.Common.{◌++◌, ◌∷◌, ℕ, [], map, refl, arith, true}
use Rattle.tm_syntax.specs.Tree.{NamedTree}
use Rattle.tm_syntax.specs.Tree.View.{named_tree}
use Rattle.tm_inst.specs.Inner.Listed.{item_of, items_from}
use Rattle.tm_inst.proofs.Listing.{listed_all, listed_more}
use Rattle.tm_inst.proofs.items.push_named.Goals as goal

pub loop-index-preserved : goal.loop-index-preserved
loop-index-preserved c =
    let f = items_from (λ _. true) (λ (g : NamedTree). g.name) c.args.number c.args.base.now in
    let i : ℕ = c.loop-index.index in
    listed_more (λ k xs. f k (map named_tree xs)) (λ k x. item_of c.args.number c.args.base.now k x.name ∷ [])
    (λ k x xs. refl) c.args.named.now i
    c.index-named-index.result c.loop-index.items.items c.push_item.new.items.items
    (c.args.items.now.items ++ f 0 (map named_tree c.args.named.now)) (omega arith) c.index-named-index.is
    c.in_ok-push_item.ensures c.loop-index.invariant

pub returns : goal.returns
returns c =
    let f = items_from (λ _. true) (λ (g : NamedTree). g.name) c.args.number c.args.base.now in
    listed_all (λ k xs. f k (map named_tree xs)) (λ k x. item_of c.args.number c.args.base.now k x.name ∷ [])
    (λ k x xs. refl) c.args.named.now c.loop-index.index
    c.loop-index.items.items (c.args.items.now.items ++ f 0 (map named_tree c.args.named.now)) refl (omega arith)
    c.loop-index.invariant
