use Rattle.std.proofs.Common.{arith}
use Rattle.std.specs.List.{flat_map}
use Rattle.tm_syntax.specs.Design.Atoms.{named_atoms}
use Rattle.tm_atoms.specs.Inner.Bodies.{claims_of}
use Rattle.tm_atoms.specs.Inner.Walks.{tables_of}
use Rattle.tm_atoms.proofs.Listing.{listed-all, listed-more, listed-none}
use Rattle.tm_atoms.proofs.find.note_claims.Goals as goal

pub loop-item-init : goal.loop-item-init
loop-item-init c = λ d over idle.
    listed-none d (tables_of c.args.walk.now) (named_atoms d (claims_of c.args.sort)) c.args.items.now idle

pub loop-item-preserved : goal.loop-item-preserved
loop-item-preserved c = λ d over idle.
    listed-more d (tables_of c.args.walk.now) (tables_of c.loop-item.walk) (tables_of c.note_claim.new.walk)
    (named_atoms d (claims_of c.args.sort)) c.args.items.now c.loop-item.item-index c.item-item.result
    (flat_map (named_atoms d (claims_of c.args.sort)) c.args.items.now) (omega arith) c.item-item.is
    (c.loop-item.invariant d over idle)
    (c.in_ok-note_claim.ensures d over)

pub returns : goal.returns
returns c = λ d over idle.
    listed-all d (tables_of c.args.walk.now) (tables_of c.loop-item.walk) (named_atoms d (claims_of c.args.sort))
    c.args.items.now c.loop-item.item-index (flat_map (named_atoms d (claims_of c.args.sort)) c.args.items.now)
    (omega arith) (c.loop-item.invariant d over idle)
