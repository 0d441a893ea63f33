use Rattle.std.proofs.Common.{List, None, sym, subst}
use Rattle.tm_cir.specs.View.{num_tree}
use Rattle.tm_cparse.specs.declared.part.Part.{Part}
use Rattle.tm_cparse.specs.declared.part.Sort.{Sort}
use Rattle.tm_cparse.specs.View.{token_tree, tokens_of}
use Rattle.tm_cparse.specs.Inner.Reading.{Moves}
use Rattle.tm_cparse.specs.Inner.Parts.{part_tree, part_trees, wanted, Opens, FitParts, IsLeft}
use Rattle.tm_cparse.proofs.Readings.{moved_opening, opening_fits, moved_leaf, no_leaf, no_token}
use Rattle.tm_cparse.proofs.expression.down.Goals as goal
use Rattle.tm_cparse.proofs.expression.down.Goals.{In_ok-push}

opens : (c : In_ok-push) →
    Opens (wanted c.args.sort (part_trees c.args.parts.now)) (part_tree c.opening-part.result.0)
    (tokens_of c.in-Some.rest.now) (tokens_of c.opening-part.result.1.now)
opens c =
    subst
    (λ (s : Sort).
    Opens s (part_tree c.opening-part.result.0) (tokens_of c.in-Some.rest.now) (tokens_of c.opening-part.result.1.now))
    c.wanted.ensures c.opening-part.ensures.opens

pub returns-in-Some-clause-moved : goal.returns-in-Some-clause-moved
returns-in-Some-clause-moved c =
    subst
    (λ (l : List Part).
    Moves (IsLeft c.args.sort (part_trees c.args.parts.now) None) (IsLeft c.args.sort (part_trees l) None)
    (tokens_of c.args.spots.now) (tokens_of c.opening-part.result.1.now))
    (sym c.in_ok-push.ensures)
    (moved_opening c.args.sort (part_trees c.args.parts.now) (part_tree c.opening-part.result.0)
    (tokens_of c.args.spots.now) (tokens_of c.in-Some.rest.now) (tokens_of c.opening-part.result.1.now)
    c.in-Some.ensures.whole (opens c))

pub returns-in-Some-clause-fit : goal.returns-in-Some-clause-fit
returns-in-Some-clause-fit c =
    subst (λ (l : List Part). FitParts c.args.sort (part_trees l)) (sym c.in_ok-push.ensures)
    (opening_fits _ _ (opens c), c.requires)

pub returns-in-Some-leaf-clause-moved : goal.returns-in-Some-leaf-clause-moved
returns-in-Some-leaf-clause-moved c =
    moved_leaf c.args.sort (part_trees c.args.parts.now) (token_tree c.in-Some-parted.token)
    (num_tree c.in-Some-leaf.num) (tokens_of c.args.spots.now) (tokens_of c.in-Some-parted.rest.now)
    c.in-Some-parted.ensures.whole (sym c.in-Some-leaf.ensures)

pub returns-in-None-leaf-clause-refused : goal.returns-in-None-leaf-clause-refused
returns-in-None-leaf-clause-refused c =
    no_leaf c.args.sort (part_trees c.args.parts.now) (token_tree c.in-Some-parted.token)
    (tokens_of c.args.spots.now) (tokens_of c.in-Some-parted.rest.now) c.requires c.in-Some-parted.ensures.whole
    (sym c.in-None-leaf.ensures) c.in_default.ensures.whole

pub returns-in-None-clause-refused : goal.returns-in-None-clause-refused
returns-in-None-clause-refused c =
    no_token c.args.sort (part_trees c.args.parts.now) (tokens_of c.args.spots.now) c.requires c.in-None.ensures.whole
