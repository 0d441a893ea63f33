use Rattle.tm_cparse.specs.Inner.Parts.{part_trees}
use Rattle.tm_cparse.proofs.Readings.{ok_map, err_map}
use Rattle.tm_cparse.proofs.expression.up.Goals as goal

pub returns-in-First-clause-moved : goal.returns-in-First-clause-moved
returns-in-First-clause-moved c = rw c.in-First.is c.operator.ensures.moved

pub returns-in-First-clause-refused : goal.returns-in-First-clause-refused
returns-in-First-clause-refused c = rw c.in-First.is c.operator.ensures.refused

pub returns-in-Then-clause-moved : goal.returns-in-Then-clause-moved
returns-in-Then-clause-moved c = rw c.in-Then.is c.second.ensures.moved

pub returns-in-Then-clause-refused : goal.returns-in-Then-clause-refused
returns-in-Then-clause-refused c = rw c.in-Then.is c.second.ensures.refused

pub returns-in_default-clause-moved : goal.returns-in_default-clause-moved
returns-in_default-clause-moved c =
    ok_map (λ r h. h c.args.sort (part_trees c.args.parts.now)) c.close.result c.close.ensures.moved

pub returns-in_default-clause-operand : goal.returns-in_default-clause-operand
returns-in_default-clause-operand c =
    ok_map (λ r h. h c.args.sort (part_trees c.args.parts.now) c.requires.fit) c.close.result c.close.ensures.operand

pub returns-in_default-clause-refused : goal.returns-in_default-clause-refused
returns-in_default-clause-refused c =
    err_map (λ e h. h c.args.sort (part_trees c.args.parts.now) c.requires.fit) c.close.result c.close.ensures.refused
