use Rattle.std.proofs.Common.{◌≤◌, length, map}
use Rattle.tm_syntax.specs.Tree.View.{local_tree}
use Rattle.tm_parse.proofs.Locals.{LocalsSoFar}
use Rattle.tm_parse.proofs.bodies.locals_stmts.Given as goal

abbrev pub invariant-declarations : goal.invariant-declarations
invariant-declarations l = record {
  so_far : LocalsSoFar l.text l.depth (map local_tree l.locals.items) l.tokens l.rest;
  shorter : length l.rest ≤ length l.tokens;
}

abbrev pub decreases-declarations : goal.decreases-declarations
decreases-declarations l = length l.rest
