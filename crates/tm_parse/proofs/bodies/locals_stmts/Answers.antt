use Rattle.std.proofs.Common.{arith, rules, sym, ap, ◌∙◌, subst, List}
use Rattle.std.proofs.Common.{map}
use Rattle.std.proofs.lemmas.List.{map_push}
use Rattle.tm_syntax.specs.Tree.{LocalTree}
use Rattle.tm_syntax.specs.Tree.View.{local_tree}
use Rattle.tm_parse.proofs.Locals.{LocalsSoFar, locals_begun, locals_more, taken_body, no_body_local, no_body_stmts}
use Rattle.tm_parse.proofs.Taking.{refused_so}
use Rattle.tm_parse.proofs.bodies.locals_stmts.Goals as goal

pub declarations-init : goal.declarations-init
declarations-init c =
    record {
      so_far = subst (λ (ds : List LocalTree).
          LocalsSoFar c.args.text.now c.args.depth ds c.args.tokens.now c.args.tokens.now)
          (sym (ap (map local_tree) c.new-locals.ensures.items)) locals_begun;
      shorter = omega arith;
    }

pub declarations-preserved : goal.declarations-preserved
declarations-preserved c =
    record {
      so_far = subst (λ (ds : List LocalTree).
          LocalsSoFar c.args.text.now c.args.depth ds c.args.tokens.now c.in-Ok.read.1.now)
          (sym (ap (map local_tree) c.in_ok-push.ensures.items
          ∙ map_push local_tree c.declarations.locals.items c.in-Ok.read.0))
          (locals_more c.declarations.invariant.so_far c.in-Ok.ensures.taken);
      shorter = omega (arith, c.in-Ok.ensures.shorter);
    }

pub returns-in-Err-clause-refused : goal.returns-in-Err-clause-refused
returns-in-Err-clause-refused c =
    refused_so (λ deep here. no_body_local (search rules) c.declarations.invariant.so_far) _
    c.in-Err.ensures.refused

pub returns-in-Err-stmts-clause-refused : goal.returns-in-Err-stmts-clause-refused
returns-in-Err-stmts-clause-refused c =
    refused_so (λ deep here. no_body_stmts (search rules) c.declarations.invariant.so_far) _
    c.in-Err-stmts.ensures.refused

pub returns-clause-taken : goal.returns-clause-taken
returns-clause-taken c =
    taken_body (search rules) c.in-Ok-stmts.ensures.ended c.declarations.invariant.so_far c.in-Ok-stmts.ensures.taken
