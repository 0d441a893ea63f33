use Rattle.std.proofs.Common.{rules, arith, List, [], ◌++◌, ◌∷◌, map, ap, ◌∙◌}
use Rattle.tm_cir.specs.declared.block.Num64.{Num64}
use Rattle.tm_cir.specs.View.{num_tree}
use Rattle.tm_cparse.specs.View.{tokens_of}
use Rattle.tm_cparse.proofs.Moves.{moves_then}
use Rattle.tm_cparse.proofs.Readings.{refused_behind}
use Rattle.tm_cparse.proofs.Arguments.{argument_moved, comma_moved, closes_arguments, no_argument, no_argument_end}
use Rattle.tm_cparse.proofs.call.some_arguments.Goals as goal

pub returns-in_err-arg-clause-refused : goal.returns-in_err-arg-clause-refused
returns-in_err-arg-clause-refused c =
    let h = no_argument [] (tokens_of c.args.spots.now) _ c.in_err-arg.ensures.refused in search rules

pub loop-behind-init : goal.loop-behind-init
loop-behind-init c = (
  argument_moved [] c.push.new.self.items num_tree c.in_ok-arg.arg (tokens_of c.args.spots.now)
      (tokens_of c.in_ok-arg.rest.now)
      (c.in_ok-push.ensures.items
      ∙ ap (λ (l : List Num64). l ++ c.in_ok-arg.arg ∷ []) c.new-args.ensures.items)
      c.in_ok-arg.ensures.taken,
  omega (arith, c.in_ok-arg.ensures.shorter),
)

pub returns-in_err-arg-2-clause-refused : goal.returns-in_err-arg-2-clause-refused
returns-in_err-arg-2-clause-refused c =
    let h = refused_behind
    (moves_then c.loop-behind.invariant.0
    (comma_moved (map num_tree c.loop-behind.args.items) (tokens_of c.loop-behind.rest.now)
    (tokens_of c.in-Some.behind.now) c.in-Some.ensures.whole)) _
    (no_argument (map num_tree c.loop-behind.args.items) (tokens_of c.in-Some.behind.now) _
    c.in_err-arg-2.ensures.refused) in
    search rules

pub loop-behind-preserved : goal.loop-behind-preserved
loop-behind-preserved c = (
  moves_then c.loop-behind.invariant.0
      (moves_then
      (comma_moved (map num_tree c.loop-behind.args.items) (tokens_of c.loop-behind.rest.now)
      (tokens_of c.in-Some.behind.now) c.in-Some.ensures.whole)
      (argument_moved c.loop-behind.args.items c.push-in-Some.new.self.items num_tree c.in_ok-arg-2.arg
      (tokens_of c.in-Some.behind.now) (tokens_of c.in_ok-arg-2.behind.now) c.in_ok-push-2.ensures.items
      c.in_ok-arg-2.ensures.taken)),
  omega (arith, c.in_ok-arg-2.ensures.shorter, c.in-Some.ensures.shorter),
)

pub returns-in_err-rest-clause-refused : goal.returns-in_err-rest-clause-refused
returns-in_err-rest-clause-refused c =
    let h = refused_behind c.loop-behind.invariant.0 _
    (no_argument_end (map num_tree c.loop-behind.args.items) c.loop-behind.rest.now _ c.in_default.ensures.whole
    c.in_err-rest.ensures.refused) in
    search rules

pub returns-clause-taken : goal.returns-clause-taken
returns-clause-taken c =
    closes_arguments (map num_tree c.loop-behind.args.items) (tokens_of c.args.spots.now)
    (tokens_of c.loop-behind.rest.now) (tokens_of c.in_ok-rest.rest.now) c.loop-behind.invariant.0
    c.in_ok-rest.ensures.taken
