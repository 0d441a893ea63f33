use Rattle.std.proofs.Common.{refl, arith, sym, subst, List}
use Rattle.tm_syntax.specs.declared.tree.Ident.{Ident}
use Rattle.tm_syntax.specs.Grammar.Parts.{IsName}
use Rattle.tm_parse.specs.Reading.{Nothing}
use Rattle.tm_parse.proofs.Lists.{SoFar, so_far_one, so_far_more, so_far_all, list_blocked, more_blocked}
use Rattle.tm_parse.proofs.Terminals.{without_place}
use Rattle.tm_parse.proofs.Taking.{refused_so}
use Rattle.tm_parse.proofs.leaves.names.Goals as goal

pub returns-in-Err-clause-refused : goal.returns-in-Err-clause-refused
returns-in-Err-clause-refused c =
    refused_so (λ deep here. list_blocked c.args.by (λ goes. goes)) _ c.in-Err.ensures.refused

pub loop-behind-init : goal.loop-behind-init
loop-behind-init c = record {
  so_far = subst (λ (ns : List Ident).
      SoFar c.args.by (λ _. IsName c.args.text.now) Nothing ns c.args.tokens.now c.in-Ok.read.1.now)
      (sym c.in_ok-names.ensures.items)
      (so_far_one (λ goes. goes) c.in-Ok.ensures.taken);
  shorter = omega (arith, c.in-Ok.ensures.shorter);
}

pub returns-in-Err-name-clause-refused : goal.returns-in-Err-name-clause-refused
returns-in-Err-name-clause-refused c =
    refused_so (λ deep here. more_blocked (λ goes. goes) c.loop-behind.invariant.so_far
    (without_place c.in-Some.ensures.taken)) _ c.in-Err-name.ensures.refused

pub loop-behind-preserved : goal.loop-behind-preserved
loop-behind-preserved c = record {
  so_far = subst (λ (ns : List Ident).
      SoFar c.args.by (λ _. IsName c.args.text.now) Nothing ns c.args.tokens.now c.in-Ok-name.read.1.now)
      (sym c.in_ok-push.ensures.items)
      (so_far_more (λ goes. goes) c.loop-behind.invariant.so_far (without_place c.in-Some.ensures.taken)
      c.in-Ok-name.ensures.taken);
  shorter = omega (arith, c.in-Ok-name.ensures.shorter, c.in-Some.ensures.shorter);
}

pub returns-clause-taken : goal.returns-clause-taken
returns-clause-taken c = so_far_all (c.in_default.ensures.none refl) c.loop-behind.invariant.so_far
