use Rattle.std.proofs.Common.{refl, arith, rules, sym, ap, ◌∙◌, subst, [], ◌∷◌, ◌++◌, List}
use Rattle.tm_syntax.specs.declared.token.Sign.TheVariants as sign
use Rattle.tm_syntax.specs.declared.tree.Port.{Port}
use Rattle.tm_syntax.specs.Grammar.Specification.{IsPort}
use Rattle.tm_parse.specs.Reading.{Nothing}
use Rattle.tm_parse.proofs.Lists.{SoFar, so_far_one, so_far_more, so_far_all, list_blocked, more_blocked}
use Rattle.tm_parse.proofs.Terminals.{without_place}
use Rattle.tm_parse.proofs.Taking.{refused_so}
use Rattle.tm_parse.proofs.specification.listed_ports.Goals as goal

pub returns-in-Err-clause-refused : goal.returns-in-Err-clause-refused
returns-in-Err-clause-refused c =
    refused_so (λ deep here. list_blocked sign.Comma (λ goes. goes)) _ c.in-Err.ensures.refused

pub loop-behind-init : goal.loop-behind-init
loop-behind-init c = record {
  so_far = subst (λ (ns : List Port).
      SoFar sign.Comma (λ _. IsPort c.args.text.now) Nothing ns c.args.tokens.now c.in-Ok.read.1.now)
      (sym (c.in_ok-push.ensures.items ∙ ap (λ ns. ns ++ c.in-Ok.read.0 ∷ []) c.new-ports.ensures.items))
      (so_far_one (λ goes. goes) c.in-Ok.ensures.taken);
  shorter = omega (arith, c.in-Ok.ensures.shorter);
}

pub returns-in-Err-port-clause-refused : goal.returns-in-Err-port-clause-refused
returns-in-Err-port-clause-refused c =
    refused_so (λ deep here. more_blocked (λ goes. goes) c.loop-behind.invariant.so_far
    (without_place c.in-Some.ensures.taken)) _ c.in-Err-port.ensures.refused

pub loop-behind-preserved : goal.loop-behind-preserved
loop-behind-preserved c = record {
  so_far = subst (λ (ns : List Port).
      SoFar sign.Comma (λ _. IsPort c.args.text.now) Nothing ns c.args.tokens.now c.in-Ok-port.read.1.now)
      (sym c.in_ok-push-2.ensures.items)
      (so_far_more (λ goes. goes) c.loop-behind.invariant.so_far (without_place c.in-Some.ensures.taken)
      c.in-Ok-port.ensures.taken);
  shorter = omega (arith, c.in-Ok-port.ensures.shorter, c.in-Some.ensures.shorter);
}

pub returns-clause-taken : goal.returns-clause-taken
returns-clause-taken c = so_far_all (c.in_default.ensures.none refl) c.loop-behind.invariant.so_far
