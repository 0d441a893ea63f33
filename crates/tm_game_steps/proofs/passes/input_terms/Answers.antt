use Rattle.std.proofs.Common.{◌≡◌, subst, ap, length, arith}
use Rattle.tm_game_steps.specs.Inner.Inputs.{AreInputTerms}
use Rattle.tm_game_steps.proofs.Passing.{inputs_more}
use Rattle.tm_game_steps.proofs.passes.input_terms.Goals as goal
use Rattle.tm_term.proofs.Valued.{Extends-trans}

pub mk-requires : goal.mk-requires
mk-requires c = omega (arith, ap length c.loop-input.invariant.extends.inputs, c.requires.inputs)

pub returns-in_err-id-clause-earlier : goal.returns-in_err-id-clause-earlier
returns-in_err-id-clause-earlier c = Extends-trans _ _ _ c.loop-input.invariant.extends c.mk.ensures.earlier

pub returns-in_err-push-clause-earlier : goal.returns-in_err-push-clause-earlier
returns-in_err-push-clause-earlier c = Extends-trans _ _ _ c.loop-input.invariant.extends c.mk.ensures.earlier

pub loop-input-preserved : goal.loop-input-preserved
loop-input-preserved c = record {
  extends = Extends-trans _ _ _ c.loop-input.invariant.extends c.mk.ensures.earlier;
  inputs = inputs_more c.loop-input.terms c.mk.new.self c.mk.ensures.earlier c.loop-input.input
      c.loop-input.ids.items c.push.new.self.items c.in_ok-id.id c.loop-input.invariant.inputs
      c.in_ok-id.ensures.known c.in_ok-id.ensures.width c.in_ok-id.ensures.value c.in_ok-push.ensures.items;
}

pub returns-clause-terms : goal.returns-clause-terms
returns-clause-terms c =
    let all : c.loop-input.input ≡ c.args.count = omega (arith, c.loop-input.auto.input-end) in
    subst (λ n. AreInputTerms c.loop-input.terms n c.loop-input.ids.items) all c.loop-input.invariant.inputs
