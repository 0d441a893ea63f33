use Rattle.std.proofs.Common.{◌<◌, ◌^◌, List, Option, sym, subst, arith}
use Rattle.std.proofs.lemmas.List.{take_all}
use Rattle.std.proofs.lemmas.Option.{slice_get-get_or}
use Rattle.tm_term.specs.declared.term.TermId.{TermId}
use Rattle.tm_flat_exprs.proofs.Later.{truth_along}
use Rattle.tm_flat_states.proofs.Choosing.{Found, found_first, found_more}
use Rattle.tm_flat_states.proofs.truths.truth_of_number.Goals as goal

pub loop-number-init : goal.loop-number-init
loop-number-init c = found_first c.args.terms.now c.args.of c.requires.sound

pub or_at_number-requires-clause-known : goal.or_at_number-requires-clause-known
or_at_number-requires-clause-known c = c.loop-number.invariant.grown.known c.args.of c.requires.known

pub or_at_number-requires-clause-within : goal.or_at_number-requires-clause-within
or_at_number-requires-clause-within c =
    subst (λ w. c.loop-number.number < 2 ^ w) (sym (c.loop-number.invariant.grown.widths c.args.of c.requires.known))
    (omega (arith, c.loop-number-test.true, c.requires.within))

pub or_at_number-requires-clause-here : goal.or_at_number-requires-clause-here
or_at_number-requires-clause-here c =
    let here = slice_get-get_or c.args.truths.now c.loop-number.number _ c.loop-number-test.true in
    truth_along c.args.terms.now c.loop-number.terms _ c.loop-number.invariant.grown
    (c.requires.truths.each c.loop-number.number _ here)

pub loop-number-preserved : goal.loop-number-preserved
loop-number-preserved c =
    let here = slice_get-get_or c.args.truths.now c.loop-number.number _ c.loop-number-test.true in
    found_more c.args.terms.now c.loop-number.terms c.or_at_number.new.terms c.args.of c.args.truths.now
    c.loop-number.number c.loop-number.found _ c.in_ok-found.found here c.loop-number.invariant c.in_ok-found.ensures

pub returns : goal.returns
returns c =
    subst (λ (ts : List (Option TermId)). Found c.args.terms.now c.loop-number.terms c.args.of ts c.loop-number.found)
    (take_all c.loop-number.number c.args.truths.now (omega (arith, c.loop-number-test.false)))
    c.loop-number.invariant
