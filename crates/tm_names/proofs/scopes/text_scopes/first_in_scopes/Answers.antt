use Rattle.std.proofs.Common.{sym, ap, ◌∙◌, arith}
use Rattle.std.specs.List.{flat_map}
use Rattle.std.specs.Option.{option_map}
use Rattle.std.proofs.lemmas.List.{take_all}
use Rattle.tm_syntax.specs.Faults.Marks.{Mark, first_mark}
use Rattle.tm_names.specs.ScopeNames.{mark_of}
use Rattle.tm_names.specs.Inner.Repeats.{repeat_of}
use Rattle.tm_names.proofs.FirstFaults.{first_more}
use Rattle.tm_names.proofs.ScopeLists.{first_of_one}
use Rattle.tm_names.proofs.scopes.text_scopes.first_in_scopes.Goals as goal

pub loop-scope-preserved : goal.loop-scope-preserved
loop-scope-preserved c =
    first_more (λ (m : Mark). m.place) repeat_of c.args.scopes.now c.loop-scope.scope-index c.scope-item.result
    (option_map mark_of c.loop-scope.first) (option_map mark_of c.scope-item.result.repeat)
    (option_map mark_of c.earlier_mark-first.result) (omega (arith, c.loop-scope-test.true)) c.scope-item.is
    (sym (first_of_one (option_map mark_of c.scope-item.result.repeat))) c.earlier_mark-first.ensures
    c.loop-scope.invariant

pub returns : goal.returns
returns c =
    c.loop-scope.invariant
    ∙ ap (λ ss. first_mark (flat_map repeat_of ss))
    (take_all c.loop-scope.scope-index c.args.scopes.now (omega (arith, c.loop-scope-test.false)))
