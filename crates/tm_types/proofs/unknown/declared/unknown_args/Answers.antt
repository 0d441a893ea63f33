use Rattle.std.proofs.Common.{arith}
use Rattle.tm_syntax.specs.declared.tree.Ident.{Ident}
use Rattle.tm_syntax.specs.Scopes.Declared.{members, sort_in}
use Rattle.tm_syntax.specs.Faults.Names.{undeclared}
use Rattle.tm_scope.specs.Context.{context_of}
use Rattle.tm_types.proofs.FoundNames.{bare_all, found_more}
use Rattle.tm_types.proofs.unknown.declared.unknown_args.Goals as goal

pub loop-arg-preserved : goal.loop-arg-preserved
loop-arg-preserved c =
    let names = members (context_of c.args.site.now).template in
    found_more (λ (a : Ident). undeclared (sort_in names a.text) a) (λ a. a) c.args.args.now c.loop-arg.arg-index
    c.arg-item.result (omega arith) c.arg-item.is c.unknown_arg.ensures c.earlier_mark-first.ensures
    c.loop-arg.invariant

pub returns : goal.returns
returns c =
    let names = members (context_of c.args.site.now).template in
    bare_all (λ (a : Ident). undeclared (sort_in names a.text) a) c.args.args.now c.loop-arg.arg-index (omega arith)
    c.loop-arg.invariant
