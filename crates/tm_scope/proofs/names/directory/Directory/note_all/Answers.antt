use Rattle.std.proofs.Common.{cond, Some, None, nat_eq, ap, ◌∙◌, arith}
use Rattle.std.proofs.lemmas.List.{take_all}
use Rattle.std.specs.Option.{option_or}
use Rattle.std.specs.List.{list_any}
use Rattle.std.specs.Cmp.Lexicographic.{pointwise}
use Rattle.tm_syntax.specs.Scopes.Names.{is_spelled}
use Rattle.tm_scope.specs.Directory.{index_of}
use Rattle.tm_scope.proofs.Fills.{option_or-None, noted_more}
use Rattle.tm_scope.proofs.names.directory.Directory.note_all.Goals as goal

pub loop-name-init : goal.loop-name-init
loop-name-init c = λ other. option_or-None (index_of c.args.self.now other)

pub loop-name-preserved : goal.loop-name-preserved
loop-name-preserved c = λ other.
    noted_more (is_spelled other) c.args.names.now c.loop-name.name-index c.name-item.result c.args.index
    (index_of c.args.self.now other) (index_of c.loop-name.self other) (index_of c.note.new.self other)
    (pointwise nat_eq other c.as_bytes.result.now) (omega arith) c.name-item.is
    (ap (pointwise nat_eq other) c.as_bytes.ensures) (c.in_ok-note.ensures other) (c.loop-name.invariant other)

pub returns : goal.returns
returns c = λ other.
    c.loop-name.invariant other
    ∙ ap (λ xs. option_or (index_of c.args.self.now other)
    (cond (list_any (is_spelled other) xs) (Some c.args.index) None))
    (take_all c.loop-name.name-index c.args.names.now (omega arith))
