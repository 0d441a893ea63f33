use Rattle.std.proofs.Common.{refl}
use Rattle.std.proofs.lemmas.Result.{IfOk-weaker}
use Rattle.tm_syntax.specs.Design.Atoms.{a_constant}
use Rattle.tm_atoms.specs.Inner.Numbers.{constant_node}
use Rattle.tm_atoms.proofs.Numbered.{has-then}
use Rattle.tm_atoms.proofs.table.NodeTable.constant.Goals as goal

pub returns : goal.returns
returns c =
    IfOk-weaker c.noted.result _ _
    (λ n noting.
    has-then c.args.self.now c.name.new.self c.noted.new.self n (a_constant c.args.name.now)
    c.in_ok-number.ensures.grown
    (noting (a_constant c.args.name.now) (constant_node c.in_ok-number.ensures.number) refl)) c.noted.ensures
