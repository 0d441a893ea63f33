use Rattle.tm_typing.proofs.Joining.{is_sized}
use Rattle.tm_typing.proofs.Valuing.{valued}
use Rattle.tm_typing.proofs.typed_expressions_are_valued_in_their_type.Goals as goal

pub returns-clause-valued : goal.returns-clause-valued
returns-clause-valued c = λ context ty e has. valued has

pub returns-clause-sized : goal.returns-clause-sized
returns-clause-sized c = λ context ty e has. is_sized has
