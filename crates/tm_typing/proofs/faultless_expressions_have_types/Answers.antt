use Rattle.tm_typing.proofs.Typing.{typed}
use Rattle.tm_typing.proofs.faultless_expressions_have_types.Goals as goal

pub returns : goal.returns
returns c = λ context asked e paths well numbers suits. typed context e paths well asked numbers suits
