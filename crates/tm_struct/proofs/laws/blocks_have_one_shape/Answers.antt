use Rattle.tm_struct.proofs.OneShape.{one_shape}
use Rattle.tm_struct.proofs.laws.blocks_have_one_shape.Goals as goal

pub returns : goal.returns
returns c = λ d bs one other fit is also. one_shape d bs fit one other is also
