-- Signs that are no shifts.
use Rattle.std.proofs.Common.{◌≢◌, refl}
use Rattle.tm_base.specs.declared.shift_operator.ShiftOperator.{ShiftOperator}
use Rattle.tm_cir.specs.Text.Token.{shifting}
use Rattle.tm_cparse.specs.declared.token.Sign.{Sign}
use Rattle.tm_cparse.specs.declared.token.Sign.TheVariants as signs
use Rattle.tm_cparse.specs.View.{sign_tree}

pub no_shifting : (s : Sign) → ((op : ShiftOperator) → s ≢ signs.Shifting op) → (op : ShiftOperator) →
    sign_tree s ≢ shifting op
no_shifting (signs.Shifting o) none op e = none o refl
no_shifting _ none op e = cc
