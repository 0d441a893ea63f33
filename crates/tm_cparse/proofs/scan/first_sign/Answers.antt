use Rattle.std.proofs.Common.{refl, sym}
use Rattle.tm_cparse.specs.View.{sign_tree}
use Rattle.tm_cparse.proofs.Signs.{nothing_first}
use Rattle.tm_cparse.proofs.Cuts.{no_sign_token, sign_token_first}
use Rattle.tm_cparse.proofs.scan.first_sign.Goals as goal

pub returns-then-is_empty : goal.returns-then-is_empty
returns-then-is_empty c =
    no_sign_token c.args.text.now 0 (sym c.requires) refl
    (nothing_first c.args.text.now c.is_empty.result c.is_empty.ensures c.if-is_empty.true)

pub returns-in_err-sign : goal.returns-in_err-sign
returns-in_err-sign c =
    rw c.from_residual.ensures (no_sign_token c.args.text.now 0 (sym c.requires) refl c.in_err-sign.ensures)

pub returns : goal.returns
returns c = λ d.
    sign_token_first d c.args.text.now (sign_tree c.in_ok-sign.sign) c.in_ok-sign.len _ refl refl c.in_ok-sign.ensures
