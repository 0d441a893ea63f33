use Rattle.tm_struct_parse.proofs.OwnTokens.{function_is}
use Rattle.tm_struct_parse.proofs.scan.function_token.Goals as goal

pub returns : goal.returns
returns c =
    function_is c.args.digits.now c.item_number-number.result c.is_exact.result c.requires c.item_number-number.ensures
    c.is_exact.ensures
