use Rattle.std.proofs.Common.{refl}
use Rattle.tm_struct_parse.proofs.OwnTokens.{own_next, no_own}
use Rattle.tm_struct_parse.proofs.scan.own_spot.Goals as goal

pub returns-in-Some : goal.returns-in-Some
returns-in-Some c =
    λ d open_count.
    own_next d open_count c.args.line c.args.text.now _ _ c.run_len-len.result c.run_len-len.ensures.value refl refl
    c.in-Some.ensures

pub returns-in-None : goal.returns-in-None
returns-in-None c =
    no_own c.args.text.now _ c.run_len-len.result c.run_len-len.ensures.value refl c.in-None.ensures
