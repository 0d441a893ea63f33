use Rattle.std.proofs.Common.{rules}
use Rattle.tm_cparse.specs.View.{tokens_of}
use Rattle.tm_cparse.proofs.Tokens.{not_first}
use Rattle.tm_cparse.proofs.spot.taken.Goals as goal

pub returns-else-eq-clause-whole : goal.returns-else-eq-clause-whole
returns-else-eq-clause-whole c =
    not_first c.in_ok-first.first c.args.token (tokens_of c.args.spots.now) (tokens_of c.in_ok-first.rest.now)
    (λ same. search rules) c.in_ok-first.ensures.whole
