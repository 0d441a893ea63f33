use Rattle.std.proofs.Common.{if◌then◌else◌, sym, ap, arith}
use Rattle.std.proofs.lemmas.Bool.{le-leb, lt-leb}
use Rattle.tm_dd.specs.Table.{rank_of}
use Rattle.tm_ddops.proofs.choice.upper.Goals as goal

pub returns-then-rank-clause-value : goal.returns-then-rank-clause-value
returns-then-rank-clause-value c =
    sym (ap (λ b. if b then c.args.one else c.args.other)
    (le-leb (rank_of c.args.store.now c.args.one) (rank_of c.args.store.now c.args.other)
    (omega (arith, c.if-rank.true, c.rank.ensures.value, c.rank-2.ensures.value))))

pub returns-else-rank-clause-value : goal.returns-else-rank-clause-value
returns-else-rank-clause-value c =
    sym (ap (λ b. if b then c.args.one else c.args.other)
    (lt-leb (rank_of c.args.store.now c.args.one) (rank_of c.args.store.now c.args.other)
    (omega (arith, c.if-rank.false, c.rank.ensures.value, c.rank-2.ensures.value))))
