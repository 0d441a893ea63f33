use Rattle.std.proofs.Common.{◌&&◌, ap, ◌∙◌}
use Rattle.tm_check.proofs.Growth.{and_before}
use Rattle.tm_check.proofs.trying.without.Goals as goal
use Rattle.tm_dd.specs.Table.{means}

pub and-requires-clause-g : goal.and-requires-clause-g
and-requires-clause-g c = c.complement.ensures.known c.args.game.now.diagrams.table c.requires.other

pub returns-clause-rest : goal.returns-clause-rest
returns-clause-rest c =
    let is = and_before c.args.game.now.diagrams.table c.and.new.self.diagrams.table c.and.ensures.grows.diagrams
    c.args.set c.complement.result c.in_ok-rest.rest c.requires.set
    (c.complement.ensures.known c.args.game.now.diagrams.table c.requires.other) c.in_ok-rest.ensures.answer in
    record {
      known = is.known;
      meaning = λ v.
          is.meaning v
          ∙ ap (λ b. means c.args.game.now.diagrams.table c.args.set v && b)
          (c.complement.ensures.meaning c.args.game.now.diagrams.table v);
    }
