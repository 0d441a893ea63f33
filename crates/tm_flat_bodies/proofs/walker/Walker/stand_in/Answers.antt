use Rattle.std.proofs.Common.{sym, ap, ◌∙◌, subst}
use Rattle.std.specs.Prelude.{unwrap_or}
use Rattle.tm_flat_bodies.specs.Inner.Places.{IsThere, stand_at}
use Rattle.tm_flat_bodies.specs.Tables.{known_by}
use Rattle.tm_flat_bodies.proofs.walker.Walker.stand_in.Goals as goal

pub returns-in-Start : goal.returns-in-Start
returns-in-Start c = λ start. ap (stand_at (known_by c.args.self.now) start) c.in-Start.is

pub called_stand-requires : goal.called_stand-requires
called_stand-requires c = subst (IsThere (known_by c.args.self.now)) c.in-Called.is c.requires

pub returns-in-Called : goal.returns-in-Called
returns-in-Called c = λ start.
    ap (stand_at (known_by c.args.self.now) start) c.in-Called.is
    ∙ sym (ap (λ o. unwrap_or o start) c.called_stand.ensures)
