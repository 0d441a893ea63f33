use Rattle.std.proofs.Common.{ap, subst}
use Rattle.tm_cert.specs.declared.cert.Cert.{Cert}
use Rattle.tm_cert.specs.declared.shape.CertShape.{CertShape}
use Rattle.tm_cert.specs.declared.shape.Kind.TheVariants.{Environment}
use Rattle.tm_cert.specs.CertValue.{IsCertText}
use Rattle.tm_syntax.specs.Design.View.{design_tree}
use Rattle.tm_commands.specs.Inputs.{TellsCert}
use Rattle.tm_commands.proofs.Reading.{levels_fit, no_driver_read}
use Rattle.tm_commands.proofs.input.environment.load_levels.Goals as goal

pub returns-clause-told : goal.returns-clause-told
returns-clause-told g c = λ tells.
    subst (λ (k : Cert). TellsCert (g.F.Files.contents c.args.files.now) c.args.cert.now
    (design_tree c.args.design.now) Environment k) c.in-Environment.is
    (c.in-Ok.ensures.told (design_tree c.args.design.now) Environment c.in_ok-shape.ensures tells)

pub returns-clause-fits : goal.returns-clause-fits
returns-clause-fits g c =
    levels_fit (design_tree c.args.design.now) c.in_ok-shape.shape c.in-Ok.ensures.read.0 c.in-Environment.cert
    Environment c.in_ok-shape.ensures
    (subst (IsCertText c.in_ok-shape.shape c.in-Ok.ensures.read.0) c.in-Environment.is c.in-Ok.ensures.read.1)

pub returns-clause-fairs : goal.returns-clause-fairs
returns-clause-fairs g c = ap (λ (s : CertShape). s.fairs) c.in_ok-shape.ensures

pub unreachable-requires : goal.unreachable-requires
unreachable-requires g c =
    no_driver_read (design_tree c.args.design.now) c.in_ok-shape.shape c.in-Ok.ensures.read.0 _ c.in_ok-shape.ensures
    (subst (IsCertText c.in_ok-shape.shape c.in-Ok.ensures.read.0) c.in-Driver.is c.in-Ok.ensures.read.1)

pub returns-in-Err-clause-stopped : goal.returns-in-Err-clause-stopped
returns-in-Err-clause-stopped g c =
    c.in-Err.ensures.stopped (design_tree c.args.design.now) Environment c.in_ok-shape.ensures
