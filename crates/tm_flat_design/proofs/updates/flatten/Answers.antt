use Rattle.std.proofs.Common.{sym, subst}
use Rattle.std.proofs.lemmas.Result.{IfOk-weaker}
use Rattle.tm_syntax.specs.declared.design.Design.{Design}
use Rattle.tm_plain.specs.Machine.{IsRunnable}
use Rattle.tm_flat_design.specs.Making.{AreOver}
use Rattle.tm_flat_design.proofs.Told as told
use Rattle.tm_flat_design.proofs.updates.flatten.Goals as goal

pub flatten_by-flat-requires-clause-runnable : goal.flatten_by-flat-requires-clause-runnable
flatten_by-flat-requires-clause-runnable c =
    subst IsRunnable (sym c.in-Ok.ensures) (record { sound = c.requires.sound; read = c.requires.read })

pub flatten_by-flat-requires-clause-terms : goal.flatten_by-flat-requires-clause-terms
flatten_by-flat-requires-clause-terms c =
    subst (λ (d : Design). AreOver d c.args.terms.now) (sym c.in-Ok.ensures)
    (record { sound = c.requires.terms; inputs = c.requires.inputs })

pub returns-clause-flat : goal.returns-clause-flat
returns-clause-flat c =
    IfOk-weaker c.flatten_by-flat.result _ _
    (told.flat c.args.design.now c.in-Ok.tables c.in-Ok.ensures c.args.terms.now c.flatten_by-flat.new.terms)
    c.flatten_by-flat.ensures

pub returns-clause-pool : goal.returns-clause-pool
returns-clause-pool c =
    IfOk-weaker c.flatten_by-flat.result _ _
    (told.ids c.args.design.now c.in-Ok.tables c.in-Ok.ensures c.args.terms.now c.flatten_by-flat.new.terms)
    c.flatten_by-flat.ensures

pub returns-clause-first : goal.returns-clause-first
returns-clause-first c =
    IfOk-weaker c.flatten_by-flat.result _ _
    (told.first c.args.design.now c.in-Ok.tables c.in-Ok.ensures c.args.terms.now c.flatten_by-flat.new.terms)
    c.flatten_by-flat.ensures

pub returns-clause-earlier : goal.returns-clause-earlier
returns-clause-earlier c =
    IfOk-weaker c.flatten_by-flat.result _ _
    (told.earlier c.args.design.now c.in-Ok.tables c.in-Ok.ensures c.args.terms.now
    c.flatten_by-flat.new.terms) c.flatten_by-flat.ensures

pub returns-clause-sound : goal.returns-clause-sound
returns-clause-sound c =
    IfOk-weaker c.flatten_by-flat.result _ _
    (told.sound c.args.design.now c.in-Ok.tables c.in-Ok.ensures c.args.terms.now c.flatten_by-flat.new.terms)
    c.flatten_by-flat.ensures
