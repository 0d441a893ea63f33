use Rattle.std.proofs.Common.{sym, subst}
use Rattle.std.specs.declared.alloc.Global.{Global}
use Rattle.std.specs.declared.vec.Vec.{Vec}
use Rattle.std.proofs.lemmas.Result.{IfOk-weaker}
use Rattle.tm_plain.specs.Machine.{IsRunnable}
use Rattle.tm_reorder.specs.declared.fields.Field.{Field}
use Rattle.tm_reorder.specs.Fields.{AreFields}
use Rattle.tm_syntax.specs.declared.design.Design.{Design}
use Rattle.tm_syntax.specs.Design.View.{design_tree}
use Rattle.tm_orders.proofs.fields.fields_of.Goals as goal

pub fields_by-fields-requires : goal.fields_by-fields-requires
fields_by-fields-requires c =
    subst IsRunnable (sym c.in-Ok.ensures) (record { sound = c.requires.sound; read = c.requires.of_text })

pub returns : goal.returns
returns c =
    IfOk-weaker c.fields_by-fields.result _ _
    (λ (all : Vec Field Global) are. subst (λ (k : Design). AreFields (design_tree k) all.items) c.in-Ok.ensures
    are)
    c.fields_by-fields.ensures
