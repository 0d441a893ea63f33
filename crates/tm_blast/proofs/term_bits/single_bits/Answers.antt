use Rattle.std.proofs.Common.{subst}
use Rattle.std.specs.Prelude.{All}
use Rattle.std.proofs.lemmas.List.Elements.{All-drop}
use Rattle.std.proofs.lemmas.Result.{IfOk-weaker}
use Rattle.tm_dd.specs.Table.{Knows}
use Rattle.tm_blast.specs.Bits.{values_in}
use Rattle.tm_blast.specs.Cell.{placed, MeanBits}
use Rattle.tm_blast.proofs.PartTerms.{slice_end}
use Rattle.tm_blast.proofs.PartNumbers.{single-Not, single-Shl, single-Shr, single-Resize}
use Rattle.tm_blast.proofs.term_bits.single_bits.Goals as goal

pub returns-in-Not : goal.returns-in-Not
returns-in-Not c =
    IfOk-weaker c.complements.result _ _
    (λ ids is s known. single-Not s c.args.a.now known c.args.width c.requires.width c.args.term c.in-Not.field-0
    ids.items c.in-Not.is is) c.complements.ensures

pub returns-in-Shl : goal.returns-in-Shl
returns-in-Shl c =
    IfOk-weaker c.placed.result _ _
    (λ ids are s known. single-Shl s c.args.a.now known c.args.width c.requires.width c.args.term c.in-Shl.field-0
    ids.items c.in-Shl.by c.in-Shl.is (are s known)) c.placed.ensures

pub returns-in-Shr : goal.returns-in-Shr
returns-in-Shr c =
    IfOk-weaker c.placed-in-Shr.result _ _
    (λ ids are s known. single-Shr s c.args.a.now known c.args.width c.requires.width c.args.term c.in-Shr.field-0
    ids.items c.in-Shr.by c.in-Shr.is
    (subst (λ xs. All (Knows s) xs → MeanBits s ids.items (λ v. placed 0 c.args.width (values_in s xs v)))
    (slice_end c.args.a.now c.in-Shr.by) (are s) (All-drop (Knows s) c.in-Shr.by c.args.a.now known)))
    c.placed-in-Shr.ensures

pub returns-in-Resize : goal.returns-in-Resize
returns-in-Resize c =
    IfOk-weaker c.placed-in-Resize.result _ _
    (λ ids are s known. single-Resize s c.args.a.now known c.args.width c.requires.width c.args.term
    c.in-Resize.field-1 ids.items c.in-Resize.to c.in-Resize.is (are s known)) c.placed-in-Resize.ensures
