use Rattle.std.proofs.Common.{ℕ, ◌<◌, List, [], Vec, length, map, sym, ◌∙◌, subst, arith}
use Rattle.std.specs.Prelude.{All, reverse}
use Rattle.std.specs.declared.alloc.Global.{Global}
use Rattle.std.proofs.lemmas.List.{length-map}
use Rattle.std.proofs.lemmas.Result.{IfOk-weaker}
use Rattle.tm_term.specs.Table.{Fits}
use Rattle.tm_blast.specs.Cell.{MeanBits}
use Rattle.tm_blast.specs.Numbers.{level_lists}
use Rattle.tm_blast.proofs.PartNumbers.{levels_at, leaf-Const, leaf-Input}
use Rattle.tm_blast.proofs.term_bits.leaf_bits.Goals as goal

pub input-requires : goal.input-requires
input-requires c =
    let levels = c.args.levels.now in
    let items : Vec ℕ Global → List ℕ = λ l. l.items in
    let known = subst (Fits c.args.terms.now) c.in-Input.is c.requires.fits in
    let within : c.in-Input.i < length levels =
    omega (arith, known, c.requires.levels.inputs, length-map levels items) in
    let within_lists : c.in-Input.i < length (level_lists levels) = omega (arith, length-map levels items) in
    let is = levels_at levels c.in-Input.i c.index-levels-i.result [] within c.index-levels-i.is in
    subst (All (λ level. level < c.args.dd.now.table.levels)) (is ∙ sym c.deref.ensures.value)
    (c.requires.levels.below c.in-Input.i [] within_lists)

pub returns-in-Const-clause-answer : goal.returns-in-Const-clause-answer
returns-in-Const-clause-answer c =
    IfOk-weaker c.constant.result _ _
    (λ ids are. leaf-Const c.args.terms.now _ c.args.dd.now.table c.args.term c.in-Const.width c.in-Const.number
    ids.items c.requires.fits c.in-Const.is (are c.args.dd.now.table)) c.constant.ensures

pub returns-in-Input-clause-answer : goal.returns-in-Input-clause-answer
returns-in-Input-clause-answer c =
    IfOk-weaker c.input.result _ _
    (λ ids are. leaf-Input c.args.terms.now c.args.levels.now c.input.new.dd.table c.args.dd.now.table.levels
    c.args.term c.in-Input.i c.index-levels-i.result ids.items c.requires.fits c.in-Input.is c.requires.levels
    c.index-levels-i.is
    (subst (λ ls. MeanBits c.input.new.dd.table ids.items (λ v. map v (reverse ls))) c.deref.ensures.value are))
    c.input.ensures.answer
