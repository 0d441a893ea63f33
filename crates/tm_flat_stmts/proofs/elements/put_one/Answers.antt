use Rattle.std.proofs.Common.{ℕ, ◌^◌, ◌<◌, sym, ◌∙◌, subst}
use Rattle.tm_scope.specs.Types.{ty_of}
use Rattle.tm_flat_exprs.specs.Kept.{AreKept, KeptTerms}
use Rattle.tm_flat_exprs.specs.Made.{Makes}
use Rattle.tm_flat_exprs.specs.Valued.{FindsElement}
use Rattle.tm_flat_stmts.proofs.IntoElements.{one_put}
use Rattle.tm_flat_stmts.proofs.elements.put_one.Goals as goal

pub element_at-requires-clause-ready : goal.element_at-requires-clause-ready
element_at-requires-clause-ready c = record {
  settled = c.requires.settled;
  sound = c.requires.sound;
  kept = subst (λ (k : KeptTerms). AreKept c.args.reader.now.tables c.args.terms.now k) (sym c.memory.ensures)
      c.requires.flow.memory.kept;
}

pub width-width-requires : goal.width-width-requires
width-width-requires c = c.in_ok-element.ensures.grown.known c.args.index c.requires.known

pub make-requires : goal.make-requires
make-requires c = (
  c.width-width.ensures.in_range,
  subst (λ (w : ℕ). c.args.number < 2 ^ w)
      (sym (c.width-width.ensures.width ∙ c.in_ok-element.ensures.grown.widths c.args.index c.requires.known))
      c.requires.below,
)

pub make-requires-2 : goal.make-requires-2
make-requires-2 c =
    let known = c.in_ok-element.ensures.grown.known c.args.index c.requires.known in (
      c.in_ok-constant.ensures.grown.known c.args.index known,
      c.in_ok-constant.ensures.term.0,
      c.in_ok-constant.ensures.grown.widths c.args.index known
          ∙ sym c.width-width.ensures.width
          ∙ sym c.in_ok-constant.ensures.term.1,
    )

pub make-requires-3 : goal.make-requires-3
make-requires-3 c =
    let first = c.in_ok-element.ensures.grown in
    let second = c.in_ok-constant.ensures.grown in
    let third = c.in_ok-here.ensures.grown in
    let element = c.in_ok-element.ensures.term in
    let id_known = first.known c.args.id c.requires.term.0 in
    let id_later = second.known c.args.id id_known in
    let element_later = second.known c.in_ok-element.element element.0 in (
      c.in_ok-here.ensures.term.0,
      c.in_ok-here.ensures.term.1,
      (
        third.known c.args.id id_later,
        third.known c.in_ok-element.element element_later,
        third.widths c.args.id id_later
            ∙ second.widths c.args.id id_known
            ∙ first.widths c.args.id c.requires.term.0
            ∙ c.requires.term.1
            ∙ sym (third.widths c.in_ok-element.element element_later
            ∙ second.widths c.in_ok-element.element element.0
            ∙ element.1),
      ),
    )

pub returns : goal.returns
returns c =
    one_put c.args.reader.now c.args.path.now (ty_of c.args.ty) c.args.number c.args.index c.args.id
    c.in_ok-element.element c.in_ok-constant.constant c.in_ok-here.here c.in_ok-value.value c.args.terms.now
    c.element_at.new.terms c.make.new.terms c.make-2.new.terms c.make-3.new.terms c.args.flow c.in_ok-goes.goes
    c.requires.apart c.requires.typed c.requires.flow c.requires.term
    (subst (λ (k : KeptTerms). FindsElement c.args.reader.now k (ty_of c.args.ty) c.args.path.now c.args.number
    c.args.terms.now c.element_at.new.terms c.in_ok-element.element) c.memory.ensures c.in_ok-element.ensures)
    (subst (λ (w : ℕ). Makes c.element_at.new.terms c.make.new.terms w c.in_ok-constant.constant
    (λ u v. c.args.number)) c.width-width.ensures.width c.in_ok-constant.ensures)
    c.in_ok-here.ensures c.in_ok-value.ensures c.in_ok-goes.ensures
