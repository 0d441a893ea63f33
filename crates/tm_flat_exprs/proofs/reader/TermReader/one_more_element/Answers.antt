use Rattle.std.proofs.Common.{ℕ, ◌^◌, ◌<◌, sym, ◌∙◌, subst}
use Rattle.tm_scope.specs.Types.{ty_of}
use Rattle.tm_flat_exprs.specs.Made.{Makes}
use Rattle.tm_flat_exprs.proofs.Reading.{one_more_found}
use Rattle.tm_flat_exprs.proofs.reader.TermReader.one_more_element.Goals as goal

pub width-width-requires : goal.width-width-requires
width-width-requires c = c.in_ok-element.ensures.grown.known c.args.index c.requires.known

pub make-requires : goal.make-requires
make-requires c = (
  c.width-width.ensures.in_range,
  subst (λ (w : ℕ). c.args.number < 2 ^ w)
      (sym (c.width-width.ensures.width ∙ c.in_ok-element.ensures.grown.widths c.args.index c.requires.known))
      c.requires.below,
)

pub make-requires-2 : goal.make-requires-2
make-requires-2 c =
    let known = c.in_ok-element.ensures.grown.known c.args.index c.requires.known in (
      c.in_ok-constant.ensures.grown.known c.args.index known,
      c.in_ok-constant.ensures.term.0,
      c.in_ok-constant.ensures.grown.widths c.args.index known
          ∙ sym c.width-width.ensures.width
          ∙ sym c.in_ok-constant.ensures.term.1,
    )

pub make-requires-3 : goal.make-requires-3
make-requires-3 c =
    let first = c.in_ok-element.ensures.grown in
    let second = c.in_ok-constant.ensures.grown in
    let third = c.in_ok-here.ensures.grown in
    let element = c.in_ok-element.ensures.term in
    let others_known = first.known c.args.others c.requires.others.0 in
    let others_later = second.known c.args.others others_known in
    let element_later = second.known c.in_ok-element.element element.0 in (
      c.in_ok-here.ensures.term.0,
      c.in_ok-here.ensures.term.1,
      (
        third.known c.in_ok-element.element element_later,
        third.known c.args.others others_later,
        third.widths c.in_ok-element.element element_later
            ∙ second.widths c.in_ok-element.element element.0
            ∙ element.1
            ∙ sym (third.widths c.args.others others_later
            ∙ second.widths c.args.others others_known
            ∙ first.widths c.args.others c.requires.others.0
            ∙ c.requires.others.1),
      ),
    )

pub returns : goal.returns
returns c =
    one_more_found c.args.self.now c.args.memory.now (ty_of c.args.ty) c.args.path.now c.args.number c.args.index
    c.args.others c.in_ok-element.element c.in_ok-constant.constant c.in_ok-here.here c.in_ok-id.id c.args.terms.now
    c.element_at.new.terms c.make.new.terms c.make-2.new.terms c.make-3.new.terms
    c.requires.others c.requires.known c.in_ok-element.ensures
    (subst (λ (w : ℕ). Makes c.element_at.new.terms c.make.new.terms w c.in_ok-constant.constant
    (λ u v. c.args.number)) c.width-width.ensures.width c.in_ok-constant.ensures)
    c.in_ok-here.ensures c.in_ok-id.ensures
