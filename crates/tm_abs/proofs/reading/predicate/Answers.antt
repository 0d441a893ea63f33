use Rattle.std.proofs.Common.{◌≡◌, ℕ, ◌<◌, List, Some, length, sym, ap, ◌∙◌, subst, arith}
use Rattle.std.proofs.Math.Logic.{∥∥₁_elim}
use Rattle.std.proofs.Props.{props}
use Rattle.std.specs.Prelude.{slice_get, slice_index_or}
use Rattle.std.proofs.lemmas.Option.{slice_get-get_or}
use Rattle.tm_abs.proofs.Predicates.{bits_grown, has_first, is_predicate, term_known}
use Rattle.tm_flat.specs.Flat.{FlatTerms}
use Rattle.tm_game.proofs.Growing.{grows_then, order_kept}
use Rattle.tm_term.specs.declared.term.TermId.{TermId}
use Rattle.tm_abs.proofs.reading.predicate.Goals as goal

-- the term of a number
at_number : (xs ys : List TermId) (k : ℕ) (x : TermId) → xs ≡ ys → k < length ys → x ≡ slice_index_or xs k x →
    slice_get ys k ≡ Some x
at_number xs ys k x same below is =
    slice_get-get_or ys k x below ∙ ap (λ (zs : List TermId). Some (slice_index_or zs k x)) (sym same)
    ∙ ap Some (sym is)

pub bits-requires : goal.bits-requires
bits-requires c =
    let g = c.args.game.now in
    let pool = ap (λ (f : FlatTerms). f.pool) c.flat.ensures in
    ∥∥₁_elim c.requires.pool (hlevel props)
    (λ x.
    term_known x.0 g x.1 c.args.number c.index-term.result.now
    (at_number c.flat.result.now.pool.items g.flat.pool c.args.number c.index-term.result.now pool c.requires.number
    c.index-term.ensures))

pub index-requires : goal.index-requires
index-requires c =
    let g = c.args.game.now in
    let pool = ap (λ (f : FlatTerms). f.pool) c.flat.ensures in
    ∥∥₁_elim c.requires.pool (hlevel props)
    (λ x.
    let long = has_first x.0 g x.1 c.args.number c.index-term.result.now
    (at_number c.flat.result.now.pool.items g.flat.pool c.args.number c.index-term.result.now pool c.requires.number
    c.index-term.ensures) c.bits.new.self.diagrams.table c.in_ok-bits.bits.items
    (c.in_ok-bits.ensures.bits x.0 x.1.of) in
    omega (arith, long, c.in_ok-bits.bits.ok.0))

pub returns-clause-predicate : goal.returns-clause-predicate
returns-clause-predicate c = λ d pooled.
    let g = c.args.game.now in
    let pool = ap (λ (f : FlatTerms). f.pool) c.flat.ensures in
    is_predicate d g pooled c.args.number c.index-term.result.now
    (at_number c.flat.result.now.pool.items g.flat.pool c.args.number c.index-term.result.now pool c.requires.number
    c.index-term.ensures) c.order-order.ensures.places c.bits.new.self.diagrams.table c.in_ok-bits.bits.items
    (c.in_ok-bits.ensures.bits d pooled.of) c.index.result.now c.index.ensures

pub returns-clause-always : goal.returns-clause-always
returns-clause-always c = λ h d grows pooled.
    let g = c.args.game.now in
    let k = c.bits.new.self in
    let term = c.index-term.result.now in
    let ids = c.in_ok-bits.bits.items in
    let pool = ap (λ (f : FlatTerms). f.pool) c.flat.ensures in
    let gh = grows_then g k h c.bits.ensures.grows grows in
    let there = at_number c.flat.result.now.pool.items g.flat.pool c.args.number term pool c.requires.number
    c.index-term.ensures in
    is_predicate d h pooled c.args.number term
    (subst (λ (f : FlatTerms). slice_get f.pool c.args.number ≡ Some term) (sym gh.flat) there)
    (order_kept g h gh c.order-order.ensures.places) h.diagrams.table ids
    (∥∥₁_elim c.requires.pool (hlevel props)
    (λ x.
    bits_grown x.0 d g k h x.1.of pooled.of gh grows term (term_known x.0 g x.1 c.args.number term there) ids
    (c.in_ok-bits.ensures.bits x.0 x.1.of))) c.index.result.now c.index.ensures
