use Rattle.std.proofs.Common.{◌≡◌, ℕ, Bool, true, false, List, length, sym, ap, ◌∙◌, subst}
use Rattle.std.proofs.lemmas.List.{length-replicate}
use Rattle.tm_abs.proofs.Joining.{join_begun}
use Rattle.tm_abs.proofs.Marking.{none_marked}
use Rattle.tm_abs.specs.declared.atoms.Atom.{Atom}
use Rattle.tm_abs.specs.Inner.Joining.{IsJoining}
use Rattle.tm_abs.specs.Inner.Marks.{AreMarked}
use Rattle.tm_ddops.specs.Quantified.{is_marked_level}
use Rattle.tm_abs.proofs.joined.join_none.Goals as goal

pub returns : goal.returns
returns c = λ waiting.
    let free = c.args.free.now in
    let reads = c.args.reads.now in
    let marks = c.in_ok-marks.marks.items in
    let after = c.mark_levels.new.marks.items in
    let longer = c.mark_levels.new.listed.items in
    let all = c.in_ok-marks.ensures in
    subst (λ (xs : List Atom). IsJoining free reads waiting after longer xs waiting) (sym c.new.ensures.items)
    (join_begun free reads marks after longer (ap length all ∙ length-replicate (length free) false)
    (λ k. subst (λ (xs : List Bool). ¬ (is_marked_level xs k ≡ true)) (sym all) (none_marked (length free) k))
    (subst (λ (xs : List ℕ). AreMarked free reads marks xs after longer) c.new-levels.ensures.items
    c.in_ok-mark_levels.ensures.marked) waiting)
