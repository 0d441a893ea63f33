use Rattle.std.proofs.Common.{ℕ, List, ◌∷◌, sym, subst, IsPermutation}
use Rattle.std.proofs.lemmas.List.Sorted.{IsPermutation-swap_remove}
use Rattle.tm_abs.proofs.Joining.{joined_more}
use Rattle.tm_abs.specs.declared.atoms.Atom.{Atom}
use Rattle.tm_abs.specs.Inner.Joining.{IsJoining}
use Rattle.tm_abs.specs.Inner.Marks.{AreMarked}
use Rattle.tm_abs.proofs.joined.join_at.Goals as goal

pub returns-clause-joining : goal.returns-clause-joining
returns-clause-joining c = λ reads first joining.
    let free = c.args.free.now in
    let joined = c.args.joined.now in
    let left = c.args.waiting.now.items in
    let atom = c.swap_remove-atom.result in
    let rest = c.swap_remove-atom.new.self.items in
    let after = c.mark_levels.new.marks.items in
    let longer = c.mark_levels.new.listed.items in
    subst (λ (xs : List Atom). IsJoining free reads first after longer xs rest) (sym c.in_ok-push.ensures.items)
    (joined_more free reads first joined.gone.marks.items joined.gone.levels.items joined.atoms.items left rest atom
    joining after longer
    (subst (λ (xs : List ℕ). AreMarked free xs joined.gone.marks.items joined.gone.levels.items after longer)
    c.deref.ensures.value c.in_ok-mark_levels.ensures.marked)
    (subst (λ (xs : List Atom). IsPermutation left (atom ∷ xs)) (sym c.swap_remove-atom.ensures.items)
    (IsPermutation-swap_remove left c.args.at atom c.requires.at c.swap_remove-atom.ensures.value)))
