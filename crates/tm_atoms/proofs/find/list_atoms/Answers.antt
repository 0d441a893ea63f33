use Rattle.std.proofs.Common.{◌≡◌, ℕ, ◌++◌, List, map, sym, ap, ◌∙◌, length, subst}
use Rattle.std.proofs.lemmas.List.{length-map}
use Rattle.std.proofs.lemmas.Result.{IfOk-at_ok, IfOk-weaker}
use Rattle.std.specs.List.{flat_map}
use Rattle.tm_syntax.specs.Design.{DesignTree}
use Rattle.tm_syntax.specs.Design.Atoms.{Atom, claim_atoms, process_atoms, task_atoms}
use Rattle.tm_syntax.specs.Design.Scope.{Scope}
use Rattle.tm_scope.specs.Cells.{CellTables, HasCells}
use Rattle.tm_atoms.specs.Atoms.{atom_of}
use Rattle.tm_atoms.specs.Conditions.{HasConditions}
use Rattle.tm_atoms.specs.Pool.{with_atoms}
use Rattle.tm_atoms.specs.Inner.Pools.{noted_atoms}
use Rattle.tm_atoms.specs.Inner.Ranks.{IsRanked}
use Rattle.tm_atoms.specs.Inner.Walks.{HasWalked, IsIdle, WalkTables, tables_of}
use Rattle.tm_atoms.specs.declared.atom.AtomAt.{AtomAt}
use Rattle.tm_atoms.specs.declared.find.Conditions.{Conditions}
use Rattle.tm_atoms.proofs.Listing.{listed-atoms, pool-listed}
use Rattle.tm_atoms.proofs.Noting.{pooled_is}
use Rattle.tm_atoms.proofs.Ranking.{ranked}
use Rattle.tm_atoms.proofs.find.list_atoms.Goals as goal

-- a walk notes the atoms of all conditions
abbrev NotesAll : CellTables → Conditions → WalkTables → WalkTables → Type 0
NotesAll x cs u v =
    (d : DesignTree) → HasCells x d → HasConditions cs d → (rank : Scope → ℕ) → IsRanked d rank → IsIdle d u →
    HasWalked d u v (claim_atoms d ++ flat_map (process_atoms d) d.processes ++ flat_map (task_atoms d) d.tasks)

-- so many are noted once those of goals and fairness conditions are
abbrev CountsClaims : CellTables → Conditions → WalkTables → ℕ → Type 0
CountsClaims x cs u n =
    (d : DesignTree) → HasCells x d → HasConditions cs d → IsIdle d u →
    n ≡ length (with_atoms d (noted_atoms u.pool) (claim_atoms d))

pub returns-clause-atoms : goal.returns-clause-atoms
returns-clause-atoms c =
    IfOk-weaker c.atoms_of.result _ _ (λ t made d over has by_text order.
    let by_calls = ranked d by_text order in
    let inside : HasCells c.new-bodies.result d =
    subst (λ (x : CellTables). HasCells x d) (sym c.new-bodies.ensures) over in
    let u : WalkTables = tables_of c.new-walk.result in
    let v : WalkTables = tables_of c.note_all-first.new.walk in
    let begun = c.new-walk.ensures d in
    let atoms : List Atom =
    claim_atoms d ++ flat_map (process_atoms d) d.processes ++ flat_map (task_atoms d) d.tasks in
    let all : HasWalked d u v atoms =
    IfOk-at_ok (λ (n : ℕ). NotesAll c.new-bodies.result c.args.conditions u v) made.0 c.note_all-first.ensures.all
    d inside has by_calls.0 by_calls.1 begun.0 in
    ap (λ (es : List (ℕ × AtomAt)). map atom_of (map (λ e. e.1) es)) made.1 ∙ listed-atoms v.pool.atoms
    ∙ pool-listed d u v atoms begun.1 all) c.atoms_of.ensures

pub returns-clause-first : goal.returns-clause-first
returns-clause-first c =
    IfOk-weaker c.atoms_of.result _ _ (λ t made d over has.
    let inside : HasCells c.new-bodies.result d =
    subst (λ (x : CellTables). HasCells x d) (sym c.new-bodies.ensures) over in
    let u : WalkTables = tables_of c.new-walk.result in
    let begun = c.new-walk.ensures d in
    IfOk-at_ok (CountsClaims c.new-bodies.result c.args.conditions u) made.0 c.note_all-first.ensures.first
    d inside has begun.0
    ∙ ap (λ (pool : List Atom). length (with_atoms d pool (claim_atoms d))) begun.1
    ∙ ap length (pooled_is d (claim_atoms d))) c.atoms_of.ensures

pub returns-clause-count : goal.returns-clause-count
returns-clause-count c =
    IfOk-weaker c.atoms_of.result _ _ (λ t same d over has by_text order.
    sym (length-map (map (λ (e : ℕ × AtomAt). e.1) t.atoms.entries) atom_of)
    ∙ ap length (same d over has by_text order)) (returns-clause-atoms c)
