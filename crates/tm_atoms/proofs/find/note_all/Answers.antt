use Rattle.std.proofs.Common.{◌≡◌, ℕ, ◌++◌, List, length, sym, ap, ◌∙◌, subst}
use Rattle.std.proofs.lemmas.List.{length-map}
use Rattle.std.specs.List.{flat_map}
use Rattle.tm_syntax.specs.Design.{DesignTree}
use Rattle.tm_syntax.specs.Design.Atoms.{Atom, claim_atoms, named_atoms, process_atoms, task_atoms}
use Rattle.tm_atoms.specs.Atoms.{atom_of}
use Rattle.tm_atoms.specs.Conditions.{HasConditions}
use Rattle.tm_atoms.specs.Pool.{with_atoms}
use Rattle.tm_atoms.specs.Inner.Pools.{noted_atoms}
use Rattle.tm_atoms.specs.Inner.Walks.{HasWalked, WalkTables, tables_of}
use Rattle.tm_atoms.specs.declared.atom.AtomAt.{AtomAt}
use Rattle.tm_atoms.specs.declared.find.Conditions.{Conditions}
use Rattle.tm_atoms.proofs.Listing.{walked-then}
use Rattle.tm_atoms.proofs.find.note_all.Goals as goal

-- the atoms of the goals and fairness conditions that a design has
claims : (x : Conditions) (d : DesignTree) → HasConditions x d →
    flat_map (named_atoms d (λ t. t.goals)) x.goals.now ++ flat_map (named_atoms d (λ t. t.fairs)) x.fairs.now
    ≡ claim_atoms d
claims x d has = λ i.
    flat_map (named_atoms d (λ t. t.goals)) (sym has.goals i) ++ flat_map (named_atoms d (λ t. t.fairs))
    (sym has.fairs i)

pub returns-clause-all : goal.returns-clause-all
returns-clause-all c = λ d over has rank is_ranked idle.
    let u : WalkTables = tables_of c.args.walk.now in
    let a : WalkTables = tables_of c.note_claims.new.walk in
    let b : WalkTables = tables_of c.note_claims-2.new.walk in
    let e : WalkTables = tables_of c.note_processes.new.walk in
    let v : WalkTables = tables_of c.note_tasks.new.walk in
    let x : Conditions = c.args.conditions in
    let goals = c.in_ok-note_claims.ensures d over idle in
    let fairs = c.in_ok-note_claims-2.ensures d over goals.idle in
    let processes = c.in_ok-note_processes.ensures d over rank is_ranked fairs.idle in
    let tasks = c.in_ok-note_tasks.ensures d over rank is_ranked processes.idle in
    let g : List Atom = flat_map (named_atoms d (λ t. t.goals)) x.goals.now in
    let f : List Atom = flat_map (named_atoms d (λ t. t.fairs)) x.fairs.now in
    let p : List Atom = flat_map (process_atoms d) x.processes.now in
    let t : List Atom = flat_map (task_atoms d) x.tasks.now in
    subst (HasWalked d u v)
    (λ i. (claims x d has i ++ flat_map (process_atoms d) (sym has.processes i))
    ++ flat_map (task_atoms d) (sym has.tasks i))
    (walked-then d u e v ((g ++ f) ++ p) t
    (walked-then d u b e (g ++ f) p (walked-then d u a b g f goals fairs) processes) tasks)

pub returns-clause-first : goal.returns-clause-first
returns-clause-first c = λ d over has idle.
    let u : WalkTables = tables_of c.args.walk.now in
    let a : WalkTables = tables_of c.note_claims.new.walk in
    let b : WalkTables = tables_of c.note_claims-2.new.walk in
    let x : Conditions = c.args.conditions in
    let goals = c.in_ok-note_claims.ensures d over idle in
    let fairs = c.in_ok-note_claims-2.ensures d over goals.idle in
    let g : List Atom = flat_map (named_atoms d (λ t. t.goals)) x.goals.now in
    let f : List Atom = flat_map (named_atoms d (λ t. t.fairs)) x.fairs.now in
    let walked : HasWalked d u b (g ++ f) = walked-then d u a b g f goals fairs in
    c.len-first.ensures.len ∙ sym (length-map b.pool.atoms (λ (e : ℕ × AtomAt). atom_of e.1))
    ∙ ap length walked.are
    ∙ ap (λ (atoms : List Atom). length (with_atoms d (noted_atoms u.pool) atoms)) (claims x d has)
