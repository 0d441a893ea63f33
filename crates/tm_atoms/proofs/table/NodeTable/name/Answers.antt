use Rattle.std.proofs.Common.{◌≡◌, ℕ, Bor, List, Some, map, refl, sym, ap, ◌∙◌}
use Rattle.std.specs.Prelude.{nat_eq}
use Rattle.std.specs.Cmp.Lexicographic.{pointwise}
use Rattle.indexmap.specs.IndexSet.{insert_key}
use Rattle.tm_atoms.specs.Inner.Numbers.{NumberTables}
use Rattle.tm_atoms.proofs.SameAtoms.{bytes-itself, same_bytes}
use Rattle.tm_atoms.proofs.Tables.{at-mapped, grown-name, map-inserted, sound-name}
use Rattle.tm_atoms.proofs.table.NodeTable.name.Goals as goal
use Rattle.tm_atoms.proofs.table.NodeTable.name.Goals.{In_ok-number}

-- the names after a name is inserted
inserted : (c : In_ok-number) → map (λ (n : Bor (List ℕ)). n.now) c.insert_full.new.self.keys
    ≡ insert_key (pointwise nat_eq) (map (λ (n : Bor (List ℕ)). n.now) c.self.inside.names.keys) c.args.name.now
inserted c =
    ap (map (λ (n : Bor (List ℕ)). n.now)) c.in_ok-number.ensures.keys
    ∙ map-inserted (λ (n : Bor (List ℕ)). n.now) _ (pointwise nat_eq) (λ a b. refl) c.self.inside.names.keys c.args.name

pub invariant_of-self-2 : goal.invariant_of-self-2
invariant_of-self-2 c =
    sound-name (pointwise nat_eq) _ _ c.args.name.now (inserted c) refl (bytes-itself c.args.name.now) c.self.invariant

pub returns-clause-number : goal.returns-clause-number
returns-clause-number c =
    let kept = c.in_ok-number.ensures.stored in
    at-mapped (λ (n : Bor (List ℕ)). n.now) c.insert_full.new.self.keys c.in_ok-number.number kept.0 kept.1
    ∙ ap Some (sym (same_bytes c.args.name.now kept.0.now kept.2))

pub returns-clause-grown : goal.returns-clause-grown
returns-clause-grown c =
    grown-name (pointwise nat_eq) c.args.self.now _ c.args.name.now
    (inserted c
    ∙ ap (λ (t : NumberTables). insert_key (pointwise nat_eq) t.names c.args.name.now) c.self.view_is)
    (ap (λ (t : NumberTables). t.nodes) c.self.view_is)

pub returns-clause-sound : goal.returns-clause-sound
returns-clause-sound c = invariant_of-self-2 c
