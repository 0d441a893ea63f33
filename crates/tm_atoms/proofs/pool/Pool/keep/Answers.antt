use Rattle.std.proofs.Common.{◌≡◌, Bool, true, false, not, Option, None, Some, Bor, is_some, refl, sym, ap, ◌∙◌, true≢false}
use Rattle.std.specs.Prelude.{nat_eq, ◌&&◌}
use Rattle.std.specs.Option.{option_copied}
use Rattle.indexmap.proofs.CallerLemmas.{insert_entry-new}
use Rattle.indexmap.specs.IndexMap.{get_by}
use Rattle.tm_atoms.specs.declared.atom.AtomAt.{AtomAt}
use Rattle.tm_atoms.specs.Inner.Pools.{pool_of}
use Rattle.tm_atoms.proofs.Pools.{added-new, added-nothing}
use Rattle.tm_atoms.proofs.pool.Pool.keep.Goals as goal
use Rattle.tm_atoms.proofs.pool.Pool.keep.Goals.{else-numbered-via-then-numbered+else-is_none, else-numbered-via-else-numbered}

-- what a reference leads to is there exactly where the reference is
copied : (o : Option (Bor AtomAt)) (p : Option AtomAt) (b : Bool) → option_copied o ≡ p → is_some o ≡ b →
    is_some p ≡ b
copied None p b value is = ap is_some (sym value) ∙ is
copied (Some x) p b value is = ap is_some (sym value) ∙ is

none : {X : Type 0} (o : Option X) → is_some o ≡ false → o ≡ None
none None e = refl
none (Some x) e = absurd (true≢false e)

pub returns-in_ok-insert : goal.returns-in_ok-insert
returns-in_ok-insert c = λ d sound is.
    let absent = copied c.get.result _ false c.get.ensures.value c.if-is_none.ensures in
    added-new d (pool_of c.args.self.now) c.insert.new.self.entries c.args.numbered c.args.atom sound is
    c.if-numbered.true absent
    (c.in_ok-insert.ensures.entries
    ∙ insert_entry-new nat_eq c.args.self.now.atoms c.args.numbered.number c.args.atom (none _ absent))

pub returns-else-numbered : goal.returns-else-numbered
returns-else-numbered c = λ d sound is.
    let p = pool_of c.args.self.now in
    elim c.else-numbered.branch [
      | else-numbered-via-then-numbered+else-is_none w ↦
          added-nothing d p c.args.numbered c.args.atom sound is
          (λ i. w.if-numbered.true i && not (copied w.get.result _ true w.get.ensures.value w.if-is_none.ensures i))
      | else-numbered-via-else-numbered w ↦
          added-nothing d p c.args.numbered c.args.atom sound is
          (ap (λ b. b && not (is_some (get_by (nat_eq c.args.numbered.number) c.args.self.now.atoms)))
          w.if-numbered.false)
    ]
