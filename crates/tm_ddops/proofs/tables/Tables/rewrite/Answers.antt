use Rattle.std.proofs.Common.{length, get_or, ap, sym, subst, ◌∙◌}
use Rattle.std.proofs.lemmas.Result.{IfOk-weaker}
use Rattle.tm_ddops.specs.declared.plans.Substitution.{Substitution}
use Rattle.tm_ddops.specs.Changed.{IsChanged, IsDepth, KnowsParts, change_at}
use Rattle.tm_ddops.specs.Inner.Plans.{IsPlan, substituting}
use Rattle.tm_ddops.specs.Inner.Visited.{AreChanged}
use Rattle.tm_ddops.proofs.TableLemmas.{AreQuantifiers-Extends, AreSubstitutions-Extends, plan_answer, plan_depth, plan_found, plan_parts, plan_visits}
use Rattle.tm_ddops.proofs.tables.Tables.rewrite.Goals as goal
use Rattle.tm_ddops.proofs.tables.Tables.rewrite.Goals.{After-deref}

-- the plan is that of the parts
plan : (c : After-deref) → IsPlan c.args.store.now c.substitution.new.self.changes.keys (substituting c.args.parts.now)
    c.index.result.now.plan
plan c =
    let q : Substitution = c.index.result.now in
    let there = c.in_ok-place.ensures.there in
    let lists = c.substitution.new.self.changes.keys in
    let kept = c.substitution.new.self.substitutions.items in
    subst (λ (k : Substitution). IsPlan c.args.store.now lists (substituting c.args.parts.now) k.plan)
    (sym c.index.ensures)
    (subst (λ l. IsPlan c.args.store.now lists (substituting l) (get_or kept c.in_ok-place.place q).plan) (there.same q)
    (c.substitution.ensures.tables.substitutions c.in_ok-place.place q there.within))

pub rewrite-requires-clause-changes : goal.rewrite-requires-clause-changes
rewrite-requires-clause-changes c =
    ap length c.deref.ensures.value ∙ (plan (goal.at.rewrite-requires-clause-changes c).After-deref).count

pub rewrite-requires-clause-depth : goal.rewrite-requires-clause-depth
rewrite-requires-clause-depth c =
    let p = c.index.result.now.plan in
    subst (λ xs. IsDepth c.args.store.now (change_at xs) p.depth) (sym c.deref.ensures.value)
    (plan_depth c.args.store.now c.substitution.new.self.changes.keys (substituting c.args.parts.now) p
    (plan (goal.at.rewrite-requires-clause-depth c).After-deref))

pub rewrite-requires-clause-parts : goal.rewrite-requires-clause-parts
rewrite-requires-clause-parts c =
    let p = c.index.result.now.plan in
    subst (λ xs. KnowsParts c.args.store.now (change_at xs)) (sym c.deref.ensures.value)
    (plan_parts c.args.store.now c.substitution.new.self.changes.keys (substituting c.args.parts.now) p
    (plan (goal.at.rewrite-requires-clause-parts c).After-deref) c.requires.parts)

pub rewrite-requires-clause-found : goal.rewrite-requires-clause-found
rewrite-requires-clause-found c =
    let p = c.index.result.now.plan in
    let found = c.substitution.new.self.walks.found in
    subst (λ xs. AreChanged c.args.store.now (change_at xs) p.number found) (sym c.deref.ensures.value)
    (plan_found c.args.store.now c.substitution.new.self.changes.keys (substituting c.args.parts.now) p
    (plan (goal.at.rewrite-requires-clause-found c).After-deref) found c.substitution.ensures.tables.visits)

pub returns-clause-tables : goal.returns-clause-tables
returns-clause-tables c =
    let s = c.args.store.now in
    let t = c.rewrite.new.store in
    let e = c.rewrite.ensures.extends in
    let made = c.substitution.new.self in
    let p = c.index.result.now.plan in
    record {
      choices = c.rewrite.ensures.choices;
      visits = plan_visits s made.changes.keys (substituting c.args.parts.now) p
          (plan (goal.at.returns-clause-tables c).After-deref) t e made.walks.found c.rewrite.new.self.found
          c.substitution.ensures.tables.visits
          (subst (λ xs. AreChanged t (change_at xs) p.number c.rewrite.new.self.found) c.deref.ensures.value
          c.rewrite.ensures.found)
          c.rewrite.ensures.others;
      quantifiers = AreQuantifiers-Extends s t e made.changes.keys made.quantifiers.items
          c.substitution.ensures.tables.quantifiers;
      substitutions = AreSubstitutions-Extends s t e made.changes.keys made.substitutions.items
          c.substitution.ensures.tables.substitutions;
    }

pub returns-clause-answer : goal.returns-clause-answer
returns-clause-answer c =
    let t = c.rewrite.new.store in
    IfOk-weaker c.rewrite.result _ _
    (λ id x. plan_answer c.args.store.now c.substitution.new.self.changes.keys (substituting c.args.parts.now)
    c.index.result.now.plan (plan (goal.at.returns-clause-answer c).After-deref) t c.rewrite.ensures.extends
    c.args.f id (subst (λ xs. IsChanged t (change_at xs) c.args.f id) c.deref.ensures.value x))
    c.rewrite.ensures.answer
