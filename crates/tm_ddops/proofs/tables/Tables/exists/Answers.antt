use Rattle.std.proofs.Common.{refl, length, get_or, ap, sym, subst, ◌∙◌}
use Rattle.std.proofs.lemmas.Result.{IfOk-weaker}
use Rattle.tm_ddops.specs.declared.plans.Quantifier.{Quantifier}
use Rattle.tm_ddops.specs.Changed.{IsChanged, IsDepth, KnowsParts, change_at, change_of}
use Rattle.tm_ddops.specs.Inner.Plans.{IsPlan, quantified}
use Rattle.tm_ddops.specs.Inner.Visited.{AreChanged}
use Rattle.tm_ddops.proofs.ChangeLists.{knows_no_part}
use Rattle.tm_ddops.proofs.Changing.{changed_constant}
use Rattle.tm_ddops.proofs.TableLemmas.{AreQuantifiers-Extends, AreSubstitutions-Extends, plan_answer, plan_depth, plan_found, plan_parts, plan_visits}
use Rattle.tm_ddops.proofs.tables.Tables.exists.Goals as goal
use Rattle.tm_ddops.proofs.tables.Tables.exists.Goals.{After-deref}

-- the plan is that of the levels
plan : (c : After-deref) → IsPlan c.args.store.now c.quantifier.new.self.changes.keys (quantified c.args.levels.now)
    c.index.result.now.plan
plan c =
    let q : Quantifier = c.index.result.now in
    let there = c.in_ok-place.ensures.there in
    let lists = c.quantifier.new.self.changes.keys in
    let kept = c.quantifier.new.self.quantifiers.items in
    subst (λ (k : Quantifier). IsPlan c.args.store.now lists (quantified c.args.levels.now) k.plan)
    (sym c.index.ensures)
    (subst (λ l. IsPlan c.args.store.now lists (quantified l) (get_or kept c.in_ok-place.place q).plan) (there.same q)
    (c.quantifier.ensures.tables.quantifiers c.in_ok-place.place q there.within))

pub returns-then-is_constant-clause-answer : goal.returns-then-is_constant-clause-answer
returns-then-is_constant-clause-answer c =
    changed_constant c.args.store.now c.requires.reduced (change_of (quantified c.args.levels.now)) c.args.f
    (c.if-is_constant.ensures.0 refl) c.requires.known (knows_no_part c.args.store.now c.args.levels.now)

pub rewrite-requires-clause-changes : goal.rewrite-requires-clause-changes
rewrite-requires-clause-changes c =
    ap length c.deref.ensures.value ∙ (plan (goal.at.rewrite-requires-clause-changes c).After-deref).count

pub rewrite-requires-clause-depth : goal.rewrite-requires-clause-depth
rewrite-requires-clause-depth c =
    let p = c.index.result.now.plan in
    subst (λ xs. IsDepth c.args.store.now (change_at xs) p.depth) (sym c.deref.ensures.value)
    (plan_depth c.args.store.now c.quantifier.new.self.changes.keys (quantified c.args.levels.now) p
    (plan (goal.at.rewrite-requires-clause-depth c).After-deref))

pub rewrite-requires-clause-parts : goal.rewrite-requires-clause-parts
rewrite-requires-clause-parts c =
    let p = c.index.result.now.plan in
    subst (λ xs. KnowsParts c.args.store.now (change_at xs)) (sym c.deref.ensures.value)
    (plan_parts c.args.store.now c.quantifier.new.self.changes.keys (quantified c.args.levels.now) p
    (plan (goal.at.rewrite-requires-clause-parts c).After-deref) (knows_no_part c.args.store.now c.args.levels.now))

pub rewrite-requires-clause-found : goal.rewrite-requires-clause-found
rewrite-requires-clause-found c =
    let p = c.index.result.now.plan in
    let found = c.quantifier.new.self.walks.found in
    subst (λ xs. AreChanged c.args.store.now (change_at xs) p.number found) (sym c.deref.ensures.value)
    (plan_found c.args.store.now c.quantifier.new.self.changes.keys (quantified c.args.levels.now) p
    (plan (goal.at.rewrite-requires-clause-found c).After-deref) found c.quantifier.ensures.tables.visits)

pub returns-clause-tables : goal.returns-clause-tables
returns-clause-tables c =
    let s = c.args.store.now in
    let t = c.rewrite.new.store in
    let e = c.rewrite.ensures.extends in
    let made = c.quantifier.new.self in
    let p = c.index.result.now.plan in
    record {
      choices = c.rewrite.ensures.choices;
      visits = plan_visits s made.changes.keys (quantified c.args.levels.now) p
          (plan (goal.at.returns-clause-tables c).After-deref) t e made.walks.found c.rewrite.new.self.found
          c.quantifier.ensures.tables.visits
          (subst (λ xs. AreChanged t (change_at xs) p.number c.rewrite.new.self.found) c.deref.ensures.value
          c.rewrite.ensures.found)
          c.rewrite.ensures.others;
      quantifiers = AreQuantifiers-Extends s t e made.changes.keys made.quantifiers.items
          c.quantifier.ensures.tables.quantifiers;
      substitutions = AreSubstitutions-Extends s t e made.changes.keys made.substitutions.items
          c.quantifier.ensures.tables.substitutions;
    }

pub returns-clause-answer : goal.returns-clause-answer
returns-clause-answer c =
    let t = c.rewrite.new.store in
    IfOk-weaker c.rewrite.result _ _
    (λ id x. plan_answer c.args.store.now c.quantifier.new.self.changes.keys (quantified c.args.levels.now)
    c.index.result.now.plan (plan (goal.at.returns-clause-answer c).After-deref) t c.rewrite.ensures.extends
    c.args.f id (subst (λ xs. IsChanged t (change_at xs) c.args.f id) c.deref.ensures.value x))
    c.rewrite.ensures.answer
