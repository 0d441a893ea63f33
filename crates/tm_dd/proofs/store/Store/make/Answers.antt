use Rattle.std.proofs.Common.{◌≡◌, ℕ, ◌+◌, Bool, true, false, Ok, eqb, if◌then◌else◌, ◌∙◌, sym, ap, subst, refl, arith}
use Rattle.std.proofs.lemmas.Bool.{eqb-true, eqb-false}
use Rattle.tm_dd.specs.declared.node.Node.{Node}
use Rattle.tm_dd.specs.declared.node.NodeId.{NodeId}
use Rattle.tm_dd.specs.NodeId.{number_of, is_marked, position_of}
use Rattle.tm_dd.specs.Reduced.{MeansNode}
use Rattle.tm_dd.specs.Table.{kept, Knows, means}
use Rattle.tm_dd.specs.Unique.{IsEntry, IsKept, IsUniqueTable}
use Rattle.tm_dd.proofs.Canonical.{ids_canonical}
use Rattle.tm_dd.proofs.Made.{IsEntry-marked, IsMade, made, not_found}
use Rattle.tm_dd.proofs.NodeIdLemmas.{same_number}
use Rattle.tm_dd.proofs.Ranks.{deeper_depth}
use Rattle.tm_dd.proofs.Nodes.{marked_id, marked_node, reduced}
use Rattle.tm_dd.proofs.store.Store.make.Given as given
use Rattle.tm_dd.proofs.store.Store.make.Goals as goal

-- ---- equal children

pub returns-then-eq-clause-reduced : goal.returns-then-eq-clause-reduced
returns-then-eq-clause-reduced g c =
    reduced c.args.self.now (subst IsUniqueTable c.self.view_is c.self.invariant.unique)

same_branches : (b x : Bool) → (if b then x else x) ≡ x
same_branches true x = refl
same_branches false x = refl

pub returns-then-eq-clause-found : goal.returns-then-eq-clause-found
returns-then-eq-clause-found g c id known same =
    let s = c.args.self.now in
    let lo = c.args.lo in
    let equal = same_number c.args.hi lo (sym (eqb-true _ _ (sym c.if-eq.ensures))) in
    let e : lo ≡ id = ids_canonical s (subst IsUniqueTable c.self.view_is c.self.invariant.unique) lo id
    c.requires.lo_known known
    (λ v. sym (same_branches (v c.args.level) (means s lo v))
    ∙ ap (λ h. if v c.args.level then means s h v else means s lo v) (sym equal) ∙ sym (same v)) in
    ap Ok e

pub returns-then-eq-clause-deep : goal.returns-then-eq-clause-deep
returns-then-eq-clause-deep g c =
    let unique = subst IsUniqueTable c.self.view_is c.self.invariant.unique in
    let deeper = deeper_depth c.args.self.now unique.ranks c.args.level c.requires.level c.args.lo
    c.requires.lo_deeper in
    omega (arith, deeper)

-- ---- a node to keep

-- the node that is kept is the one that was asked for, under the mark of its `lo`
marked : (level : ℕ) (lo hi lo' hi' : NodeId) (m : Bool) → lo' ≡ marked_id m lo → hi' ≡ marked_id m hi
    → (let n : Node = record { level = level; lo = lo'; hi = hi' } in n)
    ≡ marked_node m (record { level = level; lo = lo; hi = hi })
marked level lo hi lo' hi' m e_lo e_hi = (λ i. record { level = level; lo = e_lo i; hi = e_hi i })

different : (lo hi : NodeId) → false ≡ eqb lo.0 hi.0 → ¬ (lo ≡ hi)
different lo hi e same = eqb-false _ _ (sym e) (ap number_of same)

pub keep-requires : goal.keep-requires
keep-requires g c =
    let s = c.args.self.now in
    let m = c.is_marked-marked.ensures in
    let n : Node = record { level = c.args.level; lo = c.args.lo; hi = c.args.hi } in
    subst (IsEntry s (kept s + 1))
    (ap (λ b. marked_node b n) (sym m)
    ∙ sym (marked c.args.level c.args.lo c.args.hi _ _ _ c.complement_if.ensures.value
    c.complement_if-2.ensures.value))
    (IsEntry-marked s (subst IsUniqueTable c.self.view_is c.self.invariant.unique) c.args.level c.args.lo c.args.hi
    c.requires.level c.requires.lo_known c.requires.hi_known c.requires.lo_deeper c.requires.hi_deeper
    (different c.args.lo c.args.hi c.if-eq.ensures))

pub returns-in_err-position-clause-reduced : goal.returns-in_err-position-clause-reduced
returns-in_err-position-clause-reduced g c = reduced c.keep.new.self c.keep.ensures.unique

-- where the node is not kept, no id has its meaning
no_such_id : (g : given.Over) (c : goal.After-from_residual g) (id : NodeId) → Knows c.args.self.now id
    → ¬ MeansNode c.args.self.now id (record { level = c.args.level; lo = c.args.lo; hi = c.args.hi })
no_such_id g c id known same =
    let s = c.args.self.now in
    let n : Node = record { level = c.args.level; lo = c.args.lo; hi = c.args.hi } in
    let m = c.is_marked-marked.ensures in
    let kept_node = marked c.args.level c.args.lo c.args.hi _ _ _ c.complement_if.ensures.value
    c.complement_if-2.ensures.value ∙ ap (λ b. marked_node b n) m in
    let ok = IsEntry-marked s (subst IsUniqueTable c.self.view_is c.self.invariant.unique) c.args.level c.args.lo
    c.args.hi c.requires.level c.requires.lo_known c.requires.hi_known c.requires.lo_deeper c.requires.hi_deeper
    (different c.args.lo c.args.hi c.if-eq.ensures) in
    not_found s (subst IsUniqueTable c.self.view_is c.self.invariant.unique) n (is_marked c.args.lo) c.requires.level
    c.requires.lo_known c.requires.hi_known ok
    (λ p within here. c.in_err-position.ensures.absent p within (here ∙ sym kept_node)) id known same

pub returns-in_err-position-clause-found : goal.returns-in_err-position-clause-found
returns-in_err-position-clause-found g c id known same = absurd (no_such_id g c id known same)

pub returns-in_err-position-clause-unchanged : goal.returns-in_err-position-clause-unchanged
returns-in_err-position-clause-unchanged g c id known same = absurd (no_such_id g c id known same)

-- ---- the node is kept

pub returns-clause-reduced : goal.returns-clause-reduced
returns-clause-reduced g c = reduced c.keep.new.self c.keep.ensures.unique

made_here : (g : given.Over) (c : goal.After-complement_if-3 g)
    → IsMade c.args.self.now c.keep.new.self (record { level = c.args.level; lo = c.args.lo; hi = c.args.hi })
    c.complement_if-3.result
made_here g c =
    let old = c.args.self.now in
    let new = c.keep.new.self in
    let n : Node = record { level = c.args.level; lo = c.args.lo; hi = c.args.hi } in
    let held : Node = record { level = c.args.level; lo = c.complement_if.result; hi = c.complement_if-2.result } in
    let is_kept = subst (λ k. IsKept old new k (position_of c.at.result))
    (marked c.args.level c.args.lo c.args.hi _ _ _ c.complement_if.ensures.value c.complement_if-2.ensures.value)
    (subst (IsKept old new held) (sym c.at.ensures.position) c.in_ok-position.ensures.kept) in
    subst (IsMade old new n) (sym c.complement_if-3.ensures.value)
    (made old new c.keep.ensures.unique n c.is_marked-marked.result c.at.result c.at.ensures.unmarked c.requires.level
    c.requires.lo_known c.requires.hi_known is_kept)

pub returns-clause-extends : goal.returns-clause-extends
returns-clause-extends g c = (made_here g c).extends

pub returns-clause-adds : goal.returns-clause-adds
returns-clause-adds g c = (made_here g c).adds

pub returns-clause-known : goal.returns-clause-known
returns-clause-known g c = (made_here g c).known

pub returns-clause-deep : goal.returns-clause-deep
returns-clause-deep g c = (made_here g c).deep

pub returns-clause-meaning : goal.returns-clause-meaning
returns-clause-meaning g c = (made_here g c).meaning

pub returns-clause-node : goal.returns-clause-node
returns-clause-node g c differ = (made_here g c).node

pub returns-clause-found : goal.returns-clause-found
returns-clause-found g c id known same = ap Ok ((made_here g c).found id known same)

pub returns-clause-unchanged : goal.returns-clause-unchanged
returns-clause-unchanged g c = (made_here g c).unchanged

pub returns-clause-added : goal.returns-clause-added
returns-clause-added g c = (made_here g c).added
