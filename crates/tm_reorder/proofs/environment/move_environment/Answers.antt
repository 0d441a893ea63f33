use Rattle.std.proofs.Common.{◌≡◌, ℕ, Bool, List, length, refl, sym, ap, ◌∙◌, subst}
use Rattle.std.proofs.lemmas.Result.{IfOk-weaker}
use Rattle.tm_cert.specs.Cert.{EnvData}
use Rattle.tm_cert.specs.Nodes.{ids_of}
use Rattle.tm_dd.specs.declared.node.NodeId.{NodeId}
use Rattle.tm_dd.specs.Reduced.{IsReduced, RanksRise}
use Rattle.tm_dd.specs.Table.{Table}
use Rattle.tm_dd.proofs.CallerLaws.{RanksRise-Extends}
use Rattle.tm_reorder.specs.Inner.Keys.{AreKeyed, environment_keys}
use Rattle.tm_reorder.specs.Inner.Moved.{seen}
use Rattle.tm_reorder.proofs.Wanted.{environment_keys_below}
use Rattle.tm_reorder.proofs.Places.{bits_given, have_given, keyed_given, keys_given, levels_given, right_given}
use Rattle.tm_reorder.proofs.Reordered.{ids_over}
use Rattle.tm_verdict.specs.Fitting.{AreNodes}
use Rattle.tm_reorder.proofs.environment.move_environment.Goals as goal
use Rattle.tm_reorder.proofs.environment.move_environment.Goals.{In_ok-ids, In_ok-keys}

-- the keys are those of the certificate
keys_are : (c : In_ok-keys) → c.in_ok-keys.keys.items ≡ environment_keys c.args.cert.now.levels
keys_are c =
    c.in_ok-keys.ensures
    ∙ ap environment_keys (c.as_slice-2.ensures.value ∙ ap (λ (x : EnvData). x.levels) c.cert.view_is)

-- how the old levels are seen
abbrev see : In_ok-ids → (ℕ → Bool) → ℕ → Bool
see c = seen c.clamped_bits.new.dd.table c.as_slice-4.result.now c.as_slice-5.result.now

-- the diagrams that are read of the manager's store are those of the keys
keyed : (c : In_ok-ids) → c.in_ok-keys.keys.items ≡ environment_keys c.args.cert.now.levels →
    (t : Table) (ids : List NodeId) → t ≡ c.load_sets.new.dd.table → ids ≡ c.in_ok-ids.ids.items →
    AreKeyed t (see c) c.args.cert.now.nodes (environment_keys c.args.cert.now.levels) ids
keyed c right_keys t ids table same =
    keyed_given c.load_sets.new.dd.table t (see c) c.args.cert.now.nodes c.as_slice-3.result.now
    (environment_keys c.args.cert.now.levels) c.as_slice-6.result.now c.in_ok-ids.ids.items ids table
    (c.as_slice-3.ensures.value ∙ ap (λ (x : EnvData). x.nodes) c.cert.view_is)
    (c.as_slice-6.ensures.value ∙ right_keys) same c.in_ok-ids.ensures.loaded

pub clamped_bits-requires-clause-levels : goal.clamped_bits-requires-clause-levels
clamped_bits-requires-clause-levels c =
    levels_given c.args.order.now c.args.cert.now.order c.requires.order c.requires.fits.2.order c.args.cert.now.order
    c.as_slice.result.now refl (c.as_slice.ensures.value ∙ c.in_ok-levels.ensures) c.args.fields.now c.requires.places
    c.args.dd.now.table.levels c.requires.levels

pub clamped_bits-requires-clause-places : goal.clamped_bits-requires-clause-places
clamped_bits-requires-clause-places c =
    have_given c.args.order.now c.args.cert.now.order c.requires.order c.requires.fits.2.order c.args.cert.now.order
    c.as_slice.result.now refl (c.as_slice.ensures.value ∙ c.in_ok-levels.ensures) c.args.fields.now c.requires.places

pub load_sets-requires-clause-nodes : goal.load_sets-requires-clause-nodes
load_sets-requires-clause-nodes c = (
  length c.args.order.now,
  subst (AreNodes (length c.args.order.now))
      (sym (c.as_slice-3.ensures.value ∙ ap (λ (x : EnvData). x.nodes) c.cert.view_is))
      c.requires.fits.2.nodes,
)

pub load_sets-requires-clause-bits : goal.load_sets-requires-clause-bits
load_sets-requires-clause-bits c =
    bits_given c.args.order.now c.args.cert.now.order c.requires.order c.requires.fits.2.order
    c.as_slice-4.result.now c.as_slice.result.now
    (c.as_slice-4.ensures.value ∙ ap (λ (x : EnvData). x.order) c.cert.view_is)
    (c.as_slice.ensures.value ∙ c.in_ok-levels.ensures) c.args.fields.now c.requires.places
    c.clamped_bits.new.dd.table c.in_ok-bits.bits.items c.as_slice-5.result.now c.as_slice-5.ensures.value
    c.in_ok-bits.ensures.clamped

pub load_sets-requires-clause-keys : goal.load_sets-requires-clause-keys
load_sets-requires-clause-keys c =
    keys_given c.args.cert.now.nodes c.as_slice-3.result.now (environment_keys c.args.cert.now.levels)
    c.as_slice-6.result.now (c.as_slice-3.ensures.value ∙ ap (λ (x : EnvData). x.nodes) c.cert.view_is)
    (c.as_slice-6.ensures.value ∙ keys_are (goal.at.load_sets-requires-clause-keys c).In_ok-keys)
    (environment_keys_below c.requires.fits.0 c.requires.fits.1 (ids_of c.args.cert.now.nodes)
    c.args.cert.now.levels c.requires.fits.2.levels)

pub renumber_environment-requires-clause-reduced : goal.renumber_environment-requires-clause-reduced
renumber_environment-requires-clause-reduced c =
    subst IsReduced (sym c.store.ensures.value) c.store.ensures.manager.reduced

pub renumber_environment-requires-clause-levels : goal.renumber_environment-requires-clause-levels
renumber_environment-requires-clause-levels c =
    ap (λ (s : Table). s.levels) c.store.ensures.value ∙ c.load_sets.ensures.extends.same_levels
    ∙ c.clamped_bits.ensures.extends.same_levels ∙ c.requires.levels

pub renumber_environment-requires-clause-ranks : goal.renumber_environment-requires-clause-ranks
renumber_environment-requires-clause-ranks c =
    subst (RanksRise (length c.args.order.now)) (sym c.store.ensures.value)
    (RanksRise-Extends c.clamped_bits.new.dd.table c.load_sets.new.dd.table c.load_sets.ensures.extends
    (length c.args.order.now)
    (RanksRise-Extends c.args.dd.now.table c.clamped_bits.new.dd.table c.clamped_bits.ensures.extends
    (length c.args.order.now) c.requires.ranks))

pub renumber_environment-requires-clause-ids : goal.renumber_environment-requires-clause-ids
renumber_environment-requires-clause-ids c =
    let at = goal.at.renumber_environment-requires-clause-ids c in
    ids_over c.store.result.now (see at.In_ok-ids) c.args.cert.now.nodes (environment_keys c.args.cert.now.levels)
    c.as_slice-7.result.now (subst IsReduced (sym c.store.ensures.value) c.store.ensures.manager.reduced)
    (keyed at.In_ok-ids (keys_are at.In_ok-keys) c.store.result.now c.as_slice-7.result.now c.store.ensures.value
    c.as_slice-7.ensures.value)

pub renumber_environment-requires-clause-count : goal.renumber_environment-requires-clause-count
renumber_environment-requires-clause-count c =
    let at = goal.at.renumber_environment-requires-clause-count c in
    (keyed at.In_ok-ids (keys_are at.In_ok-keys) c.store.result.now c.as_slice-7.result.now c.store.ensures.value
    c.as_slice-7.ensures.value).count

pub returns : goal.returns
returns c =
    let at = goal.at.returns c in
    let right = right_given c.args.order.now c.args.cert.now.order c.requires.order c.requires.fits.2.order
    c.as_slice-4.result.now c.as_slice.result.now
    (c.as_slice-4.ensures.value ∙ ap (λ (x : EnvData). x.order) c.cert.view_is)
    (c.as_slice.ensures.value ∙ c.in_ok-levels.ensures) c.args.fields.now c.requires.places
    c.clamped_bits.new.dd.table c.in_ok-bits.bits.items c.as_slice-5.result.now c.as_slice-5.ensures.value
    c.in_ok-bits.ensures.clamped in
    IfOk-weaker c.renumber_environment.result _ _ (λ moved told. (see at.In_ok-ids, right, told))
    (c.renumber_environment.ensures (see at.In_ok-ids)
    (keyed at.In_ok-ids (keys_are at.In_ok-keys) c.store.result.now c.as_slice-7.result.now c.store.ensures.value
    c.as_slice-7.ensures.value))
