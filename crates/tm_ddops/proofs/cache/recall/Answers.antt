use Rattle.std.proofs.Common.{◌≡◌, false, is_some, Contains, Option, None, Some, refl, sym, ap, subst, ◌∙◌}
use Rattle.std.specs.Map.{lookup}
use Rattle.lru.specs.LruCache.{lru_cache, promoted}
use Rattle.lru.proofs.CallerLemmas.{Contains-promoted}
use Rattle.tm_dd.specs.declared.node.NodeId.{NodeId}
use Rattle.tm_ddops.specs.Operation.{operation_eq}
use Rattle.tm_ddops.proofs.CacheLemmas.{
  Contains-in_promoted,
  lookup_there,
  once_from_valid,
  promoted-none,
  told_from_lookup,
}
use Rattle.tm_ddops.proofs.cache.recall.Goals as goal
use Rattle.tm_ddops.proofs.cache.recall.Goals.{Else-prove-2, then-is_some, else-is_some}

-- what is answered is what the look-up finds
looked_up : (c : Else-prove-2) →
    c.copied-found.result ≡ lookup (operation_eq c.args.operation.now) c.args.cache.now.entries
looked_up c = c.copied-found.ensures ∙ c.peek.ensures

none : (found : Option NodeId) → is_some found ≡ false → found ≡ None
none None h = refl
none (Some id) h = cc

-- the entry stands first afterwards, where it is there
after : (c : Else-prove-2) → c.if-is_some.cache
    ≡ lru_cache (promoted (operation_eq c.args.operation.now) c.args.cache.now.entries) c.args.cache.now.cap
after c = elim c.if-is_some.branch [
  | then-is_some w ↦ w.cache-is ∙ w.promote.ensures.entries
  | else-is_some w ↦
      let missed = none c.copied-found.result (sym c.is_some.ensures ∙ w.if-is_some.false) in
      w.cache-is
      ∙ sym (ap (λ es. lru_cache es c.args.cache.now.cap)
      (promoted-none (operation_eq c.args.operation.now) c.args.cache.now.entries (sym (looked_up c) ∙ missed)))
]

pub returns-clause-found : goal.returns-clause-found
returns-clause-found c id h =
    looked_up c ∙ lookup_there c.args.cache.now.entries c.args.operation.now id c.len.ensures.valid.0 h

pub returns-clause-kept : goal.returns-clause-kept
returns-clause-kept c e h =
    subst (λ d. Contains d.entries e) (sym (after c))
    (Contains-in_promoted (operation_eq c.args.operation.now) c.args.cache.now.entries e h)

pub returns-clause-told : goal.returns-clause-told
returns-clause-told c =
    told_from_lookup c.args.cache.now.entries c.if-is_some.cache.entries c.args.operation.now c.copied-found.result
    (looked_up c)
    (λ e h. subst (λ d. Contains d.entries e) (sym (after c))
    (Contains-in_promoted (operation_eq c.args.operation.now) c.args.cache.now.entries e h))

pub returns-clause-only : goal.returns-clause-only
returns-clause-only c e h =
    Contains-promoted (operation_eq c.args.operation.now) c.args.cache.now.entries e
    (subst (λ d. Contains d.entries e) (after c) h)

pub returns-clause-missed : goal.returns-clause-missed
returns-clause-missed c h =
    after c
    ∙ ap (λ es. lru_cache es c.args.cache.now.cap)
    (promoted-none (operation_eq c.args.operation.now) c.args.cache.now.entries (sym (looked_up c) ∙ h))

pub returns-clause-capacity : goal.returns-clause-capacity
returns-clause-capacity c = ap (λ d. d.cap) (after c)

pub returns-clause-once : goal.returns-clause-once
returns-clause-once c = once_from_valid c.if-is_some.cache.entries c.len-2.ensures.valid.0
