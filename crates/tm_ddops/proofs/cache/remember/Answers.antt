use Rattle.std.proofs.Common.{◌≡◌, ◌≢◌, ◌⊎◌, AllPairs, Contains, length, sym, subst}
use Rattle.tm_ddops.specs.Operation.{operation_eq}
use Rattle.tm_ddops.proofs.CacheLemmas.{put-there, put-only, put-kept, lookup_absent, once_from_valid}
use Rattle.tm_ddops.proofs.cache.remember.Goals as goal

pub returns-clause-there : goal.returns-clause-there
returns-clause-there c =
    let absent = lookup_absent c.args.cache.now.entries c.args.operation c.requires.absent in
    subst (λ d. Contains d.entries (c.args.operation, c.args.id)) (sym c.in_ok-put.ensures.entries)
    (put-there operation_eq c.args.cache.now c.args.operation c.args.id absent)

pub returns-clause-kept : goal.returns-clause-kept
returns-clause-kept c e h =
    let absent = lookup_absent c.args.cache.now.entries c.args.operation c.requires.absent in
    let valid = c.len.ensures.valid in
    subst (λ d. Contains d.entries e ⊎ (length d.entries ≡ d.cap)) (sym c.in_ok-put.ensures.entries)
    (put-kept operation_eq c.args.cache.now c.args.operation c.args.id absent valid.1 valid.2 e h)

pub returns-clause-only : goal.returns-clause-only
returns-clause-only c e h =
    let absent = lookup_absent c.args.cache.now.entries c.args.operation c.requires.absent in
    put-only operation_eq c.args.cache.now c.args.operation c.args.id absent e
    (subst (λ d. Contains d.entries e) c.in_ok-put.ensures.entries h)

pub returns-in_err-put-clause-once : goal.returns-in_err-put-clause-once
returns-in_err-put-clause-once c =
    subst (λ d. AllPairs (λ a b. a.0 ≢ b.0) d.entries) (sym c.in_err-put.ensures.err)
    (once_from_valid c.args.cache.now.entries c.len.ensures.valid.0)

pub returns-clause-once : goal.returns-clause-once
returns-clause-once c = once_from_valid c.put.new.self.entries c.len-2.ensures.valid.0
