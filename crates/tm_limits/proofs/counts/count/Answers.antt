use Rattle.std.proofs.Common.{◌≡◌, sym, ap, ◌∙◌, subst}
use Rattle.tm_syntax.specs.declared.fault.Quantity.{Quantity}
use Rattle.tm_syntax.specs.declared.fault.Quantity.TheVariants.{Processes, State}
use Rattle.tm_syntax.specs.Counts.Instances.{count_processes}
use Rattle.tm_syntax.specs.Tree.View.{spec_tree}
use Rattle.tm_limits.specs.Amount.{capped}
use Rattle.tm_limits.specs.Shares.{all_shares, whole_count}
use Rattle.tm_limits.proofs.InstanceShares.{count_is_whole}
use Rattle.tm_limits.proofs.counts.count.Goals as goal

pub returns-in_ok-processes-in-State : goal.returns-in_ok-processes-in-State
returns-in_ok-processes-in-State c =
    let spec = spec_tree c.args.scopes.now in
    subst (λ (q : Quantity). c.with_last_bits.result ≡ capped (whole_count spec q)) (sym c.in-State.is)
    (c.with_last_bits.ensures (all_shares spec State) (count_processes spec)
    (c.in_ok-total.ensures ∙ ap (λ (q : Quantity). capped (all_shares spec q)) c.in-State.is)
    (c.in_ok-processes-in-State.ensures ∙ ap capped (sym (count_is_whole spec Processes))))
