use Rattle.std.proofs.Common.{true, false, sym, subst, ◌∙◌, arith}
use Rattle.std.proofs.lemmas.Result.{on_err_weaker, on_ok_weaker}
use Rattle.tm_dd.proofs.CallerLaws.{Extends-trans}
use Rattle.tm_ddops.specs.Choice.{IsChoice, IsOpen}
use Rattle.tm_ddops.proofs.Choices.{KnowsChoice-Extends, IsChoice-Extends, choice_level-Extends}
use Rattle.tm_ddops.proofs.Walks.{NotesOnlyMet-below, NotesOnlyMet-trans, NotesOnlyMet-Extends, IsUnnoted-below, child_known, child_falls, child_later, child_falls_later, met_twice, still_absent_twice, none_from_copied, on_err}
use Rattle.tm_ddops.proofs.walk.+choose.Goals as goal

pub returns-in-Some-get-clause-answer : goal.returns-in-Some-get-clause-answer
returns-in-Some-get-clause-answer g t c =
    c.requires.notes c.args.choice c.in-Some-get.known.now (sym c.in-Some-get.ensures.value)

pub choose-requires : goal.choose-requires
choose-requires g t c κs within =
    let s = c.args.store.now in
    let k = c.args.choice in
    let open_ : IsOpen k = c.in_default.ensures.open in
    let down = child_falls s c.requires.reduced k c.cofactors.result.0 false c.requires.known open_
    c.cofactors.ensures.low in (
      omega (arith, down, c.decreases),
      (
        within,
        (
          c.requires.reduced,
          (
            child_known s c.requires.reduced k c.cofactors.result.0 false c.requires.known open_
                c.cofactors.ensures.low,
            c.requires.notes,
          ),
        ),
      ),
    )

pub returns-in_err-lo-clause-met : goal.returns-in_err-lo-clause-met
returns-in_err-lo-clause-met g t c =
    let s = c.args.store.now in
    let k = c.args.choice in
    let open_ : IsOpen k = c.in_default.ensures.open in
    let low = child_later s c.requires.reduced k c.cofactors.result.0 false c.requires.known open_
    c.cofactors.ensures.low c.choose.new.store c.choose.ensures.extends in
    NotesOnlyMet-below c.choose.new.store k c.cofactors.result.0 false c.args.memo.now c.choose.new.memo open_ low
    c.choose.ensures.met

pub returns-in_err-lo-clause-unnoted : goal.returns-in_err-lo-clause-unnoted
returns-in_err-lo-clause-unnoted g t c =
    let s = c.args.store.now in
    let k = c.args.choice in
    let open_ : IsOpen k = c.in_default.ensures.open in
    let low = child_later s c.requires.reduced k c.cofactors.result.0 false c.requires.known open_
    c.cofactors.ensures.low c.choose.new.store c.choose.ensures.extends in
    on_err c.from_residual.result
    (IsUnnoted-below c.choose.new.store k c.cofactors.result.0 false c.choose.new.memo open_ low
    c.in_err-lo.ensures.unnoted)

pub choose-requires-2 : goal.choose-requires-2
choose-requires-2 g t c κs within =
    let s = c.args.store.now in
    let k = c.args.choice in
    let open_ : IsOpen k = c.in_default.ensures.open in
    let high = c.cofactors.ensures.high in
    let t1 = c.choose.new.store in
    let e = c.choose.ensures.extends in
    let down = child_falls_later s c.requires.reduced k c.cofactors.result.1 true c.requires.known open_ high t1 e in (
      omega (arith, down, c.decreases),
      (
        within,
        (
          c.choose.ensures.reduced,
          (
            KnowsChoice-Extends s t1 e c.cofactors.result.1
                (child_known s c.requires.reduced k c.cofactors.result.1 true c.requires.known open_ high),
            c.choose.ensures.notes,
          ),
        ),
      ),
    )

pub returns-in_err-hi-clause-met : goal.returns-in_err-hi-clause-met
returns-in_err-hi-clause-met g t c =
    let s = c.args.store.now in
    let k = c.args.choice in
    let open_ : IsOpen k = c.in_default.ensures.open in
    met_twice s c.requires.reduced k c.requires.known open_ c.choose.new.store c.choose.ensures.reduced
    c.choose.ensures.extends c.choose-2.new.store c.choose-2.ensures.reduced c.choose-2.ensures.extends
    c.cofactors.result.0 c.cofactors.result.1 c.cofactors.ensures.low c.cofactors.ensures.high
    c.args.memo.now c.choose.new.memo c.choose-2.new.memo c.choose.ensures.met c.choose-2.ensures.met

pub returns-in_err-hi-clause-unnoted : goal.returns-in_err-hi-clause-unnoted
returns-in_err-hi-clause-unnoted g t c =
    let s = c.args.store.now in
    let k = c.args.choice in
    let open_ : IsOpen k = c.in_default.ensures.open in
    let e = Extends-trans _ _ _ c.choose.ensures.extends c.choose-2.ensures.extends in
    let high = child_later s c.requires.reduced k c.cofactors.result.1 true c.requires.known open_
    c.cofactors.ensures.high c.choose-2.new.store e in
    on_err c.from_residual-in_err-hi.result
    (IsUnnoted-below c.choose-2.new.store k c.cofactors.result.1 true c.choose-2.new.memo open_ high
    c.in_err-hi.ensures.unnoted)

pub join-requires-clause-absent : goal.join-requires-clause-absent
join-requires-clause-absent g t c =
    let s = c.args.store.now in
    let k = c.args.choice in
    let open_ : IsOpen k = c.in_default.ensures.open in
    still_absent_twice s c.requires.reduced k c.requires.known open_ c.choose.new.store c.choose.ensures.reduced
    c.choose.ensures.extends c.choose-2.new.store c.choose-2.ensures.reduced c.choose-2.ensures.extends
    c.cofactors.result.0 c.cofactors.result.1 c.cofactors.ensures.low c.cofactors.ensures.high
    c.args.memo.now c.choose.new.memo c.choose-2.new.memo c.choose.ensures.met c.choose-2.ensures.met
    (none_from_copied c.in_default-get.is c.get.ensures.value)

pub join-requires-clause-level : goal.join-requires-clause-level
join-requires-clause-level g t c =
    c.level-level.ensures.value
    ∙ sym (choice_level-Extends c.args.store.now c.choose-2.new.store
    (Extends-trans _ _ _ c.choose.ensures.extends c.choose-2.ensures.extends) c.args.choice c.requires.known)

pub join-requires-clause-lo : goal.join-requires-clause-lo
join-requires-clause-lo g t c =
    let s = c.args.store.now in
    let k = c.args.choice in
    let open_ : IsOpen k = c.in_default.ensures.open in
    let e = Extends-trans _ _ _ c.choose.ensures.extends c.choose-2.ensures.extends in
    let low = child_later s c.requires.reduced k c.cofactors.result.0 false c.requires.known open_
    c.cofactors.ensures.low c.choose-2.new.store e in
    subst (λ d. IsChoice c.choose-2.new.store d c.in_ok-lo.lo) low
    (IsChoice-Extends c.choose.new.store c.choose-2.new.store c.choose-2.ensures.extends c.cofactors.result.0
    c.in_ok-lo.lo c.in_ok-lo.ensures.answer)

pub returns-clause-extends : goal.returns-clause-extends
returns-clause-extends g t c =
    Extends-trans _ _ _ (Extends-trans _ _ _ c.choose.ensures.extends c.choose-2.ensures.extends) c.join.ensures.extends

pub returns-clause-met : goal.returns-clause-met
returns-clause-met g t c =
    let s = c.args.store.now in
    let k = c.args.choice in
    let open_ : IsOpen k = c.in_default.ensures.open in
    let u = c.choose-2.new.store in
    let whole = Extends-trans _ _ _ c.choose.ensures.extends c.choose-2.ensures.extends in
    NotesOnlyMet-trans c.join.new.store k c.args.memo.now c.choose-2.new.memo c.join.new.memo
    (NotesOnlyMet-Extends u c.join.new.store c.choose-2.ensures.reduced c.join.ensures.extends k c.args.memo.now
    c.choose-2.new.memo (KnowsChoice-Extends s u whole k c.requires.known)
    (met_twice s c.requires.reduced k c.requires.known open_ c.choose.new.store c.choose.ensures.reduced
    c.choose.ensures.extends u c.choose-2.ensures.reduced c.choose-2.ensures.extends
    c.cofactors.result.0 c.cofactors.result.1 c.cofactors.ensures.low c.cofactors.ensures.high
    c.args.memo.now c.choose.new.memo c.choose-2.new.memo c.choose.ensures.met c.choose-2.ensures.met))
    c.join.ensures.met

pub returns-in_err-hi-clause-extends : goal.returns-in_err-hi-clause-extends
returns-in_err-hi-clause-extends g t c = Extends-trans _ _ _ c.choose.ensures.extends c.choose-2.ensures.extends

pub join-requires-clause-hi : goal.join-requires-clause-hi
join-requires-clause-hi g t c =
    let s = c.args.store.now in
    let k = c.args.choice in
    let open_ : IsOpen k = c.in_default.ensures.open in
    let e = Extends-trans _ _ _ c.choose.ensures.extends c.choose-2.ensures.extends in
    let high = child_later s c.requires.reduced k c.cofactors.result.1 true c.requires.known open_
    c.cofactors.ensures.high c.choose-2.new.store e in
    subst (λ d. IsChoice c.choose-2.new.store d c.in_ok-hi.hi) high c.in_ok-hi.ensures.answer

pub returns-clause-refused_requests : goal.returns-clause-refused_requests
returns-clause-refused_requests g t c =
    on_err_weaker c.join.result (λ h. omega (arith, h, c.in_ok-lo.ensures.requests, c.in_ok-hi.ensures.requests))
    c.join.ensures.refused_requests

pub returns-clause-refused_nodes : goal.returns-clause-refused_nodes
returns-clause-refused_nodes g t c =
    on_err_weaker c.join.result (λ h. omega (arith, h, c.in_ok-lo.ensures.nodes, c.in_ok-hi.ensures.nodes))
    c.join.ensures.refused_nodes

pub returns-clause-requests : goal.returns-clause-requests
returns-clause-requests g t c =
    on_ok_weaker c.join.result (λ h. omega (arith, h, c.in_ok-lo.ensures.requests, c.in_ok-hi.ensures.requests))
    c.join.ensures.requests

pub returns-clause-nodes : goal.returns-clause-nodes
returns-clause-nodes g t c =
    on_ok_weaker c.join.result (λ h. omega (arith, h, c.in_ok-lo.ensures.nodes, c.in_ok-hi.ensures.nodes))
    c.join.ensures.nodes
