-- Branches: a condition parts the runs, and what is done in each part is joined behind both.
use Rattle.std.proofs.Common.{◌≡◌, ℕ, ◌==◌, Bool, true, false, Option, Some, List, [], ◌∷◌, ◌||◌, slice_get, refl, sym, ap, ◌∙◌, subst, true≢false}
use Rattle.std.specs.Prelude.{not, if◌then◌else◌}
use Rattle.std.proofs.lemmas.Option.{same_Some}
use Rattle.tm_base.specs.declared.place.Place.{Place}
use Rattle.tm_base.specs.Arithmetic.{bit, is_nonzero}
use Rattle.tm_syntax.specs.declared.design.Ty.TheVariants as types
use Rattle.tm_syntax.specs.Tree.{ExprTree}
use Rattle.tm_syntax.specs.Design.{DesignTree}
use Rattle.tm_scope.specs.Cells.{HasCells, ScopedCells, scope_of}
use Rattle.tm_term.specs.declared.term.TermId.{TermId}
use Rattle.tm_term.specs.Table.{Table}
use Rattle.tm_term.specs.Value.{value_of, Extends}
use Rattle.tm_term.proofs.Valued.{Extends-trans}
use Rattle.tm_sem.specs.Run.{Ending, blocked, failed, finished}
use Rattle.tm_sem.specs.Value.{Memory, holds_in, overruns}
use Rattle.tm_flat.specs.BitRun.{followed_by}
use Rattle.tm_flat.specs.Positions.{later}
use Rattle.tm_flat_exprs.specs.Kept.{KeptTerms}
use Rattle.tm_flat_exprs.specs.Made.{Makes}
use Rattle.tm_flat_stmts.specs.declared.branches.Branches.{Branches}
use Rattle.tm_flat_stmts.specs.declared.operands.Operand.{Operand}
use Rattle.tm_flat_stmts.specs.Flows.{Continues, EndTerms, FlowTerms, HasTerm, Leaves, MakesJoinIfThere, Narrows}
use Rattle.tm_flat_stmts.specs.Parted.{Parts}
use Rattle.tm_flat_stmts.specs.Statements.{AsksOne}
use Rattle.tm_flat_stmts.proofs.Asking.{holds, tested_flow}
use Rattle.tm_flat_stmts.proofs.Flowing.{denied_bit, ends_along, flow_along, flow_along_if_there}
use Rattle.tm_flat_stmts.proofs.Leading.{leads_beside, leads_so, leads_then}
use Rattle.tm_flat_stmts.proofs.Leaving.{leaves_asked}
use Rattle.tm_flat_stmts.proofs.Pieces.{is_narrowed, leads_on}
use Rattle.tm_flat_stmts.proofs.Valuing.{behind_operands, operands_position}

position_of : (f g : FlowTerms) → Some g.position ≡ Some f.position → g.position ≡ f.position
position_of f g is = same_Some g.position f.position is

pub parted_so : (s : ScopedCells) (e : ExprTree) (t p a b n : Table) (f first second : FlowTerms)
    (before after : EndTerms) (x : Operand) (fails : TermId) → AsksOne s types.Bool e t p f before after x →
    Makes p a 1 fails (λ u v. bit (value_of u v x.value == 0)) →
    Narrows a b x.flow first (λ u v. is_nonzero (value_of u v x.value)) →
    Narrows b n x.flow second (λ u v. is_nonzero (value_of u v fails)) →
    Parts s e t n f before after (record { first = first; second = second })
parted_so s e t p a b n f first second before after x fails tests denial one two =
    let late : Extends a n = Extends-trans a b n one.grown two.grown in
    let stands = tested_flow s e t p f before after x tests in
    let same = position_of f x.flow (operands_position s (e ∷ []) t p f before x.flow after tests.asks) in
    record {
      table = p;
      flow = x.flow;
      asks = tests.asks;
      grown = Extends-trans p a n denial.grown late;
      sound = two.sound;
      first_flow = flow_along s.tables b n first two.grown
          (is_narrowed s.tables a b x.flow first (λ u v. is_nonzero (value_of u v x.value)) one
          (flow_along s.tables p a x.flow denial.grown stands));
      second_flow = is_narrowed s.tables b n x.flow second (λ u v. is_nonzero (value_of u v fails)) two
          (flow_along s.tables p b x.flow (Extends-trans p a b denial.grown one.grown) stands);
      first_position = one.position ∙ same;
      second_position = two.position ∙ same;
      first_memory = one.memory ∙ tests.asks.memory;
      second_memory = two.memory ∙ tests.asks.memory;
      first = λ d has number u more v inputs ends.
          leads_on s.tables number (λ v m. holds_in d (scope_of s.at) m e) a b x.flow first ends
          (λ u v. is_nonzero (value_of u v x.value)) one
          (λ u more v inputs m on keeps.
          holds s e t p f before after x tests u
          (Extends-trans p a u denial.grown (Extends-trans a b u one.grown more)) v inputs d has m keeps)
          u (Extends-trans b n u two.grown more) v inputs;
      second = λ d has number u more v inputs ends.
          leads_on s.tables number (λ v m. not (holds_in d (scope_of s.at) m e)) b n x.flow second ends
          (λ u v. is_nonzero (value_of u v fails)) two
          (λ u more v inputs m on keeps.
          let later : Extends a u = Extends-trans a n u late more in
          ap is_nonzero (denial.value u later v inputs)
          ∙ denied_bit (value_of u v x.value == 0)
          ∙ ap not (holds s e t p f before after x tests u (Extends-trans p a u denial.grown later) v inputs d has m
          keeps))
          u more v inputs;
    }

-- ---- what is done in each part
first_blocked : (b : Bool) (m : Memory) (first : Memory → Ending) → not b ≡ true →
    followed_by (if b then finished m else blocked) first ≡ blocked
first_blocked true m first is = absurd (true≢false (sym is))
first_blocked false m first is = refl

branch_is : (b : Bool) (m : Memory) (first second : Memory → Ending) →
    (if not b then second m else followed_by (if b then finished m else blocked) first)
    ≡ (if b then first m else second m)
branch_is true m first second = refl
branch_is false m first second = refl

module _ (s : ScopedCells) (e : ExprTree) (t n q r z : Table) (f : FlowTerms) (before after mid end : EndTerms)
    (x : Branches) (parts : Parts s e t n f before after x) (d : DesignTree) (has : HasCells s.tables d)
    (number : Place → List Place → Option ℕ) (first second : List ℕ → Memory → Ending) (to_first to_second : Option ℕ)
    (ga gb g : Option FlowTerms) (one : Continues s.tables number first to_first n q (Some x.first) after ga mid)
    (two : Continues s.tables number second to_second q r (Some x.second) mid gb end)
    (join : MakesJoinIfThere r z ga gb g) where
  last : Extends q z
  last = Extends-trans q r z two.grown join.grown

  inside : Continues s.tables number
      (λ v m. if holds_in d (scope_of s.at) m e then first v m else second v m) (later to_first to_second) parts.table z
      (Some parts.flow) after g end
  inside = record {
    grown = Extends-trans parts.table n z parts.grown (Extends-trans n q z one.grown last);
    sound = join.sound;
    flow = join.flow s.tables (flow_along_if_there s.tables q r ga two.grown one.flow) two.flow;
    ends = ends_along s.tables r z end join.grown two.ends;
    count = two.count ∙ one.count;
    position = join.position ∙ (λ i. later (one.position i) (two.position i));
    leads = λ u more v inputs.
        let later_q : Extends q u = Extends-trans q z u last more in
        let later_r : Extends r u = Extends-trans r z u join.grown more in
        let later_n : Extends n u = Extends-trans n q u one.grown later_q in
        let holds_at : Memory → Bool = λ m. holds_in d (scope_of s.at) m e in
        leads_so s.tables u v number
        (λ m. if not (holds_at m)
        then second v m
        else followed_by (if holds_at m then finished m else blocked) (first v))
        (λ m. if holds_at m then first v m else second v m) (Some parts.flow) g after end
        (λ m. branch_is (holds_at m) m (first v) (second v))
        (leads_beside s.tables u v number
        (λ m. followed_by (if holds_at m then finished m else blocked) (first v)) (second v) (λ m. not (holds_at m))
        (Some parts.flow) (Some x.second) ga gb g after mid end
        (leads_then s.tables u v number (λ m. if holds_at m then finished m else blocked) (first v) (Some parts.flow)
        (Some x.first) ga after after mid (parts.first d has number u later_n v inputs after)
        (one.leads u later_q v inputs))
        (parts.second d has number u later_n v inputs mid) (two.leads u later_r v inputs)
        (join.joins s.tables u more v inputs)
        (λ m is. first_blocked (holds_at m) m (first v) is));
  }

  pub parts_joined : Continues s.tables number
      (λ v m. if overruns d (scope_of s.at) m e || false
      then failed
      else (if holds_in d (scope_of s.at) m e then first v m else second v m)) (later to_first to_second) t z (Some f)
      before g end
  parts_joined =
      behind_operands s (e ∷ []) t parts.table f before parts.flow after parts.asks d has number
      (λ v m. if holds_in d (scope_of s.at) m e then first v m else second v m) (later to_first to_second) z g end
      inside

  -- a state variable stays as it was that neither part writes
  pub parts_leave : (i : ℕ) → Leaves i (Some x.first) after ga mid → Leaves i (Some x.second) mid gb end →
      Leaves i (Some f) before g end
  parts_leave i first second = record {
    flow = λ id has. join.same i id (first.flow id (at_first i id has)) (second.flow id (at_second i id has));
    stops = λ id has are.
        second.stops id (at_second i id has)
        (first.stops id (at_first i id has)
        ((leaves_asked i s (e ∷ []) t parts.table f before parts.flow after parts.asks).stops id has are));
  }
    where
      at_first : (i : ℕ) (id : TermId) → HasTerm i id f → HasTerm i id x.first
      at_first i id has = subst (λ (k : KeptTerms). slice_get k.values i ≡ Some id) (sym parts.first_memory) has

      at_second : (i : ℕ) (id : TermId) → HasTerm i id f → HasTerm i id x.second
      at_second i id has = subst (λ (k : KeptTerms). slice_get k.values i ≡ Some id) (sym parts.second_memory) has
