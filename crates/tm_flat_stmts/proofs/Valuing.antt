-- Expressions that are valued where a run stands.
use Rattle.std.proofs.Common.{◌≡◌, ℕ, Bool, true, false, Option, None, Some, List, [], ◌∷◌, ◌++◌, ◌||◌, refl, sym, ap, ◌∙◌, subst, true≢false}
use Rattle.std.specs.Prelude.{not, if◌then◌else◌}
use Rattle.std.specs.List.{list_any}
use Rattle.tm_base.specs.declared.place.Place.{Place}
use Rattle.tm_syntax.specs.declared.design.Ty.{Ty}
use Rattle.tm_syntax.specs.Tree.{ExprTree}
use Rattle.tm_syntax.specs.Design.{DesignTree}
use Rattle.tm_scope.specs.Cells.{HasCells, ScopedCells, scope_of}
use Rattle.tm_term.specs.declared.term.TermId.{TermId}
use Rattle.tm_term.specs.Table.{Table, IsSound}
use Rattle.tm_term.specs.Value.{AreInputs, Extends}
use Rattle.tm_term.proofs.Valued.{Extends-trans}
use Rattle.tm_sem.specs.Run.{Ending, failed, finished}
use Rattle.tm_sem.specs.Value.{Memory, overruns}
use Rattle.tm_flat.specs.BitRun.{followed_by}
use Rattle.tm_design.proofs.Contexts.{some_cells, some_design}
use Rattle.tm_flat_exprs.specs.declared.valued.Valued.{Valued}
use Rattle.tm_flat_exprs.specs.Kept.{KeptTerms, Keeps}
use Rattle.tm_flat_exprs.specs.Made.{truth_at}
use Rattle.tm_flat_exprs.specs.Valued.{Finds, bits_in}
use Rattle.tm_flat_exprs.proofs.Later.{term_along}
use Rattle.tm_flat_stmts.specs.Flows.{AreEnds, Continues, EndTerms, Fails, FlowTerms, IsFlow, Leads, Narrows, has_finished, is_on}
use Rattle.tm_flat_stmts.specs.Statements.{Asks, AsksOne, HasValue}
use Rattle.tm_flat_stmts.proofs.Flowing.{ends_along, flow_along}
use Rattle.tm_flat_stmts.proofs.Leading.{continues_from, continues_so, continues_then}
use Rattle.tm_flat_stmts.proofs.Pieces.{fails_or_goes_on, goes_on_after}

-- one of one is that one
one_of : (b : Bool) (m : Memory) → (if b then failed else finished m) ≡ (if b || false then failed else finished m)
one_of true m = refl
one_of false m = refl

pub operand_so : (s : ScopedCells) (asked : Ty) (e : ExprTree) (t p q n : Table) (f g : FlowTerms)
    (before after : EndTerms) (x : Valued) → IsFlow s.tables t f → AreEnds s.tables t before →
    Finds s f.memory asked e t p x → Fails p q f (λ u v. truth_at u v x.overrun) before after →
    Narrows q n f g (λ u v. not (truth_at u v x.overrun)) →
    AsksOne s asked e t n f before after (record { flow = g; value = x.value })
operand_so s asked e t p q n f g before after x flow are found told narrow =
    let late : Extends p n = Extends-trans p q n told.grown narrow.grown in
    let overrun : (d : DesignTree) (has : HasCells s.tables d) (u : Table) → Extends n u → (v : List ℕ) →
    AreInputs u v → (o : Memory) → Keeps s.tables u v f.memory o →
    truth_at u v x.overrun ≡ overruns d (scope_of s.at) o e =
    λ d has u more v inputs o keeps.
    sym ((found.means u (Extends-trans p n u late more) v inputs).overrun
    (record { design = d; memory = o; cells = has; keeps = keeps })) in
    record {
      asks = record {
        memory = narrow.memory;
        stops = told.stops;
        goes = λ d has number.
            continues_so s.tables number (λ v m. if overruns d (scope_of s.at) m e then failed else finished m)
            (λ v m. if overruns d (scope_of s.at) m e || false then failed else finished m) (Some f.position)
            (Some f.position) t n (Some f) (Some g) before after
            (λ v m. one_of (overruns d (scope_of s.at) m e) m) refl
            (continues_from s.tables number (λ v m. if overruns d (scope_of s.at) m e then failed else finished m)
            (Some f.position) t p n (Some f) (Some g) before after found.grown
            (fails_or_goes_on s.tables number (λ v m. overruns d (scope_of s.at) m e) p q n f g before after
            (λ u v. truth_at u v x.overrun) (λ u v. not (truth_at u v x.overrun))
            (flow_along s.tables t p f found.grown flow) (ends_along s.tables t p before found.grown are) told narrow
            (λ u more v inputs o on keeps. overrun d has u more v inputs o keeps)
            (λ u more v inputs o on keeps. ap not (overrun d has u more v inputs o keeps))));
      };
      value = record {
        term = term_along p n (bits_in s asked) x.value late found.value;
        means = λ u more v inputs d has m keeps.
            sym ((found.means u (Extends-trans p n u late more) v inputs).value
            (record { design = d; memory = m; cells = has; keeps = keeps }));
      };
    }

-- a term keeps its value as terms are added, and where another memory has the same terms
pub value_along : (s : ScopedCells) (k l : KeptTerms) (asked : Ty) (e : ExprTree) (t n : Table) (id : TermId) →
    Extends t n → k ≡ l → HasValue s k asked e t id → HasValue s l asked e n id
value_along s k l asked e t n id grown same known = record {
  term = term_along t n (bits_in s asked) id grown known.term;
  means = λ u more v inputs d has m keeps.
      known.means u (Extends-trans t n u grown more) v inputs d has m
      (subst (λ j. Keeps s.tables u v j m) (sym same) keeps);
}

-- an overrun is an error before a statement does anything
asked_then : (o : Bool) (m : Memory) (next : Memory → Ending) →
    followed_by (if o then failed else finished m) next ≡ (if o then failed else next m)
asked_then true m next = refl
asked_then false m next = refl

-- what has not failed goes on
gone : (b : Bool) (m : Memory) → true ≡ has_finished (if b then failed else finished m) → b ≡ false
gone true m is = absurd (true≢false is)
gone false m is = refl

module _ (s : ScopedCells) (es : List ExprTree) (t p : Table) (f : FlowTerms) (before : EndTerms) (g : FlowTerms)
    (mid : EndTerms) (asks : Asks s es t p f before g mid) where
  -- what is done behind expressions where none of them overruns
  pub behind_operands : (d : DesignTree) → HasCells s.tables d → (number : Place → List Place → Option ℕ)
      (next : List ℕ → Memory → Ending) (to : Option ℕ) (n : Table) (h : Option FlowTerms) (after : EndTerms) →
      Continues s.tables number next to p n (Some g) mid h after →
      Continues s.tables number
      (λ v m. if list_any (overruns d (scope_of s.at) m) es then failed else next v m) to t n (Some f) before h after
  behind_operands d has number next to n h after second =
      continues_so s.tables number
      (λ v m. followed_by (if list_any (overruns d (scope_of s.at) m) es then failed else finished m) (next v))
      (λ v m. if list_any (overruns d (scope_of s.at) m) es then failed else next v m) to to t n (Some f) h before after
      (λ v m. asked_then (list_any (overruns d (scope_of s.at) m) es) m (next v)) refl
      (continues_then s.tables number
      (λ v m. if list_any (overruns d (scope_of s.at) m) es then failed else finished m) next
      (Some f.position) to t p n (Some f) (Some g) h before mid after (asks.goes d has number) second)

  -- it stands in a flow over the same cells
  operands_here : Continues s.tables (λ at trail. None)
      (λ v m. if list_any (overruns (some_design s.tables) (scope_of s.at) m) es then failed else finished m)
      (Some f.position) t p (Some f) before (Some g) mid
  operands_here = asks.goes (some_design s.tables) (some_cells s.tables) (λ at trail. None)

  pub operands_flow : IsFlow s.tables p g
  operands_flow = operands_here.flow

  pub operands_ends : AreEnds s.tables p mid
  operands_ends = operands_here.ends

  pub operands_sound : IsSound p
  operands_sound = operands_here.sound

  pub operands_grown : Extends t p
  operands_grown = operands_here.grown

  pub operands_position : Some g.position ≡ Some f.position
  operands_position = operands_here.position

  -- where a run stands behind them none of them overruns
  pub none_overruns : (u : Table) → Extends p u → (v : List ℕ) → AreInputs u v → (d : DesignTree) →
      HasCells s.tables d → (m : Memory) → Keeps s.tables u v g.memory m → is_on u v (Some g) ≡ true →
      list_any (overruns d (scope_of s.at) m) es ≡ false
  none_overruns u more v inputs d has m keeps on = by (is_on u v (Some f)) refl
    where
      led : Leads s.tables u v (λ at trail. None)
          (λ m. if list_any (overruns d (scope_of s.at) m) es then failed else finished m) (Some f) before (Some g) mid
      led = (asks.goes d has (λ at trail. None)).leads u more v inputs

      by : (b : Bool) → is_on u v (Some f) ≡ b → list_any (overruns d (scope_of s.at) m) es ≡ false
      by false off = absurd (true≢false (sym on ∙ led.stays off))
      by true there =
          gone (list_any (overruns d (scope_of s.at) m) es) m
          (sym on ∙ led.goes m there (subst (λ k. Keeps s.tables u v k m) asks.memory keeps))

-- expressions behind others
any_one : (a b c d : Bool) → b ≡ (c || d) → (a || b) ≡ ((a || c) || d)
any_one true b c d is = refl
any_one false b c d is = is

pub any_behind : (p : ExprTree → Bool) (es fs : List ExprTree) →
    list_any p (es ++ fs) ≡ (list_any p es || list_any p fs)
any_behind p [] fs = refl
any_behind p (e ∷ es) fs =
    any_one (p e) (list_any p (es ++ fs)) (list_any p es) (list_any p fs) (any_behind p es fs)

either_fails : (a : Bool) (b : Memory → Bool) (m : Memory) →
    followed_by (if a then failed else finished m) (λ n. if b n then failed else finished n)
    ≡ (if a || b m then failed else finished m)
either_fails true b m = refl
either_fails false b m = refl

pub asks_then : (s : ScopedCells) (es fs : List ExprTree) (t p n : Table) (f g h : FlowTerms)
    (before mid after : EndTerms) → Asks s es t p f before g mid → Asks s fs p n g mid h after →
    Asks s (es ++ fs) t n f before h after
asks_then s es fs t p n f g h before mid after one two = record {
  memory = two.memory ∙ one.memory;
  stops = two.stops ∙ one.stops;
  goes = λ d has number.
      let at = scope_of s.at in
      continues_so s.tables number
      (λ v m. followed_by (if list_any (overruns d at m) es then failed else finished m)
      (λ m. if list_any (overruns d at m) fs then failed else finished m))
      (λ v m. if list_any (overruns d at m) (es ++ fs) then failed else finished m) (Some g.position) (Some f.position)
      t n (Some f) (Some h) before after
      (λ v m. both d m) (one.goes d has number).position
      (continues_then s.tables number (λ v m. if list_any (overruns d at m) es then failed else finished m)
      (λ v m. if list_any (overruns d at m) fs then failed else finished m) (Some f.position) (Some g.position) t p n
      (Some f) (Some g) (Some h) before mid after (one.goes d has number) (two.goes d has number));
}
  where
    both : (d : DesignTree) (m : Memory) →
        followed_by (if list_any (overruns d (scope_of s.at) m) es then failed else finished m)
        (λ n. if list_any (overruns d (scope_of s.at) n) fs then failed else finished n)
        ≡ (if list_any (overruns d (scope_of s.at) m) (es ++ fs) then failed else finished m)
    both d m =
        either_fails (list_any (overruns d (scope_of s.at) m) es) (λ n. list_any (overruns d (scope_of s.at) n) fs) m
        ∙ ap (λ b. if b then failed else finished m) (sym (any_behind (overruns d (scope_of s.at) m) es fs))

-- no expression
pub asks_none : (s : ScopedCells) (t : Table) (f : FlowTerms) (ends : EndTerms) → IsSound t → IsFlow s.tables t f →
    AreEnds s.tables t ends → Asks s [] t t f ends f ends
asks_none s t f ends sound flow are = record {
  memory = refl;
  stops = refl;
  goes = λ d has number.
      goes_on_after s.tables number (λ v m. m) t f f ends sound flow are refl refl
      (λ u more v inputs m on keeps. keeps);
}
