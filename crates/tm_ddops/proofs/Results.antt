-- Remembered results in a store that was extended.
use Rattle.std.proofs.Common.{◌≡◌, ℕ, Bool, true, false, ◌&&◌, ◌||◌, not, eqb, cond, if◌then◌else◌, List, [], ◌∷◌, map, Contains, Some, refl, sym, ◌∙◌}
use Rattle.std.specs.Map.{lookup}
use Rattle.std.specs.Option.{option_map_or}
use Rattle.lru.proofs.Splits.{Contains-head, Contains-tail}
use Rattle.tm_dd.specs.declared.node.NodeId.{NodeId}
use Rattle.tm_dd.specs.Reduced.{IsReduced, Extends}
use Rattle.tm_dd.specs.Table.{Table, Knows, means}
use Rattle.tm_ddops.specs.declared.operation.Operation.{Operation}
use Rattle.tm_ddops.specs.declared.operation.Operation.TheVariants.{And, Or, Xor, Ite, Compose}
use Rattle.tm_ddops.specs.Manager.{AreResults, IsResult}
use Rattle.tm_ddops.specs.Operation.{operands, operation_value, substituted}
use Rattle.tm_ddops.proofs.Facts.{knows-Extends}

module _ (s t : Table) (e : Extends s t) where
  pub substituted-Extends : (parts : List (ℕ × NodeId)) → ((f : NodeId) → Contains (map (λ p. p.1) parts) f → Knows s f)
      → (v : ℕ → Bool) (level : ℕ) → substituted t parts v level ≡ substituted s parts v level
  substituted-Extends [] known v level = refl
  substituted-Extends (p ∷ parts) known v level =
      elim (eqb p.0 level) as (λ b.
      option_map_or (λ part. means t part v) (cond b (Some p.1) (lookup (λ l. eqb l level) parts)) (v level)
      ≡ option_map_or (λ part. means s part v) (cond b (Some p.1) (lookup (λ l. eqb l level) parts)) (v level)) [
        | true ↦ e.same_meaning p.1 (known p.1 (Contains-head p.1 (map (λ q. q.1) parts))) v
        | false ↦ substituted-Extends parts (λ f h. known f (Contains-tail p.1 (map (λ q. q.1) parts) f h)) v level
      ]

  pub operation_value-Extends : (o : Operation) → ((f : NodeId) → Contains (operands o) f → Knows s f) →
      (v : ℕ → Bool) → operation_value t o v ≡ operation_value s o v
  operation_value-Extends (And f g) known v =
      let kf = known f (Contains-head f (g ∷ [])) in
      let kg = known g (Contains-tail f (g ∷ []) g (Contains-head g [])) in
      λ i. e.same_meaning f kf v i && e.same_meaning g kg v i
  operation_value-Extends (Or f g) known v =
      let kf = known f (Contains-head f (g ∷ [])) in
      let kg = known g (Contains-tail f (g ∷ []) g (Contains-head g [])) in
      λ i. e.same_meaning f kf v i || e.same_meaning g kg v i
  operation_value-Extends (Xor f g) known v =
      let kf = known f (Contains-head f (g ∷ [])) in
      let kg = known g (Contains-tail f (g ∷ []) g (Contains-head g [])) in
      λ i. if e.same_meaning f kf v i then not (e.same_meaning g kg v i) else e.same_meaning g kg v i
  operation_value-Extends (Ite f g h) known v =
      let kf = known f (Contains-head f (g ∷ h ∷ [])) in
      let kg = known g (Contains-tail f (g ∷ h ∷ []) g (Contains-head g (h ∷ []))) in
      let kh = known h (Contains-tail f (g ∷ h ∷ []) h (Contains-tail g (h ∷ []) h (Contains-head h []))) in
      λ i. if e.same_meaning f kf v i then e.same_meaning g kg v i else e.same_meaning h kh v i
  operation_value-Extends (Compose f parts) known v =
      let kf = known f (Contains-head f (map (λ p. p.1) parts)) in
      let inside = substituted-Extends parts (λ g h. known g (Contains-tail f (map (λ p. p.1) parts) g h)) v in
      e.same_meaning f kf (substituted t parts v) ∙ (λ i. means s f (λ level. inside level i))

  pub IsResult-Extends : (o : Operation) (id : NodeId) → IsResult s o id → IsResult t o id
  IsResult-Extends o id r = record {
    operands_known = λ f h. knows-Extends s t e f (r.operands_known f h);
    function = record {
      known = knows-Extends s t e id r.function.known;
      meaning = λ v. e.same_meaning id r.function.known v ∙ r.function.meaning v
          ∙ sym (operation_value-Extends o r.operands_known v);
    };
  }

  pub AreResults-Extends : (results : List (Operation × NodeId)) → AreResults s results → AreResults t results
  AreResults-Extends results are o id h = IsResult-Extends o id (are o id h)

-- two results of an operation are one
pub one_result : (s : Table) → IsReduced s → (o : Operation) (f g : NodeId) → IsResult s o f → IsResult s o g → f ≡ g
one_result s reduced o f g a b =
    reduced.canonical f g a.function.known b.function.known (λ v. a.function.meaning v ∙ sym (b.function.meaning v))
