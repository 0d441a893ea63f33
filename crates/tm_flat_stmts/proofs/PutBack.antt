-- What is put into a cell that has it already.
use Rattle.std.proofs.Common.{◌≡◌, ℕ, zero, suc, Bool, true, false, cond, Option, None, Some, List, [], ◌∷◌, refl, sym, ap, ◌∙◌, subst, arith, rules, true≢false}
use Rattle.std.specs.Prelude.{◌&&◌, find, nat_eq, slice_index, slice_set}
use Rattle.std.specs.Option.{option_map_or}
use Rattle.std.specs.Cmp.Lexicographic.{pointwise}
use Rattle.std.proofs.lemmas.Bool.Decides.{nat_tests}
use Rattle.tm_syntax.specs.declared.design.Ty.{Ty}
use Rattle.tm_syntax.specs.Scopes.Context.{BodyName, process_body, task_body, outside}
use Rattle.tm_syntax.specs.Design.Cells.{Cell, in_state, in_step}
use Rattle.tm_syntax.specs.Design.Scope.{Scope, same_body, same_scope}
use Rattle.tm_scope.specs.Cells.{CellTables}
use Rattle.tm_term.specs.Table.{Table}
use Rattle.tm_sem.specs.Run.{put_in}
use Rattle.tm_sem.specs.Value.{Memory, Passing, put, read}
use Rattle.tm_flat_exprs.specs.Kept.{KeptTerms, Keeps}
use Rattle.tm_design.proofs.StepCells.{both_true}

set_itself : (xs : List ℕ) (k : ℕ) → slice_set xs k (slice_index xs k) ≡ xs
set_itself [] k = refl
set_itself (x ∷ xs) zero = refl
set_itself (x ∷ xs) (suc k) = ap (λ ys. x ∷ ys) (set_itself xs k)

same_number : (a b : ℕ) → nat_eq a b ≡ true → a ≡ b
same_number a b is = grind (arith, nat_tests)

same_text : (a b : List ℕ) → pointwise nat_eq a b ≡ true → a ≡ b
same_text a b is = search rules

one_body : (a b : BodyName) → same_body a b ≡ true → a ≡ b
one_body (process_body a) (process_body b) is = ap process_body (same_number a b is)
one_body (process_body a) (task_body b) is = absurd (true≢false (sym is))
one_body (process_body a) outside is = absurd (true≢false (sym is))
one_body (task_body a) (process_body b) is = absurd (true≢false (sym is))
one_body (task_body a) (task_body b) is = ap task_body (same_number a b is)
one_body (task_body a) outside is = absurd (true≢false (sym is))
one_body outside (process_body b) is = absurd (true≢false (sym is))
one_body outside (task_body b) is = absurd (true≢false (sym is))
one_body outside outside is = refl

one_scope : (a b : Scope) → same_scope a b ≡ true → a ≡ b
one_scope a b is =
    let parts = both_true (nat_eq a.instance b.instance) (same_body a.body b.body) is in
    let instance = same_number a.instance b.instance parts.0 in
    let body = one_body a.body b.body parts.1 in
    (λ i. record { instance = instance i; body = body i })

-- a cell is read as before where it got what it had
read_back : (m : Memory) (a : Scope) (name : List ℕ) (ty : Ty) (c : Cell) →
    read (put m (in_step a name ty) (read m (in_step a name ty))) c ≡ read m c
read_back m a name ty (in_state k) = refl
read_back m a name ty (in_step b other r) = by (same_scope b a && pointwise nat_eq other name) refl
  where
    found : Bool → ℕ
    found t =
        option_map_or (λ (p : Passing). p.value)
        (cond t (Some (record { scope = a; name = name; value = read m (in_step a name ty) }))
        (find (λ (p : Passing). same_scope b p.scope && pointwise nat_eq other p.name) m.passing)) 0

    by : (t : Bool) → (same_scope b a && pointwise nat_eq other name) ≡ t →
        read (put m (in_step a name ty) (read m (in_step a name ty))) (in_step b other r) ≡ read m (in_step b other r)
    by true is =
        let parts = both_true (same_scope b a) (pointwise nat_eq other name) is in
        let scopes : a ≡ b = sym (one_scope b a parts.0) in
        let names : name ≡ other = sym (same_text other name parts.1) in
        ap found is ∙ (λ i. read m (in_step (scopes i) (names i) r))
    by false is = ap found is

pub put_back : (x : CellTables) (u : Table) (v : List ℕ) (k : KeptTerms) (m : Memory) (o : Option Cell) (n : ℕ) →
    n ≡ option_map_or (read m) o 0 → Keeps x u v k (put_in m o n) → Keeps x u v k m
put_back x u v k m None n is keeps = keeps
put_back x u v k m (Some (in_state j)) n is keeps =
    let same : put m (in_state j) n ≡ m =
    ap (put m (in_state j)) is ∙ ap (λ vs. record m { values = vs }) (set_itself m.values j) in
    subst (Keeps x u v k) same keeps
put_back x u v k m (Some (in_step a name ty)) n is keeps =
    let here : Keeps x u v k (put m (in_step a name ty) (read m (in_step a name ty))) =
    subst (λ w. Keeps x u v k (put m (in_step a name ty) w)) is keeps in
    record {
      values = here.values;
      step = λ cell c there. sym (read_back m a name ty c) ∙ here.step cell c there;
    }
