-- What is left of a run by choices is found again in a run that reads bits, statement by statement. Positions rise
-- along a path, so the bits of what is done first are written over those of the rest.
use Rattle.std.proofs.Common.{◌≡◌, ◌≢◌, ℕ, zero, suc, ◌+◌, ◌^◌, ◌<◌, ◌≤◌, Bool, true, false, max, Option, None, Some, List, [], ◌∷◌, ◌++◌, map, length, refl, sym, ap, ◌∙◌, subst, append_assoc, arith, ltb-true, le_refl, MatchOption}
use Rattle.std.specs.Prelude.{slice_get, nat_lt, if◌then◌else◌}
use Rattle.std.specs.Option.{option_map_or, option_map, option_and_then, option_to_list}
use Rattle.std.specs.List.{list_any}
use Rattle.std.proofs.lemmas.Option.{slice_get_within}
use Rattle.tm_base.specs.declared.place.Place.{Place}
use Rattle.tm_syntax.specs.declared.tree.Ident.{Ident}
use Rattle.tm_syntax.specs.Tree.{ExprTree, ValueTree, star, result, plain, StmtTree, assign, invoke, branch, repeat, forever, choose, assert, assume, pause, wait, magic, StmtRow, nothing, then as in_row, row_of, BlockRow, nowhere, or_else, blocks_of}
use Rattle.tm_syntax.specs.Design.{DesignTree}
use Rattle.tm_syntax.specs.Design.Scope.{Scope}
use Rattle.tm_syntax.specs.Design.Cells.{Cell, cell, Called, called}
use Rattle.tm_syntax.specs.Design.Sizes.{type_size}
use Rattle.tm_syntax.specs.Design.Work.{WorkItem, perform, deliver, performs, body_items, call_place}
use Rattle.tm_syntax.specs.Scopes.Parts.{body_stmts}
use Rattle.tm_sem.specs.Value.{Memory, value, holds_in, index_value, overruns}
use Rattle.tm_sem.specs.Run.{Ending, stopped, finished, failed, blocked, Progress, goes_on, comes_to, at_end, asked_by, put_in, with_arguments, calls, delivery, chooses_value, chooses_block, assigns, acts, progress, Run, ends, goes, valued}
use Rattle.tm_flat.specs.Positions.{target_bits, choice_bits, later, stmt_after, row_after, blocks_after, value_after, call_after}
use Rattle.tm_flat.specs.BitRun.{number_at, Reader, followed_by, behind, unless_overrun, puts_number, delivers, returns, call_ending, value_ending, stmt_ending, row_ending, block_ending}
use Rattle.tm_flat.specs.Fitting.{ChoiceFits, CallFits, ValueFits, StmtFits, RowFits, BlocksFit}
use Rattle.tm_flat.proofs.ToList.{Continues, stmts_of_row}
use Rattle.tm_flat.proofs.Writing.{with_number, with_number_behind, with_number_read}

-- an ending behind which nothing is done
abbrev pub IsEnd : Ending → Type 0
IsEnd (stopped at trail m) = Unit {0}
IsEnd (finished m) = ⊥
IsEnd failed = Unit {0}
IsEnd blocked = ⊥

end_stays : (e : Ending) → IsEnd e → (next : Memory → Ending) → followed_by e next ≡ e
end_stays (stopped at trail m) h next = refl
end_stays (finished m) h next = absurd h
end_stays failed h next = refl
end_stays blocked h next = absurd h

-- bits with which something ends so that begins at position k: whatever stands before k, and as given from i on
pub record Reads (R : (ℕ → Bool) → Ending) (k i : ℕ) (e : Ending) (given : ℕ → Bool) : Type 0 where
  pub bits : ℕ → Bool
  pub kept : (p : ℕ) → i ≤ p → bits p ≡ given p
  pub leads : (b : ℕ → Bool) → ((p : ℕ) → k ≤ p → b p ≡ bits p) → R b ≡ e

-- what is left of a run either ends in what begins at position k, or goes on behind it
pub data Found (d : DesignTree) (room : ℕ) (k : ℕ) (R : (ℕ → Bool) → Ending) (after : Option ℕ) (others : List WorkItem)
    (e : Ending) : Type 0 where
  ended : IsEnd e → ((given : ℕ → Bool) → Reads R k room e given) → Found d room k R after others e
  fallen : (n : Memory) (ds : List ℕ) (i : ℕ) → after ≡ Some i → k ≤ i → Run d others n ds e →
      ((given : ℕ → Bool) → Reads R k i (finished n) given) → Found d room k R after others e

-- each way in which this progress goes on is found
abbrev pub Finds : DesignTree → ℕ → ℕ → (List ℕ → Progress) → ((ℕ → Bool) → Ending) → Option ℕ → Type 0
Finds d room k p R after =
    (others : List WorkItem) (e : Ending) → e ≢ blocked → (cs : List ℕ) → Continues d others e (p cs) →
    Found d room k R after others e

-- what is left of a run behind the progress of its first item
pub open_run : {d : DesignTree} {first : WorkItem} {others : List WorkItem} {m : Memory} {cs : List ℕ} {e : Ending} →
    Run d (first ∷ others) m cs e → Continues d others e (progress d m cs first)
open_run {d} {others = others} (ends {e = e} is) = subst (λ (p : Progress). Continues d others e p) (sym is) refl
open_run {d} {others = others} (goes {e = e} is run) = subst (λ (p : Progress). Continues d others e p) (sym is) run

-- no choice may be left over at an end
pub at_end_all : (cs : List ℕ) (end e : Ending) → e ≢ blocked → at_end cs end ≡ e → end ≡ e
at_end_all [] end e there same = same
at_end_all (c ∷ cs) end e there same = absurd (there (sym same))

later_left : (a b : Option ℕ) (i : ℕ) → a ≡ Some i → (j : ℕ) × (later a b ≡ Some j) × (i ≤ j)
later_left a None i is = (i, rw is refl, le_refl i)
later_left a (Some j) i is = (max i j, rw is refl, omega arith)

later_right : (a b : Option ℕ) (i : ℕ) → b ≡ Some i → (j : ℕ) × (later a b ≡ Some j) × (i ≤ j)
later_right None b i is = (i, is, le_refl i)
later_right (Some j) b i is = (max j i, rw is refl, omega arith)

module _ (d : DesignTree) (room : ℕ) where
  -- an end that is reached at once
  reached : (k : ℕ) (end : Ending) (after : Option ℕ) → IsEnd end →
      Finds d room k (λ cs. comes_to (at_end cs end)) (λ _. end) after
  reached k end after is others e there cs same =
      let at : end ≡ e = at_end_all cs end e there same in
      ended (subst IsEnd at is) (λ given. record { bits = given; kept = λ p h. refl; leads = λ b h. at })

  -- what has no outcome
  none : (k : ℕ) (R : (ℕ → Bool) → Ending) (after : Option ℕ) → Finds d room k (λ cs. comes_to blocked) R after
  none k R after others e there cs same = absurd (there (sym same))

  -- what goes on at once
  pub passes : (k : ℕ) (n : Memory) → Finds d room k (goes_on [] n) (λ _. finished n) (Some k)
  passes k n others e there cs run =
      fallen n cs k refl (le_refl k) run (λ given. record { bits = given; kept = λ p h. refl; leads = λ b h. refl })

  -- one of two
  either : (c : Bool) (k : ℕ) (p q : List ℕ → Progress) (R S : (ℕ → Bool) → Ending) (after : Option ℕ) →
      Finds d room k p R after → Finds d room k q S after →
      Finds d room k (λ cs. if c then p cs else q cs) (λ b. if c then R b else S b) after
  either true k p q R S after f g = f
  either false k p q R S after f g = g

  pub unless_found : (c : Bool) (k : ℕ) (p : List ℕ → Progress) (R : (ℕ → Bool) → Ending) (after : Option ℕ) →
      Finds d room k p R after →
      Finds d room k (λ cs. if c then comes_to (at_end cs failed) else p cs) (λ b. if c then failed else R b) after
  unless_found c k p R after =
      either c k (λ cs. comes_to (at_end cs failed)) p (λ _. failed) R after (reached k failed after tt)

  -- a later position behind it
  lower : (R : (ℕ → Bool) → Ending) (k i j : ℕ) (e : Ending) (given : ℕ → Bool) → i ≤ j → Reads R k i e given →
      Reads R k j e given
  lower R k i j e given h r = record { bits = r.bits; kept = λ p at. r.kept p (omega arith); leads = r.leads }

  raised : (k : ℕ) (R : (ℕ → Bool) → Ending) (a b : Option ℕ) (others : List WorkItem) (e : Ending) →
      ((i : ℕ) → a ≡ Some i → (j : ℕ) × (b ≡ Some j) × (i ≤ j)) → Found d room k R a others e →
      Found d room k R b others e
  raised k R a b others e up (ended is give) = ended is give
  raised k R a b others e up (fallen n ds i is rises run give) =
      let below : i ≤ (up i is).0 = (up i is).2 in
      let above : k ≤ (up i is).0 = omega arith in
      fallen n ds (up i is).0 (up i is).1 above run
      (λ given. lower R k i (up i is).0 (finished n) given below (give given))

  -- one thing behind the other
  behind_ended : (k i : ℕ) (R : (ℕ → Bool) → Ending) (next : (ℕ → Bool) → Memory → Ending) (n : Memory) (e : Ending)
      (j : ℕ) → k ≤ i → i ≤ j → ((given : ℕ → Bool) → Reads R k i (finished n) given) →
      ((given : ℕ → Bool) → Reads (λ b. next b n) i j e given) → (given : ℕ → Bool) →
      Reads (λ b. followed_by (R b) (next b)) k j e given
  behind_ended k i R next n e j rises within give more given =
      let second : Reads (λ b. next b n) i j e given = more given in
      let first : Reads R k i (finished n) second.bits = give second.bits in
      record {
        bits = first.bits;
        kept = λ p h. first.kept p (omega arith) ∙ second.kept p h;
        leads = λ b same.
            ap (λ x. followed_by x (next b)) (first.leads b same)
            ∙ second.leads b (λ p h. same p (omega arith) ∙ first.kept p h);
      }

  follows : (k i : ℕ) (R : (ℕ → Bool) → Ending) (next : (ℕ → Bool) → Memory → Ending) (n : Memory)
      (after : Option ℕ) (others : List WorkItem) (e : Ending) → k ≤ i → i ≤ room →
      ((given : ℕ → Bool) → Reads R k i (finished n) given) → Found d room i (λ b. next b n) after others e →
      Found d room k (λ b. followed_by (R b) (next b)) after others e
  follows k i R next n after others e rises within give (ended is more) =
      ended is (behind_ended k i R next n e room rises within give more)
  follows k i R next n after others e rises within give (fallen o ds j is up run more) =
      fallen o ds j is (omega arith) run (behind_ended k i R next n (finished o) j rises up give more)

  pub then_found : (k : ℕ) (R : (ℕ → Bool) → Ending) (first second : Option ℕ) (next : (ℕ → Bool) → Memory → Ending)
      (rest others : List WorkItem) (e : Ending) → Found d room k R first (rest ++ others) e →
      ((i : ℕ) (n : Memory) (ds : List ℕ) → first ≡ Some i → Run d (rest ++ others) n ds e →
      (i ≤ room) × Found d room i (λ b. next b n) second others e) →
      Found d room k (λ b. followed_by (R b) (next b)) second others e
  then_found k R first second next rest others e (ended is give) f =
      ended is
      (λ given. record {
        bits = (give given).bits;
        kept = (give given).kept;
        leads = λ b same. ap (λ x. followed_by x (next b)) ((give given).leads b same) ∙ end_stays e is (next b);
      })
  then_found k R first second next rest others e (fallen n ds i is rises run give) f =
      follows k i R next n second others e rises (f i n ds is run).0 give (f i n ds is run).1

  -- a number that is read, and what follows with it
  numbered : (k w c : ℕ) (R : ℕ → (ℕ → Bool) → Ending) (i : ℕ) (e : Ending) → c < 2 ^ w → k + w ≤ i →
      ((given : ℕ → Bool) → Reads (R c) (k + w) i e given) → (given : ℕ → Bool) →
      Reads (λ b. R (number_at b k w) b) k i e given
  numbered k w c R i e small within give given =
      let rest : Reads (R c) (k + w) i e given = give given in
      record {
        bits = with_number k w c rest.bits;
        kept = λ p h. with_number_behind k w c rest.bits p (omega arith) ∙ rest.kept p h;
        leads = λ b same.
            ap (λ x. R x b) (with_number_read k w c rest.bits b small same)
            ∙ rest.leads b
            (λ p h. same p (omega arith) ∙ with_number_behind k w c rest.bits p h);
      }

  number_found : (k w c : ℕ) (R : ℕ → (ℕ → Bool) → Ending) (after : Option ℕ) (others : List WorkItem) (e : Ending) →
      c < 2 ^ w → k + w ≤ room → Found d room (k + w) (R c) after others e →
      Found d room k (λ b. R (number_at b k w) b) after others e
  number_found k w c R after others e small within (ended is give) =
      ended is (numbered k w c R room e small within give)
  number_found k w c R after others e small within (fallen n ds i is rises run give) =
      fallen n ds i is (omega arith) run (numbered k w c R i (finished n) small rises give)

  -- a value that is put into a target
  puts_found : (scope : Scope) (names : List Ident) (m : Memory) (target : Option Cell) (k : ℕ) →
      type_size d.spec (asked_by d target) ≤ 2 ^ target_bits d scope names →
      Finds d room k (chooses_value d m target)
      (λ b. puts_number d m target (number_at b k (target_bits d scope names)))
      (Some (k + target_bits d scope names))
  puts_found scope names m target k fits others e there [] same = absurd (there (sym same))
  puts_found scope names m target k fits others e there (c ∷ cs) left =
      of (nat_lt c (type_size d.spec (asked_by d target))) refl left
    where
      of : (v : Bool) → nat_lt c (type_size d.spec (asked_by d target)) ≡ v →
          Continues d others e (if v then goes_on [] (put_in m target c) cs else comes_to blocked) →
          Found d room k (λ b. puts_number d m target (number_at b k (target_bits d scope names)))
          (Some (k + target_bits d scope names)) others e
      of true is run =
          let below : c < type_size d.spec (asked_by d target) = ltb-true c (type_size d.spec (asked_by d target)) is in
          let small : c < 2 ^ target_bits d scope names = omega arith in
          fallen (put_in m target c) cs (k + target_bits d scope names) refl (omega arith) run
          (λ given. record {
            bits = with_number k (target_bits d scope names) c given;
            kept = λ p h. with_number_behind k (target_bits d scope names) c given p h;
            leads = λ b same.
                ap (puts_number d m target) (with_number_read k (target_bits d scope names) c given b small same)
                ∙ ap (λ v. if v then finished (put_in m target c) else blocked) is;
          })
      of false is same = absurd (there (sym same))

  -- what a body returns
  pub delivers_found : (target : Option Cell) (scope : Scope) (e : ExprTree) (k : ℕ) (m : Memory) →
      Finds d room k (λ cs. progress d m cs (deliver target scope e)) (λ _. delivers d target scope e m) (Some k)
  delivers_found target scope e k m =
      unless_found (overruns d scope m e) k (goes_on [] (put_in m target (value d scope m (asked_by d target) e)))
      (λ _. finished (put_in m target (value d scope m (asked_by d target) e))) (Some k)
      (passes k (put_in m target (value d scope m (asked_by d target) e)))

  returns_found : (target : Option Cell) (callee : Called) (k : ℕ) (m : Memory) →
      Finds d room k (goes_on (delivery target callee) m) (λ _. returns d target callee m) (Some k)
  returns_found target callee k m = of callee.body.answer
    where
      of : (answer : Option ExprTree) →
          Finds d room k (goes_on (map (deliver target callee.scope) (option_to_list answer)) m)
          (λ _. option_map_or (λ e. delivers d target callee.scope e m) answer (finished m)) (Some k)
      of None = passes k m
      of (Some x) = λ others e there cs run.
          delivers_found target callee.scope x k m others e there cs (open_run run)

  -- two branches
  branch_found : (c : Bool) (scope : Scope) (trail : List Place) (first second : StmtRow) (k : ℕ) (m : Memory)
      (one other : (ℕ → Bool) → Ending) (a b : Option ℕ) →
      Finds d room k (goes_on (performs scope trail first) m) one a →
      Finds d room k (goes_on (performs scope trail second) m) other b →
      Finds d room k (λ cs. goes_on (performs scope trail (if c then first else second)) m cs)
      (λ bits. if c then one bits else other bits) (later a b)
  branch_found true scope trail first second k m one other a b f g others e there cs run =
      raised k one a (later a b) others e (later_left a b) (f others e there cs run)
  branch_found false scope trail first second k m one other a b f g others e there cs run =
      raised k other b (later a b) others e (later_right a b) (g others e there cs run)

  -- the body of a loop, behind which the loop stands again
  loop_found : (body : List WorkItem) (again : WorkItem) (k : ℕ) (m : Memory) (R : (ℕ → Bool) → Ending)
      (inner after : Option ℕ) → inner ≡ None → Finds d room k (goes_on body m) R inner →
      Finds d room k (goes_on (body ++ again ∷ []) m) (λ b. followed_by (R b) (λ _. blocked)) after
  loop_found body again k m R inner after never f others e there cs run =
      then_found k R inner after (λ b n. blocked) (again ∷ []) others e
      (f (again ∷ others) e there cs
      (subst (λ (l : List WorkItem). Run d l m cs e) (append_assoc body (again ∷ []) others) run))
      (λ i n ds is left. absurd (cc))

  repeat_found : (c : Bool) (body : List WorkItem) (again : WorkItem) (k : ℕ) (m : Memory) (R : (ℕ → Bool) → Ending)
      (inner : Option ℕ) → inner ≡ None → Finds d room k (goes_on body m) R inner →
      Finds d room k (λ cs. goes_on (if c then body ++ again ∷ [] else []) m cs)
      (λ b. if c then followed_by (R b) (λ _. blocked) else finished m) (Some k)
  repeat_found true body again k m R inner never f = loop_found body again k m R inner (Some k) never f
  repeat_found false body again k m R inner never f = passes k m

  -- an alternative that a choice numbers
  choose_found : (scope : Scope) (trail : List Place) (blocks : BlockRow) (k : ℕ) (m : Memory)
      (R : ℕ → (ℕ → Bool) → Ending) (after : Option ℕ) → ChoiceFits blocks → k + choice_bits blocks ≤ room →
      ((c : ℕ) → Finds d room (k + choice_bits blocks)
      (λ cs. option_map_or (λ block. goes_on (performs scope trail block) m cs) (slice_get (blocks_of blocks) c)
      (comes_to blocked)) (R c) after) →
      Finds d room k (chooses_block scope trail m (blocks_of blocks)) (λ b. R (number_at b k (choice_bits blocks)) b)
      after
  choose_found scope trail blocks k m R after enough within f others e there [] same = absurd (there (sym same))
  choose_found scope trail blocks k m R after enough within f others e there (c ∷ cs) run =
      let small : c < 2 ^ choice_bits blocks = below (slice_get (blocks_of blocks) c) refl run in
      number_found k (choice_bits blocks) c R after others e small within (f c others e there cs run)
    where
      below : (o : Option StmtRow) → slice_get (blocks_of blocks) c ≡ o →
          Continues d others e
          (option_map_or (λ block. goes_on (performs scope trail block) m cs) o (comes_to blocked)) →
          c < 2 ^ choice_bits blocks
      below None is left = absurd (there (sym left))
      below (Some block) is left =
          let inside : c < length (blocks_of blocks) = slice_get_within (blocks_of blocks) c block is in
          omega arith

  module _ (after : Called → ℕ → Option ℕ) (Fits : Called → ℕ → Type 0) where
    row_start : (scope : Scope) (row : StmtRow) (k : ℕ) → RowFits room after Fits d scope row k → k ≤ room
    row_start scope nothing k fits = fits
    row_start scope (in_row first others) k fits = fits.0

    -- the position behind a row is within the room
    pub row_stop : (scope : Scope) (row : StmtRow) (k i : ℕ) → RowFits room after Fits d scope row k →
        row_after after d scope row k ≡ Some i → i ≤ room
    row_stop scope nothing k i fits is = let same : k ≡ i = cc in subst (λ (x : ℕ). x ≤ room) same fits
    row_stop scope (in_row first others) k i fits is =
        of (stmt_after after d scope first k) (λ j. row_stop scope others j i) fits.2 is
      where
        of : (o : Option ℕ) →
            ((j : ℕ) → RowFits room after Fits d scope others j → row_after after d scope others j ≡ Some i →
            i ≤ room) →
            MatchOption o (Unit {0}) (λ j. RowFits room after Fits d scope others j) →
            option_and_then (λ j. row_after after d scope others j) o ≡ Some i → i ≤ room
        of None f left is = absurd (cc)
        of (Some j) f left is = f j left is

  module _ (after : Called → ℕ → Option ℕ) (ending : (ℕ → Bool) → Called → List Place → ℕ → Memory → Ending)
      (Fits : Called → ℕ → Type 0)
      (stop : (callee : Called) (k i : ℕ) → Fits callee k → after callee k ≡ Some i → i ≤ room)
      (body : (callee : Called) (trail : List Place) (k : ℕ) (m : Memory) → Fits callee k →
      Finds d room k (goes_on (body_items callee.scope trail callee.body) m) (λ b. ending b callee trail k m)
      (after callee k)) where
    abbrev here : (ℕ → Bool) → Reader
    here b = record { design = d; bits = b; after = after; ending = ending b }

    -- a call, and what is behind it
    calls_found : (scope : Scope) (trail : List Place) (names : List Ident) (args : List ExprTree)
        (rest : Called → List WorkItem) (next : Called → Memory → Ending) (k : ℕ) (m : Memory) →
        ((callee : Called) (i : ℕ) (n : Memory) →
        Finds d room i (goes_on (rest callee) n) (λ _. next callee n) (Some i)) →
        CallFits Fits d scope names k →
        Finds d room k (λ cs. calls d scope trail m cs names args rest)
        (λ b. call_ending (here b) scope trail names args next k m) (call_after after d scope names k)
    calls_found scope trail names args rest next k m f = of (called d scope names)
      where
        of : (c : Option Called) → MatchOption c (Unit {0}) (λ callee. Fits callee k) →
            Finds d room k
            (λ cs. option_map_or
            (λ callee.
            goes_on (body_items callee.scope (call_place names ++ trail) callee.body ++ rest callee)
            (with_arguments d scope m callee.params args) cs) c (comes_to blocked))
            (λ b. option_map_or
            (λ callee.
            followed_by
            (ending b callee (call_place names ++ trail) k (with_arguments d scope m callee.params args))
            (next callee))
            c blocked)
            (option_and_then (λ callee. after callee k) c)
        of None fits = none k (λ _. blocked) None
        of (Some callee) fits = λ others e there cs run.
            then_found k
            (λ b. ending b callee (call_place names ++ trail) k (with_arguments d scope m callee.params args))
            (after callee k) (after callee k) (λ b n. next callee n) (rest callee) others e
            (body callee (call_place names ++ trail) k (with_arguments d scope m callee.params args) fits
            (rest callee ++ others) e there cs
            (subst (λ (l : List WorkItem). Run d l (with_arguments d scope m callee.params args) cs e)
            (append_assoc (body_items callee.scope (call_place names ++ trail) callee.body) (rest callee) others) run))
            (λ i n ds is left. (
              stop callee k i fits is,
              subst (λ (o : Option ℕ). Found d room i (λ _. next callee n) o others e) (sym is)
                  (f callee i n others e there ds left),
            ))

    -- an assignment
    value_found : (scope : Scope) (trail : List Place) (names : List Ident) (index : Option ℕ) (v : ValueTree) (k : ℕ)
        (m : Memory) → ValueFits Fits d scope names v k →
        Finds d room k (λ cs. assigns d scope trail m cs (cell d scope names index) v)
        (λ b. value_ending (here b) scope trail names (cell d scope names index) v k m)
        (value_after after d scope names v k)
    value_found scope trail names index (star _) k m fits =
        puts_found scope names m (cell d scope names index) k (fits index)
    value_found scope trail names index (result callee args) k m fits =
        calls_found scope trail callee args (delivery (cell d scope names index))
        (returns d (cell d scope names index)) k m
        (λ called i n. returns_found (cell d scope names index) called i n) fits
    value_found scope trail names index (plain e) k m fits =
        passes k
        (put_in m (cell d scope names index) (value d scope m (asked_by d (cell d scope names index)) e))

    mutual
      -- a statement none of whose expressions overruns
      pub stmt_found : (scope : Scope) (trail : List Place) (s : StmtTree) (k : ℕ) (m : Memory) →
          StmtFits room after Fits d scope s k →
          Finds d room k (λ cs. acts d scope trail m cs s) (λ b. stmt_ending (here b) scope trail s k m)
          (stmt_after after d scope s k)
      stmt_found scope trail (assign names index v) k m fits =
          value_found scope trail names (option_map (index_value d scope m) index) v k m fits
      stmt_found scope trail (invoke names args) k m fits =
          calls_found scope trail names args (λ _. []) (λ _. finished) k m (λ callee i n. passes i n) fits
      stmt_found scope trail (branch e first second) k m fits =
          branch_found (holds_in d scope m e) scope trail first second k m
          (λ b. row_ending (here b) scope trail first k m) (λ b. row_ending (here b) scope trail second k m)
          (row_after after d scope first k) (row_after after d scope second k)
          (row_found scope trail first k m fits.0) (row_found scope trail second k m fits.1)
      stmt_found scope trail (repeat at e body) k m fits =
          repeat_found (holds_in d scope m e) (performs scope trail body) (perform scope trail (repeat at e body)) k m
          (λ b. row_ending (here b) scope trail body k m) (row_after after d scope body k) fits.0
          (row_found scope trail body k m fits.1)
      stmt_found scope trail (forever at body) k m fits =
          loop_found (performs scope trail body) (perform scope trail (forever at body)) k m
          (λ b. row_ending (here b) scope trail body k m) (row_after after d scope body k) None fits.0
          (row_found scope trail body k m fits.1)
      stmt_found scope trail (choose _ blocks) k m fits =
          choose_found scope trail blocks k m
          (λ n b. block_ending (here b) scope trail blocks n (k + choice_bits blocks) m)
          (blocks_after after d scope blocks (k + choice_bits blocks)) fits.0 fits.1
          (λ c. blocks_found scope trail blocks c (k + choice_bits blocks) m fits.2)
      stmt_found scope trail (assert _ e) k m fits =
          either (holds_in d scope m e) k (goes_on [] m) (λ cs. comes_to (at_end cs failed)) (λ _. finished m)
          (λ _. failed) (Some k) (passes k m) (reached k failed (Some k) tt)
      stmt_found scope trail (assume _ e) k m fits =
          either (holds_in d scope m e) k (goes_on [] m) (λ cs. comes_to blocked) (λ _. finished m) (λ _. blocked)
          (Some k) (passes k m) (none k (λ _. blocked) (Some k))
      stmt_found scope trail (pause at) k m fits = reached k (stopped at trail m) None tt
      stmt_found scope trail (wait at _) k m fits = reached k (stopped at trail m) None tt
      stmt_found scope trail (magic at) k m fits = reached k (stopped at trail m) None tt

      -- statements in a row
      row_found : (scope : Scope) (trail : List Place) (row : StmtRow) (k : ℕ) (m : Memory) →
          RowFits room after Fits d scope row k →
          Finds d room k (goes_on (performs scope trail row) m) (λ b. row_ending (here b) scope trail row k m)
          (row_after after d scope row k)
      row_found scope trail nothing k m fits = passes k m
      row_found scope trail (in_row first others) k m fits = λ rest e there cs run.
          then_found k
          (λ b. unless_overrun d scope m first (stmt_ending (here b) scope trail first k m))
          (stmt_after after d scope first k) (row_after after d scope (in_row first others) k)
          (λ b. behind (stmt_after after d scope first k) (λ i. row_ending (here b) scope trail others i))
          (performs scope trail others) rest e
          (unless_found (list_any (overruns d scope m) (valued first)) k (λ cs. acts d scope trail m cs first)
          (λ b. stmt_ending (here b) scope trail first k m) (stmt_after after d scope first k)
          (stmt_found scope trail first k m fits.1) (performs scope trail others ++ rest) e there cs (open_run run))
          (λ i n ds is left.
          let more : RowFits room after Fits d scope others i =
          subst
          (λ (o : Option ℕ). MatchOption o (Unit {0}) (λ j. RowFits room after Fits d scope others j)) is
          fits.2 in (
            row_start after Fits scope others i more,
            subst
                (λ (o : Option ℕ). Found d room i (λ b. behind o (λ j. row_ending (here b) scope trail others j) n)
                (option_and_then (λ j. row_after after d scope others j) o) rest e)
                (sym is) (row_found scope trail others i n more rest e there ds left),
          ))

      -- the alternative of a number
      blocks_found : (scope : Scope) (trail : List Place) (blocks : BlockRow) (c k : ℕ) (m : Memory) →
          BlocksFit room after Fits d scope blocks k →
          Finds d room k
          (λ cs. option_map_or (λ block. goes_on (performs scope trail block) m cs) (slice_get (blocks_of blocks) c)
          (comes_to blocked))
          (λ b. block_ending (here b) scope trail blocks c k m) (blocks_after after d scope blocks k)
      blocks_found scope trail nowhere c k m fits = none k (λ _. blocked) None
      blocks_found scope trail (or_else first others) zero k m fits = λ rest e there cs run.
          raised k (λ b. row_ending (here b) scope trail first k m) (row_after after d scope first k)
          (blocks_after after d scope (or_else first others) k) rest e
          (later_left (row_after after d scope first k) (blocks_after after d scope others k))
          (row_found scope trail first k m fits.0 rest e there cs run)
      blocks_found scope trail (or_else first others) (suc c) k m fits = λ rest e there cs run.
          raised k (λ b. block_ending (here b) scope trail others c k m) (blocks_after after d scope others k)
          (blocks_after after d scope (or_else first others) k) rest e
          (later_right (row_after after d scope first k) (blocks_after after d scope others k))
          (blocks_found scope trail others c k m fits.1 rest e there cs run)

    -- the statements of a body
    pub body_found : (callee : Called) (trail : List Place) (k : ℕ) (m : Memory) →
        RowFits room after Fits d callee.scope (row_of (body_stmts callee.body)) k →
        Finds d room k (goes_on (body_items callee.scope trail callee.body) m)
        (λ b. row_ending (here b) callee.scope trail (row_of (body_stmts callee.body)) k m)
        (row_after after d callee.scope (row_of (body_stmts callee.body)) k)
    body_found callee trail k m fits =
        subst
        (λ (ss : List StmtTree). Finds d room k (goes_on (map (perform callee.scope trail) ss) m)
        (λ b. row_ending (here b) callee.scope trail (row_of (body_stmts callee.body)) k m)
        (row_after after d callee.scope (row_of (body_stmts callee.body)) k))
        (stmts_of_row (body_stmts callee.body))
        (row_found callee.scope trail (row_of (body_stmts callee.body)) k m fits)
