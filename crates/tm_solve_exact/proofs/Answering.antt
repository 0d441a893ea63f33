-- What the diagrams that operations answer are as sets of states.
use Rattle.std.proofs.Common.{◌≡◌, ℕ, Bool, true, false, ◌&&◌, ◌||◌, not, List, length, refl, sym, ap, ◌∙◌, subst}
use Rattle.tm_game_bits.specs.Coding.{Coding, IsIn}
use Rattle.tm_dd.specs.declared.node.NodeId.{NodeId}
use Rattle.tm_dd.specs.Table.{means}
use Rattle.tm_ddops.specs.Manager.{IsFunction}
use Rattle.tm_game_bits.specs.Functions.{Assignment, Function}
use Rattle.tm_game_bits.specs.States.{ReadsState}
use Rattle.tm_game_bits.proofs.Extended.{means-Extends}
use Rattle.tm_game.specs.Game.{GameData, Grows, IsStates, in_set}
use Rattle.tm_sem.specs.Forcing.{Stays}
use Rattle.tm_sem.specs.State.{StateData}
use Rattle.tm_solve.specs.Ids.{Is}
use Rattle.tm_solve.specs.Sets.{StateSet}
use Rattle.tm_syntax.specs.Design.{DesignTree}
use Rattle.tm_solve_exact.specs.Exact.{IsExactOf, IsStateSet, bit_set, coding, exact_game, exact_ids, exact_operator, functions, set_of, valid_set}
use Rattle.tm_solve_exact.specs.Listed.{and_parts}
use Rattle.tm_solve_exact.proofs.Growing.{coding_same, coding_told, game_told, kept_exact, same_coding, same_valid, set_tells, states_set, valid_told}
use Rattle.tm_solve_exact.proofs.Staying.{among_valid, bit_set_back, bit_set_reads, iff_same, stays_back, stays_told}

or_cases : (P : Type 0) (a b : Bool) → (a ≡ true → P) → (b ≡ true → P) → (a || b) ≡ true → P
or_cases P true b f g h = f refl
or_cases P false b f g h = g h

module _ (d : DesignTree) (g h : GameData) (is : IsExactOf d g) (grows : Grows g h) where
  pub is_told : (f : Function) → ReadsState (length g.order) f →
      ((v : Assignment) → f v ≡ true → valid_set g v ≡ true) → (set : StateSet) →
      ((s : StateData) → f ((coding g).assignment_of s) ≡ set s) → (id : NodeId) → IsFunction h.diagrams.table id f →
      Is (exact_game g).states (exact_ids h) id set
  is_told f reads within set same id function = record {
    known = record {
      set = record {
        known = function.known;
        reads = subst (λ (o : List ℕ). ReadsState (length o) (means h.diagrams.table id)) (sym grows.order)
            (λ v w one. function.meaning v ∙ reads v w one ∙ sym (function.meaning w));
      };
      valid = λ v there. ap (λ q. q v) (same_valid d g is h grows) ∙ within v (sym (function.meaning v) ∙ there);
    };
    means = record {
      same = λ s among.
          function.meaning ((coding h).assignment_of s)
          ∙ ap (λ (c : Coding). f (c.assignment_of s)) (same_coding d g is h grows)
          ∙ same s;
    };
  }

  -- what a known id means in the game that has grown
  kept_means : (id : NodeId) → IsStateSet g id → means h.diagrams.table id ≡ means g.diagrams.table id
  kept_means id set = means-Extends g.diagrams.table h.diagrams.table grows.diagrams id set.set.known

  module _ (a b : NodeId) (in_a : IsStateSet g a) (in_b : IsStateSet g b) (id : NodeId) where
    pub either_told : IsFunction h.diagrams.table id (λ v. means h.diagrams.table a v || means h.diagrams.table b v) →
        Is (exact_game g).states (exact_ids h) id (λ s. set_of g a s || set_of g b s)
    either_told function =
        is_told (λ v. means g.diagrams.table a v || means g.diagrams.table b v)
        (λ v w one. λ i. in_a.set.reads v w one i || in_b.set.reads v w one i)
        (λ v. or_cases (valid_set g v ≡ true) (means g.diagrams.table a v) (means g.diagrams.table b v) (in_a.valid v)
        (in_b.valid v)) (λ s. set_of g a s || set_of g b s) (λ s. refl) id
        (subst (λ (f : Function). IsFunction h.diagrams.table id f)
        (λ i v. kept_means a in_a i v || kept_means b in_b i v) function)

    pub both_told : IsFunction h.diagrams.table id (λ v. means h.diagrams.table a v && means h.diagrams.table b v) →
        Is (exact_game g).states (exact_ids h) id (λ s. set_of g a s && set_of g b s)
    both_told function =
        is_told (λ v. means g.diagrams.table a v && means g.diagrams.table b v)
        (λ v w one. λ i. in_a.set.reads v w one i && in_b.set.reads v w one i)
        (λ v there. in_a.valid v (and_parts (means g.diagrams.table a v) (means g.diagrams.table b v) there).0)
        (λ s. set_of g a s && set_of g b s) (λ s. refl) id
        (subst (λ (f : Function). IsFunction h.diagrams.table id f)
        (λ i v. kept_means a in_a i v && kept_means b in_b i v) function)

    pub rest_told : IsFunction h.diagrams.table id
        (λ v. means h.diagrams.table a v && not (means h.diagrams.table b v)) →
        Is (exact_game g).states (exact_ids h) id (λ s. set_of g a s && not (set_of g b s))
    rest_told function =
        is_told (λ v. means g.diagrams.table a v && not (means g.diagrams.table b v))
        (λ v w one. λ i. in_a.set.reads v w one i && not (in_b.set.reads v w one i))
        (λ v there. in_a.valid v (and_parts (means g.diagrams.table a v) (not (means g.diagrams.table b v)) there).0)
        (λ s. set_of g a s && not (set_of g b s)) (λ s. refl) id
        (subst (λ (f : Function). IsFunction h.diagrams.table id f)
        (λ i v. kept_means a in_a i v && not (kept_means b in_b i v)) function)

  -- ---- staying
  module _ (set : NodeId) (in_set_is : IsStateSet g set) (id : NodeId)
      (answer : IsStates d g.order h.diagrams.table (Stays d (in_set d g set)) id) where
    after_is : IsExactOf d h
    after_is = kept_exact d g is h grows

    here : IsStates d h.order h.diagrams.table (Stays d (in_set d g set)) id
    here = subst (λ (o : List ℕ). IsStates d o h.diagrams.table (Stays d (in_set d g set)) id) (sym grows.order) answer

    back_is : bit_set (coding g) (valid_set g) (set_of g set) ≡ means g.diagrams.table set
    back_is =
        bit_set_back d (coding g) (coding_told d g is) (valid_set g) (valid_told d g is) (means g.diagrams.table set)
        in_set_is.set.reads in_set_is.valid

    in_bits : Stays d (in_set d g set) ≡ Stays d (IsIn (coding g) (bit_set (coding g) (valid_set g) (set_of g set)))
    in_bits = λ i. Stays d (IsIn (sym (coding_same d g is) i) (sym back_is i))

    pub stay_told : Is (exact_game g).states (exact_ids h) id ((exact_operator g).stay (set_of g set))
    stay_told = record {
      known = states_set d h after_is (Stays d (in_set d g set)) id here;
      means = record {
        same = λ s among.
            let state = among_valid d (coding g) (coding_told d g is) (valid_set g) (valid_told d g is) s among in
            let back = (coding_told d g is).back s state in
            let told = set_tells d h after_is (Stays d (in_set d g set)) id here s state in
            iff_same (set_of h id s) ((exact_operator g).stay (set_of g set) s)
            (λ there.
            stays_back d (coding g) (coding_told d g is) (valid_set g) (valid_told d g is) (functions g)
            (game_told d g is) (bit_set (coding g) (valid_set g) (set_of g set))
            (bit_set_reads d (coding g) (coding_told d g is) (valid_set g) (valid_told d g is) (set_of g set))
            ((coding g).assignment_of s)
            (subst (λ (t : StateData).
            Stays d (IsIn (coding g) (bit_set (coding g) (valid_set g) (set_of g set))) t) (sym back)
            (subst (λ (P : StateData → Type 0). P s) in_bits (told.0 there))))
            (λ there.
            told.1
            (subst (λ (P : StateData → Type 0). P s) (sym in_bits)
            (subst (λ (t : StateData).
            Stays d (IsIn (coding g) (bit_set (coding g) (valid_set g) (set_of g set))) t) back
            (stays_told d (coding g) (coding_told d g is) (valid_set g) (valid_told d g is) (functions g)
            (game_told d g is) (bit_set (coding g) (valid_set g) (set_of g set))
            (bit_set_reads d (coding g) (coding_told d g is) (valid_set g) (valid_told d g is) (set_of g set))
            ((coding g).assignment_of s) there))));
      };
    }
