-- The alternatives of a choice: each is led through where the number is its own, beside those before it.
use Rattle.std.proofs.Common.{◌≡◌, ℕ, zero, suc, ◌+◌, ◌-◌, ◌<◌, ◌≤◌, ◌==◌, ◌^◌, Bool, true, false, Option, None, Some, List, [], ◌∷◌, ◌++◌, length, max, slice_get, refl, sym, ap, ◌∙◌, subst, arith}
use Rattle.std.specs.Prelude.{◌&&◌, ◌||◌, IfSome, if◌then◌else◌}
use Rattle.std.proofs.lemmas.Bool.Decides.{nat_tests}
use Rattle.std.proofs.lemmas.Option.{slice_get_within}
use Rattle.tm_base.specs.declared.place.Place.{Place}
use Rattle.tm_base.specs.Arithmetic.{IsWidth, bit, equal, is_nonzero}
use Rattle.tm_syntax.specs.Tree.{StmtRow, alternatives_of, blocks_of, choose}
use Rattle.tm_syntax.specs.Design.{DesignTree}
use Rattle.tm_syntax.specs.Design.Cells.{Called}
use Rattle.tm_syntax.specs.Design.Locations.{location_number}
use Rattle.tm_syntax.specs.Design.Scope.{Scope}
use Rattle.tm_syntax.specs.Design.Sizes.{bits_of_number}
use Rattle.tm_scope.specs.Cells.{ScopedCells, scope_of}
use Rattle.tm_term.specs.declared.term.TermId.{TermId}
use Rattle.tm_term.specs.Table.{IsSound, Table}
use Rattle.tm_term.specs.Value.{AreInputs, Extends, value_of}
use Rattle.tm_term.proofs.Valued.{Extends-trans}
use Rattle.tm_sem.specs.Run.{Ending, blocked}
use Rattle.tm_sem.specs.Value.{Memory}
use Rattle.tm_flat.specs.BitRun.{Reader, block_ending, number_at, row_ending}
use Rattle.tm_flat.specs.Fitting.{BlocksFit, BodyFits, ChoiceFits, RowFits}
use Rattle.tm_flat.specs.Inputs.{room}
use Rattle.tm_flat.specs.Positions.{blocks_after, body_after, choice_bits, later, row_after, stmt_after}
use Rattle.tm_flat.specs.Writes.{blocks_write, row_writes}
use Rattle.tm_flat_exprs.specs.Kept.{KeptTerms, Keeps}
use Rattle.tm_flat_exprs.specs.Made.{Makes}
use Rattle.tm_flat_exprs.proofs.Later.{Extends-refl, term_along}
use Rattle.tm_flat_stmts.specs.Flows.{AreEnds, Continues, EndTerms, FlowTerms, HasTerm, IsFlow, Leads, Leaves, Narrows, StopsHave, is_on}
use Rattle.tm_flat_stmts.specs.Statements.{Readers, reads, stmt_piece}
use Rattle.tm_flat_stmts.proofs.Flowing.{ends_along, flow_along, flow_along_if_there}
use Rattle.tm_flat_stmts.proofs.Leading.{continues_from, continues_so, leads_beside, leads_so}
use Rattle.tm_flat_stmts.proofs.Leaving.{or_left, or_right}
use Rattle.tm_flat_stmts.proofs.Pieces.{is_narrowed, leads_on, same_ends}
use Rattle.tm_flat_stmts.specs.Choices.{choice_bit}
use Rattle.tm_flat_bodies.specs.declared.alternatives.Choice.{Choice}
use Rattle.tm_flat_bodies.specs.declared.course.Course.{Course}
use Rattle.tm_flat_bodies.specs.declared.stand.Stand.{Stand}
use Rattle.tm_flat_bodies.specs.Asked.{BlocksAreTyped, RowIsTyped}
use Rattle.tm_flat_bodies.specs.Inner.Alternatives.{AlternativeWalks, BlocksSoFar, EntersChoice, LeadsBeside, chosen_by}
use Rattle.tm_flat_bodies.specs.Inner.Passing.{IsAlternative}
use Rattle.tm_flat_bodies.specs.Walks.{AreWalkable, BlocksLead, InEach, IsStand, IsStanding, RowLeads, RowWalks, StmtLeads, WalkTables, readers_at}
use Rattle.tm_flat_bodies.proofs.Standing.{bits_along, continues_at}

-- ---- lists of alternatives
pub blocks_are : (bs : List StmtRow) → blocks_of (alternatives_of bs) ≡ bs
blocks_are [] = refl
blocks_are (b ∷ bs) = ap (λ rest. b ∷ rest) (blocks_are bs)

-- the later of positions, one after the other
later_none : (a : Option ℕ) → later a None ≡ a
later_none None = refl
later_none (Some i) = refl

later_later : (a b c : Option ℕ) → later a (later b c) ≡ later (later a b) c
later_later None b c = refl
later_later (Some i) None c = refl
later_later (Some i) (Some j) None = refl
later_later (Some i) (Some j) (Some k) = ap Some (max_max i j k)
  where
    max_max : (i j k : ℕ) → max i (max j k) ≡ max (max i j) k
    max_max i j k = grind (arith, nat_tests)

module _ (r : Reader) (scope : Scope) (trail : List Place) where
  -- past the end nothing is done
  none_chosen : (bs : List StmtRow) (n k : ℕ) (m : Memory) → length bs ≤ n →
      block_ending r scope trail (alternatives_of bs) n k m ≡ blocked
  none_chosen [] n k m past = refl
  none_chosen (b ∷ bs) zero k m past = absurd (omega (arith, past))
  none_chosen (b ∷ bs) (suc n) k m past = none_chosen bs n k m (omega (arith, past))

  -- one more alternative is done where the number is that of those before it
  one_more : (bs : List StmtRow) (b : StmtRow) (n k : ℕ) (m : Memory) →
      (if n == length bs
      then row_ending r scope trail b k m
      else block_ending r scope trail (alternatives_of bs) n k m)
      ≡ block_ending r scope trail (alternatives_of (bs ++ b ∷ [])) n k m
  one_more [] b zero k m = refl
  one_more [] b (suc n) k m = ap (λ t. if t then row_ending r scope trail b k m else blocked) (apart n)
    where
      apart : (x : ℕ) → (suc x == 0) ≡ false
      apart x = grind (arith, nat_tests)
  one_more (a ∷ bs) b zero k m =
      ap (λ t. if t
      then row_ending r scope trail b k m
      else row_ending r scope trail a k m) (apart (length bs))
    where
      apart : (x : ℕ) → (0 == suc x) ≡ false
      apart x = grind (arith, nat_tests)
  one_more (a ∷ bs) b (suc n) k m =
      ap (λ t. if t
      then row_ending r scope trail b k m
      else block_ending r scope trail (alternatives_of bs) n k m) (same_test n (length bs))
      ∙ one_more bs b n k m
    where
      same_test : (x y : ℕ) → (suc x == suc y) ≡ (x == y)
      same_test x y = grind (arith, nat_tests)

more_after : (after : Called → ℕ → Option ℕ) (d : DesignTree) (scope : Scope) (bs : List StmtRow) (b : StmtRow)
    (k : ℕ) → later (blocks_after after d scope (alternatives_of bs) k) (row_after after d scope b k)
    ≡ blocks_after after d scope (alternatives_of (bs ++ b ∷ [])) k
more_after after d scope [] b k = sym (later_none (row_after after d scope b k))
more_after after d scope (a ∷ bs) b k =
    sym (later_later (row_after after d scope a k) (blocks_after after d scope (alternatives_of bs) k)
    (row_after after d scope b k))
    ∙ ap (later (row_after after d scope a k)) (more_after after d scope bs b k)

-- alternatives write what each does
or_one : (b : Bool) → b ≡ (b || false)
or_one true = refl
or_one false = refl

or_all : (a b c : Bool) → (a || (b || c)) ≡ ((a || b) || c)
or_all true b c = refl
or_all false b c = refl

more_written : (after : Called → ℕ → Option ℕ) (body : Called → ℕ → Bool) (d : DesignTree) (scope : Scope) (v : ℕ)
    (bs : List StmtRow) (b : StmtRow) (k : ℕ) →
    blocks_write after body d scope v (alternatives_of (bs ++ b ∷ [])) k
    ≡ (blocks_write after body d scope v (alternatives_of bs) k || row_writes after body d scope v b k)
more_written after body d scope v [] b k = sym (or_one (row_writes after body d scope v b k))
more_written after body d scope v (a ∷ bs) b k =
    ap (λ t. row_writes after body d scope v a k || t) (more_written after body d scope v bs b k)
    ∙ or_all (row_writes after body d scope v a k) (blocks_write after body d scope v (alternatives_of bs) k)
    (row_writes after body d scope v b k)

-- the alternative of a number has its types, and fits
typed_at : (s : ScopedCells) (bs : List StmtRow) (i : ℕ) (b : StmtRow) → slice_get bs i ≡ Some b →
    BlocksAreTyped s (alternatives_of bs) → RowIsTyped s b
typed_at s [] i b here typed = absurd (cc)
typed_at s (a ∷ bs) zero b here typed = let same : a ≡ b = cc in subst (RowIsTyped s) same typed.0
typed_at s (a ∷ bs) (suc i) b here typed = typed_at s bs i b here typed.1

fits_at : (size : ℕ) (after : Called → ℕ → Option ℕ) (Fits : Called → ℕ → Type 0) (d : DesignTree) (scope : Scope)
    (bs : List StmtRow) (k i : ℕ) (b : StmtRow) → slice_get bs i ≡ Some b →
    BlocksFit size after Fits d scope (alternatives_of bs) k → RowFits size after Fits d scope b k
fits_at size after Fits d scope [] k i b here fits = absurd (cc)
fits_at size after Fits d scope (a ∷ bs) k zero b here fits =
    let same : a ≡ b = cc in subst (λ row. RowFits size after Fits d scope row k) same fits.0
fits_at size after Fits d scope (a ∷ bs) k (suc i) b here fits =
    fits_at size after Fits d scope bs k i b here fits.1

-- ---- nothing is led through
nothing_led : (w : WalkTables) (number : Place → List Place → Option ℕ) (now : Course) (flow : FlowTerms) →
    IsStanding w now flow →
    Continues w.tables number (λ v m. blocked) None now.terms now.terms (Some flow) now.ends None now.ends
nothing_led w number now flow standing = record {
  grown = Extends-refl now.terms;
  sound = standing.sound;
  flow = tt;
  ends = standing.ended;
  count = refl;
  position = refl;
  leads = λ u more v inputs. record {
    goes = λ m on keeps. refl;
    memory = λ m n on keeps is. absurd (cc);
    ends = λ m on keeps quiet. record {
      stops = quiet.stops;
      memory = λ k at trail o is at_k. absurd (cc);
      fails = quiet.fails;
    };
    stays = λ off. refl;
    same = λ off. same_ends w.tables u v now.ends;
  };
}

module _ (w : WalkTables) (f : Stand) (count : ℕ) (from : Course) (flow : FlowTerms) (read : Choice) where
  pub blocks_begin : (bs : List StmtRow) (start : Course) (joined : Option FlowTerms) → bs ≡ [] → joined ≡ None →
      EntersChoice w count from start flow read → IsStanding w from flow →
      BlocksSoFar w f count from flow read bs start joined
  blocks_begin bs start joined none nothing enters standing =
      let entered : IsFlow w.tables start.terms read.flow =
      subst (IsFlow w.tables start.terms) (sym enters.flow)
      (let along = flow_along w.tables from.terms start.terms flow enters.number.grown standing.stands in
      record { guard = along.guard; memory = along.memory }) in
      let now : IsStanding w start read.flow = record {
        sound = enters.number.sound;
        bits = bits_along from.terms start.terms w.first room enters.number.grown standing.bits;
        stands = entered;
        ended = subst (AreEnds w.tables start.terms) (sym enters.ends)
            (ends_along w.tables from.terms start.terms from.ends enters.number.grown standing.ended);
        count = ap (λ (e : EndTerms). length e.stops) enters.ends ∙ standing.count;
      } in
      subst (λ (cs : List StmtRow). BlocksSoFar w f count from flow read cs start joined) (sym none)
      (subst (λ (o : Option FlowTerms). BlocksSoFar w f count from flow read [] start o) (sym nothing) (record {
        start = start;
        enters = enters;
        leads = λ d p has are trail is. record {
          goes = nothing_led w (λ at calls. Some (location_number d p at calls)) start read.flow now;
          leaves = λ i unwritten. record { flow = λ id has. tt; stops = λ id has are. are };
        };
        standing = now;
      }))

  module _ (walkable : AreWalkable w) (stand : IsStand w f) (bs : List StmtRow) (now : Course)
      (joined : Option FlowTerms) (far : BlocksSoFar w f count from flow read bs now joined) where
    -- one more
    pub blocks_more : (b : StmtRow) (end : Course) (g : Option FlowTerms) →
        LeadsBeside w f b read (length bs) now end joined g →
        BlocksSoFar w f count from flow read (bs ++ b ∷ []) end g
    blocks_more b end g beside =
        record { start = far.start; enters = far.enters; leads = leads; standing = standing }
      where
        past : (x y : ℕ) → (x == y) ≡ true → y ≤ x
        past x y is = grind (arith, nat_tests)

        one_grown : Extends far.start.terms now.terms
        one_grown =
            (far.leads walkable.design walkable.process walkable.cells walkable.are stand.calls stand.trail).goes.grown

        two_led : Continues w.tables (λ at calls. Some (location_number walkable.design walkable.process at calls))
            (λ v. row_ending (reads (readers_at f.depth w.first walkable.design) v) (scope_of f.reader.at) stand.calls b
            beside.here.position)
            (row_after (body_after f.depth walkable.design) walkable.design (scope_of f.reader.at) b
            beside.here.position) beside.begun.terms beside.ended.terms (Some beside.here) beside.begun.ends
            beside.left beside.ended.ends
        two_led =
            (beside.leads walkable.design walkable.process walkable.cells walkable.are stand.calls stand.trail).goes

        all_grown : Extends now.terms end.terms
        all_grown =
            Extends-trans now.terms beside.begun.terms end.terms beside.chosen.narrow.grown
            (Extends-trans beside.begun.terms beside.ended.terms end.terms two_led.grown beside.joins.join.grown)

        standing : IsStanding w end read.flow
        standing = record {
          sound = beside.joins.join.sound;
          bits = bits_along now.terms end.terms w.first room all_grown far.standing.bits;
          stands = flow_along w.tables now.terms end.terms read.flow all_grown far.standing.stands;
          ended = subst (AreEnds w.tables end.terms) (sym beside.joins.ends)
              (ends_along w.tables beside.ended.terms end.terms beside.ended.ends beside.joins.join.grown two_led.ends);
          count = ap (λ (e : EndTerms). length e.stops) beside.joins.ends
              ∙ two_led.count
              ∙ ap (λ (e : EndTerms). length e.stops) beside.chosen.ends
              ∙ far.standing.count;
        }

        in_here : (i : ℕ) (id : TermId) → HasTerm i id read.flow → HasTerm i id beside.here
        in_here i id has =
            subst (λ (k : KeptTerms). slice_get k.values i ≡ Some id) (sym beside.chosen.narrow.memory) has

        left_alone : (i : ℕ) → Leaves i (Some read.flow) far.start.ends joined now.ends →
            Leaves i (Some beside.here) beside.begun.ends beside.left beside.ended.ends →
            Leaves i (Some read.flow) far.start.ends g end.ends
        left_alone i one two = record {
          flow = λ id has. beside.joins.join.same i id (one.flow id has) (two.flow id (in_here i id has));
          stops = λ id has are.
              subst (StopsHave i id) (sym beside.joins.ends)
              (two.stops id (in_here i id has)
              (subst (StopsHave i id) (sym beside.chosen.ends) (one.stops id has are)));
        }

        leads : BlocksLead w f (alternatives_of (bs ++ b ∷ [])) (chosen_by w flow read) far.start end read.flow g
        leads d p has are trail is =
            let r : Readers = readers_at f.depth w.first d in
            let scope : Scope = scope_of f.reader.at in
            let number : Place → List Place → Option ℕ = λ at calls. Some (location_number d p at calls) in
            let k : ℕ = read.flow.position in
            let before : List ℕ → Memory → Ending =
            λ v. block_ending (reads r v) scope trail (alternatives_of bs) (chosen_by w flow read v) k in
            let row : List ℕ → Memory → Ending = λ v. row_ending (reads r v) scope trail b k in
            let led = far.leads d p has are trail is in
            let ran = beside.leads d p has are trail is in
            let one = led.goes in
            let two = subst (λ i. Continues w.tables number (λ v. row_ending (reads r v) scope trail b i)
            (row_after r.after d scope b i) beside.begun.terms beside.ended.terms (Some beside.here) beside.begun.ends
            beside.left beside.ended.ends) beside.chosen.narrow.position ran.goes in
            let join = beside.joins.join in
            let last : Extends beside.begun.terms end.terms =
            Extends-trans beside.begun.terms beside.ended.terms end.terms two.grown join.grown in
            let goes : Continues w.tables number
            (λ v. block_ending (reads r v) scope trail (alternatives_of (bs ++ b ∷ [])) (chosen_by w flow read v) k)
            (blocks_after r.after d scope (alternatives_of (bs ++ b ∷ [])) k) far.start.terms end.terms
            (Some read.flow) far.start.ends g end.ends = record {
              grown = Extends-trans far.start.terms now.terms end.terms one.grown all_grown;
              sound = join.sound;
              flow = join.flow w.tables
                  (flow_along_if_there w.tables now.terms beside.ended.terms joined
                  (Extends-trans now.terms beside.begun.terms beside.ended.terms beside.chosen.narrow.grown two.grown)
                  one.flow) two.flow;
              ends = standing.ended;
              count = ap (λ (e : EndTerms). length e.stops) beside.joins.ends
                  ∙ two.count
                  ∙ ap (λ (e : EndTerms). length e.stops) beside.chosen.ends
                  ∙ one.count;
              position =
                  join.position
                  ∙ (λ i. later (one.position i) (two.position i))
                  ∙ more_after r.after d scope bs b k;
              leads = λ u more v inputs.
                  let late : Extends beside.ended.terms u =
                  Extends-trans beside.ended.terms end.terms u join.grown more in
                  let middle : Extends beside.begun.terms u = Extends-trans beside.begun.terms end.terms u last more in
                  let early : Extends now.terms u = Extends-trans now.terms end.terms u all_grown more in
                  let test : Memory → Bool = λ m. chosen_by w flow read v == length bs in
                  let told : (x : Table) → Extends beside.begun.terms x → (y : List ℕ) → AreInputs x y →
                  (m : Memory) → is_on x y (Some read.flow) ≡ true → Keeps w.tables x y read.flow.memory m →
                  (value_of x y read.number == length bs) ≡ (chosen_by w flow read y == length bs) =
                  λ x grown y are m on keeps.
                  ap (λ n. n == length bs)
                  (far.enters.number.value x
                  (Extends-trans far.start.terms now.terms x one.grown
                  (Extends-trans now.terms beside.begun.terms x beside.chosen.narrow.grown grown)) y are) in
                  subst (λ (ends : EndTerms). Leads w.tables u v number
                  (λ m. block_ending (reads r v) scope trail (alternatives_of (bs ++ b ∷ []))
                  (chosen_by w flow read v) k m)
                  (Some read.flow) far.start.ends g ends) (sym beside.joins.ends)
                  (leads_so w.tables u v number (λ m. if test m then row v m else before v m)
                  (λ m. block_ending (reads r v) scope trail (alternatives_of (bs ++ b ∷ []))
                  (chosen_by w flow read v) k m)
                  (Some read.flow) g far.start.ends beside.ended.ends
                  (λ m. one_more (reads r v) scope trail bs b (chosen_by w flow read v) k m)
                  (leads_beside w.tables u v number (before v) (row v) test (Some read.flow) (Some beside.here) joined
                  beside.left g far.start.ends now.ends beside.ended.ends (one.leads u early v inputs)
                  (leads_on w.tables number (λ y m. chosen_by w flow read y == length bs) now.terms beside.begun.terms
                  read.flow
                  beside.here now.ends (λ x y. value_of x y read.number == length bs) beside.chosen.narrow told u
                  middle v inputs)
                  (subst (λ (ends : EndTerms). Leads w.tables u v number (row v) (Some beside.here) ends beside.left
                  beside.ended.ends) beside.chosen.ends (two.leads u late v inputs))
                  (join.joins w.tables u more v inputs)
                  (λ m is_b. none_chosen (reads r v) scope trail bs (chosen_by w flow read v) k m
                  (past (chosen_by w flow read v) (length bs) is_b))));
            } in
            record {
              goes = goes;
              leaves = λ i none.
                  let before_writes : Bool = blocks_write r.after (r.writes i) d scope i (alternatives_of bs) k in
                  let row_may : Bool = row_writes r.after (r.writes i) d scope i b k in
                  let parts : (before_writes || row_may) ≡ false =
                  sym (more_written r.after (r.writes i) d scope i bs b k) ∙ none in
                  left_alone i (led.leaves i (or_left before_writes row_may parts))
                  (ran.leaves i
                  (ap (row_writes r.after (r.writes i) d scope i b) beside.chosen.narrow.position
                  ∙ or_right before_writes row_may parts));
            }

    width_is : (all : List StmtRow) → count ≡ length all → read.width ≡ choice_bits (alternatives_of all)
    width_is all many =
        far.enters.width ∙ ap (λ n. bits_of_number (n - 1)) (many ∙ sym (ap length (blocks_are all)))

    position_is : (all : List StmtRow) → count ≡ length all →
        read.flow.position ≡ flow.position + choice_bits (alternatives_of all)
    position_is all many =
        ap (λ (h : FlowTerms). h.position) far.enters.flow ∙ ap (λ n. flow.position + n) (width_is all many)

    -- what the next alternative asks for
    pub next_alternative : (all : List StmtRow) (b : StmtRow) → slice_get all (length bs) ≡ Some b →
        count ≡ length all → BlocksAreTyped f.reader (alternatives_of all) →
        InEach w (λ d. ChoiceFits (alternatives_of all) × (flow.position + choice_bits (alternatives_of all) ≤ room)
        × BlocksFit room (body_after f.depth d) (BodyFits room f.depth d) d (scope_of f.reader.at) (alternatives_of all)
        (flow.position + choice_bits (alternatives_of all))) → AlternativeWalks w f b read (length bs) now joined
    next_alternative all b here many typed fits =
        let one =
        (far.leads walkable.design walkable.process walkable.cells walkable.are stand.calls stand.trail).goes in
        record {
          stand = stand;
          typed = typed_at f.reader all (length bs) b here typed;
          fits = λ d p has are.
              subst (RowFits room (body_after f.depth d) (BodyFits room f.depth d) d (scope_of f.reader.at) b)
              (sym (position_is all many))
              (fits_at room (body_after f.depth d) (BodyFits room f.depth d) d (scope_of f.reader.at) all
              (flow.position + choice_bits (alternatives_of all)) (length bs) b here (fits d p has are).2);
          standing = far.standing;
          is_width = far.enters.is_width;
          within =
              let most : length (blocks_of (alternatives_of all)) ≤ 2 ^ choice_bits (alternatives_of all) =
              (fits walkable.design walkable.process walkable.cells walkable.are).0 in
              let long : length all ≤ 2 ^ read.width =
              subst (λ n. length all ≤ 2 ^ n) (sym (width_is all many))
              (subst (λ bs. length bs ≤ 2 ^ choice_bits (alternatives_of all)) (blocks_are all) most) in
              let inside : length bs < length all = slice_get_within all (length bs) b here in
              omega (arith, inside, long);
          term = term_along far.start.terms now.terms read.width read.number one.grown far.enters.number.term;
          before = one.flow;
        }

    -- what was left alone behind the number was so before it was read
    entered_alone : (i : ℕ) → Leaves i (Some read.flow) far.start.ends joined now.ends →
        Leaves i (Some flow) from.ends joined now.ends
    entered_alone i one =
        let moved = subst (λ (h : FlowTerms). Leaves i (Some h) far.start.ends joined now.ends) far.enters.flow one in
        record {
          flow = moved.flow;
          stops = λ id has are. moved.stops id has (subst (StopsHave i id) (sym far.enters.ends) are);
        }

    -- all have been led through
    pub choice_leads : (all : List StmtRow) → bs ≡ all → count ≡ length all → (at : Place) →
        StmtLeads w f (choose at (alternatives_of all)) from now flow joined
    choice_leads all is many at d p has are trail led =
        let r : Readers = readers_at f.depth w.first d in
        let scope : Scope = scope_of f.reader.at in
        let number : Place → List Place → Option ℕ = λ at calls. Some (location_number d p at calls) in
        let piece : List StmtRow → List ℕ → Memory → Ending =
        λ cs v. block_ending (reads r v) scope trail (alternatives_of cs) (chosen_by w flow read v) read.flow.position
        in
        let one = subst (λ (cs : List StmtRow). Continues w.tables number (piece cs)
        (blocks_after r.after d scope (alternatives_of cs) read.flow.position) far.start.terms now.terms
        (Some read.flow) far.start.ends joined now.ends) is (far.leads d p has are trail led).goes in
        let moved = subst (λ (h : FlowTerms). Continues w.tables number (piece all)
        (blocks_after r.after d scope (alternatives_of all) read.flow.position) far.start.terms now.terms (Some h)
        far.start.ends joined now.ends) far.enters.flow one in
        let begun = continues_at w.tables number (piece all)
        (blocks_after r.after d scope (alternatives_of all) read.flow.position) far.start.terms now.terms flow
        (flow.position + read.width) joined far.start.ends now.ends moved in
        let whole = continues_from w.tables number (piece all)
        (blocks_after r.after d scope (alternatives_of all) read.flow.position) from.terms far.start.terms now.terms
        (Some flow) joined from.ends now.ends far.enters.number.grown
        (subst (λ (ends : EndTerms). Continues w.tables number (piece all)
        (blocks_after r.after d scope (alternatives_of all) read.flow.position) far.start.terms now.terms (Some flow)
        ends joined now.ends) far.enters.ends begun) in
        record {
          goes =
              continues_so w.tables number (piece all)
              (stmt_piece r scope trail (choose at (alternatives_of all)) flow.position)
              (blocks_after r.after d scope (alternatives_of all) read.flow.position)
              (stmt_after r.after d scope (choose at (alternatives_of all)) flow.position) from.terms now.terms
              (Some flow)
              joined from.ends now.ends
              (λ v m i. block_ending (reads r v) scope trail (alternatives_of all)
              (number_at (choice_bit w.first v) flow.position (width_is all many i)) (position_is all many i) m)
              (λ i. blocks_after r.after d scope (alternatives_of all) (position_is all many i)) whole;
          leaves = λ i none.
              entered_alone i
              ((far.leads d p has are trail led).leaves i
              ((λ j. blocks_write r.after (r.writes i) d scope i (alternatives_of (is j)) (position_is all many j)) ∙
              none));
        }

-- the bits of a choice are there
pub choice_within : (all : List StmtRow) (count k size : ℕ) → count ≡ length all →
    k + choice_bits (alternatives_of all) ≤ size → k + bits_of_number (count - 1) ≤ size
choice_within all count k size many inside =
    subst (λ n. k + n ≤ size)
    (ap (λ n. bits_of_number (n - 1)) (ap length (blocks_are all) ∙ sym many)) inside

-- ---- one alternative
module _ (w : WalkTables) (f : Stand) (row : StmtRow) (read : Choice) (index : ℕ) (now : Course)
    (joined : Option FlowTerms) (walks : AlternativeWalks w f row read index now joined) where
  module _ (begun : Course) (here : FlowTerms) (chosen : IsAlternative now begun read.flow read.number index here) where
    -- it may be walked where the number is its own
    pub alternative_walks : RowWalks w f row begun here
    alternative_walks = record {
      stand = walks.stand;
      typed = walks.typed;
      fits = λ d p has are.
          subst (RowFits room (body_after f.depth d) (BodyFits room f.depth d) d (scope_of f.reader.at) row)
          (sym chosen.narrow.position) (walks.fits d p has are);
      standing = record {
        sound = chosen.narrow.sound;
        bits = bits_along now.terms begun.terms w.first room chosen.narrow.grown walks.standing.bits;
        stands = is_narrowed w.tables now.terms begun.terms read.flow here
            (λ u v. value_of u v read.number == index) chosen.narrow walks.standing.stands;
        ended = subst (AreEnds w.tables begun.terms) (sym chosen.ends)
            (ends_along w.tables now.terms begun.terms now.ends chosen.narrow.grown walks.standing.ended);
        count = ap (λ (e : EndTerms). length e.stops) chosen.ends ∙ walks.standing.count;
      };
    }

    module _ (walkable : AreWalkable w) (ended : Course) (left : Option FlowTerms)
        (leads : RowLeads w f row begun ended here left) where
      led : Continues w.tables (λ at calls. Some (location_number walkable.design walkable.process at calls))
          (λ v. row_ending (reads (readers_at f.depth w.first walkable.design) v) (scope_of f.reader.at)
          walks.stand.calls row here.position)
          (row_after (body_after f.depth walkable.design) walkable.design (scope_of f.reader.at) row here.position)
          begun.terms ended.terms (Some here) begun.ends left ended.ends
      led =
          (leads walkable.design walkable.process walkable.cells walkable.are walks.stand.calls walks.stand.trail).goes

      pub alternative_sound : IsSound ended.terms
      alternative_sound = led.sound

      -- the flow behind it, and the one behind those before it
      pub alternatives_there : IfSome joined (IsFlow w.tables ended.terms) × IfSome left (IsFlow w.tables ended.terms)
      alternatives_there = (
        flow_along_if_there w.tables now.terms ended.terms joined
            (Extends-trans now.terms begun.terms ended.terms chosen.narrow.grown led.grown) walks.before,
        led.flow,
      )

-- the number of an alternative was read
pub entered_so : (w : WalkTables) (count : ℕ) (from now : Course) (f : FlowTerms) (read : Choice) (start : ℕ) →
    start ≡ f.position → read.width ≡ bits_of_number (count - 1) → IsWidth read.width →
    read.flow ≡ record { guard = f.guard; memory = f.memory; position = start + read.width } →
    Makes from.terms now.terms read.width read.number (λ u v. number_at (choice_bit w.first v) start read.width) →
    now.ends ≡ from.ends → EntersChoice w count from now f read
entered_so w count from now f read start begins width is_width flow number ends = record {
  width = width;
  is_width = is_width;
  flow = flow ∙ (λ i. record { guard = f.guard; memory = f.memory; position = begins i + read.width });
  number = subst (λ k. Makes from.terms now.terms read.width read.number
      (λ u v. number_at (choice_bit w.first v) k read.width)) begins number;
  ends = ends;
}

-- the runs at which a number is this one
told : (b : Bool) → is_nonzero (bit b) ≡ b
told true = refl
told false = refl

pub is_alternative : (from now : Course) (p q : Table) (f : FlowTerms) (number : TermId) (index : ℕ)
    (constant here : TermId) (g : FlowTerms) {width : ℕ} → Makes from.terms p width constant (λ u v. index) →
    Makes p q 1 here (λ u v. equal (value_of u v number) (value_of u v constant)) →
    Narrows q now.terms f g (λ u v. is_nonzero (value_of u v here)) → now.ends ≡ from.ends →
    IsAlternative from now f number index g
is_alternative from now p q f number index constant here g makes_constant makes_here narrow ends =
    let late : Extends p now.terms = Extends-trans p q now.terms makes_here.grown narrow.grown in
    record {
      narrow = record {
        grown = Extends-trans from.terms p now.terms makes_constant.grown late;
        sound = narrow.sound;
        guard = narrow.guard;
        memory = narrow.memory;
        position = narrow.position;
        on = λ u more v inputs.
            narrow.on u more v inputs
            ∙ ap (λ x. is_on u v (Some f) && is_nonzero x)
            (makes_here.value u (Extends-trans q now.terms u narrow.grown more) v inputs
            ∙ ap (equal (value_of u v number))
            (makes_constant.value u (Extends-trans p now.terms u late more) v inputs))
            ∙ ap (λ b. is_on u v (Some f) && b) (told (value_of u v number == index));
      };
      ends = ends;
    }
