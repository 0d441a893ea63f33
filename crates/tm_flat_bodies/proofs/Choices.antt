-- Choices, whose alternatives wait.
use Rattle.std.proofs.Common.{◌≡◌, ℕ, zero, suc, ◌+◌, ◌≤◌, Bor, Option, None, Some, List, [], ◌∷◌, length, slice_get, take, refl, sym, ap, ◌∙◌, subst, arith}
use Rattle.std.specs.Option.{option_map}
use Rattle.std.proofs.lemmas.List.{take_all}
use Rattle.std.proofs.lemmas.Option.{slice_get-map}
use Rattle.std.specs.declared.vec.Vec.{Vec}
use Rattle.std.specs.declared.alloc.Global.{Global}
use Rattle.tm_base.specs.declared.place.Place.{Place}
use Rattle.tm_syntax.specs.declared.tree.Stmt.{Stmt}
use Rattle.tm_syntax.specs.Tree.{StmtRow, alternatives_of, choose, row_of}
use Rattle.tm_syntax.specs.Tree.View.{stmt_trees}
use Rattle.tm_flat_stmts.specs.Flows.{FlowTerms}
use Rattle.tm_flat_bodies.specs.declared.alternatives.Choice.{Choice}
use Rattle.tm_flat_bodies.specs.declared.course.Course.{Course}
use Rattle.tm_flat_bodies.specs.declared.stand.Stand.{Stand}
use Rattle.tm_flat_bodies.specs.declared.waiting.Row.TheVariants as rows
use Rattle.tm_flat_bodies.specs.declared.waiting.Spot.{Spot}
use Rattle.tm_flat_bodies.specs.declared.waiting.Todo.{Todo}
use Rattle.tm_flat_bodies.specs.declared.waiting.Todo.TheVariants as todo
use Rattle.tm_flat_bodies.specs.Inner.Alternatives.{AlternativeWalks, BlocksSoFar, EntersChoice, LeadsBeside, block_rows}
use Rattle.tm_flat_bodies.specs.Inner.Passing.{IsAlternative, JoinsFlows}
use Rattle.tm_flat_bodies.specs.Inner.Places.{IsAt, IsThere, stand_at}
use Rattle.tm_flat_bodies.specs.Inner.Waiting.{Does, OthersWalk, StepsTo, StmtGoal}
use Rattle.tm_flat_bodies.specs.Inner.Weights.{row_weight, stmt_most, todo_weight, weighs}
use Rattle.tm_flat_bodies.specs.Walks.{RowLeads, RowWalks, StmtWalks, WalkTables}
use Rattle.tm_flat_bodies.proofs.Alternating.{alternative_sound, alternative_walks, alternatives_there, blocks_begin, blocks_more, choice_leads, next_alternative}
use Rattle.tm_flat_bodies.proofs.Bodies.{rows_long}
use Rattle.tm_design.proofs.Zipped.{one_more_taken}
use Rattle.tm_flat_bodies.proofs.Passed.{take_length}
use Rattle.tm_flat_bodies.proofs.Stepping.{at_once}
use Rattle.tm_flat_bodies.proofs.Weights.{first_block_weighs}

-- where nothing is found of a list it has come to its end
past_end : {A : Type 0} (xs : List A) (i : ℕ) → slice_get xs i ≡ None → length xs ≤ i
past_end [] i none = omega arith
past_end (x ∷ xs) zero none = absurd (cc)
past_end (x ∷ xs) (suc i) none = let rest = past_end xs i none in omega (arith, rest)

-- the row of the block of a number
pub block_got : (blocks : List (Vec Stmt Global)) (i : ℕ) (block : Vec Stmt Global) → slice_get blocks i ≡ Some block →
    slice_get (block_rows blocks) i ≡ Some (row_of (stmt_trees block.items))
block_got blocks i block is =
    slice_get-map (λ (b : Vec Stmt Global). row_of (stmt_trees b.items)) blocks i
    ∙ ap (option_map (λ (b : Vec Stmt Global). row_of (stmt_trees b.items))) is

-- a choice begins with its first alternative
module _ (w : WalkTables) (start : Stand) (spot : Spot) (place : Place) (blocks : Bor (List (Vec Stmt Global)))
    (from now : Course) (flow : FlowTerms) (choice : Choice)
    (enters : EntersChoice w (length blocks.now) from now flow choice) (before after : List Todo)
    (left : after ≡ todo.Alternatives spot choice 0 blocks ∷ before) where
  abbrev all : List StmtRow
  all = block_rows blocks.now

  choose_there : IsThere w spot → StmtWalks w (stand_at w start spot) (choose place (alternatives_of all)) from flow →
      StepsTo w start (StmtGoal w (stand_at w start spot) (choose place (alternatives_of all)) from flow)
      (λ d. stmt_most d (stand_at w start spot) (choose place (alternatives_of all))) before after now None
  choose_there there walks =
      let f : Stand = stand_at w start spot in
      let begun : BlocksSoFar w f (length blocks.now) from flow choice (take 0 all) now None =
      blocks_begin w f (length blocks.now) from flow choice (take 0 all) now None refl refl enters walks.standing in
      record {
        front = todo.Alternatives spot choice 0 blocks ∷ [];
        waits = left;
        leads = (
          record {
            there = there;
            stand = walks.stand;
            begun = from;
            flow = flow;
            so_far = begun;
            typed = walks.typed;
            fits = walks.fits;
          },
          λ end g others.
              choice_leads w f (length blocks.now) from flow choice walks.stand.walkable walks.stand all end g
              (others from flow begun) all refl (rows_long blocks.now) place,
        );
        fewer = λ d has. omega arith;
      }

  pub choose_steps : (f : Stand) → IsAt w start spot f → StmtWalks w f (choose place (alternatives_of all)) from flow →
      StepsTo w start (StmtGoal w f (choose place (alternatives_of all)) from flow)
      (λ d. stmt_most d f (choose place (alternatives_of all))) before after now None
  choose_steps f at =
      subst (λ (h : Stand). StmtWalks w h (choose place (alternatives_of all)) from flow →
      StepsTo w start (StmtGoal w h (choose place (alternatives_of all)) from flow)
      (λ d. stmt_most d h (choose place (alternatives_of all))) before after now None) at.is (choose_there at.there)

-- the alternatives of a choice from a number on
module _ (w : WalkTables) (start : Stand) (spot : Spot) (choice : Choice) (index : ℕ)
    (blocks : Bor (List (Vec Stmt Global))) (now : Course) (joined : Option FlowTerms)
    (walks : OthersWalk w start spot choice index blocks.now now joined) where
  abbrev f : Stand
  f = stand_at w start spot

  abbrev listed : List StmtRow
  listed = block_rows blocks.now

  -- behind the last one the choice has been led through
  pub others_end : slice_get blocks.now index ≡ None → (before : List Todo) →
      StepsTo w start (Does w start (todo.Alternatives spot choice index blocks) now joined)
      (λ d. todo_weight d w start (todo.Alternatives spot choice index blocks)) before before now joined
  others_end none before =
      at_once w start (Does w start (todo.Alternatives spot choice index blocks) now joined)
      (λ d. todo_weight d w start (todo.Alternatives spot choice index blocks)) before before now joined refl
      (λ d. omega arith)
      (λ begun flow so_far.
      subst (λ (bs : List StmtRow). BlocksSoFar w f (length blocks.now) begun flow choice bs now joined)
      (take_all index listed
      (let long = rows_long blocks.now in let past = past_end blocks.now index none in omega (arith, long, past)))
      so_far)

  -- the next one
  module _ (block : StmtRow) (there : slice_get listed index ≡ Some block) where
    taken : length (take index listed) ≡ index
    taken = take_length listed index block there

    pub alternative_walks_here : AlternativeWalks w f block choice index now joined
    alternative_walks_here =
        subst (λ (k : ℕ). AlternativeWalks w f block choice k now joined) taken
        (next_alternative w f (length blocks.now) walks.begun walks.flow choice walks.stand.walkable walks.stand
        (take index listed) now joined walks.so_far listed block (ap (slice_get listed) taken ∙ there)
        (rows_long blocks.now)
        walks.typed walks.fits)

    -- one more has been led through
    more_led : (begun : Course) (flow : FlowTerms) (mid : Course) (g : Option FlowTerms) →
        BlocksSoFar w f (length blocks.now) begun flow choice (take index listed) now joined →
        LeadsBeside w f block choice index now mid joined g →
        BlocksSoFar w f (length blocks.now) begun flow choice (take (index + 1) listed) mid g
    more_led begun flow mid g so_far beside =
        subst (λ (bs : List StmtRow). BlocksSoFar w f (length blocks.now) begun flow choice bs mid g)
        (sym (one_more_taken listed index block there))
        (blocks_more w f (length blocks.now) begun flow choice walks.stand.walkable walks.stand (take index listed) now
        joined so_far block mid g
        (subst (λ (k : ℕ). LeadsBeside w f block choice k now mid joined g) (sym taken) beside))

    module _ (stmts : Bor (List Stmt)) (is : row_of (stmt_trees stmts.now) ≡ block) (chosen : Course)
        (here : FlowTerms) (reads : IsAlternative now chosen choice.flow choice.number index here) where
      beside : (one mid : Course) (left g : Option FlowTerms) →
          RowLeads w f (row_of (stmt_trees stmts.now)) chosen one here left → JoinsFlows one mid joined left g →
          LeadsBeside w f block choice index now mid joined g
      beside one mid left g leads joins = record {
        begun = chosen;
        ended = one;
        here = here;
        left = left;
        chosen = reads;
        leads = subst (λ (row : StmtRow). RowLeads w f row chosen one here left) is leads;
        joins = joins;
      }

      pub alternative_steps : (before first middle after : List Todo) →
          first ≡ todo.Alternatives spot choice (index + 1) blocks ∷ before → middle ≡ todo.Join joined ∷ first →
          after ≡ todo.Row spot (rows.Stmts stmts) ∷ middle →
          StepsTo w start (Does w start (todo.Alternatives spot choice index blocks) now joined)
          (λ d. todo_weight d w start (todo.Alternatives spot choice index blocks)) before after chosen (Some here)
      alternative_steps before first middle after others_left join_left row_left = record {
        front = todo.Row spot (rows.Stmts stmts) ∷ todo.Join joined
            ∷ todo.Alternatives spot choice (index + 1) blocks ∷ [];
        waits = row_left
            ∙ ap (λ (ts : List Todo). todo.Row spot (rows.Stmts stmts) ∷ ts)
            (join_left ∙ ap (λ (ts : List Todo). todo.Join joined ∷ ts) others_left);
        leads = (
          record {
            there = walks.there;
            walks = subst (λ (row : StmtRow). RowWalks w f row chosen here) (sym is)
                (alternative_walks w f block choice index now joined alternative_walks_here chosen here reads);
          },
          λ one left goes.
              let led = subst (λ (row : StmtRow). RowLeads w f row chosen one here left) is goes in
              let both = alternatives_there w f block choice index now joined alternative_walks_here chosen here reads
              walks.stand.walkable one left led in (
                record {
                  sound =
                      alternative_sound w f block choice index now joined alternative_walks_here chosen here reads
                      walks.stand.walkable one left led;
                  joins = both.0;
                  joined = both.1;
                },
                λ mid g joins. (
                  record {
                    there = walks.there;
                    stand = walks.stand;
                    begun = walks.begun;
                    flow = walks.flow;
                    so_far = more_led walks.begun walks.flow mid g walks.so_far (beside one mid left g goes joins);
                    typed = walks.typed;
                    fits = walks.fits;
                  },
                  λ end last others. λ begun flow so_far.
                      others begun flow (more_led begun flow mid g so_far (beside one mid left g goes joins)),
                ),
              ),
        );
        fewer = λ d has.
            let parts = first_block_weighs (weighs d f) listed index block there in
            let row = ap (row_weight (weighs d f)) is in
            omega (arith, parts, row);
      }
