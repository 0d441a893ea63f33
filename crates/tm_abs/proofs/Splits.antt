-- The calls that look for a cut cell.
use Rattle.std.proofs.Common.{◌≡◌, ◌≢◌, ℕ, true, ◌&&◌, List, [], sym, ap, ◌∙◌, subst}
use Rattle.tm_abs.proofs.Cutting.{cut_then, cut_valid, narrowed_none, none_cut}
use Rattle.tm_abs.proofs.Narrowing.{none_of_false, some_state}
use Rattle.tm_abs.proofs.Narrows.{both_kept}
use Rattle.tm_abs.proofs.ValidParts.{both_set, complement_set}
use Rattle.tm_abs.specs.Inner.Narrowed.{IsCutOff, IsNarrowed}
use Rattle.tm_abs.specs.Split.{PartsAreOne}
use Rattle.tm_abs.specs.Tracked.{IsPooled, tracked_of}
use Rattle.tm_dd.specs.declared.node.NodeId.{NodeId}
use Rattle.tm_dd.specs.declared.node.TheConstants.{FALSE}
use Rattle.tm_dd.specs.NodeId.{complement}
use Rattle.tm_dd.specs.Reduced.{IsReduced}
use Rattle.tm_dd.specs.Table.{means}
use Rattle.tm_dd.proofs.CallerLaws.{Knows-complement}
use Rattle.tm_ddops.specs.Manager.{IsFunction}
use Rattle.tm_flat_pool.specs.Cells.{IsInUpper}
use Rattle.tm_game.proofs.Growing.{grows_then, known_kept, means_kept, of_kept, order_kept, set_kept, states_kept}
use Rattle.tm_game.proofs.SetTests.{coding_told, states_set}
use Rattle.tm_game.specs.Game.{GameData, Grows, IsSet, IsStates}
use Rattle.tm_game.specs.Least.{HoldsNowhere, test_of}
use Rattle.tm_game.specs.Start.{state_bits_in}
use Rattle.tm_game_bits.proofs.Extended.{IsSetOf-Extends}
use Rattle.tm_game_bits.specs.AssignedStates.{assignment_of, state_of}
use Rattle.tm_game_bits.specs.Order.{IsOrder}
use Rattle.tm_sem.specs.State.{StateData}
use Rattle.tm_sem.specs.Step.{IsState}
use Rattle.tm_syntax.specs.Design.{DesignTree}

module _ (d : DesignTree) (g h k l : GameData) (gh : Grows g h) (hk : Grows h k) (kl : Grows k l)
    (pooled : IsPooled d g) (order : IsOrder (state_bits_in g.flat) g.order) (numbers : List ℕ)
    (c upper cut : NodeId) (c_set : IsSet g c)
    (upper_is : IsStates d g.order h.diagrams.table (IsInUpper d (tracked_of d numbers) (test_of d g c)) upper)
    (cut_is : IsFunction k.diagrams.table cut
    (λ v. means k.diagrams.table upper v && means k.diagrams.table (complement c) v)) where
  gk : Grows g k
  gk = grows_then g h k gh hk

  gl : Grows g l
  gl = grows_then g k l gk kl

  upper_at : (m : GameData) → Grows h m →
      IsStates d g.order m.diagrams.table (IsInUpper d (tracked_of d numbers) (test_of d g c)) upper
  upper_at m hm =
      IsSetOf-Extends h.diagrams.table m.diagrams.table hm.diagrams
      (λ v. IsState d (state_of d g.order v) ×
      IsInUpper d (tracked_of d numbers) (test_of d g c) (state_of d g.order v)) upper upper_is

  cut_now : IsFunction l.diagrams.table cut
      (λ v. means l.diagrams.table upper v && means l.diagrams.table (complement c) v)
  cut_now =
      both_kept k.diagrams.table l.diagrams.table kl.diagrams upper (complement c) cut (upper_at k hk).known
      (Knows-complement k.diagrams.table c (known_kept g k gk c c_set.known)) cut_is

  pub cut_set : IsSet k cut
  cut_set =
      both_set k upper (complement c) cut
      (states_set d k (of_kept g k gk d pooled.of) (order_kept g k gk order)
      (IsInUpper d (tracked_of d numbers) (test_of d g c)) upper
      (subst (λ (o : List ℕ). IsStates d o k.diagrams.table
      (IsInUpper d (tracked_of d numbers) (test_of d g c)) upper) (sym gk.order) (upper_at k hk)))
      (complement_set k c (set_kept g k gk c c_set)) cut_is

  -- where what is cut off is false there is none
  pub none_left : cut ≡ FALSE → HoldsNowhere d (test_of d k cut)
  none_left same t h = none_of_false k.diagrams.table cut (assignment_of d k.order t) same h.1

  -- and some state elsewhere
  pub some_left : IsReduced l.diagrams.table → cut ≢ FALSE →
      (t : StateData) × IsState d t × (test_of d l cut t ≡ true)
  some_left reduced differ =
      some_state d l.order (coding_told d l (of_kept g l gl d pooled.of) (order_kept g l gl order)) l.diagrams.table
      reduced cut cut_now.known (set_kept k l kl cut cut_set).reads
      (cut_valid d g l gl pooled.of order (tracked_of d numbers) c upper cut c_set
      (upper_at l (grows_then h k l hk kl)) cut_now) differ

  test_now : (t : StateData) → test_of d l cut t ≡ test_of d k cut t
  test_now t =
      (λ i. means_kept k l kl cut cut_is.known i (assignment_of d l.order t))
      ∙ ap (λ (o : List ℕ). means k.diagrams.table cut (assignment_of d o t)) kl.order

  -- no state is cut off
  pub none_split : HoldsNowhere d (test_of d k cut) → PartsAreOne d (tracked_of d numbers) (test_of d g c)
  none_split nowhere =
      none_cut d g l gl pooled.of order (tracked_of d numbers) c upper cut c_set
      (upper_at l (grows_then h k l hk kl)) cut_now (λ t there. nowhere t (there.0, sym (test_now t) ∙ there.1))

  -- one is
  pub whole_narrowed : (state : StateData) → IsState d state × (test_of d l cut state ≡ true) →
      IsStates d g.order g.diagrams.table (λ s. Unit {0}) g.valid →
      IsNarrowed d l l.diagrams.table cut [] state l.valid cut
  whole_narrowed state here valid_is =
      narrowed_none d l (of_kept g l gl d pooled.of) (order_kept g l gl order) l.valid cut
      (subst (λ (id : NodeId). IsStates d l.order l.diagrams.table (λ s. Unit {0}) id) (sym gl.valid)
      (states_kept g l gl d (λ s. Unit {0}) g.valid valid_is))
      (set_kept k l kl cut cut_set)
      (cut_valid d g l gl pooled.of order (tracked_of d numbers) c upper cut c_set
      (upper_at l (grows_then h k l hk kl)) cut_now) state here.0 here.1

  pub off_set : IsCutOff d l (tracked_of d numbers) (test_of d g c) cut
  off_set =
      cut_then d g l gl pooled.of order (tracked_of d numbers) c upper cut c_set (upper_at l (grows_then h k l hk kl))
      cut_now
