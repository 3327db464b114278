-- A move that is tried, and how it is undone.
use Rattle.std.proofs.Common.{◌≡◌, ℕ, zero, suc, ◌≤◌, ◌<◌, Bool, true, false, List, [], ◌∷◌, length, map, get_or, set, Option, Some, None, refl, sym, ap, ◌∙◌, subst, arith}
use Rattle.std.specs.Prelude.{All, slice_get, if◌then◌else◌}
use Rattle.std.proofs.lemmas.Option.{same_Some, none-some, slice_get-get_or}
use Rattle.std.proofs.lemmas.List.{length-map}
use Rattle.std.proofs.lemmas.List.Elements.{filter_passes, All-weaker}
use Rattle.rand_pcg.specs.Lcg.{Lcg}
use Rattle.cg_model.specs.declared.mapping.Place.{Place}
use Rattle.cg_place.specs.declared.moves.Move.{Move}
use Rattle.cg_place.specs.Placed.{moved, back}
use Rattle.cg_walk_spec.specs.State.{State, edges, cost}
use Rattle.cg_walk_spec.specs.Walk.{edge, all_edges, touches, touching, unrouted, moved_by, IsRouted, IsTried, is_taken, rested, proposal}
use Rattle.cg_walk_spec.specs.Words.{word}
use Rattle.cg_walk_spec.proofs.Histories.{routed_history}
use Rattle.cg_walk_spec.specs.Pending.{Fits}
use Rattle.cg_walk_spec.specs.Pending.{Rising, Pending}
use Rattle.cg_walk_spec.proofs.Pending.{touching_rising, pending_moved}
use Rattle.cg_walk_spec.proofs.Undone.{routed_places, routed_length, tried_undone, restored, restored_is}
use Rattle.cg_walk_spec.proofs.Uses.{unrouted_places, unrouted_length, unrouted_history, touching_known, touching_none}
use Rattle.cg_anneal.specs.Walking.{Walking, IsWalking, IsAlone, MayPlace, IsRoutedBy, at_state}
use Rattle.cg_anneal.specs.Steps.{put_back, IsAttempt, IsStep}
use Rattle.cg_anneal.proofs.Loops.{put_restored}

set_back : (ps : List Place) (v : ℕ) (p d : Place) → set (set ps v p) v (get_or ps v d) ≡ ps
set_back [] v p d = refl
set_back (q ∷ ps) zero p d = refl
set_back (q ∷ ps) (suc v) p d = ap (λ xs. q ∷ xs) (set_back ps v p d)

mapped : (f : ℕ → Option (List ℕ)) (xs : List ℕ) (k : ℕ) → k < length xs → get_or (map f xs) k None ≡ f (get_or xs k 0)
mapped f [] k l = absurd (omega arith)
mapped f (x ∷ xs) zero l = refl
mapped f (x ∷ xs) (suc k) l = mapped f xs k (omega arith)

-- a node may be placed there whatever the state
pub may_at : (W : Walking) (S T : State) (m : Move) → MayPlace (at_state W S) m → MayPlace (at_state W T) m
may_at W S T m may = record { known = may.known; within = may.within; offers = may.offers; soon = may.soon }

module _ (W : Walking) (m : Move) (list : List ℕ) (h : list ≡ touching W.kernel m.node) where
  pub list_known : (V : Walking) (S : State) → V ≡ at_state W S → All (λ i. i < length (edges V.kernel)) list
  list_known V S e = subst (λ (X : Walking). All (λ i. i < length (edges X.kernel)) list) (sym e) (subst (λ xs. All (λ i. i < length (edges W.kernel)) xs) (sym h) (touching_known W.kernel m.node))

  pub list_rising : Rising list
  list_rising = subst (λ xs. Rising xs) (sym h) (touching_rising W.kernel m.node)

  unrouted_list : (T : State) → unrouted list T ≡ unrouted (touching W.kernel m.node) T
  unrouted_list T = ap (λ xs. unrouted xs T) h

  -- without their routes the node is alone
  pub alone_at : (V : Walking) (T : State) (v : ℕ) → length T.routes ≡ length (edges W.kernel) → v ≡ m.node → V ≡ at_state W (unrouted list T) → IsAlone V v
  alone_at V T v long hv e =
      subst (λ (X : Walking). IsAlone X v) (sym (e ∙ ap (λ (R : State). at_state W R) (unrouted_list T)))
      (subst (λ x. IsAlone (at_state W (unrouted (touching W.kernel m.node) T)) x) (sym hv)
      (λ i path l t b. none-some path (same_Some None (Some path) (sym (touching_none W.kernel m.node T i long l t) ∙ b))))

  pub pending_at : (V : Walking) (T : State) → length T.routes ≡ length (edges W.kernel) → V ≡ at_state W (unrouted (touching W.kernel m.node) T) → Pending list V.state
  pending_at V T long e =
      subst (λ xs. Pending xs V.state) (sym h) (subst (λ (X : Walking). Pending (touching W.kernel m.node) X.state) (sym e)
      (λ k d l.
      touching_none W.kernel m.node T (get_or (touching W.kernel m.node) k d) long (touching_known W.kernel m.node k d l) (filter_passes (touches W.kernel m.node) (all_edges W.kernel) k d l)))

  module _ (ok : IsWalking W) (V1 V2 : Walking) (e1 : V1 ≡ at_state W (unrouted list W.state)) (e2 : V2 ≡ at_state V1 (record V1.state { places = moved V1.state.places m })) where
    one : V1 ≡ at_state W (unrouted (touching W.kernel m.node) W.state)
    one = e1 ∙ ap (λ (R : State). at_state W R) (unrouted_list W.state)

    pub moved_is : V2 ≡ at_state W (moved_by W.kernel m W.state)
    moved_is = e2 ∙ ap (λ (X : Walking). at_state X (record X.state { places = moved X.state.places m })) one

    pub moved_pending : Pending list V2.state
    moved_pending =
        subst (λ xs. Pending xs V2.state) (sym h) (subst (λ (X : Walking). Pending (touching W.kernel m.node) X.state) (sym moved_is) (pending_moved W.kernel m W.state ok.good.routes))

    module _ (V3 : Walking) (by : IsRoutedBy list V2 V3) where
      pub is_tried : IsTried W.arch W.kernel W.ii m W.state V3.state
      is_tried =
          subst (λ xs. IsRouted W.arch W.kernel W.ii xs (moved_by W.kernel m W.state) V3.state) h
          (subst (λ (X : Walking). IsRouted X.arch X.kernel X.ii list X.state V3.state) moved_is by.routed)

      pub tried_is : V3 ≡ at_state W V3.state
      tried_is = by.same ∙ ap (λ (X : Walking). at_state X V3.state) moved_is

      pub tried_long : length V3.state.routes ≡ length (edges W.kernel)
      tried_long = routed_length W.arch W.kernel W.ii (touching W.kernel m.node) (moved_by W.kernel m W.state) V3.state is_tried ∙ unrouted_length (touching W.kernel m.node) W.state ∙ ok.good.routes

      -- whether it stands, by the costs
      module _ (moves k word before after : ℕ) (b : Bool) (hb : before ≡ cost W.arch W.kernel W.ii W.state) (ha : after ≡ cost V3.arch V3.kernel V3.ii V3.state) (hc : b ≡ is_taken moves k before after word) where
        stands : b ≡ is_taken moves k (cost W.arch W.kernel W.ii W.state) (cost W.arch W.kernel W.ii V3.state) word
        stands =
            hc ∙ ap (λ x. is_taken moves k x after word) hb
            ∙ ap (λ x. is_taken moves k (cost W.arch W.kernel W.ii W.state) x word) (ha ∙ ap (λ (X : Walking). cost X.arch X.kernel X.ii V3.state) tried_is)

        pub attempt_taken : b ≡ true → IsAttempt W m moves k word V3
        attempt_taken t = record {
          tried = V3.state;
          is_tried = is_tried;
          same = tried_is ∙ ap (λ x. at_state W (if x then V3.state else W.state)) (sym t ∙ stands);
        }

        pub attempt_refused : (V : Walking) → V ≡ W → b ≡ false → IsAttempt W m moves k word V
        attempt_refused V e f = record {
          tried = V3.state;
          is_tried = is_tried;
          same = e ∙ ap (λ x. at_state W (if x then V3.state else W.state)) (sym f ∙ stands);
        }

      module _ (V4 V5 : Walking) (b : Move) (hb : b ≡ back V1.state.places m) (e4 : V4 ≡ at_state V3 (unrouted list V3.state)) (e5 : V5 ≡ at_state V4 (record V4.state { places = moved V4.state.places b })) where
        pub dropped_is : V4 ≡ at_state W (unrouted list V3.state)
        dropped_is = e4 ∙ ap (λ (X : Walking). at_state X (unrouted list V3.state)) tried_is

        back_is : b ≡ back W.state.places m
        back_is = hb ∙ ap (λ (X : Walking). back X.state.places m) e1 ∙ ap (λ ps. back ps m) (unrouted_places list W.state)

        places_are : moved (unrouted list V3.state).places b ≡ W.state.places
        places_are =
            ap (λ ps. moved ps b)
            (unrouted_places list V3.state ∙ routed_places W.arch W.kernel W.ii (touching W.kernel m.node) (moved_by W.kernel m W.state) V3.state is_tried
            ∙ ap (λ ps. moved ps m) (unrouted_places (touching W.kernel m.node) W.state))
            ∙ ap (λ (x : Move). moved (moved W.state.places m) x) back_is ∙ set_back W.state.places m.node m.place (record { unit = 0; time = 0 })

        pub undone_is : V5 ≡ at_state W (unrouted (touching W.kernel m.node) W.state)
        undone_is =
            e5 ∙ ap (λ (X : Walking). at_state X (record X.state { places = moved X.state.places b })) dropped_is
            ∙ ap (λ ps. at_state W (record (unrouted list V3.state) { places = ps })) places_are
            ∙ ap (λ (R : State). at_state W (record R { places = W.state.places })) (unrouted_list V3.state)
            ∙ ap (λ (R : State). at_state W R) (tried_undone W.arch W.kernel W.ii m W.state V3.state is_tried)

        module _ (routes : List (Option (List ℕ))) (hr : routes ≡ map (λ i. get_or W.state.routes i None) list) where
          fits_some : (i : ℕ) (r : Option (List ℕ)) → i < length (edges W.kernel) → slice_get W.state.routes i ≡ Some r → Fits W.arch W.ii W.state.places (edge W.kernel i) r
          fits_some i None l s = tt
          fits_some i (Some path) l s = ok.good.paths i (edge W.kernel i) path (slice_get-get_or (edges W.kernel) i (record { node = 0; arg = 0; source = 0; distance = 0 }) l) s

          pub routes_long : length routes ≡ length list
          routes_long = ap (λ (xs : List (Option (List ℕ))). length xs) hr ∙ length-map list (λ i. get_or W.state.routes i None)

          pub fits_back : (k : ℕ) → k < length list → Fits V5.arch V5.ii V5.state.places (edge V5.kernel (get_or list k 0)) (get_or routes k None)
          fits_back k l =
              let i = get_or list k 0 in
              let known : i < length (edges W.kernel) = list_known W W.state refl k 0 l in
              let long = ok.good.routes in
              let f : ℕ → Option (List ℕ) = λ j. get_or W.state.routes j None in
              let read : get_or routes k None ≡ get_or W.state.routes i None = ap (λ (xs : List (Option (List ℕ))). get_or xs k None) hr ∙ mapped f list k l in
              let here : Fits W.arch W.ii W.state.places (edge W.kernel i) (get_or W.state.routes i None) = fits_some i (get_or W.state.routes i None) known (slice_get-get_or W.state.routes i None (omega (arith, known, long))) in
              subst (λ (X : Walking). Fits X.arch X.ii X.state.places (edge X.kernel i) (get_or routes k None)) (sym undone_is)
              (subst (λ ps. Fits W.arch W.ii ps (edge W.kernel i) (get_or routes k None)) (sym (unrouted_places (touching W.kernel m.node) W.state))
              (subst (λ (r : Option (List ℕ)). Fits W.arch W.ii W.state.places (edge W.kernel i) r) (sym read) here))

          pub restored_whole : (V6 : Walking) → V6 ≡ at_state V5 (put_back list routes V5.state) → V6 ≡ W
          restored_whole V6 e6 =
              e6 ∙ ap (λ (X : Walking). at_state X (put_back list routes X.state)) undone_is
              ∙ ap (λ rs. at_state W (put_back list rs (unrouted (touching W.kernel m.node) W.state))) hr
              ∙ ap (λ (R : State). at_state W R) (put_restored list W.state.routes (unrouted (touching W.kernel m.node) W.state))
              ∙ ap (λ xs. at_state W (restored xs W.state.routes (unrouted (touching W.kernel m.node) W.state))) h
              ∙ ap (λ (R : State). at_state W R) (restored_is (touching W.kernel m.node) W.state)

-- ---- steps

if_history : (b : Bool) (T S : State) → T.history ≡ S.history → (if b then T else S).history ≡ S.history
if_history true T S h = h
if_history false T S h = refl

pub attempt_small : (W V : Walking) (m : Move) (moves k word : ℕ) → IsAttempt W m moves k word V → k < 1000000 → All (λ x. x ≤ k) W.state.history → All (λ x. x < 4294967295) V.state.history
attempt_small W V m moves k word a l small =
    let b = is_taken moves k (cost W.arch W.kernel W.ii W.state) (cost W.arch W.kernel W.ii a.tried) word in
    let tried : a.tried.history ≡ W.state.history =
    routed_history W.arch W.kernel W.ii (touching W.kernel m.node) (moved_by W.kernel m W.state) a.tried a.is_tried ∙ unrouted_history (touching W.kernel m.node) W.state in
    let same : V.state.history ≡ W.state.history = ap (λ (X : Walking). X.state.history) a.same ∙ if_history b a.tried W.state tried in
    subst (λ xs. All (λ x. x < 4294967295) xs) (sym same) (All-weaker (λ x. x ≤ k) (λ x. x < 4294967295) (λ x le. omega (arith, l, le)) W.state.history small)

pub stepped : (W V U : Walking) (m : Move) (moves k w : ℕ) (g : Lcg) → m ≡ proposal W.arch W.kernel W.ii W.early g → w ≡ word 3 g → IsAttempt W m moves k w V →
    U ≡ at_state V (rested V.arch V.kernel V.ii k V.state) → IsStep W moves k g U
stepped W V U m moves k w g hm hw a e =
    let S = W.state in
    let f : ℕ → State = λ x. if is_taken moves k (cost W.arch W.kernel W.ii S) (cost W.arch W.kernel W.ii a.tried) x then a.tried else S in
    let whole : U ≡ at_state W (rested W.arch W.kernel W.ii k (f w)) = e ∙ ap (λ (X : Walking). at_state X (rested X.arch X.kernel X.ii k X.state)) a.same in
    let state : U.state ≡ rested W.arch W.kernel W.ii k (f w) = ap (λ (X : Walking). X.state) whole in
    record {
      same = whole ∙ ap (λ (R : State). at_state W R) (sym state);
      move = (a.tried, subst (λ (x : Move). IsTried W.arch W.kernel W.ii x S a.tried) hm a.is_tried, state ∙ ap (λ x. rested W.arch W.kernel W.ii k (f x)) hw);
    }
