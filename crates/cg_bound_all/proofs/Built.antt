-- The certificate of a flow, and the times of places, by definitions alone.
use Rattle.std.proofs.Common.{◌≡◌, ℕ, zero, suc, ◌+◌, ◌-◌, ◌*◌, ◌^◌, ◌<◌, ◌≤◌, List, [], ◌∷◌, ◌++◌, length, Bool, refl, ap, arith, ⊎_elim}
use Rattle.std.specs.Prelude.{slice_index}
use Rattle.std.proofs.lemmas.Bool.{cases_lt}
use Rattle.std.proofs.lemmas.List.{length_push}
use Rattle.cg_model.specs.Kernel.{Kernel}
use Rattle.cg_bound_registers.specs.declared.certificate.Stay.{Stay as StayEdge}
use Rattle.cg_bound_registers.specs.declared.certificate.Pull.{Pull as PullEdge}
use Rattle.cg_bound_registers.specs.declared.certificate.Tie.{Tie as TieEdge}
use Rattle.cg_bound_registers.specs.declared.certificate.Pressure.{Pressure}
use Rattle.cg_bound_registers.specs.declared.dependence.Dependence.{Dependence}
use Rattle.cg_bound_registers.specs.declared.times.Times.{Times}
use Rattle.cg_bound_registers.specs.Pressure.{data_edge, order_edge, weigh}
use Rattle.cg_bound_flow.specs.Finish.{stay_of, IsSchedule}
use Rattle.cg_bound_flow.specs.declared.network.Link.{Link}
use Rattle.cg_bound_flow.specs.declared.network.Part.{Part}
use Rattle.cg_bound_flow.specs.declared.network.Part.TheVariants.{Least, Most, Pull, Stay, Tie}
use Rattle.cg_bound_flow.specs.Network.{link}
use Rattle.cg_bound_flow.specs.Taken.{on_stay, on_pull, on_tie, taken, IsTaken, HasAtMost}
use Rattle.cg_bound_flow.proofs.Certificates.{stay_added, pull_added, tie_added, next_suc}
use Rattle.cg_bound_all.proofs.Tables.{held}
use Rattle.cg_bound_all.proofs.Residual.{listed}

-- ---- the certificate of a flow

module _ (K : Kernel) (links : List Link) (flow : List ℕ) where
  abbrev weigh_stays : (Dependence → ℕ) → List StayEdge → ℕ
  weigh_stays f xs = weigh (λ (s : StayEdge). 1) (λ s. data_edge K s.node s.arg) f xs

  abbrev weigh_pulls : (Dependence → ℕ) → List PullEdge → ℕ
  weigh_pulls f xs = weigh (λ (x : PullEdge). x.weight) (λ x. data_edge K x.node x.arg) f xs

  abbrev weigh_ties : (Dependence → ℕ) → List TieEdge → ℕ
  weigh_ties f xs = weigh (λ (x : TieEdge). x.weight) (λ x. order_edge K x.edge) f xs

  abbrev MoreStays : List StayEdge → Part → ℕ → Type 0
  MoreStays xs p w = (ys : List StayEdge) × ((f : Dependence → ℕ) → weigh_stays f ys ≡ weigh_stays f xs + w * on_stay K f p) × (length ys ≤ length xs + 1)

  abbrev MorePulls : List PullEdge → Part → ℕ → Type 0
  MorePulls xs p w = (ys : List PullEdge) × ((f : Dependence → ℕ) → weigh_pulls f ys ≡ weigh_pulls f xs + w * on_pull K f p) × (length ys ≤ length xs + 1)

  abbrev MoreTies : List TieEdge → Part → ℕ → Type 0
  MoreTies xs p w = (ys : List TieEdge) × ((f : Dependence → ℕ) → weigh_ties f ys ≡ weigh_ties f xs + w * on_tie K f p) × (length ys ≤ length xs + 1)

  more_stays : (xs : List StayEdge) (p : Part) (w : ℕ) → ((v q : ℕ) → p ≡ Stay v q → w ≤ 1) → MoreStays xs p w
  more_stays xs (Stay v q) w few =
      ⊎_elim
      (λ (l : 0 < w).
      let x : StayEdge = record { node = v; arg = q } in
      let long = length_push xs x in
      (xs ++ x ∷ [], λ f. stay_added K f xs (xs ++ x ∷ []) (Stay v q) v q w l (few v q refl) refl refl, omega arith))
      (λ (l : w ≤ 0). (xs, λ f. let z : w ≡ 0 = omega arith in let e = ap (λ y. y * on_stay K f (Stay v q)) z in omega arith, omega arith))
      (cases_lt 0 w)
  more_stays xs (Least v) w few = (xs, λ f. omega arith, omega arith)
  more_stays xs (Most v) w few = (xs, λ f. omega arith, omega arith)
  more_stays xs (Pull v q) w few = (xs, λ f. omega arith, omega arith)
  more_stays xs (Tie e) w few = (xs, λ f. omega arith, omega arith)

  more_pulls : (xs : List PullEdge) (p : Part) (w : ℕ) → MorePulls xs p w
  more_pulls xs (Pull v q) w =
      let x : PullEdge = record { node = v; arg = q; weight = w } in
      let long = length_push xs x in
      (xs ++ x ∷ [], λ f. pull_added K f xs (xs ++ x ∷ []) (Pull v q) v q w refl refl, omega arith)
  more_pulls xs (Least v) w = (xs, λ f. omega arith, omega arith)
  more_pulls xs (Most v) w = (xs, λ f. omega arith, omega arith)
  more_pulls xs (Stay v q) w = (xs, λ f. omega arith, omega arith)
  more_pulls xs (Tie e) w = (xs, λ f. omega arith, omega arith)

  more_ties : (xs : List TieEdge) (p : Part) (w : ℕ) → MoreTies xs p w
  more_ties xs (Tie e) w =
      let x : TieEdge = record { edge = e; weight = w } in
      let long = length_push xs x in
      (xs ++ x ∷ [], λ f. tie_added K f xs (xs ++ x ∷ []) (Tie e) e w refl refl, omega arith)
  more_ties xs (Least v) w = (xs, λ f. omega arith, omega arith)
  more_ties xs (Most v) w = (xs, λ f. omega arith, omega arith)
  more_ties xs (Pull v q) w = (xs, λ f. omega arith, omega arith)
  more_ties xs (Stay v q) w = (xs, λ f. omega arith, omega arith)

  -- what the first links give
  record AreTaken (k : ℕ) (ss : List StayEdge) (ps : List PullEdge) (ts : List TieEdge) : Type 0 where
    pub on_stays : (f : Dependence → ℕ) → weigh_stays f ss ≡ taken links flow k (on_stay K f)
    pub on_pulls : (f : Dependence → ℕ) → weigh_pulls f ps ≡ taken links flow k (on_pull K f)
    pub on_ties : (f : Dependence → ℕ) → weigh_ties f ts ≡ taken links flow k (on_tie K f)
    pub few_stays : length ss ≤ k
    pub few_pulls : length ps ≤ k
    pub few_ties : length ts ≤ k

  module _ (ones : (k v p : ℕ) → (link links k).part ≡ Stay v p → slice_index flow k ≤ 1) where
    abbrev Taken : ℕ → Type 0
    Taken k = (ss : List StayEdge) × (ps : List PullEdge) × (ts : List TieEdge) × AreTaken k ss ps ts

    all_taken : (k : ℕ) → Taken k
    all_taken zero = ([], [], [], record { on_stays = λ f. refl; on_pulls = λ f. refl; on_ties = λ f. refl; few_stays = omega arith; few_pulls = omega arith; few_ties = omega arith })
    all_taken (suc k) =
        let (ss, ps, ts, old) = all_taken k in
        let w = slice_index flow k in
        let p = (link links k).part in
        let (ss', a, l) = more_stays ss p w (λ v q e. ones k v q e) in
        let (ps', b, m) = more_pulls ps p w in
        let (ts', c, n) = more_ties ts p w in
        let x = old.few_stays in
        let y = old.few_pulls in
        let z = old.few_ties in (
          ss',
          ps',
          ts',
          record {
            on_stays = λ f. next_suc links flow k (on_stay K f) _ _ (old.on_stays f) (a f);
            on_pulls = λ f. next_suc links flow k (on_pull K f) _ _ (old.on_pulls f) (b f);
            on_ties = λ f. next_suc links flow k (on_tie K f) _ _ (old.on_ties f) (c f);
            few_stays = omega arith;
            few_pulls = omega arith;
            few_ties = omega arith;
          },
        )

    pub some_certificate : length links ≤ 2 ^ 14 → (P : Pressure) × IsTaken K links flow P × HasAtMost (length links) P
    some_certificate short =
        let (ss, ps, ts, all) = all_taken (length links) in
        let a = all.few_stays in
        let b = all.few_pulls in
        let c = all.few_ties in (
          record { stays = held ss (omega arith); pulls = held ps (omega arith); ties = held ts (omega arith) },
          record { on_stays = all.on_stays; on_pulls = all.on_pulls; on_ties = all.on_ties },
          (a, b, c),
        )

-- ---- times

pub some_schedule : (n : ℕ) (at : List ℕ) (routed : List Bool) → n ≤ 1024 → (t : Times) × IsSchedule n at routed t
some_schedule n at routed few =
    let (xs, lx, ax) = listed n (λ w. slice_index at w) in
    let (ys, ly, ay) = listed n (λ w. slice_index at (n + w) - slice_index at w) in
    let (zs, lz, az) = listed n (stay_of n at routed) in (
      record { time = held xs (omega arith); lasts = held ys (omega arith); longest = held zs (omega arith) },
      record { time = ax; last = ay; stay = az },
    )
