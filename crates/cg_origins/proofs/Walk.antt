-- The walk back from a resource, step by step.
use Rattle.std.proofs.Common.{◌≡◌, ◌≢◌, ℕ, ◌+◌, ◌-◌, ◌%◌, ◌<◌, ◌≤◌, Bool, true, false, not, length, Option, Some, None, refl, sym, ap, ◌∙◌, subst, arith, ⊎_elim}
use Rattle.std.proofs.lemmas.Bool.{cases_lt, true≢false}
use Rattle.std.specs.Option.{is_some}
use Rattle.cg_word.specs.declared.op.Op.{Op}
use Rattle.cg_config.specs.Told.{head_of}
use Rattle.cg_config.specs.declared.head.UnitHead.{UnitHead}
use Rattle.cg_model.specs.declared.config.UnitFields.{UnitFields}
use Rattle.cg_model.specs.declared.array.Kind.{Kind}
use Rattle.cg_model.specs.declared.array.Kind.TheVariants.{Wire, Register, Port, Out}
use Rattle.cg_model.specs.Array.{Arch, IsArch, resource, unit, owner}
use Rattle.cg_model.specs.Config.{Config, select, fields}
use Rattle.cg_model.specs.Canonical.{is_on}
use Rattle.cg_model.specs.Work.{Image}
use Rattle.cg_model.specs.Machine.{Cycle, ago, driver, driven, by_kind, words_in, at_cycle, word}
use Rattle.cg_overlap.proofs.Wires.{unrolled, Contains-driver}
use Rattle.cg_origins.specs.Source.{IsFrom, most_delay}
use Rattle.cg_origins.specs.Walk.{Reaches, LeadsTo, driver_at, word_back}
use Rattle.cg_origins.specs.declared.linking.Place.{Place}
use Rattle.cg_origins.specs.declared.linking.Step.TheVariants as step
use Rattle.cg_origins.specs.declared.source.Source.TheVariants as source
use Rattle.cg_origins.proofs.Ages.{before_first, back_at, back_before, off_result, ago_is, before_is, ago_later}

off_where : (o : Option Op) → is_some o ≡ false → o ≡ None
off_where None h = refl
off_where (Some op) h = absurd (true≢false h)

on_where : (o : Option Op) → is_some o ≡ true → is_on o ≡ true
on_where None h = absurd (true≢false (sym h))
on_where (Some op) h = refl

-- what the test of a head says of its fields
module _ (h : UnitHead) (f : UnitFields) (none : Bool) (head : h ≡ head_of f) (tested : is_some h.op ≡ not none) where
  pub off_by : none ≡ true → f.op ≡ None
  off_by is = sym (ap (λ (k : UnitHead). k.op) head) ∙ off_where h.op (tested ∙ ap not is)

  pub on_by : none ≡ false → is_on f.op ≡ true
  on_by is = on_where f.op (sym (ap (λ (k : UnitHead). is_some k.op) head) ∙ tested ∙ ap not is)

nothing_by : (k : Kind) (given : ℕ) → k ≢ Out → by_kind k 0 0 given ≡ 0
nothing_by Wire given h = refl
nothing_by Port given h = refl
nothing_by Register given h = refl
nothing_by Out given h = absurd (h refl)

net_by : (k : Kind) (now before given : ℕ) → k ≢ Out → k ≢ Register → by_kind k now before given ≡ now
net_by Wire now before given o r = refl
net_by Port now before given o r = refl
net_by Register now before given o r = absurd (r refl)
net_by Out now before given o r = absurd (o refl)

module _ (A : Arch) (C : Config) where
  -- the walk begins at its resource
  pub reaches_first : (slot r : ℕ) → r < length A.resources → slot < C.ii → Reaches A C slot r (record { resource = r; slot = slot; delay = 0 })
  reaches_first slot r lr ls =
      record {
        place = record { resource = lr; slot = ls; delay = omega arith };
        words = λ n image c h. (let e : c - 0 ≡ c = omega arith in sym (back_at A C n image r 0 c (omega arith) ∙ ap (word A C n image r) e));
        slots = λ c h l. (let e : c - 0 ≡ c = omega arith in ap (λ (m : ℕ). m % C.ii) e ∙ h);
      }

  module _ (valid : IsArch A) (slot r : ℕ) (p : Place) (reached : Reaches A C slot r p) where
    -- where the place's word is always 0
    from_nothing : ((n : ℕ) (image : Image) (c : ℕ) → c % C.ii ≡ p.slot → word A C n image p.resource c ≡ 0) → IsFrom A C slot r (source.Word 0)
    from_nothing none n image c h =
        reached.words n image c h
        ∙ ⊎_elim (λ l. back_before A C n image p.resource p.delay c l)
        (λ l. back_at A C n image p.resource p.delay c l ∙ none n image (c - p.delay) (reached.slots c h l))
        (cases_lt c p.delay)

    -- where the place's word is always a result
    from_result : (x l : ℕ) → 0 < l →
        ((n : ℕ) (image : Image) (c : ℕ) → c % C.ii ≡ p.slot → word A C n image p.resource c ≡ (ago (at_cycle A C n image c).past l).results x) →
        IsFrom A C slot r (source.Result x (p.delay + l))
    from_result x l some is n image c h =
        reached.words n image c h
        ∙ ⊎_elim (λ b. back_before A C n image p.resource p.delay c b ∙ sym (ap (λ (k : Cycle). k.results x) (before_first A C n image (p.delay + l) c (omega arith))))
        (λ b. back_at A C n image p.resource p.delay c b ∙ is n image (c - p.delay) (reached.slots c h b) ∙ ago_later A C n image valid x p.delay l c some b)
        (cases_lt c p.delay)

    -- where the place's word is always that of another resource, e cycles before
    further : (q e : ℕ) →
        ((n : ℕ) (image : Image) (c : ℕ) → c % C.ii ≡ p.slot → word A C n image p.resource c ≡ word_back A C n image q e c) →
        (n : ℕ) (image : Image) (c : ℕ) → c % C.ii ≡ slot → word A C n image r c ≡ word_back A C n image q (p.delay + e) c
    further q e is n image c h =
        reached.words n image c h
        ∙ ⊎_elim (λ b. back_before A C n image p.resource p.delay c b ∙ sym (back_before A C n image q (p.delay + e) c (omega arith)))
        (λ b.
        back_at A C n image p.resource p.delay c b
        ∙ is n image (c - p.delay) (reached.slots c h b)
        ∙ ⊎_elim (λ early. back_before A C n image q e (c - p.delay) early ∙ sym (back_before A C n image q (p.delay + e) c (omega arith)))
        (λ late.
        let z : c - p.delay - e ≡ c - (p.delay + e) = omega arith in
        back_at A C n image q e (c - p.delay) late ∙ ap (word A C n image q) z ∙ sym (back_at A C n image q (p.delay + e) c (omega arith)))
        (cases_lt (c - p.delay) e))
        (cases_lt c p.delay)

    further_slots : (e at : ℕ) → ((c : ℕ) → c % C.ii ≡ p.slot → e ≤ c → (c - e) % C.ii ≡ at) →
        (c : ℕ) → c % C.ii ≡ slot → p.delay + e ≤ c → (c - (p.delay + e)) % C.ii ≡ at
    further_slots e at before c h l =
        let z : c - (p.delay + e) ≡ c - p.delay - e = omega arith in
        ap (λ (m : ℕ). m % C.ii) z ∙ before (c - p.delay) (reached.slots c h (omega arith)) (omega arith)

    -- the word of the place, by its kind
    word_now : (k : Kind) → (resource A p.resource).kind ≡ k → (n : ℕ) (image : Image) (c : ℕ) → c % C.ii ≡ p.slot →
        word A C n image p.resource c ≡
        by_kind k
        (driven (words_in A C n image c (at_cycle A C n image c).past) (driver_at A C p))
        (driven (ago (at_cycle A C n image c).past 1).words (driver_at A C p))
        ((ago (at_cycle A C n image c).past (unit A (owner A p.resource)).latency).results (owner A p.resource))
    word_now k kind n image c h =
        let past = (at_cycle A C n image c).past in
        let given = (ago past (unit A (owner A p.resource)).latency).results (owner A p.resource) in
        subst (λ (z : ℕ). word A C n image p.resource c ≡ by_kind k
        (driven (words_in A C n image c past) (driver (resource A p.resource).drivers (select C p.resource z)))
        (driven (ago past 1).words (driver (resource A p.resource).drivers (select C p.resource z)))
        given) h
        (unrolled A C n image valid (c % C.ii) past p.resource reached.place.resource
        ∙ ap (λ (z : Kind). by_kind z
        (driven (words_in A C n image c past) (driver (resource A p.resource).drivers (select C p.resource (c % C.ii))))
        (driven (ago past 1).words (driver (resource A p.resource).drivers (select C p.resource (c % C.ii))))
        given) kind)

    -- nothing is chosen
    pub none_leads : (resource A p.resource).kind ≢ Out → driver_at A C p ≡ None → LeadsTo A C slot r (step.Ends (source.Word 0))
    none_leads apart e = (
      from_nothing
          (λ n image c h.
          let past = (at_cycle A C n image c).past in
          let given = (ago past (unit A (owner A p.resource)).latency).results (owner A p.resource) in
          word_now (resource A p.resource).kind refl n image c h
          ∙ ap (λ (o : Option ℕ). by_kind (resource A p.resource).kind (driven (words_in A C n image c past) o) (driven (ago past 1).words o) given) e
          ∙ nothing_by (resource A p.resource).kind given apart),
      tt,
    )

    -- the chosen driver is a resource
    driver_known : (q : ℕ) → Some q ≡ driver_at A C p → q < length A.resources
    driver_known q e = valid.known q p.resource (Contains-driver (resource A p.resource).drivers (select C p.resource p.slot) q (sym e))

    -- a wire or port
    pub net_leads : (q : ℕ) → (resource A p.resource).kind ≢ Out → (resource A p.resource).kind ≢ Register → Some q ≡ driver_at A C p →
        Reaches A C slot r (record { resource = q; slot = p.slot; delay = p.delay })
    net_leads q not_out not_register e =
        let zero : p.delay + 0 ≡ p.delay = omega arith in
        let is : (n : ℕ) (image : Image) (c : ℕ) → c % C.ii ≡ p.slot → word A C n image p.resource c ≡ word_back A C n image q 0 c =
        λ n image c h.
        let z : c - 0 ≡ c = omega arith in
        word_now (resource A p.resource).kind refl n image c h
        ∙ net_by (resource A p.resource).kind _ _ _ not_out not_register
        ∙ ap (driven (words_in A C n image c (at_cycle A C n image c).past)) (sym e)
        ∙ sym (back_at A C n image q 0 c (omega arith) ∙ ap (word A C n image q) z) in
        record {
          place = record { resource = driver_known q e; slot = reached.place.slot; delay = reached.place.delay };
          words = λ n image c h. further q 0 is n image c h ∙ ap (λ (d : ℕ). word_back A C n image q d c) zero;
          slots = reached.slots;
        }

    -- a register
    pub register_leads : (q at : ℕ) → (resource A p.resource).kind ≡ Register → Some q ≡ driver_at A C p → p.delay + 1 ≤ most_delay → at < C.ii →
        ((c : ℕ) → c % C.ii ≡ p.slot → 1 ≤ c → (c - 1) % C.ii ≡ at) →
        Reaches A C slot r (record { resource = q; slot = at; delay = p.delay + 1 })
    register_leads q at kind e near within before =
        record {
          place = record { resource = driver_known q e; slot = within; delay = near };
          words = further q 1 (λ n image c h.
              word_now Register kind n image c h
              ∙ ap (driven (ago (at_cycle A C n image c).past 1).words) (sym e)
              ∙ before_is A C n image valid q c);
          slots = further_slots 1 at before;
        }

    -- an out, of a unit with latency l that began its result in that slot
    module _ (x l began : ℕ) (kind : (resource A p.resource).kind ≡ Out) (owns : x ≡ owner A p.resource) (lx : x < length A.units) (latency : l ≡ (unit A x).latency)
        (before : (c : ℕ) → c % C.ii ≡ p.slot → l ≤ c → (c - l) % C.ii ≡ began)
      where
        some : 0 < l
        some = let h = (valid.latencies x lx).0 in omega arith

        given : (n : ℕ) (image : Image) (c : ℕ) → c % C.ii ≡ p.slot → word A C n image p.resource c ≡ (ago (at_cycle A C n image c).past l).results x
        given n image c h =
            let past = (at_cycle A C n image c).past in
            word_now Out kind n image c h
            ∙ sym (ap (λ (y : ℕ). (ago past (unit A y).latency).results y) owns)
            ∙ sym (ap (λ (m : ℕ). (ago past m).results x) latency)

        pub off_leads : (fields C x began).op ≡ None → LeadsTo A C slot r (step.Ends (source.Word 0))
        off_leads off = (
          from_nothing
              (λ n image c h.
              given n image c h
              ∙ ⊎_elim (λ early. ap (λ (k : Cycle). k.results x) (before_first A C n image l c early))
              (λ late.
              ap (λ (k : Cycle). k.results x) (ago_is A C n image valid l c some late)
              ∙ off_result A C n image x (c - l) (ap (λ (z : ℕ). (fields C x z).op) (before c h late) ∙ off))
              (cases_lt c l)),
          tt,
        )

        pub on_leads : is_on (fields C x began).op ≡ true → p.delay + l ≤ most_delay → LeadsTo A C slot r (step.Ends (source.Result x (p.delay + l)))
        on_leads on near = (
          from_result x l some given,
          record {
            known = lx;
            some = (let h = some in omega arith);
            near = near;
            on = λ c h b. ap (λ (z : ℕ). is_on (fields C x z).op) (further_slots l began before c h b) ∙ on;
          },
        )
