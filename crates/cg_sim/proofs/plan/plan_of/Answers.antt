use Rattle.std.proofs.Common.{◌≡◌, ◌≢◌, ◌<◌, ◌+◌, List, [], length, get_or, sym, ap, subst, ◌∙◌, refl, rules, false}
use Rattle.std.specs.Prelude.{slice_index}
use Rattle.std.proofs.lemmas.List.{get_or_read}
use Rattle.cg_model.specs.declared.array.Kind.{Kind}
use Rattle.cg_model.specs.declared.array.Kind.TheVariants.{Wire, Register, Out}
use Rattle.cg_model.specs.declared.array.Resource.{Resource}
use Rattle.cg_model.specs.Array.{resource}
use Rattle.cg_sim.specs.declared.plan.Links.{Links}
use Rattle.cg_sim.specs.Plan.{is_register, is_net, AreListed, AreRising}
use Rattle.cg_sim.proofs.Listed.{listed_skip, listed_added, rising_more, all_listed, no_register, a_net}
use Rattle.cg_sim.proofs.plan.plan_of.Goals as goal
use Rattle.cg_sim.proofs.plan.plan_of.Goals.{in-Out, in-Register+in_ok-add-in-Register, in_default+in_ok-add-in_default}

pub loop-place-preserved : goal.loop-place-preserved
loop-place-preserved c =
    let A = c.args.arch.now in
    let order = c.order-order.result.now in
    let n = c.loop-place.place in
    let inside : n < length order = search rules in
    let r = slice_index order n in
    let known : r < length A.resources = c.order-order.ensures.known n inside in
    let res = c.index-resources-number.result in
    let res_is : res ≡ resource A r = get_or_read A.resources r res known (subst (λ (xs : List Resource). res ≡ get_or xs r res) c.resources-resources.ensures.resources c.index-resources-number.is) (record { name = []; kind = Wire; drivers = [] }) in
    let same : (k : Kind) → res.kind ≡ k → (resource A r).kind ≡ k = λ k e. ap (λ (x : Resource). x.kind) (sym res_is) ∙ e in
    let inv = c.loop-place.invariant in
    let R : Links = c.loop-place.registers in
    let N : Links = c.loop-place.nets in
    let none : length c.resources-resources.result.now ≡ length A.resources = ap length c.resources-resources.ensures.resources in
    let other_registers : is_register (resource A r).kind ≡ false → AreListed A is_register order (n + 1) R.entries.items R.drivers.items = λ e. listed_skip A is_register order n R.entries.items R.drivers.items e inv.registers in
    let other_nets : is_net (resource A r).kind ≡ false → AreListed A is_net order (n + 1) N.entries.items N.drivers.items = λ e. listed_skip A is_net order n N.entries.items N.drivers.items e inv.nets in
    elim c.match-resource.branch [
      | in-Out w ↦
          let k = same Out w.in-Out.is in
          record {
            registers = subst (λ (L : Links). AreListed A is_register order (n + 1) L.entries.items L.drivers.items) (sym w.registers-is) (other_registers (ap is_register k));
            nets = subst (λ (L : Links). AreListed A is_net order (n + 1) L.entries.items L.drivers.items) (sym w.nets-is) (other_nets (ap is_net k));
            rising = subst (λ (L : Links). AreRising A L.entries.items) (sym w.nets-is) inv.rising;
          }
      | in-Register+in_ok-add-in-Register w ↦
          let k = same Register w.in-Register.is in
          let ds : w.as_slice.result.now ≡ (resource A r).drivers = w.as_slice.ensures ∙ ap (λ (x : Resource). x.drivers) res_is in
          record {
            registers = subst (λ (L : Links). AreListed A is_register order (n + 1) L.entries.items L.drivers.items) (sym w.registers-is)
                (listed_added A is_register order n R.entries.items R.drivers.items r refl known (ap is_register k) inv.registers _ _ _ _ none ds w.in_ok-add-in-Register.ensures.entries w.in_ok-add-in-Register.ensures.drivers);
            nets = subst (λ (L : Links). AreListed A is_net order (n + 1) L.entries.items L.drivers.items) (sym w.nets-is) (other_nets (ap is_net k));
            rising = subst (λ (L : Links). AreRising A L.entries.items) (sym w.nets-is) inv.rising;
          }
      | in_default+in_ok-add-in_default w ↦
          let o : (resource A r).kind ≢ Out = λ e. w.in_default.not-Out (ap (λ (x : Resource). x.kind) res_is ∙ e) in
          let g : (resource A r).kind ≢ Register = λ e. w.in_default.not-Register (ap (λ (x : Resource). x.kind) res_is ∙ e) in
          let net = a_net (resource A r).kind o g in
          let ds : w.as_slice-in_default.result.now ≡ (resource A r).drivers = w.as_slice-in_default.ensures ∙ ap (λ (x : Resource). x.drivers) res_is in
          record {
            registers = subst (λ (L : Links). AreListed A is_register order (n + 1) L.entries.items L.drivers.items) (sym w.registers-is) (other_registers (no_register (resource A r).kind g));
            nets = subst (λ (L : Links). AreListed A is_net order (n + 1) L.entries.items L.drivers.items) (sym w.nets-is)
                (listed_added A is_net order n N.entries.items N.drivers.items r refl known net inv.nets _ _ _ _ none ds w.in_ok-add-in_default.ensures.entries w.in_ok-add-in_default.ensures.drivers);
            rising = subst (λ (L : Links). AreRising A L.entries.items) (sym w.nets-is)
                (subst (λ z. AreRising A z) (sym w.in_ok-add-in_default.ensures.entries)
                (rising_more A order n N.entries.items N.drivers.items r (length N.drivers.items) refl inside c.order-order.ensures net inv.nets inv.rising));
          }
    ]

pub returns : goal.returns
returns c =
    let A = c.args.arch.now in
    let order = c.order-order.result.now in
    let n = c.loop-place.place in
    let inv = c.loop-place.invariant in
    let last : n ≡ length order = search rules in
    record {
      registers = all_listed A is_register order n _ _ last c.order-order.ensures inv.registers;
      nets = all_listed A is_net order n _ _ last c.order-order.ensures inv.nets;
      rising = inv.rising;
    }
