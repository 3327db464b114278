use Rattle.cg_c_values.specs.Listed.{listed}
use Rattle.cg_c_forms.proofs.Renaming.{first_more}
use Rattle.cg_c_forms.proofs.anew.made_anew.Goals as goal

pub loop-v-preserved : goal.loop-v-preserved
loop-v-preserved c =
    let stands = rw c.value.ensures.value at c.value.ensures.may_stand in
    let new = rw (c.deref.ensures.value, c.value.ensures.value) at c.in_ok-new.ensures.new in
    let load = rw c.value.ensures.value at c.in_ok-new.ensures.load in
    rw c.in_ok-push.ensures.items
    (first_more (listed c.args.old.now) (listed c.loop-v.values) (listed c.remade.new.values) c.args.turns c.loop-v.map.items c.in_ok-new.new c.loop-v.v
    c.loop-v.invariant c.in_ok-new.ensures.kept load c.in_ok-new.ensures.place stands new)
