use Rattle.std.proofs.Common.{List, ◌+◌, ◌==◌, sym, ap, ◌∙◌, length, subst, get_or, take, refl}
use Rattle.std.proofs.lemmas.List.{length-set}
use Rattle.cg_mapping.specs.Tally.{Seen, IsSeen}
use Rattle.cg_mapping.specs.declared.tally.Seen.TheVariants.{Never}
use Rattle.cg_mapping.proofs.Tallies.{tally_more}
use Rattle.cg_mapping.proofs.tally.tally.Goals as goal

pub loop-place-preserved : goal.loop-place-preserved
loop-place-preserved c = record {
  len = ap length c.see.ensures ∙ length-set _ _ _ ∙ c.loop-place.invariant.len;
  seen = λ k below.
      let P : List Seen → Type 0 = λ table. IsSeen (λ key. key == k) (take (c.loop-place.place + 1) c.args.keys.now) (get_or table k Never) in
      subst P (sym c.see.ensures)
      (tally_more c.loop-place.table.items c.args.size c.args.keys.now c.loop-place.place _ c.loop-place.invariant.len c.loop-place-test.true refl c.loop-place.invariant.seen k below);
}
