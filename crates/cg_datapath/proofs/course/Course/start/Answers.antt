use Rattle.std.proofs.Common.{◌<◌, ◌≤◌, ◌+◌, ◌-◌, ◌*◌, ◌%◌, ℕ, List, length, sym, ap, subst, ◌∙◌, refl, arith, rules}
use Rattle.std.specs.Prelude.{slice_index}
use Rattle.std.proofs.lemmas.List.{length-replicate}
use Rattle.cg_datapath.proofs.Facts.{stages_few}
use Rattle.cg_datapath.proofs.Next.{first_effects, first_words, zeros}
use Rattle.cg_datapath.proofs.course.Course.start.Goals as goal

pub length_in_cycles-length-requires-clause-stages : goal.length_in_cycles-length-requires-clause-stages
length_in_cycles-length-requires-clause-stages g c =
    let C = g.C.Contexts.config c.args.contexts.now in
    let few = stages_few c.args.arch.now C c.requires.canonical in
    subst (λ (s : ℕ). (0 < s) × (s ≤ 65535)) (sym c.stages.ensures) few

pub invariant_of-result : goal.invariant_of-result
invariant_of-result g c =
    let A = c.args.arch.now in
    let C = g.C.Contexts.config c.args.contexts.now in
    let fresh = c.in_ok-effects.ensures in
    let H = c.in_ok-history.ensures in
    record {
      valid = H.valid;
      canonical = c.requires.canonical;
      turns = c.requires.turns;
      units = c.requires.units;
      latencies = c.requires.latencies;
      ii_is = c.ii-ii.ensures;
      length_is = c.length_in_cycles-length.ensures.value C (sym c.ii-ii.ensures) (sym c.stages.ensures);
      length_few = c.length_in_cycles-length.ensures.few;
      within = omega arith;
      moment_is = record { slot = omega arith; round = omega arith; row = refl };
      history_long = ap length H.zeros ∙ length-replicate (4 * length A.units) 0;
      effects = first_effects A C c.args.n c.args.image.now c.in_ok-effects.effects c.requires.fits fresh;
      finished_room = (search rules, (let h = c.in_ok-finished.ensures.exact in omega arith));
    }

pub returns : goal.returns
returns g c =
    let A = c.args.arch.now in
    let C = g.C.Contexts.config c.args.contexts.now in
    let fresh = c.in_ok-effects.ensures in
    let H = c.in_ok-history.ensures in
    record {
      arch = refl;
      config = refl;
      n = refl;
      image = refl;
      terminals = refl;
      done = refl;
      memory = fresh.memory;
      streams = first_words A C c.args.n c.args.image.now c.in_ok-effects.effects c.requires.fits fresh;
      outside = fresh.outside;
      results = λ x d. ap (λ (ws : List ℕ). slice_index ws (4 * x + (0 + 4 - d) % 4)) H.zeros ∙ zeros (4 * length A.units) (4 * x + (0 + 4 - d) % 4);
    }
