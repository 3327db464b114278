use Rattle.std.proofs.Common.{◌≡◌, ◌∙◌, ◌+◌, ◌∷◌, [], List, ℕ, get_or, length, ap, sym, subst, arith, ⊎_elim, length-append}
use Rattle.std.specs.Prelude.{Contains}
use Rattle.std.proofs.lemmas.Bool.{cases_lt}
use Rattle.std.proofs.lemmas.List.{get_or_default}
use Rattle.std.proofs.lemmas.List.Elements.{Contains-get_or}
use Rattle.cg_model.specs.declared.array.Unit.{Unit}
use Rattle.cg_model.specs.Array.{unit}
use Rattle.cg_datapath.specs.declared.terminals.Terminals.{Terminals}
use Rattle.cg_gates_run.specs.Kept.{IsUnitCell}
use Rattle.cg_gates.specs.Tables.{IsTerminals, terminals}
use Rattle.cg_gates_run.proofs.Listed.{old_entry, new_entry}
use Rattle.cg_gates_run.proofs.Named.{unit_has_cell}
use Rattle.cg_gates_run.proofs.Wired.{unit_wired}
use Rattle.cg_gates_run.proofs.terminals.terminals_by.Goals as goal

pub unit_terminals-requires-clause-there : goal.unit_terminals-requires-clause-there
unit_terminals-requires-clause-there c =
    let A = c.args.arch.now in
    let u = c.unit-item.result in
    let i = c.loop-unit.unit-index in
    let units = c.units-unit-items.ensures.units in
    let long = ap length units in
    let at : u ≡ get_or A.units i u = c.unit-item.is ∙ ap (λ (us : List Unit). get_or us i u) units in
    let P : Unit → Type 0 = λ x. Contains A.units x in
    unit_has_cell A c.args.nets.now c.requires.accepted.late u (subst P (sym at) (Contains-get_or A.units i u (omega (arith, long))))

pub loop-unit-preserved : goal.loop-unit-preserved
loop-unit-preserved c =
    let A = c.args.arch.now in
    let N = c.args.nets.now in
    let u = c.unit-item.result in
    let i = c.loop-unit.unit-index in
    let t = c.in_ok-unit_terminals.field-0 in
    let old = c.loop-unit.list.items in
    let units = c.units-unit-items.ensures.units in
    let longer = ap length units in
    let none : Unit = record { name = []; ops = []; latency = 1; ports = []; out = 0 } in
    let at : u ≡ unit A i = c.unit-item.is ∙ ap (λ (us : List Unit). get_or us i u) units ∙ get_or_default A.units i u none (omega (arith, longer)) in
    let P : Unit → Type 0 = λ x. IsUnitCell N x t in
    let here : IsTerminals A N i t = unit_wired A N c.requires.accepted.early c.requires.graph i t (subst P at c.in_ok-unit_terminals.ensures) in
    let more = c.in_ok-push.ensures.items in
    let empty : Terminals = record { ports = []; out = 0; latency = 0 } in
    let long = c.loop-unit.invariant.long in
    record {
      long = ap length more ∙ length-append old (t ∷ []) ∙ ap (λ n. n + 1) long;
      each = λ x low.
          let Q : List Terminals → Type 0 = λ ts. IsTerminals A N x (terminals ts x) in
          let R : Terminals → Type 0 = λ s. IsTerminals A N x s in
          subst Q (sym more)
          (⊎_elim
          (λ l. subst R (sym (old_entry empty t old x (omega (arith, l, long)))) (c.loop-unit.invariant.each x l))
          (λ l. let same : x ≡ i = omega (arith, l, low) in subst R (sym (new_entry empty t old x (omega (arith, same, long)))) (let S : ℕ → Type 0 = λ y. IsTerminals A N y t in subst S (sym same) here))
          (cases_lt x i));
    }
