use Rattle.std.proofs.Common.{◌≡◌, ◌<◌, ◌∙◌, ℕ, List, ap, sym, subst, length}
use Rattle.std.specs.Prelude.{Contains}
use Rattle.cg_netlist.specs.Forms.{begins}
use Rattle.cg_gates.specs.Shape.{shapes, shape_of, form_said}
use Rattle.cg_gates.specs.Gates.{stem, resource_named}
use Rattle.cg_gates_run.specs.Kept.{front_of, is_given}
use Rattle.cg_gates.specs.Order.{net_number}
use Rattle.cg_gates.specs.Tables.{IsNumber}
use Rattle.cg_gates.proofs.Finds.{Contains-map}
use Rattle.cg_gates.proofs.Early.{q_known, is_number}
use Rattle.cg_gates_run.proofs.Named.{cell_known, given_named}
use Rattle.cg_gates.proofs.Shapes.{form_of_shape, name_of_shape}
use Rattle.cg_gates_run.proofs.selects.select_cell.Goals as goal

pub stem-requires-clause-begun : goal.stem-requires-clause-begun
stem-requires-clause-begun c =
    let d = c.args.cell.now in
    let named = given_named c.args.arch.now c.args.given d.name (form_said d) c.requires.form (cell_known c.args.arch.now c.args.nets.now c.requires.accepted.late d c.requires.there) in
    ap (λ f. begins f c.as_str.result.now) c.front_of.ensures ∙ ap (begins (front_of c.args.given)) c.as_str.ensures ∙ named.begun

pub resource_of-requires-clause-known : goal.resource_of-requires-clause-known
resource_of-requires-clause-known c =
    let d = c.args.cell.now in
    let named = given_named c.args.arch.now c.args.given d.name (form_said d) c.requires.form (cell_known c.args.arch.now c.args.nets.now c.requires.accepted.late d c.requires.there) in
    let P : List ℕ → Type 0 = λ name. resource_named c.args.arch.now name < length c.args.arch.now.resources in
    subst P (sym (c.stem.ensures ∙ ap stem c.as_str.ensures)) named.known

pub returns : goal.returns
returns c =
    let d = c.args.cell.now in
    let A = c.args.arch.now in
    let N = c.args.nets.now in
    let named = given_named A c.args.given d.name (form_said d) c.requires.form (cell_known A N c.requires.accepted.late d c.requires.there) in
    let there : Contains (shapes N) (shape_of d) = Contains-map shape_of N.cells d c.requires.there in
    let number : c.number.result ≡ net_number N (shape_of d).q = c.number.ensures ∙ ap (net_number N) c.driven_net.ensures in
    let resource : resource_named A (stem (shape_of d).name) ≡ c.resource_of.result = ap (λ n. resource_named A (stem n)) (name_of_shape d) ∙ sym (c.resource_of.ensures ∙ ap (resource_named A) (c.stem.ensures ∙ ap stem c.as_str.ensures)) in
    let P : ℕ → Type 0 = λ r. r < length A.resources in
    record {
      there = there;
      form = ap (is_given c.args.given) (form_of_shape d) ∙ c.requires.form;
      net = subst (IsNumber N (shape_of d).q) (sym number) (is_number N c.requires.graph (shape_of d).q (q_known N c.requires.accepted.early c.requires.graph (shape_of d) there));
      resource = resource;
      known = subst P (ap (λ n. resource_named A (stem n)) (sym (name_of_shape d)) ∙ resource) named.known;
    }
