-- The programs of sources whose arrays have dimensions and whose tables have rows are typed.
use Rattle.std.proofs.Common.{◌≡◌, ℕ, List, [], Ok, Err, refl, sym, subst, arith}
use Rattle.cg_c_syntax.specs.Tree as tree
use Rattle.cg_c_check.specs.Faults.{Checked}
use Rattle.cg_c_check.specs.Program.{Program}
use Rattle.cg_c_check.specs.Walk.{State, onward}
use Rattle.cg_c_check.specs.Check.{Nested, nest, beginning, walked, without_state, checked}
use Rattle.cg_c_meaning.specs.Typed.{IsTyped, AreArranged, AreApart, IsTypedExpr, inputs, stmts_inputs, nest_outputs}
use Rattle.cg_c_meaning.proofs.Walking.{WhereOk, Arrives}
use Rattle.cg_c_meaning.proofs.Typing.{so_far}
use Rattle.cg_c_meaning.proofs.Iterating.{IsNested, with_nest, type_nest}
use Rattle.cg_c_meaning.proofs.Shaped.{AreShaped}
use Rattle.cg_c_meaning.proofs.Arranged.{arranged}
use Rattle.cg_c_meaning.proofs.Arranging.{Reaches, Leads, IsArranging, chain_rest, declaring, globals_placed}

record IsWhole (n : Nested) (s : State) : Type 0 where
  nested : IsNested s.arrays 1 n
  are_arranged : AreArranged 0 s.arrays
  taken_once : AreApart (stmts_inputs n.body)
  sent_once : AreApart (nest_outputs n.levels n.body)

whole : (s : State) (r : Checked (Nested × State)) → AreArranged 0 s.arrays → Arrives s.arrays (IsNested s.arrays 1) (with_nest (so_far [] [])) r → Reaches r IsWhole
whole s (Ok r) at h = record {
  nested = subst (λ arrays. IsNested arrays 1 r.0) (sym h.1.arrays_are) h.0;
  are_arranged = subst (λ arrays. AreArranged 0 arrays) (sym h.1.arrays_are) at;
  taken_once = subst AreApart h.1.inputs_are h.1.inputs_apart;
  sent_once = subst AreApart h.1.outputs_are h.1.outputs_apart;
}
whole s (Err fault) at h = tt

apart_of_none : (ns : List ℕ) → ns ≡ [] → AreApart ns
apart_of_none ns h = subst AreApart (sym h) tt

nested_whole : (n : tree.Nest) → Leads IsArranging IsWhole (nest 0 1 n)
nested_whole n = record {
  leads = λ s at.
      whole s (nest 0 1 n s) (arranged 0 s.free s.arrays at.arranged)
      ((type_nest s.arrays (so_far [] []) 0 1 n (omega arith)).typed s (record {
        arrays_are = refl;
        names_are = at.names_are;
        inputs_are = at.inputs_are;
        outputs_are = at.outputs_are;
        inputs_apart = apart_of_none s.inputs at.inputs_are;
        outputs_apart = apart_of_none s.outputs at.outputs_are;
      }));
}

walked_whole : (source : tree.Source) → AreShaped source.globals → Leads IsArranging IsWhole (walked source)
unfolding walked
walked_whole source h =
    chain_rest (globals_placed source.globals h) (λ _.
    chain_rest (declaring source.name _ (λ among. record { array = λ p i. tt; writable = λ p i. tt; value = λ p. tt; word = λ p. tt })) (λ _.
    nested_whole (tree.Holds source.before source.outer source.after)))

begins : IsArranging beginning
unfolding IsTypedExpr inputs
begins = record {
  names_are = (
    record { array = λ p i. tt; writable = λ p i. tt; value = λ p. (λ arrays each. tt, refl); word = λ p. tt },
    (
      record { array = λ p i. tt; writable = λ p i. tt; value = λ p. (λ arrays each. tt, refl); word = λ p. tt },
      (record { array = λ p i. tt; writable = λ p i. tt; value = λ p. (λ arrays each. tt, refl); word = λ p. tt }, tt),
    ),
  );
  arranged = (refl, omega arith);
  inputs_are = refl;
  outputs_are = refl;
}

typed_of : (name : List ℕ) (r : Checked (Nested × State)) → Reaches r IsWhole
    → WhereOk (without_state (onward (λ (nested : Nested) (end : State). Ok (record { name = name; arrays = end.arrays; words = end.words; levels = nested.levels; body = nested.body }, end)) r)) IsTyped
typed_of name (Ok r) h = record {
  arranged = h.are_arranged;
  levels = h.nested.levels;
  body = h.nested.body;
  iterates = h.nested.iterates;
  turns = omega (arith, h.nested.few);
  taken_once = h.taken_once;
  sent_once = h.sent_once;
}
typed_of name (Err fault) h = tt

all_typed : (source : tree.Source) → AreShaped source.globals → WhereOk (checked source) IsTyped
unfolding checked
all_typed source h = typed_of source.name.name (walked source beginning) ((walked_whole source h).leads beginning begins)

pub shaped_typed : (source : tree.Source) (p : Program) → AreShaped source.globals → checked source ≡ Ok p → IsTyped p
shaped_typed source p h is = subst (λ r. WhereOk r IsTyped) is (all_typed source h)
