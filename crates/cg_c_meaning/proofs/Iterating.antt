-- The loops that walks give are typed.
use Rattle.std.proofs.Common.{◌≡◌, ℕ, suc, ◌*◌, ◌≤◌, nat_lt, true, false, ◌&&◌, List, [], ◌∷◌, ◌++◌, Ok, refl, ap, ap₂, ◌∙◌, arith, leb-true}
use Rattle.std.proofs.lemmas.List.{append-nil}
use Rattle.std.proofs.lemmas.Bool.{and_parts, and_from}
use Rattle.std.proofs.Math.Nat.{mul_assoc}
use Rattle.cg_word.specs.Word.{rank}
use Rattle.cg_c_syntax.specs.Tree as tree
use Rattle.cg_c_check.specs.declared.program.Array.{Array}
use Rattle.cg_c_check.specs.declared.program.Range.{Range}
use Rattle.cg_c_check.specs.declared.fault.CheckFault.TheVariants.{BadLoop}
use Rattle.cg_c_check.specs.Names.{Names}
use Rattle.cg_c_check.specs.Program.{Stmts}
use Rattle.cg_c_check.specs.Constants.{constant_of}
use Rattle.cg_c_check.specs.Loops.{most_loops, most_turns, range_of, step_of, trips_of, height, stays_signed, are_few}
use Rattle.cg_c_check.specs.Check.{Nested, nest, looped}
use Rattle.cg_c_meaning.specs.Turns.{turns_of, all_turn}
use Rattle.cg_c_meaning.specs.Typed.{AreTypedLevels, IsTypedExpr, AreTypedStmts, inputs, stmts_inputs, stmts_outputs, nest_outputs}
use Rattle.cg_c_meaning.proofs.Taking.{none_stmts}
use Rattle.cg_c_meaning.proofs.Walking.{Ports, Typing, WhereOk, if_demanded, where_onward, anything, bind, bind_rest, given, named_one, needed, declaring, within}
use Rattle.cg_c_meaning.proofs.Typing.{with_both, more_both, type_stmts}

-- ---- heads

-- there is an iteration, and turns are few
abbrev pub IsFew : (turns : ℕ) → Range → Type 0
IsFew turns range = (nat_lt 0 range.trips ≡ true) × (turns * range.trips ≤ most_turns)

range_is : (names : Names) (turns place : ℕ) (head : tree.Head) → WhereOk (range_of names turns place head) (IsFew turns)
unfolding range_of
range_is names turns place head =
    where_onward (IsFew turns) (constant_of names head.start) _ (anything _) (λ first _.
    where_onward (IsFew turns) (constant_of names head.bound) _ (anything _) (λ bound _.
    where_onward (IsFew turns) (step_of names head.step) _ (anything _) (λ step _.
    if_demanded (IsFew turns) _ (BadLoop place) _ (λ _.
    let trips = trips_of head.inclusive (rank first.word) (height bound) step.word in
    if_demanded (IsFew turns) (stays_signed first.word step.word trips && are_few turns trips) (BadLoop place) (Ok (record { first = first.word; step = step.word; trips = trips })) (λ h.
    let parts = and_parts (stays_signed first.word step.word trips) (are_few turns trips) h in
    ((and_parts (nat_lt 0 trips) _ parts.0).0, leb-true (turns * trips) most_turns parts.1))))))

-- ---- loops

pub record IsNested (arrays : List Array) (turns : ℕ) (n : Nested) : Type 0 where
  pub levels : AreTypedLevels arrays n.levels
  pub body : AreTypedStmts arrays true n.body
  pub iterates : all_turn n.levels ≡ true
  pub few : turns * turns_of n.levels ≤ most_turns

abbrev pub IsLooped : List Array → (turns : ℕ) → Range × Nested → Type 0
IsLooped arrays turns w = (nat_lt 0 w.0.trips ≡ true) × IsNested arrays (turns * w.0.trips) w.1

abbrev pub with_nest : Ports → Nested → Ports
with_nest from n = with_both from (stmts_inputs n.body) (nest_outputs n.levels n.body)

around : (arrays : List Array) (turns : ℕ) (a b : Stmts) (w : Range × Nested) → AreTypedStmts arrays false a → IsLooped arrays turns w → AreTypedStmts arrays false b
    → IsNested arrays turns (record { levels = record { before = a; range = w.0; after = b } ∷ w.1.levels; body = w.1.body })
around arrays turns a b w h g k = record {
  levels = (h, k, g.1.levels);
  body = g.1.body;
  iterates = and_from (nat_lt 0 w.0.trips) (all_turn w.1.levels) g.0 g.1.iterates;
  few = omega (arith, g.1.few, mul_assoc turns w.0.trips (turns_of w.1.levels));
}

ports_around : (from : Ports) (i j k l m n : List ℕ) → i ≡ [] → j ≡ [] → with_both (with_both (with_both from i l) k m) j n ≡ with_both from k (l ++ m ++ n)
ports_around from i j k l m n h g =
    ap (λ p. with_both p j n) (more_both from i k l m) ∙ more_both from (i ++ k) j (l ++ m) n
    ∙ ap (λ z. with_both from z (l ++ m ++ n)) (ap₂ (λ (x y : List ℕ). x ++ k ++ y) h g ∙ append-nil k)

mutual
  unfolding nest looped IsTypedExpr inputs

  pub type_nest : (arrays : List Array) (from : Ports) (depth turns : ℕ) (n : tree.Nest) → turns ≤ most_turns → Typing arrays from (IsNested arrays turns) (with_nest from) (nest depth turns n)
  type_nest arrays from depth turns (tree.Bare body) few =
      bind (type_stmts arrays from true body) (λ a h. given (record { levels = []; body = a }) refl (record { levels = tt; body = h; iterates = refl; few = omega arith }))
  type_nest arrays from depth turns (tree.Holds before inner after) few =
      bind (type_stmts arrays from false before) (λ a h.
      bind (within (type_looped arrays (with_both from (stmts_inputs a) (stmts_outputs a)) depth turns inner)) (λ w g.
      bind (type_stmts arrays (with_nest (with_both from (stmts_inputs a) (stmts_outputs a)) w.1) false after) (λ b k.
      given (record { levels = record { before = a; range = w.0; after = b } ∷ w.1.levels; body = w.1.body })
      (ports_around from (stmts_inputs a) (stmts_inputs b) (stmts_inputs w.1.body) (stmts_outputs a) (nest_outputs w.1.levels w.1.body) (stmts_outputs b) (none_stmts arrays a h) (none_stmts arrays b k))
      (around arrays turns a b w h g k))))

  type_looped : (arrays : List Array) (from : Ports) (depth turns : ℕ) (l : tree.Loop) → Typing arrays from (IsLooped arrays turns) (λ w. with_nest from w.1) (looped depth turns l)
  type_looped arrays from depth turns (tree.For place head body) =
      bind_rest (needed (nat_lt depth most_loops) (BadLoop place)) (λ _ _.
      bind (named_one (λ names. range_of names turns place head) (λ names _. range_is names turns place head)) (λ (range : Range) few.
      bind_rest (declaring head.counter _ (record { array = λ p i. tt; writable = λ p i. tt; value = λ p. (λ arrays each. tt, refl); word = λ p. tt })) (λ _ _.
      bind (type_nest arrays from (suc depth) (turns * range.trips) body few.1) (λ inner h. given (range, inner) refl (few.0, h)))))
