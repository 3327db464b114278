-- The tests on the fields of a unit say that they keep the rules.
use Rattle.std.proofs.Common.{◌≡◌, ℕ, zero, suc, ◌<◌, Bool, true, false, List, arith}
use Rattle.std.specs.Prelude.{nat_lt}
use Rattle.std.proofs.lemmas.Bool.{and_parts, and_from, ltb-true, lt-ltb}
use Rattle.cg_word.specs.declared.op.Op.{Op}
use Rattle.cg_model.specs.declared.config.ArgFields.{ArgFields}
use Rattle.cg_model.specs.declared.config.UnitFields.{UnitFields}
use Rattle.cg_model.specs.Config.{arg}
use Rattle.cg_model.specs.Canonical.{AreFields, arity_of, offered, fixed_below, stage_right, port_right, immediate_right}
use Rattle.cg_config.specs.Rules.{mode_ok, count_ok, word_ok, arg_ok, args_ok, fields_ok, IsTyped}

-- what an argument that keeps the rules says
record Kept (a : ArgFields) (used before : Bool) : Type 0 where
  mode : mode_ok a used before ≡ true
  count : count_ok a used ≡ true
  word : (k : ℕ) → k < 4 → word_ok a used k ≡ true

kept : (a : ArgFields) (used before : Bool) → arg_ok a used before ≡ true → Kept a used before
kept a used before e =
    let m = and_parts (mode_ok a used before) _ e in
    let c = and_parts (count_ok a used) _ m.1 in
    let w0 = and_parts (word_ok a used 0) _ c.1 in
    let w1 = and_parts (word_ok a used 1) _ w0.1 in
    let w2 = and_parts (word_ok a used 2) _ w1.1 in
    record { mode = m.0; count = c.0; word = words_of w0.0 w1.0 w2.0 w2.1 }
  where
    words_of : word_ok a used 0 ≡ true → word_ok a used 1 ≡ true → word_ok a used 2 ≡ true → word_ok a used 3 ≡ true → (k : ℕ) → k < 4 → word_ok a used k ≡ true
    words_of p q r s zero lt = p
    words_of p q r s (suc zero) lt = q
    words_of p q r s (suc (suc zero)) lt = r
    words_of p q r s (suc (suc (suc zero))) lt = s
    words_of p q r s (suc (suc (suc (suc k)))) lt = absurd (omega arith)

keeps : (a : ArgFields) (used before : Bool) → Kept a used before → arg_ok a used before ≡ true
keeps a used before h =
    and_from (mode_ok a used before) _ h.mode (and_from (count_ok a used) _ h.count
    (and_from (word_ok a used 0) _ (h.word 0 (omega arith)) (and_from (word_ok a used 1) _ (h.word 1 (omega arith)) (and_from (word_ok a used 2) _ (h.word 2 (omega arith)) (h.word 3 (omega arith))))))

-- argument p by the definition
IsKept : UnitFields → ℕ → Type 0
IsKept f p = Kept (arg f p) (nat_lt p (arity_of f.op)) (fixed_below f p)

each_kept : (f : UnitFields) → args_ok f ≡ true → (p : ℕ) → p < 3 → IsKept f p
unfolding fixed_below IsKept
each_kept f e =
    let a = and_parts (arg_ok (arg f 0) (nat_lt 0 (arity_of f.op)) false) _ e in
    let b = and_parts (arg_ok (arg f 1) (nat_lt 1 (arity_of f.op)) (arg f 0).fixed) _ a.1 in
    three (kept _ _ _ a.0) (kept _ _ _ b.0) (kept _ _ _ b.1)
  where
    three : IsKept f 0 → IsKept f 1 → IsKept f 2 → (p : ℕ) → p < 3 → IsKept f p
    three x y z zero lt = x
    three x y z (suc zero) lt = y
    three x y z (suc (suc zero)) lt = z
    three x y z (suc (suc (suc p))) lt = absurd (omega arith)

args_are : (f : UnitFields) → ((p : ℕ) → p < 3 → IsKept f p) → args_ok f ≡ true
unfolding fixed_below IsKept
args_are f h =
    and_from (arg_ok (arg f 0) (nat_lt 0 (arity_of f.op)) false) _ (keeps _ _ _ (h 0 (omega arith)))
    (and_from (arg_ok (arg f 1) (nat_lt 1 (arity_of f.op)) (arg f 0).fixed) _ (keeps _ _ _ (h 1 (omega arith))) (keeps _ _ _ (h 2 (omega arith))))

pub are_kept : (ops : List Op) (f : UnitFields) → IsTyped f → fields_ok ops f ≡ true → AreFields ops f
unfolding IsKept
are_kept ops f typed e =
    let o = and_parts (offered ops f.op) _ e in
    let p = and_parts (nat_lt f.port 16) _ o.1 in
    let s = and_parts (stage_right f) _ p.1 in
    let q = and_parts (port_right f) _ s.1 in
    let i = and_parts (immediate_right f) _ q.1 in
    let small = ltb-true f.port 16 p.0 in
    let each = each_kept f i.1 in
    record {
      args = typed.args;
      inits = λ p lt. (typed.inits p lt).0;
      ports = omega arith;
      immediates = typed.immediates;
      init_words = λ p k lt l. (typed.inits p lt).1 k;
      offer = o.0;
      stage = s.0;
      port = q.0;
      immediate = i.0;
      mode = λ p lt. (each p lt).mode;
      count = λ p lt. (each p lt).count;
      word = λ p k lt l. (each p lt).word k l;
    }

pub are_right : (ops : List Op) (f : UnitFields) → AreFields ops f → fields_ok ops f ≡ true
unfolding IsKept
are_right ops f are =
    let small = are.ports in
    and_from (offered ops f.op) _ are.offer (and_from (nat_lt f.port 16) _ (lt-ltb f.port 16 (omega arith)) (and_from (stage_right f) _ are.stage (and_from (port_right f) _ are.port (and_from (immediate_right f) _ are.immediate
    (args_are f (λ p lt. record { mode = are.mode p lt; count = are.count p lt; word = λ k l. are.word p k lt l }))))))
