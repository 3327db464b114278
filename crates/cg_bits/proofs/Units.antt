-- The fields of a unit that stand in the bits are read, and what is read stands there.
use Rattle.std.proofs.Common.{◌≡◌, ℕ, ◌+◌, ◌*◌, ◌^◌, ◌<◌, ◌≤◌, Bool, true, false, cond, not, ◌&&◌, ◌||◌, ltb, eqb, List, ◌++◌, length, Option, refl, sym, ap, subst, ◌∙◌, arith, length-append, ⊎_elim}
use Rattle.std.specs.Prelude.{slice_index}
use Rattle.std.proofs.lemmas.Bool.{cases_lt, lt-ltb, le-ltb, leb-true, eqb-true, and_parts, or_cases, not-true}
use Rattle.std.proofs.lemmas.List.FromFn.{fill_by_all, get_or-map-range_with_len}
use Rattle.cg_word.specs.declared.op.Op.{Op}
use Rattle.cg_model.specs.declared.config.ArgFields.{ArgFields}
use Rattle.cg_model.specs.declared.config.UnitFields.{UnitFields}
use Rattle.cg_model.specs.Config.{no_arg, arg}
use Rattle.cg_config.proofs.Canonical.{stage_fits}
use Rattle.cg_bits.specs.Numbers.{bits_of, number_at}
use Rattle.cg_bits.specs.Parts.{joined, Holds}
use Rattle.cg_flat.specs.Slots.{total}
use Rattle.cg_bits.specs.declared.format.Format.{Format}
use Rattle.cg_bits.specs.Format.{code_of, op_of, arg_len, args_at}
use Rattle.cg_bits.specs.Spelling.{arg_bits, unit_bits}
use Rattle.cg_bits.specs.Reading.{arg_in, unit_in}
use Rattle.cg_model.specs.Canonical.{AreFields, takes, fixed_below, arity_of}
use Rattle.cg_bits.specs.Ranges.{IsFormat}
use Rattle.cg_bits.proofs.Numbers.{length-bits_of}
use Rattle.cg_bits.proofs.Parts.{Holds-left, Holds-right, Holds-both, Holds-part, Holds-joined, length-joined}
use Rattle.cg_bits.proofs.Codes.{op_again, code_again}
use Rattle.cg_bits.proofs.Fields.{Holds-number, Holds-read, Holds-at, total-constant, arg_same, length-arg_bits, arg_reads, arg_stands}

-- ---- rules

false_true : (b : Bool) → b ≡ false → b ≡ true → ⊥
false_true b e f = absurd cc

pub count_four : (ops : List Op) (f : UnitFields) (p : ℕ) → AreFields ops f → p < 3 → (arg f p).count ≤ 4
count_four ops f p are lt = leb-true _ _ (and_parts _ _ (are.count p lt)).0

-- from the arity on, arguments are all zero
pub idle : (ops : List Op) (f : UnitFields) (p : ℕ) → AreFields ops f → p < 3 → arity_of f.op ≤ p → arg f p ≡ no_arg
idle ops f p are lt le =
    let past : ltb p (arity_of f.op) ≡ false = le-ltb p (arity_of f.op) le in
    let no : (b c : Bool) → (b || (ltb p (arity_of f.op) && c)) ≡ true → b ≡ true =
    λ b c e. ⊎_elim (λ l. l) (λ l. absurd (false_true (ltb p (arity_of f.op)) past (and_parts (ltb p (arity_of f.op)) c l).0)) (or_cases b (ltb p (arity_of f.op) && c) e) in
    let mode = not-true (arg f p).fixed (no (not (arg f p).fixed) (not (fixed_below f p)) (are.mode p lt)) in
    let count = eqb-true (arg f p).count 0 (no (eqb (arg f p).count 0) (not (arg f p).fixed) (and_parts _ _ (are.count p lt)).1) in
    let word : (k : ℕ) → k < 4 → slice_index (arg f p).init k ≡ 0 =
    λ k l. eqb-true (slice_index (arg f p).init k) 0 (⊎_elim (λ e. e)
    (λ e. absurd (false_true (ltb p (arity_of f.op)) past (and_parts (ltb p (arity_of f.op)) (not (arg f p).fixed) (and_parts (takes f p) (ltb k (arg f p).count) e).0).0))
    (or_cases (eqb (slice_index (arg f p).init k) 0) (takes f p && ltb k (arg f p).count) (are.word p k lt l))) in
    arg_same (arg f p) no_arg mode count (fill_by_all (λ k. 0) (arg f p).init 4 0 (are.inits p lt) word)

-- ---- units

pub unit_same : (f g : UnitFields) → f.op ≡ g.op → f.stage ≡ g.stage → f.port ≡ g.port → f.immediate ≡ g.immediate → f.args ≡ g.args → f ≡ g
unit_same f g a b c d e =
    ap (λ (z : Option Op). let x : UnitFields = record { op = z; stage = f.stage; port = f.port; immediate = f.immediate; args = f.args } in x) a
    ∙ ap (λ (z : ℕ). let x : UnitFields = record { op = g.op; stage = z; port = f.port; immediate = f.immediate; args = f.args } in x) b
    ∙ ap (λ (z : ℕ). let x : UnitFields = record { op = g.op; stage = g.stage; port = z; immediate = f.immediate; args = f.args } in x) c
    ∙ ap (λ (z : ℕ). let x : UnitFields = record { op = g.op; stage = g.stage; port = g.port; immediate = z; args = f.args } in x) d
    ∙ ap (λ (z : List ArgFields). let x : UnitFields = record { op = g.op; stage = g.stage; port = g.port; immediate = g.immediate; args = z } in x) e

length-args : (f : UnitFields) (n : ℕ) → length (joined (λ p. arg_bits (arg f p)) n) ≡ n * arg_len
length-args f n = length-joined (λ p. arg_bits (arg f p)) (λ p. arg_len) n (λ p lt. length-arg_bits (arg f p)) ∙ total-constant arg_len n

pub length-unit_bits : (F : Format) (n : ℕ) (f : UnitFields) → length (unit_bits F n f) ≡ args_at F + n * arg_len
unfolding unit_bits
length-unit_bits F n f =
    let code = bits_of F.op_bits (code_of f.op) in
    let stage = bits_of 16 f.stage in
    let port = bits_of 4 f.port in
    let immediate = bits_of 32 f.immediate in
    let args = joined (λ p. arg_bits (arg f p)) n in
    let l4 : length (immediate ++ args) ≡ 32 + n * arg_len = omega (arith, length-append immediate args, length-bits_of 32 f.immediate, length-args f n) in
    let l3 : length (port ++ (immediate ++ args)) ≡ 36 + n * arg_len = omega (arith, length-append port (immediate ++ args), length-bits_of 4 f.port) in
    let l2 : length (stage ++ (port ++ (immediate ++ args))) ≡ 52 + n * arg_len = omega (arith, length-append stage (port ++ (immediate ++ args)), length-bits_of 16 f.stage) in
    omega (arith, length-append code (stage ++ (port ++ (immediate ++ args))), length-bits_of F.op_bits (code_of f.op))

module _ (F : Format) (is : IsFormat F) (n : ℕ) (few : n ≤ 3) (bits : List Bool) (at : ℕ) where
  pub unit_reads : (ops : List Op) (f : UnitFields) → AreFields ops f → code_of f.op ≤ F.greatest → arity_of f.op ≤ n → Holds bits at (unit_bits F n f) → unit_in F n bits at ≡ f
  unfolding unit_bits unit_in
  unit_reads ops f are known arity h =
      let code = bits_of F.op_bits (code_of f.op) in
      let stage = bits_of 16 f.stage in
      let port = bits_of 4 f.port in
      let immediate = bits_of 32 f.immediate in
      let args = joined (λ p. arg_bits (arg f p)) n in
      let code_fits : F.greatest < 2 ^ F.op_bits = is.codes_fit in
      let last = stage_fits ops f are in
      let h1 = Holds-left bits at code (stage ++ (port ++ (immediate ++ args))) h in
      let r1 = Holds-right bits at code (stage ++ (port ++ (immediate ++ args))) F.op_bits (length-bits_of F.op_bits (code_of f.op)) h in
      let h2 = Holds-left bits (at + F.op_bits) stage (port ++ (immediate ++ args)) r1 in
      let r2 = Holds-right bits (at + F.op_bits) stage (port ++ (immediate ++ args)) 16 (length-bits_of 16 f.stage) r1 in
      let h3 = Holds-left bits (at + F.op_bits + 16) port (immediate ++ args) r2 in
      let r3 = Holds-at bits (at + F.op_bits + 16 + 4) (at + F.op_bits + 20) (immediate ++ args) (omega arith) (Holds-right bits (at + F.op_bits + 16) port (immediate ++ args) 4 (length-bits_of 4 f.port) r2) in
      let h4 = Holds-left bits (at + F.op_bits + 20) immediate args r3 in
      let r4 = Holds-at bits (at + F.op_bits + 20 + 32) (at + args_at F) args (omega arith) (Holds-right bits (at + F.op_bits + 20) immediate args 32 (length-bits_of 32 f.immediate) r3) in
      let place : ℕ → ℕ = λ p. at + args_at F + p * arg_len in
      let one : (p : ℕ) → p < n → arg_in bits (place p) ≡ arg f p =
      λ p lt. let four = count_four ops f p are (omega arith) in
      arg_reads bits (place p) (arg f p) (omega arith) (are.inits p (omega arith)) (λ k l. are.init_words p k (omega arith) l)
      (Holds-at bits (at + args_at F + total (λ z. arg_len) p) (place p) (arg_bits (arg f p)) (omega (arith, total-constant arg_len p))
      (Holds-part bits (at + args_at F) (λ z. arg_bits (arg f z)) (λ z. arg_len) n p (λ i l. length-arg_bits (arg f i)) lt r4)) in
      let each : (p : ℕ) → p < 3 → arg f p ≡ cond (ltb p n) (arg_in bits (place p)) no_arg =
      λ p lt. ⊎_elim (λ l. rw (lt-ltb p n l) (sym (one p l))) (λ l. rw (le-ltb p n l) (idle ops f p are lt (omega arith))) (cases_lt p n) in
      unit_same _ f (ap (op_of F) (Holds-number bits at F.op_bits (code_of f.op) (omega arith) h1) ∙ op_again F f.op known)
      (Holds-number bits (at + F.op_bits) 16 f.stage (omega arith) h2) (Holds-number bits (at + F.op_bits + 16) 4 f.port are.ports h3)
      (Holds-number bits (at + F.op_bits + 20) 32 f.immediate are.immediates h4)
      (sym (fill_by_all (λ p. cond (ltb p n) (arg_in bits (place p)) no_arg) f.args 3 no_arg are.args each))

  pub unit_stands : number_at bits at F.op_bits ≤ F.greatest → at + (args_at F + n * arg_len) ≤ length bits → Holds bits at (unit_bits F n (unit_in F n bits at))
  unfolding unit_bits unit_in
  unit_stands coded le =
      let f = unit_in F n bits at in
      let place : ℕ → ℕ = λ p. at + args_at F + p * arg_len in
      let code : Holds bits at (bits_of F.op_bits (code_of f.op)) =
      subst (λ z. Holds bits at (bits_of F.op_bits z)) (sym (code_again F (number_at bits at F.op_bits) coded is.known)) (Holds-read bits at F.op_bits (omega arith)) in
      let stage : Holds bits (at + F.op_bits) (bits_of 16 f.stage) = Holds-read bits (at + F.op_bits) 16 (omega arith) in
      let port : Holds bits (at + F.op_bits + 16) (bits_of 4 f.port) = Holds-read bits (at + F.op_bits + 16) 4 (omega arith) in
      let immediate : Holds bits (at + F.op_bits + 20) (bits_of 32 f.immediate) = Holds-read bits (at + F.op_bits + 20) 32 (omega arith) in
      let one : (p : ℕ) → p < n → arg f p ≡ arg_in bits (place p) =
      λ p lt. get_or-map-range_with_len (λ q. cond (ltb q n) (arg_in bits (place q)) no_arg) 0 3 p p no_arg (omega arith) (omega arith) ∙ rw (lt-ltb p n lt) refl in
      let room : (p : ℕ) → p < n → place p + arg_len ≤ length bits = λ p lt. omega arith in
      let each : (p : ℕ) → p < n → Holds bits (at + args_at F + total (λ z. arg_len) p) (arg_bits (arg f p)) =
      λ p lt. Holds-at bits (place p) (at + args_at F + total (λ z. arg_len) p) (arg_bits (arg f p)) (omega (arith, total-constant arg_len p))
      (subst (λ z. Holds bits (place p) (arg_bits z)) (sym (one p lt)) (arg_stands bits (place p) (room p lt))) in
      let args = Holds-joined bits (at + args_at F) (λ p. arg_bits (arg f p)) (λ z. arg_len) n (λ i l. length-arg_bits (arg f i)) each in
      let a4 = Holds-both bits (at + F.op_bits + 20) (bits_of 32 f.immediate) (joined (λ p. arg_bits (arg f p)) n) 32 (length-bits_of 32 f.immediate) immediate (Holds-at bits (at + args_at F) (at + F.op_bits + 20 + 32) _ (omega arith) args) in
      let a3 = Holds-both bits (at + F.op_bits + 16) (bits_of 4 f.port) _ 4 (length-bits_of 4 f.port) port (Holds-at bits (at + F.op_bits + 20) (at + F.op_bits + 16 + 4) _ (omega arith) a4) in
      let a2 = Holds-both bits (at + F.op_bits) (bits_of 16 f.stage) _ 16 (length-bits_of 16 f.stage) stage a3 in
      Holds-both bits at (bits_of F.op_bits (code_of f.op)) _ F.op_bits (length-bits_of F.op_bits (code_of f.op)) code a2
