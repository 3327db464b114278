use Rattle.std.proofs.Common.{◌≡◌, ℕ, zero, suc, ◌<◌, length, get_or, subst, arith}
use Rattle.std.proofs.lemmas.List.{get_or_default}
use Rattle.cg_model.specs.declared.config.ArgFields.{ArgFields}
use Rattle.cg_model.specs.declared.config.UnitFields.{UnitFields}
use Rattle.cg_model.specs.Config.{arg, no_arg}
use Rattle.cg_config.specs.Rules.{AreWords}
use Rattle.cg_config.proofs.rules.are_typed.Goals as goal

three : (f : UnitFields) → AreWords (arg f 0).init → AreWords (arg f 1).init → AreWords (arg f 2).init → (p : ℕ) → p < 3 → AreWords (arg f p).init
three f x y z zero lt = x
three f x y z (suc zero) lt = y
three f x y z (suc (suc zero)) lt = z
three f x y z (suc (suc (suc p))) lt = absurd (omega arith)

known : (f : UnitFields) (p : ℕ) (d : ArgFields) → p < length f.args → AreWords (get_or f.args p d).init → AreWords (arg f p).init
known f p d lt h = subst (λ (a : ArgFields). AreWords a.init) (get_or_default f.args p d no_arg lt) h

pub returns : goal.returns
returns c =
    let f = c.args.fields.now in
    let many : length f.args ≡ 3 = omega arith in
    record {
      args = many;
      inits = three f (known f 0 _ (omega arith) c.are_words.ensures) (known f 1 _ (omega arith) c.are_words-2.ensures) (known f 2 _ (omega arith) c.are_words-3.ensures);
      immediates = omega arith;
    }
