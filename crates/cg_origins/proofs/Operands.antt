-- The operands of a unit in a slot.
use Rattle.std.proofs.Common.{◌≡◌, ℕ, ◌+◌, ◌<◌, ◌≤◌, true, false, List, Option, Some, None, length, sym, ap, subst, ◌∙◌, arith, ⊎_elim}
use Rattle.std.specs.Prelude.{slice_get, slice_index_or, slice_set}
use Rattle.std.specs.Option.{unwrap_or}
use Rattle.std.proofs.lemmas.Bool.{cases_lt}
use Rattle.std.proofs.lemmas.List.{get_or_default, get_or-set_same, get_or-set_other}
use Rattle.std.proofs.lemmas.Option.{slice_get-get_or, same_Some, none-some}
use Rattle.cg_word.specs.declared.op.Op.{Op}
use Rattle.cg_word.proofs.Marks.{among_from}
use Rattle.cg_model.specs.Array.{Arch, IsArch, port, unit}
use Rattle.cg_model.specs.declared.config.ArgFields.{ArgFields}
use Rattle.cg_model.specs.declared.config.UnitFields.{UnitFields}
use Rattle.cg_model.specs.Config.{Config, arg, fields, no_arg}
use Rattle.cg_model.specs.Canonical.{IsCanonical, arity_of, offered}
use Rattle.cg_model.specs.Machine.{at_cycle, driven, words_in}
use Rattle.cg_config.specs.Told.{told}
use Rattle.cg_config.proofs.ByCase.{argument_is, told_fixed, told_none, few_arguments}
use Rattle.cg_origins.specs.Source.{IsFrom, IsReadable, delay_of}
use Rattle.cg_origins.specs.declared.source.Source.{Source}
use Rattle.cg_origins.specs.declared.source.Source.TheVariants as source
use Rattle.cg_origins.specs.Tasks.{IsOperand}

enough : (A : Arch) (x p : ℕ) → IsArch A → x < length A.units → (o : Option Op) → offered (unit A x).ops o ≡ true → p < arity_of o → p < length (unit A x).ports
enough A x p valid known None offer l = absurd (omega arith)
enough A x p valid known (Some op) offer l =
    let most = valid.enough_ports x op known (among_from (unit A x).ops op offer) in
    omega arith

module _ (A : Arch) (C : Config) (slot x p : ℕ) (canonical : IsCanonical A C) (in_slot : slot < C.ii) (known : x < length A.units) where
  -- each operand has a port
  pub has_port : IsArch A → p < arity_of (fields C x slot).op → p < length (unit A x).ports
  has_port valid = enough A x p valid known (fields C x slot).op (canonical.fielded x slot known in_slot).offer

  -- the fields of an operand, read at any default
  pub arg_read : (f : UnitFields) → f ≡ fields C x slot → p < arity_of f.op → (d : ArgFields) → slice_index_or f.args p d ≡ arg (fields C x slot) p
  arg_read f same below d =
      let few = few_arguments f.op in
      let long : length f.args ≡ 3 = ap (λ (z : UnitFields). length z.args) same ∙ (canonical.fielded x slot known in_slot).args in
      get_or_default f.args p d no_arg (omega arith) ∙ ap (λ (z : UnitFields). arg z p) same

-- an operand that is the immediate
pub operand_fixed : (A : Arch) (C : Config) (slot x p warm rows w : ℕ) → (arg (fields C x slot) p).fixed ≡ true → w ≡ (fields C x slot).immediate → 0 < rows → IsOperand A C slot x p warm rows (source.Word w)
operand_fixed A C slot x p warm rows w fixed is some =
    let f = fields C x slot in
    record {
      gives = λ n image c turn at.
          let word = driven (words_in A C n image c (at_cycle A C n image c).past) (slice_get (unit A x).ports p) in
          argument_is f p turn word
          ∙ ap (λ o. unwrap_or o word) (told_fixed f p turn fixed)
          ∙ sym (ap (λ o. unwrap_or o w) (told_fixed f p turn fixed));
      warmed = λ turn v late e. ap source.Word (is ∙ same_Some _ _ (sym (told_fixed f p turn fixed) ∙ e));
      readable = tt;
      near = some;
    }

-- an operand that is the word on its port, after its initial words
pub operand_linked : (A : Arch) (C : Config) (slot x p warm rows r : ℕ) (s : Source) → (arg (fields C x slot) p).fixed ≡ false → (arg (fields C x slot) p).count ≤ warm →
    p < length (unit A x).ports → r ≡ port A x p → IsFrom A C slot r s → IsReadable A C slot s → delay_of s < rows → IsOperand A C slot x p warm rows s
operand_linked A C slot x p warm rows r s free few has is from readable near =
    let f = fields C x slot in
    let at_port : slice_get (unit A x).ports p ≡ Some r = slice_get-get_or (unit A x).ports p 0 has ∙ ap Some (sym is) in
    record {
      gives = λ n image c turn at.
          let words = words_in A C n image c (at_cycle A C n image c).past in
          let on = driven words (slice_get (unit A x).ports p) in
          argument_is f p turn on
          ∙ ap (unwrap_or (told f p turn)) (ap (driven words) at_port ∙ from n image c at);
      warmed = λ turn v late e. absurd (none-some v (sym (told_none f p turn free (omega arith)) ∙ e));
      readable = readable;
      near = near;
    }

-- an operand stays one at a later turn and at more rows
pub operand_later : (A : Arch) (C : Config) (slot x p warm rows warm' rows' : ℕ) (s : Source) → warm ≤ warm' → rows ≤ rows' → IsOperand A C slot x p warm rows s → IsOperand A C slot x p warm' rows' s
operand_later A C slot x p warm rows warm' rows' s later more o =
    record {
      gives = o.gives;
      warmed = λ turn w late e. o.warmed turn w (omega arith) e;
      readable = o.readable;
      near = (let b = o.near in omega arith);
    }

-- the first k operands and one more
pub operands_more : (A : Arch) (C : Config) (slot x k warm own warm' rows rows' : ℕ) (sources : List Source) (s : Source) → k < length sources → warm ≤ warm' → own ≤ warm' → rows ≤ rows' →
    ((p : ℕ) → p < k → IsOperand A C slot x p warm rows (slice_index_or sources p (source.Word 0))) → IsOperand A C slot x k own rows' s →
    (p : ℕ) → p < k + 1 → IsOperand A C slot x p warm' rows' (slice_index_or (slice_set sources k s) p (source.Word 0))
operands_more A C slot x k warm own warm' rows rows' sources s inside later own_later more each one p l =
    ⊎_elim
    (λ b.
    subst (λ (z : Source). IsOperand A C slot x p warm' rows' z) (sym (get_or-set_other sources k p s (source.Word 0) (omega arith)))
    (operand_later A C slot x p warm rows warm' rows' _ later more (each p b)))
    (λ b.
    let e : k ≡ p = omega arith in
    subst (λ (q : ℕ). IsOperand A C slot x q warm' rows' (slice_index_or (slice_set sources k s) q (source.Word 0))) e
    (subst (λ (z : Source). IsOperand A C slot x k warm' rows' z) (sym (get_or-set_same sources k s (source.Word 0) inside))
    (operand_later A C slot x k own rows' warm' rows' s own_later (omega arith) one)))
    (cases_lt p k)
