use Rattle.std.proofs.Common.{◌≡◌, ℕ, ◌+◌, ◌*◌, ◌/◌, ◌%◌, ◌^◌, ◌<◌, ◌≤◌, false, get_or, refl, sym, ap, subst, ◌∙◌, arith, ⊎_elim}
use Rattle.std.proofs.lemmas.Bool.{cases_lt, eq-eqb, ne_eqb}
use Rattle.std.proofs.lemmas.List.FromFn.{fill_by_all}
use Rattle.cg_model.specs.Config.{arg}
use Rattle.cg_bits.specs.Numbers.{bits_of_bytes, number_at}
use Rattle.cg_bits.specs.Format.{cgb2}
use Rattle.cg_bits.specs.Reading.{unit_in}
use Rattle.cg_bits.proofs.Fields.{arg_same}
use Rattle.cg_view.proofs.Sparse.{fixed_is, word_zero, count_few, fixed_there, count_there, word_there}
use Rattle.cg_view.proofs.Heads.{fixed_head, count_head}
use Rattle.cg_view.proofs.unit_view.arg_of.Goals as goal

pub returns-then-head-eq1 : goal.returns-then-head-eq1
returns-then-head-eq1 c =
    let n = c.args.ports in
    let body = c.args.body.now in
    let bits = bits_of_bytes body in
    let at = c.args.at in
    let p = c.args.p in
    let held = c.requires.held in
    let few = held.few in
    let port = c.requires.port in
    let mode : number_at bits (at + 58 + p * 132) 1 ≡ 1 = sym (ap (λ z. z / 2 ^ 3) c.number_at-head.ensures ∙ fixed_head body at n held p port) ∙ c.if-head-eq1.true in
    let fixed = fixed_there n bits at p port few ∙ eq-eqb _ _ mode in
    sym (fixed_is (unit_in cgb2 n bits at) p (omega arith) held.fields fixed)

pub words_of-requires-clause-few : goal.words_of-requires-clause-few
words_of-requires-clause-few c =
    let n = c.args.ports in
    let body = c.args.body.now in
    let bits = bits_of_bytes body in
    let at = c.args.at in
    let p = c.args.p in
    let held = c.requires.held in
    let few = held.few in
    let port = c.requires.port in
    let count = ap (λ z. z % 8) c.number_at-head.ensures ∙ count_head body at n held p port ∙ sym (count_there n bits at p port few) in
    let most = count_few (unit_in cgb2 n bits at) p (omega arith) held.fields in
    subst (λ z. z ≤ 4) (sym count) most

pub returns : goal.returns
returns c =
    let n = c.args.ports in
    let body = c.args.body.now in
    let bits = bits_of_bytes body in
    let at = c.args.at in
    let p = c.args.p in
    let f = unit_in cgb2 n bits at in
    let held = c.requires.held in
    let few = held.few in
    let port = c.requires.port in
    let mode : number_at bits (at + 58 + p * 132) 1 ≡ c.number_at-head.result / 2 ^ 3 = sym (ap (λ z. z / 2 ^ 3) c.number_at-head.ensures ∙ fixed_head body at n held p port) in
    let fixed = fixed_there n bits at p port few ∙ ne_eqb _ _ (λ e. c.if-head-eq1.false (sym mode ∙ e)) in
    let count : c.number_at-head.result % 8 ≡ (arg f p).count = ap (λ z. z % 8) c.number_at-head.ensures ∙ count_head body at n held p port ∙ sym (count_there n bits at p port few) in
    let word : (k : ℕ) → k < 4 → get_or (arg f p).init k 0 ≡ get_or c.words_of.result k 0 =
    λ k lt. ⊎_elim (λ l. word_there n bits at p k port few lt ∙ sym (c.words_of.ensures.read k l))
    (λ l. word_zero f p k (omega arith) lt held.fields (omega arith) ∙ sym (c.words_of.ensures.zero k l lt)) (cases_lt k (c.number_at-head.result % 8)) in
    let words = fill_by_all (λ k. get_or c.words_of.result k 0) (arg f p).init 4 0 (held.fields.inits p (omega arith)) word ∙ sym (fill_by_all (λ k. get_or c.words_of.result k 0) c.words_of.result 4 0 (omega (arith, c.words_of.type_inv)) (λ k lt. refl)) in
    sym (arg_same (arg f p) (record { fixed = false; count = c.number_at-head.result % 8; init = c.words_of.result }) fixed (sym count) words)
