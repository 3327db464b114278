use Rattle.std.proofs.Common.{◌≡◌, ◌+◌, ◌*◌, ◌/◌, ◌%◌, ◌^◌, ◌<◌, ◌≤◌, Some, sym, ap, subst, ◌∙◌, arith}
use Rattle.std.proofs.lemmas.Bool.{eq-eqb, ne_eqb}
use Rattle.cg_model.specs.Config.{arg}
use Rattle.cg_config.proofs.ByCase.{told_fixed, told_initial, told_none}
use Rattle.cg_bits.specs.Numbers.{bits_of_bytes, number_at}
use Rattle.cg_bits.specs.Format.{cgb2}
use Rattle.cg_bits.specs.Reading.{unit_in}
use Rattle.cg_view.proofs.Sparse.{count_few, fixed_there, count_there, word_there, immediate_there}
use Rattle.cg_view.proofs.Heads.{fixed_head, count_head}
use Rattle.cg_view.proofs.unit_view.unit_told.Goals as goal

pub number_at-requires-then-turn-head-clause-inside : goal.number_at-requires-then-turn-head-clause-inside
number_at-requires-then-turn-head-clause-inside c =
    let n = c.args.ports in
    let body = c.args.body.now in
    let bits = bits_of_bytes body in
    let at = c.args.at in
    let p = c.args.place in
    let held = c.requires.held in
    let few = held.few in
    let port = c.requires.port in
    let count = ap (λ z. z % 8) c.number_at-head.ensures ∙ count_head body at n held p port ∙ sym (count_there n bits at p port few) in
    let most = count_few (unit_in cgb2 n bits at) p (omega arith) held.fields in
    let four : c.number_at-head.result % 8 ≤ 4 = subst (λ z. z ≤ 4) (sym count) most in
    let inside = held.inside in
    omega arith

pub returns-then-head-eq1 : goal.returns-then-head-eq1
returns-then-head-eq1 c =
    let n = c.args.ports in
    let body = c.args.body.now in
    let bits = bits_of_bytes body in
    let at = c.args.at in
    let p = c.args.place in
    let f = unit_in cgb2 n bits at in
    let held = c.requires.held in
    let port = c.requires.port in
    let mode : number_at bits (at + 58 + p * 132) 1 ≡ 1 = sym (ap (λ z. z / 2 ^ 3) c.number_at-head.ensures ∙ fixed_head body at n held p port) ∙ c.if-head-eq1.true in
    let fixed = fixed_there n bits at p port held.few ∙ eq-eqb _ _ mode in
    let immediate : c.number_at.result ≡ f.immediate = c.number_at.ensures ∙ ap (λ z. number_at bits z 32) (omega arith) ∙ sym (immediate_there n bits at) in
    ap (λ z. Some z) immediate ∙ sym (told_fixed f p c.args.turn fixed)

pub returns-then-turn-head : goal.returns-then-turn-head
returns-then-turn-head c =
    let n = c.args.ports in
    let body = c.args.body.now in
    let bits = bits_of_bytes body in
    let at = c.args.at in
    let p = c.args.place in
    let f = unit_in cgb2 n bits at in
    let held = c.requires.held in
    let few = held.few in
    let port = c.requires.port in
    let mode : number_at bits (at + 58 + p * 132) 1 ≡ c.number_at-head.result / 2 ^ 3 = sym (ap (λ z. z / 2 ^ 3) c.number_at-head.ensures ∙ fixed_head body at n held p port) in
    let fixed = fixed_there n bits at p port few ∙ ne_eqb _ _ (λ e. c.if-head-eq1.false (sym mode ∙ e)) in
    let count : c.number_at-head.result % 8 ≡ (arg f p).count = ap (λ z. z % 8) c.number_at-head.ensures ∙ count_head body at n held p port ∙ sym (count_there n bits at p port few) in
    let below : c.args.turn < (arg f p).count = subst (λ z. c.args.turn < z) count c.if-turn-head.true in
    let most = count_few f p (omega arith) held.fields in
    let word = c.number_at-then-turn-head.ensures ∙ sym (word_there n bits at p c.args.turn port few (omega arith)) in
    ap (λ z. Some z) word ∙ sym (told_initial f p c.args.turn fixed below)

pub returns-else-turn-head : goal.returns-else-turn-head
returns-else-turn-head c =
    let n = c.args.ports in
    let body = c.args.body.now in
    let bits = bits_of_bytes body in
    let at = c.args.at in
    let p = c.args.place in
    let f = unit_in cgb2 n bits at in
    let held = c.requires.held in
    let few = held.few in
    let port = c.requires.port in
    let mode : number_at bits (at + 58 + p * 132) 1 ≡ c.number_at-head.result / 2 ^ 3 = sym (ap (λ z. z / 2 ^ 3) c.number_at-head.ensures ∙ fixed_head body at n held p port) in
    let fixed = fixed_there n bits at p port few ∙ ne_eqb _ _ (λ e. c.if-head-eq1.false (sym mode ∙ e)) in
    let count : c.number_at-head.result % 8 ≡ (arg f p).count = ap (λ z. z % 8) c.number_at-head.ensures ∙ count_head body at n held p port ∙ sym (count_there n bits at p port few) in
    sym (told_none f p c.args.turn fixed (subst (λ z. z ≤ c.args.turn) count c.if-turn-head.false))
