use Rattle.std.proofs.Common.{◌∙◌, ◌∷◌, [], ◌++◌, true, false, not, cond, ap, sym, bytes_eq}
use Rattle.std.specs.List.{list_any}
use Rattle.cg_parts.proofs.Lists.{list_any-texts}
use Rattle.cg_parts.proofs.names.add_distinct.Goals as goal
use Rattle.std.proofs.lemmas.Bool.{not-true, not-false}

pub returns-in_ok-push-clause-kept : goal.returns-in_ok-push-clause-kept
returns-in_ok-push-clause-kept c =
    let apart = ap (list_any (bytes_eq c.args.name.now)) (sym c.requires) ∙ sym (list_any-texts (bytes_eq c.args.name.now) c.args.seen.now.keys) ∙ not-true (list_any (λ k. bytes_eq c.args.name.now k.now) c.args.seen.now.keys) (sym c.in_ok-_index.ensures.added ∙ c.if-added.true) in
    c.in_ok-push.ensures.items
    ∙ ap (λ name. c.args.kept.now.items ++ name ∷ []) c.in_ok-copy_of.ensures
    ∙ ap (λ b. cond b c.args.kept.now.items (c.args.kept.now.items ++ c.args.name.now ∷ [])) (sym apart)

pub returns-else-added-clause-kept : goal.returns-else-added-clause-kept
returns-else-added-clause-kept c =
    let there = ap (list_any (bytes_eq c.args.name.now)) (sym c.requires) ∙ sym (list_any-texts (bytes_eq c.args.name.now) c.args.seen.now.keys) ∙ not-false (list_any (λ k. bytes_eq c.args.name.now k.now) c.args.seen.now.keys) (sym c.in_ok-_index.ensures.added ∙ c.if-added.false) in
    ap (λ b. cond b c.args.kept.now.items (c.args.kept.now.items ++ c.args.name.now ∷ [])) (sym there)
