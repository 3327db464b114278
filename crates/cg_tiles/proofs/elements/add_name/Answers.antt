use Rattle.std.proofs.Common.{◌≡◌, ◌∙◌, ◌∷◌, [], ◌++◌, true, false, cond, ap, sym, bytes_eq, string_bytes}
use Rattle.std.specs.List.{list_any}
use Rattle.std.proofs.lemmas.Bool.{not-true, not-false}
use Rattle.cg_reading.proofs.Lists.{list_any-map}
use Rattle.cg_tiles.proofs.elements.add_name.Goals as goal

pub returns-in_ok-push-clause-names : goal.returns-in_ok-push-clause-names
returns-in_ok-push-clause-names c =
    let name = c.args.name in
    let keys = c.args.kept.now.seen.keys in
    let same : string_bytes c.in_ok-to_string.field-0 ≡ name = c.in_ok-to_string.ensures.ok ∙ c.as_str.ensures in
    let apart : list_any (bytes_eq name) c.args.kept.now.names.items ≡ false =
    ap (list_any (bytes_eq name)) (sym c.requires) ∙ list_any-map (bytes_eq name) string_bytes keys
    ∙ ap (λ text. list_any (λ k. bytes_eq text (string_bytes k)) keys) (sym same)
    ∙ not-true (list_any (λ k. bytes_eq (string_bytes c.in_ok-to_string.field-0) (string_bytes k)) keys) (sym c.in_ok-added.ensures.added ∙ c.if-added.true) in
    c.in_ok-push.ensures.items ∙ ap (λ b. cond b c.args.kept.now.names.items (c.args.kept.now.names.items ++ name ∷ [])) (sym apart)

pub returns-else-added-clause-names : goal.returns-else-added-clause-names
returns-else-added-clause-names c =
    let name = c.args.name in
    let keys = c.args.kept.now.seen.keys in
    let same : string_bytes c.in_ok-to_string.field-0 ≡ name = c.in_ok-to_string.ensures.ok ∙ c.as_str.ensures in
    let there : list_any (bytes_eq name) c.args.kept.now.names.items ≡ true =
    ap (list_any (bytes_eq name)) (sym c.requires) ∙ list_any-map (bytes_eq name) string_bytes keys
    ∙ ap (λ text. list_any (λ k. bytes_eq text (string_bytes k)) keys) (sym same)
    ∙ not-false (list_any (λ k. bytes_eq (string_bytes c.in_ok-to_string.field-0) (string_bytes k)) keys) (sym c.in_ok-added.ensures.added ∙ c.if-added.false) in
    ap (λ b. cond b c.args.kept.now.names.items (c.args.kept.now.names.items ++ name ∷ [])) (sym there)
