use Rattle.std.proofs.Common.{◌≡◌, ◌∙◌, ◌∷◌, [], ◌++◌, true, false, cond, ap, sym, bytes_eq, string_bytes}
use Rattle.std.specs.List.{list_any}
use Rattle.std.proofs.lemmas.Bool.{not-true, not-false}
use Rattle.cg_tiles.specs.Lean.{key_of, is_same}
use Rattle.cg_reading.proofs.Lists.{list_any-map}
use Rattle.cg_tiles.proofs.lean.add_reference.Goals as goal

pub returns-in_ok-push-clause-kept : goal.returns-in_ok-push-clause-kept
returns-in_ok-push-clause-kept c =
    let r = c.args.reference in
    let refs = c.args.kept.now.items in
    let keys = c.args.seen.now.keys in
    let same : string_bytes c.in_ok-key_of.field-0 ≡ key_of r = c.in_ok-key_of.ensures in
    let apart : list_any (is_same r) refs ≡ false =
    sym (list_any-map (bytes_eq (key_of r)) key_of refs)
    ∙ ap (list_any (bytes_eq (key_of r))) (sym c.requires) ∙ list_any-map (bytes_eq (key_of r)) string_bytes keys
    ∙ ap (λ text. list_any (λ k. bytes_eq text (string_bytes k)) keys) (sym same)
    ∙ not-true (list_any (λ k. bytes_eq (string_bytes c.in_ok-key_of.field-0) (string_bytes k)) keys) (sym c.in_ok-added.ensures.added ∙ c.if-added.true) in
    c.in_ok-push.ensures.items ∙ ap (λ b. cond b refs (refs ++ r ∷ [])) (sym apart)

pub returns-else-added-clause-kept : goal.returns-else-added-clause-kept
returns-else-added-clause-kept c =
    let r = c.args.reference in
    let refs = c.args.kept.now.items in
    let keys = c.args.seen.now.keys in
    let same : string_bytes c.in_ok-key_of.field-0 ≡ key_of r = c.in_ok-key_of.ensures in
    let there : list_any (is_same r) refs ≡ true =
    sym (list_any-map (bytes_eq (key_of r)) key_of refs)
    ∙ ap (list_any (bytes_eq (key_of r))) (sym c.requires) ∙ list_any-map (bytes_eq (key_of r)) string_bytes keys
    ∙ ap (λ text. list_any (λ k. bytes_eq text (string_bytes k)) keys) (sym same)
    ∙ not-false (list_any (λ k. bytes_eq (string_bytes c.in_ok-key_of.field-0) (string_bytes k)) keys) (sym c.in_ok-added.ensures.added ∙ c.if-added.false) in
    ap (λ b. cond b refs (refs ++ r ∷ [])) (sym there)
