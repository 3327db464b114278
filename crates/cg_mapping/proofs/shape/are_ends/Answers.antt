use Rattle.std.proofs.Common.{◌≡◌, ℕ, ◌<◌, List, length, map, get_or, sym, ap, ◌∙◌, arith}
use Rattle.std.proofs.lemmas.Bool.{both_ways, false≢true}
use Rattle.std.proofs.lemmas.List.{get_or-map}
use Rattle.cg_model.specs.Mapping.{end_of}
use Rattle.cg_mapping.specs.Ends.{as_end}
use Rattle.cg_mapping.proofs.shape.are_ends.Goals as goal

-- items of two lists that map to one list map to one value
alike_at : {X Y Z : Type 0} (f : X → Z) (g : Y → Z) (xs : List X) (ys : List Y) (i : ℕ) (x : X) (d : Y) → i < length xs → i < length ys → x ≡ get_or xs i x → map f xs ≡ map g ys → f x ≡ g (get_or ys i d)
alike_at f g xs ys i x d lx ly at same =
    ap f at ∙ sym (get_or-map f xs i x (f x) lx) ∙ ap (λ zs. get_or zs i (f x)) same ∙ get_or-map g ys i d (f x) ly

pub returns-then-not-is_end : goal.returns-then-not-is_end
returns-then-not-is_end c =
    let many : c.loop-i.i < length c.args.ends.now = omega arith in (
      λ e. absurd (false≢true e),
      λ same. absurd (both_ways c.is_end.result c.if-not-is_end.true (c.is_end.ensures.1
          (alike_at end_of as_end c.args.routes.now c.args.ends.now c.loop-i.i c.index-routes-i.result _ c.loop-i-test.true many c.index-routes-i.is same))),
    )
