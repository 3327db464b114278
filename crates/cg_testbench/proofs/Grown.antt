-- Texts that grow by a part at each step of a loop.
use Rattle.std.proofs.Common.{◌≡◌, ℕ, ◌+◌, ◌<◌, List, [], ◌++◌, take, flat_map, length, get_or, sym, ap, ◌∙◌}
use Rattle.cg_word.specs.declared.op.Op.{Op}
use Rattle.cg_word.specs.declared.op.Op.TheVariants.{Const}
use Rattle.cg_word.specs.Word.{all_ops}
use Rattle.cg_list_laws.specs.Below.{lists_below}
use Rattle.cg_list_laws.proofs.Grown.{grown_alone, begun}
use Rattle.cg_flat.proofs.Lists.{flat_map-more}

-- before the first number
pub none_below : (f : ℕ → List ℕ) (text : List ℕ) → text ≡ [] → text ≡ lists_below f 0
none_below f text e = e ∙ sym (begun f)

-- one more number, whose part was lent
pub one_more : (f : ℕ → List ℕ) (n : ℕ) (old new part lent : List ℕ) → old ≡ lists_below f n → part ≡ f n → lent ≡ part → new ≡ old ++ lent → new ≡ lists_below f (n + 1)
one_more f n old new part lent so_far is same here = grown_alone f n old new so_far (here ∙ ap (λ z. old ++ z) (same ∙ is))

-- one more operation, whose part was lent
pub one_more_op : (f : Op → List ℕ) (k : ℕ) (old new part lent : List ℕ) → k < length all_ops → old ≡ flat_map f (take k all_ops) → part ≡ f (get_or all_ops k Const) → lent ≡ part → new ≡ old ++ lent → new ≡ flat_map f (take (k + 1) all_ops)
one_more_op f k old new part lent within so_far is same here =
    here ∙ ap (λ z. old ++ z) (same ∙ is) ∙ ap (λ z. z ++ f (get_or all_ops k Const)) so_far ∙ sym (flat_map-more f all_ops k Const within)
