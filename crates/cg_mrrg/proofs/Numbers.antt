-- Nodes by number, and their links.
use Rattle.std.proofs.Common.{◌≡◌, ℕ, suc, ◌+◌, ◌*◌, ◌<◌, ◌%◌, List, [], ◌∷◌, ◌++◌, length, sym, ap, ◌∙◌, subst, arith}
use Rattle.std.specs.Prelude.{slice_index, slice_range}
use Rattle.std.proofs.lemmas.Nat.{div-mul-add, mod-mul-add, mul-add-lt}
use Rattle.std.proofs.Math.Nat.{suc-mul, mul_comm}
use Rattle.cg_model.specs.Array.{Arch}
use Rattle.cg_mrrg.specs.declared.links.Link.{Link}
use Rattle.cg_mrrg.specs.Graph.{links_into, links_out_of}
use Rattle.cg_mrrg.specs.Lists.{AreParts}
use Rattle.cg_mrrg.specs.Nodes.{node_at, into, out_of}
use Rattle.cg_mrrg.proofs.Parts.{more}

-- node (r, s) has number r * ii + s
pub numbered : (ii r s : ℕ) → s < ii → node_at ii (r * ii + s) ≡ record { resource = r; slot = s }
numbered ii r s h =
    ap (λ z. record { resource = z; slot = (r * ii + s) % ii }) (div-mul-add r ii s h)
    ∙ ap (λ z. record { resource = r; slot = z }) (mod-mul-add r ii s h)

pub into_is : (A : Arch) (ii r s : ℕ) → s < ii → into A ii (r * ii + s) ≡ links_into (record { arch = A; interval = ii }) (record { resource = r; slot = s })
into_is A ii r s h = ap (links_into (record { arch = A; interval = ii })) (numbered ii r s h)

pub out_is : (A : Arch) (ii r s : ℕ) → s < ii → out_of A ii (r * ii + s) ≡ links_out_of (record { arch = A; interval = ii }) (record { resource = r; slot = s })
out_is A ii r s h = ap (links_out_of (record { arch = A; interval = ii })) (numbered ii r s h)

-- no node's links
pub no_nodes : (part : ℕ → List Link) (ii : ℕ) (items : List Link) (starts : List ℕ) → AreParts part 0 items starts → AreParts part (0 * ii) items starts
no_nodes part ii items starts p = let e : 0 * ii ≡ 0 = omega arith in subst (λ z. AreParts part z items starts) (sym e) p

-- the links of one node more
pub node_added : (part : ℕ → List Link) (ii r s : ℕ) (items items' new : List Link) (starts starts' : List ℕ) → part (r * ii + s) ≡ new →
    items' ≡ items ++ new → starts' ≡ starts ++ length items' ∷ [] → AreParts part (r * ii + s) items starts → AreParts part (r * ii + (s + 1)) items' starts'
node_added part ii r s items items' new starts starts' is longer ends p =
    let longer' : items' ≡ items ++ part (r * ii + s) = longer ∙ ap (λ (z : List Link). items ++ z) (sym is) in
    let n : suc (r * ii + s) ≡ r * ii + (s + 1) = omega arith in
    subst (λ z. AreParts part z items' starts') n
    (subst (λ z. AreParts part (suc (r * ii + s)) items' z) (sym ends)
    (subst (λ (z : List Link). AreParts part (suc (r * ii + s)) z (starts ++ length z ∷ [])) (sym longer')
    (more part (r * ii + s) items starts p)))

-- all nodes of a resource
pub resource_added : (part : ℕ → List Link) (ii r s : ℕ) (items : List Link) (starts : List ℕ) → s ≡ ii → AreParts part (r * ii + s) items starts → AreParts part ((r + 1) * ii) items starts
resource_added part ii r s items starts all p =
    let one_more : suc r ≡ r + 1 = omega arith in
    let e : r * ii + s ≡ (r + 1) * ii = ap (λ z. r * ii + z) all ∙ sym (suc-mul r ii) ∙ ap (λ z. z * ii) one_more in
    subst (λ z. AreParts part z items starts) e p

-- the part of a node
pub lent : (part : ℕ → List Link) (ii n r s : ℕ) (items : List Link) (starts : List ℕ) → AreParts part (n * ii) items starts → r < n → s < ii →
    slice_range items (slice_index starts (r * ii + s)) (slice_index starts (r * ii + s + 1)) ≡ part (r * ii + s)
lent part ii n r s items starts p hr hs = p.parts (r * ii + s) (subst (λ z. r * ii + s < z) (mul_comm ii n) (mul-add-lt r ii s n hr hs))

pub into_lent : (A : Arch) (ii r s : ℕ) (items : List Link) (starts : List ℕ) → AreParts (into A ii) (length A.resources * ii) items starts → r < length A.resources → s < ii →
    slice_range items (slice_index starts (r * ii + s)) (slice_index starts (r * ii + s + 1)) ≡ links_into (record { arch = A; interval = ii }) (record { resource = r; slot = s })
into_lent A ii r s items starts p hr hs = lent (into A ii) ii (length A.resources) r s items starts p hr hs ∙ into_is A ii r s hs

pub out_lent : (A : Arch) (ii r s : ℕ) (items : List Link) (starts : List ℕ) → AreParts (out_of A ii) (length A.resources * ii) items starts → r < length A.resources → s < ii →
    slice_range items (slice_index starts (r * ii + s)) (slice_index starts (r * ii + s + 1)) ≡ links_out_of (record { arch = A; interval = ii }) (record { resource = r; slot = s })
out_lent A ii r s items starts p hr hs = lent (out_of A ii) ii (length A.resources) r s items starts p hr hs ∙ out_is A ii r s hs
