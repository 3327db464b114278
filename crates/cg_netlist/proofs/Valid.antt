-- The netlist of a valid architecture is a graph of nets and cells.
use Rattle.std.proofs.Common.{◌≡◌, ℕ, zero, suc, ◌+◌, ◌<◌, ⊎_elim, List, [], ◌∷◌, ◌++◌, length, get_or, refl, ap, sym, ◌∙◌, subst, arith}
use Rattle.std.specs.Prelude.{slice_index}
use Rattle.std.specs.List.{list_all}
use Rattle.std.proofs.lemmas.Bool.{cases_lt}
use Rattle.std.proofs.lemmas.List.{get_or_default, get_or_past}
use Rattle.cg_model.specs.declared.array.Kind.{Kind}
use Rattle.cg_model.specs.declared.array.Kind.TheVariants.{Wire, Register, Port, Out}
use Rattle.cg_model.specs.declared.array.Resource.{Resource}
use Rattle.cg_model.specs.declared.array.Unit.{Unit}
use Rattle.cg_model.specs.Array.{Arch, IsArch, resource, unit, owner}
use Rattle.cg_model.specs.Limits.{longest_name}
use Rattle.cg_model.specs.Names.{IsName}
use Rattle.cg_flat.proofs.Lists.{links_of, item_at}
use Rattle.cg_verilog.specs.Words.{is_name_byte}
use Rattle.cg_netlist.specs.Built.{IsDriven, IsPlaced}
use Rattle.cg_netlist.proofs.Letters.{IsPlain, plain_append, plain_from}

-- ---- what a valid architecture says of a resource and of a unit

-- a resource of another kind than a wire is one of the architecture's
there : (A : Arch) (r : ℕ) (kind : Kind) → (resource A r).kind ≡ kind → (Wire ≡ kind → ⊥) → r < length A.resources
there A r kind is other =
    ⊎_elim (λ l. l) (λ past. absurd (other (sym (ap (λ (q : Resource). q.kind) (get_or_past A.resources r (record { name = []; kind = Wire; drivers = [] }) past)) ∙ is))) (cases_lt r (length A.resources))

plain_of : (most : ℕ) (name : List ℕ) → IsName most name → IsPlain name
plain_of most name h = plain_from name h.rest

pub unit_plain : (A : Arch) → IsArch A → (x : ℕ) → x < length A.units → IsPlain (unit A x).name
unit_plain A arch x l = plain_of longest_name (unit A x).name (arch.names.units x l)

-- the name of a port's letter
letter_plain : (p : ℕ) → p < 3 → IsPlain (95 ∷ (97 + p) ∷ [])
letter_plain zero l = refl
letter_plain (suc zero) l = refl
letter_plain (suc (suc zero)) l = refl
letter_plain (suc (suc (suc p))) l = absurd (omega arith)

plain_along : (a b : List ℕ) → a ≡ b → IsPlain b → IsPlain a
plain_along a b e h = ap (list_all is_name_byte) e ∙ h

port_plain : (A : Arch) → IsArch A → (r : ℕ) → (resource A r).kind ≡ Port → IsPlain (resource A r).name
port_plain A arch r is =
    let own = arch.port_owned r is in
    let x = own.0 in
    let p = own.1 in
    let few = arch.few_ports x own.2 in
    let low : p < 3 = let lt = own.3 in omega (arith, few, lt) in
    plain_along (resource A r).name ((unit A x).name ++ 95 ∷ (97 + p) ∷ [])
    (ap (λ s. (resource A s).name) (sym own.4) ∙ arch.names.ports x p own.2 own.3)
    (plain_append (unit A x).name (95 ∷ (97 + p) ∷ []) (unit_plain A arch x own.2) (letter_plain p low))

out_plain : (A : Arch) → IsArch A → (r : ℕ) → (resource A r).kind ≡ Out → IsPlain (resource A r).name
out_plain A arch r is =
    let own = arch.owned r is in
    let x = owner A r in
    plain_along (resource A r).name ((unit A x).name ++ 95 ∷ 111 ∷ [])
    (ap (λ s. (resource A s).name) (sym own.1) ∙ arch.names.outs x own.0)
    (plain_append (unit A x).name (95 ∷ 111 ∷ []) (unit_plain A arch x own.0) refl)

plain_by : (A : Arch) → IsArch A → (r : ℕ) → r < length A.resources → (kind : Kind) → (resource A r).kind ≡ kind → IsPlain (resource A r).name
plain_by A arch r l Wire is = plain_of longest_name (resource A r).name (arch.names.wires r l is)
plain_by A arch r l Register is = plain_of longest_name (resource A r).name (arch.names.registers r l is)
plain_by A arch r l Port is = port_plain A arch r is
plain_by A arch r l Out is = out_plain A arch r is

pub resource_plain : (A : Arch) → IsArch A → (r : ℕ) → r < length A.resources → IsPlain (resource A r).name
resource_plain A arch r l = plain_by A arch r l (resource A r).kind refl

pub is_driven : (A : Arch) → IsArch A → (r : ℕ) → r < length A.resources → IsDriven A (resource A r)
is_driven A arch r l =
    let some = links_of A.resources r (record { name = []; kind = Wire; drivers = [] }) l in
    let all = arch.small.links in
    record {
      few = omega (arith, some, all);
      known = λ k h. arch.known (slice_index (resource A r).drivers k) r (k, h, get_or_default (resource A r).drivers k (slice_index (resource A r).drivers k) 0 h);
    }

pub is_placed : (A : Arch) → IsArch A → (x : ℕ) → x < length A.units → IsPlaced A (unit A x)
is_placed A arch x l = record {
  few = arch.few_ports x l;
  known = λ k h. arch.ports_known x k l h;
  out = there A (unit A x).out Out (arch.outs x l) (λ e. (cc));
}

-- ---- the same for an item that a loop comes to

pub driven_item : (A : Arch) → IsArch A → (rs : List Resource) (r : ℕ) (x : Resource) → x ≡ get_or rs r x → rs ≡ A.resources → r < length rs → IsDriven A x
driven_item A arch rs r x is same l =
    let all : length rs ≡ length A.resources = ap length same in
    let own : r < length A.resources = omega (arith, all) in
    let P : Resource → Type 0 = λ q. IsDriven A q in
    subst P (sym (item_at rs A.resources r x (record { name = []; kind = Wire; drivers = [] }) is same l)) (is_driven A arch r own)

pub placed_item : (A : Arch) → IsArch A → (us : List Unit) (x : ℕ) (u : Unit) → u ≡ get_or us x u → us ≡ A.units → x < length us → IsPlaced A u
placed_item A arch us x u is same l =
    let all : length us ≡ length A.units = ap length same in
    let own : x < length A.units = omega (arith, all) in
    let P : Unit → Type 0 = λ v. IsPlaced A v in
    subst P (sym (item_at us A.units x u (record { name = []; ops = []; latency = 1; ports = []; out = 0 }) is same l)) (is_placed A arch x own)
