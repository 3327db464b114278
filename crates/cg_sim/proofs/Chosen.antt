-- What the entries of a plan read.
use Rattle.std.proofs.Common.{◌≡◌, ℕ, zero, suc, ◌+◌, ◌-◌, ◌<◌, ◌≤◌, Bool, true, List, [], ◌∷◌, length, refl, sym, ap, ◌∙◌, subst, arith, ⊎_elim}
use Rattle.std.specs.Prelude.{slice_index, slice_index_or, slice_get}
use Rattle.std.proofs.lemmas.Bool.{cases_lt, true≢false}
use Rattle.std.proofs.lemmas.List.{get_or_past, get_or_default, get_or-map, length-map}
use Rattle.std.proofs.lemmas.Option.{slice_get-get_or, slice_get_past}
use Rattle.cg_model.specs.declared.array.Kind.{Kind}
use Rattle.cg_model.specs.declared.array.Kind.TheVariants.{Wire, Register, Port, Out}
use Rattle.cg_model.specs.Array.{Arch, IsArch, resource, unit}
use Rattle.cg_model.specs.Config.{Config, select}
use Rattle.cg_model.specs.Canonical.{IsCanonical}
use Rattle.cg_model.specs.Machine.{driver, driven}
use Rattle.cg_overlap.proofs.Wires.{out_within}
use Rattle.cg_sim.specs.declared.plan.Link.{Link}
use Rattle.cg_sim.specs.declared.plan.Links.{Links}
use Rattle.cg_datapath.specs.declared.terminals.Terminals.{Terminals}
use Rattle.cg_sim.specs.declared.plan.Plan.{Plan}
use Rattle.cg_sim.specs.Plan.{link, is_register, is_net, IsLinked, AreLinks, IsPlan, AreTerminals, terminals_of}
use Rattle.cg_sim.specs.Settle.{AreReadable, CanSettle}
use Rattle.cg_datapath.specs.Terminals.{terminals, on_ports}
use Rattle.cg_datapath.specs.Course.{AreShort}

pub register_is : (k : Kind) → is_register k ≡ true → k ≡ Register
register_is Wire h = absurd (true≢false (sym h))
register_is Port h = absurd (true≢false (sym h))
register_is Register h = refl
register_is Out h = absurd (true≢false (sym h))

module _ (A : Arch) (drivers : List ℕ) (l : Link) (is : IsLinked A drivers l) where
  -- the word of what a select stands for
  pub chosen_word : (w : ℕ → ℕ) → w (length A.resources) ≡ 0 → (sel : ℕ) → sel ≤ length (resource A l.resource).drivers →
      w (slice_index drivers (l.first + sel)) ≡ driven w (driver (resource A l.resource).drivers sel)
  chosen_word w none zero h =
      let e : l.first + 0 ≡ l.first = omega arith in
      ap (λ k. w (slice_index drivers k)) e ∙ ap w is.none ∙ none
  chosen_word w none (suc k) h =
      let inside : k < length (resource A l.resource).drivers = omega arith in
      ap w (is.each k inside) ∙ sym (ap (driven w) (slice_get-get_or (resource A l.resource).drivers k 0 inside))

  -- which is a resource, or the number past the last one
  pub chosen_below : IsArch A → (sel : ℕ) → sel ≤ length (resource A l.resource).drivers → slice_index drivers (l.first + sel) < length A.resources + 1
  chosen_below valid zero h =
      let e : l.first + 0 ≡ l.first = omega arith in
      let n = ap (slice_index drivers) e ∙ is.none in
      omega (arith, n)
  chosen_below valid (suc k) h =
      let ds = (resource A l.resource).drivers in
      let inside : k < length ds = omega arith in
      let q = slice_index ds k in
      let known : q < length A.resources = valid.known q l.resource (k, inside, get_or_default ds k q 0 inside) in
      let e = is.each k inside in
      omega (arith, e, known)

module _ (A : Arch) (us : List Terminals) (is : AreTerminals A.units (length A.resources) us) where
  -- the terminals of unit x
  pub terminal_at : (x : ℕ) → x < length A.units → terminals us x ≡ terminals_of (length A.resources) (unit A x)
  terminal_at x l =
      ap (λ (ts : List Terminals). terminals ts x) is
      ∙ get_or-map (terminals_of (length A.resources)) A.units x (record { name = []; ops = []; latency = 1; ports = []; out = 0 }) (record { ports = []; out = 0; latency = 0 }) l

  pub units_long : length us ≡ length A.units
  units_long = ap length is ∙ length-map A.units (terminals_of (length A.resources))

  pub are_short : IsArch A → AreShort us
  are_short valid x h =
      let long = units_long in
      let l : x < length A.units = omega arith in
      let e = ap (λ (t : Terminals). t.latency) (terminal_at x l) in
      let b = (valid.latencies x l).1 in
      omega (arith, e, b)

  pub outs_known : IsArch A → (x : ℕ) → x < length us → (terminals us x).out < length A.resources + 1
  outs_known valid x h =
      let long = units_long in
      let l : x < length A.units = omega arith in
      let e = ap (λ (t : Terminals). t.out) (terminal_at x l) in
      let b = out_within A (unit A x).out (valid.outs x l) in
      omega (arith, e, b)

module _ (A : Arch) (C : Config) (valid : IsArch A) (good : IsCanonical A C) (p : Plan) (is : IsPlan A p) (slot : ℕ) (ls : slot < C.ii) where
  can_read : (kinds : Kind → Bool) (l : Links) → AreLinks A kinds l.entries.items l.drivers.items → AreReadable C slot l (length A.resources + 1)
  can_read kinds l links j h =
      let linked = links.linked j h in
      let r = (link l.entries.items j).resource in
      let few = good.selects r slot linked.known ls in
      let long = (good.rows slot ls).0 in
      let known = linked.known in
      let within = linked.within in
      record {
        has = (ls, omega arith);
        within = omega arith;
        driver = chosen_below A l.drivers.items (link l.entries.items j) linked valid (select C r slot) few;
        resource = omega arith;
      }

  pub can_settle : CanSettle C slot p (length A.resources + 1)
  can_settle = record { registers = can_read is_register p.registers is.registers; nets = can_read is_net p.nets is.nets }

-- ---- ports

padded_port : (ps : List ℕ) (none p : ℕ) → length ps ≤ 3 →
    slice_index_or (slice_index_or ps 0 none ∷ slice_index_or ps 1 none ∷ slice_index_or ps 2 none ∷ []) p none ≡ slice_index_or ps p none
padded_port ps none zero h = refl
padded_port ps none (suc zero) h = refl
padded_port ps none (suc (suc zero)) h = refl
padded_port ps none (suc (suc (suc p))) h = sym (get_or_past ps (suc (suc (suc p))) none (omega arith))

driven_port : (words ps : List ℕ) (none p : ℕ) → slice_index words none ≡ 0 → slice_index words (slice_index_or ps p none) ≡ driven (slice_index words) (slice_get ps p)
driven_port words ps none p e =
    ⊎_elim
    (λ l. sym (ap (driven (slice_index words)) (slice_get-get_or ps p none l)))
    (λ l. ap (slice_index words) (get_or_past ps p none l) ∙ e ∙ sym (ap (driven (slice_index words)) (slice_get_past ps p l)))
    (cases_lt p (length ps))

module _ (A : Arch) (valid : IsArch A) (us : List Terminals) (is : AreTerminals A.units (length A.resources) us) (words : List ℕ) (long : length words ≡ length A.resources + 1) (x : ℕ) (l : x < length A.units) where
  -- the words on a unit's ports
  pub ports_right : slice_index words (length A.resources) ≡ 0 → (q : ℕ) → on_ports (terminals us x).ports words q ≡ driven (slice_index words) (slice_get (unit A x).ports q)
  ports_right e q =
      let R = length A.resources in
      let last : length words - 1 ≡ R = omega arith in
      let ps = ap (λ (t : Terminals). t.ports) (terminal_at A us is x l) in
      ap (λ (k : ℕ). slice_index words (slice_index_or (terminals us x).ports q k)) last
      ∙ ap (λ (ts : List ℕ). slice_index words (slice_index_or ts q R)) ps
      ∙ ap (slice_index words) (padded_port (unit A x).ports R q (valid.few_ports x l))
      ∙ driven_port words (unit A x).ports R q e

  port_known : (q : ℕ) → slice_index_or (unit A x).ports q (length A.resources) < length words
  port_known q =
      ⊎_elim
      (λ h. let k = valid.ports_known x q l h in let e = get_or_default (unit A x).ports q (length A.resources) 0 h in omega (arith, k, e))
      (λ h. let e = get_or_past (unit A x).ports q (length A.resources) h in omega (arith, e))
      (cases_lt q (length (unit A x).ports))

  padded_known : (k : ℕ) → k < 3 → slice_index (terminals_of (length A.resources) (unit A x)).ports k < length words
  padded_known zero b = port_known 0
  padded_known (suc zero) b = port_known 1
  padded_known (suc (suc zero)) b = port_known 2
  padded_known (suc (suc (suc k))) b = absurd (omega arith)

  pub ports_known : (q : ℕ) → q < 3 → slice_index (terminals us x).ports q < length words
  ports_known q h =
      let ps = ap (λ (t : Terminals). t.ports) (terminal_at A us is x l) in
      subst (λ (ts : List ℕ). slice_index ts q < length words) (sym ps) (padded_known q h)
