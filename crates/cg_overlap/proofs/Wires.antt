-- The words on resources: what a link brings in its delay, and what a unit gives after its latency.
use Rattle.std.proofs.Common.{sym, ◌≡◌, ℕ, zero, suc, ◌+◌, ◌-◌, ◌%◌, ◌<◌, List, length, Option, Some, None, refl, ap, ◌∙◌, subst, arith, Contains}
use Rattle.std.specs.Prelude.{slice_get, slice_index_or}
use Rattle.std.proofs.Common.{⊎_elim, []}
use Rattle.std.proofs.lemmas.Bool.{cases_lt}
use Rattle.std.proofs.lemmas.List.{get_or_past}
use Rattle.std.proofs.lemmas.Option.{slice_get_within, get_or_from_slice_get}
use Rattle.cg_model.specs.Work.{Image}
use Rattle.cg_model.specs.declared.array.Kind.{Kind}
use Rattle.cg_model.specs.declared.array.Kind.TheVariants.{Wire, Register, Port, Out}
use Rattle.cg_model.specs.Array.{Arch, IsArch, resource, unit, owner, delay, delay_by}
use Rattle.cg_model.specs.Config.{Config, select}
use Rattle.cg_model.specs.Machine.{Cycle, ago, driver, driven, by_kind, word_by, at_cycle, word, result}
use Rattle.cg_model.proofs.Lookups.{Contains-nil}

Contains-get : (xs : List ℕ) (k x : ℕ) → slice_get xs k ≡ Some x → Contains xs x
Contains-get xs k x e = (k, slice_get_within xs k x e, get_or_from_slice_get xs k x x e)

-- what has drivers is a resource
pub driven_within : (A : Arch) (q r : ℕ) → Contains (resource A r).drivers q → r < length A.resources
driven_within A q r m =
    ⊎_elim (λ l. l) (λ l. let e : resource A r ≡ record { name = []; kind = Wire; drivers = [] } = get_or_past A.resources r (record { name = []; kind = Wire; drivers = [] }) l in absurd (Contains-nil q (subst (λ z. Contains z.drivers q) e m)))
    (cases_lt r (length A.resources))

pub out_within : (A : Arch) (r : ℕ) → (resource A r).kind ≡ Out → r < length A.resources
out_within A r e =
    ⊎_elim (λ l. l) (λ l. let f : resource A r ≡ record { name = []; kind = Wire; drivers = [] } = get_or_past A.resources r (record { name = []; kind = Wire; drivers = [] }) l in let g : Wire ≡ Out = sym (ap (λ z. z.kind) f) ∙ e in absurd (cc))
    (cases_lt r (length A.resources))

pub Contains-driver : (ds : List ℕ) (select q : ℕ) → driver ds select ≡ Some q → Contains ds q
Contains-driver ds zero q e = absurd (cc)
Contains-driver ds (suc j) q e = Contains-get ds j q e

same_by_kind : (k : Kind) (a b before given : ℕ) → (delay_by k ≡ 0 → a ≡ b) → by_kind k a before given ≡ by_kind k b before given
same_by_kind Wire a b before given h = h refl
same_by_kind Port a b before given h = h refl
same_by_kind Register a b before given h = refl
same_by_kind Out a b before given h = refl

pub same_driven : (a b : ℕ → ℕ) (o : Option ℕ) → ((q : ℕ) → o ≡ Some q → a q ≡ b q) → driven a o ≡ driven b o
same_driven a b None h = refl
same_driven a b (Some q) h = h q refl

-- more fuel changes nothing
enough : (A : Arch) (C : Config) (slot : ℕ) (past : List Cycle) (is : IsArch A) (f g r : ℕ) → is.level r < f → is.level r < g → word_by A C slot past f r ≡ word_by A C slot past g r
unfolding word_by
enough A C slot past is zero g r hf hg = absurd (omega arith)
enough A C slot past is (suc f) zero r hf hg = absurd (omega arith)
enough A C slot past is (suc f) (suc g) r hf hg =
    same_by_kind (resource A r).kind _ _ _ _
    (λ d. same_driven (word_by A C slot past f) (word_by A C slot past g) (driver (resource A r).drivers (select C r slot))
    (λ q e. let up : is.level q < is.level r = is.rising q r (Contains-driver (resource A r).drivers (select C r slot) q e) d in
    enough A C slot past is f g q (omega arith) (omega arith)))

module _ (A : Arch) (C : Config) (n : ℕ) (image : Image) (is : IsArch A) where
  -- one step of the evaluation, with the fuel as before
  pub unrolled : (slot : ℕ) (past : List Cycle) (r : ℕ) → r < length A.resources →
      word_by A C slot past (length A.resources) r ≡
      by_kind (resource A r).kind
      (driven (word_by A C slot past (length A.resources)) (driver (resource A r).drivers (select C r slot)))
      (driven (ago past 1).words (driver (resource A r).drivers (select C r slot)))
      ((ago past (unit A (owner A r)).latency).results (owner A r))
  unfolding word_by
  unrolled slot past r l =
      enough A C slot past is (length A.resources) (suc (length A.resources)) r (is.levels r l) (let h = is.levels r l in omega arith)

  -- the cycles that are over
  pub past_at : (d c : ℕ) → slice_index_or (at_cycle A C n image (suc (d + c))).past d (record { words = λ r. 0; results = λ x. 0 }) ≡ record { words = λ r. word A C n image r c; results = λ x. result A C n image x c }
  unfolding at_cycle
  past_at zero c = let e : zero + c ≡ c = omega arith in rw e refl
  past_at (suc d) c = let e : suc d + c ≡ suc (d + c) = omega arith in rw e (past_at d c)

  -- a value goes along a link
  along : (k : Kind) (q r c : ℕ) → r < length A.resources → (resource A r).kind ≡ k → driver (resource A r).drivers (select C r (c % C.ii)) ≡ Some q →
      word A C n image r c ≡ by_kind k (word A C n image q c) ((ago (at_cycle A C n image c).past 1).words q) ((ago (at_cycle A C n image c).past (unit A (owner A r)).latency).results (owner A r))
  along k q r c l e h = rw (← e) (unrolled (c % C.ii) (at_cycle A C n image c).past r l ∙ rw h refl)

  hop_by : (k : Kind) (q r c : ℕ) → (resource A r).kind ≡ k → Contains (resource A r).drivers q → driver (resource A r).drivers (select C r ((delay_by k + c) % C.ii)) ≡ Some q → word A C n image r (delay_by k + c) ≡ word A C n image q c
  hop_by Wire q r c e m h = let z : 0 + c ≡ c = omega arith in rw z (along Wire q r c (driven_within A q r m) e (rw z at h))
  hop_by Port q r c e m h = let z : 0 + c ≡ c = omega arith in rw z (along Port q r c (driven_within A q r m) e (rw z at h))
  hop_by Register q r c e m h =
      let z : 1 + c ≡ suc (0 + c) = omega arith in
      rw z (along Register q r (suc (0 + c)) (driven_within A q r m) e (rw z at h) ∙ ap (λ p. p.words q) (past_at 0 c))
  hop_by Out q r c e m h = absurd (Contains-nil q (subst (λ l. Contains l q) (is.undriven r e) m))

  pub hop : (q r c : ℕ) → Contains (resource A r).drivers q → driver (resource A r).drivers (select C r ((delay A r + c) % C.ii)) ≡ Some q → word A C n image r (delay A r + c) ≡ word A C n image q c
  hop q r c m h = hop_by (resource A r).kind q r c refl m h

  -- what a unit gives
  given_by : (lat x c : ℕ) → x < length A.units → 0 < lat → (unit A x).latency ≡ lat → word A C n image (unit A x).out (c + lat) ≡ result A C n image x c
  given_by zero x c l p e = absurd (omega arith)
  given_by (suc d) x c l p e =
      let z : c + suc d ≡ suc (d + c) = omega arith in
      let y : suc d - 1 ≡ d = omega arith in
      let past = (at_cycle A C n image (suc (d + c))).past in
      let one : word A C n image (unit A x).out (suc (d + c)) ≡ (ago past (unit A (owner A (unit A x).out)).latency).results (owner A (unit A x).out) =
      rw (is.outs x l) at (unrolled (suc (d + c) % C.ii) past (unit A x).out (out_within A (unit A x).out (is.outs x l))) in
      let two : (ago past (unit A (owner A (unit A x).out)).latency).results (owner A (unit A x).out) ≡ (ago past (suc d)).results x =
      rw (is.owners x l, e) refl in
      rw z (one ∙ two ∙ rw y (ap (λ p. p.results x) (past_at d c)))

  pub given : (x c : ℕ) → x < length A.units → word A C n image (unit A x).out (c + (unit A x).latency) ≡ result A C n image x c
  given x c l = given_by (unit A x).latency x c l (is.latencies x l).0 refl
